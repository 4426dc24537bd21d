-- Orders of turns, by the clocks to which they bring the cores.
use Rattle.std.proofs.Common.{◌≡◌, ◌≢◌, ℕ, zero, suc, ◌+◌, ◌<◌, ◌≤◌, Bool, true, false, List, [], ◌∷◌, ◌++◌, length, set, max, replicate, inl, inr, refl, sym, ap, ◌∙◌, subst, arith}
use Rattle.std.specs.Prelude.{filter, flat_map, slice_index, ◌==◌, nat_le, nat_lt, if◌then◌else◌}
use Rattle.std.specs.List.{range_with_len}
use Rattle.std.proofs.lemmas.Bool.Decides.{eqb_tells, nat_tests}
use Rattle.std.proofs.lemmas.List.{get_or-set_same, get_or-set_other, length-set}
use Rattle.mcs_system.specs.System.{System, delay_between, TakesTime}
use Rattle.mcs_stretch.specs.ByScripts.{clocks_after}

-- the clocks with that of core c at a value
put : (ℕ → ℕ) → ℕ → ℕ → ℕ → ℕ
put f c v b = if b == c then v else f b

put-own : (f : ℕ → ℕ) (c v : ℕ) → put f c v c ≡ v
unfolding put
put-own f c v = by (c == c) refl
  where
    by : (u : Bool) → (c == c) ≡ u → (if u then v else f c) ≡ v
    by true e = refl
    by false e = absurd (let g : c ≢ c = grind (arith, nat_tests) in g refl)

put-other : (f : ℕ → ℕ) (c v b : ℕ) → b ≢ c → put f c v b ≡ f b
unfolding put
put-other f c v b other = by (b == c) refl
  where
    by : (u : Bool) → (b == c) ≡ u → (if u then v else f b) ≡ f b
    by true e = absurd (let g : b ≡ c = grind (arith, nat_tests) in other g)
    by false e = refl

module _ (system : System) (horizon : ℕ) (R : ℕ → ℕ → Type 0) where
  -- core c may take its turn, if the cores that may signal it are those of the relation
  pub record MayBy (clocks : List ℕ) (c : ℕ) : Type 0 where
    pub known : c < system.cores
    pub in_time : slice_index clocks c ≤ horizon
    pub safe : (b : ℕ) → b < system.cores → b ≢ c → R b c → slice_index clocks c < slice_index clocks b + delay_between system b c

  abbrev pub IsSafeBy : List ℕ → List ℕ → Type 0
  IsSafeBy clocks [] = Unit {0}
  IsSafeBy clocks (c ∷ cs) = MayBy clocks c × IsSafeBy (set clocks c (suc (slice_index clocks c))) cs

  pub safe-append : (clocks xs ys : List ℕ) → IsSafeBy clocks xs → IsSafeBy (clocks_after clocks xs) ys → IsSafeBy clocks (xs ++ ys)
  safe-append clocks [] ys p q = q
  safe-append clocks (c ∷ xs) ys p q = (p.0, safe-append (set clocks c (suc (slice_index clocks c))) xs ys p.1 q)

  pub after-append : (clocks xs ys : List ℕ) → clocks_after clocks (xs ++ ys) ≡ clocks_after (clocks_after clocks xs) ys
  after-append clocks [] ys = refl
  after-append clocks (c ∷ xs) ys = after-append (set clocks c (suc (slice_index clocks c))) xs ys

  -- the list has these clocks
  pub record Shows (clocks : List ℕ) (f : ℕ → ℕ) : Type 0 where
    pub many : system.cores ≤ length clocks
    pub each : (b : ℕ) → b < system.cores → slice_index clocks b ≡ f b

  -- from these clocks on the turns are safe, and they lead to those
  abbrev pub Leads : (ℕ → ℕ) → List ℕ → (ℕ → ℕ) → Type 0
  Leads f cs g = (clocks : List ℕ) → Shows clocks f → IsSafeBy clocks cs × Shows (clocks_after clocks cs) g

  pub leads-none : (f g : ℕ → ℕ) → ((b : ℕ) → b < system.cores → f b ≡ g b) → Leads f [] g
  leads-none f g same clocks shows = (tt, record { many = shows.many; each = λ b l. shows.each b l ∙ same b l })

  pub leads-append : (f g h : ℕ → ℕ) (xs ys : List ℕ) → Leads f xs g → Leads g ys h → Leads f (xs ++ ys) h
  leads-append f g h xs ys p q clocks shows =
      let a = p clocks shows in
      let b = q (clocks_after clocks xs) a.1 in
      (safe-append clocks xs ys a.0 b.0, subst (λ cs. Shows cs h) (sym (after-append clocks xs ys)) b.1)

  pub leads-same : (f f' g g' : ℕ → ℕ) (cs : List ℕ) → ((b : ℕ) → b < system.cores → f b ≡ f' b) → ((b : ℕ) → b < system.cores → g b ≡ g' b) → Leads f cs g → Leads f' cs g'
  leads-same f f' g g' cs before after p clocks shows =
      let a = p clocks (record { many = shows.many; each = λ b l. shows.each b l ∙ sym (before b l) }) in
      (a.0, record { many = a.1.many; each = λ b l. a.1.each b l ∙ after b l })

  -- one turn
  pub leads-turn : (f g : ℕ → ℕ) (c : ℕ) → c < system.cores → f c ≤ horizon → ((b : ℕ) → b < system.cores → b ≢ c → R b c → f c < f b + delay_between system b c) →
      g c ≡ suc (f c) → ((b : ℕ) → b < system.cores → b ≢ c → g b ≡ f b) → Leads f (c ∷ []) g
  leads-turn f g c known in_time safe own others clocks shows = (
    (
      record {
        known = known;
        in_time = (let e = shows.each c known in omega arith);
        safe = λ b l other r. let e = shows.each b l in let k = shows.each c known in let s = safe b l other r in omega arith;
      },
      tt,
    ),
    record {
      many = (let m = shows.many in let e = length-set clocks c (suc (slice_index clocks c)) in omega arith);
      each = λ b l. elim (eqb_tells b c) [
        | inl e ↦ ap (slice_index (set clocks c (suc (slice_index clocks c)))) e.1
            ∙ get_or-set_same clocks c (suc (slice_index clocks c)) 0 (let m = shows.many in omega arith)
            ∙ ap suc (shows.each c known) ∙ sym own ∙ ap g (sym e.1)
        | inr e ↦ get_or-set_other clocks c b (suc (slice_index clocks c)) 0 e.1 ∙ shows.each b l ∙ sym (others b l e.1)
      ];
    },
  )

  -- the turns of a core up to before a moment
  pub leads-stretch : (n : ℕ) (f g : ℕ → ℕ) (c past : ℕ) → c < system.cores → f c + n ≡ past → past ≤ horizon + 1 →
      ((b : ℕ) → b < system.cores → b ≢ c → R b c → past ≤ f b + delay_between system b c) → g c ≡ past → ((b : ℕ) → b < system.cores → b ≢ c → g b ≡ f b) → Leads f (replicate n c) g
  leads-stretch zero f g c past known is in_time safe own others =
      leads-none f g (λ b l. elim (eqb_tells b c) [
        | inl e ↦ ap f e.1 ∙ (let h : f c ≡ g c = omega (arith, own, is) in h) ∙ ap g (sym e.1)
        | inr e ↦ sym (others b l e.1)
      ])
  leads-stretch (suc n) f g c past known is in_time safe own others =
      leads-append f mid g (c ∷ []) (replicate n c)
      (leads-turn f mid c known (omega arith) (λ b l other r. let s = safe b l other r in omega arith) mid-own (λ b l other. put-other f c (suc (f c)) b other))
      (leads-stretch n mid g c past known (omega (arith, mid-own, is)) in_time
      (λ b l other r. let s = safe b l other r in let e = put-other f c (suc (f c)) b other in omega (arith, s, e)) own
      (λ b l other. others b l other ∙ sym (put-other f c (suc (f c)) b other)))
    where
      mid : ℕ → ℕ
      mid = put f c (suc (f c))

      mid-own : put f c (suc (f c)) c ≡ suc (f c)
      mid-own = put-own f c (suc (f c))

  -- idle time, by moment, then core
  module _ (takes_time : TakesTime system) (f : ℕ → ℕ) where
    -- the cores below number c have taken their turn at t, and those from it on have not
    mid : ℕ → ℕ → ℕ → ℕ
    mid t c b = if nat_lt b c then max (f b) (suc t) else max (f b) t

    mid-below : (t c b : ℕ) → b < c → mid t c b ≡ max (f b) (suc t)
    unfolding mid
    mid-below t c b l = by (nat_lt b c) refl
      where
        by : (u : Bool) → nat_lt b c ≡ u → (if u then max (f b) (suc t) else max (f b) t) ≡ max (f b) (suc t)
        by true e = refl
        by false e = absurd (let g : c ≤ b = grind (arith, nat_tests) in omega arith)

    mid-from : (t c b : ℕ) → c ≤ b → mid t c b ≡ max (f b) t
    unfolding mid
    mid-from t c b l = by (nat_lt b c) refl
      where
        by : (u : Bool) → nat_lt b c ≡ u → (if u then max (f b) (suc t) else max (f b) t) ≡ max (f b) t
        by true e = absurd (let g : b < c = grind (arith, nat_tests) in omega arith)
        by false e = refl

    abbrev pub turned : ℕ → ℕ → ℕ → List ℕ
    turned t c n = filter (λ b. nat_le (f b) t) (range_with_len c n)

    leads-row : (t n c : ℕ) → c + n ≡ system.cores → t ≤ horizon → Leads (mid t c) (turned t c n) (mid t system.cores)
    leads-row t zero c is in_time = leads-none (mid t c) (mid t system.cores) (λ b l. ap (λ d. mid t d b) (let e : c ≡ system.cores = omega arith in e))
    leads-row t (suc n) c is in_time = by (nat_le (f c) t) refl (leads-row t n (c + 1) (omega arith) in_time)
      where
        apart : (b : ℕ) → b ≢ c → mid t (c + 1) b ≡ mid t c b
        apart b other = side (nat_lt b c) refl
          where
            side : (u : Bool) → nat_lt b c ≡ u → mid t (c + 1) b ≡ mid t c b
            side true e = let l : b < c = grind (arith, nat_tests) in mid-below t (c + 1) b (omega arith) ∙ sym (mid-below t c b l)
            side false e = let l : c ≤ b = grind (arith, nat_tests) in mid-from t (c + 1) b (omega arith) ∙ sym (mid-from t c b l)

        own : mid t c c ≡ max (f c) t
        own = mid-from t c c (omega arith)

        own_next : mid t (c + 1) c ≡ max (f c) (suc t)
        own_next = mid-below t (c + 1) c (omega arith)

        no_less : (b : ℕ) → t ≤ mid t c b
        no_less b = side (nat_lt b c) refl
          where
            side : (u : Bool) → nat_lt b c ≡ u → t ≤ mid t c b
            side true e = let l : b < c = grind (arith, nat_tests) in let v = mid-below t c b l in omega arith
            side false e = let l : c ≤ b = grind (arith, nat_tests) in let v = mid-from t c b l in omega arith

        by : (u : Bool) → nat_le (f c) t ≡ u → Leads (mid t (c + 1)) (turned t (c + 1) n) (mid t system.cores) → Leads (mid t c) (turned t c (suc n)) (mid t system.cores)
        by true e rest =
            let early : f c ≤ t = grind (arith, nat_tests) in
            let one : turned t c (suc n) ≡ c ∷ turned t (c + 1) n = rw e refl in
            subst (λ cs. Leads (mid t c) cs (mid t system.cores)) (sym one)
            (leads-append (mid t c) (mid t (c + 1)) (mid t system.cores) (c ∷ []) (turned t (c + 1) n)
            (leads-turn (mid t c) (mid t (c + 1)) c (omega arith) (omega (arith, own)) (λ b l other r. let d = takes_time b c in let k = no_less b in omega (arith, own, early))
            (omega (arith, own, own_next)) (λ b l other. apart b other))
            rest)
        by false e rest =
            let late : t < f c = grind (arith, nat_tests) in
            let none : turned t c (suc n) ≡ turned t (c + 1) n = rw e refl in
            subst (λ cs. Leads (mid t c) cs (mid t system.cores)) (sym none)
            (leads-same (mid t (c + 1)) (mid t c) (mid t system.cores) (mid t system.cores) (turned t (c + 1) n)
            (λ b l. elim (eqb_tells b c) [
              | inl p ↦ ap (mid t (c + 1)) p.1 ∙ (let h : mid t (c + 1) c ≡ mid t c c = omega (arith, own, own_next) in h) ∙ ap (mid t c) (sym p.1)
              | inr p ↦ apart b p.1
            ]) (λ b l. refl) rest)

    leads-rows : (n t : ℕ) → t + n ≤ horizon + 1 → Leads (λ b. max (f b) t) (flat_map (λ u. turned u 0 system.cores) (range_with_len t n)) (λ b. max (f b) (t + n))
    leads-rows zero t l = leads-none (λ b. max (f b) t) (λ b. max (f b) (t + 0)) (λ b k. omega arith)
    leads-rows (suc n) t l =
        leads-append (λ b. max (f b) t) (λ b. max (f b) (t + 1)) (λ b. max (f b) (t + suc n)) (turned t 0 system.cores) (flat_map (λ u. turned u 0 system.cores) (range_with_len (t + 1) n))
        (leads-same (mid t 0) (λ b. max (f b) t) (mid t system.cores) (λ b. max (f b) (t + 1)) (turned t 0 system.cores)
        (λ b k. mid-from t 0 b (omega arith)) (λ b k. mid-below t system.cores b k ∙ (let e : max (f b) (suc t) ≡ max (f b) (t + 1) = omega arith in e))
        (leads-row t system.cores 0 (omega arith) (omega arith)))
        (leads-same (λ b. max (f b) (t + 1)) (λ b. max (f b) (t + 1)) (λ b. max (f b) (t + 1 + n)) (λ b. max (f b) (t + suc n)) (flat_map (λ u. turned u 0 system.cores) (range_with_len (t + 1) n))
        (λ b k. refl) (λ b k. omega arith) (leads-rows n (t + 1) (omega arith)))

    pub leads-idle : (moment : ℕ) (g : ℕ → ℕ) → moment ≤ horizon + 1 → ((b : ℕ) → b < system.cores → g b ≡ max (f b) moment) → Leads f (flat_map (λ u. turned u 0 system.cores) (range_with_len 0 moment)) g
    leads-idle moment g in_time set =
        leads-same (λ b. max (f b) 0) f (λ b. max (f b) (0 + moment)) g (flat_map (λ u. turned u 0 system.cores) (range_with_len 0 moment))
        (λ b k. omega arith) (λ b k. let e = set b k in omega arith) (leads-rows moment 0 (omega arith))
