-- Which cores signal which, and the least sets of cores that have each maker of their cores.
use Rattle.std.proofs.Common.{◌≡◌, ◌≢◌, ℕ, zero, suc, ◌+◌, ◌<◌, ◌≤◌, ◌⊎◌, inl, inr, Bool, true, false, List, [], ◌∷◌, ◌++◌, length, get_or, set, replicate, refl, sym, ap, subst, ◌∙◌, Some, None, Option, arith}
use Rattle.std.specs.Prelude.{◌==◌, nat_lt}
use Rattle.std.specs.List.{slice_get}
use Rattle.std.proofs.lemmas.Bool.Decides.{nat_tests}
use Rattle.std.proofs.lemmas.List.{get_or-set_same, get_or-set_other, get_or-replicate, get_or_past, length-set, length-replicate, get_or_append_left, get_or_push, length_push}
use Rattle.mcs_script.specs.declared.item.Item.{Item}
use Rattle.mcs_script.specs.declared.item.Item.TheVariants.{Compute, Signal, Wait, Yield, On, Spin, Enter, Leave}
use Rattle.mcs_system.specs.System.{System, thread_part, note_part, core_of}
use Rattle.mcs_laws.specs.Links.{Signals}
use Rattle.mcs_ever.specs.Recurs.{IsClosed}
use Rattle.mcs_ever.specs.Closed.{has, IsLeastClosed}
use Rattle.mcs_ever.specs.stored.Makers.{is_maker, with_maker, home_signalled, AreMakersUntil, AreMakers, HasMakers, IsOutside, IsWithin, IsLeastFor}

no : {P : Type 0} → false ≡ true → P
no e = absurd (never e)
  where
    never : false ≡ true → ⊥
    never e = cc

differ : (a b : ℕ) → (a == b) ≡ false → a ≢ b
differ a b e f = grind (arith, nat_tests)

same : (a b : ℕ) → (a == b) ≡ true → a ≡ b
same a b e = grind (arith, nat_tests)

-- a set with no core
none-has : (n c : ℕ) → has (replicate n false) c ≡ false
none-has n c = by (nat_lt c n) refl
  where
    by : (b : Bool) → nat_lt c n ≡ b → has (replicate n false) c ≡ false
    by true e = get_or-replicate n c false false (grind (arith, nat_tests))
    by false e = get_or_past (replicate n false) c false (let l : n ≤ c = grind (arith, nat_tests) in let m : length (replicate n false) ≡ n = length-replicate n false in omega (arith, l, m))

-- and a set with one core more
pub set-has : (s : List Bool) (x : ℕ) → x < length s → has (set s x true) x ≡ true
set-has s x l = get_or-set_same s x true false l

pub set-keeps : (s : List Bool) (x c : ℕ) → x < length s → has s c ≡ true → has (set s x true) c ≡ true
set-keeps s x c l e = by (c == x) refl
  where
    by : (b : Bool) → (c == x) ≡ b → has (set s x true) c ≡ true
    by true f = let P : ℕ → Type 0 = λ c. has (set s x true) c ≡ true in subst P (sym (same c x f)) (set-has s x l)
    by false f = get_or-set_other s x c true false (differ c x f) ∙ e

pub set-adds : (s : List Bool) (x c : ℕ) → has (set s x true) c ≡ true → (c ≡ x) ⊎ (has s c ≡ true)
set-adds s x c e = by (c == x) refl
  where
    by : (b : Bool) → (c == x) ≡ b → (c ≡ x) ⊎ (has s c ≡ true)
    by true f = inl (same c x f)
    by false f = inr (sym (get_or-set_other s x c true false (differ c x f)) ∙ e)

-- how many cores a set has not
abbrev pub lacks : Bool → ℕ
lacks true = 0
lacks false = 1

abbrev pub missing_in : List Bool → ℕ
missing_in [] = 0
missing_in (b ∷ s) = lacks b + missing_in s

pub missing-fewer : (s : List Bool) (x : ℕ) → x < length s → has s x ≡ false → missing_in (set s x true) < missing_in s
missing-fewer [] x l e = absurd (omega (arith, l))
missing-fewer (b ∷ s) zero l e = let f : lacks b ≡ 1 = ap lacks e in omega (arith, f)
missing-fewer (b ∷ s) (suc x) l e = let less = missing-fewer s x (omega (arith, l)) e in omega (arith, less)

-- makers
module _ (makers : List (List Bool)) (home maker : ℕ) (known : home < length makers) (few : maker < length (get_or makers home [])) where
  abbrev more : List (List Bool)
  more = set makers home (set (get_or makers home []) maker true)

  abbrev row-here : Type 0
  row-here = get_or more home [] ≡ set (get_or makers home []) maker true

  here : get_or more home [] ≡ set (get_or makers home []) maker true
  here = get_or-set_same makers home (set (get_or makers home []) maker true) [] known

  there : (h : ℕ) → h ≢ home → get_or more h [] ≡ get_or makers h []
  there h ne = get_or-set_other makers home h (set (get_or makers home []) maker true) [] ne

  maker-added : is_maker more maker home ≡ true
  maker-added = ap (λ s. has s maker) here ∙ set-has (get_or makers home []) maker few

  maker-kept : (m h : ℕ) → is_maker makers m h ≡ true → is_maker more m h ≡ true
  maker-kept m h e = by (h == home) refl
    where
      by : (b : Bool) → (h == home) ≡ b → is_maker more m h ≡ true
      by true f =
          let P : ℕ → Type 0 = λ h. is_maker more m h ≡ true in
          let Q : ℕ → Type 0 = λ h. is_maker makers m h ≡ true in
          subst P (sym (same h home f)) (ap (λ s. has s m) here ∙ set-keeps (get_or makers home []) maker m few (subst Q (same h home f) e))
      by false f = ap (λ s. has s m) (there h (differ h home f)) ∙ e

  maker-is : (P : ℕ → ℕ → Type 0) → ((m h : ℕ) → is_maker makers m h ≡ true → P m h) → P maker home → (m h : ℕ) → is_maker more m h ≡ true → P m h
  maker-is P old new m h e = by (h == home) refl
    where
      by : (b : Bool) → (h == home) ≡ b → P m h
      by true f = subst (λ h. P m h) (sym (same h home f)) (own (set-adds (get_or makers home []) maker m (sym (ap (λ s. has s m) here) ∙ subst Q (same h home f) e)))
        where
          Q : ℕ → Type 0
          Q h = is_maker more m h ≡ true

          own : (m ≡ maker) ⊎ (is_maker makers m home ≡ true) → P m home
          own (inl g) = subst (λ m. P m home) (sym g) new
          own (inr g) = old m home g
      by false f = old m h (sym (ap (λ s. has s m) (there h (differ h home f))) ∙ e)

  sizes-kept : (h : ℕ) → length (get_or makers h []) ≡ 64 → length (get_or more h []) ≡ 64
  sizes-kept h e = by (h == home) refl
    where
      by : (b : Bool) → (h == home) ≡ b → length (get_or more h []) ≡ 64
      by true f =
          let P : ℕ → Type 0 = λ h. length (get_or more h []) ≡ 64 in
          let Q : ℕ → Type 0 = λ h. length (get_or makers h []) ≡ 64 in
          subst P (sym (same h home f)) (ap length here ∙ length-set (get_or makers home []) maker true ∙ subst Q (same h home f) e)
      by false f = ap length (there h (differ h home f)) ∙ e

module _ (system : System) where
  -- before the first script
  pub makers-none : (cores : ℕ) → system.cores ≡ cores → AreMakersUntil system 0 0 (replicate cores (replicate 64 false))
  makers-none cores e =
      record {
        many = length-replicate cores (replicate 64 false) ∙ sym e;
        sizes = λ home l. ap length (get_or-replicate cores home (replicate 64 false) [] (omega (arith, l, e))) ∙ length-replicate 64 false;
        signal = λ maker home f. no (sym (nobody maker home) ∙ f);
        all = λ thread place note badge known item early. absurd (by thread place early);
      }
    where
      by : (thread place : ℕ) → (thread < 0) ⊎ ((thread ≡ 0) × (place < 0)) → ⊥
      by thread place (inl l) = omega (arith, l)
      by thread place (inr p) = omega (arith, p.1)

      nobody : (maker home : ℕ) → is_maker (replicate cores (replicate 64 false)) maker home ≡ false
      nobody maker home = at (nat_lt home cores) refl
        where
          at : (b : Bool) → nat_lt home cores ≡ b → is_maker (replicate cores (replicate 64 false)) maker home ≡ false
          at true f = ap (λ s. has s maker) (get_or-replicate cores home (replicate 64 false) [] (grind (arith, nat_tests))) ∙ none-has 64 maker
          at false f =
              ap (λ s. has s maker)
              (get_or_past (replicate cores (replicate 64 false)) home []
              (let l : cores ≤ home = grind (arith, nat_tests) in let m : length (replicate cores (replicate 64 false)) ≡ cores = length-replicate cores (replicate 64 false) in omega (arith, l, m)))

  -- an item that signals nobody
  pub makers-same : (n i : ℕ) (makers : List (List Bool)) → ((note badge : ℕ) → slice_get (thread_part system n).script i ≢ Some (Signal note badge)) →
      AreMakersUntil system n i makers → AreMakersUntil system n (i + 1) makers
  makers-same n i makers silent h =
      record {
        many = h.many;
        sizes = h.sizes;
        signal = h.signal;
        all = λ thread place note badge known item early. h.all thread place note badge known item (by thread place note badge item early);
      }
    where
      by : (thread place note badge : ℕ) → slice_get (thread_part system thread).script place ≡ Some (Signal note badge) →
          (thread < n) ⊎ ((thread ≡ n) × (place < i + 1)) → (thread < n) ⊎ ((thread ≡ n) × (place < i))
      by thread place note badge item (inl l) = inl l
      by thread place note badge item (inr p) = at (place == i) refl
        where
          at : (b : Bool) → (place == i) ≡ b → (thread < n) ⊎ ((thread ≡ n) × (place < i))
          at true e =
              let P : ℕ → ℕ → Type 0 = λ x k. slice_get (thread_part system x).script k ≡ Some (Signal note badge) in
              absurd (silent note badge (subst (λ k. P n k) (same place i e) (subst (λ x. P x place) p.0 item)))
          at false e = let ne : place ≢ i = differ place i e in inr (p.0, omega (arith, p.1, ne))

  -- an item that signals
  pub makers-more : (n i note badge : ℕ) (makers : List (List Bool)) → n < length system.threads → slice_get (thread_part system n).script i ≡ Some (Signal note badge) →
      (note_part system note).core < system.cores → core_of system (thread_part system n) < 64 → AreMakersUntil system n i makers →
      AreMakersUntil system n (i + 1) (set makers (note_part system note).core (set (get_or makers (note_part system note).core []) (core_of system (thread_part system n)) true))
  makers-more n i note badge makers known item home_known few h =
      record {
        many = length-set makers home (set (get_or makers home []) maker true) ∙ h.many;
        sizes = λ x l. sizes-kept makers home maker within fits x (h.sizes x l);
        signal =
            maker-is makers home maker within fits (Signals system) h.signal
            (record { thread = n; place = i; note = note; badge = badge; known = known; maker = refl; item = item; home = refl });
        all = λ thread place x y is_known is_item early. by thread place x y is_known is_item early;
      }
    where
      home : ℕ
      home = (note_part system note).core

      maker : ℕ
      maker = core_of system (thread_part system n)

      within : home < length makers
      within = let e : length makers ≡ system.cores = h.many in omega (arith, e, home_known)

      fits : maker < length (get_or makers home [])
      fits = let e : length (get_or makers home []) ≡ 64 = h.sizes home home_known in omega (arith, e, few)

      changed : List (List Bool)
      changed = set makers home (set (get_or makers home []) maker true)

      by : (thread place x y : ℕ) → thread < length system.threads → slice_get (thread_part system thread).script place ≡ Some (Signal x y) →
          (thread < n) ⊎ ((thread ≡ n) × (place < i + 1)) → is_maker changed (core_of system (thread_part system thread)) (note_part system x).core ≡ true
      by thread place x y is_known is_item (inl l) = maker-kept makers home maker within fits _ _ (h.all thread place x y is_known is_item (inl l))
      by thread place x y is_known is_item (inr p) = at (place == i) refl
        where
          at : (b : Bool) → (place == i) ≡ b → is_maker changed (core_of system (thread_part system thread)) (note_part system x).core ≡ true
          at true e =
              let P : ℕ → ℕ → Type 0 = λ z k. slice_get (thread_part system z).script k ≡ Some (Signal x y) in
              let own : slice_get (thread_part system n).script i ≡ Some (Signal x y) = subst (λ k. P n k) (same place i e) (subst (λ z. P z place) p.0 is_item) in
              let note_is : note ≡ x = one (sym item ∙ own) in
              let Q : ℕ → ℕ → Type 0 = λ z k. is_maker changed (core_of system (thread_part system z)) (note_part system k).core ≡ true in
              subst (λ z. Q z x) (sym p.0) (subst (λ k. Q n k) note_is (maker-added makers home maker within fits))
            where
              one : Some (Signal note badge) ≡ Some (Signal x y) → note ≡ x
              one e = cc
          at false e =
              let ne : place ≢ i = differ place i e in
              maker-kept makers home maker within fits _ _ (h.all thread place x y is_known is_item (inr (p.0, omega (arith, p.1, ne))))

  -- so by what an item signals
  pub makers-item : (n i home maker : ℕ) (makers : List (List Bool)) → n < length system.threads → home_signalled system (slice_get (thread_part system n).script i) ≡ Some home →
      maker ≡ core_of system (thread_part system n) → home < system.cores → maker < 64 → AreMakersUntil system n i makers → AreMakersUntil system n (i + 1) (with_maker makers home maker)
  makers-item n i home maker makers known said own home_known few h = by (slice_get (thread_part system n).script i) refl said
    where
      no_home : None ≡ Some home → ⊥
      no_home e = cc

      by : (item : Option Item) → slice_get (thread_part system n).script i ≡ item → home_signalled system item ≡ Some home → AreMakersUntil system n (i + 1) (with_maker makers home maker)
      by (Some (Signal note badge)) item e =
          let home_is : (note_part system note).core ≡ home = one e in
          let P : ℕ → ℕ → Type 0 = λ home maker. AreMakersUntil system n (i + 1) (with_maker makers home maker) in
          let home_within : (note_part system note).core < system.cores = omega (arith, home_is, home_known) in
          let maker_within : core_of system (thread_part system n) < 64 = omega (arith, own, few) in
          subst (λ home. P home maker) home_is (subst (λ maker. P (note_part system note).core maker) (sym own) (makers-more n i note badge makers known item home_within maker_within h))
        where
          one : Some (note_part system note).core ≡ Some home → (note_part system note).core ≡ home
          one e = cc
      by (Some (Compute ticks)) item e = absurd (no_home e)
      by (Some (Wait note)) item e = absurd (no_home e)
      by (Some Yield) item e = absurd (no_home e)
      by (Some (On badges)) item e = absurd (no_home e)
      by (Some Spin) item e = absurd (no_home e)
      by (Some (Enter server priority)) item e = absurd (no_home e)
      by (Some (Leave server priority)) item e = absurd (no_home e)
      by None item e = absurd (no_home e)

  pub makers-silent : (n i : ℕ) (makers : List (List Bool)) → home_signalled system (slice_get (thread_part system n).script i) ≡ None →
      AreMakersUntil system n i makers → AreMakersUntil system n (i + 1) makers
  makers-silent n i makers said h = makers-same n i makers silent h
    where
      silent : (note badge : ℕ) → slice_get (thread_part system n).script i ≢ Some (Signal note badge)
      silent note badge e = some (sym (ap (home_signalled system) e) ∙ said)
        where
          some : Some (note_part system note).core ≡ None → ⊥
          some e = cc

  -- the next thread
  pub makers-next : (n i : ℕ) (makers : List (List Bool)) → length (thread_part system n).script ≤ i → AreMakersUntil system n i makers → AreMakersUntil system (n + 1) 0 makers
  makers-next n i makers whole h =
      record {
        many = h.many;
        sizes = h.sizes;
        signal = h.signal;
        all = λ thread place note badge known item early. h.all thread place note badge known item (by thread place note badge item early);
      }
    where
      inside : {A : Type 0} (xs : List A) (k : ℕ) (x : A) → slice_get xs k ≡ Some x → k < length xs
      inside [] k x e = absurd (never e)
        where
          never : None ≡ Some x → ⊥
          never e = cc
      inside (y ∷ xs) zero x e = omega arith
      inside (y ∷ xs) (suc k) x e = let l = inside xs k x e in omega (arith, l)

      by : (thread place note badge : ℕ) → slice_get (thread_part system thread).script place ≡ Some (Signal note badge) →
          (thread < n + 1) ⊎ ((thread ≡ n + 1) × (place < 0)) → (thread < n) ⊎ ((thread ≡ n) × (place < i))
      by thread place note badge item (inr p) = absurd (omega (arith, p.1))
      by thread place note badge item (inl l) = at (thread == n) refl
        where
          at : (b : Bool) → (thread == n) ≡ b → (thread < n) ⊎ ((thread ≡ n) × (place < i))
          at true e =
              let is : thread ≡ n = same thread n e in
              let few : place < length (thread_part system thread).script = inside (thread_part system thread).script place (Signal note badge) item in
              let f : length (thread_part system thread).script ≡ length (thread_part system n).script = ap (λ z. length (thread_part system z).script) is in
              inr (is, omega (arith, few, f, whole))
          at false e = let ne : thread ≢ n = differ thread n e in inl (omega (arith, l, ne))

-- the set with a core alone
pub within-first : (makers : List (List Bool)) (core : ℕ) → core < 64 → IsWithin makers core (set (replicate 64 false) core true)
within-first makers core few =
    record {
      many = length-set (replicate 64 false) core true ∙ length-replicate 64 false;
      own = set-has (replicate 64 false) core (let e : length (replicate 64 false) ≡ 64 = length-replicate 64 false in omega (arith, e, few));
      least = λ group closed own c e. by group own c (set-adds (replicate 64 false) core c e);
    }
  where
    by : (group : ℕ → Bool) → group core ≡ true → (c : ℕ) → (c ≡ core) ⊎ (has (replicate 64 false) c ≡ true) → group c ≡ true
    by group own c (inl e) = ap group e ∙ own
    by group own c (inr e) = no (sym (none-has 64 c) ∙ e)

-- and with a maker of one of its cores more
pub within-more : (makers : List (List Bool)) (core : ℕ) (s : List Bool) (maker : ℕ) → IsWithin makers core s → IsOutside makers s maker → IsWithin makers core (set s maker true)
within-more makers core s maker h out =
    record {
      many = length-set s maker true ∙ h.many;
      own = set-keeps s maker core fits h.own;
      least = λ group closed own c e. by group closed own c (set-adds s maker c e);
    }
  where
    fits : maker < length s
    fits = let e : length s ≡ 64 = h.many in let l : maker < 64 = out.few in omega (arith, e, l)

    by : (group : ℕ → Bool) → HasMakers makers group → group core ≡ true → (c : ℕ) → (c ≡ maker) ⊎ (has s c ≡ true) → group c ≡ true
    by group closed own c (inl e) = ap group e ∙ closed maker out.home out.signals (h.least group closed own out.home out.inside)
    by group closed own c (inr e) = h.least group closed own c e

pub outside-fewer : (makers : List (List Bool)) (core : ℕ) (s : List Bool) (maker : ℕ) → IsWithin makers core s → IsOutside makers s maker → missing_in (set s maker true) < missing_in s
outside-fewer makers core s maker h out =
    missing-fewer s maker (let e : length s ≡ 64 = h.many in let l : maker < 64 = out.few in omega (arith, e, l)) out.missing

-- so it is the least group that is closed
pub least-closed : (system : System) (makers : List (List Bool)) (core : ℕ) (s : List Bool) → AreMakers system makers → IsLeastFor makers core s → IsLeastClosed system core (has s)
least-closed system makers core s h is =
    record {
      own = is.within.own;
      closed = λ thread place note badge known item own. is.whole (core_of system (thread_part system thread)) (note_part system note).core (h.all thread place note badge known item (inl known)) own;
      least = λ group closed own c e. is.within.least group (has-makers group closed) own c e;
    }
  where
    has-makers : (group : ℕ → Bool) → IsClosed system group → HasMakers makers group
    has-makers group closed maker home e own = by (h.signal maker home e)
      where
        by : Signals system maker home → group maker ≡ true
        by said = sym (ap group said.maker) ∙ closed said.thread said.place said.note said.badge said.known said.item (ap group said.home ∙ own)

-- as many sets as there are so far
pub record AreLeastUntil (system : System) (n : ℕ) (sets : List (List Bool)) : Type 0 where
  pub many : length sets ≡ n
  pub each : (core : ℕ) → core < n → IsLeastClosed system core (has (get_or sets core []))

pub least-more : (system : System) (n : ℕ) (sets : List (List Bool)) (s : List Bool) → AreLeastUntil system n sets → IsLeastClosed system n (has s) → AreLeastUntil system (n + 1) (sets ++ s ∷ [])
least-more system n sets s h is =
    record { many = length_push sets s ∙ (let e : length sets ≡ n = h.many in omega (arith, e)); each = λ core l. by core l (core == n) refl }
  where
    by : (core : ℕ) → core < n + 1 → (b : Bool) → (core == n) ≡ b → IsLeastClosed system core (has (get_or (sets ++ s ∷ []) core []))
    by core l true e =
        let is_n : core ≡ n = same core n e in
        let many : length sets ≡ n = h.many in
        let at : get_or (sets ++ s ∷ []) core [] ≡ s = get_or_push sets s [] core (many ∙ sym is_n) in
        subst (λ x. IsLeastClosed system core (has x)) (sym at) (subst (λ c. IsLeastClosed system c (has s)) (sym is_n) is)
    by core l false e =
        let ne : core ≢ n = differ core n e in
        let many : length sets ≡ n = h.many in
        let less : core < n = omega (arith, l, ne) in
        let at : get_or (sets ++ s ∷ []) core [] ≡ get_or sets core [] = get_or_append_left sets (s ∷ []) [] core (omega (arith, less, many)) in
        subst (λ x. IsLeastClosed system core (has x)) (sym at) (h.each core less)
