-- How far a core may be lent; some core may be lent if no core is lent and a turn is left.
use Rattle.std.proofs.Common.{◌≡◌, ◌≢◌, ℕ, zero, suc, ◌+◌, ◌-◌, ◌<◌, ◌≤◌, Bool, true, false, length, set, min, inl, inr, refl, ap, ◌∙◌, arith}
use Rattle.std.specs.Prelude.{fold, sum_by, slice_index, ◌==◌, nat_le, if◌then◌else◌}
use Rattle.std.specs.List.{range_with_len}
use Rattle.std.proofs.lemmas.Bool.Decides.{eqb_tells, nat_tests}
use Rattle.std.proofs.lemmas.List.{get_or-set_same, get_or-set_other}
use Rattle.mcs_system.specs.System.{delay_between, TakesTime}
use Rattle.mcs_window.specs.Desk.{Table, clock_of, past_of, MayLend, AllAreHere, IsFinished, settled_at, turns_left}

pub fold-range_more : {B : Type 0} (f : B → ℕ → B) (a : B) (n b : ℕ) → fold f a (range_with_len b (suc n)) ≡ f (fold f a (range_with_len b n)) (b + n)
fold-range_more f a zero b = ap (f a) (let e : b ≡ b + 0 = omega arith in e)
fold-range_more f a (suc n) b =
    fold-range_more f (f a b) n (b + 1) ∙ ap (f (fold f (f a b) (range_with_len (b + 1) n))) (let e : b + 1 + n ≡ b + suc n = omega arith in e)

module _ (table : Table) (c : ℕ) where
  abbrev pub nearer : ℕ → ℕ → ℕ
  nearer past b = if b == c then past else min past (clock_of table b + delay_between table.system b c)

  -- how far the first cores allow it
  abbrev pub past_by : ℕ → ℕ
  past_by n = fold nearer (table.horizon + 1) (range_with_len 0 n)

  pub past_by-next : (n : ℕ) → past_by (suc n) ≡ nearer (past_by n) n
  past_by-next n = fold-range_more nearer (table.horizon + 1) n 0 ∙ ap (nearer (past_by n)) (let e : 0 + n ≡ n = omega arith in e)

  pub past_by-own : (n : ℕ) → n ≡ c → past_by (suc n) ≡ past_by n
  past_by-own n e = past_by-next n ∙ by (n == c) refl
    where
      by : (u : Bool) → (n == c) ≡ u → (if u then past_by n else min (past_by n) (clock_of table n + delay_between table.system n c)) ≡ past_by n
      by true f = refl
      by false f = absurd (let g : n ≢ c = grind (arith, nat_tests) in g e)

  pub past_by-other : (n : ℕ) → n ≢ c → past_by (suc n) ≡ min (past_by n) (clock_of table n + delay_between table.system n c)
  past_by-other n e = past_by-next n ∙ by (n == c) refl
    where
      by : (u : Bool) → (n == c) ≡ u → (if u then past_by n else min (past_by n) (clock_of table n + delay_between table.system n c)) ≡ min (past_by n) (clock_of table n + delay_between table.system n c)
      by true f = absurd (let g : n ≡ c = grind (arith, nat_tests) in e g)
      by false f = refl

  pub past_by-in_time : (n : ℕ) → past_by n ≤ table.horizon + 1
  past_by-in_time zero = omega arith
  past_by-in_time (suc n) =
      let before = past_by-in_time n in
      elim (eqb_tells n c) [
        | inl p ↦ (let e = past_by-own n p.1 in omega arith)
        | inr p ↦ (let e = past_by-other n p.1 in omega arith)
      ]

  pub past_by-reached : (n b : ℕ) → b < n → b ≢ c → past_by n ≤ clock_of table b + delay_between table.system b c
  past_by-reached zero b l other = absurd (omega arith)
  past_by-reached (suc n) b l other =
      elim (eqb_tells n c) [
        | inl p ↦ (let e = past_by-own n p.1 in let ne : b ≢ n = λ f. other (f ∙ p.1) in let before = past_by-reached n b (omega arith) other in omega arith)
        | inr p ↦ last (past_by-other n p.1) (λ k. past_by-reached n b k other)
      ]
    where
      last : past_by (suc n) ≡ min (past_by n) (clock_of table n + delay_between table.system n c) → (b < n → past_by n ≤ clock_of table b + delay_between table.system b c) →
          past_by (suc n) ≤ clock_of table b + delay_between table.system b c
      last e earlier = elim (eqb_tells b n) [
        | inl q ↦ (let f : clock_of table b ≡ clock_of table n = ap (clock_of table) q.1 in let g : delay_between table.system b c ≡ delay_between table.system n c = ap (λ x. delay_between table.system x c) q.1 in omega (arith, e, f, g))
        | inr q ↦ (let ne : b ≢ n = q.1 in let before = earlier (omega arith) in omega arith)
      ]

  -- it is the greatest such moment
  pub past_by-greatest : (n m : ℕ) → m ≤ table.horizon + 1 → ((b : ℕ) → b < n → b ≢ c → m ≤ clock_of table b + delay_between table.system b c) → m ≤ past_by n
  past_by-greatest zero m l h = omega arith
  past_by-greatest (suc n) m l h =
      let before = past_by-greatest n m l (λ b k other. h b (omega arith) other) in
      elim (eqb_tells n c) [
        | inl p ↦ (let e = past_by-own n p.1 in omega arith)
        | inr p ↦ (let e = past_by-other n p.1 in let f = h n (omega arith) p.1 in omega arith)
      ]

-- some number has the least value
least : (f : ℕ → ℕ) (n : ℕ) → 0 < n → (m : ℕ) × (m < n) × ((k : ℕ) → k < n → f m ≤ f k)
least f zero l = absurd (omega arith)
least f (suc zero) l = (0, omega arith, λ k h. let e : f k ≡ f 0 = ap f (let z : k ≡ 0 = omega arith in z) in omega arith)
least f (suc (suc n)) l = by (least f (suc n) (omega arith))
  where
    by : (m : ℕ) × (m < suc n) × ((k : ℕ) → k < suc n → f m ≤ f k) → (m : ℕ) × (m < suc (suc n)) × ((k : ℕ) → k < suc (suc n) → f m ≤ f k)
    by (m, p, h) = choose (nat_le (f m) (f (suc n))) refl
      where
        last : (j k : ℕ) → k < suc (suc n) → f j ≤ f (suc n) → ((k < suc n) → f j ≤ f k) → f j ≤ f k
        last j k i here earlier = elim (eqb_tells k (suc n)) [
          | inl e ↦ (let g : f k ≡ f (suc n) = ap f e.1 in omega arith)
          | inr e ↦ (let other : k ≢ suc n = e.1 in earlier (omega arith))
        ]

        choose : (u : Bool) → nat_le (f m) (f (suc n)) ≡ u → (m : ℕ) × (m < suc (suc n)) × ((k : ℕ) → k < suc (suc n) → f m ≤ f k)
        choose true e =
            let g : f m ≤ f (suc n) = grind (arith, nat_tests) in
            (m, omega arith, λ k i. last m k i g (h k))
        choose false e =
            let g : f (suc n) ≤ f m = grind (arith, nat_tests) in
            (suc n, omega arith, λ k i. last (suc n) k i (omega arith) (λ q. let r = h k q in omega arith))

-- if no core is lent and none may be lent, all turns are taken
pub goes_on : (table : Table) → 0 < table.system.cores → TakesTime table.system → ((c : ℕ) → c < table.system.cores → clock_of table c ≤ table.horizon + 1) → AllAreHere table →
    ((c : ℕ) → ¬ MayLend table c) → IsFinished table
goes_on table some takes_time in_time here stuck c l = by (least (clock_of table) table.system.cores some)
  where
    by : (m : ℕ) × (m < table.system.cores) × ((k : ℕ) → k < table.system.cores → clock_of table m ≤ clock_of table k) → clock_of table c ≡ table.horizon + 1
    by (m, p, h) = late (nat_le (clock_of table m) table.horizon) refl
      where
        ahead : clock_of table m ≤ table.horizon → clock_of table m < past_of table m
        ahead early =
            let far = past_by-greatest table m table.system.cores (suc (clock_of table m)) (omega arith)
            (λ b k _. let q = h b k in let r = takes_time b m in omega arith) in
            omega arith

        late : (u : Bool) → nat_le (clock_of table m) table.horizon ≡ u → clock_of table c ≡ table.horizon + 1
        late true e =
            let early : clock_of table m ≤ table.horizon = grind (arith, nat_tests) in
            absurd (stuck m (record { known = p; here = here m p; ahead = ahead early }))
        late false e =
            let past : table.horizon < clock_of table m = grind (arith, nat_tests) in
            let q = h c l in
            let r = in_time c l in
            omega arith

-- sums of as many numbers, each at most as great, one less
pub sum-more : (f : ℕ → ℕ) (n : ℕ) → sum_by f (range_with_len 0 (suc n)) ≡ sum_by f (range_with_len 0 n) + f n
sum-more f n = fold-range_more (λ a x. a + f x) 0 n 0 ∙ ap (λ x. sum_by f (range_with_len 0 n) + f x) (let e : 0 + n ≡ n = omega arith in e)

pub sum-le : (f g : ℕ → ℕ) (n : ℕ) → ((b : ℕ) → b < n → g b ≤ f b) → sum_by g (range_with_len 0 n) ≤ sum_by f (range_with_len 0 n)
sum-le f g zero h = omega arith
sum-le f g (suc n) h =
    let before = sum-le f g n (λ b l. h b (omega arith)) in
    let last = h n (omega arith) in
    omega (arith, sum-more f n, sum-more g n)

sum-less : (f g : ℕ → ℕ) (n c : ℕ) → c < n → ((b : ℕ) → b < n → g b ≤ f b) → g c < f c → sum_by g (range_with_len 0 n) < sum_by f (range_with_len 0 n)
sum-less f g zero c l h less = absurd (omega arith)
sum-less f g (suc n) c l h less =
    let last = h n (omega arith) in
    elim (eqb_tells c n) [
      | inl e ↦ (let before = sum-le f g n (λ b k. h b (omega arith)) in
          let p : f c ≡ f n = ap f e.1 in
          let q : g c ≡ g n = ap g e.1 in omega (arith, sum-more f n, sum-more g n))
      | inr e ↦ (let other : c ≢ n = e.1 in
          let before = sum-less f g n c (omega arith) (λ b k. h b (omega arith)) less in omega (arith, sum-more f n, sum-more g n))
    ]

-- after a core has taken turns there are fewer left
pub turns-fewer : (table : Table) (c to : ℕ) → c < table.system.cores → table.system.cores ≤ length table.clocks → clock_of table c < to → to ≤ table.horizon + 1 → turns_left (settled_at table c to) < turns_left table
turns-fewer table c to known clocks ahead in_time =
    sum-less (λ b. table.horizon + 1 - clock_of table b) (λ b. table.horizon + 1 - slice_index (set table.clocks c to) b) table.system.cores c known each own
  where
    later : slice_index (set table.clocks c to) c ≡ to
    later = get_or-set_same table.clocks c to 0 (omega arith)

    own : table.horizon + 1 - slice_index (set table.clocks c to) c < table.horizon + 1 - clock_of table c
    own = let e = later in omega arith

    each : (b : ℕ) → b < table.system.cores → table.horizon + 1 - slice_index (set table.clocks c to) b ≤ table.horizon + 1 - clock_of table b
    each b l = elim (eqb_tells b c) [
      | inl e ↦ (let f : slice_index (set table.clocks c to) b ≡ slice_index (set table.clocks c to) c = ap (slice_index (set table.clocks c to)) e.1 in
          let g : clock_of table b ≡ clock_of table c = ap (clock_of table) e.1 in
          let h = own in omega arith)
      | inr e ↦ (let f : slice_index (set table.clocks c to) b ≡ slice_index table.clocks b = get_or-set_other table.clocks c b to 0 e.1 in omega arith)
    ]
