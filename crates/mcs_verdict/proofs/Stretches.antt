-- Between two telling rows the state of a thread stays.
use Rattle.std.proofs.Common.{◌≡◌, ℕ, zero, suc, ◌+◌, ◌-◌, ◌≤◌, max, Bool, List, [], ◌∷◌, Option, None, refl, sym, ap, ◌∙◌, arith}
use Rattle.std.proofs.lemmas.Bool.Decides.{nat_tests}
use Rattle.mcs_ticks.specs.declared.row.Row.{Row}
use Rattle.mcs_verdict.specs.declared.standing.Standing.TheVariants.{Pending}
use Rattle.mcs_verdict.specs.Activation.{is_active, or_tick, first_for}
use Rattle.mcs_verdict.specs.Account.{or_first}
use Rattle.mcs_verdict.specs.Standing.{standing_after}
use Rattle.mcs_verdict.specs.Stood.{no_ticks, counted, stood_for}
use Rattle.mcs_verdict.proofs.Counts.{counted_none, counted_twice}

-- up to the row's moment the rows before it say how the thread stands
earlier : (r : Row) (rows : List Row) (from n : ℕ) → n ≤ r.moment - from → stood_for (r ∷ rows) from n ≡ stood_for rows from n
earlier r rows from zero h = refl
earlier r rows from (suc n) h = grind (arith, nat_tests, earlier r rows from n (omega arith))

-- and from then on its state stays
later : (r : Row) (rows : List Row) (from n k m : ℕ) → r.moment ≤ from + n → m ≡ k + n
    → stood_for (r ∷ rows) from m ≡ counted (standing_after r.what) k (stood_for (r ∷ rows) from n)
later r rows from n zero m h e =
    ap (stood_for (r ∷ rows) from) (omega arith)
    ∙ sym (counted_none (standing_after r.what) (stood_for (r ∷ rows) from n))
later r rows from n (suc k) zero h e = absurd (omega arith)
later r rows from n (suc k) (suc m) h e =
    grind (
      arith,
      nat_tests,
      later r rows from n k m h (omega arith),
      counted_twice (standing_after r.what) k 1 (stood_for (r ∷ rows) from n),
    )

-- the ticks up to some moment are those up to the latest telling row, and those after it
pub stretch : (r : Row) (rows : List Row) (from to : ℕ) → r.moment ≤ to
    → stood_for (r ∷ rows) from (to - from)
    ≡ counted (standing_after r.what) (to - max r.moment from) (stood_for rows from (r.moment - from))
stretch r rows from to h =
    later r rows from (r.moment - from) (to - max r.moment from) (to - from) (omega arith) (omega arith)
    ∙ ap (counted (standing_after r.what) (to - max r.moment from)) (earlier r rows from (r.moment - from) (omega arith))

-- before all rows it is pending
pub stretch_pending : (from n : ℕ) → stood_for [] from n ≡ counted Pending n no_ticks
stretch_pending from zero = refl
stretch_pending from (suc n) = grind (arith, stretch_pending from n)

-- the same of the first tick in which it is ready or running
earlier_first : (r : Row) (rows : List Row) (from n : ℕ) → n ≤ r.moment - from → first_for (r ∷ rows) from n ≡ first_for rows from n
earlier_first r rows from zero h = refl
earlier_first r rows from (suc n) h = grind (arith, nat_tests, earlier_first r rows from n (omega arith))

-- one tick more
or_more : (earlier : Option ℕ) (active : Bool) (a c d : ℕ) → a ≤ c → d ≡ suc c
    → or_tick (or_first earlier active a c) active c ≡ or_first earlier active a d
or_more earlier active a c d h e = grind (arith, nat_tests)

later_first : (r : Row) (rows : List Row) (from n k m : ℕ) → r.moment ≤ from + n → m ≡ k + n
    → first_for (r ∷ rows) from m
    ≡ or_first (first_for (r ∷ rows) from n) (is_active (standing_after r.what)) (from + n) (from + m)
later_first r rows from n zero m h e =
    let same : m ≡ n = omega arith in
    ap (first_for (r ∷ rows) from) same ∙ grind (arith, nat_tests)
later_first r rows from n (suc k) zero h e = absurd (omega arith)
later_first r rows from n (suc k) (suc m) h e =
    let active = is_active (standing_after r.what) in
    grind (
      arith,
      nat_tests,
      later_first r rows from n k m h (omega arith),
      or_more (first_for (r ∷ rows) from n) active (from + n) (from + m) (from + suc m) (omega arith) (omega arith),
    )

or_same : (earlier : Option ℕ) (active : Bool) (from a b c to : ℕ) → a ≡ b → c ≡ max from to → from ≤ b → or_first earlier active a c ≡ or_first earlier active b to
or_same earlier active from a b c to e f g = grind (arith, nat_tests)

-- the first active tick up to some moment is that up to the latest telling row, or one after it
pub stretch_first : (r : Row) (rows : List Row) (from to : ℕ) → r.moment ≤ to
    → first_for (r ∷ rows) from (to - from)
    ≡ or_first (first_for rows from (r.moment - from)) (is_active (standing_after r.what)) (max r.moment from) to
stretch_first r rows from to h =
    let active = is_active (standing_after r.what) in
    later_first r rows from (r.moment - from) (to - max r.moment from) (to - from) (omega arith) (omega arith)
    ∙ ap (λ x. or_first x active (from + (r.moment - from)) (from + (to - from))) (earlier_first r rows from (r.moment - from) (omega arith))
    ∙ or_same (first_for rows from (r.moment - from)) active from (from + (r.moment - from)) (max r.moment from) (from + (to - from)) to
    (omega arith) (omega arith) (omega arith)

-- before all rows it is not active
pub first_pending : (from n : ℕ) → first_for [] from n ≡ None
first_pending from zero = refl
first_pending from (suc n) = rw (first_pending from n) refl
