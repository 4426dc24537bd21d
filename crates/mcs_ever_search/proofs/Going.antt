-- The state of a search after more rows of the schedule.
use Rattle.std.proofs.Common.{◌≡◌, ℕ, zero, suc, ◌+◌, ◌-◌, ◌≤◌, List, [], ◌∷◌, ◌++◌, refl, sym, ap, subst, ◌∙◌, append-nil, arith}
use Rattle.std.specs.Prelude.{flat_map}
use Rattle.std.specs.List.{AllByRecursion, range_with_len}
use Rattle.mcs_ticks.specs.declared.row.Row.{Row}
use Rattle.mcs_ticks.specs.declared.row.What.{What}
use Rattle.mcs_system.specs.System.{System}
use Rattle.mcs_system.specs.WellFormed.{IsWellFormed}
use Rattle.mcs_core.specs.Turn.{stamped}
use Rattle.mcs_core.specs.Clock.{rows_of, turn_of}
use Rattle.mcs_ever_again.specs.Period.{told_at, told_between}
use Rattle.mcs_ever_again.specs.Schedule.{whats, RowsTellTurns}
use Rattle.mcs_verdict.specs.Findings.{UpTo, past_of}
use Rattle.mcs_verdict_laws.specs.laws.Order.{SchedulesAreInOrder}
use Rattle.mcs_stretch.proofs.Ranges.{flat_map-join}
use Rattle.mcs_ever_search.specs.Together.{rows_at, rows_before}
use Rattle.mcs_verdict_laws.proofs.Order.{up_to-later}
use Rattle.mcs_ever_search.specs.stored.Seen.{IsOfRows, HasSeen}
use Rattle.mcs_ever_search.specs.declared.seen.Seen.{Seen}

all-join : (P : Row → Type 0) (xs ys : List Row) → AllByRecursion P xs → AllByRecursion P ys → AllByRecursion P (xs ++ ys)
all-join P [] ys all more = more
all-join P (x ∷ xs) ys all more = (all.0, all-join P xs ys all.1 more)

stamped-at : (c t : ℕ) (told : List What) → AllByRecursion (λ (row : Row). row.moment ≡ t) (stamped c t told)
stamped-at c t [] = tt
stamped-at c t (what ∷ told) = (refl, stamped-at c t told)

-- the rows of the turns at a moment are of that moment
pub rows-at : (system : System) (t : ℕ) → AllByRecursion (λ (row : Row). row.moment ≡ t) (rows_at system t)
rows-at system t = each (range_with_len 0 system.cores)
  where
    each : (cs : List ℕ) → AllByRecursion (λ (row : Row). row.moment ≡ t) (flat_map (λ c. rows_of system c t) cs)
    each [] = tt
    each (c ∷ cs) =
        all-join (λ (row : Row). row.moment ≡ t) (rows_of system c t) (flat_map (λ c. rows_of system c t) cs)
        (stamped-at c t (turn_of system c t).rows) (each cs)

-- no row before a moment is of a later one
pub rows-up_to : SchedulesAreInOrder → (system : System) → IsWellFormed system → (t : ℕ) → UpTo t (past_of [] (rows_before system t))
rows-up_to law system well zero = tt
rows-up_to law system well (suc h) = up_to-later h (suc h) (past_of [] (rows_before system (suc h))) (omega arith) (law system well h).1

module _ (system : System) where
  pub told-join : (from mid past : ℕ) → from ≤ mid → mid ≤ past → told_between system from mid ++ told_between system mid past
      ≡ told_between system from past
  told-join from mid past l k =
      let e : from + (mid - from) ≡ mid = omega (arith, l) in
      let g : mid - from + (past - mid) ≡ past - from = omega (arith, l, k) in
      ap (λ (m : ℕ). told_between system from mid ++ flat_map (told_at system) (range_with_len m (past - mid))) (sym e)
      ∙ flat_map-join (told_at system) (mid - from) (past - mid) from
      ∙ ap (λ (n : ℕ). flat_map (told_at system) (range_with_len from n)) g

  pub told-none : (t : ℕ) → told_between system t t ≡ []
  told-none t = let e : t - t ≡ 0 = omega arith in ap (λ (n : ℕ). flat_map (told_at system) (range_with_len t n)) e

  -- the state of the rows, after the rows of the schedule up to a later moment
  pub has-seen : RowsTellTurns system → (kept t later : ℕ) (rows : List Row) (seen : Seen) → kept ≤ t → t ≤ later →
      rows_before system later ≡ rows_before system t ++ rows →
      IsOfRows system (rows_before system t ++ rows) (told_between system kept t ++ whats rows) later seen → HasSeen system kept later seen
  has-seen tell kept t later rows seen l k e is =
      let told : told_between system kept t ++ whats rows ≡ told_between system kept later =
      ap (λ (more : List What). told_between system kept t ++ more) (tell t later rows k e) ∙ told-join kept t later l k in
      let P : List Row → Type 0 = λ all. IsOfRows system all (told_between system kept later) later seen in
      let Q : List What → Type 0 = λ told. IsOfRows system (rows_before system t ++ rows) told later seen in
      subst P (sym e) (subst Q told is)

  -- no row comes meanwhile
  pub has-seen-none : RowsTellTurns system → (kept t later : ℕ) (seen : Seen) → kept ≤ t → t ≤ later →
      rows_before system later ≡ rows_before system t →
      IsOfRows system (rows_before system t) (told_between system kept t) later seen → HasSeen system kept later seen
  has-seen-none tell kept t later seen l k e is =
      let P : List Row → Type 0 = λ all. IsOfRows system all (told_between system kept t ++ []) later seen in
      let Q : List What → Type 0 = λ told. IsOfRows system (rows_before system t) told later seen in
      has-seen tell kept t later [] seen l k (e ∙ sym (append-nil (rows_before system t)))
      (subst P (sym (append-nil (rows_before system t))) (subst Q (sym (append-nil (told_between system kept t))) is))
