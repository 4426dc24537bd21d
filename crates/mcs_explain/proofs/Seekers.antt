-- The state that is kept to find a round, after rows were given to a seeker.
use Rattle.std.proofs.Common.{◌≡◌, ◌∷◌, [], ℕ, Bool, List, subst}
use Rattle.mcs_ticks.specs.declared.row.Row.{Row}
use Rattle.mcs_ticks.specs.Given.{Given}
use Rattle.mcs_system.specs.System.{System}
use Rattle.mcs_verdict.specs.Findings.{InOrder, UpTo, past_of}
use Rattle.mcs_verdict.specs.Watch.{watch_of}
use Rattle.mcs_why.specs.Search.{trail_of}
use Rattle.mcs_explain.specs.declared.seeker.Seeker.{Seeker}

module _ {P : Type 0} where
  abbrev pub Takes : Seeker P → Row → Bool → Seeker P → Type 0
  Takes before row taken after =
      (system : System) (thread number : ℕ) (past : List Row) → before.watch ≡ watch_of system past →
      before.search ≡ trail_of system thread number past → UpTo row.moment past →
      (after.watch ≡ watch_of system (row ∷ past)) × (after.search ≡ trail_of system thread number (row ∷ past))

  module _ (system : System) (thread number : ℕ) where
    abbrev pub IsAfter : List Row → Seeker P → Type 0
    IsAfter past s = (s.watch ≡ watch_of system past) × (s.search ≡ trail_of system thread number past)

    pub rows-sought : (past rows : List Row) (s t : Seeker P) → IsAfter past s → InOrder past rows → Given Takes s rows t → IsAfter (past_of past rows) t
    rows-sought past [] s t kept order g = subst (IsAfter past) g kept
    rows-sought past (r ∷ rows) s t kept order g =
        rows-sought (r ∷ past) rows g.0 t (g.1 system thread number past kept.0 kept.1 order.0) order.1 g.2
