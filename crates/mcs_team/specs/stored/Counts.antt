-- The number of rows that a tally has counted.
use Rattle.std.specs.Prelude.{◌≡◌, ℕ, true, List, ◌++◌, ◌∷◌, []}
use Rattle.std.proofs.Common.{◌∙◌, ap, sym, refl}
use Rattle.std.proofs.lemmas.List.Sums.{fold-append}
use Rattle.mcs_ticks.specs.declared.row.Row.{Row}
use Rattle.mcs_report.specs.CoreTally.{CoreTally, CoreCounts, HoldsRows}
use Rattle.mcs_report.specs.stored.CoreTally.{holds_added}
use Rattle.mcs_team.specs.Counts.{many_of, one_more}

-- a further row is counted after the others
pub counted_more : (before after : CoreTally) (n m : ℕ) (held : List Row) (row : Row)
    → HoldsRows before held × (n ≡ many_of held) → CoreCounts before row true after × (true ≡ true → m ≡ one_more n)
    → HoldsRows after (held ++ row ∷ []) × (m ≡ many_of (held ++ row ∷ []))
counted_more before after n m held row holds counts = (
  holds_added before after held row holds.0 counts.0,
  counts.1 refl ∙ ap one_more holds.1 ∙ sym (fold-append (λ k _. one_more k) 0 held (row ∷ [])),
)
