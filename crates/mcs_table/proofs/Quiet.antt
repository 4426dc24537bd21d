-- Rows that end no round and tell no word after a signal.
use Rattle.std.proofs.Common.{◌≡◌, ℕ, List, ◌∷◌, length, None, refl, sym, ap, ◌∙◌}
use Rattle.mcs_ticks.specs.declared.row.Row.{Row}
use Rattle.mcs_ticks.specs.declared.row.What.{What}
use Rattle.mcs_ticks.specs.declared.row.What.TheVariants as row
use Rattle.mcs_system.specs.System.{System}
use Rattle.mcs_verdict.specs.Findings.{finding as finding_of}
use Rattle.mcs_verdict.specs.Words.{merges}
use Rattle.mcs_table.specs.Signals.{lost_note, merged_note, lost_by, merged_by, times_at}
use Rattle.mcs_table.specs.Table.{counts_of, table_of}
use Rattle.mcs_table.proofs.Ranges.{more, counts-none}
use Rattle.mcs_table.proofs.Ended.{same_row, accounts_same}
use Rattle.mcs_table.proofs.Kept.{same_table}

none_lost : (system : System) (past : List Row) (m : ℕ) (what : What) → ((n w : ℕ) → what ≡ row.Hold n w → ⊥)
    → ((x n response : ℕ) → what ≡ row.Round x n response → ⊥)
    → lost_note (finding_of system past m what) ≡ None
none_lost system past m (row.Release x) hold round = refl
none_lost system past m (row.Run x) hold round = refl
none_lost system past m (row.Stop x cause charged until) hold round = refl
none_lost system past m (row.Signal x note badge) hold round = refl
none_lost system past m (row.Arrive note badge maker) hold round = refl
none_lost system past m (row.Wake x note word until) hold round = refl
none_lost system past m (row.Hold note word) hold round = absurd (hold note word refl)
none_lost system past m (row.Got x note word) hold round = refl
none_lost system past m (row.Round x number response) hold round = absurd (round x number response refl)
none_lost system past m (row.Order context) hold round = refl
none_lost system past m (row.Interrupt source at_note badge) hold round = refl

none_merged : (system : System) (past : List Row) (what : What) → ((n w : ℕ) → what ≡ row.Hold n w → ⊥)
    → merged_note (merges system past what) what ≡ None
none_merged system past (row.Release x) hold = refl
none_merged system past (row.Run x) hold = refl
none_merged system past (row.Stop x cause charged until) hold = refl
none_merged system past (row.Signal x note badge) hold = refl
none_merged system past (row.Arrive note badge maker) hold = refl
none_merged system past (row.Wake x note word until) hold = refl
none_merged system past (row.Hold note word) hold = absurd (hold note word refl)
none_merged system past (row.Got x note word) hold = refl
none_merged system past (row.Round x number response) hold = refl
none_merged system past (row.Order context) hold = refl
none_merged system past (row.Interrupt source at_note badge) hold = refl

-- what is kept is unchanged
pub quiet_row : (system : System) (horizon : ℕ) (r : Row) (past : List Row) → ((n w : ℕ) → r.what ≡ row.Hold n w → ⊥)
    → ((x n response : ℕ) → r.what ≡ row.Round x n response → ⊥)
    → table_of system horizon past ≡ table_of system horizon (r ∷ past)
quiet_row system horizon r past hold round =
    same_table horizon horizon _ _ _ _ _ _ refl
    (sym (accounts_same system horizon 0 system.threads r past (λ k a b. same_row system horizon k r.moment r.core r.what past round)))
    (counts-none (λ note. times_at (lost_by system) note past) (length system.notes)
    ∙ ap (λ place. counts_of (more place (λ note. times_at (lost_by system) note past)) (length system.notes))
    (sym (none_lost system past r.moment r.what hold round)))
    (counts-none (λ note. times_at (merged_by system) note past) (length system.notes)
    ∙ ap (λ place. counts_of (more place (λ note. times_at (merged_by system) note past)) (length system.notes))
    (sym (none_merged system past r.what hold)))
