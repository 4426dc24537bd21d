use Rattle.std.proofs.Common.{◌≡◌, length, ◌∷◌, ap, ◌∙◌}
use Rattle.std.proofs.lemmas.List.{with_items_is}
use Rattle.mcs_table.specs.Signals.{lost_note, merged_note, lost_by, merged_by, times_at}
use Rattle.mcs_table.specs.Table.{Table, accounts_of, counts_of}
use Rattle.mcs_table.proofs.Ranges.{more}
use Rattle.mcs_table.proofs.Kept.{same_table}
use Rattle.mcs_table.proofs.table.Table.see_any.Goals as goal

pub returns : goal.returns
returns c system horizon past e job found merged =
    let kept = c.self.view_is ∙ e in
    let accounts : c.end_round.new.accounts ≡ accounts_of system horizon 0 system.threads (c.args.row.now ∷ past) =
    c.end_round.ensures system horizon past (c.as_mut_slice.ensures.value ∙ ap (λ (table : Table). table.accounts) kept) job
    in
    let lost : c.count_at.new.counts ≡ counts_of (λ note. times_at (lost_by system) note (c.args.row.now ∷ past)) (length system.notes) =
    c.count_at.ensures (λ note. times_at (lost_by system) note past) (length system.notes)
    (c.as_mut_slice-2.ensures.value ∙ ap (λ (table : Table). table.lost) kept)
    ∙ ap (λ place. counts_of (more place (λ note. times_at (lost_by system) note past)) (length system.notes))
    (c.lost_note.ensures ∙ ap lost_note found)
    in
    let both : c.count_at-2.new.counts ≡ counts_of (λ note. times_at (merged_by system) note (c.args.row.now ∷ past)) (length system.notes) =
    c.count_at-2.ensures (λ note. times_at (merged_by system) note past) (length system.notes)
    (c.as_mut_slice-3.ensures.value ∙ ap (λ (table : Table). table.merged) kept)
    ∙ ap (λ place. counts_of (more place (λ note. times_at (merged_by system) note past)) (length system.notes))
    (c.merged_note.ensures ∙ ap (λ is. merged_note is c.args.row.now.what) merged)
    in
    same_table c.self.inside.horizon horizon _ _ _ _ _ _ (ap (λ (table : Table). table.horizon) kept)
    (with_items_is c.self.inside.accounts c.end_round.new.accounts (c.end_round.auto.accounts ∙ c.as_mut_slice.ensures.len) ∙ accounts)
    (with_items_is c.self.inside.lost c.count_at.new.counts (c.count_at.auto.counts ∙ c.as_mut_slice-2.ensures.len) ∙ lost)
    (with_items_is c.self.inside.merged c.count_at-2.new.counts (c.count_at-2.auto.counts ∙ c.as_mut_slice-3.ensures.len) ∙ both)
