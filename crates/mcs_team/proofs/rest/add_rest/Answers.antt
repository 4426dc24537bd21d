use Rattle.std.proofs.Common.{◌≡◌, ◌≤◌, ◌∙◌, ap, arith, subst, sym}
use Rattle.mcs_merge.specs.Parts.{rows_from}
use Rattle.mcs_stretch.specs.Stretch.{rows_between}
use Rattle.mcs_window.specs.Desk.{clock_of, taken_of}
use Rattle.mcs_team.proofs.Resting.{rest-of}
use Rattle.mcs_team.proofs.rest.add_rest.Goals as goal

pub add-requires-clause-told : goal.add-requires-clause-told
add-requires-clause-told g c =
    let system = g.B.Run.system in
    let holds = g.W.Told.Collector.holds in
    let desk = c.args.desk.now in
    let core = c.args.core in
    let past = c.clock-past.result in
    let rows : c.as_slice.result.now ≡ rows_between system core 0 past =
    c.as_slice.ensures.value ∙ c.take_rows-rows.ensures.rows
    ∙ ap (λ s. rows_between s core (taken_of desk core) (clock_of desk core)) c.requires.run.0
    ∙ ap (λ t. rows_between system core t (clock_of desk core)) c.requires.whole.0
    ∙ ap (rows_between system core 0) (sym c.clock-past.ensures.value)
    in
    let le : c.args.from ≤ past = (let e = c.clock-past.ensures.value in let w = c.requires.whole.1 in let o = c.requires.from.1 in omega arith) in
    subst (λ t. holds c.tell_from.new.told (rows_between system core t past)) (sym c.requires.from.0)
    (subst (holds c.tell_from.new.told) (rest-of system core c.args.from past le)
    (subst (λ xs. holds c.tell_from.new.told (rows_from c.args.from xs)) rows c.in-Ok.ensures))
