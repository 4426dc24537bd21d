use Rattle.std.proofs.Common.{◌≡◌, ◌∙◌, List, ◌++◌, ap, rules}
use Rattle.mcs_ticks.specs.declared.row.Row.{Row}
use Rattle.mcs_system.specs.WellFormed.{IsWellFormed}
use Rattle.mcs_ever_search.specs.Together.{rows_at}
use Rattle.mcs_ever_found.specs.Recurs.{past_before}
use Rattle.mcs_ever_chain.proofs.Running.{turned, turned-rows}
use Rattle.mcs_ever_chain.proofs.run.Run.turn.Goals as goal

pub returns-clause-run : goal.returns-clause-run
returns-clause-run c = λ is.
    let s = c.args.system.now in
    let old = c.args.self.now in
    let past = past_before s old.lockstep.clock in
    let made : c.as_slice.result.now ≡ rows_at old.lockstep.system old.lockstep.clock =
    c.as_slice.ensures.value ∙ c.in_ok-turn.ensures.rows ∙ ap (λ (rows : List Row). rows ++ rows_at old.lockstep.system old.lockstep.clock) c.clear.ensures.items in
    let well : IsWellFormed s = search rules in
    turned s old is well (record { lockstep = c.turn.new.self; watch = c.see_all.new.watch; tallies = c.see_all.new.tallies; rows = c.turn.new.rows })
    c.as_slice.result.now c.in_ok-turn.ensures.together made (c.in_ok-see_all.ensures.watch past is.watch)
    (c.in_ok-see_all.ensures.tallies old.lockstep.horizon past is.watch is.tallies)

pub returns-clause-rows : goal.returns-clause-rows
returns-clause-rows c = λ is.
    let old = c.args.self.now in
    turned-rows c.args.system.now old is c.turn.new.rows.items
    (c.in_ok-turn.ensures.rows ∙ ap (λ (rows : List Row). rows ++ rows_at old.lockstep.system old.lockstep.clock) c.clear.ensures.items)
