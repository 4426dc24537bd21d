use Rattle.std.proofs.Common.{◌≡◌, ◌∙◌, ◌++◌, ap, subst, sym}
use Rattle.std.specs.Prelude.{Some}
use Rattle.mcs_stretch.specs.Stretch.{rows_between}
use Rattle.mcs_window.specs.Desk.{clock_of, taken_of}
use Rattle.mcs_check.specs.stored.ByCore.{told_on}
use Rattle.mcs_check.specs.stored.OwnRows.{until, HoldsOwn}
use Rattle.mcs_check.specs.stored.Rounds.{IsWatched}
use Rattle.mcs_check.proofs.Cores.{taken-out}
use Rattle.mcs_check.proofs.rounds.take_watch.Given as given
use Rattle.mcs_check.proofs.rounds.take_watch.Goals as goal

out : (g : given.Over) (c : goal.In_ok-tell g) →
    IsWatched g.B.Sought.system g.B.Sought.allowed c.args.reached c.args.core (clock_of c.args.desk.now c.args.core) c.tell.new.self
    × (until c.args.reached c.in_ok-own.own.found.items ≡ told_on g.B.Sought.system g.B.Sought.allowed c.args.core g.B.Sought.from c.args.reached)
out g c =
    let system = g.B.Sought.system in
    let allowed = g.B.Sought.allowed in
    let from = g.B.Sought.from in
    let core = c.args.core in
    let desk = c.args.desk.now in
    let end = clock_of desk core in
    let rows : rows_between desk.system core (taken_of desk core) end ≡ rows_between system core 0 end =
    ap (λ s. rows_between s core (taken_of desk core) end) c.requires.run ∙ ap (λ n. rows_between system core n end) c.requires.untaken in
    let held = subst (λ o. HoldsOwn system allowed from o (rows_between system core 0 end)) (sym c.into_own.ensures)
    (subst (HoldsOwn system allowed from c.take-finder.result.own) rows c.take-finder.ensures.rows) in
    let named = c.args.round.now.ours.0 in
    let own = subst (λ s. HoldsOwn s allowed from (Some c.in_ok-own.own) (rows_between system core 0 end)) named
    (c.in_ok-own.ensures allowed from (rows_between system core 0 end) (subst (λ s. HoldsOwn s allowed from c.into_own.result (rows_between system core 0 end)) (sym named) held)) in
    taken-out system allowed c.requires.well_formed from c.args.reached core end c.in_ok-own.own c.tell.new.self c.requires.later.0 c.requires.later.1 own
    c.tell.ensures.watch c.tell.ensures.counts c.tell.ensures.rows c.in_ok-tell.ensures.found

pub returns-clause-watched : goal.returns-clause-watched
returns-clause-watched g c = (out g c).0

pub returns-clause-found : goal.returns-clause-found
returns-clause-found g c = c.in_ok-tell.ensures.told ∙ ap (λ l. c.args.found.now.items ++ l) (out g c).1
