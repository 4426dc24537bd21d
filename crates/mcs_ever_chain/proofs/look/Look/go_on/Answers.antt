use Rattle.std.proofs.Common.{◌≤◌, sym, ◌∙◌, arith, rules}
use Rattle.mcs_system.specs.WellFormed.{IsWellFormed}
use Rattle.mcs_ever_chain.proofs.Chains.{within, watch-long}
use Rattle.mcs_ever_chain.proofs.Idle.{still-before}
use Rattle.mcs_ever_chain.proofs.Looking.{look-moved}
use Rattle.mcs_ever_chain.proofs.look.Look.go_on.Goals as goal

pub is_late-self-requires-clause-watch : goal.is_late-self-requires-clause-watch
is_late-self-requires-clause-watch c =
    let h = c.requires.look in
    let l = within c.args.system.now.chains c.args.self.now.chain h.chain h.is in
    let e = watch-long c.args.system.now c.args.run.now c.requires.run in
    omega (arith, l, e)

pub is_late-self-requires-clause-known : goal.is_late-self-requires-clause-known
is_late-self-requires-clause-known c = let h = c.requires.look in within c.args.system.now.chains c.args.self.now.chain h.chain h.is

pub loop-look-init : goal.loop-look-init
loop-look-init c =
    let well : IsWellFormed c.args.system.now = search rules in
    look-moved c.args.system.now well c.args.from c.args.run.now.lockstep.clock c.requires.later c.requires.no_rows c.args.self.now c.is_late-self.result c.requires.look
    (λ part at early. c.is_late-self.ensures part c.requires.run at early)

pub compare-requires-clause-no_rows : goal.compare-requires-clause-no_rows
compare-requires-clause-no_rows c =
    let s = c.args.system.now in
    let well : IsWellFormed s = search rules in
    let at = c.in-Some.at in
    let clock = c.args.run.now.lockstep.clock in
    let late : c.args.from ≤ at = search rules in
    let early : at ≤ clock = search rules in
    c.requires.no_rows ∙ sym (still-before s well c.args.from at clock late early c.requires.no_rows)
