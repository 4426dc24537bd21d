use Rattle.std.proofs.Common.{refl, arith, rules}
use Rattle.mcs_system.specs.WellFormed.{IsWellFormed}
use Rattle.mcs_ever_chain.proofs.Chains.{within, watch-long, tallies-long}
use Rattle.mcs_ever_chain.proofs.Looking.{is-kept, look-kept}
use Rattle.mcs_ever_chain.proofs.look.Look.compare.Goals as goal

pub state-requires : goal.state-requires
state-requires c =
    let h = c.requires.look in
    let l = within c.args.system.now.chains c.args.self.now.chain h.chain h.is in
    let e = watch-long c.args.system.now c.args.run.now c.requires.run in
    omega (arith, l, e)

pub counts-requires-clause-watch : goal.counts-requires-clause-watch
counts-requires-clause-watch c =
    let h = c.requires.look in
    let l = within c.args.system.now.chains c.args.self.now.chain h.chain h.is in
    let e = watch-long c.args.system.now c.args.run.now c.requires.run in
    omega (arith, l, e)

pub counts-requires-clause-tallies : goal.counts-requires-clause-tallies
counts-requires-clause-tallies c =
    let h = c.requires.look in
    let l = within c.args.system.now.chains c.args.self.now.chain h.chain h.is in
    let e = tallies-long c.args.system.now c.args.run.now c.requires.run in
    omega (arith, l, e)

pub told_now-requires : goal.told_now-requires
told_now-requires c =
    let s = c.args.system.now in
    let h = c.requires.look in
    let t = c.args.run.now.lockstep.clock in
    let well : IsWellFormed s = search rules in
    record {
      clock = t;
      look = h;
      past = c.requires.past;
      is =
          is-kept s well c.args.at t c.requires.past c.requires.no_rows h.chain c.args.self.now.home c.in_ok-state.field-0 c.counts.result
          (omega (arith, c.if-get-self.false, c.get.ensures.value))
          (c.in_ok-state.ensures s h.chain c.requires.run h.is) (c.counts.ensures s h.chain c.requires.run h.is);
    }

pub returns-clause-look : goal.returns-clause-look
returns-clause-look c =
    let s = c.args.system.now in
    let h = c.requires.look in
    let t = c.args.run.now.lockstep.clock in
    let well : IsWellFormed s = search rules in
    let is =
    is-kept s well c.args.at t c.requires.past c.requires.no_rows h.chain c.args.self.now.home c.in_ok-state.field-0 c.counts.result
    (omega (arith, c.if-get-self.false, c.get.ensures.value))
    (c.in_ok-state.ensures s h.chain c.requires.run h.is) (c.counts.ensures s h.chain c.requires.run h.is) in
    look-kept s well c.args.at t c.requires.past c.requires.no_rows c.args.self.now c.next_mark-self.result
    (record { at = c.args.at; state = c.in_ok-state.field-0; counts = c.counts.result }) h refl is
