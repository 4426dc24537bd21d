use Rattle.std.proofs.Common.{rules}
use Rattle.mcs_system.specs.WellFormed.{IsWellFormed}
use Rattle.mcs_ever_chain.proofs.Chains.{within, is-chain}
use Rattle.mcs_ever_chain.proofs.Found.{repeats}
use Rattle.mcs_ever_chain.proofs.look.Look.told.Goals as goal

pub is_in_time-in_time-requires : goal.is_in_time-in_time-requires
is_in_time-in_time-requires c = within c.args.system.now.chains c.args.self.now.chain c.requires.pair.chain c.requires.pair.is

pub returns : goal.returns
returns c = λ horizon.
    let s = c.args.system.now in
    let f = c.requires in
    let pair = f.pair in
    let well : IsWellFormed s = search rules in
    let known = (is-chain s well c.args.self.now.chain pair.chain pair.is).thread in
    record {
      chain = pair.chain;
      is = pair.is;
      so =
          repeats s well c.args.self.now c.args.kept.now c.args.now.now f c.turns_repeat.ensures known c.answers_are_added.ensures c.interrupts_are_added.ensures
          c.slow_are_added.ensures c.greatest_is_forever.ensures c.none_is_longer.ensures c.none_is_left.ensures c.none_is_slow.ensures
          c.is_in_time-in_time.result (c.is_in_time-in_time.ensures pair.chain pair.is) c.often.result c.often-2.result c.left_unless.result
          c.often.ensures c.often-2.ensures c.left_unless.ensures;
    }
