use Rattle.std.proofs.Common.{refl}
use Rattle.mcs_ever_chain.proofs.Chains.{has-chain}
use Rattle.mcs_ever_chain.proofs.SoFar.{so-far}
use Rattle.mcs_ever_chain.proofs.look.told_so_far.Goals as goal

pub returns : goal.returns
returns c = λ horizon at.
    let s = c.args.system.now in
    let run = c.args.run.now in
    let has = has-chain s.chains c.args.chain c.requires.known in
    record {
      chain = refl;
      so = record {
        chain = has.part;
        is = has.is;
        so =
            so-far s has.part horizon run.lockstep.clock c.args.chain c.counts-counts.result c.unanswered.result c.left_so_far-left.result at
            (c.counts-counts.ensures s has.part c.requires.run has.is) (c.unanswered.ensures has.part c.requires.run has.is) c.left_so_far-left.ensures;
      };
    }
