use Rattle.std.proofs.Common.{arith, subst}
use Rattle.std.specs.Io.KnownBytes.{Appends}
use Rattle.std.proofs.KnownBytes.{Appends-trans}
use Rattle.std.proofs.lemmas.Grind.{common_steps}
use Rattle.mcs_cli.proofs.Parts.{part_after}
use Rattle.mcs_cli.proofs.streams.write_bytes.Goals as goal

pub loop-at-preserved : goal.loop-at-preserved
loop-at-preserved g c =
    let held = g.T.Target.contents in
    let grown = Appends-trans _ _ _ _ _ c.loop-at.invariant.written c.in-Ok.ensures.bytes in
    let longer = part_after c.loop-at.at c.in-Ok.n c.args.bytes.now in
    record {
      in_range = grind (arith, common_steps);
      written = subst (Appends (held c.args.target.now) (held c.write.new.self)) longer grown;
      working = grind (arith, common_steps);
    }
