use Rattle.std.proofs.Common.{subst, arith}
use Rattle.mcs_system.specs.System.{System}
use Rattle.mcs_chain.specs.Later.{AreLater, StepsAreSame}
use Rattle.mcs_ever.specs.Closed.{has}
use Rattle.mcs_ever_chain.proofs.look.Look.told_since.Goals as goal

pub told-requires : goal.told-requires
told-requires c =
    let set = c.args.self.now.home.set in
    let ticks = c.args.self.now.home.period.ticks in
    let before = c.args.kept.now.state in
    let now = c.args.now.now.state in
    let P : System → Type 0 = λ (s : System). StepsAreSame s (has set) before.gone now.gone × AreLater s (has set) ticks before.origins now.origins in
    let later = subst P c.parts-parts.ensures.same (c.in_ok-is_later.ensures c.if-not-branch.false) in
    record {
      pair = c.requires;
      period = omega (arith, c.if-saturating_add-get.false, c.get.ensures.value, c.get-2.ensures.value, c.get-2.ensures.in_range, c.saturating_add.ensures);
      steps = later.0;
      later = later.1;
      whole = c.are_whole.ensures c.if-not-are_whole.false;
    }
