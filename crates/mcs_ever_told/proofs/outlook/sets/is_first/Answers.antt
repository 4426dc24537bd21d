use Rattle.std.proofs.Common.{◌≡◌, true, false, not, sym, ap, arith}
use Rattle.mcs_ever_told.specs.Sets.{have_one_set}
use Rattle.mcs_ever_told.proofs.Numbers.{none-more, some-below}
use Rattle.mcs_ever_told.proofs.outlook.sets.is_first.Goals as goal

pub loop-lesser-preserved : goal.loop-lesser-preserved
loop-lesser-preserved c =
    let now : have_one_set c.args.sets.now c.args.core c.loop-lesser.lesser ≡ false = cc in
    none-more (have_one_set c.args.sets.now c.args.core) c.loop-lesser.lesser c.loop-lesser.invariant now

pub returns-then-have_one_set : goal.returns-then-have_one_set
returns-then-have_one_set c =
    let now : have_one_set c.args.sets.now c.args.core c.loop-lesser.lesser ≡ true = cc in
    sym (ap not (some-below (have_one_set c.args.sets.now c.args.core) c.loop-lesser.lesser c.args.core (omega arith) now))
