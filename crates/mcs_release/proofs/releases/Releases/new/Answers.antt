use Rattle.std.proofs.Common.{arith, refl}
use Rattle.mcs_release.specs.stored.Places.{AreEmptyFrom}
use Rattle.mcs_release.proofs.Kept.{IsKept-new, entered-new, same_value}
use Rattle.mcs_release.proofs.releases.Releases.new.Goals as goal
use Rattle.mcs_release.proofs.releases.Releases.new.Goals.{then-threads-gt-FEW+in_ok-new, else-threads-gt-FEW}

pub invariant_of-result : goal.invariant_of-result
invariant_of-result c =
    rw c.never.ensures (
    elim c.if-threads-gt-FEW.branch [
      | then-threads-gt-FEW+in_ok-new w ↦
          rw w.places-is (
          IsKept-new _ _ _ w.in_ok-new.ensures.empty (record {
            two = omega (arith, w.in_ok-new.ensures.wide);
            wide = omega (arith, c.in_ok-all.ensures.wide);
            unused = c.in_ok-all.ensures.empty;
          })
          )
      | else-threads-gt-FEW w ↦
          rw w.places-is (
          IsKept-new _ _ _ c.in_ok-all.ensures.empty (record {
            two = omega (arith, c.in_ok-all.ensures.wide);
            wide = omega (arith, c.in_ok-all.ensures.wide);
            unused = tt;
          })
          )
    ]
    )

pub returns : goal.returns
returns c =
    let empty : AreEmptyFrom 0 c.if-threads-gt-FEW.places.0 = elim c.if-threads-gt-FEW.branch [
      | then-threads-gt-FEW+in_ok-new w ↦ rw w.places-is w.in_ok-new.ensures.empty
      | else-threads-gt-FEW w ↦ rw w.places-is c.in_ok-all.ensures.empty
    ] in
    same_value _ _ _ _ (entered-new _ empty) refl
