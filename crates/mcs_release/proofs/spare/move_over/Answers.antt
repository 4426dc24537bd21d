use Rattle.std.proofs.Common.{◌≡◌, ◌∙◌, arith, sym}
use Rattle.mcs_release.proofs.Moving.{IsMoving-none, IsMoving-put, IsMoving-skip, entered-moving}
use Rattle.mcs_release.proofs.spare.move_over.Goals as goal
use Rattle.mcs_release.proofs.spare.move_over.Goals.{in-Some, in_default}

pub loop-place-init : goal.loop-place-init
loop-place-init c = IsMoving-none _ _ c.requires.empty

pub loop-place-preserved : goal.loop-place-preserved
loop-place-preserved c =
    elim c.match-get.branch [
      | in-Some w ↦
          rw (w.to-is, w.put.ensures.put) (
          IsMoving-put _ _ _ _ c.loop-place.invariant (omega (arith, c.requires.within)) w.in-Some.entry
          (omega (arith, c.requires.wide, c.loop-place.invariant.same)) (sym c.get.ensures ∙ w.in-Some.is)
          )
      | in_default w ↦ rw w.to-is (IsMoving-skip _ _ _ _ c.loop-place.invariant (omega (arith, c.requires.within)) (sym c.get.ensures ∙ w.in_default.is))
    ]

pub returns-clause-entered : goal.returns-clause-entered
returns-clause-entered c =
    let all : c.loop-place.place ≡ c.args.front = omega arith in
    entered-moving _ _ _ _ c.loop-place.invariant (rw all c.requires.behind)
