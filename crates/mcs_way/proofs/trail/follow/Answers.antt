use Rattle.std.proofs.Common.{◌∙◌, ap}
use Rattle.std.proofs.lemmas.Result.{on_ok_weaker}
use Rattle.mcs_chain.specs.Steps.{goer}
use Rattle.mcs_way.specs.Course.{moved}
use Rattle.mcs_way.specs.Trail.{stood_by}
use Rattle.mcs_way.proofs.trail.follow.Goals as goal

pub returns : goal.returns
returns c = λ system past e up effect.
    let course = c.args.course.now in
    let r = c.args.row.now in
    let aim = c.args.aim.now in
    let stood = stood_by past r.moment (goer r.what) course in
    on_ok_weaker c.see.result (λ is.
    is
    ∙ ap (λ s. moved aim r s c.args.effect.now course) (c.stood_by-stood.ensures past e up)
    ∙ ap (λ m. moved aim r stood m course) effect) c.see.ensures
