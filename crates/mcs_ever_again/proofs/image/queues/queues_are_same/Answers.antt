use Rattle.std.proofs.lemmas.Slice.Eq.{slice_eq-Decides}
use Rattle.mcs_ever_again.proofs.Releases.{same_queued-decides}
use Rattle.mcs_ever_again.proofs.image.queues.queues_are_same.Goals as goal

pub returns : goal.returns
returns c =
    let decided = slice_eq-Decides same_queued-decides c.args.after.now c.args.before.now c.eq.result c.eq.ensures in
    (λ e. decided.0 e, λ e. decided.1 e)
