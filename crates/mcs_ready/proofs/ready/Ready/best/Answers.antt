use Rattle.std.proofs.Common.{◌∙◌, ap}
use Rattle.mcs_ticks.specs.Queue.{first_of}
use Rattle.mcs_ready.specs.Ready.{ReadyQueue, priority_of}
use Rattle.mcs_ready.proofs.Kept.{first-greatest}
use Rattle.mcs_ready.proofs.ready.Ready.best.Goals as goal

pub returns : goal.returns
returns c = first-greatest _ _ _ c.self.invariant _ c.greatest.ensures ∙ ap (λ (v : ReadyQueue). priority_of (first_of v.queue)) c.self.view_is
