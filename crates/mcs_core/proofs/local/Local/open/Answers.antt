use Rattle.std.proofs.Common.{ap}
use Rattle.mcs_ready.specs.Ready.{ReadyQueue}
use Rattle.mcs_core.proofs.Opening.{opened}
use Rattle.mcs_core.proofs.local.Local.open.Goals as goal

pub returns : goal.returns
returns c =
    opened c.args.system.now c.args.core c.from_parts.result c.in_ok-opening_threads.field-0.items c.in_ok-new.field-0.queue c.in_ok-opening_releases.field-0.queue
    c.in_ok-opening_contexts.field-0 c.in_ok-opening_notes.field-0.notes c.from_parts.ensures c.in_ok-opening_threads.ensures
    (ap (λ (r : ReadyQueue). r.queue) c.in_ok-new.ensures) c.in_ok-opening_releases.ensures.queue c.in_ok-opening_contexts.ensures
    c.in_ok-opening_notes.ensures.notes
