use Rattle.std.proofs.Common.{sym, ◌∙◌}
use Rattle.mcs_hints.proofs.Bounds.{bounds_told, bounds_untold}
use Rattle.mcs_hints.proofs.contexts.bind_thread.Goals as goal

pub returns-then-context-bounds : goal.returns-then-context-bounds
returns-then-context-bounds c contexts threads thread e same =
    bounds_told c.context.inside.0 contexts threads thread c.args.bounds.now e (same ∙ sym c.context.view_is)

pub returns-else-context-bounds : goal.returns-else-context-bounds
returns-else-context-bounds c contexts threads thread e same =
    bounds_untold c.context.inside.0 contexts threads thread c.args.bounds.now e (same ∙ sym c.context.view_is) c.if-context-bounds.false
