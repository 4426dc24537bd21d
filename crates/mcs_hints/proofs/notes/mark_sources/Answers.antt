use Rattle.std.proofs.Common.{◌∙◌}
use Rattle.mcs_hints.proofs.Marks.{marks_by_scripts}
use Rattle.mcs_hints.proofs.notes.mark_sources.Goals as goal

pub loop-source-init : goal.loop-source-init
loop-source-init c notes items e = e ∙ marks_by_scripts notes items
