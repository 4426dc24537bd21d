use Rattle.std.proofs.Common.{ap, ◌∙◌}
use Rattle.mcs_verdict.specs.Words.{adds}
use Rattle.mcs_verdict.specs.declared.held.Held.{Held}
use Rattle.mcs_verdict.proofs.watch.is_merged.Goals as goal

pub returns : goal.returns
returns c firsts past e = c.adds.ensures ∙ ap (λ (held : Held). adds held.word c.args.word) (c.word_at.ensures firsts past e)
