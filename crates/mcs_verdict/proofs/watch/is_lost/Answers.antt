use Rattle.std.proofs.Common.{ap}
use Rattle.mcs_verdict.specs.Words.{leaves}
use Rattle.mcs_verdict.specs.declared.held.Held.{Held}
use Rattle.mcs_verdict.proofs.watch.is_lost.Goals as goal

pub returns : goal.returns
returns c firsts past e = ap (λ (held : Held). leaves held.word c.args.word) (c.word_at.ensures firsts past e)
