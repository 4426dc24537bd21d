use Rattle.std.proofs.Common.{◌∙◌}
use Rattle.std.proofs.lemmas.Result.{IfOk-weaker}
use Rattle.mcs_way.proofs.Standings.{stances-first}
use Rattle.mcs_way.proofs.stance.all_new.Goals as goal

pub returns : goal.returns
returns c = IfOk-weaker c.each_new.result _ _ (λ stances e. e ∙ stances-first 0 c.args.parts.now.threads) c.each_new.ensures
