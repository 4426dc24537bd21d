-- The call keeps what passes the closure's test.
use Rattle.std.proofs.Common.{not, rules}
use Rattle.std.proofs.lemmas.Fn.{filter_same}
use Rattle.mcs_chain.specs.Origins.{is_sent}
use Rattle.mcs_chain.proofs.under_way.drop_sent.Goals as goal

pub returns : goal.returns
returns c = filter_same _ (λ sent. not (is_sent c.args.note c.args.maker c.args.made sent)) _ (λ x b f' k. search rules) _ _ c.retain.ensures.filtered
