-- The call keeps what passes the closure's test.
use Rattle.std.proofs.Common.{not, rules}
use Rattle.std.proofs.lemmas.Fn.{filter_same}
use Rattle.mcs_origins.specs.Sets.{is_one_of}
use Rattle.mcs_chain.proofs.origins.drop_from_origins.Goals as goal

pub returns : goal.returns
returns c = filter_same _ (λ origin. not (is_one_of c.args.answered.now origin)) _ (λ x b f' k. search rules) _ _ c.retain.ensures.filtered
