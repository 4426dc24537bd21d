use Rattle.std.proofs.Common.{rules}
use Rattle.std.specs.Prelude.{nat_le}
use Rattle.std.proofs.lemmas.Fn.{filter_same}
use Rattle.mcs_check.proofs.core_watch.CoreWatch.tell.Goals as goal

pub returns-clause-found : goal.returns-clause-found
returns-clause-found c = filter_same _ (λ f. nat_le c.args.to f.moment) _ (λ x b f' k. search rules) _ _ c.retain.ensures.filtered
