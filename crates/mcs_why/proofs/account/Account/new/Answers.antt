use Rattle.std.proofs.Common.{◌∙◌, length, ap}
use Rattle.mcs_system.specs.System.{System}
use Rattle.mcs_why.proofs.Accounts.{opened}
use Rattle.mcs_why.proofs.account.Account.new.Goals as goal

pub returns : goal.returns
returns c =
    opened (length c.args.system.now.threads) c.len.result c.args.span.now.core c.args.span.now.from c.args.span.now.to c.in_ok-vec.field-0.items
    (c.len.ensures ∙ ap (λ (system : System). length system.threads) c.parts.ensures.same)
    (c.in_ok-vec.ensures.items_if_clones_equal (λ y e. e))
