use Rattle.std.proofs.Common.{◌∙◌, sym}
use Rattle.mcs_check_forever.proofs.Foretelling.{foretelling}
use Rattle.mcs_check_forever.proofs.run.foretell.Goals as goal

pub returns-clause-foretold : goal.returns-clause-foretold
returns-clause-foretold g c =
    foretelling _ _ _ c.args.options.now _ _ _ _ _ c.in_ok-system.system (sym c.is_mixed.ensures ∙ c.if-is_mixed.false)
    c.in_ok-system.ensures.ok c.tell.result c.tell.ensures.told
