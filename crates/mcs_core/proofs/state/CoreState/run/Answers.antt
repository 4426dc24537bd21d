use Rattle.std.proofs.Common.{◌≡◌, false, sym, ◌∙◌}
use Rattle.std.specs.Prelude.{is_err}
use Rattle.std.specs.Vec.{vec_items}
use Rattle.mcs_ticks.proofs.Givens.{given_to_a_list}
use Rattle.mcs_core.proofs.Alike.{runs-of-one-list}
use Rattle.mcs_core.proofs.Runs.{if_ok}
use Rattle.mcs_core.proofs.state.CoreState.run.Goals as goal

pub returns-clause-rows : goal.returns-clause-rows
returns-clause-rows c =
    let fine : is_err c.run_to.result ≡ false = sym c.is_err.ensures.value ∙ c.if-is_err.false in
    given_to_a_list vec_items _ _ _ (if_ok c.run_to.result _ fine c.run_to.ensures.rows)

pub returns-clause-one_list : goal.returns-clause-one_list
returns-clause-one_list c = runs-of-one-list c.args.system.now c.args.self.now c.args.to c.args.mail.now.mails
