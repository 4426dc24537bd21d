use Rattle.std.proofs.Common.{◌≡◌, false, sym, ◌∙◌}
use Rattle.std.specs.Prelude.{is_err}
use Rattle.std.specs.Vec.{vec_items}
use Rattle.mcs_ticks.proofs.Givens.{given_to_a_list, short_list}
use Rattle.mcs_core.proofs.Alike.{runs-of-one-list}
use Rattle.mcs_core.proofs.Runs.{if_ok}
use Rattle.mcs_core.proofs.state.CoreState.run_some.Goals as goal

pub returns-clause-rows : goal.returns-clause-rows
returns-clause-rows c =
    let fine : is_err c.run_some_to.result ≡ false = sym c.is_err.ensures.value ∙ c.if-is_err.false in
    given_to_a_list vec_items _ _ _ (if_ok c.run_some_to.result _ fine c.run_some_to.ensures.rows)

pub returns-clause-no_further : goal.returns-clause-no_further
returns-clause-no_further c =
    let fine : is_err c.run_some_to.result ≡ false = sym c.is_err.ensures.value ∙ c.if-is_err.false in
    short_list vec_items c.args.most c.args.rows.now _ (if_ok c.run_some_to.result _ fine c.run_some_to.ensures.no_further)

pub returns-clause-one_list : goal.returns-clause-one_list
returns-clause-one_list c = runs-of-one-list c.args.system.now c.args.self.now c.run_some_to.new.self.clock c.args.mail.now.mails
