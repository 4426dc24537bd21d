use Rattle.std.proofs.Common.{rules, ◌≡◌, Err}
use Rattle.mcs_cli.specs.Run.{loaded}
use Rattle.mcs_cli.specs.declared.fault.RunFault.TheVariants.{Load}
use Rattle.mcs_check_run.specs.Allowed.{names_of}
use Rattle.mcs_check_run.specs.Fault.{check_fault_text}
use Rattle.mcs_check_run.specs.declared.fault.CheckFault.TheVariants.{Run}
use Rattle.mcs_c.specs.Check.{IsFaultLine}
use Rattle.mcs_c.specs.Forever.{IsForeverText}
use Rattle.mcs_c.proofs.Given.{told-is}
use Rattle.mcs_c.proofs.forever.outlook_on.Goals as goal

pub returns-in-Err-2-clause-verdict : goal.returns-in-Err-2-clause-verdict
returns-in-Err-2-clause-verdict c =
    let o = c.args.options.now in
    let text = c.args.text.now in
    let fault = Run (Load c.in-Err.fault) in
    let why : loaded text ≡ Err c.in-Err.fault = search rules in
    told-is (IsForeverText text (names_of o) o.horizon o.format) (IsFaultLine text (names_of o)) (check_fault_text fault) c.told.result c.told.ensures
    (λ line said. (fault, why, said))
