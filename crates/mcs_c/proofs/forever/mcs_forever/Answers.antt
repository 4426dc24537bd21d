use Rattle.std.proofs.Common.{rules, ◌≡◌, subst, take}
use Rattle.mcs_check_run.specs.Allowed.{names_of}
use Rattle.mcs_c.specs.Check.{names_in, IsFaultLine}
use Rattle.mcs_c.specs.Forever.{IsForeverText}
use Rattle.mcs_c.proofs.Given.{fault-is}
use Rattle.mcs_c.proofs.forever.mcs_forever.Goals as goal

pub returns-clause-fault : goal.returns-clause-fault
returns-clause-fault c =
    let o = c.options_of-options.result in
    let text = c.args.text.now in
    let names = names_in c.args.allowed.now in
    let same_names : names_of o ≡ names = search rules in
    let bytes = take c.hand_out.new.length_of c.hand_out.new.room in
    λ one. subst (λ names. IsFaultLine text names bytes) same_names
    (fault-is (IsForeverText text (names_of o) o.horizon o.format) (IsFaultLine text (names_of o)) c.hand_out.result bytes
    c.outlook_on.result c.outlook_on.ensures.verdict c.outlook_on.ensures.code c.hand_out.ensures.given one)
