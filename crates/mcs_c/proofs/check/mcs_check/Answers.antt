use Rattle.std.proofs.Common.{rules, ◌≡◌, subst, take}
use Rattle.mcs_check_run.specs.Allowed.{names_of}
use Rattle.mcs_c.specs.Check.{format_of, names_in, part_of, IsFaultLine, IsVerdictText}
use Rattle.mcs_c.proofs.Given.{by-words, fault-is, lines-are}
use Rattle.mcs_c.proofs.check.mcs_check.Goals as goal

pub returns-clause-lines : goal.returns-clause-lines
returns-clause-lines c =
    let o = c.options_of-options.result in
    let text = c.args.text.now in
    let names = names_in c.args.allowed.now in
    let how = format_of c.args.format in
    let asked = part_of c.args.show in
    let same_names : names_of o ≡ names = search rules in
    let same_horizon : o.horizon ≡ c.args.horizon = search rules in
    let same_format : o.format ≡ how = search rules in
    let same_part : o.show ≡ asked = search rules in
    let bytes = take c.hand_out.new.length_of c.hand_out.new.room in
    let answer = c.hand_out.result in
    λ has. by-words (λ names horizon how asked. IsVerdictText text names horizon how asked bytes answer) (names_of o) names o.horizon c.args.horizon o.format
    how o.show asked same_names same_horizon same_format same_part
    (lines-are (IsVerdictText text (names_of o) o.horizon o.format o.show) (IsFaultLine text (names_of o)) answer bytes
    c.verdict_on.result c.verdict_on.ensures.verdict c.hand_out.ensures.given has)

pub returns-clause-fault : goal.returns-clause-fault
returns-clause-fault c =
    let o = c.options_of-options.result in
    let text = c.args.text.now in
    let names = names_in c.args.allowed.now in
    let same_names : names_of o ≡ names = search rules in
    let bytes = take c.hand_out.new.length_of c.hand_out.new.room in
    λ one. subst (λ names. IsFaultLine text names bytes) same_names
    (fault-is (IsVerdictText text (names_of o) o.horizon o.format o.show) (IsFaultLine text (names_of o)) c.hand_out.result bytes
    c.verdict_on.result c.verdict_on.ensures.verdict c.verdict_on.ensures.code c.hand_out.ensures.given one)
