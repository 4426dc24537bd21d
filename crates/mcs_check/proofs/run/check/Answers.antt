use Rattle.std.proofs.Common.{rules, ◌≡◌, None, IfSome, IsSome, false, map, refl, string_bytes, subst, sym}
use Rattle.std.specs.Prelude.{Err}
use Rattle.mcs_check_lines.specs.Formats.{is_mixed}
use Rattle.mcs_check_run.specs.Allowed.{IsUnknownFault, first_unknown, notifications, names_of}
use Rattle.mcs_check.specs.Check.{IsCheck}
use Rattle.mcs_check.proofs.Unknown.{unknown-fault}
use Rattle.mcs_check.proofs.run.check.Goals as goal

pub returns-in_err-refuse_unknown-clause-check : goal.returns-in_err-refuse_unknown-clause-check
returns-in_err-refuse_unknown-clause-check g c =
    let options = c.args.options.now in
    let fault = c.in_err-refuse_unknown.field-0.0 in
    let result_is : c.from_residual-in_err-refuse_unknown.result ≡ Err c.in_err-refuse_unknown.field-0.0 = search rules in
    let system_is : c.parts.result.now ≡ c.in_ok-system.system = search rules in
    let names_are : c.as_slice.result.now ≡ c.args.options.now.allowed.items = search rules in
    let unknown = subst (λ names. IfSome (first_unknown (notifications c.parts.result.now) (map (λ name. string_bytes name) names))
    (λ name. IsUnknownFault (notifications c.parts.result.now) name fault)) names_are c.in_err-refuse_unknown.ensures.unknown in
    let some = subst (λ names. IsSome (first_unknown (notifications c.parts.result.now) (map (λ name. string_bytes name) names))) names_are c.in_err-refuse_unknown.ensures.some in
    let own = subst (λ s. IfSome (first_unknown (notifications s) (names_of options)) (λ name. IsUnknownFault (notifications s) name fault)) system_is unknown in
    let there = subst (λ s. IsSome (first_unknown (notifications s) (names_of options))) system_is some in
    subst (IsCheck (g.S.Source.remaining c.args.source.now) (g.S.Source.remaining c.read_system.new.source) (g.S.Source.given c.args.source.now)
    (g.S.Source.given c.read_system.new.source) (g.S.Source.has_failed c.read_system.new.source) (g.T.Target.contents c.args.target.now)
    (g.T.Target.contents c.args.target.now) (g.T.Target.has_failed c.args.target.now) options) (sym result_is)
    (unknown-fault _ _ _ _ _ _ _ options c.in_ok-system.system c.in_ok-system.ensures.ok (first_unknown (notifications c.in_ok-system.system) (names_of options)) fault refl there own)

pub returns-clause-check : goal.returns-clause-check
returns-clause-check g c =
    let options = c.args.options.now in
    let system = c.in_ok-system.system in
    let not_mixed : is_mixed options.format options.show ≡ false = search rules in
    let system_is : c.parts.result.now ≡ system = search rules in
    let names_are : c.as_slice.result.now ≡ options.allowed.items = search rules in
    let named = subst (λ names. first_unknown (notifications c.parts.result.now) (map (λ name. string_bytes name) names) ≡ None) names_are c.in_ok-refuse_unknown.ensures.known in
    let known = subst (λ s. first_unknown (notifications s) (names_of options) ≡ None) system_is named in
    (system, c.in_ok-system.ensures.ok, not_mixed, known, c.in_ok-checked.ensures.ok, c.in_ok-checked.ensures.counted)
