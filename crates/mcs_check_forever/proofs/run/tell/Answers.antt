use Rattle.std.proofs.Common.{rules, ◌≡◌, IfSome, IsSome, List, ℕ, ap, map, refl, string_bytes, subst, sym}
use Rattle.std.specs.Prelude.{Err}
use Rattle.std.specs.Io.KnownBytes.{Appends}
use Rattle.mcs_cli.specs.Devices.{AppendsPrefix}
use Rattle.mcs_team.specs.declared.run.SimFault.TheVariants as memory
use Rattle.mcs_check_run.specs.Allowed.{IsUnknownFault, first_unknown, notifications, names_of}
use Rattle.mcs_check_run.specs.declared.fault.CheckFault.TheVariants as check
use Rattle.mcs_check_forever.specs.declared.forever_fault.ForeverFault.TheVariants.{Check}
use Rattle.mcs_check_forever.specs.Foretold.{IsTold}
use Rattle.mcs_check_forever.proofs.Foretelling.{memory-told, part-told, refused-told}
use Rattle.mcs_check_forever.proofs.run.tell.Goals as goal

pub returns-in_err-refuse_unknown-clause-told : goal.returns-in_err-refuse_unknown-clause-told
returns-in_err-refuse_unknown-clause-told g c =
    let options = c.args.options.now in
    let system = c.args.system in
    let fault = c.in_err-refuse_unknown.field-0.0 in
    let result_is : c.from_residual.result ≡ Err (Check fault) = search rules in
    let system_is : c.parts.result.now ≡ system = search rules in
    let names_are : c.as_slice.result.now ≡ options.allowed.items = search rules in
    let unknown = subst (λ names. IfSome (first_unknown (notifications c.parts.result.now) (map (λ name. string_bytes name) names))
    (λ name. IsUnknownFault (notifications c.parts.result.now) name fault)) names_are c.in_err-refuse_unknown.ensures.unknown in
    let some = subst (λ names. IsSome (first_unknown (notifications c.parts.result.now) (map (λ name. string_bytes name) names))) names_are c.in_err-refuse_unknown.ensures.some in
    let own = subst (λ s. IfSome (first_unknown (notifications s) (names_of options)) (λ name. IsUnknownFault (notifications s) name fault)) system_is unknown in
    let there = subst (λ s. IsSome (first_unknown (notifications s) (names_of options))) system_is some in
    subst (IsTold (g.T.Target.contents c.args.target.now) (g.T.Target.contents c.args.target.now) (g.T.Target.has_failed c.args.target.now) options system)
    (sym result_is) (refused-told options system _ _ fault (first_unknown (notifications system) (names_of options)) refl there own)

pub returns-in_default-clause-told : goal.returns-in_default-clause-told
returns-in_default-clause-told g c = memory-told c.args.options.now c.args.system _ _ _ memory.NoMemory (ap Err c.no_memory.ensures)

pub returns-in_err-write_text-clause-told : goal.returns-in_err-write_text-clause-told
returns-in_err-write_text-clause-told g c =
    let fault = c.in_err-write_text.field-0.0 in
    let text = c.in-Ok.text.items in
    let result_is : c.from_residual-in_err-write_text.result ≡ Err (Check (check.Run fault)) = search rules in
    let text_is : c.as_slice-2.result.now ≡ text = search rules in
    let old = g.T.Target.contents c.args.target.now in
    let new = g.T.Target.contents c.write_text.new.target in
    let so = rw c.in-Ok.is at c.foretold.ensures in
    let part = subst (λ (t : List ℕ). AppendsPrefix old new t) text_is c.in_err-write_text.ensures.prefix in
    subst (IsTold old new (g.T.Target.has_failed c.write_text.new.target) c.args.options.now c.args.system)
    (sym result_is) (part-told c.args.options.now c.args.system _ _ _ fault c.in-Ok.verdict text c.in_err-write_text.ensures.fault.0 c.in_err-write_text.ensures.fault.1 so part)

pub returns-clause-told : goal.returns-clause-told
returns-clause-told g c =
    let text = c.in-Ok.text.items in
    let text_is : c.as_slice-2.result.now ≡ text = search rules in
    let old = g.T.Target.contents c.args.target.now in
    let new = g.T.Target.contents c.write_text.new.target in
    let so = rw c.in-Ok.is at c.foretold.ensures in
    (text, so, subst (λ (t : List ℕ). Appends old new t) text_is c.in_ok-write_text.ensures.ok)
