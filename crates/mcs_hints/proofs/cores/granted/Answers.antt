use Rattle.std.proofs.Common.{◌≡◌, ◌+◌, ◌≤◌, length, get_or, sym, ap, ◌∙◌, arith}
use Rattle.std.proofs.lemmas.Bool.{eqb-true, eqb-false}
use Rattle.mcs_system.specs.declared.part.ContextPart.{ContextPart}
use Rattle.mcs_system.specs.System.{System, context_part}
use Rattle.mcs_hints.specs.Contexts.{share_of}
use Rattle.mcs_hints.proofs.Numbers.{at_number, length-numbers}
use Rattle.mcs_hints.proofs.Grants.{granted_below, granted_le, granted_more_yes, granted_more_no, part_known, share_of_le}
use Rattle.mcs_hints.proofs.cores.granted.Goals as goal
use Rattle.mcs_hints.proofs.cores.granted.Goals.{then-eq, else-eq}

pub bounds-shares-context : goal.bounds-shares-context
bounds-shares-context c =
    let system = c.args.system.now in
    let parts : length c.as_slice-part-items.result.now ≡ length system.contexts = ap length c.as_slice-part-items.ensures ∙ ap (λ (system : System). length system.contexts) c.parts.ensures.same in
    let shares : length c.args.shares.now ≡ length system.contexts = ap length c.requires ∙ length-numbers (share_of system) (length system.contexts) in
    omega arith

pub overflow_add-granted : goal.overflow_add-granted
overflow_add-granted c =
    let system = c.args.system.now in
    let n = c.loop-context.context in
    let well = c.parts.ensures.well_formed in
    let parts : length c.as_slice-part-items.result.now ≡ length system.contexts = ap length c.as_slice-part-items.ensures ∙ ap (λ (system : System). length system.contexts) c.parts.ensures.same in
    let share : get_or c.args.shares.now n 0 ≡ share_of system n =
    ap (λ shares. get_or shares n 0) c.requires ∙ at_number (share_of system) (length system.contexts) n 0 (omega (arith, parts, c.loop-context-test.true))
    in
    let few : length system.contexts ≤ 4096 = well.context_names.few in
    omega (arith, parts, share, few, c.loop-context-test.true, c.loop-context.invariant, granted_le system c.args.core n well, share_of_le system well n)

pub loop-context-preserved : goal.loop-context-preserved
loop-context-preserved c =
    let system = c.args.system.now in
    let n = c.loop-context.context in
    let same = c.as_slice-part-items.ensures ∙ ap (λ (system : System). system.contexts) c.parts.ensures.same in
    let parts = ap length same in
    let share : get_or c.args.shares.now n 0 ≡ share_of system n =
    ap (λ shares. get_or shares n 0) c.requires ∙ at_number (share_of system) (length system.contexts) n 0 (omega (arith, parts, c.loop-context-test.true))
    in
    let core : c.part-item.result.core ≡ (context_part system n).core =
    ap (λ (part : ContextPart). part.core) (part_known system c.as_slice-part-items.result.now n c.part-item.result same c.loop-context-test.true c.part-item.is)
    in
    elim c.if-eq.branch [
      | then-eq w ↦
          w.granted-is ∙ ap (λ x. x + get_or c.args.shares.now n 0) c.loop-context.invariant ∙ ap (λ x. granted_below system c.args.core n + x) share
          ∙ sym (granted_more_yes system c.args.core n (sym core ∙ eqb-true c.part-item.result.core c.args.core (sym c.eq.ensures ∙ w.if-eq.true)))
      | else-eq w ↦
          w.granted-is ∙ c.loop-context.invariant
          ∙ sym (granted_more_no system c.args.core n (λ e. eqb-false c.part-item.result.core c.args.core (sym c.eq.ensures ∙ w.if-eq.false) (core ∙ e)))
    ]
