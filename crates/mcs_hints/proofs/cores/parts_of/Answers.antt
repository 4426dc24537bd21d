use Rattle.std.proofs.Common.{◌≡◌, false, eqb, [], ◌∷◌, ◌++◌, length, get_or, Vec, Global, Some, None, sym, ap, ◌∙◌, arith}
use Rattle.std.specs.Prelude.{◌&&◌}
use Rattle.std.proofs.lemmas.List.{length-append, append-nil}
use Rattle.std.proofs.lemmas.List.Elements.{All-push, All-same}
use Rattle.mcs_system.specs.declared.part.ContextPart.{ContextPart}
use Rattle.mcs_system.specs.System.{System}
use Rattle.mcs_hints.specs.declared.exact.Fraction.{Fraction}
use Rattle.mcs_hints.specs.Contexts.{is_bound, part_where}
use Rattle.mcs_hints.specs.Cores.{part_of}
use Rattle.mcs_hints.specs.Exact.{IsFraction}
use Rattle.mcs_hints.proofs.Numbers.{at_number, length-numbers, kept_more}
use Rattle.mcs_hints.proofs.Grants.{part_known, config_known}
use Rattle.mcs_hints.proofs.cores.parts_of.Goals as goal
use Rattle.mcs_hints.proofs.cores.parts_of.Goals.{then-eq, else-eq, in-Some+in_ok-push, in_default}

pub bounds-bounds-context : goal.bounds-bounds-context
bounds-bounds-context c =
    let system = c.args.system.now in
    let parts : length c.as_slice-context_part-items.result.now ≡ length system.contexts =
    ap length c.as_slice-context_part-items.ensures ∙ ap (λ (system : System). length system.contexts) c.parts.ensures.same
    in
    let bounds : length c.args.bounds.now ≡ length system.contexts = ap length c.requires ∙ length-numbers (is_bound system.threads) (length system.contexts) in
    omega arith

pub part-requires : goal.part-requires
part-requires c =
    let system = c.args.system.now in
    let n = c.loop-context.context in
    let same = c.as_slice-context_part-items.ensures ∙ ap (λ (system : System). system.contexts) c.parts.ensures.same in
    let parts = ap length same in
    config_known system n c.context_part-item.result c.parts.ensures.well_formed (omega (arith, parts, c.loop-context-test.true))
    (part_known system c.as_slice-context_part-items.result.now n c.context_part-item.result same c.loop-context-test.true c.context_part-item.is)

pub loop-context-preserved : goal.loop-context-preserved
loop-context-preserved c =
    let system = c.args.system.now in
    let core = c.args.core in
    let n = c.loop-context.context in
    let same = c.as_slice-context_part-items.ensures ∙ ap (λ (system : System). system.contexts) c.parts.ensures.same in
    let parts = ap length same in
    let part = part_known system c.as_slice-context_part-items.result.now n c.context_part-item.result same c.loop-context-test.true c.context_part-item.is in
    let bound : get_or c.args.bounds.now n false ≡ is_bound system.threads n =
    ap (λ bounds. get_or bounds n false) c.requires ∙ at_number (is_bound system.threads) (length system.contexts) n false (omega (arith, parts, c.loop-context-test.true))
    in
    let uses : c.if-eq.uses ≡ (eqb c.context_part-item.result.core core && is_bound system.threads n) =
    elim c.if-eq.branch [
      | then-eq w ↦ w.uses-is ∙ bound ∙ ap (λ b. b && is_bound system.threads n) (sym w.if-eq.true ∙ c.eq.ensures)
      | else-eq w ↦ w.uses-is ∙ w.if-eq.false ∙ ap (λ b. b && is_bound system.threads n) (sym w.if-eq.false ∙ c.eq.ensures)
    ]
    in
    let is : c.part.result ≡ part_of system core n =
    c.part.ensures.part ∙ ap (λ b. part_where b c.context_part-item.result.config) uses
    ∙ ap (λ (part : ContextPart). part_where (eqb part.core core && is_bound system.threads n) part.config) part
    in
    let before = c.loop-context.parts.items in
    elim c.match-part.branch [
      | in-Some+in_ok-push w ↦
          let after : c.match-part.parts.items ≡ before ++ w.in-Some.part ∷ [] =
          ap (λ (v : Vec Fraction Global). v.items) w.parts-is ∙ w.in_ok-push.ensures.items
          in
          record {
            items = kept_more (part_of system core) n (Some w.in-Some.part) [] before c.match-part.parts.items c.loop-context.invariant.items after (sym w.in-Some.is ∙ is);
            all =
                All-same IsFraction c.match-part.parts.items (before ++ w.in-Some.part ∷ []) after
                (All-push IsFraction before w.in-Some.part c.loop-context.invariant.all w.in-Some.ensures.fraction);
            few = omega (arith, ap length after, length-append before (w.in-Some.part ∷ []), c.loop-context.invariant.few);
          }
      | in_default w ↦
          let after : c.match-part.parts.items ≡ before = ap (λ (v : Vec Fraction Global). v.items) w.parts-is in
          record {
            items =
                kept_more (part_of system core) n None [] before c.match-part.parts.items c.loop-context.invariant.items (after ∙ sym (append-nil before))
                (sym w.in_default.is ∙ is);
            all = All-same IsFraction c.match-part.parts.items before after c.loop-context.invariant.all;
            few = omega (arith, ap length after, c.loop-context.invariant.few);
          }
    ]
