use Rattle.std.proofs.Common.{◌≡◌, ◌++◌, false, length, get_or, ap, ◌∙◌, arith}
use Rattle.std.specs.List.{filter_map}
use Rattle.mcs_hints.specs.Numbers.{numbers}
use Rattle.mcs_hints.specs.Contexts.{is_bound, unbound}
use Rattle.mcs_hints.specs.stored.Marks.{unbound_by}
use Rattle.mcs_hints.proofs.Numbers.{at_number, length-numbers, kept_more}
use Rattle.mcs_hints.proofs.contexts.keep_unbound.Goals as goal

pub loop-context-preserved : goal.loop-context-preserved
loop-context-preserved c contexts threads e =
    let n = c.loop-context.context in
    let l = ap length e ∙ length-numbers (is_bound threads) contexts in
    kept_more (unbound threads) n c.unbound.result c.args.hints.now.items c.loop-context.hints.items c.keep.new.hints.items
    (c.loop-context.invariant contexts threads e)
    c.in_ok-keep.ensures
    (c.unbound.ensures ∙ ap (unbound_by n) (ap (λ bounds. get_or bounds n false) e ∙ at_number (is_bound threads) contexts n false (omega (arith, l, c.loop-context-test.true))))

pub returns : goal.returns
returns c contexts threads e =
    let l = ap length e ∙ length-numbers (is_bound threads) contexts in
    let all : c.loop-context.context ≡ contexts = omega (arith, l, c.loop-context-test.false, c.loop-context.auto.context-end) in
    c.loop-context.invariant contexts threads e ∙ ap (λ n. c.args.hints.now.items ++ filter_map (unbound threads) (numbers n)) all
