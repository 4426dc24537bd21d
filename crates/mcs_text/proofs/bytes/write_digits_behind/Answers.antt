use Rattle.std.proofs.Common.{◌≡◌, ◌∙◌, suc, ◌+◌, ◌-◌, ◌≤◌, ◌++◌, ◌∷◌, length, take, drop, replicate, ap, arith, rules, subst, take-take}
use Rattle.std.specs.Fmt.{decimal}
use Rattle.std.proofs.lemmas.Fmt.{length-decimal-le}
use Rattle.std.proofs.lemmas.List.{get_or-replicate}
use Rattle.mcs_text.proofs.Behind.{take_digits, take_part}
use Rattle.mcs_text.proofs.bytes.write_digits_behind.Goals as goal

pub write_digits-start-requires : goal.write_digits-start-requires
write_digits-start-requires c = (omega (arith, length-decimal-le 20 c.args.number (omega arith) (omega arith) (omega arith)), omega arith)

pub overflow_sub-start : goal.overflow_sub-start
overflow_sub-start c =
    omega (arith, c.write_digits-start.ensures.start, length-decimal-le 20 c.args.number (omega arith) (omega arith) (omega arith))

pub returns-clause-written : goal.returns-clause-written
returns-clause-written c =
    let at = c.args.at in
    let digits = decimal c.args.number in
    let block = c.write_digits-start.new.buf in
    let behind : 1 ≤ c.write_digits-start.result =
    omega (arith, c.write_digits-start.ensures.start, length-decimal-le 20 c.args.number (omega arith) (omega arith) (omega arith))
    in
    let start = c.write_digits-start.result - 1 in
    let next : c.write_digits-start.result ≡ start + 1 = omega arith in
    let size : length block ≡ 42 = search rules in
    let before : take (start + 1) block ≡ take (start + 1) (replicate 42 32) =
    subst (λ n. take n block ≡ take n (replicate 42 32)) next c.write_digits-start.ensures.before
    in
    let written = subst (λ n. drop n block ≡ digits ++ drop 21 (replicate 42 32)) next c.write_digits-start.ensures.written in
    let many : 21 - start ≡ suc (length digits) = omega (arith, c.write_digits-start.ensures.start) in
    let copied : c.copy_from_slice-2.new.self ≡ take (start + 21 - start) (drop start block) = search rules in
    let text : take (21 - start) c.copy_from_slice-2.new.self ≡ 32 ∷ digits =
    ap (take (21 - start)) copied ∙ take-take _ _ (drop start block) (omega arith) ∙ ap (λ n. take n (drop start block)) many
    ∙ take_digits (replicate 42 32) block digits _ start (omega arith) (get_or-replicate 42 start 32 0 (omega arith)) before written
    in
    take_part c.args.bytes.now c.copy_from_slice-2.new.self at _ (21 - start) (omega arith) (search rules)
    ∙ ap (λ word. take at c.args.bytes.now ++ word) text
