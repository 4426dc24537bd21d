use Rattle.std.proofs.Common.{◌≡◌, ◌++◌, ℕ, length, ap, ◌∙◌, arith, rules}
use Rattle.std.specs.List.{filter_map, range_with_len}
use Rattle.mcs_system.specs.System.{System}
use Rattle.mcs_ever_found.specs.Period.{abandoned_word}
use Rattle.mcs_ever_told.specs.Lines.{abandoned_line}
use Rattle.mcs_ever_told.proofs.Numbers.{lines-more}
use Rattle.mcs_ever_told.proofs.outlook.lines.push_abandoned.Goals as goal

pub loop-note-preserved : goal.loop-note-preserved
loop-note-preserved c = λ by from before kept.
    let s = c.args.system.now in
    lines-more (abandoned_line s c.args.own.now (abandoned_word s by from))
    c.loop-note.note _ _ _ _ (c.loop-note.invariant by from before kept) c.in_ok-push.ensures (c.abandoned_line-line.ensures by from before kept)

pub returns : goal.returns
returns c = λ by from before kept.
    let s = c.args.system.now in
    let many : length c.parts.result.now.notes ≡ length s.notes = ap (λ (s : System). length s.notes) c.parts.ensures.same in
    let all : c.loop-note.note ≡ length s.notes = (let n : c.len-note-end.result ≡ length c.parts.result.now.notes = search rules in
    let l = c.loop-note-test.false in let end = c.loop-note.auto.note-end in omega (arith, n, many)) in
    c.loop-note.invariant by from before kept
    ∙ ap (λ (n : ℕ). c.args.lines.now.items ++ filter_map (abandoned_line s c.args.own.now (abandoned_word s by from)) (range_with_len 0 n)) all
