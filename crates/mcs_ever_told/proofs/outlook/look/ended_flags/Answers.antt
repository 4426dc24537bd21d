use Rattle.std.proofs.Common.{◌≡◌, ℕ, Bool, false, List, [], ◌∷◌, ◌++◌, length, get_or, map, sym, ap, ◌∙◌, arith, rules}
use Rattle.std.specs.List.{range_with_len}
use Rattle.std.proofs.lemmas.List.FromFn.{map-range_with_len_more}
use Rattle.mcs_system.specs.System.{System}
use Rattle.mcs_ever_told.proofs.Since.{all-ended}
use Rattle.mcs_ever_told.proofs.outlook.look.ended_flags.Goals as goal

pub loop-thread-preserved : goal.loop-thread-preserved
loop-thread-preserved c =
    let ended = c.args.doings.now.ended in
    let f : ℕ → Bool = λ thread. get_or ended thread false in
    let k = c.loop-thread.thread in
    c.in_ok-push.ensures.items ∙ ap (λ (flag : Bool). c.loop-thread.flags.items ++ flag ∷ []) c.ends_round.ensures
    ∙ ap (λ (flags : List Bool). flags ++ f k ∷ []) c.loop-thread.invariant
    ∙ sym (map-range_with_len_more f 0 k k (omega arith))

pub returns : goal.returns
returns c = λ rows is.
    let s = c.args.system.now in
    let f : ℕ → Bool = λ thread. get_or c.args.doings.now.ended thread false in
    let many : length c.parts.result.now.threads ≡ length s.threads = ap (λ (s : System). length s.threads) c.parts.ensures.same in
    let all : c.loop-thread.thread ≡ length s.threads = (let n : c.len-thread-end.result ≡ length c.parts.result.now.threads = search rules in
    let l = c.loop-thread-test.false in let end = c.loop-thread.auto.thread-end in omega (arith, n, many)) in
    c.loop-thread.invariant ∙ ap (λ (n : ℕ). map f (range_with_len 0 n)) all ∙ all-ended s rows c.args.doings.now is
