use Rattle.std.proofs.Common.{◌≡◌, length, take, take_all, sym, subst, arith}
use Rattle.std.specs.Io.KnownBytes.{Appends}
use Rattle.std.proofs.KnownBytes.{Appends-kept}
use Rattle.mcs_cli.proofs.streams.write_text.Goals as goal

-- if the flush fails, the whole text is written
pub returns-then-is_err-clause-prefix : goal.returns-then-is_err-clause-prefix
returns-then-is_err-clause-prefix g c =
    let held = g.T.Target.contents in
    let text = c.args.text.now in
    let all : take (length text) text ≡ text = take_all _ _ (omega arith) in
    let written = Appends-kept _ _ _ _ c.in_ok-write_bytes.ensures.ok c.flush.ensures.bytes in
    (length text, subst (Appends (held c.args.target.now) (held c.flush.new.self)) (sym all) written)
