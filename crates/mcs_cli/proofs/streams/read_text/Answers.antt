use Rattle.std.proofs.Common.{rules, ◌≡◌, ◌++◌, ℕ, List, length, take, inr, arith, length-append}
use Rattle.std.proofs.KnownBytes.{Consumes-trans}
use Rattle.mcs_cli.specs.Devices.{IsCounted}
use Rattle.mcs_cli.proofs.streams.read_text.Goals as goal

-- a read after others counts its bytes behind theirs
counted-more : (old mid new n : ℕ) (xs ys : List ℕ) → IsCounted old mid (length xs) → IsCounted mid new n → n ≡ length ys → IsCounted old new (length (xs ++ ys))
counted-more old mid new n xs ys h k e =
    rw (length-append xs ys) (record { most = omega (arith, h.most, k.most, e); least = omega (arith, h.least, k.least, e) })

pub returns-then-len-gt-FILE-clause-fault : goal.returns-then-len-gt-FILE-clause-fault
returns-then-len-gt-FILE-clause-fault g c =
    let read = Consumes-trans _ _ _ _ _ c.loop.invariant.read c.in-Ok.ensures.bytes.0 in
    let bytes = c.loop.text.items ++ take c.in-Ok.n c.read.new.buffer in
    let counted = counted-more _ _ _ c.in-Ok.n c.loop.text.items (take c.in-Ok.n c.read.new.buffer) c.loop.invariant.given c.in-Ok.ensures.counted c.in-Ok.ensures.bound.1 in
    let grown : c.extend_from_slice.new.self.items ≡ bytes = search rules in
    inr (bytes, (read, counted), rw (← grown) (grind arith))
