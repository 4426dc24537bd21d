-- A first part of a list and the part after it are a longer first part.
use Rattle.std.proofs.Common.{◌≡◌, ◌∙◌, ◌+◌, ◌-◌, ◌++◌, ℕ, List, length, take, drop, ap, sym, arith, take_all, length-drop}
use Rattle.std.proofs.Math.Seq.{take-add}

pub part_after : (at n : ℕ) (bytes : List ℕ)
    → take at bytes ++ take n (take (length bytes - at) (drop at bytes)) ≡ take (at + n) bytes
part_after at n bytes =
    let all : take (length bytes - at) (drop at bytes) ≡ drop at bytes =
    take_all (length bytes - at) (drop at bytes) (omega (arith, length-drop at bytes)) in
    ap (λ rest. take at bytes ++ take n rest) all ∙ sym (take-add at n bytes)
