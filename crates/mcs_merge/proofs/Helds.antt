-- Lemmas on lists that are written back whole, and on errors.
use Rattle.std.proofs.Common.{◌≡◌, ℕ, List, ◌++◌, length, take, Result, Ok, Err, OnErr}
use Rattle.std.proofs.lemmas.List.{take_at}

pub err_same : {T E P : Type 0} (r : Result T E) → P → OnErr r P
err_same (Ok x) p = tt
err_same (Err e) p = p

-- a list that is written back whole
pub written_whole : {X : Type 0} (n : ℕ) (xs ys : List X) → length xs ≡ n → take n (xs ++ ys) ≡ xs
written_whole n xs ys e = take_at xs ys n e
