-- The parts of a text, taken off one by one.
use Rattle.std.proofs.Common.{◌≡◌, ℕ, suc, ◌+◌, ◌<◌, Bool, true, false, not, cond, eqb, List, [], ◌∷◌, length, refl, arith}
use Rattle.std.specs.Prelude.{filter}
use Rattle.std.specs.List.{slice_split, position_or_len, onto_first, before_first, after_first}
use Rattle.std.proofs.lemmas.Bool.Decides.{nat_tests}
use Rattle.std.proofs.lemmas.List.Splits.{slice_split_first}
use Rattle.mcs_script.specs.Raw.{is_empty, parts}

abbrev is_space : ℕ → Bool
is_space c = eqb c 32

-- a piece before a space that is not empty is a part
parts-piece : (text : List ℕ) → position_or_len is_space text < length text → 0 < length (before_first is_space text) →
    parts text ≡ before_first is_space text ∷ parts (after_first is_space text)
parts-piece text p e = rw (slice_split_first is_space text 0 p) (by (before_first is_space text) e)
  where
    by : (piece : List ℕ) → 0 < length piece →
        filter (λ part. not (is_empty part)) (piece ∷ slice_split is_space (after_first is_space text)) ≡ piece ∷ parts (after_first is_space text)
    by [] f = absurd (omega (arith, f))
    by (c ∷ piece) f = refl

-- a text without spaces is one part, or none
no_space : (text : List ℕ) → position_or_len is_space text ≡ length text → slice_split is_space text ≡ text ∷ []
no_space [] e = refl
no_space (c ∷ text) e = by (is_space c) e (no_space text)
  where
    by : (b : Bool) → cond (not b) (1 + position_or_len is_space text) 0 ≡ suc (length text) → (position_or_len is_space text ≡ length text → slice_split is_space text ≡ text ∷ []) →
        cond b ([] ∷ slice_split is_space text) (onto_first c (slice_split is_space text)) ≡ (c ∷ text) ∷ []
    by true f i = absurd (omega (arith, f))
    by false f i = rw (i (omega (arith, f))) refl

pub parts-last : (text : List ℕ) → position_or_len is_space text ≡ length text → 0 < length text → parts text ≡ text ∷ []
parts-last [] e p = absurd (omega arith)
parts-last (c ∷ text) e p = rw (no_space (c ∷ text) e) refl

-- a text with a length other than 0 is not empty
pub not_empty : (text : List ℕ) → eqb (length text) 0 ≡ false → 0 < length text
not_empty text e = grind (arith, nat_tests)

-- the first part of a text, and the parts after it
pub parts-found : (text part behind : List ℕ) → part ≡ before_first is_space text → behind ≡ after_first is_space text → position_or_len is_space text < length text → 0 < length part →
    parts text ≡ part ∷ parts behind
parts-found text part behind e f p q = rw (e, f) (parts-piece text p (rw e at q))
