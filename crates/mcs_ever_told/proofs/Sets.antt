-- The text of a set of cores, one core after another.
use Rattle.std.proofs.Common.{arith, ◌≡◌, ◌∙◌, ◌+◌, ◌++◌, ◌∷◌, [], ℕ, Bool, true, false, List, cond, decimal, map, refl, ap, ap₂, sym, append_assoc, append-nil}
use Rattle.std.specs.List.{filter, join_with_byte, range_with_len}
use Rattle.std.proofs.lemmas.List.{map-id}
use Rattle.std.proofs.lemmas.List.FromFn.{filter_of_map_range_with_len_more}
use Rattle.std.proofs.lemmas.List.{map-append}
use Rattle.mcs_ever.specs.Closed.{has}

-- the numbers of those of the set below n
abbrev pub told : List Bool → ℕ → List (List ℕ)
told set n = map decimal (filter (has set) (range_with_len 0 n))

abbrev pub is_any : List (List ℕ) → Bool
is_any [] = false
is_any (word ∷ words) = true

-- the text of those below n, and whether there is one
pub record IsTold (set : List Bool) (n : ℕ) (later : Bool) (text : List ℕ) : Type 0 where
  pub text_is : text ≡ join_with_byte 32 (told set n)
  pub later_is : later ≡ is_any (told set n)

joined : (words : List (List ℕ)) (word : List ℕ)
    → join_with_byte 32 (words ++ word ∷ []) ≡ join_with_byte 32 words ++ cond (is_any words) (32 ∷ word) word
joined [] word = refl
joined (x ∷ []) word = refl
joined (x ∷ y ∷ words) word =
    ap (λ l. x ++ (32 ∷ l)) (joined (y ∷ words) word) ∙ sym (append_assoc x (32 ∷ join_with_byte 32 (y ∷ words)) (32 ∷ word))

any-more : (words : List (List ℕ)) (word : List ℕ) → true ≡ is_any (words ++ word ∷ [])
any-more [] word = refl
any-more (x ∷ words) word = refl

kept-more : (set : List Bool) (n : ℕ)
    → filter (has set) (range_with_len 0 (n + 1)) ≡ filter (has set) (range_with_len 0 n) ++ cond (has set n) (n ∷ []) []
kept-more set n =
    ap (filter (has set)) (sym (map-id (range_with_len 0 (n + 1))))
    ∙ filter_of_map_range_with_len_more (has set) (λ core. core) 0 n n (omega arith)
    ∙ ap (λ l. filter (has set) l ++ cond (has set n) (n ∷ []) []) (map-id (range_with_len 0 n))

told-more : (set : List Bool) (n : ℕ) (one : Bool) → has set n ≡ one → told set (n + 1) ≡ told set n ++ map decimal (cond one (n ∷ []) [])
told-more set n one is =
    ap (map decimal) (kept-more set n ∙ ap (λ b. filter (has set) (range_with_len 0 n) ++ cond b (n ∷ []) []) is)
    ∙ map-append decimal (filter (has set) (range_with_len 0 n)) (cond one (n ∷ []) [])

pub passed-by : (set : List Bool) (n : ℕ) (later : Bool) (text : List ℕ) → has set n ≡ false → IsTold set n later text → IsTold set (n + 1) later text
passed-by set n later text not told_before =
    let same : told set (n + 1) ≡ told set n = told-more set n false not ∙ append-nil (told set n) in
    record {
      text_is = told_before.text_is ∙ ap (join_with_byte 32) (sym same);
      later_is = told_before.later_is ∙ ap is_any (sym same);
    }

pub one-more : (set : List Bool) (n : ℕ) (later : Bool) (text : List ℕ) → has set n ≡ true → IsTold set n later text
    → IsTold set (n + 1) true (text ++ cond later (32 ∷ decimal n) (decimal n))
one-more set n later text own told_before =
    let more : told set (n + 1) ≡ told set n ++ decimal n ∷ [] = told-more set n true own in
    record {
      text_is =
          ap₂ (λ l b. l ++ cond b (32 ∷ decimal n) (decimal n)) told_before.text_is told_before.later_is
          ∙ sym (joined (told set n) (decimal n)) ∙ ap (join_with_byte 32) (sym more);
      later_is = any-more (told set n) (decimal n) ∙ ap is_any (sym more);
    }
