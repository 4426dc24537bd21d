-- Lists that hold a value for each number, and what is kept while numbers are gone through.
use Rattle.std.proofs.Common.{◌≡◌, ◌≢◌, ℕ, ◌+◌, ◌<◌, ◌⊎◌, inl, inr, List, [], ◌∷◌, ◌++◌, length, get_or, set, map, replicate, Option, Some, None, refl, sym, ap, ◌∙◌, arith, append_assoc}
use Rattle.std.specs.List.{filter_map}
use Rattle.std.specs.Option.{option_to_list}
use Rattle.std.proofs.Math.Nat.{zero-add}
use Rattle.std.proofs.lemmas.Bool.{cases_eq}
use Rattle.std.proofs.lemmas.List.{get_or_read, length-set, length-replicate, get_or-set_same, get_or-set_other, get_or-replicate, map-id}
use Rattle.std.proofs.lemmas.List.Elements.{filter_map-append}
use Rattle.std.proofs.lemmas.List.FromFn.{length-map-range_with_len, get_or-map-range_with_len, map-range_with_len_more, fill_by_all}
use Rattle.mcs_hints.specs.Numbers.{numbers}

pub at_number : {X : Type 0} (f : ℕ → X) (n k : ℕ) (d : X) → k < n → get_or (map f (numbers n)) k d ≡ f k
at_number f n k d h = get_or-map-range_with_len f 0 n k k d h (zero-add k)

pub length-numbers : {X : Type 0} (f : ℕ → X) (n : ℕ) → length (map f (numbers n)) ≡ n
length-numbers f n = length-map-range_with_len f 0 n

-- one value more at this number, and the same at all others
pub set_number : {X : Type 0} (f g : ℕ → X) (n y : ℕ) (new : X) → (y < n → new ≡ g y) → ((k : ℕ) → k ≢ y → f k ≡ g k)
    → set (map f (numbers n)) y new ≡ map g (numbers n)
set_number {X} f g n y new is others = fill_by_all g (set (map f (numbers n)) y new) n new (length-set (map f (numbers n)) y new ∙ length-numbers f n) each
  where
    each : (k : ℕ) → k < n → get_or (set (map f (numbers n)) y new) k new ≡ g k
    each k h = by (cases_eq k y)
      where
        by : (k ≡ y) ⊎ (k ≢ y) → get_or (set (map f (numbers n)) y new) k new ≡ g k
        by (inl e) =
            ap (λ i. get_or (set (map f (numbers n)) y new) i new) e
            ∙ get_or-set_same (map f (numbers n)) y new new (omega (arith, length-numbers f n))
            ∙ is (omega arith)
            ∙ ap g (sym e)
        by (inr differ) = get_or-set_other (map f (numbers n)) y k new new differ ∙ at_number f n k new h ∙ others k differ

pub same_numbers : {X : Type 0} (f g : ℕ → X) (n : ℕ) (d : X) → ((k : ℕ) → f k ≡ g k) → map f (numbers n) ≡ map g (numbers n)
same_numbers f g n d same = fill_by_all g (map f (numbers n)) n d (length-numbers f n) (λ k h. at_number f n k d h ∙ same k)

pub same_for_all : {X : Type 0} (f : ℕ → X) (n : ℕ) (x : X) → ((k : ℕ) → x ≡ f k) → replicate n x ≡ map f (numbers n)
same_for_all f n x is = fill_by_all f (replicate n x) n x (length-replicate n x) (λ k h. get_or-replicate n k x x h ∙ is k)

pub numbers_more : (n : ℕ) → numbers (n + 1) ≡ numbers n ++ n ∷ []
numbers_more n =
    sym (map-id (numbers (n + 1))) ∙ map-range_with_len_more (λ x. x) 0 n n (zero-add n) ∙ ap (λ xs. xs ++ n ∷ []) (map-id (numbers n))

-- one value more
pub one_more : {X : Type 0} (f : ℕ → X) (n : ℕ) (x : X) (before after : List X) → before ≡ map f (numbers n) → after ≡ before ++ x ∷ [] → x ≡ f n
    → after ≡ map f (numbers (n + 1))
one_more f n x before after held is e =
    is ∙ ap (λ xs. xs ++ x ∷ []) held ∙ ap (λ x. map f (numbers n) ++ x ∷ []) e ∙ sym (map-range_with_len_more f 0 n n (zero-add n))

as_list : {X Y : Type 0} (h : X → Option Y) (x : X) (o : Option Y) → h x ≡ o → filter_map h (x ∷ []) ≡ option_to_list o
as_list h x None e = cc
as_list h x (Some y) e = cc

-- what a number more gives is kept last
pub kept_more : {X : Type 0} (h : ℕ → Option X) (n : ℕ) (told : Option X) (old before after : List X) → before ≡ old ++ filter_map h (numbers n)
    → after ≡ before ++ option_to_list told → told ≡ h n
    → after ≡ old ++ filter_map h (numbers (n + 1))
kept_more h n told old before after kept is e =
    is ∙ ap (λ xs. xs ++ option_to_list told) kept ∙ append_assoc old (filter_map h (numbers n)) (option_to_list told)
    ∙ ap (λ xs. old ++ (filter_map h (numbers n) ++ xs)) (ap option_to_list e ∙ sym (as_list h n (h n) refl))
    ∙ ap (λ xs. old ++ xs) (sym (filter_map-append h (numbers n) (n ∷ [])) ∙ ap (filter_map h) (sym (numbers_more n)))

-- what is read of a list
pub read_known : {X : Type 0} (read all : List X) (n : ℕ) (x d : X) → read ≡ all → n < length read → x ≡ get_or read n x → x ≡ get_or all n d
read_known read all n x d same h is = get_or_read read n x h is d ∙ ap (λ xs. get_or xs n d) same
