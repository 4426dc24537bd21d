-- Waits that stand last or directly before a handler: by items, and by steps.
use Rattle.std.proofs.Common.{◌≡◌, ℕ, zero, suc, ◌+◌, ◌-◌, ◌<◌, ◌≤◌, nat_le, Bool, true, false, cond, ◌&&◌, ◌⊎◌, inl, inr, List, [], ◌∷◌, ◌++◌, length, length-append, get_or, Some, None, All, refl, ap, sym, ◌∙◌, subst, arith}
use Rattle.std.specs.Prelude.{Option, option_map}
use Rattle.std.specs.List.{slice_get}
use Rattle.std.proofs.lemmas.Bool.{cases_lt, and_parts, true≢false}
use Rattle.std.proofs.lemmas.Bool.Decides.{nat_tests}
use Rattle.std.proofs.lemmas.Option.{slice_get-get_or, slice_get_past}
use Rattle.mcs_script.specs.declared.item.Item.{Item}
use Rattle.mcs_script.specs.declared.item.Item.TheVariants as items
use Rattle.mcs_script.specs.Script.{is_wait, is_on, ends_handler, is_bare, first_to_look_at, AreNotBare, IsFirstBare}
use Rattle.mcs_load.specs.Script.{bare_from, first_bare}

-- the first is found, or there is none
by_test : (b : Bool) (number : ℕ) (rest : Option ℕ) → cond b (Some number) rest ≡ None → (b ≡ false) × (rest ≡ None)
by_test true number rest h = cc
by_test false number rest h = (refl, h)

one_more : (k : ℕ) → suc k + 1 ≡ suc (k + 1)
one_more k = omega arith

bare_behind : (x : Item) (xs : List Item) (k : ℕ) → is_bare (x ∷ xs) (suc k) ≡ is_bare xs k
bare_behind x xs k = ap (λ n. is_wait (slice_get xs k) && ends_handler (slice_get (x ∷ xs) n)) (one_more k)

pub none_bare : (number : ℕ) (xs : List Item) → bare_from number xs ≡ None → (k : ℕ) → k < length xs → is_bare xs k ≡ false
none_bare number [] h k within = absurd (omega arith)
none_bare number (x ∷ xs) h zero within = (by_test (is_wait (Some x) && ends_handler (slice_get xs 0)) number (bare_from (suc number) xs) h).0
none_bare number (x ∷ xs) h (suc k) within =
    bare_behind x xs k ∙ none_bare (suc number) xs (by_test (is_wait (Some x) && ends_handler (slice_get xs 0)) number (bare_from (suc number) xs) h).1 k (omega arith)

pub bare_at : (number : ℕ) (xs : List Item) (k : ℕ) → k < length xs → is_bare xs k ≡ true → ((i : ℕ) → i < k → is_bare xs i ≡ false) → bare_from number xs ≡ Some (number + k)
bare_at number [] k within h before = absurd (omega arith)
bare_at number (x ∷ xs) zero within h before = rw h (ap Some (omega arith))
bare_at number (x ∷ xs) (suc k) within h before =
    let none : (is_wait (Some x) && ends_handler (slice_get xs 0)) ≡ false = before 0 (omega arith) in
    rw none (bare_at (suc number) xs k (omega arith) (sym (bare_behind x xs k) ∙ h) (λ i less. sym (bare_behind x xs i) ∙ before (suc i) (omega arith)) ∙ ap Some (omega arith))

pub bare_none : (number : ℕ) (xs : List Item) → ((i : ℕ) → i < length xs → is_bare xs i ≡ false) → bare_from number xs ≡ None
bare_none number [] h = refl
bare_none number (x ∷ xs) h =
    let none : (is_wait (Some x) && ends_handler (slice_get xs 0)) ≡ false = h 0 (omega arith) in
    rw none (bare_none (suc number) xs (λ i less. sym (bare_behind x xs i) ∙ h (suc i) (omega arith)))

several : (n : ℕ) → cond {A = ℕ} (nat_le 2 (suc (suc n))) 1 0 ≡ 1
several n = grind (arith, nat_tests)

-- no wait is bare, as a script's items say
pub are_not_bare : (xs : List Item) → first_bare xs ≡ None → AreNotBare xs (length xs)
are_not_bare [] h k from within = absurd (omega arith)
are_not_bare (x ∷ []) h k from within = none_bare 1 (x ∷ []) h k within
are_not_bare (x ∷ y ∷ xs) h zero from within = absurd (omega (arith, several (length xs)))
are_not_bare (x ∷ y ∷ xs) h (suc k) from within = bare_behind x (y ∷ xs) k ∙ none_bare 2 (y ∷ xs) h k (omega arith)

-- the first bare wait, as a script's items say it
pub first_bare_is : (xs : List Item) (r : Option ℕ) → IsFirstBare xs r → first_bare xs ≡ option_map suc r
first_bare_is [] None h = refl
first_bare_is [] (Some k) h = absurd (omega (arith, h.1))
first_bare_is (x ∷ []) None h = bare_none 1 (x ∷ []) (λ i less. h i (omega arith) less)
first_bare_is (x ∷ []) (Some zero) h = bare_at 1 (x ∷ []) 0 h.1 h.2 (λ i less. absurd (omega arith))
first_bare_is (x ∷ []) (Some (suc k)) h = absurd (omega (arith, h.1))
first_bare_is (x ∷ y ∷ xs) None h =
    bare_none 2 (y ∷ xs) (λ i less. sym (bare_behind x (y ∷ xs) i) ∙ h (suc i) (omega (arith, several (length xs))) (omega arith))
first_bare_is (x ∷ y ∷ xs) (Some zero) h = absurd (omega (arith, h.0, several (length xs)))
first_bare_is (x ∷ y ∷ xs) (Some (suc k)) h =
    bare_at 2 (y ∷ xs) k (omega (arith, h.1)) (sym (bare_behind x (y ∷ xs) k) ∙ h.2) (λ i less. sym (bare_behind x (y ∷ xs) i) ∙ h.3 (suc i) (omega (arith, several (length xs))) (omega arith))
    ∙ ap Some (omega arith)
