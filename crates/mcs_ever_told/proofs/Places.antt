-- Facts about each place of a list, after one place is written or one is appended.
use Rattle.std.proofs.Common.{◌≡◌, ◌≢◌, ℕ, zero, suc, ◌+◌, ◌<◌, ◌≤◌, ◌⊎◌, inl, inr, List, [], ◌∷◌, ◌++◌, length, get_or, set, refl, sym, subst, arith}
use Rattle.std.proofs.lemmas.Bool.{cases_lt, cases_eq}
use Rattle.std.proofs.lemmas.List.{get_or_append_left, get_or_push, get_or-set_same, get_or-set_other}

-- the default plays no part within a list
pub same-at : {T : Type 0} (xs : List T) (i : ℕ) (d e : T) → i < length xs → get_or xs i d ≡ get_or xs i e
same-at [] i d e l = absurd (omega (arith, l))
same-at (x ∷ xs) zero d e l = refl
same-at (x ∷ xs) (suc i) d e l = same-at xs i d e (omega (arith, l))

module _ {T : Type 0} (P : ℕ → T → Type 0) (e : T) where
  -- one more at the end
  pub pushed : (xs : List T) (n : ℕ) (x : T) → length xs ≡ n → ((k : ℕ) → k < n → P k (get_or xs k e)) → P n x →
      (k : ℕ) → k < n + 1 → P k (get_or (xs ++ x ∷ []) k e)
  pushed xs n x many each here k l = by (cases_lt k n)
    where
      by : (k < n) ⊎ (n ≤ k) → P k (get_or (xs ++ x ∷ []) k e)
      by (inl less) =
          let within : k < length xs = omega (arith, less, many) in
          let Q : T → Type 0 = λ y. P k y in
          subst Q (sym (get_or_append_left xs (x ∷ []) e k within)) (each k less)
      by (inr more) =
          let same : n ≡ k = omega (arith, l, more) in
          let Q : T → Type 0 = λ y. P n y in
          let R : ℕ → Type 0 = λ m. P m (get_or (xs ++ x ∷ []) m e) in
          subst R same (subst Q (sym (get_or_push xs x e n many)) here)

  -- one is written
  pub written : (xs : List T) (n : ℕ) (x : T) → n < length xs → (k : ℕ) → (k ≢ n → P k (get_or xs k e)) → P n x → P k (get_or (set xs n x) k e)
  written xs n x within k each here = by (cases_eq k n)
    where
      by : (k ≡ n) ⊎ (k ≢ n) → P k (get_or (set xs n x) k e)
      by (inl same) =
          let Q : T → Type 0 = λ y. P n y in
          let R : ℕ → Type 0 = λ m. P m (get_or (set xs n x) m e) in
          subst R (sym same) (subst Q (sym (get_or-set_same xs n x e within)) here)
      by (inr other) =
          let Q : T → Type 0 = λ y. P k y in
          subst Q (sym (get_or-set_other xs n k x e other)) (each other)
