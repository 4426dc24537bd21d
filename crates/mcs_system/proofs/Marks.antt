-- Marks of the keys that the first n elements of a list have.
use Rattle.std.proofs.Common.{◌≡◌, ◌≢◌, ℕ, ◌+◌, ◌<◌, ◌≤◌, ◌⊎◌, inl, inr, Bool, true, false, true≢false, List, length, get_or, set, replicate, AllPairs, sym, ap, refl, ◌∙◌, arith}
use Rattle.std.proofs.lemmas.Bool.{cases_lt, cases_eq}
use Rattle.std.proofs.lemmas.List.{get_or_default, get_or-set_same, get_or-set_other, length-set, get_or-replicate, get_or_past, length-replicate}
use Rattle.mcs_system.proofs.Distinct.{DifferBelow}

module _ {A : Type 0} (key : A → ℕ) (xs : List A) where
  pub record AreMarked (marks : List Bool) (n : ℕ) : Type 0 where
    pub room : length marks ≡ 4096
    pub differ : DifferBelow key xs n
    pub marked : (i : ℕ) (d : A) → i < n → get_or marks (key (get_or xs i d)) false ≡ true
    pub only : (k : ℕ) → get_or marks k false ≡ true → (i : ℕ) × (i < n) × ((d : A) → key (get_or xs i d) ≡ k)

  unmarked : (k : ℕ) → get_or (replicate 4096 false) k false ≡ false
  unmarked k =
      by (cases_lt k 4096)
    where
      by : (k < 4096) ⊎ (4096 ≤ k) → get_or (replicate 4096 false) k false ≡ false
      by (inl within) = get_or-replicate 4096 k false false within
      by (inr past) = get_or_past (replicate 4096 false) k false (omega (arith, length-replicate 4096 false))

  pub marked_none : AreMarked (replicate 4096 false) 0
  marked_none = record {
    room = length-replicate 4096 false;
    differ = λ i j d less within. absurd (omega arith);
    marked = λ i d within. absurd (omega arith);
    only = λ k m. absurd (true≢false (sym m ∙ unmarked k));
  }

  module _ (marks : List Bool) (n : ℕ) (x : A) (h : n < length xs) (e : x ≡ get_or xs n x) where
    there : (j : ℕ) (d : A) → j ≡ n → key (get_or xs j d) ≡ key x
    there j d at = ap (λ k. key (get_or xs k d)) at ∙ ap key (get_or_default xs n d x h ∙ sym e)

    pub marked_not : get_or marks (key x) false ≡ true → AreMarked marks n → ¬ AllPairs (λ a b. key a ≢ key b) xs
    marked_not m are all =
        from (are.only (key x) m)
      where
        from : (i : ℕ) × (i < n) × ((d : A) → key (get_or xs i d) ≡ key x) → ⊥
        from (i, less, same) = all i n x less h (same x ∙ ap key e)

    module _ (inside : key x < 4096) (free : get_or marks (key x) false ≡ false) (are : AreMarked marks n) where
      marked-old : (k : ℕ) → get_or marks k false ≡ true → get_or (set marks (key x) true) k false ≡ true
      marked-old k m =
          by (cases_eq k (key x))
        where
          by : (k ≡ key x) ⊎ (k ≢ key x) → get_or (set marks (key x) true) k false ≡ true
          by (inl same) = absurd (true≢false (sym m ∙ ap (λ i. get_or marks i false) same ∙ free))
          by (inr other) = get_or-set_other marks (key x) k true false other ∙ m

      differ_next : DifferBelow key xs (n + 1)
      differ_next i j d less within =
          by (cases_lt j n)
        where
          by : (j < n) ⊎ (n ≤ j) → key (get_or xs i d) ≢ key (get_or xs j d)
          by (inl before) = are.differ i j d less before
          by (inr last) = λ same. true≢false (sym (are.marked i d (omega arith)) ∙ ap (λ k. get_or marks k false) (same ∙ there j d (omega arith)) ∙ free)

      marked_next : (i : ℕ) (d : A) → i < n + 1 → get_or (set marks (key x) true) (key (get_or xs i d)) false ≡ true
      marked_next i d within =
          by (cases_lt i n)
        where
          by : (i < n) ⊎ (n ≤ i) → get_or (set marks (key x) true) (key (get_or xs i d)) false ≡ true
          by (inl before) = marked-old (key (get_or xs i d)) (are.marked i d before)
          by (inr last) = ap (λ k. get_or (set marks (key x) true) k false) (there i d (omega arith)) ∙ get_or-set_same marks (key x) true false (omega (arith, are.room))

      only_next : (k : ℕ) → get_or (set marks (key x) true) k false ≡ true → (i : ℕ) × (i < n + 1) × ((d : A) → key (get_or xs i d) ≡ k)
      only_next k m =
          by (cases_eq k (key x))
        where
          later : (i : ℕ) × (i < n) × ((d : A) → key (get_or xs i d) ≡ k) → (i : ℕ) × (i < n + 1) × ((d : A) → key (get_or xs i d) ≡ k)
          later (i, less, same) = (i, omega arith, same)

          by : (k ≡ key x) ⊎ (k ≢ key x) → (i : ℕ) × (i < n + 1) × ((d : A) → key (get_or xs i d) ≡ k)
          by (inl same) = (n, omega arith, λ d. there n d refl ∙ sym same)
          by (inr other) = later (are.only k (sym (get_or-set_other marks (key x) k true false other) ∙ m))

      pub marked_more : AreMarked (set marks (key x) true) (n + 1)
      marked_more = record { room = length-set marks (key x) true ∙ are.room; differ = differ_next; marked = marked_next; only = only_next }
