-- Lists of any type, with an element inserted before the first that it precedes.
use Rattle.std.proofs.Common.{◌≡◌, suc, Bool, true, false, cond, List, [], ◌∷◌, length, ◌⊎◌, inl, inr, refl, sym, subst, ◌∙◌, arith}
use Rattle.std.proofs.lemmas.Bool.{cond_both}

-- one of these
abbrev pub Among : {A : Type 0} → A → List A → Type 0
Among x [] = ⊥
Among x (y ∷ ys) = (x ≡ y) ⊎ Among x ys

-- the relation holds between each element and each later one
abbrev pub Pairwise : {A : Type 0} → (A → A → Type 0) → List A → Type 0
Pairwise R [] = Unit {0}
Pairwise {A = A} R (x ∷ xs) = ((y : A) → Among y xs → R x y) × Pairwise R xs

-- with one more, in front of the first that it is before
abbrev pub inserted : {A : Type 0} → (A → A → Bool) → A → List A → List A
inserted before x [] = x ∷ []
inserted before x (y ∷ ys) = cond (before x y) (x ∷ y ∷ ys) (y ∷ inserted before x ys)

module _ (A : Type 0) (before : A → A → Bool) where
  pub length-inserted : (m : A) (ys : List A) → length (inserted before m ys) ≡ suc (length ys)
  length-inserted m [] = refl
  length-inserted m (y ∷ ys) = grind (arith, length-inserted m ys)

  pub from_inserted : (x m : A) (ys : List A) → Among x (inserted before m ys) → (x ≡ m) ⊎ Among x ys
  from_inserted x m [] h = h
  from_inserted x m (y ∷ ys) h = grind (arith, from_inserted x m ys)

  pub in_inserted : (x m : A) (ys : List A) → (x ≡ m) ⊎ Among x ys → Among x (inserted before m ys)
  in_inserted x m [] h = h
  in_inserted x m (y ∷ ys) h = grind (arith, in_inserted x m ys)

  -- two elements, one before the other, may be inserted in either order
  pub inserted-inserted : (a b : A) (xs : List A) → before a b ≡ true → before b a ≡ false → ((x : A) → before b x ≡ true → before a x ≡ true) →
      inserted before a (inserted before b xs) ≡ inserted before b (inserted before a xs)
  inserted-inserted a b [] p q h = grind (arith)
  inserted-inserted a b (x ∷ xs) p q h = grind (arith, inserted-inserted a b xs p q h, h x)

  pub pairwise-inserted : (R : A → A → Type 0) (m : A) (ys : List A) → Pairwise R ys → ((y z : A) → Among z ys → before m y ≡ true → (z ≡ y) ⊎ R y z → R m z) →
      ((y : A) → Among y ys → before m y ≡ false → R y m) → Pairwise R (inserted before m ys)
  pairwise-inserted R m [] p ahead behind = (λ y k. absurd k, tt)
  pairwise-inserted R m (y ∷ ys) p ahead behind =
      cond_both (before m y) _ _ (λ zs. Pairwise R zs) (λ e. (first e, p)) (λ e. (others e, pairwise-inserted R m ys p.1 (λ x z k. ahead x z (inr k)) (λ x k. behind x (inr k))))
    where
      first : before m y ≡ true → (z : A) → (z ≡ y) ⊎ Among z ys → R m z
      first e z (inl f) = ahead y z (inl f) e (inl f)
      first e z (inr k) = ahead y z (inr k) e (inr (p.0 z k))

      others : before m y ≡ false → (z : A) → Among z (inserted before m ys) → R y z
      others e z k = elim (from_inserted z m ys k) [ inl f ↦ subst (R y) (sym f) (behind y (inl refl) e) | inr l ↦ p.0 z l ]

-- two lists with the same elements, each strictly ordered, are equal
pub same_lists : (A : Type 0) (R : A → A → Type 0) → ((a : A) → R a a → ⊥) → ((a b d : A) → R a b → R b d → R a d) → (xs ys : List A) → Pairwise R xs → Pairwise R ys →
    ((x : A) → Among x xs → Among x ys) → ((x : A) → Among x ys → Among x xs) → xs ≡ ys
same_lists A R itself trans [] [] p q f g = refl
same_lists A R itself trans [] (y ∷ ys) p q f g = absurd (g y (inl refl))
same_lists A R itself trans (x ∷ xs) [] p q f g = absurd (f x (inl refl))
same_lists A R itself trans (x ∷ xs) (y ∷ ys) p q f g =
    let one = heads (f x (inl refl)) (g y (inl refl)) in
    cc (one, same_lists A R itself trans xs ys p.1 q.1 (λ m h. behind m x y ys one (p.0 m h) (f m (inr h))) (λ m h. behind m y x xs (sym one) (q.0 m h) (g m (inr h))))
  where
    heads : (x ≡ y) ⊎ Among x ys → (y ≡ x) ⊎ Among y xs → x ≡ y
    heads (inl e) k = e
    heads (inr h) (inl e) = sym e
    heads (inr h) (inr k) = absurd (itself x (trans x y x (p.0 y k) (q.0 x h)))

    behind : (m u v : A) (vs : List A) → u ≡ v → R u m → (m ≡ v) ⊎ Among m vs → Among m vs
    behind m u v vs e r (inl f) = absurd (itself u (subst (R u) (f ∙ sym e) r))
    behind m u v vs e r (inr k) = k
