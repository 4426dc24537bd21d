-- A list that is made over another, element by element.
use Rattle.std.proofs.Common.{◌≡◌, ℕ, zero, suc, ◌+◌, ◌<◌, List, [], ◌∷◌, ◌++◌, length, get_or, set, map, take, drop, refl, ap, subst, arith}

module _ {X Y : Type 0} (f g : X → Y) where
  set-next : (xs : List X) (i : ℕ) (d : X) → i < length xs → set (map f (take i xs) ++ map g (drop i xs)) i (f (get_or xs i d)) ≡ map f (take (suc i) xs) ++ map g (drop (suc i) xs)
  set-next [] i d h = absurd (omega (arith, h))
  set-next (x ∷ xs) zero d h = refl
  set-next (x ∷ xs) (suc i) d h = ap (λ l. f x ∷ l) (set-next xs i d (omega (arith, h)))

  -- one more is made anew
  pub set-one-more : (xs : List X) (i : ℕ) (d : X) → i < length xs → set (map f (take i xs) ++ map g (drop i xs)) i (f (get_or xs i d)) ≡ map f (take (i + 1) xs) ++ map g (drop (i + 1) xs)
  set-one-more xs i d h =
      let next : suc i ≡ i + 1 = omega arith in
      subst (λ j. set (map f (take i xs) ++ map g (drop i xs)) i (f (get_or xs i d)) ≡ map f (take j xs) ++ map g (drop j xs)) next (set-next xs i d h)

  -- and was before what the others are
  pub get-one-more : (xs : List X) (i : ℕ) (d : X) (e : Y) → i < length xs → get_or (map f (take i xs) ++ map g (drop i xs)) i e ≡ g (get_or xs i d)
  get-one-more [] i d e h = absurd (omega (arith, h))
  get-one-more (x ∷ xs) zero d e h = refl
  get-one-more (x ∷ xs) (suc i) d e h = get-one-more xs i d e (omega (arith, h))

module _ {X Y : Type 0} (f : X → Y) where
  -- an element is made of the one at its place
  pub get-made : (xs : List X) (i : ℕ) (d : X) (e : Y) → i < length xs → get_or (map f xs) i e ≡ f (get_or xs i d)
  get-made [] i d e h = absurd (omega (arith, h))
  get-made (x ∷ xs) zero d e h = refl
  get-made (x ∷ xs) (suc i) d e h = get-made xs i d e (omega (arith, h))
