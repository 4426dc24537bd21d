-- Lemmas on what a sink was given: single rows, and one list after another.
use Rattle.std.proofs.Common.{◌≡◌, ℕ, ◌+◌, ◌<◌, length, length-append, refl, inr, Bool, true, cond, List, [], ◌∷◌, ◌++◌, sym, ap, ◌∙◌, subst, append-nil, append_assoc}
use Rattle.std.specs.Prelude.{max}
use Rattle.mcs_ticks.specs.declared.row.Row.{Row}
use Rattle.mcs_ticks.specs.Given.{Given, GivenUntil, IsShortAfter}

module _ {S : Type 0} (takes : S → Row → Bool → S → Type 0) where
  pub given-none : (s : S) → Given takes s [] s
  given-none s = refl

  pub given-append : (s m t : S) (xs ys : List Row) → Given takes s xs m → Given takes m ys t → Given takes s (xs ++ ys) t
  given-append s m t [] ys g h = subst (λ a. Given takes a ys t) (sym g) h
  given-append s m t (x ∷ xs) ys g h = (g.0, g.1, given-append g.0 m t xs ys g.2 h)

  -- by other names of the sink and of the rows
  pub given-same : (s s' t t' : S) (xs xs' : List Row) → Given takes s xs t → s ≡ s' → xs ≡ xs' → t ≡ t' → Given takes s' xs' t'
  given-same s s' t t' xs xs' g e f h =
      subst (λ a. Given takes a xs' t') e (subst (λ ys. Given takes s ys t') f (subst (λ a. Given takes s xs a) h g))

  pub until-append : (s m t : S) (xs ys : List Row) → Given takes s xs m → GivenUntil takes m ys t → GivenUntil takes s (xs ++ ys) t
  until-append s m t [] ys g h = subst (λ a. GivenUntil takes a ys t) (sym g) h
  until-append s m t (x ∷ xs) ys g h = inr (g.0, g.1, until-append g.0 m t xs ys g.2 h)

-- a sink that says which rows it holds, and holds each row more that it takes
module _ {S : Type 0} (takes : S → Row → Bool → S → Type 0) (holds : S → List Row → Type 0)
    (holds_more : (s t : S) (held : List Row) (row : Row) → holds s held → takes s row true t → holds t (held ++ row ∷ [])) where
  -- holds those that it was given behind those that it held
  pub held_more : (s t : S) (held rows : List Row) → holds s held → Given takes s rows t → holds t (held ++ rows)
  held_more s t held [] h g = subst (λ a. holds a (held ++ [])) g (subst (holds s) (sym (append-nil held)) h)
  held_more s t held (row ∷ rows) h g =
      subst (holds t) (append_assoc held (row ∷ []) rows)
      (held_more g.0 t (held ++ row ∷ []) rows (holds_more s g.0 held row h g.1) g.2)

-- a sink that keeps its rows in a list
module _ {S : Type 0} (items : S → List Row) where
  abbrev pub Appends : S → Row → Bool → S → Type 0
  Appends before row taken after = items after ≡ cond taken (items before ++ row ∷ []) (items before)

  -- has been given what stands at its end
  pub given_to_a_list : (s t : S) (rows : List Row) → Given Appends s rows t → items t ≡ items s ++ rows
  given_to_a_list s t [] g = ap items (sym g) ∙ sym (append-nil (items s))
  given_to_a_list s t (row ∷ rows) g =
      given_to_a_list g.0 t rows g.2 ∙ ap (λ xs. xs ++ rows) g.1 ∙ append_assoc (items s) (row ∷ []) rows

  pub short_list : (most : ℕ) (s : S) (rows : List Row) → IsShortAfter Appends (λ t. length (items t)) most s rows →
      length (items s) + length rows < max most (length (items s) + 1)
  short_list most s rows h =
      let many : length (items h.0) ≡ length (items s) + length rows =
      ap (λ (xs : List Row). length xs) (given_to_a_list s h.0 rows h.1) ∙ length-append (items s) rows in
      subst (λ n. n < max most (length (items s) + 1)) many h.2
