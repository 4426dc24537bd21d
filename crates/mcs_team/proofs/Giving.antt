-- The rows given to a sink, one row or one list after another.
use Rattle.std.proofs.Common.{◌≡◌, ◌+◌, ◌<◌, ℕ, refl, inl, inr, Bool, true, false, List, [], ◌∷◌, ◌++◌, length, take, drop, get_or, sym, ap, ◌∙◌, subst}
use Rattle.std.proofs.Common.{Result, Ok, Err, OnOk, OnErr, IfOk, IfErr}
use Rattle.std.proofs.lemmas.List.{take_more, drop_more, take-append-drop}
use Rattle.mcs_ticks.specs.declared.row.Row.{Row}
use Rattle.mcs_ticks.specs.Given.{Given, GivenUntil}

pub known_on_ok : {T E P : Type 0} (r : Result T E) → P → OnOk r P
known_on_ok (Ok x) p = p
known_on_ok (Err e) p = tt

pub on_err : {T E P : Type 0} (r : Result T E) → P → OnErr r P
on_err (Ok x) p = tt
on_err (Err e) p = p

module _ {S : Type 0} (takes : S → Row → Bool → S → Type 0) where
  pub given-append : (s m t : S) (xs ys : List Row) → Given takes s xs m → Given takes m ys t → Given takes s (xs ++ ys) t
  given-append s m t [] ys g h = subst (λ a. Given takes a ys t) (sym g) h
  given-append s m t (x ∷ xs) ys g h = (g.0, g.1, given-append g.0 m t xs ys g.2 h)

  pub given-one : (s m t : S) (xs : List Row) (row : Row) → Given takes s xs m → takes m row true t → Given takes s (xs ++ row ∷ []) t
  given-one s m t xs row g h = given-append s m t xs (row ∷ []) g (t, h, refl)

  pub until-append : (s m t : S) (xs ys : List Row) → Given takes s xs m → GivenUntil takes m ys t → GivenUntil takes s (xs ++ ys) t
  until-append s m t [] ys g h = subst (λ a. GivenUntil takes a ys t) (sym g) h
  until-append s m t (x ∷ xs) ys g h = inr (g.0, g.1, until-append g.0 m t xs ys g.2 h)

  pub until-more : (s t : S) (xs ys : List Row) → GivenUntil takes s xs t → GivenUntil takes s (xs ++ ys) t
  until-more s t [] ys h = absurd h
  until-more s t (x ∷ xs) ys (inl p) = inl p
  until-more s t (x ∷ xs) ys (inr p) = inr (p.0, p.1, until-more p.0 t xs ys p.2)

-- while the rows of a slice are given
module _ (rows : List Row) (i : ℕ) (row : Row) (l : i < length rows) (is : row ≡ get_or rows i row) where
  one-more : take i rows ++ row ∷ [] ≡ take (i + 1) rows
  one-more = sym (take_more rows i row l ∙ ap (λ x. take i rows ++ x ∷ []) (sym is))

  module _ {S : Type 0} (takes : S → Row → Bool → S → Type 0) (s t u : S) (given : Given takes s (take i rows) t) where
    pub gives-more : takes t row true u → Given takes s (take (i + 1) rows) u
    gives-more taken = subst (λ xs. Given takes s xs u) one-more (given-one takes s t u (take i rows) row given taken)

    pub gives-until : takes t row false u → GivenUntil takes s rows u
    gives-until refused =
        subst (λ xs. GivenUntil takes s xs u)
        (ap (λ xs. take i rows ++ xs) (ap (λ x. x ∷ drop (i + 1) rows) is ∙ sym (drop_more rows i row l)) ∙ take-append-drop i rows)
        (until-append takes s t u (take i rows) (row ∷ drop (i + 1) rows) given (inl refused))

-- what is known of an answer, carried on
pub if_ok : {T E : Type 0} {P Q : T → Type 0} (r : Result T E) → ((x : T) → P x → Q x) → IfOk r P → IfOk r Q
if_ok (Ok x) f p = f x p
if_ok (Err e) f p = p

pub if_err : {T E : Type 0} {P Q : E → Type 0} (r : Result T E) → ((e : E) → P e → Q e) → IfErr r P → IfErr r Q
if_err (Ok x) f p = p
if_err (Err e) f p = f e p

pub on_ok : {T E P Q : Type 0} (r : Result T E) → (P → Q) → OnOk r P → OnOk r Q
on_ok (Ok x) f p = f p
on_ok (Err e) f p = p
