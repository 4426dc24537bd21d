-- Two lists of rows, joined a row at a time.
use Rattle.std.proofs.Common.{◌≡◌, ℕ, ◌<◌, ◌≤◌, Bool, true, false, cond, List, [], ◌∷◌, ◌++◌, refl, sym, ap, ◌∙◌, subst, arith, append_assoc, append-nil}
use Rattle.std.specs.Prelude.{◌==◌}
use Rattle.std.proofs.lemmas.Bool.Decides.{nat_tests}
use Rattle.std.proofs.lemmas.List.Elements.{filter-append}
use Rattle.mcs_ticks.specs.declared.row.Row.{Row}
use Rattle.mcs_merge.specs.Merge.{rows_at, AreFrom, DoNotFall, AreJoined}

-- what is joined so far, and what is left of both lists
pub record AreJoining (first second left right rows : List Row) : Type 0 where
  pub at_each : (t : ℕ) → rows_at t rows ++ (rows_at t left ++ rows_at t right) ≡ rows_at t first ++ rows_at t second
  pub with_left : DoNotFall (rows ++ left)
  pub with_right : DoNotFall (rows ++ right)

pub AreFrom-earlier : (t u : ℕ) (rows : List Row) → t ≤ u → AreFrom u rows → AreFrom t rows
AreFrom-earlier t u [] l h = tt
AreFrom-earlier t u (row ∷ rows) l h = (let first = h.0 in omega arith, AreFrom-earlier t u rows l h.1)

-- two lists from t on: the first list may be cut after a row and continued by the second
AreFrom-between : (t : ℕ) (rows : List Row) (x : Row) (xs ys : List Row) → AreFrom t (rows ++ x ∷ xs) → AreFrom t (rows ++ ys) → AreFrom t (rows ++ x ∷ ys)
AreFrom-between t [] x xs ys h k = (h.0, k)
AreFrom-between t (row ∷ rows) x xs ys h k = (h.0, AreFrom-between t rows x xs ys h.1 k.1)

DoNotFall-between : (rows : List Row) (x y : Row) (xs ys : List Row) → x.moment ≤ y.moment → DoNotFall (rows ++ x ∷ xs) → DoNotFall (rows ++ y ∷ ys) → DoNotFall (rows ++ x ∷ y ∷ ys)
DoNotFall-between [] x y xs ys l h k = ((l, AreFrom-earlier x.moment y.moment ys l k.0), k)
DoNotFall-between (row ∷ rows) x y xs ys l h k =
    (AreFrom-between row.moment rows x xs (y ∷ ys) h.0 k.0, DoNotFall-between rows x y xs ys l h.1 k.1)

-- no row of a later moment has this one
pub rows_at-later : (t u : ℕ) (rows : List Row) → t < u → AreFrom u rows → rows_at t rows ≡ []
rows_at-later t u [] l h = refl
rows_at-later t u (row ∷ rows) l h = by (row.moment == t) refl (rows_at-later t u rows l h.1) h.0
  where
    by : (b : Bool) → (row.moment == t) ≡ b → rows_at t rows ≡ [] → u ≤ row.moment → cond b (row ∷ rows_at t rows) (rows_at t rows) ≡ []
    by true e i k = absurd (grind (arith, nat_tests))
    by false e i k = i

pub from_tail : (rows : List Row) (xs : List Row) → DoNotFall (rows ++ xs) → DoNotFall xs
from_tail [] xs h = h
from_tail (row ∷ rows) xs h = from_tail rows xs h.1

push-assoc : (rows : List Row) (x : Row) (xs : List Row) → (rows ++ x ∷ []) ++ xs ≡ rows ++ x ∷ xs
push-assoc rows x xs = append_assoc rows (x ∷ []) xs

module _ (first second : List Row) where
  pub takes_left : (x y : Row) (left right rows : List Row) → x.moment ≤ y.moment → AreJoining first second (x ∷ left) (y ∷ right) rows → AreJoining first second left (y ∷ right) (rows ++ x ∷ [])
  takes_left x y left right rows l h =
      record {
        at_each = λ t. each t (rows_at t (y ∷ right)) ∙ h.at_each t;
        with_left = subst DoNotFall (sym (push-assoc rows x left)) h.with_left;
        with_right = subst DoNotFall (sym (push-assoc rows x (y ∷ right))) (DoNotFall-between rows x y left right l h.with_left h.with_right);
      }
    where
      each : (t : ℕ) (others : List Row) → rows_at t (rows ++ x ∷ []) ++ (rows_at t left ++ others) ≡ rows_at t rows ++ (rows_at t (x ∷ left) ++ others)
      each t others = ap (λ xs. xs ++ (rows_at t left ++ others)) (filter-append (λ row. row.moment == t) rows (x ∷ [])) ∙ by (x.moment == t)
        where
          by : (b : Bool) → (rows_at t rows ++ cond b (x ∷ []) []) ++ (rows_at t left ++ others) ≡ rows_at t rows ++ (cond b (x ∷ rows_at t left) (rows_at t left) ++ others)
          by true = push-assoc (rows_at t rows) x (rows_at t left ++ others)
          by false = ap (λ xs. xs ++ (rows_at t left ++ others)) (append-nil (rows_at t rows))

  pub takes_right : (x y : Row) (left right rows : List Row) → y.moment < x.moment → AreJoining first second (x ∷ left) (y ∷ right) rows → AreJoining first second (x ∷ left) right (rows ++ y ∷ [])
  takes_right x y left right rows l h =
      record {
        at_each = λ t. each t ∙ h.at_each t;
        with_left = subst DoNotFall (sym (push-assoc rows y (x ∷ left))) (DoNotFall-between rows y x right left (omega arith) h.with_right h.with_left);
        with_right = subst DoNotFall (sym (push-assoc rows y right)) h.with_right;
      }
    where
      none : (t : ℕ) → y.moment ≡ t → rows_at t (x ∷ left) ≡ []
      none t e =
          let k = from_tail rows (x ∷ left) h.with_left in
          rows_at-later t x.moment (x ∷ left) (omega arith) (omega arith, k.0)

      each : (t : ℕ) → rows_at t (rows ++ y ∷ []) ++ (rows_at t (x ∷ left) ++ rows_at t right) ≡ rows_at t rows ++ (rows_at t (x ∷ left) ++ rows_at t (y ∷ right))
      each t =
          ap (λ xs. xs ++ (rows_at t (x ∷ left) ++ rows_at t right)) (filter-append (λ row. row.moment == t) rows (y ∷ []))
          ∙ by (rows_at t (x ∷ left)) (y.moment == t) refl (none t)
        where
          by : (xs : List Row) (b : Bool) → (y.moment == t) ≡ b → (y.moment ≡ t → xs ≡ []) → (rows_at t rows ++ cond b (y ∷ []) []) ++ (xs ++ rows_at t right) ≡ rows_at t rows ++ (xs ++ cond b (y ∷ rows_at t right) (rows_at t right))
          by xs true e k =
              let f : y.moment ≡ t = grind (arith, nat_tests) in
              rw (k f) (push-assoc (rows_at t rows) y (rows_at t right))
          by xs false e k = ap (λ us. us ++ (xs ++ rows_at t right)) (append-nil (rows_at t rows))

  -- the same, of lists with these heads
  pub steps_left : (x y : Row) (left right after_x after_y rows more : List Row) → left ≡ x ∷ after_x → right ≡ y ∷ after_y → more ≡ rows ++ x ∷ [] → x.moment ≤ y.moment →
      AreJoining first second left right rows → AreJoining first second after_x right more
  steps_left x y left right after_x after_y rows more e f g l h =
      rw (f, g) (takes_left x y after_x after_y rows l (rw (e, f) at h))

  pub steps_right : (x y : Row) (left right after_x after_y rows more : List Row) → left ≡ x ∷ after_x → right ≡ y ∷ after_y → more ≡ rows ++ y ∷ [] → y.moment < x.moment →
      AreJoining first second left right rows → AreJoining first second left after_y more
  steps_right x y left right after_x after_y rows more e f g l h =
      rw (e, g) (takes_right x y after_x after_y rows l (rw (e, f) at h))
