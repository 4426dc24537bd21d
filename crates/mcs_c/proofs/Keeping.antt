-- The first rows, from what the sink that keeps them was given.
use Rattle.std.proofs.Common.{◌≡◌, ◌≤◌, ◌<◌, ◌+◌, ◌∙◌, ℕ, Bool, true, false, List, [], ◌∷◌, ◌++◌, Option, Some, None, IfSome, IsSome, inl, inr, length, arith, ap, refl, subst, sym, append-nil, append_assoc, length-append}
use Rattle.mcs_ticks.specs.declared.row.Row.{Row}
use Rattle.mcs_ticks.specs.Given.{Given, GivenUntil}
use Rattle.mcs_c.specs.Numbers.{AreFirst}
use Rattle.mcs_c.specs.declared.first.First.{First}

-- a row is kept if there are not as many yet; else its time is
abbrev pub Keeps : First → Row → Bool → First → Type 0
Keeps before row taken after =
    (after.most ≡ before.most)
    × (taken ≡ true → (length before.rows.items < before.most)
    × (after.rows.items ≡ before.rows.items ++ row ∷ []) × (after.next ≡ before.next))
    × (taken ≡ false → IfSome after.next (λ time. (before.most ≤ length before.rows.items)
    × (after.rows.items ≡ before.rows.items) × (time ≡ row.moment)))

one-more : (s m : First) (row : Row) → Keeps s row true m → length m.rows.items ≤ m.most
one-more s m row kept =
    let most = kept.0 in
    let room = (kept.1 refl).0 in
    let many : length m.rows.items ≡ length s.rows.items + 1 =
    ap (λ (xs : List Row). length xs) (kept.1 refl).1 ∙ length-append s.rows.items (row ∷ []) in
    omega (arith, most, room, many)

-- what it has after rows that it took
pub record HasKept (s t : First) (rows : List Row) : Type 0 where
  pub all : t.rows.items ≡ s.rows.items ++ rows
  pub fits : length t.rows.items ≤ t.most
  pub next : t.next ≡ s.next
  pub most : t.most ≡ s.most

has-kept : (s t : First) (rows : List Row) → length s.rows.items ≤ s.most → Given Keeps s rows t → HasKept s t rows
has-kept s t [] fits g = record {
  all = ap (λ (f : First). f.rows.items) (sym g) ∙ sym (append-nil s.rows.items);
  fits = subst (λ (f : First). length f.rows.items ≤ f.most) g fits;
  next = ap (λ (f : First). f.next) (sym g);
  most = ap (λ (f : First). f.most) (sym g);
}
has-kept s t (row ∷ rows) fits g =
    let rest = has-kept g.0 t rows (one-more s g.0 row g.1) g.2 in
    let kept = g.1.1 refl in
    record {
      all = rest.all ∙ ap (λ xs. xs ++ rows) kept.1 ∙ append_assoc s.rows.items (row ∷ []) rows;
      fits = rest.fits;
      next = rest.next ∙ kept.2;
      most = rest.most ∙ g.1.0;
    }

-- what it has after a row that it refused at this time
pub record IsCut (s t : First) (rows : List Row) (time : ℕ) : Type 0 where
  pub next : Row
  pub rest : List Row
  pub many : length t.rows.items ≡ s.most
  pub all : s.rows.items ++ rows ≡ t.rows.items ++ next ∷ rest
  pub at_time : time ≡ next.moment

is-cut : (s t : First) (rows : List Row) (time : ℕ) → length s.rows.items ≤ s.most → t.next ≡ Some time → GivenUntil Keeps s rows t → IsCut s t rows time
is-cut s t [] time fits is g = absurd g
is-cut s t (row ∷ rows) time fits is (inl refused) =
    let Full : Option ℕ → Type 0 = λ o. IfSome o (λ time. (s.most ≤ length s.rows.items) × (t.rows.items ≡ s.rows.items) × (time ≡ row.moment)) in
    let full = subst Full is (refused.2 refl) in
    let same : length t.rows.items ≡ length s.rows.items = ap (λ (xs : List Row). length xs) full.1 in
    let enough = full.0 in
    record {
      next = row;
      rest = rows;
      many = omega (arith, same, enough, fits);
      all = ap (λ xs. xs ++ row ∷ rows) (sym full.1);
      at_time = full.2;
    }
is-cut s t (row ∷ rows) time fits is (inr g) =
    let cut = is-cut g.0 t rows time (one-more s g.0 row g.1) is g.2 in
    let kept = g.1.1 refl in
    record {
      next = cut.next;
      rest = cut.rest;
      many = cut.many ∙ g.1.0;
      all = sym (append_assoc s.rows.items (row ∷ []) rows) ∙ ap (λ xs. xs ++ rows) (sym kept.1) ∙ cut.all;
      at_time = cut.at_time;
    }

module _ (s t : First) (rows : List Row) (most : ℕ) (empty : s.rows.items ≡ []) (most_is : s.most ≡ most) where
  none-yet : length s.rows.items ≤ s.most
  none-yet = let many : length s.rows.items ≡ 0 = ap (λ (xs : List Row). length xs) empty in omega (arith, many)

  -- all rows were taken
  pub first-all : s.next ≡ None → Given Keeps s rows t → AreFirst rows most t.rows.items t.next
  first-all none g =
      let kept = has-kept s t rows none-yet g in
      let fits = kept.fits in
      let same : t.most ≡ most = kept.most ∙ most_is in
      subst (AreFirst rows most t.rows.items) (sym (kept.next ∙ none)) (kept.all ∙ ap (λ xs. xs ++ rows) empty, subst (λ n. length t.rows.items ≤ n) same fits)

  by-next : (o : Option ℕ) → t.next ≡ o → IsSome o → GivenUntil Keeps s rows t → AreFirst rows most t.rows.items o
  by-next None is some g = cc
  by-next (Some time) is some g =
      let cut = is-cut s t rows time none-yet is g in
      (cut.many ∙ most_is, cut.next, cut.rest, ap (λ xs. xs ++ rows) (sym empty) ∙ cut.all, cut.at_time)

  -- a row was refused since there were as many
  pub first-cut : IsSome t.next → GivenUntil Keeps s rows t → AreFirst rows most t.rows.items t.next
  first-cut some g = by-next t.next refl some g
