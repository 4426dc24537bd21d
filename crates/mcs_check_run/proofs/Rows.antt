-- The target, the waiting text and the counts after rows were given to a sink that writes each
-- row's line.
use Rattle.std.proofs.Common.{◌≡◌, ◌∙◌, ◌++◌, ◌∷◌, [], ℕ, Bool, true, false, List, Option, refl, ap, sym, subst, append_assoc, append-nil, inl, inr}
use Rattle.mcs_ticks.specs.declared.row.Row.{Row}
use Rattle.mcs_ticks.specs.Given.{Given, GivenUntil, GivenSome}
use Rattle.mcs_verdict.specs.Findings.{InOrder, UpTo, past_of}
use Rattle.mcs_check_run.specs.Lines.{lines_of}
use Rattle.mcs_cli.specs.Devices.{AppendsPrefix}
use Rattle.mcs_cli.specs.Flow.{AppendsBefore}
use Rattle.mcs_cli.proofs.Flow.{before-longer, before-none, before-then, prefix-before, prefix-longer, prefix-then}

pub lines_of-append : (line : List Row → Row → List ℕ) (past xs ys : List Row)
    → lines_of line past (xs ++ ys) ≡ lines_of line past xs ++ lines_of line (past_of past xs) ys
lines_of-append line past [] ys = refl
lines_of-append line past (r ∷ xs) ys =
    ap (λ l. line past r ++ l) (lines_of-append line (r ∷ past) xs ys)
    ∙ sym (append_assoc (line past r) (lines_of line (r ∷ past) xs) (lines_of line (past_of (r ∷ past) xs) ys))

first-in-order : (past xs ys : List Row) → InOrder past (xs ++ ys) → InOrder past xs
first-in-order past [] ys order = tt
first-in-order past (r ∷ xs) ys order = (order.0, first-in-order (r ∷ past) xs ys order.1)

-- A sink, what its target has, what waits, and the line of a row; what is so of it after rows, and after one that it refuses.
module _ {S : Type 0} (takes : S → Row → Bool → S → Type 0) (contents : S → Option (List ℕ)) (text : S → List ℕ)
    (line : List Row → Row → List ℕ) (Kept : List Row → S → Type 0) (Refused : S → Type 0)
    (step : (past : List Row) (s t : S) (row : Row) → Kept past s → UpTo row.moment past → takes s row true t →
    Kept (row ∷ past) t × AppendsBefore (contents s) (contents t) (text s ++ line past row) (text t))
    (refuse : (past : List Row) (s t : S) (row : Row) → Kept past s → UpTo row.moment past → takes s row false t →
    Refused t × AppendsPrefix (contents s) (contents t) (text s ++ line past row)) where
  pub given-tells : (past : List Row) (s t : S) (rows : List Row) → Kept past s → InOrder past rows → Given takes s rows t →
      Kept (past_of past rows) t × AppendsBefore (contents s) (contents t) (text s ++ lines_of line past rows) (text t)
  given-tells past s t [] kept order g =
      subst (λ u. Kept past u × AppendsBefore (contents s) (contents u) (text s ++ []) (text u)) g
      (kept, subst (λ l. AppendsBefore (contents s) (contents s) l (text s)) (sym (append-nil (text s))) (before-none (contents s) (text s)))
  given-tells past s t (row ∷ rows) kept order g =
      let m = g.0 in
      let one = step past s m row kept order.0 g.1 in
      let rest = given-tells (row ∷ past) m t rows one.0 order.1 g.2 in
      let longer = before-longer _ _ _ _ (lines_of line (row ∷ past) rows) one.1 in
      let both = before-then _ _ _ _ _ _ longer rest.1 in
      (rest.0, subst (λ l. AppendsBefore (contents s) (contents t) l (text t)) (append_assoc (text s) (line past row) (lines_of line (row ∷ past) rows)) both)

  pub until-tells : (past : List Row) (s t : S) (rows : List Row) → Kept past s → InOrder past rows → GivenUntil takes s rows t →
      Refused t × AppendsPrefix (contents s) (contents t) (text s ++ lines_of line past rows)
  until-tells past s t [] kept order g = absurd g
  until-tells past s t (row ∷ rows) kept order (inl refused) =
      let one = refuse past s t row kept order.0 refused in
      let longer = prefix-longer _ _ _ (lines_of line (row ∷ past) rows) one.1 in
      (one.0, subst (AppendsPrefix (contents s) (contents t)) (append_assoc (text s) (line past row) (lines_of line (row ∷ past) rows)) longer)
  until-tells past s t (row ∷ rows) kept order (inr g) =
      let m = g.0 in
      let one = step past s m row kept order.0 g.1 in
      let rest = until-tells (row ∷ past) m t rows one.0 order.1 g.2 in
      let longer = before-longer _ _ _ _ (lines_of line (row ∷ past) rows) one.1 in
      let both = prefix-then _ _ _ _ _ longer rest.1 in
      (rest.0, subst (AppendsPrefix (contents s) (contents t)) (append_assoc (text s) (line past row) (lines_of line (row ∷ past) rows)) both)

  pub some-tells : (past : List Row) (s t : S) (rows : List Row) → Kept past s → InOrder past rows → GivenSome takes s rows t →
      ((seen : List Row) × Kept seen t) × AppendsPrefix (contents s) (contents t) (text s ++ lines_of line past rows)
  some-tells past s t rows kept order g =
      let ordered = subst (InOrder past) g.2 order in
      let given = given-tells past s t g.0 kept (first-in-order past g.0 g.1 ordered) g.3 in
      let begun = prefix-before _ _ _ _ given.1 in
      let longer = prefix-longer _ _ _ (lines_of line (past_of past g.0) g.1) begun in
      let all : (text s ++ lines_of line past g.0) ++ lines_of line (past_of past g.0) g.1 ≡ text s ++ lines_of line past rows =
      append_assoc (text s) (lines_of line past g.0) (lines_of line (past_of past g.0) g.1)
      ∙ ap (λ l. text s ++ l) (sym (lines_of-append line past g.0 g.1) ∙ ap (lines_of line past) (sym g.2))
      in
      ((past_of past g.0, given.0), subst (AppendsPrefix (contents s) (contents t)) all longer)
