-- Items one after the other, as a loop reads them.
use Rattle.std.proofs.Common.{◌≡◌, ℕ, ◌+◌, ◌<◌, List, [], ◌∷◌, ◌++◌, length, get_or, drop, Some, None, sym, ap, ◌∙◌}
use Rattle.toml.specs.Data.{Data, item}
use Rattle.toml.specs.View.{view, items_view}
use Rattle.toml.specs.declared.value.Value.{Value}
use Rattle.toml.proofs.Views.{items_view-drop}
use Rattle.mcs_load.specs.declared.fault.LoadFault.{LoadFault}
use Rattle.mcs_load.specs.Checks.{Test, Checked, first_failed}
use Rattle.mcs_load.specs.Words.{each, each_from}
use Rattle.mcs_load.proofs.Steps.{both, or_else, or_else_none, or_else_some}

pub fails_first : (xs ys : List Test) (fault : LoadFault) → first_failed xs ≡ Some fault → first_failed (xs ++ ys) ≡ Some fault
fails_first xs ys fault failed = both xs ys ∙ ap (λ f. or_else f (first_failed ys)) failed ∙ or_else_some fault (first_failed ys)

pub fails_later : (xs ys : List Test) → first_failed xs ≡ None → first_failed (xs ++ ys) ≡ first_failed ys
fails_later xs ys passed = both xs ys ∙ ap (λ f. or_else f (first_failed ys)) passed ∙ or_else_none (first_failed ys)

module _ {A : Type 0} (step : List A → Data → Checked A) where
  -- what is read of the items from the i-th on, after the earlier ones
  abbrev pub from_item : List A → List Value → ℕ → Checked (List A)
  from_item earlier values i = each step earlier (items_view (drop i values))

  the_step : (earlier : List A) (values : List Value) (i : ℕ) (d : Value) → i < length values → d ≡ get_or values i d
      → from_item earlier values i ≡ each step earlier (item (view d) (items_view (drop (i + 1) values)))
  the_step earlier values i d within is =
      ap (each step earlier) (items_view-drop values i d within ∙ ap (λ v. item (view v) (items_view (drop (i + 1) values))) (sym is))

  -- if the i-th fails
  pub step_fails : (earlier : List A) (values : List Value) (i : ℕ) (d : Value) (fault : LoadFault) → i < length values → d ≡ get_or values i d
      → first_failed (step earlier (view d)).tests ≡ Some fault → first_failed (from_item earlier values i).tests ≡ Some fault
  step_fails earlier values i d fault within is failed =
      ap (λ c. first_failed c.tests) (the_step earlier values i d within is) ∙ fails_first (step earlier (view d)).tests _ fault failed

  -- if it passes
  pub step_passes : (earlier : List A) (values : List Value) (i : ℕ) (d : Value) (x : A) → i < length values → d ≡ get_or values i d
      → (first_failed (step earlier (view d)).tests ≡ None) × ((step earlier (view d)).value ≡ x)
      → (first_failed (from_item (earlier ++ x ∷ []) values (i + 1)).tests ≡ first_failed (from_item earlier values i).tests)
      × ((from_item (earlier ++ x ∷ []) values (i + 1)).value ≡ (from_item earlier values i).value)
  step_passes earlier values i d x within is (passed, read_as) =
      let rest = λ (y : A). each step (earlier ++ y ∷ []) (items_view (drop (i + 1) values)) in
      let r = step earlier (view d) in
      let tests : first_failed (from_item earlier values i).tests ≡ first_failed (rest x).tests =
      ap (λ c. first_failed c.tests) (the_step earlier values i d within is) ∙ fails_later r.tests (rest r.value).tests passed ∙ ap (λ y. first_failed (rest y).tests) read_as in
      let value : (from_item earlier values i).value ≡ (rest x).value =
      ap (λ c. c.value) (the_step earlier values i d within is) ∙ ap (λ y. (rest y).value) read_as in
      (sym tests, sym value)

-- the same of a walk that keeps what it has read so far
module _ {A : Type 0} (step : A → Data → Checked A) where
  abbrev pub rest_from : A → List Value → ℕ → Checked A
  rest_from before values i = each_from step before (items_view (drop i values))

  the_next : (before : A) (values : List Value) (i : ℕ) (d : Value) → i < length values → d ≡ get_or values i d
      → rest_from before values i ≡ each_from step before (item (view d) (items_view (drop (i + 1) values)))
  the_next before values i d within is =
      ap (each_from step before) (items_view-drop values i d within ∙ ap (λ v. item (view v) (items_view (drop (i + 1) values))) (sym is))

  pub next_fails : (before : A) (values : List Value) (i : ℕ) (d : Value) (fault : LoadFault) → i < length values → d ≡ get_or values i d
      → first_failed (step before (view d)).tests ≡ Some fault → first_failed (rest_from before values i).tests ≡ Some fault
  next_fails before values i d fault within is failed =
      ap (λ c. first_failed c.tests) (the_next before values i d within is) ∙ fails_first (step before (view d)).tests _ fault failed

  pub next_passes : (before : A) (values : List Value) (i : ℕ) (d : Value) (next : A) → i < length values → d ≡ get_or values i d
      → (first_failed (step before (view d)).tests ≡ None) × ((step before (view d)).value ≡ next)
      → (first_failed (rest_from next values (i + 1)).tests ≡ first_failed (rest_from before values i).tests)
      × ((rest_from next values (i + 1)).value ≡ (rest_from before values i).value)
  next_passes before values i d next within is (passed, read_as) =
      let rest = λ (y : A). each_from step y (items_view (drop (i + 1) values)) in
      let r = step before (view d) in
      let tests : first_failed (rest_from before values i).tests ≡ first_failed (rest next).tests =
      ap (λ c. first_failed c.tests) (the_next before values i d within is) ∙ fails_later r.tests (rest r.value).tests passed ∙ ap (λ y. first_failed (rest y).tests) read_as in
      let value : (rest_from before values i).value ≡ (rest next).value =
      ap (λ c. c.value) (the_next before values i d within is) ∙ ap (λ y. (rest y).value) read_as in
      (sym tests, sym value)
