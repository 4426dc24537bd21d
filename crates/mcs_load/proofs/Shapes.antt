-- The steps of a script beside the first steps of its items: if a wait is last or directly before a
-- handler among the steps, so is a wait among the items.
use Rattle.std.proofs.Common.{◌≡◌, ℕ, zero, suc, ◌+◌, ◌-◌, ◌<◌, ◌≤◌, nat_le, Bool, true, false, cond, ◌&&◌, ◌⊎◌, inl, inr, List, [], ◌∷◌, ◌++◌, length, length-append, get_or, Some, None, All, refl, ap, sym, ◌∙◌, arith}
use Rattle.std.specs.List.{slice_get}
use Rattle.std.proofs.Math.ListN.{get_or-append}
use Rattle.std.proofs.lemmas.Bool.{cases_lt, cases_Bool, and_parts, true≢false}
use Rattle.std.proofs.lemmas.Bool.Decides.{nat_tests}
use Rattle.std.proofs.lemmas.List.{get_or_push, get_or_at, get_or-append_right}
use Rattle.std.proofs.lemmas.Option.{slice_get-get_or, slice_get_past}
use Rattle.mcs_script.specs.declared.item.Item.{Item}
use Rattle.mcs_script.specs.declared.item.Item.TheVariants as items
use Rattle.mcs_script.specs.Script.{is_wait, is_on, ends_handler, is_bare, first_to_look_at, AreNotBare}

abbrev pub waits_at : List Item → ℕ → Bool
waits_at xs k = is_wait (Some (get_or xs k items.Yield))

abbrev pub on_at : List Item → ℕ → Bool
on_at xs k = is_on (get_or xs k items.Yield)

-- an item that is a wait directly before one that begins a handler, the first item only for the
-- first step
pub record HasPair (firsts : List Item) (k : ℕ) : Type 0 where
  pub j : ℕ
  pub within : j + 1 < length firsts
  pub waits : waits_at firsts j ≡ true
  pub begins : on_at firsts (j + 1) ≡ true
  pub first : j ≡ 0 → k ≡ 0

-- the last item is a wait
pub record HasLast (firsts : List Item) (k : ℕ) : Type 0 where
  pub j : ℕ
  pub is_last : j + 1 ≡ length firsts
  pub waits : waits_at firsts j ≡ true
  pub first : j ≡ 0 → k ≡ 0

pub record HasShape (firsts steps : List Item) : Type 0 where
  pub inside : (k : ℕ) → k + 1 < length steps → waits_at steps k ≡ true → on_at steps (k + 1) ≡ true → HasPair firsts k
  pub last : (k : ℕ) → k + 1 ≡ length steps → waits_at steps k ≡ true → HasLast firsts k
  pub none : length firsts ≡ 0 → length steps ≡ 0

pub no_shape : HasShape [] []
no_shape = record {
  inside = λ k within waits begins. absurd (omega arith);
  last = λ k is waits. absurd (omega arith);
  none = λ e. refl;
}

-- the further steps of an item: none begins a handler, and the last is no wait
pub record AreFurther (rest : List Item) : Type 0 where
  pub none_begins : All (λ step. is_on step ≡ false) rest
  pub no_wait : (i : ℕ) → i + 1 ≡ length rest → waits_at rest i ≡ false

module _ (firsts steps : List Item) (shape : HasShape firsts steps) (f : Item) (rest : List Item) (further : AreFurther rest) where
  old_step : (k : ℕ) → k < length steps → get_or (steps ++ (f ∷ rest)) k items.Yield ≡ get_or steps k items.Yield
  old_step k within = get_or-append steps (f ∷ rest) items.Yield k within

  old_item : (j : ℕ) → j < length firsts → get_or (firsts ++ (f ∷ [])) j items.Yield ≡ get_or firsts j items.Yield
  old_item j within = get_or-append firsts (f ∷ []) items.Yield j within

  new_item : (j : ℕ) → j ≡ length firsts → get_or (firsts ++ (f ∷ [])) j items.Yield ≡ f
  new_item j e = get_or_push firsts f items.Yield j (sym e)

  new_step : (k : ℕ) → k ≡ length steps → get_or (steps ++ (f ∷ rest)) k items.Yield ≡ f
  new_step k e = get_or_at steps f rest items.Yield k (sym e)

  further_step : (k i : ℕ) → k ≡ length steps + suc i → get_or (steps ++ (f ∷ rest)) k items.Yield ≡ get_or rest i items.Yield
  further_step k i e =
      get_or-append_right steps (f ∷ rest) (length steps) k items.Yield refl (omega arith)
      ∙ ap (λ n. get_or (f ∷ rest) n items.Yield) number
    where
      number : k - length steps ≡ suc i
      number = omega arith

  more : length (firsts ++ (f ∷ [])) ≡ length firsts + 1
  more = length-append firsts (f ∷ [])

  all_steps : length (steps ++ (f ∷ rest)) ≡ length steps + suc (length rest)
  all_steps = length-append steps (f ∷ rest)

  inside_more : (k : ℕ) → k + 1 < length (steps ++ (f ∷ rest)) → waits_at (steps ++ (f ∷ rest)) k ≡ true → on_at (steps ++ (f ∷ rest)) (k + 1) ≡ true
      → HasPair (firsts ++ (f ∷ [])) k
  inside_more k within waits begins = by (cases_lt (k + 1) (length steps))
    where
      behind : length steps ≤ k → HasPair (firsts ++ (f ∷ [])) k
      behind le =
          let found : get_or (steps ++ (f ∷ rest)) (k + 1) items.Yield ≡ get_or rest (k - length steps) items.Yield = further_step (k + 1) (k - length steps) (omega arith) in
          let none : is_on (get_or rest (k - length steps) items.Yield) ≡ false = further.none_begins (k - length steps) items.Yield (omega (arith, all_steps)) in
          absurd (true≢false (sym begins ∙ ap is_on found ∙ none))

      edge : k < length steps → length steps ≤ k + 1 → HasPair (firsts ++ (f ∷ [])) k
      edge less le =
          let p = shape.last k (omega arith) (ap (λ x. is_wait (Some x)) (sym (old_step k less)) ∙ waits) in
          let last : p.j + 1 ≡ length firsts = p.is_last in
          record {
            j = p.j;
            within = omega (arith, more);
            waits = ap (λ x. is_wait (Some x)) (old_item p.j (omega arith)) ∙ p.waits;
            begins = ap is_on (new_item (p.j + 1) last) ∙ (ap is_on (sym (new_step (k + 1) (omega arith))) ∙ begins);
            first = p.first;
          }

      old : k + 1 < length steps → HasPair (firsts ++ (f ∷ [])) k
      old less =
          let p = shape.inside k less (ap (λ x. is_wait (Some x)) (sym (old_step k (omega arith))) ∙ waits) (ap is_on (sym (old_step (k + 1) less)) ∙ begins) in
          let there : p.j + 1 < length firsts = p.within in
          record {
            j = p.j;
            within = omega (arith, more);
            waits = ap (λ x. is_wait (Some x)) (old_item p.j (omega arith)) ∙ p.waits;
            begins = ap is_on (old_item (p.j + 1) there) ∙ p.begins;
            first = p.first;
          }

      then_edge : ((k < length steps) ⊎ (length steps ≤ k)) → length steps ≤ k + 1 → HasPair (firsts ++ (f ∷ [])) k
      then_edge (inl less) le = edge less le
      then_edge (inr more_than) le = behind more_than

      by : ((k + 1 < length steps) ⊎ (length steps ≤ k + 1)) → HasPair (firsts ++ (f ∷ [])) k
      by (inl less) = old less
      by (inr le) = then_edge (cases_lt k (length steps)) le

  last_more : (k : ℕ) → k + 1 ≡ length (steps ++ (f ∷ rest)) → waits_at (steps ++ (f ∷ rest)) k ≡ true → HasLast (firsts ++ (f ∷ [])) k
  last_more k is waits = by (cases_lt 0 (length rest))
    where
      by : ((0 < length rest) ⊎ (length rest ≤ 0)) → HasLast (firsts ++ (f ∷ [])) k
      by (inl some) =
          let found : get_or (steps ++ (f ∷ rest)) k items.Yield ≡ get_or rest (length rest - 1) items.Yield = further_step k (length rest - 1) (omega (arith, all_steps)) in
          let none : is_wait (Some (get_or rest (length rest - 1) items.Yield)) ≡ false = further.no_wait (length rest - 1) (omega arith) in
          absurd (true≢false (sym waits ∙ ap (λ x. is_wait (Some x)) found ∙ none))
      by (inr none) =
          let at : k ≡ length steps = omega (arith, all_steps) in
          record {
            j = length firsts;
            is_last = omega (arith, more);
            waits = ap (λ x. is_wait (Some x)) (new_item (length firsts) refl) ∙ (ap (λ x. is_wait (Some x)) (sym (new_step k at)) ∙ waits);
            first = λ e. at ∙ shape.none e;
          }

  pub shape_more : HasShape (firsts ++ (f ∷ [])) (steps ++ (f ∷ rest))
  shape_more = record {
    inside = inside_more;
    last = last_more;
    none = λ e. absurd (omega (arith, more));
  }

look_most : (n : ℕ) → cond {A = ℕ} (nat_le 2 n) 1 0 ≤ 1
look_most n = grind (arith, nat_tests)

look_several : (n : ℕ) → 2 ≤ n → cond {A = ℕ} (nat_le 2 n) 1 0 ≡ 1
look_several n several = grind (arith, nat_tests)

look_below : (n j : ℕ) → j + 1 ≡ n → cond {A = ℕ} (nat_le 2 n) 1 0 ≤ j
look_below n j e = grind (arith, nat_tests)

-- if no item is a bare wait, no step is one
module _ (firsts steps : List Item) (shape : HasShape firsts steps) (bare : AreNotBare firsts (length firsts)) where
  some_at : (xs : List Item) (k : ℕ) → k < length xs → slice_get xs k ≡ Some (get_or xs k items.Yield)
  some_at xs k within = slice_get-get_or xs k items.Yield within

  no_pair : (k : ℕ) → HasPair firsts k → first_to_look_at steps ≤ k → k + 1 < length steps → ⊥
  no_pair k p from within =
      let there : p.j + 1 < length firsts = p.within in
      let later : 1 ≤ p.j = by (cases_lt 0 p.j) in
      let waits : is_wait (slice_get firsts p.j) ≡ true = ap is_wait (some_at firsts p.j (omega arith)) ∙ p.waits in
      let ends : ends_handler (slice_get firsts (p.j + 1)) ≡ true = ap ends_handler (some_at firsts (p.j + 1) there) ∙ p.begins in
      let is : is_bare firsts p.j ≡ true = both waits ends in
      true≢false (sym is ∙ bare p.j (omega (arith, look_most (length firsts))) (omega arith))
    where
      both : {w e : Bool} → w ≡ true → e ≡ true → (w && e) ≡ true
      both h g = rw (h, g) refl

      by : ((0 < p.j) ⊎ (p.j ≤ 0)) → 1 ≤ p.j
      by (inl less) = omega arith
      by (inr le) =
          let first : k ≡ 0 = p.first (omega arith) in
          absurd (omega (arith, look_several (length steps) (omega arith)))

  no_last : (k : ℕ) → HasLast firsts k → ⊥
  no_last k p =
      let last : p.j + 1 ≡ length firsts = p.is_last in
      let waits : is_wait (slice_get firsts p.j) ≡ true = ap is_wait (some_at firsts p.j (omega arith)) ∙ p.waits in
      let ends : ends_handler (slice_get firsts (p.j + 1)) ≡ true = ap ends_handler (slice_get_past firsts (p.j + 1) (omega arith)) in
      let is : is_bare firsts p.j ≡ true = both waits ends in
      true≢false (sym is ∙ bare p.j (look_below (length firsts) p.j last) (omega arith))
    where
      both : {w e : Bool} → w ≡ true → e ≡ true → (w && e) ≡ true
      both h g = rw (h, g) refl

  not_bare_by : (k : ℕ) → first_to_look_at steps ≤ k → k < length steps → (b : Bool) → is_bare steps k ≡ b → b ≡ false
  not_bare_by k from within false e = refl
  not_bare_by k from within true e = absurd (by (cases_lt (k + 1) (length steps)))
    where
      waits : waits_at steps k ≡ true
      waits = ap is_wait (sym (some_at steps k within)) ∙ (and_parts (is_wait (slice_get steps k)) (ends_handler (slice_get steps (k + 1))) e).0

      by : ((k + 1 < length steps) ⊎ (length steps ≤ k + 1)) → ⊥
      by (inl less) =
          let begins : on_at steps (k + 1) ≡ true = ap ends_handler (sym (some_at steps (k + 1) less)) ∙ (and_parts (is_wait (slice_get steps k)) (ends_handler (slice_get steps (k + 1))) e).1 in
          no_pair k (shape.inside k less waits begins) from less
      by (inr le) = no_last k (shape.last k (omega arith) waits)

  pub steps_not_bare : AreNotBare steps (length steps)
  steps_not_bare k from within = not_bare_by k from within (is_bare steps k) refl
