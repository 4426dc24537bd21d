-- Marks of rows, and which rows have kept up.
use Rattle.std.proofs.Common.{◌≡◌, ◌≢◌, ℕ, zero, suc, ◌+◌, ◌<◌, ◌≤◌, inl, inr, Bool, true, false, cond, ◌||◌, List, [], ◌∷◌, ◌++◌, length, map, get_or, set, replicate, refl, sym, ap, subst, ◌∙◌, Some, None, arith}
use Rattle.std.specs.Prelude.{◌==◌}
use Rattle.std.specs.List.{list_any, range_with_len, AllByRecursion}
use Rattle.std.proofs.lemmas.Bool.Decides.{nat_tests}
use Rattle.std.proofs.lemmas.List.FromFn.{get_or-map-range_with_len, length-map-range_with_len}
use Rattle.mcs_control.specs.declared.config.Mode.{Mode}
use Rattle.mcs_control.specs.declared.config.Mode.TheVariants.{Sporadic, Bandwidth}
use Rattle.mcs_ticks.specs.declared.row.What.{What}
use Rattle.mcs_ticks.specs.declared.row.What.TheVariants as row
use Rattle.mcs_system.specs.System.{System}
use Rattle.mcs_ever.specs.declared.marks.Mark.{Mark}
use Rattle.mcs_ever.specs.Later.{Shift, KeepsUp, ContextKeepsUp, RoundKeepsUp}
use Rattle.mcs_ever.specs.Marks.{no_mark, joined, is_bandwidth, mode_of, compared, of_thread, mark_by, mark_of, marks_of}
use Rattle.mcs_ever.specs.laws.Home.{IsOwnThread, IsOfOwn}
use Rattle.mcs_ever.specs.laws.Marked.{MarksTell, MarksAskNoMore}

-- lists by the numbers of threads
both : (a b : Mark) (xs ys : List Mark) → a ≡ b → xs ≡ ys → a ∷ xs ≡ b ∷ ys
both a b xs ys e f = cc

map-same : (f g : ℕ → Mark) (n a : ℕ) → ((i : ℕ) → a ≤ i → i < a + n → f i ≡ g i) → map f (range_with_len a n) ≡ map g (range_with_len a n)
map-same f g zero a h = refl
map-same f g (suc n) a h = both _ _ _ _ (h a (omega arith) (omega arith)) (map-same f g n (a + 1) (λ i l m. h i (omega (arith, l)) (omega (arith, m))))

map-set : (f g : ℕ → Mark) (n a x : ℕ) (mark : Mark) → ((i : ℕ) → a ≤ i → i < a + n → i ≢ a + x → f i ≡ g i) → (x < n → mark ≡ g (a + x)) →
    set (map f (range_with_len a n)) x mark ≡ map g (range_with_len a n)
map-set f g zero a x mark h e = refl
map-set f g (suc n) a zero mark h e =
    let P : ℕ → Type 0 = λ k. mark ≡ g k in
    let here : a + 0 ≡ a = omega arith in
    both _ _ _ _ (subst P here (e (omega arith))) (map-same f g n (a + 1) (λ i l m. h i (omega (arith, l)) (omega (arith, m)) (omega (arith, l))))
map-set f g (suc n) a (suc x) mark h e =
    let P : ℕ → Type 0 = λ k. mark ≡ g k in
    let next : a + suc x ≡ a + 1 + x = omega arith in
    both _ _ _ _ (h a (omega arith) (omega arith) (omega arith))
    (map-set f g n (a + 1) x mark (λ i l m ne. h i (omega (arith, l)) (omega (arith, m)) (λ e. ne (e ∙ next))) (λ l. subst P next (e (omega (arith, l)))))

-- one row more
any-more : (p : What → Bool) (rows : List What) (what : What) → list_any p (rows ++ what ∷ []) ≡ (list_any p rows || p what)
any-more p [] what = by (p what)
  where
    by : (b : Bool) → (b || false) ≡ b
    by true = refl
    by false = refl
any-more p (first ∷ rows) what = by (p first) (any-more p rows what)
  where
    by : (b : Bool) → list_any p (rows ++ what ∷ []) ≡ (list_any p rows || p what) → (b || list_any p (rows ++ what ∷ [])) ≡ ((b || list_any p rows) || p what)
    by true e = refl
    by false e = e

joined-none : (a : Mark) → joined a no_mark ≡ a
joined-none a = ap (λ b. record { context = b; round = a.round || false }) (by a.context) ∙ ap (λ b. record { context = a.context; round = b }) (by a.round)
  where
    by : (b : Bool) → (b || false) ≡ b
    by true = refl
    by false = refl

-- what a mark of one thread is to another one
of_thread-own : (x : ℕ) (mark : Mark) → of_thread x (Some (x, mark)) ≡ mark
of_thread-own x mark = ap (λ b. cond b mark no_mark) (same x)
  where
    same : (x : ℕ) → (x == x) ≡ true
    same x = grind (arith, nat_tests)

of_thread-other : (x y : ℕ) (mark : Mark) → x ≢ y → of_thread x (Some (y, mark)) ≡ no_mark
of_thread-other x y mark ne = ap (λ b. cond b mark no_mark) (differ x y ne)
  where
    differ : (x y : ℕ) → x ≢ y → (y == x) ≡ false
    differ x y ne = grind (arith, nat_tests)

module _ (system : System) where
  mark-more : (x : ℕ) (rows : List What) (what : What) → mark_of system x (rows ++ what ∷ []) ≡ joined (mark_of system x rows) (mark_by system x what)
  mark-more x rows what =
      ap (λ b. record { context = b; round = list_any (λ what. (mark_by system x what).round) (rows ++ what ∷ []) }) (any-more (λ what. (mark_by system x what).context) rows what)
      ∙ ap (λ b. record { context = (joined (mark_of system x rows) (mark_by system x what)).context; round = b }) (any-more (λ what. (mark_by system x what).round) rows what)

  mark-still : (x : ℕ) (rows : List What) (what : What) → mark_by system x what ≡ no_mark → mark_of system x rows ≡ mark_of system x (rows ++ what ∷ [])
  mark-still x rows what e = sym (mark-more x rows what ∙ ap (joined (mark_of system x rows)) e ∙ joined-none (mark_of system x rows))

  pub marks-many : (rows : List What) → length (marks_of system rows) ≡ length system.threads
  marks-many rows = length-map-range_with_len _ 0 (length system.threads)

  pub marks-at : (rows : List What) (x : ℕ) (mark : Mark) → x < length system.threads → get_or (marks_of system rows) x mark ≡ mark_of system x rows
  marks-at rows x mark l = get_or-map-range_with_len (λ thread. mark_of system thread rows) 0 (length system.threads) x x mark l (omega arith)

  -- before the first row
  pub marks-first : marks_of system [] ≡ replicate (length system.threads) no_mark
  marks-first = none (length system.threads) 0
    where
      none : (n a : ℕ) → map (λ thread. mark_of system thread []) (range_with_len a n) ≡ replicate n no_mark
      none zero a = refl
      none (suc n) a = ap (λ marks. no_mark ∷ marks) (none n (a + 1))

  pub marks-none : (rows : List What) (what : What) (y : ℕ) (mark : Mark) → compared system what ≡ Some (y, mark) → length system.threads ≤ y →
      marks_of system rows ≡ marks_of system (rows ++ what ∷ [])
  marks-none rows what y mark e far =
      map-same _ _ (length system.threads) 0
      (λ x _ l. mark-still x rows what (ap (of_thread x) e ∙ of_thread-other x y mark (let ne : x ≢ y = omega (arith, l, far) in ne)))

  -- a row that shows something of a thread
  pub marks-more : (rows : List What) (what : What) (y : ℕ) (mark : Mark) → compared system what ≡ Some (y, mark) → y < length system.threads →
      set (marks_of system rows) y (joined (mark_of system y rows) mark) ≡ marks_of system (rows ++ what ∷ [])
  marks-more rows what y mark e known =
      map-set _ _ (length system.threads) 0 y (joined (mark_of system y rows) mark)
      (λ x _ _ ne. mark-still x rows what (ap (of_thread x) e ∙ of_thread-other x y mark (λ f. ne (f ∙ zeroth y))))
      (λ _. let P : ℕ → Type 0 = λ x. joined (mark_of system y rows) mark ≡ mark_of system x (rows ++ what ∷ []) in
      subst P (zeroth y) (sym (mark-more y rows what ∙ ap (joined (mark_of system y rows)) (ap (of_thread y) e ∙ of_thread-own y mark))))
    where
      zeroth : (y : ℕ) → y ≡ 0 + y
      zeroth y = omega arith

  -- so by the list that is kept
  pub kept-more : (rows : List What) (what : What) (marks : List Mark) (x : ℕ) (mark before after : Mark) → marks ≡ marks_of system rows →
      compared system what ≡ Some (x, mark) → x < length marks → before ≡ get_or marks x before → after ≡ joined before mark →
      set marks x after ≡ marks_of system (rows ++ what ∷ [])
  kept-more rows what marks x mark before after is e l at made =
      let many : length marks ≡ length system.threads = ap length is ∙ marks-many rows in
      let known : x < length system.threads = omega (arith, l, many) in
      let was : before ≡ mark_of system x rows = at ∙ ap (λ marks. get_or marks x before) is ∙ marks-at rows x before known in
      ap (λ marks. set marks x after) is ∙ ap (set (marks_of system rows) x) (made ∙ ap (λ mark_before. joined mark_before mark) was) ∙ marks-more rows what x mark e known

  pub kept-none : (rows : List What) (what : What) (marks : List Mark) (x : ℕ) (mark : Mark) → marks ≡ marks_of system rows →
      compared system what ≡ Some (x, mark) → length marks ≤ x → marks ≡ marks_of system (rows ++ what ∷ [])
  kept-none rows what marks x mark is e l =
      let many : length marks ≡ length system.threads = ap length is ∙ marks-many rows in
      is ∙ marks-none rows what x mark e (omega (arith, l, many))

  module _ (shift : Shift) where
    -- what one row marks
    row-tells : (core : ℕ) (what : What) → ((x : ℕ) → IsOwnThread system core x → (mark_by system x what).context ≡ true → ContextKeepsUp system shift x) →
        ((x : ℕ) → IsOwnThread system core x → (mark_by system x what).round ≡ true → RoundKeepsUp system shift x) → IsOfOwn system core what → KeepsUp system shift what
    row-tells core (row.Wake x note word until) context round own =
        (context x own.0 (ap (λ (mark : Mark). mark.context) (of_thread-own x _)), round x own.0 (ap (λ (mark : Mark). mark.round) (of_thread-own x _)))
    row-tells core (row.Run x) context round own = by (mode_of system x) refl
      where
        by : (mode : Mode) → mode_of system x ≡ mode → KeepsUp system shift (row.Run x)
        by Sporadic e = inr e
        by Bandwidth e = inl (context x own (ap (λ (mark : Mark). mark.context) (of_thread-own x _) ∙ ap is_bandwidth e))
    row-tells core (row.Stop x cause k (Some until)) context round own = context x own (ap (λ (mark : Mark). mark.context) (of_thread-own x _))
    row-tells core (row.Stop x cause k None) context round own = tt
    row-tells core (row.Round x number response) context round own = round x own (ap (λ (mark : Mark). mark.round) (of_thread-own x _))
    row-tells core (row.Got x note word) context round own = round x own.0 (ap (λ (mark : Mark). mark.round) (of_thread-own x _))
    row-tells core (row.Release x) context round own = tt
    row-tells core (row.Signal x note badge) context round own = tt
    row-tells core (row.Arrive note badge maker) context round own = tt
    row-tells core (row.Hold note word) context round own = tt
    row-tells core (row.Order context_of) context round own = tt
    row-tells core (row.Interrupt source note badge) context round own = tt

    any-first : (p : What → Bool) (what : What) (rows : List What) → p what ≡ true → list_any p (what ∷ rows) ≡ true
    any-first p what rows e = ap (λ b. b || list_any p rows) e

    any-next : (p : What → Bool) (what : What) (rows : List What) → list_any p rows ≡ true → list_any p (what ∷ rows) ≡ true
    any-next p what rows e = by (p what) e
      where
        by : (b : Bool) → list_any p rows ≡ true → (b || list_any p rows) ≡ true
        by true e = refl
        by false e = e

    rows-tell : (core : ℕ) (rows : List What) → ((x : ℕ) → IsOwnThread system core x → (mark_of system x rows).context ≡ true → ContextKeepsUp system shift x) →
        ((x : ℕ) → IsOwnThread system core x → (mark_of system x rows).round ≡ true → RoundKeepsUp system shift x) →
        AllByRecursion (λ what. IsOfOwn system core what → KeepsUp system shift what) rows
    rows-tell core [] context round = tt
    rows-tell core (what ∷ rows) context round = (
      row-tells core what (λ x own e. context x own (any-first (λ what. (mark_by system x what).context) what rows e)) (λ x own e. round x own (any-first (λ what. (mark_by system x what).round) what rows e)),
      rows-tell core rows (λ x own e. context x own (any-next (λ what. (mark_by system x what).context) what rows e)) (λ x own e. round x own (any-next (λ what. (mark_by system x what).round) what rows e)),
    )

    -- what of a thread is marked by a row of another one
    marked-context : (P : ℕ → Type 0) (x y : ℕ) (mark : Mark) → (of_thread x (Some (y, mark))).context ≡ true → (mark.context ≡ true → P y) → P x
    marked-context P x y mark e f = by (y == x) refl e
      where
        same : (a b : ℕ) → (a == b) ≡ true → a ≡ b
        same a b e = grind (arith, nat_tests)

        by : (b : Bool) → (y == x) ≡ b → (cond b mark no_mark).context ≡ true → P x
        by true g e = subst P (same y x g) (f e)
        by false g e = absurd (never e)
          where
            never : false ≡ true → ⊥
            never e = cc

    marked-round : (P : ℕ → Type 0) (x y : ℕ) (mark : Mark) → (of_thread x (Some (y, mark))).round ≡ true → (mark.round ≡ true → P y) → P x
    marked-round P x y mark e f = by (y == x) refl e
      where
        same : (a b : ℕ) → (a == b) ≡ true → a ≡ b
        same a b e = grind (arith, nat_tests)

        by : (b : Bool) → (y == x) ≡ b → (cond b mark no_mark).round ≡ true → P x
        by true g e = subst P (same y x g) (f e)
        by false g e = absurd (never e)
          where
            never : false ≡ true → ⊥
            never e = cc

    no : {P : Type 0} → false ≡ true → P
    no e = absurd (never e)
      where
        never : false ≡ true → ⊥
        never e = cc

    context-asked : (x : ℕ) (what : What) → KeepsUp system shift what → (mark_by system x what).context ≡ true → ContextKeepsUp system shift x
    context-asked x (row.Wake y note word until) keeps e = marked-context (ContextKeepsUp system shift) x y _ e (λ _. keeps.0)
    context-asked x (row.Run y) keeps e = marked-context (ContextKeepsUp system shift) x y _ e (λ marked. by keeps marked)
      where
        by : KeepsUp system shift (row.Run y) → is_bandwidth (mode_of system y) ≡ true → ContextKeepsUp system shift y
        by (inl keeps) marked = keeps
        by (inr sporadic) marked = no (sym (ap is_bandwidth sporadic) ∙ marked)
    context-asked x (row.Stop y cause k (Some until)) keeps e = marked-context (ContextKeepsUp system shift) x y _ e (λ _. keeps)
    context-asked x (row.Stop y cause k None) keeps e = no e
    context-asked x (row.Round y number response) keeps e = marked-context (ContextKeepsUp system shift) x y _ e (λ marked. no marked)
    context-asked x (row.Got y note word) keeps e = marked-context (ContextKeepsUp system shift) x y _ e (λ marked. no marked)
    context-asked x (row.Release y) keeps e = no e
    context-asked x (row.Signal y note badge) keeps e = no e
    context-asked x (row.Arrive note badge maker) keeps e = no e
    context-asked x (row.Hold note word) keeps e = no e
    context-asked x (row.Order context) keeps e = no e
    context-asked x (row.Interrupt source note badge) keeps e = no e

    round-asked : (x : ℕ) (what : What) → KeepsUp system shift what → (mark_by system x what).round ≡ true → RoundKeepsUp system shift x
    round-asked x (row.Wake y note word until) keeps e = marked-round (RoundKeepsUp system shift) x y _ e (λ _. keeps.1)
    round-asked x (row.Run y) keeps e = marked-round (RoundKeepsUp system shift) x y _ e (λ marked. no marked)
    round-asked x (row.Stop y cause k (Some until)) keeps e = marked-round (RoundKeepsUp system shift) x y _ e (λ marked. no marked)
    round-asked x (row.Stop y cause k None) keeps e = no e
    round-asked x (row.Round y number response) keeps e = marked-round (RoundKeepsUp system shift) x y _ e (λ _. keeps)
    round-asked x (row.Got y note word) keeps e = marked-round (RoundKeepsUp system shift) x y _ e (λ _. keeps)
    round-asked x (row.Release y) keeps e = no e
    round-asked x (row.Signal y note badge) keeps e = no e
    round-asked x (row.Arrive note badge maker) keeps e = no e
    round-asked x (row.Hold note word) keeps e = no e
    round-asked x (row.Order context) keeps e = no e
    round-asked x (row.Interrupt source note badge) keeps e = no e

    -- so of any row
    any-asked : (P : Type 0) (p : What → Bool) → ((what : What) → KeepsUp system shift what → p what ≡ true → P) → (rows : List What) →
        AllByRecursion (KeepsUp system shift) rows → list_any p rows ≡ true → P
    any-asked P p f [] keep e = no e
    any-asked P p f (what ∷ rows) keep e = by (p what) refl e (any-asked P p f rows keep.1)
      where
        by : (b : Bool) → p what ≡ b → (b || list_any p rows) ≡ true → (list_any p rows ≡ true → P) → P
        by true g e i = f what keep.0 g
        by false g e i = i e

pub marks-tell : MarksTell
marks-tell system core shift rows keep =
    rows-tell system shift core rows
    (λ x own e. keep.contexts x own (ap (λ (mark : Mark). mark.context) (marks-at system rows x no_mark own.known) ∙ e))
    (λ x own e. keep.rounds x own (ap (λ (mark : Mark). mark.round) (marks-at system rows x no_mark own.known) ∙ e))

pub marks-ask-no-more : MarksAskNoMore
marks-ask-no-more system core shift rows keep =
    record {
      contexts = λ x own e. any-asked system shift (ContextKeepsUp system shift x) (λ what. (mark_by system x what).context) (context-asked system shift x) rows keep
          (sym (ap (λ (mark : Mark). mark.context) (marks-at system rows x no_mark own.known)) ∙ e);
      rounds = λ x own e. any-asked system shift (RoundKeepsUp system shift x) (λ what. (mark_by system x what).round) (round-asked system shift x) rows keep
          (sym (ap (λ (mark : Mark). mark.round) (marks-at system rows x no_mark own.known)) ∙ e);
    }
