-- Lines that are given to a text, those of a moment at once.
use Rattle.std.proofs.Common.{◌≡◌, ◌≢◌, ℕ, zero, suc, ◌+◌, ◌-◌, ◌<◌, ◌≤◌, inl, inr, List, [], ◌∷◌, length, refl, sym, ap, subst, ◌∙◌, append-nil, append_assoc, arith}
use Rattle.std.specs.Prelude.{Some, None, IfSome, IsSome, option_map, slice_get}
use Rattle.std.proofs.lemmas.Bool.{cases_lt, cases_eq}
use Rattle.std.proofs.lemmas.Option.{slice_get-get_or, slice_get_past}
use Rattle.mcs_ticks.specs.declared.row.Row.{Row}
use Rattle.mcs_ticks.specs.Given.{Given, GivenUntil}
use Rattle.mcs_merge.specs.Merge.{rows_at, AreFrom, DoNotFall}
use Rattle.mcs_merge.specs.Parts.{first_moment, rows_from}
use Rattle.mcs_merge.proofs.Joins.{rows_at-later}
use Rattle.mcs_merge.proofs.Merges.{AreFrom-zero}
use Rattle.mcs_merge.proofs.Passing.{head_same}
use Rattle.mcs_merge.proofs.Parts.{none-is-some, from-in-order, from-is, at-from}
use Rattle.mcs_text.specs.declared.mark.Mark.{Mark}
use Rattle.mcs_text.specs.Text.{row_text, schedule_text}
use Rattle.mcs_text.specs.Lines.{Lines, text_at, moment_of, ComeInTime}
use Rattle.mcs_text.specs.Parts.{Text, with_bytes, TakesText, LinesPart, next_of, left_of, HoldsRows, TextGrows}

-- a text that is given rows
pub given-text : (text : Text) (rows : List Row) → Given TakesText text rows (with_bytes text (schedule_text text.system rows))
given-text text [] = ap (λ bytes. record text { bytes = bytes }) (sym (append-nil text.bytes))
given-text text (row ∷ rows) =
    let next = with_bytes text (row_text text.system row) in (
      next,
      refl,
      subst (λ bytes. Given TakesText next rows (record text { bytes = bytes })) (append_assoc text.bytes (row_text text.system row) (schedule_text text.system rows)) (given-text next rows),
    )

pub text-grows : TextGrows
text-grows before after [] g = sym g ∙ ap (λ bytes. record before { bytes = bytes }) (sym (append-nil before.bytes))
text-grows before after (row ∷ rows) g =
    let next = with_bytes before (row_text before.system row) in
    text-grows g.0 after rows g.2 ∙ ap (λ (text : Text). with_bytes text (schedule_text text.system rows)) g.1
    ∙ ap (λ bytes. record before { bytes = bytes }) (append_assoc before.bytes (row_text before.system row) (schedule_text before.system rows))

refused-text : (text : Text) (rows : List Row) → rows ≢ [] → GivenUntil TakesText text rows text
refused-text text [] h = absurd (h refl)
refused-text text (row ∷ rows) h = inl refl

some-at : (row : Row) (rows : List Row) → rows_at row.moment (row ∷ rows) ≢ []
some-at row rows e =
    let is = head_same row.moment row rows refl in
    cc

-- the first mark that waits
pub next-known : (marks : List Mark) (place : ℕ) → place < length marks → option_map (λ (mark : Mark). mark.moment) (slice_get marks place) ≡ Some (moment_of marks place)
next-known marks place l = ap (option_map (λ (mark : Mark). mark.moment)) (slice_get-get_or marks place (record { moment = 0; start = 0 }) l)

next-past : (marks : List Mark) (place : ℕ) → length marks ≤ place → option_map (λ (mark : Mark). mark.moment) (slice_get marks place) ≡ None
next-past marks place l = ap (option_map (λ (mark : Mark). mark.moment)) (slice_get_past marks place l)

-- of lines that wait, the first moment is that of the first row
module _ (marks : List Mark) (place : ℕ) (rising : (k : ℕ) → place ≤ k → k + 1 < length marks → moment_of marks k < moment_of marks (k + 1)) where
  -- the moments of later marks are later
  later : (n k : ℕ) → place + suc n ≡ k → k < length marks → moment_of marks place < moment_of marks k
  later zero k e l =
      let is : place + 1 ≡ k = omega arith in
      subst (λ i. moment_of marks place < moment_of marks i) is (rising place (omega arith) (omega arith))
  later (suc n) k e l =
      let before = later n (place + suc n) refl (omega arith) in
      let next = rising (place + suc n) (omega arith) (omega arith) in
      let is : place + suc n + 1 ≡ k = omega arith in
      subst (λ i. moment_of marks place < moment_of marks i) is (omega arith)

  pub later-than : (k : ℕ) → place < k → k < length marks → moment_of marks place < moment_of marks k
  later-than k m l = later (k - place - 1) k (omega arith) l

  no-earlier : (k : ℕ) → place ≤ k → k < length marks → moment_of marks place ≤ moment_of marks k
  no-earlier k m l = elim (cases_eq k place) [
    | inl e ↦ subst (λ i. moment_of marks place ≤ moment_of marks i) (sym e) (omega arith)
    | inr e ↦ (let less = later-than k (omega arith) l in omega arith)
  ]

  module _ (rows : List Row) (in_order : DoNotFall rows) (some : (k : ℕ) → place ≤ k → k < length marks → rows_at (moment_of marks k) rows ≢ [])
      (all : (t : ℕ) → ((k : ℕ) → place ≤ k → k < length marks → moment_of marks k ≢ t) → rows_at t rows ≡ []) where
    first-row : place < length marks → (rest : List Row) → rows ≡ rest → Some (moment_of marks place) ≡ first_moment rest
    first-row l [] e = absurd (some place (omega arith) l (ap (rows_at (moment_of marks place)) e))
    first-row l (row ∷ rest) e =
        let t = moment_of marks place in
        let order = subst DoNotFall e in_order in
        let none-before : row.moment < t → ⊥ =
        λ m. some-at row rest (sym (ap (rows_at row.moment) e) ∙ all row.moment (λ k p q is. let from = no-earlier k p q in omega arith))
        in
        let none-after : t < row.moment → ⊥ =
        λ m. some place (omega arith) l (ap (rows_at t) e ∙ rows_at-later t row.moment (row ∷ rest) m (omega arith, order.0))
        in
        elim (cases_lt row.moment t) [
          | inl m ↦ absurd (none-before m)
          | inr m ↦ elim (cases_lt t row.moment) [ inl n ↦ absurd (none-after n) | inr n ↦ ap Some (let is : t ≡ row.moment = omega arith in is) ]
        ]

    no-row : length marks ≤ place → (rest : List Row) → rows ≡ rest → None ≡ first_moment rest
    no-row l [] e = refl
    no-row l (row ∷ rest) e = absurd (some-at row rest (sym (ap (rows_at row.moment) e) ∙ all row.moment (λ k p q. absurd (omega arith))))

    pub is-first : (lines : Lines) → lines.marks ≡ marks → next_of (record { lines = lines; place = place }) ≡ first_moment rows
    is-first lines e =
        ap (λ marks. option_map (λ (mark : Mark). mark.moment) (slice_get marks place)) e
        ∙ elim (cases_lt place (length marks)) [
          | inl l ↦ next-known marks place l ∙ first-row l rows refl
          | inr l ↦ next-past marks place l ∙ no-row l rows refl
        ]

-- the lines at the first mark are given
module _ (text : Text) (part : LinesPart) (rows : List Row) (h : HoldsRows text.system part rows) (l : part.place < length part.lines.marks) where
  pub gives-first : Given TakesText text (rows_at (moment_of part.lines.marks part.place) rows) (with_bytes text (text_at part.lines part.place))
  gives-first =
      subst (λ more. Given TakesText text (rows_at (moment_of part.lines.marks part.place) rows) (with_bytes text more)) (sym (h.texts part.place (omega arith) l))
      (given-text text (rows_at (moment_of part.lines.marks part.place) rows))

  pub refuses-first : GivenUntil TakesText text (rows_at (moment_of part.lines.marks part.place) rows) text
  refuses-first = refused-text text (rows_at (moment_of part.lines.marks part.place) rows) (h.some part.place (omega arith) l)

  same-rest : (k : ℕ) → part.place + 1 ≤ k → k < length part.lines.marks →
      rows_at (moment_of part.lines.marks k) (rows_from (suc (moment_of part.lines.marks part.place)) rows) ≡ rows_at (moment_of part.lines.marks k) rows
  same-rest k p q = at-from (moment_of part.lines.marks k) (suc (moment_of part.lines.marks part.place)) rows (later-than part.lines.marks part.place h.rising k (omega arith) q)

  some-rest : (k : ℕ) → part.place + 1 ≤ k → k < length part.lines.marks → rows_at (moment_of part.lines.marks k) (rows_from (suc (moment_of part.lines.marks part.place)) rows) ≢ []
  some-rest k p q e = h.some k (omega arith) q (sym (same-rest k p q) ∙ e)

  all-rest : (u : ℕ) → ((k : ℕ) → part.place + 1 ≤ k → k < length part.lines.marks → moment_of part.lines.marks k ≢ u) → rows_at u (rows_from (suc (moment_of part.lines.marks part.place)) rows) ≡ []
  all-rest u none =
      let t = moment_of part.lines.marks part.place in
      elim (cases_lt t u) [
        | inl m ↦ at-from u (suc t) rows m ∙ h.all u (λ k p q. elim (cases_eq k part.place) [
          | inl e ↦ subst (λ i. moment_of part.lines.marks i ≢ u) (sym e) (λ i. omega arith)
          | inr e ↦ none k (omega arith) q
        ])
        | inr m ↦ rows_at-later u (suc t) (rows_from (suc t) rows) (omega arith) (from-is (suc t) rows)
      ]

  pub holds-rest : HoldsRows text.system (record part { place = part.place + 1 }) (rows_from (suc (moment_of part.lines.marks part.place)) rows)
  holds-rest =
      let t = moment_of part.lines.marks part.place in
      let order = from-in-order (suc t) rows h.in_order in
      let rises : (k : ℕ) → part.place + 1 ≤ k → k + 1 < length part.lines.marks → moment_of part.lines.marks k < moment_of part.lines.marks (k + 1) = λ k p q. h.rising k (omega arith) q in
      record {
        of_system = h.of_system;
        in_order = order;
        first = is-first part.lines.marks (part.place + 1) rises (rows_from (suc t) rows) order some-rest all-rest part.lines refl;
        rising = rises;
        texts = λ k p q. h.texts k (omega arith) q ∙ ap (schedule_text text.system) (sym (same-rest k p q));
        some = some-rest;
        all = all-rest;
      }

-- rows in order come in time
come-in-time : (t : ℕ) (rows : List Row) → AreFrom t rows → DoNotFall rows → ComeInTime t rows
come-in-time t [] h o = tt
come-in-time t (row ∷ rows) h o = (h.0, come-in-time row.moment rows o.0 o.1)

pub come-all : (rows : List Row) → DoNotFall rows → ComeInTime 0 rows
come-all rows o = come-in-time 0 rows (AreFrom-zero rows) o

-- the lines that wait if there is a next time
pub waits : (part : LinesPart) → IsSome (next_of part) → part.place < length part.lines.marks
waits part s =
    elim (cases_lt part.place (length part.lines.marks)) [
      | inl l ↦ l
      | inr l ↦ absurd (none-is-some (next_of part) s (next-past part.lines.marks part.place l))
    ]

pub pour-fewer : (part : LinesPart) → IsSome (next_of part) → left_of (record part { place = part.place + 1 }) < left_of part
pour-fewer part s = omega (arith, waits part s)

pub pour-given : (text after : Text) (part : LinesPart) (rows : List Row) → IsSome (next_of part) → after ≡ with_bytes text (text_at part.lines part.place) → HoldsRows text.system part rows →
    IfSome (next_of part) (λ t. Given TakesText text (rows_at t rows) after × HoldsRows after.system (record part { place = part.place + 1 }) (rows_from (suc t) rows))
pour-given text after part rows s e h =
    let l = waits part s in
    let t = moment_of part.lines.marks part.place in
    subst (λ next. IfSome next (λ t. Given TakesText text (rows_at t rows) after × HoldsRows after.system (record part { place = part.place + 1 }) (rows_from (suc t) rows)))
    (sym (next-known part.lines.marks part.place l))
    (subst (λ (after : Text). Given TakesText text (rows_at t rows) after × HoldsRows after.system (record part { place = part.place + 1 }) (rows_from (suc t) rows)) (sym e)
    (gives-first text part rows h l, holds-rest text part rows h l))

pub pour-refused : (text after : Text) (part : LinesPart) (rows : List Row) → IsSome (next_of part) → after ≡ text → HoldsRows text.system part rows →
    IfSome (next_of part) (λ t. GivenUntil TakesText text (rows_at t rows) after)
pour-refused text after part rows s e h =
    let l = waits part s in
    let t = moment_of part.lines.marks part.place in
    subst (λ next. IfSome next (λ t. GivenUntil TakesText text (rows_at t rows) after)) (sym (next-known part.lines.marks part.place l))
    (subst (GivenUntil TakesText text (rows_at t rows)) (sym e) (refuses-first text part rows h l))
