-- The text at a mark is that of the rows of its moment.
use Rattle.std.proofs.Common.{◌≡◌, ◌≢◌, ℕ, zero, suc, ◌+◌, ◌-◌, ◌<◌, ◌≤◌, inl, inr, List, [], ◌∷◌, ◌++◌, length, take, drop, get_or, refl, sym, ap, subst, ◌∙◌, length-append, append_assoc, arith}
use Rattle.std.specs.Prelude.{None, fold}
use Rattle.std.proofs.lemmas.Bool.{cases_eq, cases_lt, eq-eqb, ne_eqb}
use Rattle.std.proofs.lemmas.List.Concat.{flat_map-append}
use Rattle.std.proofs.Math.Seq.{drop-append_seam, take-append_seam}
use Rattle.mcs_ticks.specs.declared.row.Row.{Row}
use Rattle.mcs_merge.specs.Merge.{rows_at, AreFrom}
use Rattle.mcs_merge.specs.stored.Parts.{AreAt}
use Rattle.mcs_merge.proofs.Joins.{rows_at-later}
use Rattle.mcs_merge.proofs.Passing.{apart-part, head_same}
use Rattle.mcs_system.specs.System.{System}
use Rattle.mcs_text.specs.declared.mark.Mark.{Mark}
use Rattle.mcs_text.specs.Text.{row_text, schedule_text}
use Rattle.mcs_text.specs.Lines.{Lines, marked, no_lines, with_row, start_of, end_of, text_at, ComeInTime, moment_of, TextsAreOfMoments}
use Rattle.mcs_text.specs.Parts.{HoldsRows, LinesHoldRows}
use Rattle.mcs_text.proofs.Givens.{bytes_grown, system_kept}
use Rattle.mcs_text.proofs.Parts.{come-all, is-first}
use Rattle.mcs_text.proofs.Places.{mark_at, last-append}

from-time : (u t : ℕ) (rows : List Row) → u ≤ t → ComeInTime t rows → AreFrom u rows
from-time u t [] l come = tt
from-time u t (r ∷ rows) l come = (let first = come.0 in omega arith, from-time u r.moment rows (let first = come.0 in omega arith) come.1)

-- rows of one moment, and one more
at-more : (t : ℕ) (rows : List Row) (r : Row) → AreAt t rows → r.moment ≡ t → AreAt t (rows ++ r ∷ [])
at-more t [] r h e = (e, tt)
at-more t (row ∷ rows) r h e = (h.0, at-more t rows r h.1 e)

-- rows of one moment before later ones
at-here : (t : ℕ) (here rest : List Row) → AreAt t here → AreFrom (suc t) rest → rows_at t (here ++ rest) ≡ here
at-here t [] rest h after = rows_at-later t (suc t) rest (omega arith) after
at-here t (row ∷ here) rest h after =
    head_same t row (here ++ rest) h.0 ∙ ap (λ (rows : List Row). row ∷ rows) (at-here t here rest h.1 after)

-- what stands between others
between : (before here rest : List ℕ) (start end : ℕ) → start ≡ length before → end ≡ length before + length here →
    take (end - start) (drop start (before ++ (here ++ rest))) ≡ here
between before here rest start end e f =
    let long : end - start ≡ length here = omega arith in
    rw (long, e, drop-append_seam before (here ++ rest)) (take-append_seam here rest)

module _ (system : System) where
  -- the rows of the first mark, with lines from here, and the later ones, with lines after those
  record Begins (later : ℕ → List Row → Type 0) (mark : Mark) (at : ℕ) (rows : List Row) : Type 0 where
    here : List Row
    rest : List Row
    split : rows ≡ here ++ rest
    some : 1 ≤ length here
    start : mark.start ≡ at
    same : AreAt mark.moment here
    after : AreFrom (suc mark.moment) rest
    next : later (at + length (schedule_text system here)) rest

  -- these are the marks of these rows, whose lines begin here
  abbrev AreMarked : List Mark → ℕ → List Row → Type 0
  AreMarked [] at rows = rows ≡ []
  AreMarked (mark ∷ marks) at rows = Begins (λ at rows. AreMarked marks at rows) mark at rows

  module _ (later : ℕ → List Row → Type 0) (mark : Mark) (at : ℕ) (rows : List Row) (b : Begins later mark at rows) where
    at-first : rows_at mark.moment rows ≡ b.here
    at-first = ap (rows_at mark.moment) b.split ∙ at-here mark.moment b.here b.rest b.same b.after

    at-rest : (t : ℕ) → rows_at t b.rest ≢ [] → rows_at t rows ≡ rows_at t b.rest
    at-rest t some =
        ap (rows_at t) b.split
        ∙ apart-part t mark.moment b.here b.rest b.same (λ e. some (rows_at-later t (suc mark.moment) b.rest (omega arith) b.after))

    text-split : schedule_text system rows ≡ schedule_text system b.here ++ schedule_text system b.rest
    text-split = ap (schedule_text system) b.split ∙ flat_map-append (row_text system) b.here b.rest

  some-at : (marks : List Mark) (at : ℕ) (rows : List Row) → AreMarked marks at rows → (k : ℕ) → k < length marks → rows_at (moment_of marks k) rows ≢ []
  some-at [] at rows b k l e = absurd (omega arith)
  some-at (mark ∷ marks) at rows b zero l e =
      let none : length b.here ≡ 0 = ap length (sym (at-first (AreMarked marks) mark at rows b) ∙ e) in
      absurd (omega (arith, b.some))
  some-at (mark ∷ marks) at rows b (suc k) l e =
      let some = some-at marks (at + length (schedule_text system b.here)) b.rest b.next k (omega arith) in
      some (sym (at-rest (AreMarked marks) mark at rows b (moment_of marks k) some) ∙ e)

  rising : (marks : List Mark) (at : ℕ) (rows : List Row) → AreMarked marks at rows → (k j : ℕ) → k < j → j < length marks → moment_of marks k < moment_of marks j
  rising [] at rows b k j l m = absurd (omega arith)
  rising (mark ∷ marks) at rows b k zero l m = absurd (omega arith)
  rising (mark ∷ marks) at rows b zero (suc j) l m =
      let some = some-at marks (at + length (schedule_text system b.here)) b.rest b.next j (omega arith) in
      elim (cases_lt mark.moment (moment_of marks j)) [
        | inl less ↦ less
        | inr more ↦ absurd (some (rows_at-later (moment_of marks j) (suc mark.moment) b.rest (omega arith) b.after))
      ]
  rising (mark ∷ marks) at rows b (suc k) (suc j) l m = rising marks (at + length (schedule_text system b.here)) b.rest b.next k j (omega arith) (omega arith)

  all-at : (marks : List Mark) (at : ℕ) (rows : List Row) → AreMarked marks at rows → (t : ℕ) → ((k : ℕ) → k < length marks → moment_of marks k ≢ t) → rows_at t rows ≡ []
  all-at [] at rows b t none = ap (rows_at t) b
  all-at (mark ∷ marks) at rows b t none =
      ap (rows_at t) b.split ∙ apart-part t mark.moment b.here b.rest b.same (λ e. none 0 (omega arith) (sym e))
      ∙ all-at marks (at + length (schedule_text system b.here)) b.rest b.next t (λ k l. none (suc k) (omega arith))

  -- the start of the first mark's lines, or the end of all lines
  begins-at : (marks : List Mark) (at : ℕ) (rows : List Row) (end : ℕ) → AreMarked marks at rows → end ≡ at + length (schedule_text system rows) → (get_or marks 0 (mark_at 0 end)).start ≡ at
  begins-at [] at rows end b e = (let none = ap (λ rows. length (schedule_text system rows)) b in omega arith)
  begins-at (mark ∷ marks) at rows end b e = b.start

  texts : (before : List ℕ) (marks : List Mark) (at : ℕ) (rows : List Row) → AreMarked marks at rows → length before ≡ at → (k : ℕ) → k < length marks →
      text_at (record { system = system; bytes = before ++ schedule_text system rows; marks = marks }) k ≡ schedule_text system (rows_at (moment_of marks k) rows)
  texts before [] at rows b long k l = absurd (omega arith)
  texts before (mark ∷ marks) at rows b long zero l =
      let here = schedule_text system b.here in
      let all = text-split (AreMarked marks) mark at rows b in
      let end = length (before ++ schedule_text system rows) in
      let whole : end ≡ at + length here + length (schedule_text system b.rest) =
      omega (arith, length-append before (schedule_text system rows), ap length all, length-append here (schedule_text system b.rest))
      in
      let ends : end_of end (mark ∷ marks) 0 ≡ at + length here = begins-at marks (at + length here) b.rest end b.next whole in
      ap (λ text. take (end_of end (mark ∷ marks) 0 - mark.start) (drop mark.start (before ++ text))) all
      ∙ between before here (schedule_text system b.rest) mark.start (end_of end (mark ∷ marks) 0) (b.start ∙ sym long) (omega arith)
      ∙ ap (schedule_text system) (sym (at-first (AreMarked marks) mark at rows b))
  texts before (mark ∷ marks) at rows b long (suc k) l =
      let here = schedule_text system b.here in
      let bytes = before ++ schedule_text system rows in
      let same : bytes ≡ (before ++ here) ++ schedule_text system b.rest =
      ap (λ text. before ++ text) (text-split (AreMarked marks) mark at rows b) ∙ sym (append_assoc before here (schedule_text system b.rest))
      in
      let next : suc k + 1 ≡ suc (k + 1) = omega arith in
      ap (λ n. take ((get_or (mark ∷ marks) n (mark_at 0 (length bytes))).start - start_of marks k) (drop (start_of marks k) bytes)) next
      ∙ ap (λ bytes. text_at (record { system = system; bytes = bytes; marks = marks }) k) same
      ∙ texts (before ++ here) marks (at + length here) b.rest b.next (omega (arith, length-append before here)) k (omega arith)
      ∙ ap (schedule_text system)
      (sym (at-rest (AreMarked marks) mark at rows b (moment_of marks k) (some-at marks (at + length here) b.rest b.next k (omega arith))))

  -- further rows are given; the last row before them has the time of the last mark
  abbrev Told : List Mark → Mark → List ℕ → List Mark → List Row → List Row → Type 0
  Told front mark bytes marks rows all =
      (later : List Mark) × ((fold with_row (record { system = system; bytes = bytes; marks = marks }) rows).marks ≡ front ++ mark ∷ later)
      × AreMarked (mark ∷ later) mark.start all

  told : (front : List Mark) (t at : ℕ) (here rows : List Row) (bytes : List ℕ) → 1 ≤ length here → AreAt t here → ComeInTime t rows →
      length bytes ≡ at + length (schedule_text system here) → Told front (mark_at t at) bytes (front ++ mark_at t at ∷ []) rows (here ++ rows)
  told front t at here [] bytes some same come long =
      ([], refl, record { here = here; rest = []; split = refl; some = some; start = refl; same = same; after = tt; next = refl })
  told front t at here (r ∷ rows) bytes some same come long =
      let mark = mark_at t at in
      let new = mark_at r.moment (length bytes) in
      let more : length (bytes ++ row_text system r) ≡ length bytes + length (schedule_text system (r ∷ [])) =
      omega (arith, length-append bytes (row_text system r), length-append (row_text system r) [])
      in
      elim (cases_eq r.moment t) [
        | inl e ↦
            let is : marked r.moment (length bytes) (front ++ mark ∷ []) ≡ front ++ mark ∷ [] = rw (last-append None front mark, eq-eqb t r.moment (sym e)) refl in
            let rest = told front t at (here ++ r ∷ []) rows (bytes ++ row_text system r) (omega (arith, length-append here (r ∷ []))) (at-more t here r same e)
            (subst (λ u. ComeInTime u rows) e come.1)
            (omega (arith, long, more, ap length (flat_map-append (row_text system) here (r ∷ [])), length-append (schedule_text system here) (schedule_text system (r ∷ []))))
            in
            subst (Told front mark (bytes ++ row_text system r) (marked r.moment (length bytes) (front ++ mark ∷ [])) rows) (append_assoc here (r ∷ []) rows)
            (subst (λ marks. Told front mark (bytes ++ row_text system r) marks rows ((here ++ r ∷ []) ++ rows)) (sym is) rest)
        | inr ne ↦
            let is : marked r.moment (length bytes) (front ++ mark ∷ []) ≡ (front ++ mark ∷ []) ++ new ∷ [] =
            rw (last-append None front mark, ne_eqb t r.moment (λ e. ne (sym e))) refl
            in
            let rest = told (front ++ mark ∷ []) r.moment (length bytes) (r ∷ []) rows (bytes ++ row_text system r) (omega arith) (refl, tt) come.1 more in
            let first = come.0 in
            subst (λ marks. Told front mark (bytes ++ row_text system r) marks rows (here ++ r ∷ rows)) (sym is) (
              new ∷ rest.0,
              rest.1 ∙ append_assoc front (mark ∷ []) (new ∷ rest.0),
              record {
                here = here;
                rest = r ∷ rows;
                split = refl;
                some = some;
                start = refl;
                same = same;
                after = from-time (suc t) r.moment (r ∷ rows) (omega arith) (omega arith, come.1);
                next = subst (λ at. AreMarked (new ∷ rest.0) at (r ∷ rows)) long rest.2;
              },
            )
      ]

  all-told : (rows : List Row) → ComeInTime 0 rows → AreMarked (fold with_row (no_lines system) rows).marks 0 rows
  all-told [] come = refl
  all-told (r ∷ rows) come =
      let rest = told [] r.moment 0 (r ∷ []) rows (row_text system r) (omega arith) (refl, tt) come.1 (omega (arith, length-append (row_text system r) [])) in
      subst (λ marks. AreMarked marks 0 (r ∷ rows)) (sym rest.1) rest.2

  texts-told : (rows : List Row) → ComeInTime 0 rows → (k : ℕ) → k < length (fold with_row (no_lines system) rows).marks →
      text_at (fold with_row (no_lines system) rows) k ≡ schedule_text system (rows_at (moment_of (fold with_row (no_lines system) rows).marks k) rows)
  texts-told rows come k l =
      let lines = fold with_row (no_lines system) rows in
      ap (λ bytes. text_at (record lines { bytes = bytes }) k) (bytes_grown (no_lines system) rows)
      ∙ texts [] lines.marks 0 rows (all-told rows come) refl k l

pub texts_of_moments : TextsAreOfMoments
texts_of_moments system rows lines is come =
    subst (λ (lines : Lines). (k : ℕ) → k < length lines.marks → text_at lines k ≡ schedule_text system (rows_at (moment_of lines.marks k) rows))
    (sym is) (texts-told system rows come)

pub lines-hold : LinesHoldRows
lines-hold system rows lines is o =
    let come = come-all rows o in
    let marks = (fold with_row (no_lines system) rows).marks in
    let m = all-told system rows come in
    let rises : (k : ℕ) → 0 ≤ k → k + 1 < length marks → moment_of marks k < moment_of marks (k + 1) = λ k p l. rising system marks 0 rows m k (k + 1) (omega arith) l in
    let some : (k : ℕ) → 0 ≤ k → k < length marks → rows_at (moment_of marks k) rows ≢ [] = λ k p l. some-at system marks 0 rows m k l in
    let all : (t : ℕ) → ((k : ℕ) → 0 ≤ k → k < length marks → moment_of marks k ≢ t) → rows_at t rows ≡ [] = λ t none. all-at system marks 0 rows m t (λ k l. none k (omega arith) l) in
    subst (λ (lines : Lines). HoldsRows system (record { lines = lines; place = 0 }) rows) (sym is)
    (record {
      of_system = system_kept (no_lines system) rows;
      in_order = o;
      first = is-first marks 0 rises rows o some all (fold with_row (no_lines system) rows) refl;
      rising = rises;
      texts = λ k p l. texts-told system rows come k l;
      some = some;
      all = all;
    })
