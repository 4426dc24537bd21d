-- Lines that are put behind those that wait: those of several rows at once are as if the rows had
-- been given one by one.
use Rattle.std.proofs.Common.{◌≡◌, ◌≢◌, ◌∙◌, ◌++◌, ℕ, suc, Bool, true, false, List, [], ◌∷◌, Option, inl, inr, length, refl, sym, ap, subst, append_assoc, append-nil, arith}
use Rattle.std.specs.Prelude.{fold, IfSome, IsSome}
use Rattle.mcs_ticks.specs.declared.row.Row.{Row}
use Rattle.mcs_ticks.specs.Given.{Given, GivenUntil}
use Rattle.mcs_merge.specs.Merge.{rows_at}
use Rattle.mcs_merge.specs.Parts.{rows_from}
use Rattle.mcs_system.specs.System.{System}
use Rattle.mcs_text.specs.Text.{row_text, schedule_text}
use Rattle.mcs_text.specs.Lines as text
use Rattle.mcs_text.specs.Lines.{no_lines, with_row, text_at, moment_of}
use Rattle.mcs_text.specs.Told.{ToldLines, HoldsTold, nothing_told}
use Rattle.mcs_text.specs.Parts.{LinesPart, HoldsRows, next_of, no_text, passed}
use Rattle.mcs_text.proofs.Parts.{holds-rest, next-known, waits}
use Rattle.mcs_cli.specs.Devices.{AppendsPrefix}
use Rattle.mcs_cli.specs.Flow.{AppendsBefore}
use Rattle.mcs_cli.specs.Lines.{PutsLines, PutsRow}
use Rattle.mcs_cli.specs.declared.sink.Lines.{Lines}
use Rattle.mcs_cli.proofs.Flow.{before-none, before-then, prefix-then}

-- the bytes of the lines of rows are their text
text-of : (lines : text.Lines) (rows : List Row) → (fold with_row lines rows).bytes ≡ lines.bytes ++ schedule_text lines.system rows
text-of lines [] = sym (append-nil lines.bytes)
text-of lines (row ∷ rows) = text-of (with_row lines row) rows ∙ append_assoc lines.bytes (row_text lines.system row) (schedule_text lines.system rows)

-- empty lines hold no row
pub told-none-holds : (system : System) → HoldsTold (nothing_told system) []
told-none-holds system = record { lines = refl; many = refl }

-- a target's bytes and whether it has failed
module _ {W : Type 0} (contents : W → Option (List ℕ)) (failed : W → Bool) where
  -- after lines are put, of all that wait some are written
  pub puts-then : (a b c : Lines W) (xs : List ℕ) (taken : Bool) → PutsLines contents failed a xs true b → PutsLines contents failed b [] taken c
      → PutsLines contents failed a xs taken c
  puts-then a b c xs true p q = (
    q.0 ∙ p.0,
    q.1 ∙ p.1,
    q.2 ∙ p.2,
    λ e. q.3 e ∙ p.3 refl,
    q.4,
    before-then _ _ _ _ _ _ p.5 (subst (λ l. AppendsBefore (contents b.target.now) (contents c.target.now) l c.page.now) (append-nil b.page.now) q.5),
  )
  puts-then a b c xs false p q = (
    q.0 ∙ p.0,
    q.1 ∙ p.1,
    q.2 ∙ p.2,
    λ e. q.3 e ∙ p.3 refl,
    q.4,
    prefix-then _ _ _ _ _ p.5 (subst (AppendsPrefix (contents b.target.now) (contents c.target.now)) (append-nil b.page.now) q.5),
  )

  -- with these further lines, which are not written
  waiting : Lines W → List ℕ → Lines W
  waiting lines xs = record lines { page = record lines.page { now = lines.page.now ++ xs } }

  takes-one : (before : Lines W) (row : Row) → PutsRow contents failed before row true (waiting before (row_text before.names.now row))
  unfolding waiting
  takes-one before row = (refl, refl, refl, λ e. refl, λ e. cc, before-none _ _)

  -- the lines of the rows after the first one
  rest-puts : (before after : Lines W) (row : Row) (rows : List Row) (taken : Bool) → PutsLines contents failed before (schedule_text before.names.now (row ∷ rows)) taken after
      → PutsLines contents failed (waiting before (row_text before.names.now row)) (schedule_text before.names.now rows) taken after
  unfolding waiting
  rest-puts before after row rows true p =
      let line = row_text before.names.now row in
      (p.0, p.1, p.2, p.3, p.4, subst (λ l. AppendsBefore (contents before.target.now) (contents after.target.now) l after.page.now) (sym (append_assoc before.page.now line (schedule_text before.names.now rows))) p.5)
  rest-puts before after row rows false p =
      let line = row_text before.names.now row in
      (p.0, p.1, p.2, p.3, p.4, subst (AppendsPrefix (contents before.target.now) (contents after.target.now)) (sym (append_assoc before.page.now line (schedule_text before.names.now rows))) p.5)

  last-puts : (before after : Lines W) (row : Row) (taken : Bool) → PutsLines contents failed before (schedule_text before.names.now (row ∷ [])) taken after → PutsRow contents failed before row taken after
  last-puts before after row taken p = subst (λ xs. PutsLines contents failed before xs taken after) (append-nil (row_text before.names.now row)) p

  -- lines of at least one row that are put are as if the rows had been given ..
  pub given-at-once : (rows : List Row) (before after : Lines W) → rows ≢ [] → PutsLines contents failed before (schedule_text before.names.now rows) true after
      → Given (PutsRow contents failed) before rows after
  unfolding waiting
  given-at-once [] before after some p = absurd (some refl)
  given-at-once (row ∷ []) before after some p = (after, last-puts before after row true p, refl)
  given-at-once (row ∷ next ∷ rows) before after some p =
      let middle = waiting before (row_text before.names.now row) in
      (middle, takes-one before row, given-at-once (next ∷ rows) middle after (λ e. cc) (rest-puts before after row (next ∷ rows) true p))

  -- .. and if they are refused, as if one of the rows had been
  pub refused-at-once : (rows : List Row) (before after : Lines W) → rows ≢ [] → PutsLines contents failed before (schedule_text before.names.now rows) false after
      → GivenUntil (PutsRow contents failed) before rows after
  unfolding waiting
  refused-at-once [] before after some p = absurd (some refl)
  refused-at-once (row ∷ []) before after some p = inl (last-puts before after row false p)
  refused-at-once (row ∷ next ∷ rows) before after some p =
      let middle = waiting before (row_text before.names.now row) in
      inr (middle, takes-one before row, refused-at-once (next ∷ rows) middle after (λ e. cc) (rest-puts before after row (next ∷ rows) false p))

  -- all lines that were told are put
  module _ (before after : Lines W) (told : ToldLines) (rows : List Row) (ours : told.lines.system ≡ before.names.now) (h : HoldsTold told rows)
      (many : told.rows ≢ 0) where
    told-text : told.lines.bytes ≡ schedule_text before.names.now rows
    told-text = ap (λ lines. lines.bytes) h.lines ∙ text-of (no_lines told.lines.system) rows ∙ ap (λ system. schedule_text system rows) ours

    told-some : rows ≢ []
    told-some e = many (h.many ∙ ap (λ (xs : List Row). length xs) e)

    pub told-given : PutsLines contents failed before told.lines.bytes true after → Given (PutsRow contents failed) before rows after
    told-given p = given-at-once rows before after told-some (subst (λ xs. PutsLines contents failed before xs true after) told-text p)

    pub told-refused : PutsLines contents failed before told.lines.bytes false after → GivenUntil (PutsRow contents failed) before rows after
    told-refused p = refused-at-once rows before after told-some (subst (λ xs. PutsLines contents failed before xs false after) told-text p)

  -- the lines at the first mark of a part are put
  module _ (before after : Lines W) (part : LinesPart) (rows : List Row) (some : IsSome (next_of part)) (h : HoldsRows before.names.now part rows) where
    text-is : text_at part.lines part.place ≡ schedule_text before.names.now (rows_at (moment_of part.lines.marks part.place) rows)
    text-is = h.texts part.place (omega arith) (waits part some)

    some-rows : rows_at (moment_of part.lines.marks part.place) rows ≢ []
    some-rows = h.some part.place (omega arith) (waits part some)

    pub part-given : PutsLines contents failed before (text_at part.lines part.place) true after →
        IfSome (next_of part) (λ t. Given (PutsRow contents failed) before (rows_at t rows) after × HoldsRows after.names.now (passed part) (rows_from (suc t) rows))
    part-given p =
        let t = moment_of part.lines.marks part.place in
        let l = waits part some in
        let rest : HoldsRows before.names.now (passed part) (rows_from (suc t) rows) = holds-rest (no_text before.names.now) part rows h l in
        let given = given-at-once (rows_at t rows) before after some-rows (subst (λ xs. PutsLines contents failed before xs true after) text-is p) in
        subst (λ next. IfSome next (λ t. Given (PutsRow contents failed) before (rows_at t rows) after × HoldsRows after.names.now (passed part) (rows_from (suc t) rows)))
        (sym (next-known part.lines.marks part.place l))
        (given, subst (λ names. HoldsRows names.now (passed part) (rows_from (suc t) rows)) (sym p.2) rest)

    pub part-refused : PutsLines contents failed before (text_at part.lines part.place) false after →
        IfSome (next_of part) (λ t. GivenUntil (PutsRow contents failed) before (rows_at t rows) after)
    part-refused p =
        let t = moment_of part.lines.marks part.place in
        let refused = refused-at-once (rows_at t rows) before after some-rows (subst (λ xs. PutsLines contents failed before xs false after) text-is p) in
        subst (λ next. IfSome next (λ t. GivenUntil (PutsRow contents failed) before (rows_at t rows) after)) (sym (next-known part.lines.marks part.place (waits part some))) refused
