-- The lines and counts of a teller after rows.
use Rattle.std.proofs.Common.{◌≡◌, ◌∙◌, ◌++◌, ◌∷◌, [], ℕ, Bool, true, false, cond, List, Option, filter, flat_map, refl, ap, subst}
use Rattle.mcs_ticks.specs.declared.row.Row.{Row}
use Rattle.mcs_ticks.specs.Given.{Given, GivenUntil, GivenSome}
use Rattle.mcs_system.specs.System.{System}
use Rattle.mcs_verdict.specs.Findings.{InOrder, UpTo, past_of}
use Rattle.mcs_cli.specs.Devices.{AppendsPrefix}
use Rattle.mcs_cli.specs.Flow.{AppendsBefore, TakesLine}
use Rattle.mcs_why.specs.Account.{account_of}
use Rattle.mcs_why.specs.Running.{is_within}
use Rattle.mcs_why.specs.declared.span.Span.{Span}
use Rattle.mcs_check_words.specs.declared.asked.Format.{Format}
use Rattle.mcs_explain.specs.declared.teller.Teller.{Teller}
use Rattle.mcs_why_lines.specs.Rows.{row_line}
use Rattle.mcs_explain.specs.Why.{rows_lines}
use Rattle.mcs_check_run.specs.Lines.{failed_after, lines_of}
use Rattle.mcs_explain.specs.stored.Spans.{line_at}
use Rattle.mcs_check_run.proofs.Rows.{given-tells, some-tells, until-tells}

-- the lines of the rows of a span, one after another, are those of the rows that are in it
lines-within : (how : Format) (system : System) (span : Span) (past rows : List Row)
    → lines_of (λ past r. line_at how system span.core span.from span.to r) past rows ≡ rows_lines how system span rows
lines-within how system span past [] = refl
lines-within how system span past (r ∷ rows) =
    go (is_within span.core span.from span.to r) (filter (is_within span.core span.from span.to) rows) _ (lines-within how system span (r ∷ past) rows)
  where
    go : (b : Bool) (within : List Row) (rest : List ℕ) → rest ≡ flat_map (row_line how system) within
        → cond b (row_line how system r) [] ++ rest ≡ flat_map (row_line how system) (cond b (r ∷ within) within)
    go true within rest e = ap (λ l. row_line how system r ++ l) e
    go false within rest e = e

-- a target's bytes and whether it has failed
module _ {W P : Type 0} (contents : W → Option (List ℕ)) (failed : W → Bool) where
  abbrev pub Takes : Teller W P → Row → Bool → Teller W P → Type 0
  Takes before row taken after =
      (after.lines.target.ghost_name ≡ before.lines.target.ghost_name)
      × (after.told.ghost_name ≡ before.told.ghost_name)
      × (after.format ≡ before.format)
      × (after.system ≡ before.system)
      × (taken ≡ true → failed after.lines.target.now ≡ failed before.lines.target.now)
      × (taken ≡ false → failed after.lines.target.now ≡ failed_after after.lines.is_out_of_memory (failed before.lines.target.now))
      × ((threads core from to : ℕ) (past : List Row) → before.told.now.account ≡ account_of threads core from to past → UpTo row.moment past →
      (after.told.now.account ≡ account_of threads core from to (row ∷ past))
      × TakesLine (contents before.lines.target.now) (contents after.lines.target.now) before.told.now.text.items after.told.now.text.items
      (line_at before.format before.system.now core from to row) taken)

  -- before the first row, for a span
  module _ (first : Teller W P) (threads : ℕ) (span : Span) where
    abbrev line : List Row → Row → List ℕ
    line past r = line_at first.format first.system.now span.core span.from span.to r

    -- after these rows the sink is still over the same target and system, and has looked at each of them
    pub record IsAfter (past : List Row) (f : Teller W P) : Type 0 where
      pub target_is : f.lines.target.ghost_name ≡ first.lines.target.ghost_name
      pub told_is : f.told.ghost_name ≡ first.told.ghost_name
      pub format_is : f.format ≡ first.format
      pub system_is : f.system ≡ first.system
      pub working : failed f.lines.target.now ≡ failed first.lines.target.now
      pub account_is : f.told.now.account ≡ account_of threads span.core span.from span.to past

    -- and then it has refused one
    pub record HasRefused (f : Teller W P) : Type 0 where
      pub target_is : f.lines.target.ghost_name ≡ first.lines.target.ghost_name
      pub failed_is : failed f.lines.target.now ≡ failed_after f.lines.is_out_of_memory (failed first.lines.target.now)

    said : (past : List Row) (s t : Teller W P) (row : Row) (taken : Bool) → IsAfter past s → UpTo row.moment past → Takes s row taken t →
        (t.told.now.account ≡ account_of threads span.core span.from span.to (row ∷ past))
        × TakesLine (contents s.lines.target.now) (contents t.lines.target.now) s.told.now.text.items t.told.now.text.items (line past row) taken
    said past s t row taken k up takes =
        let e : s.system.now ≡ first.system.now = ap (λ b. b.now) k.system_is in
        let told = takes.6 threads span.core span.from span.to past k.account_is up in (
          told.0,
          subst (λ how. TakesLine (contents s.lines.target.now) (contents t.lines.target.now) s.told.now.text.items t.told.now.text.items (line_at how first.system.now span.core span.from span.to row) taken) k.format_is
              (subst (λ sys. TakesLine (contents s.lines.target.now) (contents t.lines.target.now) s.told.now.text.items t.told.now.text.items (line_at s.format sys span.core span.from span.to row) taken) e told.1),
        )

    step : (past : List Row) (s t : Teller W P) (row : Row) → IsAfter past s → UpTo row.moment past → Takes s row true t →
        IsAfter (row ∷ past) t
        × AppendsBefore (contents s.lines.target.now) (contents t.lines.target.now) (s.told.now.text.items ++ line past row) t.told.now.text.items
    step past s t row k up takes =
        let told = said past s t row true k up takes in (
          record {
            target_is = takes.0 ∙ k.target_is;
            told_is = takes.1 ∙ k.told_is;
            format_is = takes.2 ∙ k.format_is;
            system_is = takes.3 ∙ k.system_is;
            working = takes.4 refl ∙ k.working;
            account_is = told.0;
          },
          told.1,
        )

    refuse : (past : List Row) (s t : Teller W P) (row : Row) → IsAfter past s → UpTo row.moment past → Takes s row false t →
        HasRefused t
        × AppendsPrefix (contents s.lines.target.now) (contents t.lines.target.now) (s.told.now.text.items ++ line past row)
    refuse past s t row k up takes =
        let told = said past s t row false k up takes in (
          record { target_is = takes.0 ∙ k.target_is; failed_is = takes.5 refl ∙ ap (failed_after t.lines.is_out_of_memory) k.working },
          told.1,
        )

    -- nothing waits at first
    module _ (last : Teller W P) (rows : List Row) (order : InOrder [] rows)
        (empty : first.told.now.text.items ≡ []) (account_is : first.told.now.account ≡ account_of threads span.core span.from span.to []) where
      abbrev before-rows : IsAfter [] first
      before-rows = record { target_is = refl; told_is = refl; format_is = refl; system_is = refl; working = refl; account_is = account_is }

      text-is : first.told.now.text.items ++ lines_of line [] rows ≡ rows_lines first.format first.system.now span rows
      text-is = ap (λ l. l ++ lines_of line [] rows) empty ∙ lines-within first.format first.system.now span [] rows

      pub rows-given : Given Takes first rows last →
          IsAfter (past_of [] rows) last
          × AppendsBefore (contents first.lines.target.now) (contents last.lines.target.now) (rows_lines first.format first.system.now span rows) last.told.now.text.items
      rows-given given =
          let ended = given-tells Takes (λ f. contents f.lines.target.now) (λ f. f.told.now.text.items) line IsAfter HasRefused step refuse
          [] first last rows before-rows order given in (
            ended.0,
            subst (λ l. AppendsBefore (contents first.lines.target.now) (contents last.lines.target.now) l last.told.now.text.items) text-is ended.1,
          )

      pub rows-until : GivenUntil Takes first rows last →
          HasRefused last × AppendsPrefix (contents first.lines.target.now) (contents last.lines.target.now) (rows_lines first.format first.system.now span rows)
      rows-until given =
          let ended = until-tells Takes (λ f. contents f.lines.target.now) (λ f. f.told.now.text.items) line IsAfter HasRefused step refuse
          [] first last rows before-rows order given in
          (ended.0, subst (AppendsPrefix (contents first.lines.target.now) (contents last.lines.target.now)) text-is ended.1)

      pub rows-some : GivenSome Takes first rows last →
          ((past : List Row) × IsAfter past last)
          × AppendsPrefix (contents first.lines.target.now) (contents last.lines.target.now) (rows_lines first.format first.system.now span rows)
      rows-some given =
          let ended = some-tells Takes (λ f. contents f.lines.target.now) (λ f. f.told.now.text.items) line IsAfter HasRefused step refuse
          [] first last rows before-rows order given in
          (ended.0, subst (AppendsPrefix (contents first.lines.target.now) (contents last.lines.target.now)) text-is ended.1)
