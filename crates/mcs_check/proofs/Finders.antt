-- The lines and counts of a finder after rows.
use Rattle.std.proofs.Common.{◌≡◌, ◌∙◌, ◌++◌, ◌∷◌, [], ℕ, Bool, true, false, List, Option, refl, ap, sym, subst}
use Rattle.mcs_ticks.specs.declared.row.Row.{Row}
use Rattle.mcs_ticks.specs.Given.{Given, GivenUntil, GivenSome}
use Rattle.mcs_system.specs.System.{System}
use Rattle.mcs_verdict.specs.Findings.{InOrder, UpTo, past_of}
use Rattle.mcs_cli.specs.Devices.{AppendsPrefix}
use Rattle.mcs_cli.specs.Flow.{AppendsBefore, TakesLine}
use Rattle.mcs_check_words.specs.declared.asked.Format.{Format}
use Rattle.mcs_check_words.specs.declared.asked.Show.{Show}
use Rattle.mcs_check.specs.declared.finder.Finder.{Finder}
use Rattle.mcs_check_lines.specs.Counts.{no_counts}
use Rattle.mcs_check_lines.specs.Formats.{head_text}
use Rattle.mcs_check.specs.stored.Found.{counts_so_far}
use Rattle.mcs_check.specs.stored.Rows.{counted_at, counts_in, kept_table, row_lines, rows_text}
use Rattle.mcs_check_run.specs.Lines.{failed_after, lines_of}
use Rattle.mcs_check.specs.stored.Watches.{watches_of}
use Rattle.mcs_check_run.proofs.Results.{moved}
use Rattle.mcs_check_run.proofs.Rows.{given-tells, some-tells, until-tells}

pub counts-so-far : (system : System) (allowed : List Bool) (past rows : List Row)
    → counts_so_far system allowed (past_of past rows) ≡ counts_in system allowed past rows (counts_so_far system allowed past)
counts-so-far system allowed past [] = refl
counts-so-far system allowed past (r ∷ rows) = counts-so-far system allowed (r ∷ past) rows

-- a target's bytes and whether it has failed
module _ {W P : Type 0} (contents : W → Option (List ℕ)) (failed : W → Bool) where
  abbrev pub Takes : Finder W P → Row → Bool → Finder W P → Type 0
  Takes before row taken after =
      (after.lines.target.ghost_name ≡ before.lines.target.ghost_name)
      × (after.seen.ghost_name ≡ before.seen.ghost_name)
      × (after.show ≡ before.show)
      × (after.format ≡ before.format)
      × (after.system ≡ before.system)
      × (after.allowed ≡ before.allowed)
      × (taken ≡ true → failed after.lines.target.now ≡ failed before.lines.target.now)
      × (taken ≡ false → failed after.lines.target.now ≡ failed_after after.lines.is_out_of_memory (failed before.lines.target.now))
      × ((past : List Row) → before.seen.now.watch ≡ watches_of before.system.now past → UpTo row.moment past →
      (taken ≡ true → after.seen.now.watch ≡ watches_of before.system.now (row ∷ past))
      × (after.seen.now.counts ≡ counted_at before.system.now before.allowed.now past row before.seen.now.counts)
      × ((horizon : ℕ) → before.seen.now.table ≡ kept_table before.show before.system.now horizon past → taken ≡ true →
      after.seen.now.table ≡ kept_table before.show before.system.now horizon (row ∷ past))
      × TakesLine (contents before.lines.target.now) (contents after.lines.target.now) before.seen.now.text.items after.seen.now.text.items
      (row_lines before.system.now before.allowed.now before.format before.show past row) taken)

  -- before the first row
  module _ (first : Finder W P) (horizon : ℕ) where
    abbrev system : System
    system = first.system.now

    abbrev allowed : List Bool
    allowed = first.allowed.now

    abbrev asked : Show
    asked = first.show

    abbrev how : Format
    how = first.format

    -- after these rows the sink is still over the same target and system, and has looked at each of them
    pub record IsAfter (past : List Row) (f : Finder W P) : Type 0 where
      pub target_is : f.lines.target.ghost_name ≡ first.lines.target.ghost_name
      pub seen_is : f.seen.ghost_name ≡ first.seen.ghost_name
      pub show_is : f.show ≡ first.show
      pub format_is : f.format ≡ first.format
      pub system_is : f.system ≡ first.system
      pub allowed_is : f.allowed ≡ first.allowed
      pub working : failed f.lines.target.now ≡ failed first.lines.target.now
      pub watch_is : f.seen.now.watch ≡ watches_of system past
      pub counts_are : f.seen.now.counts ≡ counts_so_far system allowed past
      pub table_is : f.seen.now.table ≡ kept_table asked system horizon past

    -- and then it has refused one
    pub record HasRefused (f : Finder W P) : Type 0 where
      pub target_is : f.lines.target.ghost_name ≡ first.lines.target.ghost_name
      pub failed_is : failed f.lines.target.now ≡ failed_after f.lines.is_out_of_memory (failed first.lines.target.now)

    said : (past : List Row) (s t : Finder W P) (row : Row) (taken : Bool) → IsAfter past s → UpTo row.moment past → Takes s row taken t →
        (taken ≡ true → t.seen.now.watch ≡ watches_of system (row ∷ past))
        × (t.seen.now.counts ≡ counted_at system allowed past row s.seen.now.counts)
        × ((horizon : ℕ) → s.seen.now.table ≡ kept_table asked system horizon past → taken ≡ true → t.seen.now.table ≡ kept_table asked system horizon (row ∷ past))
        × TakesLine (contents s.lines.target.now) (contents t.lines.target.now) s.seen.now.text.items t.seen.now.text.items (row_lines system allowed how asked past row) taken
    said past s t row taken k up takes =
        let e : s.system.now ≡ system = ap (λ b. b.now) k.system_is in
        let a : s.allowed.now ≡ allowed = ap (λ b. b.now) k.allowed_is in
        let told = takes.8 past (subst (λ sys. s.seen.now.watch ≡ watches_of sys past) (sym e) k.watch_is) up in
        moved (λ sys flags show form. (taken ≡ true → t.seen.now.watch ≡ watches_of sys (row ∷ past))
        × (t.seen.now.counts ≡ counted_at sys flags past row s.seen.now.counts)
        × ((horizon : ℕ) → s.seen.now.table ≡ kept_table show sys horizon past → taken ≡ true → t.seen.now.table ≡ kept_table show sys horizon (row ∷ past))
        × TakesLine (contents s.lines.target.now) (contents t.lines.target.now) s.seen.now.text.items t.seen.now.text.items (row_lines sys flags form show past row) taken)
        _ _ _ _ _ _ _ _ e a k.show_is k.format_is told

    step : (past : List Row) (s t : Finder W P) (row : Row) → IsAfter past s → UpTo row.moment past → Takes s row true t →
        IsAfter (row ∷ past) t
        × AppendsBefore (contents s.lines.target.now) (contents t.lines.target.now) (s.seen.now.text.items ++ row_lines system allowed how asked past row) t.seen.now.text.items
    step past s t row k up takes =
        let told = said past s t row true k up takes in (
          record {
            target_is = takes.0 ∙ k.target_is;
            seen_is = takes.1 ∙ k.seen_is;
            show_is = takes.2 ∙ k.show_is;
            format_is = takes.3 ∙ k.format_is;
            system_is = takes.4 ∙ k.system_is;
            allowed_is = takes.5 ∙ k.allowed_is;
            working = takes.6 refl ∙ k.working;
            watch_is = told.0 refl;
            counts_are = told.1 ∙ ap (counted_at system allowed past row) k.counts_are;
            table_is = told.2 horizon k.table_is refl;
          },
          told.3,
        )

    refuse : (past : List Row) (s t : Finder W P) (row : Row) → IsAfter past s → UpTo row.moment past → Takes s row false t →
        HasRefused t
        × AppendsPrefix (contents s.lines.target.now) (contents t.lines.target.now) (s.seen.now.text.items ++ row_lines system allowed how asked past row)
    refuse past s t row k up takes =
        let told = said past s t row false k up takes in (
          record { target_is = takes.0 ∙ k.target_is; failed_is = takes.7 refl ∙ ap (failed_after t.lines.is_out_of_memory) k.working },
          told.3,
        )

    -- at first the first line waits, and all counts are 0
    module _ (last : Finder W P) (rows : List Row) (order : InOrder [] rows)
        (headed : first.seen.now.text.items ≡ head_text how asked system) (watch_is : first.seen.now.watch ≡ watches_of system []) (none : first.seen.now.counts ≡ no_counts)
        (table_is : first.seen.now.table ≡ kept_table asked system horizon []) where
      begun : first.seen.now.counts ≡ counts_so_far system allowed []
      begun = none

      abbrev before-rows : IsAfter [] first
      before-rows = record { target_is = refl; seen_is = refl; show_is = refl; format_is = refl; system_is = refl; allowed_is = refl; working = refl; watch_is = watch_is; counts_are = begun; table_is = table_is }

      text-is : first.seen.now.text.items ++ lines_of (row_lines system allowed how asked) [] rows ≡ rows_text system allowed how asked rows
      text-is = ap (λ l. l ++ lines_of (row_lines system allowed how asked) [] rows) headed

      pub rows-given : Given Takes first rows last →
          IsAfter (past_of [] rows) last × (last.seen.now.counts ≡ counts_in system allowed [] rows no_counts)
          × AppendsBefore (contents first.lines.target.now) (contents last.lines.target.now) (rows_text system allowed how asked rows) last.seen.now.text.items
      rows-given given =
          let ended = given-tells Takes (λ f. contents f.lines.target.now) (λ f. f.seen.now.text.items) (row_lines system allowed how asked) IsAfter HasRefused step refuse
          [] first last rows before-rows order given in (
            ended.0,
            ended.0.counts_are ∙ counts-so-far system allowed [] rows,
            subst (λ l. AppendsBefore (contents first.lines.target.now) (contents last.lines.target.now) l last.seen.now.text.items) text-is ended.1,
          )

      pub rows-until : GivenUntil Takes first rows last →
          HasRefused last × AppendsPrefix (contents first.lines.target.now) (contents last.lines.target.now) (rows_text system allowed how asked rows)
      rows-until given =
          let ended = until-tells Takes (λ f. contents f.lines.target.now) (λ f. f.seen.now.text.items) (row_lines system allowed how asked) IsAfter HasRefused step refuse
          [] first last rows before-rows order given in
          (ended.0, subst (AppendsPrefix (contents first.lines.target.now) (contents last.lines.target.now)) text-is ended.1)

      pub rows-some : GivenSome Takes first rows last →
          ((past : List Row) × IsAfter past last)
          × AppendsPrefix (contents first.lines.target.now) (contents last.lines.target.now) (rows_text system allowed how asked rows)
      rows-some given =
          let ended = some-tells Takes (λ f. contents f.lines.target.now) (λ f. f.seen.now.text.items) (row_lines system allowed how asked) IsAfter HasRefused step refuse
          [] first last rows before-rows order given in
          (ended.0, subst (AppendsPrefix (contents first.lines.target.now) (contents last.lines.target.now)) text-is ended.1)
