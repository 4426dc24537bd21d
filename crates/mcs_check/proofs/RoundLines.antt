-- The lines of rounds of the cores; each core looks at its rows.
use Rattle.std.proofs.Common.{◌≡◌, ◌∙◌, ◌++◌, ◌+◌, ◌≤◌, [], ℕ, suc, Bool, true, false, List, Option, ap, ap₂, arith, subst, sym}
use Rattle.std.proofs.lemmas.List.Concat.{flat_map-append}
use Rattle.mcs_ticks.specs.declared.row.Row.{Row}
use Rattle.mcs_ticks.specs.declared.sink.FlowFault.TheVariants as fault
use Rattle.mcs_system.specs.System.{System, TakesTime}
use Rattle.mcs_core.specs.Clock.{clock, schedule}
use Rattle.mcs_stretch.proofs.Merging.{clock-later, rows-later}
use Rattle.mcs_verdict.specs.declared.finding.Found.{Found}
use Rattle.mcs_verdict.specs.Findings.{past_of}
use Rattle.mcs_check_words.specs.declared.asked.Show.TheVariants as show
use Rattle.mcs_check.specs.declared.rounds.Cores.{Cores}
use Rattle.mcs_check.specs.declared.found_lines.FoundLines.{FoundLines}
use Rattle.mcs_check_lines.specs.Formats.{found_line}
use Rattle.mcs_check.specs.stored.Found.{told_in}
use Rattle.mcs_check.specs.stored.Pages.{founds_text, PutsLines, PutsSome}
use Rattle.mcs_check.specs.stored.Rounds.{IsNext}
use Rattle.mcs_check.specs.stored.Rows.{lines_in, told_at}
use Rattle.mcs_check.proofs.Pages.{puts-longer, puts-some, puts-then, told-text}
use Rattle.mcs_check_run.proofs.Rows.{lines_of-append}

-- a target's bytes, and whether it has failed; the lines at first
module _ (system : System) (allowed : List Bool) {W P : Type 0} (contents : W → Option (List ℕ)) (failed : W → Bool) (first : FoundLines W P) (named : first.system.now ≡ system) where
  abbrev lines : List Row → List ℕ
  lines rows = lines_in system allowed first.format show.Findings [] rows

  -- the lines of a round
  pub put-round : (before after : Cores) (page next : FoundLines W P) (found : List Found) (taken : Bool) → IsNext system allowed before after → found ≡ after.found.items
      → PutsLines contents failed first (lines (clock system before.reached).rows) true page → PutsLines contents failed page (founds_text page.format page.system.now found) taken next
      → PutsLines contents failed first (lines (clock system after.reached).rows) taken next
  put-round before after page next found taken is own so_far put =
      let how = first.format in
      let was = told_in system allowed [] (clock system before.reached).rows in
      let more : founds_text page.format page.system.now found ≡ founds_text how system after.found.items =
      ap (λ f. founds_text f page.system.now found) so_far.2
      ∙ ap (λ s. founds_text how s found) (ap (λ b. b.now) so_far.3 ∙ named)
      ∙ ap (founds_text how system) own in
      let text : lines (clock system after.reached).rows ≡ lines (clock system before.reached).rows ++ founds_text page.format page.system.now found =
      sym (told-text how system allowed [] (clock system after.reached).rows) ∙ ap (founds_text how system) is.found
      ∙ flat_map-append (found_line how system) was after.found.items
      ∙ ap₂ (λ a b. a ++ b) (told-text how system allowed [] (clock system before.reached).rows) (sym more) in
      subst (λ text. PutsLines contents failed first text taken next) (sym text)
      (puts-then contents failed first page next (lines (clock system before.reached).rows) (founds_text page.format page.system.now found) taken so_far put)

  module _ (takes_time : TakesTime system) (horizon t : ℕ) (l : t ≤ horizon + 1) (page : FoundLines W P) where
    whole : lines (schedule system horizon)
        ≡ lines (clock system t).rows ++ lines_in system allowed first.format show.Findings (past_of [] (clock system t).rows) (rows-later system t (suc horizon))
    whole =
        ap lines (clock-later system takes_time t (suc horizon) (omega arith))
        ∙ lines_of-append (told_at system allowed first.format show.Findings) [] (clock system t).rows (rows-later system t (suc horizon))

    -- there was no memory for more of them
    pub some-put : PutsLines contents failed first (lines (clock system t).rows) true page → PutsSome contents failed first (lines (schedule system horizon)) fault.NoMemory page
    some-put put = subst (λ text. PutsSome contents failed first text fault.NoMemory page) (sym whole) (puts-some contents failed first page (lines (clock system t).rows) _ put)

    -- or one was refused
    pub none-more : PutsLines contents failed first (lines (clock system t).rows) false page → PutsSome contents failed first (lines (schedule system horizon)) fault.Sink page
    none-more put = subst (λ text. PutsLines contents failed first text false page) (sym whole) (puts-longer contents failed first page (lines (clock system t).rows) _ put)
