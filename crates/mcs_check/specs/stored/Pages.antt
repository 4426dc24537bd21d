-- Lines that are added to those that wait to be written.
use Rattle.std.specs.Prelude.{◌≡◌, ℕ, Bool, true, false, List, ◌++◌, Option, flat_map}
use Rattle.mcs_system.specs.System.{System}
use Rattle.mcs_ticks.specs.declared.sink.FlowFault.{FlowFault}
use Rattle.mcs_ticks.specs.declared.sink.FlowFault.TheVariants as fault
use Rattle.mcs_verdict.specs.declared.finding.Found.{Found}
use Rattle.mcs_cli.specs.Devices.{AppendsPrefix}
use Rattle.mcs_cli.specs.Flow.{TakesLine}
use Rattle.mcs_check_words.specs.declared.asked.Format.{Format}
use Rattle.mcs_check.specs.declared.found_lines.FoundLines.{FoundLines}
use Rattle.mcs_check_lines.specs.Formats.{found_line}
use Rattle.mcs_check_run.specs.Lines.{failed_after}

-- the lines of findings
abbrev pub founds_text : Format → System → List Found → List ℕ
founds_text how system found = flat_map (found_line how system) found

-- the bytes that a target knows, and whether it has failed
module _ {W P : Type 0} (contents : W → Option (List ℕ)) (failed : W → Bool) where
  -- the target, text, format and system stay; if lines are refused, the target has failed or memory
  -- ran out
  abbrev pub PutsLines : FoundLines W P → List ℕ → Bool → FoundLines W P → Type 0
  PutsLines before lines taken after =
      (after.lines.target.ghost_name ≡ before.lines.target.ghost_name)
      × (after.text.ghost_name ≡ before.text.ghost_name)
      × (after.format ≡ before.format)
      × (after.system ≡ before.system)
      × (taken ≡ true → failed after.lines.target.now ≡ failed before.lines.target.now)
      × (taken ≡ false → failed after.lines.target.now ≡ failed_after after.lines.is_out_of_memory (failed before.lines.target.now))
      × TakesLine (contents before.lines.target.now) (contents after.lines.target.now) before.text.now.items after.text.now.items lines taken

  -- not all of these lines are added
  abbrev pub PutsSome : FoundLines W P → List ℕ → FlowFault → FoundLines W P → Type 0
  PutsSome before lines fault.Sink after = PutsLines before lines false after
  PutsSome before lines fault.NoMemory after =
      (after.lines.target.ghost_name ≡ before.lines.target.ghost_name)
      × (failed after.lines.target.now ≡ failed before.lines.target.now)
      × AppendsPrefix (contents before.lines.target.now) (contents after.lines.target.now) (before.text.now.items ++ lines)
