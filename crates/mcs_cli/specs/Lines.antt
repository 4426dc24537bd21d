-- A sink of lines: its target and its page, after lines are put there.
use Rattle.std.specs.Prelude.{◌≡◌, ℕ, Bool, true, false, List, Option}
use Rattle.mcs_ticks.specs.declared.row.Row.{Row}
use Rattle.mcs_text.specs.Text.{row_text}
use Rattle.mcs_cli.specs.Flow.{TakesLine}
use Rattle.mcs_cli.specs.declared.sink.Lines.{Lines}

-- a target's bytes, and whether it has failed
module _ {W : Type 0} (contents : W → Option (List ℕ)) (has_failed : W → Bool) where
  -- The sink keeps its target and page. Lines that it takes follow those that wait. If it refuses
  -- them, the target has failed.
  abbrev pub PutsLines : Lines W → List ℕ → Bool → Lines W → Type 0
  PutsLines before lines taken after =
      (after.target.ghost_name ≡ before.target.ghost_name)
      × (after.page.ghost_name ≡ before.page.ghost_name)
      × (after.names ≡ before.names)
      × (taken ≡ true → has_failed after.target.now ≡ has_failed before.target.now)
      × (taken ≡ false → has_failed after.target.now ≡ true)
      × TakesLine (contents before.target.now) (contents after.target.now) before.page.now after.page.now lines taken

  -- how the sink takes a row: its line is put there
  abbrev pub PutsRow : Lines W → Row → Bool → Lines W → Type 0
  PutsRow before row taken after = PutsLines before (row_text before.names.now row) taken after
