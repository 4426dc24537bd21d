-- The counts of rows, by hand. Thread 0 computes 2 ticks of each 4, within a deadline of 3. Its
-- first round ends 2 ticks after it was activated, and its second one 4 ticks after, too late.
-- Thread 1 has no deadline: it computes 4 ticks and signals a notification for which nobody waits.
use Rattle.std.specs.Prelude.{◌≡◌, ℕ, true, false, List, [], ◌∷◌, Some, None, refl}
use Rattle.mcs_ticks.specs.declared.row.Row.{Row}
use Rattle.mcs_ticks.specs.declared.row.What.{What}
use Rattle.mcs_ticks.specs.declared.row.What.TheVariants as row
use Rattle.mcs_ticks.specs.declared.row.Why.TheVariants as why
use Rattle.mcs_control.specs.declared.config.Mode.TheVariants as mode
use Rattle.mcs_script.specs.declared.item.Item.{Item}
use Rattle.mcs_script.specs.declared.item.Item.TheVariants.{Compute, Signal}
use Rattle.mcs_system.specs.declared.part.ThreadPart.{ThreadPart}
use Rattle.mcs_system.specs.System.{System}
use Rattle.mcs_verdict.specs.Findings.{past_of}
use Rattle.mcs_ever_found.specs.Course.{course_of}

abbrev thread : ℕ → ℕ → List Item → ThreadPart
thread context deadline script =
    record { name = []; context = context; priority = 5; start = 0; rounds = 0; deadline = deadline; script = script }

abbrev system : System
system =
    record {
      cores = 1;
      delay = 1;
      call = 1;
      min_budget = 1;
      contexts = record { name = []; core = 0; config = record { budget = 2; period = 4; extra = 0 }; mode = mode.Sporadic }
          ∷ record { name = []; core = 0; config = record { budget = 20; period = 20; extra = 0 }; mode = mode.Sporadic } ∷ [];
      notes = record { name = []; core = 0; word = 0 } ∷ [];
      threads = thread 0 3 (Compute 2 ∷ []) ∷ thread 1 0 (Compute 4 ∷ Signal 0 1 ∷ []) ∷ [];
      orders = [];
      links = [];
      servers = 0;
      sources = [];
      beats = [];
      chains = [];
    }

abbrev at : ℕ → What → Row
at moment what = record { moment = moment; core = 0; what = what }

abbrev rows : List Row
rows =
    at 0 (row.Release 0) ∷ at 0 (row.Release 1) ∷ at 0 (row.Run 0) ∷ at 2 (row.Round 0 1 2) ∷ at 2 (row.Stop 0 why.Spent 2 (Some 4))
    ∷ at 2 (row.Run 1) ∷ at 4 (row.Release 0) ∷ at 6 (row.Signal 1 0 1) ∷ at 6 (row.Hold 0 1) ∷ at 6 (row.Round 1 1 6)
    ∷ at 6 (row.Stop 1 why.Preempt 4 None) ∷ []

-- so far no round was late, and no signal was lost
early : course_of system (past_of [] rows)
    ≡ record { misses = 0 ∷ 0 ∷ []; greatest = Some 2 ∷ Some 6 ∷ []; spent = true ∷ false ∷ []; losses = 0 ∷ [] }
early = refl

abbrev more : List Row
more =
    at 6 (row.Run 0) ∷ at 8 (row.Round 0 2 6) ∷ at 8 (row.Stop 0 why.Spent 2 (Some 10)) ∷ at 8 (row.Run 1) ∷ at 12 (row.Signal 1 0 1)
    ∷ at 12 (row.Hold 0 1) ∷ at 12 (row.Round 1 2 6) ∷ []

-- the second round was late, and the second signal was lost
later : course_of system (past_of (past_of [] rows) more)
    ≡ record { misses = 1 ∷ 0 ∷ []; greatest = Some 4 ∷ Some 6 ∷ []; spent = true ∷ false ∷ []; losses = 1 ∷ [] }
later = refl
