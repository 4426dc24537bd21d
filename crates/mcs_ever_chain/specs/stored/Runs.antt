-- A run of a system up to before one moment, and its chains.
use Rattle.std.specs.Prelude.{◌≡◌, ℕ, false, List, length, Option}
use Rattle.mcs_ticks.specs.Capped.{capped}
use Rattle.mcs_ticks.specs.declared.row.Row.{Row}
use Rattle.mcs_system.specs.declared.part.ChainPart.{ChainPart}
use Rattle.mcs_system.specs.System.{System}
use Rattle.mcs_table.specs.Rounds.{greatest}
use Rattle.mcs_chain.specs.declared.finding.Finding.{Finding}
use Rattle.mcs_chain.specs.Answers.{interrupts, latencies, unanswered}
use Rattle.mcs_chain.specs.Figures.{tallies_of}
use Rattle.mcs_chain.specs.Watch.{slow_many, watch_of}
use Rattle.mcs_ever_found.specs.Recurs.{past_before}
use Rattle.mcs_ever_chain.specs.declared.often.Counts.{Counts}
use Rattle.mcs_ever_chain.specs.declared.run.Run.{Run}

-- all rows before the clock were seen
pub record IsRun (system : System) (run : Run) : Type 0 where
  pub system_is : run.lockstep.system ≡ system
  pub going : run.lockstep.failed ≡ false
  pub watch : run.watch ≡ watch_of system (past_before system run.lockstep.clock)
  pub tallies : run.tallies ≡ tallies_of run.lockstep.horizon system (past_before system run.lockstep.clock)

-- the counts of a chain by these rows
abbrev pub counts_of : System → ChainPart → List Row → Counts
counts_of system chain past =
    record {
      answers = capped (length (latencies system chain past));
      slow = slow_many system chain past;
      interrupts = capped (interrupts chain past);
      greatest = greatest (latencies system chain past);
    }

-- what is found of the chain at a horizon, by the rows before moment t
abbrev pub left_at : System → ChainPart → ℕ → ℕ → Option Finding
left_at system chain t horizon = unanswered system chain (past_before system t) horizon
