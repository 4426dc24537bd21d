-- The figures of a thread, by the rows up to the horizon, the latest first.
use Rattle.std.specs.Prelude.{ℕ, List}
use Rattle.mcs_ticks.specs.declared.row.Row.{Row}
use Rattle.mcs_system.specs.System.{System, thread_part, context_part, core_of}
use Rattle.mcs_verdict.specs.Rounds.{first_wait}
use Rattle.mcs_verdict.specs.Stood.{stood_in}
use Rattle.mcs_table.specs.declared.figures.Figures.{Figures}
use Rattle.mcs_table.specs.Rounds.{responses_of, greatest, margin, rounds_in}
use Rattle.mcs_table.specs.Signals.{signals_for}
use Rattle.mcs_table.specs.Shares.{share_of}

abbrev pub figures_of : System → ℕ → List Row → ℕ → Figures
figures_of system horizon past thread =
    let part = thread_part system thread in
    let stood = stood_in thread past 0 horizon in
    record {
      core = core_of system part;
      priority = part.priority;
      share = share_of (context_part system part.context).config horizon stood.running;
      rounds = rounds_in system horizon thread past;
      deadline = part.deadline;
      margin = margin part.deadline (greatest (responses_of system thread past));
      signals = signals_for system (first_wait part) past;
      stood = stood;
    }
