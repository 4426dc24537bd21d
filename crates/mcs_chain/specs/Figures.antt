-- The figures of a chain, by the rows up to the horizon, the latest first.
use Rattle.std.specs.Prelude.{ℕ, min, List, length, map, sum, Option}
use Rattle.std.specs.List.{reduce}
use Rattle.mcs_ticks.specs.declared.row.Row.{Row}
use Rattle.mcs_ticks.specs.Capped.{capped}
use Rattle.mcs_histogram.specs.Histogram.{Histogram, histogram_of, counted, told_percentile}
use Rattle.mcs_system.specs.declared.part.ChainPart.{ChainPart}
use Rattle.mcs_system.specs.System.{System}
use Rattle.mcs_table.specs.Rounds.{greatest, margin}
use Rattle.mcs_chain.specs.declared.figures.Figures.{Figures}
use Rattle.mcs_chain.specs.Answers.{interrupts, latencies}

-- the least latency, if there is one
abbrev pub least : List ℕ → Option ℕ
least latencies = reduce min latencies

-- what is kept of this number of interrupts and of answers with these latencies
pub record Tally : Type 0 where
  pub interrupts : ℕ
  pub least : Option ℕ
  pub greatest : Option ℕ
  pub total : ℕ
  pub latencies : Histogram

abbrev pub tally_with : ℕ → ℕ → List ℕ → Tally
tally_with horizon started answers =
    record {
      interrupts = capped started;
      least = least answers;
      greatest = greatest answers;
      total = capped (sum answers);
      latencies = histogram_of horizon answers;
    }

abbrev pub tally_of : ℕ → System → ChainPart → List Row → Tally
tally_of horizon system chain past = tally_with horizon (interrupts chain past) (latencies system chain past)

-- the figures of a chain with this deadline
abbrev pub figures_with : ℕ → ℕ → ℕ → List ℕ → Figures
figures_with horizon deadline started answers =
    record {
      interrupts = capped started;
      answers = capped (length answers);
      least = least answers;
      greatest = greatest answers;
      total = capped (sum answers);
      fiftieth = told_percentile 50 (counted horizon answers);
      ninetieth = told_percentile 90 (counted horizon answers);
      ninety_ninth = told_percentile 99 (counted horizon answers);
      deadline = deadline;
      margin = margin deadline (greatest answers);
    }

abbrev pub figures_of : ℕ → System → ChainPart → List Row → Figures
figures_of horizon system chain past =
    figures_with horizon chain.deadline (interrupts chain past) (latencies system chain past)

-- those of all chains of a system
abbrev pub tallies_of : ℕ → System → List Row → List Tally
tallies_of horizon system past = map (λ chain. tally_of horizon system chain past) system.chains

abbrev pub all_figures : ℕ → System → List Row → List Figures
all_figures horizon system past = map (λ chain. figures_of horizon system chain past) system.chains
