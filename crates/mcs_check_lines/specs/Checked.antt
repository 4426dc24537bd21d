-- The counts of chains.
use Rattle.std.specs.Prelude.{ℕ, length, List, [], ◌∷◌, Option, Some, None}
use Rattle.mcs_ticks.specs.Capped.{capped}
use Rattle.mcs_ticks.specs.declared.row.Row.{Row}
use Rattle.mcs_system.specs.declared.part.ChainPart.{ChainPart}
use Rattle.mcs_system.specs.System.{System}
use Rattle.mcs_chain.specs.Found.{all_slow, all_unanswered}
use Rattle.mcs_check_lines.specs.declared.checked.ChainCounts.{ChainCounts}

-- this many findings of chains, if the file has a chain
abbrev pub if_chains : List ChainPart → ChainCounts → Option ChainCounts
if_chains [] counts = None
if_chains (chain ∷ chains) counts = Some counts

-- by the rows up to the horizon, the latest first
abbrev pub chain_counts : System → List Row → ℕ → Option ChainCounts
chain_counts system past horizon =
    if_chains system.chains (record {
      slow = capped (length (all_slow system past 0 system.chains));
      unanswered = length (all_unanswered system past horizon 0 system.chains);
    })
