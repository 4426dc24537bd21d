use Rattle.std.proofs.Common.{◌≡◌, ℕ, List, take}
use Rattle.mcs_ticks.specs.declared.row.Row.{Row}
use Rattle.mcs_verdict.specs.Findings.{past_of}
use Rattle.mcs_chain.specs.Figures.{tallies_of}
use Rattle.mcs_chain.specs.Watch.{watch_of}
use Rattle.mcs_ever_chain.proofs.run.see_all.Given as goal

abbrev pub invariant-loop-row : goal.invariant-loop-row
invariant-loop-row l = record {
  watch : (past : List Row) → l.initial.watch ≡ watch_of l.system past → l.watch ≡ watch_of l.system (past_of past (take l.row-index l.rows));
  tallies : (horizon : ℕ) (past : List Row) → l.initial.watch ≡ watch_of l.system past → l.initial.tallies ≡ tallies_of horizon l.system past →
      l.tallies ≡ tallies_of horizon l.system (past_of past (take l.row-index l.rows));
}
