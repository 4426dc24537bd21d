use Rattle.std.proofs.Common.{◌≡◌, ◌+◌, ◌<◌, ◌^◌, drop}
use Rattle.std.specs.List.{sum_by}
use Rattle.mcs_ticks.specs.Capped.{capped}
use Rattle.mcs_ever_chain_lines.specs.Lines.{findings_of}
use Rattle.mcs_check_forever.proofs.told.chain_findings.Given as goal

abbrev pub invariant-loop-chain : goal.invariant-loop-chain
invariant-loop-chain l =
    (capped (l.findings + sum_by findings_of (drop l.chain-index l.chains)) ≡ capped (sum_by findings_of l.chains))
    × (l.findings < 2 ^ 64)
