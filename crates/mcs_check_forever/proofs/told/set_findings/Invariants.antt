use Rattle.std.proofs.Common.{◌≡◌, ◌+◌, ◌<◌, ◌^◌, drop}
use Rattle.std.specs.List.{sum_by}
use Rattle.mcs_ticks.specs.Capped.{capped}
use Rattle.mcs_ever_told.specs.declared.outlook.told.Told.{Told}
use Rattle.mcs_check_forever.proofs.told.set_findings.Given as goal

abbrev pub invariant-loop-set : goal.invariant-loop-set
invariant-loop-set l =
    (capped (l.findings + sum_by (λ (t : Told). t.findings) (drop l.set-index l.told)) ≡ capped (sum_by (λ (t : Told). t.findings) l.told))
    × (l.findings < 2 ^ 64)
