use Rattle.std.proofs.Common.{◌≡◌, ℕ, ◌+◌, ◌<◌, ◌≤◌, ◌^◌, length, ap, sym, ◌∙◌, arith}
use Rattle.std.specs.List.{sum_by}
use Rattle.std.proofs.lemmas.List.{drop_all}
use Rattle.mcs_ticks.specs.Capped.{capped}
use Rattle.mcs_ever_told.specs.declared.outlook.told.Told.{Told}
use Rattle.mcs_check_forever.proofs.told.set_findings.Goals as goal

small : (n : ℕ) → n < 2 ^ 64 → capped (n + 0) ≡ n
small n l = grind arith

pub returns : goal.returns
returns c =
    let told = c.args.told.now in
    let over : length told ≤ c.loop-set.set-index = omega (arith, c.loop-set-test.false) in
    let f : Told → ℕ = λ (t : Told). t.findings in
    sym (small c.loop-set.findings c.loop-set.invariant.1)
    ∙ ap (λ rest. capped (c.loop-set.findings + sum_by f rest)) (sym (drop_all c.loop-set.set-index told over)) ∙ c.loop-set.invariant.0
