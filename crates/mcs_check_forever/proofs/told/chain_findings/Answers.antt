use Rattle.std.proofs.Common.{◌≡◌, ℕ, ◌+◌, ◌<◌, ◌≤◌, ◌^◌, length, ap, sym, ◌∙◌, arith}
use Rattle.std.specs.List.{sum_by}
use Rattle.std.proofs.lemmas.List.{drop_all}
use Rattle.mcs_ticks.specs.Capped.{capped}
use Rattle.mcs_ever_chain_lines.specs.Lines.{findings_of}
use Rattle.mcs_check_forever.proofs.told.chain_findings.Goals as goal

small : (n : ℕ) → n < 2 ^ 64 → capped (n + 0) ≡ n
small n l = grind arith

pub returns : goal.returns
returns c =
    let chains = c.args.chains.now in
    let over : length chains ≤ c.loop-chain.chain-index = omega (arith, c.loop-chain-test.false) in
    sym (small c.loop-chain.findings c.loop-chain.invariant.1)
    ∙ ap (λ rest. capped (c.loop-chain.findings + sum_by findings_of rest)) (sym (drop_all c.loop-chain.chain-index chains over)) ∙ c.loop-chain.invariant.0
