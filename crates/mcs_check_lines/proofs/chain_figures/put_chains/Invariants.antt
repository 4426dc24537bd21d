use Rattle.std.proofs.Common.{◌≡◌, ◌++◌, drop}
use Rattle.mcs_check_lines.specs.Chains.{chain_lines}
use Rattle.mcs_check_lines.proofs.chain_figures.put_chains.Given as goal

abbrev pub invariant-loop-number : goal.invariant-loop-number
invariant-loop-number l =
    l.text.items ++ chain_lines l.format l.system l.number (drop l.number l.all) ≡ l.initial.text.items ++ chain_lines l.format l.system 0 l.all
