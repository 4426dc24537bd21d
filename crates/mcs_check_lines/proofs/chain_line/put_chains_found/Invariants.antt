use Rattle.std.proofs.Common.{◌≡◌, ◌++◌, drop, flat_map}
use Rattle.mcs_check_lines.specs.Chains.{chain_found_line}
use Rattle.mcs_check_lines.proofs.chain_line.put_chains_found.Given as goal

abbrev pub invariant-loop-found : goal.invariant-loop-found
invariant-loop-found l =
    l.text.items ++ flat_map (chain_found_line l.format l.system) (drop l.found-index l.all)
    ≡ l.initial.text.items ++ flat_map (chain_found_line l.format l.system) l.all
