use Rattle.std.proofs.Common.{◌≡◌, ◌++◌, drop}
use Rattle.std.specs.Io.{StartsWith}
use Rattle.mcs_ever_chain_lines.specs.Lines.{chains_text}
use Rattle.mcs_ever_chain_lines.proofs.put.append_chains.Given as goal

abbrev pub invariant-loop-chain : goal.invariant-loop-chain
invariant-loop-chain l = record {
  rest : l.text.items ++ chains_text l.system l.format l.horizon (drop l.chain-index l.told)
      ≡ l.initial.text.items ++ chains_text l.system l.format l.horizon l.told;
  kept : StartsWith l.text.items l.initial.text.items;
}
