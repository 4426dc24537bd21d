use Rattle.std.proofs.Common.{◌≡◌, drop, map}
use Rattle.std.specs.Prelude.{filter}
use Rattle.mcs_chain.specs.Origins.{is_sent}
use Rattle.mcs_chain.proofs.under_way.landed.Given as goal

abbrev pub invariant-loop-i : goal.invariant-loop-i
invariant-loop-i l = l.landed ≡ map (λ sent. sent.mark) (filter (is_sent l.note l.maker l.made) (drop l.i l.under_way))
