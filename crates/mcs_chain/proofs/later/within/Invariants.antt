use Rattle.std.proofs.Common.{◌≡◌, false, get_or, take}
use Rattle.std.specs.Prelude.{filter}
use Rattle.mcs_chain.specs.Later.{is_within}
use Rattle.mcs_chain.proofs.later.within.Given as goal

abbrev pub invariant-loop-sent : goal.invariant-loop-sent
invariant-loop-sent l = l.all.items ≡ filter (is_within l.parts (λ core. get_or l.own core false)) (take l.sent-index l.under_way)
