use Rattle.std.proofs.Common.{◌≡◌, take, ◌++◌, map}
use Rattle.mcs_chain.proofs.one.One.put_due.Given as goal
use Rattle.std.specs.Prelude.{filter}
use Rattle.mcs_chain.specs.declared.one.Late.{Late}
use Rattle.mcs_chain.specs.Watch.{is_due, told}

abbrev pub invariant-loop-late : goal.invariant-loop-late
invariant-loop-late l =
    l.due.items ≡ l.initial.due.items ++ map (told l.chain) (filter (λ (late : Late). is_due l.before late.moment) (take l.late-index l.late-items))
