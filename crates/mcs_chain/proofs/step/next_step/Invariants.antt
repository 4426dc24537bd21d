use Rattle.std.proofs.Common.{◌≡◌, drop}
use Rattle.mcs_chain.specs.Steps.{next_step}
use Rattle.mcs_chain.proofs.step.next_step.Given as goal

-- what is left to look at says what all did
abbrev pub invariant-loop-i : goal.invariant-loop-i
invariant-loop-i l =
    next_step l.word (record { item = l.i; handler = l.handler }) (drop l.i l.items)
    ≡ next_step l.word l.fn.from (drop l.fn.from.item l.items)
