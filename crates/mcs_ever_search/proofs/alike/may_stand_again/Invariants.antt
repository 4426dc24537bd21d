use Rattle.mcs_ever_search.proofs.alike.may_stand_again.Given as goal

abbrev pub invariant-loop-core : goal.invariant-loop-core
invariant-loop-core l = Unit {0}
