use Rattle.std.specs.String.{string_bytes}
use Rattle.mcs_ever_told.proofs.Sets.{IsTold}
use Rattle.mcs_ever_told.proofs.line.cores.cores_text.Given as goal

abbrev pub invariant-loop-core : goal.invariant-loop-core
invariant-loop-core l = IsTold l.cores l.core l.later (string_bytes l.text)
