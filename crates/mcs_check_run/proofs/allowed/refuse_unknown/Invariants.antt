use Rattle.std.proofs.Common.{◌≡◌, drop, map, string_bytes}
use Rattle.mcs_check_run.specs.Allowed.{first_unknown}
use Rattle.mcs_check_run.proofs.allowed.refuse_unknown.Given as goal

abbrev pub invariant-loop-name : goal.invariant-loop-name
invariant-loop-name l =
    first_unknown l.notes (map (λ name. string_bytes name) (drop l.name-index l.names)) ≡ first_unknown l.notes (map (λ name. string_bytes name) l.names)
