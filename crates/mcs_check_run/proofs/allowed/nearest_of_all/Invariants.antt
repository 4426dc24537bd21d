use Rattle.std.proofs.Common.{◌≡◌, None, drop, option_map}
use Rattle.mcs_check_run.specs.Allowed.{nearest_from}
use Rattle.mcs_check_run.proofs.allowed.nearest_of_all.Given as goal

abbrev pub invariant-loop-part : goal.invariant-loop-part
invariant-loop-part l = nearest_from l.name (option_map (λ n. n.now) l.near) (drop l.part-index l.notes) ≡ nearest_from l.name None l.notes
