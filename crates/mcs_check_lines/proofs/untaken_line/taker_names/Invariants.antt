use Rattle.std.proofs.Common.{◌≡◌, ◌++◌, drop, map}
use Rattle.mcs_verdict.specs.Takers.{takers}
use Rattle.mcs_check_lines.specs.Lines.{taker_names}
use Rattle.mcs_check_lines.proofs.untaken_line.taker_names.Given as goal

abbrev pub invariant-loop-part : goal.invariant-loop-part
invariant-loop-part l =
    map (λ name. name.now) l.names.items ++ map (λ part. part.name) (takers l.note (drop l.part-index l.system.threads)) ≡ taker_names l.system l.note
