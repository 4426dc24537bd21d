use Rattle.std.proofs.Common.{◌≡◌, map, take, drop, length}
use Rattle.mcs_c.specs.Findings.{finding_of}
use Rattle.mcs_c.proofs.findings.fill.Given as goal

abbrev pub invariant-loop-i : goal.invariant-loop-i
invariant-loop-i l = record {
  filled : take l.i l.room ≡ map finding_of (take l.i l.all);
  behind : drop (length l.all) l.room ≡ drop (length l.all) l.initial.room;
}
