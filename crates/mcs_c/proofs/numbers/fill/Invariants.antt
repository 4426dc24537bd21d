use Rattle.std.proofs.Common.{◌≡◌, map, take, drop, length}
use Rattle.mcs_c.specs.Numbers.{numbers_of}
use Rattle.mcs_c.proofs.numbers.fill.Given as goal

abbrev pub invariant-loop-i : goal.invariant-loop-i
invariant-loop-i l = record {
  filled : take l.i l.rows ≡ map numbers_of (take l.i l.all);
  behind : drop (length l.all) l.rows ≡ drop (length l.all) l.initial.rows;
}
