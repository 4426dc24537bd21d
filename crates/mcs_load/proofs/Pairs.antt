-- Marks of the pairs of cores that have a link.
use Rattle.std.proofs.Common.{◌+◌, ◌*◌, false, [], replicate, arith}
use Rattle.std.proofs.lemmas.List.{get_or-replicate, length-replicate}
use Rattle.mcs_load.specs.stored.Pairs.{AreMarked}

pub marked_none : AreMarked (replicate 4096 false) []
marked_none = record {
  room = length-replicate 4096 false;
  marked = λ maker home m h. get_or-replicate 4096 (maker * 64 + home) false false (omega (arith, m, h));
}
