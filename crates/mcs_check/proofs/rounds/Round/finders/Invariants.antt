use Rattle.std.proofs.Common.{◌≡◌, map}
use Rattle.std.specs.Prelude.{Some}
use Rattle.mcs_check.proofs.rounds.Round.finders.Given as goal

abbrev pub invariant-loop-own : goal.invariant-loop-own
invariant-loop-own g l = map (λ finder. finder.own) l.finders.items ≡ map (λ own. Some own) l.yielded
