use Rattle.mcs_release.specs.stored.Least.{leaves}
use Rattle.mcs_release.specs.stored.Places.{places_of, AreOfPlaces}
use Rattle.mcs_release.proofs.Closing.{IsClosing}
use Rattle.mcs_release.proofs.places.move_to_front.Given as goal

abbrev pub invariant-loop-place : goal.invariant-loop-place
invariant-loop-place l =
    IsClosing (places_of (leaves l.inner l.fn.nodes) l.fn.threads) (places_of (leaves l.inner l.nodes) l.threads) l.front l.place
    × AreOfPlaces (leaves l.inner l.nodes)
