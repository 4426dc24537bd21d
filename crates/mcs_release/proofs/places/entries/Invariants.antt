use Rattle.std.proofs.Common.{◌≡◌, take}
use Rattle.mcs_release.specs.stored.Places.{entered, places_of}
use Rattle.mcs_release.proofs.places.entries.Given as goal

abbrev pub invariant-loop-place : goal.invariant-loop-place
invariant-loop-place l = l.list.items ≡ entered (take l.place (places_of l.numbers l.threads))
