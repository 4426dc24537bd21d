use Rattle.std.proofs.Common.{◌≡◌, ◌<◌, ◌≤◌, ◌∙◌, ◌++◌, ◌∷◌, [], ap, append-nil, arith, get_or, length, take}
use Rattle.std.proofs.lemmas.List.{get_or_default, take_all}
use Rattle.mcs_release.specs.Release.{dated}
use Rattle.mcs_release.specs.stored.Places.{entered, places_of}
use Rattle.mcs_release.proofs.Stored.{entered-dated, places_of-length}
use Rattle.mcs_release.proofs.places.entries.Goals as goal
use Rattle.mcs_release.proofs.places.entries.Goals.{in-Some+in_ok-push, in_default}

pub loop-place-preserved : goal.loop-place-preserved
loop-place-preserved c =
    let below : c.loop-place.place < length c.args.threads.now = omega arith in
    let more = entered-dated c.args.numbers.now c.args.threads.now c.loop-place.place c.date_of.result c.requires below c.date_of.ensures in
    elim c.match-date_of.branch [
      | in-Some+in_ok-push w ↦
          let read : w.index-threads-place.result ≡ get_or c.args.threads.now c.loop-place.place 0 = w.index-threads-place.is ∙ get_or_default _ _ _ 0 below in
          rw (more, w.in-Some.is, w.list-is, w.in_ok-push.ensures.items) (
          ap (λ xs. xs ++ dated w.index-threads-place.result w.in-Some.date ∷ []) c.loop-place.invariant
          ∙ ap (λ thread. entered (take c.loop-place.place (places_of c.args.numbers.now c.args.threads.now)) ++ dated thread w.in-Some.date ∷ []) read
          )
      | in_default w ↦ rw (more, w.in_default.is, w.list-is, append-nil) c.loop-place.invariant
    ]

pub returns : goal.returns
returns c =
    let past : length (places_of c.args.numbers.now c.args.threads.now) ≤ c.loop-place.place = omega (arith, places_of-length c.args.numbers.now c.args.threads.now c.requires) in
    c.loop-place.invariant ∙ ap entered (take_all _ _ past)
