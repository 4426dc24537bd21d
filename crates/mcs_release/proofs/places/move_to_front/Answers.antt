use Rattle.std.proofs.Common.{◌≡◌, ◌+◌, ◌<◌, ◌∙◌, ◌^◌, ◌*◌, option_map, sym, ap, arith, get_or, length, Some}
use Rattle.std.proofs.lemmas.List.{get_or-drop, get_or_default}
use Rattle.mcs_release.specs.Release.{dated}
use Rattle.mcs_release.specs.stored.Least.{leaves}
use Rattle.mcs_release.specs.stored.Places.{date_of}
use Rattle.mcs_release.proofs.Closing.{AreEmptyFrom-closed, IsClosing-move, IsClosing-none, IsClosing-skip, count-closed}
use Rattle.mcs_release.proofs.Stored.{AreOfPlaces-moved, leaves-length, place-dated, places_of-length, places_of-moved}
use Rattle.mcs_release.proofs.places.move_to_front.Goals as goal
use Rattle.mcs_release.proofs.places.move_to_front.Goals.{in-Some, in_default}

pub loop-place-init : goal.loop-place-init
loop-place-init c = (IsClosing-none _, c.requires.numbered)

pub key-requires : goal.key-requires
key-requires c = omega (arith, c.loop-place.invariant.0.before)

pub loop-place-preserved : goal.loop-place-preserved
loop-place-preserved c =
    let size : length c.loop-place.nodes ≡ 4 * c.args.inner + 4 = omega (arith, c.loop-place.auto.nodes, c.requires.size) in
    let wide : length c.loop-place.threads ≡ 3 * c.args.inner + 1 = omega (arith, c.loop-place.auto.threads, c.requires.wide) in
    let same = leaves-length _ _ _ size wide in
    let below : c.loop-place.place < length c.loop-place.threads = omega arith in
    let told = place-dated (leaves c.args.inner c.loop-place.nodes) c.loop-place.threads c.loop-place.place c.date_of.result same below (
    c.date_of.ensures ∙ sym (ap date_of (get_or-drop (c.args.inner + 3) c.loop-place.nodes c.loop-place.place 0))
    ) in
    elim c.match-date_of.branch [
      | in-Some w ↦
          let few : c.loop-place.front < 2 ^ 21 = omega (arith, c.loop-place.invariant.0.before, c.requires.few) in
          let read : w.index-threads-place.result ≡ get_or c.loop-place.threads c.loop-place.place 0 = w.index-threads-place.is ∙ get_or_default _ _ _ 0 below in
          rw (w.nodes-is, w.threads-is, w.front-is, w.key.ensures.value) (
            rw (places_of-moved c.args.inner c.loop-place.nodes c.loop-place.threads c.loop-place.place c.loop-place.front w.in-Some.date w.index-threads-place.result w.key.ensures.in_range few) (
                IsClosing-move _ _ _ _ c.loop-place.invariant.0 (dated w.index-threads-place.result w.in-Some.date)
                (omega (arith, places_of-length _ _ same, same))
                (told ∙ ap (option_map (dated (get_or c.loop-place.threads c.loop-place.place 0))) w.in-Some.is ∙ sym (ap (λ thread. Some (dated thread w.in-Some.date)) read))
                ),
            AreOfPlaces-moved c.args.inner c.loop-place.nodes c.loop-place.threads c.loop-place.place c.loop-place.front w.in-Some.date 0 w.key.ensures.in_range c.loop-place.invariant.1,
          )
      | in_default w ↦
          rw (w.nodes-is, w.threads-is, w.front-is) (
            IsClosing-skip _ _ _ _ c.loop-place.invariant.0 (told ∙ ap (option_map (dated (get_or c.loop-place.threads c.loop-place.place 0))) w.in_default.is),
            c.loop-place.invariant.1,
          )
    ]

pub returns : goal.returns
returns c =
    let size : length c.loop-place.nodes ≡ 4 * c.args.inner + 4 = omega (arith, c.loop-place.auto.nodes, c.requires.size) in
    let wide : length c.loop-place.threads ≡ 3 * c.args.inner + 1 = omega (arith, c.loop-place.auto.threads, c.requires.wide) in
    let same = leaves-length _ _ _ size wide in
    let closing = c.loop-place.invariant.0 in
    record {
      entered = closing.kept;
      count = count-closed _ _ _ _ closing (omega (arith, places_of-length _ _ same, same));
      behind = AreEmptyFrom-closed _ _ _ _ closing (omega (arith, places_of-length _ _ same, same));
      numbered = c.loop-place.invariant.1;
    }
