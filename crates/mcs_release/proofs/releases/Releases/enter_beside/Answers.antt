use Rattle.std.proofs.Common.{◌∙◌, ◌++◌, ◌∷◌, [], Some, ap, arith, length, length-set}
use Rattle.mcs_release.specs.Release.{ReleaseQueue, is_held}
use Rattle.mcs_release.proofs.Kept.{IsKept-entered, entered-more, enough-for-more, same_value}
use Rattle.mcs_release.proofs.releases.Releases.enter_beside.Goals as goal

pub place_behind-place-requires-clause-enough : goal.place_behind-place-requires-clause-enough
place_behind-place-requires-clause-enough c =
    enough-for-more _ _ _ _ _ _ c.self.invariant c.args.entry (rw (ap (λ (v : ReleaseQueue). v.room) c.self.view_is) c.requires.below)
    (ap (λ (v : ReleaseQueue). is_held c.args.entry.thread v.queue) c.self.view_is ∙ c.requires.free)

pub overflow_add-self : goal.overflow_add-self
overflow_add-self c = omega (arith, c.place_behind-place.ensures.within, c.put.ensures.few, ap length c.put.ensures.put, length-set c.place_behind-place.new.places c.place_behind-place.result (Some c.args.entry))

pub invariant_of-self : goal.invariant_of-self
invariant_of-self c =
    rw (c.or-self-inside.ensures, c.at-at.ensures, c.place_behind-place.ensures.none, c.put.ensures.put) (
    IsKept-entered _ _ _ _ _ _ c.self.invariant c.args.entry (rw (ap (λ (v : ReleaseQueue). v.room) c.self.view_is) c.requires.below)
    (ap (λ (v : ReleaseQueue). is_held c.args.entry.thread v.queue) c.self.view_is ∙ c.requires.free)
    _ _ _ c.place_behind-place.ensures.entered c.place_behind-place.ensures.within c.place_behind-place.ensures.behind c.place_behind-place.ensures.enough
    )

pub returns : goal.returns
returns c =
    rw (c.place_behind-place.ensures.none, c.put.ensures.put) (
    same_value _ _ _ _ (
    entered-more _ _ _ _ _ _ c.self.invariant c.args.entry (rw (ap (λ (v : ReleaseQueue). v.room) c.self.view_is) c.requires.below)
    (ap (λ (v : ReleaseQueue). is_held c.args.entry.thread v.queue) c.self.view_is ∙ c.requires.free)
    _ _ _ c.place_behind-place.ensures.entered c.place_behind-place.ensures.within c.place_behind-place.ensures.behind c.place_behind-place.ensures.enough
    ∙ ap (λ (v : ReleaseQueue). v.queue ++ c.args.entry ∷ []) c.self.view_is
    ) (ap (λ (v : ReleaseQueue). v.room) c.self.view_is)
    )
