use Rattle.std.proofs.Common.{◌≡◌, ◌∙◌, ◌++◌, ◌∷◌, [], None, ap, rules}
use Rattle.mcs_release.specs.Release.{ReleaseQueue, dated, is_held}
use Rattle.mcs_release.proofs.Kept.{IsKept-alone, alone-now, same_value}
use Rattle.mcs_release.proofs.releases.Releases.enter.Goals as goal

pub invariant_of-self : goal.invariant_of-self
invariant_of-self c =
    let none : c.self.inside.soonest ≡ None = c.is_never.ensures.0 (search rules) in
    rw c.at-self-inside.ensures (
    IsKept-alone _ _ _ _ _ _ c.self.invariant (dated c.args.x c.args.at) (rw (ap (λ (v : ReleaseQueue). v.room) c.self.view_is) c.requires.below)
    (ap (λ (v : ReleaseQueue). is_held c.args.x v.queue) c.self.view_is ∙ c.requires.free) none
    )

pub returns-then-is_never : goal.returns-then-is_never
returns-then-is_never c =
    let none : c.self.inside.soonest ≡ None = c.is_never.ensures.0 (search rules) in
    same_value _ _ _ _ (
    alone-now _ _ _ _ _ _ c.self.invariant (dated c.args.x c.args.at) (rw (ap (λ (v : ReleaseQueue). v.room) c.self.view_is) c.requires.below)
    (ap (λ (v : ReleaseQueue). is_held c.args.x v.queue) c.self.view_is ∙ c.requires.free) none
    ∙ ap (λ (v : ReleaseQueue). v.queue ++ dated c.args.x c.args.at ∷ []) c.self.view_is
    ) (ap (λ (v : ReleaseQueue). v.room) c.self.view_is)
