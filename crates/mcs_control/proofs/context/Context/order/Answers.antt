use Rattle.std.proofs.Common.{◌≡◌, ap, sym, subst, ◌∙◌}
use Rattle.mcs_control.specs.declared.context.Budget.{Budget}
use Rattle.mcs_control.specs.Context.{WithRoom}
use Rattle.mcs_control.specs.Control.{kind_of}
use Rattle.mcs_control.specs.stored.Context.{IsHeld}
use Rattle.mcs_control.proofs.Helds.{ordered-refills, ordered-slice}
use Rattle.mcs_control.proofs.context.Context.order.Goals as goal
use Rattle.mcs_control.proofs.context.Context.order.Goals.{in-Sporadic, in-RoundRobin}

pub invariant_of-self : goal.invariant_of-self
invariant_of-self c =
    let P : Budget → Type 0 = λ budget. IsHeld c.self.inside.config c.self.inside.mode budget c.self.inside.room in
    let s : kind_of c.args.config ≡ kind_of c.self.inside.config = c.requires.same_kind ∙ ap (λ (v : WithRoom). kind_of v.context.config) (sym c.self.view_is) in
    elim c.match-self.branch [
      | in-Sporadic w ↦ rw w.self-inside-is
          (ordered-refills c.args.config c.self.inside.config c.self.inside.mode c.self.inside.room c.args.t c.requires.checked s w.in-Sporadic.refills w.reorder.new.self w.reorder.ensures (subst P w.in-Sporadic.is c.self.invariant))
      | in-RoundRobin w ↦ rw w.self-inside-is
          (ordered-slice c.args.config c.self.inside.config c.self.inside.mode c.self.inside.room c.args.t c.requires.checked s w.in-RoundRobin.slice w.reorder-in-RoundRobin.new.self w.reorder-in-RoundRobin.ensures
          (subst P w.in-RoundRobin.is c.self.invariant))
    ]
