use Rattle.std.proofs.Common.{ℕ, ap, subst, arith}
use Rattle.mcs_control.specs.declared.context.Budget.{Budget}
use Rattle.mcs_control.specs.Context.{WithRoom, head_amount}
use Rattle.mcs_control.specs.stored.Context.{held, IsHeld}
use Rattle.mcs_control.proofs.Helds.{charged-refills, charged-slice}
use Rattle.mcs_control.proofs.context.Context.charge.Goals as goal
use Rattle.mcs_control.proofs.context.Context.charge.Goals.{in-Sporadic, in-RoundRobin}

pub invariant_of-self : goal.invariant_of-self
invariant_of-self c =
    let P : Budget → Type 0 = λ budget. IsHeld c.self.inside.config c.self.inside.mode budget c.self.inside.room in
    let amount : Budget → ℕ = λ budget. head_amount (held c.self.inside.config c.self.inside.mode budget) in
    let e = ap (λ (v : WithRoom). head_amount v.context) c.self.view_is in
    elim c.match-self.branch [
      | in-Sporadic w ↦ rw w.self-inside-is
          (charged-refills c.self.inside.config c.self.inside.mode c.self.inside.room c.args.ticks c.args.min_budget w.in-Sporadic.refills w.charge.new.self w.charge.ensures c.requires.some
          (omega (arith, c.requires.in_head, e, ap amount w.in-Sporadic.is)) (subst P w.in-Sporadic.is c.self.invariant))
      | in-RoundRobin w ↦ rw w.self-inside-is
          (charged-slice c.self.inside.config c.self.inside.mode c.self.inside.room c.args.ticks c.args.min_budget w.in-RoundRobin.slice w.charge-in-RoundRobin.new.self w.charge-in-RoundRobin.ensures c.requires.some
          (omega (arith, c.requires.in_head, e, ap amount w.in-RoundRobin.is)) (subst P w.in-RoundRobin.is c.self.invariant))
    ]
