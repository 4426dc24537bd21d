-- Orders in which the cores take their turns.
use Rattle.std.proofs.Common.{[], ◌∷◌, arith}
use Rattle.mcs_system.specs.System.{System, TakesTime}
use Rattle.mcs_window.specs.Progress.{stepped, TurnsAreSafe, TheLeastMayStep}

pub safe-turns : TurnsAreSafe
safe-turns progress [] h = tt
safe-turns progress (c ∷ cs) h = (h.0.may, safe-turns (stepped progress c) cs h.1)

pub least-steps : (system : System) → TakesTime system → TheLeastMayStep system
least-steps system takes_time horizon clocks c known in_time least =
    record { known = known; in_time = in_time; safe = λ b h _. let one = takes_time b c in let early = least b h in omega arith }
