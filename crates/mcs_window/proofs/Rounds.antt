-- A desk that takes turns in place: the core that runs, and skipped idle time.
use Rattle.std.proofs.Common.{◌≡◌, ℕ, zero, suc, ◌+◌, ◌-◌, ◌≤◌, false, Option, None, List, [], ◌∷◌, get_or, set, refl, subst, sym, arith}
use Rattle.mcs_window.specs.Desk.{Table, AllAreHere, WentByScripts, IsLater, clock_of, settled_at, turns_left}
use Rattle.mcs_stretch.specs.Idle.{AreSet}
use Rattle.mcs_window.specs.declared.slot.Loan.{Loan}
use Rattle.mcs_window.proofs.Lending.{sum-le}

none-set : (loans : List (Option Loan)) (c b : ℕ) → get_or loans b None ≡ None → get_or (set loans c None) b None ≡ None
none-set [] c b e = e
none-set (first ∷ loans) zero zero e = refl
none-set (first ∷ loans) zero (suc b) e = e
none-set (first ∷ loans) (suc c) zero e = e
none-set (first ∷ loans) (suc c) (suc b) e = none-set loans c b e

pub settled-later : (table after : Table) (c to : ℕ) → table.lost ≡ false → AllAreHere table → after ≡ settled_at table c to → WentByScripts table after → IsLater table after
settled-later table after c to sound here e went =
    subst (λ t. WentByScripts table t → IsLater table t) (sym e)
    (λ w. record { system_is = refl; horizon_is = refl; taken_are = refl; sound = sound; here = λ b l. none-set table.loans c b (here b l); went = w }) went

pub skipped-turns : (before after : Table) (moment : ℕ) → AreSet before.system before.clocks moment after.clocks → after ≡ record before { clocks = after.clocks } → turns_left after ≤ turns_left before
skipped-turns before after moment set same =
    subst (λ (t : Table). turns_left t ≤ turns_left before) (sym same)
    (sum-le (λ b. before.horizon + 1 - clock_of before b) (λ b. before.horizon + 1 - clock_of after b) before.system.cores
    (λ b l. let at = set b l in omega arith))
