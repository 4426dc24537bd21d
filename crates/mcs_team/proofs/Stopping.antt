-- How the flow of a team ends early, from one moment on and from an earlier one.
use Rattle.std.proofs.Common.{◌≡◌, ℕ, ◌+◌, ◌≤◌, ◌⊎◌, inl, inr, Bool, List, refl, sym, subst, arith}
use Rattle.mcs_ticks.specs.declared.row.Row.{Row}
use Rattle.mcs_ticks.specs.declared.sink.FlowFault.{FlowFault}
use Rattle.mcs_ticks.specs.declared.sink.FlowFault.TheVariants as fault
use Rattle.mcs_system.specs.System.{System, TakesTime}
use Rattle.mcs_team.specs.Flow.{FailsFrom, IsFlowFault, IsGivenBetween, IsStop, Waits}
use Rattle.mcs_team.specs.declared.run.Stop.{Stop}
use Rattle.mcs_team.specs.declared.run.Stop.TheVariants.{Fault, Odd}
use Rattle.mcs_team.proofs.Rounds.{given-none, given-further, fails-further, stops-at}

-- rows that wait are at most one tick later than the horizon
pub waits-in-time : {O P : Type 0} (holds : O → P → List Row → Type 0) (system : System) (horizon t : ℕ) (pasts : List ℕ) (parts : List (List P)) (out : O) →
    Waits holds system horizon t pasts parts out → 1 ≤ system.cores → t ≤ horizon + 1
waits-in-time holds system horizon t pasts parts out is some = let a = is.passed 0 (omega arith) in let b = is.early 0 (omega arith) in omega arith

module _ {O : Type 0} (takes : O → Row → Bool → O → Type 0) (system : System) (horizon : ℕ) where
  pub stop-further : (t u : ℕ) (before out after : O) (stop : Stop) → IsGivenBetween takes system t u before out → IsStop takes system horizon u out after stop →
      IsStop takes system horizon t before after stop
  stop-further t u before out after (Fault why) g h = fails-further takes system horizon t u before out after why g h
  stop-further t u before out after (Odd m) g h = (h.0, given-further takes system t u m before out after g h.1)

  -- no further row was given
  pub stops-here : TakesTime system → (t : ℕ) (out : O) (stop : Stop) → t ≤ horizon + 1 → (stop ≡ Fault fault.NoMemory) ⊎ (stop ≡ Odd t) → IsStop takes system horizon t out out stop
  stops-here takes_time t out stop l (inl e) = subst (IsStop takes system horizon t out out) (sym e) (stops-at takes system horizon takes_time t out l)
  stops-here takes_time t out stop l (inr e) = subst (IsStop takes system horizon t out out) (sym e) (l, given-none takes system t out)

-- since a moment an output was given what the cores told before another, and the rest waits
pub record IsGiving {O P : Type 0} (takes : O → Row → Bool → O → Type 0) (holds : O → P → List Row → Type 0) (system : System) (horizon first : ℕ) (before : O)
    (reached : ℕ) (pasts : List ℕ) (parts : List (List P)) (out : O) : Type 0 where
  pub waits : Waits holds system horizon reached pasts parts out
  pub given : IsGivenBetween takes system first reached before out
