-- The ticks of the legs of a way, by what had the interrupt.
use Rattle.std.specs.Prelude.{ℕ, ◌-◌, List, map, sum}
use Rattle.mcs_ticks.specs.Capped.{capped}
use Rattle.mcs_verdict.specs.declared.standing.Stood.{Stood}
use Rattle.mcs_verdict.specs.Stood.{no_ticks}
use Rattle.mcs_way.specs.declared.leg.Carrier.{Carrier}
use Rattle.mcs_way.specs.declared.leg.Carrier.TheVariants.{Note, Thread, Signal}
use Rattle.mcs_way.specs.declared.leg.Leg.{Leg}
use Rattle.mcs_way.specs.declared.sums.Sums.{Sums}

-- how long a leg takes
abbrev pub ticks_of : Leg → ℕ
ticks_of leg = leg.to - leg.from

-- those of a notification
abbrev pub held_by : Carrier → ℕ → ℕ
held_by (Note note) ticks = ticks
held_by _ ticks = 0

abbrev pub held_in : Leg → ℕ
held_in leg = held_by leg.carrier (ticks_of leg)

-- those of a signal between cores
abbrev pub delay_by : Carrier → ℕ → ℕ
delay_by (Signal maker home) ticks = ticks
delay_by _ ticks = 0

abbrev pub delay_in : Leg → ℕ
delay_in leg = delay_by leg.carrier (ticks_of leg)

-- how a thread stood in its leg
abbrev pub stood_by : Carrier → Stood
stood_by (Thread thread stood) = stood
stood_by _ = no_ticks

abbrev pub stood_in : Leg → Stood
stood_in leg = stood_by leg.carrier

-- a sum over legs
abbrev pub total : (Leg → ℕ) → List Leg → ℕ
total part legs = capped (sum (map part legs))

abbrev pub sums_of : List Leg → Sums
sums_of legs =
    record {
      ticks = total ticks_of legs;
      held = total held_in legs;
      delay = total delay_in legs;
      ready = total (λ leg. (stood_in leg).ready) legs;
      running = total (λ leg. (stood_in leg).running) legs;
      throttled = total (λ leg. (stood_in leg).throttled) legs;
      blocked = total (λ leg. (stood_in leg).blocked) legs;
      server = total (λ leg. (stood_in leg).server) legs;
    }
