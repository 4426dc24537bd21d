-- The turns of a few moves of cores, worked by hand.
use native.Mathlib.Omega.{arith}
use Rattle.std.specs.Prelude.{◌≡◌, ◌≢◌, ℕ, zero, suc, ◌+◌, ◌<◌, ◌≤◌, List, [], ◌∷◌, true, slice_index, refl}
use Rattle.mcs_system.specs.System.{System}
use Rattle.mcs_window.specs.Progress.{Progress, opening_progress}
use Rattle.mcs_window.specs.laws.Moves.{Move, Step, Advance, Skip, TakeRows, Fail, after_moves, turns_in, IsByDelays, Each, AreMade}
use Rattle.mcs_stretch.proofs.Reaches.{by-delays}

-- two cores without a thread, two ticks apart
abbrev two : System
two = record { cores = 2; delay = 2; call = 1; min_budget = 1; contexts = []; notes = []; threads = []; orders = []; links = []; servers = 0; sources = []; beats = []; chains = [] }

-- core 0 steps, core 1 advances to 3, its rows are taken, idle time is skipped to moment 4, core 1
-- steps, and then memory runs out
abbrev six : List Move
six = Step 0 ∷ Advance 1 3 ∷ TakeRows 1 ∷ Skip 4 ∷ Step 1 ∷ Fail ∷ []

abbrev opening : Progress
opening = opening_progress two 5

-- in the idle time core 0 takes its turns at 1, 2 and 3, and core 1 that at 3, after core 0
turns_by_moves : turns_in opening six ≡ 0 ∷ 1 ∷ 1 ∷ 1 ∷ 0 ∷ 0 ∷ 0 ∷ 1 ∷ 1 ∷ []
turns_by_moves = refl

clocks_by_moves : after_moves opening six ≡ record { system = two; horizon = 5; clocks = 4 ∷ 5 ∷ []; taken = 0 ∷ 3 ∷ []; failed = true }
clocks_by_moves = refl

-- with a delay of 2 core 1 may advance to 3 if core 0 is at 1
allows_3 : (b : ℕ) → b < 2 → b ≢ 1 → 3 ≤ slice_index (1 ∷ 0 ∷ []) b + 2
allows_3 zero l other = omega arith
allows_3 (suc zero) l other = absurd (other refl)
allows_3 (suc (suc b)) l other = absurd (omega arith)

allows_5 : (b : ℕ) → b < 2 → b ≢ 1 → 4 < slice_index (4 ∷ 4 ∷ []) b + 2
allows_5 zero l other = omega arith
allows_5 (suc zero) l other = absurd (other refl)
allows_5 (suc (suc b)) l other = absurd (omega arith)

six_are_made : AreMade opening six
six_are_made = (
  record { whole = refl; may = record { known = omega arith; in_time = omega arith; safe = λ b l other. omega arith } },
  (
    record { whole = refl; known = omega arith; ahead = omega arith; in_time = omega arith; reached = by-delays two 1 3 (1 ∷ 0 ∷ []) allows_3 },
    (
      omega arith,
      (
        record { whole = refl; in_time = omega arith },
        (record { whole = refl; may = record { known = omega arith; in_time = omega arith; safe = allows_5 } }, (tt, tt)),
      ),
    ),
  ),
)

six_by_delays : Each IsByDelays opening six
six_by_delays = (tt, (allows_3, (tt, (tt, (tt, (tt, tt))))))

-- an advance is turns of its core; `WorkedOrders` of mcs_stretch has such an order that is safe by
-- the signals and not by the scripts
turns_of_advance : turns_in opening (Advance 0 2 ∷ []) ≡ 0 ∷ 0 ∷ []
turns_of_advance = refl
