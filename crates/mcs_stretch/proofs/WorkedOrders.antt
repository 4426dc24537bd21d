-- Orders of few turns, worked by hand: each is safe in one sense and not in a narrower one.
use native.Mathlib.Omega.{arith}
use Rattle.std.specs.Prelude.{◌≡◌, ◌≢◌, ℕ, [], ◌∷◌, refl, zero, suc}
use Rattle.mcs_system.specs.System.{System}
use Rattle.mcs_laws.specs.Links.{Signals}
use Rattle.mcs_stretch.specs.Safe.{IsSafe}
use Rattle.mcs_stretch.specs.ByScripts.{IsSafeByScripts}
use Rattle.mcs_control.specs.declared.config.Mode.TheVariants as mode
use Rattle.mcs_script.specs.declared.item.Item.TheVariants.{Signal}
use Rattle.mcs_core.specs.Clock.{turn_of}
use Rattle.mcs_stretch.specs.Stretch.{NothingArrivesBefore}
use Rattle.mcs_stretch.specs.laws.BySignals.{IsSafeBySignals}
use Rattle.mcs_stretch.proofs.Inboxes.{of_turn}
use Rattle.mcs_stretch.proofs.Reaches.{by-delays}

-- two cores without a thread
abbrev two : ℕ → System
two delay =
    record { cores = 2; delay = delay; call = 1; min_budget = 1; contexts = []; notes = []; threads = []; orders = []; links = []; servers = 0; sources = []; beats = []; chains = [] }

no_signals : (b c : ℕ) → Signals (two 1) b c → ⊥
no_signals b c s = omega (arith, s.known)

-- core 0 runs to the end alone: this is safe by the scripts
goes_on : IsSafeByScripts (two 1) 1 (0 ∷ 0 ∷ []) (0 ∷ 0 ∷ [])
goes_on = (
  record { known = omega arith; in_time = omega arith; safe = λ b l other s. absurd (no_signals b 0 s) },
  (record { known = omega arith; in_time = omega arith; safe = λ b l other s. absurd (no_signals b 0 s) }, tt),
)

-- and not in the first sense
goes_too_far : IsSafe (two 1) 1 (0 ∷ 0 ∷ []) (0 ∷ 0 ∷ []) → ⊥
goes_too_far h = let one : (let a : ℕ = 1 in a) ≢ 0 = omega arith in let late = h.1.0.safe 1 (omega arith) one in omega arith

-- Core 1 has a thread that starts at moment 3 and signals a notification of core 0.
abbrev bell : System
bell =
    record {
      cores = 2;
      delay = 1;
      call = 1;
      min_budget = 1;
      contexts = record { name = []; core = 1; config = record { budget = 2; period = 4; extra = 0 }; mode = mode.Sporadic } ∷ [];
      notes = record { name = []; core = 0; word = 0 } ∷ [];
      threads = record { name = []; context = 0; priority = 5; start = 3; rounds = 1; deadline = 0; script = Signal 0 1 ∷ [] } ∷ [];
      orders = [];
      links = [];
      servers = 0;
      sources = [];
      beats = [];
      chains = [];
    }

-- at time 0 no signal is made, and one that is made later arrives at 2 or later
none_at_0 : (turn_of bell 1 0).mails ≡ []
none_at_0 = refl

none_by_2 : NothingArrivesBefore bell 0 2 (1 ∷ 0 ∷ [])
none_by_2 zero m mail known l made home = absurd ((of_turn bell 0 m mail made).away home)
none_by_2 (suc zero) zero mail known l made home = absurd made
none_by_2 (suc zero) (suc m) mail known l made home = let now = (of_turn bell 1 (suc m) mail made).arrives in omega arith
none_by_2 (suc (suc b)) m mail known l made home = absurd (omega arith)

-- so core 0 may go on to 2 by the signals ..
goes_to_2 : IsSafeBySignals bell 1 (0 ∷ 0 ∷ []) (0 ∷ 0 ∷ [])
goes_to_2 = (
  record { known = omega arith; in_time = omega arith; safe = by-delays bell 0 1 (0 ∷ 0 ∷ []) (λ b l other. omega arith) },
  (record { known = omega arith; in_time = omega arith; safe = none_by_2 }, tt),
)

signals_0 : Signals bell 1 0
signals_0 = record { thread = 0; place = 0; note = 0; badge = 1; known = omega arith; maker = refl; item = refl; home = refl }

-- .. and not by the scripts
not_by_scripts : IsSafeByScripts bell 1 (0 ∷ 0 ∷ []) (0 ∷ 0 ∷ []) → ⊥
not_by_scripts h = let one : (let a : ℕ = 1 in a) ≢ 0 = omega arith in let late = h.1.0.safe 1 (omega arith) one signals_0 in omega arith
