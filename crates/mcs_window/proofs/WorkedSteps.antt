-- The turns of a small desk's steps, worked by hand.
use Rattle.std.specs.Prelude.{◌≡◌, ℕ, [], ◌∷◌, refl}
use Rattle.mcs_system.specs.System.{System}
use Rattle.mcs_window.specs.Desk.{opening_table}
use Rattle.mcs_window.specs.laws.Steps.{Lend, Settle, Forfeit, TakeRows, Skip, Go, turns_in}

-- two cores without a thread
abbrev two : ℕ → System
two delay =
    record { cores = 2; delay = delay; call = 1; min_budget = 1; contexts = []; notes = []; threads = []; orders = []; links = []; servers = 0; sources = []; beats = []; chains = [] }

-- both are lent, core 1 comes back first, idle time is skipped to moment 4, and core 1 takes turns
-- in place
turns_by_settling :
    turns_in (opening_table (two 2) 5)
    (Lend 0 2 ∷ Lend 1 2 ∷ Settle 1 ∷ TakeRows 1 ∷ Settle 0 ∷ Skip 4 (4 ∷ 4 ∷ []) ∷ Go 1 6 ∷ Forfeit ∷ [])
    ≡ 1 ∷ 1 ∷ 0 ∷ 0 ∷ 0 ∷ 1 ∷ 0 ∷ 1 ∷ 1 ∷ 1 ∷ []
turns_by_settling = refl
