-- Rows of one moment, whose turns stand alone.
use Rattle.std.specs.Prelude.{◌≡◌, ◌⊎◌, ℕ, Bool, true, false, List, [], ◌∷◌, Option, Some}
use Rattle.mcs_ticks.specs.declared.row.Row.{Row}
use Rattle.mcs_ever_chain.specs.Recurs.{is_from, takes_posted}

-- a row of the group, after one of the core `before`, takes nothing that a row of another core
-- posted, and no signal of a core outside the group
abbrev pub IsAlone : (ℕ → Bool) → Option ℕ → Row → Type 0
IsAlone group before r =
    group r.core ≡ true → ((before ≡ Some r.core) ⊎ (takes_posted r.what ≡ false)) × (is_from group r.what ≡ true)

abbrev pub AreAlone : (ℕ → Bool) → Option ℕ → List Row → Type 0
AreAlone group before [] = Unit {0}
AreAlone group before (r ∷ rows) = IsAlone group before r × AreAlone group (Some r.core) rows
