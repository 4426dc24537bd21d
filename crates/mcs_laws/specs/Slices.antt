-- The charges of round robin contexts over time: from one full slice to the next they sum to the
-- budget.
use Rattle.std.specs.Prelude.{◌≡◌, ℕ, suc, ◌+◌, ◌-◌, ◌*◌, ◌<◌, ◌≤◌, ◌==◌, ◌&&◌, nat_lt, nat_le, if◌then◌else◌, List, [], flat_map, length, sum}
use Rattle.std.specs.List.{range_with_len}
use Rattle.mcs_ticks.specs.declared.row.Row.{Row}
use Rattle.mcs_refills.specs.Slice.{AreWithin, left_after_all, times_used_up}
use Rattle.mcs_control.specs.declared.config.Kind.TheVariants.{RoundRobin}
use Rattle.mcs_control.specs.Control.{kind_of}
use Rattle.mcs_control.specs.Context.Budget.{Slice}
use Rattle.mcs_system.specs.System.{System, context_part}
use Rattle.mcs_core.specs.Clock.{schedule}
use Rattle.mcs_laws.specs.Histories.{charge_told, charges_at, home_of, context_before, IsUnordered}
use Rattle.mcs_laws.specs.InForce.{config_in_force}

module _ (system : System) (context : ℕ) where
  -- the charges of the context in the rows of its core, over this many moments from `from` on
  abbrev pub charges_from : ℕ → ℕ → List ℕ
  charges_from from moments = flat_map (charges_at system context) (range_with_len from moments)

  -- these charges, read from the rows of a schedule
  abbrev pub charge_in : ℕ → ℕ → Row → List ℕ
  charge_in from moments row =
      if (row.core == home_of system context) && nat_le from row.moment && nat_lt row.moment (from + moments)
      then charge_told system context row.what else []

  abbrev pub charges_in : ℕ → ℕ → List Row → List ℕ
  charges_in from moments rows = flat_map (charge_in from moments) rows

  -- the ticks left of its slice before moment t
  abbrev pub HasLeft : ℕ → ℕ → Type 0
  HasLeft t left = (context_before system context t).budget ≡ Slice left

  -- the budget in force before moment t: that of the last order for the context before it, or else
  -- the file's
  abbrev pub budget : ℕ → ℕ
  budget t = (config_in_force system context t).budget

  -- a round robin context
  pub record HasSlices : Type 0 where
    pub known : context < length system.contexts
    pub kind : kind_of (context_part system context).config ≡ RoundRobin

  -- over these moments each charge takes at least a tick, and at most what is left. The charges and
  -- what is left after them sum to what was left before them and the budget for each time that the
  -- slice was used up and full again. `after` is left then, unless an order came at the last
  -- moment, after its charge
  pub record IsCharged (from moments : ℕ) : Type 0 where
    pub before : ℕ
    pub after : ℕ
    pub has_before : HasLeft from before
    pub is_after : after ≡ left_after_all (charges_from from moments) (budget from) before
    pub has_after : IsUnordered system context from moments → HasLeft (from + moments) after
    pub within : AreWithin (charges_from from moments) (budget from) before
    pub sums : sum (charges_from from moments) + after
        ≡ before + times_used_up (charges_from from moments) (budget from) before * budget from

  -- the slice is full before these moments, and their charges use it up once and leave the next
  -- full one. No order for the context comes before the last of these moments; an order at the last
  -- one comes after the charge
  pub record IsOneSlice (from moments : ℕ) : Type 0 where
    pub full : HasLeft from (budget from)
    pub unordered : IsUnordered system context from (moments - 1)
    pub next : left_after_all (charges_from from moments) (budget from) (budget from) ≡ budget from
    pub once : times_used_up (charges_from from moments) (budget from) (budget from) ≡ 1

-- the rows of a schedule have the charges of all its moments
abbrev pub SchedulesTellCharges : System → Type 0
SchedulesTellCharges system =
    (context from moments horizon : ℕ) → context < length system.contexts → from + moments ≤ suc horizon →
    charges_in system context from moments (schedule system horizon) ≡ charges_from system context from moments

-- the charges of round robin contexts by the budget in force before these moments, if no order for
-- the context comes before the last of them
abbrev pub SlicesAreCharged : System → Type 0
SlicesAreCharged system =
    (context from moments : ℕ) → HasSlices system context → IsUnordered system context from (moments - 1)
    → IsCharged system context from moments

-- from one full slice to the next, without an order in between, the charges in the rows sum to the
-- budget in force
abbrev pub SlicesAreSpent : System → Type 0
SlicesAreSpent system =
    (context from moments : ℕ) → HasSlices system context → IsOneSlice system context from moments →
    sum (charges_from system context from moments) ≡ budget system context from
