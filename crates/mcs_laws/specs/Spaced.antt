-- The distance of the dates that a sporadic context's charges take.
use Rattle.std.specs.Prelude.{◌≡◌, ℕ, ◌<◌, length}
use Rattle.mcs_refills.specs.laws.Spacing.{IsSpaced}
use Rattle.mcs_control.specs.declared.config.Kind.TheVariants.{Sporadic}
use Rattle.mcs_control.specs.Control.{kind_of}
use Rattle.mcs_system.specs.System.{System, context_part}
use Rattle.mcs_laws.specs.Changes.{taken_by}
use Rattle.mcs_laws.specs.Histories.{History, changes_from, context_before, IsUnordered}
use Rattle.mcs_laws.specs.InForce.{config_in_force}

module _ (system : System) where
  -- two dates that the context's charges take over these moments, one a whole budget after the
  -- other in the list, are at least a period apart. Budget and period are those in force before
  -- these moments
  abbrev pub IsSpacedOver : (context : ℕ) → History system context → ℕ → ℕ → Type 0
  IsSpacedOver context history from moments =
      let config = config_in_force system context from in
      IsSpaced config.budget config.period
      (taken_by system.min_budget (changes_from system context history from moments) (context_before system context from))

  -- this holds for any moments in which no order for the context comes
  abbrev pub ContextsAreSpaced : Type 0
  ContextsAreSpaced =
      (context : ℕ) (history : History system context) → context < length system.contexts
      → kind_of (context_part system context).config ≡ Sporadic →
      (from moments : ℕ) → IsUnordered system context from moments → IsSpacedOver context history from moments
