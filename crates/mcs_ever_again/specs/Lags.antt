-- The lags of a core, in numbers that a program keeps.
use Rattle.std.specs.Prelude.{◌≡◌, ℕ, ◌≤◌, get_or, Option, Some, None}
use Rattle.mcs_core.specs.Core.{Core}
use Rattle.mcs_ever.specs.Later.{Shift, later_core}
use Rattle.mcs_ever_again.specs.declared.image.lags.Lags.{Lags}

-- the shift of a core that is `by` ticks later, with these lags; past the end of their lists a
-- context and a thread are as late as the core
abbrev pub shift_by : ℕ → Lags → Shift
shift_by by lags =
    record {
      by = by;
      contexts = λ context. get_or lags.contexts context by;
      threads = λ thread. get_or lags.threads thread by;
      rounds = λ thread. get_or lags.rounds thread 0;
    }

-- the core `after` is the core `before`, later by this shift, and no context is later than the core
pub record IsCoreLater (shift : Shift) (before after : Core) : Type 0 where
  pub lags : (context : ℕ) → shift.contexts context ≤ shift.by
  pub same : after ≡ later_core shift before

-- lags with which the core is `by` ticks later; `None` if it is so by no shift
abbrev pub TellsLags : Option Lags → ℕ → Core → Core → Type 0
TellsLags None by before after = (shift : Shift) → shift.by ≡ by → ¬ IsCoreLater shift before after
TellsLags (Some lags) by before after = IsCoreLater (shift_by by lags) before after
