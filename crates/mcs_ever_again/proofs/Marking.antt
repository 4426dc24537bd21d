-- The marked dates of a group's threads keep up.
use Rattle.std.proofs.Common.{◌≡◌, ℕ, ◌<◌, Bool, true, List, length, get_or, Option}
use Rattle.mcs_system.specs.System.{System}
use Rattle.mcs_ever.specs.Closed.{has}
use Rattle.mcs_ever.specs.Marks.{no_mark, MarkedKeepUp}
use Rattle.mcs_ever.specs.declared.marks.Mark.{Mark}
use Rattle.mcs_ever_again.specs.declared.image.lags.Lags.{Lags}
use Rattle.mcs_ever_again.specs.Told.{shift_told, OwnKeepsUp}

module _ (system : System) (by : ℕ) (group : List Bool) (lags : List (Option Lags)) where
  pub marked-keep-up : (marks : List Mark) →
      ((thread : ℕ) → thread < length system.threads → OwnKeepsUp system by group lags (get_or marks thread no_mark) thread) →
      (core : ℕ) → has group core ≡ true → MarkedKeepUp system core (shift_told by lags core) marks
  marked-keep-up marks all core own = record {
    contexts = λ thread held. (all thread held.known core held.home own).context;
    rounds = λ thread held. (all thread held.known core held.home own).round;
  }
