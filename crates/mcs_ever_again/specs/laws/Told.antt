-- The signals of turns, and the signals under way, by the rows.
use Rattle.std.specs.Prelude.{◌≡◌, ℕ, ◌<◌}
use Rattle.mcs_system.specs.System.{System}
use Rattle.mcs_core.specs.Clock.{clock, world, turn_of, rows_of}
use Rattle.mcs_ever_again.specs.UnderWay.{told_mails, under_way}

module _ (system : System) where
  -- the signals of a core's turn are those of its rows, in the order of the rows
  abbrev pub SignalsAreTold : Type 0
  SignalsAreTold = (c t : ℕ) → c < system.cores → (turn_of system c t).mails ≡ told_mails system (rows_of system c t)

  -- the signals under way before time t are those of the rows before it that arrive at t or later,
  -- in the order in which they were made
  abbrev pub UnderWayIsTold : Type 0
  UnderWayIsTold = (t : ℕ) → (world system t).mails ≡ under_way system t (clock system t).rows
