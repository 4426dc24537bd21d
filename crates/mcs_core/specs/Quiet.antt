-- Turns that only count a tick, and the moment of the next one that does more.
use Rattle.std.specs.Prelude.{◌≡◌, ℕ, zero, suc, ◌+◌, ◌<◌, ◌≤◌, ◌^◌, Option, Some, None, List, []}
use Rattle.mcs_ticks.specs.Queue.{Discipline, in_one_list}
use Rattle.mcs_mail.specs.declared.mail.Mail.{Mail}
use Rattle.mcs_mail.specs.Box.{arriving}
use Rattle.mcs_system.specs.System.{System}
use Rattle.mcs_core.specs.Core.{Core}
use Rattle.mcs_core.specs.declared.standing.Chosen.{Chosen}
use Rattle.mcs_core.specs.Turn.{turn_with, silent, counts}
use Rattle.mcs_core.specs.Run.{ran_with}

module _ (system : System) (c : ℕ) where
  abbrev pub counted_of : Option Chosen → Core → Core
  counted_of None core = core
  counted_of (Some chosen) core = counts chosen core

  -- one more tick was used, if a thread runs
  abbrev pub counted : Core → Core
  counted core = counted_of core.running core

  abbrev pub counted_times : ℕ → Core → Core
  counted_times zero core = core
  counted_times (suc n) core = counted (counted_times n core)

-- with the ready threads kept by this discipline
module _ (queue : Discipline) (system : System) (c : ℕ) where
  -- the turn makes no row and no signal, and changes nothing but by counting the tick
  abbrev pub IsQuietWith : ℕ → List Mail → Core → Type 0
  IsQuietWith t mails core = turn_with queue system c t mails core ≡ silent (counted system c core)

  -- from the clock on, this many turns are quiet
  abbrev pub AreQuietWith : ℕ → List Mail → Core → ℕ → Type 0
  AreQuietWith clock box core many =
      (n : ℕ) → n < many → IsQuietWith (clock + n) (arriving (clock + n) box) (counted_times system c n core)

  -- the next busy moment: the first whose turn is not quiet; `None` if all turns up to 2^42 are
  -- quiet
  abbrev pub IsNextBusyWith : ℕ → List Mail → Core → Option ℕ → Type 0
  IsNextBusyWith clock box core (Some moment) =
      (n : ℕ)
      × (moment ≡ clock + n)
      × (moment ≤ 2 ^ 42)
      × AreQuietWith clock box core n
      × (¬ IsQuietWith moment (arriving moment box) (counted_times system c n core))
  IsNextBusyWith clock box core None =
      (n : ℕ) → clock + n ≤ 2 ^ 42 → IsQuietWith (clock + n) (arriving (clock + n) box) (counted_times system c n core)

-- with the ready threads in one list, as on the clock
module _ (system : System) (c : ℕ) where
  abbrev pub IsQuiet : ℕ → List Mail → Core → Type 0
  IsQuiet t mails core = IsQuietWith in_one_list system c t mails core

  abbrev pub AreQuiet : ℕ → List Mail → Core → ℕ → Type 0
  AreQuiet clock box core many = AreQuietWith in_one_list system c clock box core many

  abbrev pub IsNextBusy : ℕ → List Mail → Core → Option ℕ → Type 0
  IsNextBusy clock box core next = IsNextBusyWith in_one_list system c clock box core next

-- for each discipline, quiet turns make no row and no signal, leave the box unchanged, and count
-- their ticks
abbrev pub OnlyCount : Type 0
OnlyCount =
    (queue : Discipline) (system : System) (c n clock : ℕ) (core : Core) (box : List Mail) →
    AreQuietWith queue system c clock box core n →
    ran_with queue system c n clock core box
    ≡ record { core = counted_times system c n core; rows = []; mails = []; box = box }
