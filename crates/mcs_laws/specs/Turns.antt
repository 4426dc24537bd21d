-- Worlds, rows and signals from the turns of single cores.
use Rattle.std.specs.Prelude.{◌≡◌, ℕ, suc, ◌<◌, ◌≤◌, Bool, not, nat_lt, ◌&&◌, List, ◌++◌, filter, flat_map}
use Rattle.std.specs.List.{range_with_len}
use Rattle.mcs_mail.specs.declared.mail.Mail.{Mail}
use Rattle.mcs_system.specs.System.{System, note_part}
use Rattle.mcs_core.specs.Clock.{clock, world, core_at, turn_of, rows_of, arrives_at}

module _ (system : System) where
  -- the cores, in rising order
  abbrev pub cores : List ℕ
  cores = range_with_len 0 system.cores

  -- core c of the world after moment t is the core of its turn at t
  abbrev pub CoresAreOfTurns : Type 0
  CoresAreOfTurns = (t c : ℕ) → c < system.cores → core_at system (world system (suc t)) c ≡ (turn_of system c t).core

  -- the rows of a moment are those of the turns, in order of the cores
  abbrev pub RowsAreOfTurns : Type 0
  RowsAreOfTurns =
      (t : ℕ) → (clock system (suc t)).rows ≡ (clock system t).rows ++ flat_map (λ c. rows_of system c t) cores

  -- the signals of all turns before moment `past`, in order of making
  abbrev pub sent_at : ℕ → List Mail
  sent_at t = flat_map (λ c. (turn_of system c t).mails) cores

  abbrev pub sent_before : ℕ → List Mail
  sent_before past = flat_map sent_at (range_with_len 0 past)

  -- whether a turn before moment `past` took the signal: it arrived before, on a core that exists
  abbrev pub was_taken : ℕ → Mail → Bool
  was_taken past mail = nat_lt mail.arrives past && nat_lt (note_part system mail.note).core system.cores

  -- the signals under way before moment t are those that the turns before t sent and no turn took,
  -- in order of making
  abbrev pub SignalsAreOfTurns : Type 0
  SignalsAreOfTurns = (t : ℕ) → (world system t).mails ≡ filter (λ mail. not (was_taken t mail)) (sent_before t)

  -- those that arrive on core c at a moment that has not passed are those that were sent there
  abbrev pub ArrivalsAreOfTurns : Type 0
  ArrivalsAreOfTurns =
      (t moment c : ℕ) → t ≤ moment →
      filter (arrives_at system moment c) (world system t).mails ≡ filter (arrives_at system moment c) (sent_before t)
