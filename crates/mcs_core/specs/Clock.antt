-- One clock over all cores: at each moment, each core in rising order takes its turn. Each core has
-- its ready threads in one list in order of entering; the first of maximum priority is chosen.
use Rattle.std.specs.Prelude.{ℕ, zero, suc, Bool, ◌==◌, ◌&&◌, not, List, [], ◌++◌, map, filter, get_or, set, fold}
use Rattle.std.specs.List.{range_with_len}
use Rattle.mcs_ticks.specs.Queue.{Discipline, in_one_list, sorted}
use Rattle.mcs_ticks.specs.declared.row.Row.{Row}
use Rattle.mcs_mail.specs.declared.mail.Mail.{Mail}
use Rattle.mcs_system.specs.System.{System, note_part}
use Rattle.mcs_core.specs.Core.{Core, opening_core}
use Rattle.mcs_core.specs.Turn.{Turn, turn_with, stamped}

-- all cores, and the signals under way, in the order in which they were made
pub record World : Type 0 where
  pub cores : List Core
  pub mails : List Mail

-- the clock so far: the world, and all rows in the order in which they were made
pub record Clock : Type 0 where
  pub world : World
  pub rows : List Row

module _ (system : System) where
  abbrev pub opening_world : World
  opening_world = record { cores = map (opening_core system) (range_with_len 0 system.cores); mails = [] }

  -- core c of a world
  abbrev pub core_at : World → ℕ → Core
  core_at world c = get_or world.cores c (opening_core system c)

  -- whether the signal arrives at t on core c
  abbrev pub arrives_at : ℕ → ℕ → Mail → Bool
  arrives_at t c mail = (mail.arrives == t) && ((note_part system mail.note).core == c)

-- the clock with the ready threads kept by this discipline
module _ (queue : Discipline) (system : System) where
  abbrev pub turn_at_with : ℕ → ℕ → World → Turn
  turn_at_with t c world =
      turn_with queue system c t (filter (arrives_at system t c) world.mails) (core_at system world c)

  -- core c takes its turn at t: the signals that arrive are taken, and those that it makes join
  abbrev pub takes_turn_with : ℕ → Clock → ℕ → Clock
  takes_turn_with t clock c =
      let made = turn_at_with t c clock.world in
      record {
        world = record {
          cores = set clock.world.cores c made.core;
          mails = filter (λ mail. not (arrives_at system t c mail)) clock.world.mails ++ made.mails;
        };
        rows = clock.rows ++ stamped c t made.rows;
      }

  abbrev pub takes_moment_with : ℕ → Clock → Clock
  takes_moment_with t clock = fold (takes_turn_with t) clock (range_with_len 0 system.cores)

  -- the clock before moment t
  abbrev pub clock_with : ℕ → Clock
  clock_with zero = record { world = opening_world system; rows = [] }
  clock_with (suc t) = takes_moment_with t (clock_with t)

  -- all rows of the moments 0 to the horizon
  abbrev pub schedule_with : ℕ → List Row
  schedule_with horizon = (clock_with (suc horizon)).rows

-- the clock
module _ (system : System) where
  abbrev pub clock : ℕ → Clock
  clock t = clock_with in_one_list system t

  -- the world before moment t
  abbrev pub world : ℕ → World
  world t = (clock t).world

  -- the turn of core c at moment t, and its rows
  abbrev pub turn_of : ℕ → ℕ → Turn
  turn_of c t = turn_at_with in_one_list system t c (world t)

  abbrev pub rows_of : ℕ → ℕ → List Row
  rows_of c t = stamped c t (turn_of c t).rows

  abbrev pub schedule : ℕ → List Row
  schedule horizon = schedule_with in_one_list system horizon

-- a core as its state shows it: with the ready threads by priority, first in first out within one
abbrev pub shown : Core → Core
shown core = record core { ready = sorted core.ready }

abbrev pub core_shown : System → World → ℕ → Core
core_shown system world c = shown (core_at system world c)
