-- The two ways to keep the ready threads, over whole schedules.
use Rattle.std.specs.Prelude.{◌≡◌, ◌↔◌, ℕ, List, map}
use Rattle.mcs_ticks.specs.Queue.{by_priority, in_one_list}
use Rattle.mcs_system.specs.System.{System}
use Rattle.mcs_mail.specs.declared.mail.Mail.{Mail}
use Rattle.mcs_core.specs.Core.{Core}
use Rattle.mcs_core.specs.Run.{ran, ran_with}
use Rattle.mcs_core.specs.State.{ran_shown}
use Rattle.mcs_core.specs.Quiet.{IsQuiet, IsQuietWith}
use Rattle.mcs_core.specs.Clock.{clock_with, schedule_with, shown}

module _ (system : System) where
  -- the two ways: one list in order of entering, from which the first thread of maximum priority is
  -- taken, or the queue by priority. Both give the same rows, the same signals under way, and the
  -- same cores but for the order of that list
  pub record DisciplinesAgree : Type 0 where
    pub rows : (horizon : ℕ) → schedule_with in_one_list system horizon ≡ schedule_with by_priority system horizon
    pub signals : (t : ℕ) → (clock_with in_one_list system t).world.mails
        ≡ (clock_with by_priority system t).world.mails
    pub cores : (t : ℕ) → map shown (clock_with in_one_list system t).world.cores
        ≡ (clock_with by_priority system t).world.cores

-- the turns of a state are those of each core that keeps one list and that the state shows: the
-- same rows, signals and box, and after them the state shows that core again
abbrev pub RunsAgree : Type 0
RunsAgree =
    (system : System) (c n t : ℕ) (core : Core) (box : List Mail) →
    ran system c n t (shown core) box ≡ ran_shown (ran_with in_one_list system c n t core box)

-- a turn of such a core is quiet exactly if the turn of the shown core is, which has its ready
-- threads by priority
abbrev pub QuietTurnsAgree : Type 0
QuietTurnsAgree =
    (system : System) (c t : ℕ) (mails : List Mail) (core : Core) →
    IsQuiet system c t mails core ↔ IsQuietWith by_priority system c t mails (shown core)
