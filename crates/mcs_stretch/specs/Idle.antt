-- Idle time: all cores only count ticks until a moment, whatever the clock of each is.
use Rattle.std.specs.Prelude.{◌≡◌, ℕ, ◌+◌, ◌-◌, ◌<◌, ◌≤◌, max, List, [], slice_index}
use Rattle.mcs_system.specs.System.{System}
use Rattle.mcs_core.specs.Clock.{world, core_at}
use Rattle.mcs_core.specs.Quiet.{AreQuiet, counted_times}
use Rattle.mcs_stretch.specs.Inbox.{inbox, signals_between}
use Rattle.mcs_stretch.specs.Stretch.{NothingArrivesBefore, rows_between}

module _ (system : System) where
  -- no signal that another core has yet to make arrives at a core before its clock
  abbrev pub AreReached : List ℕ → Type 0
  AreReached clocks = (c : ℕ) → c < system.cores → NothingArrivesBefore system c (slice_index clocks c) clocks

  -- core c, with its inbox by the clocks, only counts ticks from its clock to before the moment;
  -- this is void if its clock is not before the moment
  abbrev pub IsIdle : List ℕ → ℕ → ℕ → Type 0
  IsIdle clocks moment c =
      let clock = slice_index clocks c in
      AreQuiet system c clock (inbox system c clock clocks) (core_at system (world system clock) c) (moment - clock)

  abbrev pub AreIdle : List ℕ → ℕ → Type 0
  AreIdle clocks moment = (c : ℕ) → c < system.cores → IsIdle clocks moment c

  -- the moment until which the cores are idle: the first at which one of them does more than count
  -- a tick, at most `past`
  pub record IsIdleUntil (clocks : List ℕ) (past moment : ℕ) : Type 0 where
    pub in_time : moment ≤ past
    pub idle : AreIdle clocks moment
    pub busy : moment < past → ¬ AreIdle clocks (moment + 1)

  -- all earlier clocks are set to the moment, and the others stay
  abbrev pub AreSet : List ℕ → ℕ → List ℕ → Type 0
  AreSet clocks moment later = (c : ℕ) → c < system.cores → slice_index later c ≡ max (slice_index clocks c) moment

  -- core c only counts ticks from its clock to its later one: it makes no row and no signal, and
  -- its inbox is unchanged
  pub record OnlyCounts (clocks later : List ℕ) (c : ℕ) : Type 0 where
    pub reached : NothingArrivesBefore system c (slice_index later c) later
    pub core_is : core_at system (world system (slice_index later c)) c
        ≡ counted_times system c (slice_index later c - slice_index clocks c)
        (core_at system (world system (slice_index clocks c)) c)
    pub no_rows : rows_between system c (slice_index clocks c) (slice_index later c) ≡ []
    pub no_signals : signals_between system c (slice_index clocks c) (slice_index later c) ≡ []
    pub same_mail : inbox system c (slice_index later c) later ≡ inbox system c (slice_index clocks c) clocks

  -- if each core alone is idle until a moment, the whole world is: all clocks may be set to that
  -- moment at once
  abbrev pub IdleTimePasses : Type 0
  IdleTimePasses =
      (clocks later : List ℕ) (moment : ℕ) → AreReached clocks → AreIdle clocks moment → AreSet clocks moment later →
      (c : ℕ) → c < system.cores → OnlyCounts clocks later c
