-- How soon after a core's clock a signal of it may reach another core.
use Rattle.std.specs.Prelude.{◌≡◌, ℕ, ◌<◌, ◌≤◌, ◌^◌, ◌⊎◌, Option, Some, None, List, length, slice_index, slice_index_or}
use Rattle.mcs_script.specs.declared.item.Item.{Item}
use Rattle.mcs_script.specs.declared.item.Item.TheVariants.{Compute, Signal, Wait, Yield, On, Spin, Enter, Leave}
use Rattle.mcs_system.specs.System.{System, note_part, delay_between}
use Rattle.mcs_laws.specs.Links.{Signals}

-- the home of the notification that an item signals
abbrev pub home_signalled : System → Option Item → Option ℕ
home_signalled system (Some (Signal note badge)) = Some (note_part system note).core
home_signalled system (Some (Compute ticks)) = None
home_signalled system (Some (Wait note)) = None
home_signalled system (Some Yield) = None
home_signalled system (Some (On badges)) = None
home_signalled system (Some Spin) = None
home_signalled system (Some (Enter server priority)) = None
home_signalled system (Some (Leave server priority)) = None
home_signalled system None = None

-- at least the delay, and equal to it if the maker's threads signal the home by their scripts
pub record IsReach (system : System) (maker home : ℕ) (said : Type 0) (reach : ℕ) : Type 0 where
  pub least : delay_between system maker home ≤ reach
  pub most : reach ≤ 2 ^ 41
  pub is_delay : said → reach ≡ delay_between system maker home

-- a signal of the maker's threads for the home, by the scripts of the threads below number n and
-- the items of thread n below number i
pub record SignalsUntil (system : System) (maker home n i : ℕ) : Type 0 where
  pub signal : Signals system maker home
  pub early : (signal.thread < n) ⊎ ((signal.thread ≡ n) × (signal.place < i))

-- for each home such ticks of this maker's signals, by the scripts as far as they were read
abbrev pub AreReachesOf : System → ℕ → ℕ → ℕ → List ℕ → Type 0
AreReachesOf system maker n i row =
    (home : ℕ) → home < 64 → IsReach system maker home (SignalsUntil system maker home n i) (slice_index row home)

-- for each maker, by the scripts of the threads below number n
pub record AreReachesUntil (system : System) (n : ℕ) (rows : List (List ℕ)) : Type 0 where
  pub many_are : length rows ≡ system.cores
  pub each : (maker : ℕ) (x : List ℕ) → maker < system.cores → AreReachesOf system maker n 0 (slice_index_or rows maker x)

-- by all scripts
abbrev pub AreReaches : System → List (List ℕ) → Type 0
AreReaches system rows = AreReachesUntil system (length system.threads) rows

-- for each maker below this number the delays of its signals
pub record AreDelaysFrom (system : System) (many : ℕ) (rows : List (List ℕ)) : Type 0 where
  pub many_are : length rows ≡ many
  pub each : (maker home : ℕ) (x : List ℕ) → maker < many → home < 64 →
      slice_index (slice_index_or rows maker x) home ≡ delay_between system maker home
