-- Which cores signal which, by the scripts read so far, and sets that have each maker of their
-- cores.
use Rattle.std.specs.Prelude.{◌≡◌, ℕ, ◌<◌, ◌⊎◌, Bool, true, false, List, [], length, get_or, set, Option, Some, None}
use Rattle.std.specs.List.{slice_get}
use Rattle.mcs_script.specs.declared.item.Item.{Item}
use Rattle.mcs_script.specs.declared.item.Item.TheVariants.{Compute, Signal, Wait, Yield, On, Spin, Enter, Leave}
use Rattle.mcs_system.specs.System.{System, thread_part, note_part, core_of}
use Rattle.mcs_laws.specs.Links.{Signals}
use Rattle.mcs_ever.specs.Closed.{has}

-- whether `maker` is one of the home's makers
abbrev pub is_maker : List (List Bool) → ℕ → ℕ → Bool
is_maker makers maker home = has (get_or makers home []) maker

-- with one more maker
abbrev pub with_maker : List (List Bool) → ℕ → ℕ → List (List Bool)
with_maker makers home maker = set makers home (set (get_or makers home []) maker true)

-- the home of the notification that an item signals
abbrev pub home_signalled : System → Option Item → Option ℕ
home_signalled system (Some (Signal note badge)) = Some (note_part system note).core
home_signalled system (Some (Compute ticks)) = None
home_signalled system (Some (Wait note)) = None
home_signalled system (Some Yield) = None
home_signalled system (Some (On badges)) = None
home_signalled system (Some Spin) = None
home_signalled system (Some (Enter server priority)) = None
home_signalled system (Some (Leave server priority)) = None
home_signalled system None = None

-- for each home a set of cores that signal it. It has all that do so by the scripts of the threads
-- below number n or by the items of thread n below number i
pub record AreMakersUntil (system : System) (n i : ℕ) (makers : List (List Bool)) : Type 0 where
  pub many : length makers ≡ system.cores
  pub sizes : (home : ℕ) → home < system.cores → length (get_or makers home []) ≡ 64
  pub signal : (maker home : ℕ) → is_maker makers maker home ≡ true → Signals system maker home
  pub all : (thread place note badge : ℕ) → thread < length system.threads →
      slice_get (thread_part system thread).script place ≡ Some (Signal note badge) → (thread < n) ⊎ ((thread ≡ n) × (place < i)) →
      is_maker makers (core_of system (thread_part system thread)) (note_part system note).core ≡ true

-- by all scripts
abbrev pub AreMakers : System → List (List Bool) → Type 0
AreMakers system makers = AreMakersUntil system (length system.threads) 0 makers

-- the set has all cores of `some`
abbrev pub Has : List Bool → List Bool → Type 0
Has set some = (core : ℕ) → has some core ≡ true → has set core ≡ true

-- this core of `some` is not in the set
pub record IsMissing (set some : List Bool) (core : ℕ) : Type 0 where
  pub few : core < 64
  pub there : has some core ≡ true
  pub missing : has set core ≡ false

-- whether a group has each maker of its cores
abbrev pub HasMakers : List (List Bool) → (ℕ → Bool) → Type 0
HasMakers makers group = (maker home : ℕ) → is_maker makers maker home ≡ true → group home ≡ true → group maker ≡ true

-- whether a set has each maker of its cores
abbrev pub NoneIsOutside : List (List Bool) → List Bool → Type 0
NoneIsOutside makers set = HasMakers makers (has set)

-- this core is not in the set, and signals one that is
pub record IsOutside (makers : List (List Bool)) (set : List Bool) (maker : ℕ) : Type 0 where
  pub few : maker < 64
  pub missing : has set maker ≡ false
  pub home : ℕ
  pub inside : has set home ≡ true
  pub signals : is_maker makers maker home ≡ true

-- the set is within each group that has `core` and the makers of its cores
pub record IsWithin (makers : List (List Bool)) (core : ℕ) (set : List Bool) : Type 0 where
  pub many : length set ≡ 64
  pub own : has set core ≡ true
  pub least : (group : ℕ → Bool) → HasMakers makers group → group core ≡ true → (c : ℕ) → has set c ≡ true → group c ≡ true

-- the set is the smallest such group
pub record IsLeastFor (makers : List (List Bool)) (core : ℕ) (set : List Bool) : Type 0 where
  pub within : IsWithin makers core set
  pub whole : NoneIsOutside makers set
