-- The storage of threads that wait for a date. Each has a place, in the order in which they
-- entered, and a number that orders by date and then by place. The only thread of a queue may be
-- stored separately.
use Rattle.std.specs.Prelude.{◌≡◌, ℕ, ◌+◌, ◌*◌, ◌/◌, ◌^◌, ◌<◌, ◌≤◌, ◌==◌, ◌⊎◌, nat_lt, IfSome, if◌then◌else◌, Bool, List, [], ◌∷◌, length, slice_index_or, slice_set, Option, Some, None, option_map}
use Rattle.mcs_ticks.specs.Soonest.{moment_of}
use Rattle.mcs_release.specs.declared.dated.Dated.{Dated}
use Rattle.mcs_release.specs.Release.{dated, earliest, next_date}
use Rattle.mcs_release.specs.stored.Least.{empty, leaves, IsLeast}

-- the entries, without the empty places
abbrev pub entered : List (Option Dated) → List Dated
entered [] = []
entered (None ∷ places) = entered places
entered (Some x ∷ places) = x ∷ entered places

-- the number of a thread in this place that waits for this date
abbrev pub key : ℕ → ℕ → ℕ
key date place = date * 2 ^ 21 + place

-- the date of such a number; `None` for an empty place
abbrev pub date_of : ℕ → Option ℕ
date_of number = moment_of (number / 2 ^ 21)

-- a place with this number and this thread
abbrev pub in_place : ℕ → ℕ → Option Dated
in_place number thread = option_map (dated thread) (date_of number)

-- the places with these numbers and threads
abbrev pub places_of : List ℕ → List ℕ → List (Option Dated)
places_of [] threads = []
places_of (number ∷ numbers) [] = []
places_of (number ∷ numbers) (thread ∷ threads) = in_place number thread ∷ places_of numbers threads

-- a number of this place, or the number of an empty place
abbrev pub IsOfPlace : ℕ → ℕ → Type 0
IsOfPlace place number = (number ≡ empty) ⊎ ((date : ℕ) × (date ≤ 2 ^ 42) × (number ≡ key date place))

abbrev pub AreOfPlaces : List ℕ → Type 0
AreOfPlaces numbers = (place : ℕ) → IsOfPlace place (slice_index_or numbers place empty)

-- a tree over the numbers of the places, with the thread of each
pub record IsStored (inner : ℕ) (nodes threads : List ℕ) : Type 0 where
  pub tree : IsLeast inner nodes
  pub numbered : AreOfPlaces (leaves inner nodes)
  pub wide : length threads ≡ 3 * inner + 1
  pub few : 3 * inner + 1 ≤ 2 ^ 21

-- the places from `end` on are empty
abbrev pub AreEmptyFrom : ℕ → List (Option Dated) → Type 0
AreEmptyFrom end places = (place : ℕ) → end ≤ place → slice_index_or places place None ≡ None

-- the earliest left its place
pub record IsTaken (old new : List (Option Dated)) (thread : ℕ) : Type 0 where
  pub place : ℕ
  pub first : Dated
  pub stood : slice_index_or old place None ≡ Some first
  pub is_earliest : earliest (entered old) ≡ Some first
  pub left : new ≡ slice_set old place None
  pub it : thread ≡ first.thread

-- the lone thread, if any, followed by those of the places
abbrev pub waiting : Option Dated → List (Option Dated) → List Dated
waiting None places = entered places
waiting (Some x) places = x ∷ entered places

-- if there is a lone thread, all places are empty
abbrev pub IsAlone : Option Dated → List (Option Dated) → Type 0
IsAlone None places = Unit {0}
IsAlone (Some x) places = entered places ≡ []

abbrev pub one_if : Bool → ℕ
one_if b = if b then 1 else 0

-- how often a thread occurs among these
abbrev pub times : ℕ → List Dated → ℕ
times thread [] = 0
times thread (x ∷ xs) = (if x.thread == thread then 1 else 0) + times thread xs

-- the number of the spare places, or of the others if there are none
abbrev pub most : ℕ → Option (List (Option Dated)) → ℕ
most count None = count
most count (Some spare) = length spare

-- more than this many threads fit: into the places or, as long as there are spare ones, into those,
-- which are empty; two always fit into the places
pub record AreEnoughFor (count : ℕ) (places : List (Option Dated)) (spare : Option (List (Option Dated))) : Type 0 where
  pub two : 2 ≤ length places
  pub wide : count < most (length places) spare
  pub unused : IfSome spare (AreEmptyFrom 0)

-- as many threads fit as before
abbrev pub AsManyFit : List (Option Dated) → Option (List (Option Dated)) → List (Option Dated) → Option (List (Option Dated)) → Type 0
AsManyFit old spare new spare' = (count : ℕ) → AreEnoughFor count old spare → AreEnoughFor count new spare'

-- the earliest date is known; the places from `end` on are empty; each thread below `room` waits at
-- most once, and no other waits; more than `room` threads fit
pub record IsKept (soonest : Option ℕ) (lone : Option Dated) (places : List (Option Dated)) (spare : Option (List (Option Dated))) (end room : ℕ) : Type 0 where
  pub first : soonest ≡ next_date (waiting lone places)
  pub alone : IsAlone lone places
  pub behind : AreEmptyFrom end places
  pub once : (thread : ℕ) → times thread (waiting lone places) ≤ one_if (nat_lt thread room)
  pub enough : AreEnoughFor room places spare
