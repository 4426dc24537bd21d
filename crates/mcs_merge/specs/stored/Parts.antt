-- The order of parts, the next core, and the rows that are given.
use Rattle.std.specs.Prelude.{◌≡◌, ◌⊎◌, ℕ, Bool, ◌+◌, ◌<◌, ◌≤◌, List, [], ◌∷◌, ◌++◌, length, All, Option, Some, None, IfSome, IsSome}
use Rattle.mcs_ticks.specs.declared.row.Row.{Row}
use Rattle.mcs_ticks.specs.Given.{Given, GivenUntil}
use Rattle.mcs_merge.specs.Merge.{merged_before, DoNotFall}
use Rattle.mcs_merge.specs.Parts.{all_from, first_of, parts_of, AreHeld, Hold}
use Rattle.mcs_merge.specs.declared.heads.Head.{Head}
use Rattle.mcs_merge.specs.stored.Heads.{far, head_at, head_of_next}

-- all rows are of this moment
abbrev pub AreAt : ℕ → List Row → Type 0
AreAt t [] = Unit {0}
AreAt t (row ∷ rows) = (row.moment ≡ t) × AreAt t rows

module _ {P : Type 0} where
  -- how many moments are left in all parts
  abbrev pub left_of : (P → ℕ) → List P → ℕ
  left_of left [] = 0
  left_of left (part ∷ parts) = left part + left_of left parts

  abbrev pub left_of_all : (P → ℕ) → List (List P) → ℕ
  left_of_all left [] = 0
  left_of_all left (parts ∷ cores) = left_of left parts + left_of_all left cores

module _ {P : Type 0} (first : P → Option ℕ) where
  -- no part follows an empty front
  abbrev pub IsInLine : List P → Type 0
  IsInLine [] = Unit {0}
  IsInLine (front ∷ later) = first front ≡ None → later ≡ []

  -- no part after the front is empty, and if the front is empty no part follows it; the spare is
  -- empty
  pub record AreInLine (front : P) (later : List P) (spare : Option P) : Type 0 where
    pub behind : All (λ part. IsSome (first part)) later
    pub in_line : IsInLine (front ∷ later)
    pub unused : IfSome spare (λ part. first part ≡ None)

  -- all parts are unchanged, or the first one was empty and is gone
  abbrev pub GoesOn : List P → List P → Type 0
  GoesOn [] after = after ≡ []
  GoesOn (front ∷ later) after = (after ≡ front ∷ later) ⊎ ((first front ≡ None) × (after ≡ later))

  -- the head of each core has the first moment of its parts, in which no part follows an empty
  -- front; heads of no core are far
  pub record AreNext (cores : List (List P)) (heads : List Head) : Type 0 where
    pub few : length cores ≤ 64
    pub enough : length cores ≤ length heads
    pub each : (core : ℕ) → core < length cores → head_at core heads ≡ head_of_next core (first_of first (parts_of core cores))
    pub others : (i : ℕ) → length cores ≤ i → i < length heads → head_at i heads ≡ far
    pub in_line : (core : ℕ) → core < length cores → IsInLine (parts_of core cores)

  -- the first moment of this core is before `until`, not later than that of any core, and earlier
  -- than those of lower cores
  pub record IsNextCore (cores : List (List P)) (until core : ℕ) : Type 0 where
    pub within : core < length cores
    pub moment : ℕ
    pub is : first_of first (parts_of core cores) ≡ Some moment
    pub before : moment < until
    pub least : (d : ℕ) → d < length cores → IfSome (first_of first (parts_of d cores)) (λ other. moment ≤ other)
    pub lower : (d : ℕ) → d < core → IfSome (first_of first (parts_of d cores)) (λ other. moment < other)

  -- no core has a moment before `until`
  abbrev pub NoneBefore : List (List P) → ℕ → Type 0
  NoneBefore cores until =
      (d : ℕ) → d < length cores → IfSome (first_of first (parts_of d cores)) (λ other. until ≤ other)

module _ {O : Type 0} {P : Type 0} (takes : O → Row → Bool → O → Type 0) (holds : O → P → List Row → Type 0) where
  -- the first of these rows, all of moment t, were given, and the parts hold the others
  pub record Pours (t : ℕ) (rows : List Row) (before after : O) (parts : List P) : Type 0 where
    pub now : List Row
    pub rest : List Row
    pub split : rows ≡ now ++ rest
    pub at : AreAt t now
    pub given : Given takes before now after
    pub left : Hold holds after parts rest

  -- one of the first of these rows, all of moment t, was refused
  pub record IsRefused (t : ℕ) (rows : List Row) (before after : O) : Type 0 where
    pub now : List Row
    pub rest : List Row
    pub split : rows ≡ now ++ rest
    pub at : AreAt t now
    pub given : GivenUntil takes before now after

  -- a part of the rows before `until` was given: the parts hold the rest, and giving the rest
  -- before `until` completes the merge
  pub record IsPouring (until : ℕ) (lists : List (List Row)) (before out : O) (cores : List (List P)) : Type 0 where
    pub left : List (List Row)
    pub in_order : All DoNotFall left
    pub held : AreHeld holds out cores left
    pub from : all_from until left ≡ all_from until lists
    pub goes_on : (after : O) → Given takes out (merged_before until left) after → Given takes before (merged_before until lists) after
    pub stops : (after : O) → GivenUntil takes out (merged_before until left) after → GivenUntil takes before (merged_before until lists) after

  -- this holds for any lists that the parts held at first
  pub record ArePouring (until : ℕ) (before out : O) (cores now : List (List P)) : Type 0 where
    pub long : length now ≡ length cores
    pub pouring : (lists : List (List Row)) → All DoNotFall lists → AreHeld holds before cores lists → IsPouring until lists before out now

  -- for any lists that the parts held, some rows were given, and then one was refused
  abbrev pub IsStopped : ℕ → O → O → List (List P) → Type 0
  IsStopped until before after cores =
      (lists : List (List Row)) → All DoNotFall lists → AreHeld holds before cores lists → GivenUntil takes before (merged_before until lists) after
