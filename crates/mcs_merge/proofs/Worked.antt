-- Merges that are worked by hand.
use Rattle.std.proofs.Common.{◌≡◌, ℕ, true, false, List, [], ◌∷◌, ◌++◌, Some, ◌<◌, ◌≤◌, length, slice_index, lit<, lit≤, refl}
use Rattle.mcs_ticks.specs.declared.row.Row.{Row}
use Rattle.mcs_ticks.specs.declared.row.What.TheVariants as row
use Rattle.mcs_merge.specs.Merge.{merged, merged_before, AreFrom}
use Rattle.mcs_merge.specs.Merging.{Merging, starting, passed, CanAdd, IsListOf}
use Rattle.mcs_merge.specs.Parts.{first_moment, all_from, first_of, poured, Hold}
use Rattle.mcs_merge.specs.stored.Sweep.{Sweep, has, is_at}
use Rattle.mcs_merge.specs.laws.Calls.{Call, Add, Pour, after, taken, MayBeMade}

-- a row of this core at this moment
abbrev at : ℕ → ℕ → ℕ → Row
at moment core thread = record { moment = moment; core = core; what = row.Run thread }

-- of one moment the first core's rows come first, and a core's own rows stay in their order
cores_take_turns :
    merged ((at 0 0 1 ∷ at 3 0 2 ∷ []) ∷ (at 0 1 3 ∷ at 2 1 4 ∷ at 2 1 5 ∷ []) ∷ [] ∷ (at 2 3 6 ∷ at 3 3 7 ∷ []) ∷ [])
    ≡ at 0 0 1 ∷ at 0 1 3 ∷ at 2 1 4 ∷ at 2 1 5 ∷ at 2 3 6 ∷ at 3 0 2 ∷ at 3 3 7 ∷ []
cores_take_turns = refl

-- two cores: what is given while the clocks go on
abbrev first_calls : List Call
first_calls = Add 0 (at 1 0 1 ∷ at 3 0 2 ∷ []) 4 ∷ Pour 0 ∷ Add 1 (at 1 1 3 ∷ []) 2 ∷ Pour 2 ∷ []

abbrev all_calls : List Call
all_calls = first_calls ++ Add 1 [] 5 ∷ Pour 4 ∷ []

-- at one moment the first core's row comes first
both_of_a_moment : taken first_calls (starting 2) ≡ at 1 0 1 ∷ at 1 1 3 ∷ []
both_of_a_moment = refl

-- a clock that advances lets the row of the other core pass
clock_alone : taken all_calls (starting 2) ≡ at 1 0 1 ∷ at 1 1 3 ∷ at 3 0 2 ∷ []
clock_alone = refl

none_is_left : passed (after all_calls (starting 2)) ≡ []
none_is_left = refl

-- of two cores all rows before moment 3 are given at once ..
abbrev two_lists : List (List Row)
two_lists = (at 1 0 1 ∷ at 3 0 2 ∷ []) ∷ (at 1 1 3 ∷ at 2 1 4 ∷ at 4 1 5 ∷ []) ∷ []

given_at_once : merged_before 3 two_lists ≡ at 1 0 1 ∷ at 1 1 3 ∷ at 2 1 4 ∷ []
given_at_once = refl

-- .. and those from it on are left
left_then : all_from 3 two_lists ≡ (at 3 0 2 ∷ []) ∷ (at 4 1 5 ∷ []) ∷ []
left_then = refl

none_has_passed : passed (poured 3 (record { left = two_lists; clocks = 3 ∷ 5 ∷ [] })) ≡ []
none_has_passed = refl

-- rows of a core that lie in two parts, each of them a list
abbrev two_parts : List (List Row)
two_parts = (at 1 0 1 ∷ at 3 0 2 ∷ []) ∷ (at 4 0 3 ∷ []) ∷ []

they_hold : Hold (λ (out : ℕ) (part : List Row) (rows : List Row). part ≡ rows) 0 two_parts (at 1 0 1 ∷ at 3 0 2 ∷ at 4 0 3 ∷ [])
they_hold = (at 1 0 1 ∷ at 3 0 2 ∷ [], at 4 0 3 ∷ [], refl, refl, (at 4 0 3 ∷ [], [], refl, refl, refl))

first_comes_first : first_of first_moment two_parts ≡ Some 1
first_comes_first = refl

-- all of these calls may be made
they_may_be_made : MayBeMade all_calls (starting 2)
they_may_be_made = (
  may (lit< tt) (lit≤ tt) (lit≤ tt, (lit≤ tt, tt)) (record { of_core = (refl, (refl, tt)); in_order = ((lit≤ tt, tt), (tt, tt)); before = (lit< tt, (lit< tt, tt)) }),
  (
    lit≤ tt,
    (
      may (lit< tt) (lit≤ tt) (lit≤ tt, tt) (record { of_core = (refl, tt); in_order = (tt, tt); before = (lit< tt, tt) }),
      (lit≤ tt, (may (lit< tt) (lit≤ tt) tt (record { of_core = tt; in_order = tt; before = tt }), (lit≤ tt, tt))),
    ),
  ),
)
  where
    may : {core clock : ℕ} {rows : List Row} {m : Merging} → core < length m.clocks → slice_index m.clocks core ≤ clock → AreFrom (slice_index m.clocks core) rows → IsListOf core rows clock → CanAdd core rows clock m
    may a b c d = record { is_core = a; no_earlier = b; from_clock = c; is_list = d }

-- cores 0 and 2 are in the second set of a sweep, and the lowest is core 0
in_a_set : (has (0 ∷ 5 ∷ []) 1 0 ≡ true) × (has (0 ∷ 5 ∷ []) 1 1 ≡ false) × (has (0 ∷ 5 ∷ []) 1 2 ≡ true) × (has (0 ∷ 5 ∷ []) 0 2 ≡ false)
in_a_set = (refl, refl, refl, refl)

-- a sweep from moment 10 to before moment 20 that has reached moment 12: the next moments that it
-- still reaches, and their indices
abbrev ten : Sweep
ten = record { sets = 0 ∷ 0 ∷ 5 ∷ []; start = 10; at = 2; end = 20 }

goes_on_to : (is_at ten (Some 12) 2 ≡ true) × (is_at ten (Some 15) 5 ≡ true) × (is_at ten (Some 15) 4 ≡ false) × (is_at ten (Some 11) 1 ≡ false) × (is_at ten (Some 20) 10 ≡ false)
goes_on_to = (refl, refl, refl, refl, refl)
