-- Sets of origins that were worked by hand.
use Rattle.std.specs.Prelude.{◌≡◌, ℕ, ◌^◌, List, [], ◌∷◌, refl}
use Rattle.mcs_origins.specs.declared.mark.Mark.{Mark}
use Rattle.mcs_origins.specs.declared.stretch.Stretch.{Stretch}
use Rattle.mcs_origins.specs.declared.taking.Taking.TheVariants.{First, Later}
use Rattle.mcs_origins.specs.Later.{later_set}
use Rattle.mcs_origins.specs.Sets.{given, join, taken, without}
use Rattle.mcs_origins.specs.stored.Stretches.{all_of, flat}

abbrev mark : ℕ → ℕ → Mark
mark origin places = record { origin = origin; places = places }

abbrev three : List Mark
three = mark 9 1 ∷ mark 7 4 ∷ mark 5 6 ∷ []

-- an origin of both sets is at the places of both
both_sets : join (mark 9 1 ∷ mark 5 2 ∷ []) (mark 7 4 ∷ mark 5 1 ∷ mark 3 1 ∷ []) ≡ mark 9 1 ∷ mark 7 4 ∷ mark 5 3 ∷ mark 3 1 ∷ []
both_sets = refl

with_no_set : join three [] ≡ three
with_no_set = refl

-- a signal of badge 8 carries what is at bit 1 or 2
a_signal : given 3 8 three ≡ mark 9 8 ∷ mark 5 8 ∷ []
a_signal = refl

-- a first wait with something to do for the bits 1 and 2
first_wait : taken (First 3) three ≡ mark 9 1 ∷ mark 5 2 ∷ []
first_wait = refl

-- a later wait, in the handler of bit 2 and in no handler
later_wait : taken (Later 2) three ≡ mark 9 2 ∷ mark 7 2 ∷ mark 5 2 ∷ []
later_wait = refl

in_no_handler : taken (Later (2 ^ 32)) (mark 9 1 ∷ []) ≡ mark 9 (2 ^ 32) ∷ []
in_no_handler = refl

-- two of these moments are no origins of the set
answered : without (8 ∷ 7 ∷ 6 ∷ []) three ≡ mark 9 1 ∷ mark 5 6 ∷ []
answered = refl

ten_ticks_later : later_set 10 three ≡ mark 19 1 ∷ mark 17 4 ∷ mark 15 6 ∷ []
ten_ticks_later = refl

-- three origins, 10 ticks apart
abbrev spaced : Stretch
spaced = record { last = 30; places = 1; step = 10; more = 2 }

three_apart : all_of spaced ≡ mark 30 1 ∷ mark 20 1 ∷ mark 10 1 ∷ []
three_apart = refl

-- the later stretch comes last, and its origins come first
two_stretches : flat (spaced ∷ record { last = 37; places = 2; step = 0; more = 0 } ∷ []) ≡ mark 37 2 ∷ mark 30 1 ∷ mark 20 1 ∷ mark 10 1 ∷ []
two_stretches = refl
