-- What a thread may carry of a chain's origins on its way through its script. A place is a bit of a word, 1 to 2^31, or a thread's
-- free set, 2^32. `words` has for each notification the bits at which its word may have an origin.
use Rattle.std.specs.Prelude.{ℕ, Bool, ◌==◌, not, if◌then◌else◌, bit_and, bit_or, List, [], ◌∷◌, drop, fold, get_or, slice_set, Option, Some, None}
use Rattle.mcs_script.specs.declared.item.Item.{Item}
use Rattle.mcs_script.specs.declared.item.Item.TheVariants.{Signal, Wait, On}
use Rattle.mcs_system.specs.declared.part.ThreadPart.{ThreadPart}
use Rattle.mcs_verdict.specs.Calls.{first_wait}
use Rattle.mcs_chain.specs.Moves.{called_bits, free, reach}
use Rattle.mcs_hints.specs.declared.carried.Carried.{Carried}

-- what the first item takes, if it waits: the origins at bits that leave the thread something to do
abbrev pub taken_first : List ℕ → ThreadPart → Option ℕ → ℕ
taken_first words part None = 0
taken_first words part (Some note) = bit_and (get_or words note 0) (called_bits part)

-- behind the first item
abbrev pub carried_first : List ℕ → ThreadPart → Carried
carried_first words part = record { handler = 0; places = taken_first words part (first_wait part) }

-- the places at which a later wait in this handler gives what it takes; outside of handlers the free set
abbrev pub places_in : ℕ → ℕ
places_in handler = if handler == 0 then free else handler

-- behind a later item: a wait whose word may have an origin adds its places
abbrev pub carried_behind : List ℕ → Item → Carried → Carried
carried_behind words (On badges) carried = record carried { handler = badges }
carried_behind words (Wait note) carried =
    if get_or words note 0 == 0 then carried else record carried { places = bit_or carried.places (places_in carried.handler) }
carried_behind words _ carried = carried

-- behind the last item
abbrev pub carried_last : List ℕ → ThreadPart → Carried
carried_last words part = fold (λ carried item. carried_behind words item carried) (carried_first words part) (drop 1 part.script)

-- whether the thread may have an origin where badges reach: at one of their bits, or in the free set
abbrev pub is_in_reach : ℕ → Carried → Bool
is_in_reach badges carried = not (bit_and carried.places (reach badges) == 0)

-- with the bits of a badge at a notification
abbrev pub posted : ℕ → ℕ → List ℕ → List ℕ
posted note badge words = slice_set words note (bit_or (get_or words note 0) badge)

-- the words after an item, which posts its badge if it is a signal that may carry an origin
abbrev pub with_signal : Carried → Item → List ℕ → List ℕ
with_signal carried (Signal note badge) words = if is_in_reach carried.handler carried then posted note badge words else words
with_signal carried _ words = words

-- and after these items, of which the first one is not the script's first
abbrev pub with_signals : Carried → List Item → List ℕ → List ℕ
with_signals carried [] words = words
with_signals carried (item ∷ items) words = with_signals (carried_behind words item carried) items (with_signal carried item words)

-- and after a script
abbrev pub with_script : List ℕ → ThreadPart → List ℕ
with_script words part = with_signals (carried_first words part) (drop 1 part.script) words
