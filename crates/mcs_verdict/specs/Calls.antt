-- The wait with which a script begins, and which of its words leave the thread something to do.
use Rattle.std.specs.Prelude.{ℕ, Bool, true, ◌==◌, ◌&&◌, not, if◌then◌else◌, bit_and, bit_or, List, [], ◌∷◌, drop, Option, Some, None}
use Rattle.std.specs.List.{slice_get}
use Rattle.mcs_script.specs.declared.item.Item.{Item}
use Rattle.mcs_script.specs.declared.item.Item.TheVariants.{Wait}
use Rattle.mcs_script.specs.Script.{badges_in, ends_handler}
use Rattle.mcs_system.specs.declared.part.ThreadPart.{ThreadPart}

abbrev pub waited_on : Option Item → Option ℕ
waited_on (Some (Wait note)) = Some note
waited_on _ = None

-- the notification of the wait with which the script begins, if it begins with one
abbrev pub first_wait : ThreadPart → Option ℕ
first_wait part = waited_on (slice_get part.script 0)

-- whether a word leaves something to do: it has one of these bits, or bits is None
abbrev pub calls : Option ℕ → ℕ → Bool
calls None word = true
calls (Some bits) word = not (bit_and word bits == 0)

-- whether a word is not 0 and leaves something to do
abbrev pub is_set : Option ℕ → ℕ → Bool
is_set bits word = not (word == 0) && calls bits word

-- the badges of a handler that begins here
abbrev pub badges_at : Option Item → ℕ
badges_at None = 0
badges_at (Some item) = badges_in item

-- these badges, and those of the handlers among these items that have an item
abbrev pub handled : ℕ → List Item → ℕ
handled bits [] = bits
handled bits (item ∷ items) = handled (if ends_handler (slice_get items 0) then bits else bit_or bits (badges_in item)) items

-- The bits that leave something to do after the first item, a wait: a word needs one of them. If
-- every word leaves something to do, this is None.
abbrev pub called_for : List Item → Option ℕ
called_for items = if ends_handler (slice_get items 1) then Some (handled 0 (drop 1 items)) else None

abbrev pub bits_of : ThreadPart → Option ℕ
bits_of part = called_for part.script

-- the words that leave something to do to at least one of two threads
abbrev pub either : Option ℕ → Option ℕ → Option ℕ
either None others = None
either (Some bits) None = None
either (Some bits) (Some others) = Some (bit_or bits others)
