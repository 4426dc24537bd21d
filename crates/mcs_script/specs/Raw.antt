-- The item of a text.
use Rattle.std.specs.Prelude.{◌≡◌, ℕ, ◌+◌, ◌-◌, ◌*◌, ◌^◌, Bool, ◌&&◌, not, ◌==◌, nat_eq, nat_le, true, false, if◌then◌else◌, List, [], ◌∷◌, filter, fold, codes, Result, Ok, Err, Option, Some, None, MatchResult}
use Rattle.std.specs.List.{slice_split}
use Rattle.std.specs.Str.{all_ascii_digits}
use Rattle.std.specs.Cmp.Lexicographic.{pointwise}
use Rattle.mcs_script.specs.declared.fault.ItemFault.{ItemFault}
use Rattle.mcs_script.specs.declared.fault.ItemFault.TheVariants.{UnknownWord, MissingPart, ExtraPart, BadNumber}
use Rattle.mcs_script.specs.declared.raw.RawItem.{RawItem}
use Rattle.mcs_script.specs.declared.raw.RawItem.TheVariants as code

-- an item with names as written
pub data Raw : Type 0 where
  Compute : ℕ → Raw
  Signal : List ℕ → ℕ → Raw
  Wait : List ℕ → Raw
  Yield : Raw
  On : ℕ → Raw
  Call : List ℕ → ℕ → Raw
  Spin : Raw

abbrev pub raw_view : RawItem → Raw
raw_view (code.Compute ticks) = Compute ticks
raw_view (code.Signal note badge) = Signal note.now badge
raw_view (code.Wait note) = Wait note.now
raw_view code.Yield = Yield
raw_view (code.On badges) = On badges
raw_view (code.Call server badge) = Call server.now badge
raw_view code.Spin = Spin

abbrev pub is_empty : List ℕ → Bool
is_empty [] = true
is_empty (c ∷ text) = false

-- the parts of a text between its spaces
abbrev pub parts : List ℕ → List (List ℕ)
parts text = filter (λ part. not (is_empty part)) (slice_split (λ c. c == 32) text)

-- decimal digits; the first is not 0
abbrev pub is_numeral : List ℕ → Bool
is_numeral [] = false
is_numeral (first ∷ digits) = not (first == 48) && all_ascii_digits (first ∷ digits)

abbrev pub value_of : List ℕ → ℕ
value_of digits = fold (λ value digit. 10 * value + (digit - 48)) 0 digits

-- a number from 1 to `most`
abbrev pub number_up_to : ℕ → List ℕ → Option ℕ
number_up_to most digits =
    if is_numeral digits && (nat_le 1 (value_of digits) && nat_le (value_of digits) most) then Some (value_of digits)
    else None

-- the item with this number, or a fault
abbrev pub with_number : (ℕ → Raw) → Option ℕ → Result Raw ItemFault
with_number item None = Err BadNumber
with_number item (Some number) = Ok (item number)

-- the parts after the word of each item
abbrev pub compute_of : List (List ℕ) → Result Raw ItemFault
compute_of [] = Err MissingPart
compute_of (ticks ∷ []) = with_number Compute (number_up_to (2 ^ 40) ticks)
compute_of (ticks ∷ extra ∷ others) = Err ExtraPart

abbrev pub signal_of : List (List ℕ) → Result Raw ItemFault
signal_of [] = Err MissingPart
signal_of (note ∷ []) = Err MissingPart
signal_of (note ∷ badge ∷ []) = with_number (Signal note) (number_up_to (2 ^ 32 - 1) badge)
signal_of (note ∷ badge ∷ extra ∷ others) = Err ExtraPart

abbrev pub wait_of : List (List ℕ) → Result Raw ItemFault
wait_of [] = Err MissingPart
wait_of (note ∷ []) = Ok (Wait note)
wait_of (note ∷ extra ∷ others) = Err ExtraPart

abbrev pub yield_of : List (List ℕ) → Result Raw ItemFault
yield_of [] = Ok Yield
yield_of (extra ∷ others) = Err ExtraPart

abbrev pub on_of : List (List ℕ) → Result Raw ItemFault
on_of [] = Err MissingPart
on_of (badges ∷ []) = with_number On (number_up_to (2 ^ 32 - 1) badges)
on_of (badges ∷ extra ∷ others) = Err ExtraPart

abbrev pub call_of : List (List ℕ) → Result Raw ItemFault
call_of [] = Err MissingPart
call_of (server ∷ []) = Err MissingPart
call_of (server ∷ badge ∷ []) = with_number (Call server) (number_up_to (2 ^ 32 - 1) badge)
call_of (server ∷ badge ∷ extra ∷ others) = Err ExtraPart

abbrev pub spin_of : List (List ℕ) → Result Raw ItemFault
spin_of [] = Ok Spin
spin_of (extra ∷ others) = Err ExtraPart

abbrev pub is_text : List ℕ → List ℕ → Bool
is_text word text = pointwise nat_eq word text

-- the first part is the word of the item
abbrev pub item_of : List (List ℕ) → Result Raw ItemFault
item_of [] = Err UnknownWord
item_of (word ∷ others) =
    if is_text word (codes "compute") then compute_of others
    else if is_text word (codes "signal") then signal_of others
    else if is_text word (codes "wait") then wait_of others
    else if is_text word (codes "yield") then yield_of others
    else Err UnknownWord

abbrev pub read_as : List ℕ → Result Raw ItemFault
read_as text = item_of (parts text)

-- also with the words of version 3
abbrev pub new_item_of : List (List ℕ) → Result Raw ItemFault
new_item_of [] = Err UnknownWord
new_item_of (word ∷ others) =
    if is_text word (codes "on") then on_of others
    else if is_text word (codes "call") then call_of others
    else if is_text word (codes "spin") then spin_of others
    else item_of (word ∷ others)

abbrev pub read_new_as : List ℕ → Result Raw ItemFault
read_new_as text = new_item_of (parts text)

-- the result of a call is this one
abbrev pub Says : {A B : Type 0} → (A → B) → Result A ItemFault → Result B ItemFault → Type 0
Says view result answer = MatchResult result (λ item. answer ≡ Ok (view item)) (λ fault. answer ≡ Err fault)
