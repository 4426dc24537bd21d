-- The tests of a key, a row and an array.
use Rattle.std.specs.Prelude.{ℕ, suc, ℤ, pos, negsuc, Bool, true, false, not, ◌&&◌, nat_le, nat_eq, List, [], ◌∷◌, ◌++◌, length, position, Option, Some, None, is_some, option_and_then}
use Rattle.std.specs.List.{list_any, list_all}
use Rattle.std.specs.Cmp.Lexicographic.{pointwise}
use Rattle.toml.specs.Data.{Data, Items, no_items, item, Members, no_members, member, get_member, as_integer, as_str, as_array, as_table}
use Rattle.mcs_system.specs.Names.{is_name}
use Rattle.mcs_load.specs.declared.at.At.{At}
use Rattle.mcs_load.specs.declared.fault.FaultKind.{FaultKind}
use Rattle.mcs_load.specs.declared.fault.FaultKind.TheVariants.{UnknownKey, MissingKey, WrongKind, OutOfRange, TooMany, BadName, DoubleName}
use Rattle.mcs_load.specs.declared.spot.Key.{Key}
use Rattle.mcs_load.specs.declared.spot.Key.TheVariants as key
use Rattle.mcs_load.specs.declared.spot.Section.{Section}
use Rattle.mcs_load.specs.declared.spot.Spot.{Spot}
use Rattle.mcs_load.specs.Keys.{key_name}
use Rattle.mcs_load.specs.Checks.{Checked, ◌>>=◌, reads, must}

-- the place of a key of a row
abbrev pub spot : At → Key → Spot
spot at key = record { section = at.section; row = at.row; key = key; item = 0 }

abbrev pub must_at : At → Key → FaultKind → Bool → Checked (Unit {0})
must_at at key kind passes = must passes kind (spot at key)

-- a test of the item with this number, from 1, of the array at a key
abbrev pub must_in : At → Key → ℕ → FaultKind → Bool → Checked (Unit {0})
must_in at key number kind passes =
    must passes kind (record { section = at.section; row = at.row; key = key; item = number })

-- a test of a value, if there is one. An absent value passes.
abbrev pub if_there : {A : Type 0} → (A → Bool) → Option A → Bool
if_there test None = true
if_there test (Some x) = test x

-- the names of a table's keys
abbrev pub names : Members → List (List ℕ)
names no_members = []
names (member name value rest) = name ∷ names rest

-- the name is one of the keys'
abbrev pub is_listed : List Key → List ℕ → Bool
is_listed keys name = list_any (λ key. pointwise nat_eq (key_name key) name) keys

abbrev pub has_only : List Key → Members → Bool
has_only keys members = list_all (is_listed keys) (names members)

unfoldable pub only_keys : At → List Key → Members → Checked (Unit {0})
only_keys at keys members = must_at at key.Other UnknownKey (has_only keys members)

-- A whole number: it is there or has a default, it is an integer, and it lies in its range.
abbrev pub is_in_range : ℕ → ℕ → ℤ → Bool
is_in_range least most (pos n) = nat_le least n && nat_le n most
is_in_range least most (negsuc n) = false

abbrev pub number_or : ℕ → Option ℤ → ℕ
number_or default None = default
number_or default (Some (pos n)) = n
number_or default (Some (negsuc n)) = default

unfoldable pub number : At → Key → ℕ → ℕ → ℕ → Option Data → Checked ℕ
number at key least most default found = let integer = option_and_then as_integer found in do
  _ ← must_at at key WrongKind (if_there (λ d. is_some (as_integer d)) found)
  _ ← must_at at key OutOfRange (if_there (is_in_range least most) integer)
  reads (number_or default integer)

unfoldable pub whole_number : At → Key → ℕ → ℕ → Members → Checked ℕ
whole_number at key least most members = let found = get_member (key_name key) members in do
  _ ← must_at at key MissingKey (is_some found)
  number at key least most least found

unfoldable pub number_with_default : At → Key → ℕ → ℕ → ℕ → Members → Checked ℕ
number_with_default at key least most default members =
    number at key least most default (get_member (key_name key) members)

-- a text that is there
abbrev pub bytes_or_none : Option (List ℕ) → List ℕ
bytes_or_none None = []
bytes_or_none (Some bytes) = bytes

unfoldable pub text : At → Key → Members → Checked (List ℕ)
text at key members = let found = get_member (key_name key) members in do
  _ ← must_at at key MissingKey (is_some found)
  _ ← must_at at key WrongKind (if_there (λ d. is_some (as_str d)) found)
  reads (bytes_or_none (option_and_then as_str found))

-- the index of a name among others
abbrev pub place_of : List ℕ → List (List ℕ) → Option ℕ
place_of name names = position (pointwise nat_eq name) names

abbrev pub is_among : List ℕ → List (List ℕ) → Bool
is_among name names = list_any (pointwise nat_eq name) names

-- a name that no earlier row has
unfoldable pub new_name : At → List (List ℕ) → Members → Checked (List ℕ)
new_name at earlier members = do
  name ← text at key.Name members
  _ ← must_at at key.Name BadName (is_name name)
  _ ← must_at at key.Name DoubleName (not (is_among name earlier))
  reads name

-- an array of tables, with at most 4,096 rows
abbrev pub items_or_none : Option Items → Items
items_or_none None = no_items
items_or_none (Some items) = items

abbrev pub item_count : Items → ℕ
item_count no_items = 0
item_count (item d ds) = suc (item_count ds)

abbrev pub array_at : Section → At
array_at section = record { section = section; row = 0 }

unfoldable pub rows : Section → Key → Members → Checked Items
rows section array_key members =
    let found = get_member (key_name array_key) members in
    let items = option_and_then as_array found in do
      _ ← must_at (array_at section) key.Whole WrongKind (if_there (λ d. is_some (as_array d)) found)
      _ ← must_at (array_at section) key.Whole TooMany (if_there (λ ds. nat_le (item_count ds) 4096) items)
      reads (items_or_none items)

-- a row is a table
abbrev pub members_or_none : Option Members → Members
members_or_none None = no_members
members_or_none (Some members) = members

unfoldable pub row_table : At → Data → Checked Members
row_table at row = do
  _ ← must_at at key.Whole WrongKind (is_some (as_table row))
  reads (members_or_none (as_table row))

-- each of the items in order. A step may use what was read before it.
module _ {A : Type 0} (step : List A → Data → Checked A) where
  abbrev pub each : List A → Items → Checked (List A)
  each earlier no_items = reads earlier
  each earlier (item d others) = do
    one ← step earlier d
    each (earlier ++ one ∷ []) others

-- each of the items in order, added to what was read before
module _ {A : Type 0} (step : A → Data → Checked A) where
  abbrev pub each_from : A → Items → Checked A
  each_from before no_items = reads before
  each_from before (item d others) = do
    next ← step before d
    each_from next others

-- a row is a table, and is read as one
abbrev pub row : {A : Type 0} → Section → (At → List A → Members → Checked A) → List A → Data → Checked A
row section read earlier d = let at : At = record { section = section; row = suc (length earlier) } in do
  members ← row_table at d
  read at earlier members

-- all rows of an array of tables
unfoldable pub array_of : {A : Type 0} → Section → Key → (At → List A → Members → Checked A) → Members → Checked (List A)
array_of section array_key read file = do
  items ← rows section array_key file
  each (row section read) [] items
