-- Named values as a line.
use Rattle.std.specs.Prelude.{ℕ, ℤ, pos, neg_ℤ, Bool, true, false, List, [], ◌∷◌, ◌++◌, map, decimal}
use Rattle.std.specs.Fmt.{signed_decimal}
use Rattle.std.specs.Borrow.{Bor}
use Rattle.serde_json.specs.Data.{Items, Members, array, item, member, negative, no_items, no_members, number, object, string, unsigned}
use Rattle.serde_json.specs.Written.{comma_if, compact_text}
use Rattle.mcs_fields.specs.declared.cell.Cell.{Cell}
use Rattle.mcs_fields.specs.declared.cell.Cell.TheVariants as cell

abbrev pub Text : Type 0
Text = List ℕ

-- a number, the negative of a number, a name, names in this order, or empty
pub data Value : Type 0 where
  amount : ℕ → Value
  below : ℕ → Value
  name : Text → Value
  listed : List Text → Value
  empty : Value

-- the value of a cell
abbrev pub value_of : Cell → Value
value_of (cell.Number n) = amount n
value_of (cell.Below n) = below n
value_of (cell.Name text) = name text.now
value_of (cell.Names texts) = listed (map (λ text. text.now) texts.now)
value_of cell.Empty = empty

abbrev pub is_empty : Cell → Bool
is_empty cell.Empty = true
is_empty _ = false

abbrev pub field_of : Bor Text × Cell → Text × Value
field_of f = (f.0.now, value_of f.1)

-- texts separated by commas, and a line feed
abbrev pub parts_text : Bool → List Text → Text
parts_text later [] = 10 ∷ []
parts_text later (part ∷ parts) = comma_if later ++ (part ++ parts_text true parts)

-- texts separated by commas
abbrev pub joined : Bool → List Text → Text
joined later [] = []
joined later (part ∷ parts) = comma_if later ++ (part ++ joined true parts)

-- the negative of n
abbrev pub below_zero : ℕ → ℤ
below_zero n = neg_ℤ (pos n)

abbrev pub below_text : ℕ → Text
below_text n = signed_decimal (below_zero n)

-- the text of a value without quotes: names have no comma, no quote and no line feed. A row has no
-- lists of names
abbrev pub value_text : Value → Text
value_text (amount n) = decimal n
value_text (below n) = below_text n
value_text (name text) = text
value_text (listed texts) = []
value_text empty = []

-- a row of CSV
abbrev pub row_text : List Value → Text
row_text values = parts_text false (map value_text values)

-- the header line of CSV
abbrev pub names_text : List Text → Text
names_text names = parts_text false names

-- texts as an array
abbrev pub items_of : List Text → Items
items_of [] = no_items
items_of (text ∷ texts) = item (string text) (items_of texts)

-- the members of an object, in this order; an empty value adds no member
abbrev pub with_member : Text → Value → Members → Members
with_member key (amount n) members = member key (number (unsigned n)) members
with_member key (below n) members = member key (number (negative (below_zero n))) members
with_member key (name text) members = member key (string text) members
with_member key (listed texts) members = member key (array (items_of texts)) members
with_member key empty members = members

abbrev pub members_of : List (Text × Value) → Members
members_of [] = no_members
members_of (f ∷ fields) = with_member f.0 f.1 (members_of fields)

-- a JSON object in a line
abbrev pub object_text : List (Text × Value) → Text
object_text fields = compact_text (object (members_of fields)) ++ 10 ∷ []
