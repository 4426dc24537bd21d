-- The steps of a script, and the tests of its items.
use Rattle.std.specs.Prelude.{ℕ, suc, ◌+◌, Bool, true, false, not, ◌==◌, ◌&&◌, ◌||◌, nat_le, if◌then◌else◌, List, [], ◌∷◌, ◌++◌, length, get_or, map, Option, Some, None, is_some, option_and_then, Result, Ok, Err}
use Rattle.std.specs.List.{slice_get}
use Rattle.toml.specs.Data.{Data, Items, Members, get_member, as_str, as_array}
use Rattle.mcs_script.specs.declared.fault.ItemFault.{ItemFault}
use Rattle.mcs_script.specs.declared.item.Item.{Item}
use Rattle.mcs_script.specs.declared.item.Item.TheVariants as items
use Rattle.mcs_script.specs.Raw.{Raw, Compute, Signal, Wait, Yield, On, Call, Spin, read_as, read_new_as}
use Rattle.mcs_script.specs.Script.{is_wait, is_on, passes_after, ends_handler}
use Rattle.mcs_system.specs.declared.part.NotePart.{NotePart}
use Rattle.mcs_system.specs.System.{no_note}
use Rattle.mcs_load.specs.declared.at.At.{At}
use Rattle.mcs_load.specs.declared.fault.FaultKind.{FaultKind}
use Rattle.mcs_load.specs.declared.fault.FaultKind.TheVariants.{MissingKey, WrongKind, OutOfRange, TooMany, UnknownName, BadItem, WaitLast, OtherCore, OnWithoutWait}
use Rattle.mcs_load.specs.declared.script.Resolved.{Resolved}
use Rattle.mcs_load.specs.declared.script.Resolved.TheVariants.{Step, CallOf}
use Rattle.mcs_load.specs.declared.server.Server.{Server}
use Rattle.mcs_load.specs.declared.spot.Key.TheVariants as key
use Rattle.mcs_load.specs.Keys.{key_name}
use Rattle.mcs_load.specs.Checks.{Checked, ◌>>=◌, reads, must}
use Rattle.mcs_load.specs.Words.{must_at, must_in, if_there, place_of, bytes_or_none, items_or_none, item_count, each_from}

-- a test of the item with this number
abbrev pub must_item : At → ℕ → FaultKind → Bool → Checked (Unit {0})
must_item at number kind passes = must_in at key.Script number kind passes

-- the item that a text means, in version 3 or in versions 1 and 2
abbrev pub read_text : Bool → List ℕ → Result Raw ItemFault
read_text is_new text = if is_new then read_new_as text else read_as text

-- the item, if the text is one
unfoldable pub said : At → ℕ → Result Raw ItemFault → Checked Raw
said at number (Ok raw) = reads raw
said at number (Err fault) = do
  _ ← must_item at number (BadItem fault) false
  reads Yield

abbrev pub place_or_first : Option ℕ → ℕ
place_or_first None = 0
place_or_first (Some place) = place

-- the index of this name
unfoldable pub place_named : At → ℕ → List (List ℕ) → List ℕ → Checked ℕ
place_named at number names name = let found = place_of name names in do
  _ ← must_item at number UnknownName (is_some found)
  reads (place_or_first found)

abbrev pub core_of : List NotePart → ℕ → ℕ
core_of notes note = (get_or notes note no_note).core

-- the default beyond the last server, which is never used
abbrev pub no_server : Server
no_server = record { name = []; core = 0; priority = 0; steps = [] }

abbrev pub server_at : List Server → ℕ → Server
server_at servers place = get_or servers place no_server

-- The steps of a server that a call with this badge goes through: those before the first handler,
-- and those of each handler with one of its bits. The second argument: whether the steps begin in a
-- handler that the call passes over.
abbrev pub called : ℕ → Bool → List Item → List Item
called badge passes [] = []
called badge passes (step ∷ steps) =
    if passes || is_on step then called badge (passes_after badge passes step) steps
    else step ∷ called badge passes steps

-- the steps of a call of the server with this number, at this priority before and after it
abbrev pub call_steps : ℕ → Server → ℕ → ℕ → List Item
call_steps number server badge priority =
    items.Enter number server.priority ∷ (called badge false server.steps ++ items.Leave number priority ∷ [])

-- a script as read so far: the first step of each item, and all steps
pub record Body : Type 0 where
  pub firsts : List Item
  pub steps : List Item

abbrev pub no_items_yet : Body
no_items_yet = record { firsts = []; steps = [] }

abbrev pub begins_handler : Resolved → Bool
begins_handler (Step item) = is_on item
begins_handler (CallOf place badge) = false

-- a thread's script with a handler begins with a wait. A server's handlers match the badge of the
-- call.
abbrev pub may_stand : Bool → List Item → Resolved → Bool
may_stand is_server firsts item = is_server || (not (begins_handler item) || is_wait (slice_get firsts 0))

unfoldable pub hears : At → ℕ → Bool → List Item → Resolved → Checked (Unit {0})
hears at number is_server firsts item = must_item at number OnWithoutWait (may_stand is_server firsts item)

-- a script has at most 1,024 steps
unfoldable pub few_steps : At → ℕ → ℕ → Checked (Unit {0})
few_steps at number count = must_item at number TooMany (nat_le count 1024)

-- the notifications, the servers that may be called, and the core and priority of the script
module _ (notes : List NotePart) (servers : List Server) (core priority : ℕ) where
  abbrev pub note_names : List (List ℕ)
  note_names = map (λ n. n.name) notes

  abbrev pub server_names : List (List ℕ)
  server_names = map (λ s. s.name) servers

  -- an item with names resolved to numbers. A wait and a call are on the script's own core.
  unfoldable pub named : At → ℕ → Raw → Checked Resolved
  named at number (Compute ticks) = reads (Step (items.Compute ticks))
  named at number (Signal name badge) = do
    place ← place_named at number note_names name
    reads (Step (items.Signal place badge))
  named at number (Wait name) = do
    place ← place_named at number note_names name
    _ ← must_item at number OtherCore (core_of notes place == core)
    reads (Step (items.Wait place))
  named at number Yield = reads (Step items.Yield)
  named at number (On badges) = reads (Step (items.On badges))
  named at number (Call name badge) = do
    place ← place_named at number server_names name
    _ ← must_item at number OtherCore ((server_at servers place).core == core)
    reads (CallOf place badge)
  named at number Spin = reads (Step items.Spin)

  unfoldable pub read_item : Bool → At → ℕ → Data → Checked Resolved
  read_item is_new at number data_of_item = do
    _ ← must_item at number WrongKind (is_some (as_str data_of_item))
    raw ← said at number (read_text is_new (bytes_or_none (as_str data_of_item)))
    named at number raw

  abbrev pub first_step : Resolved → Item
  first_step (Step item) = item
  first_step (CallOf place badge) = items.Enter (length notes + place) (server_at servers place).priority

  abbrev pub steps_of : Resolved → List Item
  steps_of (Step item) = item ∷ []
  steps_of (CallOf place badge) = call_steps (length notes + place) (server_at servers place) badge priority

  abbrev pub with_item : Body → Resolved → Body
  with_item before item =
      record { firsts = before.firsts ++ first_step item ∷ []; steps = before.steps ++ steps_of item }

  -- an item that may follow those before
  unfoldable pub heard_item : Bool → Bool → At → List Item → Data → Checked Resolved
  heard_item is_new is_server at firsts d = let number = suc (length firsts) in do
    item ← read_item is_new at number d
    _ ← hears at number is_server firsts item
    reads item

  -- a further item, with at most 1,024 steps in all
  unfoldable pub next_item : Bool → Bool → At → Body → Data → Checked Body
  next_item is_new is_server at before d = do
    item ← heard_item is_new is_server at before.firsts d
    _ ← few_steps at (suc (length before.firsts)) (length (with_item before item).steps)
    reads (with_item before item)

-- Given items whose first has this number, from 1: the number of the first wait at the end or
-- directly before a handler.
abbrev pub bare_from : ℕ → List Item → Option ℕ
bare_from number [] = None
bare_from number (item ∷ items) =
    if is_wait (Some item) && ends_handler (slice_get items 0) then Some number else bare_from (suc number) items

-- the first of several items may be such a wait
abbrev pub first_bare : List Item → Option ℕ
first_bare [] = None
first_bare (item ∷ []) = bare_from 1 (item ∷ [])
first_bare (item ∷ next ∷ items) = bare_from 2 (next ∷ items)

unfoldable pub no_bare_wait : At → Option ℕ → Checked (Unit {0})
no_bare_wait at None = reads tt
no_bare_wait at (Some number) = must_item at number WaitLast false

-- the array of texts
unfoldable pub texts : At → Members → Checked Items
texts at row =
    let found = get_member (key_name key.Script) row in
    let values = option_and_then as_array found in do
      _ ← must_at at key.Script MissingKey (is_some found)
      _ ← must_at at key.Script WrongKind (if_there (λ d. is_some (as_array d)) found)
      _ ← must_at at key.Script OutOfRange (if_there (λ ds. nat_le 1 (item_count ds)) values)
      _ ← must_at at key.Script TooMany (if_there (λ ds. nat_le (item_count ds) 1024) values)
      reads (items_or_none values)

-- all items of a script
unfoldable pub body : List NotePart → List Server → ℕ → ℕ → Bool → Bool → At → Members → Checked Body
body notes servers core priority is_new is_server at row = do
  values ← texts at row
  each_from (next_item notes servers core priority is_new is_server at) no_items_yet values

-- the steps of a thread's script
unfoldable pub script : List NotePart → List Server → ℕ → ℕ → Bool → At → Members → Checked (List Item)
script notes servers core priority is_new at row = do
  body ← body notes servers core priority is_new false at row
  _ ← no_bare_wait at (first_bare body.firsts)
  reads body.steps

-- the steps of a server's script
unfoldable pub server_script : List NotePart → List Server → ℕ → ℕ → At → Members → Checked (List Item)
server_script notes servers core priority at row = do
  body ← body notes servers core priority true true at row
  reads body.steps
