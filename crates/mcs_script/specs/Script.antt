-- A script is a list of items. A place in it has the round, the item, the remaining ticks of the
-- item, the badges of the round's word that a handler takes, and the priority.
use Rattle.std.specs.Prelude.{◌≡◌, ℕ, ◌+◌, ◌-◌, ◌^◌, ◌≤◌, ◌<◌, Bool, true, false, ◌&&◌, ◌||◌, not, nat_le, ◌==◌, if◌then◌else◌, bit_and, bit_or, List, [], ◌∷◌, length, drop, fold, Option, Some, None, unwrap_or}
use Rattle.std.specs.List.{slice_get}
use Rattle.mcs_ticks.specs.Capped.{one_more}
use Rattle.mcs_script.specs.declared.item.Item.{Item}
use Rattle.mcs_script.specs.declared.item.Item.TheVariants.{Compute, Signal, Wait, Yield, On, Spin, Enter, Leave}
use Rattle.mcs_script.specs.declared.moved.Moved.{Moved}
use Rattle.mcs_script.specs.declared.moved.Moved.TheVariants.{Next, RoundEnds, AllDone}
use Rattle.mcs_script.specs.declared.place.Place.{Place}

abbrev pub is_wait : Option Item → Bool
is_wait (Some (Wait note)) = true
is_wait _ = false

-- whether a handler begins with this item
abbrev pub is_on : Item → Bool
is_on (On badges) = true
is_on _ = false

-- the badges of a handler that begins with this item
abbrev pub badges_in : Item → ℕ
badges_in (On badges) = badges
badges_in _ = 0

-- the badges of all handlers
abbrev pub badges_of : List Item → ℕ
badges_of items = fold (λ badges item. bit_or badges (badges_in item)) 0 items

-- whether a handler begins here, or the script ends
abbrev pub ends_handler : Option Item → Bool
ends_handler None = true
ends_handler (Some item) = is_on item

-- whether the item with this number is a wait that is last or directly before a handler
abbrev pub is_bare : List Item → ℕ → Bool
is_bare items k = is_wait (slice_get items k) && ends_handler (slice_get items (k + 1))

-- no item before the n-th is such a wait, except the first of several items
abbrev pub first_to_look_at : List Item → ℕ
first_to_look_at items = if nat_le 2 (length items) then 1 else 0

abbrev pub AreNotBare : List Item → ℕ → Type 0
AreNotBare items n = (k : ℕ) → first_to_look_at items ≤ k → k < n → is_bare items k ≡ false

-- the first such wait, with this exception, if there is one
abbrev pub IsFirstBare : List Item → Option ℕ → Type 0
IsFirstBare items None = AreNotBare items (length items)
IsFirstBare items (Some k) = (first_to_look_at items ≤ k) × (k < length items) × (is_bare items k ≡ true) × AreNotBare items k

-- whether the item with this number is an `Enter` that is last or directly before a handler
abbrev pub is_enter : Option Item → Bool
is_enter (Some (Enter server priority)) = true
is_enter _ = false

abbrev pub is_left_open : List Item → ℕ → Bool
is_left_open items k = is_enter (slice_get items k) && ends_handler (slice_get items (k + 1))

-- no item before the n-th is such an `Enter`: the thread continues after each
abbrev pub GoOn : List Item → ℕ → Type 0
GoOn items n = (k : ℕ) → k < n → is_left_open items k ≡ false

-- the first such `Enter`, if there is one
abbrev pub IsFirstOpen : List Item → Option ℕ → Type 0
IsFirstOpen items None = GoOn items (length items)
IsFirstOpen items (Some k) = (k < length items) × (is_left_open items k ≡ true) × GoOn items k

-- if there is a handler, the first item is a wait
abbrev pub listens : List Item → Bool
listens items = is_wait (slice_get items 0) || (badges_of items == 0)

-- the conditions of a script's items
pub record IsScript (items : List Item) : Type 0 where
  pub some : 1 ≤ length items
  pub most : length items ≤ 1024
  pub waits : AreNotBare items (length items)
  pub entering : GoOn items (length items)
  pub listening : listens items ≡ true

-- the remaining ticks of an item that never ends
abbrev pub never : ℕ
never = 2 ^ 64 - 1

-- the ticks that an item costs
abbrev pub cost : ℕ → Item → ℕ
cost call (Compute ticks) = ticks
cost call (Signal note badge) = call
cost call (Wait note) = call
cost call Yield = call
cost call (On badges) = 0
cost call Spin = never
cost call (Enter server priority) = call
cost call (Leave server priority) = call

-- the ticks that an item costs, if there is one
abbrev pub cost_at : ℕ → Option Item → ℕ
cost_at call None = 0
cost_at call (Some item) = cost call item

-- the remaining ticks of an item after it ran for this many ticks
abbrev pub left_after : ℕ → ℕ → ℕ
left_after ticks left = if nat_le never left then left else left - ticks

-- the badges of a word that a handler takes
abbrev pub heard : List Item → ℕ → ℕ
heard script word = bit_and word (badges_of script)

-- whether a thread skips the items after this one, if `passes` says whether it skips this one: at
-- the start of a handler its badges decide
abbrev pub passes_after : ℕ → Bool → Item → Bool
passes_after word passes (On badges) = bit_and word badges == 0
passes_after word passes _ = passes

-- the number of the first of these items that a thread runs with this word; `number` is that of the
-- first item, and `passes` says whether the thread skips the handler in which they begin
abbrev pub first_taken : ℕ → ℕ → Bool → List Item → Option ℕ
first_taken word number passes [] = None
first_taken word number passes (item ∷ items) =
    if passes || is_on item then first_taken word (number + 1) (passes_after word passes item) items else Some number

-- a wait ends no round: if no item follows it, the thread is at it again
abbrev pub or_again : ℕ → Option Item → Option ℕ → Option ℕ
or_again number item (Some next) = Some next
or_again number item None = if is_wait item then Some number else None

-- the next item that a thread runs with this word, or `None` if the round ends
abbrev pub next_item : List Item → ℕ → ℕ → Option ℕ
next_item script word item =
    or_again item (slice_get script item) (first_taken word (item + 1) false (drop (item + 1) script))

-- the priority after an item
abbrev pub priority_after : Option Item → ℕ → ℕ
priority_after (Some (Enter server priority)) before = priority
priority_after (Some (Leave server priority)) before = priority
priority_after _ before = before

-- the start of a script, for a thread of this priority
abbrev pub first_place : ℕ → ℕ → List Item → Place
first_place call priority script =
    record { round = 1; item = 0; left = cost_at call (slice_get script 0); word = 0; priority = priority }

-- the round's word at this item: at the first item no word has begun the round
abbrev pub word_at : ℕ → ℕ → ℕ
word_at item word = if item == 0 then 0 else word

-- the place at the start of this item of this round, after the item of the place before
abbrev pub goes_to : ℕ → List Item → ℕ → ℕ → Place → Place
goes_to call script round item place =
    record {
      round = round;
      item = item;
      left = cost_at call (slice_get script item);
      word = word_at item place.word;
      priority = priority_after (slice_get script place.item) place.priority;
    }

abbrev pub next_of : List Item → Place → Option ℕ
next_of script place = next_item script place.word place.item

-- the step after a finished item: the next item; the end of the round, and the next one begins; or
-- the end of the last round; 0 rounds sets no last round
abbrev pub move_by : Option ℕ → ℕ → Place → Moved
move_by (Some next) rounds place = Next
move_by None rounds place = if not (rounds == 0) && nat_le rounds place.round then AllDone else RoundEnds

abbrev pub move_after : List Item → ℕ → Place → Moved
move_after script rounds place = move_by (next_of script place) rounds place

-- the place after a finished item; after the last round it does not change
abbrev pub place_after : ℕ → List Item → Moved → Place → Place
place_after call script Next place = goes_to call script place.round (unwrap_or (next_of script place) 0) place
place_after call script RoundEnds place = goes_to call script (one_more place.round) 0 place
place_after call script AllDone place = place
