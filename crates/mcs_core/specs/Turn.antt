-- The turn of one core at one moment: the end of the tick, interrupts, arrivals, orders, releases,
-- and the choice.
use Rattle.std.specs.Prelude.{ℕ, ◌+◌, ◌-◌, Bool, ◌==◌, ◌&&◌, not, nat_lt, if◌then◌else◌, List, [], ◌∷◌, ◌++◌, map, filter, Option, Some, None}
use Rattle.std.specs.List.{slice_get}
use Rattle.mcs_ticks.specs.Queue.{Discipline, by_priority}
use Rattle.mcs_ticks.specs.declared.queue.Queued.{Queued}
use Rattle.mcs_ticks.specs.declared.row.Row.{Row}
use Rattle.mcs_ticks.specs.declared.row.What.{What}
use Rattle.mcs_ticks.specs.declared.row.What.TheVariants as row
use Rattle.mcs_ticks.specs.declared.row.Why.{Why}
use Rattle.mcs_ticks.specs.declared.row.Why.TheVariants as why
use Rattle.mcs_control.specs.Context.{Context, context_charged, context_woken, context_chosen, context_ordered, date_from, head_amount}
use Rattle.mcs_control.specs.declared.config.Order.{Order}
use Rattle.mcs_notify.specs.Note.{posted, after_post, waited, after_wait}
use Rattle.mcs_notify.specs.declared.posted.Posted.{Posted}
use Rattle.mcs_notify.specs.declared.posted.Posted.TheVariants.{Woke, Held}
use Rattle.mcs_notify.specs.declared.posted.Waited.{Waited}
use Rattle.mcs_notify.specs.declared.posted.Waited.TheVariants.{Got, Blocks}
use Rattle.mcs_script.specs.declared.item.Item.{Item}
use Rattle.mcs_script.specs.declared.item.Item.TheVariants.{Compute, Signal, Wait, Yield, On, Spin, Enter, Leave}
use Rattle.mcs_script.specs.declared.moved.Moved.{Moved}
use Rattle.mcs_script.specs.declared.moved.Moved.TheVariants.{Next, RoundEnds, AllDone}
use Rattle.mcs_script.specs.Script.{move_after, place_after, heard, left_after}
use Rattle.mcs_core.specs.Alarms.{ringing, alarms_at}
use Rattle.mcs_core.specs.declared.alarm.Alarm.{Alarm}
use Rattle.mcs_mail.specs.declared.mail.Mail.{Mail}
use Rattle.mcs_system.specs.declared.part.ThreadPart.{ThreadPart}
use Rattle.mcs_system.specs.System.{System, thread_part, note_part, delay_between}
use Rattle.mcs_core.specs.Orders.{is_of, is_for_core}
use Rattle.mcs_core.specs.Core.{Core, thread_of, context_of, note_of, with_thread, with_context, with_note, stands, pends, off}
use Rattle.mcs_release.specs.declared.dated.Dated.{Dated}
use Rattle.mcs_release.specs.Release.{is_due}
use Rattle.mcs_core.specs.declared.standing.AfterItem.{AfterItem}
use Rattle.mcs_core.specs.declared.standing.AfterItem.TheVariants as after
use Rattle.mcs_core.specs.declared.standing.Chosen.{Chosen}
use Rattle.mcs_core.specs.declared.standing.Standing.{Standing}
use Rattle.mcs_core.specs.declared.standing.Thread.{Thread}
use Rattle.mcs_core.specs.declared.standing.Standing.TheVariants.{Blocked, Ready, Running, Done}

-- the results of a turn, or a part of it: the core after it, its rows, and its signals for other
-- cores
pub record Turn : Type 0 where
  pub core : Core
  pub rows : List What
  pub mails : List Mail

-- events as rows of core c at moment t
abbrev pub stamped : ℕ → ℕ → List What → List Row
stamped c t told = map (λ what. record { moment = t; core = c; what = what }) told

abbrev pub silent : Core → Turn
silent core = record { core = core; rows = []; mails = [] }

abbrev pub says : What → Core → Turn
says what core = record { core = core; rows = what ∷ []; mails = [] }

-- one part, and then another
infixl 4 ◌followed_by◌
abbrev pub ◌followed_by◌ : Turn → (Core → Turn) → Turn
first followed_by part =
    let second = part first.core in
    record { core = second.core; rows = first.rows ++ second.rows; mails = first.mails ++ second.mails }

-- a part for each item, in order
abbrev pub each : {A : Type 0} → (A → Core → Turn) → List A → Core → Turn
each part [] core = silent core
each part (x ∷ xs) core = part x core followed_by each part xs

-- threads and their contexts
module _ (system : System) where
  abbrev pub part_of : ℕ → ThreadPart
  part_of thread = thread_part system thread

  -- the context to which a thread is bound
  abbrev pub its_context : ℕ → Core → Context
  its_context thread core = context_of core (part_of thread).context

  abbrev pub with_its_context : ℕ → Context → Core → Core
  with_its_context thread context core = with_context (part_of thread).context context core

  -- the date until which a thread must wait for its context, if it is not ready at t
  abbrev pub date_of : ℕ → ℕ → Core → Option ℕ
  date_of t thread core =
      date_from t (its_context thread core)

  -- the context of the thread is charged k ticks
  abbrev pub charged : ℕ → ℕ → Core → Core
  charged thread k core = with_its_context thread (context_charged k system.min_budget (its_context thread core)) core

-- a thread with its priority, which is that of its place
abbrev pub queued : ℕ → Core → Queued
queued thread core = record { thread = thread; priority = (thread_of core thread).place.priority }

-- how threads enter the queues
module _ (queue : Discipline) where
  -- at the back of the ready queue, or with a date into the release queue
  abbrev pub enters_back : ℕ → Option ℕ → Core → Core
  enters_back thread (Some date) core = pends thread date core
  enters_back thread None core =
      record (stands thread Ready core) { ready = queue.back (queued thread core) core.ready }

  -- at the front of the ready queue, or with a date into the release queue
  abbrev pub enters_front : ℕ → Option ℕ → Core → Core
  enters_front thread (Some date) core = pends thread date core
  enters_front thread None core =
      record (stands thread Ready core) { ready = queue.front (queued thread core) core.ready }

-- a stop for good, or until a signal: the context is charged, and the thread leaves the core
abbrev pub stops : System → ℕ → Why → ℕ → Standing → Core → Turn
stops system thread why k standing core =
    says (row.Stop thread why k None) (stands thread standing (off (charged system thread k core)))

-- stops at moment t
module _ (queue : Discipline) (system : System) (t : ℕ) where
  -- the running thread, whose context has been charged k ticks, leaves the core and enters a queue
  -- by `enters`
  abbrev pub leaves : (ℕ → Option ℕ → Core → Core) → ℕ → Why → ℕ → Core → Turn
  leaves enters thread why k core =
      let date = date_of system t thread core in
      says (row.Stop thread why k date) (enters thread date (off core))

  -- at the back of the ready queue, after its context is charged
  abbrev pub stops_to_back : ℕ → Why → ℕ → Core → Turn
  stops_to_back thread why k core =
      leaves (enters_back queue) thread why k (charged system thread k core)

  -- at the front of it; the context has been charged
  abbrev pub stops_to_front : ℕ → Why → ℕ → Core → Turn
  stops_to_front thread why k core = leaves (enters_front queue) thread why k core

  -- at most one stop of the thread that has used this many ticks, as its item requires
  abbrev pub may_stop : ℕ → ℕ → AfterItem → Core → Turn
  may_stop thread using after.Ends core = stops system thread why.Done using Done core
  may_stop thread using after.Blocks core = stops system thread why.Wait using Blocked core
  may_stop thread using after.Calls core = stops system thread why.Call using Blocked core
  may_stop thread using after.Yields core =
      stops_to_back thread why.Yield (head_amount (its_context system thread core)) core
  may_stop thread using after.GoesOn core =
      if using == head_amount (its_context system thread core)
      then stops_to_back thread why.Spent using core
      else silent core

-- the place of a thread in its script
module _ (system : System) where
  abbrev pub item_of : ℕ → Core → Option Item
  item_of thread core = slice_get (part_of system thread).script (thread_of core thread).place.item

  abbrev pub move_of : ℕ → Core → Moved
  move_of thread core =
      let part = part_of system thread in
      move_after part.script part.rounds (thread_of core thread).place

-- a wait gives this word at moment t: if it is the first item, the round begins, and the word is
-- the round's
abbrev pub round_begun : List Item → ℕ → ℕ → Thread → Thread
round_begun script t word state =
    let first = state.place.item == 0 in
    record state {
      place = record (state.place) { word = if first then heard script word else state.place.word };
      since = if first then t else state.since;
    }

abbrev pub given : System → ℕ → ℕ → ℕ → Core → Core
given system t thread word core =
    with_thread thread (round_begun (part_of system thread).script t word (thread_of core thread)) core

-- the way of a thread through its script, at moment t
module _ (system : System) (t : ℕ) where
  -- the thread has the place after this move, and its round began at `since`
  abbrev pub placed : ℕ → Moved → ℕ → Core → Core
  placed thread move since core =
      let state = thread_of core thread in
      with_thread thread
      (record state { place = place_after system.call (part_of system thread).script move state.place; since = since })
      core

  abbrev pub round_row : ℕ → Core → What
  round_row thread core = row.Round thread (thread_of core thread).place.round (t - (thread_of core thread).since)

  -- the item is finished, and the thread moves on
  abbrev pub moves : ℕ → Moved → Core → Turn
  moves thread Next core = silent (placed thread Next (thread_of core thread).since core)
  moves thread RoundEnds core = says (round_row thread core) (placed thread RoundEnds t core)
  moves thread AllDone core = says (round_row thread core) core

  abbrev pub moves_on : ℕ → Core → Turn
  moves_on thread core = moves thread (move_of system thread core) core

  abbrev pub waits_as : ℕ → ℕ → Waited → Core → Turn
  waits_as thread note (Got word) core =
      says (row.Got thread note word)
      (given system t thread word (with_note note (after_wait (Got word) (queued thread core) (note_of core note)) core))
      followed_by moves_on thread
  waits_as thread note Blocks core =
      silent (with_note note (after_wait Blocks (queued thread core) (note_of core note)) core)

  -- the thread takes a server that is free, or waits for it
  abbrev pub enters_as : ℕ → ℕ → Waited → Core → Turn
  enters_as thread server (Got word) core =
      says (row.Got thread server word)
      (with_note server (after_wait (Got word) (queued thread core) (note_of core server)) core)
      followed_by moves_on thread
  enters_as thread server Blocks core =
      silent (with_note server (after_wait Blocks (queued thread core) (note_of core server)) core)

-- the context of a thread that is woken at moment t, or chosen
abbrev pub with_woken_context : System → ℕ → ℕ → Core → Core
with_woken_context system t thread core =
    with_its_context system thread (context_woken t (its_context system thread core)) core

abbrev pub with_chosen_context : System → ℕ → ℕ → Core → Core
with_chosen_context system t thread core =
    with_its_context system thread (context_chosen t (its_context system thread core)) core

-- the date until which a thread that is woken at t must wait for its context, if it is not ready
abbrev pub woken_until : System → ℕ → ℕ → Core → Option ℕ
woken_until system t thread core = date_of system t thread (with_woken_context system t thread core)

-- posts at moment t
module _ (queue : Discipline) (system : System) (t : ℕ) where
  -- a thread that has got what it waited for moves on, and enters a queue
  abbrev pub resumes : ℕ → Core → Turn
  resumes thread core =
      moves_on system t thread core
      followed_by λ core. silent (enters_back queue thread (date_of system t thread core) core)

  -- a woken thread: its context is unblocked, unless it is in bandwidth mode
  abbrev pub wakes : ℕ → ℕ → Core → Turn
  wakes thread word core = resumes thread (given system t thread word (with_woken_context system t thread core))

  -- a thread that enters the server for which it waited: it is woken, but enters at the front
  abbrev pub let_in : ℕ → Core → Turn
  let_in thread core =
      moves_on system t thread (with_woken_context system t thread core)
      followed_by λ core. silent (enters_front queue thread (date_of system t thread core) core)

  abbrev pub posts_as : ℕ → Posted → Core → Turn
  posts_as note (Woke thread word) core =
      says (row.Wake thread note word (woken_until system t thread core))
      (with_note note (after_post (Woke thread word) (note_of core note)) core)
      followed_by wakes thread word
  posts_as note (Held word) core =
      says (row.Hold note word) (with_note note (after_post (Held word) (note_of core note)) core)

  abbrev pub posts : ℕ → ℕ → Core → Turn
  posts note badge core = posts_as note (posted badge (note_of core note)) core

  -- a server is left: it is taken by the first waiter, or free
  abbrev pub frees_as : ℕ → Posted → Core → Turn
  frees_as server (Woke thread word) core =
      says (row.Wake thread server word (woken_until system t thread core))
      (with_note server (after_post (Woke thread word) (note_of core server)) core)
      followed_by let_in thread
  frees_as server (Held word) core = silent (with_note server (after_post (Held word) (note_of core server)) core)

  abbrev pub frees : ℕ → ℕ → Core → Turn
  frees thread server core =
      says (row.Signal thread server 1) core
      followed_by λ core. frees_as server (posted 1 (note_of core server)) core

-- the consequence of a finished item
abbrev pub after_move : Moved → AfterItem → AfterItem
after_move AllDone other = after.Ends
after_move Next other = other
after_move RoundEnds other = other

abbrev pub after_waited : Waited → AfterItem
after_waited Blocks = after.Blocks
after_waited (Got word) = after.GoesOn

abbrev pub after_entered : Waited → AfterItem
after_entered Blocks = after.Calls
after_entered (Got word) = after.GoesOn

abbrev pub after_item : System → ℕ → Option Item → Core → AfterItem
after_item system thread (Some Yield) core = after_move (move_of system thread core) after.Yields
after_item system thread (Some (Wait note)) core = after_waited (waited (note_of core note))
after_item system thread (Some (Compute ticks)) core = after_move (move_of system thread core) after.GoesOn
after_item system thread (Some (Signal note badge)) core = after_move (move_of system thread core) after.GoesOn
after_item system thread (Some (On badges)) core = after_move (move_of system thread core) after.GoesOn
after_item system thread (Some Spin) core = after_move (move_of system thread core) after.GoesOn
after_item system thread (Some (Enter server priority)) core = after_entered (waited (note_of core server))
after_item system thread (Some (Leave server priority)) core = after_move (move_of system thread core) after.GoesOn
after_item system thread None core = after.GoesOn

-- one more tick was used, and the item's rest is one less
abbrev pub counts : Chosen → Core → Core
counts chosen core =
    let state = thread_of core chosen.thread in
    with_thread chosen.thread (record state { place = record (state.place) { left = left_after 1 state.place.left } })
    (record core { running = Some (record { thread = chosen.thread; using = chosen.using + 1 }) })

-- the mail of a signal of core c at moment t
abbrev pub mail_to : System → ℕ → ℕ → ℕ → ℕ → Mail
mail_to system c t note badge =
    record {
      arrives = t + delay_between system c (note_part system note).core;
      made = t;
      maker = c;
      note = note;
      badge = badge;
    }

-- part 1: the end of the tick, on core c at moment t
module _ (queue : Discipline) (system : System) (c t : ℕ) where
  -- a signal: a post at home, and mail for another core
  abbrev pub signals : ℕ → ℕ → ℕ → Core → Turn
  signals thread note badge core =
      says (row.Signal thread note badge) core
      followed_by λ core.
      if (note_part system note).core == c
      then posts queue system t note badge core
      else record { core = core; rows = []; mails = mail_to system c t note badge ∷ [] }

  -- the thread's item takes effect, and the thread moves on unless it blocks
  abbrev pub takes_effect : ℕ → Option Item → Core → Turn
  takes_effect thread (Some (Signal note badge)) core =
      signals thread note badge core followed_by moves_on system t thread
  takes_effect thread (Some (Wait note)) core = waits_as system t thread note (waited (note_of core note)) core
  takes_effect thread (Some (Compute ticks)) core = moves_on system t thread core
  takes_effect thread (Some Yield) core = moves_on system t thread core
  takes_effect thread (Some (On badges)) core = moves_on system t thread core
  takes_effect thread (Some Spin) core = moves_on system t thread core
  takes_effect thread (Some (Enter server priority)) core =
      enters_as system t thread server (waited (note_of core server)) core
  takes_effect thread (Some (Leave server priority)) core =
      frees queue system t thread server core followed_by moves_on system t thread
  takes_effect thread None core = silent core

  -- the item is finished: it takes effect, and at most one stop follows
  abbrev pub finishes : ℕ → ℕ → Option Item → Core → Turn
  finishes thread using item core =
      takes_effect thread item core
      followed_by may_stop queue system t thread using (after_item system thread item core)

  -- after the count: an item without a rest is finished; otherwise only an exhausted head stops the
  -- thread
  abbrev pub after_count : ℕ → ℕ → Core → Turn
  after_count thread using core =
      if (thread_of core thread).place.left == 0
      then finishes thread using (item_of system thread core) core
      else may_stop queue system t thread using after.GoesOn core

  abbrev pub tick_of : Option Chosen → Core → Turn
  tick_of None core = silent core
  tick_of (Some chosen) core = after_count chosen.thread (chosen.using + 1) (counts chosen core)

  abbrev pub tick : Core → Turn
  tick core = tick_of core.running core

-- an order changes its context at moment t
abbrev pub applied : ℕ → Order → Core → Core
applied t order core = with_context order.context (context_ordered t order.config (context_of core order.context)) core

-- a thread whose date has come is ready
abbrev pub released : Discipline → Dated → Core → Turn
released queue due core = says (row.Release due.thread) (enters_back queue due.thread None core)

-- parts 2 to 5
module _ (queue : Discipline) (system : System) (t : ℕ) where
  -- part 1a: a source interrupts
  abbrev pub interrupts : Alarm → Core → Turn
  interrupts alarm core =
      says (row.Interrupt alarm.source alarm.note alarm.badge) core
      followed_by posts queue system t alarm.note alarm.badge

  -- part 2: an arrival
  abbrev pub arrives : Mail → Core → Turn
  arrives mail core =
      says (row.Arrive mail.note mail.badge mail.maker) core
      followed_by posts queue system t mail.note mail.badge

  -- part 3: an order
  abbrev pub orders_running : Order → Option Chosen → Core → Turn
  orders_running order None core = silent (applied t order core)
  orders_running order (Some chosen) core =
      let after = applied t order (charged system chosen.thread chosen.using core) in
      if (part_of system chosen.thread).context == order.context
      then stops_to_front queue system t chosen.thread why.Order chosen.using after
      else silent (applied t order core)

  abbrev pub obeys : Order → Core → Turn
  obeys order core = says (row.Order order.context) core followed_by orders_running order core.running

  -- part 4: releases
  abbrev pub releases : Core → Turn
  releases core =
      each (released queue) (filter (is_due t) core.releases)
      (record core { releases = filter (λ dated. not (is_due t dated)) core.releases })

  -- part 5: the choice; a running thread is first preempted by one of greater priority ..
  abbrev pub preempts_by : Option Chosen → Option Queued → Core → Turn
  preempts_by (Some chosen) (Some best) core =
      let after = charged system chosen.thread chosen.using core in
      if nat_lt (thread_of core chosen.thread).place.priority best.priority
      then stops_to_front queue system t chosen.thread why.Preempt chosen.using after
      else silent core
  preempts_by (Some chosen) None core = silent core
  preempts_by None best core = silent core

  abbrev pub preempts : Core → Turn
  preempts core = preempts_by core.running (queue.best core.ready) core

  -- .. and if no thread runs, the best one is chosen: in bandwidth mode its context is unblocked
  abbrev pub chooses_of : Option Chosen → Option Queued → Core → Turn
  chooses_of (Some chosen) best core = silent core
  chooses_of None None core = silent core
  chooses_of None (Some best) core =
      let core = stands best.thread Running (with_chosen_context system t best.thread core) in
      says (row.Run best.thread)
      (record core { running = Some (record { thread = best.thread; using = 0 }); ready = queue.rest core.ready })

  abbrev pub chooses : Core → Turn
  chooses core = chooses_of core.running (queue.best core.ready) core

-- the orders of this moment for contexts of core c
abbrev pub is_for_now : System → ℕ → ℕ → Order → Bool
is_for_now system c t order = is_of t order && is_for_core system c order

-- the whole turn of core c at moment t, with the mail that arrives, and the ready threads kept by
-- this discipline
abbrev pub turn_with : Discipline → System → ℕ → ℕ → List Mail → Core → Turn
turn_with queue system c t mails core =
    tick queue system c t core
    followed_by each (interrupts queue system t) (ringing t (alarms_at system c t))
    followed_by each (arrives queue system t) mails
    followed_by each (obeys queue system t) (filter (is_for_now system c t) system.orders)
    followed_by releases queue system t
    followed_by preempts queue system t
    followed_by chooses queue system t

-- the turn with the ready threads by priority, as in the state of a core
abbrev pub turn : System → ℕ → ℕ → List Mail → Core → Turn
turn system c t mails core = turn_with by_priority system c t mails core
