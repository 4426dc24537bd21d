-- Facts of each part of a turn, by what posts and waits do to notifications. No other part has
-- rows of them or changes them.
use Rattle.std.proofs.Common.{◌≡◌, ℕ, ◌+◌, ◌<◌, ◌≤◌, ◌⊎◌, inl, inr, Bool, true, false, cond, not, ◌==◌, nat_lt, List, [], ◌∷◌, ◌++◌, length, slice_get, Option, Some, None, refl, sym, ap, subst, ◌∙◌, arith}
use Rattle.std.specs.Prelude.{filter}
use Rattle.std.specs.List.{AllByRecursion}
use Rattle.std.proofs.lemmas.Bool.{cases_lt}
use Rattle.std.proofs.lemmas.List.{get_or_past}
use Rattle.std.proofs.lemmas.Option.{slice_get_past, get_or_from_slice_get}
use Rattle.mcs_ticks.specs.Queue.{by_priority, first_of}
use Rattle.mcs_ticks.specs.declared.queue.Queued.{Queued}
use Rattle.mcs_ticks.specs.declared.row.What.{What}
use Rattle.mcs_ticks.specs.declared.row.What.TheVariants as row
use Rattle.mcs_ticks.specs.declared.row.Why.{Why}
use Rattle.mcs_ticks.specs.declared.row.Why.TheVariants as why
use Rattle.mcs_control.specs.declared.config.Order.{Order}
use Rattle.mcs_control.specs.Context.{head_amount}
use Rattle.mcs_notify.specs.Note.{Note, waited}
use Rattle.mcs_release.specs.Release.{is_due}
use Rattle.mcs_script.specs.declared.item.Item.{Item}
use Rattle.mcs_script.specs.declared.item.Item.TheVariants.{Compute, Signal, Wait, Yield, On, Spin, Enter, Leave}
use Rattle.mcs_script.specs.declared.moved.Moved.{Moved}
use Rattle.mcs_script.specs.declared.moved.Moved.TheVariants.{Next, RoundEnds, AllDone}
use Rattle.mcs_mail.specs.declared.mail.Mail.{Mail}
use Rattle.mcs_system.specs.declared.part.ThreadPart.{ThreadPart}
use Rattle.mcs_system.specs.System.{System, no_thread, thread_part, note_part, core_of, is_server}
use Rattle.mcs_system.specs.WellFormed.{IsWellFormed, IsItem}
use Rattle.mcs_core.specs.Alarms.{ringing, alarms_at}
use Rattle.mcs_core.specs.declared.alarm.Alarm.{Alarm}
use Rattle.mcs_core.specs.declared.standing.AfterItem.{AfterItem}
use Rattle.mcs_core.specs.declared.standing.AfterItem.TheVariants as after
use Rattle.mcs_core.specs.declared.standing.Chosen.{Chosen}
use Rattle.mcs_core.specs.Core.{Core, thread_of, note_of, off}
use Rattle.mcs_core.specs.Turn as turns
use Rattle.mcs_core.specs.Turn.{Turn, silent, says, ◌followed_by◌, each, is_for_now}
use Rattle.mcs_verdict_laws.proofs.Entering.{equal}
use Rattle.mcs_verdict_laws.proofs.Finishing.{item_home}
use Rattle.mcs_verdict_laws.proofs.Sources.{IsHeard, alarms-heard}

-- a row that is about no notification's word
abbrev pub IsPlain : What → Type 0
IsPlain (row.Hold note word) = ⊥
IsPlain (row.Got thread note word) = ⊥
IsPlain (row.Wake thread note word until) = ⊥
IsPlain _ = Unit {0}

-- a part of a turn that leaves all words, and all that wait for them
pub record Plain (notes : List Note) (made : Turn) : Type 0 where
  pub rows : AllByRecursion IsPlain made.rows
  pub same : made.core.notes ≡ notes

plain-rows : (rows more : List What) → AllByRecursion IsPlain rows → AllByRecursion IsPlain more → AllByRecursion IsPlain (rows ++ more)
plain-rows [] more here there = there
plain-rows (what ∷ rows) more here there = (here.0, plain-rows rows more here.1 there)

plain-then : (notes : List Note) (made : Turn) (part : Core → Turn) → Plain notes made → Plain made.core.notes (part made.core)
    → Plain notes (made followed_by part)
plain-then notes made part p q =
    record { rows = plain-rows made.rows (part made.core).rows p.rows q.rows; same = q.same ∙ p.same }

plain_if : (notes : List Note) (b : Bool) (u v : Turn) → Plain notes u → Plain notes v → Plain notes (cond b u v)
plain_if notes true u v p q = p
plain_if notes false u v p q = q

plain-each : {A : Type 0} (part : A → Core → Turn) → ((item : A) (k : Core) → Plain k.notes (part item k)) → (items : List A) (k : Core)
    → Plain k.notes (each part items k)
plain-each part h [] k = record { rows = tt; same = refl }
plain-each part h (item ∷ items) k =
    plain-then k.notes (part item k) (each part items) (h item k) (plain-each part h items (part item k).core)

module _ (system : System) (t : ℕ) where
  pub moves-plain : (y : ℕ) (move : Moved) (k : Core) → Plain k.notes (turns.moves system t y move k)
  moves-plain y Next k = record { rows = tt; same = refl }
  moves-plain y RoundEnds k = record { rows = (tt, tt); same = refl }
  moves-plain y AllDone k = record { rows = (tt, tt); same = refl }

  back-notes : (y : ℕ) (date : Option ℕ) (k : Core) → (turns.enters_back by_priority y date k).notes ≡ k.notes
  back-notes y None k = refl
  back-notes y (Some date) k = refl

  front-notes : (y : ℕ) (date : Option ℕ) (k : Core) → (turns.enters_front by_priority y date k).notes ≡ k.notes
  front-notes y None k = refl
  front-notes y (Some date) k = refl

  pub let_in-plain : (y : ℕ) (k : Core) → Plain k.notes (turns.let_in by_priority system t y k)
  let_in-plain y k =
      let woken = turns.with_woken_context system t y k in
      let moved = turns.moves_on system t y woken in
      plain-then k.notes moved (λ core. silent (turns.enters_front by_priority y (turns.date_of system t y core) core))
      (moves-plain y (turns.move_of system y woken) woken)
      record { rows = tt; same = front-notes y (turns.date_of system t y moved.core) moved.core }

  pub wakes-plain : (y word : ℕ) (k : Core) → Plain k.notes (turns.wakes by_priority system t y word k)
  wakes-plain y word k =
      let woken = turns.given system t y word (turns.with_woken_context system t y k) in
      let moved = turns.moves_on system t y woken in
      plain-then k.notes moved (λ core. silent (turns.enters_back by_priority y (turns.date_of system t y core) core))
      (moves-plain y (turns.move_of system y woken) woken)
      record { rows = tt; same = back-notes y (turns.date_of system t y moved.core) moved.core }

  leaves-back : (y n : ℕ) (cause : Why) (k : Core) → Plain k.notes (turns.stops_to_back by_priority system t y cause n k)
  leaves-back y n cause k =
      let charged = turns.charged system y n k in
      record { rows = (tt, tt); same = back-notes y (turns.date_of system t y charged) (off charged) }

  leaves-front : (y n : ℕ) (cause : Why) (k : Core) → Plain k.notes (turns.stops_to_front by_priority system t y cause n k)
  leaves-front y n cause k = record { rows = (tt, tt); same = front-notes y (turns.date_of system t y k) (off k) }

  may_stop-plain : (y using : ℕ) (cause : AfterItem) (k : Core) → Plain k.notes (turns.may_stop by_priority system t y using cause k)
  may_stop-plain y using after.Ends k = record { rows = (tt, tt); same = refl }
  may_stop-plain y using after.Blocks k = record { rows = (tt, tt); same = refl }
  may_stop-plain y using after.Calls k = record { rows = (tt, tt); same = refl }
  may_stop-plain y using after.Yields k = leaves-back y (head_amount (turns.its_context system y k)) why.Yield k
  may_stop-plain y using after.GoesOn k =
      plain_if k.notes (using == head_amount (turns.its_context system y k))
      (turns.stops_to_back by_priority system t y why.Spent using k) (silent k)
      (leaves-back y using why.Spent k)
      record { rows = tt; same = refl }

  orders_running-plain : (order : Order) (o : Option Chosen) (k : Core) → Plain k.notes (turns.orders_running by_priority system t order o k)
  orders_running-plain order None k = record { rows = tt; same = refl }
  orders_running-plain order (Some chosen) k =
      plain_if k.notes ((turns.part_of system chosen.thread).context == order.context)
      (turns.stops_to_front by_priority system t chosen.thread why.Order chosen.using
      (turns.applied t order (turns.charged system chosen.thread chosen.using k)))
      (silent (turns.applied t order k))
      (leaves-front chosen.thread chosen.using why.Order (turns.applied t order (turns.charged system chosen.thread chosen.using k)))
      record { rows = tt; same = refl }

  obeys-plain : (order : Order) (k : Core) → Plain k.notes (turns.obeys by_priority system t order k)
  obeys-plain order k =
      plain-then k.notes (says (row.Order order.context) k) (λ core. turns.orders_running by_priority system t order core.running core)
      record { rows = (tt, tt); same = refl }
      (orders_running-plain order k.running k)

  releases-plain : (k : Core) → Plain k.notes (turns.releases by_priority system t k)
  releases-plain k =
      let left = record k { releases = filter (λ dated. not (is_due t dated)) k.releases } in
      plain-each (turns.released by_priority) (λ due core. record { rows = (tt, tt); same = refl }) (filter (is_due t) k.releases) left

  preempts_by-plain : (o : Option Chosen) (best : Option Queued) (k : Core) → Plain k.notes (turns.preempts_by by_priority system t o best k)
  preempts_by-plain (Some chosen) (Some best) k =
      plain_if k.notes (nat_lt (thread_of k chosen.thread).place.priority best.priority)
      (turns.stops_to_front by_priority system t chosen.thread why.Preempt chosen.using (turns.charged system chosen.thread chosen.using k))
      (silent k)
      (leaves-front chosen.thread chosen.using why.Preempt (turns.charged system chosen.thread chosen.using k))
      record { rows = tt; same = refl }
  preempts_by-plain (Some chosen) None k = record { rows = tt; same = refl }
  preempts_by-plain None best k = record { rows = tt; same = refl }

  chooses_of-plain : (o : Option Chosen) (best : Option Queued) (k : Core) → Plain k.notes (turns.chooses_of by_priority system t o best k)
  chooses_of-plain (Some chosen) best k = record { rows = tt; same = refl }
  chooses_of-plain None None k = record { rows = tt; same = refl }
  chooses_of-plain None (Some best) k = record { rows = (tt, tt); same = refl }

-- a wait of a thread that the system has is for a notification of its core
pub wait_home : (system : System) → IsWellFormed system → (y item note : ℕ) → slice_get (thread_part system y).script item ≡ Some (Wait note)
    → (note < length system.notes) × ((note_part system note).core ≡ core_of system (thread_part system y))
wait_home system well y item note e = known (cases_lt y (length system.threads))
  where
    here : y < length system.threads → (item < length (thread_part system y).script) ⊎ (length (thread_part system y).script ≤ item)
        → (note < length system.notes) × ((note_part system note).core ≡ core_of system (thread_part system y))
    here l (inl within) =
        let P : Item → Type 0 = IsItem system (core_of system (thread_part system y)) in
        let is : IsItem system (core_of system (thread_part system y)) (Wait note) =
        subst P (get_or_from_slice_get (thread_part system y).script item (Wait note) Yield e)
        ((well.threads y no_thread l).items item Yield within)
        in
        (is.0, is.1)
    here l (inr past) = let g : Some (Wait note) ≡ None = sym e ∙ slice_get_past (thread_part system y).script item past in absurd (cc)

    known : (y < length system.threads) ⊎ (length system.threads ≤ y)
        → (note < length system.notes) × ((note_part system note).core ≡ core_of system (thread_part system y))
    known (inl l) = here l (cases_lt item (length (thread_part system y).script))
    known (inr past) =
        let nothing : List Item = [] in
        let none : thread_part system y ≡ no_thread = get_or_past system.threads y no_thread past in
        let g : Some (Wait note) ≡ None =
        sym e ∙ ap (λ (part : ThreadPart). slice_get part.script item) none ∙ slice_get_past nothing item (omega arith)
        in
        absurd (cc)

-- what holds of a turn of core c at time t, if it holds of plain parts, posts and waits
module _ (system : System) (well : IsWellFormed system) (c t : ℕ) (I : List Note → Type 0) (Q : List Note → Turn → Type 0)
    (inside : (notes : List Note) (made : Turn) → Q notes made → I made.core.notes)
    (plain : (notes : List Note) (made : Turn) → I notes → Plain notes made → Q notes made)
    (next : (notes : List Note) (made : Turn) (part : Core → Turn) → Q notes made → Q made.core.notes (part made.core)
    → Q notes (made followed_by part))
    (posts : (note badge : ℕ) (k : Core) → (note_part system note).core ≡ c → I k.notes → Q k.notes (turns.posts by_priority system t note badge k))
    (waits : (y item note : ℕ) (k : Core) → slice_get (thread_part system y).script item ≡ Some (Wait note)
    → (note_part system note).core ≡ c → I k.notes
    → Q k.notes (turns.waits_as system t y note (waited (note_of k note)) k))
    (enters : (y server : ℕ) (k : Core) → is_server system server ≡ true → (note_part system server).core ≡ c → I k.notes
    → Q k.notes (turns.enters_as system t y server (waited (note_of k server)) k))
    (frees : (y server : ℕ) (k : Core) → is_server system server ≡ true → (note_part system server).core ≡ c → I k.notes
    → Q k.notes (turns.frees by_priority system t y server k)) where
  signals-turn : (y note badge : ℕ) (k : Core) → I k.notes → Q k.notes (turns.signals by_priority system c t y note badge k)
  signals-turn y note badge k i =
      let sent : Turn = record { core = k; rows = []; mails = turns.mail_to system c t note badge ∷ [] } in
      next k.notes (says (row.Signal y note badge) k)
      (λ core. cond ((note_part system note).core == c) (turns.posts by_priority system t note badge core)
      (record { core = core; rows = []; mails = turns.mail_to system c t note badge ∷ [] }))
      (plain k.notes (says (row.Signal y note badge) k) i record { rows = (tt, tt); same = refl })
      (by ((note_part system note).core == c) refl)
    where
      by : (b : Bool) → ((note_part system note).core == c) ≡ b
          → Q k.notes
          (cond b (turns.posts by_priority system t note badge k) (record { core = k; rows = []; mails = turns.mail_to system c t note badge ∷ [] }))
      by true e = posts note badge k (equal (note_part system note).core c e) i
      by false e =
          plain k.notes (record { core = k; rows = []; mails = turns.mail_to system c t note badge ∷ [] }) i record { rows = tt; same = refl }

  -- the place of an item in its script, if it is a wait for a notification of this core; what it
  -- enters or leaves is a server of this core
  abbrev IsOf : ℕ → Option Item → Type 0
  IsOf y (Some (Wait note)) = (place : ℕ) × (slice_get (thread_part system y).script place ≡ Some (Wait note)) × ((note_part system note).core ≡ c)
  IsOf y (Some (Enter server priority)) = (is_server system server ≡ true) × ((note_part system server).core ≡ c)
  IsOf y (Some (Leave server priority)) = (is_server system server ≡ true) × ((note_part system server).core ≡ c)
  IsOf y _ = Unit {0}

  is-of : (y place : ℕ) (o : Option Item) → core_of system (thread_part system y) ≡ c → slice_get (thread_part system y).script place ≡ o → IsOf y o
  is-of y place (Some (Wait note)) own e = (place, e, (wait_home system well y place note e).1 ∙ own)
  is-of y place (Some (Enter server priority)) own e =
      let is = item_home system well y place (Enter server priority) e in
      (is.2, is.1 ∙ own)
  is-of y place (Some (Leave server priority)) own e =
      let is = item_home system well y place (Leave server priority) e in
      (is.2, is.1 ∙ own)
  is-of y place (Some (Compute ticks)) own e = tt
  is-of y place (Some (Signal note badge)) own e = tt
  is-of y place (Some Yield) own e = tt
  is-of y place (Some (On badges)) own e = tt
  is-of y place (Some Spin) own e = tt
  is-of y place None own e = tt

  effect-turn : (y : ℕ) (item : Option Item) (k : Core) → IsOf y item → I k.notes
      → Q k.notes (turns.takes_effect by_priority system c t y item k)
  effect-turn y (Some (Signal note badge)) k home i =
      let sent = turns.signals by_priority system c t y note badge k in
      let q = signals-turn y note badge k i in
      next k.notes sent (turns.moves_on system t y) q
      (plain sent.core.notes (turns.moves_on system t y sent.core) (inside k.notes sent q)
      (moves-plain system t y (turns.move_of system y sent.core) sent.core))
  effect-turn y (Some (Wait note)) k home i = waits y home.0 note k home.1 home.2 i
  effect-turn y (Some (Compute ticks)) k home i =
      plain k.notes (turns.moves_on system t y k) i (moves-plain system t y (turns.move_of system y k) k)
  effect-turn y (Some Yield) k home i = plain k.notes (turns.moves_on system t y k) i (moves-plain system t y (turns.move_of system y k) k)
  effect-turn y (Some (On badges)) k home i = plain k.notes (turns.moves_on system t y k) i (moves-plain system t y (turns.move_of system y k) k)
  effect-turn y (Some Spin) k home i = plain k.notes (turns.moves_on system t y k) i (moves-plain system t y (turns.move_of system y k) k)
  effect-turn y (Some (Enter server priority)) k home i = enters y server k home.0 home.1 i
  effect-turn y (Some (Leave server priority)) k home i =
      let freed = turns.frees by_priority system t y server k in
      let q = frees y server k home.0 home.1 i in
      next k.notes freed (turns.moves_on system t y) q
      (plain freed.core.notes (turns.moves_on system t y freed.core) (inside k.notes freed q)
      (moves-plain system t y (turns.move_of system y freed.core) freed.core))
  effect-turn y None k home i = plain k.notes (silent k) i record { rows = tt; same = refl }

  finishes-turn : (y using : ℕ) (item : Option Item) (k : Core) → IsOf y item → I k.notes
      → Q k.notes (turns.finishes by_priority system c t y using item k)
  finishes-turn y using item k home i =
      let effect = turns.takes_effect by_priority system c t y item k in
      let cause = turns.after_item system y item k in
      let q = effect-turn y item k home i in
      next k.notes effect (turns.may_stop by_priority system t y using cause) q
      (plain effect.core.notes (turns.may_stop by_priority system t y using cause effect.core) (inside k.notes effect q)
      (may_stop-plain system t y using cause effect.core))

  turn_if : (notes : List Note) (b : Bool) (u v : Turn) → Q notes u → Q notes v → Q notes (cond b u v)
  turn_if notes true u v p q = p
  turn_if notes false u v p q = q

  -- the thread that runs is one of this core
  tick-turn : (o : Option Chosen) (k : Core) → ((chosen : Chosen) → o ≡ Some chosen → core_of system (thread_part system chosen.thread) ≡ c)
      → I k.notes → Q k.notes (turns.tick_of by_priority system c t o k)
  tick-turn None k own i = plain k.notes (silent k) i record { rows = tt; same = refl }
  tick-turn (Some chosen) k own i =
      let counted = turns.counts chosen k in
      let y = chosen.thread in
      turn_if k.notes ((thread_of counted y).place.left == 0)
      (turns.finishes by_priority system c t y (chosen.using + 1) (turns.item_of system y counted) counted)
      (turns.may_stop by_priority system t y (chosen.using + 1) after.GoesOn counted)
      (finishes-turn y (chosen.using + 1) (turns.item_of system y counted) counted
      (is-of y (thread_of counted y).place.item (turns.item_of system y counted) (own chosen refl) refl) i)
      (plain k.notes (turns.may_stop by_priority system t y (chosen.using + 1) after.GoesOn counted) i
      (may_stop-plain system t y (chosen.using + 1) after.GoesOn counted))

  interrupts-turn : (alarm : Alarm) (k : Core) → (note_part system alarm.note).core ≡ c → I k.notes → Q k.notes (turns.interrupts by_priority system t alarm k)
  interrupts-turn alarm k home i =
      next k.notes (says (row.Interrupt alarm.source alarm.note alarm.badge) k) (turns.posts by_priority system t alarm.note alarm.badge)
      (plain k.notes (says (row.Interrupt alarm.source alarm.note alarm.badge) k) i record { rows = (tt, tt); same = refl })
      (posts alarm.note alarm.badge k home i)

  all-interrupt : (alarms : List Alarm) (k : Core) → AllByRecursion (IsHeard system well c) alarms → I k.notes
      → Q k.notes (each (turns.interrupts by_priority system t) alarms k)
  all-interrupt [] k heard i = plain k.notes (silent k) i record { rows = tt; same = refl }
  all-interrupt (alarm ∷ alarms) k heard i =
      let first = turns.interrupts by_priority system t alarm k in
      let q = interrupts-turn alarm k heard.0.home i in
      next k.notes first (each (turns.interrupts by_priority system t) alarms) q (all-interrupt alarms first.core heard.1 (inside k.notes first q))

  arrives-turn : (mail : Mail) (k : Core) → (note_part system mail.note).core ≡ c → I k.notes → Q k.notes (turns.arrives by_priority system t mail k)
  arrives-turn mail k home i =
      next k.notes (says (row.Arrive mail.note mail.badge mail.maker) k) (turns.posts by_priority system t mail.note mail.badge)
      (plain k.notes (says (row.Arrive mail.note mail.badge mail.maker) k) i record { rows = (tt, tt); same = refl })
      (posts mail.note mail.badge k home i)

  all-arrive : (mails : List Mail) (k : Core) → AllByRecursion (λ (mail : Mail). (note_part system mail.note).core ≡ c) mails → I k.notes
      → Q k.notes (each (turns.arrives by_priority system t) mails k)
  all-arrive [] k home i = plain k.notes (silent k) i record { rows = tt; same = refl }
  all-arrive (mail ∷ mails) k home i =
      let first = turns.arrives by_priority system t mail k in
      let q = arrives-turn mail k home.0 i in
      next k.notes first (each (turns.arrives by_priority system t) mails) q (all-arrive mails first.core home.1 (inside k.notes first q))

  pub whole-turn : (mails : List Mail) (k : Core) → AllByRecursion (λ (mail : Mail). (note_part system mail.note).core ≡ c) mails
      → ((chosen : Chosen) → k.running ≡ Some chosen → core_of system (thread_part system chosen.thread) ≡ c) → I k.notes
      → Q k.notes (turns.turn_with by_priority system c t mails k)
  whole-turn mails k home own i =
      let orders = filter (is_for_now system c t) system.orders in
      let zeroth = turns.tick by_priority system c t k in
      let alarms = ringing t (alarms_at system c t) in
      let one = zeroth followed_by each (turns.interrupts by_priority system t) alarms in
      let two = one followed_by each (turns.arrives by_priority system t) mails in
      let three = two followed_by each (turns.obeys by_priority system t) orders in
      let four = three followed_by turns.releases by_priority system t in
      let five = four followed_by turns.preempts by_priority system t in
      let q0 = tick-turn k.running k own i in
      let q1 =
      next k.notes zeroth (each (turns.interrupts by_priority system t) alarms) q0
      (all-interrupt alarms zeroth.core (alarms-heard system well c t) (inside k.notes zeroth q0))
      in
      let q2 = next k.notes one (each (turns.arrives by_priority system t) mails) q1 (all-arrive mails one.core home (inside k.notes one q1)) in
      let q3 =
      next k.notes two (each (turns.obeys by_priority system t) orders) q2
      (plain two.core.notes (each (turns.obeys by_priority system t) orders two.core) (inside k.notes two q2)
      (plain-each (turns.obeys by_priority system t) (obeys-plain system t) orders two.core))
      in
      let q4 =
      next k.notes three (turns.releases by_priority system t) q3
      (plain three.core.notes (turns.releases by_priority system t three.core) (inside k.notes three q3) (releases-plain system t three.core))
      in
      let q5 =
      next k.notes four (turns.preempts by_priority system t) q4
      (plain four.core.notes (turns.preempts by_priority system t four.core) (inside k.notes four q4)
      (preempts_by-plain system t four.core.running (first_of four.core.ready) four.core))
      in
      next k.notes five (turns.chooses by_priority system t) q5
      (plain five.core.notes (turns.chooses by_priority system t five.core) (inside k.notes five q5)
      (chooses_of-plain system t five.core.running (first_of five.core.ready) five.core))
