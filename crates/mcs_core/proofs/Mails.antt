-- The signals of a turn: they come from the end of the tick alone, are made now, arrive after the delay, and are items of scripts.
use Rattle.std.proofs.Common.{◌≡◌, ℕ, ◌+◌, Bool, true, false, cond, List, [], ◌∷◌, ◌++◌, Option, Some, None, refl, append-nil, arith, ◌≢◌}
use Rattle.std.specs.Prelude.{filter, ◌==◌}
use Rattle.std.specs.List.{slice_get}
use Rattle.std.proofs.lemmas.Bool.Decides.{nat_tests}
use Rattle.mcs_ticks.specs.Queue.{Discipline}
use Rattle.mcs_ticks.specs.declared.queue.Queued.{Queued}
use Rattle.mcs_control.specs.declared.config.Order.{Order}
use Rattle.mcs_notify.specs.Note.{waited}
use Rattle.mcs_notify.specs.declared.posted.Waited.{Waited}
use Rattle.mcs_script.specs.declared.item.Item.{Item}
use Rattle.mcs_script.specs.declared.item.Item.TheVariants.{Compute, Signal, Wait, Yield, On, Spin, Enter, Leave}
use Rattle.mcs_script.specs.declared.moved.Moved.{Moved}
use Rattle.mcs_mail.specs.declared.mail.Mail.{Mail}
use Rattle.mcs_system.specs.System.{System, note_part, thread_part, delay_between}
use Rattle.mcs_core.specs.Alarms.{ringing, alarms_at}
use Rattle.mcs_core.specs.declared.alarm.Alarm.{Alarm}
use Rattle.mcs_core.specs.Core.{Core, note_of, thread_of}
use Rattle.mcs_core.specs.declared.standing.AfterItem.{AfterItem}
use Rattle.mcs_core.specs.declared.standing.AfterItem.TheVariants as after
use Rattle.mcs_core.specs.declared.standing.Chosen.{Chosen}
use Rattle.mcs_release.specs.Release.{is_due}
use Rattle.mcs_core.specs.Turn as turns
use Rattle.mcs_core.specs.Turn.{Turn, each}
use Rattle.mcs_core.proofs.Counts.{either}

-- a signal that is an item of a thread's script
pub record IsSaid (system : System) (note badge : ℕ) : Type 0 where
  pub thread : ℕ
  pub place : ℕ
  pub item : slice_get (thread_part system thread).script place ≡ Some (Signal note badge)

-- a signal made by core c at t, which arrives after the delay
pub record IsMadeNow (system : System) (c t : ℕ) (mail : Mail) : Type 0 where
  pub arrives : mail.arrives ≡ t + delay_between system c (note_part system mail.note).core
  pub made : mail.made ≡ t
  pub maker : mail.maker ≡ c
  pub away : (note_part system mail.note).core ≢ c
  pub said : IsSaid system mail.note mail.badge

each-none : {A : Type 0} (part : A → Core → Turn) → ((x : A) (core : Core) → (part x core).mails ≡ []) → (xs : List A) (core : Core) → (each part xs core).mails ≡ []
each-none part h [] core = refl
each-none part h (x ∷ xs) core = rw (h x core, each-none part h xs (part x core).core) refl

module _ (queue : Discipline) (system : System) (c t : ℕ) where
  moves-none : (x : ℕ) (m : Moved) (core : Core) → (turns.moves system t x m core).mails ≡ []
  moves-none x m core = grind arith

  posts-none : (note badge : ℕ) (core : Core) → (turns.posts queue system t note badge core).mails ≡ []
  posts-none note badge core = grind arith

  interrupts-none : (alarm : Alarm) (core : Core) → (turns.interrupts queue system t alarm core).mails ≡ []
  interrupts-none alarm core = posts-none alarm.note alarm.badge core

  arrives-none : (mail : Mail) (core : Core) → (turns.arrives queue system t mail core).mails ≡ []
  arrives-none mail core = posts-none mail.note mail.badge core

  obeys-none : (order : Order) (core : Core) → (turns.obeys queue system t order core).mails ≡ []
  obeys-none order core = grind arith

  releases-none : (core : Core) → (turns.releases queue system t core).mails ≡ []
  releases-none core = each-none (turns.released queue) (λ due core. refl) (filter (is_due t) core.releases) _

  preempts_by-none : (o : Option Chosen) (best : Option Queued) (core : Core) → (turns.preempts_by queue system t o best core).mails ≡ []
  preempts_by-none o best core = grind arith

  chooses_of-none : (o : Option Chosen) (best : Option Queued) (core : Core) → (turns.chooses_of queue system t o best core).mails ≡ []
  chooses_of-none o best core = grind arith

  -- only the end of the tick makes signals
  pub mails-turn : (mails : List Mail) (core : Core) → (turns.turn_with queue system c t mails core).mails ≡ (turns.tick queue system c t core).mails
  mails-turn mails core =
      let first = turns.tick queue system c t core in
      let rang = each (turns.interrupts queue system t) (ringing t (alarms_at system c t)) first.core in
      let came = each (turns.arrives queue system t) mails rang.core in
      let obeyed = each (turns.obeys queue system t) (filter (turns.is_for_now system c t) system.orders) came.core in
      let freed = turns.releases queue system t obeyed.core in
      let gave = turns.preempts queue system t freed.core in
      let chosen = turns.chooses queue system t gave.core in
      nothing_more first.mails rang.mails came.mails obeyed.mails freed.mails gave.mails chosen.mails
      (each-none (turns.interrupts queue system t) interrupts-none (ringing t (alarms_at system c t)) first.core)
      (each-none (turns.arrives queue system t) arrives-none mails rang.core)
      (each-none (turns.obeys queue system t) obeys-none (filter (turns.is_for_now system c t) system.orders) came.core)
      (releases-none obeyed.core)
      (preempts_by-none freed.core.running (queue.best freed.core.ready) freed.core)
      (chooses_of-none gave.core.running (queue.best gave.core.ready) gave.core)
    where
      nothing_more : (a i b d e f g : List Mail) → i ≡ [] → b ≡ [] → d ≡ [] → e ≡ [] → f ≡ [] → g ≡ [] → a ++ i ++ b ++ d ++ e ++ f ++ g ≡ a
      nothing_more a i b d e f g o p q r s u = rw (o, p, q, r, s, u, append-nil, append-nil, append-nil, append-nil, append-nil, append-nil) refl

  -- at most one signal, made now by this core
  abbrev pub IsOutgoing : List Mail → Type 0
  IsOutgoing [] = Unit {0}
  IsOutgoing (mail ∷ []) = IsMadeNow system c t mail
  IsOutgoing (mail ∷ next ∷ mails) = ⊥

  IsOutgoing-none : (mails : List Mail) → mails ≡ [] → IsOutgoing mails
  IsOutgoing-none mails e = rw e tt

  IsOutgoing-append : (xs ys : List Mail) → IsOutgoing xs → ys ≡ [] → IsOutgoing (xs ++ ys)
  IsOutgoing-append xs ys h e = rw (e, append-nil) h

  signals-out : (x note badge : ℕ) (core : Core) → IsSaid system note badge → IsOutgoing (turns.signals queue system c t x note badge core).mails
  signals-out x note badge core said = by ((note_part system note).core == c) refl
    where
      differs : (a b : ℕ) → (a == b) ≡ false → a ≢ b
      differs a b e = grind (arith, nat_tests)

      by : (b : Bool) → ((note_part system note).core == c) ≡ b → IsOutgoing (cond b (turns.posts queue system t note badge core) (record { core = core; rows = []; mails = turns.mail_to system c t note badge ∷ [] })).mails
      by true e = IsOutgoing-none _ (posts-none note badge core)
      by false e = record { arrives = refl; made = refl; maker = refl; away = differs (note_part system note).core c e; said = said }

  moves_on-none : (x : ℕ) (core : Core) → (turns.moves_on system t x core).mails ≡ []
  moves_on-none x core = moves-none x (turns.move_of system x core) core

  waits_as-none : (x note : ℕ) (w : Waited) (core : Core) → (turns.waits_as system t x note w core).mails ≡ []
  waits_as-none x note w core = grind arith

  enters_as-none : (x server : ℕ) (w : Waited) (core : Core) → (turns.enters_as system t x server w core).mails ≡ []
  enters_as-none x server w core = grind arith

  frees-none : (x server : ℕ) (core : Core) → (turns.frees queue system t x server core).mails ≡ []
  frees-none x server core = grind arith

  takes_effect-out : (x i : ℕ) (item : Option Item) (core : Core) → slice_get (thread_part system x).script i ≡ item → IsOutgoing (turns.takes_effect queue system c t x item core).mails
  takes_effect-out x i (Some (Signal note badge)) core e =
      IsOutgoing-append (turns.signals queue system c t x note badge core).mails _ (signals-out x note badge core (record { thread = x; place = i; item = e })) (moves_on-none x _)
  takes_effect-out x i (Some (Wait note)) core e = IsOutgoing-none _ (waits_as-none x note (waited (note_of core note)) core)
  takes_effect-out x i (Some (Compute ticks)) core e = IsOutgoing-none _ (moves_on-none x core)
  takes_effect-out x i (Some Yield) core e = IsOutgoing-none _ (moves_on-none x core)
  takes_effect-out x i (Some (On badges)) core e = IsOutgoing-none _ (moves_on-none x core)
  takes_effect-out x i (Some Spin) core e = IsOutgoing-none _ (moves_on-none x core)
  takes_effect-out x i (Some (Enter server priority)) core e = IsOutgoing-none _ (enters_as-none x server (waited (note_of core server)) core)
  takes_effect-out x i (Some (Leave server priority)) core e =
      IsOutgoing-append (turns.frees queue system t x server core).mails _ (IsOutgoing-none _ (frees-none x server core)) (moves_on-none x _)
  takes_effect-out x i None core e = tt

  pub may_stop-none : (x using : ℕ) (cause : AfterItem) (core : Core) → (turns.may_stop queue system t x using cause core).mails ≡ []
  may_stop-none x using cause core = grind arith

  finishes-out : (x i using : ℕ) (item : Option Item) (core : Core) → slice_get (thread_part system x).script i ≡ item → IsOutgoing (turns.finishes queue system c t x using item core).mails
  finishes-out x i using item core e =
      IsOutgoing-append (turns.takes_effect queue system c t x item core).mails _ (takes_effect-out x i item core e) (may_stop-none x using (turns.after_item system x item core) _)

  after_count-out : (x using : ℕ) (core : Core) → IsOutgoing (turns.after_count queue system c t x using core).mails
  after_count-out x using core =
      either (λ (turn : Turn). IsOutgoing turn.mails) ((thread_of core x).place.left == 0) _ _ (finishes-out x (thread_of core x).place.item using (turns.item_of system x core) core refl) (IsOutgoing-none _ (may_stop-none x using after.GoesOn core))

  tick_of-out : (o : Option Chosen) (core : Core) → IsOutgoing (turns.tick_of queue system c t o core).mails
  tick_of-out None core = tt
  tick_of-out (Some chosen) core = after_count-out chosen.thread (chosen.using + 1) (turns.counts chosen core)

  -- a turn makes at most one signal for another core, made now
  pub turn-out : (mails : List Mail) (core : Core) → IsOutgoing (turns.turn_with queue system c t mails core).mails
  turn-out mails core = rw (mails-turn mails core) (tick_of-out core.running core)
