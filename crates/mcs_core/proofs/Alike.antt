-- A turn with the ready threads in one list makes what a turn with them by priority makes, part by part.
use Rattle.std.proofs.Common.{◌≡◌, ℕ, zero, suc, ◌+◌, ◌-◌, Bool, true, false, cond, List, [], ◌∷◌, ◌++◌, refl, sym, ap, ◌∙◌, arith}
use Rattle.std.specs.Prelude.{Option, Some, None, filter, ◌==◌}
use Rattle.mcs_ticks.specs.Queue.{by_priority, in_one_list}
use Rattle.mcs_ticks.proofs.Queues.{sorted-back, first-sorted, rest-sorted}
use Rattle.mcs_control.specs.declared.config.Order.{Order}
use Rattle.mcs_script.specs.declared.item.Item.{Item}
use Rattle.mcs_script.specs.declared.item.Item.TheVariants.{Compute, Signal, Wait, Yield, On, Spin, Enter, Leave}
use Rattle.mcs_mail.specs.declared.mail.Mail.{Mail}
use Rattle.mcs_mail.specs.Box.{arriving, staying}
use Rattle.mcs_system.specs.System.{System}
use Rattle.mcs_core.specs.Core.{Core, thread_of}
use Rattle.mcs_core.specs.declared.standing.AfterItem.{AfterItem}
use Rattle.mcs_core.specs.declared.standing.AfterItem.TheVariants as after
use Rattle.mcs_core.specs.declared.standing.Chosen.{Chosen}
use Rattle.mcs_release.specs.declared.dated.Dated.{Dated}
use Rattle.mcs_release.specs.Release.{is_due}
use Rattle.mcs_core.specs.Alarms.{ringing, alarms_at}
use Rattle.mcs_core.specs.declared.alarm.Alarm.{Alarm}
use Rattle.mcs_core.specs.Clock.{shown}
use Rattle.mcs_core.specs.Run.{ran, ran_with, with_turn}
use Rattle.mcs_core.specs.State.{State, ran_shown, AreOfOneList}
use Rattle.mcs_core.specs.Turn as turns
use Rattle.mcs_core.specs.Turn.{Turn, each, ◌followed_by◌}

-- what a turn makes, as the state shows it
abbrev pub turn_shown : Turn → Turn
turn_shown made = record made { core = shown made.core }

-- one part, and then another
then_part : (a b : Turn) (f g : Core → Turn) → turn_shown a ≡ b → ((k : Core) → turn_shown (f k) ≡ g (shown k)) →
    turn_shown (a followed_by f) ≡ (b followed_by g)
then_part a b f g e h =
    ap (λ (second : Turn). record { core = second.core; rows = a.rows ++ second.rows; mails = a.mails ++ second.mails }) (h a.core)
    ∙ ap (λ (first : Turn). first followed_by g) e

each_part : {A : Type 0} (f g : A → Core → Turn) → ((x : A) (k : Core) → turn_shown (f x k) ≡ g x (shown k)) →
    (xs : List A) (k : Core) → turn_shown (each f xs k) ≡ each g xs (shown k)
each_part f g h [] k = refl
each_part f g h (x ∷ xs) k = then_part (f x k) (g x (shown k)) (each f xs) (each g xs) (h x k) (λ l. each_part f g h xs l)

by_test : (b : Bool) (x y u v : Turn) → turn_shown x ≡ u → turn_shown y ≡ v → turn_shown (cond b x y) ≡ cond b u v
by_test true x y u v e f = e
by_test false x y u v e f = f

-- the parts of a turn
module _ (system : System) (c t : ℕ) where
  moves_on-alike : (x : ℕ) (k : Core) → turn_shown (turns.moves_on system t x k) ≡ turns.moves_on system t x (shown k)
  moves_on-alike x k = grind arith

  signals-alike : (x note badge : ℕ) (k : Core) →
      turn_shown (turns.signals in_one_list system c t x note badge k) ≡ turns.signals by_priority system c t x note badge (shown k)
  signals-alike x note badge k = grind (arith, sorted-back)

  frees-alike : (x server : ℕ) (k : Core) →
      turn_shown (turns.frees in_one_list system t x server k) ≡ turns.frees by_priority system t x server (shown k)
  frees-alike x server k = grind (arith, sorted-back)

  takes_effect-alike : (x : ℕ) (item : Option Item) (k : Core) →
      turn_shown (turns.takes_effect in_one_list system c t x item k) ≡ turns.takes_effect by_priority system c t x item (shown k)
  takes_effect-alike x (Some (Signal note badge)) k =
      then_part _ _ (turns.moves_on system t x) (turns.moves_on system t x) (signals-alike x note badge k) (moves_on-alike x)
  takes_effect-alike x (Some (Wait note)) k = grind arith
  takes_effect-alike x (Some (Compute ticks)) k = moves_on-alike x k
  takes_effect-alike x (Some Yield) k = moves_on-alike x k
  takes_effect-alike x (Some (On badges)) k = moves_on-alike x k
  takes_effect-alike x (Some Spin) k = moves_on-alike x k
  takes_effect-alike x (Some (Enter server priority)) k = grind arith
  takes_effect-alike x (Some (Leave server priority)) k =
      then_part _ _ (turns.moves_on system t x) (turns.moves_on system t x) (frees-alike x server k) (moves_on-alike x)
  takes_effect-alike x None k = refl

  may_stop-alike : (x using : ℕ) (cause : AfterItem) (k : Core) →
      turn_shown (turns.may_stop in_one_list system t x using cause k) ≡ turns.may_stop by_priority system t x using cause (shown k)
  may_stop-alike x using cause k = grind (arith, sorted-back)

  after_item-alike : (x : ℕ) (item : Option Item) (k : Core) →
      turns.after_item system x item k ≡ turns.after_item system x item (shown k)
  after_item-alike x item k = grind arith

  finishes-alike : (x using : ℕ) (item : Option Item) (k : Core) →
      turn_shown (turns.finishes in_one_list system c t x using item k) ≡ turns.finishes by_priority system c t x using item (shown k)
  finishes-alike x using item k =
      then_part _ _ (turns.may_stop in_one_list system t x using (turns.after_item system x item k))
      (turns.may_stop by_priority system t x using (turns.after_item system x item k))
      (takes_effect-alike x item k) (may_stop-alike x using (turns.after_item system x item k))
      ∙ ap (λ cause. turns.takes_effect by_priority system c t x item (shown k) followed_by turns.may_stop by_priority system t x using cause) (after_item-alike x item k)

  tick_of-alike : (o : Option Chosen) (k : Core) → turn_shown (turns.tick_of in_one_list system c t o k) ≡ turns.tick_of by_priority system c t o (shown k)
  tick_of-alike None k = refl
  tick_of-alike (Some chosen) k =
      let l : Core = turns.counts chosen k in
      by_test ((thread_of l chosen.thread).place.left == 0) _ _ _ _ (finishes-alike chosen.thread (chosen.using + 1) (turns.item_of system chosen.thread l) l)
      (may_stop-alike chosen.thread (chosen.using + 1) after.GoesOn l)

  interrupts-alike : (alarm : Alarm) (k : Core) → turn_shown (turns.interrupts in_one_list system t alarm k) ≡ turns.interrupts by_priority system t alarm (shown k)
  interrupts-alike alarm k = grind (arith, sorted-back)

  arrives-alike : (mail : Mail) (k : Core) → turn_shown (turns.arrives in_one_list system t mail k) ≡ turns.arrives by_priority system t mail (shown k)
  arrives-alike mail k = grind (arith, sorted-back)

  obeys-alike : (order : Order) (k : Core) → turn_shown (turns.obeys in_one_list system t order k) ≡ turns.obeys by_priority system t order (shown k)
  obeys-alike order k = grind arith

  released-alike : (due : Dated) (k : Core) → turn_shown (turns.released in_one_list due k) ≡ turns.released by_priority due (shown k)
  released-alike due k = grind (arith, sorted-back)

  releases-alike : (k : Core) → turn_shown (turns.releases in_one_list system t k) ≡ turns.releases by_priority system t (shown k)
  releases-alike k =
      each_part (turns.released in_one_list) (turns.released by_priority) released-alike (filter (is_due t) k.releases) _

  preempts-alike : (k : Core) → turn_shown (turns.preempts in_one_list system t k) ≡ turns.preempts by_priority system t (shown k)
  preempts-alike k = grind (arith, first-sorted k.ready)

  -- the choice takes the same thread and leaves the same ones
  chooses-alike : (k : Core) → turn_shown (turns.chooses in_one_list system t k) ≡ turns.chooses by_priority system t (shown k)
  chooses-alike k = grind (arith, first-sorted k.ready, rest-sorted k.ready)

  -- a whole turn
  pub turn-alike : (mails : List Mail) (k : Core) → turn_shown (turns.turn_with in_one_list system c t mails k) ≡ turns.turn_with by_priority system c t mails (shown k)
  turn-alike mails k =
      then_part _ _ (turns.chooses in_one_list system t) (turns.chooses by_priority system t)
      (then_part _ _ (turns.preempts in_one_list system t) (turns.preempts by_priority system t)
      (then_part _ _ (turns.releases in_one_list system t) (turns.releases by_priority system t)
      (then_part _ _ (each (turns.obeys in_one_list system t) orders) (each (turns.obeys by_priority system t) orders)
      (then_part _ _ (each (turns.arrives in_one_list system t) mails) (each (turns.arrives by_priority system t) mails)
      (then_part _ _ (each (turns.interrupts in_one_list system t) alarms) (each (turns.interrupts by_priority system t) alarms)
      (tick_of-alike k.running k)
      (λ l. each_part (turns.interrupts in_one_list system t) (turns.interrupts by_priority system t) interrupts-alike alarms l))
      (λ l. each_part (turns.arrives in_one_list system t) (turns.arrives by_priority system t) arrives-alike mails l))
      (λ l. each_part (turns.obeys in_one_list system t) (turns.obeys by_priority system t) obeys-alike orders l))
      releases-alike)
      preempts-alike)
      chooses-alike
    where
      orders : List Order
      orders = filter (turns.is_for_now system c t) system.orders

      alarms : List Alarm
      alarms = ringing t (alarms_at system c t)

-- and so do the turns of one core alone
pub shown-runs : (system : System) (c n t : ℕ) (core : Core) (box : List Mail) →
    ran_shown (ran_with in_one_list system c n t core box) ≡ ran system c n t (shown core) box
shown-runs system c zero t core box = refl
shown-runs system c (suc n) t core box =
    let made = turns.turn_with in_one_list system c t (arriving t box) core in
    ap (λ others. with_turn system c t made others) (shown-runs system c n (t + 1) made.core (staying t box))
    ∙ ap (λ (other : Turn). with_turn system c t other (ran system c n (t + 1) other.core (staying t box))) (turn-alike system c t (arriving t box) core)

pub runs-of-one-list : (system : System) (state : State) (to : ℕ) (box : List Mail) → AreOfOneList system state to box
runs-of-one-list system state to box core e =
    ap (λ k. ran system state.number (to - state.clock) state.clock k box) e ∙ sym (shown-runs system state.number (to - state.clock) state.clock core box)
