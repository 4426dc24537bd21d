-- At each moment of a well-formed system each core is in order: it has the system's threads, and contexts with their budgets and modes.
use Rattle.std.proofs.Common.{◌≡◌, ◌≢◌, ℕ, zero, suc, ◌+◌, ◌<◌, ◌≤◌, ◌⊎◌, inl, inr, Bool, true, false, cond, not, List, [], ◌∷◌, length, get_or, refl, sym, ap, subst, ◌∙◌, Option, Some, None, arith}
use Rattle.std.specs.Prelude.{filter, ◌==◌, nat_lt, unwrap_or}
use Rattle.std.proofs.lemmas.Bool.{cases_lt}
use Rattle.std.proofs.lemmas.Bool.Decides.{nat_tests}
use Rattle.std.proofs.lemmas.List.{length-map, get_or_past}
use Rattle.std.proofs.Math.ListN.{length-set}
use Rattle.mcs_ticks.specs.Queue.{Discipline, by_priority}
use Rattle.mcs_ticks.specs.declared.queue.Queued.{Queued}
use Rattle.mcs_ticks.specs.declared.row.What.TheVariants as row
use Rattle.mcs_ticks.specs.declared.row.Why.{Why}
use Rattle.mcs_ticks.specs.declared.row.Why.TheVariants as why
use Rattle.mcs_control.specs.declared.config.Mode.{Mode}
use Rattle.mcs_control.specs.declared.config.Mode.TheVariants as modes
use Rattle.mcs_control.specs.declared.config.Order.{Order}
use Rattle.mcs_control.specs.Context.{Context, Budget, head_amount, woken_by, chosen_by, new_context}
use Rattle.mcs_control.specs.Context.Budget.{Dates, Slice}
use Rattle.mcs_control.specs.laws.Contexts.{IsWhole}
use Rattle.mcs_notify.specs.Note.{posted, after_post, waited, after_wait}
use Rattle.mcs_notify.specs.declared.posted.Posted.{Posted}
use Rattle.mcs_notify.specs.declared.posted.Posted.TheVariants.{Woke, Held}
use Rattle.mcs_notify.specs.declared.posted.Waited.{Waited}
use Rattle.mcs_notify.specs.declared.posted.Waited.TheVariants.{Got, Blocks}
use Rattle.mcs_script.specs.declared.item.Item.{Item}
use Rattle.mcs_script.specs.declared.item.Item.TheVariants.{Compute, Signal, Wait, Yield, On, Spin, Enter, Leave}
use Rattle.mcs_script.specs.declared.moved.Moved.{Moved}
use Rattle.mcs_script.specs.declared.moved.Moved.TheVariants.{Next, RoundEnds, AllDone}
use Rattle.mcs_mail.specs.declared.mail.Mail.{Mail}
use Rattle.mcs_release.specs.declared.dated.Dated.{Dated}
use Rattle.mcs_release.specs.Release.{is_due}
use Rattle.mcs_system.specs.declared.part.ContextPart.{ContextPart}
use Rattle.mcs_system.specs.System.{System, note_part, context_part, no_context, start_of}
use Rattle.mcs_system.specs.WellFormed.{IsWellFormed}
use Rattle.mcs_core.specs.Alarms.{ringing, alarms_at}
use Rattle.mcs_core.specs.declared.alarm.Alarm.{Alarm}
use Rattle.mcs_core.specs.Contexts.{no_server}
use Rattle.mcs_core.specs.Core.{Core, context_of, note_of, with_note, thread_of, off, opening_core, opening_contexts, opening_thread}
use Rattle.mcs_core.specs.declared.standing.AfterItem.{AfterItem}
use Rattle.mcs_core.specs.declared.standing.AfterItem.TheVariants as after
use Rattle.mcs_core.specs.declared.standing.Chosen.{Chosen}
use Rattle.mcs_core.specs.Turn as turns
use Rattle.mcs_core.specs.Turn.{Turn, each, silent, says, ◌followed_by◌}
use Rattle.mcs_core.specs.Clock as clocks
use Rattle.mcs_core.proofs.Clock.{turn_kept, core_shown-first, core_shown-kept}
use Rattle.mcs_laws.specs.Changes.{Change, GivesBudget, changed, changed_by}
use Rattle.mcs_laws.specs.Changes.Change.{Charged, Woken, Picked, Ordered}
use Rattle.mcs_laws.specs.Histories as told
use Rattle.mcs_laws.proofs.Histories.{takes-time, gives-budgets, histories, budgets-kept}
use Rattle.mcs_laws.proofs.Ranges.{by_recursion}
use Rattle.mcs_laws.proofs.Traces as traces
use Rattle.mcs_ever.specs.Later.{Shift}
use Rattle.mcs_ever.proofs.Sound.{IsFit, IsInOrder, AreInOrder, IsCore}

-- no part of a turn changes how many threads there are
module _ (queue : Discipline) (system : System) (t : ℕ) where
  abbrev Keeps : Turn → Core → Type 0
  Keeps made k = length made.core.threads ≡ length k.threads

  then_keeps : (k : Core) (a : Turn) (f : Core → Turn) → Keeps a k → ((l : Core) → Keeps (f l) l) → Keeps (a followed_by f) k
  then_keeps k a f e h = h a.core ∙ e

  test_keeps : (b : Bool) (u v : Turn) (k : Core) → Keeps u k → Keeps v k → Keeps (cond b u v) k
  test_keeps true u v k p q = p
  test_keeps false u v k p q = q

  each_keeps : {A : Type 0} (f : A → Core → Turn) → ((x : A) (k : Core) → Keeps (f x k) k) → (xs : List A) (k : Core) → Keeps (each f xs k) k
  each_keeps f h [] k = refl
  each_keeps f h (x ∷ xs) k = then_keeps k (f x k) (each f xs) (h x k) (each_keeps f h xs)

  back_keeps : (x : ℕ) (until : Option ℕ) (k : Core) → length (turns.enters_back queue x until k).threads ≡ length k.threads
  back_keeps x (Some date) k = length-set k.threads x _
  back_keeps x None k = length-set k.threads x _

  front_keeps : (x : ℕ) (until : Option ℕ) (k : Core) → length (turns.enters_front queue x until k).threads ≡ length k.threads
  front_keeps x (Some date) k = length-set k.threads x _
  front_keeps x None k = length-set k.threads x _

  stops_to_back-keeps : (x : ℕ) (cause : Why) (j : ℕ) (k : Core) → Keeps (turns.stops_to_back queue system t x cause j k) k
  stops_to_back-keeps x cause j k = back_keeps x (turns.date_of system t x (turns.charged system x j k)) (off (turns.charged system x j k))

  stops_to_front-keeps : (x : ℕ) (cause : Why) (j : ℕ) (k : Core) → Keeps (turns.stops_to_front queue system t x cause j k) k
  stops_to_front-keeps x cause j k = front_keeps x (turns.date_of system t x k) (off k)

  may_stop-keeps : (x using : ℕ) (cause : AfterItem) (k : Core) → Keeps (turns.may_stop queue system t x using cause k) k
  may_stop-keeps x using after.Ends k = length-set k.threads x _
  may_stop-keeps x using after.Blocks k = length-set k.threads x _
  may_stop-keeps x using after.Calls k = length-set k.threads x _
  may_stop-keeps x using after.Yields k = stops_to_back-keeps x why.Yield (head_amount (turns.its_context system x k)) k
  may_stop-keeps x using after.GoesOn k =
      test_keeps (using == head_amount (turns.its_context system x k)) (turns.stops_to_back queue system t x why.Spent using k) (silent k) k (stops_to_back-keeps x why.Spent using k) refl

  moves-keeps : (x : ℕ) (m : Moved) (k : Core) → Keeps (turns.moves system t x m k) k
  moves-keeps x Next k = length-set k.threads x _
  moves-keeps x RoundEnds k = length-set k.threads x _
  moves-keeps x AllDone k = refl

  moves_on-keeps : (x : ℕ) (k : Core) → Keeps (turns.moves_on system t x k) k
  moves_on-keeps x k = moves-keeps x (turns.move_of system x k) k

  waits_as-keeps : (x note : ℕ) (w : Waited) (k : Core) → Keeps (turns.waits_as system t x note w k) k
  waits_as-keeps x note (Got word) k =
      then_keeps k (says (row.Got x note word) (turns.given system t x word (with_note note (after_wait (Got word) (turns.queued x k) (note_of k note)) k))) (turns.moves_on system t x)
      (length-set k.threads x _) (moves_on-keeps x)
  waits_as-keeps x note Blocks k = refl

  enters_as-keeps : (x server : ℕ) (w : Waited) (k : Core) → Keeps (turns.enters_as system t x server w k) k
  enters_as-keeps x server (Got word) k =
      then_keeps k (says (row.Got x server word) (with_note server (after_wait (Got word) (turns.queued x k) (note_of k server)) k)) (turns.moves_on system t x) refl (moves_on-keeps x)
  enters_as-keeps x server Blocks k = refl

  wakes-keeps : (x word : ℕ) (k : Core) → Keeps (turns.wakes queue system t x word k) k
  wakes-keeps x word k =
      then_keeps k (turns.moves_on system t x (turns.given system t x word (turns.with_woken_context system t x k))) (λ core. silent (turns.enters_back queue x (turns.date_of system t x core) core))
      (moves_on-keeps x (turns.given system t x word (turns.with_woken_context system t x k)) ∙ length-set k.threads x _)
      (λ l. back_keeps x (turns.date_of system t x l) l)

  let_in-keeps : (x : ℕ) (k : Core) → Keeps (turns.let_in queue system t x k) k
  let_in-keeps x k =
      then_keeps k (turns.moves_on system t x (turns.with_woken_context system t x k)) (λ core. silent (turns.enters_front queue x (turns.date_of system t x core) core))
      (moves_on-keeps x (turns.with_woken_context system t x k))
      (λ l. front_keeps x (turns.date_of system t x l) l)

  posts_as-keeps : (note : ℕ) (p : Posted) (k : Core) → Keeps (turns.posts_as queue system t note p k) k
  posts_as-keeps note (Woke x word) k =
      then_keeps k (says (row.Wake x note word (turns.woken_until system t x k)) (with_note note (after_post (Woke x word) (note_of k note)) k)) (turns.wakes queue system t x word) refl (wakes-keeps x word)
  posts_as-keeps note (Held word) k = refl

  frees_as-keeps : (server : ℕ) (p : Posted) (k : Core) → Keeps (turns.frees_as queue system t server p k) k
  frees_as-keeps server (Woke x word) k =
      then_keeps k (says (row.Wake x server word (turns.woken_until system t x k)) (with_note server (after_post (Woke x word) (note_of k server)) k)) (turns.let_in queue system t x) refl (let_in-keeps x)
  frees_as-keeps server (Held word) k = refl

  frees-keeps : (x server : ℕ) (k : Core) → Keeps (turns.frees queue system t x server k) k
  frees-keeps x server k =
      then_keeps k (says (row.Signal x server 1) k) (λ l. turns.frees_as queue system t server (posted 1 (note_of l server)) l) refl (λ l. frees_as-keeps server (posted 1 (note_of l server)) l)

  posts-keeps : (note badge : ℕ) (k : Core) → Keeps (turns.posts queue system t note badge k) k
  posts-keeps note badge k = posts_as-keeps note (posted badge (note_of k note)) k

  interrupts-keeps : (alarm : Alarm) (k : Core) → Keeps (turns.interrupts queue system t alarm k) k
  interrupts-keeps alarm k =
      then_keeps k (says (row.Interrupt alarm.source alarm.note alarm.badge) k) (turns.posts queue system t alarm.note alarm.badge) refl (posts-keeps alarm.note alarm.badge)

  arrives-keeps : (mail : Mail) (k : Core) → Keeps (turns.arrives queue system t mail k) k
  arrives-keeps mail k =
      then_keeps k (says (row.Arrive mail.note mail.badge mail.maker) k) (turns.posts queue system t mail.note mail.badge) refl (posts-keeps mail.note mail.badge)

  orders_running-keeps : (order : Order) (o : Option Chosen) (k : Core) → Keeps (turns.orders_running queue system t order o k) k
  orders_running-keeps order None k = refl
  orders_running-keeps order (Some chosen) k =
      test_keeps ((turns.part_of system chosen.thread).context == order.context)
      (turns.stops_to_front queue system t chosen.thread why.Order chosen.using (turns.applied t order (turns.charged system chosen.thread chosen.using k))) (silent (turns.applied t order k)) k
      (stops_to_front-keeps chosen.thread why.Order chosen.using (turns.applied t order (turns.charged system chosen.thread chosen.using k))) refl

  obeys-keeps : (order : Order) (k : Core) → Keeps (turns.obeys queue system t order k) k
  obeys-keeps order k =
      then_keeps k (says (row.Order order.context) k) (λ l. turns.orders_running queue system t order l.running l) refl (λ l. orders_running-keeps order l.running l)

  released-keeps : (due : Dated) (k : Core) → Keeps (turns.released queue due k) k
  released-keeps due k = back_keeps due.thread None k

  releases-keeps : (k : Core) → Keeps (turns.releases queue system t k) k
  releases-keeps k = each_keeps (turns.released queue) released-keeps (filter (is_due t) k.releases) (record k { releases = filter (λ dated. not (is_due t dated)) k.releases })

  preempts_by-keeps : (o : Option Chosen) (best : Option Queued) (k : Core) → Keeps (turns.preempts_by queue system t o best k) k
  preempts_by-keeps (Some chosen) (Some best) k =
      test_keeps (nat_lt (thread_of k chosen.thread).place.priority best.priority)
      (turns.stops_to_front queue system t chosen.thread why.Preempt chosen.using (turns.charged system chosen.thread chosen.using k)) (silent k) k
      (stops_to_front-keeps chosen.thread why.Preempt chosen.using (turns.charged system chosen.thread chosen.using k)) refl
  preempts_by-keeps (Some chosen) None k = refl
  preempts_by-keeps None best k = refl

  chooses_of-keeps : (o : Option Chosen) (best : Option Queued) (k : Core) → Keeps (turns.chooses_of queue system t o best k) k
  chooses_of-keeps (Some chosen) best k = refl
  chooses_of-keeps None None k = refl
  chooses_of-keeps None (Some best) k = length-set k.threads best.thread _

  module _ (c : ℕ) where
    signals-keeps : (x note badge : ℕ) (k : Core) → Keeps (turns.signals queue system c t x note badge k) k
    signals-keeps x note badge k =
        then_keeps k (says (row.Signal x note badge) k)
        (λ l. cond ((note_part system note).core == c) (turns.posts queue system t note badge l) (record { core = l; rows = []; mails = turns.mail_to system c t note badge ∷ [] })) refl
        (λ l. test_keeps ((note_part system note).core == c) (turns.posts queue system t note badge l) (record { core = l; rows = []; mails = turns.mail_to system c t note badge ∷ [] }) l (posts-keeps note badge l) refl)

    takes_effect-keeps : (x : ℕ) (item : Option Item) (k : Core) → Keeps (turns.takes_effect queue system c t x item k) k
    takes_effect-keeps x (Some (Signal note badge)) k = then_keeps k (turns.signals queue system c t x note badge k) (turns.moves_on system t x) (signals-keeps x note badge k) (moves_on-keeps x)
    takes_effect-keeps x (Some (Wait note)) k = waits_as-keeps x note (waited (note_of k note)) k
    takes_effect-keeps x (Some (Compute ticks)) k = moves_on-keeps x k
    takes_effect-keeps x (Some Yield) k = moves_on-keeps x k
    takes_effect-keeps x (Some (On badges)) k = moves_on-keeps x k
    takes_effect-keeps x (Some Spin) k = moves_on-keeps x k
    takes_effect-keeps x (Some (Enter server priority)) k = enters_as-keeps x server (waited (note_of k server)) k
    takes_effect-keeps x (Some (Leave server priority)) k =
        then_keeps k (turns.frees queue system t x server k) (turns.moves_on system t x) (frees-keeps x server k) (moves_on-keeps x)
    takes_effect-keeps x None k = refl

    finishes-keeps : (x using : ℕ) (item : Option Item) (k : Core) → Keeps (turns.finishes queue system c t x using item k) k
    finishes-keeps x using item k =
        then_keeps k (turns.takes_effect queue system c t x item k) (turns.may_stop queue system t x using (turns.after_item system x item k)) (takes_effect-keeps x item k)
        (may_stop-keeps x using (turns.after_item system x item k))

    after_count-keeps : (x using : ℕ) (k : Core) → Keeps (turns.after_count queue system c t x using k) k
    after_count-keeps x using k =
        test_keeps ((thread_of k x).place.left == 0) (turns.finishes queue system c t x using (turns.item_of system x k) k) (turns.may_stop queue system t x using after.GoesOn k) k
        (finishes-keeps x using (turns.item_of system x k) k) (may_stop-keeps x using after.GoesOn k)

    tick_of-keeps : (o : Option Chosen) (k : Core) → Keeps (turns.tick_of queue system c t o k) k
    tick_of-keeps None k = refl
    tick_of-keeps (Some chosen) k = after_count-keeps chosen.thread (chosen.using + 1) (turns.counts chosen k) ∙ length-set k.threads chosen.thread _

    abbrev rung : Core → Turn
    rung k = turns.tick queue system c t k followed_by each (turns.interrupts queue system t) (ringing t (alarms_at system c t))

    abbrev arrived : List Mail → Core → Turn
    arrived mails k = rung k followed_by each (turns.arrives queue system t) mails

    abbrev obeyed : List Mail → Core → Turn
    obeyed mails k = arrived mails k followed_by each (turns.obeys queue system t) (filter (turns.is_for_now system c t) system.orders)

    abbrev freed : List Mail → Core → Turn
    freed mails k = obeyed mails k followed_by turns.releases queue system t

    abbrev yielded : List Mail → Core → Turn
    yielded mails k = freed mails k followed_by turns.preempts queue system t

    pub turn-keeps : (mails : List Mail) (k : Core) → Keeps (turns.turn_with queue system c t mails k) k
    turn-keeps mails k =
        then_keeps k (yielded mails k) (turns.chooses queue system t)
        (then_keeps k (freed mails k) (turns.preempts queue system t)
        (then_keeps k (obeyed mails k) (turns.releases queue system t)
        (then_keeps k (arrived mails k) (each (turns.obeys queue system t) (filter (turns.is_for_now system c t) system.orders))
        (then_keeps k (rung k) (each (turns.arrives queue system t) mails)
        (then_keeps k (turns.tick queue system c t k) (each (turns.interrupts queue system t) (ringing t (alarms_at system c t))) (tick_of-keeps k.running k)
        (each_keeps (turns.interrupts queue system t) interrupts-keeps (ringing t (alarms_at system c t))))
        (each_keeps (turns.arrives queue system t) arrives-keeps mails))
        (each_keeps (turns.obeys queue system t) obeys-keeps (filter (turns.is_for_now system c t) system.orders)))
        releases-keeps)
        (λ l. preempts_by-keeps l.running (queue.best l.ready) l))
        (λ l. chooses_of-keeps l.running (queue.best l.ready) l)

-- no change changes the mode
mode-woken : (t : ℕ) (k : Context) (mode : Mode) → (woken_by mode t k).mode ≡ k.mode
mode-woken t k modes.Sporadic = refl
mode-woken t k modes.Bandwidth = refl

mode-chosen : (t : ℕ) (k : Context) (mode : Mode) → (chosen_by mode t k).mode ≡ k.mode
mode-chosen t k modes.Sporadic = refl
mode-chosen t k modes.Bandwidth = refl

mode-changed : (least : ℕ) (k : Context) (change : Change) → (changed least k change).mode ≡ k.mode
mode-changed least k (Charged n) = refl
mode-changed least k (Woken t) = mode-woken t k k.mode
mode-changed least k (Picked t) = mode-chosen t k k.mode
mode-changed least k (Ordered order) = refl

mode-changes : (least : ℕ) (changes : List Change) (k : Context) → (changed_by least changes k).mode ≡ k.mode
mode-changes least [] k = refl
mode-changes least (change ∷ changes) k = mode-changes least changes (changed least k change) ∙ mode-changed least k change

-- nor makes any a slice of no context into dates
abbrev HasSlice : Budget → Type 0
HasSlice (Dates dates) = ⊥
HasSlice (Slice left) = Unit {0}

record IsPlain (k : Context) : Type 0 where
  slice : HasSlice k.budget
  mode : k.mode ≡ modes.Sporadic

slice-changed : (least : ℕ) (change : Change) (k : Context) → HasSlice k.budget → HasSlice (changed least k change).budget
slice-changed least change k h = by change k.budget h
  where
    woken : (t left : ℕ) (mode : Mode) → HasSlice (woken_by mode t (record k { budget = Slice left })).budget
    woken t left modes.Sporadic = tt
    woken t left modes.Bandwidth = tt

    chosen : (t left : ℕ) (mode : Mode) → HasSlice (chosen_by mode t (record k { budget = Slice left })).budget
    chosen t left modes.Sporadic = tt
    chosen t left modes.Bandwidth = tt

    by : (change : Change) (budget : Budget) → HasSlice budget → HasSlice (changed least (record k { budget = budget }) change).budget
    by change (Dates dates) h = absurd h
    by (Charged n) (Slice left) h = tt
    by (Woken t) (Slice left) h = woken t left k.mode
    by (Picked t) (Slice left) h = chosen t left k.mode
    by (Ordered order) (Slice left) h = tt

slice-changes : (least : ℕ) (changes : List Change) (k : Context) → HasSlice k.budget → HasSlice (changed_by least changes k).budget
slice-changes least [] k h = h
slice-changes least (change ∷ changes) k h = slice-changes least changes (changed least k change) (slice-changed least change k h)

opening-many : (system : System) (c number : ℕ) (parts : List ContextPart) → length (opening_contexts system c number parts) ≡ length parts
opening-many system c number [] = refl
opening-many system c number (part ∷ parts) = ap suc (opening-many system c (number + 1) parts)

opening-other : (system : System) (c number : ℕ) (parts : List ContextPart) (i : ℕ) → c ≢ (get_or parts i no_context).core → i < length parts →
    unwrap_or (get_or (opening_contexts system c number parts) i None) no_server ≡ no_server
opening-other system c number [] i e l = absurd (omega (arith, l))
opening-other system c number (part ∷ parts) zero e l =
    ap (λ b. unwrap_or (cond b (Some (new_context part.config part.mode (start_of system.threads number))) None) no_server) (differ part.core c e)
  where
    differ : (a b : ℕ) → b ≢ a → (a == b) ≡ false
    differ a b e = grind (arith, nat_tests)
opening-other system c number (part ∷ parts) (suc i) e l = opening-other system c (number + 1) parts i e (omega (arith, l))

module _ (system : System) (well : IsWellFormed system) (shift : Shift) (c : ℕ) (known : c < system.cores) where
  abbrev before : ℕ → Core
  before t = clocks.core_shown system (clocks.world system t) c

  before-first : before 0 ≡ opening_core system c
  before-first = core_shown-first system c known

  before-next : (t : ℕ) → before (suc t) ≡ (turn_kept system c t).core
  before-next t = core_shown-kept system (takes-time system well) t c known

  threads-many : (t : ℕ) → length (before t).threads ≡ length system.threads
  threads-many zero = ap (λ (k : Core). length k.threads) before-first ∙ length-map system.threads (opening_thread system c)
  threads-many (suc t) =
      ap (λ (k : Core). length k.threads) (before-next t)
      ∙ turn-keeps by_priority system t c (filter (clocks.arrives_at system t c) (clocks.world system t).mails) (before t) ∙ threads-many t

  module _ (x : ℕ) where
    abbrev Uses : ℕ → Option Chosen → Context → Type 0
    Uses t = traces.Uses by_priority system c t x 0 1 1

    abbrev After : ℕ → Option Chosen → Context → Type 0
    After t = traces.Uses by_priority system c t x 0 1 0

    turn-at : (t : ℕ) → traces.Traced by_priority system c t x (Uses t) (After t) (filter (told.is_order_for x) (filter (turns.is_for_now system c t) system.orders)) (before t) (turn_kept system c t)
    turn-at t =
        traces.turn-traced by_priority system c t x (by_recursion (λ (order : Order). GivesBudget order.config) system.orders (gives-budgets system well).orders)
        (filter (clocks.arrives_at system t c) (clocks.world system t).mails) (before t)

    many : (t : ℕ) → length (before t).contexts ≡ length system.contexts
    many zero = ap (λ (k : Core). length k.contexts) before-first ∙ opening-many system c 0 system.contexts
    many (suc t) = ap (λ (k : Core). length k.contexts) (before-next t) ∙ (turn-at t).many ∙ many t

    -- a context of another core is none
    other : x < length system.contexts → c ≢ (context_part system x).core → (t : ℕ) → IsPlain (context_of (before t) x)
    other within away zero =
        let e : context_of (before 0) x ≡ no_server = ap (λ (k : Core). context_of k x) before-first ∙ opening-other system c 0 system.contexts x away within in
        subst IsPlain (sym e) (record { slice = tt; mode = refl })
    other within away (suc t) = next (other within away t)
      where
        here : x < length (before t).contexts
        here = rw (many t) within

        e : context_of (before (suc t)) x ≡ changed_by system.min_budget (turn-at t).changes (context_of (before t) x)
        e = ap (λ (k : Core). context_of k x) (before-next t) ∙ (turn-at t).after here

        next : IsPlain (context_of (before t) x) → IsPlain (context_of (before (suc t)) x)
        next h =
            subst IsPlain (sym e)
            (record { slice = slice-changes system.min_budget (turn-at t).changes (context_of (before t) x) h.slice; mode = mode-changes system.min_budget (turn-at t).changes (context_of (before t) x) ∙ h.mode })

    past : length system.contexts ≤ x → (t : ℕ) → context_of (before t) x ≡ no_server
    past l t = ap (λ o. unwrap_or o no_server) (get_or_past (before t).contexts x None (rw (many t) l))

    plain-order : (k : Context) → IsPlain k → IsInOrder system shift x k
    plain-order k h = record { fit = by k.budget h.slice; mode = λ e. h.mode }
      where
        by : (budget : Budget) → HasSlice budget → IsFit system shift k.config budget
        by (Dates dates) s = absurd s
        by (Slice left) s = tt

  -- a context of this core keeps its budget and its mode
  module _ (x : ℕ) (within : x < length system.contexts) where
    modes-kept : (t : ℕ) → (told.context_before system x t).mode ≡ (context_part system x).mode
    modes-kept zero = ap (λ (k : Context). k.mode) (histories system well x within).opening
    modes-kept (suc t) =
        ap (λ (k : Context). k.mode) ((histories system well x within).after t)
        ∙ mode-changes system.min_budget ((histories system well x within).changes t) (told.context_before system x t) ∙ modes-kept t

    own-order : (t : ℕ) → IsInOrder system shift x (told.context_before system x t)
    own-order t = record { fit = by (told.context_before system x t).budget (budgets-kept system well x t within).keeps.whole; mode = λ e. modes-kept t ∙ e }
      where
        by : (budget : Budget) → IsWhole (told.context_before system x t).config budget → IsFit system shift (told.context_before system x t).config budget
        by (Dates dates) w = w
        by (Slice left) w = tt

  context-order : (t x : ℕ) → IsInOrder system shift x (context_of (before t) x)
  context-order t x = by (cases_lt x (length system.contexts))
    where
      home : (b : Bool) → (c == (context_part system x).core) ≡ b → x < length system.contexts → IsInOrder system shift x (context_of (before t) x)
      home true e within =
          let same : (context_part system x).core ≡ c = grind (arith, nat_tests) in
          let P : ℕ → Type 0 = λ b. IsInOrder system shift x (context_of (clocks.core_at system (clocks.world system t) b) x) in
          subst P same (own-order x within t)
      home false e within = plain-order x (context_of (before t) x) (other x within (grind (arith, nat_tests)) t)

      by : (x < length system.contexts) ⊎ (length system.contexts ≤ x) → IsInOrder system shift x (context_of (before t) x)
      by (inl within) = home (c == (context_part system x).core) refl within
      by (inr l) = subst (IsInOrder system shift x) (sym (past x l t)) (record { fit = tt; mode = λ e. refl })

  each-order : (k : ℕ) (cs : List (Option Context)) → ((i j : ℕ) → k + i ≡ j → IsInOrder system shift j (unwrap_or (get_or cs i None) no_server)) → AreInOrder system shift k cs
  each-order k [] h = tt
  each-order k (o ∷ cs) h = (h 0 k (omega arith), each-order (k + 1) cs (λ i j e. h (suc i) j (omega (arith, e))))

  -- the core as its state shows it is in order at each moment
  pub core-order : (t : ℕ) → IsCore system shift (clocks.core_shown system (clocks.world system t) c)
  core-order t =
      record {
        threads = threads-many t;
        contexts = each-order 0 (before t).contexts (λ i j e. let same : i ≡ j = omega (arith, e) in
            let P : ℕ → Type 0 = λ j. IsInOrder system shift j (context_of (before t) i) in subst P same (context-order t i));
      }
