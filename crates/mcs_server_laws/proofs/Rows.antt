-- Which parts of a turn emit rows of interrupts and of calls that wait: all other rows are plain.
use Rattle.std.proofs.Common.{◌≡◌, ℕ, Bool, true, false, cond, ◌==◌, List, [], ◌∷◌, refl, ap, ◌∙◌}
use Rattle.std.specs.Prelude.{filter, nat_lt, Option, Some, None}
use Rattle.std.proofs.lemmas.List.Elements.{filter-append}
use Rattle.mcs_ticks.specs.Queue.{Discipline}
use Rattle.mcs_ticks.specs.declared.queue.Queued.{Queued}
use Rattle.mcs_ticks.specs.declared.row.What.{What}
use Rattle.mcs_ticks.specs.declared.row.What.TheVariants as row
use Rattle.mcs_ticks.specs.declared.row.Why.{Why}
use Rattle.mcs_ticks.specs.declared.row.Why.TheVariants as why
use Rattle.mcs_control.specs.declared.config.Order.{Order}
use Rattle.mcs_control.specs.Context.{head_amount}
use Rattle.mcs_notify.specs.declared.posted.Waited.TheVariants.{Got, Blocks}
use Rattle.mcs_script.specs.declared.moved.Moved.TheVariants.{Next, RoundEnds, AllDone}
use Rattle.mcs_notify.specs.Note.{posted, waited}
use Rattle.mcs_notify.specs.declared.posted.Posted.{Posted}
use Rattle.mcs_notify.specs.declared.posted.Posted.TheVariants.{Woke, Held}
use Rattle.mcs_notify.specs.declared.posted.Waited.{Waited}
use Rattle.mcs_script.specs.declared.item.Item.{Item}
use Rattle.mcs_script.specs.declared.item.Item.TheVariants.{Compute, Signal, Wait, Yield, On, Spin, Enter, Leave}
use Rattle.mcs_script.specs.declared.moved.Moved.{Moved}
use Rattle.mcs_mail.specs.declared.mail.Mail.{Mail}
use Rattle.mcs_release.specs.Release.{is_due}
use Rattle.mcs_system.specs.System.{System, note_part}
use Rattle.mcs_core.specs.declared.standing.AfterItem.{AfterItem}
use Rattle.mcs_core.specs.declared.standing.AfterItem.TheVariants as after
use Rattle.mcs_core.specs.declared.standing.Chosen.{Chosen}
use Rattle.mcs_core.specs.Core.{Core, note_of, thread_of}
use Rattle.mcs_core.specs.Turn as turns
use Rattle.mcs_core.specs.Turn.{Turn, silent, says, ◌followed_by◌, each, is_for_now, stamped}

-- neither an interrupt nor the stop of a thread that calls a server
abbrev pub IsNoCall : Why → Type 0
IsNoCall why.Call = ⊥
IsNoCall _ = Unit {0}

abbrev pub IsPlain : What → Type 0
IsPlain (row.Interrupt source note badge) = ⊥
IsPlain (row.Stop thread cause charged until) = IsNoCall cause
IsPlain _ = Unit {0}

-- rows for which a test asks, which passes no plain row
module _ (p : What → Bool) (plain : (what : What) → IsPlain what → p what ≡ false) where
  abbrev pub told : List What → List What
  told rows = filter p rows

  pub none-one : (what : What) → IsPlain what → told (what ∷ []) ≡ []
  none-one what h = ap (λ b. cond b (what ∷ []) []) (plain what h)

  none-more : (what : What) (rows : List What) → IsPlain what → told rows ≡ [] → told (what ∷ rows) ≡ []
  none-more what rows h e = ap (λ b. cond b (what ∷ told rows) (told rows)) (plain what h) ∙ e

  pub none-then : (made : Turn) (part : Core → Turn) → told made.rows ≡ [] → told (part made.core).rows ≡ [] → told (made followed_by part).rows ≡ []
  none-then made part h q = filter-append p made.rows (part made.core).rows ∙ rw (h, q) refl

  none-if : (b : Bool) (u v : Turn) → told u.rows ≡ [] → told v.rows ≡ [] → told (cond b u v).rows ≡ []
  none-if true u v h q = h
  none-if false u v h q = q

  pub none-each : {A : Type 0} (part : A → Core → Turn) → ((x : A) (k : Core) → told (part x k).rows ≡ []) → (xs : List A) (k : Core) → told (each part xs k).rows ≡ []
  none-each part h [] k = refl
  none-each part h (x ∷ xs) k = none-then (part x k) (each part xs) (h x k) (none-each part h xs (part x k).core)

  -- plain rows alone
  module _ (queue : Discipline) (system : System) (c t : ℕ) where
    moves-none : (x : ℕ) (m : Moved) (k : Core) → told (turns.moves system t x m k).rows ≡ []
    moves-none x Next k = refl
    moves-none x RoundEnds k = none-one (turns.round_row system t x k) tt
    moves-none x AllDone k = none-one (turns.round_row system t x k) tt

    moves_on-none : (x : ℕ) (k : Core) → told (turns.moves_on system t x k).rows ≡ []
    moves_on-none x k = moves-none x (turns.move_of system x k) k

    resumes-none : (x : ℕ) (k : Core) → told (turns.resumes queue system t x k).rows ≡ []
    resumes-none x k =
        none-then (turns.moves_on system t x k) (λ core. silent (turns.enters_back queue x (turns.date_of system t x core) core)) (moves_on-none x k) refl

    let_in-none : (x : ℕ) (k : Core) → told (turns.let_in queue system t x k).rows ≡ []
    let_in-none x k =
        none-then (turns.moves_on system t x (turns.with_woken_context system t x k))
        (λ core. silent (turns.enters_front queue x (turns.date_of system t x core) core)) (moves_on-none x (turns.with_woken_context system t x k)) refl

    pub posts_as-none : (note : ℕ) (post : Posted) (k : Core) → told (turns.posts_as queue system t note post k).rows ≡ []
    posts_as-none note (Woke x word) k = none-more (row.Wake x note word (turns.woken_until system t x k)) _ tt (resumes-none x _)
    posts_as-none note (Held word) k = none-one (row.Hold note word) tt

    pub posts-none : (note badge : ℕ) (k : Core) → told (turns.posts queue system t note badge k).rows ≡ []
    posts-none note badge k = posts_as-none note (posted badge (note_of k note)) k

    frees_as-none : (server : ℕ) (post : Posted) (k : Core) → told (turns.frees_as queue system t server post k).rows ≡ []
    frees_as-none server (Woke x word) k = none-more (row.Wake x server word (turns.woken_until system t x k)) _ tt (let_in-none x _)
    frees_as-none server (Held word) k = refl

    frees-none : (x server : ℕ) (k : Core) → told (turns.frees queue system t x server k).rows ≡ []
    frees-none x server k = none-more (row.Signal x server 1) _ tt (frees_as-none server (posted 1 (note_of k server)) k)

    signals-none : (x note badge : ℕ) (k : Core) → told (turns.signals queue system c t x note badge k).rows ≡ []
    signals-none x note badge k =
        none-more (row.Signal x note badge) _ tt
        (none-if ((note_part system note).core == c) (turns.posts queue system t note badge k)
        (record { core = k; rows = []; mails = turns.mail_to system c t note badge ∷ [] }) (posts-none note badge k) refl)

    waits-none : (x note : ℕ) (w : Waited) (k : Core) → told (turns.waits_as system t x note w k).rows ≡ []
    waits-none x note (Got word) k = none-more (row.Got x note word) _ tt (moves_on-none x _)
    waits-none x note Blocks k = refl

    enters-none : (x server : ℕ) (w : Waited) (k : Core) → told (turns.enters_as system t x server w k).rows ≡ []
    enters-none x server (Got word) k = none-more (row.Got x server word) _ tt (moves_on-none x _)
    enters-none x server Blocks k = refl

    pub effect-none : (x : ℕ) (item : Option Item) (k : Core) → told (turns.takes_effect queue system c t x item k).rows ≡ []
    effect-none x (Some (Signal note badge)) k =
        none-then (turns.signals queue system c t x note badge k) (turns.moves_on system t x) (signals-none x note badge k) (moves_on-none x _)
    effect-none x (Some (Wait note)) k = waits-none x note (waited (note_of k note)) k
    effect-none x (Some (Compute ticks)) k = moves_on-none x k
    effect-none x (Some Yield) k = moves_on-none x k
    effect-none x (Some (On badges)) k = moves_on-none x k
    effect-none x (Some Spin) k = moves_on-none x k
    effect-none x (Some (Enter server priority)) k = enters-none x server (waited (note_of k server)) k
    effect-none x (Some (Leave server priority)) k =
        none-then (turns.frees queue system t x server k) (turns.moves_on system t x) (frees-none x server k) (moves_on-none x _)
    effect-none x None k = refl

    abbrev pub IsNoWait : AfterItem → Type 0
    IsNoWait after.Calls = ⊥
    IsNoWait _ = Unit {0}

    pub may_stop-none : (x using : ℕ) (cause : AfterItem) (k : Core) → IsNoWait cause → told (turns.may_stop queue system t x using cause k).rows ≡ []
    may_stop-none x using after.Ends k h = none-one (row.Stop x why.Done using None) tt
    may_stop-none x using after.Blocks k h = none-one (row.Stop x why.Wait using None) tt
    may_stop-none x using after.Calls k h = absurd h
    may_stop-none x using after.Yields k h = none-one (row.Stop x why.Yield _ _) tt
    may_stop-none x using after.GoesOn k h =
        none-if (using == head_amount (turns.its_context system x k)) (turns.stops_to_back queue system t x why.Spent using k) (silent k) (none-one (row.Stop x why.Spent _ _) tt) refl

    pub arrives-none : (mail : Mail) (k : Core) → told (turns.arrives queue system t mail k).rows ≡ []
    arrives-none mail k = none-more (row.Arrive mail.note mail.badge mail.maker) _ tt (posts-none mail.note mail.badge k)

    pub obeys-none : (order : Order) (k : Core) → told (turns.obeys queue system t order k).rows ≡ []
    obeys-none order k = none-more (row.Order order.context) _ tt (running k.running)
      where
        running : (o : Option Chosen) → told (turns.orders_running queue system t order o k).rows ≡ []
        running None = refl
        running (Some chosen) =
            none-if ((turns.part_of system chosen.thread).context == order.context)
            (turns.stops_to_front queue system t chosen.thread why.Order chosen.using (turns.applied t order (turns.charged system chosen.thread chosen.using k)))
            (silent (turns.applied t order k)) (none-one (row.Stop chosen.thread why.Order _ _) tt) refl

    pub releases-none : (k : Core) → told (turns.releases queue system t k).rows ≡ []
    releases-none k = none-each (turns.released queue) (λ due core. none-one (row.Release due.thread) tt) (filter (is_due t) k.releases) _

    pub preempts-none : (o : Option Chosen) (best : Option Queued) (k : Core) → told (turns.preempts_by queue system t o best k).rows ≡ []
    preempts-none None best k = refl
    preempts-none (Some chosen) None k = refl
    preempts-none (Some chosen) (Some best) k =
        none-if (nat_lt (thread_of k chosen.thread).place.priority best.priority)
        (turns.stops_to_front queue system t chosen.thread why.Preempt chosen.using (turns.charged system chosen.thread chosen.using k)) (silent k) (none-one (row.Stop chosen.thread why.Preempt _ _) tt) refl

    pub chooses-none : (o : Option Chosen) (best : Option Queued) (k : Core) → told (turns.chooses_of queue system t o best k).rows ≡ []
    chooses-none (Some chosen) best k = refl
    chooses-none None None k = refl
    chooses-none None (Some best) k = none-one (row.Run best.thread) tt
