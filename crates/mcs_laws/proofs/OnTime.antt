-- Threads are ready and run only when the dates of their contexts have come.
use Rattle.std.proofs.Common.{◌≡◌, ◌≢◌, ℕ, zero, suc, ◌+◌, ◌-◌, ◌<◌, ◌≤◌, ◌&&◌, ◌⊎◌, inl, inr, Bool, true, false, not, cond, List, [], ◌∷◌, ◌++◌, length, min, max, set, get_or, Option, Some, None, refl, sym, ap, subst, ◌∙◌, arith}
use Rattle.std.specs.Prelude.{filter, ◌==◌, nat_lt, nat_le}
use Rattle.std.specs.List.{AllByRecursion}
use Rattle.std.proofs.lemmas.Bool.{cases_lt}
use Rattle.std.proofs.lemmas.Bool.Decides.{nat_tests}
use Rattle.std.proofs.lemmas.List.{get_or_past}
use Rattle.std.proofs.Math.ListN.{length-set}
use Rattle.mcs_ticks.specs.Queue.{by_priority, first_of}
use Rattle.mcs_ticks.specs.declared.queue.Queued.{Queued}
use Rattle.mcs_ticks.specs.declared.row.Why.{Why}
use Rattle.mcs_ticks.specs.declared.row.Why.TheVariants as why
use Rattle.mcs_notify.specs.Note.{posted, after_post, waited, after_wait}
use Rattle.mcs_notify.specs.declared.posted.Posted.{Posted}
use Rattle.mcs_notify.specs.declared.posted.Posted.TheVariants.{Woke, Held}
use Rattle.mcs_notify.specs.declared.posted.Waited.{Waited}
use Rattle.mcs_notify.specs.declared.posted.Waited.TheVariants.{Got, Blocks}
use Rattle.mcs_release.specs.declared.dated.Dated.{Dated}
use Rattle.mcs_control.specs.declared.config.Config.{Config}
use Rattle.mcs_control.specs.declared.config.Order.{Order}
use Rattle.mcs_control.specs.declared.config.Mode.{Mode}
use Rattle.mcs_control.specs.declared.config.Mode.TheVariants as modes
use Rattle.mcs_control.specs.Context.{Context, Budget, context_charged, context_chosen, chosen_by, budget_unblocked, context_ordered, budget_ordered, context_ready, budget_ready, amount_of, moment_of, head_moment, head_amount}
use Rattle.mcs_control.specs.Context.Budget.{Dates, Slice}
use Rattle.mcs_refills.specs.Server as server
use Rattle.mcs_script.specs.declared.item.Item.{Item}
use Rattle.mcs_script.specs.declared.item.Item.TheVariants as items
use Rattle.mcs_script.specs.declared.item.Item.TheVariants.{Compute, Signal, Wait, Yield, Spin, Enter, Leave}
use Rattle.mcs_script.specs.declared.moved.Moved.{Moved}
use Rattle.mcs_script.specs.declared.moved.Moved.TheVariants.{Next, RoundEnds, AllDone}
use Rattle.mcs_mail.specs.declared.mail.Mail.{Mail}
use Rattle.mcs_core.specs.Alarms.{ringing, alarms_at}
use Rattle.mcs_core.specs.declared.alarm.Alarm.{Alarm}
use Rattle.mcs_core.specs.declared.standing.AfterItem.{AfterItem}
use Rattle.mcs_core.specs.declared.standing.AfterItem.TheVariants as after
use Rattle.mcs_core.specs.declared.standing.Chosen.{Chosen}
use Rattle.mcs_system.specs.System.{System, note_part, thread_part, context_part}
use Rattle.mcs_core.specs.Core.{Core, context_of, note_of, thread_of, with_note, off}
use Rattle.mcs_release.specs.Release.{is_due}
use Rattle.mcs_core.specs.Turn as turns
use Rattle.mcs_core.specs.Turn.{Turn, each, silent, says, ◌followed_by◌, is_for_now}
use Rattle.mcs_laws.specs.Changes.{GivesBudget, KeepsItsBudget, changed_by}
use Rattle.mcs_laws.specs.Changes.Change.{Charged}
use Rattle.mcs_laws.specs.Places.{times_running, places}
use Rattle.mcs_core.specs.Places.{times_queued, times_dated}
use Rattle.mcs_laws.specs.OnTime.{IsOnTime, RunsInTime}
use Rattle.mcs_laws.proofs.Kept.{head_amount-some, keeps-change, keeps-changes}
use Rattle.mcs_laws.proofs.Places as held
use Rattle.mcs_laws.proofs.Releases.{AreFrom, tick-from, interrupts-from, arrives-from, obeys-from}
use Rattle.mcs_laws.proofs.Traces as traces
use Rattle.mcs_laws.proofs.Traces.{Same, same, carry, set-same, set-other}
use Rattle.mcs_laws.proofs.Traces.Same.{Are, Differ}

-- a thread counts once at itself
pub one-same : (a b : ℕ) → a ≡ b → held.one b a ≡ 1
one-same a b e = grind (arith, nat_tests)

one-is : (a b : ℕ) → 1 ≤ held.one b a → a ≡ b
one-is a b l = by (a == b) refl l
  where
    equal : (a == b) ≡ true → a ≡ b
    equal e = grind (arith, nat_tests)

    by : (d : Bool) → (a == b) ≡ d → 1 ≤ cond d 1 0 → a ≡ b
    by true e l = equal e
    by false e l = absurd (omega (arith, l))

-- a context that is ready has its head come
ready-come : (t : ℕ) (context : Context) → context_ready t context ≡ true → head_moment context ≤ t
ready-come t context e = by context.budget e
  where
    within : (a b : ℕ) → nat_le a b ≡ true → a ≤ b
    within a b e = grind (arith, nat_tests)

    by : (budget : Budget) → budget_ready t budget ≡ true → moment_of budget ≤ t
    by (Dates dates) e = within (server.first_date dates) t e
    by (Slice left) e = omega arith

module _ (x : ℕ) where
  -- a thread without any of these places
  none-dated : (m : ℕ) (releases : List Dated) → times_dated x releases ≡ 0 → AllByRecursion (λ (dated : Dated). dated.thread ≡ x → m ≤ dated.date) releases
  none-dated m [] e = tt
  none-dated m (dated ∷ others) e =
      let first : times_dated x (dated ∷ others) ≡ held.one x dated.thread + times_dated x others = held.dated-cons x dated others in
      (λ own. absurd (omega (arith, one-same dated.thread x own, first, e)), none-dated m others (omega (arith, first, e)))

  pub absent : (m past : ℕ) (o : Option Chosen) (ready : List Queued) (releases : List Dated) →
      times_running x o ≡ 0 → times_queued x ready ≡ 0 → times_dated x releases ≡ 0 → IsOnTime x m past o ready releases
  absent m past o ready releases e f g = record { runs = runs o e; ready = λ l. absurd (omega (arith, l, f)); pends = none-dated m releases g }
    where
      runs : (o : Option Chosen) → times_running x o ≡ 0 → RunsInTime x m past o
      runs None e = tt
      runs (Some chosen) e = λ own. absurd (omega (arith, one-same chosen.thread x own, e))

  also-dated : (m y date : ℕ) (releases : List Dated) → AllByRecursion (λ (dated : Dated). dated.thread ≡ x → m ≤ dated.date) releases → (y ≡ x → m ≤ date) →
      AllByRecursion (λ (dated : Dated). dated.thread ≡ x → m ≤ dated.date) (releases ++ record { thread = y; date = date } ∷ [])
  also-dated m y date [] h f = (f, tt)
  also-dated m y date (dated ∷ others) h f = (h.0, also-dated m y date others h.1 f)

  also-queued : (m past y : ℕ) (before after : List Queued) → times_queued x after ≡ times_queued x before + held.one x y →
      (1 ≤ times_queued x before → m < past) → (y ≡ x → m < past) → 1 ≤ times_queued x after → m < past
  also-queued m past y before after e h f l = by (y == x) refl e
    where
      equal : (a b : ℕ) → (a == b) ≡ true → a ≡ b
      equal a b e = grind (arith, nat_tests)

      by : (d : Bool) → (y == x) ≡ d → times_queued x after ≡ times_queued x before + cond d 1 0 → m < past
      by true d e = f (equal y x d)
      by false d e = h (omega (arith, l, e))

-- the parts of a turn at t, for thread x
module _ (system : System) (t x : ℕ) where
  abbrev pub own_context : ℕ
  own_context = (thread_part system x).context

  -- the thread has the context
  abbrev pub Owns : ℕ → Type 0
  Owns y = (thread_part system y).context ≡ own_context

  abbrev pub head : Core → ℕ
  head k = head_moment (context_of k own_context)

  -- on time after the moment
  abbrev pub OnTime : Core → Type 0
  OnTime k = IsOnTime x (head k) (suc t) k.running k.ready k.releases

  -- no other thread that has the context has a place, and it has one at most
  abbrev pub IsAlone : Core → Type 0
  IsAlone k = (y : ℕ) → Owns y → places y k ≤ held.one x y

  -- a thread that stops or wakes and has the context is the thread, and it is in no queue
  pub record IsFree (y : ℕ) (k : Core) : Type 0 where
    pub same : y ≡ x
    pub ready : times_queued x k.ready ≡ 0
    pub releases : times_dated x k.releases ≡ 0

  alone-less : (a b : Core) → ((y : ℕ) → places y b ≤ places y a) → IsAlone a → IsAlone b
  alone-less a b l h y own = omega (arith, l y, h y own)

  other-moment : (y : ℕ) (k : Core) (context : Context) → (thread_part system y).context ≢ own_context →
      context_of (turns.with_its_context system y context k) own_context ≡ context_of k own_context
  other-moment y k context e = set-other own_context (thread_part system y).context k.contexts context e

  moved : (a b past : ℕ) (o : Option Chosen) (ready : List Queued) (releases : List Dated) → a ≡ b → IsOnTime x a past o ready releases → IsOnTime x b past o ready releases
  moved a b past o ready releases e h = let P : ℕ → Type 0 = λ m. IsOnTime x m past o ready releases in subst P e h

  -- the place that a thread enters
  abbrev pub Fits : ℕ → Option ℕ → Type 0
  Fits m None = m < suc t
  Fits m (Some date) = m ≤ date

  fits : (y : ℕ) (k : Core) → y ≡ x → Fits (head k) (turns.date_of system t y k)
  fits y k e = let P : ℕ → Type 0 = λ z. Fits (head k) (turns.date_of system t z k) in subst P (sym e) (by (context_ready t (context_of k own_context)) refl)
    where
      by : (b : Bool) → context_ready t (context_of k own_context) ≡ b → Fits (head k) (cond b None (Some (head k)))
      by true f = omega (arith, ready-come t (context_of k own_context) f)
      by false f = omega arith

  enters_back-on_time : (y : ℕ) (o : Option ℕ) (k : Core) → (y ≡ x → Fits (head k) o) → OnTime k → OnTime (turns.enters_back by_priority y o k)
  enters_back-on_time y (Some date) k f h = record { runs = h.runs; ready = h.ready; pends = also-dated x (head k) y date k.releases h.pends f }
  enters_back-on_time y None k f h =
      record {
        runs = h.runs;
        ready = also-queued x (head k) (suc t) y k.ready (turns.enters_back by_priority y None k).ready (held.back-queued x (turns.queued y k) k.ready) h.ready f;
        pends = h.pends;
      }

  enters_front-on_time : (y : ℕ) (o : Option ℕ) (k : Core) → (y ≡ x → Fits (head k) o) → OnTime k → OnTime (turns.enters_front by_priority y o k)
  enters_front-on_time y (Some date) k f h = record { runs = h.runs; ready = h.ready; pends = also-dated x (head k) y date k.releases h.pends f }
  enters_front-on_time y None k f h =
      record {
        runs = h.runs;
        ready = also-queued x (head k) (suc t) y k.ready (turns.enters_front by_priority y None k).ready (held.front-queued x (turns.queued y k) k.ready) h.ready f;
        pends = h.pends;
      }

  -- a thread moves on in its script
  moves-on_time : (y : ℕ) (m : Moved) (k : Core) → OnTime k → OnTime (turns.moves system t y m k).core
  moves-on_time y Next k h = h
  moves-on_time y RoundEnds k h = h
  moves-on_time y AllDone k h = h

  -- a thread wakes
  wakes-on_time : (y word : ℕ) (k : Core) → (Owns y → places x k ≡ 0) → OnTime k → OnTime (turns.wakes by_priority system t y word k).core
  wakes-on_time y word k none h = enters_back-on_time y (turns.date_of system t y after) after (fits y after) (moves-on_time y (turns.move_of system y given) given (by (same (thread_part system y).context own_context)))
    where
      woken : Core
      woken = turns.with_woken_context system t y k

      given : Core
      given = turns.given system t y word (turns.with_woken_context system t y k)

      after : Core
      after = (turns.moves_on system t y given).core

      by : Same (thread_part system y).context own_context → OnTime (turns.with_woken_context system t y k)
      by (Are e own) = absent x _ (suc t) k.running k.ready k.releases (omega (arith, none own)) (omega (arith, none own)) (omega (arith, none own))
      by (Differ e other) = moved (head k) (head (turns.with_woken_context system t y k)) (suc t) k.running k.ready k.releases (ap head_moment (sym (other-moment y k _ other))) h

  let_in-on_time : (y : ℕ) (k : Core) → (Owns y → places x k ≡ 0) → OnTime k → OnTime (turns.let_in by_priority system t y k).core
  let_in-on_time y k none h = enters_front-on_time y (turns.date_of system t y after) after (fits y after) (moves-on_time y (turns.move_of system y woken) woken (by (same (thread_part system y).context own_context)))
    where
      woken : Core
      woken = turns.with_woken_context system t y k

      after : Core
      after = (turns.moves_on system t y woken).core

      by : Same (thread_part system y).context own_context → OnTime (turns.with_woken_context system t y k)
      by (Are e own) = absent x _ (suc t) k.running k.ready k.releases (omega (arith, none own)) (omega (arith, none own)) (omega (arith, none own))
      by (Differ e other) = moved (head k) (head (turns.with_woken_context system t y k)) (suc t) k.running k.ready k.releases (ap head_moment (sym (other-moment y k _ other))) h

  -- a post: whom it wakes leaves the waiters
  woke-leaves : (note badge y word z : ℕ) (k : Core) → posted badge (note_of k note) ≡ Woke y word →
      places z (with_note note (after_post (Woke y word) (note_of k note)) k) + held.one z y ≤ places z k
  woke-leaves note badge y word z k e =
      omega (
        arith,
        held.set-waiting z k.notes note (after_post (Woke y word) (note_of k note)),
        held.without-queued z y (note_of k note).waiters (held.woke y word badge (note_of k note).word (note_of k note).waiters e),
      )

  woke-none : (note badge y word : ℕ) (k : Core) → posted badge (note_of k note) ≡ Woke y word → IsAlone k → Owns y →
      places x (with_note note (after_post (Woke y word) (note_of k note)) k) ≡ 0
  woke-none note badge y word k e alone own =
      let itself : held.one y y ≡ 1 = one-same y y refl in
      let is : y ≡ x = one-is y x (omega (arith, alone y own, woke-leaves note badge y word y k e, itself)) in
      omega (arith, alone x refl, woke-leaves note badge y word x k e, one-same y x is, one-same x x refl)

  posts_as-on_time : (note badge : ℕ) (p : Posted) (k : Core) → posted badge (note_of k note) ≡ p → IsAlone k → OnTime k → OnTime (turns.posts_as by_priority system t note p k).core
  posts_as-on_time note badge (Woke y word) k e alone h =
      wakes-on_time y word (with_note note (after_post (Woke y word) (note_of k note)) k) (woke-none note badge y word k e alone) h
  posts_as-on_time note badge (Held word) k e alone h = h

  posts-on_time : (note badge : ℕ) (k : Core) → IsAlone k → OnTime k → OnTime (turns.posts by_priority system t note badge k).core
  posts-on_time note badge k alone h = posts_as-on_time note badge (posted badge (note_of k note)) k refl alone h

  frees_as-on_time : (server : ℕ) (p : Posted) (k : Core) → posted 1 (note_of k server) ≡ p → IsAlone k → OnTime k → OnTime (turns.frees_as by_priority system t server p k).core
  frees_as-on_time server (Woke y word) k e alone h =
      let_in-on_time y (with_note server (after_post (Woke y word) (note_of k server)) k) (woke-none server 1 y word k e alone) h
  frees_as-on_time server (Held word) k e alone h = h

  frees-on_time : (y server : ℕ) (k : Core) → IsAlone k → OnTime k → OnTime (turns.frees by_priority system t y server k).core
  frees-on_time y server k alone h = frees_as-on_time server (posted 1 (note_of k server)) k refl alone h

  each-interrupts-on_time : (alarms : List Alarm) (k : Core) → IsAlone k → OnTime k → OnTime (each (turns.interrupts by_priority system t) alarms k).core
  each-interrupts-on_time [] k alone h = h
  each-interrupts-on_time (alarm ∷ alarms) k alone h =
      let after = (turns.interrupts by_priority system t alarm k).core in
      each-interrupts-on_time alarms after (alone-less k after (λ y. held.interrupts-held system t y alarm k) alone) (posts-on_time alarm.note alarm.badge k alone h)

  arrives-on_time : (mail : Mail) (k : Core) → IsAlone k → OnTime k → OnTime (turns.arrives by_priority system t mail k).core
  arrives-on_time mail k alone h = posts-on_time mail.note mail.badge k alone h

  each-arrives-on_time : (mails : List Mail) (k : Core) → IsAlone k → OnTime k → OnTime (each (turns.arrives by_priority system t) mails k).core
  each-arrives-on_time [] k alone h = h
  each-arrives-on_time (mail ∷ mails) k alone h =
      let after = (turns.arrives by_priority system t mail k).core in
      each-arrives-on_time mails after (alone-less k after (λ y. held.arrives-held system t y mail k) alone) (arrives-on_time mail k alone h)

  -- the running thread stops
  runs-alone : (y using : ℕ) (k : Core) → k.running ≡ Some (record { thread = y; using = using }) → IsAlone k → Owns y → IsFree y k
  runs-alone y using k e alone own =
      let runs : (z : ℕ) → times_running z k.running ≡ held.one z y = λ z. ap (times_running z) e in
      let is : y ≡ x = one-is y x (omega (arith, alone y own, runs y, one-same y y refl)) in
      record {
        same = is;
        ready = omega (arith, alone x refl, runs x, one-same y x is, one-same x x refl);
        releases = omega (arith, alone x refl, runs x, one-same y x is, one-same x x refl);
      }

  charged-on_time : (y n : ℕ) (k : Core) → (Owns y → IsFree y k) → OnTime k → OnTime (off (turns.charged system y n k))
  charged-on_time y n k free h = by (same (thread_part system y).context own_context)
    where
      by : Same (thread_part system y).context own_context → OnTime (off (turns.charged system y n k))
      by (Are e own) = let f = free own in absent x (head (turns.charged system y n k)) (suc t) None k.ready k.releases refl f.ready f.releases
      by (Differ e other) =
          moved (head k) (head (turns.charged system y n k)) (suc t) None k.ready k.releases (ap head_moment (sym (other-moment y k _ other)))
          (record { runs = tt; ready = h.ready; pends = h.pends })

  stops_to_back-on_time : (y : ℕ) (cause : Why) (n : ℕ) (k : Core) → (Owns y → IsFree y k) → OnTime k → OnTime (turns.stops_to_back by_priority system t y cause n k).core
  stops_to_back-on_time y cause n k free h =
      let after = turns.charged system y n k in
      enters_back-on_time y (turns.date_of system t y after) (off after) (fits y (off after)) (charged-on_time y n k free h)

  stops_to_front-on_time : (y : ℕ) (cause : Why) (n : ℕ) (k : Core) → OnTime (off k) → OnTime (turns.stops_to_front by_priority system t y cause n k).core
  stops_to_front-on_time y cause n k h = enters_front-on_time y (turns.date_of system t y k) (off k) (fits y (off k)) h

  -- an order for another context
  applied-moment : (order : Order) (k : Core) → order.context ≢ own_context → head k ≡ head (turns.applied t order k)
  applied-moment order k e = ap head_moment (sym (set-other own_context order.context k.contexts _ e))

  applied-on_time : (order : Order) (k : Core) → order.context ≢ own_context → OnTime k → OnTime (turns.applied t order k)
  applied-on_time order k e h = moved (head k) (head (turns.applied t order k)) (suc t) k.running k.ready k.releases (applied-moment order k e) h

  by_test : (b : Bool) (u v : Turn) → OnTime u.core → OnTime v.core → OnTime (cond b u v).core
  by_test true u v p q = p
  by_test false u v p q = q

  orders_running-on_time : (order : Order) (o : Option Chosen) (k : Core) → k.running ≡ o → order.context ≢ own_context → IsAlone k → OnTime k →
      OnTime (turns.orders_running by_priority system t order o k).core
  orders_running-on_time order None k e other alone h = applied-on_time order k other h
  orders_running-on_time order (Some chosen) k e other alone h =
      let charged = turns.charged system chosen.thread chosen.using k in
      by_test ((turns.part_of system chosen.thread).context == order.context)
      (turns.stops_to_front by_priority system t chosen.thread why.Order chosen.using (turns.applied t order charged))
      (silent (turns.applied t order k))
      (stops_to_front-on_time chosen.thread why.Order chosen.using (turns.applied t order charged)
      (applied-on_time order (off charged) other (charged-on_time chosen.thread chosen.using k (runs-alone chosen.thread chosen.using k e alone) h)))
      (applied-on_time order k other h)

  -- releases
  abbrev AreNotBefore : ℕ → List Dated → Type 0
  AreNotBefore m releases = AllByRecursion (λ (dated : Dated). dated.thread ≡ x → m ≤ dated.date) releases

  abbrev HaveCome : ℕ → List Dated → Type 0
  HaveCome m releases = AllByRecursion (λ (dated : Dated). dated.thread ≡ x → m < suc t) releases

  due-come : (m : ℕ) (releases : List Dated) → AreNotBefore m releases → HaveCome m (filter (is_due t) releases)
  due-come m [] h = tt
  due-come m (dated ∷ others) h = by (nat_le dated.date t) refl (due-come m others h.1)
    where
      within : (a b : ℕ) → nat_le a b ≡ true → a ≤ b
      within a b e = grind (arith, nat_tests)

      by : (b : Bool) → nat_le dated.date t ≡ b → HaveCome m (filter (is_due t) others) →
          HaveCome m (cond b (dated ∷ filter (is_due t) others) (filter (is_due t) others))
      by true e i = (λ own. omega (arith, within dated.date t e, h.0 own), i)
      by false e i = i

  left-not_before : (p : Dated → Bool) (m : ℕ) (releases : List Dated) → AreNotBefore m releases → AreNotBefore m (filter p releases)
  left-not_before p m [] h = tt
  left-not_before p m (dated ∷ others) h = by (p dated) (left-not_before p m others h.1)
    where
      by : (b : Bool) → AreNotBefore m (filter p others) → AreNotBefore m (cond b (dated ∷ filter p others) (filter p others))
      by true i = (h.0, i)
      by false i = i

  each-released-on_time : (due : List Dated) (k : Core) → HaveCome (head k) due → OnTime k → OnTime (each (turns.released by_priority) due k).core
  each-released-on_time [] k come h = h
  each-released-on_time (dated ∷ due) k come h =
      each-released-on_time due (turns.enters_back by_priority dated.thread None k) come.1 (enters_back-on_time dated.thread None k come.0 h)

  releases-on_time : (k : Core) → OnTime k → OnTime (turns.releases by_priority system t k).core
  releases-on_time k h =
      each-released-on_time (filter (is_due t) k.releases) (record k { releases = filter (λ dated. not (is_due t dated)) k.releases })
      (due-come (head k) k.releases h.pends)
      (record { runs = h.runs; ready = h.ready; pends = left-not_before (λ dated. not (is_due t dated)) (head k) k.releases h.pends })

  -- the choice
  preempts_by-on_time : (o : Option Chosen) (best : Option Queued) (k : Core) → k.running ≡ o → IsAlone k → OnTime k → OnTime (turns.preempts_by by_priority system t o best k).core
  preempts_by-on_time (Some chosen) (Some best) k e alone h =
      let charged = turns.charged system chosen.thread chosen.using k in
      by_test (nat_lt (thread_of k chosen.thread).place.priority best.priority)
      (turns.stops_to_front by_priority system t chosen.thread why.Preempt chosen.using charged)
      (silent k)
      (stops_to_front-on_time chosen.thread why.Preempt chosen.using charged (charged-on_time chosen.thread chosen.using k (runs-alone chosen.thread chosen.using k e alone) h))
      h
  preempts_by-on_time (Some chosen) None k e alone h = h
  preempts_by-on_time None best k e alone h = h

  -- the context of a thread that is chosen
  chosen-moment : (mode : Mode) (context : Context) → head_moment context ≤ t → head_moment (chosen_by mode t context) ≤ t
  chosen-moment modes.Sporadic context l = l
  chosen-moment modes.Bandwidth context l = by context.budget l
    where
      by : (budget : Budget) → moment_of budget ≤ t → moment_of (budget_unblocked t budget) ≤ t
      by (Dates []) l = l
      by (Dates (date ∷ dates)) l = omega (arith, l)
      by (Slice left) l = l

  chosen-head : (y : ℕ) (k : Core) → Owns y → head k ≤ t → head (turns.with_chosen_context system t y k) ≤ t
  chosen-head y k own l = by (cases_lt own_context (length k.contexts))
    where
      n : ℕ
      n = (thread_part system y).context

      now : Context
      now = turns.its_context system y k

      next : Context
      next = context_chosen t (turns.its_context system y k)

      come : head_moment next ≤ t
      come = chosen-moment now.mode now (let P : ℕ → Type 0 = λ m. head_moment (context_of k m) ≤ t in subst P (sym own) l)

      past : length k.contexts ≤ own_context → get_or (set k.contexts n (Some next)) own_context None ≡ None
      past m = get_or_past (set k.contexts n (Some next)) own_context None (omega (arith, length-set k.contexts n (Some next), m))

      by : (own_context < length k.contexts) ⊎ (length k.contexts ≤ own_context) → head (turns.with_chosen_context system t y k) ≤ t
      by (inl less) = rw (set-same own_context n k.contexts next own less) come
      by (inr more) = rw (past more) (omega arith)

  chosen-on_time : (best : Queued) (others : List Queued) (k : Core) → k.running ≡ None → k.ready ≡ best ∷ others → IsAlone k → OnTime k → OnTime (turns.with_chosen_context system t best.thread k)
  chosen-on_time best others k idle e alone h = by (same (thread_part system best.thread).context own_context)
    where
      after : Core
      after = turns.with_chosen_context system t best.thread k

      queued : (y : ℕ) → times_queued y k.ready ≡ held.one y best.thread + times_queued y others
      queued y = ap (times_queued y) e ∙ held.queued-cons y best others

      runs : (o : Option Chosen) → o ≡ None → (m : ℕ) → RunsInTime x m (suc t) o
      runs None f m = tt
      runs (Some chosen) f m = cc

      its : Owns best.thread → best.thread ≡ x
      its own = one-is best.thread x (omega (arith, alone best.thread own, queued best.thread, one-same best.thread best.thread refl))

      by : Same (thread_part system best.thread).context own_context → OnTime (turns.with_chosen_context system t best.thread k)
      by (Are f own) =
          let here : 1 ≤ times_queued x k.ready = omega (arith, queued x, one-same best.thread x (its own)) in
          let come : head k ≤ t = omega (arith, h.ready here) in
          let next = chosen-head best.thread k own come in
          record {
            runs = runs k.running idle (head after);
            ready = λ l. omega (arith, next);
            pends = none-dated x (head after) k.releases (omega (arith, alone x refl, here, one-same x x refl));
          }
      by (Differ f other) =
          moved (head k) (head (turns.with_chosen_context system t best.thread k)) (suc t) k.running k.ready k.releases (ap head_moment (sym (other-moment best.thread k _ other))) h

  chooses_of-on_time : (o : Option Chosen) (ready : List Queued) (k : Core) → k.running ≡ o → k.ready ≡ ready → IsAlone k → OnTime k →
      OnTime (turns.chooses_of by_priority system t o (first_of ready) k).core
  chooses_of-on_time (Some chosen) ready k r e alone h = h
  chooses_of-on_time None [] k r e alone h = h
  chooses_of-on_time None (best ∷ others) k r e alone h =
      let chosen : times_queued x k.ready ≡ held.one x best.thread + times_queued x others = ap (times_queued x) e ∙ held.queued-cons x best others in
      let g = chosen-on_time best others k r e alone h in
      record {
        runs = λ own. omega (arith, g.ready (omega (arith, chosen, one-same best.thread x own)));
        ready = λ l. g.ready (omega (arith, chosen, rest l));
        pends = g.pends;
      }
    where
      rest : 1 ≤ times_queued x (turns.chooses_of by_priority system t None (Some best) k).core.ready → 1 ≤ times_queued x others
      rest l = rw e at l

-- the end of the tick on core c
module _ (system : System) (c t x : ℕ) where
  abbrev On : Core → Type 0
  On k = OnTime system t x k

  abbrev Alone : Core → Type 0
  Alone k = IsAlone system t x k

  abbrev Free : ℕ → Core → Type 0
  Free y k = Owns system t x y → IsFree system t x y k

  signals-on_time : (y note badge : ℕ) (k : Core) → Alone k → On k → On (turns.signals by_priority system c t y note badge k).core
  signals-on_time y note badge k alone h =
      by_test system t x ((note_part system note).core == c) (turns.posts by_priority system t note badge k)
      (record { core = k; rows = []; mails = turns.mail_to system c t note badge ∷ [] })
      (posts-on_time system t x note badge k alone h) h

  waits_as-on_time : (y note : ℕ) (w : Waited) (k : Core) → On k → On (turns.waits_as system t y note w k).core
  waits_as-on_time y note (Got word) k h =
      let given = turns.given system t y word (with_note note (after_wait (Got word) (turns.queued y k) (note_of k note)) k) in
      moves-on_time system t x y (turns.move_of system y given) given h
  waits_as-on_time y note Blocks k h = h

  takes_effect-on_time : (y : ℕ) (item : Option Item) (k : Core) → Alone k → On k → On (turns.takes_effect by_priority system c t y item k).core
  takes_effect-on_time y (Some (Signal note badge)) k alone h =
      let sent = (turns.signals by_priority system c t y note badge k).core in
      moves-on_time system t x y (turns.move_of system y sent) sent (signals-on_time y note badge k alone h)
  takes_effect-on_time y (Some (Wait note)) k alone h = waits_as-on_time y note (waited (note_of k note)) k h
  takes_effect-on_time y (Some (Compute ticks)) k alone h = moves-on_time system t x y (turns.move_of system y k) k h
  takes_effect-on_time y (Some Yield) k alone h = moves-on_time system t x y (turns.move_of system y k) k h
  takes_effect-on_time y (Some (items.On badges)) k alone h = moves-on_time system t x y (turns.move_of system y k) k h
  takes_effect-on_time y (Some Spin) k alone h = moves-on_time system t x y (turns.move_of system y k) k h
  takes_effect-on_time y (Some (Enter server priority)) k alone h = by (waited (note_of k server))
    where
      by : (w : Waited) → On (turns.enters_as system t y server w k).core
      by (Got word) =
          let taken = with_note server (after_wait (Got word) (turns.queued y k) (note_of k server)) k in
          moves-on_time system t x y (turns.move_of system y taken) taken h
      by Blocks = h
  takes_effect-on_time y (Some (Leave server priority)) k alone h =
      let freed = (turns.frees by_priority system t y server k).core in
      moves-on_time system t x y (turns.move_of system y freed) freed (frees-on_time system t x y server k alone h)
  takes_effect-on_time y None k alone h = h

  -- the thread that runs is in no queue after the effect of its item
  still-free : (y using : ℕ) (k after : Core) → k.running ≡ Some (record { thread = y; using = using }) → Alone k → after.running ≡ k.running → ((z : ℕ) → places z after ≤ places z k) → Free y after
  still-free y using k after e alone f l = runs-alone system t x y using after (f ∙ e) (alone-less system t x k after l alone)

  moves_on-free : (y using : ℕ) (k from : Core) → k.running ≡ Some (record { thread = y; using = using }) → Alone k → from.running ≡ k.running → ((z : ℕ) → places z from ≤ places z k) →
      Free y (turns.moves_on system t y from).core
  moves_on-free y using k from e alone f l =
      still-free y using k (turns.moves_on system t y from).core e alone (held.moves-running system t y y (turns.move_of system y from) from ∙ f)
      (λ z. omega (arith, held.moves_on-held system c t z y from, l z))

  waits_as-free : (y using note : ℕ) (w : Waited) (k : Core) → k.running ≡ Some (record { thread = y; using = using }) → Alone k → Free y (turns.waits_as system t y note w k).core
  waits_as-free y using note (Got word) k e alone =
      let given = turns.given system t y word (with_note note (after_wait (Got word) (turns.queued y k) (note_of k note)) k) in
      still-free y using k (turns.waits_as system t y note (Got word) k).core e alone (held.moves-running system t y y (turns.move_of system y given) given) (λ z. held.waits_as-got system c t z y note word k)
  waits_as-free y using note Blocks k e alone = λ own. let f = runs-alone system t x y using k e alone own in record { same = f.same; ready = f.ready; releases = f.releases }

  effect-free : (y using : ℕ) (item : Option Item) (k : Core) → k.running ≡ Some (record { thread = y; using = using }) → Alone k → Free y (turns.takes_effect by_priority system c t y item k).core
  effect-free y using (Some (Signal note badge)) k e alone =
      moves_on-free y using k (turns.signals by_priority system c t y note badge k).core e alone (held.signals-running system c t y y note badge k) (λ z. held.signals-held system c t z y note badge k)
  effect-free y using (Some (Wait note)) k e alone = waits_as-free y using note (waited (note_of k note)) k e alone
  effect-free y using (Some (Compute ticks)) k e alone = moves_on-free y using k k e alone refl (λ z. omega arith)
  effect-free y using (Some Yield) k e alone = moves_on-free y using k k e alone refl (λ z. omega arith)
  effect-free y using (Some (items.On badges)) k e alone = moves_on-free y using k k e alone refl (λ z. omega arith)
  effect-free y using (Some Spin) k e alone = moves_on-free y using k k e alone refl (λ z. omega arith)
  effect-free y using (Some (Enter server priority)) k e alone = by (waited (note_of k server))
    where
      by : (w : Waited) → Free y (turns.enters_as system t y server w k).core
      by (Got word) =
          let taken = with_note server (after_wait (Got word) (turns.queued y k) (note_of k server)) k in
          still-free y using k (turns.enters_as system t y server (Got word) k).core e alone (held.moves-running system t y y (turns.move_of system y taken) taken) (λ z. held.enters_as-got system c t z y server word k)
      by Blocks = λ own. let f = runs-alone system t x y using k e alone own in record { same = f.same; ready = f.ready; releases = f.releases }
  effect-free y using (Some (Leave server priority)) k e alone =
      moves_on-free y using k (turns.frees by_priority system t y server k).core e alone (held.frees-running system t y y server k) (λ z. held.frees-held system t z y server k)
  effect-free y using None k e alone = runs-alone system t x y using k e alone

  spent-on_time : (y using : ℕ) (k : Core) → Free y k → On k → On (turns.may_stop by_priority system t y using after.GoesOn k).core
  spent-on_time y using k free h =
      by_test system t x (using == head_amount (turns.its_context system y k)) (turns.stops_to_back by_priority system t y why.Spent using k) (silent k)
      (stops_to_back-on_time system t x y why.Spent using k free h) h

  may_stop-on_time : (y using : ℕ) (cause : AfterItem) (k : Core) → Free y k → On k → On (turns.may_stop by_priority system t y using cause k).core
  may_stop-on_time y using after.Ends k free h = charged-on_time system t x y using k free h
  may_stop-on_time y using after.Blocks k free h = charged-on_time system t x y using k free h
  may_stop-on_time y using after.Calls k free h = charged-on_time system t x y using k free h
  may_stop-on_time y using after.Yields k free h = stops_to_back-on_time system t x y why.Yield (head_amount (turns.its_context system y k)) k free h
  may_stop-on_time y using after.GoesOn k free h = spent-on_time y using k free h

  after_count-on_time : (y using : ℕ) (k : Core) → k.running ≡ Some (record { thread = y; using = using }) → Alone k → On k → On (turns.after_count by_priority system c t y using k).core
  after_count-on_time y using k e alone h =
      let item = turns.item_of system y k in
      by_test system t x ((thread_of k y).place.left == 0) (turns.finishes by_priority system c t y using item k) (turns.may_stop by_priority system t y using after.GoesOn k)
      (may_stop-on_time y using (turns.after_item system y item k) (turns.takes_effect by_priority system c t y item k).core (effect-free y using item k e alone) (takes_effect-on_time y item k alone h))
      (spent-on_time y using k (runs-alone system t x y using k e alone) h)

  -- before the turn the core is on time up to now, and after the end of the tick for one moment more
  abbrev pub WasOnTime : Core → Type 0
  WasOnTime k = IsOnTime x (head system t x k) t k.running k.ready k.releases

  tick_of-on_time : (o : Option Chosen) (k : Core) → k.running ≡ o → Alone k → WasOnTime k → On (turns.tick_of by_priority system c t o k).core
  tick_of-on_time None k e alone h = record { runs = idle k.running e; ready = λ l. omega (arith, h.ready l); pends = h.pends }
    where
      idle : (o : Option Chosen) → o ≡ None → RunsInTime x (head system t x k) (suc t) o
      idle o e = rw e tt
  tick_of-on_time (Some chosen) k e alone h =
      after_count-on_time chosen.thread (chosen.using + 1) (turns.counts chosen k) refl counted
      (record { runs = more; ready = λ l. omega (arith, h.ready l); pends = h.pends })
    where
      more : chosen.thread ≡ x → head system t x k + (chosen.using + 1) < suc t
      more own = omega (arith, before own)
        where
          before : chosen.thread ≡ x → head system t x k + chosen.using < t
          before = rw e at h.runs

      counted : Alone (turns.counts chosen k)
      counted z own = omega (arith, same z, alone z own)
        where
          same : (z : ℕ) → times_running z (Some (record { thread = chosen.thread; using = chosen.using + 1 })) ≡ times_running z k.running
          same z = rw e refl

  -- what is known of the thread's context and of the release queue between the parts of the turn
  record IsGood (k : Core) : Type 0 where
    inside : own_context system t x < length k.contexts
    keeps : KeepsItsBudget (context_of k (own_context system t x))
    uses : traces.Uses by_priority system c t (own_context system t x) 1 1 0 k.running (context_of k (own_context system t x))
    dates : AreFrom t k.releases

  -- an order moves the head to now at most, and no other head
  reconfigured-head : (budget period : ℕ) (dates : List ℕ) (m : ℕ) → 1 ≤ server.head_amount dates → 1 ≤ budget → server.first_date dates ≤ m → t ≤ m →
      server.first_date (server.reconfigured t budget period dates) ≤ m
  reconfigured-head budget period dates m some gives l now = by (min (server.head_amount dates) budget) (omega (arith, some, gives))
    where
      begins : ℕ
      begins = max (server.first_date dates) t

      by : (amount : ℕ) → 1 ≤ amount → server.first_date (server.dates_from begins amount ++ server.dates_from (begins + period - (budget - amount)) (budget - amount)) ≤ m
      by zero p = absurd (omega (arith, p))
      by (suc amount) p = omega (arith, l, now)

  ordered-head : (config : Config) (context : Context) (m : ℕ) → GivesBudget config → KeepsItsBudget context → head_moment context ≤ m → t ≤ m →
      head_moment (context_ordered t config context) ≤ m
  ordered-head config context m gives keeps l now = by context.budget (head_amount-some context keeps) l
    where
      by : (budget : Budget) → 1 ≤ amount_of budget → moment_of budget ≤ m → moment_of (budget_ordered t config budget) ≤ m
      by (Dates dates) some l = reconfigured-head config.budget config.period dates m some gives.some l now
      by (Slice left) some l = omega arith

  -- an order for the thread's context
  module _ (order : Order) (gives : GivesBudget order.config) (is_own : order.context ≡ own_context system t x) where
    abbrev after_order : Core → Core
    after_order k = turns.applied t order k

    own-head : (k : Core) (m : ℕ) → own_context system t x < length k.contexts → KeepsItsBudget (context_of k (own_context system t x)) → head system t x k ≤ m → t ≤ m →
        head system t x (after_order k) ≤ m
    own-head k m inside keeps l now = rw (set-same (own_context system t x) order.context k.contexts next is_own inside) come
      where
        next : Context
        next = context_ordered t order.config (context_of k order.context)

        come : head_moment (context_ordered t order.config (context_of k order.context)) ≤ m
        come =
            let P : ℕ → Type 0 = λ n. head_moment (context_ordered t order.config (context_of k n)) ≤ m in
            subst P (sym is_own) (ordered-head order.config (context_of k (own_context system t x)) m gives keeps l now)

    -- a date that has not passed is not before the moved head
    still-dated : (a b : ℕ) (releases : List Dated) → ((date : ℕ) → a ≤ date → t ≤ date → b ≤ date) → AllByRecursion (λ (dated : Dated). dated.thread ≡ x → a ≤ dated.date) releases → AreFrom t releases →
        AllByRecursion (λ (dated : Dated). dated.thread ≡ x → b ≤ dated.date) releases
    still-dated a b [] f h from = tt
    still-dated a b (dated ∷ others) f h from = (λ own. f dated.date (h.0 own) from.0, still-dated a b others f h.1 from.1)

    applied-own : (k : Core) → own_context system t x < length k.contexts → KeepsItsBudget (context_of k (own_context system t x)) → AreFrom t k.releases →
        RunsInTime x (head system t x (after_order k)) (suc t) k.running → On k → On (after_order k)
    applied-own k inside keeps from runs h =
        record {
          runs = runs;
          ready = λ l. omega (arith, own-head k t inside keeps (omega (arith, h.ready l)) (omega arith));
          pends = still-dated (head system t x k) (head system t x (after_order k)) k.releases (λ date. own-head k date inside keeps) h.pends from;
        }

    nobody : (m : ℕ) (o : Option Chosen) → o ≡ None → RunsInTime x m (suc t) o
    nobody m o e = rw e tt

    -- the context of the thread that an order stops
    charged-keeps : (y using : ℕ) (k : Core) → k.running ≡ Some (record { thread = y; using = using }) → Owns system t x y → IsGood k →
        KeepsItsBudget (context_of (turns.charged system y using k) (own_context system t x))
    charged-keeps y using k e own good =
        carry KeepsItsBudget (context_charged using system.min_budget (turns.its_context system y k)) (context_of (turns.charged system y using k) (own_context system t x))
        (sym (set-same (own_context system t x) (thread_part system y).context k.contexts (context_charged using system.min_budget (turns.its_context system y k)) own good.inside))
        (let P : ℕ → Type 0 = λ n. KeepsItsBudget (context_charged using system.min_budget (context_of k n)) in
        subst P (sym own) (keeps-change system.min_budget (Charged using) (context_of k (own_context system t x)) good.keeps (used.0, omega (arith, used.1))))
      where
        used : (1 ≤ using) × (using + 1 ≤ head_amount (context_of k (own_context system t x))) × traces.Reaches by_priority system c t (own_context system t x) 0 using (context_of k (own_context system t x))
        used = (rw e at good.uses) own

    -- it runs in time, if the running thread has another context
    others-run : (o : Option Chosen) (m : ℕ) → ((chosen : Chosen) → o ≡ Some chosen → (thread_part system chosen.thread).context ≢ own_context system t x) → RunsInTime x m (suc t) o
    others-run None m f = tt
    others-run (Some chosen) m f = λ own. absurd (f chosen refl (ap (λ y. (thread_part system y).context) own))

    own-order : (o : Option Chosen) (k : Core) → k.running ≡ o → IsGood k → Alone k → On k → On (turns.orders_running by_priority system t order o k).core
    own-order None k e good alone h = applied-own k good.inside good.keeps good.dates (nobody (head system t x (after_order k)) k.running e) h
    own-order (Some chosen) k e good alone h = by (same (thread_part system chosen.thread).context order.context)
      where
        charged : Core
        charged = turns.charged system chosen.thread chosen.using k

        on : (b : Bool) → ((thread_part system chosen.thread).context == order.context) ≡ b →
            On (cond b (turns.stops_to_front by_priority system t chosen.thread why.Order chosen.using (after_order charged)) (silent (after_order k))).core →
            On (turns.orders_running by_priority system t order (Some chosen) k).core
        on b f p = rw f p

        many : own_context system t x < length charged.contexts
        many = omega (arith, good.inside, length-set k.contexts (thread_part system chosen.thread).context (Some (context_charged chosen.using system.min_budget (turns.its_context system chosen.thread k))))

        runs_other : (thread_part system chosen.thread).context ≢ order.context → (one : Chosen) → k.running ≡ Some one → (thread_part system one.thread).context ≢ own_context system t x
        runs_other d one f own = d (ap (λ y. (thread_part system y).context) (the_same chosen one (sym e ∙ f)) ∙ own ∙ sym is_own)
          where
            the_same : (a b : Chosen) → Some a ≡ Some b → a.thread ≡ b.thread
            the_same a b g = cc

        by : Same (thread_part system chosen.thread).context order.context → On (turns.orders_running by_priority system t order (Some chosen) k).core
        by (Are f d) =
            on true f
            (stops_to_front-on_time system t x chosen.thread why.Order chosen.using (after_order charged)
            (applied-own (off charged) many (charged-keeps chosen.thread chosen.using k e (d ∙ is_own) good) good.dates tt
            (charged-on_time system t x chosen.thread chosen.using k (runs-alone system t x chosen.thread chosen.using k e alone) h)))
        by (Differ f d) = on false f (applied-own k good.inside good.keeps good.dates (others-run k.running (head system t x (after_order k)) (runs_other d)) h)

  obeys-on_time : (order : Order) → GivesBudget order.config → (k : Core) → IsGood k → Alone k → On k → On (turns.obeys by_priority system t order k).core
  obeys-on_time order gives k good alone h = by (same order.context (own_context system t x))
    where
      by : Same order.context (own_context system t x) → On (turns.obeys by_priority system t order k).core
      by (Are f is_own) = own-order order gives is_own k.running k refl good alone h
      by (Differ f other) = orders_running-on_time system t x order k.running k refl other alone h

  still-good : (order : Order) → order.moment ≡ t → GivesBudget order.config → (k : Core) → IsGood k → IsGood (turns.obeys by_priority system t order k).core
  still-good order m gives k good =
      let s = traces.obeys-traced by_priority system c t (own_context system t x) order m gives k in
      let after = (turns.obeys by_priority system t order k).core in
      record {
        inside = subst (λ n. own_context system t x < n) (sym s.many) good.inside;
        keeps = carry KeepsItsBudget (changed_by system.min_budget s.changes (context_of k (own_context system t x))) (context_of after (own_context system t x)) (sym (s.after good.inside))
            (keeps-changes system.min_budget s.changes (context_of k (own_context system t x)) good.keeps (s.sound good.inside good.keeps good.uses));
        uses = s.runs good.inside good.keeps good.uses;
        dates = obeys-from system c t t (omega arith) order k good.dates;
      }

  orders-on_time : (orders : List Order) → AllByRecursion (λ (order : Order). GivesBudget order.config) orders → (k : Core) → IsGood k → Alone k → On k →
      On (each (turns.obeys by_priority system t) (filter (is_for_now system c t) orders) k).core
  orders-on_time [] gives k good alone h = h
  orders-on_time (order ∷ orders) gives k good alone h = by (is_for_now system c t order) refl (orders-on_time orders gives.1)
    where
      now : (moment home : ℕ) → (moment == t) && (home == c) ≡ true → moment ≡ t
      now moment home e = grind (arith, nat_tests)

      others : List Order
      others = filter (is_for_now system c t) orders

      after : Core
      after = (turns.obeys by_priority system t order k).core

      by : (b : Bool) → is_for_now system c t order ≡ b → ((k : Core) → IsGood k → Alone k → On k → On (each (turns.obeys by_priority system t) others k).core) →
          On (each (turns.obeys by_priority system t) (cond b (order ∷ others) others) k).core
      by true e rest =
          rest after (still-good order (now order.moment (context_part system order.context).core e) gives.0 k good)
          (alone-less system t x k after (λ y. held.obeys-held system t y order k) alone) (obeys-on_time order gives.0 k good alone h)
      by false e rest = rest k good alone h

  -- a whole turn
  pub turn-on_time : AllByRecursion (λ (order : Order). GivesBudget order.config) system.orders → (mails : List Mail) (k : Core) →
      own_context system t x < length k.contexts → KeepsItsBudget (context_of k (own_context system t x)) →
      traces.Uses by_priority system c t (own_context system t x) 0 1 1 k.running (context_of k (own_context system t x)) → AreFrom t k.releases →
      Alone k → WasOnTime k → On (turns.turn_with by_priority system c t mails k).core
  turn-on_time gives mails k inside keeps uses dates alone h = last
    where
      orders : List Order
      orders = filter (is_for_now system c t) system.orders

      first : Core
      first = (turns.tick by_priority system c t k).core

      rang : Core
      rang = (each (turns.interrupts by_priority system t) (ringing t (alarms_at system c t)) first).core

      second : Core
      second = (each (turns.arrives by_priority system t) mails rang).core

      third : Core
      third = (each (turns.obeys by_priority system t) orders second).core

      fourth : Core
      fourth = (turns.releases by_priority system t third).core

      fifth : Core
      fifth = (turns.preempts by_priority system t fourth).core

      one : On first × Alone first
      one = (tick_of-on_time k.running k refl alone h, alone-less system t x k first (λ z. held.tick_of-held system c t z k.running k refl) alone)

      half : On rang × Alone rang
      half = (
        each-interrupts-on_time system t x (ringing t (alarms_at system c t)) first one.1 one.0,
        alone-less system t x first rang (λ z. held.each-held system t z (turns.interrupts by_priority system t) (held.interrupts-held system t z) (ringing t (alarms_at system c t)) first) one.1,
      )

      two : On second × Alone second
      two = (
        each-arrives-on_time system t x mails rang half.1 half.0,
        alone-less system t x rang second (λ z. held.each-held system t z (turns.arrives by_priority system t) (held.arrives-held system t z) mails rang) half.1,
      )

      good : IsGood second
      good =
          let s = traces.before-orders by_priority system c t (own_context system t x) mails k in
          record {
            inside = subst (λ n. own_context system t x < n) (sym s.many) inside;
            keeps = carry KeepsItsBudget (changed_by system.min_budget s.changes (context_of k (own_context system t x))) (context_of second (own_context system t x)) (sym (s.after inside))
                (keeps-changes system.min_budget s.changes (context_of k (own_context system t x)) keeps (s.sound inside keeps uses));
            uses = s.runs inside keeps uses;
            dates = arrives-from system c t t (omega arith) mails rang
                (interrupts-from system c t t (omega arith) (ringing t (alarms_at system c t)) first (tick-from system c t t (omega arith) k.running k dates));
          }

      three : On third × Alone third
      three = (
        orders-on_time system.orders gives second good two.1 two.0,
        alone-less system t x second third (λ z. held.each-held system t z (turns.obeys by_priority system t) (held.obeys-held system t z) orders second) two.1,
      )

      four : On fourth × Alone fourth
      four = (releases-on_time system t x third three.0, alone-less system t x third fourth (λ z. held.releases-held system t z third) three.1)

      five : On fifth × Alone fifth
      five = (
        preempts_by-on_time system t x fourth.running (first_of fourth.ready) fourth refl four.1 four.0,
        alone-less system t x fourth fifth (λ z. held.preempts_by-held system t z fourth.running (first_of fourth.ready) fourth refl) four.1,
      )

      last : On (turns.turn_with by_priority system c t mails k).core
      last = chooses_of-on_time system t x fifth.running fifth.ready fifth refl refl five.1 five.0
