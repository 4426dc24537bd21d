-- Arrivals, orders, releases and the choice, and so the whole turn: the core stays sound.
use Rattle.std.proofs.Common.{◌≡◌, ℕ, ◌+◌, ◌^◌, ◌<◌, ◌≤◌, ◌≢◌, Bool, true, false, cond, List, [], ◌∷◌, length, refl, sym, ap, subst, ◌∙◌, arith}
use Rattle.std.specs.Prelude.{◌==◌, nat_lt, not, filter, Option, Some, None, IsOk}
use Rattle.std.specs.List.{AllByRecursion}
use Rattle.std.proofs.lemmas.Bool.Decides.{nat_tests}
use Rattle.mcs_ticks.specs.Queue.{by_priority, first_of, rest_of}
use Rattle.mcs_ticks.specs.declared.queue.Queued.{Queued}
use Rattle.mcs_ticks.specs.declared.row.Why.TheVariants as why
use Rattle.mcs_control.specs.declared.config.Order.{Order}
use Rattle.mcs_control.specs.Control.{checked, kind_of}
use Rattle.mcs_control.specs.Context.{head_amount, context_ordered, context_chosen}
use Rattle.mcs_mail.specs.declared.mail.Mail.{Mail}
use Rattle.mcs_release.specs.declared.dated.Dated.{Dated}
use Rattle.mcs_release.specs.Release.{without, earliest, first_due}
use Rattle.mcs_core.specs.declared.standing.Chosen.{Chosen}
use Rattle.mcs_core.specs.declared.standing.Thread.{Thread}
use Rattle.mcs_core.specs.declared.standing.Standing.{Standing}
use Rattle.mcs_core.specs.declared.standing.Standing.TheVariants.{Pending, Ready, Running, Done}
use Rattle.mcs_system.specs.System.{System, thread_part, context_part}
use Rattle.mcs_core.specs.Core.{Core, thread_of, context_of, with_thread, stands, off}
use Rattle.mcs_core.specs.Alarms.{ringing, alarms_at}
use Rattle.mcs_core.specs.declared.alarm.Alarm.{Alarm}
use Rattle.mcs_core.specs.Turn.{silent, ◌followed_by◌, each, its_context, date_of, charged, applied, orders_running, obeys, is_for_now, interrupts, arrives, released, releases, preempts_by, preempts, chooses_of, chooses, with_chosen_context, turn, enters_front, stops_to_front}
use Rattle.mcs_release.specs.Release.{is_due}
use Rattle.mcs_core.specs.stored.Sound.{times_pending, times_ready, is_here, Loose, Phase, has_context, IsPlaced, IsEarly, AreEarly, RunsRight, IsSound}
use Rattle.mcs_core.specs.Places.{times_queued, times_dated}
use Rattle.mcs_core.specs.stored.Sound.Phase.{Between, PastTick}
use Rattle.mcs_core.proofs.Counts.{one_if_same, either, times_queued-rest}
use Rattle.mcs_core.proofs.Soundness.{IsOneEach, itself, placed-same, runs-same, re_stands, retold, re_runs, loosened, arrived, recontexted, keeps_if, runs-other, runs-context, thread-same}
use Rattle.mcs_core.proofs.Budgets.{accepted-is, kept-head, ordered-kept, ordered-early}
use Rattle.mcs_core.proofs.Enters.{enters_back-sound}
use Rattle.mcs_core.proofs.Stopping.{off-sound, charged-sound, front-sound, chosen-early, chosen-budget}
use Rattle.mcs_core.proofs.Wakes.{posts-sound}
use Rattle.mcs_core.proofs.Ticks.{AreNoted, runner, runner-placed, tick-sound}

-- an order for a context that keeps its kind, with a configuration that passes its check
pub record IsProperOrder (system : System) (order : Order) : Type 0 where
  pub accepted : IsOk (checked system.min_budget order.config)
  pub same_kind : kind_of order.config ≡ kind_of (context_part system order.context).config
  pub known : order.context < length system.contexts

module _ (system : System) (number from : ℕ) (one_each : IsOneEach system) where
  -- interrupts
  pub interrupts-sound : (t : ℕ) (alarms : List Alarm) (core : Core) → t ≤ 2 ^ 40 → from ≤ t + 1 → AllByRecursion (λ alarm. alarm.note < length system.notes) alarms → IsSound system number from PastTick None core →
      IsSound system number from PastTick None (each (interrupts by_priority system t) alarms core).core
  interrupts-sound t [] core l f k h = h
  interrupts-sound t (alarm ∷ alarms) core l f k h =
      interrupts-sound t alarms _ l f k.1 (posts-sound system number from one_each PastTick t alarm.note alarm.badge core l f (rw h.notes k.0) h)

  -- arrivals
  pub arrivals-sound : (t : ℕ) (mails : List Mail) (core : Core) → t ≤ 2 ^ 40 → from ≤ t + 1 → AllByRecursion (λ mail. mail.note < length system.notes) mails → IsSound system number from PastTick None core →
      IsSound system number from PastTick None (each (arrives by_priority system t) mails core).core
  arrivals-sound t [] core l f k h = h
  arrivals-sound t (mail ∷ mails) core l f k h =
      arrivals-sound t mails _ l f k.1 (posts-sound system number from one_each PastTick t mail.note mail.badge core l f (rw h.notes k.0) h)

  -- an order for a context of the core
  applied-sound : (t : ℕ) (loose : Option Loose) (order : Order) (core : Core) → t ≤ 2 ^ 40 → from ≤ t + 1 → IsProperOrder system order → has_context order.context core ≡ true →
      IsSound system number from PastTick loose core → RunsRight system PastTick core.running (applied t order core) →
      IsSound system number from PastTick loose (applied t order core)
  applied-sound t loose order core l f o has h runs =
      let b = h.budgets order.context has in
      let a = accepted-is system.min_budget order.config o.accepted in
      recontexted system number from PastTick order.context loose (context_ordered t order.config (context_of core order.context)) core h has (rw h.contexts o.known)
      (record { accepted = o.accepted; same_kind = o.same_kind; kept = ordered-kept t system.min_budget order.config (context_of core order.context) a b.kept })
      (keeps_if system number from loose order.context (context_ordered t order.config (context_of core order.context)) core (ordered-early t system.min_budget order.config (context_of core order.context) l a.some (accepted-is system.min_budget (context_of core order.context).config b.accepted).some b.kept))
      runs

  -- the running thread of a sound core, when it leaves the core and its context is charged
  gone-sound : (chosen : Chosen) (core : Core) → IsSound system number from PastTick None core → core.running ≡ Some chosen →
      IsSound system number from PastTick (Some (record { thread = chosen.thread; standing = Done })) (off (charged system chosen.thread chosen.using core))
  gone-sound chosen core h e =
      let r = runner system number from one_each PastTick chosen core h e in
      let p = runner-placed system number from one_each PastTick chosen core h e in
      charged-sound system number from one_each PastTick chosen.thread chosen.using Done core
      (off-sound system number from one_each PastTick PastTick chosen.thread chosen.using Running Done core (loosened system number from PastTick chosen.thread Running core r.stands h) refl refl refl refl refl)
      p refl refl r.used

  pub placed-from : (x : ℕ) (core : Core) → IsSound system number from PastTick (Some (record { thread = x; standing = Done })) core → IsPlaced system x core
  placed-from x core h = h.here x (ap is_here (itself x Done _))

  pub obeys-sound : (t : ℕ) (order : Order) (core : Core) → t ≤ 2 ^ 40 → from ≤ t + 1 → IsProperOrder system order → has_context order.context core ≡ true → IsSound system number from PastTick None core →
      IsSound system number from PastTick None (obeys by_priority system t order core).core
  obeys-sound t order core l f o has h = by core.running refl
    where
      stopped : (chosen : Chosen) → core.running ≡ Some chosen → has_context order.context (off (charged system chosen.thread chosen.using core)) ≡ true →
          IsSound system number from PastTick None (enters_front by_priority chosen.thread (date_of system t chosen.thread (applied t order (charged system chosen.thread chosen.using core))) (off (applied t order (charged system chosen.thread chosen.using core))))
      stopped chosen e has_after =
          let gone = gone-sound chosen core h e in
          let after = applied-sound t (Some (record { thread = chosen.thread; standing = Done })) order (off (charged system chosen.thread chosen.using core)) l f o has_after gone tt in
          front-sound system number from one_each PastTick t chosen.thread (applied t order (charged system chosen.thread chosen.using core)) l f after
          (placed-same system (off (applied t order (charged system chosen.thread chosen.using core))) _ refl chosen.thread refl (placed-from chosen.thread _ after))

      by : (r : Option Chosen) → core.running ≡ r → IsSound system number from PastTick None (orders_running by_priority system t order r core).core
      by None e = applied-sound t None order core l f o has h (let P : Option Chosen → Type 0 = λ r. RunsRight system PastTick r (applied t order core) in subst P (sym e) tt)
      by (Some chosen) e = cases ((thread_part system chosen.thread).context == order.context) refl
        where
          cases : (b : Bool) → ((thread_part system chosen.thread).context == order.context) ≡ b →
              IsSound system number from PastTick None (cond b (stops_to_front by_priority system t chosen.thread why.Order chosen.using (applied t order (charged system chosen.thread chosen.using core))) (record { core = applied t order core; rows = []; mails = [] })).core
          cases true f' =
              let g : (thread_part system chosen.thread).context ≡ order.context = grind (arith, nat_tests) in
              stopped chosen e (let P : ℕ → Type 0 = λ k. has_context k (off (charged system chosen.thread chosen.using core)) ≡ true in subst P g (placed-from chosen.thread _ (gone-sound chosen core h e)).has)
          cases false f' =
              let g : (thread_part system chosen.thread).context ≢ order.context = grind (arith, nat_tests) in
              applied-sound t None order core l f o has h
              (runs-context system number from PastTick order.context _ core core.running (λ other i. let j : other ≡ chosen = same other i in rw j g) h.running)
            where
              same : (other : Chosen) → core.running ≡ Some other → other ≡ chosen
              same other i = cc

  -- the orders of a moment for this core
  pub orders-sound : (t : ℕ) (orders : List Order) (core : Core) → t ≤ 2 ^ 40 → from ≤ t + 1 → AllByRecursion (IsProperOrder system) orders → IsSound system number from PastTick None core →
      IsSound system number from PastTick None (each (obeys by_priority system t) (filter (is_for_now system number t) orders) core).core
  orders-sound t [] core l f o h = h
  orders-sound t (order ∷ orders) core l f o h = by (is_for_now system number t order) refl (λ k. orders-sound t orders k l f o.1)
    where
      by : (b : Bool) → is_for_now system number t order ≡ b →
          ((k : Core) → IsSound system number from PastTick None k → IsSound system number from PastTick None (each (obeys by_priority system t) (filter (is_for_now system number t) orders) k).core) →
          IsSound system number from PastTick None (each (obeys by_priority system t) (cond b (order ∷ filter (is_for_now system number t) orders) (filter (is_for_now system number t) orders)) core).core
      by true e i =
          let home : ((context_part system order.context).core == number) ≡ true = grind (arith, nat_tests) in
          i _ (obeys-sound t order core l f o.0 (h.own order.context o.0.known ∙ home) h)
      by false e i = i core h

  -- a thread whose date has come leaves the release queue
  pub times_dated-without : (x y : ℕ) (ds : List Dated) → 1 ≤ times_dated x ds → times_dated y ds ≡ one_if_same x y + times_dated y (without x ds)
  times_dated-without x y [] h = absurd (omega arith)
  times_dated-without x y (d ∷ ds) h = grind (arith, nat_tests, times_dated-without x y ds)

  AreEarly-without : (x : ℕ) (core : Core) (ds : List Dated) → AreEarly system core ds → AreEarly system core (without x ds)
  AreEarly-without x core [] h = tt
  AreEarly-without x core (d ∷ ds) h = either (AreEarly system core) (d.thread == x) ds (d ∷ without x ds) h.1 (h.0, AreEarly-without x core ds h.1)

  later-without : (x : ℕ) (ds : List Dated) → AllByRecursion (λ dated. from ≤ dated.date) ds → AllByRecursion (λ dated. from ≤ dated.date) (without x ds)
  later-without x [] h = tt
  later-without x (d ∷ ds) h = either (AllByRecursion (λ dated. from ≤ dated.date)) (d.thread == x) ds (d ∷ without x ds) h.1 (h.0, later-without x ds h.1)

  pending_from : (s : Standing) (n : ℕ) → n ≡ times_pending s → 1 ≤ n → s ≡ Pending
  pending_from s n e h = grind arith

  -- the core without a thread that is due, which enters the ready queue
  abbrev pub core_without : ℕ → Core → Core
  core_without x core = record core { releases = without x core.releases }

  pub leaves-sound : (x : ℕ) (core : Core) → 1 ≤ times_dated x core.releases → IsSound system number from PastTick None core →
      IsSound system number from PastTick (Some (record { thread = x; standing = Done })) (core_without x core)
  leaves-sound x core some h =
      let pending = pending_from (thread_of core x).standing (times_dated x core.releases) (h.pending x) some in
      re_stands system number from PastTick x Pending Done core core.running core.ready (without x core.releases) core.notes
      (loosened system number from PastTick x Pending core pending h)
      (λ y. refl)
      (λ y. grind (arith, times_dated-without x y core.releases some))
      (λ y. refl) refl refl (λ e. cc) (AreEarly-without x core core.releases h.dates) (later-without x core.releases h.later) h.running

  -- a thread that is due is released
  pub released-sound : (t : ℕ) (due : Dated) (core : Core) → due.date ≤ 2 ^ 40 → 1 ≤ times_dated due.thread core.releases → (due.date ≤ 2 ^ 40 → IsEarly system due.thread core) →
      IsSound system number from PastTick None core → IsSound system number from PastTick None (released by_priority due (core_without due.thread core)).core
  released-sound t due core l some early h =
      let left = leaves-sound due.thread core some h in
      let p = placed-from due.thread (core_without due.thread core) left in
      let pending = pending_from (thread_of core due.thread).standing (times_dated due.thread core.releases) (h.pending due.thread) some in
      enters_back-sound system number from PastTick due.thread None (core_without due.thread core) left (rw h.threads p.known) p.item (early l)
      (λ state. runs-other system number from PastTick due.thread state (core_without due.thread core) core.running (λ f. cc)
      (runs-same system core (core_without due.thread core) refl PastTick (λ y e. e) core.running h.running))

-- the threads that are due at t leave in the order in which they entered
module _ (system : System) (t : ℕ) where
  abbrev pub still : Dated → Bool
  still dated = not (is_due t dated)

  abbrev pub all_due : List Dated → List Dated
  all_due ds = filter (is_due t) ds

  pub stands-due : (ds : List Dated) (d : Dated) (rest : List Dated) → all_due ds ≡ d ∷ rest → 1 ≤ times_dated d.thread ds
  stands-due [] d rest e = cc
  stands-due (x ∷ xs) d rest e = grind (arith, nat_tests, stands-due xs d rest)

  pub split-due : (ds : List Dated) (d : Dated) (rest : List Dated) → all_due ds ≡ d ∷ rest → times_dated d.thread ds ≤ 1 →
      (all_due (without d.thread ds) ≡ rest) × (filter still (without d.thread ds) ≡ filter still ds)
  split-due [] d rest e few = cc
  split-due (x ∷ xs) d rest e few =
      (grind (arith, nat_tests, stands-due xs d rest, split-due xs d rest), grind (arith, nat_tests, stands-due xs d rest, split-due xs d rest))

  abbrev pub first_entered : List Dated → Option Dated
  first_entered [] = None
  first_entered (d ∷ ds) = Some d

  abbrev date_in : Option Dated → ℕ
  date_in None = t
  date_in (Some d) = d.date

  later-due : (ds : List Dated) → AllByRecursion (λ dated. t ≤ dated.date) ds → t ≤ date_in (earliest (all_due ds))
  later-due [] h = omega arith
  later-due (x ∷ xs) h = grind (arith, h.0, later-due xs h.1)

  -- if all dates are of t or later, the first that is due is the one that entered first
  pub first-due : (ds : List Dated) → AllByRecursion (λ dated. t ≤ dated.date) ds → first_due t ds ≡ first_entered (all_due ds)
  first-due [] h = refl
  first-due (x ∷ xs) h = grind (arith, nat_tests, h.0, later-due xs h.1, first-due xs h.1)

  -- the releases, one after another
  pub releases-step : (d : Dated) (rest : List Dated) (core : Core) → all_due core.releases ≡ d ∷ rest → times_dated d.thread core.releases ≤ 1 →
      releases by_priority system t core ≡ (released by_priority d (record core { releases = without d.thread core.releases }) followed_by releases by_priority system t)
  releases-step d rest core e few =
      let s = split-due core.releases d rest e few in
      rw (e, s.0, s.1) refl

  pub releases-none : (core : Core) → all_due core.releases ≡ [] → releases by_priority system t core ≡ silent core
  releases-none core e = rw (e, all-still core.releases e) refl
    where
      all-still : (ds : List Dated) → all_due ds ≡ [] → filter still ds ≡ ds
      all-still [] e = refl
      all-still (x ∷ xs) e = grind (arith, all-still xs)

-- a thread that is in the ready queue is ready
pub ready_from_count : (s : Standing) (n : ℕ) → n ≡ times_ready s → 1 ≤ n → s ≡ Ready
ready_from_count s n e h = grind arith

-- so the best thread is
pub best-ready : (system : System) (number from : ℕ) (phase : Phase) (core : Core) (best : Queued) → IsSound system number from phase None core → first_of core.ready ≡ Some best →
    (thread_of core best.thread).standing ≡ Ready
best-ready system number from phase core best h e =
    ready_from_count (thread_of core best.thread).standing (times_queued best.thread core.ready) (h.ready best.thread) (grind (arith, nat_tests, times_queued-rest best.thread best core.ready e))

module _ (system : System) (number : ℕ) (one_each : IsOneEach system) (t : ℕ) (soon : t ≤ 2 ^ 40) where
  -- the date of a thread that is due is this moment, and its head is early
  due-early : (ds : List Dated) (core : Core) (d : Dated) (rest : List Dated) → all_due system t ds ≡ d ∷ rest → AreEarly system core ds → (d.date ≤ 2 ^ 40) × (d.date ≤ 2 ^ 40 → IsEarly system d.thread core)
  due-early [] core d rest e h = cc
  due-early (x ∷ xs) core d rest e h =
      (grind (arith, nat_tests, due-early xs core d rest, h.0), λ f. grind (arith, nat_tests, due-early xs core d rest, h.0, h.1, f))

  pub at_most_once : (x : ℕ) (core : Core) → IsSound system number t PastTick None core → times_dated x core.releases ≤ 1
  at_most_once x core h = grind (arith, h.pending x)

  pub release-sound : (core : Core) (d : Dated) (rest : List Dated) → all_due system t core.releases ≡ d ∷ rest → IsSound system number t PastTick None core →
      IsSound system number t PastTick None (released by_priority d (record core { releases = without d.thread core.releases })).core
  release-sound core d rest e h =
      let early = due-early core.releases core d rest e h.dates in
      released-sound system number t one_each t d core early.0 (stands-due system t core.releases d rest e) early.1 h

  -- past the releases no thread is due any more
  pub past-sound : (core : Core) → all_due system t core.releases ≡ [] → IsSound system number t PastTick None core → IsSound system number (t + 1) PastTick None core
  past-sound core e h = retold system number t (t + 1) PastTick PastTick None None core core.running core.notes (λ y. refl) refl (λ y. refl) h h.running (none-due core.releases e)
    where
      none-due : (ds : List Dated) → all_due system t ds ≡ [] → AllByRecursion (λ dated. t + 1 ≤ dated.date) ds
      none-due [] e = tt
      none-due (x ∷ xs) e = (grind (arith, nat_tests), none-due xs (grind arith))

  pub releases-sound : (ds : List Dated) (core : Core) → all_due system t core.releases ≡ ds → IsSound system number t PastTick None core →
      IsSound system number (t + 1) PastTick None (releases by_priority system t core).core
  releases-sound [] core e h = rw (releases-none system t core e) (past-sound core e h)
  releases-sound (d ∷ rest) core e h =
      let few = at_most_once d.thread core h in
      let s = split-due system t core.releases d rest e few in
      rw (releases-step system t d rest core e few)
      (releases-sound rest (released by_priority d (record core { releases = without d.thread core.releases })).core s.0 (release-sound core d rest e h))

  -- a running thread gives way
  pub preempts-sound : (core : Core) → IsSound system number (t + 1) PastTick None core → IsSound system number (t + 1) PastTick None (preempts by_priority system t core).core
  preempts-sound core h = by core.running refl (first_of core.ready)
    where
      by : (o : Option Chosen) → core.running ≡ o → (best : Option Queued) → IsSound system number (t + 1) PastTick None (preempts_by by_priority system t o best core).core
      by None e best = h
      by (Some chosen) e None = h
      by (Some chosen) e (Some best) = cases (nat_lt (thread_of core chosen.thread).place.priority best.priority)
        where
          cases : (b : Bool) → IsSound system number (t + 1) PastTick None (cond b (stops_to_front by_priority system t chosen.thread why.Preempt chosen.using (charged system chosen.thread chosen.using core)) (silent core)).core
          cases true =
              let gone = gone-sound system number (t + 1) one_each chosen core h e in
              front-sound system number (t + 1) one_each PastTick t chosen.thread (charged system chosen.thread chosen.using core) soon (omega arith) gone
              (placed-same system (off (charged system chosen.thread chosen.using core)) _ refl chosen.thread refl (placed-from system number (t + 1) one_each chosen.thread _ gone))
          cases false = h

  -- and the best thread is chosen
  between : (core : Core) → IsSound system number (t + 1) PastTick None core → IsSound system number (t + 1) Between None core
  between core h = re_runs system number (t + 1) PastTick Between None core core.running (λ y. refl) h (runs core.running h.running)
    where
      runs : (o : Option Chosen) → RunsRight system PastTick o core → RunsRight system Between o core
      runs None p = tt
      runs (Some chosen) p = record { stands = p.stands; used = omega arith; unspent = p.unspent; early = p.early }

  -- its context is chosen
  choosing-sound : (core : Core) (best : Queued) → IsSound system number (t + 1) PastTick None core → core.running ≡ None → first_of core.ready ≡ Some best →
      IsSound system number (t + 1) PastTick None (with_chosen_context system t best.thread core)
  choosing-sound core best h none e =
      let p = h.here best.thread (rw (best-ready system number (t + 1) PastTick core best h e) refl) in
      let now = its_context system best.thread core in
      recontexted system number (t + 1) PastTick (thread_part system best.thread).context None (context_chosen t now) core h
      p.has (rw h.contexts p.bound) (chosen-budget system (thread_part system best.thread).context t now.mode now (h.budgets (thread_part system best.thread).context p.has))
      (keeps_if system number (t + 1) None (thread_part system best.thread).context (context_chosen t now) core (chosen-early t now.mode now soon))
      (rw none tt)

  -- and it runs
  abbrev begun : Queued → Core → Core
  begun best core = record (stands best.thread Running core) { running = Some (record { thread = best.thread; using = 0 }); ready = rest_of core.ready }

  begun-sound : (core : Core) (best : Queued) → IsSound system number (t + 1) PastTick None core → first_of core.ready ≡ Some best → IsSound system number (t + 1) Between None (begun best core)
  begun-sound core best h e =
      let ready = best-ready system number (t + 1) PastTick core best h e in
      let p = h.here best.thread (rw ready refl) in
      let early = h.early best.thread (rw ready refl) in
      let b = h.budgets (thread_part system best.thread).context p.has in
      let some : 1 ≤ head_amount (its_context system best.thread core) = kept-head (its_context system best.thread core).config (its_context system best.thread core).budget (accepted-is system.min_budget _ b.accepted).some b.kept in
      let state : Thread = record (thread_of core best.thread) { standing = Running } in
      let left = re_stands system number (t + 1) Between best.thread Ready Running core None (rest_of core.ready) core.releases core.notes
      (loosened system number (t + 1) Between best.thread Ready core ready (between core h))
      (λ y. grind (arith, times_queued-rest y best core.ready e))
      (λ y. refl) (λ y. refl) refl refl (λ f. early) h.dates h.later tt in
      re_runs system number (t + 1) Between Between None (with_thread best.thread state (record core { running = None; ready = rest_of core.ready })) (Some (record { thread = best.thread; using = 0 })) (λ y. refl)
      (arrived system number (t + 1) Between best.thread Running state (record core { running = None; ready = rest_of core.ready }) left (rw h.threads p.known) refl (λ f. p.item) tt)
      (record {
        stands = ap (λ (k : Thread). k.standing) (thread-same system number (t + 1) best.thread best.thread state core (rw h.threads p.known) refl);
        used = omega arith;
        unspent = omega (arith, some);
        early = early;
      })

  pub chooses-sound : (core : Core) → IsSound system number (t + 1) PastTick None core → IsSound system number (t + 1) Between None (chooses by_priority system t core).core
  chooses-sound core h = by core.running refl (first_of core.ready) refl
    where
      by : (o : Option Chosen) → core.running ≡ o → (best : Option Queued) → first_of core.ready ≡ best → IsSound system number (t + 1) Between None (chooses_of by_priority system t o best core).core
      by (Some chosen) e best f = between core h
      by None e None f = between core h
      by None e (Some best) f = begun-sound (with_chosen_context system t best.thread core) best (choosing-sound core best h e f) f

  -- the whole turn keeps a sound core sound
  pub turn-sound : (mails : List Mail) (core : Core) → AreNoted system number t one_each → AllByRecursion (IsProperOrder system) system.orders → AllByRecursion (λ mail. mail.note < length system.notes) mails →
      AllByRecursion (λ alarm. alarm.note < length system.notes) (ringing t (alarms_at system number t)) →
      IsSound system number t Between None core → IsSound system number (t + 1) Between None (turn system number t mails core).core
  turn-sound mails core noted orders known rings h =
      chooses-sound _ (preempts-sound _ (releases-sound _ _ refl
      (orders-sound system number t one_each t system.orders _ soon (omega arith) orders
      (arrivals-sound system number t one_each t mails _ soon (omega arith) known
      (interrupts-sound system number t one_each t (ringing t (alarms_at system number t)) _ soon (omega arith) rings
      (tick-sound system number t one_each number t core soon (omega arith) noted h))))))
