-- The next busy moment, from what comes first.
use Rattle.std.proofs.Common.{◌≡◌, ◌≢◌, ◌⊎◌, inl, inr, Bool, true, false, cond, ℕ, ◌+◌, ◌-◌, ◌<◌, ◌≤◌, ◌^◌, List, [], ◌∷◌, length, refl, sym, ap, subst, ◌∙◌, arith}
use Rattle.std.specs.Prelude.{nat_lt, nat_le, min, max, filter, All, Option, Some, None, option_map, IsSome, IfSome, ◌↔◌}
use Rattle.std.specs.List.{AllByRecursion}
use Rattle.std.proofs.Math.ListN.{length-set}
use Rattle.std.proofs.lemmas.Bool.Decides.{nat_tests}
use Rattle.mcs_ticks.specs.Queue.{by_priority, first_of}
use Rattle.mcs_ticks.specs.declared.queue.Queued.{Queued}
use Rattle.mcs_control.specs.declared.config.Order.{Order}
use Rattle.mcs_control.specs.Context.{head_amount}
use Rattle.mcs_mail.specs.declared.mail.Mail.{Mail}
use Rattle.mcs_mail.specs.Box.{arriving, due, first_arrival, IsOrdered}
use Rattle.mcs_mail.proofs.Boxes.{due-none as due-none_mail}
use Rattle.mcs_release.specs.declared.dated.Dated.{Dated}
use Rattle.mcs_release.specs.Release.{is_due, earliest, next_date}
use Rattle.mcs_core.specs.declared.standing.Chosen.{Chosen}
use Rattle.mcs_core.specs.declared.standing.Thread.{Thread}
use Rattle.mcs_system.specs.System.{System, thread_part}
use Rattle.mcs_core.specs.Core.{Core, thread_of}
use Rattle.mcs_core.specs.Orders.{AreByMoment, due_now, to_come, orders_of}
use Rattle.mcs_core.specs.Turn.{its_context, is_for_now}
use Rattle.mcs_ticks.specs.Soonest.{sooner}
use Rattle.mcs_script.specs.Script.{never, left_after}
use Rattle.mcs_script.proofs.Steps.{left-none}
use Rattle.mcs_core.specs.Alarms.{ringing, alarms_at}
use Rattle.mcs_core.specs.Busy.{IsFirst, first_moment, IsBest, GoesOnAfter, counted_by}
use Rattle.mcs_core.specs.Quiet.{counted_of, counted_times, IsQuietWith, IsNextBusyWith}
use Rattle.mcs_core.specs.stored.Ends.{IsEnd}
use Rattle.mcs_core.proofs.Firsts.{first-both, first-same, not_le}
use Rattle.mcs_core.proofs.Plans.{due-none, due-of, due-to_come}
use Rattle.mcs_core.proofs.Runs.{to_come-twice}
use Rattle.mcs_core.proofs.Quiet.{quiet-when, quiet-goes, quiet-calm, counted-by, counted-idle, set-same}

-- the first arrival
pub first-mail : (clock : ℕ) (box : List Mail) → IsOrdered box → All (λ (mail : Mail). clock ≤ mail.arrives) box → ((m : ℕ) → first_arrival box ≡ Some m → m ≤ 2 ^ 42) →
    IsFirst clock (λ n. arriving (clock + n) box ≡ []) (first_arrival box)
first-mail clock [] o h s = λ n l. refl
first-mail clock (x ∷ xs) o h s =
    let from : clock ≤ x.arrives = h 0 x (omega arith) in (
      x.arrives - clock,
      omega arith,
      s x.arrives refl,
      λ m l. (due-none_mail (clock + m) (x ∷ xs) o (not_due (clock + m) (omega arith))).0,
      λ e. here (clock + (x.arrives - clock)) (omega arith) e,
    )
  where
    not_due : (t : ℕ) → t < x.arrives → due t (x ∷ xs) ≡ None
    not_due t l = grind (arith, nat_tests)

    here : (t : ℕ) → x.arrives ≡ t → arriving t (x ∷ xs) ≡ [] → ⊥
    here t e f = grind (arith, nat_tests)

-- the first order
pub first-order : (clock : ℕ) (os : List Order) → AreByMoment clock os → ((m : ℕ) → first_moment os ≡ Some m → m ≤ 2 ^ 42) → IsFirst clock (λ n. due_now (clock + n) os ≡ []) (first_moment os)
first-order clock [] h s = λ n l. refl
first-order clock (x ∷ xs) h s =
    let from = h.0 in
    (x.moment - clock, omega arith, s x.moment refl, λ m l. due-none (clock + m) x.moment (x ∷ xs) (omega arith) (omega arith, h.1), λ e. here (clock + (x.moment - clock)) (omega arith) e)
  where
    here : (t : ℕ) → x.moment ≡ t → due_now t (x ∷ xs) ≡ [] → ⊥
    here t e f = grind (arith, nat_tests)

-- .. of those of the core that are to come
pub first-order-of : (system : System) (c clock : ℕ) (os : List Order) → os ≡ to_come clock (orders_of system c) → AreByMoment clock os → ((m : ℕ) → first_moment os ≡ Some m → m ≤ 2 ^ 42) →
    IsFirst clock (λ n. filter (is_for_now system c (clock + n)) system.orders ≡ []) (first_moment os)
first-order-of system c clock os e h s =
    first-same clock (λ n. due_now (clock + n) os ≡ []) (λ n. filter (is_for_now system c (clock + n)) system.orders ≡ []) (first_moment os)
    (λ n f. sym (same n) ∙ f) (λ n f. same n ∙ f) (first-order clock os h s)
  where
    same : (n : ℕ) → due_now (clock + n) os ≡ filter (is_for_now system c (clock + n)) system.orders
    same n =
        let later : max clock (clock + n) ≡ clock + n = omega arith in
        sym (due-to_come (clock + n) os)
        ∙ ap (λ xs. due_now (clock + n) (to_come (clock + n) xs)) e
        ∙ ap (due_now (clock + n)) (to_come-twice (clock + n) clock (orders_of system c) ∙ ap (λ t. to_come t (orders_of system c)) later)
        ∙ due-of system c (clock + n)

-- the first date
none-due : (t : ℕ) (ds : List Dated) → IfSome (earliest ds) (λ d. t < d.date) → filter (is_due t) ds ≡ []
none-due t [] h = refl
none-due t (x ∷ xs) h = grind (arith, nat_tests, none-due t xs)

some-due : (t : ℕ) (ds : List Dated) (d : Dated) → earliest ds ≡ Some d → d.date ≤ t → filter (is_due t) ds ≡ [] → ⊥
some-due t [] d e l f = cc
some-due t (x ∷ xs) d e l f = grind (arith, nat_tests, some-due t xs d)

earliest-later : (from : ℕ) (ds : List Dated) (d : Dated) → AllByRecursion (λ dated. from ≤ dated.date) ds → earliest ds ≡ Some d → from ≤ d.date
earliest-later from [] d h e = cc
earliest-later from (x ∷ xs) d h e = grind (arith, h.0, earliest-later from xs d h.1)

pub first-release : (clock : ℕ) (ds : List Dated) → AllByRecursion (λ dated. clock ≤ dated.date) ds → ((m : ℕ) → next_date ds ≡ Some m → m ≤ 2 ^ 42) →
    IsFirst clock (λ n. filter (is_due (clock + n)) ds ≡ []) (next_date ds)
first-release clock ds h s = by (earliest ds) refl
  where
    by : (o : Option Dated) → earliest ds ≡ o → IsFirst clock (λ n. filter (is_due (clock + n)) ds ≡ []) (option_map (λ x. x.date) o)
    by None e = λ n l. none-due (clock + n) ds (rw e tt)
    by (Some d) e =
        let from : clock ≤ d.date = earliest-later clock ds d h e in (
          d.date - clock,
          omega arith,
          s d.date (ap (option_map (λ x. x.date)) e),
          λ m l. none-due (clock + m) ds (rw e (omega arith)),
          λ f. some-due (clock + (d.date - clock)) ds d e (omega arith) f,
        )

pub first-now : (clock : ℕ) (P : ℕ → Type 0) → clock ≤ 2 ^ 42 → (P 0 → ⊥) → IsFirst clock P (Some clock)
first-now clock P l h = (0, omega arith, l, λ m k. absurd (omega arith), h)

-- an item continues as long as more than one tick of it is left; one that never ends has more than
-- any run
goes-on : (left n : ℕ) → n + 1 < left → 1 < left_after n left
goes-on left n h = grind (arith, nat_tests)

ended : (left n : ℕ) → 1 < left_after n left → n + 1 < left ⊎ (never ≤ left)
ended left n h = by (nat_le never left) refl h
  where
    by : (b : Bool) → nat_le never left ≡ b → 1 < cond b left (left - n) → n + 1 < left ⊎ (never ≤ left)
    by true e h = inr (grind (arith, nat_tests))
    by false e h = inl (omega (arith, h))

-- the end of the item, or of the head
pub first-end : (clock left using head : ℕ) (o : Option ℕ) → using < head →
    (IsSome o ↔ (clock + min (left - 1) (head - using - 1) ≤ 2 ^ 42)) → IfSome o (λ m. m ≡ clock + min (left - 1) (head - using - 1)) →
    IsFirst clock (λ n. (1 < left_after n left) × (using + n + 1 ≢ head)) o
first-end clock left using head None l h g =
    let far = not_le (clock + min (left - 1) (head - using - 1)) (2 ^ 42) (λ p. (let e = h.1 p in cc)) in
    λ n k. (goes-on left n (omega arith), omega arith)
first-end clock left using head (Some m) l h g =
    (min (left - 1) (head - using - 1), g, rw g (h.0 refl), λ n k. (goes-on left n (omega arith), omega arith), λ p. by (ended left (min (left - 1) (head - using - 1)) p.0) (h.0 refl) p.1)
  where
    by : (min (left - 1) (head - using - 1) + 1 < left) ⊎ (never ≤ left) → clock + min (left - 1) (head - using - 1) ≤ 2 ^ 42 → using + min (left - 1) (head - using - 1) + 1 ≢ head → ⊥
    by (inl e) k f = f (omega (arith, e))
    by (inr e) k f = f (omega (arith, e, k))

-- the running thread is one of the core, and its item one of its script
pub record IsKnown (system : System) (core : Core) (chosen : Chosen) : Type 0 where
  pub thread : chosen.thread < length core.threads
  pub item : (thread_of core chosen.thread).place.item < length (thread_part system chosen.thread).script

goes-to : (left left' using head n : ℕ) → left' ≡ left_after n left → 1 < left_after n left → using + n + 1 ≢ head → (1 < left_after 0 left') × (using + n + 0 + 1 ≢ head)
goes-to left left' using head n e a b = (rw (left-none left', e) a, omega arith)

goes-back : (left left' using head n : ℕ) → left' ≡ left_after n left → 1 < left_after 0 left' → using + n + 0 + 1 ≢ head → (1 < left_after n left) × (using + n + 1 ≢ head)
goes-back left left' using head n e a b = (rw (left-none left', e) at a, omega arith)

module _ (system : System) (c : ℕ) where
  -- the conditions of the turn after n quiet ones, on the core before them, on which this thread
  -- runs
  abbrev pub StaysQuiet : ℕ → List Mail → Core → Option Chosen → ℕ → Type 0
  StaysQuiet clock box core o n =
      GoesOnAfter system n o core
      × IsBest core o (first_of core.ready)
      × (filter (is_due (clock + n)) core.releases ≡ [])
      × (filter (is_for_now system c (clock + n)) system.orders ≡ [])
      × (arriving (clock + n) box ≡ [])
      × (ringing (clock + n) (alarms_at system c (clock + n)) ≡ [])

  best-same : (k l : Core) (a b : Chosen) (best : Option Queued) → (thread_of k a.thread).place.priority ≡ (thread_of l b.thread).place.priority → IsBest k (Some a) best → IsBest l (Some b) best
  best-same k l a b None e h = tt
  best-same k l a b (Some best) e h = ap (λ p. nat_lt p best.priority) (sym e) ∙ h

  module _ (clock : ℕ) (box : List Mail) (n : ℕ) (core : Core) where
    abbrev pub now : ℕ
    now = clock + n

    idle-quiet : core.running ≡ None → StaysQuiet clock box core None n → IsQuietWith by_priority system c now (arriving now box) core
    idle-quiet e h =
        quiet-when system c now (arriving now box) core (λ chosen f. cc) (rw e tt) (rw e (record { no_alarm = h.5; no_mail = h.4; no_order = h.3; no_release = h.2; best = h.1 }))

    quiet-idle : core.running ≡ None → IsQuietWith by_priority system c now (arriving now box) core → StaysQuiet clock box core None n
    quiet-idle e q =
        let calm = rw e at (quiet-calm system c now (arriving now box) core (λ chosen f. cc) (rw e tt) q) in
        (tt, calm.best, calm.no_release, calm.no_order, calm.no_mail, calm.no_alarm)

    module _ (chosen : Chosen) (known : IsKnown system core chosen) where
      left-after : (thread_of (counted_by n chosen core) chosen.thread).place.left ≡ left_after n (thread_of core chosen.thread).place.left
      left-after = ap (λ (thread : Thread). thread.place.left) (set-same chosen.thread (record (thread_of core chosen.thread) { place = record ((thread_of core chosen.thread).place) { left = left_after n (thread_of core chosen.thread).place.left } }) core.threads known.thread)

      item-after : (thread_of (counted_by n chosen core) chosen.thread).place.item ≡ (thread_of core chosen.thread).place.item
      item-after = ap (λ (thread : Thread). thread.place.item) (set-same chosen.thread (record (thread_of core chosen.thread) { place = record ((thread_of core chosen.thread).place) { left = left_after n (thread_of core chosen.thread).place.left } }) core.threads known.thread)

      priority-after : (thread_of (counted_of system c (Some (record { thread = chosen.thread; using = chosen.using + n })) (counted_by n chosen core)) chosen.thread).place.priority ≡ (thread_of core chosen.thread).place.priority
      priority-after =
          ap (λ (thread : Thread). thread.place.priority) (set-same chosen.thread _ (counted_by n chosen core).threads (rw length-set known.thread))
          ∙ ap (λ (thread : Thread). thread.place.priority) (set-same chosen.thread (record (thread_of core chosen.thread) { place = record ((thread_of core chosen.thread).place) { left = left_after n (thread_of core chosen.thread).place.left } }) core.threads known.thread)

      runner-after : (other : Chosen) → (counted_by n chosen core).running ≡ Some other → chosen.thread ≡ other.thread
      runner-after other e =
          let same : record { thread = chosen.thread; using = chosen.using + n } ≡ other = cc in
          ap (λ (x : Chosen). x.thread) same

      thread-after : (other : Chosen) → (counted_by n chosen core).running ≡ Some other → other.thread < length (counted_by n chosen core).threads
      thread-after other e = rw (← runner-after other e) (rw length-set known.thread)

      known-after : (other : Chosen) → (counted_by n chosen core).running ≡ Some other →
          (other.thread < length (counted_by n chosen core).threads) × ((thread_of (counted_by n chosen core) other.thread).place.item < length (thread_part system other.thread).script)
      known-after other e = (thread-after other e, rw (← runner-after other e) (rw item-after known.item))

      busy-quiet : StaysQuiet clock box core (Some chosen) n → IsQuietWith by_priority system c now (arriving now box) (counted_by n chosen core)
      busy-quiet h =
          quiet-when system c now (arriving now box) (counted_by n chosen core) thread-after
          (goes-to (thread_of core chosen.thread).place.left (thread_of (counted_by n chosen core) chosen.thread).place.left chosen.using (head_amount (its_context system chosen.thread core)) n left-after h.0.0 h.0.1)
          (record { no_alarm = h.5; no_mail = h.4; no_order = h.3; no_release = h.2; best = best-same core (counted_of system c (Some (record { thread = chosen.thread; using = chosen.using + n })) (counted_by n chosen core)) chosen (record { thread = chosen.thread; using = chosen.using + n + 1 }) (first_of core.ready) (sym priority-after) h.1 })

      quiet-busy : IsQuietWith by_priority system c now (arriving now box) (counted_by n chosen core) → StaysQuiet clock box core (Some chosen) n
      quiet-busy q =
          let goes = quiet-goes system c now (arriving now box) (counted_by n chosen core) known-after q in
          let calm = quiet-calm system c now (arriving now box) (counted_by n chosen core) thread-after goes q in (
            goes-back (thread_of core chosen.thread).place.left (thread_of (counted_by n chosen core) chosen.thread).place.left chosen.using (head_amount (its_context system chosen.thread core)) n left-after goes.0 goes.1,
            best-same (counted_of system c (Some (record { thread = chosen.thread; using = chosen.using + n })) (counted_by n chosen core)) core (record { thread = chosen.thread; using = chosen.using + n + 1 }) chosen (first_of core.ready) priority-after calm.best,
            calm.no_release,
            calm.no_order,
            calm.no_mail,
            calm.no_alarm,
          )

    pub stays-quiet : ((chosen : Chosen) → core.running ≡ Some chosen → IsKnown system core chosen) → StaysQuiet clock box core core.running n → IsQuietWith by_priority system c now (arriving now box) (counted_times system c n core)
    stays-quiet known h = by core.running refl h
      where
        by : (o : Option Chosen) → core.running ≡ o → StaysQuiet clock box core o n → IsQuietWith by_priority system c now (arriving now box) (counted_times system c n core)
        by None e h = rw (counted-idle system c n core e) (idle-quiet e h)
        by (Some chosen) e h = rw (counted-by system c n chosen core e (known chosen e).thread) (busy-quiet chosen (known chosen e) h)

    pub quiet-stays : ((chosen : Chosen) → core.running ≡ Some chosen → IsKnown system core chosen) → IsQuietWith by_priority system c now (arriving now box) (counted_times system c n core) → StaysQuiet clock box core core.running n
    quiet-stays known q = by core.running refl
      where
        by : (o : Option Chosen) → core.running ≡ o → StaysQuiet clock box core o n
        by None e = quiet-idle e (rw (counted-idle system c n core e) at q)
        by (Some chosen) e = quiet-busy chosen (known chosen e) (rw (counted-by system c n chosen core e (known chosen e).thread) at q)

  -- the next busy moment is the soonest of these
  pub next-busy : (clock : ℕ) (box : List Mail) (core : Core) (ends date order alarm mail : Option ℕ) → ((chosen : Chosen) → core.running ≡ Some chosen → IsKnown system core chosen) →
      IsEnd system clock core ends →
      IsFirst clock (λ n. filter (is_due (clock + n)) core.releases ≡ []) date →
      IsFirst clock (λ n. filter (is_for_now system c (clock + n)) system.orders ≡ []) order →
      IsFirst clock (λ n. ringing (clock + n) (alarms_at system c (clock + n)) ≡ []) alarm →
      IsFirst clock (λ n. arriving (clock + n) box ≡ []) mail →
      IsNextBusyWith by_priority system c clock box core (sooner (sooner (sooner (sooner ends date) order) alarm) mail)
  next-busy clock box core ends date order alarm mail known h1 h3 h4 h6 h5 =
      let all = first-both clock _ _ _ _ (first-both clock _ _ _ _ (first-both clock _ _ _ _ (first-both clock _ _ _ _ h1 h3) h4) h6) h5 in
      is (sooner (sooner (sooner (sooner ends date) order) alarm) mail)
      (first-same clock _ (λ n. IsQuietWith by_priority system c (clock + n) (arriving (clock + n) box) (counted_times system c n core)) _
      (λ n h. stays-quiet clock box n core known (h.0.0.0.0.0, h.0.0.0.0.1, h.0.0.0.1, h.0.0.1, h.1, h.0.1))
      (λ n q. (let h = quiet-stays clock box n core known q in (((((h.0, h.1), h.2), h.3), h.5), h.4))) all)
    where
      is : (o : Option ℕ) → IsFirst clock (λ n. IsQuietWith by_priority system c (clock + n) (arriving (clock + n) box) (counted_times system c n core)) o → IsNextBusyWith by_priority system c clock box core o
      is None h = h
      is (Some moment) h =
          (h.0, h.1, h.2, h.3, λ q. h.4 (let P : ℕ → Type 0 = λ t. IsQuietWith by_priority system c t (arriving t box) (counted_times system c h.0 core) in subst P h.1 q))
