-- Parts of a turn that leave these unchanged: notifications, threads that are done or not, their
-- items and priorities, and the order of the ready queue.
use Rattle.std.proofs.Common.{◌≡◌, ◌≢◌, ◌⊎◌, inl, inr, ℕ, zero, suc, ◌+◌, ◌<◌, ◌≤◌, Bool, true, false, cond, not, ◌==◌, List, [], ◌∷◌, length, get_or, set, Option, Some, None, refl, sym, ap, subst, ◌∙◌, arith}
use Rattle.std.specs.Prelude.{filter, nat_lt}
use Rattle.std.specs.List.{slice_get, AllByRecursion}
use Rattle.std.proofs.lemmas.Bool.{cases_lt}
use Rattle.std.proofs.lemmas.Bool.Decides.{nat_tests}
use Rattle.std.proofs.lemmas.List.{get_or-set_same, get_or-set_other, get_or_past}
use Rattle.std.proofs.Math.ListN.{length-set}
use Rattle.mcs_ticks.specs.Queue.{by_priority, first_of, rest_of, entered_back, entered_front}
use Rattle.mcs_ticks.specs.declared.queue.Queued.{Queued}
use Rattle.mcs_ticks.specs.declared.row.Why.{Why}
use Rattle.mcs_ticks.specs.declared.row.Why.TheVariants as why
use Rattle.mcs_control.specs.declared.config.Order.{Order}
use Rattle.mcs_control.specs.Context.{head_amount}
use Rattle.mcs_notify.specs.Note.{Note, quiet_note}
use Rattle.mcs_release.specs.declared.dated.Dated.{Dated}
use Rattle.mcs_release.specs.Release.{is_due}
use Rattle.mcs_script.specs.declared.item.Item.{Item}
use Rattle.mcs_script.specs.declared.item.Item.TheVariants.{Compute, Signal, Wait, Yield, On, Spin, Enter, Leave}
use Rattle.mcs_system.specs.declared.part.ThreadPart.{ThreadPart}
use Rattle.mcs_system.specs.System.{System, no_thread, thread_part, core_of}
use Rattle.mcs_system.specs.WellFormed.{IsWellFormed, IsItem}
use Rattle.mcs_core.specs.declared.standing.AfterItem.{AfterItem}
use Rattle.mcs_core.specs.declared.standing.AfterItem.TheVariants as after
use Rattle.mcs_core.specs.declared.standing.Chosen.{Chosen}
use Rattle.mcs_core.specs.declared.standing.Standing.{Standing}
use Rattle.mcs_core.specs.declared.standing.Standing.TheVariants.{Pending, Ready, Running}
use Rattle.mcs_core.specs.declared.standing.Thread.{Thread}
use Rattle.mcs_core.specs.Core.{Core, no_state, thread_of, with_thread, stands, off}
use Rattle.mcs_core.specs.Places.{times_queued, times_dated, times_waiting}
use Rattle.mcs_core.specs.Turn as turns
use Rattle.mcs_core.specs.Turn.{Turn, silent, says, ◌followed_by◌, each, is_for_now}
use Rattle.mcs_core.proofs.Counts.{one_if_same, times_queued-back, times_queued-front, times_queued-rest, times_dated-append}
use Rattle.mcs_laws.specs.Places.{places, times_running}
use Rattle.mcs_laws.proofs.Places.{obeys-held, releases-held}
use Rattle.mcs_server_laws.specs.Exclusion.{is_done}
use Rattle.mcs_server_laws.proofs.Tests.{itself}

-- threads
pub view-set : {A : Type 0} (f : Thread → A) (xs : List Thread) (y x : ℕ) (new : Thread) → f new ≡ f (get_or xs y no_state)
    → f (get_or (set xs y new) x no_state) ≡ f (get_or xs x no_state)
view-set f [] y x new e = refl
view-set f (z ∷ zs) zero zero new e = e
view-set f (z ∷ zs) zero (suc x) new e = refl
view-set f (z ∷ zs) (suc y) zero new e = refl
view-set f (z ∷ zs) (suc y) (suc x) new e = view-set f zs y x new e

pub thread-other : (y x : ℕ) (state : Thread) (k : Core) → x ≢ y → thread_of (with_thread y state k) x ≡ thread_of k x
thread-other y x state k h = get_or-set_other k.threads y x state no_state h

pub thread-own : (y : ℕ) (state : Thread) (k : Core) → y < length k.threads → thread_of (with_thread y state k) y ≡ state
thread-own y state k l = get_or-set_same k.threads y state no_state l

-- waiters of a notification, on which no thread waits more often than before
pub waiters-set : (x : ℕ) (notes : List Note) (n m : ℕ) (note : Note) → times_queued x note.waiters ≤ times_queued x (get_or notes n quiet_note).waiters
    → times_queued x (get_or (set notes n note) m quiet_note).waiters ≤ times_queued x (get_or notes m quiet_note).waiters
waiters-set x [] n m note l = omega arith
waiters-set x (z ∷ zs) zero zero note l = l
waiters-set x (z ∷ zs) zero (suc m) note l = omega arith
waiters-set x (z ∷ zs) (suc n) zero note l = omega arith
waiters-set x (z ∷ zs) (suc n) (suc m) note l = waiters-set x zs n m note l

-- the ready threads by priority, each with that of its place
abbrev pub IsEntry : List Thread → Queued → Type 0
IsEntry threads entry = entry.priority ≡ (get_or threads entry.thread no_state).place.priority

abbrev pub IsFalling : List Queued → Type 0
IsFalling [] = Unit {0}
IsFalling (first ∷ others) = AllByRecursion (λ (entry : Queued). entry.priority ≤ first.priority) others × IsFalling others

abbrev pub IsLine : List Thread → List Queued → Type 0
IsLine threads ready = AllByRecursion (IsEntry threads) ready × IsFalling ready

pub entries-same : (threads later : List Thread) (ready : List Queued)
    → ((x : ℕ) → (get_or later x no_state).place.priority ≡ (get_or threads x no_state).place.priority)
    → AllByRecursion (IsEntry threads) ready → AllByRecursion (IsEntry later) ready
entries-same threads later [] h all = tt
entries-same threads later (entry ∷ ready) h all = (all.0 ∙ sym (h entry.thread), entries-same threads later ready h all.1)

-- one thread that is not ready has another place
pub entries-other : (y : ℕ) (threads later : List Thread) (ready : List Queued) → times_queued y ready ≡ 0
    → ((x : ℕ) → x ≢ y → get_or later x no_state ≡ get_or threads x no_state)
    → AllByRecursion (IsEntry threads) ready → AllByRecursion (IsEntry later) ready
entries-other y threads later [] none h all = tt
entries-other y threads later (entry ∷ ready) none h all =
    let ne : entry.thread ≢ y = λ e. omega (arith, none, ap (λ b. let n : ℕ = cond b 1 0 in n) (subst (λ z. (entry.thread == z) ≡ true) e (itself entry.thread))) in
    (all.0 ∙ sym (ap (λ (s : Thread). s.place.priority) (h entry.thread ne)), entries-other y threads later ready (omega (arith, none)) h all.1)

pub all-less : (n m : ℕ) (ready : List Queued) → n ≤ m → AllByRecursion (λ (entry : Queued). entry.priority ≤ n) ready → AllByRecursion (λ (entry : Queued). entry.priority ≤ m) ready
all-less n m [] l all = tt
all-less n m (entry ∷ ready) l all = (omega (arith, l, all.0), all-less n m ready l all.1)

pub all-if : (P : Queued → Type 0) (b : Bool) (xs ys : List Queued) → AllByRecursion P xs → AllByRecursion P ys → AllByRecursion P (cond b xs ys)
all-if P true xs ys p q = p
all-if P false xs ys p q = q

pub all-back : (P : Queued → Type 0) (x : Queued) (ys : List Queued) → P x → AllByRecursion P ys → AllByRecursion P (entered_back x ys)
all-back P x [] p all = (p, tt)
all-back P x (y ∷ ys) p all = all-if P (nat_lt y.priority x.priority) (x ∷ y ∷ ys) (y ∷ entered_back x ys) (p, all) (all.0, all-back P x ys p all.1)

pub all-front : (P : Queued → Type 0) (x : Queued) (ys : List Queued) → P x → AllByRecursion P ys → AllByRecursion P (entered_front x ys)
all-front P x [] p all = (p, tt)
all-front P x (y ∷ ys) p all = all-if P (nat_lt x.priority y.priority) (y ∷ entered_front x ys) (x ∷ y ∷ ys) (all.0, all-front P x ys p all.1) (p, all)

pub less-is : (a b : ℕ) → nat_lt a b ≡ true → a < b
less-is a b e = grind (arith, nat_tests)

pub not-less : (a b : ℕ) → nat_lt a b ≡ false → b ≤ a
not-less a b e = grind (arith, nat_tests)

pub falling-back : (x : Queued) (ys : List Queued) → IsFalling ys → IsFalling (entered_back x ys)
falling-back x [] f = (tt, tt)
falling-back x (y ∷ ys) f = by (nat_lt y.priority x.priority) refl (falling-back x ys f.1)
  where
    by : (b : Bool) → nat_lt y.priority x.priority ≡ b → IsFalling (entered_back x ys) → IsFalling (cond b (x ∷ y ∷ ys) (y ∷ entered_back x ys))
    by true e g =
        let l = less-is y.priority x.priority e in
        ((omega (arith, l), all-less y.priority x.priority ys (omega (arith, l)) f.0), f)
    by false e g = (all-back (λ (entry : Queued). entry.priority ≤ y.priority) x ys (not-less y.priority x.priority e) f.0, g)

pub falling-front : (x : Queued) (ys : List Queued) → IsFalling ys → IsFalling (entered_front x ys)
falling-front x [] f = (tt, tt)
falling-front x (y ∷ ys) f = by (nat_lt x.priority y.priority) refl (falling-front x ys f.1)
  where
    by : (b : Bool) → nat_lt x.priority y.priority ≡ b → IsFalling (entered_front x ys) → IsFalling (cond b (y ∷ entered_front x ys) (x ∷ y ∷ ys))
    by true e g =
        let l = less-is x.priority y.priority e in
        (all-front (λ (entry : Queued). entry.priority ≤ y.priority) x ys (omega (arith, l)) f.0, g)
    by false e g =
        let l = not-less x.priority y.priority e in
        ((l, all-less y.priority x.priority ys l f.0), f)

pub rest-line : (threads : List Thread) (ready : List Queued) → IsLine threads ready → IsLine threads (rest_of ready)
rest-line threads [] l = l
rest-line threads (entry ∷ ready) l = (l.0.1, l.1.1)

-- whether a thread is done, its item and its priority
abbrev pub spot : Core → ℕ → Bool × ℕ × ℕ
spot k x = (is_done (thread_of k x).standing, (thread_of k x).place.item, (thread_of k x).place.priority)

-- a core with the same notifications, and each thread in its place
pub record Still (k after : Core) : Type 0 where
  pub notes : after.notes ≡ k.notes
  pub many : length after.threads ≡ length k.threads
  pub spots : (x : ℕ) → spot after x ≡ spot k x
  pub line : IsLine k.threads k.ready → IsLine after.threads after.ready

pub still-then : (k j l : Core) → Still k j → Still j l → Still k l
still-then k j l p q = record { notes = q.notes ∙ p.notes; many = q.many ∙ p.many; spots = λ x. q.spots x ∙ p.spots x; line = λ l. q.line (p.line l) }

-- and no thread with more places
pub record Calm (k after : Core) : Type 0 where
  pub still : Still k after
  pub fewer : (x : ℕ) → places x after ≤ places x k

pub calm-refl : (k : Core) → Calm k k
calm-refl k = record { still = record { notes = refl; many = refl; spots = λ x. refl; line = λ l. l }; fewer = λ x. omega arith }

pub calm-if : (k : Core) (b : Bool) (u v : Turn) → Calm k u.core → Calm k v.core → Calm k (cond b u v).core
calm-if k true u v p q = p
calm-if k false u v p q = q

-- a thread that is not done stands otherwise
pub stands-still : (y : ℕ) (standing : Standing) (k : Core) → is_done standing ≡ is_done (thread_of k y).standing → Still k (stands y standing k)
stands-still y standing k e =
    record {
      notes = refl;
      many = length-set k.threads y _;
      spots = λ x. view-set (λ (s : Thread). let pair : Bool × ℕ × ℕ = (is_done s.standing, s.place.item, s.place.priority) in pair) k.threads y x (record (thread_of k y) { standing = standing })
          (ap (λ b. let pair : Bool × ℕ × ℕ = (b, (thread_of k y).place.item, (thread_of k y).place.priority) in pair) e);
      line = λ l.
          (entries-same k.threads (stands y standing k).threads k.ready (λ x. view-set (λ (s : Thread). s.place.priority) k.threads y x (record (thread_of k y) { standing = standing }) refl) l.0, l.1);
    }

-- a thread that enters a queue
pub record Entered (y : ℕ) (k after : Core) : Type 0 where
  pub still : Still k after
  pub others : (x : ℕ) → x ≢ y → thread_of after x ≡ thread_of k x
  pub counts : (x : ℕ) → places x after ≡ one_if_same y x + places x k
  pub queued : 1 ≤ times_queued y after.ready + times_dated y after.releases

pub one-of : (y : ℕ) → one_if_same y y ≡ 1
one-of y = ap (λ b. cond b 1 0) (itself y)

pub back-entered : (y : ℕ) (date : Option ℕ) (k : Core) → is_done (thread_of k y).standing ≡ false → Entered y k (turns.enters_back by_priority y date k)
back-entered y None k e =
    let s = stands-still y Ready k (sym e) in
    record {
      still = record {
        notes = s.notes;
        many = s.many;
        spots = s.spots;
        line = λ l.
            (let m = s.line l in
            (all-back (IsEntry (stands y Ready k).threads) (turns.queued y k) k.ready (sym (ap (λ (z : Bool × ℕ × ℕ). z.2) (s.spots y))) m.0, falling-back (turns.queued y k) k.ready m.1));
      };
      others = λ x h. thread-other y x _ k h;
      counts = λ x. omega (arith, times_queued-back x (turns.queued y k) k.ready);
      queued = omega (arith, times_queued-back y (turns.queued y k) k.ready, one-of y);
    }
back-entered y (Some date) k e =
    let s = stands-still y Pending k (sym e) in
    record {
      still = record { notes = s.notes; many = s.many; spots = s.spots; line = s.line };
      others = λ x h. thread-other y x _ k h;
      counts = λ x. omega (arith, times_dated-append x k.releases (record { thread = y; date = date }));
      queued = omega (arith, times_dated-append y k.releases (record { thread = y; date = date }), one-of y);
    }

pub front-entered : (y : ℕ) (date : Option ℕ) (k : Core) → is_done (thread_of k y).standing ≡ false → Entered y k (turns.enters_front by_priority y date k)
front-entered y None k e =
    let s = stands-still y Ready k (sym e) in
    record {
      still = record {
        notes = s.notes;
        many = s.many;
        spots = s.spots;
        line = λ l.
            (let m = s.line l in
            (all-front (IsEntry (stands y Ready k).threads) (turns.queued y k) k.ready (sym (ap (λ (z : Bool × ℕ × ℕ). z.2) (s.spots y))) m.0, falling-front (turns.queued y k) k.ready m.1));
      };
      others = λ x h. thread-other y x _ k h;
      counts = λ x. omega (arith, times_queued-front x (turns.queued y k) k.ready);
      queued = omega (arith, times_queued-front y (turns.queued y k) k.ready, one-of y);
    }
front-entered y (Some date) k e =
    let s = stands-still y Pending k (sym e) in
    record {
      still = record { notes = s.notes; many = s.many; spots = s.spots; line = s.line };
      others = λ x h. thread-other y x _ k h;
      counts = λ x. omega (arith, times_dated-append x k.releases (record { thread = y; date = date }));
      queued = omega (arith, times_dated-append y k.releases (record { thread = y; date = date }), one-of y);
    }

-- the running thread leaves the core
pub off-places : (x y using : ℕ) (k : Core) → k.running ≡ Some (record { thread = y; using = using }) → one_if_same y x + places x (off k) ≡ places x k
off-places x y using k e = by k.running e
  where
    by : (o : Option Chosen) → o ≡ Some (record { thread = y; using = using }) →
        one_if_same y x + (0 + times_queued x k.ready + times_dated x k.releases + times_waiting x k.notes)
        ≡ times_running x o + times_queued x k.ready + times_dated x k.releases + times_waiting x k.notes
    by o f = rw f (omega arith)

module _ (system : System) (t : ℕ) where
  -- it enters a queue again
  pub stops_to_back-calm : (y using n : ℕ) (cause : Why) (k : Core) → k.running ≡ Some (record { thread = y; using = using }) → is_done (thread_of k y).standing ≡ false
      → Calm k (turns.stops_to_back by_priority system t y cause n k).core
  stops_to_back-calm y using n cause k e alive =
      let charged = turns.charged system y n k in
      let s = back-entered y (turns.date_of system t y charged) (off charged) alive in
      record {
        still = record { notes = s.still.notes; many = s.still.many; spots = s.still.spots; line = s.still.line };
        fewer = λ x. omega (arith, s.counts x, off-places x y using k e);
      }

  pub stops_to_front-calm : (y using n : ℕ) (cause : Why) (k : Core) → k.running ≡ Some (record { thread = y; using = using }) → is_done (thread_of k y).standing ≡ false
      → Calm k (turns.stops_to_front by_priority system t y cause n k).core
  stops_to_front-calm y using n cause k e alive =
      let s = front-entered y (turns.date_of system t y k) (off k) alive in
      record {
        still = record { notes = s.still.notes; many = s.still.many; spots = s.still.spots; line = s.still.line };
        fewer = λ x. omega (arith, s.counts x, off-places x y using k e);
      }

  abbrev pub DoesStay : AfterItem → Type 0
  DoesStay after.GoesOn = Unit {0}
  DoesStay after.Yields = Unit {0}
  DoesStay _ = ⊥

  pub may_stop-calm : (y using : ℕ) (cause : AfterItem) (k : Core) → DoesStay cause → k.running ≡ Some (record { thread = y; using = using }) → is_done (thread_of k y).standing ≡ false
      → Calm k (turns.may_stop by_priority system t y using cause k).core
  may_stop-calm y using after.GoesOn k s e alive =
      calm-if k (using == head_amount (turns.its_context system y k)) (turns.stops_to_back by_priority system t y why.Spent using k) (silent k)
      (stops_to_back-calm y using using why.Spent k e alive) (calm-refl k)
  may_stop-calm y using after.Yields k s e alive = stops_to_back-calm y using (head_amount (turns.its_context system y k)) why.Yield k e alive
  may_stop-calm y using after.Ends k s e alive = absurd s
  may_stop-calm y using after.Blocks k s e alive = absurd s
  may_stop-calm y using after.Calls k s e alive = absurd s

  -- orders, releases, and the choice, if a thread with a place is not done
  abbrev pub Alive : Core → Type 0
  Alive k = (x : ℕ) → 1 ≤ places x k → is_done (thread_of k x).standing ≡ false

  pub runs-place : (y using : ℕ) (k : Core) → k.running ≡ Some (record { thread = y; using = using }) → 1 ≤ places y k
  runs-place y using k e = omega (arith, off-places y y using k e, one-of y)

  pub orders_running-still : (order : Order) (o : Option Chosen) (k : Core) → k.running ≡ o → Alive k → Still k (turns.orders_running by_priority system t order o k).core
  orders_running-still order None k e alive = record { notes = refl; many = refl; spots = λ x. refl; line = λ l. l }
  orders_running-still order (Some chosen) k e alive =
      let charged = turns.applied t order (turns.charged system chosen.thread chosen.using k) in
      let s = stops_to_front-calm chosen.thread chosen.using chosen.using why.Order charged e (alive chosen.thread (runs-place chosen.thread chosen.using k e)) in
      by ((turns.part_of system chosen.thread).context == order.context)
      record { notes = s.still.notes; many = s.still.many; spots = s.still.spots; line = s.still.line }
    where
      by : (b : Bool) → Still k (turns.stops_to_front by_priority system t chosen.thread why.Order chosen.using (turns.applied t order (turns.charged system chosen.thread chosen.using k))).core
          → Still k
          (cond b (turns.stops_to_front by_priority system t chosen.thread why.Order chosen.using (turns.applied t order (turns.charged system chosen.thread chosen.using k)))
          (silent (turns.applied t order k))).core
      by true s = s
      by false s = record { notes = refl; many = refl; spots = λ x. refl; line = λ l. l }

  pub obeys-calm : (order : Order) (k : Core) → Alive k → Calm k (turns.obeys by_priority system t order k).core
  obeys-calm order k alive = record { still = orders_running-still order k.running k refl alive; fewer = λ x. obeys-held system t x order k }

  pub released-still : (ds : List Dated) (k : Core) → ((x : ℕ) → 1 ≤ times_dated x ds → is_done (thread_of k x).standing ≡ false) → Still k (each (turns.released by_priority) ds k).core
  released-still [] k alive = record { notes = refl; many = refl; spots = λ x. refl; line = λ l. l }
  released-still (due ∷ ds) k alive =
      let first = back-entered due.thread None k (alive due.thread (omega (arith, one-of due.thread))) in
      still-then k (turns.enters_back by_priority due.thread None k) (each (turns.released by_priority) ds (turns.enters_back by_priority due.thread None k)).core first.still
      (released-still ds (turns.enters_back by_priority due.thread None k) (λ x l. ap (λ (s : Bool × ℕ × ℕ). s.0) (first.still.spots x) ∙ alive x (omega (arith, l))))

  pub dated-filter : (x : ℕ) (p : Dated → Bool) (ds : List Dated) → times_dated x (filter p ds) ≤ times_dated x ds
  dated-filter x p [] = omega arith
  dated-filter x p (d ∷ ds) = by (p d) (dated-filter x p ds)
    where
      by : (b : Bool) → times_dated x (filter p ds) ≤ times_dated x ds → times_dated x (cond b (d ∷ filter p ds) (filter p ds)) ≤ times_dated x (d ∷ ds)
      by true l = omega (arith, l)
      by false l = omega (arith, l)

  pub releases-calm : (k : Core) → Alive k → Calm k (turns.releases by_priority system t k).core
  releases-calm k alive =
      let s = released-still (filter (is_due t) k.releases) (record k { releases = filter (λ dated. not (is_due t dated)) k.releases })
      (λ x l. alive x (omega (arith, l, dated-filter x (is_due t) k.releases))) in
      record { still = record { notes = s.notes; many = s.many; spots = s.spots; line = s.line }; fewer = λ x. releases-held system t x k }

  pub preempts-calm : (k : Core) → Alive k → Calm k (turns.preempts by_priority system t k).core
  preempts-calm k alive = by k.running refl (first_of k.ready)
    where
      by : (o : Option Chosen) → k.running ≡ o → (best : Option Queued) → Calm k (turns.preempts_by by_priority system t o best k).core
      by None e best = calm-refl k
      by (Some chosen) e None = calm-refl k
      by (Some chosen) e (Some best) =
          let s = stops_to_front-calm chosen.thread chosen.using chosen.using why.Preempt (turns.charged system chosen.thread chosen.using k) e (alive chosen.thread (runs-place chosen.thread chosen.using k e)) in
          calm-if k (nat_lt (thread_of k chosen.thread).place.priority best.priority) (turns.stops_to_front by_priority system t chosen.thread why.Preempt chosen.using (turns.charged system chosen.thread chosen.using k)) (silent k)
          record { still = record { notes = s.still.notes; many = s.still.many; spots = s.still.spots; line = s.still.line }; fewer = λ x. omega (arith, s.fewer x) }
          (calm-refl k)

  pub chooses-calm : (k : Core) → Alive k → Calm k (turns.chooses by_priority system t k).core
  chooses-calm k alive = by k.running refl (first_of k.ready) refl
    where
      by : (o : Option Chosen) → k.running ≡ o → (best : Option Queued) → first_of k.ready ≡ best → Calm k (turns.chooses_of by_priority system t o best k).core
      by (Some chosen) e best f = calm-refl k
      by None e None f = calm-refl k
      by None e (Some best) f =
          let s = stands-still best.thread Running k (sym (alive best.thread (omega (arith, times_queued-rest best.thread best k.ready f, one-of best.thread)))) in
          record {
            still = record { notes = s.notes; many = s.many; spots = s.spots; line = λ l. rest-line (stands best.thread Running k).threads k.ready (s.line l) };
            fewer = λ x. omega (arith, times_queued-rest x best k.ready f, none x k.running e);
          }
        where
          none : (x : ℕ) (o : Option Chosen) → o ≡ None → times_running x o ≡ 0
          none x o g = ap (times_running x) g

  -- no ready thread is above the one that runs
  abbrev pub IsTop : Core → Type 0
  IsTop k = (chosen : Chosen) → k.running ≡ Some chosen → AllByRecursion (λ (entry : Queued). entry.priority ≤ (thread_of k chosen.thread).place.priority) k.ready

  pub none-runs : (k : Core) → k.running ≡ None → IsTop k
  none-runs k e chosen f = let g : None ≡ Some chosen = sym e ∙ f in absurd (cc)

  pub front-running : (y : ℕ) (date : Option ℕ) (k : Core) → (turns.enters_front by_priority y date k).running ≡ k.running
  front-running y None k = refl
  front-running y (Some date) k = refl

  -- so it is when a thread gave way to a better one ..
  pub preempts-top : (k : Core) → IsLine k.threads k.ready → IsTop (turns.preempts by_priority system t k).core
  preempts-top k line = by k.running refl k.ready refl line.1
    where
      by : (o : Option Chosen) → k.running ≡ o → (ready : List Queued) → k.ready ≡ ready → IsFalling ready → IsTop (turns.preempts_by by_priority system t o (first_of ready) k).core
      by None e ready f falling = none-runs k e
      by (Some chosen) e [] f falling = λ other g. subst (AllByRecursion (λ (entry : Queued). entry.priority ≤ (thread_of k other.thread).place.priority)) (sym f) tt
      by (Some chosen) e (best ∷ ready) f falling = test (nat_lt (thread_of k chosen.thread).place.priority best.priority) refl
        where
          charged : Core
          charged = turns.charged system chosen.thread chosen.using k

          test : (b : Bool) → nat_lt (thread_of k chosen.thread).place.priority best.priority ≡ b
              → IsTop (cond b (turns.stops_to_front by_priority system t chosen.thread why.Preempt chosen.using charged) (silent k)).core
          test true g =
              none-runs (turns.stops_to_front by_priority system t chosen.thread why.Preempt chosen.using charged).core
              (front-running chosen.thread (turns.date_of system t chosen.thread charged) (off charged))
          test false g = λ other q.
              let same : chosen ≡ other = some-is chosen other (sym e ∙ q) in
              let l = not-less (thread_of k chosen.thread).place.priority best.priority g in
              subst (λ (c : Chosen). AllByRecursion (λ (entry : Queued). entry.priority ≤ (thread_of k c.thread).place.priority) k.ready) same
              (subst (AllByRecursion (λ (entry : Queued). entry.priority ≤ (thread_of k chosen.thread).place.priority)) (sym f)
              (l, all-less best.priority (thread_of k chosen.thread).place.priority ready l falling.0))
            where
              some-is : (a b : Chosen) → Some a ≡ Some b → a ≡ b
              some-is a b q = cc

  -- .. and when the best one was chosen
  pub chooses-top : (k : Core) → IsLine k.threads k.ready → IsTop k → IsTop (turns.chooses by_priority system t k).core
  chooses-top k line top = by k.running refl k.ready refl line
    where
      by : (o : Option Chosen) → k.running ≡ o → (ready : List Queued) → k.ready ≡ ready → IsLine k.threads ready → IsTop (turns.chooses_of by_priority system t o (first_of ready) k).core
      by (Some chosen) e ready f l = top
      by None e [] f l = none-runs k e
      by None e (best ∷ ready) f l = λ other q.
          let one : Chosen = record { thread = best.thread; using = 0 } in
          let same : one ≡ other = some-is one other q in
          let after = (turns.chooses_of by_priority system t None (Some best) k).core in
          let priority : (thread_of after best.thread).place.priority ≡ (thread_of k best.thread).place.priority = view-set (λ (s : Thread). s.place.priority) k.threads best.thread best.thread _ refl in
          let first : best.priority ≡ (thread_of k best.thread).place.priority = l.0.0 in
          subst (λ (c : Chosen). AllByRecursion (λ (entry : Queued). entry.priority ≤ (thread_of after c.thread).place.priority) after.ready) same
          (subst (λ (rest : List Queued). AllByRecursion (λ (entry : Queued). entry.priority ≤ (thread_of after best.thread).place.priority) (rest_of rest)) (sym f)
          (all-less best.priority (thread_of after best.thread).place.priority ready (omega (arith, priority, first)) l.1.0))
        where
          some-is : (a b : Chosen) → Some a ≡ Some b → a ≡ b
          some-is a b q = cc

-- a thread that waits for this note: it is at a wait, or at the entering of a server
abbrev pub Awaits : Option Item → ℕ → Type 0
Awaits (Some (Wait note)) n = note ≡ n
Awaits (Some (Enter note priority)) n = note ≡ n
Awaits _ n = ⊥

pub waits-at : (o : Option Item) (n : ℕ) → ((priority : ℕ) → o ≡ Some (Enter n priority) → ⊥) → Awaits o n → o ≡ Some (Wait n)
waits-at (Some (Wait note)) n h a = ap (λ m. Some (Wait m)) a
waits-at (Some (Enter note priority)) n h a = absurd (h priority (ap (λ m. Some (Enter m priority)) a))
waits-at (Some (Compute ticks)) n h a = absurd a
waits-at (Some (Signal note badge)) n h a = absurd a
waits-at (Some Yield) n h a = absurd a
waits-at (Some (On badges)) n h a = absurd a
waits-at (Some Spin) n h a = absurd a
waits-at (Some (Leave note priority)) n h a = absurd a
waits-at None n h a = absurd a

pub enters-at : (o : Option Item) (n : ℕ) → (o ≡ Some (Wait n) → ⊥) → Awaits o n → (priority : ℕ) × (o ≡ Some (Enter n priority))
enters-at (Some (Wait note)) n h a = absurd (h (ap (λ m. Some (Wait m)) a))
enters-at (Some (Enter note priority)) n h a = (priority, ap (λ m. Some (Enter m priority)) a)
enters-at (Some (Compute ticks)) n h a = absurd a
enters-at (Some (Signal note badge)) n h a = absurd a
enters-at (Some Yield) n h a = absurd a
enters-at (Some (On badges)) n h a = absurd a
enters-at (Some Spin) n h a = absurd a
enters-at (Some (Leave note priority)) n h a = absurd a
enters-at None n h a = absurd a

-- threads with items
pub with-item : (system : System) (x i : ℕ) (item : Item) → slice_get (thread_part system x).script i ≡ Some item → x < length system.threads
with-item system x i item e = by (cases_lt x (length system.threads))
  where
    by : (x < length system.threads) ⊎ (length system.threads ≤ x) → x < length system.threads
    by (inl within) = within
    by (inr past) =
        let none : slice_get no_thread.script i ≡ Some item =
        subst (λ (thread : ThreadPart). slice_get thread.script i ≡ Some item) (get_or_past system.threads x no_thread past) e in
        absurd (cc)

pub in-script : (script : List Item) (i : ℕ) (item : Item) → slice_get script i ≡ Some item → (i < length script) × (get_or script i Yield ≡ item)
in-script [] i item e = absurd (cc)
in-script (x ∷ xs) zero item e = (omega arith, cc)
in-script (x ∷ xs) (suc i) item e = let k = in-script xs i item e in (omega (arith, k.0), k.1)

pub item-is : (system : System) → IsWellFormed system → (x i : ℕ) (item : Item) → slice_get (thread_part system x).script i ≡ Some item
    → IsItem system (core_of system (thread_part system x)) item
item-is system well x i item e =
    let k = in-script (thread_part system x).script i item e in
    subst (IsItem system (core_of system (thread_part system x))) k.1 ((well.threads x no_thread (with-item system x i item e)).items i Yield k.0)
