-- The invariant of a search, from one call to the next.
use Rattle.std.proofs.Common.{◌≡◌, ℕ, ◌+◌, ◌≤◌, ◌^◌, Bool, true, false, List, [], ◌++◌, Option, Some, None, Result, Ok, Err, OnErr, sym, ap, subst, ◌∙◌, arith}
use Rattle.std.specs.Prelude.{IfSome}
use Rattle.std.specs.Arc.{arc_value}
use Rattle.std.specs.List.{AllByRecursion}
use Rattle.mcs_ticks.specs.declared.row.Row.{Row}
use Rattle.mcs_ticks.specs.declared.row.What.{What}
use Rattle.mcs_system.specs.System.{System}
use Rattle.mcs_core.specs.Clock.{world}
use Rattle.mcs_ever.specs.Recurs.{IsClosed}
use Rattle.mcs_ever.specs.Closed.{has}
use Rattle.mcs_ever.specs.Marks.{marks_of}
use Rattle.mcs_ever_again.specs.Snapshot.{Snapshot, IsOfClock}
use Rattle.mcs_ever_again.specs.Period.{told_between, AreOfRun, RecursBetween}
use Rattle.mcs_ever_again.specs.Schedule.{whats, RowsTellTurns}
use Rattle.mcs_ever_again.specs.declared.recurs.shifts.Shifts.{Shifts}
use Rattle.mcs_ever_again.specs.laws.Told.{UnderWayIsTold}
use Rattle.mcs_verdict.specs.Findings.{UpTo, past_of}
use Rattle.mcs_verdict_laws.specs.laws.Order.{SchedulesAreInOrder}
use Rattle.mcs_ever_found.specs.Recurs.{past_before, watch_before}
use Rattle.mcs_ever_found.specs.Course.{course_of}
use Rattle.mcs_ever_search.specs.Together as together
use Rattle.mcs_ever_search.specs.Together.{Together, rows_at, rows_before}
use Rattle.mcs_system.specs.WellFormed.{IsWellFormed}
use Rattle.mcs_ever_search.specs.Compared.{RecursSince, OrdersComeBefore}
use Rattle.mcs_ever_search.specs.stored.Seen.{IsOfRows, HasSeen}
use Rattle.mcs_ever_search.specs.stored.Kept.{IsKeptOf, IsGoing, IsKept, compared_of}
use Rattle.mcs_ever_search.specs.declared.seen.Seen.{Seen}
use Rattle.mcs_ever_search.specs.declared.kept.Kept.{Kept}
use Rattle.mcs_ever_search.specs.declared.search.Search.TheInside.{Inside}
use Rattle.mcs_ever_search.proofs.Going.{rows-at, rows-up_to, told-none, has-seen, has-seen-none}
use Rattle.mcs_ever_search.proofs.Ending.{orders-later}

pub err-holds : {T E : Type 0} {P : Type 0} (r : Result T E) → P → OnErr r P
err-holds (Ok x) h = tt
err-holds (Err e) h = h

pub some-maps : (P Q : Shifts → Type 0) → ((shifts : Shifts) → P shifts → Q shifts) → (found : Option Shifts) → IfSome found P → IfSome found Q
some-maps P Q f (Some shifts) h = f shifts h
some-maps P Q f None h = tt

-- after memory ran out, the invariant claims nothing of the cores and the rows
pub failed-kept : (a : Inside) → IsKept a → (cores : Together) (seen : Seen) → IsKept (record a { lockstep = cores; seen = seen; failed = true })
failed-kept a kept cores seen =
    record {
      horizon = kept.horizon;
      in_time = kept.in_time;
      well_formed = kept.well_formed;
      orders = kept.orders;
      first = kept.first;
      kept = kept.kept;
      in_order = kept.in_order;
      going = λ still. cc;
    }

-- all of the cores but whether they are settled
with-settled : (cores : Together) (system : System) (horizon clock : ℕ) (settled : Bool) →
    cores ≡ record { system = system; horizon = horizon; clock = clock; settled = settled; failed = false } →
    cores ≡ record { system = system; horizon = horizon; clock = clock; settled = cores.settled; failed = false }
with-settled cores system horizon clock settled e =
    e ∙ ap (λ (b : Bool). record { system = system; horizon = horizon; clock = clock; settled = b; failed = false }) (sym (ap (λ (t : Together). t.settled) e))

module _ (a : Inside) (kept : IsKept a) (going : a.failed ≡ false) where
  now : IsGoing a
  now = kept.going going

  pub same : a.lockstep.system ≡ arc_value a.system
  same = ap (λ (t : Together). t.system) now.lockstep

  pub clock-is : a.lockstep.clock ≡ a.clock
  clock-is = ap (λ (t : Together). t.clock) now.lockstep

  pub whole : a.lockstep.failed ≡ false
  whole = ap (λ (t : Together). t.failed) now.lockstep

  pub mails-are : UnderWayIsTold (arc_value a.system) → a.seen.under_way ≡ (world (arc_value a.system) a.lockstep.clock).mails
  mails-are law =
      now.seen.under_way ∙ sym (law a.clock) ∙ ap (λ (t : ℕ). (world (arc_value a.system) t).mails) (sym clock-is)

  pub watch-is : a.seen.watch ≡ watch_before (arc_value a.system) a.lockstep.clock
  watch-is = now.seen.watch ∙ ap (watch_before (arc_value a.system)) (sym clock-is)

  pub course-is : a.seen.course ≡ course_of (arc_value a.system) (past_before (arc_value a.system) a.lockstep.clock)
  course-is = now.seen.course ∙ ap (λ (t : ℕ). course_of (arc_value a.system) (past_before (arc_value a.system) t)) (sym clock-is)

  pub lockstep-is : a.lockstep ≡ record { system = arc_value a.system; horizon = a.horizon; clock = a.clock; settled = a.lockstep.settled; failed = false }
  lockstep-is = now.lockstep

  -- idle cores count their ticks
  pub settled-kept : (cores : Together) → cores ≡ record a.lockstep { settled = true } → IsKept (record a { lockstep = cores })
  settled-kept cores e =
      record {
        horizon = kept.horizon;
        in_time = kept.in_time;
        well_formed = kept.well_formed;
        orders = kept.orders;
        first = kept.first;
        kept = kept.kept;
        in_order = kept.in_order;
        going = λ still.
            record {
              lockstep = with-settled cores (arc_value a.system) a.horizon a.clock true (e ∙ ap (λ (t : Together). record t { settled = true }) now.lockstep);
              seen = now.seen;
            };
      }

  -- what holds of the cores then
  module _ (cores : Together) (e : cores ≡ record a.lockstep { settled = true }) where
    clock-same : cores.clock ≡ a.lockstep.clock
    clock-same = ap (λ (t : Together). t.clock) e

    pub settled-same : cores.system ≡ arc_value a.system
    settled-same = ap (λ (t : Together). t.system) e ∙ same

    pub settled-whole : cores.failed ≡ false
    settled-whole = ap (λ (t : Together). t.failed) e ∙ whole

    pub settled-mails : UnderWayIsTold (arc_value a.system) → a.seen.under_way ≡ (world (arc_value a.system) cores.clock).mails
    settled-mails law = mails-are law ∙ ap (λ (t : ℕ). (world (arc_value a.system) t).mails) (sym clock-same)

    pub settled-watch : a.seen.watch ≡ watch_before (arc_value a.system) cores.clock
    settled-watch = watch-is ∙ ap (watch_before (arc_value a.system)) (sym clock-same)

    pub settled-course : a.seen.course ≡ course_of (arc_value a.system) (past_before (arc_value a.system) cores.clock)
    settled-course = course-is ∙ ap (λ (t : ℕ). course_of (arc_value a.system) (past_before (arc_value a.system) t)) (sym clock-same)

    pub settled-clock : cores.clock ≡ a.clock
    settled-clock = clock-same ∙ clock-is

  -- idle time passes
  pub skipped-kept : RowsTellTurns (arc_value a.system) → (moment : ℕ) (cores : Together) (seen : Seen) → a.lockstep.clock ≤ moment →
      moment ≤ a.lockstep.horizon + 1 →
      rows_before a.lockstep.system moment ≡ rows_before a.lockstep.system a.lockstep.clock →
      cores ≡ together.at_moment a.lockstep moment →
      ((system : System) (before : List Row) (since : List What) (t : ℕ) → IsOfRows system before since t a.seen → t ≤ moment →
      IsOfRows system before since moment seen) →
      IsKept (record a { lockstep = cores; seen = seen; clock = moment })
  skipped-kept tell moment cores seen behind until still at went =
      let L : Together → Type 0 = λ t. t.clock ≤ moment in
      let U : Together → Type 0 = λ t. moment ≤ t.horizon + 1 in
      let R : Together → Type 0 = λ t. rows_before t.system moment ≡ rows_before t.system t.clock in
      let later : a.clock ≤ moment = subst L now.lockstep behind in
      let in_time : moment ≤ a.horizon + 1 = subst U now.lockstep until in
      let rows : rows_before (arc_value a.system) moment ≡ rows_before (arc_value a.system) a.clock = subst R now.lockstep still in
      let s = arc_value a.system in
      let k = a.kept.snapshot.moment in
      record {
        horizon = kept.horizon;
        in_time = in_time;
        well_formed = kept.well_formed;
        orders = kept.orders;
        first = kept.first;
        kept = kept.kept;
        in_order = (let l = kept.in_order in omega (arith, l, later));
        going = λ whole_still.
            record {
              lockstep = with-settled cores (arc_value a.system) a.horizon moment false (at ∙ ap (λ (t : Together). together.at_moment t moment) now.lockstep);
              seen = has-seen-none s tell k a.clock moment seen kept.in_order later rows
                  (went s (rows_before s a.clock) (told_between s k a.clock) a.clock now.seen later);
            };
      }

  -- the cores take their turns of the moment
  pub turned-kept : RowsTellTurns (arc_value a.system) → SchedulesAreInOrder → (next : ℕ) (cores : Together) (made : List Row) (between seen : Seen) →
      a.clock ≤ a.horizon → next ≡ a.clock + 1 →
      cores ≡ together.at_moment a.lockstep (a.lockstep.clock + 1) →
      rows_before a.lockstep.system (a.lockstep.clock + 1)
      ≡ rows_before a.lockstep.system a.lockstep.clock ++ rows_at a.lockstep.system a.lockstep.clock →
      made ≡ rows_at a.lockstep.system a.lockstep.clock →
      ((before : List Row) (since : List What) (t : ℕ) → IsOfRows (arc_value a.system) before since t a.seen → UpTo t (past_of [] before) → t ≤ 2 ^ 40 →
      AllByRecursion (λ (row : Row). row.moment ≡ t) made → IsOfRows (arc_value a.system) (before ++ made) (since ++ whats made) t between) →
      ((system : System) (before : List Row) (since : List What) (t : ℕ) → IsOfRows system before since t between → t ≤ next →
      IsOfRows system before since next seen) →
      IsKept (record a { lockstep = cores; seen = seen; clock = next; failed = false })
  turned-kept tell order next cores made between seen early next-is at rows made-is sees went =
      let s = arc_value a.system in
      let k = a.kept.snapshot.moment in
      let t = a.clock in
      let R : Together → Type 0 = λ x. rows_before x.system (x.clock + 1) ≡ rows_before x.system x.clock ++ rows_at x.system x.clock in
      let M : Together → Type 0 = λ x. made ≡ rows_at x.system x.clock in
      let here : made ≡ rows_at s t = subst M now.lockstep made-is in
      let more : rows_before s next ≡ rows_before s t ++ made =
      ap (rows_before s) next-is ∙ subst R now.lockstep rows ∙ ap (λ (rows : List Row). rows_before s t ++ rows) (sym here) in
      let A : List Row → Type 0 = λ rows. AllByRecursion (λ (row : Row). row.moment ≡ t) rows in
      let after = sees (rows_before s t) (told_between s k t) t now.seen (rows-up_to order s kept.well_formed t)
      (let h = kept.horizon in omega (arith, h, early)) (subst A (sym here) (rows-at s t)) in
      let later : t ≤ next = omega (arith, next-is) in
      record {
        horizon = kept.horizon;
        in_time = omega (arith, next-is, early);
        well_formed = kept.well_formed;
        orders = kept.orders;
        first = kept.first;
        kept = kept.kept;
        in_order = (let l = kept.in_order in omega (arith, l, later));
        going = λ still.
            record {
              lockstep = with-settled cores s a.horizon next false
                  (at ∙ ap (λ (x : Together). together.at_moment x (x.clock + 1)) now.lockstep
                  ∙ ap (λ (n : ℕ). record { system = s; horizon = a.horizon; clock = n; settled = false; failed = false }) (sym next-is));
              seen = has-seen s tell k t next made seen kept.in_order later more
                  (went s (rows_before s t ++ made) (told_between s k t ++ whats made) t after later);
            };
      }

  -- another moment is kept
  pub kept-kept : (present : Kept) (seen : Seen) → IsKeptOf (arc_value a.system) present → present.snapshot.moment ≡ a.lockstep.clock →
      ((system : System) (before : List Row) (since : List What) (t : ℕ) → IsOfRows system before since t a.seen → IsOfRows system before [] t seen) →
      IsKept (record a { kept = present; seen = seen })
  kept-kept present seen is moment-is cleared =
      let s = arc_value a.system in
      let here : present.snapshot.moment ≡ a.clock = moment-is ∙ clock-is in
      let P : List What → Type 0 = λ since. IsOfRows s (rows_before s a.clock) since a.clock seen in
      let none : [] ≡ told_between s present.snapshot.moment a.clock =
      sym (told-none s a.clock) ∙ ap (λ (m : ℕ). told_between s m a.clock) (sym here) in
      record {
        horizon = kept.horizon;
        in_time = kept.in_time;
        well_formed = kept.well_formed;
        orders = kept.orders;
        first = kept.first;
        kept = is;
        in_order = omega (arith, here);
        going = λ still.
            record {
              lockstep = now.lockstep;
              seen = subst P none (cleared s (rows_before s a.clock) (told_between s a.kept.snapshot.moment a.clock) a.clock now.seen);
            };
      }

  -- a search compares moments of the run
  pub of-run : (group : List Bool) (present : Snapshot) → IsOfClock (arc_value a.system) present → present.moment ≡ a.lockstep.clock →
      a.orders_end ≤ a.kept.snapshot.moment → IsClosed (arc_value a.system) (has group) →
      AreOfRun (arc_value a.system) group a.kept.snapshot present a.seen.marks
  of-run group present is moment-is past closed =
      let s = arc_value a.system in
      let k = a.kept.snapshot.moment in
      record {
        earlier = kept.kept.snapshot;
        later = is;
        closed = closed;
        orders = orders-later s.orders a.orders_end k past kept.orders;
        marked = now.seen.marks ∙ ap (λ (t : ℕ). marks_of s (told_between s k t)) (sym (moment-is ∙ clock-is));
      }

  pub since-kept : (group : List Bool) (present : Snapshot) (shifts : Shifts) → present.moment ≡ a.lockstep.clock →
      RecursBetween (arc_value a.system) group a.kept.snapshot present shifts → RecursSince (compared_of a) group shifts
  since-kept group present shifts moment-is between = record { recurs = between.recurs; period = between.period ∙ moment-is ∙ clock-is }

-- before the first moment
module _ (a : Inside) (starts : a.clock ≡ 0) (opened : a.lockstep ≡ together.opening (arc_value a.system) a.horizon)
    (seen : IsOfRows (arc_value a.system) [] [] 0 a.seen) where
  pub opened-kept : a.horizon ≤ 2 ^ 40 → IsWellFormed (arc_value a.system) → OrdersComeBefore (arc_value a.system) a.orders_end →
      ((moment : ℕ) → OrdersComeBefore (arc_value a.system) moment → a.orders_end ≤ moment) →
      IsKeptOf (arc_value a.system) a.kept → a.kept.snapshot.moment ≡ a.lockstep.clock → IsKept a
  opened-kept horizon well orders first is moment-is =
      let s = arc_value a.system in
      let at : a.kept.snapshot.moment ≡ 0 = moment-is ∙ ap (λ (t : Together). t.clock) opened in
      let P : List What → Type 0 = λ since. IsOfRows s [] since 0 a.seen in
      let Q : ℕ → Type 0 = λ t. HasSeen s a.kept.snapshot.moment t a.seen in
      record {
        horizon = horizon;
        in_time = omega (arith, starts);
        well_formed = well;
        orders = orders;
        first = first;
        kept = is;
        in_order = omega (arith, starts, at);
        going = λ still.
            record {
              lockstep = with-settled a.lockstep s a.horizon a.clock true (opened ∙ ap (λ (t : ℕ). record { system = s; horizon = a.horizon; clock = t; settled = true; failed = false }) (sym starts));
              seen = subst Q (sym starts) (subst P (sym (told-none s 0) ∙ ap (λ (m : ℕ). told_between s m 0) (sym at)) seen);
            };
      }
