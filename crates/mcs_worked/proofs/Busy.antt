-- The next busy moment of a core, at values. The cores are written down, and each is that of the world before its moment.
use Rattle.std.specs.Prelude.{◌≡◌, ◌+◌, ℕ, zero, suc, List, [], ◌∷◌, Option, Some, None, refl, codes}
use Rattle.std.proofs.Common.{sym, ap, ◌∙◌, subst, arith}
use Rattle.mcs_ticks.specs.declared.row.What.{What}
use Rattle.mcs_ticks.specs.declared.row.What.TheVariants as row
use Rattle.mcs_ticks.specs.declared.row.Why.TheVariants as why
use Rattle.mcs_control.specs.declared.config.Mode.TheVariants as mode
use Rattle.mcs_control.specs.Context.{Context}
use Rattle.mcs_control.specs.Context.Budget.{Dates}
use Rattle.mcs_mail.specs.declared.mail.Mail.{Mail}
use Rattle.mcs_script.specs.declared.item.Item.TheVariants.{Compute, Wait}
use Rattle.mcs_system.specs.System.{System}
use Rattle.mcs_core.specs.declared.standing.Chosen.{Chosen}
use Rattle.mcs_core.specs.declared.standing.Standing.{Standing}
use Rattle.mcs_core.specs.declared.standing.Standing.TheVariants.{Blocked, Pending, Running, Done}
use Rattle.mcs_core.specs.declared.standing.Thread.{Thread}
use Rattle.mcs_core.specs.Alarms.{past, before_moment}
use Rattle.mcs_core.specs.Core.{Core, opening_core, thread_of}
use Rattle.mcs_core.specs.Turn.{Turn, silent}
use Rattle.mcs_core.specs.Clock.{world, core_at}
use Rattle.mcs_core.specs.Quiet.{counted, counted_times, IsQuiet, AreQuiet, IsNextBusy}
use Rattle.mcs_worked.specs.Parts.{context, note, thread, order, one_core}
use Rattle.mcs_worked.proofs.Schedules.{depletes_and_refills_system}

-- core 0 before moment t
abbrev core_before : System → ℕ → Core
core_before system t = core_at system (world system t) 0

-- a turn that makes a row is not quiet
pub tells : (made : Turn) (after : Core) (what : What) (others : List What) → made.rows ≡ what ∷ others → made ≡ silent after → ⊥
tells made after what others told quiet =
    let none : what ∷ others ≡ [] = sym told ∙ ap (λ (made : Turn). made.rows) quiet in cc

-- a thread in its first round, which began at 0
abbrev stands_so : Standing → ℕ → ℕ → Thread
stands_so standing item left =
    record { standing = standing; place = record { round = 1; item = item; left = left; word = 0; priority = 5 }; since = 0 }

abbrev runs_with : ℕ → Option Chosen
runs_with using = Some (record { thread = 0; using = using })

-- One thread computes for 5 ticks on a budget of 2 in 5.
abbrev depletes : Option Chosen → Thread → List ℕ → Core
depletes running state dates =
    record {
      running = running;
      threads = state ∷ [];
      ready = [];
      releases = [];
      contexts = Some (record { config = record { budget = 2; period = 5; extra = 0 }; mode = mode.Sporadic; budget = Dates dates }) ∷ [];
      notes = [];
    }

-- It is released at 0 ..
abbrev before_0 : Core
before_0 = record (depletes None (stands_so Pending 0 5) (0 ∷ 1 ∷ [])) { releases = record { thread = 0; date = 0 } ∷ [] }

before_0_is : core_before depletes_and_refills_system 0 ≡ before_0
before_0_is = refl

opened_is_busy_at_once : IsNextBusy depletes_and_refills_system 0 0 [] before_0 (Some 0)
opened_is_busy_at_once = (0, refl, omega arith, λ m l. absurd (omega arith), tells _ _ (row.Release 0) (row.Run 0 ∷ []) refl)

-- .. and runs from then on: its head ends at 2 ..
abbrev before_1 : Core
before_1 = depletes (runs_with 0) (stands_so Running 0 5) (0 ∷ 1 ∷ [])

before_1_is : core_before depletes_and_refills_system 1 ≡ before_1
before_1_is = refl

a_head_ends : IsNextBusy depletes_and_refills_system 0 1 [] before_1 (Some 2)
a_head_ends = (1, refl, omega arith, quiet, tells _ _ (row.Stop 0 why.Spent 2 (Some 5)) [] refl)
  where
    quiet : AreQuiet depletes_and_refills_system 0 1 [] before_1 1
    quiet zero l = refl
    quiet (suc m) l = absurd (omega arith)

-- .. it is pending until 5 ..
abbrev before_3 : Core
before_3 = record (depletes None (stands_so Pending 0 3) (5 ∷ 6 ∷ [])) { releases = record { thread = 0; date = 5 } ∷ [] }

before_3_is : core_before depletes_and_refills_system 3 ≡ before_3
before_3_is = refl

a_date_comes : IsNextBusy depletes_and_refills_system 0 3 [] before_3 (Some 5)
a_date_comes = (2, refl, omega arith, quiet, tells _ _ (row.Release 0) (row.Run 0 ∷ []) refl)
  where
    quiet : AreQuiet depletes_and_refills_system 0 3 [] before_3 2
    quiet zero l = refl
    quiet (suc zero) l = refl
    quiet (suc (suc m)) l = absurd (omega arith)

-- .. and when it is done, at 11, no moment is busy any more.
abbrev before_12 : Core
before_12 = depletes None (stands_so Done 0 0) (11 ∷ 15 ∷ [])

before_12_is : core_before depletes_and_refills_system 12 ≡ before_12
before_12_is = refl

done_is_never_busy : IsNextBusy depletes_and_refills_system 0 12 [] before_12 None
done_is_never_busy n l =
    let P : Core → Type 0 = λ core. IsQuiet depletes_and_refills_system 0 (12 + n) [] core in subst P (sym (still n)) (rw (none_rings (12 + n)) refl)
  where
    none_rings : (t : ℕ) → before_moment t [] ≡ []
    none_rings zero = refl
    none_rings (suc t) = ap (past t) (none_rings t)

    still : (n : ℕ) → counted_times depletes_and_refills_system 0 n before_12 ≡ before_12
    still zero = refl
    still (suc n) = ap (counted depletes_and_refills_system 0) (still n)

-- An item that ends without a row is busy all the same: the thread is at its second item from moment 2 on.
abbrev two_items_system : System
two_items_system =
    one_core (context (codes "a") 0 9 20 0 ∷ []) [] (thread (codes "A") 0 5 0 1 0 (Compute 2 ∷ Compute 3 ∷ []) ∷ []) []

abbrev two_items : ℕ → ℕ → ℕ → Core
two_items using item left =
    record (opening_core two_items_system 0) {
      running = runs_with using;
      threads = stands_so Running item left ∷ [];
      releases = [];
    }

two_items_before_1 : core_before two_items_system 1 ≡ two_items 0 0 2
two_items_before_1 = refl

two_items_before_3 : core_before two_items_system 3 ≡ two_items 2 1 3
two_items_before_3 = refl

an_item_ends_without_a_row : IsNextBusy two_items_system 0 1 [] (two_items 0 0 2) (Some 2)
an_item_ends_without_a_row = (1, refl, omega arith, quiet, busy)
  where
    quiet : AreQuiet two_items_system 0 1 [] (two_items 0 0 2) 1
    quiet zero l = refl
    quiet (suc m) l = absurd (omega arith)

    differ : (item : ℕ) → suc item ≡ 0 → ⊥
    differ item e = omega arith

    busy : IsQuiet two_items_system 0 2 [] (counted_times two_items_system 0 1 (two_items 0 0 2)) → ⊥
    busy quiet = differ 0 (ap (λ (made : Turn). (thread_of made.core 0).place.item) quiet)

-- Its last item ends at 5 with the round, before the head does.
a_round_ends : IsNextBusy two_items_system 0 3 [] (two_items 2 1 3) (Some 5)
a_round_ends = (2, refl, omega arith, quiet, tells _ _ (row.Round 0 1 5) (row.Stop 0 why.Done 5 None ∷ []) refl)
  where
    quiet : AreQuiet two_items_system 0 3 [] (two_items 2 1 3) 2
    quiet zero l = refl
    quiet (suc zero) l = refl
    quiet (suc (suc m)) l = absurd (omega arith)

-- A thread waits from 1 on, a second one starts at 6, and an order stands at 4 for a context without a thread.
abbrev waits_system : System
waits_system =
    one_core (context (codes "w") 0 5 10 0 ∷ context (codes "s") 0 5 10 0 ∷ context (codes "o") 0 5 10 0 ∷ []) (note (codes "n") 0 ∷ [])
    (thread (codes "W") 0 5 0 1 0 (Wait 0 ∷ Compute 1 ∷ []) ∷ thread (codes "S") 1 5 6 1 0 (Compute 1 ∷ []) ∷ [])
    (order 4 2 4 10 0 ∷ [])

abbrev waiting : Core
waiting =
    record {
      running = None;
      threads =
          stands_so Blocked 0 0
          ∷ record { standing = Pending; place = record { round = 1; item = 0; left = 1; word = 0; priority = 5 }; since = 6 }
          ∷ [];
      ready = [];
      releases = record { thread = 1; date = 6 } ∷ [];
      contexts =
          Some (record { config = record { budget = 5; period = 10; extra = 0 }; mode = mode.Sporadic; budget = Dates (1 ∷ 2 ∷ 3 ∷ 4 ∷ 10 ∷ []) })
          ∷ Some (record { config = record { budget = 5; period = 10; extra = 0 }; mode = mode.Sporadic; budget = Dates (6 ∷ 7 ∷ 8 ∷ 9 ∷ 10 ∷ []) })
          ∷ Some (record { config = record { budget = 5; period = 10; extra = 0 }; mode = mode.Sporadic; budget = Dates (0 ∷ 1 ∷ 2 ∷ 3 ∷ 4 ∷ []) })
          ∷ [];
      notes = record { word = 0; waiters = record { thread = 0; priority = 5 } ∷ [] } ∷ [];
    }

waiting_before_2 : core_before waits_system 2 ≡ waiting
waiting_before_2 = refl

-- The order is next if the box is empty, though it changes no thread ..
an_order_is_obeyed : IsNextBusy waits_system 0 2 [] waiting (Some 4)
an_order_is_obeyed = (2, refl, omega arith, quiet, tells _ _ (row.Order 2) [] refl)
  where
    quiet : AreQuiet waits_system 0 2 [] waiting 2
    quiet zero l = refl
    quiet (suc zero) l = refl
    quiet (suc (suc m)) l = absurd (omega arith)

-- .. a signal that arrives before it is next ..
abbrev signal : Mail
signal = record { arrives = 3; made = 1; maker = 1; note = 0; badge = 7 }

a_signal_arrives : IsNextBusy waits_system 0 2 (signal ∷ []) waiting (Some 3)
a_signal_arrives = (1, refl, omega arith, quiet, tells _ _ (row.Arrive 0 7 1) (row.Wake 0 0 7 None ∷ row.Run 0 ∷ []) refl)
  where
    quiet : AreQuiet waits_system 0 2 (signal ∷ []) waiting 1
    quiet zero l = refl
    quiet (suc m) l = absurd (omega arith)

-- .. and after the order the start of the second thread is.
a_thread_starts : IsNextBusy waits_system 0 5 [] waiting (Some 6)
a_thread_starts = (1, refl, omega arith, quiet, tells _ _ (row.Release 1) (row.Run 1 ∷ []) refl)
  where
    quiet : AreQuiet waits_system 0 5 [] waiting 1
    quiet zero l = refl
    quiet (suc m) l = absurd (omega arith)
