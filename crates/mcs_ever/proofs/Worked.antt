-- Worked systems that recur. In the first one a context falls back for ever: H has half of the
-- core, and L, which may have three quarters of it, has what is left. All is repeated after 12
-- ticks from moment 13 on, but the dates of L's context are only 8 later.
use Rattle.std.proofs.Common.{◌≡◌, ℕ, zero, suc, ◌+◌, ◌<◌, ◌≤◌, ◌⊎◌, inl, inr, Bool, true, false, cond, not, ◌||◌, List, [], ◌∷◌, map, refl, sym, ap, subst, ◌∙◌, Some, None, arith}
use Rattle.std.specs.Prelude.{◌==◌, filter, flat_map}
use Rattle.std.proofs.lemmas.Bool.Decides.{nat_tests}
use Rattle.std.specs.List.{range_with_len, AllByRecursion}
use Rattle.mcs_ticks.specs.declared.row.Row.{Row}
use Rattle.mcs_ticks.specs.declared.row.What.{What}
use Rattle.mcs_ticks.specs.declared.row.What.TheVariants as row
use Rattle.mcs_ticks.specs.declared.row.Why.TheVariants as why
use Rattle.mcs_control.specs.declared.config.Mode.TheVariants.{Sporadic}
use Rattle.mcs_script.specs.declared.item.Item.TheVariants.{Compute}
use Rattle.mcs_system.specs.System.{System, thread_part}
use Rattle.mcs_system.specs.WellFormed.{IsWellFormed}
use Rattle.mcs_core.specs.Clock.{turn_of, world, core_shown, schedule}
use Rattle.mcs_core.specs.Core.{Core}
use Rattle.mcs_core.specs.declared.standing.Standing.TheVariants.{Running, Ready}
use Rattle.mcs_control.specs.Context.Budget.{Dates}
use Rattle.mcs_ever.specs.Later.{KeepsUp, IsShift, later_core, later_mail}
use Rattle.mcs_ever.specs.Marks.{marks_of}
use Rattle.mcs_ever.specs.Recurs.{Shifts, shift_of, is_for, Recurs}
use Rattle.mcs_ever.specs.laws.Repeats.{is_in_time, IsNeverLate, EndsNoRound}
use Rattle.mcs_ever.proofs.Repeats.{never-late, no-round-ends-again}

-- L may have a deadline, on which no row depends
abbrev pub worked : ℕ → System
worked deadline =
    record {
      cores = 1;
      delay = 1;
      call = 1;
      min_budget = 1;
      contexts = record { name = 104 ∷ []; core = 0; config = record { budget = 2; period = 4; extra = 0 }; mode = Sporadic }
          ∷ record { name = 108 ∷ []; core = 0; config = record { budget = 3; period = 4; extra = 0 }; mode = Sporadic } ∷ [];
      notes = [];
      threads = record { name = 72 ∷ []; context = 0; priority = 5; start = 0; rounds = 0; deadline = 4; script = Compute 2 ∷ [] }
          ∷ record { name = 76 ∷ []; context = 1; priority = 1; start = 0; rounds = 0; deadline = deadline; script = Compute 3 ∷ [] } ∷ [];
      orders = [];
      links = [];
      servers = 0;
      sources = [];
      beats = [];
      chains = [];
    }

abbrev lag : ℕ → ℕ
lag k = cond (k == 1) 8 12

abbrev more : ℕ → ℕ
more x = cond (x == 0) 3 (cond (x == 1) 2 0)

abbrev pub shifts : Shifts
shifts = record { by = 12; contexts = λ c k. lag k; threads = λ c x. 12; rounds = λ c x. more x }

abbrev pub all : ℕ → Bool
all c = true

-- what holds of n moments from a on
abbrev pub AllIn : (ℕ → Type 0) → ℕ → ℕ → Type 0
AllIn P a zero = Unit {0}
AllIn P a (suc n) = P a × AllIn P (a + 1) n

pub between : (P : ℕ → Type 0) (n a t : ℕ) → AllIn P a n → a ≤ t → t < a + n → P t
between P zero a t h l m = absurd (omega (arith, l, m))
between P (suc n) a t h l m = by (a == t) refl (λ p q. between P n (a + 1) t h.1 p q)
  where
    by : (b : Bool) → (a == t) ≡ b → (a + 1 ≤ t → t < a + 1 + n → P t) → P t
    by true e i = let same : a ≡ t = grind (arith, nat_tests) in subst P same h.0
    by false e i = i (grind (arith, nat_tests)) (omega (arith, m))

is_shift : (deadline c : ℕ) → IsShift (worked deadline) (shift_of shifts c)
is_shift deadline c = record { lags = λ k. by (k == 1); endless = endless }
  where
    by : (b : Bool) → cond b 8 12 ≤ 12
    by true = omega arith
    by false = omega arith

    endless : (x : ℕ) → (more x ≡ 0) ⊎ ((thread_part (worked deadline) x).rounds ≡ 0)
    endless zero = inr refl
    endless (suc zero) = inr refl
    endless (suc (suc x)) = inr refl

pub only : (c : ℕ) → c < 1 → 0 ≡ c
only c l = omega (arith, l)

-- the core before moment 13: H runs, just chosen, and L is ready
abbrev core_as : ℕ → ℕ → ℕ → ℕ → List ℕ → List ℕ → Core
core_as h l since began dates lagging =
    record {
      running = Some (record { thread = 0; using = 0 });
      threads = record { standing = Running; place = record { round = h; item = 0; left = 2; word = 0; priority = 5 }; since = since }
          ∷ record { standing = Ready; place = record { round = l; item = 0; left = 3; word = 0; priority = 1 }; since = began } ∷ [];
      ready = record { thread = 1; priority = 1 } ∷ [];
      releases = [];
      contexts = Some (record { config = record { budget = 2; period = 4; extra = 0 }; mode = Sporadic; budget = Dates dates })
          ∷ Some (record { config = record { budget = 3; period = 4; extra = 0 }; mode = Sporadic; budget = Dates lagging }) ∷ [];
      notes = [];
    }

abbrev core_13 : Core
core_13 = core_as 4 3 10 12 (12 ∷ 13 ∷ []) (8 ∷ 9 ∷ 10 ∷ [])

abbrev core_25 : Core
core_25 = core_as 7 5 22 24 (24 ∷ 25 ∷ []) (16 ∷ 17 ∷ 18 ∷ [])

at-13 : (deadline : ℕ) → core_shown (worked deadline) (world (worked deadline) 13) 0 ≡ core_13
at-13 deadline = refl

at-25 : (deadline : ℕ) → core_shown (worked deadline) (world (worked deadline) 25) 0 ≡ core_25
at-25 deadline = refl

moved : core_25 ≡ later_core (shift_of shifts 0) core_13
moved = refl

first-again : (deadline : ℕ) → core_shown (worked deadline) (world (worked deadline) 25) 0 ≡ later_core (shift_of shifts 0) (core_shown (worked deadline) (world (worked deadline) 13) 0)
first-again deadline = at-25 deadline ∙ moved ∙ ap (later_core (shift_of shifts 0)) (sym (at-13 deadline))

abbrev KeepUp : ℕ → List What → Type 0
KeepUp deadline rows = AllByRecursion (KeepsUp (worked deadline) (shift_of shifts 0)) rows

-- the rows of the period, turn by turn
abbrev period_rows : List (List What)
period_rows =
    []
    ∷ (row.Round 0 4 4 ∷ row.Stop 0 why.Spent 2 (Some 16) ∷ row.Run 1 ∷ [])
    ∷ []
    ∷ (row.Release 0 ∷ row.Stop 1 why.Preempt 2 None ∷ row.Run 0 ∷ [])
    ∷ []
    ∷ (row.Round 0 5 4 ∷ row.Stop 0 why.Spent 2 (Some 20) ∷ row.Run 1 ∷ [])
    ∷ (row.Round 1 3 7 ∷ row.Stop 1 why.Spent 1 None ∷ row.Run 1 ∷ [])
    ∷ (row.Release 0 ∷ row.Stop 1 why.Preempt 1 None ∷ row.Run 0 ∷ [])
    ∷ []
    ∷ (row.Round 0 6 4 ∷ row.Stop 0 why.Spent 2 (Some 24) ∷ row.Run 1 ∷ [])
    ∷ []
    ∷ (row.Round 1 4 5 ∷ row.Stop 1 why.Spent 2 None ∷ row.Release 0 ∷ row.Run 0 ∷ [])
    ∷ []

period-told : (deadline : ℕ) → map (λ t. (turn_of (worked deadline) 0 t).rows) (range_with_len 13 12) ≡ period_rows
period-told deadline = refl

kept-up : (deadline : ℕ) → AllByRecursion (KeepUp deadline) period_rows
kept-up deadline = (tt, ((refl, (refl, (inr refl, tt))), (tt, ((tt, (tt, (inr refl, tt))), (tt, ((refl, (refl, (inr refl, tt))), ((refl, (tt, (inr refl, tt))), ((tt, (tt, (inr refl, tt))), (tt, ((refl, (refl, (inr refl, tt))), (tt, ((refl, (tt, (tt, (inr refl, tt)))), tt))))))))))))

all-in : (P : List What → Type 0) (f : ℕ → List What) (n a : ℕ) → AllByRecursion P (map f (range_with_len a n)) → AllIn (λ t. P (f t)) a n
all-in P f zero a h = tt
all-in P f (suc n) a h = (h.0, all-in P f n (a + 1) h.1)

first-rows : (deadline : ℕ) → AllIn (λ t. KeepUp deadline (turn_of (worked deadline) 0 t).rows) 13 12
first-rows deadline =
    all-in (KeepUp deadline) (λ t. (turn_of (worked deadline) 0 t).rows) 12 13 (subst (AllByRecursion (KeepUp deadline)) (sym (period-told deadline)) (kept-up deadline))

-- no signal is under way
mails-13 : (deadline : ℕ) → (world (worked deadline) 13).mails ≡ []
mails-13 deadline = refl

mails-25 : (deadline : ℕ) → (world (worked deadline) 25).mails ≡ []
mails-25 deadline = refl

pub recurs : (deadline : ℕ) → Recurs (worked deadline) all shifts 13
recurs deadline =
    record {
      closed = λ thread place note badge known item own. refl;
      some = omega arith;
      shift = is_shift deadline;
      orders = tt;
      again = record {
        cores = λ c l own. let P : ℕ → Type 0 = λ c. core_shown (worked deadline) (world (worked deadline) 25) c ≡ later_core (shift_of shifts c) (core_shown (worked deadline) (world (worked deadline) 13) c) in subst P (only c l) (first-again deadline);
        mails =
            ap (filter (is_for (worked deadline) all)) (mails-25 deadline)
            ∙ sym (ap (λ mails. map (later_mail 12) (filter (is_for (worked deadline) all) mails)) (mails-13 deadline));
      };
      alarms = λ c known own. refl;
      rows = λ t c l m known own.
          let P : ℕ → Type 0 = λ c. AllByRecursion (KeepsUp (worked deadline) (shift_of shifts c)) (turn_of (worked deadline) c t).rows in
          subst P (only c known) (between (λ t. KeepUp deadline (turn_of (worked deadline) 0 t).rows) 12 13 t (first-rows deadline) l m);
    }

-- the rows of that period mark all but the dates of L's context, which may lag so
marked : (deadline : ℕ) → marks_of (worked deadline) (flat_map (λ t. (turn_of (worked deadline) 0 t).rows) (range_with_len 13 12))
    ≡ record { context = true; round = true } ∷ record { context = false; round = true } ∷ []
marked deadline = refl

-- so H, whose deadline is 4, is never late
abbrev at : ℕ → What → Row
at moment what = record { moment = moment; core = 0; what = what }

abbrev rows_up_to_25 : List Row
rows_up_to_25 =
    at 0 (row.Release 0)
    ∷ at 0 (row.Release 1)
    ∷ at 0 (row.Run 0)
    ∷ at 2 (row.Round 0 1 2)
    ∷ at 2 (row.Stop 0 why.Spent 2 (Some 4))
    ∷ at 2 (row.Run 1)
    ∷ at 4 (row.Release 0)
    ∷ at 4 (row.Stop 1 why.Preempt 2 None)
    ∷ at 4 (row.Run 0)
    ∷ at 6 (row.Round 0 2 4)
    ∷ at 6 (row.Stop 0 why.Spent 2 (Some 8))
    ∷ at 6 (row.Run 1)
    ∷ at 7 (row.Round 1 1 7)
    ∷ at 7 (row.Stop 1 why.Spent 1 None)
    ∷ at 7 (row.Run 1)
    ∷ at 8 (row.Release 0)
    ∷ at 8 (row.Stop 1 why.Preempt 1 None)
    ∷ at 8 (row.Run 0)
    ∷ at 10 (row.Round 0 3 4)
    ∷ at 10 (row.Stop 0 why.Spent 2 (Some 12))
    ∷ at 10 (row.Run 1)
    ∷ at 12 (row.Round 1 2 5)
    ∷ at 12 (row.Stop 1 why.Spent 2 None)
    ∷ at 12 (row.Release 0)
    ∷ at 12 (row.Run 0)
    ∷ at 14 (row.Round 0 4 4)
    ∷ at 14 (row.Stop 0 why.Spent 2 (Some 16))
    ∷ at 14 (row.Run 1)
    ∷ at 16 (row.Release 0)
    ∷ at 16 (row.Stop 1 why.Preempt 2 None)
    ∷ at 16 (row.Run 0)
    ∷ at 18 (row.Round 0 5 4)
    ∷ at 18 (row.Stop 0 why.Spent 2 (Some 20))
    ∷ at 18 (row.Run 1)
    ∷ at 19 (row.Round 1 3 7)
    ∷ at 19 (row.Stop 1 why.Spent 1 None)
    ∷ at 19 (row.Run 1)
    ∷ at 20 (row.Release 0)
    ∷ at 20 (row.Stop 1 why.Preempt 1 None)
    ∷ at 20 (row.Run 0)
    ∷ at 22 (row.Round 0 6 4)
    ∷ at 22 (row.Stop 0 why.Spent 2 (Some 24))
    ∷ at 22 (row.Run 1)
    ∷ at 24 (row.Round 1 4 5)
    ∷ at 24 (row.Stop 1 why.Spent 2 None)
    ∷ at 24 (row.Release 0)
    ∷ at 24 (row.Run 0)
    ∷ []

told-up-to-25 : schedule (worked 0) 25 ≡ rows_up_to_25
told-up-to-25 = refl

abbrev IsInTime : Row → Type 0
IsInTime row = (not (all row.core) || is_in_time (worked 0) row.what) ≡ true

in-time : AllByRecursion IsInTime rows_up_to_25
in-time = (refl, (refl, (refl, (refl, (refl, (refl, (refl, (refl, (refl, (refl, (refl, (refl, (refl, (refl, (refl, (refl, (refl, (refl, (refl, (refl, (refl, (refl, (refl, (refl, (refl, (refl, (refl, (refl, (refl, (refl, (refl, (refl, (refl, (refl, (refl, (refl, (refl, (refl, (refl, (refl, (refl, (refl, (refl, (refl, (refl, (refl, (refl, tt)))))))))))))))))))))))))))))))))))))))))))))))

pub never : IsWellFormed (worked 0) → (horizon : ℕ) → IsNeverLate (worked 0) all horizon
never well horizon = never-late (worked 0) all shifts 13 well (recurs 0) (subst (AllByRecursion IsInTime) (sym told-up-to-25) in-time) horizon

-- A system at rest recurs at each moment: its one thread ends its one round at moment 1. No part of
-- it is later any more, and no date is compared with now.
abbrev pub ended : System
ended =
    record {
      cores = 1;
      delay = 1;
      call = 1;
      min_budget = 1;
      contexts = record { name = 107 ∷ []; core = 0; config = record { budget = 2; period = 4; extra = 0 }; mode = Sporadic } ∷ [];
      notes = [];
      threads = record { name = 84 ∷ []; context = 0; priority = 5; start = 0; rounds = 1; deadline = 4; script = Compute 1 ∷ [] } ∷ [];
      orders = [];
      links = [];
      servers = 0;
      sources = [];
      beats = [];
      chains = [];
    }

abbrev pub at_rest : Shifts
at_rest = record { by = 1; contexts = λ c k. 0; threads = λ c x. 0; rounds = λ c x. 0 }

rest-2 : core_shown ended (world ended 3) 0 ≡ later_core (shift_of at_rest 0) (core_shown ended (world ended 2) 0)
rest-2 = refl

pub rests : Recurs ended all at_rest 2
rests =
    record {
      closed = λ thread place note badge known item own. refl;
      some = omega arith;
      shift = λ c. record { lags = λ k. omega arith; endless = λ x. inl refl };
      orders = tt;
      again = record {
        cores = λ c l own. let P : ℕ → Type 0 = λ c. core_shown ended (world ended 3) c ≡ later_core (shift_of at_rest c) (core_shown ended (world ended 2) c) in subst P (only c l) rest-2;
        mails = refl;
      };
      alarms = λ c known own. refl;
      rows = λ t c l m known own.
          let same : 2 ≡ t = omega (arith, l, m) in
          let P : ℕ → Type 0 = λ c. AllByRecursion (KeepsUp ended (shift_of at_rest c)) (turn_of ended c t).rows in
          let Q : ℕ → Type 0 = λ t. AllByRecursion (KeepsUp ended (shift_of at_rest 0)) (turn_of ended 0 t).rows in
          subst P (only c known) (subst Q same tt);
    }

-- its thread ends no round again
pub no-more : IsWellFormed ended → (horizon : ℕ) → EndsNoRound ended 0 2 horizon
no-more well horizon = no-round-ends-again ended all at_rest 2 well rests 0 refl (refl, (refl, (refl, (refl, tt)))) horizon
