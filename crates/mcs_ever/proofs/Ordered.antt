-- A worked system that recurs though its ready threads became ready in another order. L runs first,
-- since M starts at 4. There H preempts L just after M was released, so that L is before M in the
-- list in order of entering. Later H preempts M, which is then before L. M is before L by priority
-- each time, and turns depend only on that.
use Rattle.std.proofs.Common.{◌≡◌, ℕ, zero, suc, ◌≤◌, ◌⊎◌, inr, Bool, true, false, cond, List, [], ◌∷◌, refl, sym, ap, subst, ◌∙◌, Some, arith}
use Rattle.std.specs.Prelude.{◌==◌, ◌<◌, filter, map}
use Rattle.std.specs.List.{AllByRecursion}
use Rattle.mcs_control.specs.declared.config.Mode.TheVariants.{Sporadic}
use Rattle.mcs_script.specs.declared.item.Item.TheVariants.{Compute}
use Rattle.mcs_ticks.specs.declared.queue.Queued.{Queued}
use Rattle.mcs_system.specs.System.{System, thread_part}
use Rattle.mcs_system.specs.WellFormed.{IsWellFormed}
use Rattle.mcs_core.specs.Clock.{turn_of, world, core_at, core_shown}
use Rattle.mcs_core.specs.Core.{Core}
use Rattle.mcs_core.specs.declared.standing.Standing.TheVariants.{Running, Ready}
use Rattle.mcs_control.specs.Context.Budget.{Dates}
use Rattle.mcs_ever.specs.Later.{KeepsUp, IsShift, later_core, later_mail}
use Rattle.mcs_ever.specs.Recurs.{Shifts, shift_of, is_for, IsLater, Recurs}
use Rattle.mcs_ever.specs.laws.Repeats.{IsNeverLate}
use Rattle.mcs_ever.proofs.Repeats.{never-late}
use Rattle.mcs_ever.proofs.Worked.{all, AllIn, between, only}

abbrev pub ordered : System
ordered =
    record {
      cores = 1;
      delay = 1;
      call = 1;
      min_budget = 2;
      contexts = record { name = 104 ∷ []; core = 0; config = record { budget = 2; period = 4; extra = 0 }; mode = Sporadic }
          ∷ record { name = 109 ∷ []; core = 0; config = record { budget = 3; period = 4; extra = 0 }; mode = Sporadic }
          ∷ record { name = 108 ∷ []; core = 0; config = record { budget = 3; period = 4; extra = 0 }; mode = Sporadic } ∷ [];
      notes = [];
      threads = record { name = 72 ∷ []; context = 0; priority = 5; start = 0; rounds = 0; deadline = 4; script = Compute 2 ∷ [] }
          ∷ record { name = 77 ∷ []; context = 1; priority = 3; start = 4; rounds = 0; deadline = 4; script = Compute 2 ∷ [] }
          ∷ record { name = 76 ∷ []; context = 2; priority = 1; start = 0; rounds = 0; deadline = 0; script = Compute 9 ∷ [] } ∷ [];
      orders = [];
      links = [];
      servers = 0;
      sources = [];
      beats = [];
      chains = [];
    }

abbrev M : Queued
M = record { thread = 1; priority = 3 }

abbrev L : Queued
L = record { thread = 2; priority = 1 }

first-order : (core_at ordered (world ordered 5) 0).ready ≡ L ∷ M ∷ []
first-order = refl

next-order : (core_at ordered (world ordered 9) 0).ready ≡ M ∷ L ∷ []
next-order = refl

-- M falls back by a tick in each period, and L stands still
abbrev lags : ℕ → ℕ
lags k = cond (k == 0) 4 (cond (k == 1) 3 0)

abbrev later : ℕ → ℕ
later x = cond (x == 2) 0 4

abbrev more : ℕ → ℕ
more x = cond (x == 0) 1 (cond (x == 1) 1 0)

abbrev pub period : Shifts
period = record { by = 4; contexts = λ c k. lags k; threads = λ c x. later x; rounds = λ c x. more x }

is_shift : (c : ℕ) → IsShift ordered (shift_of period c)
is_shift c = record { lags = λ k. by (k == 0) (k == 1); endless = endless }
  where
    by : (a b : Bool) → cond a 4 (cond b 3 0) ≤ 4
    by true b = omega arith
    by false true = omega arith
    by false false = omega arith

    endless : (x : ℕ) → (more x ≡ 0) ⊎ ((thread_part ordered x).rounds ≡ 0)
    endless zero = inr refl
    endless (suc zero) = inr refl
    endless (suc (suc zero)) = inr refl
    endless (suc (suc (suc x))) = inr refl

-- the core as its state shows it before moments 5 and 9: H runs, just chosen
abbrev core_as : ℕ → ℕ → ℕ → ℕ → List ℕ → List ℕ → Core
core_as h m began since dates lagging =
    record {
      running = Some (record { thread = 0; using = 0 });
      threads = record { standing = Running; place = record { round = h; item = 0; left = 2; word = 0; priority = 5 }; since = began }
          ∷ record { standing = Ready; place = record { round = m; item = 0; left = 2; word = 0; priority = 3 }; since = since }
          ∷ record { standing = Ready; place = record { round = 1; item = 0; left = 7; word = 0; priority = 1 }; since = 0 } ∷ [];
      ready = M ∷ L ∷ [];
      releases = [];
      contexts = Some (record { config = record { budget = 2; period = 4; extra = 0 }; mode = Sporadic; budget = Dates dates })
          ∷ Some (record { config = record { budget = 3; period = 4; extra = 0 }; mode = Sporadic; budget = Dates lagging })
          ∷ Some (record { config = record { budget = 3; period = 4; extra = 0 }; mode = Sporadic; budget = Dates (3 ∷ 4 ∷ 5 ∷ []) }) ∷ [];
      notes = [];
    }

abbrev core_5 : Core
core_5 = core_as 2 1 2 4 (4 ∷ 5 ∷ []) (4 ∷ 5 ∷ 6 ∷ [])

abbrev core_9 : Core
core_9 = core_as 3 2 6 8 (8 ∷ 9 ∷ []) (7 ∷ 8 ∷ 9 ∷ [])

at-5 : core_shown ordered (world ordered 5) 0 ≡ core_5
at-5 = refl

at-9 : core_shown ordered (world ordered 9) 0 ≡ core_9
at-9 = refl

moved : core_9 ≡ later_core (shift_of period 0) core_5
moved = refl

again : core_shown ordered (world ordered 9) 0 ≡ later_core (shift_of period 0) (core_shown ordered (world ordered 5) 0)
again = at-9 ∙ moved ∙ ap (later_core (shift_of period 0)) (sym at-5)

-- no signal is under way
mails : (world ordered 9).mails ≡ []
mails = refl

mails-before : (world ordered 5).mails ≡ []
mails-before = refl

is_later : IsLater ordered all period (world ordered 5) (world ordered 9)
is_later =
    record {
      cores = λ c l own. let P : ℕ → Type 0 = λ c. core_shown ordered (world ordered 9) c ≡ later_core (shift_of period c) (core_shown ordered (world ordered 5) c) in subst P (only c l) again;
      mails =
          ap (filter (is_for ordered all)) mails
          ∙ sym (ap (λ mails. map (later_mail 4) (filter (is_for ordered all) mails)) mails-before);
    }

abbrev KeepUp : ℕ → Type 0
KeepUp t = AllByRecursion (KeepsUp ordered (shift_of period 0)) (turn_of ordered 0 t).rows

keep-up : AllIn KeepUp 5 4
keep-up = (tt, ((refl, (refl, (inr refl, tt))), (tt, ((refl, (tt, (tt, (inr refl, tt)))), tt))))

rows : (t c : ℕ) → 5 ≤ t → t < 9 → c < 1 → AllByRecursion (KeepsUp ordered (shift_of period c)) (turn_of ordered c t).rows
rows t c l m known =
    let P : ℕ → Type 0 = λ c. AllByRecursion (KeepsUp ordered (shift_of period c)) (turn_of ordered c t).rows in
    subst P (only c known) (between KeepUp 4 5 t keep-up l m)

pub recurs : Recurs ordered all period 5
recurs =
    record {
      closed = λ thread place note badge known item own. refl;
      some = omega arith;
      shift = is_shift;
      orders = tt;
      again = is_later;
      alarms = λ c known own. refl;
      rows = λ t c l m known own. rows t c l m known;
    }

-- so neither H nor M is ever late
pub never : IsWellFormed ordered → (horizon : ℕ) → IsNeverLate ordered all horizon
never well horizon = never-late ordered all period 5 well recurs first horizon
  where
    first : IsNeverLate ordered all 9
    first = (refl, (refl, (refl, (refl, (refl, (refl, (refl, (refl, (refl, (refl, (refl, (refl, (refl, (refl, (refl, (refl, (refl, tt)))))))))))))))))
