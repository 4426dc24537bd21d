-- The definitions at worked values.
use Rattle.std.proofs.Common.{◌≡◌, ℕ, zero, suc, ◌≤◌, List, [], ◌∷◌, map, get_or, refl, ap, arith, Some, None}
use Rattle.mcs_refills.specs.declared.refill.Refill.{Refill}
use Rattle.mcs_refills.specs.Server.{dates_of}
use Rattle.mcs_control.specs.Context.{Context}
use Rattle.mcs_control.specs.Context.Budget.{Dates, Slice}
use Rattle.mcs_control.specs.declared.config.Mode.TheVariants.{Sporadic}
use Rattle.mcs_core.specs.Core.{Core}
use Rattle.mcs_core.specs.declared.standing.Standing.{Standing}
use Rattle.mcs_core.specs.declared.standing.Standing.TheVariants.{Running, Ready, Pending}
use Rattle.mcs_core.specs.declared.standing.Thread.{Thread}
use Rattle.mcs_ever.specs.Later.{later_dates, later_budget}
use Rattle.mcs_ever_again.specs.Lag.{later_refill, TellsLag}
use Rattle.mcs_ever_again.specs.Lags.{TellsLags}
use Rattle.mcs_ever_again.specs.declared.image.lags.Lags.{Lags}

abbrev r : ℕ → ℕ → Refill
r begins amount = record { begins = begins; amount = amount }

refills_begin_later : map (later_refill 12) (r 3 2 ∷ r 9 1 ∷ []) ≡ r 15 2 ∷ r 21 1 ∷ []
refills_begin_later = refl

their_dates_are_later : dates_of (map (later_refill 12) (r 3 2 ∷ r 9 1 ∷ [])) ≡ 15 ∷ 16 ∷ 21 ∷ []
their_dates_are_later = refl

-- a context that falls back by 4 ticks of 12
dates_may_lag : TellsLag (Some 8) 12 (λ lag. 11 ∷ 12 ∷ 20 ∷ [] ≡ later_dates lag (3 ∷ 4 ∷ 12 ∷ []))
dates_may_lag = (omega arith, refl)

dates_lag_by_no_more : TellsLag None 12 (λ lag. 16 ∷ [] ≡ later_dates lag (3 ∷ []))
dates_lag_by_no_more = λ lag within later. grind arith

dates_lag_together : TellsLag None 12 (λ lag. 11 ∷ 13 ∷ [] ≡ later_dates lag (3 ∷ 4 ∷ []))
dates_lag_together = λ lag within later. grind arith

a_slice_has_no_date : TellsLag (Some 12) 12 (λ lag. Slice 5 ≡ later_budget lag (Slice 5))
a_slice_has_no_date = (omega arith, refl)

another_slice_is_not_later : TellsLag None 12 (λ lag. Slice 4 ≡ later_budget lag (Slice 5))
another_slice_is_not_later = λ lag within later. grind arith

-- a core on which the first thread runs, the second is ready, and the third is pending
abbrev thread : Standing → ℕ → ℕ → ℕ → Thread
thread standing round left since = record { standing = standing; place = record { round = round; item = 0; left = left; word = 0; priority = 5 }; since = since }

abbrev sporadic : ℕ → ℕ → List ℕ → Context
sporadic budget period dates = record { config = record { budget = budget; period = period; extra = 0 }; mode = Sporadic; budget = Dates dates }

abbrev core : ℕ → List Thread → ℕ → List Context → Core
core using threads date contexts =
    record {
      running = Some (record { thread = 0; using = using });
      threads = threads;
      ready = record { thread = 1; priority = 1 } ∷ [];
      releases = record { thread = 2; date = date } ∷ [];
      contexts = None ∷ map (λ context. Some context) contexts;
      notes = record { word = 6; waiters = [] } ∷ [];
    }

abbrev before : Core
before =
    core 1 (thread Running 4 2 12 ∷ thread Ready 3 3 8 ∷ thread Pending 1 2 0 ∷ []) 24
    (sporadic 2 4 (12 ∷ 13 ∷ []) ∷ sporadic 3 4 (3 ∷ 4 ∷ 12 ∷ []) ∷ sporadic 1 8 (24 ∷ []) ∷ [])

-- 12 ticks later: the second context is 8 later, the first thread has ended 3 more rounds and the
-- second one 2
abbrev after : ℕ → Core
after using =
    core using (thread Running 7 2 24 ∷ thread Ready 5 3 20 ∷ thread Pending 1 2 0 ∷ []) 36
    (sporadic 2 4 (24 ∷ 25 ∷ []) ∷ sporadic 3 4 (11 ∷ 12 ∷ 20 ∷ []) ∷ sporadic 1 8 (36 ∷ []) ∷ [])

abbrev lags : Lags
lags = record { contexts = 12 ∷ 12 ∷ 8 ∷ 12 ∷ []; threads = 12 ∷ 12 ∷ 0 ∷ []; rounds = 3 ∷ 2 ∷ 0 ∷ [] }

a_core_is_later : TellsLags (Some lags) 12 before (after 1)
a_core_is_later = record { lags = within; same = refl }
  where
    within : (context : ℕ) → get_or lags.contexts context 12 ≤ 12
    within zero = omega arith
    within (suc zero) = omega arith
    within (suc (suc zero)) = omega arith
    within (suc (suc (suc zero))) = omega arith
    within (suc (suc (suc (suc context)))) = omega arith

other_ticks_are_in_use : TellsLags None 12 before (after 0)
other_ticks_are_in_use = λ shift by later. let running = ap (λ (core : Core). core.running) later.same in grind arith

a_release_is_not_so_much_later : TellsLags None 11 before (after 1)
a_release_is_not_so_much_later = λ shift by later. let releases = ap (λ (core : Core). core.releases) later.same in grind arith
