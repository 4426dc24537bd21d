-- What lines say for ever, worked by hand. H has 2 ticks of 4, and L has the rest. Each round of H
-- is activated when its budget is replenished, and ends 2 ticks later. The rounds of L, of 3 ticks,
-- end at 7, 12, 19, 24, 31 and 36, after 7 or 5 ticks. All recurs from 13 on with period 12. L's
-- deadline is 6.
use Rattle.std.proofs.Common.{◌≡◌, Bool, true, false, List, [], ◌∷◌, Some, None, refl, arith}
use Rattle.mcs_control.specs.declared.config.Mode.TheVariants.{Sporadic}
use Rattle.mcs_script.specs.declared.item.Item.TheVariants.{Compute, Signal}
use Rattle.mcs_system.specs.System.{System}
use Rattle.mcs_system.specs.WellFormed.{IsWellFormed}
use Rattle.mcs_ever.proofs.Worked.{worked, ended, no-more}
use Rattle.mcs_ever_found.specs.Recurs.{past_before}
use Rattle.mcs_ever_found.specs.Course.{misses, losses}
use Rattle.mcs_ever_told.specs.declared.line.Line.TheVariants.{Miss, Thread}
use Rattle.mcs_ever_told.specs.declared.line.Often.TheVariants.{Forever}
use Rattle.mcs_ever_told.specs.declared.outlook.told.Period.{Period}
use Rattle.mcs_ever_told.specs.ForEver.{IsNeverLonger, IsNeverThrottled, IsSilentFrom, IsOften}
use Rattle.mcs_ever_told.specs.Lines.{thread_line}
use Rattle.mcs_ever_told.specs.Outlook.{told_miss, course_up_to, ended_between}

abbrev p : Period
p = record { from = 13; ticks = 12 }

abbrev core_0 : List Bool
core_0 = true ∷ []

-- the miss line of L, and none for H
miss-of-L : told_miss (worked 6) core_0 p 1 ≡ Some (Miss 1 (Forever 1 1))
miss-of-L = refl

miss-of-H : told_miss (worked 6) core_0 p 0 ≡ None
miss-of-H = refl

-- the lines of both threads: both exhaust their budgets, and both end rounds in the period
line-of-H : thread_line (worked 6) core_0 (course_up_to (worked 6) 24) 13 (ended_between (worked 6) 13 25) 0 ≡ Some (Thread 0 (Some 2) false None)
line-of-H = refl

line-of-L : thread_line (worked 6) core_0 (course_up_to (worked 6) 24) 13 (ended_between (worked 6) 13 25) 1 ≡ Some (Thread 1 (Some 7) false None)
line-of-L = refl

-- the round that ends at 7 is late, and so are those that end at 19 and at 31
before : misses (worked 6) 1 (past_before (worked 6) 13) ≡ 1
before = refl

after-one : misses (worked 6) 1 (past_before (worked 6) 25) ≡ 2
after-one = refl

after-two : misses (worked 6) 1 (past_before (worked 6) 37) ≡ 3
after-two = refl

-- this is 1 miss in each period, neither 2 nor none, and 1 before
not-two : IsOften (worked 6) p (misses (worked 6) 1) (Forever 1 2) → ⊥
not-two often = let happens = often (omega arith) in let e : 2 ≡ 3 = happens.each 0 in omega (arith, e)

not-none : IsOften (worked 6) p (misses (worked 6) 1) (Forever 1 0) → ⊥
not-none often = let happens = often (omega arith) in let e : 2 ≡ 1 = happens.each 0 in omega (arith, e)

not-before : IsOften (worked 6) p (misses (worked 6) 1) (Forever 0 1) → ⊥
not-before often = let happens = often (omega arith) in let e : 1 ≡ 0 = happens.first in omega (arith, e)

-- H misses none
none-of-H : misses (worked 6) 0 (past_before (worked 6) 37) ≡ 0
none-of-H = refl

-- in each of its periods S signals a notification for which nobody waits
abbrev signals : System
signals =
    record {
      cores = 1;
      delay = 1;
      call = 1;
      min_budget = 1;
      contexts = record { name = 115 ∷ []; core = 0; config = record { budget = 2; period = 4; extra = 0 }; mode = Sporadic } ∷ [];
      notes = record { name = 110 ∷ []; core = 0; word = 0 } ∷ [];
      threads = record { name = 83 ∷ []; context = 0; priority = 5; start = 0; rounds = 0; deadline = 0; script = Signal 0 1 ∷ Compute 1 ∷ [] } ∷ [];
      orders = [];
      links = [];
      servers = 0;
      sources = [];
      beats = [];
      chains = [];
    }

-- a signal is lost in each 4 ticks, from the second one on: at 5, 9 and 13
lost-3 : losses signals 0 (past_before signals 3) ≡ 0
lost-3 = refl

lost-7 : losses signals 0 (past_before signals 7) ≡ 1
lost-7 = refl

lost-15 : losses signals 0 (past_before signals 15) ≡ 3
lost-15 = refl

-- the first round of L takes 7 ticks: after two of H it is the third one that ends
not-six : IsNeverLonger (worked 6) 1 (Some 6) → ⊥
not-six longest = let all = longest 7 in let e : false ≡ true = all.1.1.0 refl in cc

not-unknown : IsNeverLonger (worked 6) 1 None → ⊥
not-unknown longest = let all = longest 7 in let e : false ≡ true = all.1.1.0 refl in cc

-- H exhausts its budget at 2
throttled : IsNeverThrottled (worked 6) 0 → ⊥
throttled never = let e : true ≡ false = never 2 in cc

-- the thread of `ended` ends its one round at 1: it ends none from 2 on, but one from 1 on
silent : IsWellFormed ended → IsSilentFrom ended 0 (Some 2)
silent well = no-more well

not-silent : IsSilentFrom ended 0 (Some 1) → ⊥
not-silent silent = let all = silent 1 in let e : true ≡ false = all.1.1.0 in cc
