-- The sets of cores that a check for all time tells to recur do so.
use Rattle.std.proofs.Common.{ℕ, suc, ◌<◌, Bool, List, [], ◌∷◌, length, get_or, Option, Some, None, sym, subst, arith}
use Rattle.std.specs.List.{AllByRecursion}
use Rattle.mcs_system.specs.System.{System}
use Rattle.mcs_ever_told.specs.declared.outlook.told.Period.{Period}
use Rattle.mcs_ever_told.specs.declared.outlook.told.Told.{Told}
use Rattle.mcs_ever_told.specs.Outlook.{AreTold, IsTold, IsTrueOf}
use Rattle.mcs_ever_chain.specs.Sets.{PeriodIsSo, SetsRecur}

pub all-each : {X : Type 0} (P : X → Type 0) (xs : List X) → ((i : ℕ) (d : X) → i < length xs → P (get_or xs i d)) → AllByRecursion P xs
all-each P [] h = tt
all-each P (x ∷ xs) h = (h 0 x (omega arith), all-each P xs (λ i d l. h (suc i) d (omega (arith, l))))

module _ (system : System) (allowed : List Bool) (horizon : ℕ) where
  period-so : (set own : List Bool) (period : Option Period) → IsTrueOf system allowed horizon set own period → PeriodIsSo system set period
  period-so set own None h = tt
  period-so set own (Some p) h = record { shifts = h.shifts; by = h.by; recurs = h.recurs.recurs }

  set-so : (set own : List Bool) (one : Told) → IsTold system allowed horizon set own one → PeriodIsSo system one.set one.period
  set-so set own one h =
      let P : List Bool → Type 0 = λ (s : List Bool). PeriodIsSo system s one.period in
      subst P (sym h.cores) (period-so set own one.period h.so)

  pub sets-recur : (told : List Told) → AreTold system allowed horizon told → SetsRecur system told
  sets-recur told h =
      all-each (λ (one : Told). PeriodIsSo system one.set one.period) told (λ i d l. set-so _ _ (get_or told i d) (h.each i d l))
