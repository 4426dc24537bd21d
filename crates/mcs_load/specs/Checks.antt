-- Tests in order, and the values read along the way.
use Rattle.std.specs.Prelude.{◌≡◌, Bool, if◌then◌else◌, List, [], ◌∷◌, ◌++◌, Option, Some, None, Result, Ok, Err}
use Rattle.mcs_load.specs.declared.fault.FaultKind.{FaultKind}
use Rattle.mcs_load.specs.Memory.{no_memory}
use Rattle.mcs_load.specs.declared.fault.LoadFault.{LoadFault}
use Rattle.mcs_load.specs.declared.spot.Spot.{Spot}

-- a test, and the fault if it fails
pub record Test : Type 0 where
  pub passes : Bool
  pub fault : LoadFault

-- the fault of the first test that fails
abbrev pub first_failed : List Test → Option LoadFault
first_failed [] = None
first_failed (test ∷ tests) = if test.passes then first_failed tests else Some test.fault

-- Tests in order, and the value read. After a failed test the other tests don't count, and the
-- value has no meaning.
pub record Checked (A : Type 0) : Type 0 where
  pub tests : List Test
  pub value : A

-- the tests of a step, followed by those of the rest, which may use what the step read
infixl 10 ◌>>=◌
abbrev pub ◌>>=◌ : {A B : Type 0} → Checked A → (A → Checked B) → Checked B
step >>= rest = let next = rest step.value in record { tests = step.tests ++ next.tests; value = next.value }

-- reads a value without a test
abbrev pub reads : {A : Type 0} → A → Checked A
reads value = record { tests = []; value = value }

-- a test that reads nothing
abbrev pub must : Bool → FaultKind → Spot → Checked (Unit {0})
must passes kind spot =
    record { tests = record { passes = passes; fault = record { kind = kind; spot = spot } } ∷ []; value = tt }

-- If a function returned `Ok`, every test passes and its result, seen by view, is the value read.
-- If it returned a fault other than out of memory, that is the fault of the first test that fails.
abbrev pub Gives : {X A : Type 0} → (X → A) → Result X LoadFault → Checked A → Type 0
Gives view (Ok x) step = (first_failed step.tests ≡ None) × (step.value ≡ view x)
Gives view (Err fault) step = ¬ (fault ≡ no_memory) → first_failed step.tests ≡ Some fault

-- The result of a function that takes no memory. If it returned `Ok`, every test passes and its
-- result, seen by view, is the value read. A fault it returned is that of the first test that
-- fails.
abbrev pub Tells : {X A : Type 0} → (X → A) → Result X LoadFault → Checked A → Type 0
Tells view (Ok x) step = (first_failed step.tests ≡ None) × (step.value ≡ view x)
Tells view (Err fault) step = first_failed step.tests ≡ Some fault

-- the first failed test, or else the value read
abbrev pub or_fault : {A : Type 0} → A → Option LoadFault → Result A LoadFault
or_fault value None = Ok value
or_fault value (Some fault) = Err fault

abbrev pub answer : {A : Type 0} → Checked A → Result A LoadFault
answer step = or_fault step.value (first_failed step.tests)
