-- A thread that has the interrupt has started and is not done.
use Rattle.std.specs.Prelude.{ℕ, ◌≡◌, List, [], ◌∷◌}
use Rattle.mcs_system.specs.System.{System}
use Rattle.mcs_system.specs.WellFormed.{IsWellFormed}
use Rattle.mcs_core.specs.Clock.{schedule}
use Rattle.mcs_verdict.specs.Findings.{past_of}
use Rattle.mcs_chain.specs.declared.answer.Answer.{Answer}
use Rattle.mcs_way.specs.declared.leg.Carrier.{Carrier}
use Rattle.mcs_way.specs.declared.leg.Carrier.TheVariants.{Thread}
use Rattle.mcs_way.specs.declared.leg.Leg.{Leg}
use Rattle.mcs_way.specs.Trail.{way_of}

-- in no tick of its leg was the thread pending or done
abbrev pub IsActive : Carrier → Type 0
IsActive (Thread thread stood) = (stood.pending ≡ 0) × (stood.done ≡ 0)
IsActive _ = Unit {0}

abbrev pub AreActive : List Leg → Type 0
AreActive [] = Unit {0}
AreActive (leg ∷ legs) = IsActive leg.carrier × AreActive legs

-- each leg of a way by the rows of a schedule
abbrev pub LegsAreActive : Type 0
LegsAreActive =
    (system : System) → IsWellFormed system → (horizon : ℕ) (answer : Answer) →
    AreActive (way_of system answer (past_of [] (schedule system horizon)))
