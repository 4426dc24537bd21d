-- The explanation of a round or of an answer that a caller gets for a text.
use Rattle.std.specs.Prelude.{◌≡◌, ℕ, true, List, IfSome, Ok, Err}
use Rattle.mcs_system.specs.System.{System}
use Rattle.mcs_cli.specs.Run.{loaded}
use Rattle.mcs_cli.specs.declared.fault.RunFault.TheVariants.{Load}
use Rattle.mcs_check_words.specs.declared.asked.Format.{Format}
use Rattle.mcs_explain.specs.declared.why_fault.WhyFault.{WhyFault}
use Rattle.mcs_explain.specs.declared.why_fault.WhyFault.TheVariants.{Run}
use Rattle.mcs_explain.specs.Explained.{IsMissing}
use Rattle.mcs_explain.specs.Why.{found_of, is_there, why_text}
use Rattle.mcs_explain.specs.WhyFault.{why_fault_text}

-- the text, and the name and the number that are asked about
module _ (text : List ℕ) (question : List ℕ × List ℕ) (horizon : ℕ) where
  -- the lines that mcscheck writes of the round or the answer, which the system of the text has
  abbrev pub IsWhyText : Format → List ℕ → ℕ → Type 0
  IsWhyText how lines code = (system : System) × (loaded text ≡ Ok system) × (is_there (found_of system horizon question) ≡ true)
      × (lines ≡ why_text how system horizon question) × (code ≡ 0)

  -- why nothing is explained: the first fault of the text, or what is not there
  abbrev pub IsUnexplained : WhyFault → Type 0
  IsUnexplained (Run (Load f)) = loaded text ≡ Err f
  IsUnexplained (Run f) = ⊥
  IsUnexplained fault = (system : System) × (loaded text ≡ Ok system) × IsMissing system horizon question fault

  -- the line that mcscheck writes of such a fault
  abbrev pub IsWhyFaultLine : List ℕ → Type 0
  IsWhyFaultLine line = (fault : WhyFault) × IsUnexplained fault × IfSome (why_fault_text fault) (λ said. line ≡ said)
