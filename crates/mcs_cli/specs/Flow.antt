-- Lines written while rows come: the bytes of a target, and the bytes that wait to be written.
use Rattle.std.specs.Prelude.{◌≡◌, ℕ, Bool, true, false, List, ◌++◌, Option}
use Rattle.std.specs.Io.KnownBytes.{Appends}
use Rattle.mcs_cli.specs.Devices.{AppendsPrefix}
use Rattle.mcs_cli.specs.declared.fault.RunFault.{RunFault}
use Rattle.mcs_cli.specs.declared.fault.RunFault.TheVariants as fault

-- known bytes grow by these, except for the rest, which still waits
abbrev pub AppendsBefore : Option (List ℕ) → Option (List ℕ) → List ℕ → List ℕ → Type 0
AppendsBefore old new bytes rest = (written : List ℕ) × Appends old new written × (bytes ≡ written ++ rest)

-- A line that is taken is appended to the waiting text, and a first part of both may be written. If
-- a line is refused, a first part of the waiting text and the line is written.
abbrev pub TakesLine : Option (List ℕ) → Option (List ℕ) → List ℕ → List ℕ → List ℕ → Bool → Type 0
TakesLine old new old_text new_text line true = AppendsBefore old new (old_text ++ line) new_text
TakesLine old new old_text new_text line false = AppendsPrefix old new (old_text ++ line)

-- Why an output is not whole: a first part of it was written, and the target is to blame if it
-- failed.
abbrev pub IsWriteFault : Option (List ℕ) → Option (List ℕ) → Bool → List ℕ → RunFault → Type 0
IsWriteFault old new failed output fault.Read = ⊥
IsWriteFault old new failed output (fault.Load f) = ⊥
IsWriteFault old new failed output (fault.Sim f) = (failed ≡ false) × AppendsPrefix old new output
IsWriteFault old new failed output fault.Write = (failed ≡ true) × AppendsPrefix old new output
