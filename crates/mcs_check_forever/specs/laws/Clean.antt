-- A clean verdict holds for ever.
use Rattle.std.specs.Prelude.{◌≡◌, ℕ, true, List, Some, slice_get}
use Rattle.mcs_system.specs.declared.part.ChainPart.{ChainPart}
use Rattle.mcs_system.specs.System.{System}
use Rattle.mcs_check_lines.specs.Deadlines.{has_chain_deadline}
use Rattle.mcs_ever_told.specs.declared.outlook.told.Told.{Told}
use Rattle.mcs_ever_chain.specs.declared.told.ChainTold.{ChainTold}
use Rattle.mcs_ever_chain.specs.Told.{AreChainsTold, NothingIsEverLate}
use Rattle.mcs_check_forever.specs.declared.verdict.Verdict.TheVariants.{Clean}
use Rattle.mcs_check_forever.specs.Verdict.{verdict_of}

-- if what is told of all chains is true and the verdict is clean, no answer of a chain with a deadline
-- is ever slow, and at no horizon a deadline has passed without an answer
abbrev pub CleanIsNeverLate : Type 0
CleanIsNeverLate =
    (system : System) (horizon : ℕ) (told : List Told) (chains : List ChainTold) → AreChainsTold system horizon chains →
    verdict_of system told chains ≡ Clean →
    (n : ℕ) (chain : ChainPart) → slice_get system.chains n ≡ Some chain → has_chain_deadline chain ≡ true →
    NothingIsEverLate system chain
