-- Counts of equal numbers.
use Rattle.std.proofs.Common.{◌≡◌, ℕ, Option}
use Rattle.mcs_ever_chain.specs.declared.often.Counts.{Counts}

abbrev counts_with : ℕ → ℕ → ℕ → Option ℕ → Counts
counts_with answers slow interrupts greatest =
    record { answers = answers; slow = slow; interrupts = interrupts; greatest = greatest }

pub same-counts : (a b : ℕ) (c d : ℕ) (e f : ℕ) (g h : Option ℕ) → a ≡ b → c ≡ d → e ≡ f → g ≡ h → counts_with a c e g ≡ counts_with b d f h
same-counts a b c d e f g h p q r s = cc
