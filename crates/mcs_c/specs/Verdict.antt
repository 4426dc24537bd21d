-- What a caller gets of a verdict on a text.
use Rattle.std.specs.Prelude.{◌≡◌, ◌⊎◌, ℕ, List, Option, IfSome, ⊤, string_bytes}
use Rattle.mcs_c.specs.declared.verdict.Verdict.{Verdict}
use Rattle.mcs_c.specs.declared.verdict.Verdict.TheVariants as verdict

-- the answers that come with lines: these codes
abbrev pub HasLines : ℕ → Type 0
HasLines answer = (answer ≡ 0) ⊎ ((answer ≡ 5) ⊎ (answer ≡ 6))

-- the lines that a verdict may have, with its code, and the line of a fault
module _ (Lines : List ℕ → ℕ → Type 0) (Fault : List ℕ → Type 0) where
  abbrev pub IsVerdict : Verdict → Type 0
  IsVerdict (verdict.Lines lines code) = Lines lines.items code
  IsVerdict (verdict.Fault line) = Fault (string_bytes line)
  IsVerdict verdict.NoMemory = ⊤

-- the code of a verdict with lines is one of those
abbrev pub IsCoded : Verdict → Type 0
IsCoded (verdict.Lines lines code) = HasLines code
IsCoded (verdict.Fault line) = ⊤
IsCoded verdict.NoMemory = ⊤

-- a fault is told by its line, unless memory runs out
abbrev pub IsTold : Option (List ℕ) → Verdict → Type 0
IsTold text (verdict.Lines lines code) = ⊥
IsTold text (verdict.Fault line) = IfSome text (λ said. string_bytes line ≡ said)
IsTold text verdict.NoMemory = ⊤

-- what a caller gets of a verdict: the answer, and the bytes if they fit
abbrev pub IsGiven : Verdict → ℕ → List ℕ → Type 0
IsGiven (verdict.Lines lines code) answer bytes = (answer ≡ 2) ⊎ ((answer ≡ code) × (bytes ≡ lines.items))
IsGiven (verdict.Fault line) answer bytes = (answer ≡ 2) ⊎ ((answer ≡ 1) × (bytes ≡ string_bytes line))
IsGiven verdict.NoMemory answer bytes = answer ≡ 4
