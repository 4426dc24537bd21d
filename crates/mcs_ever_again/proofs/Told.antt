-- A lag of one thing is the lag of another, if both are later by the same numbers.
use Rattle.std.proofs.Common.{ℕ, zero, suc, ◌<◌, ◌≤◌, List, [], ◌∷◌, length, get_or, Option, Some, None, arith}
use Rattle.mcs_ever_again.specs.Lag.{TellsLag}

pub tells-lag : (found : Option ℕ) (by : ℕ) (P Q : ℕ → Type 0) → ((lag : ℕ) → P lag → Q lag) → ((lag : ℕ) → Q lag → P lag) →
    TellsLag found by P → TellsLag found by Q
tells-lag None by P Q there back told = λ lag within later. told lag within (back lag later)
tells-lag (Some lag) by P Q there back told = (told.0, there lag told.1)

-- a number past the end is `by`
pub all-within : (by : ℕ) (lags : List ℕ) → ((k : ℕ) → k < length lags → get_or lags k by ≤ by) → (k : ℕ) → get_or lags k by ≤ by
all-within by [] within k = omega arith
all-within by (lag ∷ lags) within zero = within 0 (omega arith)
all-within by (lag ∷ lags) within (suc k) = all-within by lags (λ k l. within (suc k) (omega (arith, l))) k
