-- The lag of a part of a core: by how many ticks it is later than before.
use Rattle.std.specs.Prelude.{◌≡◌, ℕ, ◌+◌, ◌≤◌, List, get_or, Option, Some, None}
use Rattle.mcs_refills.specs.declared.refill.Refill.{Refill}
use Rattle.mcs_control.specs.Context.{Context}
use Rattle.mcs_core.specs.declared.standing.Thread.{Thread}
use Rattle.mcs_ever.specs.Later.{later_contexts, later_thread, later_threads}
use Rattle.mcs_ever_again.specs.declared.image.threads.ThreadLag.{ThreadLag}
use Rattle.mcs_ever_again.specs.declared.image.threads.ThreadLags.{ThreadLags}

abbrev pub later_refill : ℕ → Refill → Refill
later_refill lag refill = record { begins = refill.begins + lag; amount = refill.amount }

-- a lag, at most `by`, by which it is later; `None` if it is later by no such number
abbrev pub TellsLag : Option ℕ → ℕ → (ℕ → Type 0) → Type 0
TellsLag None by IsLater = (lag : ℕ) → lag ≤ by → ¬ IsLater lag
TellsLag (Some lag) by IsLater = (lag ≤ by) × IsLater lag

-- a lag for each context; `None` if they are not the contexts of before, each later by some such
-- number
abbrev pub TellsContextLags : Option (List ℕ) → ℕ → List (Option Context) → List (Option Context) → Type 0
TellsContextLags None by before after =
    (lags : ℕ → ℕ) → ((context : ℕ) → lags context ≤ by) → ¬ (after ≡ later_contexts lags 0 before)
TellsContextLags (Some lags) by before after =
    ((context : ℕ) → get_or lags context by ≤ by) × (after ≡ later_contexts (λ context. get_or lags context by) 0 before)

-- how much later the thread's round began, and how many more rounds it has ended; `None` if
-- anything else differs
abbrev pub TellsThreadLag : Option ThreadLag → Thread → Thread → Type 0
TellsThreadLag None before after = (since rounds : ℕ) → ¬ (after ≡ later_thread since rounds before)
TellsThreadLag (Some lag) before after = after ≡ later_thread lag.since lag.rounds before

-- these numbers of each thread; a number past the end is `past`
abbrev pub TellsThreadLags : Option ThreadLags → ℕ → List Thread → List Thread → Type 0
TellsThreadLags None past before after = (since rounds : ℕ → ℕ) → ¬ (after ≡ later_threads since rounds 0 before)
TellsThreadLags (Some lags) past before after =
    after ≡ later_threads (λ thread. get_or lags.since.items thread past) (λ thread. get_or lags.rounds.items thread 0) 0 before
