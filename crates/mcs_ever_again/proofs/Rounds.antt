-- Threads that are later, each by its own numbers, place by place.
use Rattle.std.proofs.Common.{◌≡◌, ℕ, zero, suc, ◌+◌, ◌<◌, List, [], ◌∷◌, length, get_or, refl, sym, ap, ◌∙◌, arith}
use Rattle.std.proofs.lemmas.List.{ext_get_or}
use Rattle.mcs_core.specs.declared.standing.Thread.{Thread}
use Rattle.mcs_core.specs.Core.{no_state}
use Rattle.mcs_ever.specs.Later.{later_thread, later_threads}

length-later_threads : (since rounds : ℕ → ℕ) (n : ℕ) (threads : List Thread) → length (later_threads since rounds n threads) ≡ length threads
length-later_threads since rounds n [] = refl
length-later_threads since rounds n (thread ∷ threads) = ap suc (length-later_threads since rounds (n + 1) threads)

get_or-later_threads : (since rounds : ℕ → ℕ) (n : ℕ) (threads : List Thread) (k : ℕ) → k < length threads →
    get_or (later_threads since rounds n threads) k no_state ≡ later_thread (since (n + k)) (rounds (n + k)) (get_or threads k no_state)
get_or-later_threads since rounds n [] k within = absurd (omega (arith, within))
get_or-later_threads since rounds n (thread ∷ threads) zero within = ap (λ m. later_thread (since m) (rounds m) thread) (omega arith)
get_or-later_threads since rounds n (thread ∷ threads) (suc k) within =
    get_or-later_threads since rounds (n + 1) threads k (omega (arith, within))
    ∙ ap (λ m. later_thread (since m) (rounds m) (get_or threads k no_state)) (omega arith)

pub threads-later-at : (since rounds : ℕ → ℕ) (before after : List Thread) → after ≡ later_threads since rounds 0 before → (k : ℕ) →
    k < length before → get_or after k no_state ≡ later_thread (since k) (rounds k) (get_or before k no_state)
threads-later-at since rounds before after same k within =
    ap (λ ts. get_or ts k no_state) same
    ∙ get_or-later_threads since rounds 0 before k within
    ∙ ap (λ m. later_thread (since m) (rounds m) (get_or before k no_state)) (omega arith)

pub threads-all-later : (since rounds : ℕ → ℕ) (before after : List Thread) → length before ≡ length after →
    ((k : ℕ) → k < length before → get_or after k no_state ≡ later_thread (since k) (rounds k) (get_or before k no_state)) →
    after ≡ later_threads since rounds 0 before
threads-all-later since rounds before after many at =
    ext_get_or no_state after (later_threads since rounds 0 before) (sym many ∙ sym (length-later_threads since rounds 0 before))
    (λ k l.
    let within : k < length before = omega (arith, many, l) in
    at k within ∙ sym (threads-later-at since rounds before (later_threads since rounds 0 before) refl k within))

pub threads-many : (since rounds : ℕ → ℕ) (before after : List Thread) → after ≡ later_threads since rounds 0 before → length after ≡ length before
threads-many since rounds before after same = ap length same ∙ length-later_threads since rounds 0 before
