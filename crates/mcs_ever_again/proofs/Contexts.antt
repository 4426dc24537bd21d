-- Contexts that are later, each by its own number of ticks, place by place.
use Rattle.std.proofs.Common.{◌≡◌, ℕ, zero, suc, ◌+◌, ◌<◌, List, [], ◌∷◌, length, get_or, Option, None, refl, sym, ap, ◌∙◌, arith}
use Rattle.std.specs.Prelude.{option_map}
use Rattle.std.proofs.lemmas.List.{ext_get_or}
use Rattle.mcs_control.specs.Context.{Context}
use Rattle.mcs_ever.specs.Later.{later_context, later_contexts}

pub length-later_contexts : (lags : ℕ → ℕ) (n : ℕ) (contexts : List (Option Context)) → length (later_contexts lags n contexts) ≡ length contexts
length-later_contexts lags n [] = refl
length-later_contexts lags n (context ∷ contexts) = ap suc (length-later_contexts lags (n + 1) contexts)

get_or-later_contexts : (lags : ℕ → ℕ) (n : ℕ) (contexts : List (Option Context)) (k : ℕ) → k < length contexts →
    get_or (later_contexts lags n contexts) k None ≡ option_map (later_context (lags (n + k))) (get_or contexts k None)
get_or-later_contexts lags n [] k within = absurd (omega (arith, within))
get_or-later_contexts lags n (context ∷ contexts) zero within = ap (λ m. option_map (later_context (lags m)) context) (omega arith)
get_or-later_contexts lags n (context ∷ contexts) (suc k) within =
    get_or-later_contexts lags (n + 1) contexts k (omega (arith, within))
    ∙ ap (λ m. option_map (later_context (lags m)) (get_or contexts k None)) (omega arith)

pub contexts-later-at : (lags : ℕ → ℕ) (before after : List (Option Context)) → after ≡ later_contexts lags 0 before → (k : ℕ) →
    k < length before → get_or after k None ≡ option_map (later_context (lags k)) (get_or before k None)
contexts-later-at lags before after same k within =
    ap (λ cs. get_or cs k None) same
    ∙ get_or-later_contexts lags 0 before k within
    ∙ ap (λ m. option_map (later_context (lags m)) (get_or before k None)) (omega arith)

pub contexts-all-later : (lags : ℕ → ℕ) (before after : List (Option Context)) → length before ≡ length after →
    ((k : ℕ) → k < length before → get_or after k None ≡ option_map (later_context (lags k)) (get_or before k None)) →
    after ≡ later_contexts lags 0 before
contexts-all-later lags before after many at =
    ext_get_or None after (later_contexts lags 0 before) (sym many ∙ sym (length-later_contexts lags 0 before))
    (λ k l.
    let within : k < length before = omega (arith, many, l) in
    at k within ∙ sym (contexts-later-at lags before (later_contexts lags 0 before) refl k within))

pub contexts-many : (lags : ℕ → ℕ) (before after : List (Option Context)) → after ≡ later_contexts lags 0 before → length after ≡ length before
contexts-many lags before after same = ap length same ∙ length-later_contexts lags 0 before
