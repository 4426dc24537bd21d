-- Contexts to which threads are bound, after one thread more.
use Rattle.std.proofs.Common.{◌≡◌, ℕ, ◌≤◌, Bool, true, eqb, List, [], ◌∷◌, ◌++◌, length, set, sym, ap, ◌∙◌}
use Rattle.std.proofs.lemmas.Bool.{eq-eqb, ne_eqb}
use Rattle.std.proofs.lemmas.List.{set_past}
use Rattle.mcs_system.specs.declared.part.ThreadPart.{ThreadPart}
use Rattle.mcs_hints.specs.Contexts.{is_bound}
use Rattle.mcs_hints.specs.stored.Marks.{bounds_of}
use Rattle.mcs_hints.proofs.Numbers.{set_number}
use Rattle.mcs_hints.proofs.Marks.{any_push_no, any_push_yes}

pub bounds_told : (context contexts : ℕ) (threads : List ThreadPart) (thread : ThreadPart) (bounds : List Bool) → bounds ≡ bounds_of contexts threads
    → thread.context ≡ context → set bounds context true ≡ bounds_of contexts (threads ++ thread ∷ [])
bounds_told context contexts threads thread bounds e same =
    ap (λ bounds. set bounds context true) e
    ∙ set_number (is_bound threads) (is_bound (threads ++ thread ∷ [])) contexts context true
    (λ h. sym (any_push_yes (λ (thread : ThreadPart). eqb thread.context context) threads thread (eq-eqb thread.context context same)))
    (λ k differ. sym (any_push_no (λ (thread : ThreadPart). eqb thread.context k) threads thread (ne_eqb thread.context k (λ e. differ (sym e ∙ same)))))

-- a context that the system does not have
pub bounds_untold : (context contexts : ℕ) (threads : List ThreadPart) (thread : ThreadPart) (bounds : List Bool) → bounds ≡ bounds_of contexts threads
    → thread.context ≡ context → length bounds ≤ context → bounds ≡ bounds_of contexts (threads ++ thread ∷ [])
bounds_untold context contexts threads thread bounds e same h =
    sym (set_past bounds context true h) ∙ bounds_told context contexts threads thread bounds e same
