-- Empty collectors and empty parts, before the first row.
use Rattle.std.proofs.Common.{◌≡◌, ℕ, zero, suc, ◌+◌, ◌<◌, ◌≤◌, Bool, true, false, List, [], ◌∷◌, ◌++◌, length, map, replicate, get_or, refl, sym, ap, ◌∙◌, subst, arith}
use Rattle.std.specs.Prelude.{nat_lt, slice_index}
use Rattle.std.specs.List.{range_with_len}
use Rattle.std.proofs.lemmas.Bool.Decides.{nat_tests}
use Rattle.std.proofs.lemmas.List.{get_or_append_left, get_or_push, get_or-replicate, length_push, length-replicate}
use Rattle.mcs_ticks.specs.declared.row.Row.{Row}
use Rattle.mcs_merge.specs.Merging.{AreBefore}
use Rattle.mcs_merge.specs.Parts.{all_from, rows_from, AreHeld, HoldEach}
use Rattle.mcs_system.specs.System.{System}
use Rattle.mcs_stretch.specs.Stretch.{rows_between}
use Rattle.mcs_merge.proofs.Parts.{from-none as none-first}
use Rattle.mcs_stretch.proofs.Merging.{list-between}
use Rattle.mcs_window.specs.Desk.{AreEmpty}
use Rattle.mcs_team.specs.Flow.{Waits}

-- no row before a moment is at that moment or later
pub from-none : (t : ℕ) (rows : List Row) → AreBefore t rows → rows_from t rows ≡ []
from-none t [] h = refl
from-none t (row ∷ rows) h = none-first t row rows h.0 ∙ from-none t rows h.1

-- one part more that holds nothing
pub none-more : {O P : Type 0} (holds : O → P → List Row → Type 0) (out : O) (parts : List P) (part : P) (n : ℕ) → HoldEach holds out parts (replicate n []) → holds out part [] →
    HoldEach holds out (parts ++ part ∷ []) (replicate (n + 1) [])
none-more holds out [] part zero h k = (k, tt)
none-more holds out [] part (suc n) h k = absurd h
none-more holds out (first ∷ parts) part zero h k = absurd h
none-more holds out (first ∷ parts) part (suc n) h k = let e : suc n + 1 ≡ suc (n + 1) = omega arith in rw e (h.0, none-more holds out parts part n h.1 k)

-- nothing waits, and all before a moment was given
pub waits-first : {O P : Type 0} (holds : O → P → List Row → Type 0) (system : System) (horizon t : ℕ) (pasts : List ℕ) (parts : List (List P)) (out : O) → pasts ≡ replicate system.cores t →
    t ≤ horizon + 1 → AreHeld holds out parts (replicate system.cores []) → Waits holds system horizon t pasts parts out
waits-first holds system horizon t pasts parts out e l held =
    rw e
    (record {
      many_are = length-replicate system.cores t;
      early = λ c k. let z = all-same c k in omega arith;
      passed = λ c k. let z = all-same c k in omega arith;
      held = subst (AreHeld holds out parts) (sym (none system.cores 0 (omega arith))) held;
    })
  where
    all-same : (c : ℕ) → c < system.cores → slice_index (replicate system.cores t) c ≡ t
    all-same c k = get_or-replicate system.cores c t 0 k

    mine : (c : ℕ) → c < system.cores → rows_from t (rows_between system c 0 (slice_index (replicate system.cores t) c)) ≡ []
    mine c k = ap (λ n. rows_from t (rows_between system c 0 n)) (all-same c k) ∙ from-none t (rows_between system c 0 t) (list-between system c 0 t (omega arith)).before

    none : (n a : ℕ) → a + n ≤ system.cores → all_from t (map (λ c. rows_between system c 0 (slice_index (replicate system.cores t) c)) (range_with_len a n)) ≡ replicate n []
    none zero a k = refl
    none (suc n) a k = both _ _ _ _ (mine a (omega arith)) (none n (a + 1) (omega arith))
      where
        both : (x y : List Row) (xs ys : List (List Row)) → x ≡ y → xs ≡ ys → x ∷ xs ≡ y ∷ ys
        both x y xs ys e g = cc
