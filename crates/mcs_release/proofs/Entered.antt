-- The entries of places: one is put in, taken out, or moved to the front.
use Rattle.std.proofs.Common.{◌≡◌, ℕ, zero, suc, ◌<◌, ◌≤◌, List, [], ◌∷◌, ◌++◌, length, get_or, set, take, Option, Some, None, refl, sym, ap, arith}
use Rattle.mcs_release.specs.declared.dated.Dated.{Dated}
use Rattle.mcs_release.specs.stored.Places.{entered, times}
use Rattle.mcs_release.specs.Release.{without}
use Rattle.std.proofs.lemmas.Bool.Decides.{nat_tests}

pub entered-none : (places : List (Option Dated)) → ((i : ℕ) → get_or places i None ≡ None) → entered places ≡ []
entered-none [] none = refl
entered-none (place ∷ places) none = grind (arith, none zero, entered-none places (λ i. none (suc i)))

-- there are at most as many entries as places
pub length-entered : (places : List (Option Dated)) → length (entered places) ≤ length places
length-entered [] = omega arith
length-entered (None ∷ places) = omega (arith, length-entered places)
length-entered (Some x ∷ places) = omega (arith, length-entered places)

-- the entries before a tail of empty places are all entries
pub entered-before : (places : List (Option Dated)) (past : ℕ) → ((i : ℕ) → past ≤ i → get_or places i None ≡ None) →
    entered (take past places) ≡ entered places
entered-before [] zero behind = refl
entered-before [] (suc past) behind = refl
entered-before (place ∷ places) zero behind = sym (entered-none (place ∷ places) (λ i. behind i (omega arith)))
entered-before (place ∷ places) (suc past) behind = grind (arith, entered-before places past (λ i from. behind (suc i) (omega (arith, from))))

pub empty_from : (places : List (Option Dated)) (i : ℕ) → entered places ≡ [] → get_or places i None ≡ None
empty_from [] i none = refl
empty_from (place ∷ places) zero none = grind (arith)
empty_from (place ∷ places) (suc i) none = grind (arith, empty_from places i)

-- an entry behind all others
pub entered-push : (places : List (Option Dated)) (k : ℕ) (x : Dated) → k < length places → ((i : ℕ) → k ≤ i → get_or places i None ≡ None) →
    entered (set places k (Some x)) ≡ entered places ++ x ∷ []
entered-push [] k x h behind = absurd (omega arith)
entered-push (place ∷ places) zero x h behind =
    rw (entered-none (place ∷ places) (λ i. behind i (omega arith)), entered-none places (λ i. behind (suc i) (omega arith))) refl
entered-push (place ∷ places) (suc k) x h behind = grind (arith, entered-push places k x (omega arith) (λ i above. behind (suc i) (omega arith)))

-- the thread of an occupied place occurs among the entries
pub times-stands : (places : List (Option Dated)) (k : ℕ) (x : Dated) → get_or places k None ≡ Some x → 1 ≤ times x.thread (entered places)
times-stands [] k x e = cc
times-stands (place ∷ places) zero x e = grind (arith, nat_tests)
times-stands (place ∷ places) (suc k) x e = grind (arith, times-stands places k x e)

-- an entry leaves
pub times-left : (places : List (Option Dated)) (k x : ℕ) → times x (entered (set places k None)) ≤ times x (entered places)
times-left [] k x = omega arith
times-left (place ∷ places) zero x = grind (arith)
times-left (place ∷ places) (suc k) x = grind (arith, times-left places k x)

pub entered-left : (places : List (Option Dated)) (k : ℕ) (x : Dated) → get_or places k None ≡ Some x → times x.thread (entered places) ≤ 1 →
    without x.thread (entered places) ≡ entered (set places k None)
entered-left [] k x e once = cc
entered-left (place ∷ places) zero x e once = grind (arith, nat_tests)
entered-left (place ∷ places) (suc k) x e once = grind (arith, nat_tests, times-stands places k x e, entered-left places k x e)

-- an entry that has no other before it goes to the front
first-moved : (places : List (Option Dated)) (i : ℕ) (x : Dated) → get_or places i None ≡ Some x → ((j : ℕ) → j < i → get_or places j None ≡ None) →
    x ∷ entered (set places i None) ≡ entered places
first-moved [] i x e gap = cc
first-moved (place ∷ places) zero x e gap = grind (arith)
first-moved (place ∷ places) (suc i) x e gap = grind (arith, gap zero (omega arith), first-moved places i x e (λ j h. gap (suc j) (omega arith)))

-- it moves over places that are empty
pub entered-moved : (places : List (Option Dated)) (i end : ℕ) (x : Dated) → get_or places i None ≡ Some x → end ≤ i →
    ((j : ℕ) → end ≤ j → j < i → get_or places j None ≡ None) → entered (set (set places i None) end (Some x)) ≡ entered places
entered-moved [] i end x e h gap = cc
entered-moved (place ∷ places) zero zero x e h gap = rw e refl
entered-moved (place ∷ places) zero (suc end) x e h gap = absurd (omega arith)
entered-moved (place ∷ places) (suc i) zero x e h gap =
    grind (arith, gap zero (omega arith) (omega arith), first-moved places i x e (λ j below. gap (suc j) (omega arith) (omega arith)))
entered-moved (place ∷ places) (suc i) (suc end) x e h gap =
    grind (arith, entered-moved places i end x e (omega arith) (λ j from below. gap (suc j) (omega arith) (omega arith)))

-- the entries before the next place, followed by its entry if it has one
pub entered-next : (places : List (Option Dated)) (i : ℕ) (place : Option Dated) → get_or places i None ≡ place → i < length places →
    entered (take (suc i) places) ≡ entered (take i places) ++ entered (place ∷ [])
entered-next [] i place e below = absurd (omega arith)
entered-next (first ∷ places) zero place e below = ap (λ (p : Option Dated). entered (p ∷ [])) e
entered-next (first ∷ places) (suc i) place e below = grind (arith, entered-next places i place e (omega arith))

-- an entry that moves to the front adds one to those before the end
pub entered-filled : (places : List (Option Dated)) (i front : ℕ) (x : Dated) → front ≤ i → i < length places →
    length (entered (take (suc front) (set (set places i None) front (Some x)))) ≡ suc (length (entered (take front places)))
entered-filled [] i front x before below = absurd (omega arith)
entered-filled (place ∷ places) zero zero x before below = refl
entered-filled (place ∷ places) (suc i) zero x before below = refl
entered-filled (place ∷ places) zero (suc front) x before below = absurd (omega arith)
entered-filled (place ∷ places) (suc i) (suc front) x before below = grind (arith, entered-filled places i front x (omega arith) (omega arith))
