-- Findings in order of their moments are known by those of each moment.
use Rattle.std.proofs.Common.{◌≡◌, ◌∙◌, ℕ, suc, ◌<◌, ◌≤◌, ◌⊎◌, inl, inr, Bool, true, not, ◌&&◌, cond, ◌==◌, List, [], ◌∷◌, length, get_or, filter, ap, arith, nat_cmp, refl, sym}
use Rattle.std.specs.List.Sorted.{IsNonDecreasingBy, IsSortedByKey, IsStableByKey}
use Rattle.std.specs.Ordering.{is_lt}
use Rattle.std.proofs.lemmas.Bool.Decides.{nat_tests}
use Rattle.std.proofs.lemmas.List.Sorted.{IsNonDecreasingBy-from_sort}
use Rattle.mcs_verdict.specs.declared.finding.Found.{Found}

-- in order of their moments, the first from this one on
abbrev pub AreLater : ℕ → List Found → Type 0
AreLater t [] = Unit {0}
AreLater t (f ∷ found) = (t ≤ f.moment) × AreLater f.moment found

-- those of a moment
abbrev pub found_then : ℕ → List Found → List Found
found_then t found = filter (λ (f : Found). f.moment == t) found

none-then : (t s : ℕ) (found : List Found) → t < s → AreLater s found → found_then t found ≡ []
none-then t s [] l h = refl
none-then t s (f ∷ found) l h = grind (arith, nat_tests, h.0, none-then t f.moment found (omega (arith, h.0)) h.1)

head-then : (f : Found) (found : List Found) → found_then f.moment (f ∷ found) ≡ f ∷ found_then f.moment found
head-then f found = let same : (f.moment == f.moment) ≡ true = grind (arith, nat_tests) in rw same refl

same-found : (s t : ℕ) (xs ys : List Found) → AreLater s xs → AreLater t ys → ((f : Found) → found_then f.moment xs ≡ found_then f.moment ys) → xs ≡ ys
same-found s t [] [] h g same = refl
same-found s t [] (y ∷ ys) h g same = let no : [] ≡ y ∷ found_then y.moment ys = same y ∙ head-then y ys in cc
same-found s t (x ∷ xs) [] h g same = let no : x ∷ found_then x.moment xs ≡ [] = sym (head-then x xs) ∙ same x in cc
same-found s t (x ∷ xs) (y ∷ ys) h g same = by (least x.moment y.moment) (λ e. same-found x.moment y.moment xs ys h.1 g.1 (tails e))
  where
    least : (a b : ℕ) → (a < b) ⊎ ((b < a) ⊎ (a ≡ b))
    least a b = grind arith

    tails : x ≡ y → (f : Found) → found_then f.moment xs ≡ found_then f.moment ys
    tails e f = drop_one (x.moment == f.moment) (same f ∙ ap (λ (z : Found). found_then f.moment (z ∷ ys)) (sym e))
      where
        drop_one : (b : Bool) → cond b (x ∷ found_then f.moment xs) (found_then f.moment xs) ≡ cond b (x ∷ found_then f.moment ys) (found_then f.moment ys) →
            found_then f.moment xs ≡ found_then f.moment ys
        drop_one b i = grind arith

    by : (x.moment < y.moment) ⊎ ((y.moment < x.moment) ⊎ (x.moment ≡ y.moment)) → (x ≡ y → xs ≡ ys) → x ∷ xs ≡ y ∷ ys
    by (inl l) rest =
        let no : x ∷ found_then x.moment xs ≡ [] = sym (head-then x xs) ∙ same x ∙ none-then x.moment y.moment (y ∷ ys) l (omega arith, g.1) in
        cc
    by (inr (inl l)) rest =
        let no : [] ≡ y ∷ found_then y.moment ys = sym (none-then y.moment x.moment (x ∷ xs) l (omega arith, h.1)) ∙ same y ∙ head-then y ys in
        cc
    by (inr (inr e)) rest =
        let heads : x ∷ found_then x.moment xs ≡ y ∷ found_then y.moment ys =
        sym (head-then x xs) ∙ same x ∙ ap (λ m. found_then m (y ∷ ys)) e ∙ head-then y ys in
        let head : x ≡ y = cc in
        let tail : xs ≡ ys = rest head in
        cc

-- findings whose moments do not fall are in order
not-falling : (t : ℕ) (found : List Found) → ((d : Found) → 0 < length found → t ≤ (get_or found 0 d).moment) → IsNonDecreasingBy (λ (f : Found). f.moment) found → AreLater t found
not-falling t [] l h = tt
not-falling t (f ∷ found) l h =
    (l f (omega arith), not-falling f.moment found (λ d q. h 0 1 d (omega arith) (omega arith)) (λ i j d p q. h (suc i) (suc j) d (omega arith) (omega arith)))

-- those that tie by their moments are those of one moment
moments-tie : (a b : ℕ) → (not (is_lt (nat_cmp a b)) && not (is_lt (nat_cmp b a))) ≡ (b == a)
moments-tie a b = grind (arith, nat_tests)

ties-then : (t : ℕ) (found : List Found) → filter (λ (f : Found). not (is_lt (nat_cmp t f.moment)) && not (is_lt (nat_cmp f.moment t))) found ≡ found_then t found
ties-then t [] = refl
ties-then t (f ∷ found) = rw (moments-tie t f.moment, ties-then t found) refl

-- a stable sort by moment makes of them those in order that have each moment's
pub stably-sorted : (xs sorted ys : List Found) (t : ℕ) → IsSortedByKey (λ (f : Found). f.moment) nat_cmp sorted → IsStableByKey (λ (f : Found). f.moment) nat_cmp xs sorted
    → AreLater t ys → ((m : ℕ) → found_then m xs ≡ found_then m ys) → sorted ≡ ys
stably-sorted xs sorted ys t up stable later each =
    same-found 0 t sorted ys (not-falling 0 sorted (λ d q. omega arith) (IsNonDecreasingBy-from_sort (λ (f : Found). f.moment) sorted up)) later
    (λ f. sym (ties-then f.moment sorted) ∙ stable f ∙ ties-then f.moment xs ∙ each f.moment)
