-- Origins that were not answered.
use Rattle.std.proofs.Common.{◌≡◌, ℕ, zero, suc, ◌-◌, ◌*◌, ◌≤◌, Bool, true, false, not, cond, List, [], ◌∷◌, ◌++◌, refl, sym, ap, ◌∙◌, arith, append_assoc}
use Rattle.std.specs.Prelude.{◌==◌, ◌||◌}
use Rattle.std.specs.List.{list_any}
use Rattle.std.proofs.lemmas.Bool.Decides.{nat_tests}
use Rattle.std.proofs.lemmas.List.Elements.{filter-append}
use Rattle.mcs_origins.specs.declared.mark.Mark.{Mark}
use Rattle.mcs_origins.specs.Sets.{is_one_of, without}
use Rattle.mcs_origins.specs.stored.Stretches.{run, is_between}
use Rattle.mcs_origins.proofs.Runs.{run-last}

neither-left : (a b : Bool) → (a || b) ≡ false → a ≡ false
neither-left true b e = absurd (cc)
neither-left false b e = refl

neither-right : (a b : Bool) → (a || b) ≡ false → b ≡ false
neither-right true b e = absurd (cc)
neither-right false b e = e

not-this : (first last x o : ℕ) → first ≤ o → o ≤ last → is_between first last x ≡ false → (x == o) ≡ false
not-this first last x o low high e = grind (arith, nat_tests)

not-among : (answered : List ℕ) (first last o : ℕ) → first ≤ o → o ≤ last → list_any (is_between first last) answered ≡ false → is_one_of answered o ≡ false
not-among [] first last o low high e = refl
not-among (x ∷ answered) first last o low high e =
    let here = not-this first last x o low high (neither-left (is_between first last x) (list_any (is_between first last) answered) e) in
    let rest = not-among answered first last o low high (neither-right (is_between first last x) (list_any (is_between first last) answered) e) in
    ap (λ b. b || is_one_of answered o) here ∙ rest

kept-first : (answered : List ℕ) (mark : Mark) (marks : List Mark) → is_one_of answered mark.origin ≡ false → without answered (mark ∷ marks) ≡ mark ∷ without answered marks
kept-first answered mark marks e = ap (λ b. cond (not b) (mark ∷ without answered marks) (without answered marks)) e

pub none-between : (answered : List ℕ) (first last l s p n : ℕ) → l ≤ last → first ≤ l - s * n → list_any (is_between first last) answered ≡ false →
    without answered (run l s (suc n) p) ≡ run l s (suc n) p
none-between answered first last l s p zero high low e =
    let above : first ≤ l = omega arith in
    kept-first answered (record { origin = l; places = p }) [] (not-among answered first last l above high e)
none-between answered first last l s p (suc n) high low e =
    let mark : Mark = record { origin = l; places = p } in
    let above : first ≤ l = omega arith in
    let next : l - s ≤ last = omega arith in
    let below : first ≤ (l - s) - s * n = omega arith in
    kept-first answered mark (run (l - s) s (suc n) p) (not-among answered first last l above high e)
    ∙ ap (λ rest. mark ∷ rest) (none-between answered first last (l - s) s p n next below e)

pub without-append : (answered : List ℕ) (a b : List Mark) → without answered (a ++ b) ≡ without answered a ++ without answered b
without-append answered a b = filter-append (λ (mark : Mark). not (is_one_of answered mark.origin)) a b

-- one origin fewer is to do, and one more is done
pub parts-more : (answered : List ℕ) (l s p n : ℕ) (done before : List Mark) → done ≡ without answered (record { origin = l - s * n; places = p } ∷ []) ++ before →
    without answered (run l s n p) ++ done ≡ without answered (run l s (suc n) p) ++ before
parts-more answered l s p n done before e =
    let mark : Mark = record { origin = l - s * n; places = p } in
    ap (λ d. without answered (run l s n p) ++ d) e
    ∙ sym (append_assoc (without answered (run l s n p)) (without answered (mark ∷ [])) before)
    ∙ ap (λ a. a ++ before) (sym (ap (without answered) (run-last l s p n) ∙ without-append answered (run l s n p) (mark ∷ [])))
