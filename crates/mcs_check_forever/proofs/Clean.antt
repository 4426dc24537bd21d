-- If the verdict is clean, nothing is ever late.
use Rattle.std.proofs.Common.{◌≡◌, ◌∙◌, ℕ, zero, suc, ◌+◌, ◌<◌, Bool, true, false, ◌||◌, ◌&&◌, not, ◌==◌, cond, List, [], ◌∷◌, Option, Some, None, get_or, length, refl, sym, ap, subst, arith}
use Rattle.std.specs.Prelude.{is_some as has, slice_get}
use Rattle.std.specs.List.{AllByRecursion, list_any, sum_by}
use Rattle.std.proofs.lemmas.Bool.Decides.{nat_tests}
use Rattle.std.proofs.lemmas.List.Sums.{sum_by-cons}
use Rattle.std.proofs.lemmas.Option.{get_or_from_slice_get}
use Rattle.mcs_ticks.specs.Capped.{capped}
use Rattle.mcs_system.specs.declared.part.ChainPart.{ChainPart}
use Rattle.mcs_system.specs.System.{System}
use Rattle.mcs_check_lines.specs.Deadlines.{has_chain_deadline}
use Rattle.mcs_ever_told.specs.declared.line.Often.{Often}
use Rattle.mcs_ever_told.specs.declared.line.Often.TheVariants.{SoFar}
use Rattle.mcs_ever_told.specs.declared.outlook.told.Period.{Period}
use Rattle.mcs_ever_told.specs.declared.outlook.told.Told.{Told}
use Rattle.mcs_ever_told.specs.Lines.{is_some}
use Rattle.mcs_ever_chain.specs.declared.told.ChainTold.{ChainTold}
use Rattle.mcs_ever_chain.specs.Told.{AreChainsTold, IsToldBy, IsToldOfChain, NothingIsEverLate}
use Rattle.mcs_ever_chain_lines.specs.Lines.{chain_part, findings_of, no_chain, one_if, tells_left}
use Rattle.mcs_check_forever.specs.declared.verdict.Verdict.TheVariants.{Clean, Found, Open}
use Rattle.mcs_check_forever.specs.Verdict.{chain_findings, findings, is_open, says_nothing, set_findings, verdict_of}

-- an element of a list all of whose elements have a property
all-at : {X : Type 0} (P : X → Type 0) (xs : List X) (i : ℕ) (d : X) → i < length xs → AllByRecursion P xs → P (get_or xs i d)
all-at P [] i d l all = absurd (omega (arith, l))
all-at P (x ∷ xs) zero d l all = all.0
all-at P (x ∷ xs) (suc i) d l all = all-at P xs i d (omega (arith, l)) all.1

-- none of the numbers of a sum of 0 is more
none-in : (f : ChainTold → ℕ) (xs : List ChainTold) (i : ℕ) (d : ChainTold) → i < length xs → sum_by f xs ≡ 0 → f (get_or xs i d) ≡ 0
none-in f [] i d l none = absurd (omega (arith, l))
none-in f (x ∷ xs) zero d l none = let both = sym (sum_by-cons f x xs) ∙ none in omega (arith, both)
none-in f (x ∷ xs) (suc i) d l none =
    let both = sym (sum_by-cons f x xs) ∙ none in
    let rest : sum_by f xs ≡ 0 = omega (arith, both) in
    none-in f xs i d (omega (arith, l)) rest

neither : (a b : Bool) → (a || b) ≡ false → (a ≡ false) × (b ≡ false)
neither true b e = cc
neither false b e = (refl, e)

-- no element passes a test that none passes
none-at : {X : Type 0} (test : X → Bool) (xs : List X) (i : ℕ) (d : X) → i < length xs → list_any test xs ≡ false → test (get_or xs i d) ≡ false
none-at test [] i d l none = absurd (omega (arith, l))
none-at test (x ∷ xs) zero d l none = (neither (test x) (list_any test xs) none).0
none-at test (x ∷ xs) (suc i) d l none = none-at test xs i d (omega (arith, l)) (neither (test x) (list_any test xs) none).1

one-more : (a : ℕ) (b : Bool) → a + one_if (b || true) ≡ 0 → true ≡ false
one-more a true e = absurd (omega (arith, e))
one-more a false e = absurd (omega (arith, e))

-- without a line of a finding no answer is slow, and none is missing
settled : (slow : Bool) (left : Option Often) → one_if slow + one_if (tells_left slow left) ≡ 0 → (slow ≡ false) × (left ≡ None)
settled true left e = absurd (omega (arith, e))
settled false None e = (refl, refl)
settled false (Some often) e = let no = one-more 0 (is_some often) e in cc

none-capped : (n : ℕ) → capped n ≡ 0 → n ≡ 0
none-capped n e = grind arith

-- the verdict is clean only if nothing is found, and that says something
clean-by : (found unknown : Bool) → cond found Found (cond unknown Open Clean) ≡ Clean → (found ≡ false) × (unknown ≡ false)
clean-by true unknown e = cc
clean-by false true e = cc
clean-by false false e = (refl, refl)

is-zero : (n : ℕ) → not (n == 0) ≡ false → n ≡ 0
is-zero n e = grind (arith, nat_tests, e)

in-range : {X : Type 0} (xs : List X) (i : ℕ) (x : X) → slice_get xs i ≡ Some x → i < length xs
in-range [] i x e = cc
in-range (y ∷ xs) zero x e = omega arith
in-range (y ∷ xs) (suc i) x e = let l = in-range xs i x e in omega (arith, l)

-- the value past the end of the list, which is never reached
nobody : ChainTold
nobody = record { chain = 0; period = None; greatest = None; answers = SoFar 0; slow = SoFar 0; unanswered = None }

module _ (system : System) (horizon : ℕ) (chain : ChainPart) where
  by-period : (told : ChainTold) (period : Option Period) → IsToldBy system chain horizon told period →
      is_some told.slow ≡ false → told.unanswered ≡ None → (not (has period) && has_chain_deadline chain) ≡ false → has_chain_deadline chain ≡ true →
      NothingIsEverLate system chain
  by-period told (Some p) so slow left known due = so.clean slow left
  by-period told None so slow left known due = let no : true ≡ false = sym due ∙ known in cc

pub clean-is-never-late : (system : System) (horizon : ℕ) (told : List Told) (chains : List ChainTold) → AreChainsTold system horizon chains
    → verdict_of system told chains ≡ Clean
    → (n : ℕ) (chain : ChainPart) → slice_get system.chains n ≡ Some chain → has_chain_deadline chain ≡ true → NothingIsEverLate system chain
clean-is-never-late system horizon told chains are clean n chain is due =
    let verdict = clean-by (not (findings told chains == 0)) (says_nothing system told chains) clean in
    let all-found : set_findings told + chain_findings chains ≡ 0 = none-capped _ (is-zero (findings told chains) verdict.0) in
    let found : chain_findings chains ≡ 0 = omega (arith, all-found) in
    let none : sum_by findings_of chains ≡ 0 = none-capped _ found in
    let inside : n < length system.chains = in-range system.chains n chain is in
    let there : n < length chains = subst (λ m. n < m) (sym are.many) inside in
    let one : ChainTold = get_or chains n nobody in
    let at : IsToldOfChain system horizon one = all-at (IsToldOfChain system horizon) chains n nobody there are.so in
    let n-is : one.chain ≡ n = are.each n nobody there in
    let same : slice_get system.chains n ≡ Some at.chain = subst (λ m. slice_get system.chains m ≡ Some at.chain) n-is at.is in
    let both : Some at.chain ≡ Some chain = sym same ∙ is in
    let chain-is : at.chain ≡ chain = cc in
    let so : IsToldBy system chain horizon one one.period = subst (λ c. IsToldBy system c horizon one one.period) chain-is at.so in
    let part-is : chain_part system one.chain ≡ chain = ap (chain_part system) n-is ∙ get_or_from_slice_get system.chains n chain no_chain is in
    let nothing = neither _ _ verdict.1 in
    let closed = (neither _ _ nothing.1).0 in
    let known : is_open system one ≡ false = none-at (is_open system) chains n nobody there closed in
    let known-too = subst (λ c. (not (has one.period) && has_chain_deadline c) ≡ false) part-is known in
    let quiet = settled (is_some one.slow) one.unanswered (none-in findings_of chains n nobody there none) in
    by-period system horizon chain one one.period so quiet.0 quiet.1 known-too due
