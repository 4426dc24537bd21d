-- What a caller gets of a verdict is the verdict.
use Rattle.std.proofs.Common.{◌≡◌, ◌⊎◌, ℕ, List, Option, IfSome, inl, inr, arith, refl, sym, subst}
use Rattle.mcs_c.specs.Verdict.{HasLines, IsCoded, IsGiven, IsTold, IsVerdict}
use Rattle.mcs_c.specs.declared.verdict.Verdict.{Verdict}
use Rattle.mcs_c.specs.declared.verdict.Verdict.TheVariants as verdict

no-lines : (answer other : ℕ) → answer ≡ other → (other ≡ 1) ⊎ ((other ≡ 2) ⊎ (other ≡ 4)) → HasLines answer → ⊥
no-lines answer other is of lines = grind (arith, is, of, lines)

module _ (Lines : List ℕ → ℕ → Type 0) (Fault : List ℕ → Type 0) where
  module _ (answer : ℕ) (bytes : List ℕ) where
    pub lines-are : (v : Verdict) → IsVerdict Lines Fault v → IsGiven v answer bytes → HasLines answer → Lines bytes answer
    lines-are (verdict.Lines lines code) of (inl two) has = absurd (no-lines answer 2 two (inr (inl refl)) has)
    lines-are (verdict.Lines lines code) of (inr (is, same)) has =
        subst (λ n. Lines bytes n) (sym is) (subst (λ (b : List ℕ). Lines b code) (sym same) of)
    lines-are (verdict.Fault line) of (inl two) has = absurd (no-lines answer 2 two (inr (inl refl)) has)
    lines-are (verdict.Fault line) of (inr (one, same)) has = absurd (no-lines answer 1 one (inl refl) has)
    lines-are verdict.NoMemory of four has = absurd (no-lines answer 4 four (inr (inr refl)) has)

    no-fault : (code : ℕ) → HasLines code → answer ≡ code → answer ≡ 1 → ⊥
    no-fault code coded is one = grind (arith, coded, is, one)

    pub fault-is : (v : Verdict) → IsVerdict Lines Fault v → IsCoded v → IsGiven v answer bytes → answer ≡ 1 → Fault bytes
    fault-is (verdict.Lines lines code) of coded (inl two) one = absurd (grind (arith, two, one))
    fault-is (verdict.Lines lines code) of coded (inr (is, same)) one = absurd (no-fault code coded is one)
    fault-is (verdict.Fault line) of coded (inl two) one = absurd (grind (arith, two, one))
    fault-is (verdict.Fault line) of coded (inr (is, same)) one = subst Fault (sym same) of
    fault-is verdict.NoMemory of coded four one = absurd (grind (arith, four, one))

  pub told-is : (text : Option (List ℕ)) (v : Verdict) → IsTold text v → ((line : List ℕ) → IfSome text (λ said. line ≡ said) → Fault line)
      → IsVerdict Lines Fault v
  told-is text (verdict.Lines lines code) told so = absurd told
  told-is text (verdict.Fault line) told so = so _ told
  told-is text verdict.NoMemory told so = tt

-- what holds of some words holds of equal ones
pub by-words : {A B C D : Type 0} (P : A → B → C → D → Type 0) (a a2 : A) (b b2 : B) (c c2 : C) (d d2 : D)
    → a ≡ a2 → b ≡ b2 → c ≡ c2 → d ≡ d2 → P a b c d → P a2 b2 c2 d2
by-words P a a2 b b2 c c2 d d2 e f g h is =
    subst (λ x. P x b2 c2 d2) e (subst (λ x. P a x c2 d2) f (subst (λ x. P a b x d2) g (subst (λ x. P a b c x) h is)))
