-- The last refill of a list.
use Rattle.std.proofs.Common.{◌≡◌, ℕ, zero, suc, ◌+◌, ◌-◌, ◌<◌, ◌≤◌, ◌≢◌, cond, List, [], ◌∷◌, ◌++◌, length, take, refl, sym, ap, ◌∙◌, arith}
use Rattle.std.specs.Prelude.{◌==◌, nat_lt, Some, slice_get, slice_set}
use Rattle.std.proofs.lemmas.Bool.Decides.{nat_tests}
use Rattle.std.proofs.lemmas.Option.{same_Some}
use Rattle.circular_buffer.specs.Buffer.{last_item}
use Rattle.mcs_refills.specs.declared.refill.Refill.{Refill}
use Rattle.mcs_refills.specs.laws.Apart.{last_end}
use Rattle.mcs_refills.specs.stored.Refills.{grown, given_back}
use Rattle.mcs_refills.specs.Server.{last_moved}

last-at : (rs : List Refill) (n : ℕ) (x : Refill) → suc n ≡ length rs → Some x ≡ slice_get rs n → rs ≡ take n rs ++ x ∷ []
last-at [] n x l e = absurd (omega arith)
last-at (r ∷ []) zero x l e = ap (λ (y : Refill). y ∷ []) (sym (same_Some _ _ e))
last-at (r ∷ s ∷ rs) zero x l e = absurd (omega arith)
last-at (r ∷ rs) (suc n) x l e = ap (λ xs. r ∷ xs) (last-at rs n x (omega arith) e)

-- the last refill follows the others
pub last-is : (rs : List Refill) (x : Refill) → Some x ≡ last_item rs → rs ≡ take (length rs - 1) rs ++ x ∷ []
last-is [] x e = cc
last-is (r ∷ rs) x e = last-at (r ∷ rs) (length (r ∷ rs) - 1) x (omega arith) e

set-at : (rs : List Refill) (n : ℕ) (x : Refill) → suc n ≡ length rs → slice_set rs n x ≡ take n rs ++ x ∷ []
set-at [] n x l = absurd (omega arith)
set-at (r ∷ []) zero x l = refl
set-at (r ∷ s ∷ rs) zero x l = absurd (omega arith)
set-at (r ∷ rs) (suc n) x l = ap (λ xs. r ∷ xs) (set-at rs n x (omega arith))

-- the last refill replaced
pub set-last : (rs : List Refill) (x : Refill) → 1 ≤ length rs → slice_set rs (length rs - 1) x ≡ take (length rs - 1) rs ++ x ∷ []
set-last rs x l = set-at rs (length rs - 1) x (omega arith)

last_end-last : (ts : List Refill) (x : Refill) → last_end (ts ++ x ∷ []) ≡ x.begins + x.amount
last_end-last [] x = refl
last_end-last (r ∷ []) x = refl
last_end-last (r ∷ s ∷ ts) x = last_end-last (s ∷ ts) x

pub ends-with : (rs : List Refill) (x : Refill) → Some x ≡ last_item rs → last_end rs ≡ x.begins + x.amount
ends-with rs x e = ap last_end (last-is rs x e) ∙ last_end-last (take (length rs - 1) rs) x

grown-last : (k : ℕ) (ts : List Refill) (x : Refill) → grown k (ts ++ x ∷ []) ≡ ts ++ record { begins = x.begins; amount = x.amount + k } ∷ []
grown-last k [] x = refl
grown-last k (r ∷ []) x = refl
grown-last k (r ∷ s ∷ ts) x = ap (λ xs. r ∷ xs) (grown-last k (s ∷ ts) x)

moved-last : (b : ℕ) (ts : List Refill) (x : Refill) → last_moved b (ts ++ x ∷ []) ≡ ts ++ record { begins = b - x.amount; amount = x.amount } ∷ []
moved-last b [] x = refl
moved-last b (r ∷ []) x = refl
moved-last b (r ∷ s ∷ ts) x = ap (λ xs. r ∷ xs) (moved-last b (s ∷ ts) x)

by_cases : (max_refills : ℕ) (back : Refill) (ts : List Refill) (x : Refill) → given_back max_refills back (ts ++ x ∷ [])
    ≡ cond (last_end (ts ++ x ∷ []) == back.begins) (grown back.amount (ts ++ x ∷ [])) (cond (nat_lt (length (ts ++ x ∷ [])) max_refills) ((ts ++ x ∷ []) ++ back ∷ []) (grown back.amount (last_moved back.begins (ts ++ x ∷ []))))
by_cases max_refills back [] x = refl
by_cases max_refills back (r ∷ ts) x = refl

-- the three ways in which a refill is given back
module _ (max_refills n : ℕ) (back x : Refill) (ts rs : List Refill) (e : rs ≡ ts ++ x ∷ []) where
  pub joins : x.begins + x.amount ≡ back.begins → ts ++ record { begins = x.begins; amount = x.amount + back.amount } ∷ [] ≡ given_back max_refills back rs
  joins g = grind (arith, nat_tests, by_cases max_refills back ts x, last_end-last ts x, grown-last back.amount ts x)

  pub appends : n ≡ length rs → x.begins + x.amount ≢ back.begins → n < max_refills → rs ++ back ∷ [] ≡ given_back max_refills back rs
  appends f g l = grind (arith, nat_tests, by_cases max_refills back ts x, last_end-last ts x)

  pub moves : n ≡ length rs → x.begins + x.amount ≢ back.begins → max_refills ≤ n →
      ts ++ record { begins = back.begins - x.amount; amount = x.amount + back.amount } ∷ [] ≡ given_back max_refills back rs
  moves f g l =
      grind (arith, nat_tests, by_cases max_refills back ts x, last_end-last ts x, moved-last back.begins ts x, grown-last back.amount ts (record { begins = back.begins - x.amount; amount = x.amount }))
