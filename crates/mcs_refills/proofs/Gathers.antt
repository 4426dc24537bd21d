-- The head joins those after it, a step at a time: enough at the head, and unblocking.
use Rattle.std.proofs.Common.{◌≡◌, ℕ, ◌+◌, ◌≤◌, List, [], ◌∷◌, drop, refl, arith}
use Rattle.std.specs.Prelude.{Some, slice_get}
use Rattle.std.proofs.lemmas.Bool.{le-ltb}
use Rattle.mcs_refills.specs.declared.refill.Refill.{Refill}
use Rattle.mcs_refills.specs.laws.Apart.{AreApart, last_end}
use Rattle.mcs_refills.specs.stored.Refills.{with_reached, after_unblock}
use Rattle.mcs_refills.proofs.Dates.{IsBefore-end, last_end-head}

pub last_end-first : (r : Refill) (rs : List Refill) → AreApart (r ∷ rs) → r.begins + r.amount ≤ last_end (r ∷ rs)
last_end-first r [] a = omega arith
last_end-first r (s ∷ rs) a = omega (arith, a.1, last_end-first s rs a.2)

-- the refill after the head
pub next-bounds : (h x : Refill) (rs rest : List Refill) → rs ≡ x ∷ rest → AreApart (h ∷ rs) → (h.amount ≤ x.begins) × (x.begins + x.amount ≤ last_end (h ∷ rs))
next-bounds h x rs rest e a = let b = rw e at a in rw e (omega (arith, b.1), last_end-first x rest b.2)

-- the others follow the head
pub first-is : (rs : List Refill) (x : Refill) → slice_get rs 0 ≡ Some x → rs ≡ x ∷ drop 1 rs
first-is [] x e = cc
first-is (r ∷ rs) x e = cc

pub second-is : (rs : List Refill) (x : Refill) → Some x ≡ slice_get rs 1 → drop 1 rs ≡ x ∷ drop 2 rs
second-is [] x e = cc
second-is (r ∷ []) x e = cc
second-is (r ∷ s ∷ rs) x e = cc

-- a head whose moment has come
pub begun-apart : (r : Refill) (rs : List Refill) → AreApart (r ∷ rs) → AreApart (record { begins = 0; amount = r.amount } ∷ rs)
begun-apart r rs a = (a.0, IsBefore-end r (record { begins = 0; amount = r.amount }) rs (omega arith) a.1, a.2)

pub begun-end : (r : Refill) (rs : List Refill) → last_end (record { begins = 0; amount = r.amount } ∷ rs) ≤ last_end (r ∷ rs)
begun-end r rs = last_end-head r (record { begins = 0; amount = r.amount }) rs (omega arith)

pub begun-reaches : (t : ℕ) (r : Refill) (rs : List Refill) → r.begins ≤ t → with_reached t r.amount rs ≡ after_unblock t (r ∷ rs)
begun-reaches t r rs h = rw (le-ltb t r.begins h) refl
