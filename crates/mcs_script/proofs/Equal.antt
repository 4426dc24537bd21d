-- `==` of scripts is true if and only if they have the same items.
use Rattle.std.proofs.Common.{◌≡◌, ℕ, Bool, true, false, ◌&&◌, eqb, List, refl, ap, arith}
use Rattle.std.specs.Bool.{Decides}
use Rattle.std.specs.Cmp.Lexicographic.{pointwise, pointwise_decides}
use Rattle.std.proofs.lemmas.Bool.Decides.{nat_tests}
use Rattle.mcs_script.specs.declared.item.Item.{Item}
use Rattle.mcs_script.specs.declared.item.Item.TheVariants.{Compute, Signal, Wait, Yield, On, Spin, Enter, Leave}
use Rattle.mcs_script.specs.contracts.item.ItemPartialEq.TheImpl as items

same : (a b : ℕ) → eqb a b ≡ true → a ≡ b
same a b e = grind (arith, nat_tests)

alike : (a b : ℕ) → a ≡ b → eqb a b ≡ true
alike a b e = grind (arith, nat_tests)

both : (p q : Bool) → (p && q) ≡ true → (p ≡ true) × (q ≡ true)
both true true e = (refl, refl)
both true false e = cc
both false q e = cc

same_signal : (a d b e : ℕ) → a ≡ d → b ≡ e → Signal a b ≡ Signal d e
same_signal a d b e p q = cc

same_enter : (a d b e : ℕ) → a ≡ d → b ≡ e → Enter a b ≡ Enter d e
same_enter a d b e p q = cc

same_leave : (a d b e : ℕ) → a ≡ d → b ≡ e → Leave a b ≡ Leave d e
same_leave a d b e p q = cc

item_decides : (x y : Item) → Decides (items.eq-value.it x y) (x ≡ y)
item_decides (Compute a) (Compute d) = (λ h. ap Compute (same a d h), λ h. let p : a ≡ d = cc in alike a d p)
item_decides (Compute a) (Signal d e) = (λ h. cc, λ h. cc)
item_decides (Compute a) (Wait d) = (λ h. cc, λ h. cc)
item_decides (Compute a) Yield = (λ h. cc, λ h. cc)
item_decides (Compute a) (On d) = (λ h. cc, λ h. cc)
item_decides (Compute a) Spin = (λ h. cc, λ h. cc)
item_decides (Compute a) (Enter d e) = (λ h. cc, λ h. cc)
item_decides (Compute a) (Leave d e) = (λ h. cc, λ h. cc)
item_decides (Signal a b) (Compute d) = (λ h. cc, λ h. cc)
item_decides (Signal a b) (Signal d e) = (λ h. same_signal a d b e (same a d (both (eqb a d) (eqb b e) h).0) (same b e (both (eqb a d) (eqb b e) h).1), λ h. let p : a ≡ d = cc in let q : b ≡ e = cc in rw (alike a d p, alike b e q) refl)
item_decides (Signal a b) (Wait d) = (λ h. cc, λ h. cc)
item_decides (Signal a b) Yield = (λ h. cc, λ h. cc)
item_decides (Signal a b) (On d) = (λ h. cc, λ h. cc)
item_decides (Signal a b) Spin = (λ h. cc, λ h. cc)
item_decides (Signal a b) (Enter d e) = (λ h. cc, λ h. cc)
item_decides (Signal a b) (Leave d e) = (λ h. cc, λ h. cc)
item_decides (Wait a) (Compute d) = (λ h. cc, λ h. cc)
item_decides (Wait a) (Signal d e) = (λ h. cc, λ h. cc)
item_decides (Wait a) (Wait d) = (λ h. ap Wait (same a d h), λ h. let p : a ≡ d = cc in alike a d p)
item_decides (Wait a) Yield = (λ h. cc, λ h. cc)
item_decides (Wait a) (On d) = (λ h. cc, λ h. cc)
item_decides (Wait a) Spin = (λ h. cc, λ h. cc)
item_decides (Wait a) (Enter d e) = (λ h. cc, λ h. cc)
item_decides (Wait a) (Leave d e) = (λ h. cc, λ h. cc)
item_decides Yield (Compute d) = (λ h. cc, λ h. cc)
item_decides Yield (Signal d e) = (λ h. cc, λ h. cc)
item_decides Yield (Wait d) = (λ h. cc, λ h. cc)
item_decides Yield Yield = (λ h. refl, λ h. refl)
item_decides Yield (On d) = (λ h. cc, λ h. cc)
item_decides Yield Spin = (λ h. cc, λ h. cc)
item_decides Yield (Enter d e) = (λ h. cc, λ h. cc)
item_decides Yield (Leave d e) = (λ h. cc, λ h. cc)
item_decides (On a) (Compute d) = (λ h. cc, λ h. cc)
item_decides (On a) (Signal d e) = (λ h. cc, λ h. cc)
item_decides (On a) (Wait d) = (λ h. cc, λ h. cc)
item_decides (On a) Yield = (λ h. cc, λ h. cc)
item_decides (On a) (On d) = (λ h. ap On (same a d h), λ h. let p : a ≡ d = cc in alike a d p)
item_decides (On a) Spin = (λ h. cc, λ h. cc)
item_decides (On a) (Enter d e) = (λ h. cc, λ h. cc)
item_decides (On a) (Leave d e) = (λ h. cc, λ h. cc)
item_decides Spin (Compute d) = (λ h. cc, λ h. cc)
item_decides Spin (Signal d e) = (λ h. cc, λ h. cc)
item_decides Spin (Wait d) = (λ h. cc, λ h. cc)
item_decides Spin Yield = (λ h. cc, λ h. cc)
item_decides Spin (On d) = (λ h. cc, λ h. cc)
item_decides Spin Spin = (λ h. refl, λ h. refl)
item_decides Spin (Enter d e) = (λ h. cc, λ h. cc)
item_decides Spin (Leave d e) = (λ h. cc, λ h. cc)
item_decides (Enter a b) (Compute d) = (λ h. cc, λ h. cc)
item_decides (Enter a b) (Signal d e) = (λ h. cc, λ h. cc)
item_decides (Enter a b) (Wait d) = (λ h. cc, λ h. cc)
item_decides (Enter a b) Yield = (λ h. cc, λ h. cc)
item_decides (Enter a b) (On d) = (λ h. cc, λ h. cc)
item_decides (Enter a b) Spin = (λ h. cc, λ h. cc)
item_decides (Enter a b) (Enter d e) = (λ h. same_enter a d b e (same a d (both (eqb a d) (eqb b e) h).0) (same b e (both (eqb a d) (eqb b e) h).1), λ h. let p : a ≡ d = cc in let q : b ≡ e = cc in rw (alike a d p, alike b e q) refl)
item_decides (Enter a b) (Leave d e) = (λ h. cc, λ h. cc)
item_decides (Leave a b) (Compute d) = (λ h. cc, λ h. cc)
item_decides (Leave a b) (Signal d e) = (λ h. cc, λ h. cc)
item_decides (Leave a b) (Wait d) = (λ h. cc, λ h. cc)
item_decides (Leave a b) Yield = (λ h. cc, λ h. cc)
item_decides (Leave a b) (On d) = (λ h. cc, λ h. cc)
item_decides (Leave a b) Spin = (λ h. cc, λ h. cc)
item_decides (Leave a b) (Enter d e) = (λ h. cc, λ h. cc)
item_decides (Leave a b) (Leave d e) = (λ h. same_leave a d b e (same a d (both (eqb a d) (eqb b e) h).0) (same b e (both (eqb a d) (eqb b e) h).1), λ h. let p : a ≡ d = cc in let q : b ≡ e = cc in rw (alike a d p, alike b e q) refl)

pub script_decides : (xs ys : List Item) → Decides (pointwise items.eq-value.it xs ys) (xs ≡ ys)
script_decides = pointwise_decides item_decides
