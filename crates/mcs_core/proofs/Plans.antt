-- The orders of a core by moment, and those that are left.
use Rattle.std.proofs.Common.{◌≡◌, ℕ, suc, ◌+◌, ◌<◌, ◌≤◌, Bool, true, false, cond, ◌⊎◌, inl, inr, List, [], ◌∷◌, ◌++◌, length, get_or, append-nil, append_assoc, refl, sym, ap, ◌∙◌, arith}
use Rattle.std.specs.Prelude.{nat_lt, nat_le, ◌==◌, ◌&&◌, not, filter, fold, All}
use Rattle.std.specs.Ordering.{is_lt, nat_cmp}
use Rattle.std.specs.List.{AllByRecursion}
use Rattle.std.specs.List.Sorted.{IsNonDecreasingBy, IsStableByKey}
use Rattle.std.proofs.lemmas.Bool.Decides.{nat_tests}
use Rattle.mcs_control.specs.declared.config.Order.{Order}
use Rattle.mcs_system.specs.System.{System}
use Rattle.mcs_core.specs.Turn.{is_for_now}
use Rattle.mcs_core.specs.Orders.{with_order, by_moment, is_for_core, orders_of, to_come, due_now, AreByMoment, IsPlanned, ArePlanned}
use Rattle.mcs_system.specs.WellFormed.{IsWellFormed, IsOrder}
use Rattle.mcs_core.proofs.Counts.{either}

-- orders that are all at u or later are all at an earlier moment or later
pub from-earlier : (t u : ℕ) (os : List Order) → t ≤ u → AreByMoment u os → AreByMoment t os
from-earlier t u [] l h = tt
from-earlier t u (o ∷ os) l h = (omega (arith, h.0), h.1)

-- one more order
with_order-by_moment : (t : ℕ) (os : List Order) (order : Order) → t ≤ order.moment → AreByMoment t os → AreByMoment t (with_order os order)
with_order-by_moment t [] order l h = (l, tt)
with_order-by_moment t (o ∷ os) order l h = by (nat_lt order.moment o.moment) refl (λ after. with_order-by_moment o.moment os order after h.1)
  where
    by : (b : Bool) → nat_lt order.moment o.moment ≡ b → (o.moment ≤ order.moment → AreByMoment o.moment (with_order os order)) → AreByMoment t (cond b (order ∷ o ∷ os) (o ∷ with_order os order))
    by true e i =
        let before : order.moment < o.moment = grind (arith, nat_tests) in
        (l, (omega arith, h.1))
    by false e i = (h.0, i (grind (arith, nat_tests)))

fold-by_moment : (os xs : List Order) → AreByMoment 0 os → AreByMoment 0 (fold with_order os xs)
fold-by_moment os [] h = h
fold-by_moment os (x ∷ xs) h = fold-by_moment (with_order os x) xs (with_order-by_moment 0 os x (omega arith) h)

-- the orders of a core are by moment
pub orders_of-by_moment : (system : System) (c : ℕ) → AreByMoment 0 (orders_of system c)
orders_of-by_moment system c = fold-by_moment [] (filter (is_for_core system c) system.orders) tt

-- those that are to come are by moment too, from then on
to_come-from : (s t : ℕ) (os : List Order) → AreByMoment s os → AreByMoment s (to_come t os)
to_come-from s t [] h = tt
to_come-from s t (o ∷ os) h =
    let i = to_come-from o.moment t os h.1 in
    either (AreByMoment s) (nat_le t o.moment) (o ∷ to_come t os) (to_come t os) (h.0, i) (from-earlier s o.moment (to_come t os) h.0 i)

pub to_come-by_moment : (s t : ℕ) (os : List Order) → AreByMoment s os → AreByMoment t (to_come t os)
to_come-by_moment s t [] h = tt
to_come-by_moment s t (o ∷ os) h = by (nat_le t o.moment) refl (to_come-from o.moment t os h.1) (to_come-by_moment o.moment t os h.1)
  where
    by : (b : Bool) → nat_le t o.moment ≡ b → AreByMoment o.moment (to_come t os) → AreByMoment t (to_come t os) → AreByMoment t (cond b (o ∷ to_come t os) (to_come t os))
    by true e i j = (grind (arith, nat_tests), i)
    by false e i j = j

-- what holds of each order holds of each in another order, and of each that is left
module _ (P : Order → Type 0) where
  all-filter : (test : Order → Bool) (os : List Order) → AllByRecursion P os → AllByRecursion P (filter test os)
  all-filter test [] h = tt
  all-filter test (o ∷ os) h = let i = all-filter test os h.1 in either (AllByRecursion P) (test o) (o ∷ filter test os) (filter test os) (h.0, i) i

  all-with_order : (os : List Order) (order : Order) → P order → AllByRecursion P os → AllByRecursion P (with_order os order)
  all-with_order [] order p h = (p, tt)
  all-with_order (o ∷ os) order p h = either (AllByRecursion P) (nat_lt order.moment o.moment) (order ∷ o ∷ os) (o ∷ with_order os order) (p, h) (h.0, all-with_order os order p h.1)

  all-fold : (os xs : List Order) → AllByRecursion P os → AllByRecursion P xs → AllByRecursion P (fold with_order os xs)
  all-fold os [] h g = h
  all-fold os (x ∷ xs) h g = all-fold (with_order os x) xs (all-with_order os x g.0 h) g.1

-- the orders of a core are planned
pub orders_of-planned : (system : System) (c : ℕ) → IsWellFormed system → ArePlanned system c (orders_of system c)
orders_of-planned system c w = all-fold (IsPlanned system c) [] (filter (is_for_core system c) system.orders) tt (each system.orders w.orders)
  where
    each : (os : List Order) → All (IsOrder system) os → AllByRecursion (IsPlanned system c) (filter (is_for_core system c) os)
    each [] h = tt
    each (order ∷ os) h = by (is_for_core system c order) refl (each os (λ k d l. h (suc k) d (omega arith)))
      where
        by : (b : Bool) → is_for_core system c order ≡ b → AllByRecursion (IsPlanned system c) (filter (is_for_core system c) os) →
            AllByRecursion (IsPlanned system c) (cond b (order ∷ filter (is_for_core system c) os) (filter (is_for_core system c) os))
        by true e i =
            let o : IsOrder system order = h 0 order (omega arith) in
            (record { accepted = o.accepted; same_kind = o.same_kind; known = o.context; home = e }, i)
        by false e i = i

-- those that are to come are planned too
pub to_come-planned : (system : System) (c t : ℕ) (os : List Order) → ArePlanned system c os → ArePlanned system c (to_come t os)
to_come-planned system c t os h = all-filter (IsPlanned system c) (λ order. nat_le t order.moment) os h

-- those that are left a moment later
pub to_come-next : (t : ℕ) (os : List Order) → to_come (t + 1) (to_come t os) ≡ to_come (t + 1) os
to_come-next t [] = refl
to_come-next t (o ∷ os) = grind (arith, nat_tests, to_come-next t os)

-- and at the start
pub to_come-all : (os : List Order) → to_come 0 os ≡ os
to_come-all [] = refl
to_come-all (o ∷ os) = grind (arith, nat_tests, to_come-all os)

-- the orders of the moment are among those that are to come
pub due-to_come : (t : ℕ) (os : List Order) → due_now t (to_come t os) ≡ due_now t os
due-to_come t [] = refl
due-to_come t (o ∷ os) = grind (arith, nat_tests, due-to_come t os)

-- if all are later there is no such item
pub due-none : (t s : ℕ) (os : List Order) → t < s → AreByMoment s os → due_now t os ≡ []
due-none t s [] l h = refl
due-none t s (o ∷ os) l h = grind (arith, nat_tests, h.0, due-none t o.moment os (omega (arith, h.0)) h.1)

-- one more order goes behind those of its moment
due-with_order : (t s : ℕ) (os : List Order) (order : Order) → AreByMoment s os → due_now t (with_order os order) ≡ due_now t os ++ due_now t (order ∷ [])
due-with_order t s [] order h = refl
due-with_order t s (o ∷ os) order h = by (nat_lt order.moment o.moment) refl (due-with_order t o.moment os order h.1)
  where
    by : (b : Bool) → nat_lt order.moment o.moment ≡ b → due_now t (with_order os order) ≡ due_now t os ++ due_now t (order ∷ []) →
        due_now t (cond b (order ∷ o ∷ os) (o ∷ with_order os order)) ≡ due_now t (o ∷ os) ++ due_now t (order ∷ [])
    by true e i = grind (arith, nat_tests, append-nil (due_now t (o ∷ os)), due-none t o.moment (o ∷ os))
    by false e i = grind (arith, i)

due-one : (t : ℕ) (x : Order) (xs : List Order) → due_now t (x ∷ []) ++ due_now t xs ≡ due_now t (x ∷ xs)
due-one t x xs = grind arith

due-fold : (t : ℕ) (os xs : List Order) → AreByMoment 0 os → due_now t (fold with_order os xs) ≡ due_now t os ++ due_now t xs
due-fold t os [] h = sym (append-nil (due_now t os))
due-fold t os (x ∷ xs) h =
    due-fold t (with_order os x) xs (with_order-by_moment 0 os x (omega arith) h)
    ∙ ap (λ ys. ys ++ due_now t xs) (due-with_order t 0 os x h)
    ∙ append_assoc (due_now t os) (due_now t (x ∷ [])) (due_now t xs)
    ∙ ap (λ ys. due_now t os ++ ys) (due-one t x xs)

-- those of the moment for a core, in file order
due-filter : (system : System) (c t : ℕ) (os : List Order) → due_now t (filter (is_for_core system c) os) ≡ filter (is_for_now system c t) os
due-filter system c t [] = refl
due-filter system c t (o ∷ os) = grind (arith, due-filter system c t os)

-- the orders that are due are those of the moment for the core, in file order
pub due-of : (system : System) (c t : ℕ) → due_now t (to_come t (orders_of system c)) ≡ filter (is_for_now system c t) system.orders
due-of system c t =
    due-to_come t (orders_of system c)
    ∙ due-fold t [] (filter (is_for_core system c) system.orders) tt
    ∙ due-filter system c t system.orders

-- orders by moment are known by those of each moment
at-head : (o : Order) (os : List Order) → due_now o.moment (o ∷ os) ≡ o ∷ due_now o.moment os
at-head o os = let same : (o.moment == o.moment) ≡ true = grind (arith, nat_tests) in rw same refl

same-orders : (s t : ℕ) (xs ys : List Order) → AreByMoment s xs → AreByMoment t ys → ((o : Order) → due_now o.moment xs ≡ due_now o.moment ys) → xs ≡ ys
same-orders s t [] [] h g f = refl
same-orders s t [] (y ∷ ys) h g f = let no : [] ≡ y ∷ due_now y.moment ys = f y ∙ at-head y ys in cc
same-orders s t (x ∷ xs) [] h g f = let no : x ∷ due_now x.moment xs ≡ [] = sym (at-head x xs) ∙ f x in cc
same-orders s t (x ∷ xs) (y ∷ ys) h g f = by (least x.moment y.moment) (λ e. same-orders x.moment y.moment xs ys h.1 g.1 (tails e))
  where
    least : (a b : ℕ) → (a < b) ⊎ ((b < a) ⊎ (a ≡ b))
    least a b = grind arith

    tails : x ≡ y → (o : Order) → due_now o.moment xs ≡ due_now o.moment ys
    tails e o = drop_one (x.moment == o.moment) (f o ∙ ap (λ (z : Order). due_now o.moment (z ∷ ys)) (sym e))
      where
        drop_one : (b : Bool) → cond b (x ∷ due_now o.moment xs) (due_now o.moment xs) ≡ cond b (x ∷ due_now o.moment ys) (due_now o.moment ys) →
            due_now o.moment xs ≡ due_now o.moment ys
        drop_one b i = grind arith

    by : (x.moment < y.moment) ⊎ ((y.moment < x.moment) ⊎ (x.moment ≡ y.moment)) → (x ≡ y → xs ≡ ys) → x ∷ xs ≡ y ∷ ys
    by (inl l) i =
        let no : x ∷ due_now x.moment xs ≡ [] = sym (at-head x xs) ∙ f x ∙ due-none x.moment y.moment (y ∷ ys) l (omega arith, g.1) in
        cc
    by (inr (inl l)) i =
        let no : [] ≡ y ∷ due_now y.moment ys = sym (due-none y.moment x.moment (x ∷ xs) l (omega arith, h.1)) ∙ f y ∙ at-head y ys in
        cc
    by (inr (inr e)) i =
        let heads : x ∷ due_now x.moment xs ≡ y ∷ due_now y.moment ys =
        sym (at-head x xs) ∙ f x ∙ ap (λ m. due_now m (y ∷ ys)) e ∙ at-head y ys in
        let head : x ≡ y = cc in
        let rest : xs ≡ ys = i head in
        cc

-- orders whose moments do not fall are by moment
not_falling : (t : ℕ) (os : List Order) → ((d : Order) → 0 < length os → t ≤ (get_or os 0 d).moment) → IsNonDecreasingBy (λ (o : Order). o.moment) os → AreByMoment t os
not_falling t [] l h = tt
not_falling t (o ∷ os) l h =
    (l o (omega arith), not_falling o.moment os (λ d q. h 0 1 d (omega arith) (omega arith)) (λ i j d p q. h (suc i) (suc j) d (omega arith) (omega arith)))

-- those that tie by their moments are those of one moment
moments-tie : (a b : ℕ) → (not (is_lt (nat_cmp a b)) && not (is_lt (nat_cmp b a))) ≡ (b == a)
moments-tie a b = grind (arith, nat_tests)

ties-due : (o : Order) (os : List Order) → filter (λ (x : Order). not (is_lt (nat_cmp o.moment x.moment)) && not (is_lt (nat_cmp x.moment o.moment))) os ≡ due_now o.moment os
ties-due o [] = refl
ties-due o (x ∷ os) = rw (moments-tie o.moment x.moment, ties-due o os) refl

-- a stable sort by moment
pub stably-sorted : (xs ys : List Order) → IsNonDecreasingBy (λ (o : Order). o.moment) ys → IsStableByKey (λ (o : Order). o.moment) nat_cmp xs ys → ys ≡ by_moment xs
stably-sorted xs ys up stable =
    same-orders 0 0 ys (by_moment xs) (not_falling 0 ys (λ d q. omega arith) up) (fold-by_moment [] xs tt)
    (λ o. sym (ties-due o ys) ∙ stable o ∙ ties-due o xs ∙ sym (due-fold o.moment [] xs tt))
