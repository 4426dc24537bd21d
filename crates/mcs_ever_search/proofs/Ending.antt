-- The first moment before which all orders come.
use Rattle.std.proofs.Common.{ℕ, ◌+◌, ◌<◌, ◌≤◌, max, List, [], ◌∷◌, ◌++◌, arith}
use Rattle.std.specs.List.{AllByRecursion}
use Rattle.mcs_control.specs.declared.config.Order.{Order}

abbrev AreBefore : ℕ → List Order → Type 0
AreBefore moment orders = AllByRecursion (λ (order : Order). order.moment < moment) orders

pub record IsEnd (orders : List Order) (end : ℕ) : Type 0 where
  pub all : AllByRecursion (λ (order : Order). order.moment < end) orders
  pub first : (moment : ℕ) → AllByRecursion (λ (order : Order). order.moment < moment) orders → end ≤ moment

-- orders that come before a moment come before each later one
pub orders-later : (orders : List Order) (m n : ℕ) → m ≤ n → AllByRecursion (λ (order : Order). order.moment < m) orders →
    AllByRecursion (λ (order : Order). order.moment < n) orders
orders-later [] m n l all = tt
orders-later (order ∷ orders) m n l all = (omega (arith, l, all.0), orders-later orders m n l all.1)

orders-more : (orders : List Order) (order : Order) (m : ℕ) → AreBefore m orders → order.moment < m → AreBefore m (orders ++ order ∷ [])
orders-more [] order m all l = (l, tt)
orders-more (x ∷ orders) order m all l = (all.0, orders-more orders order m all.1 l)

orders-front : (orders : List Order) (order : Order) (m : ℕ) → AreBefore m (orders ++ order ∷ []) → AreBefore m orders
orders-front [] order m all = tt
orders-front (x ∷ orders) order m all = (all.0, orders-front orders order m all.1)

orders-last : (orders : List Order) (order : Order) (m : ℕ) → AreBefore m (orders ++ order ∷ []) → order.moment < m
orders-last [] order m all = all.0
orders-last (x ∷ orders) order m all = orders-last orders order m all.1

pub end-none : IsEnd [] 0
end-none = record { all = tt; first = λ moment all. omega arith }

pub end-more : (orders : List Order) (order : Order) (end : ℕ) → IsEnd orders end → IsEnd (orders ++ order ∷ []) (max end (order.moment + 1))
end-more orders order end is =
    record {
      all = orders-more orders order (max end (order.moment + 1)) (orders-later orders end (max end (order.moment + 1)) (omega arith) is.all) (omega arith);
      first = λ moment all.
          let past = orders-last orders order moment all in
          let before = is.first moment (orders-front orders order moment all) in
          omega (arith, past, before);
    }
