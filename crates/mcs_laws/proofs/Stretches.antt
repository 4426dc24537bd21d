-- Changes of a context by the turns of some moments, without an order for it.
use Rattle.std.proofs.Common.{◌≡◌, ◌≢◌, ℕ, zero, suc, ◌+◌, ◌<◌, ◌≤◌, Bool, true, false, cond, List, [], ◌∷◌, ◌++◌, length, refl, sym, ap, ◌∙◌, arith}
use Rattle.std.specs.Prelude.{filter, ◌==◌, ◌&&◌, nat_le, nat_lt}
use Rattle.std.specs.List.{AllByRecursion}
use Rattle.std.proofs.lemmas.Bool.Decides.{nat_tests}
use Rattle.mcs_control.specs.declared.config.Order.{Order}
use Rattle.mcs_control.specs.Context.{Context}
use Rattle.mcs_system.specs.System.{System, context_part}
use Rattle.mcs_system.specs.WellFormed.{IsWellFormed}
use Rattle.mcs_laws.specs.Changes.{Change, charges_of, orders_of, changed_by, AreSound}
use Rattle.mcs_laws.specs.Histories as told
use Rattle.mcs_laws.specs.InForce.{last_config, FilesStayInForce}
use Rattle.mcs_laws.specs.Slices.{charges_from}
use Rattle.mcs_laws.proofs.Ranges.{by_recursion, flat_map-range-more}
use Rattle.mcs_laws.proofs.Kept.{changed_by-append, sound-append}
use Rattle.mcs_laws.proofs.Traces.{carry, charges_of-append, orders_of-append}
use Rattle.mcs_laws.proofs.Histories.{histories}
use Rattle.mcs_laws.proofs.InForce.{is_now, obeyed-now, config-changed, in-force}

no_order : (order : Order) (orders : List Order) → order ∷ orders ≡ [] → ⊥
no_order order orders e = cc

-- if no item passes a test, no item passes a stricter one
none_passes : (p q : Order → Bool) (os : List Order) → ((o : Order) → q o ≡ true → p o ≡ true) → filter p os ≡ [] → filter q os ≡ []
none_passes p q [] h e = refl
none_passes p q (o ∷ os) h e = by (p o) (q o) refl refl e (none_passes p q os h)
  where
    by : (a b : Bool) → p o ≡ a → q o ≡ b → cond a (o ∷ filter p os) (filter p os) ≡ [] → (filter p os ≡ [] → filter q os ≡ []) → cond b (o ∷ filter q os) (filter q os) ≡ []
    by true b f g e rest = absurd (no_order o (filter p os) e)
    by false false f g e rest = rest e
    by false true f g e rest = let bad : true ≡ false = sym (h o g) ∙ f in absurd (cc)

module _ (system : System) (x from n : ℕ) (unordered : told.IsUnordered system x from n) where
  abbrev is_within : Order → Bool
  is_within order = told.is_order_for x order && (nat_le from order.moment && nat_lt order.moment (from + n))

  now-within : (t : ℕ) → from ≤ t → t < from + n → (a : Bool) (m : ℕ) → (a && (m == t)) ≡ true → (a && (nat_le from m && nat_lt m (from + n))) ≡ true
  now-within t l k false m e = e
  now-within t l k true m e =
      let is : m ≡ t = grind (arith, nat_tests) in
      let low : nat_le from m ≡ true = grind (arith, nat_tests) in
      let high : nat_lt m (from + n) ≡ true = grind (arith, nat_tests) in
      rw (low, high) refl

  -- no order for the context at any of the moments
  pub none-at : (t : ℕ) → from ≤ t → t < from + n → told.orders_at system x t ≡ []
  none-at t l k =
      obeyed-now system x t system.orders
      ∙ none_passes is_within (is_now system x t) system.orders (λ o e. now-within t l k (told.is_order_for x o) o.moment e) unordered

module _ (system : System) (x : ℕ) (history : told.History system x) where
  abbrev changes : ℕ → ℕ → List Change
  changes from n = told.changes_from system x history from n

  abbrev before : ℕ → Context
  before t = told.context_before system x t

  pub changes-next : (from n : ℕ) → changes from (suc n) ≡ changes from n ++ history.changes (from + n)
  changes-next from n = flat_map-range-more history.changes n from

  pub after-all : (from n : ℕ) → before (from + n) ≡ changed_by system.min_budget (changes from n) (before from)
  after-all from zero = ap before (omega arith)
  after-all from (suc n) =
      let e : from + suc n ≡ suc (from + n) = omega arith in
      ap before e ∙ history.after (from + n) ∙ ap (changed_by system.min_budget (history.changes (from + n))) (after-all from n)
      ∙ sym (changed_by-append system.min_budget (changes from n) (history.changes (from + n)) (before from))
      ∙ ap (λ cs. changed_by system.min_budget cs (before from)) (sym (changes-next from n))

  pub sound-all : (from n : ℕ) → AreSound system.min_budget (changes from n) (before from)
  sound-all from zero = tt
  sound-all from (suc n) =
      rw (changes-next from n)
      (sound-append system.min_budget (changes from n) (history.changes (from + n)) (before from) (sound-all from n)
      (carry (AreSound system.min_budget (history.changes (from + n))) (before (from + n)) (changed_by system.min_budget (changes from n) (before from)) (after-all from n) (history.sound (from + n))))

  pub orders-none : (from n : ℕ) → ((t : ℕ) → from ≤ t → t < from + n → told.orders_at system x t ≡ []) → orders_of (changes from n) ≡ []
  orders-none from zero h = refl
  orders-none from (suc n) h =
      ap orders_of (changes-next from n) ∙ orders_of-append (changes from n) (history.changes (from + n))
      ∙ none _ _ (orders-none from n (λ t l k. h t l (omega (arith, k)))) (sym (history.orders (from + n)) ∙ h (from + n) (omega arith) (omega arith))
    where
      none : (os us : List Order) → os ≡ [] → us ≡ [] → os ++ us ≡ []
      none os us e f = rw (e, f) refl

  -- no order is among the changes of moments in which none comes
  pub orders-of-all : (from n : ℕ) → told.IsUnordered system x from n → orders_of (changes from n) ≡ []
  orders-of-all from n unordered = orders-none from n (none-at system x from n unordered)

  pub charges-of-all : (from n : ℕ) → charges_from system x from n ≡ charges_of (changes from n)
  charges-of-all from zero = refl
  charges-of-all from (suc n) =
      flat_map-range-more (told.charges_at system x) n from ∙ both _ _ _ _ (charges-of-all from n) (history.charges (from + n))
      ∙ sym (charges_of-append (changes from n) (history.changes (from + n))) ∙ ap charges_of (sym (changes-next from n))
    where
      both : (xs ys zs ws : List ℕ) → xs ≡ ys → zs ≡ ws → xs ++ zs ≡ ys ++ ws
      both xs ys zs ws p q = cc

-- a context that no order of the file names is unordered at all moments
module _ (system : System) (x from n : ℕ) where
  abbrev is_there : Order → Bool
  is_there order = told.is_order_for x order && (nat_le from order.moment && nat_lt order.moment (from + n))

  none-there : (os : List Order) → AllByRecursion (λ (order : Order). order.context ≢ x) os → filter is_there os ≡ []
  none-there [] h = refl
  none-there (o ∷ os) h = rw (differs o.context x h.0) (none-there os h.1)
    where
      differs : (a b : ℕ) → a ≢ b → (a == b) ≡ false
      differs a b e = grind (arith, nat_tests)

  pub never-unordered : told.IsNeverReconfigured system x → told.IsUnordered system x from n
  never-unordered never = none-there system.orders (by_recursion (λ (order : Order). order.context ≢ x) system.orders never)

-- and keeps the configuration of the file
pub file-in-force : (system : System) (well : IsWellFormed system) (x t : ℕ) → x < length system.contexts → told.IsNeverReconfigured system x →
    (told.context_before system x t).config ≡ (context_part system x).config
file-in-force system well x t known never =
    let past = histories system well x known in
    ap (λ n. (told.context_before system x n).config) (let e : t ≡ 0 + t = omega arith in e)
    ∙ ap (λ (k : Context). k.config) (after-all system x past 0 t)
    ∙ config-changed system.min_budget (changes system x past 0 t) (told.context_before system x 0)
    ∙ ap (last_config (told.context_before system x 0).config) (orders-of-all system x past 0 t (never-unordered system x 0 t never))
    ∙ ap (λ (k : Context). k.config) past.opening

pub files-in-force : (system : System) → IsWellFormed system → FilesStayInForce system
files-in-force system well x from moments known never =
    (never-unordered system x from moments never, sym (in-force system well x known from) ∙ file-in-force system well x from known never)
