-- At each moment a context has the configuration in force, and is in good order with it.
use Rattle.std.proofs.Common.{◌≡◌, ℕ, zero, suc, ◌<◌, ◌≤◌, Bool, true, false, cond, List, [], ◌∷◌, ◌++◌, length, refl, sym, ap, subst, ◌∙◌, append_assoc, append-nil, arith}
use Rattle.std.specs.Prelude.{filter, fold, ◌==◌, ◌&&◌, nat_lt, Result, Ok, Err, IsOk}
use Rattle.std.specs.List.{AllByRecursion}
use Rattle.std.proofs.lemmas.Bool.Decides.{nat_tests}
use Rattle.mcs_control.specs.declared.config.Config.{Config}
use Rattle.mcs_control.specs.declared.config.ControlFault.{ControlFault}
use Rattle.mcs_control.specs.declared.config.Kind.{Kind}
use Rattle.mcs_control.specs.declared.config.Order.{Order}
use Rattle.mcs_control.specs.Control.{checked, kind_of, IsConfig}
use Rattle.mcs_control.specs.Context.{Context, woken_by, chosen_by}
use Rattle.mcs_control.specs.declared.config.Mode.{Mode}
use Rattle.mcs_control.specs.declared.config.Mode.TheVariants as modes
use Rattle.mcs_control.specs.laws.Contexts.{IsContext}
use Rattle.mcs_control.proofs.Configs.{passed-configs}
use Rattle.mcs_control.proofs.Contexts.{contexts-kept}
use Rattle.mcs_system.specs.System.{System, context_part, no_context}
use Rattle.mcs_system.specs.WellFormed.{IsWellFormed, IsOrder}
use Rattle.mcs_core.specs.Orders.{with_order}
use Rattle.mcs_core.specs.Turn.{is_for_now}
use Rattle.mcs_laws.specs.Changes.{Change, orders_of, changed, changed_by, AreSound}
use Rattle.mcs_laws.specs.Changes.Change.{Charged, Woken, Picked, Ordered}
use Rattle.mcs_laws.specs.Histories as told
use Rattle.mcs_laws.specs.InForce.{last_config, orders_before, config_in_force, HasTheBudgetInForce, ContextsHaveTheBudgetInForce}
use Rattle.mcs_laws.proofs.Ranges.{by_recursion}
use Rattle.mcs_laws.proofs.Histories.{histories}

-- an order of a moment enters behind those before it, and one before the moment enters before those of it
all_both : (P : Order → Type 0) (xs ys : List Order) → AllByRecursion P xs → AllByRecursion P ys → AllByRecursion P (xs ++ ys)
all_both P [] ys h k = k
all_both P (x ∷ xs) ys h k = (h.0, all_both P xs ys h.1 k)

all_weaker : (P Q : Order → Type 0) → ((order : Order) → P order → Q order) → (xs : List Order) → AllByRecursion P xs → AllByRecursion Q xs
all_weaker P Q f [] h = tt
all_weaker P Q f (x ∷ xs) h = (f x h.0, all_weaker P Q f xs h.1)

module _ (t : ℕ) where
  abbrev IsEarly : Order → Type 0
  IsEarly order = order.moment ≤ t

  abbrev IsNow : Order → Type 0
  IsNow order = order.moment ≡ t

  early-entered : (xs : List Order) (order : Order) → IsEarly order → AllByRecursion IsEarly xs → AllByRecursion IsEarly (with_order xs order)
  early-entered [] order l h = (l, tt)
  early-entered (x ∷ xs) order l h = by (nat_lt order.moment x.moment) (early-entered xs order l h.1)
    where
      by : (b : Bool) → AllByRecursion IsEarly (with_order xs order) → AllByRecursion IsEarly (cond b (order ∷ x ∷ xs) (x ∷ with_order xs order))
      by true i = (l, h)
      by false i = (h.0, i)

  enters-last : (xs : List Order) (order : Order) → IsNow order → AllByRecursion IsEarly xs → with_order xs order ≡ xs ++ order ∷ []
  enters-last [] order e h = refl
  enters-last (x ∷ xs) order e h =
      ap (λ b. cond b (order ∷ x ∷ xs) (x ∷ with_order xs order)) (not_less order.moment x.moment e h.0) ∙ ap (λ ys. x ∷ ys) (enters-last xs order e h.1)
    where
      not_less : (a b : ℕ) → a ≡ t → b ≤ t → nat_lt a b ≡ false
      not_less a b e l = grind (arith, nat_tests)

  enters-before : (xs ys : List Order) (order : Order) → order.moment < t → AllByRecursion IsNow ys → with_order (xs ++ ys) order ≡ with_order xs order ++ ys
  enters-before [] [] order l h = refl
  enters-before [] (y ∷ ys) order l h = ap (λ b. cond b (order ∷ y ∷ ys) (y ∷ with_order ys order)) (less order.moment y.moment l h.0)
    where
      less : (a b : ℕ) → a < t → b ≡ t → nat_lt a b ≡ true
      less a b l e = grind (arith, nat_tests)
  enters-before (x ∷ xs) ys order l h = by (nat_lt order.moment x.moment) (enters-before xs ys order l h)
    where
      by : (b : Bool) → with_order (xs ++ ys) order ≡ with_order xs order ++ ys →
          cond b (order ∷ x ∷ xs ++ ys) (x ∷ with_order (xs ++ ys) order) ≡ cond b (order ∷ x ∷ xs) (x ∷ with_order xs order) ++ ys
      by true i = refl
      by false i = ap (λ zs. x ∷ zs) i

-- the orders for a context before a moment, and those of it
module _ (system : System) (x t : ℕ) where
  abbrev is_before : ℕ → Order → Bool
  is_before past order = told.is_order_for x order && nat_lt order.moment past

  abbrev pub is_now : Order → Bool
  is_now order = told.is_order_for x order && (order.moment == t)

  -- those that the turn at t obeys are those of t
  pub obeyed-now : (os : List Order) → filter (told.is_order_for x) (filter (is_for_now system (told.home_of system x) t) os) ≡ filter is_now os
  obeyed-now [] = refl
  obeyed-now (o ∷ os) = by (o.context == x) refl (o.moment == t) (obeyed-now os)
    where
      rest : List Order
      rest = filter (is_for_now system (told.home_of system x) t) os

      equal : (a b : ℕ) → (a == b) ≡ true → a ≡ b
      equal a b e = grind (arith, nat_tests)

      itself : (a : ℕ) → (a == a) ≡ true
      itself a = grind (arith, nat_tests)

      same : (o.context == x) ≡ true → (told.home_of system o.context == told.home_of system x) ≡ true
      same e = ap (λ k. told.home_of system k == told.home_of system x) (equal o.context x e) ∙ itself (told.home_of system x)

      Obeyed : Bool → Bool → Type 0
      Obeyed here now = filter (told.is_order_for x) (cond here (o ∷ rest) rest) ≡ cond now (o ∷ filter is_now os) (filter is_now os)

      another : (o.context == x) ≡ false → filter (told.is_order_for x) rest ≡ filter is_now os → (here : Bool) → Obeyed here false
      another e i true = ap (λ c. cond c (o ∷ filter (told.is_order_for x) rest) (filter (told.is_order_for x) rest)) e ∙ i
      another e i false = i

      by : (a : Bool) → (o.context == x) ≡ a → (b : Bool) → filter (told.is_order_for x) rest ≡ filter is_now os →
          Obeyed (b && (told.home_of system o.context == told.home_of system x)) (a && b)
      by true e true i =
          subst (λ c. Obeyed c true) (sym (same e)) (ap (λ c. cond c (o ∷ filter (told.is_order_for x) rest) (filter (told.is_order_for x) rest)) e ∙ ap (λ ys. o ∷ ys) i)
      by true e false i = i
      by false e b i = another e i (b && (told.home_of system o.context == told.home_of system x))

  -- an order of another context or a later moment, one before t, or one of t
  data Place (order : Order) : Type 0 where
    Elsewhere : is_before t order ≡ false → is_before (suc t) order ≡ false → is_now order ≡ false → Place order
    Before : is_before t order ≡ true → is_before (suc t) order ≡ true → is_now order ≡ false → order.moment < t → Place order
    Now : is_before t order ≡ false → is_before (suc t) order ≡ true → is_now order ≡ true → order.moment ≡ t → Place order

  place : (order : Order) → Place order
  place order = by (told.is_order_for x order) refl (nat_lt order.moment t) refl (order.moment == t) refl
    where
      first : (a b : Bool) → told.is_order_for x order ≡ a → nat_lt order.moment t ≡ b → is_before t order ≡ a && b
      first a b e f = ap (λ c. c && nat_lt order.moment t) e ∙ ap (λ c. a && c) f

      second : (a b : Bool) → told.is_order_for x order ≡ a → nat_lt order.moment (suc t) ≡ b → is_before (suc t) order ≡ a && b
      second a b e f = ap (λ c. c && nat_lt order.moment (suc t)) e ∙ ap (λ c. a && c) f

      third : (a b : Bool) → told.is_order_for x order ≡ a → (order.moment == t) ≡ b → is_now order ≡ a && b
      third a b e f = ap (λ c. c && (order.moment == t)) e ∙ ap (λ c. a && c) f

      less : (m : ℕ) → nat_lt m t ≡ true → m < t
      less m e = grind (arith, nat_tests)

      less_more : (m : ℕ) → nat_lt m t ≡ true → nat_lt m (suc t) ≡ true
      less_more m e = grind (arith, nat_tests)

      equal : (m : ℕ) → (m == t) ≡ true → m ≡ t
      equal m e = grind (arith, nat_tests)

      equal_more : (m : ℕ) → (m == t) ≡ true → nat_lt m (suc t) ≡ true
      equal_more m e = grind (arith, nat_tests)

      no_more : (m : ℕ) → nat_lt m t ≡ false → (m == t) ≡ false → nat_lt m (suc t) ≡ false
      no_more m e f = grind (arith, nat_tests)

      not_both : (m : ℕ) → nat_lt m t ≡ true → (m == t) ≡ true → ⊥
      not_both m e f = grind (arith, nat_tests)

      by : (a : Bool) → told.is_order_for x order ≡ a → (b : Bool) → nat_lt order.moment t ≡ b → (d : Bool) → (order.moment == t) ≡ d → Place order
      by false e b f d g = Elsewhere (first false b e f) (second false (nat_lt order.moment (suc t)) e refl) (third false d e g)
      by true e true f false g = Before (first true true e f) (second true true e (less_more order.moment f)) (third true false e g) (less order.moment f)
      by true e true f true g = absurd (not_both order.moment f g)
      by true e false f true g = Now (first true false e f) (second true true e (equal_more order.moment g)) (third true true e g) (equal order.moment g)
      by true e false f false g = Elsewhere (first true false e f) (second true false e (no_more order.moment f g)) (third true false e g)

  -- those before the next moment are those before t and then those of t
  entered : (os xs ys : List Order) → AllByRecursion (IsEarly t) xs → AllByRecursion (IsNow t) ys →
      fold with_order (xs ++ ys) (filter (is_before (suc t)) os) ≡ fold with_order xs (filter (is_before t) os) ++ (ys ++ filter is_now os)
  entered [] xs ys h k = ap (λ zs. xs ++ zs) (sym (append-nil ys))
  entered (o ∷ os) xs ys h k = by (place o) (entered os)
    where
      all_early : AllByRecursion (IsEarly t) (xs ++ ys)
      all_early = all_both (IsEarly t) xs ys h (all_weaker (IsNow t) (IsEarly t) (λ order e. omega (arith, e)) ys k)

      chosen : (a b d : Bool) → is_before t o ≡ a → is_before (suc t) o ≡ b → is_now o ≡ d →
          fold with_order (xs ++ ys) (cond b (o ∷ filter (is_before (suc t)) os) (filter (is_before (suc t)) os))
          ≡ fold with_order xs (cond a (o ∷ filter (is_before t) os) (filter (is_before t) os)) ++ (ys ++ cond d (o ∷ filter is_now os) (filter is_now os)) →
          fold with_order (xs ++ ys) (filter (is_before (suc t)) (o ∷ os)) ≡ fold with_order xs (filter (is_before t) (o ∷ os)) ++ (ys ++ filter is_now (o ∷ os))
      chosen a b d e f g i = rw (e, f, g) i

      by : Place o →
          ((us vs : List Order) → AllByRecursion (IsEarly t) us → AllByRecursion (IsNow t) vs →
          fold with_order (us ++ vs) (filter (is_before (suc t)) os) ≡ fold with_order us (filter (is_before t) os) ++ (vs ++ filter is_now os)) →
          fold with_order (xs ++ ys) (filter (is_before (suc t)) (o ∷ os)) ≡ fold with_order xs (filter (is_before t) (o ∷ os)) ++ (ys ++ filter is_now (o ∷ os))
      by (Elsewhere e f g) i = chosen false false false e f g (i xs ys h k)
      by (Before e f g l) i =
          chosen true true false e f g
          (ap (λ zs. fold with_order zs (filter (is_before (suc t)) os)) (enters-before t xs ys o l k)
          ∙ i (with_order xs o) ys (early-entered t xs o (omega (arith, l)) h) k)
      by (Now e f g m) i =
          chosen false true true e f g
          (ap (λ zs. fold with_order zs (filter (is_before (suc t)) os)) (enters-last t (xs ++ ys) o m all_early ∙ append_assoc xs ys (o ∷ []))
          ∙ i xs (ys ++ o ∷ []) h (all_both (IsNow t) ys (o ∷ []) k (m, tt))
          ∙ ap (λ zs. fold with_order xs (filter (is_before t) os) ++ zs) (append_assoc ys (o ∷ []) (filter is_now os)))

  orders-more : orders_before system x (suc t) ≡ orders_before system x t ++ told.orders_at system x t
  orders-more = entered system.orders [] [] tt tt ∙ ap (λ zs. orders_before system x t ++ zs) (sym (obeyed-now system.orders))

-- at first there are none
none-first : (x : ℕ) (os : List Order) → filter (λ order. told.is_order_for x order && nat_lt order.moment 0) os ≡ []
none-first x [] = refl
none-first x (o ∷ os) = by (told.is_order_for x o) (none-first x os)
  where
    others : List Order
    others = filter (λ order. told.is_order_for x order && nat_lt order.moment 0) os

    never : (m : ℕ) → nat_lt m 0 ≡ false
    never m = grind (arith, nat_tests)

    by : (a : Bool) → others ≡ [] → cond (a && nat_lt o.moment 0) (o ∷ others) others ≡ []
    by true i = ap (λ b. cond b (o ∷ others) others) (never o.moment) ∙ i
    by false i = i

last_config-append : (config : Config) (xs ys : List Order) → last_config config (xs ++ ys) ≡ last_config (last_config config xs) ys
last_config-append config [] ys = refl
last_config-append config (x ∷ xs) ys = last_config-append x.config xs ys

-- a wake and a choice leave the configuration
woken-config : (t : ℕ) (mode : Mode) (context : Context) → (woken_by mode t context).config ≡ context.config
woken-config t modes.Sporadic context = refl
woken-config t modes.Bandwidth context = refl

chosen-config : (t : ℕ) (mode : Mode) (context : Context) → (chosen_by mode t context).config ≡ context.config
chosen-config t modes.Sporadic context = refl
chosen-config t modes.Bandwidth context = refl

-- what changes make of a context
pub config-changed : (least : ℕ) (changes : List Change) (context : Context) → (changed_by least changes context).config ≡ last_config context.config (orders_of changes)
config-changed least [] context = refl
config-changed least (Charged k ∷ changes) context = config-changed least changes (changed least context (Charged k))
config-changed least (Woken t ∷ changes) context = config-changed least changes (changed least context (Woken t)) ∙ ap (λ config. last_config config (orders_of changes)) (woken-config t context.mode context)
config-changed least (Picked t ∷ changes) context = config-changed least changes (changed least context (Picked t)) ∙ ap (λ config. last_config config (orders_of changes)) (chosen-config t context.mode context)
config-changed least (Ordered order ∷ changes) context = config-changed least changes (changed least context (Ordered order))

-- an order for a context of this kind that SchedControl accepts
record IsRight (kind : Kind) (order : Order) : Type 0 where
  accepted : IsConfig order.config
  same_kind : kind_of order.config ≡ kind

record IsGood (kind : Kind) (context : Context) : Type 0 where
  whole : IsContext context
  same_kind : kind_of context.config ≡ kind

good-changes : (least : ℕ) (kind : Kind) (changes : List Change) (context : Context) → IsGood kind context → AreSound least changes context → AllByRecursion (IsRight kind) (orders_of changes) →
    IsGood kind (changed_by least changes context)
good-changes least kind [] context g s r = g
good-changes least kind (Charged k ∷ changes) context g s r =
    good-changes least kind changes (changed least context (Charged k))
    (record { whole = contexts-kept.1 k least context g.whole s.0.0 s.0.1; same_kind = g.same_kind }) s.1 r
good-changes least kind (Woken t ∷ changes) context g s r =
    good-changes least kind changes (changed least context (Woken t))
    (record { whole = contexts-kept.3 t context g.whole; same_kind = ap kind_of (woken-config t context.mode context) ∙ g.same_kind }) s.1 r
good-changes least kind (Picked t ∷ changes) context g s r =
    good-changes least kind changes (changed least context (Picked t))
    (record { whole = contexts-kept.4 t context g.whole; same_kind = ap kind_of (chosen-config t context.mode context) ∙ g.same_kind }) s.1 r
good-changes least kind (Ordered order ∷ changes) context g s r =
    good-changes least kind changes (changed least context (Ordered order))
    (record {
      whole = contexts-kept.5 order.moment order.config context g.whole r.0.accepted (r.0.same_kind ∙ sym g.same_kind);
      same_kind = r.0.same_kind;
    }) s.1 r.1

-- what SchedControl accepts is in range
pub accepted-config : (least : ℕ) (config : Config) → IsOk (checked least config) → IsConfig config
accepted-config least config h = by (checked least config) refl h
  where
    by : (r : Result Kind ControlFault) → checked least config ≡ r → IsOk r → IsConfig config
    by (Ok kind) e h = (passed-configs least config kind e).0
    by (Err fault) e h = absurd (cc)

module _ (system : System) (well : IsWellFormed system) (x : ℕ) (known : x < length system.contexts) where
  abbrev kind : Kind
  kind = kind_of (context_part system x).config

  pub history : told.History system x
  history = histories system well x known

  -- the orders of a moment are for a context of this kind
  rights : (p : Order → Bool) (os : List Order) → AllByRecursion (IsOrder system) os → AllByRecursion (IsRight kind) (filter (told.is_order_for x) (filter p os))
  rights p [] h = tt
  rights p (o ∷ os) h = by (p o) (o.context == x) refl (rights p os h.1)
    where
      equal : (a b : ℕ) → (a == b) ≡ true → a ≡ b
      equal a b e = grind (arith, nat_tests)

      right : (o.context == x) ≡ true → IsRight kind o
      right e = record { accepted = accepted-config system.min_budget o.config h.0.accepted; same_kind = h.0.same_kind ∙ ap (λ k. kind_of (context_part system k).config) (equal o.context x e) }

      by : (a b : Bool) → (o.context == x) ≡ b → AllByRecursion (IsRight kind) (filter (told.is_order_for x) (filter p os)) →
          AllByRecursion (IsRight kind) (filter (told.is_order_for x) (cond a (o ∷ filter p os) (filter p os)))
      by false b e i = i
      by true true e i = rw e (right e, i)
      by true false e i = rw e i

  rights-at : (t : ℕ) → AllByRecursion (IsRight kind) (orders_of (history.changes t))
  rights-at t =
      subst (AllByRecursion (IsRight kind)) (history.orders t)
      (rights (is_for_now system (told.home_of system x) t) system.orders (by_recursion (IsOrder system) system.orders well.orders))

  opening-config : IsConfig (context_part system x).config
  opening-config = accepted-config system.min_budget _ (well.contexts x no_context known).accepted

  good : (t : ℕ) → IsGood kind (told.context_before system x t)
  good zero =
      subst (IsGood kind) (sym history.opening)
      (record { whole = contexts-kept.0 (context_part system x).config _ _ opening-config; same_kind = refl })
  good (suc t) =
      subst (IsGood kind) (sym (history.after t))
      (good-changes system.min_budget kind (history.changes t) (told.context_before system x t) (good t) (history.sound t) (rights-at t))

  pub in-force : (t : ℕ) → (told.context_before system x t).config ≡ config_in_force system x t
  in-force zero =
      ap (λ (k : Context). k.config) history.opening
      ∙ ap (λ (os : List Order). last_config (context_part system x).config (fold with_order [] os)) (sym (none-first x system.orders))
  in-force (suc t) =
      ap (λ (k : Context). k.config) (history.after t)
      ∙ config-changed system.min_budget (history.changes t) (told.context_before system x t)
      ∙ ap (λ config. last_config config (orders_of (history.changes t))) (in-force t)
      ∙ ap (last_config (config_in_force system x t)) (sym (history.orders t))
      ∙ sym (last_config-append (context_part system x).config (orders_before system x t) (told.orders_at system x t))
      ∙ ap (last_config (context_part system x).config) (sym (orders-more system x t))

  pub has-the-budget : (t : ℕ) → HasTheBudgetInForce system x t
  has-the-budget t = record { config = in-force t; whole = (good t).whole }

  pub kind-kept : (t : ℕ) → kind_of (told.context_before system x t).config ≡ kind
  kind-kept t = (good t).same_kind

pub budgets-in-force : (system : System) → IsWellFormed system → ContextsHaveTheBudgetInForce system
budgets-in-force system well x t known = has-the-budget system well x known t
