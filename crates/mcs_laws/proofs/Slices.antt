-- Round robin contexts over time.
use Rattle.std.proofs.Common.{◌≡◌, ℕ, zero, suc, ◌+◌, ◌-◌, ◌*◌, ◌≤◌, List, [], ◌∷◌, ◌++◌, length, refl, sym, ap, subst, ◌∙◌, arith}
use Rattle.std.specs.Prelude.{filter, sum}
use Rattle.mcs_refills.specs.Slice.{slice_charged, slice_reconfigured, AreWithin, left_after_all, times_used_up}
use Rattle.mcs_refills.proofs.Slices.{spent}
use Rattle.mcs_control.specs.declared.config.Config.{Config}
use Rattle.mcs_control.specs.declared.config.Kind.TheVariants.{Sporadic, RoundRobin}
use Rattle.mcs_control.specs.declared.config.Mode.{Mode}
use Rattle.mcs_control.specs.declared.config.Mode.TheVariants as modes
use Rattle.mcs_control.specs.declared.config.Order.{Order}
use Rattle.mcs_control.specs.Context.{Context, Budget}
use Rattle.mcs_control.specs.Context.Budget.{Dates, Slice}
use Rattle.mcs_control.specs.laws.Contexts.{IsBudgetOf}
use Rattle.mcs_control.proofs.Contexts.{less-sporadic}
use Rattle.mcs_ticks.specs.Queue.{in_one_list}
use Rattle.mcs_system.specs.System.{System}
use Rattle.mcs_system.specs.WellFormed.{IsWellFormed}
use Rattle.mcs_core.specs.Clock.{world, core_at, arrives_at}
use Rattle.mcs_laws.specs.Changes.{Change, charges_of, orders_of, changed_by, AreSound}
use Rattle.mcs_laws.specs.Changes.Change.{Charged, Woken, Picked, Ordered}
use Rattle.mcs_laws.specs.Histories as told
use Rattle.mcs_laws.specs.Slices.{budget, charges_from, HasLeft, HasSlices, IsCharged, IsOneSlice, SlicesAreCharged, SlicesAreSpent}
use Rattle.mcs_laws.proofs.Ranges.{flat_map-range-more}
use Rattle.mcs_laws.proofs.Traces.{carry}
use Rattle.mcs_laws.proofs.InForce.{history, has-the-budget, in-force, kind-kept}
use Rattle.mcs_laws.proofs.Stops.{one-charge}
use Rattle.mcs_laws.proofs.Stretches.{after-all, sound-all, orders-of-all, charges-of-all}

-- what changes without an order do to a slice
record AreCharges (least : ℕ) (changes : List Change) (config : Config) (mode : Mode) (left : ℕ) : Type 0 where
  slice : changed_by least changes (record { config = config; mode = mode; budget = Slice left }) ≡ record { config = config; mode = mode; budget = Slice (left_after_all (charges_of changes) config.budget left) }
  within : AreWithin (charges_of changes) config.budget left

no_order : (order : Order) (orders : List Order) → order ∷ orders ≡ [] → ⊥
no_order order orders e = cc

are-charges : (least : ℕ) (changes : List Change) (config : Config) (mode : Mode) (left : ℕ) → orders_of changes ≡ [] → AreSound least changes (record { config = config; mode = mode; budget = Slice left }) →
    AreCharges least changes config mode left
are-charges least [] config mode left e s = record { slice = refl; within = tt }
are-charges least (Charged k ∷ changes) config mode left e s =
    let h = are-charges least changes config mode (slice_charged k config.budget left) e s.1 in
    record { slice = h.slice; within = (s.0.0, s.0.1, h.within) }
are-charges least (Woken t ∷ changes) config modes.Sporadic left e s =
    let h = are-charges least changes config modes.Sporadic left e s.1 in
    record { slice = h.slice; within = h.within }
are-charges least (Woken t ∷ changes) config modes.Bandwidth left e s =
    let h = are-charges least changes config modes.Bandwidth left e s.1 in
    record { slice = h.slice; within = h.within }
are-charges least (Picked t ∷ changes) config modes.Sporadic left e s =
    let h = are-charges least changes config modes.Sporadic left e s.1 in
    record { slice = h.slice; within = h.within }
are-charges least (Picked t ∷ changes) config modes.Bandwidth left e s =
    let h = are-charges least changes config modes.Bandwidth left e s.1 in
    record { slice = h.slice; within = h.within }
are-charges least (Ordered order ∷ changes) config mode left e s = absurd (no_order order (orders_of changes) e)

-- a first charge takes something, and at most what is left: an order before it leaves no more
first-charge : (least : ℕ) (changes : List Change) (config : Config) (mode : Mode) (left k : ℕ) (ks : List ℕ) → charges_of changes ≡ k ∷ ks →
    AreSound least changes (record { config = config; mode = mode; budget = Slice left }) → (1 ≤ k) × (k ≤ left)
first-charge least [] config mode left k ks e s = absurd (no e)
  where
    no : [] ≡ k ∷ ks → ⊥
    no e = cc
first-charge least (Charged j ∷ changes) config mode left k ks e s = by (same j k (charges_of changes) ks e)
  where
    same : (j k : ℕ) (js ks : List ℕ) → j ∷ js ≡ k ∷ ks → j ≡ k
    same j k js ks e = cc

    by : j ≡ k → (1 ≤ k) × (k ≤ left)
    by e = (omega (arith, e, s.0.0), omega (arith, e, s.0.1))
first-charge least (Woken t ∷ changes) config modes.Sporadic left k ks e s = first-charge least changes config modes.Sporadic left k ks e s.1
first-charge least (Woken t ∷ changes) config modes.Bandwidth left k ks e s = first-charge least changes config modes.Bandwidth left k ks e s.1
first-charge least (Picked t ∷ changes) config modes.Sporadic left k ks e s = first-charge least changes config modes.Sporadic left k ks e s.1
first-charge least (Picked t ∷ changes) config modes.Bandwidth left k ks e s = first-charge least changes config modes.Bandwidth left k ks e s.1
first-charge least (Ordered order ∷ changes) config mode left k ks e s =
    let h = first-charge least changes order.config mode (slice_reconfigured order.config.budget left) k ks e s.1 in
    (h.0, omega (arith, h.1))

-- charges that are within what is left, and then others
within-append : (xs ys : List ℕ) (budget left : ℕ) → AreWithin xs budget left → AreWithin ys budget (left_after_all xs budget left) → AreWithin (xs ++ ys) budget left
within-append [] ys budget left p q = q
within-append (x ∷ xs) ys budget left p q = (p.0, p.1, within-append xs ys budget (slice_charged x budget left) p.2 q)

-- a round robin context holds a slice, which it has of the budget in force
module _ (system : System) (well : IsWellFormed system) (x : ℕ) (has : HasSlices system x) where
  abbrev past : told.History system x
  past = history system well x has.known

  abbrev before : ℕ → Context
  before t = told.context_before system x t

  record Holds (k : Context) : Type 0 where
    left : ℕ
    is : k.budget ≡ Slice left

  holds : (t : ℕ) → Holds (before t)
  holds t = by (before t).budget refl (has-the-budget system well x has.known t).whole.budget
    where
      by : (b : Budget) → (before t).budget ≡ b → IsBudgetOf (before t).config b → Holds (before t)
      by (Slice left) e h = record { left = left; is = e }
      by (Dates dates) e h =
          let bad : Sporadic ≡ RoundRobin = sym (less-sporadic (before t).config h.0) ∙ kind-kept system well x has.known t ∙ has.kind in
          absurd (cc)

  abbrev slice : ℕ → ℕ → Context
  slice t left = record (before t) { budget = Slice left }

  budget-is : (t : ℕ) → (before t).config.budget ≡ budget system x t
  budget-is t = ap (λ (c : Config). c.budget) (in-force system well x has.known t)

  is-slice : (t : ℕ) → before t ≡ slice t (holds t).left
  is-slice t = ap (λ (b : Budget). let k : Context = record (before t) { budget = b } in k) (holds t).is

  -- over moments in which no order comes
  module _ (from n : ℕ) (unordered : told.IsUnordered system x from n) where
    charged : AreCharges system.min_budget (told.changes_from system x past from n) (before from).config (before from).mode (holds from).left
    charged =
        are-charges system.min_budget (told.changes_from system x past from n) (before from).config (before from).mode (holds from).left
        (orders-of-all system x past from n unordered)
        (carry (AreSound system.min_budget (told.changes_from system x past from n)) (before from) (slice from (holds from).left) (is-slice from) (sound-all system x past from n))

    next-slice : before (from + n) ≡ slice from (left_after_all (charges_from system x from n) (before from).config.budget (holds from).left)
    next-slice =
        after-all system x past from n ∙ ap (changed_by system.min_budget (told.changes_from system x past from n)) (is-slice from) ∙ charged.slice
        ∙ ap (λ ks. slice from (left_after_all ks (before from).config.budget (holds from).left)) (sym (charges-of-all system x past from n))

    has-left : HasLeft system x (from + n) (left_after_all (charges_from system x from n) (budget system x from) (holds from).left)
    has-left =
        ap (λ (k : Context). k.budget) next-slice
        ∙ ap (λ b. Slice (left_after_all (charges_from system x from n) b (holds from).left)) (budget-is from)

    within-all : AreWithin (charges_from system x from n) (budget system x from) (holds from).left
    within-all =
        let P : List ℕ → Type 0 = λ ks. AreWithin ks (before from).config.budget (holds from).left in
        subst (λ b. AreWithin (charges_from system x from n) b (holds from).left) (budget-is from)
        (subst P (sym (charges-of-all system x past from n)) charged.within)

  -- the charge of one moment, at which orders may come after it
  within-at : (t budget left : ℕ) → HasLeft system x t left → AreWithin (told.charges_at system x t) budget left
  within-at t budget left e =
      by (told.charges_at system x t) refl
      (one-charge in_one_list system (told.home_of system x) t x (filter (arrives_at system t (told.home_of system x)) (world system t).mails) (core_at system (world system t) (told.home_of system x)))
    where
      same_left : (a b : ℕ) → Slice a ≡ Slice b → a ≡ b
      same_left a b e = cc

      is_left : (holds t).left ≡ left
      is_left = same_left (holds t).left left (sym (holds t).is ∙ e)

      first : (k : ℕ) (ks : List ℕ) → told.charges_at system x t ≡ k ∷ ks → (1 ≤ k) × (k ≤ (holds t).left)
      first k ks f =
          first-charge system.min_budget (past.changes t) (before t).config (before t).mode (holds t).left k ks (sym (past.charges t) ∙ f)
          (carry (AreSound system.min_budget (past.changes t)) (before t) (slice t (holds t).left) (is-slice t) (past.sound t))

      by : (ks : List ℕ) → told.charges_at system x t ≡ ks → length ks ≤ 1 → AreWithin ks budget left
      by [] f l = tt
      by (k ∷ []) f l = let h = first k [] f in (h.0, omega (arith, h.1, is_left), tt)
      by (k ∷ j ∷ ks) f l = absurd (omega (arith, l))

  -- over moments without an order before the last one
  within : (from n : ℕ) → told.IsUnordered system x from (n - 1) → AreWithin (charges_from system x from n) (budget system x from) (holds from).left
  within from zero unordered = tt
  within from (suc n) unordered =
      let none : told.IsUnordered system x from n = subst (λ m. told.IsUnordered system x from m) (one_less n) unordered in
      let P : List ℕ → Type 0 = λ ks. AreWithin ks (budget system x from) (holds from).left in
      subst P (sym (flat_map-range-more (told.charges_at system x) n from))
      (within-append (charges_from system x from n) (told.charges_at system x (from + n)) (budget system x from) (holds from).left (within-all from n none)
      (within-at (from + n) (budget system x from) (left_after_all (charges_from system x from n) (budget system x from) (holds from).left) (has-left from n none)))
    where
      one_less : (n : ℕ) → suc n - 1 ≡ n
      one_less n = omega arith

  pub is-charged : (from n : ℕ) → told.IsUnordered system x from (n - 1) → IsCharged system x from n
  is-charged from n unordered =
      record {
        before = (holds from).left;
        after = left_after_all (charges_from system x from n) (budget system x from) (holds from).left;
        has_before = (holds from).is;
        is_after = refl;
        has_after = has-left from n;
        within = within from n unordered;
        sums = spent (budget system x from) (charges_from system x from n) (holds from).left (within from n unordered);
      }

  same-left : (a b : ℕ) → Slice a ≡ Slice b → a ≡ b
  same-left a b e = cc

  pub is-spent : (from n : ℕ) → IsOneSlice system x from n → sum (charges_from system x from n) ≡ budget system x from
  is-spent from n one =
      let h = is-charged from n one.unordered in
      let before : h.before ≡ budget system x from = same-left h.before (budget system x from) (sym h.has_before ∙ one.full) in
      let after : h.after ≡ budget system x from =
      h.is_after ∙ ap (left_after_all (charges_from system x from n) (budget system x from)) before ∙ one.next in
      once (budget system x from) h.before h.after (sum (charges_from system x from n)) (λ left. times_used_up (charges_from system x from n) (budget system x from) left) before after one.once h.sums
    where
      once : (budget before after total : ℕ) (times : ℕ → ℕ) → before ≡ budget → after ≡ budget → times budget ≡ 1 → total + after ≡ before + times before * budget → total ≡ budget
      once budget before after total times e f g h =
          let same : times before ≡ 1 = ap times e ∙ g in
          let one : total + after ≡ before + 1 * budget = h ∙ ap (λ m. before + m * budget) same in
          omega (arith, one, e, f)

pub slices-charged : (system : System) → IsWellFormed system → SlicesAreCharged system
slices-charged system well x from moments has unordered = is-charged system well x has from moments unordered

pub slices-spent : (system : System) → IsWellFormed system → SlicesAreSpent system
slices-spent system well x from moments has one = is-spent system well x has from moments one
