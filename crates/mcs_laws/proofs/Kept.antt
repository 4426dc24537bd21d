-- A context keeps its budget over charges, unblocking and orders.
use Rattle.std.proofs.Common.{◌≡◌, ℕ, ◌+◌, ◌-◌, ◌≤◌, Bool, true, false, cond, List, [], ◌∷◌, ◌++◌, max, refl, sym, arith}
use Rattle.std.specs.Prelude.{◌==◌, IsOk}
use Rattle.std.proofs.lemmas.Bool.Decides.{nat_tests}
use Rattle.mcs_refills.specs.declared.refill.Refill.{Refill}
use Rattle.mcs_refills.specs.Server as server
use Rattle.mcs_refills.specs.laws.Spacing.{AreKept}
use Rattle.mcs_refills.proofs.Spaces.{kept-charged, kept-unblocked, kept-reconfigured, kept-new}
use Rattle.mcs_control.specs.laws.Contexts.{IsWhole}
use Rattle.mcs_control.specs.declared.config.Config.{Config}
use Rattle.mcs_control.specs.declared.config.Kind.{Kind}
use Rattle.mcs_control.specs.declared.config.Kind.TheVariants.{Sporadic, RoundRobin}
use Rattle.mcs_control.specs.declared.config.Mode.{Mode}
use Rattle.mcs_control.specs.declared.config.Mode.TheVariants as modes
use Rattle.mcs_control.specs.Control.{kind_of, checked}
use Rattle.mcs_control.specs.Context.{Context, Budget, new_context, context_charged, context_unblocked, context_woken, woken_by, chosen_by, context_ordered, head_amount, max_refills_of}
use Rattle.mcs_control.specs.Context.Budget.{Dates, Slice}
use Rattle.mcs_core.proofs.Budgets.{accepted-is, head-some}
use Rattle.mcs_laws.specs.Changes.{Change, KeepsItsBudget, GivesBudget, changed, changed_by, IsSound, AreSound}
use Rattle.mcs_laws.specs.Changes.Change.{Charged, Woken, Picked, Ordered}

-- the head
with_date-begins : (date : ℕ) (rs : List Refill) → server.first_moment (server.with_date date rs) ≡ date
with_date-begins date [] = refl
with_date-begins date (r ∷ rs) = by (date + 1 == r.begins)
  where
    by : (b : Bool) → server.first_moment (cond b (record { begins = date; amount = r.amount + 1 } ∷ rs) (record { begins = date; amount = 1 } ∷ r ∷ rs)) ≡ date
    by true = refl
    by false = refl

with_date-amount : (date next : ℕ) (rs : List Refill) → server.first_moment rs ≡ next → 1 ≤ server.first_amount rs →
    server.first_amount (server.with_date date rs) ≡ cond (date + 1 == next) (server.first_amount rs + 1) 1
with_date-amount date next [] e l = absurd (omega (arith, l))
with_date-amount date next (r ∷ rs) e l = rw (sym e) (by (date + 1 == r.begins))
  where
    by : (b : Bool) → server.first_amount (cond b (record { begins = date; amount = r.amount + 1 } ∷ rs) (record { begins = date; amount = 1 } ∷ r ∷ rs)) ≡ cond b (r.amount + 1) 1
    by true = refl
    by false = refl

-- the head of a date and those after it
pub head-more : (date next : ℕ) (dates : List ℕ) → server.head_amount (date ∷ next ∷ dates) ≡ cond (date + 1 == next) (server.head_amount (next ∷ dates) + 1) 1
head-more date next dates =
    with_date-amount date next (server.refills_of (next ∷ dates)) (with_date-begins next (server.refills_of dates)) (head-some next dates)

-- unblocking takes nothing from the head
head-unblocked : (t : ℕ) (dates : List ℕ) → server.head_amount dates ≤ server.head_amount (server.unblocked t dates)
head-unblocked t [] = omega arith
head-unblocked t (date ∷ []) = omega arith
head-unblocked t (date ∷ next ∷ dates) =
    rw (head-more date next dates, head-more (max date t) (max next (t + 1)) (server.unblocked (t + 1 + 1) dates))
    (by (date + 1 == next) (max date t + 1 == max next (t + 1)) refl refl (head-unblocked (t + 1) (next ∷ dates)))
  where
    no : (date next t : ℕ) → (date + 1 == next) ≡ true → (max date t + 1 == max next (t + 1)) ≡ false → ⊥
    no date next t e f = grind (arith, nat_tests)

    by : (a b : Bool) → (date + 1 == next) ≡ a → (max date t + 1 == max next (t + 1)) ≡ b →
        server.head_amount (next ∷ dates) ≤ server.head_amount (server.unblocked (t + 1) (next ∷ dates)) →
        cond a (server.head_amount (next ∷ dates) + 1) 1 ≤ cond b (server.head_amount (server.unblocked (t + 1) (next ∷ dates)) + 1) 1
    by true true e f i = omega (arith, i)
    by true false e f i = absurd (no date next t e f)
    by false true e f i = omega arith
    by false false e f i = omega arith

pub head_amount-unblocked : (t : ℕ) (context : Context) → head_amount context ≤ head_amount (context_unblocked t context)
head_amount-unblocked t context = by context.budget
  where
    by : (budget : Budget) → head_amount (record context { budget = budget }) ≤ head_amount (context_unblocked t (record context { budget = budget }))
    by (Dates dates) = head-unblocked t dates
    by (Slice left) = omega arith

pub head_amount-woken : (t : ℕ) (context : Context) → head_amount context ≤ head_amount (context_woken t context)
head_amount-woken t context = by context.mode
  where
    by : (mode : Mode) → head_amount context ≤ head_amount (woken_by mode t context)
    by modes.Sporadic = head_amount-unblocked t context
    by modes.Bandwidth = omega arith

-- a context that keeps its budget has a head
pub head_amount-some : (context : Context) → KeepsItsBudget context → 1 ≤ head_amount context
head_amount-some context h = by context.budget h.whole
  where
    some : (dates : List ℕ) → AreKept context.config.budget context.config.period dates → 1 ≤ server.head_amount dates
    some [] k = absurd (omega (arith, k.all, h.config.some))
    some (date ∷ dates) k = head-some date dates

    by : (budget : Budget) → IsWhole context.config budget → 1 ≤ head_amount (record context { budget = budget })
    by (Dates dates) k = some dates k
    by (Slice left) k = k.0

-- each change keeps the budget
slice-charged : (k budget left : ℕ) → 1 ≤ budget → 1 ≤ left → left ≤ budget → (1 ≤ cond (left - k == 0) budget (left - k)) × (cond (left - k == 0) budget (left - k) ≤ budget)
slice-charged k budget left p l m = by (left - k == 0) refl
  where
    by : (b : Bool) → (left - k == 0) ≡ b → (1 ≤ cond b budget (left - k)) × (cond b budget (left - k) ≤ budget)
    by true e = (p, omega arith)
    by false e = (grind (arith, nat_tests), omega arith)

keeps-unblocked : (t : ℕ) (context : Context) → KeepsItsBudget context → KeepsItsBudget (context_unblocked t context)
keeps-unblocked t context h = record { config = h.config; whole = by context.budget h.whole }
  where
    by : (budget : Budget) → IsWhole context.config budget → IsWhole context.config (context_unblocked t (record context { budget = budget })).budget
    by (Dates dates) w = kept-unblocked context.config.budget context.config.period t dates w
    by (Slice left) w = w

pub keeps-change : (min_budget : ℕ) (change : Change) (context : Context) → KeepsItsBudget context → IsSound min_budget change context → KeepsItsBudget (changed min_budget context change)
keeps-change min_budget (Charged k) context h s = record { config = h.config; whole = by context.budget h.whole }
  where
    by : (budget : Budget) → IsWhole context.config budget → IsWhole context.config (context_charged k min_budget (record context { budget = budget })).budget
    by (Dates dates) w = (kept-charged context.config.budget context.config.period (max_refills_of context.config) k min_budget dates s.0 w).1
    by (Slice left) w = slice-charged k context.config.budget left h.config.some w.0 w.1
keeps-change min_budget (Woken t) context h s = by context.mode
  where
    by : (mode : Mode) → KeepsItsBudget (woken_by mode t context)
    by modes.Sporadic = keeps-unblocked t context h
    by modes.Bandwidth = h
keeps-change min_budget (Picked t) context h s = by context.mode
  where
    by : (mode : Mode) → KeepsItsBudget (chosen_by mode t context)
    by modes.Sporadic = h
    by modes.Bandwidth = keeps-unblocked t context h
keeps-change min_budget (Ordered order) context h s = record { config = s; whole = by context.budget h.whole }
  where
    some : 1 ≤ order.config.budget
    some = s.some

    by : (budget : Budget) → IsWhole context.config budget → IsWhole order.config (context_ordered order.moment order.config (record context { budget = budget })).budget
    by (Dates dates) w = kept-reconfigured order.config.budget order.config.period order.moment dates s.fits
    by (Slice left) w = (omega (arith, w.0, some), omega arith)

pub keeps-changes : (min_budget : ℕ) (changes : List Change) (context : Context) → KeepsItsBudget context → AreSound min_budget changes context → KeepsItsBudget (changed_by min_budget changes context)
keeps-changes min_budget [] context h s = h
keeps-changes min_budget (change ∷ changes) context h s = keeps-changes min_budget changes (changed min_budget context change) (keeps-change min_budget change context h s.0) s.1

-- and a new one has it
pub keeps-new : (config : Config) (mode : Mode) (at : ℕ) → GivesBudget config → KeepsItsBudget (new_context config mode at)
keeps-new config mode at h = record { config = h; whole = by (kind_of config) refl }
  where
    by : (kind : Kind) → kind_of config ≡ kind → IsWhole config (new_context config mode at).budget
    by Sporadic e = rw e (kept-new config.budget config.period at h.fits)
    by RoundRobin e = rw e (h.some, omega arith)

-- some changes and then others
pub changed_by-append : (min_budget : ℕ) (xs ys : List Change) (k : Context) → changed_by min_budget (xs ++ ys) k ≡ changed_by min_budget ys (changed_by min_budget xs k)
changed_by-append min_budget [] ys k = refl
changed_by-append min_budget (x ∷ xs) ys k = changed_by-append min_budget xs ys (changed min_budget k x)

pub sound-append : (min_budget : ℕ) (xs ys : List Change) (k : Context) → AreSound min_budget xs k → AreSound min_budget ys (changed_by min_budget xs k) → AreSound min_budget (xs ++ ys) k
sound-append min_budget [] ys k p q = q
sound-append min_budget (x ∷ xs) ys k p q = (p.0, sound-append min_budget xs ys (changed min_budget k x) p.1 q)

-- what SchedControl accepts gives a budget
pub accepted-gives : (min_budget : ℕ) (config : Config) → IsOk (checked min_budget config) → GivesBudget config
accepted-gives min_budget config h = let accepted = accepted-is min_budget config h in record { some = accepted.some; fits = accepted.within }
