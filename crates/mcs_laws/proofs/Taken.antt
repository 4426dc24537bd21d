-- How many dates charges take, and which place each has among dates that are spaced.
use Rattle.std.proofs.Common.{◌≡◌, ℕ, zero, suc, ◌+◌, ◌-◌, ◌*◌, ◌/◌, ◌%◌, ◌<◌, ◌≤◌, Bool, true, false, cond, List, [], ◌∷◌, ◌++◌, length, take, refl, sym, ap, ◌∙◌, append-nil, append_assoc, suc-mul, mul_comm, div-add-mod', div-mul-le_self, arith}
use Rattle.std.specs.Prelude.{◌==◌, sum, slice_index}
use Rattle.std.proofs.lemmas.Bool.Decides.{nat_tests}
use Rattle.std.proofs.lemmas.Nat.{le-div, mod_below, mul-le}
use Rattle.std.proofs.lemmas.List.{length-append, length-take-le, get_or-append-add, get_or-take}
use Rattle.std.proofs.lemmas.List.Sums.{sum_by-cons}
use Rattle.mcs_refills.specs.Server as server
use Rattle.mcs_refills.specs.laws.Spacing.{IsSpaced}
use Rattle.mcs_control.specs.Context.{Context, Budget, head_amount, head_moment, amount_of, moment_of, budget_charged, budget_unblocked, context_unblocked, woken_by, chosen_by, budget_ordered, dates_in}
use Rattle.mcs_control.specs.Context.Budget.{Dates, Slice}
use Rattle.mcs_control.specs.declared.config.Mode.{Mode}
use Rattle.mcs_control.specs.declared.config.Mode.TheVariants as modes
use Rattle.mcs_laws.specs.Changes.{Change, charges_of, changed, changed_by, AreSound, dates_taken, taken_by}
use Rattle.mcs_laws.specs.Changes.Change.{Charged, Woken, Picked, Ordered}
use Rattle.mcs_laws.specs.Demand.{periods_begun}
use Rattle.mcs_laws.proofs.Kept.{head-more}

-- the head has at most the dates
head-length : (dates : List ℕ) → server.head_amount dates ≤ length dates
head-length [] = omega arith
head-length (date ∷ []) = omega arith
head-length (date ∷ next ∷ dates) = omega (arith, head-more date next dates, by (date + 1 == next) (head-length (next ∷ dates)))
  where
    by : (b : Bool) → server.head_amount (next ∷ dates) ≤ length (next ∷ dates) → cond b (server.head_amount (next ∷ dates) + 1) 1 ≤ length (next ∷ dates) + 1
    by true l = omega (arith, l)
    by false l = omega arith

-- and its dates follow one another
pub head-place : (dates : List ℕ) (i : ℕ) → i < server.head_amount dates → slice_index dates i ≡ server.first_date dates + i
head-place [] i l = absurd (omega (arith, l))
head-place (date ∷ dates) zero l = omega arith
head-place (date ∷ []) (suc i) l = absurd (omega (arith, l))
head-place (date ∷ next ∷ dates) (suc i) l = by (date + 1 == next) refl (omega (arith, l, head-more date next dates)) (head-place (next ∷ dates) i)
  where
    equal : (a b : ℕ) → (a == b) ≡ true → a ≡ b
    equal a b e = grind (arith, nat_tests)

    by : (b : Bool) → (date + 1 == next) ≡ b → suc i < cond b (server.head_amount (next ∷ dates) + 1) 1 →
        (i < server.head_amount (next ∷ dates) → slice_index (next ∷ dates) i ≡ next + i) → slice_index (next ∷ dates) i ≡ date + suc i
    by true e l h = omega (arith, h (omega (arith, l)), equal (date + 1) next e)
    by false e l h = absurd (omega (arith, l))

-- of dates from `low` on that are spaced, the one in place q budgets and r comes q periods after it
spaced-place : (low budget period : ℕ) (dates : List ℕ) → IsSpaced budget period dates → ((r : ℕ) → r < length dates → low ≤ slice_index dates r) → (q r : ℕ) → q * budget + r < length dates →
    low + q * period ≤ slice_index dates (q * budget + r)
spaced-place low budget period dates h from zero r l =
    let place : slice_index dates r ≡ slice_index dates (zero * budget + r) = ap (slice_index dates) (omega arith) in
    omega (arith, place, from r (omega (arith, l)))
spaced-place low budget period dates h from (suc q) r l =
    let more : suc q * budget ≡ q * budget + budget = suc-mul q budget in
    let before : low + q * period ≤ slice_index dates (q * budget + r) = spaced-place low budget period dates h from q r (omega (arith, l, more)) in
    let later : slice_index dates (q * budget + r) + period ≤ slice_index dates (q * budget + r + budget) = h (q * budget + r) (omega (arith, l, more)) in
    let place : slice_index dates (q * budget + r + budget) ≡ slice_index dates (suc q * budget + r) = ap (slice_index dates) (omega (arith, more)) in
    omega (arith, suc-mul q period, before, later, place)

-- if the date in place n + u comes by t, at most the budgets of the periods begun by then are used, the first of which begins at `low`
pub places-fit : (low budget period t n u : ℕ) (dates : List ℕ) → 1 ≤ budget → 1 ≤ period → IsSpaced budget period dates → ((r : ℕ) → r < length dates → low ≤ slice_index dates r) →
    n + u < length dates → slice_index dates (n + u) ≤ t → n + u + 1 ≤ budget * periods_begun (suc t - low) period
places-fit low budget period t n u dates some_budget some_period h from l come =
    omega (
      arith,
      divided,
      mod_below (n + u) budget some_budget,
      suc-mul q budget,
      mul-le (suc q) budget (periods_begun (suc t - low) period) budget begun (omega arith),
      mul_comm (periods_begun (suc t - low) period) budget,
    )
  where
    q : ℕ
    q = (n + u) / budget

    r : ℕ
    r = (n + u) % budget

    divided : (n + u) / budget * budget + (n + u) % budget ≡ n + u
    divided = div-add-mod' (n + u) budget

    past : low + (n + u) / budget * period ≤ t
    past =
        let place : slice_index dates ((n + u) / budget * budget + (n + u) % budget) ≡ slice_index dates (n + u) = ap (slice_index dates) divided in
        omega (arith, spaced-place low budget period dates h from ((n + u) / budget) ((n + u) % budget) (omega (arith, divided, l)), place, come)

    begun : suc ((n + u) / budget) ≤ periods_begun (suc t - low) period
    begun = le-div (suc ((n + u) / budget)) (suc t - low + (period - 1)) period some_period (omega (arith, past, suc-mul ((n + u) / budget) period, some_period))

-- a later horizon has no fewer periods, and a horizon no more ticks than they
pub periods-more : (a b period : ℕ) → 1 ≤ period → a ≤ b → periods_begun a period ≤ periods_begun b period
periods-more a b period some l = le-div (periods_begun a period) (b + (period - 1)) period some (omega (arith, l, div-mul-le_self (a + (period - 1)) period))

pub periods-cover : (t period : ℕ) → 1 ≤ period → t ≤ period * periods_begun t period
periods-cover t period some =
    omega (arith, div-add-mod' (t + (period - 1)) period, mod_below (t + (period - 1)) period some, mul_comm (periods_begun t period) period, some)

-- contexts that have dates
abbrev pub IsDates : Budget → Type 0
IsDates (Dates dates) = Unit {0}
IsDates (Slice left) = ⊥

unblocked-stays : (t : ℕ) (context : Context) → IsDates context.budget → IsDates (context_unblocked t context).budget
unblocked-stays t context d = by context.budget d
  where
    by : (budget : Budget) → IsDates budget → IsDates (budget_unblocked t budget)
    by (Dates dates) d = tt
    by (Slice left) d = absurd d

module _ (least : ℕ) where
  pub stays : (change : Change) (context : Context) → IsDates context.budget → IsDates (changed least context change).budget
  stays (Charged k) context d = by context.budget d
    where
      by : (budget : Budget) → IsDates budget → IsDates (budget_charged k least context.config budget)
      by (Dates dates) d = tt
      by (Slice left) d = absurd d
  stays (Woken t) context d = by context.mode
    where
      by : (mode : Mode) → IsDates (woken_by mode t context).budget
      by modes.Sporadic = unblocked-stays t context d
      by modes.Bandwidth = d
  stays (Picked t) context d = by context.mode
    where
      by : (mode : Mode) → IsDates (chosen_by mode t context).budget
      by modes.Sporadic = d
      by modes.Bandwidth = unblocked-stays t context d
  stays (Ordered order) context d = by context.budget d
    where
      by : (budget : Budget) → IsDates budget → IsDates (budget_ordered order.moment order.config budget)
      by (Dates dates) d = tt
      by (Slice left) d = absurd d

  pub all-stay : (changes : List Change) (context : Context) → IsDates context.budget → IsDates (changed_by least changes context).budget
  all-stay [] context d = d
  all-stay (change ∷ changes) context d = all-stay changes (changed least context change) (stays change context d)

  pub head-within : (budget : Budget) → IsDates budget → amount_of budget ≤ length (dates_in budget)
  head-within (Dates dates) d = head-length dates
  head-within (Slice left) d = absurd d

  -- sound charges take as many dates as they say
  pub taken-length : (changes : List Change) (context : Context) → IsDates context.budget → AreSound least changes context → length (taken_by least changes context) ≡ sum (charges_of changes)
  taken-length [] context d s = refl
  taken-length (Charged k ∷ changes) context d s =
      let others = taken_by least changes (changed least context (Charged k)) in
      let now : length (take k (dates_in context.budget)) ≡ k = length-take-le k (dates_in context.budget) (omega (arith, s.0.1, head-within context.budget d)) in
      omega (
        arith,
        now,
        length-append (take k (dates_in context.budget)) others,
        taken-length changes (changed least context (Charged k)) (stays (Charged k) context d) s.1,
        sum_by-cons (λ n. n) k (charges_of changes),
      )
  taken-length (Woken t ∷ changes) context d s = taken-length changes (changed least context (Woken t)) (stays (Woken t) context d) s.1
  taken-length (Picked t ∷ changes) context d s = taken-length changes (changed least context (Picked t)) (stays (Picked t) context d) s.1
  taken-length (Ordered order ∷ changes) context d s = taken-length changes (changed least context (Ordered order)) (stays (Ordered order) context d) s.1

  pub taken-append : (xs ys : List Change) (context : Context) → taken_by least (xs ++ ys) context ≡ taken_by least xs context ++ taken_by least ys (changed_by least xs context)
  taken-append [] ys context = refl
  taken-append (x ∷ xs) ys context =
      ap (λ dates. dates_taken least x context ++ dates) (taken-append xs ys (changed least context x))
      ∙ sym (append_assoc (dates_taken least x context) (taken_by least xs (changed least context x)) (taken_by least ys (changed_by least xs (changed least context x))))

  -- the last date of one charge more, of u + 1 of the head
  pub one_charge_more : (changes : List Change) (context : Context) (u : ℕ) → IsDates context.budget → AreSound least changes context →
      u < head_amount (changed_by least changes context) →
      (sum (charges_of changes) + u < length (taken_by least (changes ++ Charged (suc u) ∷ []) context))
      × (slice_index (taken_by least (changes ++ Charged (suc u) ∷ []) context) (sum (charges_of changes) + u) ≡ head_moment (changed_by least changes context) + u)
  one_charge_more changes context u d s l =
      rw (taken-append changes (Charged (suc u) ∷ []) context) (rw (sym many) (longer, get_or-append-add before last u 0 ∙ place now.budget (all-stay changes context d) l))
    where
      now : Context
      now = changed_by least changes context

      before : List ℕ
      before = taken_by least changes context

      last : List ℕ
      last = take (suc u) (dates_in (changed_by least changes context).budget) ++ []

      many : length (taken_by least changes context) ≡ sum (charges_of changes)
      many = taken-length changes context d s

      place : (budget : Budget) → IsDates budget → u < amount_of budget → slice_index (take (suc u) (dates_in budget) ++ []) u ≡ moment_of budget + u
      place (Dates dates) d l = ap (λ xs. slice_index xs u) (append-nil (take (suc u) dates)) ∙ get_or-take (suc u) dates u 0 (omega arith) ∙ head-place dates u l
      place (Slice left) d l = absurd d

      longer : length before + u < length (before ++ last)
      longer =
          omega (
            arith,
            length-append before last,
            length-append (take (suc u) (dates_in now.budget)) [],
            length-take-le (suc u) (dates_in now.budget) (omega (arith, l, head-within now.budget (all-stay changes context d))),
          )
