-- A thread in bandwidth mode runs at most its budget within a period: each tick that it runs is a date that its charge takes.
use Rattle.std.proofs.Common.{◌≡◌, ℕ, zero, suc, ◌+◌, ◌-◌, ◌<◌, ◌≤◌, ◌⊎◌, inl, inr, true, List, [], ◌∷◌, length, refl, ap, subst, ◌∙◌, arith}
use Rattle.std.specs.Prelude.{slice_index}
use Rattle.std.proofs.lemmas.Bool.{cases_lt}
use Rattle.mcs_control.specs.declared.config.Config.{Config}
use Rattle.mcs_control.specs.declared.config.Kind.{Kind}
use Rattle.mcs_control.specs.declared.config.Kind.TheVariants as kinds
use Rattle.mcs_control.specs.declared.config.Mode.{Mode}
use Rattle.mcs_control.specs.declared.config.Mode.TheVariants.{Sporadic, Bandwidth}
use Rattle.mcs_control.specs.Control.{kind_of, takes, IsModeOf}
use Rattle.mcs_control.specs.Context.{Context, Budget, head_moment, amount_of, moment_of, woken_by, chosen_by, max_refills_of, dates_in}
use Rattle.mcs_control.specs.Context.Budget.{Dates, Slice}
use Rattle.mcs_control.specs.laws.Contexts.{IsWhole}
use Rattle.mcs_system.specs.System.{System, thread_part, context_part, no_context}
use Rattle.mcs_system.specs.WellFormed.{IsWellFormed}
use Rattle.mcs_laws.specs.Changes.{Change, orders_of, changed, changed_by, AreSound, taken_by}
use Rattle.mcs_laws.specs.Changes.Change.{Charged, Woken, Picked, Ordered}
use Rattle.mcs_laws.specs.Histories as told
use Rattle.mcs_laws.specs.Demand.{ticks_run}
use Rattle.mcs_laws.specs.Bandwidth.{StretchesAreWithinBandwidth, BandwidthIsBounded}
use Rattle.mcs_laws.proofs.Histories.{budgets-kept, head-reaches}
use Rattle.mcs_laws.proofs.InForce.{in-force, kind-kept}
use Rattle.mcs_laws.proofs.Stretches.{none-at, orders-none, never-unordered, file-in-force}
use Rattle.mcs_laws.proofs.Spaced.{are_steps, steps_of}
use Rattle.mcs_laws.proofs.Consumed.{IsBefore, ascending-at, no_sooner, before-at}
use Rattle.mcs_laws.proofs.Taken.{IsDates, head-place, head-within}
use Rattle.mcs_laws.proofs.Moments.{bound}
use Rattle.mcs_laws.proofs.Runs as runs

-- no change changes the mode
woken-mode : (t : ℕ) (mode : Mode) (context : Context) → (woken_by mode t context).mode ≡ context.mode
woken-mode t Sporadic context = refl
woken-mode t Bandwidth context = refl

chosen-mode : (t : ℕ) (mode : Mode) (context : Context) → (chosen_by mode t context).mode ≡ context.mode
chosen-mode t Sporadic context = refl
chosen-mode t Bandwidth context = refl

mode-changed : (least : ℕ) (changes : List Change) (context : Context) → (changed_by least changes context).mode ≡ context.mode
mode-changed least [] context = refl
mode-changed least (Charged k ∷ changes) context = mode-changed least changes (changed least context (Charged k))
mode-changed least (Woken t ∷ changes) context = mode-changed least changes (changed least context (Woken t)) ∙ woken-mode t context.mode context
mode-changed least (Picked t ∷ changes) context = mode-changed least changes (changed least context (Picked t)) ∙ chosen-mode t context.mode context
mode-changed least (Ordered order ∷ changes) context = mode-changed least changes (changed least context (Ordered order))

-- the dates that changes without an order take come no sooner than the date in their place before them
taken-no_sooner : (least : ℕ) (changes : List Change) (config : Config) (mode : Mode) (budget : Budget) → IsDates budget → IsWhole config budget → orders_of changes ≡ [] →
    AreSound least changes (record { config = config; mode = mode; budget = budget }) → IsBefore (dates_in budget) (taken_by least changes (record { config = config; mode = mode; budget = budget }))
taken-no_sooner least changes config mode (Slice left) d whole none sound = absurd d
taken-no_sooner least changes config mode (Dates dates) d whole none sound =
    let steps = are_steps least changes config mode dates none sound in
    rw steps.same (no_sooner config.budget config.period (max_refills_of config) (steps_of least mode changes) dates whole steps.proper)

-- the date in place u of the head
place-in : (budget : Budget) (u : ℕ) → IsDates budget → u < amount_of budget → slice_index (dates_in budget) u ≡ moment_of budget + u
place-in (Dates dates) u d l = head-place dates u l
place-in (Slice left) u d l = absurd d

module _ (system : System) (well : IsWellFormed system) (x : ℕ) (known : x < length system.threads) (is_mode : (context_part system (thread_part system x).context).mode ≡ Bandwidth) where
  abbrev context : ℕ
  context = (thread_part system x).context

  abbrev least : ℕ
  least = system.min_budget

  abbrev now : ℕ → Context
  now t = told.context_before system context t

  context_known : context < length system.contexts
  context_known = runs.context_known system well x known

  -- a round robin context has another mode
  kind : kind_of (context_part system context).config ≡ kinds.Sporadic
  kind = by (kind_of (context_part system context).config) refl (well.contexts context no_context context_known).mode
    where
      by : (kind : Kind) → kind_of (context_part system context).config ≡ kind → IsModeOf kind (context_part system context).mode → kind_of (context_part system context).config ≡ kinds.Sporadic
      by kinds.Sporadic e m = e
      by kinds.RoundRobin e m = let no : takes kinds.RoundRobin Bandwidth ≡ true = subst (λ (mode : Mode). takes kinds.RoundRobin mode ≡ true) is_mode m in absurd (cc)

  kind-now : (t : ℕ) → kind_of (now t).config ≡ kinds.Sporadic
  kind-now t = kind-kept system well context context_known t ∙ kind

  dates-now : (t : ℕ) → IsDates (now t).budget
  dates-now t = runs.dates-at system well x known t kind

  mode-now : (t : ℕ) → (now t).mode ≡ Bandwidth
  mode-now zero = ap (λ (k : Context). k.mode) (runs.history system well x known).opening ∙ is_mode
  mode-now (suc t) =
      let past = runs.history system well x known in
      ap (λ (k : Context). k.mode) (past.after t) ∙ mode-changed least (past.changes t) (now t) ∙ mode-now t

  abbrev Runs : ℕ → ℕ → Type 0
  Runs t using = runs.Runs system well x known t using

  -- it runs in tick t, so that is no later than its date
  no_later : (t using : ℕ) → Runs t using → t ≤ head_moment (now (suc t)) + using
  no_later t using e = omega (arith, head-reaches system well context (suc t) context_known (record { thread = x; using = using }) e refl (mode-now (suc t)) (dates-now (suc t)))

  -- two ticks that it runs, fewer than a period apart, without an order between them: from the one to the other it runs for at most its budget
  module _ (s n using later : ℕ) (from : Runs s using) (to : Runs (s + n) later) (none : orders_of (runs.changes system well x known (suc s) n) ≡ []) (near : n < (now (suc s)).config.period) where
    abbrev taken : List ℕ
    taken = runs.taken system well x known s n later (kind-now (suc s)) (dates-now (suc s)) none to

    abbrev paid : ℕ
    paid = runs.charged system well x known (suc s) n

    -- the date of the former tick is there
    here : using < length taken → s ≤ slice_index taken using
    here l =
        omega (
          arith,
          no_later s using from,
          place-in (now (suc s)).budget using (dates-now (suc s)) (runs.in_head system well x known s using from),
          before-at (dates_in (now (suc s)).budget) taken using
              (taken-no_sooner least (runs.last system well x known s n later (kind-now (suc s)) (dates-now (suc s)) none to) (now (suc s)).config (now (suc s)).mode (now (suc s)).budget (dates-now (suc s))
              (budgets-kept system well context (suc s) context_known).keeps.whole
              (runs.last-unordered system well x known s n later (kind-now (suc s)) (dates-now (suc s)) none to)
              (runs.last-sound system well x known s n later (kind-now (suc s)) (dates-now (suc s)) none to))
              (omega (arith, runs.in_head system well x known s using from, head-within least (now (suc s)).budget (dates-now (suc s)))) l,
        )

    near-ticks : ticks_run system x (s + n) < ticks_run system x s + (now (suc s)).config.budget
    near-ticks = by (cases_lt (ticks_run system x (s + n)) (ticks_run system x s + (now (suc s)).config.budget))
      where
        long : paid + later < length taken
        long = runs.long system well x known s n later (kind-now (suc s)) (dates-now (suc s)) none to

        apart : using + (now (suc s)).config.budget ≤ paid + later → ⊥
        apart l =
            omega (
              arith,
              near,
              runs.there system well x known s n later (kind-now (suc s)) (dates-now (suc s)) none to,
              here (omega (arith, l, long)),
              runs.spaced system well x known s n later (kind-now (suc s)) (dates-now (suc s)) none to using (omega (arith, l, long)),
              ascending-at (head_moment (now (suc s))) taken (using + (now (suc s)).config.budget) (paid + later) (runs.ascending system well x known s n later (kind-now (suc s)) (dates-now (suc s)) none to) l long,
            )

        by : (ticks_run system x (s + n) < ticks_run system x s + (now (suc s)).config.budget) ⊎ (ticks_run system x s + (now (suc s)).config.budget ≤ ticks_run system x (s + n)) →
            ticks_run system x (s + n) < ticks_run system x s + (now (suc s)).config.budget
        by (inl less) = less
        by (inr more) = absurd (apart (omega (arith, more, runs.counted system well x known s n, runs.used-by system well x known s using from, runs.used-by system well x known (s + n) later to)))

  -- over ticks without an order, each stretch of a period or less, by the configuration after the turn at `base`
  module _ (base ticks : ℕ) (unordered : told.IsUnordered system context (suc base) (ticks - 1)) where
    abbrev config : Config
    config = (now (suc base)).config

    -- no order comes from tick to tick, and the configuration stays
    none-from : (s n : ℕ) → base ≤ s → s + n < base + ticks → orders_of (runs.changes system well x known (suc s) n) ≡ []
    none-from s n low high =
        orders-none system context (runs.history system well x known) (suc s) n
        (λ t from to. none-at system context (suc base) (ticks - 1) unordered t (omega (arith, low, from)) (omega (arith, high, to)))

    steady : (k : ℕ) → k < ticks → (now (suc (base + k))).config ≡ config
    steady k l =
        let e : suc (base + k) ≡ suc base + k = omega arith in
        ap (λ m. (now m).config) e ∙ runs.same-config system well x known (suc base) k (none-from base k (omega arith) (omega (arith, l)))

    -- from a tick that it runs on
    from-run : (k using : ℕ) → Runs (base + k) using → (n : ℕ) → n ≤ config.period → k + n ≤ ticks → ticks_run system x (base + k + n) ≤ ticks_run system x (base + k) + config.budget
    from-run k using r zero l m = let e : base + k + 0 ≡ base + k = omega arith in rw e (omega arith)
    from-run k using r (suc n) l m = by (from-run k using r n (omega (arith, l)) (omega (arith, m))) (runs.tick-of system well x known (base + k + n))
      where
        next : base + k + suc n ≡ suc (base + k + n)
        next = omega arith

        same : (now (suc (base + k))).config ≡ config
        same = steady k (omega (arith, m))

        by : ticks_run system x (base + k + n) ≤ ticks_run system x (base + k) + config.budget →
            ((later : ℕ) × runs.Runs system well x known (base + k + n) later) ⊎ (ticks_run system x (suc (base + k + n)) ≡ ticks_run system x (base + k + n)) →
            ticks_run system x (base + k + suc n) ≤ ticks_run system x (base + k) + config.budget
        by i (inl (later, to)) =
            omega (
              arith,
              ap (ticks_run system x) next,
              runs.at_most_one system well x known (runs.running system well x known (suc (base + k + n))),
              ap (λ (c : Config). c.budget) same,
              near-ticks (base + k) n using later r to (none-from (base + k) n (omega arith) (omega (arith, m))) (omega (arith, l, ap (λ (c : Config). c.period) same)),
            )
        by i (inr still) = omega (arith, ap (ticks_run system x) next, still, i)

    -- and from any tick on
    stretch : (n k : ℕ) → n ≤ config.period → k + n ≤ ticks → ticks_run system x (base + k + n) ≤ ticks_run system x (base + k) + config.budget
    stretch zero k l m = let e : base + k + 0 ≡ base + k = omega arith in rw e (omega arith)
    stretch (suc n) k l m = by (stretch n (suc k) (omega (arith, l)) (omega (arith, m))) (runs.tick-of system well x known (base + k))
      where
        first : base + suc k ≡ suc (base + k)
        first = omega arith

        last : base + suc k + n ≡ base + k + suc n
        last = omega arith

        by : ticks_run system x (base + suc k + n) ≤ ticks_run system x (base + suc k) + config.budget →
            ((using : ℕ) × runs.Runs system well x known (base + k) using) ⊎ (ticks_run system x (suc (base + k)) ≡ ticks_run system x (base + k)) →
            ticks_run system x (base + k + suc n) ≤ ticks_run system x (base + k) + config.budget
        by i (inl (using, r)) = from-run k using r (suc n) l m
        by i (inr still) = omega (arith, ap (ticks_run system x) first, ap (ticks_run system x) last, still, i)

    all : ticks ≤ config.period → ticks_run system x (base + ticks) ≤ ticks_run system x base + config.budget
    all l =
        let e : base + 0 ≡ base = omega arith in
        omega (arith, stretch ticks 0 l (omega arith), ap (ticks_run system x) e, ap (λ m. ticks_run system x (m + ticks)) e)

pub stretches-within-bandwidth : (system : System) → IsWellFormed system → StretchesAreWithinBandwidth system
stretches-within-bandwidth system well x from ticks is within =
    let force = in-force system well (thread_part system x).context (bound system well x is.known) (suc from) in
    subst (λ (c : Config). ticks_run system x (from + ticks) ≤ ticks_run system x from + c.budget) force
    (all system well x is.known is.mode from ticks within.unordered (omega (arith, within.short, ap (λ (c : Config). c.period) force)))

-- if no order names the context, the configuration in force is the file's
pub bandwidth-bounded : (system : System) → IsWellFormed system → BandwidthIsBounded system
bandwidth-bounded system well x from ticks has l =
    let context = (thread_part system x).context in
    let same = file-in-force system well context (suc from) (bound system well x has.known) has.unordered in
    subst (λ (c : Config). ticks_run system x (from + ticks) ≤ ticks_run system x from + c.budget) same
    (all system well x has.known has.mode from ticks (never-unordered system context (suc from) (ticks - 1) has.unordered) (omega (arith, l, ap (λ (c : Config). c.period) same)))
