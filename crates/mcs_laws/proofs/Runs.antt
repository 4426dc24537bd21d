-- The ticks that a thread runs over some moments, and the dates that its context's charges take meanwhile.
use Rattle.std.proofs.Common.{◌≡◌, ℕ, zero, suc, ◌+◌, ◌-◌, ◌<◌, ◌≤◌, ◌⊎◌, inl, inr, Bool, true, false, cond, List, [], ◌∷◌, ◌++◌, length, Option, Some, None, refl, sym, ap, subst, ◌∙◌, arith}
use Rattle.std.specs.Prelude.{◌==◌, filter, sum, slice_index}
use Rattle.std.proofs.lemmas.Bool.Decides.{nat_tests}
use Rattle.std.proofs.lemmas.List.Sums.{sum_by-append}
use Rattle.mcs_refills.specs.Server.{first_date}
use Rattle.mcs_refills.specs.laws.Spacing.{IsSpaced}
use Rattle.mcs_control.specs.declared.config.Config.{Config}
use Rattle.mcs_control.specs.declared.config.Kind.TheVariants.{Sporadic, RoundRobin}
use Rattle.mcs_control.specs.declared.config.Mode.{Mode}
use Rattle.mcs_control.specs.Control.{kind_of}
use Rattle.mcs_control.specs.Context.{Context, Budget, head_amount, head_moment, moment_of, max_refills_of}
use Rattle.mcs_control.specs.Context.Budget.{Dates, Slice}
use Rattle.mcs_control.specs.laws.Contexts.{IsContext, IsWhole, IsBudgetOf}
use Rattle.mcs_control.proofs.Contexts.{equal-round_robin}
use Rattle.mcs_core.specs.declared.standing.Chosen.{Chosen}
use Rattle.mcs_core.specs.Core.{Core}
use Rattle.mcs_core.specs.Turn.{Turn}
use Rattle.mcs_core.specs.Clock as clocks
use Rattle.mcs_core.proofs.Clock.{turn_of-kept}
use Rattle.mcs_system.specs.System.{System, thread_part, context_part}
use Rattle.mcs_system.specs.WellFormed.{IsWellFormed}
use Rattle.mcs_laws.specs.Changes.{Change, charges_of, orders_of, changed_by, AreSound, taken_by}
use Rattle.mcs_laws.specs.Changes.Change.{Charged}
use Rattle.mcs_laws.specs.Histories as told
use Rattle.mcs_laws.specs.InForce.{last_config}
use Rattle.mcs_laws.specs.Places.{times_running}
use Rattle.mcs_laws.specs.Demand.{ticks_run}
use Rattle.mcs_laws.proofs.Histories.{histories, budgets-kept}
use Rattle.mcs_laws.proofs.InForce.{has-the-budget, config-changed, kind-kept}
use Rattle.mcs_laws.proofs.Kept.{sound-append}
use Rattle.mcs_laws.proofs.Traces.{Same, same, carry, charges_of-append, orders_of-append}
use Rattle.mcs_laws.proofs.Traces.Same.{Are, Differ}
use Rattle.mcs_laws.proofs.Stretches.{after-all, sound-all, changes-next, orders-none, none-at}
use Rattle.mcs_laws.proofs.Spaced.{are_steps, steps_of, stretch-spaced}
use Rattle.mcs_laws.proofs.Consumed.{IsAscending, IsFrom, ascends}
use Rattle.mcs_laws.proofs.Taken.{IsDates, one_charge_more}
use Rattle.mcs_laws.proofs.Moments.{bound, on-time, before-next}
use Rattle.mcs_laws.proofs.Spends.{used, charged_by, UsesLess, turn-spends}

-- the dates that changes without an order take ascend from the head on
taken-ascend : (least : ℕ) (changes : List Change) (config : Config) (mode : Mode) (budget : Budget) → IsDates budget → 1 ≤ config.budget → IsWhole config budget → orders_of changes ≡ [] →
    AreSound least changes (record { config = config; mode = mode; budget = budget }) → IsAscending (moment_of budget) (taken_by least changes (record { config = config; mode = mode; budget = budget }))
taken-ascend least changes config mode (Slice left) d some whole none sound = absurd d
taken-ascend least changes config mode (Dates dates) d some whole none sound =
    let steps = are_steps least changes config mode dates none sound in
    rw steps.same (ascends config.budget config.period (max_refills_of config) (steps_of least mode changes) (first_date dates) dates some whole (from_first dates) steps.proper)
  where
    from_first : (dates : List ℕ) → IsFrom (first_date dates) dates
    from_first [] = tt
    from_first (date ∷ dates) = omega arith

module _ (system : System) (well : IsWellFormed system) (x : ℕ) (known : x < length system.threads) where
  abbrev pub context : ℕ
  context = (thread_part system x).context

  abbrev pub home : ℕ
  home = told.home_of system context

  abbrev pub least : ℕ
  least = system.min_budget

  abbrev pub before : ℕ → Core
  before t = clocks.core_shown system (clocks.world system t) home

  abbrev pub running : ℕ → Option Chosen
  running t = (before t).running

  abbrev pub now : ℕ → Context
  now t = told.context_before system context t

  pub context_known : context < length system.contexts
  context_known = bound system well x known

  abbrev pub history : told.History system context
  history = histories system well context context_known

  -- the changes over this many moments from s on, and their charges
  abbrev pub changes : ℕ → ℕ → List Change
  changes s n = told.changes_from system context (histories system well context context_known) s n

  abbrev pub charged : ℕ → ℕ → ℕ
  charged s n = sum (charges_of (changes s n))

  charged-next : (s n : ℕ) → charged s (suc n) ≡ charged s n + charged_by system home (s + n) x (clocks.turn_of system home (s + n)).rows
  charged-next s n =
      let past = histories system well context context_known in
      ap (λ cs. sum (charges_of cs)) (changes-next system context past s n)
      ∙ ap sum (charges_of-append (changes s n) (past.changes (s + n)))
      ∙ sum_by-append (λ k. k) (charges_of (changes s n)) (charges_of (past.changes (s + n)))
      ∙ ap (λ ks. sum (charges_of (changes s n)) + sum ks) (sym (past.charges (s + n)))

  -- at most a tick at each moment
  pub at_most_one : (o : Option Chosen) → times_running x o ≤ 1
  at_most_one None = omega arith
  at_most_one (Some chosen) = by (chosen.thread == x)
    where
      by : (b : Bool) → cond b 1 0 ≤ 1
      by true = omega arith
      by false = omega arith

  pub at_most_all : (s n : ℕ) → ticks_run system x (s + n) ≤ ticks_run system x s + n
  at_most_all s zero = let e : s + 0 ≡ s = omega arith in rw e (omega arith)
  at_most_all s (suc n) =
      let e : s + suc n ≡ suc (s + n) = omega arith in
      rw e (omega (arith, at_most_all s n, at_most_one (running (suc (s + n)))))

  -- the running thread has used less than the head
  less : (t : ℕ) → UsesLess system home t x (running t) (before t)
  less t = by (running t) (budgets-kept system well context t context_known).uses
    where
      by : (o : Option Chosen) → told.UsesLess system context o (now t) → UsesLess system home t x o (before t)
      by None p = tt
      by (Some chosen) p = λ own. p (ap (λ y. (thread_part system y).context) own)

  abbrev pub in_use : Option Chosen → ℕ
  in_use o = used system home 0 x o

  -- the ticks used are charged or in use
  spends : (t : ℕ) → in_use (running t) + times_running x (running t) ≤ charged_by system home t x (clocks.turn_of system home t).rows + in_use (running (suc t))
  spends t =
      omega (
        arith,
        ap (λ (made : Turn). charged_by system home t x made.rows) (turn_of-kept system home t),
        turn-spends system home t x (filter (clocks.arrives_at system t home) (clocks.world system t).mails) (before t) (less t),
        ap (λ (k : Core). in_use k.running) (before-next system well x known t),
      )

  pub counted : (s n : ℕ) → ticks_run system x (s + n) + in_use (running (suc s)) ≤ ticks_run system x s + charged (suc s) n + in_use (running (suc (s + n)))
  counted s zero = let e : s + 0 ≡ s = omega arith in rw e (omega arith)
  counted s (suc n) =
      let e : s + suc n ≡ suc (s + n) = omega arith in
      let f : suc s + n ≡ suc (s + n) = omega arith in
      rw e (omega (
        arith,
        counted s n,
        charged-next (suc s) n,
        ap (λ t. charged_by system home t x (clocks.turn_of system home t).rows) f,
        spends (suc (s + n)),
      ))

  -- it runs in tick t, and has used this many ticks of the head before
  abbrev pub Runs : ℕ → ℕ → Type 0
  Runs t using = running (suc t) ≡ Some (record { thread = x; using = using })

  pub in_head : (t using : ℕ) → Runs t using → using < head_amount (now (suc t))
  in_head t using e =
      let P : Option Chosen → Type 0 = λ o. told.UsesLess system context o (now (suc t)) in
      (subst P e (budgets-kept system well context (suc t) context_known).uses) refl

  -- the date of the tick has come
  pub has_come : (t using : ℕ) → Runs t using → head_moment (now (suc t)) + using ≤ t
  has_come t using e = omega (arith, (rw e at (on-time system well x known (suc t)).runs) refl)

  pub used-by : (t using : ℕ) → Runs t using → in_use (running (suc t)) ≡ using
  used-by t using e = ap in_use e ∙ itself (x == x) refl
    where
      no : (x == x) ≡ false → ⊥
      no f = grind (arith, nat_tests)

      itself : (b : Bool) → (x == x) ≡ b → cond b using 0 ≡ using
      itself true f = refl
      itself false f = absurd (no f)

  -- whether it runs in a tick
  pub tick-of : (t : ℕ) → ((using : ℕ) × Runs t using) ⊎ (ticks_run system x (suc t) ≡ ticks_run system x t)
  tick-of t = of (running (suc t)) refl
    where
      of : (o : Option Chosen) → running (suc t) ≡ o → ((using : ℕ) × Runs t using) ⊎ (ticks_run system x (suc t) ≡ ticks_run system x t)
      of None e = inr (omega (arith, ap (times_running x) e))
      of (Some chosen) e = by (same chosen.thread x)
        where
          by : Same chosen.thread x → ((using : ℕ) × Runs t using) ⊎ (ticks_run system x (suc t) ≡ ticks_run system x t)
          by (Are f g) = inl (chosen.using, e ∙ ap (λ y. Some (record { thread = y; using = chosen.using })) g)
          by (Differ f g) = inr (omega (arith, ap (times_running x) e ∙ ap (λ b. cond b 1 0) f))

  -- a sporadic context has dates
  pub dates-at : (t : ℕ) → kind_of (context_part system context).config ≡ Sporadic → IsDates (now t).budget
  dates-at t kind = by (now t).budget (has-the-budget system well context context_known t).whole.budget
    where
      by : (budget : Budget) → IsBudgetOf (now t).config budget → IsDates budget
      by (Dates dates) h = tt
      by (Slice left) h =
          let bad : RoundRobin ≡ Sporadic = sym (equal-round_robin (now t).config h.0) ∙ kind-kept system well context context_known t ∙ kind in
          absurd (cc)

  -- within moments without an order for the context there is none, and the configuration stays
  pub quiet : (s ticks n : ℕ) → told.IsUnordered system context (suc s) (ticks - 1) → n < ticks → orders_of (changes (suc s) n) ≡ []
  quiet s ticks n unordered l =
      orders-none system context (histories system well context context_known) (suc s) n
      (λ t from to. none-at system context (suc s) (ticks - 1) unordered t from (omega (arith, to, l)))

  pub same-config : (s n : ℕ) → orders_of (changes s n) ≡ [] → (now (s + n)).config ≡ (now s).config
  same-config s n none =
      ap (λ (k : Context). k.config) (after-all system context (histories system well context context_known) s n)
      ∙ config-changed least (changes s n) (now s) ∙ ap (λ os. last_config (now s).config os) none

  -- it runs in tick s + n of a sporadic context, and no order came in between: what the charges after the turn at s take, with that tick
  module _ (s n later : ℕ) (kind : kind_of (now (suc s)).config ≡ Sporadic) (dates : IsDates (now (suc s)).budget) (none : orders_of (changes (suc s) n) ≡ []) (to : Runs (s + n) later) where
    abbrev pub last : List Change
    last = changes (suc s) n ++ Charged (suc later) ∷ []

    abbrev pub taken : List ℕ
    taken = taken_by least (changes (suc s) n ++ Charged (suc later) ∷ []) (now (suc s))

    sound : AreSound least (changes (suc s) n) (now (suc s))
    sound = sound-all system context (histories system well context context_known) (suc s) n

    after : now (suc (s + n)) ≡ changed_by least (changes (suc s) n) (now (suc s))
    after =
        let e : suc (s + n) ≡ suc s + n = omega arith in
        ap now e ∙ after-all system context (histories system well context context_known) (suc s) n

    in_head_now : later < head_amount (changed_by least (changes (suc s) n) (now (suc s)))
    in_head_now = carry (λ k. later < head_amount k) (now (suc (s + n))) (changed_by least (changes (suc s) n) (now (suc s))) after (in_head (s + n) later to)

    pub last-sound : AreSound least (changes (suc s) n ++ Charged (suc later) ∷ []) (now (suc s))
    last-sound = sound-append least (changes (suc s) n) (Charged (suc later) ∷ []) (now (suc s)) sound ((omega arith, omega (arith, in_head_now)), tt)

    pub last-unordered : orders_of (changes (suc s) n ++ Charged (suc later) ∷ []) ≡ []
    last-unordered = orders_of-append (changes (suc s) n) (Charged (suc later) ∷ []) ∙ ap (λ os. os ++ []) none

    place : (charged (suc s) n + later < length taken) × (slice_index taken (charged (suc s) n + later) ≡ head_moment (changed_by least (changes (suc s) n) (now (suc s))) + later)
    place = one_charge_more least (changes (suc s) n) (now (suc s)) later dates sound in_head_now

    -- its date is among them, and has come
    pub long : charged (suc s) n + later < length taken
    long = place.0

    pub there : slice_index taken (charged (suc s) n + later) ≤ s + n
    there = omega (arith, place.1, ap head_moment after, has_come (s + n) later to)

    whole : IsContext (now (suc s))
    whole = (has-the-budget system well context context_known (suc s)).whole

    pub spaced : IsSpaced (now (suc s)).config.budget (now (suc s)).config.period taken
    spaced = stretch-spaced least (changes (suc s) n ++ Charged (suc later) ∷ []) (now (suc s)) whole kind last-unordered last-sound

    pub some_budget : 1 ≤ (now (suc s)).config.budget
    some_budget = (budgets-kept system well context (suc s) context_known).keeps.config.some

    pub ascending : IsAscending (head_moment (now (suc s))) taken
    ascending =
        taken-ascend least (changes (suc s) n ++ Charged (suc later) ∷ []) (now (suc s)).config (now (suc s)).mode (now (suc s)).budget dates some_budget
        (budgets-kept system well context (suc s) context_known).keeps.whole last-unordered last-sound
