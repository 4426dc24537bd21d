-- The definitions at worked values, each way of each choice once.
use native.Mathlib.Omega.{arith}
use Rattle.std.specs.Prelude.{◌≡◌, ℕ, true, false, [], ◌∷◌, Some, None, Ok, Err, refl}
use Rattle.mcs_refills.specs.laws.Spacing.Step.{Charge, Unblock}
use Rattle.mcs_control.specs.declared.config.Config.{Config}
use Rattle.mcs_control.specs.declared.config.Kind.TheVariants.{Sporadic, RoundRobin}
use Rattle.mcs_control.specs.declared.config.Mode.TheVariants as modes
use Rattle.mcs_control.specs.declared.view.ContextView.{ContextView}
use Rattle.mcs_control.specs.declared.config.ControlFault.TheVariants.{ZeroBudget, BudgetTooSmall, BudgetOverPeriod, PeriodTooLong, TooManyRefills}
use Rattle.mcs_control.specs.Control.{checked, takes}
use Rattle.mcs_control.specs.Context.{Context, new_context, context_charged, context_unblocked, context_woken, context_chosen, context_ordered, context_ready, date_from, head_amount, head_moment, view_of}
use Rattle.mcs_control.specs.laws.Contexts.{consumed_from}
use Rattle.mcs_control.specs.laws.Shown.{ShowsBudget}

abbrev config : ℕ → ℕ → ℕ → Config
config budget period extra = record { budget = budget; period = period; extra = extra }

-- a sporadic context and a round robin one
abbrev sporadic : Context
sporadic = new_context (config 10 100 0) modes.Sporadic 0

abbrev round_robin : Context
round_robin = new_context (config 3 3 0) modes.Sporadic 0

abbrev bandwidth : Context
bandwidth = new_context (config 10 100 0) modes.Bandwidth 0

-- the check, fault by fault: the first has precedence over all others
zero_budget_is_first : checked 4 (config 0 0 65) ≡ Err ZeroBudget
zero_budget_is_first = refl

budget_too_small : checked 4 (config 3 2 65) ≡ Err BudgetTooSmall
budget_too_small = refl

budget_over_period : checked 4 (config 2000000000000 1999999999999 65) ≡ Err BudgetOverPeriod
budget_over_period = refl

period_too_long : checked 4 (config 4 1099511627777 65) ≡ Err PeriodTooLong
period_too_long = refl

too_many_refills : checked 4 (config 4 1099511627776 65) ≡ Err TooManyRefills
too_many_refills = refl

greatest_configuration_passes : checked 4 (config 4 1099511627776 64) ≡ Ok Sporadic
greatest_configuration_passes = refl

budget_that_is_the_period_is_round_robin : checked 3 (config 3 3 0) ≡ Ok RoundRobin
budget_that_is_the_period_is_round_robin = refl

-- a mode of a kind
sporadic_takes_bandwidth : takes Sporadic modes.Bandwidth ≡ true
sporadic_takes_bandwidth = refl

round_robin_takes_sporadic : takes RoundRobin modes.Sporadic ≡ true
round_robin_takes_sporadic = refl

round_robin_takes_no_bandwidth : takes RoundRobin modes.Bandwidth ≡ false
round_robin_takes_no_bandwidth = refl

-- a charge
small_head_joins : view_of 0 0 (context_charged 7 4 sporadic) ≡ record { context = 0; refills = record { begins = 97; amount = 10 } ∷ []; left = None; using = 0 }
small_head_joins = refl

slice_is_charged : view_of 1 2 (context_charged 1 1 round_robin) ≡ record { context = 1; refills = []; left = Some 2; using = 2 }
slice_is_charged = refl

slice_is_full_again : head_amount (context_charged 3 1 round_robin) ≡ 3
slice_is_full_again = refl

-- a wake
wake_moves_the_head : head_moment (context_woken 50 (context_charged 3 1 sporadic)) ≡ 50
wake_moves_the_head = refl

wake_leaves_a_slice : context_woken 50 round_robin ≡ round_robin
wake_leaves_a_slice = refl

wake_leaves_a_bandwidth_context : context_woken 50 bandwidth ≡ bandwidth
wake_leaves_a_bandwidth_context = refl

-- a choice
choice_moves_the_head_of_a_bandwidth_context : head_moment (context_chosen 50 (context_charged 3 1 bandwidth)) ≡ 50
choice_moves_the_head_of_a_bandwidth_context = refl

choice_leaves_a_sporadic_context : context_chosen 50 sporadic ≡ sporadic
choice_leaves_a_sporadic_context = refl

-- an order
reconfigure_after_unblock : view_of 0 0 (context_ordered 60 (config 12 40 0) (context_unblocked 50 (context_charged 3 1 sporadic)))
    ≡ record { context = 0; refills = record { begins = 60; amount = 7 } ∷ record { begins = 95; amount = 5 } ∷ []; left = None; using = 0 }
reconfigure_after_unblock = refl

order_leaves_the_mode : (context_ordered 1 (config 12 40 0) bandwidth).mode ≡ modes.Bandwidth
order_leaves_the_mode = refl

order_shortens_a_slice : head_amount (context_ordered 1 (config 2 2 0) round_robin) ≡ 2
order_shortens_a_slice = refl

greater_budget_shows_at_the_next_slice : head_amount (context_ordered 1 (config 5 5 0) round_robin) ≡ 3
greater_budget_shows_at_the_next_slice = refl

-- readiness
ready_at_the_head : context_ready 100 (context_charged 10 1 sporadic) ≡ true
ready_at_the_head = refl

not_ready_before_the_head : context_ready 99 (context_charged 10 1 sporadic) ≡ false
not_ready_before_the_head = refl

waits_with_the_date_of_the_head : date_from 99 (context_charged 10 1 sporadic) ≡ Some 100
waits_with_the_date_of_the_head = refl

waits_with_no_date_at_the_head : date_from 100 (context_charged 10 1 sporadic) ≡ None
waits_with_no_date_at_the_head = refl

slice_is_always_ready : context_ready 0 (context_charged 3 1 round_robin) ≡ true
slice_is_always_ready = refl

slice_has_the_moment_0 : head_moment round_robin ≡ 0
slice_has_the_moment_0 = refl

-- the dates in use
dates_in_use : consumed_from (Charge 3 1 ∷ Unblock 50 ∷ Charge 2 1 ∷ []) sporadic ≡ 0 ∷ 1 ∷ 2 ∷ 50 ∷ 51 ∷ []
dates_in_use = refl

slice_has_no_dates : consumed_from (Charge 3 1 ∷ Unblock 50 ∷ Charge 2 1 ∷ []) round_robin ≡ []
slice_has_no_dates = refl

-- views of a budget of 10 in 100 with two refills, 7 ticks from 3 on and 3 from 100 on; 2 ticks of
-- the head are in use
abbrev seen : ℕ → ContextView
seen using = record { context = 0; refills = record { begins = 3; amount = 7 } ∷ record { begins = 100; amount = 3 } ∷ []; left = None; using = using }

budget_is_shown : ShowsBudget (config 10 100 0) (seen 2)
budget_is_shown = record {
  refills = record { apart = (omega arith, omega arith, (omega arith, tt, tt)); all = refl; few = omega arith; short = omega arith };
  using = omega arith;
  no_slice = refl;
}

-- eight ticks in use are more than the head has
more_than_the_head_in_use : ShowsBudget (config 10 100 0) (seen 8) → ⊥
more_than_the_head_in_use h = omega (arith, h.using)

-- 7 and 3 ticks are not the budget if that is 11
another_budget_in_force : ShowsBudget (config 11 100 0) (seen 2) → ⊥
another_budget_in_force h = omega (arith, h.refills.all)

slice_is_shown : ShowsBudget (config 3 3 0) (record { context = 1; refills = []; left = Some 2; using = 1 })
slice_is_shown = record { no_refills = refl; left = 2; is = refl; some = omega arith; within = omega arith; using = omega arith }
