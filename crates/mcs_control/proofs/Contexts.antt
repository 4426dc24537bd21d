-- Contexts stay in good order.
use Rattle.std.proofs.Common.{◌≡◌, ℕ, ◌-◌, ◌<◌, ◌≤◌, List, [], ◌∷◌, ◌++◌, take, refl, ap, ◌∙◌, arith}
use Rattle.std.specs.Prelude.{◌==◌}
use lib.Seq.{take-nil}
use Rattle.std.proofs.lemmas.Bool.{cond_both, eqb-true}
use Rattle.std.proofs.lemmas.Bool.Decides.{nat_tests}
use Rattle.mcs_refills.specs.Server.{Server, dates_from, charged, with_enough, unblocked}
use Rattle.mcs_refills.specs.Slice.{slice_charged}
use Rattle.mcs_refills.specs.laws.Servers.{IsServer}
use Rattle.mcs_refills.specs.laws.Spacing.{Step, AreProper, IsSpaced, consumed}
use Rattle.mcs_refills.specs.laws.Spacing.Step.{Charge, Unblock}
use Rattle.mcs_refills.proofs.Servers.{servers-kept}
use Rattle.mcs_refills.proofs.Spaces.{consumed-spaced}
use Rattle.mcs_control.specs.declared.config.Config.{Config}
use Rattle.mcs_control.specs.declared.config.Kind.TheVariants as kind
use Rattle.mcs_control.specs.declared.config.Mode.{Mode}
use Rattle.mcs_control.specs.declared.config.Mode.TheVariants as modes
use Rattle.mcs_control.specs.Control.{IsConfig, kind_of}
use Rattle.mcs_control.specs.Context.{Context, Budget, first_budget, budget_charged, budget_unblocked, budget_ordered, context_unblocked, woken_by, chosen_by, amount_of, max_refills_of}
use Rattle.mcs_control.specs.Context.Budget.{Dates, Slice}
use Rattle.mcs_control.specs.laws.Contexts.{IsBudgetOf, IsContext, ContextsAreKept, ConsumedAreSpaced, consumed_from}

-- the kind decides how the budget and the period compare
module _ (config : Config) where
  pub less-sporadic : config.budget < config.period → kind_of config ≡ kind.Sporadic
  less-sporadic l = grind (arith, nat_tests)

  pub equal-round_robin : config.budget ≡ config.period → kind_of config ≡ kind.RoundRobin
  equal-round_robin e = grind (arith, nat_tests)

  sporadic-less : config.budget ≤ config.period → kind_of config ≡ kind.Sporadic → config.budget < config.period
  sporadic-less l e = grind (arith, nat_tests)

  round_robin-equal : kind_of config ≡ kind.RoundRobin → config.budget ≡ config.period
  round_robin-equal e = grind (arith, nat_tests)

-- a sporadic context's dates are a server's
abbrev pub server_of : Config → List ℕ → Server
server_of config dates = record { dates = dates; period = config.period; max_refills = max_refills_of config; room = 0 }

from-server : (config : Config) (dates : List ℕ) → config.budget < config.period → IsServer config.budget (server_of config dates) → IsBudgetOf config (Dates dates)
from-server config dates l h = (l, h.kept, h.few)

pub to-server : (config : Config) (dates : List ℕ) → IsBudgetOf config (Dates dates) → IsServer config.budget (server_of config dates)
to-server config dates h = record { kept = h.1; few = h.2 }

new-kept : (config : Config) (at : ℕ) → IsConfig config → IsBudgetOf config (first_budget (kind_of config) at config.budget)
new-kept config at h =
    cond_both (config.budget == config.period) kind.RoundRobin kind.Sporadic (λ k. IsBudgetOf config (first_budget k at config.budget)) (λ e. (eqb-true config.budget config.period e, h.some, omega arith)) (λ e.
    let l : config.budget < config.period = grind (arith, nat_tests, h.within) in
    from-server config (dates_from at config.budget) l (servers-kept.0 at config.budget config.period (max_refills_of config) 0 h.within (omega arith)))

slice-charged : (k budget left : ℕ) → 1 ≤ left → left ≤ budget → (1 ≤ slice_charged k budget left) × (slice_charged k budget left ≤ budget)
slice-charged k budget left p l = grind (arith, nat_tests)

charged-kept : (k min_budget : ℕ) (config : Config) (budget : Budget) → IsBudgetOf config budget → 1 ≤ k → k ≤ amount_of budget → IsBudgetOf config (budget_charged k min_budget config budget)
charged-kept k min_budget config (Dates dates) h p l = from-server config _ h.0 (servers-kept.1 k min_budget config.budget (server_of config dates) (to-server config dates h) p l)
charged-kept k min_budget config (Slice left) h p l = let s = slice-charged k config.budget left h.1 h.2 in (h.0, s.0, s.1)

unblocked-kept : (t : ℕ) (config : Config) (budget : Budget) → IsBudgetOf config budget → IsBudgetOf config (budget_unblocked t budget)
unblocked-kept t config (Dates dates) h = from-server config _ h.0 (servers-kept.2 t config.budget (server_of config dates) (to-server config dates h))
unblocked-kept t config (Slice left) h = h

ordered-kept : (t : ℕ) (next config : Config) (budget : Budget) → IsBudgetOf config budget → IsConfig next → kind_of next ≡ kind_of config → IsBudgetOf next (budget_ordered t next budget)
ordered-kept t next config (Dates dates) h n e =
    from-server next _ (sporadic-less next n.within (e ∙ less-sporadic config h.0)) (servers-kept.3 t next.budget next.period (max_refills_of next) (server_of config dates) n.within (omega arith))
ordered-kept t next config (Slice left) h n e = (round_robin-equal next (e ∙ equal-round_robin config h.0), omega (arith, h.1, n.some), omega arith)

unblocks : (t : ℕ) (context : Context) → IsContext context → IsContext (context_unblocked t context)
unblocks t context h = record { config = h.config; budget = unblocked-kept t context.config context.budget h.budget }

woken-kept : (t : ℕ) (mode : Mode) (context : Context) → IsContext context → IsContext (woken_by mode t context)
woken-kept t modes.Sporadic context h = unblocks t context h
woken-kept t modes.Bandwidth context h = h

chosen-kept : (t : ℕ) (mode : Mode) (context : Context) → IsContext context → IsContext (chosen_by mode t context)
chosen-kept t modes.Sporadic context h = h
chosen-kept t modes.Bandwidth context h = unblocks t context h

pub contexts-kept : ContextsAreKept
contexts-kept = (
  λ config mode at h. record { config = h; budget = new-kept config at h },
  λ k min_budget context h p l. record { config = h.config; budget = charged-kept k min_budget context.config context.budget h.budget p l },
  unblocks,
  λ t context h. woken-kept t context.mode context h,
  λ t context h. chosen-kept t context.mode context h,
  λ t next context h n e. record { config = n; budget = ordered-kept t next context.config context.budget h.budget n e },
)

-- the dates taken from a sporadic context are those taken from its server
consumed-same : (config : Config) (mode : Mode) (steps : List Step) (dates : List ℕ) →
    consumed config.period (max_refills_of config) steps dates ≡ consumed_from steps (record { config = config; mode = mode; budget = Dates dates })
consumed-same config mode [] dates = refl
consumed-same config mode (Charge k min_budget ∷ steps) dates = ap (λ xs. take k dates ++ xs) (consumed-same config mode steps (with_enough min_budget (charged k config.period (max_refills_of config) dates)))
consumed-same config mode (Unblock t ∷ steps) dates = consumed-same config mode steps (unblocked t dates)

-- and a slice gives no dates
consumed-none : (config : Config) (mode : Mode) (steps : List Step) (left : ℕ) → consumed_from steps (record { config = config; mode = mode; budget = Slice left }) ≡ []
consumed-none config mode [] left = refl
consumed-none config mode (Charge k min_budget ∷ steps) left =
    let later = consumed_from steps (record { config = config; mode = mode; budget = Slice (slice_charged k config.budget left) }) in
    ap (λ xs. xs ++ later) (take-nil k) ∙ consumed-none config mode steps (slice_charged k config.budget left)
consumed-none config mode (Unblock t ∷ steps) left = consumed-none config mode steps left

spaced : (config : Config) (mode : Mode) (budget : Budget) (steps : List Step) → IsContext (record { config = config; mode = mode; budget = budget }) → AreProper steps →
    IsSpaced config.budget config.period (consumed_from steps (record { config = config; mode = mode; budget = budget }))
spaced config mode (Dates dates) steps h p =
    rw (← consumed-same config mode steps dates) (consumed-spaced config.budget config.period (max_refills_of config) steps dates h.budget.1 p)
spaced config mode (Slice left) steps h p = rw (consumed-none config mode steps left) (λ j l. absurd (omega arith))

pub consumed-are-spaced : ConsumedAreSpaced
consumed-are-spaced context steps h p = spaced context.config context.mode context.budget steps h p
