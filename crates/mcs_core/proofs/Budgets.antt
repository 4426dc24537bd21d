-- Budgets that are kept: by charges, unblocking and orders; and their heads.
use Rattle.std.proofs.Common.{ℕ, zero, suc, ◌^◌, ◌≤◌, List, [], ◌∷◌, ◌++◌, length, arith}
use Rattle.std.specs.Prelude.{min, max, IsOk}
use Rattle.std.specs.List.{range_with_len}
use Rattle.std.proofs.lemmas.Bool.Decides.{nat_tests}
use Rattle.mcs_refills.specs.Server.{first_date}
use Rattle.mcs_refills.specs.Server as server
use Rattle.mcs_refills.proofs.Spaces.{kept-charged, kept-unblocked, kept-reconfigured}
use Rattle.mcs_control.specs.laws.Contexts.{IsWhole}
use Rattle.mcs_control.specs.declared.config.Config.{Config}
use Rattle.mcs_control.specs.Control.{checked}
use Rattle.mcs_control.specs.Context.{Context, Budget, max_refills_of, amount_of, head_moment, context_charged, context_unblocked, context_ordered}
use Rattle.mcs_control.specs.Context.Budget.{Dates, Slice}

-- what a configuration that passed its check is like
pub record IsAccepted (min_budget : ℕ) (config : Config) : Type 0 where
  pub some : 1 ≤ config.budget
  pub enough : min_budget ≤ config.budget
  pub within : config.budget ≤ config.period
  pub short : config.period ≤ 2 ^ 40
  pub few : config.extra ≤ 64

pub accepted-is : (min_budget : ℕ) (config : Config) → IsOk (checked min_budget config) → IsAccepted min_budget config
accepted-is m config h = record {
  some = grind (arith, nat_tests);
  enough = grind (arith, nat_tests);
  within = grind (arith, nat_tests);
  short = grind (arith, nat_tests);
  few = grind (arith, nat_tests);
}

-- dates that are some have a head that is some
pub head-some : (date : ℕ) (dates : List ℕ) → 1 ≤ server.head_amount (date ∷ dates)
head-some date dates = grind arith

pub kept-head : (config : Config) (budget : Budget) → 1 ≤ config.budget → IsWhole config budget → 1 ≤ amount_of budget
kept-head config (Dates []) l h = absurd (omega (arith, h.all))
kept-head config (Dates (date ∷ dates)) l h = head-some date dates
kept-head config (Slice left) l h = h.0

pub charged-kept : (k min_budget : ℕ) (context : Context) → 1 ≤ k → 1 ≤ context.config.budget → IsWhole context.config context.budget →
    IsWhole context.config (context_charged k min_budget context).budget
charged-kept k min_budget context p some h = by context.budget h
  where
    by : (budget : Budget) → IsWhole context.config budget → IsWhole context.config (context_charged k min_budget (record { config = context.config; mode = context.mode; budget = budget })).budget
    by (Dates dates) h = (kept-charged context.config.budget context.config.period (max_refills_of context.config) k min_budget dates p h).1
    by (Slice left) h = (grind (arith, nat_tests, h.0), grind (arith, nat_tests, h.1))

pub unblocked-kept : (t : ℕ) (context : Context) → IsWhole context.config context.budget → IsWhole context.config (context_unblocked t context).budget
unblocked-kept t context h = by context.budget h
  where
    by : (budget : Budget) → IsWhole context.config budget → IsWhole context.config (context_unblocked t (record { config = context.config; mode = context.mode; budget = budget })).budget
    by (Dates dates) h = kept-unblocked context.config.budget context.config.period t dates h
    by (Slice left) h = h

pub ordered-kept : (t min_budget : ℕ) (config : Config) (context : Context) → IsAccepted min_budget config → IsWhole context.config context.budget →
    IsWhole config (context_ordered t config context).budget
ordered-kept t min_budget config context a h = by context.budget h
  where
    by : (budget : Budget) → IsWhole context.config budget → IsWhole config (context_ordered t config (record { config = context.config; mode = context.mode; budget = budget })).budget
    by (Dates dates) h = kept-reconfigured config.budget config.period t dates a.within
    by (Slice left) h = (omega (arith, h.0, a.some), omega arith)

-- after an order the head is at most the later of its date before and the order's moment
pub ordered-early : (t min_budget : ℕ) (config : Config) (context : Context) → t ≤ 2 ^ 40 → 1 ≤ config.budget → 1 ≤ context.config.budget → IsWhole context.config context.budget →
    head_moment context ≤ 2 ^ 40 → head_moment (context_ordered t config context) ≤ 2 ^ 40
ordered-early t min_budget config context l some some_now h early = by context.budget h early
  where
    by : (budget : Budget) → IsWhole context.config budget → head_moment (record { config = context.config; mode = context.mode; budget = budget }) ≤ 2 ^ 40 →
        head_moment (context_ordered t config (record { config = context.config; mode = context.mode; budget = budget })) ≤ 2 ^ 40
    by (Dates []) h early = absurd (omega (arith, h.all))
    by (Dates (date ∷ dates)) h early = first (min (server.head_amount (date ∷ dates)) config.budget) _ (omega (arith, head-some date dates, some)) (omega arith)
      where
        first : (n : ℕ) (more : List ℕ) → 1 ≤ n → max date t ≤ 2 ^ 40 → first_date (range_with_len (max date t) n ++ more) ≤ 2 ^ 40
        first zero more p q = absurd (omega arith)
        first (suc n) more p q = q
    by (Slice left) h early = omega arith

-- and at most as many as there are dates
pub head-most : (dates : List ℕ) → server.head_amount dates ≤ length dates
head-most [] = omega arith
head-most (date ∷ dates) = grind (arith, head-most dates)

pub kept-head-most : (config : Config) (budget : Budget) → IsWhole config budget → amount_of budget ≤ config.budget
kept-head-most config (Dates dates) h = omega (arith, head-most dates, h.all)
kept-head-most config (Slice left) h = h.1
