-- The history of a context from the opening on, and the budget that it has at each moment.
use Rattle.std.proofs.Common.{◌≡◌, ℕ, zero, suc, ◌+◌, ◌<◌, ◌≤◌, Bool, true, false, cond, List, [], ◌∷◌, length, get_or, Option, Some, None, refl, sym, ap, subst, ◌∙◌, arith}
use Rattle.std.specs.Prelude.{filter, ◌==◌, unwrap_or}
use Rattle.std.proofs.lemmas.Bool.Decides.{nat_tests}
use Rattle.mcs_ticks.specs.Queue.{by_priority}
use Rattle.mcs_control.specs.declared.config.Order.{Order}
use Rattle.mcs_control.specs.declared.config.Mode.TheVariants.{Bandwidth}
use Rattle.mcs_control.specs.Context.{Context, head_moment, new_context}
use Rattle.mcs_system.specs.System.{System, TakesTime, thread_part, context_part, no_context, start_of}
use Rattle.mcs_core.specs.Core.{Core, context_of, opening_core, opening_contexts}
use Rattle.mcs_core.specs.Contexts.{no_server}
use Rattle.mcs_system.specs.declared.part.ContextPart.{ContextPart}
use Rattle.mcs_core.specs.declared.standing.Chosen.{Chosen}
use Rattle.mcs_core.specs.Turn.{Turn}
use Rattle.mcs_core.specs.Clock as clocks
use Rattle.mcs_core.proofs.Clock.{turn_kept, turn_of-kept, core_shown-first, core_shown-kept}
use Rattle.mcs_laws.specs.Changes.{GivesBudget, KeepsItsBudget, changed_by}
use Rattle.mcs_laws.specs.Histories as told
use Rattle.mcs_laws.proofs.Ranges.{by_recursion}
use Rattle.mcs_system.proofs.Linked.{takes_time}
use Rattle.mcs_system.specs.WellFormed.{IsWellFormed}
use Rattle.mcs_laws.proofs.Kept.{accepted-gives, keeps-new, keeps-changes}
use Rattle.mcs_laws.proofs.Taken.{IsDates}
use Rattle.mcs_laws.proofs.Traces as traces
use Rattle.mcs_laws.proofs.Traces.{carry}

-- the contexts of a core at first
opening-many : (system : System) (c number : ℕ) (parts : List ContextPart) → length (opening_contexts system c number parts) ≡ length parts
opening-many system c number [] = refl
opening-many system c number (part ∷ parts) = ap suc (opening-many system c (number + 1) parts)

opening-at : (system : System) (c number : ℕ) (parts : List ContextPart) (i : ℕ) → i < length parts → (get_or parts i no_context).core ≡ c →
    unwrap_or (get_or (opening_contexts system c number parts) i None) no_server ≡ new_context (get_or parts i no_context).config (get_or parts i no_context).mode (start_of system.threads (number + i))
opening-at system c number [] i l e = absurd (omega arith)
opening-at system c number (part ∷ parts) zero l e = by (part.core == c) refl
  where
    own : (a b : ℕ) → a ≡ b → (a == b) ≡ false → ⊥
    own a b e f = grind (arith, nat_tests)

    by : (b : Bool) → (part.core == c) ≡ b → unwrap_or (cond b (Some (new_context part.config part.mode (start_of system.threads number))) None) no_server ≡ new_context part.config part.mode (start_of system.threads (number + 0))
    by true f = ap (λ n. new_context part.config part.mode (start_of system.threads n)) (omega arith)
    by false f = absurd (own part.core c e f)
opening-at system c number (part ∷ parts) (suc i) l e =
    opening-at system c (number + 1) parts i (omega arith) e ∙ ap (λ n. new_context (get_or parts i no_context).config (get_or parts i no_context).mode (start_of system.threads n)) (omega arith)

-- a well-formed system: its signals take time, and its configurations give budgets
pub takes-time : (system : System) → IsWellFormed system → TakesTime system
takes-time = takes_time

pub gives-budgets : (system : System) → IsWellFormed system → told.GivesBudgets system
gives-budgets system well =
    record {
      contexts = λ k d l. accepted-gives system.min_budget _ (well.contexts k d l).accepted;
      orders = λ k d l. accepted-gives system.min_budget _ (well.orders k d l).accepted;
    }

module _ (system : System) (well : IsWellFormed system) (x : ℕ) (known : x < length system.contexts) where
  abbrev home : ℕ
  home = told.home_of system x

  abbrev before : ℕ → Core
  before t = clocks.core_shown system (clocks.world system t) home

  abbrev least : ℕ
  least = system.min_budget

  abbrev first : Context
  first = told.opening_context system x

  home-known : home < system.cores
  home-known = (well.contexts x no_context known).core

  before-first : before 0 ≡ opening_core system home
  before-first = core_shown-first system home home-known

  before-next : (t : ℕ) → before (suc t) ≡ (turn_kept system home t).core
  before-next t = core_shown-kept system (takes-time system well) t home home-known

  abbrev pub Uses : ℕ → Option Chosen → Context → Type 0
  Uses t = traces.Uses by_priority system home t x 0 1 1

  -- after the turn at t
  abbrev After : ℕ → Option Chosen → Context → Type 0
  After t = traces.Uses by_priority system home t x 0 1 0

  uses-next : (t : ℕ) (o : Option Chosen) (k : Context) → After t o k → Uses (suc t) o k
  uses-next t None k p = tt
  uses-next t (Some chosen) k p = λ own. ((p own).0, (p own).1, λ m d. omega (arith, (p own).2 m d))

  -- what the turn at t does to the context
  turn-at : (t : ℕ) → traces.Traced by_priority system home t x (Uses t) (After t) (told.orders_at system x t) (before t) (turn_kept system home t)
  turn-at t =
      traces.turn-traced by_priority system home t x (by_recursion (λ (order : Order). GivesBudget order.config) system.orders (gives-budgets system well).orders)
      (filter (clocks.arrives_at system t home) (clocks.world system t).mails) (before t)

  pub before-opening : context_of (before 0) x ≡ first
  before-opening =
      ap (λ (k : Core). context_of k x) before-first ∙ opening-at system home 0 system.contexts x known refl
      ∙ ap (λ n. new_context (context_part system x).config (context_part system x).mode (start_of system.threads n)) (omega arith)

  -- what is known before moment t
  pub record Life (t : ℕ) : Type 0 where
    pub many : length (before t).contexts ≡ length system.contexts
    pub keeps : KeepsItsBudget (context_of (before t) x)
    pub uses : Uses t (before t).running (context_of (before t) x)

  idle : (k : Core) → k ≡ opening_core system home → Uses 0 k.running (context_of k x)
  idle k e = rw e tt

  pub inside : (t : ℕ) → Life t → x < length (before t).contexts
  inside t life = rw life.many known

  pub life : (t : ℕ) → Life t
  life zero =
      record {
        many = ap (λ (k : Core). length k.contexts) before-first ∙ opening-many system home 0 system.contexts;
        keeps = rw before-opening (keeps-new _ _ (start_of system.threads x) ((gives-budgets system well).contexts x no_context known));
        uses = idle (before 0) before-first;
      }
  life (suc t) = next (life t)
    where
      moved : (a b : Core) → a ≡ b → Uses (suc t) b.running (context_of b x) → Uses (suc t) a.running (context_of a x)
      moved a b e p = rw e p

      next : Life t → Life (suc t)
      next l =
          let s = turn-at t in
          record {
            many = ap (λ (k : Core). length k.contexts) (before-next t) ∙ s.many ∙ l.many;
            keeps = carry KeepsItsBudget (changed_by least s.changes (context_of (before t) x)) (context_of (before (suc t)) x)
                (sym (ap (λ (k : Core). context_of k x) (before-next t) ∙ s.after (inside t l)))
                (keeps-changes least s.changes (context_of (before t) x) l.keeps (s.sound (inside t l) l.keeps l.uses));
            uses = moved (before (suc t)) (turn_kept system home t).core (before-next t)
                (uses-next t (turn_kept system home t).core.running (context_of (turn_kept system home t).core x) (s.runs (inside t l) l.keeps l.uses));
          }

  history : told.History system x
  history =
      record {
        changes = λ t. (turn-at t).changes;
        opening = before-opening;
        after = λ t. ap (λ (k : Core). context_of k x) (before-next t) ∙ (turn-at t).after (inside t (life t));
        sound = λ t. (turn-at t).sound (inside t (life t)) (life t).keeps (life t).uses;
        charges = λ t. ap (λ (made : Turn). told.charges_told system x made.rows) (turn_of-kept system home t) ∙ traces.told-charges by_priority system home t x (Uses t) (After t) (told.orders_at system x t) (before t) (turn_kept system home t) (turn-at t);
        wakes = λ t. ap (λ (made : Turn). told.wakes_told system x t made.rows) (turn_of-kept system home t) ∙ traces.told-wakes by_priority system home t x (Uses t) (After t) (told.orders_at system x t) (before t) (turn_kept system home t) (turn-at t);
        choices = λ t. ap (λ (made : Turn). told.choices_told system x t made.rows) (turn_of-kept system home t) ∙ traces.told-choices by_priority system home t x (Uses t) (After t) (told.orders_at system x t) (before t) (turn_kept system home t) (turn-at t);
        orders = λ t. (turn-at t).ordered;
      }

  uses_less : (o : Option Chosen) (k : Context) (t : ℕ) → Uses t o k → told.UsesLess system x o k
  uses_less None k t p = tt
  uses_less (Some chosen) k t p = λ own. omega (arith, (p own).1)

-- in bandwidth mode the dates of the head that are in use reach the moment
pub head-reaches : (system : System) (well : IsWellFormed system) (x t : ℕ) (known : x < length system.contexts) (chosen : Chosen) → (told.home_before system x t).running ≡ Some chosen →
    (thread_part system chosen.thread).context ≡ x → (told.context_before system x t).mode ≡ Bandwidth → IsDates (told.context_before system x t).budget →
    t ≤ head_moment (told.context_before system x t) + chosen.using + 1
head-reaches system well x t known chosen e own m d =
    let P : Option Chosen → Type 0 = λ o. traces.Uses by_priority system (told.home_of system x) t x 0 1 1 o (told.context_before system x t) in
    (subst P e (life system well x known t).uses own).2 m d

pub histories : (system : System) → IsWellFormed system → told.ContextsHaveHistories system
histories system well x known = history system well x known

pub budgets-kept : (system : System) → IsWellFormed system → told.ContextsHaveTheirBudgets system
budgets-kept system well x t known =
    let l = life system well x known t in
    record {
      keeps = l.keeps;
      uses = uses_less system well x known (told.home_before system x t).running (told.context_before system x t) t l.uses;
    }
