-- The accounts of one core.
use Rattle.std.proofs.Common.{◌≡◌, ℕ, ◌+◌, ◌<◌, ◌≤◌, List, [], ◌∷◌, length, get_or, set, map, refl, sym, ap, subst, ◌∙◌, Option, Some, None, arith}
use Rattle.std.proofs.Math.Seq.{map-set_same}
use Rattle.std.proofs.lemmas.Bool.Decides.{nat_tests}
use Rattle.std.proofs.lemmas.Grind.{common_steps}
use Rattle.std.proofs.lemmas.List.{length-map, length-set, get_or-map, get_or_default, get_or-set_other, ext_get_or}
use Rattle.mcs_ticks.specs.declared.row.What.{What}
use Rattle.mcs_ticks.specs.declared.row.What.TheVariants as row
use Rattle.mcs_system.specs.declared.part.ThreadPart.{ThreadPart}
use Rattle.mcs_system.specs.System.{System, thread_part, core_of}
use Rattle.mcs_report.specs.declared.account.Account.{Account}
use Rattle.mcs_report.specs.Tally.{no_account, opened, begun, stopped, responded, changed_at, told_at}
use Rattle.mcs_report.specs.Places.{threads_on, place_of, place_on}
use Rattle.mcs_report.specs.CoreTally.{opened_on}
use Rattle.mcs_report.specs.stored.CoreTally.{reopened}
use Rattle.mcs_report.proofs.Alone.{reopened-stopped}
use Rattle.mcs_report.proofs.Homes.{place-within}

-- a thread with a place on a core
pub record IsPlaced (system : System) (c x place : ℕ) : Type 0 where
  pub known : x < length system.threads
  pub home : core_of system (thread_part system x) ≡ c
  pub at : place_of system x ≡ place

pub placed : (system : System) (c x place : ℕ) → place_on system c x ≡ Some place → IsPlaced system c x place
placed system c x place e = record { known = grind (arith, nat_tests, e); home = grind (arith, nat_tests, e); at = grind (arith, nat_tests, e) }

changed-reopened : (o : Option ℕ) (f : Account → Account) (accounts : List Account) → ((a : Account) → reopened (f a) ≡ reopened a)
    → map reopened (changed_at o f accounts) ≡ map reopened accounts
changed-reopened None f accounts same = refl
changed-reopened (Some place) f accounts same =
    map-set_same reopened accounts place (f (get_or accounts place no_account)) no_account (same (get_or accounts place no_account))

pub told-reopened : (place : ℕ → Option ℕ) (h m : ℕ) (what : What) (accounts : List Account) → map reopened (told_at place h m what accounts) ≡ map reopened accounts
told-reopened place h m (row.Run x) accounts = changed-reopened (place x) (begun m) accounts (λ a. refl)
told-reopened place h m (row.Stop x cause charged until) accounts = changed-reopened (place x) (stopped h m cause until) accounts (reopened-stopped h m cause until)
told-reopened place h m (row.Round x number response) accounts = changed-reopened (place x) (responded response) accounts (λ a. refl)
told-reopened place h m what accounts = refl

-- so the accounts are always those of the core's threads
module _ (system : System) (c : ℕ) (accounts : List Account) (own : map reopened accounts ≡ opened_on system c) where
  pub accounts-length : length accounts ≡ length (threads_on system c)
  accounts-length = sym (length-map accounts reopened) ∙ ap length own ∙ length-map (threads_on system c) _

  pub accounts-within : (x place : ℕ) → place_on system c x ≡ Some place → place < length accounts
  accounts-within x place e =
      let p = placed system c x place e in
      let within : place_of system x < length (threads_on system c) = subst (λ k. place_of system x < length (threads_on system k)) p.home (place-within system x p.known) in
      omega (arith, accounts-length, within, p.at)

-- clearing: the first n accounts are as before the first row, the others as they were
pub record AreReopened (before now : List Account) (n : ℕ) : Type 0 where
  pub many : length now ≡ length before
  pub first : (k : ℕ) → k < n → get_or now k no_account ≡ reopened (get_or before k no_account)
  pub rest : (k : ℕ) → n ≤ k → get_or now k no_account ≡ get_or before k no_account

pub reopened-none : (accounts : List Account) → AreReopened accounts accounts 0
reopened-none accounts = record { many = refl; first = λ k l. absurd (omega arith); rest = λ k l. refl }

pub reopened-more : (before now : List Account) (n : ℕ) (a other : Account) → AreReopened before now n → n < length now → a ≡ reopened (get_or now n other)
    → AreReopened before (set now n a) (n + 1)
reopened-more before now n a other are within is =
    record {
      many = length-set now n a ∙ are.many;
      first = λ k l. grind (arith, common_steps, is, are.first k, are.rest n (omega arith), get_or_default now n other no_account within);
      rest = λ k l. get_or-set_other now n k a no_account (omega arith) ∙ are.rest k (omega arith);
    }

pub reopened-all : (before now : List Account) (n : ℕ) → AreReopened before now n → length now ≤ n → now ≡ map reopened before
reopened-all before now n are all =
    ext_get_or no_account now (map reopened before)
    (are.many ∙ sym (length-map before reopened))
    (λ k l. are.first k (omega (arith, l, all)) ∙ sym (get_or-map reopened before k no_account no_account (omega (arith, l, are.many))))

-- what was just opened stays so
pub opened-reopened : (system : System) (threads : List ThreadPart) →
    map reopened (map (λ thread. opened (core_of system thread) thread.deadline) threads) ≡ map (λ thread. opened (core_of system thread) thread.deadline) threads
opened-reopened system [] = refl
opened-reopened system (thread ∷ threads) = ap (λ accounts. opened (core_of system thread) thread.deadline ∷ accounts) (opened-reopened system threads)
