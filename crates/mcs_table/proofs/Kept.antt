-- The figures that are read off what is kept.
use Rattle.std.proofs.Common.{◌≡◌, ℕ, ◌+◌, ◌-◌, ◌^◌, ◌<◌, ◌≤◌, Bool, cond, List, [], length, get_or, Option, Some, None, sym, ap, ◌∙◌, arith}
use Rattle.std.proofs.lemmas.Bool.{lt-ltb, le-ltb}
use Rattle.mcs_ticks.specs.declared.row.Row.{Row}
use Rattle.mcs_system.specs.declared.part.ThreadPart.{ThreadPart}
use Rattle.mcs_system.specs.System.{System, thread_part}
use Rattle.mcs_verdict.specs.declared.standing.Stood.{Stood}
use Rattle.mcs_verdict.specs.Standing.{telling}
use Rattle.mcs_verdict.specs.Stood.{stood_in}
use Rattle.mcs_verdict.proofs.Counts.{all-stood_for}
use Rattle.mcs_table.specs.declared.account.Account.{Account}
use Rattle.mcs_table.specs.declared.figures.Figures.{Figures}
use Rattle.mcs_table.specs.declared.figures.Margin.{Margin}
use Rattle.mcs_table.specs.declared.figures.Rounds.{Rounds}
use Rattle.mcs_table.specs.declared.figures.Share.{Share}
use Rattle.mcs_table.specs.declared.figures.Signals.{Signals}
use Rattle.mcs_ticks.specs.Capped.{capped}
use Rattle.mcs_table.specs.Signals.{lost_by, merged_by, times_at, signals_at, signals_for}
use Rattle.mcs_table.specs.Table.{Table, account_of, accounts_of}
use Rattle.mcs_table.specs.Unused.{ran_from}
use Rattle.mcs_table.proofs.Ended.{account_kept}

abbrev made : ℕ → ℕ → Signals
made lost merged = record { lost = lost; merged = merged }

-- of a notification that the system has
pub signals_kept : (system : System) (y a b : ℕ) (waits : Option ℕ) (past : List Row) → waits ≡ Some y → y < length system.notes
    → a ≡ capped (times_at (lost_by system) y past) → b ≡ capped (times_at (merged_by system) y past)
    → Some (record { lost = a; merged = b }) ≡ signals_for system waits past
signals_kept system y a b waits past e has lost merged =
    ap (λ a. Some (made a b)) lost
    ∙ ap (λ b. Some (made (capped (times_at (lost_by system) y past)) b)) merged
    ∙ sym (ap (λ (t : Bool). cond t (Some (signals_at system y past)) None) (lt-ltb y (length system.notes) has))
    ∙ sym (ap (λ waits. signals_for system waits past) e)

-- of one that it does not have
pub signals_unknown : (system : System) (y : ℕ) (waits : Option ℕ) (past : List Row) → waits ≡ Some y → length system.notes ≤ y
    → None ≡ signals_for system waits past
signals_unknown system y waits past e not =
    sym (ap (λ (t : Bool). cond t (Some (signals_at system y past)) None) (le-ltb y (length system.notes) not))
    ∙ sym (ap (λ waits. signals_for system waits past) e)

-- what the threads ran, with no thread left
pub ran_all : (horizon context n ran : ℕ) (past : List Row) (parts rest : List ThreadPart) → rest ≡ [] → ran < 2 ^ 64
    → capped (ran + ran_from horizon past context n rest) ≡ capped (ran_from horizon past context 0 parts)
    → ran ≡ capped (ran_from horizon past context 0 parts)
ran_all horizon context n ran past parts rest e small h =
    let none : ran_from horizon past context n rest ≡ 0 = ap (ran_from horizon past context n) e in
    omega (arith, none, h, small)

-- a thread runs in no more ticks than there are
pub running-le : (thread : ℕ) (past : List Row) (horizon : ℕ) → (stood_in thread past 0 horizon).running ≤ horizon
running-le thread past horizon = let all = all-stood_for (telling thread past) 0 (horizon - 0) in omega (arith, all)

-- the account of a thread
pub read_account : (system : System) (horizon y thread : ℕ) (accounts : List Account) (past : List Row) (read : Account)
    → accounts ≡ accounts_of system horizon 0 system.threads past → y ≡ thread → thread < length system.threads → read ≡ get_or accounts y read
    → read ≡ account_of system horizon (thread_part system thread).deadline thread past
read_account system horizon y thread accounts past read e same known is =
    is ∙ ap (λ accounts. get_or accounts y read) e ∙ ap (λ y. get_or (accounts_of system horizon 0 system.threads past) y read) same
    ∙ account_kept system horizon thread system.threads past read known

-- ---- field by field
abbrev table : ℕ → List Account → List ℕ → List ℕ → Table
table horizon accounts lost merged = record { horizon = horizon; accounts = accounts; lost = lost; merged = merged }

pub same_table : (h h' : ℕ) (a a' : List Account) (l l' m m' : List ℕ) → h ≡ h' → a ≡ a' → l ≡ l' → m ≡ m' → table h a l m ≡ table h' a' l' m'
same_table h h' a a' l l' m m' p q r s =
    ap (λ x. table x a l m) p ∙ ap (λ x. table h' x l m) q ∙ ap (λ x. table h' a' x m) r ∙ ap (λ x. table h' a' l' x) s

abbrev figures : ℕ → ℕ → ℕ → Share → Rounds → Option Margin → Option Signals → Stood → Figures
figures core priority deadline share rounds margin signals stood =
    record {
      core = core;
      priority = priority;
      share = share;
      rounds = rounds;
      deadline = deadline;
      margin = margin;
      signals = signals;
      stood = stood;
    }

pub same_figures : (c c' p p' d d' : ℕ) (s s' : Share) (r r' : Rounds) (m m' : Option Margin) (n n' : Option Signals) (t t' : Stood)
    → c ≡ c' → p ≡ p' → d ≡ d' → s ≡ s' → r ≡ r' → m ≡ m' → n ≡ n' → t ≡ t'
    → figures c p d s r m n t ≡ figures c' p' d' s' r' m' n' t'
same_figures c c' p p' d d' s s' r r' m m' n n' t t' ec ep ed es er em en et =
    ap (λ x. figures x p d s r m n t) ec ∙ ap (λ x. figures c' x d s r m n t) ep ∙ ap (λ x. figures c' p' x s r m n t) ed
    ∙ ap (λ x. figures c' p' d' x r m n t) es ∙ ap (λ x. figures c' p' d' s' x m n t) er ∙ ap (λ x. figures c' p' d' s' r' x n t) em
    ∙ ap (λ x. figures c' p' d' s' r' m' x t) en ∙ ap (λ x. figures c' p' d' s' r' m' n' x) et
