-- The findings by what is kept are those by the rows.
use Rattle.std.proofs.Common.{◌≡◌, ℕ, ◌+◌, ◌-◌, ◌≤◌, ◌<◌, ◌^◌, max, false, List, [], ◌∷◌, get_or, length, Option, Some, None, refl, sym, ap, ◌∙◌, arith}
use Rattle.std.proofs.lemmas.Bool.{lt-ltb, le-ltb}
use Rattle.std.proofs.lemmas.Bool.Decides.{nat_tests}
use Rattle.std.proofs.lemmas.List.{get_or_past}
use Rattle.mcs_ticks.specs.declared.row.Row.{Row}
use Rattle.mcs_ticks.specs.declared.row.What.TheVariants as row
use Rattle.mcs_system.specs.System.{System, no_thread, thread_part}
use Rattle.mcs_verdict.specs.declared.account.Account.{Account}
use Rattle.mcs_verdict.specs.declared.finding.Finding.{Finding}
use Rattle.mcs_verdict.specs.declared.held.Held.{Held}
use Rattle.mcs_verdict.specs.declared.job.Job.{Job}
use Rattle.mcs_verdict.specs.Standing.{standing_at, telling}
use Rattle.mcs_verdict.specs.Activation.{first_active}
use Rattle.mcs_verdict.specs.Stood.{stood_in}
use Rattle.mcs_verdict.specs.Calls.{first_wait}
use Rattle.mcs_verdict.specs.Parts.{free_of, parts_in}
use Rattle.mcs_verdict.specs.Words.{firsts_of}
use Rattle.mcs_verdict.specs.Rounds.{begun_of, called_of, activated_by, activated_in, activated_of}
use Rattle.mcs_verdict.specs.Jobs.{job, job_known, or_now}
use Rattle.mcs_verdict.specs.Misses.{is_above, miss, missed, set_at, word_set, word_for, first_word, overdue, never, first_of, unended}
use Rattle.mcs_verdict.specs.Findings.{UpTo}
use Rattle.mcs_verdict.specs.Account.{all_kept, standing_of, since_of, stood_of, active_of, account_of, active_since, total_at, activated_if, activated_since, parts_since, job_by, miss_by, overdue_by, never_by, unended_by}
use Rattle.mcs_verdict.specs.Watch.{accounts_of}
use Rattle.mcs_verdict.proofs.Orders.{since-up_to}
use Rattle.mcs_verdict.proofs.Accounts.{Keeps, since-kept, active-kept, total-kept, active_earlier}
use Rattle.mcs_verdict.proofs.Watches.{account_kept, kept_small, length-accounts}

-- a thread of the system, by what is kept of it
abbrev pub account_at : System → ℕ → List Row → Account
account_at system thread past = account_of (firsts_of system) (thread_part system thread) thread past

-- how the thread stands at last is what its latest telling row says
stands : (rows : List Row) (horizon : ℕ) → since_of rows ≤ horizon → standing_at horizon rows ≡ standing_of rows
stands [] horizon h = refl
stands (r ∷ rows) horizon h = grind (arith, nat_tests)

pub all-now : (system : System) (thread : ℕ) (past : List Row) (m : ℕ) → UpTo m past
    → total_at m (standing_of (telling thread past)) (account_at system thread past) ≡ stood_in thread past 0 m
all-now system thread past m up = total-kept m (account_at system thread past) (telling thread past) (since-up_to thread m past up) refl refl

-- when it was first ready or running in a round that began then
first-now : (system : System) (thread : ℕ) (past : List Row) (m begun : ℕ) → UpTo m past → begun_of system thread past ≡ Some begun
    → active_since (Some begun) m (standing_of (telling thread past)) (account_at system thread past) ≡ first_active thread past begun m
first-now system thread past m begun up e =
    active-kept (Some begun) m (account_at system thread past) (record { moment = m; core = 0; what = row.Release thread }) (telling thread past) refl
    (since-up_to thread m past up) (ap (λ began. active_of began (telling thread past)) e) refl

-- when the round under way was activated
pub activated-kept : (system : System) (thread : ℕ) (past : List Row) (m : ℕ) → UpTo m past
    → activated_since m (account_at system thread past) ≡ activated_of system thread past m
activated-kept system thread past m up = by (begun_of system thread past) refl
  where
    if_known : Option ℕ → Option ℕ
    if_known begun =
        let account = account_at system thread past in
        activated_if begun (activated_by account.waits account.called (active_since begun m account.standing account))

    by : (begun : Option ℕ) → begun_of system thread past ≡ begun → activated_since m (account_at system thread past) ≡ activated_of system thread past m
    by None e = ap if_known e ∙ sym (ap (activated_in system thread past m) e)
    by (Some begun) e =
        ap if_known e
        ∙ ap (activated_by (first_wait (thread_part system thread)) (called_of system thread past)) (first-now system thread past m begun up e)
        ∙ sym (ap (activated_in system thread past m) e)

-- its ticks are counted from then on, or from when the thread was free
counted : (system : System) (thread : ℕ) (past : List Row) (m activated : ℕ) → UpTo m past → activated_of system thread past m ≡ Some activated
    → max activated (free_of system thread past) < since_of (telling thread past)
    → (account_at system thread past).stood ≡ stood_of (Some (max activated (free_of system thread past))) (telling thread past)
counted system thread past m activated up e less = by (first_wait (thread_part system thread)) refl (begun_of system thread past) refl
  where
    rows : List Row
    rows = telling thread past

    by : (waits : Option ℕ) → first_wait (thread_part system thread) ≡ waits → (begun : Option ℕ) → begun_of system thread past ≡ begun
        → (account_at system thread past).stood ≡ stood_of (Some (max activated (free_of system thread past))) rows
    by waits w None b = absurd (grind (arith, e, b))
    by (Some note) w (Some begun) b =
        let is : called_of system thread past ≡ Some activated = grind (arith, e, w, b) in
        grind (arith, w, b, is)
    by None w (Some begun) b =
        let is : first_active thread past begun m ≡ Some activated = grind (arith, e, w, b) in
        let before = active_earlier (Some begun) activated m (record { moment = m; core = 0; what = row.Release thread }) rows refl
        (since-up_to thread m past up) is (omega (arith, less))
        in
        grind (arith, w, b, before)

-- the parts of the round under way
parts-kept : (system : System) (thread : ℕ) (past : List Row) (m activated : ℕ) → UpTo m past → activated_of system thread past m ≡ Some activated
    → parts_since activated m (account_at system thread past) ≡ parts_in thread past (free_of system thread past) activated m
parts-kept system thread past m activated up e =
    let from = max activated (free_of system thread past) in
    let has : Keeps (telling thread past) from (account_at system thread past) =
    record { stands = refl; since = refl; stood = counted system thread past m activated up e }
    in
    since-kept from m (account_at system thread past) (telling thread past) (since-up_to thread m past up) has

-- a round that is activated now has none
parts-none : (system : System) (thread : ℕ) (past : List Row) (m : ℕ) → UpTo m past
    → parts_since m m (account_at system thread past) ≡ parts_in thread past (free_of system thread past) m m
parts-none system thread past m up =
    let from = max m (free_of system thread past) in
    let h = since-up_to thread m past up in
    let has : Keeps (telling thread past) from (account_at system thread past) =
    record { stands = refl; since = refl; stood = λ less. absurd (omega (arith, h, less)) }
    in
    since-kept from m (account_at system thread past) (telling thread past) h has

-- the round that ends
pub job-kept : (system : System) (thread : ℕ) (past : List Row) (moment number : ℕ) → UpTo moment past
    → job_by moment thread number (account_at system thread past) ≡ job system past moment thread number
job-kept system thread past moment number up = by (activated_of system thread past moment) refl
  where
    by : (activated : Option ℕ) → activated_of system thread past moment ≡ activated
        → job_by moment thread number (account_at system thread past) ≡ job system past moment thread number
    by None e = cc (e, activated-kept system thread past moment up, parts-none system thread past moment up)
    by (Some activated) e = cc (e, activated-kept system thread past moment up, parts-kept system thread past moment activated up e)

-- what is overdue
pub overdue-kept : (system : System) (thread : ℕ) (past : List Row) (horizon : ℕ) → UpTo horizon past
    → overdue_by horizon thread (account_at system thread past) ≡ overdue system past horizon thread
overdue-kept system thread past horizon up = by (activated_of system thread past horizon) refl
  where
    by : (activated : Option ℕ) → activated_of system thread past horizon ≡ activated
        → overdue_by horizon thread (account_at system thread past) ≡ overdue system past horizon thread
    by None e = cc (e, activated-kept system thread past horizon up)
    by (Some activated) e = cc (e, activated-kept system thread past horizon up, parts-kept system thread past horizon activated up e)

-- what was never activated
pub never-kept : (system : System) (thread horizon : ℕ) (past : List Row) → UpTo horizon past
    → never_by horizon thread (first_word system thread past) (account_at system thread past) ≡ never system past horizon thread
never-kept system thread horizon past up = cc (all-now system thread past horizon up, stands (telling thread past) horizon (since-up_to thread horizon past up))

-- whether the system has the thread
known : (system : System) (past : List Row) (accounts : List Account) → accounts ≡ accounts_of (firsts_of system) 0 system.threads past
    → length accounts ≡ length system.threads
known system past accounts e = ap length e ∙ length-accounts (firsts_of system) 0 system.threads past

-- the account that lies in this place is that of the thread, and counts few ticks
pub by_place : {A : Type 0} (tells : Account → A) (system : System) (past : List Row) (accounts : List Account) (m place thread : ℕ) (d : Account) (it : A)
    → place ≡ thread → accounts ≡ accounts_of (firsts_of system) 0 system.threads past → UpTo m past → m ≤ 2 ^ 42 → place < length accounts
    → d ≡ get_or accounts place d → (all_kept d + m < 2 ^ 64 → it ≡ tells d) → it ≡ tells (account_at system thread past)
by_place tells system past accounts m place thread d it same e up small has lies is =
    let at : d ≡ account_at system place past =
    lies ∙ ap (λ (accounts : List Account). get_or accounts place d) e
    ∙ account_kept (firsts_of system) place system.threads past d (omega (arith, known system past accounts e))
    in
    is (rw at (kept_small (firsts_of system) place m (thread_part system place) past up small))
    ∙ ap tells (at ∙ ap (λ thread. account_at system thread past) same)

-- the round of a thread that the system has
pub job_told : (system : System) (past : List Row) (accounts : List Account) (moment place thread number : ℕ) (d : Account) (found : Job)
    → place ≡ thread → accounts ≡ accounts_of (firsts_of system) 0 system.threads past → UpTo moment past → moment ≤ 2 ^ 42 → place < length accounts
    → d ≡ get_or accounts place d
    → (all_kept d + moment < 2 ^ 64 → found ≡ job_by moment thread number d)
    → Some found ≡ job_known system past moment thread number
job_told system past accounts moment place thread number d found same e up small has it is =
    rw (lt-ltb thread (length system.threads) (omega (arith, known system past accounts e)))
    (ap Some (by_place (job_by moment thread number) system past accounts moment place thread d found same e up small has it is
    ∙ job-kept system thread past moment number up))

pub job_unknown : (system : System) (past : List Row) (accounts : List Account) (moment place thread number : ℕ)
    → place ≡ thread → accounts ≡ accounts_of (firsts_of system) 0 system.threads past → length accounts ≤ place
    → None ≡ job_known system past moment thread number
job_unknown system past accounts moment place thread number same e has =
    rw (le-ltb thread (length system.threads) (omega (arith, known system past accounts e))) refl

pub unended_found : (system : System) (past : List Row) (accounts : List Account) (horizon place thread : ℕ) (d : Account) (held : Held) (found : Option Finding)
    → place ≡ thread → accounts ≡ accounts_of (firsts_of system) 0 system.threads past → UpTo horizon past → horizon ≤ 2 ^ 42 → place < length accounts
    → d ≡ get_or accounts place d → held ≡ word_for (firsts_of system) d.waits past
    → (all_kept d + horizon < 2 ^ 64 → found ≡ unended_by horizon thread held d)
    → found ≡ unended system past horizon thread
unended_found system past accounts horizon place thread d held found same e up small has it h is =
    by_place (λ d. unended_by horizon thread (word_for (firsts_of system) d.waits past) d) system past accounts horizon place thread d found same e up small
    has it (λ few. is few ∙ ap (λ held. unended_by horizon thread held d) h)
    ∙ ap (λ found. first_of found (never_by horizon thread (first_word system thread past) (account_at system thread past))) (overdue-kept system thread past horizon up)
    ∙ ap (first_of (overdue system past horizon thread)) (never-kept system thread horizon past up)

-- a thread that the system does not have has no deadline
pub miss_unknown : (system : System) (past : List Row) (accounts : List Account) (moment thread number : ℕ)
    → accounts ≡ accounts_of (firsts_of system) 0 system.threads past → length accounts ≤ thread
    → None ≡ miss system past moment thread number
miss_unknown system past accounts moment thread number e has =
    rw (get_or_past system.threads thread no_thread (omega (arith, known system past accounts e))) refl

pub unended_unknown : (system : System) (past : List Row) (accounts : List Account) (horizon thread : ℕ)
    → accounts ≡ accounts_of (firsts_of system) 0 system.threads past → length accounts ≤ thread
    → None ≡ unended system past horizon thread
unended_unknown system past accounts horizon thread e has =
    let none : (thread_part system thread).deadline ≡ 0 = rw (get_or_past system.threads thread no_thread (omega (arith, known system past accounts e))) refl in
    grind (arith, nat_tests, none)

-- a round that is not late is no miss
pub miss_in_time : (system : System) (past : List Row) (accounts : List Account) (moment place thread number : ℕ) (d : Account)
    → place ≡ thread → accounts ≡ accounts_of (firsts_of system) 0 system.threads past → UpTo moment past → place < length accounts → d ≡ get_or accounts place d
    → is_above d.deadline (moment - or_now moment (activated_since moment d)) ≡ false → miss system past moment thread number ≡ None
miss_in_time system past accounts moment place thread number d same e up has lies early =
    let at : d ≡ account_at system thread past =
    lies ∙ ap (λ (accounts : List Account). get_or accounts place d) e
    ∙ account_kept (firsts_of system) place system.threads past d (omega (arith, known system past accounts e))
    ∙ ap (λ thread. account_at system thread past) same
    in
    let none : miss_by moment thread number d ≡ None = rw early refl in
    sym (ap (missed (thread_part system thread).deadline) (job-kept system thread past moment number up))
    ∙ sym (ap (miss_by moment thread number) at) ∙ none

-- when the word was set for which the thread of this account waits first
pub word_told : (system : System) (past : List Row) (accounts : List Account) (place thread : ℕ) (d : Account) (held : Held) (told : Option ℕ)
    → place ≡ thread → accounts ≡ accounts_of (firsts_of system) 0 system.threads past → place < length accounts → d ≡ get_or accounts place d
    → held ≡ word_for (firsts_of system) d.waits past → told ≡ set_at d.bits held → told ≡ word_set system past thread
word_told system past accounts place thread d held told same e has lies h is =
    let at : d ≡ account_at system place past =
    lies ∙ ap (λ (accounts : List Account). get_or accounts place d) e
    ∙ account_kept (firsts_of system) place system.threads past d (omega (arith, known system past accounts e))
    in
    is ∙ ap (set_at d.bits) h ∙ ap (λ (d : Account). set_at d.bits (word_for (firsts_of system) d.waits past)) at
    ∙ ap (word_set system past) same

pub word_unknown : (system : System) (past : List Row) (accounts : List Account) (thread : ℕ)
    → accounts ≡ accounts_of (firsts_of system) 0 system.threads past → length accounts ≤ thread → None ≡ word_set system past thread
word_unknown system past accounts thread e has =
    rw (get_or_past system.threads thread no_thread (omega (arith, known system past accounts e))) refl

-- when the round under way was activated of the thread of this account
pub activated_told : (system : System) (past : List Row) (accounts : List Account) (moment place thread : ℕ) (d : Account) (told : Option ℕ)
    → place ≡ thread → accounts ≡ accounts_of (firsts_of system) 0 system.threads past → UpTo moment past → place < length accounts → d ≡ get_or accounts place d
    → told ≡ activated_since moment d → told ≡ activated_of system thread past moment
activated_told system past accounts moment place thread d told same e up has lies is =
    let at : d ≡ account_at system place past =
    lies ∙ ap (λ (accounts : List Account). get_or accounts place d) e
    ∙ account_kept (firsts_of system) place system.threads past d (omega (arith, known system past accounts e))
    in
    is ∙ ap (activated_since moment) at ∙ activated-kept system place past moment up ∙ ap (λ thread. activated_of system thread past moment) same

pub activated_unknown : (system : System) (past : List Row) (accounts : List Account) (thread : ℕ)
    → accounts ≡ accounts_of (firsts_of system) 0 system.threads past → length accounts ≤ thread → thread < length system.threads → ⊥
activated_unknown system past accounts thread e has less = omega (arith, known system past accounts e, has, less)
