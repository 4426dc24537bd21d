-- The reports of a tally are those of the rows added.
use Rattle.std.proofs.Common.{◌≡◌, ℕ, suc, List, [], ◌∷◌, map, fold, refl, ap, ◌∙◌, arith}
use Rattle.mcs_ticks.specs.declared.row.Row.{Row}
use Rattle.mcs_system.specs.declared.part.ThreadPart.{ThreadPart}
use Rattle.mcs_system.specs.System.{System, core_of}
use Rattle.mcs_report.specs.declared.account.Account.{Account}
use Rattle.mcs_report.specs.declared.reports.ThreadReport.{ThreadReport}
use Rattle.mcs_report.specs.declared.reports.Reports.{Reports}
use Rattle.mcs_report.specs.Reports.{responses, least, thread_report, thread_reports, ran_on, reports_of}
use Rattle.mcs_report.specs.Tally.{Tally, no_report, opened, report_at, ran_by, opened_tally, finished}
use Rattle.mcs_report.specs.laws.Agreement.{RunsApart, tally_of, but_ran}
use Rattle.mcs_report.proofs.Alone.{told_alone, reopened-alone, each_from, accounts-fold, horizon-fold, cores-fold}
use Rattle.mcs_report.proofs.Counts.{IsGiven, least_after, counts-fold}
use Rattle.mcs_report.proofs.Runs.{ran-fold}

nothing_given : IsGiven no_report
nothing_given = record { rounds = omega arith; total = omega arith; late = omega arith; spent = omega arith; throttled = omega arith }

least_of : (xs : List ℕ) → least_after 0 0 xs ≡ least xs
least_of [] = refl
least_of (x ∷ xs) = refl

-- the account of a thread after these rows
abbrev account_of : ℕ → List Row → ℕ → ℕ → ℕ → Account
account_of h rows x core deadline = fold (told_alone h x) (opened core deadline) rows

but_ran-account : (h : ℕ) (rows : List Row) (x core deadline : ℕ)
    → but_ran (report_at h (account_of h rows x core deadline)) ≡ but_ran (thread_report h rows x deadline)
but_ran-account h rows x core deadline =
    let c = counts-fold h x rows (opened core deadline) nothing_given in
    grind (arith, c, least_of (responses x rows))

ran-account : (h : ℕ) (rows : List Row) (x core deadline : ℕ) → RunsApart x rows
    → (report_at h (account_of h rows x core deadline)).ran ≡ (thread_report h rows x deadline).ran
ran-account h rows x core deadline apart = omega (arith, ran-fold h x rows (opened core deadline) apart tt)

with_ran : (a b : ThreadReport) → a.ran ≡ b.ran → but_ran a ≡ but_ran b → a ≡ b
with_ran a b ran e = grind arith

core-fold : (h x : ℕ) (rows : List Row) (a : Account) → (fold (told_alone h x) a rows).core ≡ a.core
core-fold h x [] a = refl
core-fold h x (r ∷ rows) a = core-fold h x rows (told_alone h x a r) ∙ ap (λ (b : Account). b.core) (reopened-alone h x r.moment r.what a)

-- the accounts of these threads, numbered from n, after these rows
abbrev accounts_of : System → ℕ → List Row → ℕ → List ThreadPart → List Account
accounts_of system h rows n threads =
    each_from n (λ i account. fold (told_alone h i) account rows) (map (λ thread. opened (core_of system thread) thread.deadline) threads)

but_ran-all : (system : System) (h : ℕ) (rows : List Row) (n : ℕ) (threads : List ThreadPart)
    → map but_ran (map (report_at h) (accounts_of system h rows n threads)) ≡ map but_ran (thread_reports h rows n threads)
but_ran-all system h rows n [] = refl
but_ran-all system h rows n (thread ∷ threads) =
    cc (but_ran-account h rows n (core_of system thread) thread.deadline, but_ran-all system h rows (suc n) threads)

reports-all : (system : System) (h : ℕ) (rows : List Row) → ((x : ℕ) → RunsApart x rows) → (n : ℕ) (threads : List ThreadPart)
    → map (report_at h) (accounts_of system h rows n threads) ≡ thread_reports h rows n threads
reports-all system h rows apart n [] = refl
reports-all system h rows apart n (thread ∷ threads) =
    let core = core_of system thread in
    cc (
      with_ran _ _ (ran-account h rows n core thread.deadline (apart n)) (but_ran-account h rows n core thread.deadline),
      reports-all system h rows apart (suc n) threads,
    )

ran_by-all : (system : System) (h : ℕ) (rows : List Row) → ((x : ℕ) → RunsApart x rows) → (c n : ℕ) (threads : List ThreadPart)
    → ran_by h (accounts_of system h rows n threads) c ≡ ran_on system c threads (thread_reports h rows n threads)
ran_by-all system h rows apart c n [] = refl
ran_by-all system h rows apart c n (thread ∷ threads) =
    grind (
      arith,
      core-fold h n rows (opened (core_of system thread) thread.deadline),
      ran-account h rows n (core_of system thread) thread.deadline (apart n),
      ran_by-all system h rows apart c (suc n) threads,
    )

same_reports : (a b : Reports) → a.threads ≡ b.threads → a.cores ≡ b.cores → a ≡ b
same_reports a b threads cores = grind arith

pub same_tally : (a b : Tally) → a.horizon ≡ b.horizon → a.cores ≡ b.cores → a.last ≡ b.last → a.accounts ≡ b.accounts → a ≡ b
same_tally a b horizon cores last accounts = grind arith

tally_is : (system : System) (h : ℕ) (rows : List Row)
    → tally_of system h rows
    ≡ record { horizon = h; cores = system.cores; last = (tally_of system h rows).last; accounts = accounts_of system h rows 0 system.threads }
tally_is system h rows =
    let first = opened_tally system h in
    same_tally (tally_of system h rows) _ (horizon-fold rows first) (cores-fold rows first) refl (accounts-fold rows first)

pub agree : (system : System) (h : ℕ) (rows : List Row) → ((x : ℕ) → RunsApart x rows) → finished (tally_of system h rows) ≡ reports_of system h rows
agree system h rows apart =
    ap finished (tally_is system h rows)
    ∙ same_reports _ (reports_of system h rows)
    (reports-all system h rows apart 0 system.threads)
    (simp (ran_by-all system h rows apart))

pub agree_but_ran : (system : System) (h : ℕ) (rows : List Row)
    → map but_ran (finished (tally_of system h rows)).threads ≡ map but_ran (reports_of system h rows).threads
agree_but_ran system h rows =
    ap (λ tally. map but_ran (finished tally).threads) (tally_is system h rows) ∙ but_ran-all system h rows 0 system.threads
