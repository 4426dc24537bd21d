-- One more round of a thread, and rows that end no round of it.
use Rattle.std.proofs.Common.{◌≡◌, ◌≢◌, ℕ, zero, suc, ◌+◌, ◌<◌, ◌≤◌, max, inl, inr, Bool, true, false, eqb, ltb, cond, List, [], ◌∷◌, ◌++◌, length, get_or, set, map, Option, Some, None, refl, sym, ap, subst, ◌∙◌, arith}
use Rattle.std.specs.Prelude.{◌&&◌, filter, fold, option_to_list, unwrap_or}
use Rattle.std.proofs.lemmas.Bool.{eq-eqb, ne_eqb, lt-ltb, le-ltb, cases_lt}
use Rattle.std.proofs.lemmas.List.Sums.{sum_by-cons}
use Rattle.mcs_ticks.specs.declared.row.Row.{Row}
use Rattle.mcs_ticks.specs.declared.row.What.{What}
use Rattle.mcs_ticks.specs.declared.row.What.TheVariants as row
use Rattle.mcs_system.specs.declared.part.ThreadPart.{ThreadPart}
use Rattle.mcs_system.specs.System.{System, no_thread}
use Rattle.mcs_histogram.specs.Histogram.{Histogram}
use Rattle.mcs_histogram.proofs.Lists.{fold-max}
use Rattle.mcs_verdict.specs.declared.job.Job.{Job}
use Rattle.mcs_verdict.specs.Misses.{is_above}
use Rattle.mcs_verdict.specs.Jobs.{job, job_known, job_of}
use Rattle.mcs_table.specs.declared.account.Account.{Account}
use Rattle.mcs_table.specs.Rounds.{jobs_of, responses_of, greatest, missed_in, is_late, late_in}
use Rattle.mcs_table.specs.Table.{account_with, account_of, accounts_of}

pub greatest-more : (v x : ℕ) (responses : List ℕ) → greatest responses ≡ Some v → Some (max v x) ≡ greatest (x ∷ responses)
greatest-more v x [] e = absurd (cc)
greatest-more v x (y ∷ ys) e =
    let is : fold max y ys ≡ v = ap (λ o. unwrap_or o 0) e in
    ap Some (omega (arith, fold-max ys y, fold-max ys (max x y)))

pub missed-more : (deadline x : ℕ) (responses : List ℕ)
    → missed_in deadline (x ∷ responses) ≡ cond (is_above deadline x) 1 0 + missed_in deadline responses
missed-more deadline x responses = sum_by-cons (λ x. cond (is_above deadline x) 1 0) x responses

pub late-more : (deadline thread : ℕ) (r : Row) (past : List Row)
    → late_in deadline thread (r ∷ past) ≡ cond (is_late deadline thread r.what) 1 0 + late_in deadline thread past
late-more deadline thread r past = sum_by-cons (λ r. cond (is_late deadline thread r.what) 1 0) r past

abbrev account : ℕ → Option ℕ → ℕ → ℕ → Histogram → Account
account deadline greatest missed late responses =
    record { deadline = deadline; greatest = greatest; missed = missed; late = late; responses = responses }

pub same_account : (deadline deadline' missed missed' late late' : ℕ) (greatest greatest' : Option ℕ) (responses responses' : Histogram)
    → deadline ≡ deadline' → greatest ≡ greatest' → missed ≡ missed' → late ≡ late' → responses ≡ responses'
    → account deadline greatest missed late responses ≡ account deadline' greatest' missed' late' responses'
same_account deadline deadline' missed missed' late late' greatest greatest' responses responses' d g m l r =
    ap (λ x. account x greatest missed late responses) d ∙ ap (λ x. account deadline' x missed late responses) g
    ∙ ap (λ x. account deadline' greatest' x late responses) m ∙ ap (λ x. account deadline' greatest' missed' x responses) l
    ∙ ap (λ x. account deadline' greatest' missed' late' x) r

abbrev pub row_at : ℕ → ℕ → What → Row
row_at m core what = record { moment = m; core = core; what = what }

-- ---- the rounds that a row ends
ends_none : (b : Bool) (k : ℕ) (job : Job) (jobs : List Job) → eqb job.thread k ≡ false
    → filter (λ job. eqb job.thread k) (option_to_list (cond b (Some job) None)) ++ jobs ≡ jobs
ends_none true k job jobs e = ap (λ (c : Bool). cond c (job ∷ []) [] ++ jobs) e
ends_none false k job jobs e = refl

ends_one : (b : Bool) (k : ℕ) (job : Job) (jobs : List Job) → b ≡ true → eqb job.thread k ≡ true
    → filter (λ job. eqb job.thread k) (option_to_list (cond b (Some job) None)) ++ jobs ≡ job ∷ jobs
ends_one true k job jobs e is = ap (λ (c : Bool). cond c (job ∷ []) [] ++ jobs) is
ends_one false k job jobs e is = absurd (cc)

-- the row ends no round of thread k: what is kept of it is as before
abbrev pub IsSame : System → ℕ → Row → List Row → ℕ → Type 0
IsSame system horizon r past k = (deadline : ℕ) → account_of system horizon deadline k (r ∷ past) ≡ account_of system horizon deadline k past

same_with : (system : System) (horizon k : ℕ) (r : Row) (past : List Row) → jobs_of system k (r ∷ past) ≡ jobs_of system k past
    → ((deadline : ℕ) → is_late deadline k r.what ≡ false) → IsSame system horizon r past k
same_with system horizon k r past jobs late deadline =
    ap (λ jobs. account_with horizon deadline (map (λ (job : Job). job.response) jobs) (late_in deadline k (r ∷ past))) jobs
    ∙ ap (λ n. account_with horizon deadline (responses_of system k past) n)
    (late-more deadline k r past ∙ ap (λ (b : Bool). cond b 1 0 + late_in deadline k past) (late deadline) ∙ omega arith)

-- a round of another thread
same_other : (system : System) (horizon k m core x number response : ℕ) (past : List Row) → x ≢ k
    → IsSame system horizon (row_at m core (row.Round x number response)) past k
same_other system horizon k m core x number response past differ =
    same_with system horizon k (row_at m core (row.Round x number response)) past
    (ends_none (ltb x (length system.threads)) k (job system past m x number) (jobs_of system k past) (ne_eqb x k differ))
    (λ deadline. ap (λ (b : Bool). b && is_above deadline response) (ne_eqb x k differ))

-- no round
pub same_row : (system : System) (horizon k m core : ℕ) (what : What) (past : List Row) → ((x n response : ℕ) → what ≡ row.Round x n response → ⊥)
    → IsSame system horizon (row_at m core what) past k
same_row system horizon k m core (row.Release x) past differs =
    same_with system horizon k (row_at m core (row.Release x)) past refl (λ d. refl)
same_row system horizon k m core (row.Run x) past differs =
    same_with system horizon k (row_at m core (row.Run x)) past refl (λ d. refl)
same_row system horizon k m core (row.Stop x cause charged until) past differs =
    same_with system horizon k (row_at m core (row.Stop x cause charged until)) past refl (λ d. refl)
same_row system horizon k m core (row.Signal x note badge) past differs =
    same_with system horizon k (row_at m core (row.Signal x note badge)) past refl (λ d. refl)
same_row system horizon k m core (row.Arrive note badge maker) past differs =
    same_with system horizon k (row_at m core (row.Arrive note badge maker)) past refl (λ d. refl)
same_row system horizon k m core (row.Wake x note word until) past differs =
    same_with system horizon k (row_at m core (row.Wake x note word until)) past refl (λ d. refl)
same_row system horizon k m core (row.Hold note word) past differs =
    same_with system horizon k (row_at m core (row.Hold note word)) past refl (λ d. refl)
same_row system horizon k m core (row.Got x note word) past differs =
    same_with system horizon k (row_at m core (row.Got x note word)) past refl (λ d. refl)
same_row system horizon k m core (row.Round x number response) past differs = absurd (differs x number response refl)
same_row system horizon k m core (row.Order context) past differs =
    same_with system horizon k (row_at m core (row.Order context)) past refl (λ d. refl)
same_row system horizon k m core (row.Interrupt source at_note badge) past differs =
    same_with system horizon k (row_at m core (row.Interrupt source at_note badge)) past refl (λ d. refl)

-- a round of this thread
own : (system : System) (horizon deadline k m core number response : ℕ) (past : List Row) → k < length system.threads
    → account_with horizon deadline ((job system past m k number).response ∷ responses_of system k past)
    (cond (is_above deadline response) 1 0 + late_in deadline k past)
    ≡ account_of system horizon deadline k (row_at m core (row.Round k number response) ∷ past)
own system horizon deadline k m core number response past known =
    let r : Row = row_at m core (row.Round k number response) in
    let late : late_in deadline k (r ∷ past) ≡ cond (is_above deadline response) 1 0 + late_in deadline k past =
    late-more deadline k r past ∙ ap (λ (b : Bool). cond (b && is_above deadline response) 1 0 + late_in deadline k past) (eq-eqb k k refl)
    in
    let jobs : jobs_of system k (r ∷ past) ≡ job system past m k number ∷ jobs_of system k past =
    ends_one (ltb k (length system.threads)) k (job system past m k number) (jobs_of system k past) (lt-ltb k (length system.threads) known)
    (eq-eqb k k refl)
    in
    sym
    (ap (λ jobs. account_with horizon deadline (map (λ (job : Job). job.response) jobs) (late_in deadline k (r ∷ past))) jobs
    ∙ ap (λ n. account_with horizon deadline ((job system past m k number).response ∷ responses_of system k past) n) late)

-- ---- of all threads
pub accounts_same : (system : System) (horizon n : ℕ) (parts : List ThreadPart) (r : Row) (past : List Row)
    → ((k : ℕ) → n ≤ k → k < n + length parts → IsSame system horizon r past k)
    → accounts_of system horizon n parts (r ∷ past) ≡ accounts_of system horizon n parts past
accounts_same system horizon n [] r past h = refl
accounts_same system horizon n (part ∷ parts) r past h =
    let first : account_of system horizon part.deadline n (r ∷ past) ≡ account_of system horizon part.deadline n past =
    h n (omega arith) (omega arith) part.deadline
    in
    let rest : accounts_of system horizon (suc n) parts (r ∷ past) ≡ accounts_of system horizon (suc n) parts past =
    accounts_same system horizon (suc n) parts r past (λ k a b. h k (omega arith) (omega arith))
    in
    cc

accounts_at : (system : System) (horizon x n y : ℕ) (parts : List ThreadPart) (r : Row) (past : List Row) (new : Account) → x ≡ n + y
    → y < length parts
    → new ≡ account_of system horizon (get_or parts y no_thread).deadline x (r ∷ past)
    → ((k : ℕ) → k ≢ x → IsSame system horizon r past k)
    → set (accounts_of system horizon n parts past) y new ≡ accounts_of system horizon n parts (r ∷ past)
accounts_at system horizon x n y [] r past new e has is same = absurd (omega arith)
accounts_at system horizon x n zero (part ∷ parts) r past new e has is same =
    let first : new ≡ account_of system horizon part.deadline n (r ∷ past) =
    is ∙ ap (λ k. account_of system horizon part.deadline k (r ∷ past)) (omega arith)
    in
    let rest : accounts_of system horizon (suc n) parts (r ∷ past) ≡ accounts_of system horizon (suc n) parts past =
    accounts_same system horizon (suc n) parts r past (λ k a b. same k (λ h. omega arith))
    in
    cc
accounts_at system horizon x n (suc y) (part ∷ parts) r past new e has is same =
    let first : account_of system horizon part.deadline n (r ∷ past) ≡ account_of system horizon part.deadline n past =
    same n (λ h. omega arith) part.deadline
    in
    let rest : set (accounts_of system horizon (suc n) parts past) y new ≡ accounts_of system horizon (suc n) parts (r ∷ past) =
    accounts_at system horizon x (suc n) y parts r past new (omega arith) (omega arith) is same
    in
    cc

pub length-accounts : (system : System) (horizon n : ℕ) (parts : List ThreadPart) (past : List Row)
    → length (accounts_of system horizon n parts past) ≡ length parts
length-accounts system horizon n [] past = refl
length-accounts system horizon n (part ∷ parts) past = ap suc (length-accounts system horizon (suc n) parts past)

account_from : (system : System) (horizon n y x : ℕ) (parts : List ThreadPart) (past : List Row) (d : Account) → x ≡ n + y → y < length parts
    → get_or (accounts_of system horizon n parts past) y d ≡ account_of system horizon (get_or parts y no_thread).deadline x past
account_from system horizon n y x [] past d e h = absurd (omega arith)
account_from system horizon n zero x (part ∷ parts) past d e h = ap (λ k. account_of system horizon part.deadline k past) (omega arith)
account_from system horizon n (suc y) x (part ∷ parts) past d e h = account_from system horizon (suc n) y x parts past d (omega arith) (omega arith)

-- the account that is kept
pub account_kept : (system : System) (horizon x : ℕ) (parts : List ThreadPart) (past : List Row) (d : Account) → x < length parts
    → get_or (accounts_of system horizon 0 parts past) x d ≡ account_of system horizon (get_or parts x no_thread).deadline x past
account_kept system horizon x parts past d h = account_from system horizon 0 x x parts past d (omega arith) h

-- ---- rows that end a round, or none
pub known_job : (b : Bool) (found job : Job) → Some found ≡ cond b (Some job) None → (b ≡ true) × (found ≡ job)
known_job true found job e = (refl, ap (λ o. unwrap_or o found) e)
known_job false found job e = absurd (cc)

unknown_job : (b : Bool) (job : Job) → None ≡ cond b (Some job) None → b ≡ false
unknown_job true job e = absurd (cc)
unknown_job false job e = refl

below : (x n : ℕ) → ltb x n ≡ true → x < n
below x n e = elim (cases_lt x n) [ inl less ↦ less | inr past ↦ let over = le-ltb x n past in absurd (cc) ]

not_below : (x n : ℕ) → ltb x n ≡ false → n ≤ x
not_below x n e = elim (cases_lt x n) [ inl less ↦ let under = lt-ltb x n less in absurd (cc) | inr past ↦ past ]

-- what the end of a round makes of what is kept, and of its thread, which the system has
told_round : (system : System) (horizon m core x number response y : ℕ) (past : List Row) (accounts : List Account) (found : Job) (old new : Account)
    → accounts ≡ accounts_of system horizon 0 system.threads past → Some found ≡ job_known system past m x number → y ≡ found.thread
    → old ≡ get_or accounts y old
    → ((horizon deadline late : ℕ) (responses : List ℕ) → old ≡ account_with horizon deadline responses late
    → new ≡ account_with horizon deadline (found.response ∷ responses) (cond (is_above deadline response) 1 0 + late))
    → set accounts y new ≡ accounts_of system horizon 0 system.threads (row_at m core (row.Round x number response) ∷ past)
told_round system horizon m core x number response y past accounts found old new e known at was is =
    let both = known_job (ltb x (length system.threads)) found (job system past m x number) known in
    let has : x < length system.threads = below x (length system.threads) both.0 in
    let same : y ≡ x = at ∙ ap (λ (j : Job). j.thread) both.1 in
    let deadline : ℕ = (get_or system.threads x no_thread).deadline in
    let kept : old ≡ account_of system horizon deadline x past =
    was ∙ ap (λ xs. get_or xs y old) e ∙ ap (λ k. get_or (accounts_of system horizon 0 system.threads past) k old) same
    ∙ account_kept system horizon x system.threads past old has
    in
    let made : new ≡ account_of system horizon deadline x (row_at m core (row.Round x number response) ∷ past) =
    is horizon deadline (late_in deadline x past) (responses_of system x past) kept
    ∙ ap
    (λ (j : Job).
    account_with horizon deadline (j.response ∷ responses_of system x past) (cond (is_above deadline response) 1 0 + late_in deadline x past))
    both.1
    ∙ own system horizon deadline x m core number response past has
    in
    ap (λ xs. set xs y new) e ∙ ap (λ k. set (accounts_of system horizon 0 system.threads past) k new) same
    ∙ accounts_at system horizon x 0 x system.threads (row_at m core (row.Round x number response)) past new (omega arith) has made
    (λ k differ. same_other system horizon k m core x number response past (λ s. differ (sym s)))

pub round_told : (system : System) (horizon x number response y : ℕ) (r : Row) (past : List Row) (accounts : List Account) (found : Job)
    (old new : Account)
    → accounts ≡ accounts_of system horizon 0 system.threads past → Some found ≡ job_of system past r.moment r.what
    → r.what ≡ row.Round x number response → y ≡ found.thread → old ≡ get_or accounts y old
    → ((horizon deadline late : ℕ) (responses : List ℕ) → old ≡ account_with horizon deadline responses late
    → new ≡ account_with horizon deadline (found.response ∷ responses) (cond (is_above deadline response) 1 0 + late))
    → set accounts y new ≡ accounts_of system horizon 0 system.threads (r ∷ past)
round_told system horizon x number response y r past accounts found old new e known is_round at was is =
    let P : What → Type 0 =
    λ what. Some found ≡ job_of system past r.moment what
    → set accounts y new ≡ accounts_of system horizon 0 system.threads (record { moment = r.moment; core = r.core; what = what } ∷ past)
    in
    subst P (sym is_round)
    (λ known. told_round system horizon r.moment r.core x number response y past accounts found old new e known at was is) known

-- the thread has an account
pub round_known : (system : System) (horizon x number response y : ℕ) (r : Row) (past : List Row) (accounts : List Account) (found : Job)
    → accounts ≡ accounts_of system horizon 0 system.threads past → Some found ≡ job_of system past r.moment r.what
    → r.what ≡ row.Round x number response → y ≡ found.thread → y < length accounts
round_known system horizon x number response y r past accounts found e known is_round at =
    let is : Some found ≡ job_known system past r.moment x number = known ∙ ap (job_of system past r.moment) is_round in
    let both = known_job (ltb x (length system.threads)) found (job system past r.moment x number) is in
    let has : x < length system.threads = below x (length system.threads) both.0 in
    let same : y ≡ x = at ∙ ap (λ (j : Job). j.thread) both.1 in
    let long : length accounts ≡ length system.threads = ap length e ∙ length-accounts system horizon 0 system.threads past in
    omega arith

-- a row of another kind ends no round
pub no_job : (system : System) (m : ℕ) (past : List Row) (what : What) → ((x n response : ℕ) → what ≡ row.Round x n response → ⊥)
    → job_of system past m what ≡ None
no_job system m past (row.Release x) differs = refl
no_job system m past (row.Run x) differs = refl
no_job system m past (row.Stop x cause charged until) differs = refl
no_job system m past (row.Signal x note badge) differs = refl
no_job system m past (row.Arrive note badge maker) differs = refl
no_job system m past (row.Wake x note word until) differs = refl
no_job system m past (row.Hold note word) differs = refl
no_job system m past (row.Got x note word) differs = refl
no_job system m past (row.Round x number response) differs = absurd (differs x number response refl)
no_job system m past (row.Order context) differs = refl
no_job system m past (row.Interrupt source at_note badge) differs = refl

-- if a round ended, the row ends one
pub is_round : (system : System) (m : ℕ) (past : List Row) (what : What) (found : Job) → Some found ≡ job_of system past m what
    → ((x n response : ℕ) → what ≡ row.Round x n response → ⊥) → ⊥
is_round system m past what found e differs = let none = no_job system m past what differs in absurd (cc)

none_told : (system : System) (horizon m core : ℕ) (what : What) (past : List Row) → None ≡ job_of system past m what
    → (k : ℕ) → k < length system.threads → IsSame system horizon (row_at m core what) past k
none_told system horizon m core (row.Release x) past e k has = same_row system horizon k m core (row.Release x) past (λ a b c e. cc)
none_told system horizon m core (row.Run x) past e k has = same_row system horizon k m core (row.Run x) past (λ a b c e. cc)
none_told system horizon m core (row.Stop x cause charged until) past e k has =
    same_row system horizon k m core (row.Stop x cause charged until) past (λ a b c e. cc)
none_told system horizon m core (row.Signal x note badge) past e k has =
    same_row system horizon k m core (row.Signal x note badge) past (λ a b c e. cc)
none_told system horizon m core (row.Arrive note badge maker) past e k has =
    same_row system horizon k m core (row.Arrive note badge maker) past (λ a b c e. cc)
none_told system horizon m core (row.Wake x note word until) past e k has = same_row system horizon k m core (row.Wake x note word until) past (λ a b c e. cc)
none_told system horizon m core (row.Hold note word) past e k has = same_row system horizon k m core (row.Hold note word) past (λ a b c e. cc)
none_told system horizon m core (row.Got x note word) past e k has = same_row system horizon k m core (row.Got x note word) past (λ a b c e. cc)
none_told system horizon m core (row.Order context) past e k has = same_row system horizon k m core (row.Order context) past (λ a b c e. cc)
none_told system horizon m core (row.Interrupt source at_note badge) past e k has = same_row system horizon k m core (row.Interrupt source at_note badge) past (λ a b c e. cc)
none_told system horizon m core (row.Round x number response) past e k has =
    let past_all : length system.threads ≤ x =
    not_below x (length system.threads) (unknown_job (ltb x (length system.threads)) (job system past m x number) e)
    in
    same_other system horizon k m core x number response past (λ s. omega arith)

-- a row that ends no round of a thread that the system has
pub round_untold : (system : System) (horizon : ℕ) (r : Row) (past : List Row) (accounts : List Account)
    → accounts ≡ accounts_of system horizon 0 system.threads past → None ≡ job_of system past r.moment r.what
    → accounts ≡ accounts_of system horizon 0 system.threads (r ∷ past)
round_untold system horizon r past accounts e none =
    e
    ∙ sym (accounts_same system horizon 0 system.threads r past
    (λ k a b. none_told system horizon r.moment r.core r.what past none k (omega arith)))
