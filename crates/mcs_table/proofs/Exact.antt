-- Responses of a run, and how many there are.
use Rattle.std.proofs.Common.{◌≡◌, ℕ, ◌^◌, ◌<◌, ◌≤◌, Bool, true, false, eqb, ltb, cond, List, [], ◌∷◌, ◌++◌, length, map, Option, Some, None, refl, ap, ◌∙◌, All, filter, option_to_list, arith}
use Rattle.std.proofs.lemmas.List.{length-map}
use Rattle.std.proofs.lemmas.List.Elements.{All-cons}
use Rattle.std.proofs.lemmas.List.Sums.{count_by-le-length}
use Rattle.mcs_ticks.specs.declared.row.Row.{Row}
use Rattle.mcs_ticks.specs.declared.row.What.{What}
use Rattle.mcs_ticks.specs.declared.row.What.TheVariants as row
use Rattle.mcs_system.specs.System.{System, thread_part}
use Rattle.mcs_histogram.specs.Histogram.{counted, told_percentile}
use Rattle.mcs_histogram.proofs.Ranks.{all_counted}
use Rattle.mcs_verdict.specs.declared.job.Job.{Job}
use Rattle.mcs_verdict.specs.Findings.{UpTo}
use Rattle.mcs_verdict.specs.Jobs.{job, job_of}
use Rattle.mcs_verdict.specs.Misses.{is_above}
use Rattle.mcs_verdict.proofs.Orders.{up_to-later}
use Rattle.mcs_table.specs.declared.figures.Rounds.{Rounds}
use Rattle.mcs_ticks.specs.Capped.{capped}
use Rattle.mcs_table.specs.Rounds.{jobs_of, responses_of, greatest, missed_in, is_late, late_in}
use Rattle.mcs_table.specs.laws.Exact.{RoundsAreExact}
use Rattle.mcs_table.proofs.Ended.{known_job}

-- a response is no longer than the time up to the round's end
within : (system : System) (m : ℕ) (past : List Row) (what : What) (found : Job) → Some found ≡ job_of system past m what → found.response ≤ m
within system m past (row.Release x) found e = absurd (cc)
within system m past (row.Run x) found e = absurd (cc)
within system m past (row.Stop x cause charged until) found e = absurd (cc)
within system m past (row.Signal x note badge) found e = absurd (cc)
within system m past (row.Arrive note badge maker) found e = absurd (cc)
within system m past (row.Wake x note word until) found e = absurd (cc)
within system m past (row.Hold note word) found e = absurd (cc)
within system m past (row.Got x note word) found e = absurd (cc)
within system m past (row.Order context) found e = absurd (cc)
within system m past (row.Interrupt source at_note badge) found e = absurd (cc)
within system m past (row.Round x number response) found e =
    let both = known_job (ltb x (length system.threads)) found (job system past m x number) e in
    let is : found.response ≡ (job system past m x number).response = ap (λ (job : Job). job.response) both.1 in
    omega (arith, is)

all_within : (system : System) (horizon thread : ℕ) (past : List Row) → UpTo horizon past
    → All (λ (n : ℕ). n ≤ horizon) (responses_of system thread past)
all_within system horizon thread [] up = λ k d h. absurd (omega arith)
all_within system horizon thread (r ∷ past) up =
    by (job_of system past r.moment r.what) refl (all_within system horizon thread past (up_to-later r.moment horizon past up.0 up.1))
  where
    one : (found : Job) (b : Bool) → found.response ≤ horizon → All (λ (n : ℕ). n ≤ horizon) (responses_of system thread past)
        → All (λ (n : ℕ). n ≤ horizon) (map (λ (job : Job). job.response) (cond b (found ∷ []) [] ++ jobs_of system thread past))
    one found true h rest = All-cons (λ (n : ℕ). n ≤ horizon) found.response (responses_of system thread past) h rest
    one found false h rest = rest

    by : (o : Option Job) → o ≡ job_of system past r.moment r.what → All (λ (n : ℕ). n ≤ horizon) (responses_of system thread past)
        → All (λ (n : ℕ). n ≤ horizon)
        (map (λ (job : Job). job.response) (filter (λ (job : Job). eqb job.thread thread) (option_to_list o) ++ jobs_of system thread past))
    by None e rest = rest
    by (Some found) e rest =
        let small = within system r.moment past r.what found e in
        one found (eqb found.thread thread) (omega (arith, up.0)) rest

-- no more rounds end than there are rows
few_jobs : (system : System) (thread : ℕ) (past : List Row) → length (jobs_of system thread past) ≤ length past
few_jobs system thread [] = omega arith
few_jobs system thread (r ∷ past) = by (job_of system past r.moment r.what) (few_jobs system thread past)
  where
    one : (found : Job) (b : Bool) → length (jobs_of system thread past) ≤ length past
        → length (cond b (found ∷ []) [] ++ jobs_of system thread past) ≤ length (r ∷ past)
    one found true h = omega arith
    one found false h = omega arith

    by : (o : Option Job) → length (jobs_of system thread past) ≤ length past
        → length (filter (λ (job : Job). eqb job.thread thread) (option_to_list o) ++ jobs_of system thread past) ≤ length (r ∷ past)
    by None h = omega arith
    by (Some found) h = one found (eqb found.thread thread) h

few_responses : (system : System) (thread : ℕ) (past : List Row) → length (responses_of system thread past) ≤ length past
few_responses system thread past =
    let same = length-map (jobs_of system thread past) (λ (job : Job). job.response) in
    omega (arith, same, few_jobs system thread past)

same_capped : (n most : ℕ) → n ≤ most → most < 2 ^ 64 → capped n ≡ n
same_capped n most h small = omega arith

abbrev rounds : ℕ → Option ℕ → Option ℕ → Option ℕ → Option ℕ → ℕ → ℕ → Rounds
rounds ended greatest fiftieth ninetieth ninety_ninth missed late =
    record {
      ended = ended;
      greatest = greatest;
      fiftieth = fiftieth;
      ninetieth = ninetieth;
      ninety_ninth = ninety_ninth;
      missed = missed;
      late = late;
    }

pub rounds-exact : RoundsAreExact
rounds-exact system horizon thread past up small =
    let deadline : ℕ = (thread_part system thread).deadline in
    let responses : List ℕ = responses_of system thread past in
    let late : ℕ = late_in deadline thread past in
    let few = few_responses system thread past in
    let missed-le = count_by-le-length (is_above deadline) responses in
    let late-le = count_by-le-length (λ (r : Row). is_late deadline thread r.what) past in
    let all : counted horizon responses ≡ responses = all_counted horizon responses (all_within system horizon thread past up) (omega arith) in
    ap
    (λ values.
    rounds (capped (length responses)) (greatest responses) (told_percentile 50 values) (told_percentile 90 values) (told_percentile 99 values)
    (capped (missed_in deadline responses)) (capped late)) all
    ∙ ap
    (λ n.
    rounds n (greatest responses) (told_percentile 50 responses) (told_percentile 90 responses) (told_percentile 99 responses)
    (capped (missed_in deadline responses)) (capped late)) (same_capped (length responses) (length past) few small)
    ∙ ap
    (λ n.
    rounds (length responses) (greatest responses) (told_percentile 50 responses) (told_percentile 90 responses) (told_percentile 99 responses) n
    (capped late)) (same_capped (missed_in deadline responses) (length past) (omega arith) small)
    ∙ ap
    (λ n.
    rounds (length responses) (greatest responses) (told_percentile 50 responses) (told_percentile 90 responses) (told_percentile 99 responses)
    (missed_in deadline responses) n) (same_capped late (length past) late-le small)
