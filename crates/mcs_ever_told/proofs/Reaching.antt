-- The maximum response of a thread stays the same if no job has a longer one.
use Rattle.std.proofs.Common.{◌≡◌, ℕ, ◌≤◌, Bool, true, false, cond, List, [], ◌∷◌, ◌++◌, Option, Some, None, refl, ap, arith}
use Rattle.std.specs.Prelude.{◌==◌, option_to_list}
use Rattle.std.specs.List.{AllByRecursion}
use Rattle.std.proofs.lemmas.Bool.Decides.{nat_tests}
use Rattle.mcs_ticks.specs.declared.row.Row.{Row}
use Rattle.mcs_system.specs.System.{System}
use Rattle.mcs_verdict.specs.declared.job.Job.{Job}
use Rattle.mcs_verdict.specs.Findings.{past_of}
use Rattle.mcs_verdict.specs.Jobs.{job_of, jobs_in}
use Rattle.mcs_ever_found.specs.Course.{greater, or_greater, greatest}
use Rattle.mcs_ever_found.specs.laws.Course.{is_at_most}

-- one maximum is at most the other; none is at most each
abbrev pub AtMost : Option ℕ → Option ℕ → Type 0
AtMost None b = Unit {0}
AtMost (Some a) None = ⊥
AtMost (Some a) (Some b) = a ≤ b

itself : (a : Option ℕ) → AtMost a a
itself None = tt
itself (Some a) = omega arith

through : (a b c : Option ℕ) → AtMost a b → AtMost b c → AtMost a c
through None b c g h = tt
through (Some a) None c g h = absurd g
through (Some a) (Some b) None g h = absurd h
through (Some a) (Some b) (Some c) g h = omega (arith, g, h)

pub same-maximum : (a b : Option ℕ) → AtMost a b → AtMost b a → a ≡ b
same-maximum None None g h = refl
same-maximum None (Some b) g h = absurd h
same-maximum (Some a) None g h = absurd g
same-maximum (Some a) (Some b) g h = let e : a ≡ b = omega (arith, g, h) in ap (λ (n : ℕ). Some n) e

module _ (system : System) (thread : ℕ) where
  -- the jobs of the thread take no longer
  abbrev pub IsShort : Option ℕ → Job → Type 0
  IsShort response job = job.thread ≡ thread → is_at_most response job.response ≡ true

  abbrev most : List Row → Option ℕ
  most past = greatest system thread past

  raised : (before : Option ℕ) (response : ℕ) → AtMost before (Some (greater before response))
  raised None response = tt
  raised (Some b) response = omega arith

  more-at-most : (o : Option Job) (before : Option ℕ) → AtMost before (or_greater thread o before)
  more-at-most None before = itself before
  more-at-most (Some job) before = by (job.thread == thread)
    where
      by : (b : Bool) → AtMost before (cond b (Some (greater before job.response)) before)
      by true = raised before job.response
      by false = itself before

  -- a maximum only grows
  pub grows : (past rows : List Row) → AtMost (most past) (most (past_of past rows))
  grows past [] = itself (most past)
  grows past (r ∷ rows) =
      through (most past) (most (r ∷ past)) (most (past_of (r ∷ past) rows)) (more-at-most (job_of system past r.moment r.what) (most past)) (grows (r ∷ past) rows)

  within : (before response : Option ℕ) (n : ℕ) → AtMost before response → is_at_most response n ≡ true → AtMost (Some (greater before n)) response
  within before None n g e = cc
  within None (Some r) n g e = let l : n ≤ r = grind (arith, nat_tests) in l
  within (Some b) (Some r) n g e = let l : n ≤ r = grind (arith, nat_tests) in omega (arith, g, l)

  one-stays : (o : Option Job) (before response : Option ℕ) → AtMost before response → AllByRecursion (IsShort response) (option_to_list o) →
      AtMost (or_greater thread o before) response
  one-stays None before response g h = g
  one-stays (Some job) before response g h = by (job.thread == thread) refl
    where
      by : (b : Bool) → (job.thread == thread) ≡ b → AtMost (cond b (Some (greater before job.response)) before) response
      by true e = let same : job.thread ≡ thread = grind (arith, nat_tests) in within before response job.response g (h.0 same)
      by false e = g

  first-all : (P : Job → Type 0) (xs ys : List Job) → AllByRecursion P (xs ++ ys) → AllByRecursion P xs
  first-all P [] ys h = tt
  first-all P (x ∷ xs) ys h = (h.0, first-all P xs ys h.1)

  second-all : (P : Job → Type 0) (xs ys : List Job) → AllByRecursion P (xs ++ ys) → AllByRecursion P ys
  second-all P [] ys h = h
  second-all P (x ∷ xs) ys h = second-all P xs ys h.1

  -- without a longer job it stays below
  pub stays : (past rows : List Row) (response : Option ℕ) → AtMost (most past) response → AllByRecursion (IsShort response) (jobs_in system past rows) →
      AtMost (most (past_of past rows)) response
  stays past [] response g h = g
  stays past (r ∷ rows) response g h =
      let here = first-all (IsShort response) (option_to_list (job_of system past r.moment r.what)) (jobs_in system (r ∷ past) rows) h in
      let rest = second-all (IsShort response) (option_to_list (job_of system past r.moment r.what)) (jobs_in system (r ∷ past) rows) h in
      stays (r ∷ past) rows response (one-stays (job_of system past r.moment r.what) (most past) response g here) rest
