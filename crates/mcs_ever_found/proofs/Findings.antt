-- Findings recur, and without a finding in the first period there is none for ever.
use Rattle.std.proofs.Common.{◌≡◌, ℕ, zero, suc, ◌+◌, ◌-◌, ◌<◌, ◌≤◌, Bool, true, false, List, [], ◌∷◌, ◌++◌, map, refl, sym, ap, subst, ◌∙◌, arith}
use Rattle.std.specs.Prelude.{filter, nat_lt}
use Rattle.std.specs.List.{AllByRecursion}
use Rattle.std.proofs.lemmas.Bool.Decides.{nat_tests}
use Rattle.std.proofs.lemmas.List.Elements.{filter-append}
use Rattle.mcs_system.specs.System.{System}
use Rattle.mcs_system.specs.WellFormed.{IsWellFormed}
use Rattle.mcs_core.specs.Clock.{clock}
use Rattle.mcs_core.proofs.Clock.{rows-clock}
use Rattle.mcs_laws.proofs.Histories.{takes-time}
use Rattle.mcs_verdict.specs.declared.finding.Found.{Found}
use Rattle.mcs_verdict.specs.declared.job.Job.{Job}
use Rattle.mcs_verdict.specs.Jobs.{jobs_in}
use Rattle.mcs_verdict.specs.Findings.{found_in}
use Rattle.mcs_ever_found.specs.Later.{later_found}
use Rattle.mcs_ever_found.specs.Recurs.{past_before}
use Rattle.mcs_ever_found.specs.laws.Repeats.{rows_at, found_at_moment, is_of_group, jobs_at_moment, later_job_of, FindingsRepeat, NothingIsFound, JobsRepeat, JobTestsAreForever}
use Rattle.mcs_ever_found.proofs.Moments.{found_in-append, found-later, jobs_in-append, jobs-later}

pub findings-repeat : FindingsRepeat
findings-repeat system group shifts from well recur t l = found-later system group shifts from well recur t l

pub jobs-repeat : JobsRepeat
jobs-repeat system group shifts from well recur t l = jobs-later system group shifts from well recur t l

-- the rounds that end before a moment are those of the moments before it
module _ (system : System) (group : ℕ → Bool) (well : IsWellFormed system) (P : Job → Type 0) where
  abbrev jobs_before : ℕ → List Job
  jobs_before t = filter (is_of_group system group) (jobs_in system [] (clock system t).rows)

  abbrev Pass : List Job → Type 0
  Pass jobs = AllByRecursion P jobs

  jobs-next : (t : ℕ) → jobs_before (suc t) ≡ jobs_before t ++ jobs_at_moment system group t
  jobs-next t =
      ap (λ rows. filter (is_of_group system group) (jobs_in system [] rows)) (rows-clock system (takes-time system well) t)
      ∙ ap (filter (is_of_group system group)) (jobs_in-append system [] (clock system t).rows (rows_at system t))
      ∙ filter-append (is_of_group system group) (jobs_in system [] (clock system t).rows) (jobs_in system (past_before system t) (rows_at system t))

  all-first : (xs ys : List Job) → Pass (xs ++ ys) → Pass xs
  all-first [] ys h = tt
  all-first (x ∷ xs) ys h = (h.0, all-first xs ys h.1)

  all-second : (xs ys : List Job) → Pass (xs ++ ys) → Pass ys
  all-second [] ys h = h
  all-second (x ∷ xs) ys h = all-second xs ys h.1

  all-both : (xs ys : List Job) → Pass xs → Pass ys → Pass (xs ++ ys)
  all-both [] ys g h = h
  all-both (x ∷ xs) ys g h = (g.0, all-both xs ys g.1 h)

  all-at : (n t : ℕ) → t < n → Pass (jobs_before n) → Pass (jobs_at_moment system group t)
  all-at zero t l e = absurd (omega (arith, l))
  all-at (suc n) t l e = by (all-at n t) (nat_lt t n) refl
    where
      both : Pass (jobs_before n ++ jobs_at_moment system group n)
      both = subst Pass (jobs-next n) e

      by : (t < n → Pass (jobs_before n) → Pass (jobs_at_moment system group t)) → (b : Bool) → nat_lt t n ≡ b → Pass (jobs_at_moment system group t)
      by i true f = i (grind (arith, nat_tests)) (all-first (jobs_before n) (jobs_at_moment system group n) both)
      by i false f =
          let low : n ≤ t = grind (arith, nat_tests) in
          let same : n ≡ t = omega (arith, low, l) in
          let Q : ℕ → Type 0 = λ t. Pass (jobs_at_moment system group t) in
          subst Q same (all-second (jobs_before n) (jobs_at_moment system group n) both)

  all-before : (n : ℕ) → ((t : ℕ) → Pass (jobs_at_moment system group t)) → Pass (jobs_before n)
  all-before zero h = tt
  all-before (suc n) h = subst Pass (sym (jobs-next n)) (all-both (jobs_before n) (jobs_at_moment system group n) (all-before n h) (h n))

pub job-tests-are-forever : JobTestsAreForever
job-tests-are-forever system group shifts from well recur test timeless first horizon =
    all-before system group well (λ job. test job ≡ true) (suc horizon) (λ t. below (suc t) t (omega arith))
  where
    Pass : List Job → Type 0
    Pass jobs = AllByRecursion (λ job. test job ≡ true) jobs

    some : 1 ≤ shifts.by
    some = recur.recurs.some

    all-later : (jobs : List Job) → Pass jobs → Pass (map (later_job_of system shifts) jobs)
    all-later [] h = tt
    all-later (job ∷ jobs) h = (timeless job h.0, all-later jobs h.1)

    below : (n t : ℕ) → t < n → Pass (jobs_at_moment system group t)
    below zero t l = absurd (omega (arith, l))
    below (suc n) t l = by (below n (t - shifts.by)) (nat_lt t (from + shifts.by)) refl
      where
        by : (t - shifts.by < n → Pass (jobs_at_moment system group (t - shifts.by))) → (b : Bool) → nat_lt t (from + shifts.by) ≡ b → Pass (jobs_at_moment system group t)
        by i true e =
            let less : t < from + shifts.by = grind (arith, nat_tests) in
            all-at system group well (λ job. test job ≡ true) (from + shifts.by) t less first
        by i false e =
            let m : from + shifts.by ≤ t = grind (arith, nat_tests) in
            let f : t - shifts.by + shifts.by ≡ t = omega (arith, m) in
            let Q : ℕ → Type 0 = λ t. Pass (jobs_at_moment system group t) in
            subst Q f
            (subst Pass (sym (jobs-repeat system group shifts from well recur (t - shifts.by) (omega (arith, m))))
            (all-later (jobs_at_moment system group (t - shifts.by)) (i (omega (arith, l, m, some)))))

-- the findings before a moment are those of the moments before it
module _ (system : System) (group : ℕ → Bool) (well : IsWellFormed system) where
  abbrev pub found_before : ℕ → List Found
  found_before t = filter (λ (found : Found). group found.core) (found_in system [] (clock system t).rows)

  pub found-next : (t : ℕ) → found_before (suc t) ≡ found_before t ++ found_at_moment system group t
  found-next t =
      ap (λ rows. filter (λ (found : Found). group found.core) (found_in system [] rows)) (rows-clock system (takes-time system well) t)
      ∙ ap (filter (λ (found : Found). group found.core)) (found_in-append system [] (clock system t).rows (rows_at system t))
      ∙ filter-append (λ (found : Found). group found.core) (found_in system [] (clock system t).rows) (found_in system (past_before system t) (rows_at system t))

  first-none : (xs ys : List Found) → xs ++ ys ≡ [] → xs ≡ []
  first-none [] ys e = refl
  first-none (x ∷ xs) ys e = cc

  second-none : (xs ys : List Found) → xs ++ ys ≡ [] → ys ≡ []
  second-none [] ys e = e
  second-none (x ∷ xs) ys e = cc

  none-at : (n t : ℕ) → t < n → found_before n ≡ [] → found_at_moment system group t ≡ []
  none-at zero t l e = absurd (omega (arith, l))
  none-at (suc n) t l e = by (none-at n t) (nat_lt t n) refl
    where
      both : found_before n ++ found_at_moment system group n ≡ []
      both = sym (found-next n) ∙ e

      by : (t < n → found_before n ≡ [] → found_at_moment system group t ≡ []) → (b : Bool) → nat_lt t n ≡ b → found_at_moment system group t ≡ []
      by i true f = i (grind (arith, nat_tests)) (first-none (found_before n) (found_at_moment system group n) both)
      by i false f =
          let low : n ≤ t = grind (arith, nat_tests) in
          let same : n ≡ t = omega (arith, low, l) in
          let P : ℕ → Type 0 = λ t. found_at_moment system group t ≡ [] in
          subst P same (second-none (found_before n) (found_at_moment system group n) both)

  none-before : (n : ℕ) → ((t : ℕ) → found_at_moment system group t ≡ []) → found_before n ≡ []
  none-before zero h = refl
  none-before (suc n) h = found-next n ∙ both _ _ (none-before n h) (h n)
    where
      both : (xs ys : List Found) → xs ≡ [] → ys ≡ [] → xs ++ ys ≡ []
      both xs ys e f = cc

pub nothing-is-found : NothingIsFound
nothing-is-found system group shifts from well recur first horizon = none-before system group well (suc horizon) (λ t. below (suc t) t (omega arith))
  where
    d : ℕ
    d = shifts.by

    some : 1 ≤ shifts.by
    some = recur.recurs.some

    below : (n t : ℕ) → t < n → found_at_moment system group t ≡ []
    below zero t l = absurd (omega (arith, l))
    below (suc n) t l = by (below n (t - shifts.by)) (nat_lt t (from + shifts.by)) refl
      where
        by : (t - shifts.by < n → found_at_moment system group (t - shifts.by) ≡ []) → (b : Bool) → nat_lt t (from + shifts.by) ≡ b → found_at_moment system group t ≡ []
        by i true e =
            let less : t < from + shifts.by = grind (arith, nat_tests) in
            none-at system group well (from + shifts.by) t less first
        by i false e =
            let m : from + shifts.by ≤ t = grind (arith, nat_tests) in
            let f : t - shifts.by + shifts.by ≡ t = omega (arith, m) in
            let P : ℕ → Type 0 = λ t. found_at_moment system group t ≡ [] in
            subst P f
            (findings-repeat system group shifts from well recur (t - shifts.by) (omega (arith, m))
            ∙ ap (map (later_found shifts)) (i (omega (arith, l, m, some))))
