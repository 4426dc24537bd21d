-- Without a count there is no finding.
use Rattle.std.proofs.Common.{◌≡◌, ℕ, ◌+◌, ◌<◌, ◌≤◌, ◌⊎◌, inl, inr, Bool, true, false, cond, List, [], ◌∷◌, ◌++◌, length, refl, ap, ◌∙◌, Option, Some, None, arith}
use Rattle.std.specs.Prelude.{filter, ◌==◌}
use Rattle.std.specs.List.{AllByRecursion}
use Rattle.std.proofs.lemmas.Bool.Decides.{nat_tests}
use Rattle.std.proofs.lemmas.List.Elements.{filter-append}
use Rattle.mcs_ticks.specs.declared.row.Row.{Row}
use Rattle.mcs_ticks.specs.declared.row.What.{What}
use Rattle.mcs_ticks.specs.declared.row.What.TheVariants as row
use Rattle.mcs_system.specs.System.{System, thread_part, note_part, core_of}
use Rattle.mcs_core.specs.Clock.{clock}
use Rattle.mcs_verdict.specs.declared.finding.Finding.{Finding}
use Rattle.mcs_verdict.specs.declared.finding.Finding.TheVariants.{Miss, Lost}
use Rattle.mcs_verdict.specs.declared.finding.Found.{Found}
use Rattle.mcs_verdict.specs.declared.job.Job.{Job}
use Rattle.mcs_verdict.specs.Findings.{finding, past_of, found_at, found_in}
use Rattle.mcs_verdict.specs.Jobs.{job}
use Rattle.mcs_verdict.specs.Misses.{is_above, missed}
use Rattle.mcs_verdict.specs.Words.{held_of, firsts_of, leaves}
use Rattle.mcs_ever.specs.laws.Home.{IsOfOwn}
use Rattle.mcs_ever.proofs.Home.{rows-of-own}
use Rattle.mcs_ever.proofs.Schedules.{all-turns}
use Rattle.mcs_ever_found.specs.Course.{is_miss, is_loss, times, misses, losses}
use Rattle.mcs_ever_found.specs.laws.Course.{NoneIsCounted}

same : (x : ℕ) → (x == x) ≡ true
same x = grind (arith, nat_tests)

-- a round is no finding, or a miss of its thread
missed-counts : (deadline x : ℕ) (job : Job) → job.thread ≡ x → (missed deadline job ≡ None) ⊎ (is_miss x (missed deadline job) ≡ true)
missed-counts deadline x job is = by (is_above deadline job.response) refl
  where
    found : Option Finding
    found = Some (Miss job.thread job.number job.response deadline job.activated job.queued job.stood)

    by : (b : Bool) → is_above deadline job.response ≡ b → (missed deadline job ≡ None) ⊎ (is_miss x (missed deadline job) ≡ true)
    by true e = inr (ap (λ b. is_miss x (cond b found None)) e ∙ ap (λ y. y == x) is ∙ same x)
    by false e = inl (ap (λ b. cond b found None) e)

-- a signal is none, or one lost at its notification
lost-counts : (note word : ℕ) (b : Bool) → (cond b (Some (Lost note word)) None ≡ None) ⊎ (is_loss note (cond b (Some (Lost note word)) None) ≡ true)
lost-counts note word true = inr (same note)
lost-counts note word false = inl refl

module _ (system : System) (group : ℕ → Bool) where
  -- the count of a finding: a miss of a thread of the group, or a lost signal at a notification of
  -- it
  record Misses (found : Option Finding) : Type 0 where
    thread : ℕ
    known : thread < length system.threads
    own : group (core_of system (thread_part system thread)) ≡ true
    counts : is_miss thread found ≡ true

  record Loses (found : Option Finding) : Type 0 where
    note : ℕ
    known : note < length system.notes
    own : group (note_part system note).core ≡ true
    counts : is_loss note found ≡ true

  abbrev Counts : Option Finding → Type 0
  Counts found = (found ≡ None) ⊎ (Misses found ⊎ Loses found)

  what-counts : (past : List Row) (m c : ℕ) (what : What) → group c ≡ true → IsOfOwn system c what → Counts (finding system past m what)
  what-counts past m c (row.Round x number response) mine own = by (missed-counts (thread_part system x).deadline x (job system past m x number) refl)
    where
      by : (finding system past m (row.Round x number response) ≡ None) ⊎ (is_miss x (finding system past m (row.Round x number response)) ≡ true) →
          Counts (finding system past m (row.Round x number response))
      by (inl none) = inl none
      by (inr is) = inr (inl (record { thread = x; known = own.known; own = ap group own.home ∙ mine; counts = is }))
  what-counts past m c (row.Hold n word) mine own = by (lost-counts n word (leaves (held_of (firsts_of system) n past).word word))
    where
      by : (finding system past m (row.Hold n word) ≡ None) ⊎ (is_loss n (finding system past m (row.Hold n word)) ≡ true) →
          Counts (finding system past m (row.Hold n word))
      by (inl none) = inl none
      by (inr is) = inr (inr (record { note = n; known = own.known; own = ap group own.home ∙ mine; counts = is }))
  what-counts past m c (row.Stop x cause k until) mine own = inl refl
  what-counts past m c (row.Release x) mine own = inl refl
  what-counts past m c (row.Run x) mine own = inl refl
  what-counts past m c (row.Signal x note badge) mine own = inl refl
  what-counts past m c (row.Arrive note badge maker) mine own = inl refl
  what-counts past m c (row.Wake x note word until) mine own = inl refl
  what-counts past m c (row.Got x note word) mine own = inl refl
  what-counts past m c (row.Order context) mine own = inl refl
  what-counts past m c (row.Interrupt source at_note badge) mine own = inl refl

  -- a count only grows
  grows : (test : Option Finding → Bool) (past rows : List Row) → times system test past ≤ times system test (past_of past rows)
  grows test past [] = omega arith
  grows test past (r ∷ rows) =
      let more = grows test (r ∷ past) rows in
      omega (arith, more)

  -- a count of 0 at the end: no finding was counted
  counted : (test : Option Finding → Bool) (past rows : List Row) (r : Row) → test (finding system past r.moment r.what) ≡ true →
      times system test (past_of (r ∷ past) rows) ≡ 0 → ⊥
  counted test past rows r e none =
      let more = grows test (r ∷ past) rows in
      let one : times system test (r ∷ past) ≡ 1 + times system test past = ap (λ b. cond b 1 0 + times system test past) e in
      omega (arith, more, one, none)

  abbrev of_group : Found → Bool
  of_group found = group found.core

  nothing : (past rows : List Row) → AllByRecursion (λ (r : Row). IsOfOwn system r.core r.what) rows →
      ((x : ℕ) → x < length system.threads → group (core_of system (thread_part system x)) ≡ true → misses system x (past_of past rows) ≡ 0) →
      ((n : ℕ) → n < length system.notes → group (note_part system n).core ≡ true → losses system n (past_of past rows) ≡ 0) →
      filter of_group (found_in system past rows) ≡ []
  nothing past [] own a b = refl
  nothing past (r ∷ rows) own a b =
      filter-append of_group (found_at r.moment r.core (finding system past r.moment r.what)) (found_in system (r ∷ past) rows)
      ∙ both _ _ (by (group r.core) refl) (nothing (r ∷ past) rows own.1 a b)
    where
      both : (xs ys : List Found) → xs ≡ [] → ys ≡ [] → xs ++ ys ≡ []
      both xs ys e f = cc

      away : (o : Option Finding) → group r.core ≡ false → filter of_group (found_at r.moment r.core o) ≡ []
      away None e = refl
      away (Some found) e = ap (λ b. cond b (record { moment = r.moment; core = r.core; finding = found } ∷ []) []) e

      mine : Counts (finding system past r.moment r.what) → filter of_group (found_at r.moment r.core (finding system past r.moment r.what)) ≡ []
      mine (inl none) = ap (λ o. filter of_group (found_at r.moment r.core o)) none
      mine (inr (inl m)) = absurd (counted (is_miss m.thread) past rows r m.counts (a m.thread m.known m.own))
      mine (inr (inr l)) = absurd (counted (is_loss l.note) past rows r l.counts (b l.note l.known l.own))

      by : (g : Bool) → group r.core ≡ g → filter of_group (found_at r.moment r.core (finding system past r.moment r.what)) ≡ []
      by true e = mine (what-counts past r.moment r.core r.what e own.0)
      by false e = away (finding system past r.moment r.what) e

pub none-is-counted : NoneIsCounted
none-is-counted system group well t a b =
    nothing system group [] (clock system t).rows
    (all-turns (λ (r : Row). IsOfOwn system r.core r.what) system well t (λ s c l known. rows-of-own system well c s known)) a b
