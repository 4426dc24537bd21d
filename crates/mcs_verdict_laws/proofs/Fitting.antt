-- The rows of a schedule keep to what was said of them.
use Rattle.std.proofs.Common.{◌≡◌, ℕ, zero, suc, ◌+◌, ◌<◌, ◌≤◌, ◌⊎◌, inl, inr, Bool, true, false, ◌==◌, List, [], ◌∷◌, ◌++◌, length, Option, Some, None, refl, sym, ap, subst, ◌∙◌, arith}
use Rattle.std.specs.Prelude.{flat_map, nat_lt}
use Rattle.std.proofs.lemmas.Bool.Decides.{nat_tests}
use Rattle.std.specs.List.{range_with_len}
use Rattle.mcs_ticks.specs.declared.row.Row.{Row}
use Rattle.mcs_ticks.specs.declared.row.What.{What}
use Rattle.mcs_ticks.specs.declared.row.What.TheVariants as row
use Rattle.mcs_ticks.specs.declared.row.Why.TheVariants as why
use Rattle.mcs_system.specs.System.{System, TakesTime, thread_part}
use Rattle.mcs_system.specs.WellFormed.{IsWellFormed}
use Rattle.mcs_system.proofs.Linked.{takes_time}
use Rattle.mcs_core.specs.Turn.{stamped}
use Rattle.mcs_core.specs.Clock as clocks
use Rattle.mcs_core.proofs.Clock.{rows-clock}
use Rattle.mcs_verdict.specs.declared.standing.Standing.TheVariants.{Running, Done}
use Rattle.mcs_verdict.specs.Findings.{past_of}
use Rattle.mcs_verdict.specs.Rounds.{first_wait, begun_after, begun_of}
use Rattle.mcs_verdict_laws.proofs.Steps.{ended_last, EndsAfter, AreEnded, Told, TakesAt, IsTimed, Takes, Allows, Step, still_done, Leads}
use Rattle.mcs_verdict_laws.proofs.Holds.{first as first_note}
use Rattle.mcs_verdict_laws.proofs.Entering.{self}
use Rattle.mcs_verdict_laws.proofs.Opening.{opening_as, opening_told}
use Rattle.mcs_verdict_laws.proofs.Reached.{reached, turn_ended}
use Rattle.mcs_verdict_laws.proofs.Fits.{JustEnded, held_in, Fits, AreFit, IsPlaced, ArePlaced}
use Rattle.mcs_verdict_laws.proofs.Words.{IsRight}
use Rattle.mcs_verdict_laws.proofs.WordsTold.{AreRight, right-clock}

-- a thread is done right after one of its rounds
module _ (x : ℕ) where
  abbrev IsStopped : List Row → ℕ → What → Type 0
  IsStopped past moment (row.Stop y why.Done charged until) = (y == x) ≡ true → JustEnded x moment past
  IsStopped past moment _ = Unit {0}

  abbrev AreStopped : List Row → List Row → Type 0
  AreStopped past [] = Unit {0}
  AreStopped past (r ∷ rows) = IsStopped past r.moment r.what × AreStopped (r ∷ past) rows

  stopped-append : (past rows more : List Row) → AreStopped past rows → AreStopped (past_of past rows) more → AreStopped past (rows ++ more)
  stopped-append past [] more first second = second
  stopped-append past (r ∷ rows) more first second = (first.0, stopped-append (r ∷ past) rows more first.1 second)

  stopped-after : (t : ℕ) (last : Option What) (past : List Row) (what : What) → (ended_last x last ≡ true → JustEnded x t past)
      → EndsAfter x last what → IsStopped past t what
  stopped-after t last past (row.Stop y why.Done charged until) link ends = λ own. link (ends own)
  stopped-after t last past (row.Stop y why.Spent charged until) link ends = tt
  stopped-after t last past (row.Stop y why.Yield charged until) link ends = tt
  stopped-after t last past (row.Stop y why.Wait charged until) link ends = tt
  stopped-after t last past (row.Stop y why.Call charged until) link ends = tt
  stopped-after t last past (row.Stop y why.Preempt charged until) link ends = tt
  stopped-after t last past (row.Stop y why.Order charged until) link ends = tt
  stopped-after t last past (row.Release y) link ends = tt
  stopped-after t last past (row.Run y) link ends = tt
  stopped-after t last past (row.Signal y note badge) link ends = tt
  stopped-after t last past (row.Arrive note badge maker) link ends = tt
  stopped-after t last past (row.Wake y note word until) link ends = tt
  stopped-after t last past (row.Hold note word) link ends = tt
  stopped-after t last past (row.Got y note word) link ends = tt
  stopped-after t last past (row.Round y number response) link ends = tt
  stopped-after t last past (row.Order context) link ends = tt
  stopped-after t last past (row.Interrupt source at_note badge) link ends = tt

  stamped-stopped : (c t : ℕ) (last : Option What) (past : List Row) (rows : List What) → (ended_last x last ≡ true → JustEnded x t past)
      → AreEnded x last rows → AreStopped past (stamped c t rows)
  stamped-stopped c t last past [] link ends = tt
  stamped-stopped c t last past (what ∷ rows) link ends =
      let r : Row = record { moment = t; core = c; what = what } in
      (stopped-after t last past what link ends.0, stamped-stopped c t (Some what) (r ∷ past) rows (λ e. (e, refl)) ends.1)

-- which rounds are under way, and where a word is taken
module _ (system : System) (x : ℕ) where
  abbrev IsGiven : List Row → ℕ → What → Type 0
  IsGiven past moment (row.Round y number response) = (y == x) ≡ true → (begun : ℕ) × (begun_of system x past ≡ Some begun)
  IsGiven past moment (row.Got y note word) = (y == x) ≡ true → begun_of system x past ≡ None → first_wait (thread_part system x) ≡ Some note
  IsGiven past moment (row.Wake y note word until) = (y == x) ≡ true → begun_of system x past ≡ None → first_wait (thread_part system x) ≡ Some note
  IsGiven past moment _ = Unit {0}

  abbrev AreGiven : List Row → List Row → Type 0
  AreGiven past [] = Unit {0}
  AreGiven past (r ∷ rows) = IsGiven past r.moment r.what × AreGiven (r ∷ past) rows

  given-by : (past : List Row) (told : Told) (m : ℕ) (what : What) → told.begun ≡ begun_of system x past
      → IsTimed x m what told.begun → Takes x (first_note system x) what told → IsGiven past m what
  given-by past told m (row.Round y number response) e timed takes = λ own. let t = timed own in (t.0, sym e ∙ t.1)
  given-by past told m (row.Got y note word) e timed takes = λ own none. (takes own).0 (e ∙ none)
  given-by past told m (row.Wake y note word until) e timed takes = λ own none. takes own (e ∙ none)
  given-by past told m (row.Release y) e timed takes = tt
  given-by past told m (row.Run y) e timed takes = tt
  given-by past told m (row.Stop y cause charged until) e timed takes = tt
  given-by past told m (row.Signal y note badge) e timed takes = tt
  given-by past told m (row.Arrive note badge maker) e timed takes = tt
  given-by past told m (row.Hold note word) e timed takes = tt
  given-by past told m (row.Order context) e timed takes = tt
  given-by past told m (row.Interrupt source at_note badge) e timed takes = tt

  given-all : (past rows : List Row) (before last : Told) → Leads x (first_note system x) before rows last → before.begun ≡ begun_of system x past
      → AreGiven past rows
  given-all past [] before last leads e = tt
  given-all past (r ∷ rows) before last leads e =
      let step = leads.1 in (
        given-by past before r.moment r.what e step.timed step.takes,
        given-all (r ∷ past) rows leads.0 last leads.2
            (step.begins ∙ ap (λ begun. begun_after (first_note system x).waits (first_note system x).bits x r.moment r.what begun) e),
      )

  -- a thread that the system does not have is done
  abbrev IsThere : Told → Type 0
  IsThere told = (x < length system.threads) ⊎ (told.standing ≡ Done)

  there-then : (m : ℕ) (what : What) (before after : Told) → Step x (first_note system x) m before what after → IsThere before → IsThere after
  there-then m what before after step (inl known) = inl known
  there-then m what before after step (inr done) = inr (still_done x (first_note system x) m before after what step done)

  known-by : (told : Told) → IsThere told → told.standing ≡ Running → x < length system.threads
  known-by told (inl known) runs = known
  known-by told (inr done) runs = let e : Done ≡ Running = sym done ∙ runs in absurd (cc)

  placed-by : (past : List Row) (told : Told) (m : ℕ) (what : What) → told.begun ≡ begun_of system x past → IsThere told
      → Allows x (first_note system x) m what told → Takes x (first_note system x) what told → IsPlaced system x past what
  placed-by past told m (row.Round y number response) e there allows takes = λ own. known-by told there (allows own)
  placed-by past told m (row.Got y note word) e there allows takes =
      λ own. let P : Option ℕ → Type 0 = TakesAt (thread_part system x).script note in subst P e (takes own).1
  placed-by past told m (row.Wake y note word until) e there allows takes = tt
  placed-by past told m (row.Release y) e there allows takes = tt
  placed-by past told m (row.Run y) e there allows takes = tt
  placed-by past told m (row.Stop y cause charged until) e there allows takes = tt
  placed-by past told m (row.Signal y note badge) e there allows takes = tt
  placed-by past told m (row.Arrive note badge maker) e there allows takes = tt
  placed-by past told m (row.Hold note word) e there allows takes = tt
  placed-by past told m (row.Order context) e there allows takes = tt
  placed-by past told m (row.Interrupt source at_note badge) e there allows takes = tt

  placed-all : (past rows : List Row) (before last : Told) → Leads x (first_note system x) before rows last → before.begun ≡ begun_of system x past
      → IsThere before → ArePlaced system x past rows
  placed-all past [] before last leads e there = tt
  placed-all past (r ∷ rows) before last leads e there =
      let step = leads.1 in (
        placed-by past before r.moment r.what e there step.allows step.takes,
        placed-all (r ∷ past) rows leads.0 last leads.2
            (step.begins ∙ ap (λ begun. begun_after (first_note system x).waits (first_note system x).bits x r.moment r.what begun) e)
            (there-then r.moment r.what before leads.0 step there),
      )

  -- all of it together
  fit-row : (past : List Row) (m : ℕ) (what : What) → IsGiven past m what → IsStopped x past m what
      → ((note : ℕ) → first_wait (thread_part system x) ≡ Some note → IsRight note (held_in system note past).word what) → Fits system x past m what
  fit-row past m (row.Round y number response) given stopped right = given
  fit-row past m (row.Got y note word) given stopped right =
      λ own none. let waits = given own none in (waits, right note waits (self note))
  fit-row past m (row.Wake y note word until) given stopped right =
      λ own none. let waits = given own none in (waits, right note waits (self note))
  fit-row past m (row.Hold note word) given stopped right = λ waits. right note waits (self note)
  fit-row past m (row.Stop y why.Done charged until) given stopped right = stopped
  fit-row past m (row.Stop y why.Spent charged until) given stopped right = tt
  fit-row past m (row.Stop y why.Yield charged until) given stopped right = tt
  fit-row past m (row.Stop y why.Wait charged until) given stopped right = tt
  fit-row past m (row.Stop y why.Call charged until) given stopped right = tt
  fit-row past m (row.Stop y why.Preempt charged until) given stopped right = tt
  fit-row past m (row.Stop y why.Order charged until) given stopped right = tt
  fit-row past m (row.Release y) given stopped right = tt
  fit-row past m (row.Run y) given stopped right = tt
  fit-row past m (row.Signal y note badge) given stopped right = tt
  fit-row past m (row.Arrive note badge maker) given stopped right = tt
  fit-row past m (row.Order context) given stopped right = tt
  fit-row past m (row.Interrupt source at_note badge) given stopped right = tt

  fit-all : (past rows : List Row) → AreGiven past rows → AreStopped x past rows
      → ((note : ℕ) → first_wait (thread_part system x) ≡ Some note → AreRight system note past rows) → AreFit system x past rows
  fit-all past [] given stopped right = tt
  fit-all past (r ∷ rows) given stopped right = (
    fit-row past r.moment r.what given.0 stopped.0 (λ note e. (right note e).0),
    fit-all (r ∷ past) rows given.1 stopped.1 (λ note e. (right note e).1),
  )

module _ (system : System) (well : IsWellFormed system) (x : ℕ) where
  takes : TakesTime system
  takes = takes_time system well

  abbrev rows_from : ℕ → ℕ → ℕ → List Row
  rows_from t a n = flat_map (λ c. clocks.rows_of system c t) (range_with_len a n)

  -- stops
  stopped-moment : (t n a : ℕ) (past : List Row) → a + n ≤ system.cores → AreStopped x past (rows_from t a n)
  stopped-moment t zero a past l = tt
  stopped-moment t (suc n) a past l =
      stopped-append x past (clocks.rows_of system a t) (rows_from t (a + 1) n)
      (stamped-stopped x a t None past (clocks.turn_of system a t).rows (λ e. absurd (no e)) (turn_ended system well x t a (omega (arith, l))))
      (stopped-moment t n (a + 1) (past_of past (clocks.rows_of system a t)) (omega (arith, l)))
    where
      no : false ≡ true → ⊥
      no e = cc

  stopped-clock : (t : ℕ) → AreStopped x [] (clocks.clock system t).rows
  stopped-clock zero = tt
  stopped-clock (suc t) =
      let P : List Row → Type 0 = λ rows. AreStopped x [] rows in
      subst P (sym (rows-clock system takes t))
      (stopped-append x [] (clocks.clock system t).rows (rows_from t 0 system.cores) (stopped-clock t)
      (stopped-moment t system.cores 0 (past_of [] (clocks.clock system t).rows) (omega arith)))

  pub fitting : (horizon : ℕ) → AreFit system x [] (clocks.schedule system horizon)
  fitting horizon =
      let r = reached system well x (suc horizon) in
      fit-all system x [] (clocks.schedule system horizon)
      (given-all system x [] (clocks.schedule system horizon) (opening_told system x) r.told r.leads refl)
      (stopped-clock (suc horizon))
      (right-clock system well x (suc horizon))

  opening-there : IsThere system x (opening_told system x)
  opening-there = by (nat_lt x (length system.threads)) refl
    where
      inside : (a b : ℕ) → nat_lt a b ≡ true → a < b
      inside a b e = grind (arith, nat_tests)

      by : (b : Bool) → nat_lt x (length system.threads) ≡ b → (x < length system.threads) ⊎ (opening_as system x b ≡ Done)
      by true e = inl (inside x (length system.threads) e)
      by false e = inr refl

  pub placing : (horizon : ℕ) → ArePlaced system x [] (clocks.schedule system horizon)
  placing horizon =
      let r = reached system well x (suc horizon) in
      placed-all system x [] (clocks.schedule system horizon) (opening_told system x) r.told r.leads refl opening-there
