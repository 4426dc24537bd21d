-- The rows of a schedule keep to this: a thread takes a word while it runs, and is done only between two jobs.
use Rattle.std.proofs.Common.{◌≡◌, ◌∙◌, ℕ, suc, Bool, true, false, ◌==◌, List, [], ◌∷◌, length, refl, ap}
use Rattle.std.specs.Prelude.{if◌then◌else◌, nat_lt}
use Rattle.mcs_ticks.specs.declared.row.Row.{Row}
use Rattle.mcs_ticks.specs.declared.row.What.{What}
use Rattle.mcs_ticks.specs.declared.row.What.TheVariants as row
use Rattle.mcs_ticks.specs.declared.row.Why.TheVariants as why
use Rattle.mcs_system.specs.System.{System}
use Rattle.mcs_system.specs.WellFormed.{IsWellFormed}
use Rattle.mcs_core.specs.Clock.{schedule}
use Rattle.mcs_verdict.specs.declared.standing.Standing.{Standing}
use Rattle.mcs_verdict.specs.declared.standing.Standing.TheVariants.{Running}
use Rattle.mcs_verdict.specs.Account.{standing_of}
use Rattle.mcs_verdict.specs.Standing.{telling}
use Rattle.mcs_verdict_laws.proofs.Entering.{self}
use Rattle.mcs_verdict_laws.proofs.Fits.{AreFit, Fits, JustEnded}
use Rattle.mcs_verdict_laws.proofs.Fitting.{fitting}
use Rattle.mcs_verdict_laws.proofs.Holds.{first}
use Rattle.mcs_verdict_laws.proofs.Opening.{opening_as, opening_standing, opening_told}
use Rattle.mcs_verdict_laws.proofs.Reached.{reached}
use Rattle.mcs_verdict_laws.proofs.Standings.{said, tells_on}
use Rattle.mcs_verdict_laws.proofs.Steps.{Told, Allows, Leads, ends_round}

-- whether the thread has ended its job after this row, if it had before
abbrev pub has_ended_by : ℕ → What → Bool → Bool
has_ended_by thread (row.Wake x note word until) before = if x == thread then false else before
has_ended_by thread (row.Got x note word) before = if x == thread then false else before
has_ended_by thread (row.Round x number response) before = if x == thread then true else before
has_ended_by thread _ before = before

-- whether the thread took no word since it ended its latest job, by the rows so far, the latest first
abbrev pub has_ended : ℕ → List Row → Bool
has_ended thread [] = true
has_ended thread (r ∷ past) = has_ended_by thread r.what (has_ended thread past)

abbrev pub IsKept : List Row → What → Type 0
IsKept past (row.Got x note word) = standing_of (telling x past) ≡ Running
IsKept past (row.Stop x why.Done charged until) = has_ended x past ≡ true
IsKept past _ = Unit {0}

-- each of these rows keeps to this, by the rows before it
abbrev pub AreKept : List Row → List Row → Type 0
AreKept past [] = Unit {0}
AreKept past (r ∷ rows) = IsKept past r.what × AreKept (r ∷ past) rows

-- what the rows of a thread have to keep to
abbrev Runs : ℕ → List Row → What → Type 0
Runs x past (row.Got y note word) = (y == x) ≡ true → standing_of (telling x past) ≡ Running
Runs x past _ = Unit {0}

abbrev AllRun : ℕ → List Row → List Row → Type 0
AllRun x past [] = Unit {0}
AllRun x past (r ∷ rows) = Runs x past r.what × AllRun x (r ∷ past) rows

-- a thread that runs was told to
told-run : (before : Standing) (rows : List Row) → (before ≡ Running → ⊥) → said before rows ≡ Running → standing_of rows ≡ Running
told-run before [] differs e = absurd (differs e)
told-run before (r ∷ rows) differs e = e

module _ (system : System) (x : ℕ) (differs : opening_standing system x ≡ Running → ⊥) where
  runs-by : (past : List Row) (m : ℕ) (what : What) (before : Told) → said (opening_standing system x) (telling x past) ≡ before.standing
      → Allows x (first system x) m what before → Runs x past what
  runs-by past m (row.Got y note word) before e allows = λ own. told-run (opening_standing system x) (telling x past) differs (e ∙ allows own)
  runs-by past m (row.Round y number response) before e allows = tt
  runs-by past m (row.Wake y note word until) before e allows = tt
  runs-by past m (row.Release y) before e allows = tt
  runs-by past m (row.Run y) before e allows = tt
  runs-by past m (row.Stop y cause charged until) before e allows = tt
  runs-by past m (row.Signal y note badge) before e allows = tt
  runs-by past m (row.Arrive note badge maker) before e allows = tt
  runs-by past m (row.Hold note word) before e allows = tt
  runs-by past m (row.Order context) before e allows = tt
  runs-by past m (row.Interrupt source at_note badge) before e allows = tt

  all-run : (past rows : List Row) (before last : Told) → Leads x (first system x) before rows last
      → said (opening_standing system x) (telling x past) ≡ before.standing → AllRun x past rows
  all-run past [] before last leads e = tt
  all-run past (r ∷ rows) before last leads e = (
    runs-by past r.moment r.what before e leads.1.allows,
    all-run (r ∷ past) rows leads.0 last leads.2 (tells_on x (first system x) (opening_standing system x) past r before leads.0 leads.1 e),
  )

-- a job that has just ended
ended-round : (x : ℕ) (what : What) (before : Bool) → ends_round x what ≡ true → has_ended_by x what before ≡ true
ended-round x (row.Round y number response) before e = ap (λ b. if b then true else before) e
ended-round x (row.Got y note word) before e = absurd (cc)
ended-round x (row.Wake y note word until) before e = absurd (cc)
ended-round x (row.Release y) before e = absurd (cc)
ended-round x (row.Run y) before e = absurd (cc)
ended-round x (row.Stop y cause charged until) before e = absurd (cc)
ended-round x (row.Signal y note badge) before e = absurd (cc)
ended-round x (row.Arrive note badge maker) before e = absurd (cc)
ended-round x (row.Hold note word) before e = absurd (cc)
ended-round x (row.Order context) before e = absurd (cc)
ended-round x (row.Interrupt source at_note badge) before e = absurd (cc)

just-ended : (x m : ℕ) (past : List Row) → JustEnded x m past → has_ended x past ≡ true
just-ended x m [] h = absurd h
just-ended x m (r ∷ past) h = ended-round x r.what (has_ended x past) h.0

-- all threads
kept-by : (system : System) (past : List Row) (m : ℕ) (what : What) → ((x : ℕ) → Runs x past what) → ((x : ℕ) → Fits system x past m what)
    → IsKept past what
kept-by system past m (row.Got y note word) runs fits = runs y (self y)
kept-by system past m (row.Stop y why.Done charged until) runs fits = just-ended y m past (fits y (self y))
kept-by system past m (row.Stop y why.Spent charged until) runs fits = tt
kept-by system past m (row.Stop y why.Yield charged until) runs fits = tt
kept-by system past m (row.Stop y why.Wait charged until) runs fits = tt
kept-by system past m (row.Stop y why.Call charged until) runs fits = tt
kept-by system past m (row.Stop y why.Preempt charged until) runs fits = tt
kept-by system past m (row.Stop y why.Order charged until) runs fits = tt
kept-by system past m (row.Round y number response) runs fits = tt
kept-by system past m (row.Wake y note word until) runs fits = tt
kept-by system past m (row.Release y) runs fits = tt
kept-by system past m (row.Run y) runs fits = tt
kept-by system past m (row.Signal y note badge) runs fits = tt
kept-by system past m (row.Arrive note badge maker) runs fits = tt
kept-by system past m (row.Hold note word) runs fits = tt
kept-by system past m (row.Order context) runs fits = tt
kept-by system past m (row.Interrupt source at_note badge) runs fits = tt

all-kept : (system : System) (past rows : List Row) → ((x : ℕ) → AllRun x past rows) → ((x : ℕ) → AreFit system x past rows) → AreKept past rows
all-kept system past [] runs fits = tt
all-kept system past (r ∷ rows) runs fits =
    (kept-by system past r.moment r.what (λ x. (runs x).0) (λ x. (fits x).0), all-kept system (r ∷ past) rows (λ x. (runs x).1) (λ x. (fits x).1))

pub schedule-kept : (system : System) → IsWellFormed system → (horizon : ℕ) → AreKept [] (schedule system horizon)
schedule-kept system well horizon =
    all-kept system [] (schedule system horizon) runs (λ x. fitting system well x horizon)
  where
    runs : (x : ℕ) → AllRun x [] (schedule system horizon)
    runs x =
        let r = reached system well x (suc horizon) in
        all-run system x (not-opening x) [] (schedule system horizon) (opening_told system x) r.told r.leads refl
      where
        not-opening : (x : ℕ) → opening_standing system x ≡ Running → ⊥
        not-opening x = by (nat_lt x (length system.threads))
          where
            by : (b : Bool) → opening_as system x b ≡ Running → ⊥
            by true e = cc
            by false e = cc
