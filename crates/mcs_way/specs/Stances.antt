-- How each thread stands by the rows so far, the latest first, and how it stood since it has an origin.
use Rattle.std.specs.Prelude.{ℕ, suc, ◌≡◌, ◌≢◌, ◌-◌, max, List, [], ◌∷◌, get_or, length, Option, Some, None}
use Rattle.mcs_ticks.specs.declared.row.Row.{Row}
use Rattle.mcs_verdict.specs.declared.standing.Stood.{Stood}
use Rattle.mcs_verdict.specs.Standing.{telling}
use Rattle.mcs_verdict.specs.Stood.{no_ticks, counted, stood_in}
use Rattle.mcs_verdict.specs.Account.{standing_of, since_of, stood_of}
use Rattle.mcs_way.specs.declared.stance.Stance.{Stance}
use Rattle.mcs_way.specs.Trace.{Trace, since_of as since_at}

-- how a thread stood up to a moment, if it has the origin since then
abbrev pub stood_since : ℕ → List Row → ℕ → Option ℕ → Stood
stood_since thread past moment None = no_ticks
stood_since thread past moment (Some from) = stood_in thread past from moment

-- the stance of a thread that has the origin since then, by its telling rows
abbrev pub stance_of : Option ℕ → List Row → Stance
stance_of from rows = record { standing = standing_of rows; since = since_of rows; stood = stood_of from rows }

-- the stances of the threads from number n on, if these have the origin
abbrev pub stances_of : ℕ → List (Option Trace) → List Row → List Stance
stances_of n [] past = []
stances_of n (spot ∷ spots) past = stance_of (since_at spot) (telling n past) ∷ stances_of (suc n) spots past

-- how a thread stood up to a moment, if no row told of it since
abbrev pub passed : ℕ → Option ℕ → Stance → Stood
passed moment None stance = stance.stood
passed moment (Some from) stance = counted stance.standing (moment - max stance.since from) stance.stood

-- The origin stays with the thread, comes to it at this moment, or leaves it. The numbers say since when the thread has it.
abbrev pub IsNext : ℕ → Option ℕ → Option ℕ → Type 0
IsNext moment before None = Unit {0}
IsNext moment None (Some from) = from ≡ moment
IsNext moment (Some before) (Some from) = from ≡ before

-- at this moment the origin comes to this thread or leaves it, and no other one
pub record AreNext (thread moment : ℕ) (old new : List (Option Trace)) : Type 0 where
  pub long : length new ≡ length old
  pub own : IsNext moment (since_at (get_or old thread None)) (since_at (get_or new thread None))
  pub others : (k : ℕ) → k ≢ thread → since_at (get_or new k None) ≡ since_at (get_or old k None)
