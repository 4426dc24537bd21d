-- A moment or never.
use Rattle.std.specs.Prelude.{ℕ, ◌≤◌, ◌-◌, ◌^◌, nat_le, nat_lt, if◌then◌else◌, Option, Some, None}

-- the moment `ticks` after the start, or never if it is later than any moment of a run
abbrev pub moment_of : ℕ → Option ℕ
moment_of ticks = if nat_le ticks (2 ^ 42) then Some ticks else None

-- the number by which it is kept: the smaller one is the sooner
abbrev pub number_of : Option ℕ → ℕ
number_of (Some moment) = moment
number_of None = 2 ^ 64 - 1

-- the sooner of two moments
abbrev pub sooner : Option ℕ → Option ℕ → Option ℕ
sooner None other = other
sooner (Some moment) None = Some moment
sooner (Some moment) (Some other) = Some (if nat_lt other moment then other else moment)

-- the moment, if it is before `to`
abbrev pub before : ℕ → Option ℕ → Option ℕ
before to None = None
before to (Some moment) = if nat_lt moment to then Some moment else None

-- it is moment `t` or an earlier one
abbrev pub HasCome : ℕ → Option ℕ → Type 0
HasCome t None = ⊥
HasCome t (Some moment) = moment ≤ t
