-- What the next rows of a thread count of the round under way: facts of its account that save steps.
use Rattle.std.specs.Prelude.{◌≡◌, ℕ, ◌-◌, max, Bool, true, false, ◌&&◌, nat_lt, nat_le, if◌then◌else◌, Option, Some, None}
use Rattle.std.specs.Option.{is_some}
use Rattle.mcs_verdict.specs.declared.account.Account.{Account}
use Rattle.mcs_verdict.specs.declared.standing.Standing.{Standing}
use Rattle.mcs_verdict.specs.declared.tracked.Counts.{Counts}
use Rattle.mcs_verdict.specs.declared.tracked.Counts.TheVariants.{Nothing, Each, Unknown}
use Rattle.mcs_verdict.specs.Stood.{no_ticks, counted}
use Rattle.mcs_verdict.specs.Account.{counting, counting_at, stood_from, stood_since, active_since, total_at}

-- whether this is known, and below the time
abbrev pub is_before : Option ℕ → ℕ → Bool
is_before None since = false
is_before (Some from) since = nat_lt from since

-- whether a round is under way in which the thread was ready or running, and whose ticks count from
-- before the latest telling row on
abbrev pub counts_each : Account → Bool
counts_each account =
    is_some account.begun && is_some account.active
    && is_before (counting account.waits account.begun account.free account.called account.active 0) account.since

-- an account of which that is known
abbrev pub Fits : Counts → Account → Type 0
Fits Nothing account = account.stood ≡ no_ticks
Fits Each account = counts_each account ≡ true
Fits Unknown account = Unit {0}

-- what is known after a row at `moment`, if the ticks of the round count from `from` on
abbrev pub counts_after : Option ℕ → ℕ → Account → Counts
counts_after None moment account = Nothing
counts_after (Some from) moment account =
    if nat_le moment from
    then if nat_le account.since from then Nothing else Unknown
    else if is_some account.begun && is_some account.active then Each else Unknown

-- a row after which the thread stands so
abbrev pub stands_from : ℕ → ℕ → Standing → Account → Account
stands_from set moment standing account =
    record account {
      standing = standing;
      since = moment;
      active = active_since account.begun moment account.standing account;
      stood = stood_since (counting_at set moment account) moment account.standing account;
      total = total_at moment account.standing account;
    }

-- a round begins with a word that was set at `set`
abbrev pub begins_at : ℕ → ℕ → Account → Account
begins_at moment set account =
    record account { begun = Some moment; called = Some set; active = None; stood = stood_from (max set account.free) account }

-- an account that counts each tick, after a telling row
abbrev pub counted_on : ℕ → Standing → Account → Account
counted_on moment standing account =
    record account {
      standing = standing;
      since = moment;
      stood = counted account.standing (moment - account.since) account.stood;
      total = counted account.standing (moment - account.since) account.total;
    }

-- an account whose round begins with a word that wakes the thread
abbrev pub woken_at : ℕ → Standing → Account → Account
woken_at moment standing account =
    record account {
      standing = standing;
      since = moment;
      begun = Some moment;
      called = Some moment;
      active = None;
      stood = no_ticks;
      total = total_at moment account.standing account;
    }
