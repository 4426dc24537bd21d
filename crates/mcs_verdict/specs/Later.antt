-- Accounts and words that are equal except that each time is `by` ticks later.
use Rattle.std.specs.Prelude.{◌≡◌, ℕ, ◌+◌, ◌<◌, length, get_or, Option, option_map}
use Rattle.mcs_verdict.specs.declared.account.Account.{Account}
use Rattle.mcs_verdict.specs.declared.held.Held.{Held}
use Rattle.mcs_verdict.specs.Stood.{no_ticks}
use Rattle.mcs_verdict.specs.Watch.{Watch}

abbrev pub later_moment : ℕ → Option ℕ → Option ℕ
later_moment by moment = option_map (λ moment. moment + by) moment

-- each time is later; the standing, the ticks of the round and its preemptions are the same
abbrev pub later_account : ℕ → Account → Account
later_account by account =
    record account {
      since = account.since + by;
      free = account.free + by;
      begun = later_moment by account.begun;
      called = later_moment by account.called;
      active = later_moment by account.active;
    }

-- an account without the number of its rounds and how it stood from time 0 on, which grow
abbrev pub without_total : Account → Account
without_total account = record account { rounds = 0; total = no_ticks }

abbrev pub IsLaterAccount : ℕ → Account → Account → Type 0
IsLaterAccount by before after = without_total after ≡ later_account by (without_total before)

-- both watches know the thread, and its account is later
pub record IsLaterThread (by : ℕ) (before after : Watch) (thread : ℕ) : Type 0 where
  pub known_before : thread < length before.accounts
  pub known_after : thread < length after.accounts
  pub later : (d : Account) → IsLaterAccount by (get_or before.accounts thread d) (get_or after.accounts thread d)

-- both watches know the notification, and its word is the same
pub record IsSameWord (before after : Watch) (note : ℕ) : Type 0 where
  pub known_before : note < length before.words
  pub known_after : note < length after.words
  pub same : (d : Held) → (get_or after.words note d).word ≡ (get_or before.words note d).word

-- both watches know the notification, and its word was set later
pub record IsLaterWord (by : ℕ) (before after : Watch) (note : ℕ) : Type 0 where
  pub known_before : note < length before.words
  pub known_after : note < length after.words
  pub later : (d : Held) → (get_or after.words note d).since ≡ (get_or before.words note d).since + by
