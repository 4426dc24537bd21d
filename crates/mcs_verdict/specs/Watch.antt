-- The state that is kept of a schedule's rows: the account of each thread and the word of each
-- notification.
use Rattle.std.specs.Prelude.{ℕ, suc, List, [], ◌∷◌}
use Rattle.mcs_ticks.specs.declared.row.Row.{Row}
use Rattle.mcs_system.specs.declared.part.ThreadPart.{ThreadPart}
use Rattle.mcs_system.specs.System.{System}
use Rattle.mcs_verdict.specs.declared.account.Account.{Account}
use Rattle.mcs_verdict.specs.declared.held.Held.{Held}
use Rattle.mcs_verdict.specs.Account.{account_of}
use Rattle.mcs_verdict.specs.Words.{held, firsts_of}

pub record Watch : Type 0 where
  pub accounts : List Account
  pub words : List Held

-- the accounts of the threads from number n on
abbrev pub accounts_of : List Held → ℕ → List ThreadPart → List Row → List Account
accounts_of firsts n [] past = []
accounts_of firsts n (part ∷ parts) past = account_of firsts part n past ∷ accounts_of firsts (suc n) parts past

-- the words of the notifications from number n on; at first they are `firsts`
abbrev pub words_of : ℕ → List Held → List Row → List Held
words_of n [] past = []
words_of n (first ∷ firsts) past = held first n past ∷ words_of (suc n) firsts past

-- the watch after these rows
abbrev pub watch_of : System → List Row → Watch
watch_of system past =
    record { accounts = accounts_of (firsts_of system) 0 system.threads past; words = words_of 0 (firsts_of system) past }
