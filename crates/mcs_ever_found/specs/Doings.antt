-- Flags of what rows did to each thread and each notification.
use Rattle.std.specs.Prelude.{ℕ, Bool, List, map, length}
use Rattle.std.specs.List.{list_any, range_with_len}
use Rattle.mcs_ticks.specs.declared.row.What.{What}
use Rattle.mcs_system.specs.System.{System}
use Rattle.mcs_ever.specs.laws.Repeats.{ends_round}
use Rattle.mcs_ever_found.specs.Recurs.{takes_word}

-- for each number below n, whether one of the rows passes the test of that number
abbrev pub flags_of : (ℕ → What → Bool) → ℕ → List What → List Bool
flags_of test n rows = map (λ x. list_any (test x) rows) (range_with_len 0 n)

-- for each thread, whether a round of it ended; for each notification, whether its word was taken
pub record Doings : Type 0 where
  pub ended : List Bool
  pub taken : List Bool

-- the flags of these rows
abbrev pub doings_of : System → List What → Doings
doings_of system rows =
    record {
      ended = flags_of ends_round (length system.threads) rows;
      taken = flags_of takes_word (length system.notes) rows;
    }
