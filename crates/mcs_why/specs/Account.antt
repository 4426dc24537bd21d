-- The account of who ran on a core in a span.
use Rattle.std.specs.Prelude.{ℕ, ◌-◌, min, List, [], ◌∷◌, map, Option, None}
use Rattle.std.specs.List.{range_with_len}
use Rattle.mcs_ticks.specs.declared.row.Row.{Row}
use Rattle.mcs_verdict.specs.Account.{since_of}
use Rattle.mcs_why.specs.Running.{runner, turns, is_thread, is_nobody, ticks_for}

pub record Account : Type 0 where
  pub core : ℕ
  pub from : ℕ
  pub to : ℕ
  pub passed : ℕ
  pub runner : Option ℕ
  pub ran : List ℕ
  pub idle : ℕ

-- who runs after these rows
abbrev pub runner_now : List Row → Option ℕ
runner_now [] = None
runner_now (r ∷ rows) = runner r.what

-- the ticks of [from, to) before a time
abbrev pub passed_at : ℕ → ℕ → ℕ → ℕ
passed_at from to moment = min moment to - from

-- the account of the threads by such rows, with `passed` ticks of the span counted
abbrev pub account_at : ℕ → ℕ → ℕ → ℕ → List Row → ℕ → Account
account_at threads core from to rows passed =
    record {
      core = core;
      from = from;
      to = to;
      passed = passed;
      runner = runner_now rows;
      ran = map (λ thread. ticks_for (is_thread thread) rows from passed) (range_with_len 0 threads);
      idle = ticks_for is_nobody rows from passed;
    }

-- the account after these rows; the ticks up to the latest that decides who runs are counted
abbrev pub account_of : ℕ → ℕ → ℕ → ℕ → List Row → Account
account_of threads core from to past =
    account_at threads core from to (turns core past) (passed_at from to (since_of (turns core past)))
