-- What is kept of the rows of threads.
use Rattle.std.specs.Prelude.{ℕ, List, length, map}
use Rattle.std.specs.List.{range_with_len}
use Rattle.mcs_ticks.specs.Capped.{capped}
use Rattle.mcs_ticks.specs.declared.row.Row.{Row}
use Rattle.mcs_system.specs.System.{System}
use Rattle.mcs_verdict.specs.Watch.{watch_of}
use Rattle.mcs_check.specs.declared.thread_watch.ThreadWatch.{ThreadWatch}
use Rattle.mcs_check.specs.Judged.{ended}

-- for each of the first `threads` threads, how many of its rounds ended
abbrev pub ended_of : ℕ → List Row → List ℕ
ended_of threads past = map (λ thread. capped (ended thread past)) (range_with_len 0 threads)

abbrev pub threads_of : System → List Row → ThreadWatch
threads_of system past = record { accounts = watch_of system past; ended = ended_of (length system.threads) past }
