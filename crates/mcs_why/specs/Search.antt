-- The state that is kept of a schedule's rows to find a round.
use Rattle.std.specs.Prelude.{ℕ, List}
use Rattle.mcs_ticks.specs.declared.row.Row.{Row}
use Rattle.mcs_system.specs.System.{System, thread_part, core_of}
use Rattle.mcs_verdict.specs.Standing.{telling}
use Rattle.mcs_verdict.specs.Calls.{first_wait, bits_of}
use Rattle.mcs_verdict.specs.Rounds.{begun_of, rounds_of}
use Rattle.mcs_verdict.specs.Parts.{free}
use Rattle.mcs_verdict.specs.Account.{standing_of}
use Rattle.mcs_why.specs.declared.trail.Trail.{Trail}
use Rattle.mcs_why.specs.Waits.{stopped, waited_of}
use Rattle.mcs_why.specs.Spans.{span_in}

-- the state after these rows, for the thread's round with this number
abbrev pub trail_of : System → ℕ → ℕ → List Row → Trail
trail_of system thread number past =
    let part = thread_part system thread in
    record {
      thread = thread;
      number = number;
      core = core_of system part;
      waits = first_wait part;
      bits = bits_of part;
      ended = rounds_of thread past;
      found = span_in system thread number past;
      begun = begun_of system thread past;
      waited = waited_of system thread past;
      stopped = stopped thread past;
      free = free part.start thread past;
      standing = standing_of (telling thread past);
    }
