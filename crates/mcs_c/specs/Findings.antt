-- The findings in a schedule as numbers.
use Rattle.std.specs.Prelude.{ℕ}
use Rattle.mcs_verdict.specs.declared.finding.Finding.{Finding}
use Rattle.mcs_verdict.specs.declared.finding.Finding.TheVariants.{Miss, Overdue, Untaken, Lost, Never}
use Rattle.mcs_verdict.specs.declared.finding.Found.{Found}
use Rattle.mcs_verdict.specs.declared.standing.Stood.{Stood}
use Rattle.mcs_c.specs.Numbers.{none}
use Rattle.mcs_c.specs.declared.findings.NumberedFinding.{NumberedFinding}
use Rattle.mcs_c.specs.declared.findings.NumberedStood.{NumberedStood}

abbrev pub stood_of : Stood → NumberedStood
stood_of s = record { ready = s.ready; running = s.running; throttled = s.throttled; blocked = s.blocked; server = s.server }

abbrev pub no_stood : NumberedStood
no_stood = record { ready = 0; running = 0; throttled = 0; blocked = 0; server = 0 }

module _ (moment core : ℕ) where
  abbrev pub finding_at : Finding → NumberedFinding
  finding_at (Miss thread number response deadline activated queued stood) = record {
    moment = moment;
    core = core;
    kind = 0;
    thread = thread;
    note = none;
    number = number;
    response = response;
    deadline = deadline;
    activated = activated;
    queued = queued;
    word = 0;
    stood = stood_of stood;
  }
  finding_at (Overdue thread number age deadline activated queued stood) = record {
    moment = moment;
    core = core;
    kind = 1;
    thread = thread;
    note = none;
    number = number;
    response = age;
    deadline = deadline;
    activated = activated;
    queued = queued;
    word = 0;
    stood = stood_of stood;
  }
  finding_at (Lost note word) = record {
    moment = moment;
    core = core;
    kind = 2;
    thread = none;
    note = note;
    number = 0;
    response = 0;
    deadline = 0;
    activated = 0;
    queued = 0;
    word = word;
    stood = no_stood;
  }
  finding_at (Never thread deadline) = record {
    moment = moment;
    core = core;
    kind = 3;
    thread = thread;
    note = none;
    number = 0;
    response = 0;
    deadline = deadline;
    activated = 0;
    queued = 0;
    word = 0;
    stood = no_stood;
  }
  finding_at (Untaken note word age deadline set) = record {
    moment = moment;
    core = core;
    kind = 4;
    thread = none;
    note = note;
    number = 0;
    response = age;
    deadline = deadline;
    activated = set;
    queued = 0;
    word = word;
    stood = no_stood;
  }

abbrev pub finding_of : Found → NumberedFinding
finding_of f = finding_at f.moment f.core f.finding
