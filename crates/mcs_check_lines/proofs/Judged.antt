-- Exit codes that were worked by hand, and what an exit code of 0 says.
use Rattle.std.specs.Prelude.{◌≡◌, Bool, true, false, ◌==◌, ◌&&◌, ◌||◌, Some, None, refl}
use Rattle.std.proofs.Common.{arith}
use Rattle.mcs_check_lines.specs.declared.checked.Checked.{Checked}
use Rattle.mcs_check_lines.specs.Counts.{no_counts}
use Rattle.mcs_check_lines.specs.Status.{code_of, is_doubtful, is_found, status_of}

-- a file with one thread, which has no deadline
abbrev nothing : Checked
nothing = record { counts = no_counts; scope = record { unjudged = 0; threads = 1; deadlines = 0; judged = 0 }; chains = None }

-- three rounds of a thread with a deadline ended
abbrev in_time : Checked
in_time = record nothing { scope = record { unjudged = 0; threads = 1; deadlines = 1; judged = 3 } }

nothing_is_judged : status_of false nothing ≡ 6
nothing_is_judged = refl

in_time_is_well : status_of true in_time ≡ 0
in_time_is_well = refl

missed_one : status_of false (record in_time { counts = record no_counts { missed = 1 } }) ≡ 5
missed_one = refl

untaken_one : status_of false (record in_time { counts = record no_counts { untaken = 1 } }) ≡ 5
untaken_one = refl

-- what is lost is found, even if nothing is judged
lost_one : status_of false (record nothing { counts = record no_counts { lost = 1 } }) ≡ 5
lost_one = refl

-- merged signals, and lost ones that are allowed, are no findings
merged_and_allowed : status_of true (record in_time { counts = record no_counts { merged = 3; allowed = 2 } }) ≡ 0
merged_and_allowed = refl

-- a hint counts only if asked for
hinted : status_of false (record in_time { counts = record no_counts { hints = 1 } }) ≡ 0
hinted = refl

hinted_strictly : status_of true (record in_time { counts = record no_counts { hints = 1 } }) ≡ 5
hinted_strictly = refl

-- and so does a thread of which nothing is judged
one_unjudged : status_of false (record in_time { scope = record { unjudged = 1; threads = 2; deadlines = 2; judged = 3 } }) ≡ 0
one_unjudged = refl

one_unjudged_strictly : status_of true (record in_time { scope = record { unjudged = 1; threads = 2; deadlines = 2; judged = 3 } }) ≡ 5
one_unjudged_strictly = refl

slow_answer : status_of false (record in_time { chains = Some (record { slow = 1; unanswered = 0 }) }) ≡ 5
slow_answer = refl

no_answer : status_of false (record in_time { chains = Some (record { slow = 0; unanswered = 1 }) }) ≡ 5
no_answer = refl

chains_in_time : status_of true (record in_time { chains = Some (record { slow = 0; unanswered = 0 }) }) ≡ 0
chains_in_time = refl
