-- A watch of all chains: how far each thread is in its script, and what is kept of each chain.
use Rattle.std.specs.Prelude.{ℕ, suc, ◌+◌, ◌==◌, nat_lt, if◌then◌else◌, List, [], ◌∷◌, ◌++◌, fold, length, map, filter, Option, Some, None, Bool, true}
use Rattle.mcs_ticks.specs.Capped.{capped}
use Rattle.mcs_ticks.specs.declared.row.Row.{Row}
use Rattle.mcs_system.specs.declared.part.ChainPart.{ChainPart}
use Rattle.mcs_system.specs.System.{System}
use Rattle.mcs_chain.specs.declared.finding.Finding.{Finding}
use Rattle.mcs_chain.specs.declared.finding.Found.{Found}
use Rattle.mcs_chain.specs.declared.one.Late.{Late}
use Rattle.mcs_chain.specs.declared.step.Gone.{Gone}
use Rattle.mcs_chain.specs.Origins.{Origins}
use Rattle.mcs_chain.specs.Answers.{gone_after, origins, slow}

pub record One : Type 0 where
  pub origins : Origins
  -- the slow answers of the latest moment, and how many there are in all
  pub late : List Late
  pub slow : ℕ
  -- how many answers are judged
  pub judged : ℕ

pub record Watch : Type 0 where
  pub gone : List Gone
  pub each : List One

-- a slow answer of a row
abbrev pub late_at : ℕ → ℕ → Option Finding → List Late
late_at moment core None = []
late_at moment core (Some finding) = record { moment = moment; core = core; finding = finding } ∷ []

-- those of the latest moment, by the rows so far, the latest first
abbrev pub lately : System → ChainPart → List Row → List Late
lately system chain [] = []
lately system chain (r ∷ past) =
    filter (λ (late : Late). late.moment == r.moment) (lately system chain past) ++ late_at r.moment r.core (slow system chain past r)

-- one more, if there is one
abbrev pub one_if : Option Finding → ℕ
one_if None = 0
one_if (Some finding) = 1

abbrev pub slow_sum : System → ChainPart → List Row → ℕ
slow_sum system chain [] = 0
slow_sum system chain (r ∷ past) = one_if (slow system chain past r) + slow_sum system chain past

abbrev pub slow_many : System → ChainPart → List Row → ℕ
slow_many system chain past = capped (slow_sum system chain past)

-- the answers of a row that are judged, if the chain has this deadline
abbrev pub judged_at : ℕ → List ℕ → ℕ
judged_at deadline answered = if deadline == 0 then 0 else length answered

abbrev pub judged_sum : System → ChainPart → List Row → ℕ
judged_sum system chain [] = 0
judged_sum system chain (r ∷ past) =
    judged_at chain.deadline (origins system chain (r ∷ past)).answered + judged_sum system chain past

abbrev pub judged_many : System → ChainPart → List Row → ℕ
judged_many system chain past = capped (judged_sum system chain past)

-- what is kept of a chain after these rows
abbrev pub one_of : System → ChainPart → List Row → One
one_of system chain past =
    record {
      origins = origins system chain past;
      late = lately system chain past;
      slow = slow_many system chain past;
      judged = judged_many system chain past;
    }

-- how far each thread has gone; nobody asks if there is no chain
abbrev pub gone_for : System → List Row → List ChainPart → List Gone
gone_for system past [] = []
gone_for system past (chain ∷ chains) = gone_after system past

abbrev pub watch_of : System → List Row → Watch
watch_of system past =
    record { gone = gone_for system past system.chains; each = map (λ chain. one_of system chain past) system.chains }

-- a slow answer of chain n
abbrev pub told : ℕ → Late → Found
told n late = record { moment = late.moment; core = late.core; chain = n; finding = late.finding }

-- whether a slow answer is due: before this moment, if there is one
abbrev pub is_due : Option ℕ → ℕ → Bool
is_due None moment = true
is_due (Some before) moment = nat_lt moment before

abbrev pub due_of_one : Option ℕ → ℕ → One → List Found
due_of_one before n one = map (told n) (filter (λ (late : Late). is_due before late.moment) one.late)

-- those of the chains from number n on
abbrev pub all_due : Option ℕ → ℕ → List One → List Found
all_due before n [] = []
all_due before n (one ∷ each) = due_of_one before n one ++ all_due before (suc n) each

-- how many slow answers there are
abbrev pub all_slow_many : List One → ℕ
all_slow_many each = fold (λ many (one : One). capped (many + one.slow)) 0 each

-- how many answers are judged
abbrev pub all_judged_many : List One → ℕ
all_judged_many each = fold (λ many (one : One). capped (many + one.judged)) 0 each
