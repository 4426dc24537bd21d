-- The way of an answer, by the rows so far, the latest first.
use Rattle.std.specs.Prelude.{ℕ, List, [], ◌∷◌, get_or, Option, Some, None}
use Rattle.mcs_ticks.specs.declared.row.Row.{Row}
use Rattle.mcs_system.specs.declared.part.ChainPart.{ChainPart}
use Rattle.mcs_system.specs.System.{System}
use Rattle.mcs_verdict.specs.declared.standing.Stood.{Stood}
use Rattle.mcs_verdict.specs.Stood.{no_ticks}
use Rattle.mcs_chain.specs.declared.answer.Answer.{Answer}
use Rattle.mcs_chain.specs.declared.step.Gone.{Gone}
use Rattle.mcs_chain.specs.Steps.{goer}
use Rattle.mcs_chain.specs.Moves.{moves}
use Rattle.mcs_chain.specs.Answers.{gone_after}
use Rattle.mcs_way.specs.declared.aim.Aim.{Aim}
use Rattle.mcs_way.specs.declared.leg.Leg.{Leg}
use Rattle.mcs_way.specs.declared.stance.Stance.{Stance}
use Rattle.mcs_way.specs.Trace.{since_of}
use Rattle.mcs_way.specs.Course.{Course, no_course, moved}
use Rattle.mcs_way.specs.Stances.{stood_since, stances_of}

pub record Trail : Type 0 where
  pub aim : Aim
  -- how far each thread is in its script
  pub gone : List Gone
  pub course : Course
  -- how each thread stands
  pub stances : List Stance

-- the value past the end of the list, which is never reached
abbrev pub no_chain : ChainPart
no_chain = record { name = []; source = 0; thread = 0; badges = 0; deadline = 0 }

abbrev pub chain_part : System → ℕ → ChainPart
chain_part system chain = get_or system.chains chain no_chain

abbrev pub aim_of : System → Answer → Aim
aim_of system answer = record { source = (chain_part system answer.chain).source; answer = answer }

-- how the thread of a row stood since it has the origin
abbrev pub stood_by : List Row → ℕ → Option ℕ → Course → Stood
stood_by past moment None course = no_ticks
stood_by past moment (Some thread) course = stood_since thread past moment (since_of (get_or course.carried thread None))

-- the course after one more row
abbrev pub goes_on : System → Aim → List Row → Row → Course → Course
goes_on system aim past r course =
    moved aim r (stood_by past r.moment (goer r.what) course) (moves system (gone_after system past) r) course

abbrev pub course_of : System → Aim → List Row → Course
course_of system aim [] = no_course system
course_of system aim (r ∷ past) = goes_on system aim past r (course_of system aim past)

-- the legs from the interrupt to the answer, the first one first; none before the answer
abbrev pub way_of : System → Answer → List Row → List Leg
way_of system answer past = (course_of system (aim_of system answer) past).way

abbrev pub trail_with : System → Aim → List Row → Course → Trail
trail_with system aim past course =
    record { aim = aim; gone = gone_after system past; course = course; stances = stances_of 0 course.carried past }

-- the trail after these rows
abbrev pub trail_of : System → Answer → List Row → Trail
trail_of system answer past = trail_with system (aim_of system answer) past (course_of system (aim_of system answer) past)
