-- A chain recurs on a group of cores: the group's rows recur, and before some moment the chain's
-- origins are those of a number of ticks earlier, but later.
use Rattle.std.specs.Prelude.{◌≡◌, ℕ, ◌+◌, ◌<◌, ◌≤◌, Bool, true, false, List, [], ◌∷◌, map}
use Rattle.std.specs.List.{AllByRecursion}
use Rattle.mcs_ticks.specs.declared.row.What.{What}
use Rattle.mcs_ticks.specs.declared.row.What.TheVariants as row
use Rattle.mcs_system.specs.declared.part.ChainPart.{ChainPart}
use Rattle.mcs_system.specs.System.{System, thread_part, note_part, source_part, core_of, delay_between}
use Rattle.mcs_core.specs.Clock.{turn_of}
use Rattle.mcs_ever.specs.Later.{later_what}
use Rattle.mcs_ever.specs.Recurs.{Shifts, shift_of}
use Rattle.mcs_ever_found.specs.Recurs.{past_before}
use Rattle.mcs_chain.specs.declared.step.Gone.{Gone}
use Rattle.mcs_chain.specs.Answers.{gone_after, origins}
use Rattle.mcs_chain.specs.Origins.{Origins}
use Rattle.mcs_ever_chain.specs.Later.{StepsAreSame, AreLater, later_origins}

-- whether a row takes what the row before it posted
abbrev pub takes_posted : What → Bool
takes_posted (row.Hold note word) = true
takes_posted (row.Wake thread note word until) = true
takes_posted _ = false

-- whether the first of a turn's rows takes what the row of another turn posted
abbrev pub takes_first : List What → Bool
takes_first [] = false
takes_first (what ∷ rows) = takes_posted what

-- whether a core of the group made the signal, if one arrives
abbrev pub is_from : (ℕ → Bool) → What → Bool
is_from group (row.Arrive note badge maker) = group maker
is_from group _ = true

-- the rows of a turn take nothing from the turn before it, and no signal of a core outside the group
pub record StandAlone (group : ℕ → Bool) (rows : List What) : Type 0 where
  pub first : takes_first rows ≡ false
  pub makers : AllByRecursion (λ what. is_from group what ≡ true) rows

module _ (system : System) (chain : ChainPart) where
  -- how far each thread is, and the chain's origins, before moment t
  abbrev pub gone_before : ℕ → List Gone
  gone_before t = gone_after system (past_before system t)

  abbrev pub origins_before : ℕ → Origins
  origins_before t = origins system chain (past_before system t)

  module _ (group : ℕ → Bool) (shifts : Shifts) (from : ℕ) where
    -- The group makes its rows again from that moment on. Before `from` + `by` its threads are at the
    -- steps at which they were before `from`, and the origins are later. Each turn of the first period
    -- stands alone. The chain's answers are of the group, and no signal is under way for longer than
    -- `from`
    pub record ChainRecurs : Type 0 where
      pub some : 1 ≤ shifts.by
      pub rows : (t c : ℕ) → from ≤ t → c < system.cores → group c ≡ true →
          (turn_of system c (t + shifts.by)).rows ≡ map (later_what (shift_of shifts c)) (turn_of system c t).rows
      pub alone : (t c : ℕ) → from ≤ t → t < from + shifts.by → c < system.cores → group c ≡ true →
          StandAlone group (turn_of system c t).rows
      pub delays : (maker home : ℕ) → delay_between system maker home ≤ from
      pub answerer : group (core_of system (thread_part system chain.thread)) ≡ true
      pub steps : StepsAreSame system group (gone_before from) (gone_before (from + shifts.by))
      pub later : AreLater system group shifts.by (origins_before from) (origins_before (from + shifts.by))

    -- the interrupts are of the group, too, and those without an answer are later
    pub record AnswersRecur : Type 0 where
      pub recurs : ChainRecurs
      pub source : group (note_part system (source_part system chain.source).note).core ≡ true
      pub unanswered : (origins_before (from + shifts.by)).unanswered ≡ later_origins shifts.by (origins_before from).unanswered
