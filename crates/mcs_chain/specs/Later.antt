-- The origins of a chain on a group of cores, later: each by the same number of ticks.
use Rattle.std.specs.Prelude.{◌≡◌, ℕ, ◌+◌, ◌<◌, ◌&&◌, Bool, true, List, [], map, filter, length, get_or}
use Rattle.mcs_system.specs.System.{System, thread_part, note_part, core_of}
use Rattle.mcs_origins.specs.declared.mark.Mark.{Mark}
use Rattle.mcs_chain.specs.declared.sent.Sent.{Sent}
use Rattle.mcs_chain.specs.declared.step.Gone.{Gone}
use Rattle.mcs_origins.specs.Later.{later_mark, later_set}
use Rattle.mcs_chain.specs.Steps.{gone_of}
use Rattle.mcs_chain.specs.Origins.{Origins}

abbrev pub later_sent : ℕ → Sent → Sent
later_sent by sent = record sent { made = sent.made + by; mark = later_mark by sent.mark }

module _ (system : System) (group : ℕ → Bool) where
  -- whether a core of the group made the signal, for a notification of the group
  abbrev pub is_within : Sent → Bool
  is_within sent = group sent.maker && group (note_part system sent.note).core

  -- each thread of the group is as far in its script
  abbrev pub StepsAreSame : List Gone → List Gone → Type 0
  StepsAreSame before after =
      (thread : ℕ) → thread < length system.threads → group (core_of system (thread_part system thread)) ≡ true →
      gone_of after thread ≡ gone_of before thread

  -- each notification of the group holds the origins that it held, but later
  abbrev pub AreHeldLater : ℕ → List (List Mark) → List (List Mark) → Type 0
  AreHeldLater by before after =
      (note : ℕ) → note < length system.notes → group (note_part system note).core ≡ true →
      get_or after note [] ≡ later_set by (get_or before note [])

  -- and so does each thread with those that it carried
  abbrev pub AreCarriedLater : ℕ → List (List Mark) → List (List Mark) → Type 0
  AreCarriedLater by before after =
      (thread : ℕ) → thread < length system.threads → group (core_of system (thread_part system thread)) ≡ true →
      get_or after thread [] ≡ later_set by (get_or before thread [])

  -- each notification and each thread of the group, and the signals from one core of it to another,
  -- have the origins that they had, but later
  pub record AreLater (by : ℕ) (before after : Origins) : Type 0 where
    pub held : AreHeldLater by before.held after.held
    pub carried : AreCarriedLater by before.carried after.carried
    pub under_way : filter is_within after.under_way ≡ map (later_sent by) (filter is_within before.under_way)
