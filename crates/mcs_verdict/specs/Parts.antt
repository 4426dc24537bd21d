-- Where the ticks of a round went, from its activation on: each tick is in one part.
use Rattle.std.specs.Prelude.{ℕ, ◌-◌, max, ◌==◌, if◌then◌else◌, List, [], ◌∷◌, Option, option_map}
use Rattle.mcs_ticks.specs.declared.row.Row.{Row}
use Rattle.mcs_ticks.specs.declared.row.What.{What}
use Rattle.mcs_ticks.specs.declared.row.What.TheVariants as row
use Rattle.mcs_ticks.specs.declared.row.Why.TheVariants as why
use Rattle.mcs_system.specs.System.{System, thread_part}
use Rattle.mcs_verdict.specs.declared.standing.Stood.{Stood}
use Rattle.mcs_verdict.specs.Stood.{stood_in}

-- when the thread's latest round ended, or the thread started: its next round can proceed from then on
abbrev pub free_after : ℕ → ℕ → What → ℕ → ℕ
free_after thread moment (row.Round x number response) before = if x == thread then moment else before
free_after thread moment (row.Stop x why.Done charged until) before = if x == thread then moment else before
free_after thread moment _ before = before

abbrev pub free : ℕ → ℕ → List Row → ℕ
free start thread [] = start
free start thread (r ∷ past) = free_after thread r.moment r.what (free start thread past)

abbrev pub free_of : System → ℕ → List Row → ℕ
free_of system thread past = free (thread_part system thread).start thread past

-- the ticks from a round's activation until the round before it ended, or the thread started
abbrev pub queued_in : ℕ → ℕ → ℕ
queued_in free activated = free - activated

-- how the thread stood from then on, in a round that was activated at this time
abbrev pub parts_in : ℕ → List Row → ℕ → ℕ → ℕ → Stood
parts_in thread past free activated to = stood_in thread past (max activated free) to

-- from when the parts of a round are counted, if it was activated
abbrev pub counted_from : ℕ → Option ℕ → Option ℕ
counted_from free activated = option_map (λ activated. max activated free) activated
