use Rattle.std.proofs.Common.{◌≡◌, ◌<◌, ℕ, [], true, false, get_or}
use Rattle.mcs_system.specs.System.{note_part}
use Rattle.mcs_origins.specs.Later.{later_set}
use Rattle.mcs_chain.proofs.later.are_held_later.Given as goal

abbrev pub invariant-loop-note : goal.invariant-loop-note
invariant-loop-note l =
    (note : ℕ) → note < l.note → get_or l.own (note_part l.parts note).core false ≡ true → get_or l.after note [] ≡ later_set l.by (get_or l.before note [])
