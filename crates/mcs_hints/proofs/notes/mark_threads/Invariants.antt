use Rattle.std.proofs.Common.{◌≡◌, ℕ, [], take}
use Rattle.mcs_hints.specs.Notes.{items_of}
use Rattle.mcs_hints.specs.stored.Marks.{marks_of}
use Rattle.mcs_hints.proofs.notes.mark_threads.Given as goal

abbrev pub invariant-loop-thread : goal.invariant-loop-thread
invariant-loop-thread l = (notes : ℕ) → l.initial.marks ≡ marks_of notes [] → l.marks ≡ marks_of notes (items_of (take l.thread-index l.threads))
