use Rattle.std.proofs.Common.{◌≡◌, ◌++◌, ℕ}
use Rattle.std.specs.List.{filter_map, range_with_len}
use Rattle.mcs_verdict.specs.Watch.{Watch}
use Rattle.mcs_ever_found.specs.Period.{AreKept, abandoned_word}
use Rattle.mcs_ever_told.specs.Lines.{abandoned_line}
use Rattle.mcs_ever_told.proofs.outlook.lines.push_abandoned.Given as goal

abbrev pub invariant-loop-note : goal.invariant-loop-note
invariant-loop-note l =
    (by from : ℕ) (before : Watch) → AreKept l.system by from before l.watch l.doings →
    l.lines.items ≡ l.initial.lines.items
    ++ filter_map (abandoned_line l.system l.own (abandoned_word l.system by from)) (range_with_len 0 l.note)
