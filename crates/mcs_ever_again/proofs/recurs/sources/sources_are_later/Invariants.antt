use Rattle.std.proofs.Common.{take}
use Rattle.mcs_ever_again.proofs.SourceDates.{AllGoOn}
use Rattle.mcs_ever_again.proofs.recurs.sources.sources_are_later.Given as goal

abbrev pub invariant-loop-beat : goal.invariant-loop-beat
invariant-loop-beat l = AllGoOn l.system l.from l.by l.group (take l.beat-index l.system.beats)
