use Rattle.std.proofs.Common.{true, take}
use Rattle.mcs_check.specs.stored.Pages.{founds_text, PutsLines}
use Rattle.mcs_check.proofs.found_lines.FoundLines.put.Given as goal

abbrev pub invariant-loop-one : goal.invariant-loop-one
invariant-loop-one g l =
    PutsLines g.T.Target.contents g.T.Target.has_failed l.initial.self (founds_text l.initial.self.format l.initial.self.system.now (take l.one-index l.found)) true l.self
