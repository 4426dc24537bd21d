use Rattle.std.proofs.Common.{◌≡◌, ◌++◌, drop, flat_map}
use Rattle.mcs_ever_told.specs.Formats.{lines_text}
use Rattle.mcs_ever_told.specs.declared.outlook.told.Told.{Told}
use Rattle.mcs_check_forever.proofs.told.put_sets.Given as goal

abbrev pub invariant-loop-set : goal.invariant-loop-set
invariant-loop-set l =
    l.text.items ++ flat_map (λ (t : Told). lines_text l.format l.system t.lines.items) (drop l.set-index l.told)
    ≡ l.initial.text.items ++ flat_map (λ (t : Told). lines_text l.format l.system t.lines.items) l.told
