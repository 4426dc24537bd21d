use Rattle.std.proofs.Common.{◌≡◌, ◌++◌, drop, false, map}
use Rattle.std.specs.Io.{StartsWith}
use Rattle.mcs_fields.specs.Fields.{parts_text}
use Rattle.mcs_fields.proofs.row.append_names.Given as goal

abbrev pub invariant-loop-name : goal.invariant-loop-name
invariant-loop-name l = record {
  text : l.text.items ++ parts_text l.later (map (λ name. name.now) (drop l.name-index l.names))
      ≡ l.initial.text.items ++ parts_text false (map (λ name. name.now) l.names);
  kept : StartsWith l.text.items l.initial.text.items;
}
