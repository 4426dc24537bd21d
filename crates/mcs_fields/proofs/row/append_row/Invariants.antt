use Rattle.std.proofs.Common.{◌≡◌, ◌++◌, drop, false, map}
use Rattle.std.specs.Io.{StartsWith}
use Rattle.mcs_fields.specs.Fields.{parts_text, value_of, value_text}
use Rattle.mcs_fields.proofs.row.append_row.Given as goal

abbrev pub invariant-loop-cell : goal.invariant-loop-cell
invariant-loop-cell l = record {
  text : l.text.items ++ parts_text l.later (map value_text (map (λ f. value_of f.1) (drop l.cell-index l.fields)))
      ≡ l.initial.text.items ++ parts_text false (map value_text (map (λ f. value_of f.1) l.fields));
  kept : StartsWith l.text.items l.initial.text.items;
}
