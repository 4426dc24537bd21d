use Rattle.std.proofs.Common.{◌≡◌, ◌++◌, drop, map}
use Rattle.std.specs.Io.{StartsWith}
use Rattle.mcs_fields.specs.Fields.{field_of}
use Rattle.mcs_text.specs.Text.{after}
use Rattle.mcs_check_lines.specs.Figures.{pair_words}
use Rattle.mcs_check_lines.proofs.pairs.append_pairs.Given as goal

abbrev pub invariant-loop-name : goal.invariant-loop-name
invariant-loop-name l = record {
  text : l.text.items ++ after (pair_words (map field_of (drop l.name-index l.fields)))
      ≡ l.initial.text.items ++ after (pair_words (map field_of l.fields));
  kept : StartsWith l.text.items l.initial.text.items;
}
