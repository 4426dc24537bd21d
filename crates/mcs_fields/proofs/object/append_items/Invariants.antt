use Rattle.std.proofs.Common.{◌≡◌, ◌++◌, drop, false, map}
use Rattle.std.specs.Io.{StartsWith}
use Rattle.serde_json.specs.Written.{items_text}
use Rattle.mcs_fields.specs.Fields.{items_of}
use Rattle.mcs_fields.proofs.object.append_items.Given as goal

abbrev pub invariant-loop-word : goal.invariant-loop-word
invariant-loop-word l = record {
  text : l.text.items ++ items_text l.later (items_of (map (λ word. word.now) (drop l.word-index l.words)))
      ≡ l.initial.text.items ++ items_text false (items_of (map (λ word. word.now) l.words));
  kept : StartsWith l.text.items l.initial.text.items;
}
