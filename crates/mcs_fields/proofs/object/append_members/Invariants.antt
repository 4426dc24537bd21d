use Rattle.std.proofs.Common.{◌≡◌, ◌++◌, drop, false, map}
use Rattle.std.specs.Io.{StartsWith}
use Rattle.serde_json.specs.Written.{members_text}
use Rattle.mcs_fields.specs.Fields.{field_of, members_of}
use Rattle.mcs_fields.proofs.object.append_members.Given as goal

abbrev pub invariant-loop-name : goal.invariant-loop-name
invariant-loop-name l = record {
  text : l.text.items ++ members_text l.later (members_of (map field_of (drop l.name-index l.fields)))
      ≡ l.initial.text.items ++ members_text false (members_of (map field_of l.fields));
  kept : StartsWith l.text.items l.initial.text.items;
}
