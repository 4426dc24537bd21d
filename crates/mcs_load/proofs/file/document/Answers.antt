use Rattle.std.proofs.Common.{◌≡◌, Some, true, rules, sym, ◌∙◌, ap}
use Rattle.toml.specs.View.{table_view}
use Rattle.toml.specs.Parse.{parse_document}
use Rattle.std.specs.Str.{is_utf8}
use Rattle.mcs_load.specs.Walk.{document}
use Rattle.mcs_load.proofs.Texts.{is_text, not_text}
use Rattle.mcs_load.proofs.file.document.Goals as goal

pub returns-in_default : goal.returns-in_default
unfolding document
returns-in_default c = λ h. rw (not_text c.args.bytes.now c.in_default.ensures.cases.0)

pub returns-in-Ok-table_from_str : goal.returns-in-Ok-table_from_str
unfolding document
returns-in-Ok-table_from_str c =
    let utf8 : is_utf8 c.args.bytes.now ≡ true = is_text c.args.bytes.now c.in-Ok.ensures.cases.1 in
    let read : parse_document c.args.bytes.now ≡ Some (table_view c.in-Ok-table_from_str.table) = ap parse_document (sym c.in-Ok.ensures.cases.0) ∙ c.in-Ok-table_from_str.ensures.ok in
    rw (utf8, read) (search rules)
