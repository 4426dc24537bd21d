use Rattle.std.proofs.Common.{◌≡◌, ◌∙◌, List, None, ap, sym, subst, false}
use Rattle.toml.specs.View.{table_view}
use Rattle.mcs_script.specs.declared.item.Item.{Item}
use Rattle.mcs_script.specs.Script.{IsScript}
use Rattle.mcs_load.specs.Checks.{first_failed}
use Rattle.mcs_load.specs.Script.{Body, body, first_bare, no_bare_wait}
use Rattle.mcs_load.proofs.Scripts.{body_is_script}
use Rattle.mcs_load.proofs.script.script.Goals as goal

pub unwrap-requires : goal.unwrap-requires
unwrap-requires c =
    let known = c.args.known.now in
    let read = body known.notes.now known.servers.now known.core known.priority known.is_new false c.args.at (table_view c.args.row.now) in
    let given = rw c.requires.of_thread at c.in_ok-reading.ensures in
    let firsts : read.value.firsts ≡ c.deref.result.now = ap (λ (b : Body). b.firsts) given.1 ∙ sym c.deref.ensures.value in
    let bare : first_failed (no_bare_wait c.args.at (first_bare read.value.firsts)).tests ≡ None = ap (λ (xs : List Item). first_failed (no_bare_wait c.args.at (first_bare xs)).tests) firsts ∙ c.in_ok-no_bare_wait.ensures.0 in
    let script : IsScript read.value.steps = body_is_script known.notes.now known.servers.now known.core known.priority known.is_new c.args.at (table_view c.args.row.now) c.requires.ready given.0 bare in
    let P : List Item → Type 0 = λ xs. IsScript xs in
    c.new.ensures.accepted.1 (subst P (ap (λ (b : Body). b.steps) given.1) script)
