use Rattle.std.proofs.Common.{◌≡◌, ℕ, ◌<◌, sym, ap, subst, ◌∙◌, length, List}
use Rattle.std.proofs.lemmas.Bool.{eqb-true}
use Rattle.std.proofs.lemmas.List.{with_items_is}
use Rattle.std.specs.Vec.{with_items}
use Rattle.mcs_notify.specs.declared.line.Place.{Place}
use Rattle.mcs_notify.specs.stored.Lines.{BestLeaves, nth}
use Rattle.mcs_notify.proofs.Kept.{IsRead, in_range, held-answer, woke-answer, length-left, word-kept, word-note, leaves-kept, leaves-note}
use Rattle.mcs_notify.proofs.notes.Notes.post.Goals as goal

pub invariant_of-self : goal.invariant_of-self
invariant_of-self c =
    word-kept (record { is_kept = c.self.invariant; view = c.self.view_is; index = c.note.view_is; within = c.requires; read = c.index_mut-kept.ensures.value }) _

pub returns-then-is_empty-clause-posted : goal.returns-then-is_empty-clause-posted
returns-then-is_empty-clause-posted c =
    held-answer (record { is_kept = c.self.invariant; view = c.self.view_is; index = c.note.view_is; within = c.requires; read = c.index_mut-kept.ensures.value })
    c.args.badge (eqb-true c.index_mut-kept.result.now.line.len 0 (sym c.is_empty.ensures ∙ c.if-is_empty.true))

pub returns-then-is_empty-clause-note : goal.returns-then-is_empty-clause-note
returns-then-is_empty-clause-note c =
    word-note (record { is_kept = c.self.invariant; view = c.self.view_is; index = c.note.view_is; within = c.requires; read = c.index_mut-kept.ensures.value }) _

pub pop_best-woken-requires-clause-within : goal.pop_best-woken-requires-clause-within
pop_best-woken-requires-clause-within c =
    let InRange : List Place → Type 0 = λ places. (k : ℕ) → k < c.index_mut-kept.result.now.line.len → nth places c.index_mut-kept.result.now.line.first k < length places in
    subst InRange (sym c.deref_mut.ensures.value)
    (in_range (record { is_kept = c.self.invariant; view = c.self.view_is; index = c.note.view_is; within = c.requires; read = c.index_mut-kept.ensures.value }))

pub invariant_of-self-2 : goal.invariant_of-self-2
invariant_of-self-2 c =
    let read : IsRead c.self.inside.notes.items c.self.inside.places.items c.args.self.now c.args.note c.note.inside.0 c.index_mut-kept.result.now =
    record { is_kept = c.self.invariant; view = c.self.view_is; index = c.note.view_is; within = c.requires; read = c.index_mut-kept.ensures.value }
    in
    let Leaves : List Place → Type 0 = λ old. BestLeaves old c.index_mut-kept.result.now.line c.pop_best-woken.result c.pop_best-woken.new.places c.pop_best-woken.new.self in
    let leaves = subst Leaves c.deref_mut.ensures.value c.pop_best-woken.ensures in
    let items : (with_items c.self.inside.places c.pop_best-woken.new.places).items ≡ c.pop_best-woken.new.places =
    with_items_is c.self.inside.places c.pop_best-woken.new.places
    (length-left read _ _ _ leaves ∙ ap length (sym c.deref_mut.ensures.value) ∙ c.deref_mut.ensures.len)
    in
    rw items (leaves-kept read _ _ _ leaves)

pub returns-clause-posted : goal.returns-clause-posted
returns-clause-posted c =
    let Leaves : List Place → Type 0 = λ old. BestLeaves old c.index_mut-kept.result.now.line c.pop_best-woken.result c.pop_best-woken.new.places c.pop_best-woken.new.self in
    woke-answer (record { is_kept = c.self.invariant; view = c.self.view_is; index = c.note.view_is; within = c.requires; read = c.index_mut-kept.ensures.value })
    _ _ _ (subst Leaves c.deref_mut.ensures.value c.pop_best-woken.ensures) c.args.badge

pub returns-clause-note : goal.returns-clause-note
returns-clause-note c =
    let read : IsRead c.self.inside.notes.items c.self.inside.places.items c.args.self.now c.args.note c.note.inside.0 c.index_mut-kept.result.now =
    record { is_kept = c.self.invariant; view = c.self.view_is; index = c.note.view_is; within = c.requires; read = c.index_mut-kept.ensures.value }
    in
    let Leaves : List Place → Type 0 = λ old. BestLeaves old c.index_mut-kept.result.now.line c.pop_best-woken.result c.pop_best-woken.new.places c.pop_best-woken.new.self in
    let leaves = subst Leaves c.deref_mut.ensures.value c.pop_best-woken.ensures in
    let items : (with_items c.self.inside.places c.pop_best-woken.new.places).items ≡ c.pop_best-woken.new.places =
    with_items_is c.self.inside.places c.pop_best-woken.new.places
    (length-left read _ _ _ leaves ∙ ap length (sym c.deref_mut.ensures.value) ∙ c.deref_mut.ensures.len)
    in
    rw items (leaves-note read _ _ _ leaves c.args.badge)
