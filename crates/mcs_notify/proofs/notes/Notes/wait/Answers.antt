use Rattle.std.proofs.Common.{◌≡◌, ap, ◌∙◌, arith, length}
use Rattle.std.proofs.lemmas.List.{with_items_is}
use Rattle.std.specs.Vec.{with_items}
use Rattle.mcs_notify.specs.stored.Lines.{joined}
use Rattle.mcs_notify.proofs.Lines.{length-joined}
use Rattle.mcs_notify.proofs.Kept.{got-answer, blocks-answer, few, before-below, word-kept, word-note, joins-kept, joins-note}
use Rattle.mcs_notify.proofs.notes.Notes.wait.Goals as goal

pub invariant_of-self : goal.invariant_of-self
invariant_of-self c =
    word-kept (record { is_kept = c.self.invariant; view = c.self.view_is; index = c.note.view_is; within = c.requires.note; read = c.index_mut-kept.ensures.value }) 0

pub returns-then-kept-ne0-clause-waited : goal.returns-then-kept-ne0-clause-waited
returns-then-kept-ne0-clause-waited c =
    got-answer (record { is_kept = c.self.invariant; view = c.self.view_is; index = c.note.view_is; within = c.requires.note; read = c.index_mut-kept.ensures.value })
    c.if-kept-ne0.true

pub returns-then-kept-ne0-clause-note : goal.returns-then-kept-ne0-clause-note
returns-then-kept-ne0-clause-note c =
    word-note (record { is_kept = c.self.invariant; view = c.self.view_is; index = c.note.view_is; within = c.requires.note; read = c.index_mut-kept.ensures.value }) 0

pub push_back-requires-clause-room : goal.push_back-requires-clause-room
push_back-requires-clause-room c =
    let few = few (record { is_kept = c.self.invariant; view = c.self.view_is; index = c.note.view_is; within = c.requires.note; read = c.index_mut-kept.ensures.value }) in
    omega (arith, few, c.self.inside.places.ok, c.self.inside.places.small)

pub push_back-requires-clause-before : goal.push_back-requires-clause-before
push_back-requires-clause-before c =
    let below =
    before-below (record { is_kept = c.self.invariant; view = c.self.view_is; index = c.note.view_is; within = c.requires.note; read = c.index_mut-kept.ensures.value })
    (record { thread = c.args.thread; priority = c.args.priority }) c.requires.thread c.requires.free
    in
    omega (arith, below, c.deref_mut.ensures.len, c.self.inside.places.ok)

pub invariant_of-self-2 : goal.invariant_of-self-2
invariant_of-self-2 c =
    let line = c.index_mut-kept.result.now.line in
    let items : (with_items c.self.inside.places c.push_back.new.places).items ≡ joined c.args.thread c.args.priority line c.self.inside.places.items =
    with_items_is c.self.inside.places c.push_back.new.places
    (ap length c.push_back.ensures.places ∙ length-joined c.args.thread c.args.priority line c.deref_mut.result.now ∙ c.deref_mut.ensures.len)
    ∙ c.push_back.ensures.places ∙ ap (joined c.args.thread c.args.priority line) c.deref_mut.ensures.value
    in
    rw (items, c.push_back.ensures.line)
    (joins-kept (record { is_kept = c.self.invariant; view = c.self.view_is; index = c.note.view_is; within = c.requires.note; read = c.index_mut-kept.ensures.value })
    (record { thread = c.args.thread; priority = c.args.priority }) c.requires.thread c.requires.free)

pub returns-clause-waited : goal.returns-clause-waited
returns-clause-waited c =
    blocks-answer (record { is_kept = c.self.invariant; view = c.self.view_is; index = c.note.view_is; within = c.requires.note; read = c.index_mut-kept.ensures.value })
    c.if-kept-ne0.false

pub returns-clause-note : goal.returns-clause-note
returns-clause-note c =
    let line = c.index_mut-kept.result.now.line in
    let items : (with_items c.self.inside.places c.push_back.new.places).items ≡ joined c.args.thread c.args.priority line c.self.inside.places.items =
    with_items_is c.self.inside.places c.push_back.new.places
    (ap length c.push_back.ensures.places ∙ length-joined c.args.thread c.args.priority line c.deref_mut.result.now ∙ c.deref_mut.ensures.len)
    ∙ c.push_back.ensures.places ∙ ap (joined c.args.thread c.args.priority line) c.deref_mut.ensures.value
    in
    rw (items, c.push_back.ensures.line)
    (joins-note (record { is_kept = c.self.invariant; view = c.self.view_is; index = c.note.view_is; within = c.requires.note; read = c.index_mut-kept.ensures.value })
    (record { thread = c.args.thread; priority = c.args.priority }) c.requires.thread c.requires.free)
