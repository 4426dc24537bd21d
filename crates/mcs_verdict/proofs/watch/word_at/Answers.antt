use Rattle.std.proofs.Common.{◌∙◌}
use Rattle.mcs_verdict.proofs.Words.{word_of, word_of_none}
use Rattle.mcs_verdict.proofs.watch.word_at.Goals as goal

pub returns-then-note-words : goal.returns-then-note-words
returns-then-note-words c firsts past e =
    word_of c.note.inside.0 c.args.note firsts past c.args.words.now c.index-words-note.result c.note.view_is e c.if-note-words.true c.index-words-note.is

pub returns-else-note-words : goal.returns-else-note-words
returns-else-note-words c firsts past e =
    c.none.ensures ∙ word_of_none c.note.inside.0 c.args.note firsts past c.args.words.now c.note.view_is e c.if-note-words.false
