use Rattle.std.proofs.Common.{sym, ap, ◌∙◌}
use Rattle.mcs_verdict.specs.declared.held.Held.{Held}
use Rattle.mcs_verdict.proofs.Words.{since_of_word, since_of_none}
use Rattle.mcs_verdict.proofs.watch.word_since.Goals as goal

pub returns-then-note-words : goal.returns-then-note-words
returns-then-note-words c firsts past e =
    sym (ap (λ (held : Held). held.since) c.index-words-note.is)
    ∙ since_of_word c.note.inside.0 c.args.note firsts past c.args.words.now c.index-words-note.result c.note.view_is e c.if-note-words.true c.index-words-note.is

pub returns-else-note-words : goal.returns-else-note-words
returns-else-note-words c firsts past e =
    since_of_none c.note.inside.0 c.args.note firsts past c.args.words.now c.note.view_is e c.if-note-words.false
