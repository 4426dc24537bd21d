use Rattle.std.proofs.Common.{sym, ap, ◌∙◌}
use Rattle.mcs_ticks.specs.declared.row.What.TheVariants as row
use Rattle.mcs_verdict.specs.Words.{held_with, gave, taken}
use Rattle.mcs_verdict.proofs.Words.{words_told, words_untold, words_unsaid, says_none, makes_held, makes_taken, makes_given}
use Rattle.mcs_verdict.proofs.watch.tell_words.Goals as goal

pub returns-then-note-words : goal.returns-then-note-words
returns-then-note-words c firsts past e =
    words_told c.note.inside.0 (held_with c.args.row.now.moment c.in-Hold.word) firsts c.args.row.now past c.args.words.now c.hold.new.self c.index-words-note.result e
    (makes_held c.args.row.now c.note.inside.0 c.in-Hold.word (c.in-Hold.is ∙ ap (λ n. row.Hold n c.in-Hold.word) (sym c.note.view_is)))
    c.hold.ensures

pub returns-else-note-words : goal.returns-else-note-words
returns-else-note-words c firsts past e =
    words_untold c.note.inside.0 (held_with c.args.row.now.moment c.in-Hold.word) firsts c.args.row.now past c.args.words.now e
    (makes_held c.args.row.now c.note.inside.0 c.in-Hold.word (c.in-Hold.is ∙ ap (λ n. row.Hold n c.in-Hold.word) (sym c.note.view_is)))
    c.if-note-words.false

pub returns-then-note-words-2 : goal.returns-then-note-words-2
returns-then-note-words-2 c firsts past e =
    words_told c.note-in-Got.inside.0 (taken c.in-Got.word) firsts c.args.row.now past c.args.words.now c.take.new.self _ e
    (makes_taken c.args.row.now c.in-Got.thread c.note-in-Got.inside.0 c.in-Got.word
    (c.in-Got.is ∙ ap (λ n. row.Got c.in-Got.thread n c.in-Got.word) (sym c.note-in-Got.view_is)))
    c.take.ensures

pub returns-else-note-words-2 : goal.returns-else-note-words-2
returns-else-note-words-2 c firsts past e =
    words_untold c.note-in-Got.inside.0 (taken c.in-Got.word) firsts c.args.row.now past c.args.words.now e
    (makes_taken c.args.row.now c.in-Got.thread c.note-in-Got.inside.0 c.in-Got.word
    (c.in-Got.is ∙ ap (λ n. row.Got c.in-Got.thread n c.in-Got.word) (sym c.note-in-Got.view_is)))
    c.if-note-words-2.false

pub returns-then-note-words-3 : goal.returns-then-note-words-3
returns-then-note-words-3 c firsts past e =
    words_told c.note-in-Wake.inside.0 (gave c.in-Wake.word) firsts c.args.row.now past c.args.words.now c.give.new.self _ e
    (makes_given c.args.row.now c.in-Wake.thread c.note-in-Wake.inside.0 c.in-Wake.word c.in-Wake.until
    (c.in-Wake.is ∙ ap (λ n. row.Wake c.in-Wake.thread n c.in-Wake.word c.in-Wake.until) (sym c.note-in-Wake.view_is)))
    c.give.ensures

pub returns-else-note-words-3 : goal.returns-else-note-words-3
returns-else-note-words-3 c firsts past e =
    words_untold c.note-in-Wake.inside.0 (gave c.in-Wake.word) firsts c.args.row.now past c.args.words.now e
    (makes_given c.args.row.now c.in-Wake.thread c.note-in-Wake.inside.0 c.in-Wake.word c.in-Wake.until
    (c.in-Wake.is ∙ ap (λ n. row.Wake c.in-Wake.thread n c.in-Wake.word c.in-Wake.until) (sym c.note-in-Wake.view_is)))
    c.if-note-words-3.false

pub returns-in_default : goal.returns-in_default
returns-in_default c firsts past e =
    e ∙ sym (words_unsaid 0 firsts c.args.row.now past (λ k before h. says_none c.args.row.now.what c.in_default.not-Hold c.in_default.not-Got c.in_default.not-Wake c.args.row.now.moment k before))
