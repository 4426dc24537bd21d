use Rattle.std.proofs.Common.{◌≡◌, ◌++◌, ℕ, Bool, List, Option, Result, Ok, Err, OnOk, refl, sym, ap, ◌∙◌, append_assoc}
use Rattle.mcs_system.specs.System.{System}
use Rattle.mcs_verdict.specs.declared.finding.Finding.{Finding}
use Rattle.mcs_verdict.specs.Misses.{unended}
use Rattle.mcs_ever_found.specs.Period.{endless_round, abandoned_word}
use Rattle.mcs_ever_told.specs.declared.line.Line.{Line}
use Rattle.mcs_ever_told.specs.Lines.{of_threads, of_notes, ever_line, abandoned_line, ever_lines}
use Rattle.mcs_ever_told.proofs.outlook.lines.push_ever.Goals as goal

-- the lines that go on for ever are those of the threads and those of the notifications
ever-are : (s : System) (own : List Bool) (endless unended abandoned : ℕ → Option Finding) →
    ever_lines s own endless unended abandoned ≡ of_threads s (ever_line s own endless unended) ++ of_notes s (abandoned_line s own abandoned)
ever-are s own endless unended abandoned = refl

-- two lists of lines, appended one after another
both : {T E : Type 0} (result : Result T E) (a b c rounds words all : List Line) → all ≡ rounds ++ words → b ≡ a ++ rounds →
    OnOk result (c ≡ b ++ words) → OnOk result (c ≡ a ++ all)
both (Ok x) a b c rounds words all e first more =
    more ∙ ap (λ (lines : List Line). lines ++ words) first ∙ append_assoc a rounds words ∙ ap (λ (lines : List Line). a ++ lines) (sym e)
both (Err x) a b c rounds words all e first more = tt

pub returns : goal.returns
returns c = λ by from before past near kept watched up.
    let s = c.args.system.now in
    let own = c.args.own.now in
    both c.push_abandoned.result c.args.lines.now.items c.push_endless.new.lines.items c.push_abandoned.new.lines.items
    (of_threads s (ever_line s own (endless_round s by from) (unended s past c.args.last)))
    (of_notes s (abandoned_line s own (abandoned_word s by from)))
    (ever_lines s own (endless_round s by from) (unended s past c.args.last) (abandoned_word s by from))
    (ever-are s own (endless_round s by from) (unended s past c.args.last) (abandoned_word s by from))
    (c.in_ok-push_endless.ensures by from before past near kept watched up) (c.push_abandoned.ensures by from before kept)
