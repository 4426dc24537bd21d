use Rattle.std.proofs.Common.{◌≡◌, Bool, true, cond, Option, None, sym, ap, ◌∙◌, rules}
use Rattle.mcs_verdict.specs.declared.finding.Finding.{Finding}
use Rattle.mcs_ever.specs.Closed.{has}
use Rattle.mcs_ever_found.specs.Period.{abandoned_word}
use Rattle.mcs_ever_told.specs.Lines.{abandoned_told, is_own_note}
use Rattle.mcs_ever_told.proofs.outlook.lines.abandoned_line.Goals as goal

pub returns : goal.returns
returns c = λ by from before kept.
    let s = c.args.system.now in
    let own = c.args.own.now in
    let note = c.args.note in
    let told : c.is_own.result ≡ true = search rules in
    let mine : is_own_note s own note ≡ true = ap (has own) (sym c.home_of.ensures.home) ∙ sym c.is_own.ensures ∙ told in
    c.abandoned_told.ensures ∙ ap (λ (o : Option Finding). abandoned_told note o) (c.abandoned_word.ensures by from before kept)
    ∙ ap (λ (b : Bool). cond b (abandoned_told note (abandoned_word s by from note)) None) (sym mine)
