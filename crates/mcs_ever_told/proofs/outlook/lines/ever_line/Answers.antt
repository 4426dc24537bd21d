use Rattle.std.proofs.Common.{◌≡◌, Bool, true, cond, Option, None, sym, ap, ◌∙◌, rules}
use Rattle.mcs_verdict.specs.declared.finding.Finding.{Finding}
use Rattle.mcs_verdict.specs.Misses.{unended}
use Rattle.mcs_ever_found.specs.Period.{endless_round}
use Rattle.mcs_ever_told.specs.Lines.{ever_told, is_own_thread}
use Rattle.mcs_ever_told.proofs.outlook.lines.ever_line.Goals as goal

pub returns : goal.returns
returns c = λ by from before past near kept watched up.
    let s = c.args.system.now in
    let own = c.args.own.now in
    let thread = c.args.thread in
    let told : c.is_own_thread.result ≡ true = search rules in
    let mine : is_own_thread s own thread ≡ true = sym c.is_own_thread.ensures ∙ told in
    c.ever_told.ensures
    ∙ ap (λ (o : Option Finding). ever_told thread o c.unended-unended.result) (c.endless_round-endless.ensures by from before near kept)
    ∙ ap (λ (o : Option Finding). ever_told thread (endless_round s by from thread) o) (c.unended-unended.ensures s past watched up)
    ∙ ap (λ (b : Bool). cond b (ever_told thread (endless_round s by from thread) (unended s past c.args.last thread)) None) (sym mine)
