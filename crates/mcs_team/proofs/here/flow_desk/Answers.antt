use Rattle.std.proofs.Common.{◌≡◌, ◌+◌, ◌∙◌, ap, rules, subst}
use Rattle.mcs_system.specs.WellFormed.{IsWellFormed}
use Rattle.mcs_window.specs.Desk.{Table}
use Rattle.mcs_team.specs.Flow.{IsGivenBetween, Waits}
use Rattle.mcs_team.proofs.Giving.{on_ok}
use Rattle.mcs_team.proofs.Rounds.{clear-first, given-whole}
use Rattle.mcs_team.proofs.here.flow_desk.Goals as goal

pub flow_rounds-requires-clause-clear : goal.flow_rounds-requires-clause-clear
flow_rounds-requires-clause-clear g c =
    let well : IsWellFormed g.B.Run.system = search rules in
    let last : c.horizon.result ≡ g.B.Run.horizon = c.horizon.ensures.value ∙ ap (λ (t : Table). t.horizon) c.requires.desk in
    clear-first g.B.Run.system g.B.Run.horizon c.args.desk c.in-Ok.flow.pasts.items c.in-Ok.flow.end well c.requires.desk (search rules)
    (c.in-Ok.ensures.end ∙ ap (λ n. n + 1) last)

pub flow_rounds-requires-clause-waits : goal.flow_rounds-requires-clause-waits
flow_rounds-requires-clause-waits g c =
    let flow = c.in-Ok.flow in
    let holds = g.W.Part.Part.holds in
    let last : c.horizon.result ≡ g.B.Run.horizon = c.horizon.ensures.value ∙ ap (λ (t : Table). t.horizon) c.requires.desk in
    subst (λ h. Waits holds g.B.Run.system h flow.reached flow.pasts.items flow.merger c.args.out.now) last
    (subst (λ s. Waits holds s c.horizon.result flow.reached flow.pasts.items flow.merger c.args.out.now) c.requires.system
    (c.in-Ok.ensures.waits c.args.out.now c.requires.fits))

pub returns-clause-given : goal.returns-clause-given
returns-clause-given g c =
    let takes = g.W.Part.Out.Sink.takes in
    let system = g.B.Run.system in
    let before = c.args.out.now in
    let after = c.flow_rounds.new.out in
    on_ok c.flow_rounds.result
    (λ given. given-whole takes system g.B.Run.horizon before after (subst (λ t. IsGivenBetween takes system t (g.B.Run.horizon + 1) before after) c.in-Ok.ensures.first given))
    c.flow_rounds.ensures.given
