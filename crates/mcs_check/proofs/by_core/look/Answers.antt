use Rattle.std.proofs.Common.{rules, ◌≡◌, ◌∙◌, ◌+◌, ◌≤◌, ◌<◌, [], suc, false, true, ap, arith, refl, subst, sym}
use Rattle.mcs_system.specs.WellFormed.{IsWellFormed}
use Rattle.mcs_system.proofs.Linked.{takes_time}
use Rattle.mcs_core.specs.Clock.{clock}
use Rattle.mcs_check_words.specs.declared.asked.Show.TheVariants.{Findings}
use Rattle.mcs_check.specs.stored.Found.{before_of, counts_so_far}
use Rattle.mcs_check.specs.stored.Pages.{PutsLines}
use Rattle.mcs_check.specs.stored.Rounds.{are_counted_together, AreWatched, IsReady}
use Rattle.mcs_check.specs.stored.Rows.{lines_in}
use Rattle.mcs_check.proofs.Cores.{all-counted, ended, rounds-fewer}
use Rattle.mcs_check.proofs.Pages.{puts-none}
use Rattle.mcs_check.proofs.RoundLines.{none-more, put-round, some-put}
use Rattle.mcs_check.proofs.by_core.look.Goals as goal

pub returns-in_default-clause-fault : goal.returns-in_default-clause-fault
returns-in_default-clause-fault g c =
    let first = c.args.lines.now in
    let well : IsWellFormed first.system.now = search rules in
    some-put first.system.now c.args.allowed.now g.T.Target.contents g.T.Target.has_failed first refl (takes_time first.system.now well) c.args.horizon 0 (omega arith) first
    (puts-none g.T.Target.contents g.T.Target.has_failed first)

pub rounds-init : goal.rounds-init
rounds-init g c =
    let first = c.args.lines.now in
    let is = c.in-Ok.ensures c.args.allowed.now in (
      subst (λ s. IsReady s c.args.allowed.now c.args.horizon c.in-Ok.cores) c.requires.run is.0,
      subst (λ t. PutsLines g.T.Target.contents g.T.Target.has_failed first (lines_in first.system.now c.args.allowed.now first.format Findings [] (clock first.system.now t).rows) true first)
          (sym is.1) (puts-none g.T.Target.contents g.T.Target.has_failed first),
    )

pub take_round-requires-clause-ready : goal.take_round-requires-clause-ready
take_round-requires-clause-ready g c =
    let r = c.rounds in
    subst (λ h. IsReady c.args.lines.now.system.now c.args.allowed.now h r.cores) (sym r.invariant.0.horizon_is) r.invariant.0

pub returns-in_default-take_round-clause-fault : goal.returns-in_default-take_round-clause-fault
returns-in_default-take_round-clause-fault g c =
    let r = c.rounds in
    let first = c.args.lines.now in
    let well : IsWellFormed first.system.now = search rules in
    some-put first.system.now c.args.allowed.now g.T.Target.contents g.T.Target.has_failed first refl (takes_time first.system.now well) c.args.horizon r.cores.reached r.invariant.0.in_time
    r.lines r.invariant.1

pub returns-in_default-put-clause-fault : goal.returns-in_default-put-clause-fault
returns-in_default-put-clause-fault g c =
    let r = c.rounds in
    let first = c.args.lines.now in
    let well : IsWellFormed first.system.now = search rules in
    let next = c.in-Ok-take_round.next in
    let is = c.in-Ok-take_round.ensures.next in
    let same : c.as_slice.result.now ≡ next.found.items = search rules in
    let in_time : next.reached ≤ c.args.horizon + 1 = (let most = is.ready.in_time in let run = r.invariant.0.horizon_is in omega arith) in
    none-more first.system.now c.args.allowed.now g.T.Target.contents g.T.Target.has_failed first refl (takes_time first.system.now well) c.args.horizon next.reached in_time c.put.new.self
    (put-round first.system.now c.args.allowed.now g.T.Target.contents g.T.Target.has_failed first refl r.cores next r.lines c.put.new.self c.as_slice.result.now false is same
    r.invariant.1 c.in_default-put.ensures)

pub rounds-preserved : goal.rounds-preserved
rounds-preserved g c =
    let r = c.rounds in
    let first = c.args.lines.now in
    let next = c.in-Ok-take_round.next in
    let is = c.in-Ok-take_round.ensures.next in
    let same : c.as_slice.result.now ≡ next.found.items = search rules in (
      subst (λ h. IsReady first.system.now c.args.allowed.now h next) r.invariant.0.horizon_is is.ready,
      put-round first.system.now c.args.allowed.now g.T.Target.contents g.T.Target.has_failed first refl r.cores next r.lines c.put.new.self c.as_slice.result.now true is same
          r.invariant.1 c.in-Ok-put.ensures,
    )

pub rounds-smaller : goal.rounds-smaller
rounds-smaller g c =
    let r = c.rounds in
    let early : r.cores.reached ≤ c.args.horizon = search rules in
    rounds-fewer c.args.lines.now.system.now c.args.allowed.now c.args.horizon r.cores c.in-Ok-take_round.next r.invariant.0 c.in-Ok-take_round.ensures.next early

pub put_together-requires : goal.put_together-requires
put_together-requires g c =
    let many = c.rounds.invariant.0.watched.many_are in
    search (rules, many)

pub returns-in_default-put_together-clause-fault : goal.returns-in_default-put_together-clause-fault
returns-in_default-put_together-clause-fault g c =
    let r = c.rounds in
    let first = c.args.lines.now in
    let well : IsWellFormed first.system.now = search rules in
    some-put first.system.now c.args.allowed.now g.T.Target.contents g.T.Target.has_failed first refl (takes_time first.system.now well) c.args.horizon r.cores.reached r.invariant.0.in_time
    r.lines r.invariant.1

pub returns-clause-counts : goal.returns-clause-counts
returns-clause-counts g c =
    let r = c.rounds in
    let system = c.args.lines.now.system.now in
    let well : IsWellFormed system = search rules in
    let over : c.args.horizon < r.cores.reached = search rules in
    let watches = ended system c.args.allowed.now c.args.horizon r.cores r.invariant.0 over in
    let same : c.as_slice-2.result.now ≡ r.cores.watches.items = search rules in
    c.in-Ok-put_together.ensures.counts ∙ ap are_counted_together same
    ∙ all-counted system c.args.allowed.now well c.cores_are_watched.ensures r.cores.reached (c.args.horizon + 1) r.cores.watches.items watches
    ∙ ap (λ t. counts_so_far system c.args.allowed.now (before_of system t)) (let e : c.args.horizon + 1 ≡ suc c.args.horizon = omega arith in e)

pub returns-clause-unended : goal.returns-clause-unended
returns-clause-unended g c =
    let r = c.rounds in
    let system = c.args.lines.now.system.now in
    let over : c.args.horizon < r.cores.reached = search rules in
    let same : c.as_slice-2.result.now ≡ r.cores.watches.items = search rules in
    c.in-Ok-put_together.ensures.unended c.args.allowed.now r.cores.reached
    (subst (AreWatched system c.args.allowed.now r.cores.reached _) (sym same) (ended system c.args.allowed.now c.args.horizon r.cores r.invariant.0 over))

pub returns-clause-rounds : goal.returns-clause-rounds
returns-clause-rounds g c =
    let r = c.rounds in
    let system = c.args.lines.now.system.now in
    let over : c.args.horizon < r.cores.reached = search rules in
    let same : c.as_slice-2.result.now ≡ r.cores.watches.items = search rules in
    c.in-Ok-put_together.ensures.rounds c.args.allowed.now r.cores.reached
    (subst (AreWatched system c.args.allowed.now r.cores.reached _) (sym same) (ended system c.args.allowed.now c.args.horizon r.cores r.invariant.0 over))

pub returns-clause-unjudged : goal.returns-clause-unjudged
returns-clause-unjudged g c =
    let r = c.rounds in
    let system = c.args.lines.now.system.now in
    let over : c.args.horizon < r.cores.reached = search rules in
    let same : c.as_slice-2.result.now ≡ r.cores.watches.items = search rules in
    c.in-Ok-put_together.ensures.unjudged c.args.allowed.now r.cores.reached
    (subst (AreWatched system c.args.allowed.now r.cores.reached _) (sym same) (ended system c.args.allowed.now c.args.horizon r.cores r.invariant.0 over))

pub returns-clause-put : goal.returns-clause-put
returns-clause-put g c =
    let r = c.rounds in
    let first = c.args.lines.now in
    let over : c.args.horizon < r.cores.reached = search rules in
    let last : r.cores.reached ≡ suc c.args.horizon = (let most = r.invariant.0.in_time in omega arith) in
    subst (λ t. PutsLines g.T.Target.contents g.T.Target.has_failed first (lines_in first.system.now c.args.allowed.now first.format Findings [] (clock first.system.now t).rows) true r.lines)
    last r.invariant.1
