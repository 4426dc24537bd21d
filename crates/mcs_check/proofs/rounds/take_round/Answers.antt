use Rattle.std.proofs.Common.{◌≤◌, ◌∙◌, ◌+◌, inl, inr, ap, arith, refl, replicate, subst, sym}
use Rattle.mcs_stretch.proofs.Openings.{zero_at}
use Rattle.mcs_window.specs.Desk.{Table, clock_of, AllAreHere, AreToldBetween}
use Rattle.mcs_check.specs.stored.OwnRows.{HoldsOwn}
use Rattle.mcs_check.specs.stored.Rounds.{AreWatched, HasTaken}
use Rattle.mcs_check.proofs.Cores.{all-reached, finders-hold, has-gone, round-next}
use Rattle.mcs_check.proofs.rounds.take_round.Goals as goal

pub retold-desk-requires-clause-in_order : goal.retold-desk-requires-clause-in_order
retold-desk-requires-clause-in_order g c = λ k l. subst (λ n. n ≤ clock_of c.args.cores.desk k) (sym (zero_at 64 k)) (omega arith)

pub retold-desk-requires-clause-told : goal.retold-desk-requires-clause-told
retold-desk-requires-clause-told g c =
    let system = g.B.Sought.system in
    let allowed = g.B.Sought.allowed in
    let from = g.B.Sought.from in
    let cores = c.args.cores in
    let watched = subst (λ n. AreWatched system allowed n cores.desk.clocks cores.watches.items) c.requires.sought.2 c.requires.ready.watched in
    subst (λ s. AreToldBetween (λ finder rows. HoldsOwn system allowed from finder.own rows) s (replicate 64 0) cores.desk.clocks c.in_ok-finders.finders.items) (sym c.requires.ready.system_is)
    (finders-hold system allowed (λ finder. finder.own) from cores.desk.clocks cores.watches.items c.in_ok-finders.finders.items c.in_ok-finders.ensures watched)

pub go-requires-clause-sound : goal.go-requires-clause-sound
go-requires-clause-sound g c = ap (λ (t : Table). t.lost) c.retold-desk.ensures ∙ c.requires.ready.sound

pub go-requires-clause-here : goal.go-requires-clause-here
go-requires-clause-here g c = subst AllAreHere (sym c.retold-desk.ensures) c.requires.ready.here

pub take_out-requires-clause-run : goal.take_out-requires-clause-run
take_out-requires-clause-run g c =
    (has-gone g.B.Sought.system g.B.Sought.allowed c.args.cores c.retold-desk.result c.go.new.self c.requires.ready c.retold-desk.ensures c.in_ok-go.ensures.later).system_is

pub take_out-requires-clause-untaken : goal.take_out-requires-clause-untaken
take_out-requires-clause-untaken g c =
    (has-gone g.B.Sought.system g.B.Sought.allowed c.args.cores c.retold-desk.result c.go.new.self c.requires.ready c.retold-desk.ensures c.in_ok-go.ensures.later).untaken

pub take_out-requires-clause-in_time : goal.take_out-requires-clause-in_time
take_out-requires-clause-in_time g c =
    let gone = has-gone g.B.Sought.system g.B.Sought.allowed c.args.cores c.retold-desk.result c.go.new.self c.requires.ready c.retold-desk.ensures c.in_ok-go.ensures.later in
    let run = gone.horizon_is in
    let most = c.requires.ready.in_time in
    let from = c.requires.sought.2 in omega arith

pub take_out-requires-clause-later : goal.take_out-requires-clause-later
take_out-requires-clause-later g c =
    let gone = has-gone g.B.Sought.system g.B.Sought.allowed c.args.cores c.retold-desk.result c.go.new.self c.requires.ready c.retold-desk.ensures c.in_ok-go.ensures.later in
    λ k l. subst (λ n. n ≤ clock_of c.go.new.self k) c.requires.sought.2 (gone.later k l)

pub returns-clause-next : goal.returns-clause-next
returns-clause-next g c =
    let system = g.B.Sought.system in
    let allowed = g.B.Sought.allowed in
    let has = subst (λ n. HasTaken system allowed n c.go.new.self c.in_ok-next.next) (sym c.requires.sought.2) c.in_ok-next.ensures.taken in
    round-next system allowed c.requires.well_formed c.cores_are_watched.ensures c.args.cores c.in_ok-next.next _ c.retold-desk.result c.go.new.self c.requires.ready c.retold-desk.ensures
    c.in_ok-go.ensures.later c.in_ok-go.ensures.fewer has refl refl refl c.in_ok-put_in_order.ensures.in_order c.in_ok-put_in_order.ensures.stable

pub returns-clause-enough : goal.returns-clause-enough
returns-clause-enough g c =
    let system = g.B.Sought.system in
    let allowed = g.B.Sought.allowed in
    let gone = has-gone system allowed c.args.cores c.retold-desk.result c.go.new.self c.requires.ready c.retold-desk.ensures c.in_ok-go.ensures.later in
    let rows = c.in_ok-next.ensures.rows in
    elim c.in_ok-go.ensures.enough [
      | inl finished ↦ inl (all-reached system allowed g.B.Sought.from c.go.new.self c.in_ok-next.next gone.system_is finished c.in_ok-next.ensures.taken ∙ ap (λ n. n + 1) gone.horizon_is)
      | inr enough ↦ inr (omega arith)
    ]
