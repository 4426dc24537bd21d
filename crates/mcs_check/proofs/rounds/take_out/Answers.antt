use Rattle.std.proofs.Common.{rules, ◌≡◌, ◌∙◌, ◌++◌, ◌∷◌, ◌≤◌, ◌<◌, [], ap, arith, length, subst, sym}
use Rattle.mcs_window.specs.Desk.{Table, clock_of}
use Rattle.mcs_stretch.proofs.Openings.{zero_at}
use Rattle.mcs_check.proofs.Cores.{taking-done, taking-first, taking-next, IsTaking}
use Rattle.mcs_check.proofs.rounds.take_out.Goals as goal

pub loop-core-init : goal.loop-core-init
loop-core-init g c =
    let none : c.in_ok-watches.watches.items ≡ [] = search rules in
    let nothing : c.new-found.result.items ≡ [] = search rules in
    let is = taking-first g.B.Sought.system g.B.Sought.allowed g.B.Sought.from c.least_clock-reached.result c.args.desk c.requires.run c.requires.untaken in
    subst (λ ws. IsTaking g.B.Sought.system g.B.Sought.allowed g.B.Sought.from c.least_clock-reached.result c.args.desk c.args.desk 0 ws c.new-found.result.items) (sym none)
    (subst (λ fs. IsTaking g.B.Sought.system g.B.Sought.allowed g.B.Sought.from c.least_clock-reached.result c.args.desk c.args.desk 0 [] fs) (sym nothing) is)

pub take_watch-requires-clause-known : goal.take_watch-requires-clause-known
take_watch-requires-clause-known g c =
    let same = ap (λ (t : Table). t.system.cores) c.loop-core.invariant.desk_is in
    let number = c.cores-number.ensures in omega arith

pub take_watch-requires-clause-run : goal.take_watch-requires-clause-run
take_watch-requires-clause-run g c = ap (λ (t : Table). t.system) c.loop-core.invariant.desk_is ∙ c.requires.run

pub take_watch-requires-clause-untaken : goal.take_watch-requires-clause-untaken
take_watch-requires-clause-untaken g c =
    let same = ap (λ s. s.cores) c.requires.run in
    let number = c.cores-number.ensures in
    c.loop-core.invariant.untaken c.loop-core.core (omega arith) (omega arith)

pub take_watch-requires-clause-later : goal.take_watch-requires-clause-later
take_watch-requires-clause-later g c =
    let number = c.cores-number.ensures in
    let l : c.loop-core.core < c.args.desk.system.cores = omega arith in (
      c.least_clock-reached.ensures.reached g.B.Sought.from c.requires.in_time c.requires.later,
      subst (λ (t : Table). c.least_clock-reached.result ≤ clock_of t c.loop-core.core) (sym c.loop-core.invariant.desk_is) (c.least_clock-reached.ensures.least c.loop-core.core l),
    )

pub loop-core-preserved : goal.loop-core-preserved
loop-core-preserved g c =
    let r = c.loop-core in
    let same = ap (λ s. s.cores) c.requires.run in
    let number = c.cores-number.ensures in
    let pushed : c.push.new.self.items ≡ r.watches.items ++ c.in_ok-own.own ∷ [] = search rules in
    taking-next g.B.Sought.system g.B.Sought.allowed g.B.Sought.from c.least_clock-reached.result c.args.desk r.desk c.take_watch.new.desk r.core r.watches.items c.push.new.self.items
    r.found.items c.take_watch.new.found.items c.in_ok-own.own r.invariant (omega arith) c.take_watch.ensures.taken c.in_ok-own.ensures.watched c.in_ok-own.ensures.found pushed

pub retold-requires-clause-in_order : goal.retold-requires-clause-in_order
retold-requires-clause-in_order g c = λ k l. subst (λ n. n ≤ clock_of c.loop-core.desk k) (sym (zero_at 64 k)) (omega arith)

pub retold-requires-clause-told : goal.retold-requires-clause-told
retold-requires-clause-told g c =
    let long : length c.in_ok-silent.silent.items ≡ c.cores-number.result = search rules in
    let same = ap (λ (t : Table). t.system.cores) c.loop-core.invariant.desk_is in
    record { many_are = long ∙ c.cores-number.ensures ∙ sym same; each = λ k x l. record {} }

pub returns-clause-taken : goal.returns-clause-taken
returns-clause-taken g c =
    let r = c.loop-core in
    let number = c.cores-number.ensures in
    let over = c.loop-core-test.false in
    let end = c.loop-core.auto.core-end in
    let least = c.least_clock-reached.ensures in
    taking-done g.B.Sought.system g.B.Sought.allowed g.B.Sought.from c.args.desk r.desk r.core _ r.invariant c.requires.run (omega arith) c.retold.ensures
    (least.reached g.B.Sought.from c.requires.in_time c.requires.later) least.in_time least.least least.most least.reached
