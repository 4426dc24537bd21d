use Rattle.std.proofs.Common.{◌≡◌, ◌≢◌, ◌+◌, suc, min, sym, subst, rules, arith}
use Rattle.mcs_system.specs.WellFormed.{IsWellFormed}
use Rattle.mcs_laws.specs.Links.{Signals}
use Rattle.mcs_window.specs.Desk.{Table, clock_of}
use Rattle.mcs_window.specs.stored.Reaches.{IsReach}
use Rattle.mcs_window.proofs.Reaching.{IsFarBy, far_by-own, far_by-other, far_by-reached}
use Rattle.mcs_window.proofs.desk.Desk.farthest.Goals as goal
use Rattle.mcs_window.proofs.desk.Desk.farthest.Goals.{then-other-core, else-other-core}

pub loop-other-preserved : goal.loop-other-preserved
loop-other-preserved g c =
    let table = c.args.self.now in
    let n = c.loop-other.other in
    let next : suc n ≡ n + 1 = omega arith in
    subst (λ m. IsFarBy table c.args.core m c.if-other-core.past) next
    (elim c.if-other-core.branch [
      | then-other-core w ↦
          (let other : n ≢ c.args.core = search rules in
          let less : c.if-other-core.past ≡ min c.loop-other.past (clock_of table n + w.reach.result) = search rules in
          subst (IsFarBy table c.args.core (suc n)) (sym less) (far_by-other table c.args.core n c.loop-other.past c.loop-other.invariant w.reach.result other
          (subst (λ k. IsReach table.system n k (Signals table.system n k) w.reach.result) c.core.view_is w.reach.ensures)))
      | else-other-core w ↦
          (let own : n ≡ c.args.core = search rules in
          let same : c.if-other-core.past ≡ c.loop-other.past = search rules in
          subst (IsFarBy table c.args.core (suc n)) (sym same) (far_by-own table c.args.core n c.loop-other.past c.loop-other.invariant own))
    ])

pub returns-clause-reached : goal.returns-clause-reached
returns-clause-reached g c =
    let table = c.args.self.now in
    let well = subst (λ (t : Table). IsWellFormed t.system) c.self.view_is c.self.invariant.well_formed in
    let all : c.loop-other.other ≡ table.system.cores = omega arith in
    let is : c.unwrap.result ≡ c.loop-other.past = search rules in
    far_by-reached table c.args.core c.unwrap.result well
    (subst (λ n. IsFarBy table c.args.core n c.unwrap.result) all (subst (IsFarBy table c.args.core c.loop-other.other) (sym is) c.loop-other.invariant))

pub returns-clause-far : goal.returns-clause-far
returns-clause-far g c =
    let table = c.args.self.now in
    let all : c.loop-other.other ≡ table.system.cores = omega arith in
    let is : c.unwrap.result ≡ c.loop-other.past = search rules in
    (subst (λ n. IsFarBy table c.args.core n c.unwrap.result) all (subst (IsFarBy table c.args.core c.loop-other.other) (sym is) c.loop-other.invariant)).said
