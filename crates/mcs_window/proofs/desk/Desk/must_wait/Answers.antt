use Rattle.std.proofs.Common.{◌≡◌, ◌≢◌, ◌≤◌, ◌<◌, ◌+◌, ◌∙◌, suc, ap, subst, rules, arith}
use Rattle.mcs_system.specs.System.{delay_between}
use Rattle.mcs_window.specs.Desk.{clock_of}
use Rattle.mcs_window.proofs.Lending.{past_by, past_by-own, past_by-other, past_by-in_time, past_by-reached}
use Rattle.mcs_window.proofs.desk.Desk.must_wait.Goals as goal
use Rattle.mcs_window.proofs.desk.Desk.must_wait.Goals.{then-other-core+else-get-delay, else-other-core}

pub returns-then-gt : goal.returns-then-gt
returns-then-gt g c =
    let t = c.args.self.now in
    let most = past_by-in_time t c.args.core t.system.cores in
    let late : t.horizon < c.args.moment = search rules in
    (λ e. omega arith, λ l. search rules)

pub returns-then-get-delay : goal.returns-then-get-delay
returns-then-get-delay g c =
    let t = c.args.self.now in
    let n = c.loop-other.other in
    let known : n < t.system.cores = search rules in
    let other : n ≢ c.args.core = search rules in
    let reached = past_by-reached t c.args.core t.system.cores n known other in
    let early : clock_of t n + delay_between t.system n c.args.core ≤ c.args.moment = search rules in
    (λ e. omega arith, λ l. search rules)

pub loop-other-preserved : goal.loop-other-preserved
loop-other-preserved g c =
    let t = c.args.self.now in
    let n = c.loop-other.other in
    let next : n + 1 ≡ suc n = omega arith in
    let before = c.loop-other.invariant in
    elim c.if-other-core.branch [
      | then-other-core+else-get-delay w ↦
          (let other : n ≢ c.args.core = search rules in
          let late : c.args.moment < clock_of t n + delay_between t.system n c.args.core = search rules in
          let is = ap (past_by t c.args.core) next ∙ past_by-other t c.args.core n other in
          omega arith)
      | else-other-core w ↦
          (let own : n ≡ c.args.core = search rules in
          let is = ap (past_by t c.args.core) next ∙ past_by-own t c.args.core n own in
          omega arith)
    ]

pub returns : goal.returns
returns g c =
    let t = c.args.self.now in
    let all : c.loop-other.other ≡ t.system.cores = search rules in
    let after : c.args.moment < past_by t c.args.core t.system.cores = subst (λ n. c.args.moment < past_by t c.args.core n) all c.loop-other.invariant in
    (λ e. search rules, λ l. absurd (omega arith))
