use Rattle.std.proofs.Common.{◌≡◌, ◌≢◌, ◌≤◌, ◌+◌, ◌^◌, ◌∙◌, suc, min, sym, ap, rules, arith}
use Rattle.mcs_system.specs.System.{delay_between}
use Rattle.mcs_window.specs.Desk.{clock_of}
use Rattle.mcs_window.proofs.Lending.{past_by, past_by-own, past_by-other, past_by-in_time}
use Rattle.mcs_window.proofs.desk.Desk.past.Goals as goal
use Rattle.mcs_window.proofs.desk.Desk.past.Goals.{then-other-core, else-other-core}

pub loop-other-preserved : goal.loop-other-preserved
loop-other-preserved g c =
    let table = c.args.self.now in
    let n = c.loop-other.other in
    let next : suc n ≡ n + 1 = omega arith in
    elim c.if-other-core.branch [
      | then-other-core w ↦
          (let other : n ≢ c.args.core = search rules in
          let less : c.if-other-core.past ≡ min c.loop-other.past (clock_of table n + delay_between table.system n c.args.core) = search rules in
          less ∙ ap (λ past. min past (clock_of table n + delay_between table.system n c.args.core)) c.loop-other.invariant ∙ sym (past_by-other table c.args.core n other) ∙ ap (past_by table c.args.core) next)
      | else-other-core w ↦
          (let own : n ≡ c.args.core = search rules in
          let same : c.if-other-core.past ≡ c.loop-other.past = search rules in
          same ∙ c.loop-other.invariant ∙ sym (past_by-own table c.args.core n own) ∙ ap (past_by table c.args.core) next)
    ]

pub unwrap-requires : goal.unwrap-requires
unwrap-requires g c =
    let most = past_by-in_time c.args.self.now c.args.core c.loop-other.other in
    let horizon : c.args.self.now.horizon ≤ 2 ^ 40 = search rules in
    let is = c.loop-other.invariant in
    c.new.ensures.some.1 (omega arith)
