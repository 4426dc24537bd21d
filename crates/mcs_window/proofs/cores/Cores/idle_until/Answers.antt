use Rattle.std.proofs.Common.{◌≡◌, ℕ, ◌+◌, ◌<◌, ◌≤◌, ◌^◌, ◌∙◌, false, length, ap, sym, subst, arith}
use Rattle.std.specs.Prelude.{slice_index, slice_index_or}
use Rattle.std.specs.Arc.{arc_value}
use Rattle.mcs_mail.specs.Box.{Content}
use Rattle.mcs_stretch.specs.Idle.{IsIdleUntil}
use Rattle.mcs_window.specs.Progress.{Progress}
use Rattle.mcs_window.specs.stored.Cores.{AreIdleBelow}
use Rattle.mcs_stretch.specs.Stretch.{StandsAt}
use Rattle.mcs_window.proofs.Advances.{expected}
use Rattle.mcs_window.proofs.Skips.{next-here, below-all, below-same, below-sooner, not-before, never-before}
use Rattle.mcs_window.proofs.cores.Cores.idle_until.Goals as goal
use Rattle.mcs_window.proofs.cores.Cores.idle_until.Goals.{in-Some+then-get, in-Some+else-get, in_default}

pub next_busy-requires-clause-expected : goal.next_busy-requires-clause-expected
next_busy-requires-clause-expected c =
    let a = c.self.inside in
    let s = arc_value a.system in
    let k = c.loop-core.core in
    let state = c.state-item.result in
    let known : k < s.cores = (let many = ap length c.deref-state-items.ensures.value ∙ c.self.invariant.states_of in let l = c.loop-core-test.true in omega arith) in
    let unspent : a.failed ≡ false = ap (λ (p : Progress). p.failed) c.self.view_is ∙ c.requires in
    let here = (c.self.invariant.whole unspent).here k state c.index.result.now known in
    let at = c.state-item.is ∙ ap (λ states. slice_index_or states k state) c.deref-state-items.ensures.value in
    rw c.deref.ensures
    (expected s c.self.invariant.well_formed k (slice_index a.clocks.items k) a.clocks.items state c.index.result.now.mails (subst (StandsAt s k (slice_index a.clocks.items k)) (sym at) here.state_is)
    (ap (λ (box : Content). box.mails) c.index.ensures ∙ here.box_is))

pub loop-core-preserved : goal.loop-core-preserved
loop-core-preserved c =
    let a = c.self.inside in
    let s = arc_value a.system in
    let k = c.loop-core.core in
    let state = c.state-item.result in
    let known : k < s.cores = (let many = ap length c.deref-state-items.ensures.value ∙ c.self.invariant.states_of in let l = c.loop-core-test.true in omega arith) in
    let unspent : a.failed ≡ false = ap (λ (p : Progress). p.failed) c.self.view_is ∙ c.requires in
    let here = (c.self.invariant.whole unspent).here k state c.index.result.now known in
    let at = c.state-item.is ∙ ap (λ states. slice_index_or states k state) c.deref-state-items.ensures.value in
    let next = next-here s a.clocks.items k (slice_index a.clocks.items k) state c.index.result.now.mails c.next_busy.result (subst (StandsAt s k (slice_index a.clocks.items k)) (sym at) here.state_is)
    (ap (λ (box : Content). box.mails) c.index.ensures ∙ here.box_is) (rw c.deref.ensures at c.next_busy.ensures.one_list) in
    let early : c.loop-core.until ≤ 2 ^ 42 = (let l = c.loop-core.invariant.in_time in let h = c.self.invariant.horizon in omega arith) in
    elim c.match-next_busy.branch [
      | in-Some+then-get w ↦ (let sooner : w.in-Some.busy < c.loop-core.until = omega arith in
          rw w.until-is (below-sooner s a.clocks.items (a.horizon + 1) k c.loop-core.until c.loop-core.invariant w.in-Some.busy sooner (rw w.in-Some.is at next)))
      | in-Some+else-get w ↦ (let late : c.loop-core.until ≤ w.in-Some.busy = omega arith in
          rw w.until-is (below-same s a.clocks.items (a.horizon + 1) k c.loop-core.until c.loop-core.invariant c.next_busy.result early (not-before c.next_busy.result w.in-Some.busy c.loop-core.until w.in-Some.is late) next))
      | in_default w ↦ rw w.until-is (below-same s a.clocks.items (a.horizon + 1) k c.loop-core.until c.loop-core.invariant c.next_busy.result early (never-before c.next_busy.result c.loop-core.until w.in_default.is) next)
    ]

pub returns : goal.returns
returns c =
    let a = c.self.inside in
    let s = arc_value a.system in
    let all : c.loop-core.core ≡ s.cores = (let many = ap length c.deref-state-items.ensures.value ∙ c.self.invariant.states_of in let l = c.loop-core-test.false in let end = c.loop-core.auto.core-end in omega arith) in
    let P : ℕ → Type 0 = λ many. AreIdleBelow s a.clocks.items (a.horizon + 1) many c.loop-core.until in
    let until = below-all s a.clocks.items (a.horizon + 1) c.loop-core.until (subst P all c.loop-core.invariant) in
    let Q : Progress → Type 0 = λ p. IsIdleUntil p.system p.clocks (p.horizon + 1) c.loop-core.until in
    subst Q c.self.view_is until
