use Rattle.std.proofs.Common.{◌≡◌, ◌<◌, ◌≤◌, ◌+◌, replicate, sym, ap, ◌∙◌, subst, arith, rules}
use Rattle.std.specs.Arc.{arc_value}
use Rattle.mcs_core.specs.State.{Fits, opening_state}
use Rattle.mcs_system.specs.System.{System}
use Rattle.mcs_system.specs.WellFormed.{IsWellFormed}
use Rattle.mcs_window.proofs.Openings.{opening-more, empty_boxes-more}
use Rattle.mcs_step.specs.stored.Cores.{IsBusyAt, IsQuietTo}
use Rattle.mcs_step.proofs.Opened.{AreFirstQuiet, first-quiet, quiet-more, opened}
use Rattle.mcs_step.proofs.in_step.InStep.new.Goals as goal

pub loop-core-preserved : goal.loop-core-preserved
loop-core-preserved c =
    let s = arc_value c.args.system in
    let k = c.loop-core.core in
    let state = c.in_ok-state.state in
    let same : c.parts.result.now ≡ s = c.parts.ensures.same ∙ c.deref.ensures in
    let known : k < s.cores = rw same at c.loop-core-test.true in
    let well : IsWellFormed s = (let P : System → Type 0 = λ s. IsWellFormed s in subst P c.deref.ensures c.parts.ensures.well_formed) in
    let few : s.cores ≤ 64 = well.limits.cores.1 in
    let is : state ≡ opening_state s k = (let P : System → Type 0 = λ s. state ≡ opening_state s k in subst P c.deref-in-loop-core.ensures c.in_ok-state.ensures.state) in
    let fits : Fits s state = (let P : System → Type 0 = λ s. Fits s state in subst P c.deref-in-loop-core.ensures c.in_ok-state.ensures.fits) in
    let quiet : IsQuietTo s state c.new-mail.result.mails c.next_of.result = (let P : System → Type 0 = λ s. IsQuietTo s state c.new-mail.result.mails c.next_of.result in subst P c.deref-in-loop-core-2.ensures c.next_of.ensures.quiet) in
    let busy : c.next_of.result ≤ c.args.horizon → IsBusyAt s state c.new-mail.result.mails c.next_of.result = (λ l. let P : System → Type 0 = λ s. IsBusyAt s state c.new-mail.result.mails c.next_of.result in subst P c.deref-in-loop-core-2.ensures (c.next_of.ensures.busy (let end : c.at-end.result ≡ c.args.horizon + 1 = search rules in omega arith))) in
    let early : c.next_of.result ≤ c.args.horizon + 1 = search rules in
    record {
      states = opening-more s k c.loop-core.states.items c.push.new.self.items state c.loop-core.invariant.states is fits c.in_ok-push.ensures.items;
      boxes = empty_boxes-more k c.loop-core.boxes.items c.push-in-loop-core.new.self.items c.new-mail.result c.loop-core.invariant.boxes c.new-mail.ensures c.in_ok-push-2.ensures.items;
      next = subst (AreFirstQuiet s c.args.horizon (k + 1)) (sym c.set.ensures)
          (quiet-more s c.args.horizon k c.loop-core.next c.loop-core.invariant.next known (omega arith) state is fits c.new-mail.result.mails c.new-mail.ensures c.next_of.result quiet busy early);
    }

pub invariant_of-result : goal.invariant_of-result
invariant_of-result c =
    let s = arc_value c.args.system in
    let same : c.parts.result.now ≡ s = c.parts.ensures.same ∙ c.deref.ensures in
    let well : IsWellFormed s = (let P : System → Type 0 = λ s. IsWellFormed s in subst P c.deref.ensures c.parts.ensures.well_formed) in
    let few : s.cores ≤ 64 = well.limits.cores.1 in
    let clocks : c.in_ok-clocks.clocks.items ≡ replicate s.cores 0 = search rules in
    let all : c.loop-core.core ≡ s.cores = (let many : c.parts.result.now.cores ≡ s.cores = ap (λ (system : System). system.cores) same in let l = c.loop-core-test.false in let end = c.loop-core.auto.core-end in omega arith) in
    let inv = c.loop-core.invariant in
    record {
      horizon = c.requires;
      well_formed = well;
      in_step = λ e. opened s c.args.horizon _ few clocks (rw all at inv.states) (rw all at inv.boxes) (rw all at inv.next);
      first = λ e. c.first-first.ensures;
    }

pub loop-core-init : goal.loop-core-init
loop-core-init c =
    let end : c.at-end.result ≡ c.args.horizon + 1 = search rules in
    record {
      states = search rules;
      boxes = search rules;
      next = first-quiet (arc_value c.args.system) c.args.horizon c.at-end.result c.new-next.result c.new-next.ensures end;
    }
