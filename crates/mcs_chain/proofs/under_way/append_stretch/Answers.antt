-- One origin more.
use Rattle.std.proofs.Common.{◌≡◌, ℕ, suc, List, ◌+◌, ◌++◌, map, refl, ap, ◌∙◌, arith}
use Rattle.std.proofs.lemmas.Grind.{common_steps}
use Rattle.std.proofs.lemmas.Result.{on_ok_weaker}
use Rattle.mcs_chain.specs.declared.sent.Sent.{Sent}
use Rattle.mcs_chain.specs.Origins.{sent}
use Rattle.mcs_origins.specs.stored.Stretches.{run}
use Rattle.mcs_origins.proofs.Places.{run-push}
use Rattle.mcs_chain.proofs.under_way.append_stretch.Goals as goal

pub loop-number-preserved : goal.loop-number-preserved
loop-number-preserved c = record {
  under_way =
      let a = c.args.stretch.now in
      let n = c.loop-number.number in
      let more : n + 1 ≡ suc n = omega arith in
      run-push (sent c.args.note c.args.maker c.args.made) c.args.under_way.now.items c.loop-number.under_way.items c.append_one.new.under_way.items
      a.last a.step a.places n (n + 1) c.mark_at.result c.loop-number.invariant.under_way c.in_ok-append_one.ensures.ok c.mark_at.ensures more;
  kept = grind (arith, common_steps);
}

pub returns-clause-ok : goal.returns-clause-ok
returns-clause-ok c =
    let a = c.args.stretch.now in
    let old = c.args.under_way.now.items in
    let origins : ℕ → List Sent = λ n. map (sent c.args.note c.args.maker c.args.made) (run a.last a.step n a.places) in
    let all : c.loop-number.number ≡ a.more = omega arith in
    let before = c.loop-number.invariant.under_way ∙ ap (λ n. old ++ origins n) all in
    let more : suc a.more ≡ suc a.more = refl in
    on_ok_weaker c.append_one-2.result (λ pushed.
    run-push (sent c.args.note c.args.maker c.args.made) old c.loop-number.under_way.items c.append_one-2.new.under_way.items
    a.last a.step a.places a.more (suc a.more) c.mark_at-2.result before pushed c.mark_at-2.ensures more) c.append_one-2.ensures.ok
