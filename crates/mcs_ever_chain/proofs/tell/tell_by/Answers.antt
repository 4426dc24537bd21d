use Rattle.std.proofs.Common.{◌≡◌, ◌-◌, ◌<◌, ℕ, true, false, List, Option, None, length, get_or, replicate, sym, ap, subst, ◌∙◌, arith, rules}
use Rattle.std.specs.Prelude.{IfOk, IsSome}
use Rattle.std.proofs.lemmas.List.{with_items_is}
use Rattle.mcs_system.specs.System.{System}
use Rattle.mcs_ever_chain.specs.declared.look.Look.{Look}
use Rattle.mcs_ever_chain.specs.declared.told.ChainTold.{ChainTold}
use Rattle.mcs_ever_chain.specs.Told.{AreChainsTold}
use Rattle.mcs_ever_chain.specs.stored.Looks.{AreLooks, AreResults}
use Rattle.mcs_ever_chain.proofs.Results.{results-none}
use Rattle.mcs_ever_chain.proofs.tell.tell_by.Goals as goal
use Rattle.mcs_ever_chain.proofs.tell.tell_by.Goals.{then-loop-results-test+else-is_any_left, else-loop-results-test}

pub loop-results-init : goal.loop-results-init
loop-results-init c =
    let s = c.args.system.now in
    let h = c.args.horizon in
    let many : c.len-chains.result ≡ length s.chains = c.len-chains.ensures ∙ ap (λ (x : System). length x.chains) c.parts.ensures.same in
    let none : Option ChainTold = None in
    let empty : c.in_ok-results.results.items ≡ replicate c.len-chains.result none = search rules in
    let L : ℕ → Type 0 = λ (t : ℕ). AreLooks s t (t - 1) c.in_ok-looks.looks.items in
    let R : List (Option ChainTold) → Type 0 = λ (told : List (Option ChainTold)). AreResults s h told in
    record {
      run = c.requires.run;
      horizon = c.requires.horizon;
      looks = subst L (sym c.requires.start) c.in_ok-looks.ensures;
      told = subst R (sym empty) (results-none s h c.len-chains.result many);
    }

pub loop-results-preserved : goal.loop-results-preserved
loop-results-preserved c =
    let s = c.args.system.now in
    let run = c.step.new.run in
    let looks = with_items_is c.loop-results.looks c.step.new.looks (c.step.auto.looks ∙ c.as_mut_slice.ensures.len) in
    let told = with_items_is c.loop-results.results c.step.new.told (c.step.auto.told ∙ c.as_mut_slice-in-loop-results.ensures.len) in
    let horizon = c.in_ok-step.ensures.horizon ∙ c.loop-results.invariant.horizon in
    let L : List Look → Type 0 = λ (xs : List Look). AreLooks s run.lockstep.clock (run.lockstep.clock - 1) xs in
    let R : List (Option ChainTold) → Type 0 = λ (xs : List (Option ChainTold)). AreResults s c.args.horizon xs in
    let H : ℕ → Type 0 = λ (h : ℕ). AreResults s h c.step.new.told in
    record {
      run = c.in_ok-step.ensures.run;
      horizon = horizon;
      looks = subst L (sym looks) c.in_ok-step.ensures.looks;
      told = subst R (sym told) (subst H horizon c.in_ok-step.ensures.told);
    }

pub all_told-requires-clause-over : goal.all_told-requires-clause-over
all_told-requires-clause-over c = λ n l e. elim c.loop-results-test.branch [
  | then-loop-results-test+else-is_any_left w ↦
      let items = w.as_slice.ensures.value ∙ sym c.as_slice-2.ensures.value in
      let within : n < length w.as_slice.result.now = (let m = ap (λ (xs : List (Option ChainTold)). length xs) items in omega (arith, l, m)) in
      let some = w.is_any_left.ensures w.if-is_any_left.false n within in
      let none : get_or w.as_slice.result.now n None ≡ None = ap (λ (xs : List (Option ChainTold)). get_or xs n None) items ∙ e in
      let P : Option ChainTold → Type 0 = λ (o : Option ChainTold). IsSome o in
      let bad : false ≡ true = subst P none some in
      cc
  | else-loop-results-test w ↦
      omega (
        arith,
        w.loop-results-test.false,
        c.get.ensures.value,
        c.get-in-loop-results.ensures.value,
        c.clock.ensures.value,
        c.clock.ensures.in_time,
        c.loop-results.invariant.horizon,
      )
]

pub returns : goal.returns
returns c =
    let P : ℕ → Type 0 = λ (h : ℕ). IfOk c.all_told.result (λ all. AreChainsTold c.args.system.now h all.items) in
    subst P c.loop-results.invariant.horizon c.all_told.ensures
