use Rattle.std.proofs.Common.{◌≡◌, ◌⊎◌, ◌∙◌, ◌+◌, ◌<◌, ◌≤◌, Some, ap, arith, inl, inr, length, refl, subst, sym}
use Rattle.std.specs.Prelude.{IfSome}
use Rattle.std.proofs.lemmas.Bool.{cases_lt}
use Rattle.mcs_merge.specs.Parts.{first_of, parts_of}
use Rattle.mcs_merge.specs.stored.Sweep.{Sweep, IsPut, IsSwept}
use Rattle.mcs_merge.proofs.Sweeping.{late-before, some-same, swept-none, swept-put, swept-same}
use Rattle.mcs_merge.proofs.merger.sweep_of.Goals as goal

pub loop-d-init : goal.loop-d-init
loop-d-init g c = record {
  same = (refl, ap (λ (s : Sweep). s.at) c.new-sweep.ensures, refl);
  swept = subst (λ (s : Sweep). IsSwept g.P.Part.first c.args.cores.now (λ d. d < 0) s) (sym c.new-sweep.ensures)
      (swept-none g.P.Part.first c.args.cores.now c.unwrap-start.result c.args.until);
}

pub loop-d-preserved : goal.loop-d-preserved
loop-d-preserved g c =
    let first = g.P.Part.first in
    let cores = c.args.cores.now in
    let d = c.loop-d.d in
    let sweep = c.loop-d.sweep in
    let put = c.put.new.self in
    let inv = c.loop-d.invariant in
    let next = c.requires.next in
    let within : d < length cores = c.loop-d-test.true in
    let low : d < 64 = omega (arith, c.requires.few) in
    let is_put : IsPut sweep d (first_of first (parts_of d cores)) put = subst (λ n. IsPut sweep d n put) c.next_at-in-loop-d.ensures c.put.ensures.put in
    let some : Some c.unwrap-start.result ≡ Some next.moment =
    (let unwrapped = c.unwrap-start.ensures in let moment = c.moment.ensures in let at = c.next_at.ensures in let is = next.is in cc)
    in
    let start_is : c.unwrap-start.result ≡ next.moment = some-same c.unwrap-start.result next.moment some in
    let new_is = ap (λ (s : Sweep). s.start) c.new-sweep.ensures in
    let from : sweep.start + sweep.at ≡ next.moment = omega (arith, inv.same.0, inv.same.1, new_is, start_is) in
    let late = late-before (sweep.start + sweep.at) sweep.end (first_of first (parts_of d cores))
    (subst (λ a. IfSome (first_of first (parts_of d cores)) (λ t. a ≤ t)) (sym from) (next.least d within))
    in
    record {
      same = (is_put.same.0 ∙ inv.same.0, is_put.same.1 ∙ inv.same.1, is_put.same.2 ∙ inv.same.2);
      swept = swept-same first cores (λ k. (k < d) ⊎ (k ≡ d)) (λ k. k < d + 1) put
          (λ k w. elim w [
            | inl below ↦ omega arith
            | inr same ↦ omega arith
          ])
          (λ k l. elim (cases_lt k d) [
            | inl below ↦ inl below
            | inr above ↦ inr (omega arith)
          ])
          (swept-put first cores (λ k. k < d) d sweep put low (λ k l. omega arith) (λ l. omega arith) inv.swept is_put late);
    }

pub returns-clause-swept : goal.returns-clause-swept
returns-clause-swept g c =
    let all : c.loop-d.d ≡ length c.args.cores.now = omega (arith, c.loop-d.auto.d-end, c.loop-d-test.false) in
    subst (λ n. IsSwept g.P.Part.first c.args.cores.now (λ d. d < n) c.loop-d.sweep) all c.loop-d.invariant.swept
