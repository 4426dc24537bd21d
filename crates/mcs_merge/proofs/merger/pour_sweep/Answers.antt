use Rattle.std.proofs.Common.{◌≡◌, ◌∙◌, ◌+◌, ◌<◌, ◌≤◌, true, ap, arith, length, rules, subst, sym, tests}
use Rattle.std.specs.Prelude.{IfSome}
use Rattle.std.proofs.lemmas.List.{length-set}
use Rattle.mcs_merge.specs.Parts.{first_of, parts_of}
use Rattle.mcs_merge.specs.stored.Sweep.{IsPut}
use Rattle.mcs_merge.proofs.Helds.{err_same}
use Rattle.mcs_merge.proofs.Nexts.{line-set}
use Rattle.mcs_merge.proofs.Pouring.{pouring-goes-on, pouring-refused}
use Rattle.mcs_merge.proofs.Sweeping.{swept-next, swept-again}
use Rattle.mcs_merge.proofs.merger.pour_sweep.Goals as goal

pub returns-in_err-pour_of-clause-stops : goal.returns-in_err-pour_of-clause-stops
returns-in_err-pour_of-clause-stops g c = λ until l.
    let part = g.P.Part in
    let inv = c.cores.invariant in
    let few : length c.cores.cores ≤ 64 = omega (arith, inv.long, c.requires.few) in
    let ends : c.cores.sweep.end ≤ until = subst (λ e. e ≤ until) (sym inv.end) l in
    let next = swept-next part.first c.cores.cores c.cores.sweep c.take.new.self c.in-Some.core few inv.swept c.in-Some.ensures until ends in
    err_same c.from_residual.result (
    pouring-refused g.P.Out.Sink.takes part.holds part.first g.met.P.Part.is_first g.met.P.Part.holds_on until c.args.out.now c.cores.out c.args.cores.now c.cores.cores
    (inv.pouring until l) inv.in_line c.pour_of.new.out c.in-Some.core next c.in_err-pour_of.ensures.refused
    )

pub returns-then-not-put-clause-in_line : goal.returns-then-not-put-clause-in_line
returns-then-not-put-clause-in_line g c =
    line-set g.P.Part.first c.cores.cores c.pour_of.new.cores c.in-Some.core c.cores.invariant.in_line c.in_ok-pour_of.ensures.others c.in_ok-pour_of.ensures.in_line

pub returns-then-not-put-clause-goes_on : goal.returns-then-not-put-clause-goes_on
returns-then-not-put-clause-goes_on g c = λ until l.
    let part = g.P.Part in
    let inv = c.cores.invariant in
    let few : length c.cores.cores ≤ 64 = omega (arith, inv.long, c.requires.few) in
    let ends : c.cores.sweep.end ≤ until = subst (λ e. e ≤ until) (sym inv.end) l in
    let next = swept-next part.first c.cores.cores c.cores.sweep c.take.new.self c.in-Some.core few inv.swept c.in-Some.ensures until ends in
    pouring-goes-on g.P.Out.Sink.takes part.holds part.first g.met.P.Part.is_first g.met.P.Part.holds_on until c.args.out.now c.cores.out c.args.cores.now c.cores.cores
    (inv.pouring until l) inv.in_line c.pour_of.new.out c.in-Some.core next c.pour_of.new.cores c.in_ok-pour_of.ensures.given c.in_ok-pour_of.ensures.others

pub cores-preserved : goal.cores-preserved
cores-preserved g c =
    let part = g.P.Part in
    let inv = c.cores.invariant in
    let core = c.in-Some.core in
    let old = c.cores.cores in
    let new = c.pour_of.new.cores in
    let sweep = c.cores.sweep in
    let taken = c.take.new.self in
    let put = c.put.new.self in
    let few : length old ≤ 64 = omega (arith, inv.long, c.requires.few) in
    let others = c.in_ok-pour_of.ensures.others in
    let is_put : IsPut taken core (first_of part.first (parts_of core new)) put = subst (λ n. IsPut taken core n put) c.next_at.ensures c.put.ensures.put in
    let went : c.put.result ≡ true = search (rules, tests) in
    let late = subst (λ n. IfSome n (λ t. t < taken.end → taken.start + taken.at ≤ t)) c.next_at.ensures (c.put.ensures.later went) in
    record {
      long = ap (λ parts. length parts) others ∙ length-set old core (parts_of core new) ∙ inv.long;
      in_line = line-set part.first old new core inv.in_line others c.in_ok-pour_of.ensures.in_line;
      end = is_put.same.2 ∙ c.in-Some.ensures.same.1 ∙ inv.end;
      swept = swept-again part.first old sweep taken core few inv.swept c.in-Some.ensures new put others is_put late;
      no_more = omega (arith, c.in_ok-pour_of.ensures.fewer, inv.no_more);
      pouring = λ until l.
          let ends : sweep.end ≤ until = subst (λ e. e ≤ until) (sym inv.end) l in
          let next = swept-next part.first old sweep taken core few inv.swept c.in-Some.ensures until ends in
          pouring-goes-on g.P.Out.Sink.takes part.holds part.first g.met.P.Part.is_first g.met.P.Part.holds_on until c.args.out.now c.cores.out c.args.cores.now old
          (inv.pouring until l) inv.in_line c.pour_of.new.out core next new c.in_ok-pour_of.ensures.given others;
    }
