use Rattle.std.proofs.Common.{length, drop, refl, sym, ap, ◌∙◌, subst, arith}
use Rattle.mcs_refills.specs.laws.Apart.{AreApart, last_end}
use Rattle.mcs_refills.specs.stored.Refills.{after_unblock}
use Rattle.mcs_refills.proofs.Gathers.{next-bounds, last_end-first, first-is, second-is, begun-apart, begun-end, begun-reaches}
use Rattle.mcs_refills.proofs.steps.unblock_list.Goals as goal

pub joins-init : goal.joins-init
joins-init c =
    let e = first-is c.args.refills.now.items c.first-head.result c.first-head.ensures in
    record {
      some = omega (arith, ap length e);
      capacity = refl;
      apart = begun-apart _ _ (subst AreApart e c.requires.apart);
      end = omega (arith, begun-end c.first-head.result (drop 1 c.args.refills.now.items), ap last_end e);
      same = begun-reaches c.args.t _ _ (omega (arith, c.if-t-head.false)) ∙ sym (ap (after_unblock c.args.t) e);
    }

pub overflow_add-t : goal.overflow_add-t
overflow_add-t c = omega (arith, last_end-first _ _ c.joins.invariant.apart, c.joins.invariant.end, c.requires.early, c.requires.now)

pub overflow_add-amount : goal.overflow_add-amount
overflow_add-amount c =
    let b = next-bounds (record { begins = 0; amount = c.joins.amount }) _ (drop 1 c.joins.refills.items) (drop 2 c.joins.refills.items) (second-is _ _ c.in-Some.ensures) c.joins.invariant.apart in
    omega (arith, b.0, b.1, c.joins.invariant.end, c.requires.early)
