use Rattle.std.proofs.Common.{◌≡◌, ◌∙◌, suc, Some, List, ap, subst, sym}
use Rattle.std.specs.Prelude.{IfSome}
use Rattle.mcs_ticks.specs.declared.row.Row.{Row}
use Rattle.mcs_ticks.specs.Given.{Given}
use Rattle.mcs_merge.specs.Merge.{rows_at, DoNotFall}
use Rattle.mcs_merge.specs.Parts.{first_moment, rows_from}
use Rattle.mcs_merge.proofs.Rows.{giving-begins, giving-ends}
use Rattle.mcs_merge.proofs.row_part.RowPartPart.pour.Goals as goal

pub rows-init : goal.rows-init
rows-init g c = giving-begins g.S.Sink.takes c.in-Some.moment c.self.inside.rows.items c.args.out.now (sym c.first_moment.ensures ∙ c.in-Some.is)

pub returns-clause-given : goal.returns-clause-given
returns-clause-given g c = λ rows o e.
    let takes = g.S.Sink.takes in
    let moment = c.in-Some.moment in
    let all = c.self.inside.rows.items in
    let is : all ≡ rows = c.self.view_is ∙ e in
    let first : first_moment c.args.self.now ≡ Some moment = ap first_moment (sym c.self.view_is) ∙ sym c.first_moment.ensures ∙ c.in-Some.is in
    let ends = giving-ends takes moment all c.rows.self-inside.rows.items c.args.out.now c.rows.out c.rows.invariant c.in_default-pop_at.ensures.none.1 (subst DoNotFall (sym is) o) in
    subst (λ next. IfSome next (λ t. Given takes c.args.out.now (rows_at t rows) c.rows.out × (c.pop_at.new.rows.items ≡ rows_from (suc t) rows))) (sym first) (
      subst (λ (xs : List Row). Given takes c.args.out.now (rows_at moment xs) c.rows.out) is ends.0,
      c.in_default-pop_at.ensures.none.0 ∙ ends.1 ∙ ap (rows_from (suc moment)) is,
    )
