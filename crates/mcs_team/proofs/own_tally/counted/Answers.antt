use Rattle.std.proofs.Common.{◌≡◌, ◌≤◌, ◌+◌, ◌∙◌, length, replicate, vec_capacity, sym, ap, subst, arith, rules}
use Rattle.std.proofs.lemmas.Grind.{common_steps}
use Rattle.std.specs.Prelude.{slice_index, slice_index_or}
use Rattle.mcs_report.specs.CoreTally.{HoldsRows}
use Rattle.mcs_system.specs.System.{System}
use Rattle.mcs_stretch.specs.Stretch.{rows_between}
use Rattle.mcs_stretch.proofs.Openings.{zero_at}
use Rattle.mcs_window.specs.Desk.{clock_of}
use Rattle.mcs_window.proofs.Lists.{each-more}
use Rattle.mcs_team.specs.Counts.{many_of}
use Rattle.mcs_team.proofs.own_tally.counted.Goals as goal

pub loop-number-preserved : goal.loop-number-preserved
loop-number-preserved g c =
    let desk = c.args.desk.now in
    let system = g.B.Run.system in
    let k = c.loop-number.number in
    let telling = c.in-Some.telling in
    let long : length c.push_reserved.new.self.items ≡ k + 1 = grind (arith, common_steps) in
    let room : c.cores-number-end.result ≤ vec_capacity c.push_reserved.new.self = search rules in
    let core : telling.core ≡ k = search rules in
    let first : telling.first ≡ 0 = search rules in
    let past : telling.past ≡ clock_of desk k = search rules in
    let last =
    subst (λ rows. HoldsRows c.into_told.result.tally rows × (c.into_told.result.rows ≡ many_of rows))
    (ap (λ n. rows_between system n telling.first telling.past) core
    ∙ ap (λ n. rows_between system k n telling.past) first
    ∙ ap (rows_between system k 0) past)
    c.into_told.ensures in (
      long,
      room,
      each-more c.loop-number.told.items c.push_reserved.new.self.items k c.into_told.result (λ n own. HoldsRows own.tally (rows_between system n 0 (clock_of desk n)) × (own.rows ≡ many_of (rows_between system n 0 (clock_of desk n))))
          c.loop-number.invariant.0 c.loop-number.invariant.2 last c.push_reserved.ensures.items,
    )

pub returns : goal.returns
returns g c =
    let desk = c.args.desk.now in
    let number = c.loop-number.invariant.0 in
    let cores = c.cores-number-end.ensures in
    let over = c.loop-number-test.false in
    let end = c.loop-number.auto.number-end in
    record {
      many_are = omega arith;
      each = λ k x l.
          subst (λ rows. HoldsRows (slice_index_or c.loop-number.told.items k x).tally rows × ((slice_index_or c.loop-number.told.items k x).rows ≡ many_of rows))
          (ap (λ n. rows_between g.B.Run.system k n (clock_of desk k)) (sym (zero_at 64 k))
          ∙ ap (λ (system : System). rows_between system k (slice_index (replicate 64 0) k) (clock_of desk k)) (sym c.requires))
          (c.loop-number.invariant.2 k x (omega arith));
    }
