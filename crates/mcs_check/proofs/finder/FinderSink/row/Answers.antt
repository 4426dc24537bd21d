use Rattle.std.proofs.Common.{◌≡◌, ◌∙◌, ◌++◌, ◌∷◌, OnOk, Some, append_assoc, ap, ap₂, is_ok, subst, sym}
use Rattle.mcs_chain.specs.Watch.{all_due, watch_of as chains_of}
use Rattle.mcs_cli.specs.Flow.{TakesLine}
use Rattle.mcs_check.specs.stored.Rows.{counted_at, due_lines, kept_table, row_lines, told_with}
use Rattle.mcs_check_run.specs.Lines.{failed_after}
use Rattle.mcs_check.specs.stored.Watches.{watches_of}
use Rattle.mcs_check_run.proofs.Results.{err-holds, moved, ok-holds, ok-then, was-ok}
use Rattle.mcs_check.proofs.Told.{row-is}
use Rattle.mcs_check.proofs.finder.FinderSink.row.Goals as goal

pub returns : goal.returns
returns g c =
    let held = g.T.Target.contents in
    let failed = g.T.Target.has_failed in
    let row = c.args.row.now in
    let before = c.args.self.now in
    let passed = c.pass.new.self in
    let after = c.take-taken.new.self in
    let p = c.pass.ensures in
    let t = c.take-taken.ensures in
    let e = c.take_line.ensures in
    let lines_are = t.lines ∙ p.lines in (
      e.target ∙ ap (λ l. l.target.ghost_name) lines_are,
      t.seen ∙ p.seen,
      t.show ∙ p.show,
      t.format ∙ p.format,
      t.system ∙ p.system,
      t.allowed ∙ p.allowed,
      λ taken. ok-holds c.take_line.result taken e.working ∙ ap (λ l. failed l.target.now) lines_are,
      λ taken. err-holds c.take_line.result taken e.refused ∙ ap (λ l. failed_after c.take_line.new.self.is_out_of_memory (failed l.target.now)) lines_are,
      λ past watch up.
          let mine : c.pass.new.self.seen.now.watch ≡ watches_of c.pass.new.self.system.now past =
          ap (λ s. s.watch) p.seen_now ∙ watch ∙ ap (λ s. watches_of s.now past) (sym p.system) in
          let told : OnOk c.take-taken.result (c.take-taken.new.self.seen.now.text.items ≡ c.args.self.now.seen.now.text.items
          ++ row_lines c.args.self.now.system.now c.args.self.now.allowed.now c.args.self.now.format c.args.self.now.show past c.args.row.now) =
          ok-then c.take-taken.result (t.told past mine up) (λ raw.
          let here : c.take-taken.new.self.seen.now.text.items ≡ c.pass.new.self.seen.now.text.items
          ++ due_lines c.args.self.now.format c.args.self.now.system.now c.args.self.now.show (all_due (Some c.args.row.now.moment) 0 (chains_of c.args.self.now.system.now past).each)
          ++ told_with c.args.self.now.system.now c.args.self.now.allowed.now c.args.self.now.format c.args.self.now.show past c.args.row.now =
          moved (λ sys flags asked form. c.take-taken.new.self.seen.now.text.items ≡ c.pass.new.self.seen.now.text.items
          ++ due_lines form sys asked (all_due (Some row.moment) 0 (chains_of sys past).each) ++ told_with sys flags form asked past row)
          _ _ _ _ _ _ _ _ (ap (λ b. b.now) p.system) (ap (λ b. b.now) p.allowed) p.show p.format raw in
          here ∙ append_assoc c.pass.new.self.seen.now.text.items (due_lines before.format before.system.now before.show (all_due (Some row.moment) 0 (chains_of before.system.now past).each))
          (told_with before.system.now before.allowed.now before.format before.show past row)
          ∙ ap₂ (λ s l. s.text.items ++ l) p.seen_now (row-is before.format before.system.now before.allowed.now before.show past row)) in (
            λ taken. ok-holds c.take-taken.result (was-ok c.take-taken.result c.take_line.result (λ no. (e.no_memory no).0) taken) (t.kept past mine up)
                ∙ ap (λ s. watches_of s.now (row ∷ past)) p.system,
            subst (λ a. after.seen.now.counts ≡ counted_at before.system.now a.now past row before.seen.now.counts) p.allowed
                (subst (λ s. after.seen.now.counts ≡ counted_at before.system.now passed.allowed.now past row s.counts) p.seen_now
                (subst (λ s. after.seen.now.counts ≡ counted_at s.now passed.allowed.now past row passed.seen.now.counts) p.system (t.counted past mine up))),
            λ horizon table taken.
                let own : c.pass.new.self.seen.now.table ≡ kept_table c.pass.new.self.show c.pass.new.self.system.now horizon past =
                ap (λ s. s.table) p.seen_now ∙ table ∙ ap₂ (λ a s. kept_table a s.now horizon past) (sym p.show) (sym p.system) in
                ok-holds c.take-taken.result (was-ok c.take-taken.result c.take_line.result (λ no. (e.no_memory no).0) taken) (t.tabled past horizon mine up own)
                ∙ ap₂ (λ a s. kept_table a s.now horizon (row ∷ past)) p.show p.system,
            subst (λ l. TakesLine (held l.target.now) (held c.take_line.new.self.target.now) before.seen.now.text.items c.take_line.new.text.items
                (row_lines before.system.now before.allowed.now before.format before.show past row) (is_ok c.take_line.result)) lines_are
                (e.line before.seen.now.text.items (row_lines before.system.now before.allowed.now before.format before.show past row) told),
          ),
    )
