use Rattle.std.proofs.Common.{rules, ◌≡◌, ◌∙◌, true, refl, subst, is_ok}
use Rattle.mcs_cli.specs.Flow.{TakesLine}
use Rattle.mcs_why_lines.specs.Rows.{row_line}
use Rattle.mcs_check_run.proofs.Results.{err-holds, ok-holds}
use Rattle.mcs_explain.proofs.Spans.{line-within, shown-is}
use Rattle.mcs_explain.proofs.teller.TellerSink.row.Goals as goal

pub returns : goal.returns
returns g c =
    let held = g.T.Target.contents in
    let row = c.args.row.now in
    let before = c.args.self.now in (
      c.take_line.ensures.target,
      refl,
      refl,
      refl,
      λ taken. ok-holds c.take_line.result taken c.take_line.ensures.working,
      λ taken. err-holds c.take_line.result taken c.take_line.ensures.refused,
      λ threads core from to past account up.
          let shown : c.see.result ≡ true = search rules in
          let within = shown-is _ threads core from to past row _ account c.see.ensures.shown ∙ shown in (
            c.see.ensures.kept threads core from to past account up,
            subst (λ l. TakesLine (held before.lines.target.now) (held c.take_line.new.self.target.now) before.told.now.text.items c.take_line.new.text.items l (is_ok c.take_line.result))
                (line-within before.format before.system.now core from to row within)
                (c.take_line.ensures.line before.told.now.text.items (row_line before.format before.system.now row) c.put_row_as-appended.ensures.ok),
          ),
    )
