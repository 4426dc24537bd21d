-- The lines hold each further row that they take.
use Rattle.std.specs.Prelude.{List, [], ◌∷◌, ◌++◌, true}
use Rattle.std.proofs.Common.{◌∙◌, ap, sym, subst, arith, length-append}
use Rattle.std.proofs.lemmas.List.Sums.{fold-append}
use Rattle.mcs_ticks.specs.declared.row.Row.{Row}
use Rattle.mcs_text.specs.Lines.{no_lines, with_row}
use Rattle.mcs_text.specs.Told.{ToldLines, TakesTold, HoldsTold}

pub told_more : (before after : ToldLines) (held : List Row) (r : Row) → HoldsTold before held → TakesTold before r true after → HoldsTold after (held ++ r ∷ [])
told_more before after held r h taken =
    subst (λ told. HoldsTold told (held ++ r ∷ [])) (sym taken)
    (record {
      lines = ap (λ lines. with_row lines r) h.lines ∙ sym (fold-append with_row (no_lines before.lines.system) held (r ∷ []));
      many = (let many = h.many in omega (arith, length-append held (r ∷ [])));
    })
