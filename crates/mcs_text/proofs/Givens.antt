-- Lines that were given rows, and the starts of their times.
use Rattle.std.proofs.Common.{◌≡◌, List, [], ◌∷◌, ◌++◌, refl, sym, ap, ◌∙◌, append-nil, append_assoc}
use Rattle.std.specs.Prelude.{fold}
use Rattle.mcs_ticks.specs.declared.row.Row.{Row}
use Rattle.mcs_ticks.specs.Given.{Given}
use Rattle.mcs_text.specs.Text.{row_text, schedule_text}
use Rattle.mcs_text.specs.Lines.{Lines, with_row, TakesLine, GivenAreLines}

pub given_to_lines : (before after : Lines) (rows : List Row) → Given TakesLine before rows after → after ≡ fold with_row before rows
given_to_lines before after [] g = sym g
given_to_lines before after (row ∷ rows) g =
    given_to_lines g.0 after rows g.2 ∙ ap (λ lines. fold with_row lines rows) g.1

pub system_kept : (lines : Lines) (rows : List Row) → (fold with_row lines rows).system ≡ lines.system
system_kept lines [] = refl
system_kept lines (row ∷ rows) = system_kept (with_row lines row) rows

pub bytes_grown : (lines : Lines) (rows : List Row) → (fold with_row lines rows).bytes ≡ lines.bytes ++ schedule_text lines.system rows
bytes_grown lines [] = sym (append-nil lines.bytes)
bytes_grown lines (row ∷ rows) =
    bytes_grown (with_row lines row) rows ∙ append_assoc lines.bytes (row_text lines.system row) (schedule_text lines.system rows)

pub given_are_lines : GivenAreLines
given_are_lines before after rows g =
    let is = given_to_lines before after rows g in
    (is, ap (λ (lines : Lines). lines.system) is ∙ system_kept before rows, ap (λ (lines : Lines). lines.bytes) is ∙ bytes_grown before rows)
