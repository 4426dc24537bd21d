-- The values of fields, as the code has them and as the definitions do.
use Rattle.std.proofs.Common.{◌≡◌, ◌∙◌, ◌∷◌, [], List, ap, map, refl}
use Rattle.std.specs.Borrow.{Bor}
use Rattle.mcs_fields.specs.declared.cell.Cell.{Cell}
use Rattle.mcs_fields.specs.Fields.{Text, field_of, value_of}
use Rattle.mcs_check_lines.specs.Fields.{Fields}

values-of : (cells : List (Bor Text × Cell)) → map (λ f. value_of f.1) cells ≡ map (λ f. f.1) (map field_of cells)
values-of [] = refl
values-of (cell ∷ cells) = ap (λ values. value_of cell.1 ∷ values) (values-of cells)

pub values-are : (cells : List (Bor Text × Cell)) (fields : Fields) → map field_of cells ≡ fields
    → map (λ f. value_of f.1) cells ≡ map (λ f. f.1) fields
values-are cells fields are = values-of cells ∙ ap (map (λ f. f.1)) are
