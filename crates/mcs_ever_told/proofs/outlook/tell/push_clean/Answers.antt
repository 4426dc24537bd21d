use Rattle.std.proofs.Common.{◌≡◌, ◌≢◌, ◌++◌, Bool, List, [], ◌∷◌, length, refl, sym, ap, ◌∙◌, append-nil, arith}
use Rattle.mcs_ever_told.specs.declared.line.Line.{Line}
use Rattle.mcs_ever_told.specs.Lines.{clean_lines}
use Rattle.mcs_ever_told.proofs.outlook.tell.push_clean.Goals as goal

-- the set is not clean if there is a finding
not-clean : (set : List Bool) (found : List Line) → length found ≢ 0 → clean_lines set found ≡ []
not-clean set [] none = absurd (none refl)
not-clean set (l ∷ found) none = refl

pub returns-then-findings-ne0 : goal.returns-then-findings-ne0
returns-then-findings-ne0 c = λ found many.
    let some : c.args.findings ≢ 0 = omega arith in
    let lines = c.args.lines.now.items in
    sym (append-nil lines) ∙ ap (λ (more : List Line). lines ++ more) (sym (not-clean c.args.set.now found (λ none. some (many ∙ none))))
