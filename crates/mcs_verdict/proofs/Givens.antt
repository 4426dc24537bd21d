-- A finder that was given rows has found what they tell.
use Rattle.std.proofs.Common.{[], ◌∷◌, ◌++◌, sym, ap, ◌∙◌, append_assoc}
use Rattle.std.proofs.lemmas.List.{append-nil}
use Rattle.mcs_verdict.specs.declared.finder.Finder.{Finder}
use Rattle.mcs_verdict.specs.Findings.{found_in}
use Rattle.mcs_verdict.specs.Found.{told_by}
use Rattle.mcs_verdict.specs.laws.Given.{GivenAreFound}

pub given_to_a_finder : GivenAreFound
given_to_a_finder system past [] before after g order is =
    (ap (λ (f : Finder). f.watch) (sym g) ∙ is, ap (λ (f : Finder). f.found.items) (sym g) ∙ sym (append-nil before.found.items))
given_to_a_finder system past (r ∷ rows) before after g order is =
    let seen = g.1 system past is order.0 in
    let rest = given_to_a_finder system (r ∷ past) rows g.0 after g.2 order.1 seen.0 in (
      rest.0,
      rest.1 ∙ ap (λ found. found ++ found_in system (r ∷ past) rows) seen.1
          ∙ append_assoc before.found.items (told_by system past r) (found_in system (r ∷ past) rows),
    )
