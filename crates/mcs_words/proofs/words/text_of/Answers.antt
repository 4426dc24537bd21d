use Rattle.std.proofs.Common.{◌≡◌, ◌∙◌, List, ℕ, [], Option, Some, None, option_map, ap, refl}
use Rattle.std.specs.Prelude.{unwrap_or}
use Rattle.std.specs.Borrow.{Bor}
use Rattle.clap.specs.Words.{found_of}
use Rattle.clap.proofs.WalkLemmas.{first_value-rows}
use Rattle.mcs_words.proofs.words.text_of.Goals as goal

now-unwrap_or : (o : Option (Bor (List ℕ))) (d r : Bor (List ℕ)) → r ≡ unwrap_or o d → d.now ≡ []
    → r.now ≡ unwrap_or (option_map (λ s. s.now) o) []
now-unwrap_or (Some s) d r is empty = ap (λ s. s.now) is
now-unwrap_or None d r is empty = ap (λ s. s.now) is ∙ empty

pub returns : goal.returns
returns c =
    let first = c.get_str.ensures ∙ first_value-rows (found_of c.args.matches.now) c.args.id.now in
    now-unwrap_or c.get_str.result _ _ c.unwrap_or.ensures refl ∙ ap (λ o. unwrap_or o []) first
