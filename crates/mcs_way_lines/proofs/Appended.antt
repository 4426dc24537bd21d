-- Words that are appended one after another.
use Rattle.std.proofs.Common.{◌≡◌, ◌∙◌, ◌++◌, ◌∷◌, [], ℕ, List, refl, ap, sym, append_assoc}
use Rattle.mcs_text.specs.Text.{after}

after-append : (xs ys : List (List ℕ)) → after (xs ++ ys) ≡ after xs ++ after ys
after-append [] ys = refl
after-append (x ∷ xs) ys =
    ap (λ l. 32 ∷ (x ++ l)) (after-append xs ys) ∙ ap (λ l. 32 ∷ l) (sym (append_assoc x (after xs) (after ys)))
