-- Words that are appended one after another.
use Rattle.std.proofs.Common.{◌≡◌, ◌∙◌, ◌++◌, ◌∷◌, [], ℕ, List, codes, refl, ap, sym, append_assoc, append-nil}
use Rattle.mcs_text.specs.Text.{after, line}

after-append : (xs ys : List (List ℕ)) → after (xs ++ ys) ≡ after xs ++ after ys
after-append [] ys = refl
after-append (x ∷ xs) ys =
    ap (λ l. 32 ∷ (x ++ l)) (after-append xs ys) ∙ ap (λ l. 32 ∷ l) (sym (append_assoc x (after xs) (after ys)))

-- words behind words
pub then-words : (old now last : List ℕ) (xs ys : List (List ℕ)) → now ≡ old ++ after xs → last ≡ now ++ after ys → last ≡ old ++ after (xs ++ ys)
then-words old now last xs ys before more =
    more ∙ ap (λ l. l ++ after ys) before ∙ append_assoc old (after xs) (after ys) ∙ ap (λ l. old ++ l) (sym (after-append xs ys))

-- a first word, words behind it in two parts, and a line feed
pub then-line : (old first now last all word : List ℕ) (xs ys : List (List ℕ)) → first ≡ old ++ word → now ≡ first ++ after xs → last ≡ now ++ after ys
    → all ≡ last ++ 10 ∷ [] → all ≡ old ++ line word (xs ++ ys)
then-line old first now last all word xs ys begun before more ended =
    let words = after (xs ++ ys) in
    ended ∙ ap (λ l. l ++ 10 ∷ []) (then-words first now last xs ys before more ∙ ap (λ l. l ++ words) begun)
    ∙ append_assoc (old ++ word) words (10 ∷ []) ∙ append_assoc old word (words ++ 10 ∷ [])
    ∙ ap (λ l. old ++ l) (sym (append_assoc word words (10 ∷ [])))

-- a word behind words
pub then-word : (old now last word : List ℕ) (xs : List (List ℕ)) → now ≡ old ++ after xs → last ≡ now ++ 32 ∷ word → last ≡ old ++ after (xs ++ word ∷ [])
then-word old now last word xs before more =
    then-words old now last xs (word ∷ []) before (more ∙ ap (λ l. now ++ 32 ∷ l) (sym (append-nil word)))

-- a word, and a name with a colon
pub with-colon : (old now last word name : List ℕ) → now ≡ old ++ after (word ∷ name ∷ []) → last ≡ now ++ 58 ∷ []
    → last ≡ old ++ after (word ∷ (name ++ codes ":") ∷ [])
with-colon old now last word name before more =
    more ∙ ap (λ l. l ++ 58 ∷ []) before ∙ append_assoc old (after (word ∷ name ∷ [])) (58 ∷ [])
    ∙ ap (λ l. old ++ 32 ∷ l) (append_assoc word (32 ∷ (name ++ [])) (58 ∷ [])
    ∙ ap (λ l. word ++ 32 ∷ l) (append_assoc name [] (58 ∷ []) ∙ sym (append-nil (name ++ 58 ∷ []))))
