use Rattle.std.proofs.Common.{◌≡◌, ◌∙◌, Bool, true, false, Option, Some, None, [], ap, sym, refl, codes}
use Rattle.std.specs.Prelude.{unwrap_or}
use Rattle.std.specs.Str.{bytes_eq}
use Rattle.std.specs.Str.Parse.{ParsesBool}
use Rattle.std.proofs.lemmas.Bool.{false_from_ne_true}
use Rattle.std.proofs.lemmas.Slice.Eq.{bytes_eq-Decides}
use Rattle.clap.specs.Words.{ReadsOne, Text, found_of, one_of, rows_of}
use Rattle.clap.proofs.WalkLemmas.{one_text-rows}
use Rattle.mcs_check_words.proofs.words.is_set.Goals as goal

-- a text reads as true if it is `true`; no text and any other read as false
read : (E : Type 0) (t : Option Text) (r : Option Bool) → (t ≡ None → r ≡ None) → ((u : Text) → t ≡ Some u → ReadsOne (ParsesBool {E = E}) u r)
    → unwrap_or r false ≡ bytes_eq (unwrap_or t []) (codes "true")
read E None r none some = ap (λ o. unwrap_or o false) (none refl)
read E (Some u) (Some true) none some = ap (λ x. bytes_eq x (codes "true")) (sym (some u refl))
read E (Some u) (Some false) none some = ap (λ x. bytes_eq x (codes "true")) (sym (some u refl))
read E (Some u) None none some =
    sym (false_from_ne_true _ (λ same. (some u refl).1.0 ((bytes_eq-Decides u (codes "true")).0 same)))

pub returns : goal.returns
returns c =
    let found = found_of c.args.matches.now in
    let text = one_text-rows found c.args.id.now in
    let value = c.get_one.ensures in
    c.unwrap_or.ensures ∙ read _ (one_of c.args.id.now (rows_of found)) c.get_one.result (λ none. value.none (text ∙ none)) (λ u some. value.value u (text ∙ some))
