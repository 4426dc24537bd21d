use Rattle.std.proofs.Common.{◌≡◌, ◌∙◌, sym, subst, ◌≤◌}
use Rattle.std.specs.Str.Parse.{ExplainsUnsignedError, HasUnsignedDigitsIfOk, ParsesUnsigned, digits_value, without_leading_plus}
use Rattle.clap.specs.Words.{found_of}
use Rattle.clap.proofs.WalkLemmas.{one_text-rows}
use Rattle.mcs_words.proofs.Read.{number_at, number_read}
use Rattle.mcs_words.proofs.words.number_of.Goals as goal

is_number : (c : goal.After-unwrap_or) → c.unwrap_or.result ≡ digits_value 10 (without_leading_plus c.requires.0)
is_number c =
    let found = found_of c.args.matches.now in
    let t = c.requires.0 in
    let reads = c.get_one.ensures.value t (one_text-rows found c.args.id.now ∙ c.requires.2) in
    let read = number_read _ (λ bs r. ParsesUnsigned 64 10 bs r × ExplainsUnsignedError 10 bs r × HasUnsignedDigitsIfOk bs r) _ _ t c.get_one.result reads (λ u x g. g.0) c.requires.3 in
    rw read at c.unwrap_or.ensures

pub returns-clause-value : goal.returns-clause-value
returns-clause-value c = is_number c ∙ sym (number_at c.args.id.now c.requires.0 _ c.requires.1)

pub returns-clause-in_range : goal.returns-clause-in_range
returns-clause-in_range c = (subst (λ n. c.args.least ≤ n) (sym (is_number c)) c.requires.3.2, subst (λ n. n ≤ c.args.most) (sym (is_number c)) c.requires.3.3)
