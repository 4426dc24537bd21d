use Rattle.std.proofs.Common.{◌∙◌, codes, Some, ap}
use Rattle.clap.specs.Words.{found_of}
use Rattle.clap.proofs.WalkLemmas.{first_value-rows}
use Rattle.mcs_words.proofs.words.file_of.Goals as goal

pub returns-in_ok-from_str-in-Some : goal.returns-in_ok-from_str-in-Some
returns-in_ok-from_str-in-Some c =
    let e = first_value-rows (found_of c.args.matches.now) (codes "FILE") in
    ap (λ t. Some t) c.in_ok-from_str-in-Some.ensures.ok ∙ (c.in-Some.ensures ∙ e)

pub returns-in-None : goal.returns-in-None
returns-in-None c =
    let e = first_value-rows (found_of c.args.matches.now) (codes "FILE") in
    c.in-None.ensures ∙ e
