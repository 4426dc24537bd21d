-- The texts of the three calls, one after the other. The list of hints is long when it is unfolded, so no search looks at it.
use Rattle.std.proofs.Common.{rules, ◌≡◌, ◌∙◌, ◌++◌, ℕ, List, Result, Ok, Err, OnOk, ap, append_assoc, subst}
use Rattle.mcs_check_lines.specs.Formats.{counts_line}
use Rattle.mcs_check.specs.declared.all_found.AllFound.{AllFound}
use Rattle.mcs_check.specs.stored.AllFound.{checked_of}
use Rattle.mcs_check.specs.stored.Rows.{rest_lines, tabled_lines}
use Rattle.mcs_check.proofs.rest.put_rest.Goals as goal

one-behind-the-other : {A E : Type 0} (r : Result A E) (first second third last a b d : List ℕ) → second ≡ first ++ a → third ≡ second ++ b
    → OnOk r (last ≡ third ++ d) → OnOk r (last ≡ first ++ (a ++ (b ++ d)))
one-behind-the-other (Ok x) first second third last a b d e f h =
    h ∙ ap (λ t. t ++ d) (f ∙ ap (λ t. t ++ b) e) ∙ append_assoc (first ++ a) b d ∙ append_assoc first a (b ++ d)
one-behind-the-other (Err x) first second third last a b d e f h = h

pub returns-clause-text : goal.returns-clause-text
returns-clause-text c past kept up =
    let how = c.args.options.now.format in
    let asked = c.args.options.now.show in
    let system = c.args.system.now in
    let old = c.args.all.now in
    let ended = c.put_ends.new.all in
    let rest = rest_lines how asked system c.args.allowed.now old.due.items old.unended.items old.unanswered.items old.unjudged.items in
    let tabled = tabled_lines how asked system c.args.options.now.horizon past in
    let checked = checked_of system (record ended { counts = c.hint.new.self; text = c.put_counts_as.new.text }) in
    let first : ended.text.items ≡ old.text.items ++ rest = c.in_ok-put_ends.ensures.text in
    let second : c.put_tabled.new.text.items ≡ ended.text.items ++ tabled =
    c.in_ok-put_tabled.ensures past (ap (λ (a : AllFound). a.kept) c.put_ends.ensures.others ∙ kept) up in
    let is : c.checked_of-checked.result ≡ checked = c.checked_of-checked.ensures in
    let told : OnOk c.put_counts_as.result (c.put_counts_as.new.text.items ≡ c.put_tabled.new.text.items ++ counts_line how c.checked_of-checked.result) = c.put_counts_as.ensures.ok in
    let done : OnOk c.put_counts_as.result (c.put_counts_as.new.text.items ≡ old.text.items ++ (rest ++ (tabled ++ counts_line how checked))) =
    one-behind-the-other c.put_counts_as.result old.text.items ended.text.items c.put_tabled.new.text.items c.put_counts_as.new.text.items rest tabled (counts_line how checked)
    first second (subst (λ k. OnOk c.put_counts_as.result (c.put_counts_as.new.text.items ≡ c.put_tabled.new.text.items ++ counts_line how k)) is told) in
    search rules
