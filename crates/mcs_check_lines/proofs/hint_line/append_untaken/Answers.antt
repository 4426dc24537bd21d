use Rattle.std.proofs.Common.{◌∷◌, [], ◌++◌, codes}
use Rattle.std.proofs.lemmas.Result.{on_ok_weaker}
use Rattle.mcs_text.specs.Text.{counted}
use Rattle.mcs_check_lines.proofs.Words.{then-word, then-words}
use Rattle.mcs_check_lines.proofs.hint_line.append_untaken.Goals as goal

pub returns-clause-ok : goal.returns-clause-ok
returns-clause-ok c =
    let posts = c.args.posts.now ∷ c.args.note.now ∷ [] in
    let badge = counted ((codes "with badge", c.args.badge) ∷ []) in
    let counts = rw (c.from.ensures) at c.in_ok-append_counts.ensures.ok in
    on_ok_weaker c.append_word.result (λ last. then-word _ _ _ (codes "and no handler takes it") (posts ++ badge)
    (then-words _ _ _ posts badge c.in_ok-append_named.ensures.ok counts) last)
    c.append_word.ensures.ok
