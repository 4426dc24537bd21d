use Rattle.std.proofs.Common.{codes}
use Rattle.mcs_check_lines.specs.Lines.{chain_count_words, counts_words}
use Rattle.mcs_check_lines.proofs.Words.{then-line}
use Rattle.mcs_check_lines.proofs.line.append_checked.Goals as goal

pub returns-clause-ok : goal.returns-clause-ok
returns-clause-ok c =
    let checked = c.args.checked.now in
    then-line _ _ _ _ _ (codes "missed") (counts_words checked.counts checked.scope) (chain_count_words checked.chains)
    c.in_ok-extend_from_slice.ensures.items c.in_ok-append_totals.ensures.ok c.in_ok-append_chain_counts.ensures.ok c.in_ok-push.ensures.items
