use Rattle.std.proofs.Common.{◌≡◌, length, replicate, ap, sym, ◌∙◌, rules}
use Rattle.mcs_ever.specs.Marks.{no_mark}
use Rattle.mcs_ever.proofs.Marking.{marks-first}
use Rattle.mcs_ever.proofs.marks.Marks.new.Goals as goal

pub returns : goal.returns
returns c =
    let items : c.in_ok-marks.marks.items ≡ replicate c.len.result c.none.result = search rules in
    let many : c.len.result ≡ length c.args.system.now.threads = search rules in
    items ∙ ap (replicate c.len.result) c.none.ensures ∙ ap (λ n. replicate n no_mark) many ∙ sym (marks-first c.args.system.now)
