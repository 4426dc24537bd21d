-- A row that moves no origin of the chain leaves all as it is.
use Rattle.std.proofs.Common.{◌≡◌, ◌∙◌, true, ap, sym}
use Rattle.std.specs.Prelude.{◌&&◌}
use Rattle.mcs_chain.specs.Watch.{One, one_of}
use Rattle.mcs_chain.specs.stored.Still.{are_apart, is_still}
use Rattle.mcs_chain.proofs.Apart.{first-of, one-stays, second-of}
use Rattle.mcs_chain.proofs.one.One.see.Goals as goal

pub returns-then-is_apart : goal.returns-then-is_apart
returns-then-is_apart c = λ system past e moves_are.
    let chain = c.args.chain.now in
    let moved = c.args.moved.now in
    let both : (is_still (one_of system chain past) && are_apart chain moved (one_of system chain past).origins) ≡ true =
    ap (λ (one : One). is_still one && are_apart chain moved one.origins) (sym e) ∙ sym c.if-is_apart.ensures in
    e ∙ one-stays system past c.args.row.now chain moved moves_are (first-of _ _ both) (second-of _ _ both)
