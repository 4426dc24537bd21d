use Rattle.std.proofs.Common.{◌≡◌, replicate, rules}
use Rattle.std.proofs.lemmas.List.{length-replicate}
use Rattle.mcs_notify.specs.stored.Lines.{quiet, no_place}
use Rattle.mcs_notify.proofs.Kept.{new-kept, new-note}
use Rattle.mcs_notify.proofs.notes.Notes.new.Goals as goal

pub invariant_of-result : goal.invariant_of-result
invariant_of-result c =
    let notes : c.in_ok-vec.field-0.items ≡ replicate c.args.notes quiet = c.in_ok-vec.ensures.items_if_clones_equal (search rules) in
    rw notes (new-kept c.args.notes _)

pub returns : goal.returns
returns c =
    let notes : c.in_ok-vec.field-0.items ≡ replicate c.args.notes quiet = c.in_ok-vec.ensures.items_if_clones_equal (search rules) in
    let places : c.in_ok-vec-2.field-0.items ≡ replicate c.args.threads no_place = c.in_ok-vec-2.ensures.items_if_clones_equal (search rules) in
    rw (notes, places) (new-note c.args.notes (replicate c.args.threads no_place) c.args.threads (length-replicate c.args.threads no_place))
