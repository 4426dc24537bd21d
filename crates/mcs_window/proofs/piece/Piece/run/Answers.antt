use Rattle.std.proofs.Common.{[]}
use Rattle.mcs_window.proofs.piece.Piece.run.Goals as goal

pub with-requires : goal.with-requires
with-requires c =
    let is = c.in_ok-done.ensures.done in
    rw (is.system, is.core, is.first, is.past) (c.in_ok-done.ensures.told [] c.in-Ok.ensures.items)
