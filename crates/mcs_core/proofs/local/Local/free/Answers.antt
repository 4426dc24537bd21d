use Rattle.std.proofs.Common.{sym}
use Rattle.mcs_core.proofs.local.Local.free.Goals as goal

pub let_in-requires-clause-free : goal.let_in-requires-clause-free
let_in-requires-clause-free g c = rw c.in-Woke.ensures.core (c.requires.free c.in-Woke.thread c.in-Woke.word (sym c.in-Woke.ensures.posted))
