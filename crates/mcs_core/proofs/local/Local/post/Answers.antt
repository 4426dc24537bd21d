use Rattle.std.proofs.Common.{sym}
use Rattle.mcs_core.proofs.local.Local.post.Goals as goal

pub wake-requires-clause-free : goal.wake-requires-clause-free
wake-requires-clause-free g c = rw c.in-Woke.ensures.core (c.requires.free c.in-Woke.thread c.in-Woke.word (sym c.in-Woke.ensures.posted))
