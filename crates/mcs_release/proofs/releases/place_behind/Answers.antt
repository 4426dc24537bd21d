use Rattle.std.proofs.Common.{arith}
use Rattle.mcs_release.proofs.Kept.{AreEmptyFrom-lone, entered-lone}
use Rattle.mcs_release.proofs.releases.place_behind.Goals as goal

pub returns-in-Some-clause-entered : goal.returns-in-Some-clause-entered
returns-in-Some-clause-entered c =
    rw c.put.ensures.put (entered-lone _ _ _ c.requires.alone c.in-Some.is (omega (arith, c.requires.enough.two)))

pub returns-in-Some-clause-behind : goal.returns-in-Some-clause-behind
returns-in-Some-clause-behind c = rw c.put.ensures.put (AreEmptyFrom-lone _ _ _ c.requires.alone c.in-Some.is)
