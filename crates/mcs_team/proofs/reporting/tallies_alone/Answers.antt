use Rattle.std.proofs.Common.{◌≡◌, refl, sym, subst, rules}
use Rattle.mcs_team.specs.Counts.{AreWhole}
use Rattle.mcs_team.proofs.Tallies.{tallies_of, tallies-whole}
use Rattle.mcs_team.proofs.reporting.tallies_alone.Goals as goal

pub returns : goal.returns
returns g c =
    let told = c.into_told-told.result.items in
    let are : c.in_ok-tallies.tallies.items ≡ tallies_of told (λ own. own.tally) = search rules in
    let places = (rw c.as_slice.ensures.value at c.if-not-are_in_place.ensures) refl in
    subst (AreWhole g.B.Run.system g.B.Run.horizon) (sym are)
    (tallies-whole told (λ own. own.tally) c.args.desk g.B.Run.system g.B.Run.horizon c.requires.run.0 c.requires.run.1 c.requires.finished c.requires.first
    c.into_told-told.ensures.many_are (λ k x l. (c.into_told-told.ensures.each k x l).0) places (λ own. own.ours.0) (λ own. own.ours.2))
