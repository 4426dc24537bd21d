use Rattle.std.proofs.Common.{◌≡◌, false, refl, rules}
use Rattle.mcs_window.specs.Desk.{AllAreHere}
use Rattle.mcs_team.proofs.shared_desk.SharedDesk.parts.Goals as goal

pub returns-clause-whole : goal.returns-clause-whole
returns-clause-whole g c =
    let sound : c.args.self.desk.lost ≡ false = search rules in
    let here : AllAreHere c.args.self.desk = c.if-not-all_are_here.ensures.0 refl in
    (sound, here)
