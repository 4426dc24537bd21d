use Rattle.std.proofs.Common.{◌≡◌, ◌<◌, [], ap, arith, rules}
use Rattle.mcs_window.specs.declared.turns.Turns.{Turns}
use Rattle.mcs_window.proofs.turns.Turns.take_and_deliver.Goals as goal

pub offset_bounds-boxes-self-inside : goal.offset_bounds-boxes-self-inside
offset_bounds-boxes-self-inside g c =
    let known = (c.requires.may (record { mails = []; spare = 0 })).known in
    let core : c.self.inside.0.1.0.0 ≡ c.args.self.now.core = ap (λ (t : Turns). t.core) c.self.view_is in
    let few = c.requires.well_formed.limits.cores.1 in
    let small : c.self.inside.0.1.0.0 < 64 = omega arith in
    search rules

pub bounds-boxes-self-inside : goal.bounds-boxes-self-inside
bounds-boxes-self-inside g c =
    let known = (c.requires.may (record { mails = []; spare = 0 })).known in
    let core : c.self.inside.0.1.0.0 ≡ c.args.self.now.core = ap (λ (t : Turns). t.core) c.self.view_is in
    let many = c.requires.many in
    omega arith
