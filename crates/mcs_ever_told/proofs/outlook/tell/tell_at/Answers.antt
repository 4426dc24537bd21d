use Rattle.std.proofs.Common.{ℕ, ◌<◌, [], length, get_or, Option, None, sym, subst, arith, rules}
use Rattle.std.specs.Prelude.{IfSome}
use Rattle.mcs_ever_told.specs.Outlook.{IsTold}
use Rattle.mcs_ever_told.specs.declared.outlook.sets.Group.{Group}
use Rattle.mcs_ever_told.specs.declared.outlook.told.Told.{Told}
use Rattle.mcs_ever_told.proofs.Places.{written, same-at}
use Rattle.mcs_ever_told.proofs.outlook.tell.tell_at.Goals as goal

pub tell_one-requires-clause-closed : goal.tell_one-requires-clause-closed
tell_one-requires-clause-closed c =
    let within : c.args.place < length c.args.groups.now = search rules in
    c.requires.closed c.args.place (record { set = []; own = [] }) within

pub returns : goal.returns
returns c = λ horizon before k d l.
    let s = c.args.look.now.system.now in
    let al = c.args.look.now.allowed.now in
    let groups = c.args.groups.now in
    let i = c.args.place in
    let g : Group = record { set = []; own = [] } in
    let P : ℕ → Option Told → Type 0 = λ i one. IfSome one (IsTold s al horizon (get_or groups i d).set (get_or groups i d).own) in
    let there : i < length groups = search rules in
    let within : i < length c.args.told.now = omega (arith, c.requires.many, there) in
    let O : Option Told → Type 0 = λ one. IfSome one (IsTold s al horizon (get_or groups i g).set (get_or groups i g).own) in
    let G : Group → Type 0 = λ group. IfSome c.tell_one.new.told (IsTold s al horizon group.set group.own) in
    let old = subst O (sym (same-at c.args.told.now i c.index-told-place.result None within)) (before i g there) in
    let here = subst G (same-at groups i g d there) (c.tell_one.ensures horizon old) in
    written P None c.args.told.now i c.tell_one.new.told within k (λ other. before k d l) here
