use Rattle.std.proofs.Common.{◌≡◌, ◌<◌, List, length, map, ap, ◌∙◌, arith}
use Rattle.std.specs.Arc.{arc_value}
use Rattle.std.proofs.lemmas.List.{with_items_is}
use Rattle.mcs_report.specs.declared.account.Account.{Account}
use Rattle.mcs_report.specs.Places.{place_on}
use Rattle.mcs_report.specs.Tally.{told_at}
use Rattle.mcs_report.specs.CoreTally.{CoreTally, core_added}
use Rattle.mcs_report.specs.stored.CoreTally.{reopened}
use Rattle.mcs_report.proofs.OnCore.{accounts-within, told-reopened}
use Rattle.mcs_report.proofs.core_tally.CoreTally.add.Goals as goal

pub tell-requires : goal.tell-requires
tell-requires c = λ x place e.
    let within : place < length c.self.inside.accounts.items =
    accounts-within (arc_value c.self.inside.own.places) c.self.inside.own.core c.self.inside.accounts.items c.self.invariant x place e in
    let long : length c.as_mut_slice.result.now ≡ length c.self.inside.accounts.items = ap length c.as_mut_slice.ensures.value in
    omega (arith, within, long)

pub invariant_of-self : goal.invariant_of-self
invariant_of-self c =
    let place = place_on (arc_value c.self.inside.own.places) c.self.inside.own.core in
    ap (map reopened)
    (with_items_is c.self.inside.accounts c.tell.new.accounts (c.tell.auto.accounts ∙ c.as_mut_slice.ensures.len)
    ∙ c.tell.ensures
    ∙ ap (told_at place c.self.inside.horizon c.args.row.now.moment c.args.row.now.what) c.as_mut_slice.ensures.value)
    ∙ told-reopened place c.self.inside.horizon c.args.row.now.moment c.args.row.now.what c.self.inside.accounts.items
    ∙ c.self.invariant

pub returns : goal.returns
returns c =
    let place = place_on (arc_value c.self.inside.own.places) c.self.inside.own.core in
    ap (λ (accounts : List Account). record { system = arc_value c.self.inside.own.places; core = c.self.inside.own.core; horizon = c.self.inside.horizon; accounts = accounts })
    (with_items_is c.self.inside.accounts c.tell.new.accounts (c.tell.auto.accounts ∙ c.as_mut_slice.ensures.len)
    ∙ c.tell.ensures
    ∙ ap (told_at place c.self.inside.horizon c.args.row.now.moment c.args.row.now.what) c.as_mut_slice.ensures.value)
    ∙ ap (λ (tally : CoreTally). core_added tally c.args.row.now) c.self.view_is
