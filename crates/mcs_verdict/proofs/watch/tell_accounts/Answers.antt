use Rattle.std.proofs.Common.{◌≡◌, Some, refl, sym, ap, ◌∙◌, arith}
use Rattle.mcs_verdict.specs.Account.{subject}
use Rattle.mcs_verdict.proofs.Watches.{accounts_told, accounts_untold, accounts_unseen}
use Rattle.mcs_verdict.proofs.watch.tell_accounts.Goals as goal

pub returns-then-thread-accounts : goal.returns-then-thread-accounts
returns-then-thread-accounts c firsts parts past e w up =
    let about : subject c.args.row.now.what ≡ Some c.thread.inside.0 = sym c.subject.ensures ∙ c.in-Some.is ∙ ap Some (sym c.thread.view_is) in
    accounts_told firsts c.thread.inside.0 _ parts c.args.row.now past c.args.accounts.now c.see.new.self _ _ e about refl up
    (omega (arith, c.get.ensures.value, c.get.ensures.in_range)) (c.see.ensures firsts past w)

pub returns-else-thread-accounts : goal.returns-else-thread-accounts
returns-else-thread-accounts c firsts parts past e w up =
    let about : subject c.args.row.now.what ≡ Some c.thread.inside.0 = sym c.subject.ensures ∙ c.in-Some.is ∙ ap Some (sym c.thread.view_is) in
    accounts_untold firsts c.thread.inside.0 parts c.args.row.now past c.args.accounts.now e about up c.if-thread-accounts.false

pub returns-in_default : goal.returns-in_default
returns-in_default c firsts parts past e w up =
    e ∙ sym (accounts_unseen firsts parts c.args.row.now past (sym c.subject.ensures ∙ c.in_default.is))
