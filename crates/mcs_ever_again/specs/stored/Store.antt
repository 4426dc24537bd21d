-- The signals that `UnderWay` stores.
use Rattle.std.specs.Prelude.{ℕ, List, drop, filter}
use Rattle.mcs_mail.specs.declared.mail.Mail.{Mail}
use Rattle.mcs_ever_again.specs.UnderWay.{arrives_from}
use Rattle.mcs_ever_again.specs.declared.under_way.store.Store.{Store}

-- the signals from a place on that are left
abbrev pub left_from : Store → ℕ → List Mail
left_from store place = filter (arrives_from store.from) (drop place store.mails.items)

-- all signals that are left
abbrev pub left : Store → List Mail
left store = filter (arrives_from store.from) store.mails.items
