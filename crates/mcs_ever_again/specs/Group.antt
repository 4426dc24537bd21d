-- The signals for a group of cores, which has a yes or a no for each core.
use Rattle.std.specs.Prelude.{◌≡◌, ℕ, Bool, false, List, map, filter, get_or}
use Rattle.mcs_mail.specs.declared.mail.Mail.{Mail}
use Rattle.mcs_system.specs.System.{System}
use Rattle.mcs_ever.specs.Later.{later_mail}
use Rattle.mcs_ever.specs.Recurs.{is_for}

module _ (system : System) (group : List Bool) where
  abbrev pub is_for_group : Mail → Bool
  is_for_group mail = is_for system (λ core. get_or group core false) mail

  abbrev pub for_group : List Mail → List Mail
  for_group mails = filter is_for_group mails

  -- the signals for the group are the earlier ones, `by` ticks later
  abbrev pub AreLater : ℕ → List Mail → List Mail → Type 0
  AreLater by before after = for_group after ≡ map (later_mail by) (for_group before)
