-- Two stores of signals, compared from a place in each.
use Rattle.std.proofs.Common.{ℕ, Bool, List}
use Rattle.std.specs.Prelude.{◌↔◌}
use Rattle.mcs_mail.specs.declared.mail.Mail.{Mail}
use Rattle.mcs_system.specs.System.{System}
use Rattle.mcs_ever_again.specs.Group.{for_group, AreLater}
use Rattle.mcs_ever_again.specs.stored.Store.{left, left_from}
use Rattle.mcs_ever_again.specs.declared.under_way.store.Store.{Store}

module _ (system : System) (group : List Bool) where
  -- the signals for the group that are left from this place on
  abbrev pub rest : Store → ℕ → List Mail
  rest store place = for_group system group (left_from store place)

  -- the signals are later exactly if they are from these places on
  abbrev pub IsSo : ℕ → Store → Store → ℕ → ℕ → Type 0
  IsSo by before after i k =
      AreLater system group by (left_from before i) (left_from after k) ↔ AreLater system group by (left before) (left after)
