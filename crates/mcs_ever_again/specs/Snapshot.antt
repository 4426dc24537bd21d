-- A whole system before one moment.
use Rattle.std.specs.Prelude.{◌≡◌, ℕ, List, map}
use Rattle.mcs_mail.specs.declared.mail.Mail.{Mail}
use Rattle.mcs_system.specs.System.{System}
use Rattle.mcs_core.specs.Core.{Core}
use Rattle.mcs_core.specs.Clock.{core_shown, world}
use Rattle.mcs_laws.specs.Turns.{cores}

-- all cores before a moment, and the signals under way between them
pub record Snapshot : Type 0 where
  pub moment : ℕ
  pub each : List Core
  pub mails : List Mail

-- the snapshot is the clock's state before that moment, each core as its state shows it
pub record IsOfClock (system : System) (snapshot : Snapshot) : Type 0 where
  pub each : snapshot.each ≡ map (core_shown system (world system snapshot.moment)) (cores system)
  pub mails : snapshot.mails ≡ (world system snapshot.moment).mails
