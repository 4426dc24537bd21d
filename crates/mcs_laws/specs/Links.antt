-- Which cores signal which, by the items of scripts.
use Rattle.std.specs.Prelude.{◌≡◌, ℕ, ◌<◌, length, Some}
use Rattle.std.specs.List.{slice_get}
use Rattle.mcs_script.specs.declared.item.Item.TheVariants.{Signal}
use Rattle.mcs_mail.specs.declared.mail.Mail.{Mail}
use Rattle.mcs_mail.specs.Box.{IsIn}
use Rattle.mcs_system.specs.System.{System, thread_part, note_part, core_of}
use Rattle.mcs_system.specs.WellFormed.{IsWellFormed}
use Rattle.mcs_core.specs.Clock.{turn_of}

-- a thread of core b has an item that signals a notification of core c
pub record Signals (system : System) (b c : ℕ) : Type 0 where
  pub thread : ℕ
  pub place : ℕ
  pub note : ℕ
  pub badge : ℕ
  pub known : thread < length system.threads
  pub maker : core_of system (thread_part system thread) ≡ b
  pub item : slice_get (thread_part system thread).script place ≡ Some (Signal note badge)
  pub home : (note_part system note).core ≡ c

-- each signal of a turn of the clock is an item of a thread of its core
abbrev pub SignalsAreSaid : Type 0
SignalsAreSaid =
    (system : System) → IsWellFormed system → (b t : ℕ) (mail : Mail) → b < system.cores → IsIn mail (turn_of system b t).mails →
    Signals system b (note_part system mail.note).core
