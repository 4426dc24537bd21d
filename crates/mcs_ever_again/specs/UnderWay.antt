-- The signals that rows make, and those of them that are under way.
use Rattle.std.specs.Prelude.{ℕ, Bool, ◌^◌, ◌==◌, nat_le, if◌then◌else◌, List, filter, filter_map, Option, Some, None}
use Rattle.mcs_ticks.specs.declared.row.Row.{Row}
use Rattle.mcs_ticks.specs.declared.row.What.{What}
use Rattle.mcs_ticks.specs.declared.row.What.TheVariants as what
use Rattle.mcs_mail.specs.declared.mail.Mail.{Mail}
use Rattle.mcs_system.specs.System.{System, note_part}
use Rattle.mcs_core.specs.Turn.{mail_to}

module _ (system : System) where
  -- the signal that a row of core c at time t makes: that of a `Signal` row for a notification of
  -- another core. A signal for a notification of the core itself, and any other row, makes none
  abbrev pub mail_told : ℕ → ℕ → What → Option Mail
  mail_told c t (what.Signal thread note badge) =
      if (note_part system note).core == c then None else Some (mail_to system c t note badge)
  mail_told c t (what.Release thread) = None
  mail_told c t (what.Run thread) = None
  mail_told c t (what.Stop thread why charged until) = None
  mail_told c t (what.Arrive note badge maker) = None
  mail_told c t (what.Wake thread note word until) = None
  mail_told c t (what.Hold note word) = None
  mail_told c t (what.Got thread note word) = None
  mail_told c t (what.Round thread number response) = None
  mail_told c t (what.Order context) = None
  mail_told c t (what.Interrupt source note badge) = None

  abbrev pub mail_of : Row → Option Mail
  mail_of row = mail_told row.core row.moment row.what

  -- the signals that the rows make, in the order of the rows
  abbrev pub told_mails : List Row → List Mail
  told_mails rows = filter_map mail_of rows

-- whether a signal arrives at t or later
abbrev pub arrives_from : ℕ → Mail → Bool
arrives_from t mail = nat_le t mail.arrives

-- the signals that the rows before time t make and that are under way at t
abbrev pub under_way : System → ℕ → List Row → List Mail
under_way system t rows = filter (arrives_from t) (told_mails system rows)

-- whether a signal arrives at a time that a `Tick` can hold, which each signal of a run does
abbrev pub can_arrive : Mail → Bool
can_arrive mail = nat_le mail.arrives (2 ^ 42)
