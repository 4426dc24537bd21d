-- One part of a turn in the code: its place and time, the conditions of a whole turn, and what a
-- part adds to the lists that it was lent.
use Rattle.std.specs.Prelude.{◌≡◌, ℕ, Bool, ◌+◌, ◌<◌, ◌≤◌, ◌^◌, List, ◌++◌, length, slice_index, All, IfSome, None}
use Rattle.mcs_ticks.specs.declared.row.Row.{Row}
use Rattle.mcs_ticks.specs.declared.row.What.{What}
use Rattle.mcs_ticks.specs.Given.{Given}
use Rattle.mcs_mail.specs.declared.mail.Mail.{Mail}
use Rattle.mcs_control.specs.declared.config.Order.{Order}
use Rattle.mcs_system.specs.System.{System, note_part, delay_between}
use Rattle.mcs_system.specs.WellFormed.{IsWellFormed}
use Rattle.mcs_core.specs.Orders.{orders_of, to_come}
use Rattle.mcs_core.specs.Alarms.{alarms_at}
use Rattle.mcs_core.specs.declared.alarm.Alarm.{Alarm}
use Rattle.mcs_core.specs.Quiet.{counted_times}
use Rattle.mcs_core.specs.State.{delays_from}
use Rattle.mcs_core.specs.stored.Sound.{IsSound}
use Rattle.mcs_core.specs.stored.Sound.Phase.{Between}
use Rattle.mcs_core.specs.Core.{Core}
use Rattle.mcs_core.specs.Turn.{stamped, Turn}
use Rattle.mcs_core.specs.declared.log.Here.{Here}
use Rattle.mcs_core.specs.declared.log.Log.{Log}

-- the delay to a core is in the row
pub record HasDelayTo (here : Here) (home : ℕ) : Type 0 where
  pub known : home < 64
  pub is : slice_index here.delays.now home ≡ delay_between here.system.now here.core home
  pub short : slice_index here.delays.now home ≤ 2 ^ 20

-- the delays to the homes of all notifications are in the row
abbrev pub HasDelays : Here → Type 0
HasDelays here =
    (note : ℕ) → note < length here.system.now.notes → HasDelayTo here (note_part here.system.now note).core

module _ {S : Type 0} (takes : S → Row → Bool → S → Type 0) where
  -- the sink was given these rows, with the core and the moment, and these signals were added to
  -- the list; both are still those that were lent
  pub record Adds (here : Here) (told : List What) (mails : List Mail) (before after : Log S) : Type 0 where
    pub rows : Given takes before.sink.now (stamped here.core here.moment told) after.sink.now
    pub signals : after.signals.now.items ≡ before.signals.now.items ++ mails
    pub same_sink : after.sink.ghost_name ≡ before.sink.ghost_name
    pub same_signals : after.signals.ghost_name ≡ before.signals.ghost_name

  -- a part that is taken here makes this turn: the core becomes the turn's, and its rows and
  -- signals are added
  pub record Makes (here : Here) (made : Turn) (left : Core) (before after : Log S) : Type 0 where
    pub core : left ≡ made.core
    pub adds : Adds here made.rows made.mails before after

  -- the same of a part to which the sink and the list of signals are lent one by one
  pub record MakesApart (here : Here) (made : Turn) (left : Core) (sink sink' : S) (signals signals' : List Mail) : Type 0 where
    pub core : left ≡ made.core
    pub rows : Given takes sink (stamped here.core here.moment made.rows) sink'
    pub sent : signals' ≡ signals ++ made.mails

-- core c of a system may take its turn at moment t, after `quiet` quiet ticks are counted; `row`:
-- the delays of its signals, `orders`: its orders to come, `mails`: the mail in its box
pub record CanTurn (system : System) (c t : ℕ) (row : List ℕ) (quiet : ℕ) (orders : List Order) (alarms : List Alarm) (mails : List Mail) (core : Core) : Type 0 where
  pub well_formed : IsWellFormed system
  pub sound : IsSound system c t Between None (counted_times system c quiet core)
  pub running : IfSome core.running (λ chosen. chosen.thread < length core.threads)
  pub few : IfSome core.running (λ chosen. chosen.using + quiet < 2 ^ 63)
  pub planned : orders ≡ to_come t (orders_of system c)
  pub alarmed : alarms ≡ alarms_at system c t
  pub known : All (λ mail. mail.note < length system.notes) mails
  pub come : All (λ mail. t ≤ mail.arrives) mails
  pub delays : row ≡ delays_from system c
  pub soon : t ≤ 2 ^ 40
