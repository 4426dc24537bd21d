-- A stretch of one core: its turns from one moment to before another.
use Rattle.std.specs.Prelude.{◌≡◌, ℕ, ◌-◌, ◌<◌, ◌≤◌, false, List, flat_map, slice_index}
use Rattle.std.specs.List.{range_with_len}
use Rattle.mcs_ticks.specs.declared.row.Row.{Row}
use Rattle.mcs_mail.specs.declared.mail.Mail.{Mail}
use Rattle.mcs_mail.specs.Box.{IsIn}
use Rattle.mcs_system.specs.System.{System, note_part}
use Rattle.mcs_core.specs.Core.{Core}
use Rattle.mcs_core.specs.Clock.{world, core_shown, rows_of, turn_of}
use Rattle.mcs_core.specs.Run.{Ran, ran}
use Rattle.mcs_core.specs.State.{State, Fits}
use Rattle.mcs_stretch.specs.Inbox.{inbox, signals_between}

module _ (system : System) where
  -- the moments from `first` to before `past`
  abbrev pub moments : ℕ → ℕ → List ℕ
  moments first past = range_with_len first (past - first)

  -- the clock's rows of core c at the moments from `first` to before `past`
  abbrev pub rows_between : ℕ → ℕ → ℕ → List Row
  rows_between c first past = flat_map (rows_of system c) (moments first past)

  -- no signal for core c that a core has yet to make, from its moment in `front` on, arrives before
  -- `past`
  abbrev pub NothingArrivesBefore : ℕ → ℕ → List ℕ → Type 0
  NothingArrivesBefore c past front =
      (b m : ℕ) (mail : Mail) → b < system.cores → slice_index front b ≤ m → IsIn mail (turn_of system b m).mails →
      (note_part system mail.note).core ≡ c → past ≤ mail.arrives

  -- a state of core c before moment t, as the clock has it
  pub record StandsAt (c t : ℕ) (state : State) : Type 0 where
    pub number_is : state.number ≡ c
    pub clock_is : state.clock ≡ t
    pub core_is : state.core ≡ core_shown system (world system t) c
    pub whole : state.failed ≡ false
    pub fits : Fits system state

  -- the contents of a piece before the stretch (`Before`) and after it (`After`)
  pub record Before (c first : ℕ) (front : List ℕ) (state : Core) (mail : List Mail) : Type 0 where
    pub state_is : state ≡ core_shown system (world system first) c
    pub mail_is : mail ≡ inbox system c first front

  pub record After (c first past : ℕ) (front : List ℕ) (state : Core) (rows : List Row) (out mail : List Mail) : Type 0
    where
      pub state_is : state ≡ core_shown system (world system past) c
      pub rows_are : rows ≡ rows_between c first past
      pub out_is : out ≡ signals_between system c first past
      pub mail_is : mail ≡ inbox system c past front

  abbrev pub IsAfter : ℕ → ℕ → ℕ → List ℕ → Ran → Type 0
  IsAfter c first past front done = After c first past front done.core done.rows done.mails done.box

  -- the turns of a core alone lead from the contents before its stretch to those after it
  abbrev pub StretchesAreTurns : Type 0
  StretchesAreTurns =
      (c first past : ℕ) (front : List ℕ) (state : Core) (mail : List Mail) → c < system.cores → first ≤ past
      → NothingArrivesBefore c past front → Before c first front state mail →
      IsAfter c first past front (ran system c (past - first) first state mail)
