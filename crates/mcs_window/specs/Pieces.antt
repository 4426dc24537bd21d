-- A piece of a core's work, and its outcome, as contracts see them.
use Rattle.std.specs.Prelude.{◌≡◌, ℕ, ◌+◌, ◌<◌, ◌≤◌, ◌^◌, List, slice_index}
use Rattle.mcs_ticks.specs.declared.row.Row.{Row}
use Rattle.mcs_mail.specs.declared.mail.Mail.{Mail}
use Rattle.mcs_system.specs.System.{System}
use Rattle.mcs_core.specs.State.{State}
use Rattle.mcs_stretch.specs.Inbox.{inbox, signals_between}
use Rattle.mcs_stretch.specs.Stretch.{rows_between, NothingArrivesBefore, StandsAt}

pub record Work : Type 0 where
  pub system : System
  pub core : ℕ
  pub first : ℕ
  pub past : ℕ
  pub front : List ℕ
  pub state : State
  pub mail : List Mail

pub record Outcome : Type 0 where
  pub system : System
  pub core : ℕ
  pub first : ℕ
  pub past : ℕ
  pub front : List ℕ
  pub state : State
  pub rows : List Row
  pub out : List Mail
  pub mail : List Mail

-- the moments from `first` to before `past`, which the clocks in `front` allow; entries of `front`
-- past the last core are 0
pub record IsStretch (system : System) (core first past : ℕ) (front : List ℕ) : Type 0 where
  pub known : core < system.cores
  pub in_order : first ≤ past
  pub in_time : past ≤ 2 ^ 40 + 1
  pub reached : NothingArrivesBefore system core past front
  pub idle : (b : ℕ) → system.cores ≤ b → slice_index front b ≡ 0

-- state and mail are those before the stretch (`IsWork`), or those after it (`IsOutcome`)
pub record IsWork (work : Work) : Type 0 where
  pub stretch : IsStretch work.system work.core work.first work.past work.front
  pub state_is : StandsAt work.system work.core work.first work.state
  pub mail_is : work.mail ≡ inbox work.system work.core work.first work.front

pub record IsOutcome (outcome : Outcome) : Type 0 where
  pub stretch : IsStretch outcome.system outcome.core outcome.first outcome.past outcome.front
  pub state_is : StandsAt outcome.system outcome.core outcome.past outcome.state
  pub rows_are : outcome.rows ≡ rows_between outcome.system outcome.core outcome.first outcome.past
  pub out_is : outcome.out ≡ signals_between outcome.system outcome.core outcome.first outcome.past
  pub mail_is : outcome.mail ≡ inbox outcome.system outcome.core outcome.past outcome.front

-- a piece and an outcome of one stretch of one system
pub record IsOf (work : Work) (outcome : Outcome) : Type 0 where
  pub system : outcome.system ≡ work.system
  pub core : outcome.core ≡ work.core
  pub first : outcome.first ≡ work.first
  pub past : outcome.past ≡ work.past
  pub front : outcome.front ≡ work.front
