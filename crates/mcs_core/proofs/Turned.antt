-- A turn with the quiet ones before it.
use Rattle.std.proofs.Common.{◌≡◌, ℕ, ◌+◌, ◌-◌, ◌≤◌, ◌^◌, false, List, [], refl, sym, ap, ◌∙◌, arith}
use Rattle.std.specs.Prelude.{max, All, None}
use Rattle.mcs_ticks.specs.Queue.{by_priority}
use Rattle.mcs_control.specs.declared.config.Order.{Order}
use Rattle.mcs_mail.specs.declared.mail.Mail.{Mail}
use Rattle.mcs_mail.specs.Box.{arriving}
use Rattle.mcs_system.specs.System.{System}
use Rattle.mcs_system.specs.WellFormed.{IsWellFormed}
use Rattle.mcs_core.specs.Core.{Core}
use Rattle.mcs_core.specs.Alarms.{before_moment, alarms_of, alarms_at}
use Rattle.mcs_core.specs.declared.alarm.Alarm.{Alarm}
use Rattle.mcs_core.specs.Orders.{to_come, orders_of}
use Rattle.mcs_core.specs.Quiet.{AreQuietWith, counted_times}
use Rattle.mcs_core.specs.State.{State, Fits, IsExpected, made_by, state_after, skipped}
use Rattle.mcs_core.specs.Turn.{stamped, turn}
use Rattle.mcs_core.specs.stored.Parts.{CanTurn}
use Rattle.mcs_core.specs.stored.Sound.{IsSound}
use Rattle.mcs_core.specs.stored.Sound.Phase.{Between}
use Rattle.mcs_core.proofs.Plans.{to_come-next}
use Rattle.mcs_core.proofs.Runs.{made-turn, told-turn, sent-turn, same_state}
use Rattle.mcs_core.proofs.Skips.{counts-fit, runner-known, quiet-alarms, skipped-fits}

module _ (system : System) (w : IsWellFormed system) (state : State) (moment : ℕ) (box : List Mail) (fits : Fits system state) (going : state.failed ≡ false)
    (later : state.clock ≤ moment) (in_time : moment ≤ 2 ^ 40) (quiet : AreQuietWith by_priority system state.number state.clock [] state.core (moment - state.clock)) where
  -- the core as the turn finds it
  abbrev pub found : Core
  found = counted_times system state.number (moment - state.clock) state.core

  found-fits : Fits system (skipped system moment state)
  found-fits = skipped-fits system w state moment found fits going later (omega arith) quiet refl

  -- the alarms as the turn finds them
  pub present : (alarms : List Alarm) → alarms ≡ before_moment state.clock state.alarms → alarms ≡ alarms_at system state.number moment
  present alarms e =
      let there : state.clock + (moment - state.clock) ≡ moment = omega arith in
      e ∙ ap (before_moment state.clock) (fits.alarms going)
      ∙ sym (quiet-alarms system state.number w (moment - state.clock) state.clock state.core quiet)
      ∙ ap (λ t. before_moment t (alarms_of system state.number)) there

  pub can-turn : (alarms : List Alarm) → alarms ≡ alarms_at system state.number moment → (quiets : ℕ) → quiets ≡ moment - state.clock → All (IsExpected system (skipped system moment state)) box →
      CanTurn system state.number moment state.delays quiets state.orders alarms box state.core
  can-turn alarms is quiets e expected =
      rw e
      (record {
        well_formed = w;
        sound = found-fits.sound going;
        running = runner-known system state.number w state.clock state.core (fits.sound going);
        few = counts-fit system state.number w (moment - state.clock) state.clock state.core (fits.sound going) (omega arith);
        planned = found-fits.orders going;
        alarmed = is;
        known = λ k d l. (expected k d l).known;
        come = λ k d l. (expected k d l).arrives;
        delays = fits.delays going;
        soon = in_time;
      })

  module _ (time : ℕ) (core : Core) (orders : List Order) (next : time ≡ moment + 1) (quiets : ℕ) (many : quiets ≡ moment - state.clock)
      (made : core ≡ (turn system state.number moment (arriving moment box) (counted_times system state.number quiets state.core)).core) (left : orders ≡ to_come (moment + 1) state.orders) where
    abbrev turned : State
    turned = record { number = state.number; clock = time; core = core; orders = orders; alarms = state.alarms; delays = state.delays; failed = state.failed }

    made-found : core ≡ (turn system state.number moment (arriving moment box) found).core
    made-found = made ∙ ap (λ n. (turn system state.number moment (arriving moment box) (counted_times system state.number n state.core)).core) many

    pub turned-state : turned ≡ state_after (skipped system moment state) (moment + 1) (made_by system (skipped system moment state) (moment + 1) box)
    turned-state =
        let last : time ≡ max moment (moment + 1) = omega arith in
        same_state turned state.number (max moment (moment + 1)) _ _ state.alarms state.delays state.failed refl last
        (made-found ∙ sym (made-turn system (skipped system moment state) box)) left refl refl refl

    pub turned-fits : IsSound system state.number (moment + 1) Between None core → Fits system turned
    turned-fits sound =
        record {
          known = fits.known;
          early = omega arith;
          sound = λ _. rw next sound;
          orders = λ _.
              left ∙ ap (to_come (moment + 1)) (found-fits.orders going) ∙ to_come-next moment (orders_of system state.number)
              ∙ ap (λ t. to_come t (orders_of system state.number)) (sym next);
          alarms = λ _. fits.alarms going;
          delays = λ _. fits.delays going;
        }

  pub turned-rows : (quiets : ℕ) → quiets ≡ moment - state.clock →
      stamped state.number moment (turn system state.number moment (arriving moment box) (counted_times system state.number quiets state.core)).rows
      ≡ (made_by system (skipped system moment state) (moment + 1) box).rows
  turned-rows quiets many =
      ap (λ n. stamped state.number moment (turn system state.number moment (arriving moment box) (counted_times system state.number n state.core)).rows) many
      ∙ sym (told-turn system (skipped system moment state) box)

  pub turned-sent : (quiets : ℕ) → quiets ≡ moment - state.clock →
      (turn system state.number moment (arriving moment box) (counted_times system state.number quiets state.core)).mails ≡ (made_by system (skipped system moment state) (moment + 1) box).mails
  turned-sent quiets many =
      ap (λ n. (turn system state.number moment (arriving moment box) (counted_times system state.number n state.core)).mails) many
      ∙ sym (sent-turn system (skipped system moment state) box)
