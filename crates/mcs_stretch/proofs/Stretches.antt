-- A core alone, with its inbox, takes the turns that the clock gives it, as far as the other cores' clocks allow.
use Rattle.std.proofs.Common.{◌≡◌, ℕ, zero, suc, ◌+◌, ◌-◌, ◌<◌, List, sym, ap, ◌∙◌, arith, add-one}
use Rattle.std.specs.Prelude.{filter, flat_map}
use Rattle.std.specs.List.{range_with_len}
use Rattle.mcs_mail.specs.declared.mail.Mail.{Mail}
use Rattle.mcs_mail.specs.Box.{arriving, staying}
use Rattle.mcs_system.specs.System.{System, TakesTime}
use Rattle.mcs_core.specs.Core.{Core}
use Rattle.mcs_core.specs.Turn.{Turn, turn}
use Rattle.mcs_core.specs.Clock as clocks
use Rattle.mcs_core.specs.Run as runs
use Rattle.mcs_core.specs.Run.{Ran}
use Rattle.mcs_core.proofs.Clock.{turn_of-kept, core_shown-world}
use Rattle.mcs_stretch.specs.Inbox.{inbox}
use Rattle.mcs_stretch.specs.Stretch as stretch
use Rattle.mcs_stretch.proofs.Arrivals.{arrivals-known}
use Rattle.mcs_stretch.proofs.Boxes.{arriving-inbox, staying-inbox}

module _ (system : System) (c : ℕ) (front : List ℕ) (takes_time : TakesTime system) (known : c < system.cores) where
  -- what the clock has of core c from t on, this many moments long
  abbrev after : ℕ → ℕ → ℕ → Ran
  after t n past =
      record {
        core = clocks.core_shown system (clocks.world system past) c;
        rows = flat_map (clocks.rows_of system c) (range_with_len t n);
        mails = flat_map (λ m. (clocks.turn_of system c m).mails) (range_with_len t n);
        box = inbox system c past front;
      }

  ran-step : (n t : ℕ) (core : Core) (box ms left : List Mail) → arriving t box ≡ ms → staying t box ≡ left →
      runs.ran system c (suc n) t core box ≡ runs.with_turn system c t (turn system c t ms core) (runs.ran system c n (t + 1) (turn system c t ms core).core left)
  ran-step n t core box ms left e f =
      ap (λ xs. runs.with_turn system c t (turn system c t xs core) (runs.ran system c n (t + 1) (turn system c t xs core).core (staying t box))) e
      ∙ ap (λ xs. runs.with_turn system c t (turn system c t ms core) (runs.ran system c n (t + 1) (turn system c t ms core).core xs)) f

  core-next : (t : ℕ) → clocks.shown (clocks.turn_of system c t).core ≡ clocks.core_shown system (clocks.world system (t + 1)) c
  core-next t = sym (core_shown-world system takes_time t c known) ∙ ap (λ m. clocks.core_shown system (clocks.world system m) c) (sym (add-one t))

  pub ran-inbox : (n t : ℕ) → stretch.NothingArrivesBefore system c (t + n) front →
      runs.ran system c n t (clocks.core_shown system (clocks.world system t) c) (inbox system c t front) ≡ after t n (t + n)
  ran-inbox zero t h =
      let e : t ≡ t + 0 = omega arith in
      ap (λ past. after t 0 past) e
  ran-inbox (suc n) t h =
      let e : t + 1 + n ≡ t + suc n = omega arith in
      ran-step n t (clocks.core_shown system (clocks.world system t) c) (inbox system c t front) _ _ takes (staying-inbox system c front t)
      ∙ ap (λ (made : Turn). runs.with_turn system c t made (runs.ran system c n (t + 1) made.core (inbox system c (t + 1) front))) (sym (turn_of-kept system c t))
      ∙ ap (λ core. runs.with_turn system c t (clocks.turn_of system c t) (runs.ran system c n (t + 1) core (inbox system c (t + 1) front))) (core-next t)
      ∙ ap (λ others. runs.with_turn system c t (clocks.turn_of system c t) others)
      (ran-inbox n (t + 1) (λ b m x p l i q. let g = h b m x p l i q in omega arith) ∙ ap (λ past. after (t + 1) n past) e)
    where
      takes : arriving t (inbox system c t front) ≡ filter (clocks.arrives_at system t c) (clocks.world system t).mails
      takes = arriving-inbox system c front t ∙ sym (arrivals-known system c t front takes_time (λ b m x p l i q. let g = h b m x p l i q in omega arith))

pub stretches : (system : System) → TakesTime system → stretch.StretchesAreTurns system
stretches system takes_time c first past front state mail known l reached before =
    record {
      state_is = ap (λ (r : Ran). r.core) all;
      rows_are = ap (λ (r : Ran). r.rows) all;
      out_is = ap (λ (r : Ran). r.mails) all;
      mail_is = ap (λ (r : Ran). r.box) all;
    }
  where
    all : runs.ran system c (past - first) first state mail ≡ after system c front takes_time known first (past - first) past
    all =
        let e : first + (past - first) ≡ past = omega arith in
        rw (before.state_is, before.mail_is)
        (ran-inbox system c front takes_time known (past - first) first (λ b m x p k i q. let g = reached b m x p k i q in omega arith)
        ∙ ap (λ m. after system c front takes_time known first (past - first) m) e)
