-- The end of a tick, after a number of quiet ones that are counted.
use Rattle.std.proofs.Common.{◌≡◌, ℕ, suc, ◌+◌, ◌<◌, length, sym, ap, ◌∙◌, subst, Some, None, arith, add-one}
use Rattle.std.specs.Prelude.{IfSome}
use Rattle.mcs_ticks.specs.Queue.{by_priority}
use Rattle.mcs_system.specs.System.{System}
use Rattle.mcs_core.specs.declared.standing.Chosen.{Chosen}
use Rattle.mcs_core.specs.Busy.{counted_by}
use Rattle.mcs_core.specs.Core.{Core}
use Rattle.mcs_core.specs.Quiet.{counted_of, counted_times}
use Rattle.mcs_core.specs.Turn.{silent, tick, tick_of, counts, after_count}
use Rattle.mcs_core.specs.stored.Sound.{CanStop, IsSound}
use Rattle.mcs_core.specs.stored.Sound.Phase.{Between, InTick}
use Rattle.mcs_core.proofs.Effects.{can_stop}
use Rattle.mcs_core.proofs.Quiet.{counted-idle, counted-by}
use Rattle.mcs_core.proofs.Soundness.{IsOneEach}
use Rattle.mcs_core.proofs.Ticks.{counts-sound}

module _ (system : System) (c n : ℕ) (chosen : Chosen) (core : Core) (e : core.running ≡ Some chosen) (runs : IfSome core.running (λ (chosen : Chosen). chosen.thread < length core.threads)) where
  pub known : chosen.thread < length core.threads
  known = rw e at runs

  abbrev pub then_runs : Chosen
  then_runs = record { thread = chosen.thread; using = chosen.using + n }

  -- the thread that runs after them
  pub counted-runner : (counted_times system c n core).running ≡ Some then_runs
  counted-runner = ap (λ (k : Core). k.running) (counted-by system c n chosen core e known)

  -- one more is counted with them
  counted-more : counted_by (n + 1) chosen core ≡ counts then_runs (counted_times system c n core)
  counted-more =
      ap (λ m. counted_by m chosen core) (add-one n) ∙ sym (counted-by system c (suc n) chosen core e known)
      ∙ ap (λ o. counted_of system c o (counted_times system c n core)) counted-runner

  module _ (used : ℕ) (after : Core) (many : used ≡ chosen.using + n + 1) (is : after ≡ counted_by (n + 1) chosen core) where
    -- so the end of the tick is what follows that count
    pub tick-more : (t : ℕ) → tick by_priority system c t (counted_times system c n core) ≡ after_count by_priority system c t chosen.thread used after
    tick-more t =
        ap (λ o. tick_of by_priority system c t o (counted_times system c n core)) counted-runner
        ∙ ap (λ (k : Core). after_count by_priority system c t chosen.thread (chosen.using + n + 1) k) (sym (is ∙ counted-more))
        ∙ ap (λ u. after_count by_priority system c t chosen.thread u after) (sym many)

    module _ (each : IsOneEach system) (t : ℕ) (sound : IsSound system c t Between None (counted_times system c n core)) where
      pub counted-sound : IsSound system c t InTick None after
      counted-sound =
          let P : Core → Type 0 = λ k. IsSound system c t InTick None k in
          subst P (sym (is ∙ counted-more)) (counts-sound system c t each then_runs (counted_times system c n core) sound counted-runner)

      pub counted-can_stop : CanStop system chosen.thread used after
      counted-can_stop =
          let P : ℕ → Type 0 = λ u. CanStop system chosen.thread u after in
          let runs : after.running ≡ Some (record { thread = chosen.thread; using = chosen.using + (n + 1) }) = ap (λ (k : Core). k.running) is in
          let same : chosen.using + (n + 1) ≡ used = omega arith in
          subst P same (can_stop system c t each (record { thread = chosen.thread; using = chosen.using + (n + 1) }) after counted-sound runs)

-- if no thread runs, nothing happens
pub tick-idle : (system : System) (c n t : ℕ) (core : Core) → core.running ≡ None → tick by_priority system c t (counted_times system c n core) ≡ silent core
tick-idle system c n t core e =
    ap (λ (k : Core). tick by_priority system c t k) (counted-idle system c n core e) ∙ ap (λ o. tick_of by_priority system c t o core) e
