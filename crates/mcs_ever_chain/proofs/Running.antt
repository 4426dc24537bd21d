-- A run from one moment to the next.
use Rattle.std.proofs.Common.{◌≡◌, ℕ, ◌+◌, List, [], ◌∷◌, ◌++◌, refl, sym, ap, subst, ◌∙◌}
use Rattle.mcs_ticks.specs.declared.row.Row.{Row}
use Rattle.mcs_system.specs.System.{System}
use Rattle.mcs_system.specs.WellFormed.{IsWellFormed}
use Rattle.mcs_verdict.specs.Findings.{past_of}
use Rattle.mcs_chain.specs.Figures.{tallies_of}
use Rattle.mcs_chain.specs.Watch.{watch_of}
use Rattle.mcs_stretch.proofs.Later.{takes_time}
use Rattle.mcs_ever_found.specs.Recurs.{past_before}
use Rattle.mcs_ever_search.specs.Together.{Together, at_moment, rows_at, rows_before}
use Rattle.mcs_ever_search.proofs.Turning.{rows-after}
use Rattle.mcs_ever_chain.specs.declared.run.Run.{Run}
use Rattle.mcs_ever_chain.specs.stored.Runs.{IsRun}

past-join : (past a b : List Row) → past_of past (a ++ b) ≡ past_of (past_of past a) b
past-join past [] b = refl
past-join past (r ∷ a) b = past-join (r ∷ past) a b

past-next : (system : System) → IsWellFormed system → (t : ℕ) → past_of (past_before system t) (rows_at system t) ≡ past_before system (t + 1)
past-next system well t =
    sym (ap (λ (rows : List Row). past_of [] rows) (rows-after system (takes_time system well) t) ∙ past-join [] (rows_before system t) (rows_at system t))

module _ (system : System) (run : Run) (is : IsRun system run) where
  -- idle time passes
  pub skipped-rows : (moment : ℕ) → rows_before run.lockstep.system moment ≡ rows_before run.lockstep.system run.lockstep.clock →
      rows_before system moment ≡ rows_before system run.lockstep.clock
  skipped-rows moment still =
      let P : System → Type 0 = λ (s : System). rows_before s moment ≡ rows_before s run.lockstep.clock in
      subst P is.system_is still

  pub skipped : (lockstep : Together) (moment : ℕ) → lockstep ≡ at_moment run.lockstep moment →
      rows_before run.lockstep.system moment ≡ rows_before run.lockstep.system run.lockstep.clock → IsRun system (record run { lockstep = lockstep })
  skipped lockstep moment at still =
      let clock : lockstep.clock ≡ moment = ap (λ (x : Together). x.clock) at in
      let past : past_before system run.lockstep.clock ≡ past_before system lockstep.clock =
      ap (λ (rows : List Row). past_of [] rows) (sym (skipped-rows moment still)) ∙ ap (λ (t : ℕ). past_before system t) (sym clock) in
      let horizon : run.lockstep.horizon ≡ lockstep.horizon = sym (ap (λ (x : Together). x.horizon) at) in
      record {
        system_is = ap (λ (x : Together). x.system) at ∙ is.system_is;
        going = ap (λ (x : Together). x.failed) at ∙ is.going;
        watch = is.watch ∙ ap (λ (rows : List Row). watch_of system rows) past;
        tallies =
            is.tallies ∙ ap (λ (rows : List Row). tallies_of run.lockstep.horizon system rows) past
            ∙ ap (λ (h : ℕ). tallies_of h system (past_before system lockstep.clock)) horizon;
      }

  -- the cores take their turns
  pub turned-rows : (rows : List Row) → rows ≡ rows_at run.lockstep.system run.lockstep.clock → rows ≡ rows_at system run.lockstep.clock
  turned-rows rows e = e ∙ ap (λ (s : System). rows_at s run.lockstep.clock) is.system_is

  pub turned : IsWellFormed system → (after : Run) (rows : List Row) → after.lockstep ≡ at_moment run.lockstep (run.lockstep.clock + 1) →
      rows ≡ rows_at run.lockstep.system run.lockstep.clock →
      after.watch ≡ watch_of system (past_of (past_before system run.lockstep.clock) rows) →
      after.tallies ≡ tallies_of run.lockstep.horizon system (past_of (past_before system run.lockstep.clock) rows) → IsRun system after
  turned well after rows at made watch tallies =
      let clock : after.lockstep.clock ≡ run.lockstep.clock + 1 = ap (λ (x : Together). x.clock) at in
      let past : past_of (past_before system run.lockstep.clock) rows ≡ past_before system after.lockstep.clock =
      ap (λ (more : List Row). past_of (past_before system run.lockstep.clock) more) (turned-rows rows made)
      ∙ past-next system well run.lockstep.clock ∙ ap (λ (t : ℕ). past_before system t) (sym clock) in
      let horizon : run.lockstep.horizon ≡ after.lockstep.horizon = sym (ap (λ (x : Together). x.horizon) at) in
      record {
        system_is = ap (λ (x : Together). x.system) at ∙ is.system_is;
        going = ap (λ (x : Together). x.failed) at ∙ is.going;
        watch = watch ∙ ap (λ (rows : List Row). watch_of system rows) past;
        tallies =
            tallies ∙ ap (λ (rows : List Row). tallies_of run.lockstep.horizon system rows) past
            ∙ ap (λ (h : ℕ). tallies_of h system (past_before system after.lockstep.clock)) horizon;
      }
