-- Threads that stop, wake and enter a queue: the core stays sound.
use Rattle.std.proofs.Common.{◌≡◌, ℕ, ◌+◌, ◌^◌, ◌<◌, ◌≤◌, Bool, true, false, cond, List, [], ◌∷◌, ◌++◌, length, refl, arith}
use Rattle.std.specs.Prelude.{Option, Some, None}
use Rattle.std.specs.List.{AllByRecursion}
use Rattle.std.proofs.lemmas.Bool.Decides.{nat_tests}
use Rattle.mcs_ticks.specs.Queue.{by_priority, entered_back, entered_front}
use Rattle.mcs_ticks.specs.declared.queue.Queued.{Queued}
use Rattle.mcs_control.specs.Context.{Context, head_moment, context_ready}
use Rattle.mcs_release.specs.declared.dated.Dated.{Dated}
use Rattle.mcs_core.specs.declared.standing.Standing.{Standing}
use Rattle.mcs_core.specs.declared.standing.Standing.TheVariants.{Pending, Ready, Done}
use Rattle.mcs_core.specs.declared.standing.Thread.{Thread}
use Rattle.mcs_system.specs.System.{System, thread_part}
use Rattle.mcs_core.specs.Core.{Core, thread_of, with_thread, stands, pends}
use Rattle.mcs_core.specs.Turn.{its_context, date_of, queued, enters_back, enters_front}
use Rattle.mcs_core.specs.stored.Sound.{Phase, IsEarly, AreEarly, RunsRight, IsSound}
use Rattle.mcs_core.specs.Places.{times_queued}
use Rattle.mcs_core.proofs.Counts.{one_if_same, times_queued-back, times_queued-front, times_dated-append}
use Rattle.mcs_core.proofs.Soundness.{re_stands, arrived, runs-same}

-- a context that is not ready has a head that is yet to come
pub unready-later : (t : ℕ) (context : Context) → context_ready t context ≡ false → t + 1 ≤ head_moment context
unready-later t context e = grind (arith, nat_tests)

-- a context that is ready at a moment of a run has an early head
pub ready-early : (t : ℕ) (context : Context) → t ≤ 2 ^ 40 → context_ready t context ≡ true → head_moment context ≤ 2 ^ 40
ready-early t context l e = grind (arith, nat_tests)

module _ (system : System) (number from : ℕ) where
  -- with this date, or none, the thread's head is early when it may be chosen or released; the date is yet to come
  abbrev pub EntersEarly : ℕ → Option ℕ → Core → Type 0
  EntersEarly x None core = IsEarly system x core
  EntersEarly x (Some date) core = (date ≤ 2 ^ 40 → IsEarly system x core) × (from ≤ date)

  pub date-early : (t x : ℕ) (core : Core) → t ≤ 2 ^ 40 → from ≤ t + 1 → EntersEarly x (date_of system t x core) core
  date-early t x core l f = by (context_ready t (its_context system x core)) refl
    where
      by : (b : Bool) → context_ready t (its_context system x core) ≡ b → EntersEarly x (cond b None (Some (head_moment (its_context system x core)))) core
      by true e = ready-early t (its_context system x core) l e
      by false e = (λ h. h, omega (arith, unready-later t (its_context system x core) e))

  later-append : (ds : List Dated) (d : Dated) → AllByRecursion (λ dated. from ≤ dated.date) ds → from ≤ d.date → AllByRecursion (λ dated. from ≤ dated.date) (ds ++ d ∷ [])
  later-append [] d h p = (p, tt)
  later-append (z ∷ ds) d h p = (h.0, later-append ds d h.1 p)

  AreEarly-append : (core : Core) (ds : List Dated) (d : Dated) → AreEarly system core ds → (d.date ≤ 2 ^ 40 → IsEarly system d.thread core) → AreEarly system core (ds ++ d ∷ [])
  AreEarly-append core [] d h p = (p, tt)
  AreEarly-append core (z ∷ ds) d h p = (h.0, AreEarly-append core ds d h.1 p)

  -- a core whose ready queue is another one
  pub queued-sound : (phase : Phase) (x : ℕ) (core : Core) (ready : List Queued) →
      ((y : ℕ) → times_queued y ready ≡ one_if_same x y + times_queued y core.ready) →
      IsSound system number from phase (Some (record { thread = x; standing = Done })) core → IsEarly system x core →
      IsSound system number from phase (Some (record { thread = x; standing = Ready })) (record core { ready = ready })
  queued-sound phase x core ready count h early =
      re_stands system number from phase x Done Ready core core.running ready core.releases core.notes h
      (λ y. grind (arith, count y))
      (λ y. refl)
      (λ y. refl)
      refl refl (λ e. early) h.dates h.later h.running

  pub dated-sound : (phase : Phase) (x date : ℕ) (core : Core) → IsSound system number from phase (Some (record { thread = x; standing = Done })) core →
      (date ≤ 2 ^ 40 → IsEarly system x core) → from ≤ date →
      IsSound system number from phase (Some (record { thread = x; standing = Pending })) (record core { releases = core.releases ++ record { thread = x; date = date } ∷ [] })
  dated-sound phase x date core h early yet =
      re_stands system number from phase x Done Pending core core.running core.ready (core.releases ++ record { thread = x; date = date } ∷ []) core.notes h
      (λ y. refl)
      (λ y. grind (arith, times_dated-append y core.releases (record { thread = x; date = date })))
      (λ y. refl)
      refl refl (λ e. cc) (AreEarly-append core core.releases (record { thread = x; date = date }) h.dates early) (later-append core.releases (record { thread = x; date = date }) h.later yet) h.running

  -- a thread on its way enters a queue; it isn't the one that runs
  abbrev pub IsAway : Phase → ℕ → Core → Type 0
  IsAway phase x core = (state : Thread) → RunsRight system phase core.running (with_thread x state core)

  -- with this ready queue and these dates it stands so
  enters-sound : (phase : Phase) (x : ℕ) (s : Standing) (core : Core) (ready : List Queued) (releases : List Dated) →
      IsSound system number from phase (Some (record { thread = x; standing = s })) (record core { ready = ready; releases = releases }) →
      x < length core.threads → (thread_of core x).place.item < length (thread_part system x).script → IsAway phase x core →
      IsSound system number from phase None (record (stands x s core) { ready = ready; releases = releases })
  enters-sound phase x s core ready releases h l item away =
      let state : Thread = record (thread_of core x) { standing = s } in
      let entered : Core = record core { ready = ready; releases = releases } in
      arrived system number from phase x s state entered h l refl (λ e. item)
      (runs-same system (with_thread x state core) (with_thread x state entered) refl phase (λ y e. e) core.running (away state))

  pends-sound : (phase : Phase) (x date : ℕ) (core : Core) → IsSound system number from phase (Some (record { thread = x; standing = Done })) core →
      x < length core.threads → (thread_of core x).place.item < length (thread_part system x).script → (date ≤ 2 ^ 40 → IsEarly system x core) → from ≤ date → IsAway phase x core →
      IsSound system number from phase None (pends x date core)
  pends-sound phase x date core h l item early yet away = enters-sound phase x Pending core core.ready _ (dated-sound phase x date core h early yet) l item away

  pub enters_back-sound : (phase : Phase) (x : ℕ) (until : Option ℕ) (core : Core) → IsSound system number from phase (Some (record { thread = x; standing = Done })) core →
      x < length core.threads → (thread_of core x).place.item < length (thread_part system x).script → EntersEarly x until core → IsAway phase x core →
      IsSound system number from phase None (enters_back by_priority x until core)
  enters_back-sound phase x None core h l item early away =
      enters-sound phase x Ready core (entered_back (queued x core) core.ready) core.releases
      (queued-sound phase x core (entered_back (queued x core) core.ready) (λ y. times_queued-back y (queued x core) core.ready) h early) l item away
  enters_back-sound phase x (Some date) core h l item early away = pends-sound phase x date core h l item early.0 early.1 away

  pub enters_front-sound : (phase : Phase) (x : ℕ) (until : Option ℕ) (core : Core) → IsSound system number from phase (Some (record { thread = x; standing = Done })) core →
      x < length core.threads → (thread_of core x).place.item < length (thread_part system x).script → EntersEarly x until core → IsAway phase x core →
      IsSound system number from phase None (enters_front by_priority x until core)
  enters_front-sound phase x None core h l item early away =
      enters-sound phase x Ready core (entered_front (queued x core) core.ready) core.releases
      (queued-sound phase x core (entered_front (queued x core) core.ready) (λ y. times_queued-front y (queued x core) core.ready) h early) l item away
  enters_front-sound phase x (Some date) core h l item early away = pends-sound phase x date core h l item early.0 early.1 away
