-- A thread that is due leaves the release queue, as the code takes it.
use Rattle.std.proofs.Common.{◌≡◌, ℕ, ◌^◌, ◌<◌, ◌≤◌, Bool, List, [], ◌∷◌, length, refl, sym, ap, subst, ◌∙◌, arith}
use Rattle.std.specs.Prelude.{Option, Some, None}
use Rattle.mcs_ticks.specs.Queue.{by_priority, first_of}
use Rattle.mcs_ticks.specs.declared.queue.Queued.{Queued}
use Rattle.mcs_ticks.specs.declared.row.Row.{Row}
use Rattle.mcs_ticks.specs.declared.row.What.TheVariants as row
use Rattle.mcs_ready.specs.Ready.{thread_of as thread_of_queued}
use Rattle.mcs_release.specs.declared.dated.Dated.{Dated}
use Rattle.mcs_release.specs.Release.{first_due, without, without_first_due, when_left, thread_of}
use Rattle.mcs_core.specs.declared.standing.Standing.TheVariants.{Done}
use Rattle.mcs_system.specs.System.{System}
use Rattle.mcs_core.specs.Core.{Core}
use Rattle.mcs_core.specs.Turn.{silent, says, ◌followed_by◌, enters_back, released, releases}
use Rattle.mcs_core.specs.declared.log.Here.{Here}
use Rattle.mcs_core.specs.declared.log.Log.{Log}
use Rattle.mcs_core.specs.stored.Parts.{Makes}
use Rattle.mcs_core.specs.stored.Sound.{times_ready, times_pending, Phase, IsFree, IsPlaced, IsSound}
use Rattle.mcs_core.specs.Places.{times_dated}
use Rattle.mcs_core.specs.stored.Sound.Phase.{PastTick}
use Rattle.mcs_core.proofs.Soundness.{IsOneEach, itself}
use Rattle.mcs_core.proofs.Turning.{all_due, first_entered, first-due, stands-due, releases-step, releases-none, release-sound, leaves-sound, placed-from, at_most_once, best-ready}

fewer-without : (x : ℕ) (ds : List Dated) → 1 ≤ times_dated x ds → length (without x ds) < length ds
fewer-without x [] h = absurd (omega arith)
fewer-without x (d ∷ ds) h = grind (arith, fewer-without x ds)

-- the thread x that the code takes at t, and what follows
pub record IsReleased (system : System) (c t x : ℕ) (core : Core) : Type 0 where
  pub due : Dated
  pub its : due.thread ≡ x
  pub left : without_first_due t core.releases ≡ without x core.releases
  pub fewer : length (without x core.releases) < length core.releases
  pub free : IsFree system x (record core { releases = without x core.releases })
  pub sound : IsSound system c t PastTick None (enters_back by_priority x None (record core { releases = without x core.releases }))
  pub step : releases by_priority system t core ≡ (released by_priority due (record core { releases = without x core.releases }) followed_by releases by_priority system t)

module _ (system : System) (c : ℕ) (one_each : IsOneEach system) (t : ℕ) (soon : t ≤ 2 ^ 40) where
  released-at : (core : Core) (d : Dated) (rest : List Dated) → all_due system t core.releases ≡ d ∷ rest → first_due t core.releases ≡ Some d → IsSound system c t PastTick None core →
      IsReleased system c t d.thread core
  released-at core d rest e first h =
      let some = stands-due system t core.releases d rest e in
      let left = leaves-sound system c t one_each d.thread core some h in
      let p = placed-from system c t one_each d.thread (record core { releases = without d.thread core.releases }) left in
      let few = at_most_once system c one_each t soon d.thread core h in
      record {
        due = d;
        its = refl;
        left = ap (λ o. when_left o core.releases) first;
        fewer = fewer-without d.thread core.releases some;
        free = record {
          known = rw h.threads p.known;
          placed = p;
          not_ready = left.ready d.thread ∙ ap times_ready (itself d.thread Done _);
          not_pending = left.pending d.thread ∙ ap times_pending (itself d.thread Done _);
        };
        sound = release-sound system c one_each t soon core d rest e h;
        step = releases-step system t d rest core e few;
      }

  pub released-is : (x : ℕ) (core : Core) → IsSound system c t PastTick None core → thread_of (first_due t core.releases) ≡ Some x → IsReleased system c t x core
  released-is x core h e = by (all_due system t core.releases) refl
    where
      by : (ds : List Dated) → all_due system t core.releases ≡ ds → IsReleased system c t x core
      by [] f =
          let none : first_due t core.releases ≡ None = first-due system t core.releases h.later ∙ ap (λ (ds : List Dated). first_entered system t ds) f in
          let g : thread_of None ≡ Some x = ap thread_of (sym none) ∙ e in cc
      by (d ∷ rest) f =
          let first : first_due t core.releases ≡ Some d = first-due system t core.releases h.later ∙ ap (λ ds. first_entered system t ds) f in
          let g : Some d.thread ≡ Some x = ap thread_of (sym first) ∙ e in
          let its : d.thread ≡ x = cc in
          subst (λ (y : ℕ). IsReleased system c t y core) its (released-at core d rest f first h)

  pub none-released : (core : Core) → IsSound system c t PastTick None core → thread_of (first_due t core.releases) ≡ None → releases by_priority system t core ≡ silent core
  none-released core h e = by (all_due system t core.releases) refl
    where
      by : (ds : List Dated) → all_due system t core.releases ≡ ds → releases by_priority system t core ≡ silent core
      by [] f = releases-none system t core f
      by (d ∷ rest) f =
          let first : first_due t core.releases ≡ Some d = first-due system t core.releases h.later ∙ ap (λ ds. first_entered system t ds) f in
          let g : thread_of (Some d) ≡ None = ap thread_of (sym first) ∙ e in cc

  pub none-left : (core : Core) → thread_of (first_due t core.releases) ≡ None → without_first_due t core.releases ≡ core.releases
  none-left core e = grind arith

-- what the code makes of the thread that it takes is what is made of one whose date has come
pub made-released : {S : Type 0} {takes : S → Row → Bool → S → Type 0} (here : Here) (due : Dated) (x : ℕ) (core core' left : Core) (before after : Log S) → due.thread ≡ x → core' ≡ core →
    Makes takes here (says (row.Release x) (enters_back by_priority x None core')) left before after → Makes takes here (released by_priority due core) left before after
made-released {S} {takes} here due x core core' left before after e f h =
    let P : Core → Type 0 = λ (y : Core). Makes takes here (says (row.Release x) (enters_back by_priority x None y)) left before after in
    let Q : ℕ → Type 0 = λ y. Makes takes here (says (row.Release y) (enters_back by_priority y None core)) left before after in
    subst Q (sym e) (subst P f h)

-- the best ready thread is one of the core
pub best-placed : (system : System) (c from : ℕ) (phase : Phase) (x : ℕ) (core : Core) → IsSound system c from phase None core → thread_of_queued (first_of core.ready) ≡ Some x → IsPlaced system x core
best-placed system c from phase x core h e = by (first_of core.ready) refl e
  where
    by : (o : Option Queued) → first_of core.ready ≡ o → thread_of_queued o ≡ Some x → IsPlaced system x core
    by None f g = cc
    by (Some best) f g =
        let its : best.thread ≡ x = cc in
        let P : ℕ → Type 0 = λ y. IsPlaced system y core in
        subst P its (h.here best.thread (rw (best-ready system c from phase core best h f) refl))
