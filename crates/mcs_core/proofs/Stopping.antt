-- Threads that stop, move on in their scripts, and are woken: the core stays sound.
use Rattle.std.proofs.Common.{◌≡◌, ℕ, ◌+◌, ◌^◌, ◌<◌, ◌≤◌, Bool, true, false, cond, List, length, set, inl, inr, refl, sym, ap, ◌∙◌, arith}
use Rattle.std.specs.Prelude.{◌==◌, ◌&&◌, not, nat_le, Option, Some, None}
use Rattle.std.proofs.lemmas.Bool.{cases_eq}
use Rattle.std.proofs.Math.ListN.{length-set}
use Rattle.mcs_ticks.specs.Queue.{by_priority}
use Rattle.mcs_ticks.specs.declared.row.Why.{Why}
use Rattle.mcs_control.specs.Context.{Context, head_moment, context_charged, context_unblocked, woken_by, chosen_by}
use Rattle.mcs_control.specs.declared.config.Mode.{Mode}
use Rattle.mcs_control.specs.declared.config.Mode.TheVariants as modes
use Rattle.mcs_script.specs.declared.item.Item.{Item}
use Rattle.mcs_script.specs.declared.moved.Moved.{Moved}
use Rattle.mcs_script.specs.declared.moved.Moved.TheVariants.{Next, RoundEnds, AllDone}
use Rattle.mcs_script.specs.declared.place.Place.{Place}
use Rattle.mcs_script.specs.Script.{next_of, move_by, move_after, place_after}
use Rattle.mcs_script.proofs.Steps.{next-within}
use Rattle.mcs_core.specs.declared.standing.Standing.{Standing}
use Rattle.mcs_core.specs.declared.standing.Standing.TheVariants.{Done}
use Rattle.mcs_core.specs.declared.standing.Thread.{Thread}
use Rattle.mcs_system.specs.System.{System, thread_part}
use Rattle.mcs_core.specs.Core.{Core, thread_of, note_of, with_thread, with_note, off}
use Rattle.mcs_core.specs.Turn.{its_context, date_of, charged, given, moves, moves_on, move_of, stops, stops_to_back, enters_front}
use Rattle.mcs_core.specs.stored.Sound.{times_ready, times_pending, times_blocked, is_here, may_run, Phase, IsPlaced, IsContextOf, IsSound}
use Rattle.mcs_core.specs.Places.{times_queued, times_dated, times_waiting}
use Rattle.mcs_core.proofs.Counts.{times_waiting-set}
use Rattle.mcs_core.proofs.Soundness.{IsOneEach, runs-same, re_stands, retold, re_runs, loosened, arrived, recontexted, keeps_alone, thread-same, thread-other}
use Rattle.mcs_core.proofs.Budgets.{accepted-is, charged-kept, unblocked-kept}
use Rattle.mcs_core.proofs.Enters.{date-early, enters_back-sound, enters_front-sound}

-- a place in a script stays one when the thread moves on
pub place-within : (call rounds : ℕ) (script : List Item) (place : Place) → place.item < length script →
    (place_after call script (move_after script rounds place) place).item < length script
place-within call rounds script place h = by (next_of script place) refl
  where
    by : (o : Option ℕ) → next_of script place ≡ o → (place_after call script (move_by o rounds place) place).item < length script
    by (Some next) e = rw e (next-within script place.word place.item next h e)
    by None e = either-way (not (rounds == 0) && nat_le rounds place.round)
      where
        either-way : (b : Bool) → (place_after call script (cond b AllDone RoundEnds) place).item < length script
        either-way true = h
        either-way false = omega (arith, h)

pub unblocked-early : (t : ℕ) (context : Context) → t ≤ 2 ^ 40 → head_moment context ≤ 2 ^ 40 → head_moment (context_unblocked t context) ≤ 2 ^ 40
unblocked-early t context l h = grind arith

-- a wake and a choice unblock, or change nothing
pub woken-early : (t : ℕ) (mode : Mode) (context : Context) → t ≤ 2 ^ 40 → head_moment context ≤ 2 ^ 40 → head_moment (woken_by mode t context) ≤ 2 ^ 40
woken-early t mode context l h = grind (arith, unblocked-early t context)

pub chosen-early : (t : ℕ) (mode : Mode) (context : Context) → t ≤ 2 ^ 40 → head_moment context ≤ 2 ^ 40 → head_moment (chosen_by mode t context) ≤ 2 ^ 40
chosen-early t mode context l h = grind (arith, unblocked-early t context)

unblocked-budget : (system : System) (k t : ℕ) (context : Context) → IsContextOf system k context → IsContextOf system k (context_unblocked t context)
unblocked-budget system k t context b = record { accepted = b.accepted; same_kind = b.same_kind; kept = unblocked-kept t context b.kept }

pub woken-budget : (system : System) (k t : ℕ) (mode : Mode) (context : Context) → IsContextOf system k context → IsContextOf system k (woken_by mode t context)
woken-budget system k t modes.Sporadic context b = unblocked-budget system k t context b
woken-budget system k t modes.Bandwidth context b = b

pub chosen-budget : (system : System) (k t : ℕ) (mode : Mode) (context : Context) → IsContextOf system k context → IsContextOf system k (chosen_by mode t context)
chosen-budget system k t modes.Sporadic context b = b
chosen-budget system k t modes.Bandwidth context b = unblocked-budget system k t context b

module _ (system : System) (number from : ℕ) (each : IsOneEach system) where
  -- the thread that runs leaves the core
  pub off-sound : (phase after : Phase) (x using : ℕ) (s s' : Standing) (core : Core) → IsSound system number from phase (Some (record { thread = x; standing = s })) core →
      is_here s ≡ true → times_ready s ≡ times_ready s' → times_pending s ≡ times_pending s' → times_blocked s ≡ times_blocked s' → may_run s' ≡ false →
      IsSound system number from after (Some (record { thread = x; standing = s' })) (off core)
  off-sound phase after x using s s' core h here a b d still =
      re_runs system number from phase after (Some (record { thread = x; standing = s' })) (off core) None (λ y. refl)
      (re_stands system number from phase x s s' core None core.ready core.releases core.notes h
      (λ y. ap (λ n. times_queued y core.ready + cond (x == y) n 0) a)
      (λ y. ap (λ n. times_dated y core.releases + cond (x == y) n 0) b)
      (λ y. ap (λ n. times_waiting y core.notes + cond (x == y) n 0) d)
      refl here (λ e. cc) h.dates h.later tt) tt

  -- its context is charged
  pub charged-sound : (phase : Phase) (x k : ℕ) (s : Standing) (core : Core) → IsSound system number from phase (Some (record { thread = x; standing = s })) (off core) →
      IsPlaced system x core → may_run s ≡ false → times_pending s ≡ 0 → 1 ≤ k →
      IsSound system number from phase (Some (record { thread = x; standing = s })) (off (charged system x k core))
  charged-sound phase x k s core h p still away some =
      let b = h.budgets (thread_part system x).context p.has in
      recontexted system number from phase (thread_part system x).context (Some (record { thread = x; standing = s })) (context_charged k system.min_budget (its_context system x core)) (off core) h
      p.has (rw h.contexts p.bound)
      (record { accepted = b.accepted; same_kind = b.same_kind; kept = charged-kept k system.min_budget (its_context system x core) some (accepted-is system.min_budget _ b.accepted).some b.kept })
      (keeps_alone system number from phase x s (context_charged k system.min_budget (its_context system x core)) (off core) each h p.known still away) tt

  -- a stop for good or until a signal
  pub stops-sound : (phase : Phase) (t x k : ℕ) (cause : Why) (s : Standing) (core : Core) → IsSound system number from phase (Some (record { thread = x; standing = s })) (off core) →
      IsPlaced system x core → may_run s ≡ false → times_pending s ≡ 0 → is_here s ≡ true → 1 ≤ k →
      IsSound system number from phase None (stops system x cause k s core).core
  stops-sound phase t x k cause s core h p still away here some =
      arrived system number from phase x s (record (thread_of core x) { standing = s }) (off (charged system x k core)) (charged-sound phase x k s core h p still away some)
      (rw h.threads p.known) refl (λ e. p.item) tt

  -- a stop to the back, and one to the front
  pub stops_to_back-sound : (phase : Phase) (t x k : ℕ) (cause : Why) (core : Core) → t ≤ 2 ^ 40 → from ≤ t + 1 → IsSound system number from phase (Some (record { thread = x; standing = Done })) (off core) →
      IsPlaced system x core → 1 ≤ k → IsSound system number from phase None (stops_to_back by_priority system t x cause k core).core
  stops_to_back-sound phase t x k cause core l f h p some =
      enters_back-sound system number from phase x (date_of system t x (charged system x k core)) (off (charged system x k core)) (charged-sound phase x k Done core h p refl refl some)
      (rw h.threads p.known) p.item (date-early system number from t x (off (charged system x k core)) l f) (λ state. tt)

  pub front-sound : (phase : Phase) (t x : ℕ) (core : Core) → t ≤ 2 ^ 40 → from ≤ t + 1 → IsSound system number from phase (Some (record { thread = x; standing = Done })) (off core) →
      IsPlaced system x core → IsSound system number from phase None (enters_front by_priority x (date_of system t x core) (off core))
  front-sound phase t x core l f h p =
      enters_front-sound system number from phase x (date_of system t x core) (off core) h
      (rw h.threads p.known) p.item (date-early system number from t x (off core) l f) (λ state. tt)

  -- the state of a thread changes, but not how it stands
  pub replaced : (phase : Phase) (x : ℕ) (state : Thread) (core : Core) → IsSound system number from phase None core → x < length core.threads →
      state.standing ≡ (thread_of core x).standing → (is_here state.standing ≡ true → state.place.item < length (thread_part system x).script) →
      IsSound system number from phase None (with_thread x state core)
  replaced phase x state core h l e item =
      arrived system number from phase x state.standing state core (loosened system number from phase x state.standing core (sym e) h) l refl item
      (runs-same system core (with_thread x state core) refl phase (λ y runs. same y ∙ runs) core.running h.running)
    where
      same : (y : ℕ) → (thread_of (with_thread x state core) y).standing ≡ (thread_of core y).standing
      same y = elim (cases_eq y x) [
        | inl f ↦ rw (thread-same system number from x y state core l f, f) e
        | inr f ↦ rw (thread-other system number from x y state core f) refl
      ]

  -- a thread moves on, or is given its word
  pub moves-sound : (phase : Phase) (t x : ℕ) (core : Core) → IsSound system number from phase None core → IsPlaced system x core → IsSound system number from phase None (moves_on system t x core).core
  moves-sound phase t x core h p = by (move_of system x core) (place-within system.call (thread_part system x).rounds (thread_part system x).script (thread_of core x).place p.item)
    where
      by : (m : Moved) → (place_after system.call (thread_part system x).script m (thread_of core x).place).item < length (thread_part system x).script →
          IsSound system number from phase None (moves system t x m core).core
      by Next i = replaced phase x _ core h (rw h.threads p.known) refl (λ e. i)
      by RoundEnds i = replaced phase x _ core h (rw h.threads p.known) refl (λ e. i)
      by AllDone i = h

  pub given-sound : (phase : Phase) (t x word : ℕ) (core : Core) → IsSound system number from phase None core → IsPlaced system x core → IsSound system number from phase None (given system t x word core)
  given-sound phase t x word core h p = replaced phase x _ core h (rw h.threads p.known) refl (λ e. p.item)

  -- another word at a notification with the same waiters
  pub reworded : (phase : Phase) (note word : ℕ) (core : Core) → IsSound system number from phase None core → note < length core.notes →
      IsSound system number from phase None (with_note note (record { word = word; waiters = (note_of core note).waiters }) core)
  reworded phase note word core h l =
      retold system number from from phase phase None None core core.running (set core.notes note (record { word = word; waiters = (note_of core note).waiters })) (λ y. refl) (length-set core.notes note _)
      (λ y. omega (arith, times_waiting-set y note (record { word = word; waiters = (note_of core note).waiters }) core.notes l)) h h.running h.later
