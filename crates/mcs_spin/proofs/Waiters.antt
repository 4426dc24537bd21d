-- No thread that only computes waits.
use Rattle.std.proofs.Common.{◌≡◌, ℕ, zero, suc, Bool, true, false, cond, List, [], ◌∷◌, ◌++◌, length, set, get_or}
use Rattle.std.specs.Prelude.{◌==◌, nat_lt}
use Rattle.std.specs.List.{AllByRecursion}
use Rattle.mcs_ticks.specs.Queue.{first_among, without}
use Rattle.mcs_ticks.specs.declared.queue.Queued.{Queued}
use Rattle.mcs_notify.specs.Note.{Note, posted, quiet_note}
use Rattle.mcs_notify.specs.declared.posted.Posted.{Posted}
use Rattle.mcs_notify.specs.declared.posted.Posted.TheVariants.{Woke, Held}
use Rattle.mcs_system.specs.System.{System}
use Rattle.mcs_core.specs.Core.{Core}
use Rattle.mcs_spin.specs.Spun.{is_spun}

module _ (system : System) where
  abbrev pub Other : Queued → Type 0
  Other queued = is_spun system queued.thread ≡ false

  abbrev pub WaitsOther : Note → Type 0
  WaitsOther note = AllByRecursion Other note.waiters

  -- a state for each thread of the system, and only other threads wait
  pub record IsSound (core : Core) : Type 0 where
    pub threads : length core.threads ≡ length system.threads
    pub waiters : AllByRecursion WaitsOther core.notes

  -- a post wakes such a thread alone
  abbrev pub WakesOther : Posted → Type 0
  WakesOther (Woke x word) = is_spun system x ≡ false
  WakesOther (Held word) = Unit {0}

  among-other : (best : Queued) (ws : List Queued) → Other best → AllByRecursion Other ws → Other (first_among best ws)
  among-other best [] e h = e
  among-other best (w ∷ ws) e h = by (nat_lt best.priority w.priority) (among-other w ws h.0 h.1) (among-other best ws e h.1)
    where
      by : (b : Bool) → Other (first_among w ws) → Other (first_among best ws) → Other (cond b (first_among w ws) (first_among best ws))
      by true i j = i
      by false i j = j

  pub wakes-other : (badge : ℕ) (note : Note) → WaitsOther note → WakesOther (posted badge note)
  wakes-other badge note h = by note.word note.waiters h
    where
      by : (held : ℕ) (ws : List Queued) → AllByRecursion Other ws → WakesOther (posted badge (record { word = held; waiters = ws }))
      by held [] h = tt
      by held (w ∷ ws) h = among-other w ws h.0 h.1

  pub without-other : (x : ℕ) (ws : List Queued) → AllByRecursion Other ws → AllByRecursion Other (without x ws)
  without-other x [] h = tt
  without-other x (w ∷ ws) h = by (w.thread == x) (without-other x ws h.1)
    where
      by : (b : Bool) → AllByRecursion Other (without x ws) → AllByRecursion Other (cond b ws (w ∷ without x ws))
      by true i = h.1
      by false i = (h.0, i)

  pub push-other : (q : Queued) (ws : List Queued) → Other q → AllByRecursion Other ws → AllByRecursion Other (ws ++ q ∷ [])
  push-other q [] e h = (e, tt)
  push-other q (w ∷ ws) e h = (h.0, push-other q ws e h.1)

  pub got-note : (i : ℕ) (notes : List Note) → AllByRecursion WaitsOther notes → WaitsOther (get_or notes i quiet_note)
  got-note zero [] h = tt
  got-note (suc i) [] h = tt
  got-note zero (note ∷ notes) h = h.0
  got-note (suc i) (note ∷ notes) h = got-note i notes h.1

  pub set-note : (i : ℕ) (note : Note) (notes : List Note) → WaitsOther note → AllByRecursion WaitsOther notes → AllByRecursion WaitsOther (set notes i note)
  set-note zero note [] e h = tt
  set-note (suc i) note [] e h = tt
  set-note zero note (n ∷ notes) e h = (e, h.1)
  set-note (suc i) note (n ∷ notes) e h = (h.0, set-note i note notes e h.1)
