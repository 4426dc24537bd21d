-- Parts of a turn that concern another thread leave this one as it is.
use Rattle.std.proofs.Common.{◌≡◌, ℕ, Bool, true, false, cond, ◌==◌, [], ◌∷◌, Option, Some, refl, ap, arith}
use Rattle.mcs_ticks.specs.Queue.{by_priority}
use Rattle.mcs_ticks.specs.declared.row.What.TheVariants as row
use Rattle.mcs_ticks.specs.declared.row.Why.{Why}
use Rattle.mcs_ticks.specs.declared.row.Why.TheVariants as why
use Rattle.mcs_control.specs.Context.{head_amount}
use Rattle.mcs_notify.specs.Note.{posted, after_post, after_wait}
use Rattle.mcs_notify.specs.declared.posted.Posted.{Posted}
use Rattle.mcs_notify.specs.declared.posted.Posted.TheVariants.{Woke, Held}
use Rattle.mcs_notify.specs.declared.posted.Waited.{Waited}
use Rattle.mcs_notify.specs.declared.posted.Waited.TheVariants.{Got, Blocks}
use Rattle.mcs_script.specs.Script.{place_after}
use Rattle.mcs_script.specs.declared.moved.Moved.{Moved}
use Rattle.mcs_script.specs.declared.moved.Moved.TheVariants.{Next, RoundEnds, AllDone}
use Rattle.mcs_system.specs.System.{System, note_part, thread_part}
use Rattle.mcs_core.specs.declared.standing.AfterItem.{AfterItem}
use Rattle.mcs_core.specs.declared.standing.AfterItem.TheVariants as after
use Rattle.mcs_core.specs.declared.standing.Standing as core_standing
use Rattle.mcs_core.specs.Core.{Core, thread_of, note_of, with_note, stands, off}
use Rattle.mcs_core.specs.Places.{times_queued, times_waiting}
use Rattle.mcs_core.specs.Turn as turns
use Rattle.mcs_core.specs.Turn.{Turn, silent, says, ◌followed_by◌}
use Rattle.mcs_core.proofs.Counts.{times_queued-append, times_queued-without, times_waiting-at}
use Rattle.mcs_laws.proofs.Places.{woke}
use Rattle.mcs_verdict_laws.proofs.Holds.{Same, same-refl, same-trans, same-context, same-thread, same-note, same-back, same-front, same-off, Aside, aside-then, aside-silent, aside_if}
use Rattle.mcs_verdict_laws.proofs.Entering.{equal}

module _ (system : System) (x : ℕ) where
  placed-aside : (t y since : ℕ) (move : Moved) (k : Core) → (y == x) ≡ false → Same system x k (turns.placed system t y move since k)
  placed-aside t y since move k e =
      same-thread system x y
      (record (thread_of k y) { place = place_after system.call (thread_part system y).script move (thread_of k y).place; since = since })
      k e

  pub moves-aside : (t y : ℕ) (move : Moved) (k : Core) → (y == x) ≡ false → Aside system x k (turns.moves system t y move k)
  moves-aside t y Next k e = record { same = placed-aside t y (thread_of k y).since Next k e; rows = tt }
  moves-aside t y RoundEnds k e = record { same = placed-aside t y t RoundEnds k e; rows = (e, tt) }
  moves-aside t y AllDone k e = record { same = same-refl system x k; rows = (e, tt) }

  pub moves_on-aside : (t y : ℕ) (k : Core) → (y == x) ≡ false → Aside system x k (turns.moves_on system t y k)
  moves_on-aside t y k e = moves-aside t y (turns.move_of system y k) k e

  given-aside : (t y word : ℕ) (k : Core) → (y == x) ≡ false → Same system x k (turns.given system t y word k)
  given-aside t y word k e = same-thread system x y (turns.round_begun (thread_part system y).script t word (thread_of k y)) k e

  wakes-aside : (t y word : ℕ) (k : Core) → (y == x) ≡ false → Aside system x k (turns.wakes by_priority system t y word k)
  wakes-aside t y word k e =
      let context = turns.with_woken_context system t y k in
      let woken = turns.given system t y word context in
      let moved = turns.moves_on system t y woken in
      let a = moves_on-aside t y woken e in
      let before = same-trans system x k context woken (same-context system x _ _ k) (given-aside t y word context e) in
      aside-then system x k moved (λ core. silent (turns.enters_back by_priority y (turns.date_of system t y core) core))
      record { same = same-trans system x k woken moved.core before a.same; rows = a.rows }
      (aside-silent system x moved.core (turns.enters_back by_priority y (turns.date_of system t y moved.core) moved.core)
      (same-back system x y (turns.date_of system t y moved.core) moved.core e))

  pub woke-aside : (t note badge y word : ℕ) (k : Core) → posted badge (note_of k note) ≡ Woke y word → (y == x) ≡ false
      → Aside system x k (turns.posts_as by_priority system t note (Woke y word) k)
  woke-aside t note badge y word k p e =
      let waits = woke y word badge (note_of k note).word (note_of k note).waiters p in
      let left = times_queued-without x y (note_of k note).waiters waits in
      let none : ◌≡◌ {A = ℕ} (cond (y == x) 1 0) 0 = ap (λ b. cond b 1 0) e in
      let noted = with_note note (after_post (Woke y word) (note_of k note)) k in
      aside-then system x k (says (row.Wake y note word (turns.woken_until system t y k)) noted) (turns.wakes by_priority system t y word)
      record {
        same = same-note system x note (after_post (Woke y word) (note_of k note)) k (omega (arith, left, none));
        rows = (e, tt);
      }
      (wakes-aside t y word noted e)

  pub held-aside : (t note word : ℕ) (k : Core) → Aside system x k (turns.posts_as by_priority system t note (Held word) k)
  held-aside t note word k = record { same = same-note system x note (after_post (Held word) (note_of k note)) k refl; rows = (tt, tt) }

  -- a post wakes nobody who does not wait
  posts_as-aside : (t note badge : ℕ) (post : Posted) (k : Core) → posted badge (note_of k note) ≡ post → times_waiting x k.notes ≡ 0
      → Aside system x k (turns.posts_as by_priority system t note post k)
  posts_as-aside t note badge (Held word) k p none = held-aside t note word k
  posts_as-aside t note badge (Woke y word) k p none = by (y == x) refl
    where
      by : (b : Bool) → (y == x) ≡ b → Aside system x k (turns.posts_as by_priority system t note (Woke y word) k)
      by true e =
          let waits = woke y word badge (note_of k note).word (note_of k note).waiters p in
          let own = ap (λ z. times_queued z (note_of k note).waiters) (equal y x e) in
          let at = times_waiting-at x note k.notes in
          absurd (omega (arith, waits, own, at, none))
      by false e = woke-aside t note badge y word k p e

  pub posts-aside : (t note badge : ℕ) (k : Core) → times_waiting x k.notes ≡ 0 → Aside system x k (turns.posts by_priority system t note badge k)
  posts-aside t note badge k none = posts_as-aside t note badge (posted badge (note_of k note)) k refl none

  pub signals-aside : (c t y note badge : ℕ) (k : Core) → times_waiting x k.notes ≡ 0
      → Aside system x k (turns.signals by_priority system c t y note badge k)
  signals-aside c t y note badge k none =
      let sent : Turn = record { core = k; rows = []; mails = turns.mail_to system c t note badge ∷ [] } in
      let a =
      aside_if system x k ((note_part system note).core == c) (turns.posts by_priority system t note badge k) sent
      (posts-aside t note badge k none)
      record { same = same-refl system x k; rows = tt }
      in
      record { same = a.same; rows = (tt, a.rows) }

  -- a thread is let into a server
  let_in-aside : (t y : ℕ) (k : Core) → (y == x) ≡ false → Aside system x k (turns.let_in by_priority system t y k)
  let_in-aside t y k e =
      let context = turns.with_woken_context system t y k in
      let moved = turns.moves_on system t y context in
      let a = moves_on-aside t y context e in
      aside-then system x k moved (λ core. silent (turns.enters_front by_priority y (turns.date_of system t y core) core))
      record { same = same-trans system x k context moved.core (same-context system x _ _ k) a.same; rows = a.rows }
      (aside-silent system x moved.core (turns.enters_front by_priority y (turns.date_of system t y moved.core) moved.core)
      (same-front system x y (turns.date_of system t y moved.core) moved.core e))

  pub let-aside : (t server y word : ℕ) (k : Core) → posted 1 (note_of k server) ≡ Woke y word → (y == x) ≡ false
      → Aside system x k (turns.frees_as by_priority system t server (Woke y word) k)
  let-aside t server y word k p e =
      let waits = woke y word 1 (note_of k server).word (note_of k server).waiters p in
      let left = times_queued-without x y (note_of k server).waiters waits in
      let none : ◌≡◌ {A = ℕ} (cond (y == x) 1 0) 0 = ap (λ b. cond b 1 0) e in
      let noted = with_note server (after_post (Woke y word) (note_of k server)) k in
      aside-then system x k (says (row.Wake y server word (turns.woken_until system t y k)) noted) (turns.let_in by_priority system t y)
      record {
        same = same-note system x server (after_post (Woke y word) (note_of k server)) k (omega (arith, left, none));
        rows = (e, tt);
      }
      (let_in-aside t y noted e)

  pub free-aside : (t server word : ℕ) (k : Core) → Aside system x k (turns.frees_as by_priority system t server (Held word) k)
  free-aside t server word k = record { same = same-note system x server (after_post (Held word) (note_of k server)) k refl; rows = tt }

  frees_as-aside : (t server : ℕ) (post : Posted) (k : Core) → posted 1 (note_of k server) ≡ post → times_waiting x k.notes ≡ 0
      → Aside system x k (turns.frees_as by_priority system t server post k)
  frees_as-aside t server (Held word) k p none = free-aside t server word k
  frees_as-aside t server (Woke y word) k p none = by (y == x) refl
    where
      by : (b : Bool) → (y == x) ≡ b → Aside system x k (turns.frees_as by_priority system t server (Woke y word) k)
      by true e =
          let waits = woke y word 1 (note_of k server).word (note_of k server).waiters p in
          let own = ap (λ z. times_queued z (note_of k server).waiters) (equal y x e) in
          let at = times_waiting-at x server k.notes in
          absurd (omega (arith, waits, own, at, none))
      by false e = let-aside t server y word k p e

  pub frees-aside : (t y server : ℕ) (k : Core) → times_waiting x k.notes ≡ 0 → Aside system x k (turns.frees by_priority system t y server k)
  frees-aside t y server k none =
      let a = frees_as-aside t server (posted 1 (note_of k server)) k refl none in
      record { same = a.same; rows = (tt, a.rows) }

  pub enters_as-aside : (t y server : ℕ) (w : Waited) (k : Core) → (y == x) ≡ false → Aside system x k (turns.enters_as system t y server w k)
  enters_as-aside t y server (Got word) k e =
      let noted = with_note server (after_wait (Got word) (turns.queued y k) (note_of k server)) k in
      let a = moves_on-aside t y noted e in
      record {
        same =
            same-trans system x k noted (turns.moves_on system t y noted).core
            (same-note system x server (after_wait (Got word) (turns.queued y k) (note_of k server)) k refl) a.same;
        rows = (e, a.rows);
      }
  enters_as-aside t y server Blocks k e =
      let more = times_queued-append x (note_of k server).waiters (turns.queued y k) in
      let none : ◌≡◌ {A = ℕ} (cond (y == x) 1 0) 0 = ap (λ b. cond b 1 0) e in
      record {
        same = same-note system x server (after_wait Blocks (turns.queued y k) (note_of k server)) k (omega (arith, more, none));
        rows = tt;
      }

  pub waits_as-aside : (t y note : ℕ) (w : Waited) (k : Core) → (y == x) ≡ false → Aside system x k (turns.waits_as system t y note w k)
  waits_as-aside t y note (Got word) k e =
      let noted = with_note note (after_wait (Got word) (turns.queued y k) (note_of k note)) k in
      let given = turns.given system t y word noted in
      let a = moves_on-aside t y given e in
      let before = same-trans system x k noted given
      (same-note system x note (after_wait (Got word) (turns.queued y k) (note_of k note)) k refl) (given-aside t y word noted e) in
      record { same = same-trans system x k given (turns.moves_on system t y given).core before a.same; rows = (e, a.rows) }
  waits_as-aside t y note Blocks k e =
      let more = times_queued-append x (note_of k note).waiters (turns.queued y k) in
      let none : ◌≡◌ {A = ℕ} (cond (y == x) 1 0) 0 = ap (λ b. cond b 1 0) e in
      record {
        same = same-note system x note (after_wait Blocks (turns.queued y k) (note_of k note)) k (omega (arith, more, none));
        rows = tt;
      }

  -- another thread, which runs, stops
  pub leaves-aside : (t y n using : ℕ) (cause : Why) (enters : ℕ → Option ℕ → Core → Core) (k : Core)
      → ((date : Option ℕ) (core : Core) → Same system x core (enters y date core))
      → k.running ≡ Some (record { thread = y; using = using }) → (y == x) ≡ false → Aside system x k
      (turns.leaves by_priority system t enters y cause n k)
  leaves-aside t y n using cause enters k enter r e =
      record {
        same = same-trans system x k (off k) (enters y (turns.date_of system t y k) (off k)) (same-off system x y using k r e)
            (enter (turns.date_of system t y k) (off k));
        rows = (e, tt);
      }

  pub charged-aside : (y n : ℕ) (k : Core) → Same system x k (turns.charged system y n k)
  charged-aside y n k = same-context system x _ _ k

  pub stops_to_back-aside : (t y n using : ℕ) (cause : Why) (k : Core) → k.running ≡ Some (record { thread = y; using = using }) → (y == x) ≡ false
      → Aside system x k (turns.stops_to_back by_priority system t y cause n k)
  stops_to_back-aside t y n using cause k r e =
      let charged = turns.charged system y n k in
      let a = leaves-aside t y n using cause (turns.enters_back by_priority) charged (λ date core. same-back system x y date core e) r e in
      record {
        same = same-trans system x k charged (turns.stops_to_back by_priority system t y cause n k).core
            (charged-aside y n k) a.same;
        rows = a.rows;
      }

  stops-aside : (y n using : ℕ) (cause : Why) (standing : core_standing.Standing) (k : Core) → k.running ≡ Some
      (record { thread = y; using = using }) → (y == x) ≡ false
      → Aside system x k (turns.stops system y cause n standing k)
  stops-aside y n using cause standing k r e =
      let charged = turns.charged system y n k in
      let gone = same-trans system x k charged (off charged) (charged-aside y n k) (same-off system x y using charged r e) in
      record {
        same = same-trans system x k (off charged) (stands y standing (off charged)) gone
            (same-thread system x y (record (thread_of (off charged) y) { standing = standing }) (off charged) e);
        rows = (e, tt);
      }

  spent-aside : (t y using : ℕ) (k : Core) → (held : ℕ) → k.running ≡ Some (record { thread = y; using = held }) → (y == x) ≡ false
      → Aside system x k (turns.may_stop by_priority system t y using after.GoesOn k)
  spent-aside t y using k held r e =
      aside_if system x k (using == head_amount (turns.its_context system y k))
      (turns.stops_to_back by_priority system t y why.Spent using k)
      (silent k)
      (stops_to_back-aside t y using held why.Spent k r e)
      (aside-silent system x k k (same-refl system x k))

  pub may_stop-aside : (t y using held : ℕ) (cause : AfterItem) (k : Core) → k.running ≡ Some (record { thread = y; using = held }) → (y == x) ≡ false
      → Aside system x k (turns.may_stop by_priority system t y using cause k)
  may_stop-aside t y using held after.Ends k r e = stops-aside y using held why.Done core_standing.TheVariants.Done k r e
  may_stop-aside t y using held after.Blocks k r e = stops-aside y using held why.Wait core_standing.TheVariants.Blocked k r e
  may_stop-aside t y using held after.Calls k r e = stops-aside y using held why.Call core_standing.TheVariants.Blocked k r e
  may_stop-aside t y using held after.Yields k r e = stops_to_back-aside t y (head_amount (turns.its_context system y k)) held why.Yield k r e
  may_stop-aside t y using held after.GoesOn k r e = spent-aside t y using k held r e
