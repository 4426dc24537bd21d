-- A turn of a core of the spun system makes what the turn of the system makes, without the ends of
-- rounds of threads that only compute.
use Rattle.std.proofs.Common.{◌≡◌, ℕ, ◌+◌, ◌-◌, Bool, true, false, cond, not, List, [], ◌∷◌, ◌++◌, refl, sym, ap, subst, ◌∙◌, Option, Some, None}
use Rattle.std.specs.Prelude.{filter, ◌==◌, nat_lt}
use Rattle.std.specs.List.{slice_get}
use Rattle.std.proofs.lemmas.List.Elements.{filter-append}
use Rattle.std.proofs.Math.ListN.{length-set}
use Rattle.mcs_ticks.specs.Queue.{Discipline}
use Rattle.mcs_ticks.specs.declared.queue.Queued.{Queued}
use Rattle.mcs_ticks.specs.declared.row.What.{What}
use Rattle.mcs_ticks.specs.declared.row.What.TheVariants as row
use Rattle.mcs_ticks.specs.declared.row.Why.{Why}
use Rattle.mcs_ticks.specs.declared.row.Why.TheVariants as why
use Rattle.mcs_control.specs.declared.config.Order.{Order}
use Rattle.mcs_control.specs.Context.{Context, context_charged, context_woken, context_chosen, head_amount, date_from}
use Rattle.mcs_notify.specs.Note.{posted, after_post, waited, after_wait}
use Rattle.mcs_notify.specs.declared.posted.Posted.{Posted}
use Rattle.mcs_notify.specs.declared.posted.Posted.TheVariants.{Woke, Held}
use Rattle.mcs_notify.specs.declared.posted.Waited.{Waited}
use Rattle.mcs_notify.specs.declared.posted.Waited.TheVariants.{Got, Blocks}
use Rattle.mcs_script.specs.declared.item.Item.{Item}
use Rattle.mcs_script.specs.declared.item.Item.TheVariants.{Compute, Signal, Wait, Yield, On, Spin, Enter, Leave}
use Rattle.mcs_script.specs.declared.moved.Moved.{Moved}
use Rattle.mcs_script.specs.declared.moved.Moved.TheVariants.{Next, RoundEnds, AllDone}
use Rattle.mcs_script.specs.Script.{next_of, move_by, move_after, place_after, priority_after, left_after}
use Rattle.mcs_mail.specs.declared.mail.Mail.{Mail}
use Rattle.mcs_system.specs.declared.part.ThreadPart.{ThreadPart}
use Rattle.mcs_system.specs.System.{System, note_part, thread_part}
use Rattle.mcs_core.specs.Alarms.{alarms_at, ringing}
use Rattle.mcs_core.specs.declared.alarm.Alarm.{Alarm}
use Rattle.mcs_core.specs.Contexts.{held}
use Rattle.mcs_core.specs.Core.{Core, note_of, with_note, with_context, with_thread, thread_of, stands, pends, off}
use Rattle.mcs_core.specs.declared.standing.Standing.{Standing}
use Rattle.mcs_core.specs.declared.standing.Standing.TheVariants.{Blocked, Pending, Ready, Running, Done}
use Rattle.mcs_core.specs.declared.standing.AfterItem.{AfterItem}
use Rattle.mcs_core.specs.declared.standing.AfterItem.TheVariants as after
use Rattle.mcs_core.specs.declared.standing.Chosen.{Chosen}
use Rattle.mcs_core.specs.declared.standing.Thread.{Thread}
use Rattle.mcs_release.specs.declared.dated.Dated.{Dated}
use Rattle.mcs_release.specs.Release.{is_due}
use Rattle.mcs_core.specs.Turn as turns
use Rattle.mcs_core.specs.Turn.{Turn, each, silent, says, ◌followed_by◌}
use Rattle.mcs_spin.specs.Spun.{spun, is_spun, stays_as}
use Rattle.mcs_spin.proofs.Parts.{spinning, spun_state, spun_states, part-other, context-same, IsCompute, items-compute, endless, state-same, state-other, left-spun, set-states, kept-states, spinning-kept, counted-state, standing-state, priority-state}
use Rattle.mcs_spin.proofs.Waiters.{IsSound, WakesOther, wakes-other, without-other, push-other, got-note, set-note}

abbrev pub spun_core : System → Core → Core
spun_core system core = record core { threads = spun_states system.threads core.threads }

abbrev pub spun_turn : System → Turn → Turn
spun_turn system made =
    record {
      core = spun_core system made.core;
      rows = filter (stays_as system) made.rows;
      mails = made.mails;
    }

module _ (queue : Discipline) (system : System) (t : ℕ) where
  abbrev other : System
  other = spun system

  abbrev spin : Core → Core
  spin core = spun_core system core

  abbrev Sound : Core → Type 0
  Sound core = IsSound system core

  -- what a part makes, and what the same part of the spun system makes
  pub record Goes (a b : Turn) : Type 0 where
    pub sound : IsSound system a.core
    pub alike : spun_turn system a ≡ b

  goes-to : (a b c : Turn) → Goes a b → b ≡ c → Goes a c
  goes-to a b c h e = record { sound = h.sound; alike = h.alike ∙ e }

  -- one part, and then another
  then_part : (a b : Turn) (f g : Core → Turn) → Goes a b → ((k : Core) → Sound k → Goes (f k) (g (spin k))) → Goes (a followed_by f) (b followed_by g)
  then_part a b f g h p =
      let second = p a.core h.sound in
      record {
        sound = second.sound;
        alike =
            ap made (filter-append (stays_as system) a.rows (f a.core).rows)
            ∙ ap (λ (other : Turn). record { core = other.core; rows = filter (stays_as system) a.rows ++ other.rows; mails = a.mails ++ other.mails }) second.alike
            ∙ ap (λ (first : Turn). first followed_by g) h.alike;
      }
    where
      made : List What → Turn
      made rows = record { core = spin (f a.core).core; rows = rows; mails = a.mails ++ (f a.core).mails }

  by_test : (b : Bool) (u v x y : Turn) → Goes u x → Goes v y → Goes (cond b u v) (cond b x y)
  by_test true u v x y p q = p
  by_test false u v x y p q = q

  either_way : (b : Bool) (u v x : Turn) → Goes u x → Goes v x → Goes (cond b u v) x
  either_way true u v x p q = p
  either_way false u v x p q = q

  each_part : {A : Type 0} (f g : A → Core → Turn) → ((x : A) (k : Core) → Sound k → Goes (f x k) (g x (spin k))) →
      (xs : List A) (k : Core) → Sound k → Goes (each f xs k) (each g xs (spin k))
  each_part f g h [] k s = record { sound = s; alike = refl }
  each_part f g h (x ∷ xs) k s = then_part (f x k) (g x (spin k)) (each f xs) (each g xs) (h x k s) (each_part f g h xs)

  -- a row that stays
  says-goes : (what : What) (k l : Core) → stays_as system what ≡ true → Sound k → spin k ≡ l → Goes (says what k) (says what l)
  says-goes what k l e s f = record { sound = s; alike = ap (λ b. made (cond b (what ∷ []) [])) e ∙ ap (says what) f }
    where
      made : List What → Turn
      made rows = record { core = spin k; rows = rows; mails = [] }

  says_first : (what : What) (k : Core) (f g : Core → Turn) → stays_as system what ≡ true → Sound k → ((l : Core) → Sound l → Goes (f l) (g (spin l))) →
      Goes (says what k followed_by f) (says what (spin k) followed_by g)
  says_first what k f g e s h = then_part (says what k) (says what (spin k)) f g (says-goes what k (spin k) e s refl) h

  -- threads
  sound-thread : (x : ℕ) (state : Thread) (k : Core) → Sound k → Sound (with_thread x state k)
  sound-thread x state k s = record { threads = length-set k.threads x state ∙ s.threads; waiters = s.waiters }

  with-thread : (F : Thread → Thread) (x : ℕ) (k : Core) → ((y : Thread) → spun_state (thread_part system x) (F y) ≡ F (spun_state (thread_part system x) y)) →
      spin (with_thread x (F (thread_of k x)) k) ≡ with_thread x (F (thread_of (spin k) x)) (spin k)
  with-thread F x k h = ap (λ threads. record (spin k) { threads = threads }) (set-states F F system.threads x k.threads h)

  stands-same : (x : ℕ) (standing : Standing) (k : Core) → spin (stands x standing k) ≡ stands x standing (spin k)
  stands-same x standing k = with-thread (λ y. record y { standing = standing }) x k (standing-state (thread_part system x) standing)

  sound-stands : (x : ℕ) (standing : Standing) (k : Core) → Sound k → Sound (stands x standing k)
  sound-stands x standing k s = sound-thread x (record (thread_of k x) { standing = standing }) k s

  priority-same : (x : ℕ) (k : Core) → (thread_of (spin k) x).place.priority ≡ (thread_of k x).place.priority
  priority-same x k = state-same (λ y. y.place.priority) priority-state system.threads x k.threads

  queued-same : (x : ℕ) (k : Core) → turns.queued x (spin k) ≡ turns.queued x k
  queued-same x k = ap (λ priority. record { thread = x; priority = priority }) (priority-same x k)

  -- contexts
  its-same : (x : ℕ) (k : Core) → turns.its_context other x (spin k) ≡ turns.its_context system x k
  its-same x k = ap (λ i. held i k.contexts) (context-same system x)

  changed-same : (change : Context → Context) (x : ℕ) (k : Core) →
      spin (with_context (thread_part system x).context (change (turns.its_context system x k)) k) ≡ with_context (thread_part other x).context (change (turns.its_context other x (spin k))) (spin k)
  changed-same change x k = ap (λ i. with_context i (change (held i k.contexts)) (spin k)) (sym (context-same system x))

  charged-same : (x j : ℕ) (k : Core) → spin (turns.charged system x j k) ≡ turns.charged other x j (spin k)
  charged-same x j k = changed-same (context_charged j system.min_budget) x k

  head-same : (x : ℕ) (k : Core) → head_amount (turns.its_context other x (spin k)) ≡ head_amount (turns.its_context system x k)
  head-same x k = ap head_amount (its-same x k)

  date-same : (x : ℕ) (k : Core) → turns.date_of system t x k ≡ turns.date_of other t x (spin k)
  date-same x k = ap (date_from t) (sym (its-same x k))

  -- places that threads enter
  pends-same : (x date : ℕ) (k : Core) → spin (pends x date k) ≡ pends x date (spin k)
  pends-same x date k = ap (λ (core : Core). record core { releases = k.releases ++ record { thread = x; date = date } ∷ [] }) (stands-same x Pending k)

  sound-pends : (x date : ℕ) (k : Core) → Sound k → Sound (pends x date k)
  sound-pends x date k s = let r = sound-stands x Pending k s in record { threads = r.threads; waiters = r.waiters }

  -- a way to enter
  record IsEntering (enters : ℕ → Option ℕ → Core → Core) : Type 0 where
    alike : (x : ℕ) (until : Option ℕ) (k : Core) → spin (enters x until k) ≡ enters x until (spin k)
    sound : (x : ℕ) (until : Option ℕ) (k : Core) → Sound k → Sound (enters x until k)

  enters_back-same : (x : ℕ) (until : Option ℕ) (k : Core) → spin (turns.enters_back queue x until k) ≡ turns.enters_back queue x until (spin k)
  enters_back-same x (Some date) k = pends-same x date k
  enters_back-same x None k =
      ap (λ (core : Core). record core { ready = queue.back (turns.queued x k) k.ready }) (stands-same x Ready k)
      ∙ ap (λ queued. record (stands x Ready (spin k)) { ready = queue.back queued k.ready }) (sym (queued-same x k))

  sound-back : (x : ℕ) (until : Option ℕ) (k : Core) → Sound k → Sound (turns.enters_back queue x until k)
  sound-back x (Some date) k s = sound-pends x date k s
  sound-back x None k s = let r = sound-stands x Ready k s in record { threads = r.threads; waiters = r.waiters }

  enters_front-same : (x : ℕ) (until : Option ℕ) (k : Core) → spin (turns.enters_front queue x until k) ≡ turns.enters_front queue x until (spin k)
  enters_front-same x (Some date) k = pends-same x date k
  enters_front-same x None k =
      ap (λ (core : Core). record core { ready = queue.front (turns.queued x k) k.ready }) (stands-same x Ready k)
      ∙ ap (λ queued. record (stands x Ready (spin k)) { ready = queue.front queued k.ready }) (sym (queued-same x k))

  sound-front : (x : ℕ) (until : Option ℕ) (k : Core) → Sound k → Sound (turns.enters_front queue x until k)
  sound-front x (Some date) k s = sound-pends x date k s
  sound-front x None k s = let r = sound-stands x Ready k s in record { threads = r.threads; waiters = r.waiters }

  back : IsEntering (turns.enters_back queue)
  back = record { alike = enters_back-same; sound = sound-back }

  front : IsEntering (turns.enters_front queue)
  front = record { alike = enters_front-same; sound = sound-front }

  -- stops
  leaves-goes : (enters : ℕ → Option ℕ → Core → Core) → IsEntering enters → (x : ℕ) (cause : Why) (j : ℕ) (k : Core) → Sound k →
      Goes (turns.leaves queue system t enters x cause j k) (turns.leaves queue other t enters x cause j (spin k))
  leaves-goes enters e x cause j k s =
      record {
        sound = e.sound x (turns.date_of system t x k) (off k) (record { threads = s.threads; waiters = s.waiters });
        alike =
            ap (says (row.Stop x cause j (turns.date_of system t x k))) (e.alike x (turns.date_of system t x k) (off k))
            ∙ ap (λ until. says (row.Stop x cause j until) (enters x until (off (spin k)))) (date-same x k);
      }

  charged-goes : (enters : ℕ → Option ℕ → Core → Core) → IsEntering enters → (x : ℕ) (cause : Why) (j : ℕ) (k : Core) → Sound k →
      Goes (turns.leaves queue system t enters x cause j (turns.charged system x j k)) (turns.leaves queue other t enters x cause j (turns.charged other x j (spin k)))
  charged-goes enters e x cause j k s =
      goes-to _ _ _ (leaves-goes enters e x cause j (turns.charged system x j k) (record { threads = s.threads; waiters = s.waiters }))
      (ap (turns.leaves queue other t enters x cause j) (charged-same x j k))

  stops-goes : (x : ℕ) (cause : Why) (j : ℕ) (standing : Standing) (k : Core) → Sound k →
      Goes (turns.stops system x cause j standing k) (turns.stops other x cause j standing (spin k))
  stops-goes x cause j standing k s =
      record {
        sound = sound-stands x standing (off (turns.charged system x j k)) (record { threads = s.threads; waiters = s.waiters });
        alike =
            ap (says (row.Stop x cause j None))
            (stands-same x standing (off (turns.charged system x j k)) ∙ ap (λ core. stands x standing (off core)) (charged-same x j k));
      }

  may_stop-goes : (x using : ℕ) (cause : AfterItem) (k : Core) → Sound k →
      Goes (turns.may_stop queue system t x using cause k) (turns.may_stop queue other t x using cause (spin k))
  may_stop-goes x using after.Ends k s = stops-goes x why.Done using Done k s
  may_stop-goes x using after.Blocks k s = stops-goes x why.Wait using Blocked k s
  may_stop-goes x using after.Calls k s = stops-goes x why.Call using Blocked k s
  may_stop-goes x using after.Yields k s =
      goes-to _ _ _ (charged-goes (turns.enters_back queue) back x why.Yield (head_amount (turns.its_context system x k)) k s)
      (ap (λ j. turns.stops_to_back queue other t x why.Yield j (spin k)) (sym (head-same x k)))
  may_stop-goes x using after.GoesOn k s =
      goes-to _ _ _
      (by_test (using == head_amount (turns.its_context system x k)) (turns.stops_to_back queue system t x why.Spent using k) (silent k)
      (turns.stops_to_back queue other t x why.Spent using (spin k)) (silent (spin k))
      (charged-goes (turns.enters_back queue) back x why.Spent using k s) (record { sound = s; alike = refl }))
      (ap (λ n. cond (using == n) (turns.stops_to_back queue other t x why.Spent using (spin k)) (silent (spin k))) (sym (head-same x k)))

  -- a thread that does not only compute has the same place in both
  module _ (x : ℕ) (e : is_spun system x ≡ false) where
    thread-other : (k : Core) → thread_of (spin k) x ≡ thread_of k x
    thread-other k = state-other system.threads x k.threads e

    item-other : (k : Core) → turns.item_of system x k ≡ turns.item_of other x (spin k)
    item-other k =
        ap (λ (state : Thread). slice_get (thread_part system x).script state.place.item) (sym (thread-other k))
        ∙ ap (λ (part : ThreadPart). slice_get part.script (thread_of (spin k) x).place.item) (sym (part-other system x e))

    move-other : (k : Core) → turns.move_of system x k ≡ turns.move_of other x (spin k)
    move-other k =
        ap (λ (state : Thread). move_after (thread_part system x).script (thread_part system x).rounds state.place) (sym (thread-other k))
        ∙ ap (λ (part : ThreadPart). move_after part.script part.rounds (thread_of (spin k) x).place) (sym (part-other system x e))

    -- its state changes by its part
    changed-other : (change : ThreadPart → Thread → Thread) (k : Core) →
        spin (with_thread x (change (thread_part system x) (thread_of k x)) k) ≡ with_thread x (change (thread_part other x) (thread_of (spin k) x)) (spin k)
    changed-other change k =
        with-thread (change (thread_part system x)) x k
        (λ y. ap (λ b. cond b (spinning (thread_part system x) (change (thread_part system x) y)) (change (thread_part system x) y)) e
        ∙ ap (λ b. change (thread_part system x) (cond b (spinning (thread_part system x) y) y)) (sym e))
        ∙ ap (λ (part : ThreadPart). with_thread x (change part (thread_of (spin k) x)) (spin k)) (sym (part-other system x e))

    placed-other : (m : Moved) (since : Thread → ℕ) (k : Core) → spin (turns.placed system t x m (since (thread_of k x)) k) ≡ turns.placed other t x m (since (thread_of (spin k) x)) (spin k)
    placed-other m since k =
        changed-other (λ (part : ThreadPart) (y : Thread). record y { place = place_after system.call part.script m y.place; since = since y }) k

    given-other : (word : ℕ) (k : Core) → spin (turns.given system t x word k) ≡ turns.given other t x word (spin k)
    given-other word k = changed-other (λ (part : ThreadPart). turns.round_begun part.script t word) k

    round_row-other : (k : Core) → turns.round_row system t x k ≡ turns.round_row other t x (spin k)
    round_row-other k = ap (λ (state : Thread). row.Round x state.place.round (t - state.since)) (sym (thread-other k))

    moves-other : (m : Moved) (k : Core) → Sound k → Goes (turns.moves system t x m k) (turns.moves other t x m (spin k))
    moves-other Next k s = record { sound = sound-thread x _ k s; alike = ap silent (placed-other Next (λ y. y.since) k) }
    moves-other RoundEnds k s =
        goes-to _ _ _
        (says-goes (turns.round_row system t x k) (turns.placed system t x RoundEnds t k) (turns.placed other t x RoundEnds t (spin k)) (ap not e) (sound-thread x _ k s) (placed-other RoundEnds (λ y. t) k))
        (ap (λ what. says what (turns.placed other t x RoundEnds t (spin k))) (round_row-other k))
    moves-other AllDone k s =
        goes-to _ _ _ (says-goes (turns.round_row system t x k) k (spin k) (ap not e) s refl) (ap (λ what. says what (spin k)) (round_row-other k))

    moves_on-other : (k : Core) → Sound k → Goes (turns.moves_on system t x k) (turns.moves_on other t x (spin k))
    moves_on-other k s = goes-to _ _ _ (moves-other (turns.move_of system x k) k s) (ap (λ m. turns.moves other t x m (spin k)) (move-other k))

    -- it waits
    sound-waits : (note : ℕ) (w : Waited) (k : Core) → Sound k → Sound (with_note note (after_wait w (turns.queued x k) (note_of k note)) k)
    sound-waits note (Got word) k s =
        record { threads = s.threads; waiters = set-note system note (after_wait (Got word) (turns.queued x k) (note_of k note)) k.notes (got-note system note k.notes s.waiters) s.waiters }
    sound-waits note Blocks k s =
        record {
          threads = s.threads;
          waiters = set-note system note (after_wait Blocks (turns.queued x k) (note_of k note)) k.notes (push-other system (turns.queued x k) (note_of k note).waiters e (got-note system note k.notes s.waiters)) s.waiters;
        }

    blocks-other : (note : ℕ) (k : Core) → Sound k →
        Goes (silent (with_note note (after_wait Blocks (turns.queued x k) (note_of k note)) k)) (silent (with_note note (after_wait Blocks (turns.queued x (spin k)) (note_of (spin k) note)) (spin k)))
    blocks-other note k s =
        record {
          sound = sound-waits note Blocks k s;
          alike = ap (λ queued. silent (with_note note (after_wait Blocks queued (note_of k note)) (spin k))) (sym (queued-same x k));
        }

    waits_as-other : (note : ℕ) (w : Waited) (k : Core) → Sound k → Goes (turns.waits_as system t x note w k) (turns.waits_as other t x note w (spin k))
    waits_as-other note (Got word) k s =
        then_part (says (row.Got x note word) (turns.given system t x word noted)) (says (row.Got x note word) (turns.given other t x word (spin noted))) (turns.moves_on system t x) (turns.moves_on other t x)
        (says-goes (row.Got x note word) (turns.given system t x word noted) (turns.given other t x word (spin noted)) refl (sound-thread x _ noted (sound-waits note (Got word) k s)) (given-other word noted))
        moves_on-other
      where
        noted : Core
        noted = with_note note (after_wait (Got word) (turns.queued x k) (note_of k note)) k
    waits_as-other note Blocks k s = blocks-other note k s

    enters_as-other : (server : ℕ) (w : Waited) (k : Core) → Sound k → Goes (turns.enters_as system t x server w k) (turns.enters_as other t x server w (spin k))
    enters_as-other server (Got word) k s =
        says_first (row.Got x server word) (with_note server (after_wait (Got word) (turns.queued x k) (note_of k server)) k) (turns.moves_on system t x) (turns.moves_on other t x) refl
        (sound-waits server (Got word) k s) moves_on-other
    enters_as-other server Blocks k s = blocks-other server k s

  -- a wake
  woken-same : (x : ℕ) (k : Core) → spin (turns.with_woken_context system t x k) ≡ turns.with_woken_context other t x (spin k)
  woken-same x k = changed-same (context_woken t) x k

  woken_until-same : (x : ℕ) (k : Core) → turns.woken_until system t x k ≡ turns.woken_until other t x (spin k)
  woken_until-same x k = date-same x (turns.with_woken_context system t x k) ∙ ap (turns.date_of other t x) (woken-same x k)

  -- what a thread that enters by its date makes
  entering-goes : (enters : ℕ → Option ℕ → Core → Core) → IsEntering enters → (x : ℕ) (k : Core) → Sound k →
      Goes (silent (enters x (turns.date_of system t x k) k)) (silent (enters x (turns.date_of other t x (spin k)) (spin k)))
  entering-goes enters e x k s =
      record {
        sound = e.sound x (turns.date_of system t x k) k s;
        alike = ap silent (e.alike x (turns.date_of system t x k) k ∙ ap (λ until. enters x until (spin k)) (date-same x k));
      }

  wakes-goes : (x word : ℕ) (k : Core) → is_spun system x ≡ false → Sound k → Goes (turns.wakes queue system t x word k) (turns.wakes queue other t x word (spin k))
  wakes-goes x word k e s =
      then_part (turns.moves_on system t x begun) (turns.moves_on other t x (turns.given other t x word (turns.with_woken_context other t x (spin k))))
      (λ core. silent (turns.enters_back queue x (turns.date_of system t x core) core))
      (λ core. silent (turns.enters_back queue x (turns.date_of other t x core) core))
      (goes-to _ _ _ (moves_on-other x e begun (sound-thread x _ (turns.with_woken_context system t x k) (record { threads = s.threads; waiters = s.waiters })))
      (ap (turns.moves_on other t x) (given-other x e word (turns.with_woken_context system t x k) ∙ ap (turns.given other t x word) (woken-same x k))))
      (λ core sound. entering-goes (turns.enters_back queue) back x core sound)
    where
      begun : Core
      begun = turns.given system t x word (turns.with_woken_context system t x k)

  -- a thread that is let in
  let_in-goes : (x : ℕ) (k : Core) → is_spun system x ≡ false → Sound k → Goes (turns.let_in queue system t x k) (turns.let_in queue other t x (spin k))
  let_in-goes x k e s =
      then_part (turns.moves_on system t x (turns.with_woken_context system t x k)) (turns.moves_on other t x (turns.with_woken_context other t x (spin k)))
      (λ core. silent (turns.enters_front queue x (turns.date_of system t x core) core))
      (λ core. silent (turns.enters_front queue x (turns.date_of other t x core) core))
      (goes-to _ _ _ (moves_on-other x e (turns.with_woken_context system t x k) (record { threads = s.threads; waiters = s.waiters })) (ap (turns.moves_on other t x) (woken-same x k)))
      (λ core sound. entering-goes (turns.enters_front queue) front x core sound)

  sound-posts : (note : ℕ) (p : Posted) (k : Core) → Sound k → Sound (with_note note (after_post p (note_of k note)) k)
  sound-posts note (Woke x word) k s =
      record {
        threads = s.threads;
        waiters = set-note system note (after_post (Woke x word) (note_of k note)) k.notes (without-other system x (note_of k note).waiters (got-note system note k.notes s.waiters)) s.waiters;
      }
  sound-posts note (Held word) k s =
      record { threads = s.threads; waiters = set-note system note (after_post (Held word) (note_of k note)) k.notes (got-note system note k.notes s.waiters) s.waiters }

  posts_as-goes : (note : ℕ) (p : Posted) (k : Core) → WakesOther system p → Sound k → Goes (turns.posts_as queue system t note p k) (turns.posts_as queue other t note p (spin k))
  posts_as-goes note (Woke x word) k e s =
      let posted : Core = with_note note (after_post (Woke x word) (note_of k note)) k in
      goes-to _ _ _
      (says_first (row.Wake x note word (turns.woken_until system t x k)) posted (turns.wakes queue system t x word) (turns.wakes queue other t x word) refl
      (sound-posts note (Woke x word) k s) (λ l. wakes-goes x word l e))
      (ap (λ until. says (row.Wake x note word until) (spin posted) followed_by turns.wakes queue other t x word) (woken_until-same x k))
  posts_as-goes note (Held word) k e s = record { sound = sound-posts note (Held word) k s; alike = refl }

  frees_as-goes : (server : ℕ) (p : Posted) (k : Core) → WakesOther system p → Sound k → Goes (turns.frees_as queue system t server p k) (turns.frees_as queue other t server p (spin k))
  frees_as-goes server (Woke x word) k e s =
      let posted : Core = with_note server (after_post (Woke x word) (note_of k server)) k in
      goes-to _ _ _
      (says_first (row.Wake x server word (turns.woken_until system t x k)) posted (turns.let_in queue system t x) (turns.let_in queue other t x) refl
      (sound-posts server (Woke x word) k s) (λ l. let_in-goes x l e))
      (ap (λ until. says (row.Wake x server word until) (spin posted) followed_by turns.let_in queue other t x) (woken_until-same x k))
  frees_as-goes server (Held word) k e s = record { sound = sound-posts server (Held word) k s; alike = refl }

  frees-goes : (x server : ℕ) (k : Core) → Sound k → Goes (turns.frees queue system t x server k) (turns.frees queue other t x server (spin k))
  frees-goes x server k s =
      says_first (row.Signal x server 1) k (λ l. turns.frees_as queue system t server (posted 1 (note_of l server)) l) (λ l. turns.frees_as queue other t server (posted 1 (note_of l server)) l) refl s
      (λ l q. frees_as-goes server (posted 1 (note_of l server)) l (wakes-other system 1 (note_of l server) (got-note system server l.notes q.waiters)) q)

  posts-goes : (note badge : ℕ) (k : Core) → Sound k → Goes (turns.posts queue system t note badge k) (turns.posts queue other t note badge (spin k))
  posts-goes note badge k s = posts_as-goes note (posted badge (note_of k note)) k (wakes-other system badge (note_of k note) (got-note system note k.notes s.waiters)) s

  -- part 1a
  interrupts-goes : (alarm : Alarm) (k : Core) → Sound k → Goes (turns.interrupts queue system t alarm k) (turns.interrupts queue other t alarm (spin k))
  interrupts-goes alarm k s =
      says_first (row.Interrupt alarm.source alarm.note alarm.badge) k (turns.posts queue system t alarm.note alarm.badge) (turns.posts queue other t alarm.note alarm.badge) refl s
      (posts-goes alarm.note alarm.badge)

  -- part 2
  arrives-goes : (mail : Mail) (k : Core) → Sound k → Goes (turns.arrives queue system t mail k) (turns.arrives queue other t mail (spin k))
  arrives-goes mail k s =
      says_first (row.Arrive mail.note mail.badge mail.maker) k (turns.posts queue system t mail.note mail.badge) (turns.posts queue other t mail.note mail.badge) refl s
      (posts-goes mail.note mail.badge)

  -- part 3
  orders_running-goes : (order : Order) (o : Option Chosen) (k : Core) → Sound k → Goes (turns.orders_running queue system t order o k) (turns.orders_running queue other t order o (spin k))
  orders_running-goes order None k s = record { sound = record { threads = s.threads; waiters = s.waiters }; alike = refl }
  orders_running-goes order (Some chosen) k s =
      goes-to _ _ _
      (by_test ((thread_part system chosen.thread).context == order.context)
      (turns.stops_to_front queue system t chosen.thread why.Order chosen.using ordered) (silent (turns.applied t order k))
      (turns.stops_to_front queue other t chosen.thread why.Order chosen.using (turns.applied t order (turns.charged other chosen.thread chosen.using (spin k)))) (silent (turns.applied t order (spin k)))
      (goes-to _ _ _ (leaves-goes (turns.enters_front queue) front chosen.thread why.Order chosen.using ordered (record { threads = s.threads; waiters = s.waiters }))
      (ap (λ core. turns.stops_to_front queue other t chosen.thread why.Order chosen.using (turns.applied t order core)) (charged-same chosen.thread chosen.using k)))
      (record { sound = record { threads = s.threads; waiters = s.waiters }; alike = refl }))
      (ap (λ i. cond (i == order.context)
      (turns.stops_to_front queue other t chosen.thread why.Order chosen.using (turns.applied t order (turns.charged other chosen.thread chosen.using (spin k)))) (silent (turns.applied t order (spin k))))
      (sym (context-same system chosen.thread)))
    where
      ordered : Core
      ordered = turns.applied t order (turns.charged system chosen.thread chosen.using k)

  obeys-goes : (order : Order) (k : Core) → Sound k → Goes (turns.obeys queue system t order k) (turns.obeys queue other t order (spin k))
  obeys-goes order k s =
      says_first (row.Order order.context) k (turns.orders_running queue system t order k.running) (turns.orders_running queue other t order k.running) refl s
      (orders_running-goes order k.running)

  -- part 4
  released-goes : (due : Dated) (k : Core) → Sound k → Goes (turns.released queue due k) (turns.released queue due (spin k))
  released-goes due k s = record { sound = sound-back due.thread None k s; alike = ap (says (row.Release due.thread)) (enters_back-same due.thread None k) }

  releases-goes : (k : Core) → Sound k → Goes (turns.releases queue system t k) (turns.releases queue other t (spin k))
  releases-goes k s =
      each_part (turns.released queue) (turns.released queue) released-goes (filter (is_due t) k.releases)
      (record k { releases = filter (λ dated. not (is_due t dated)) k.releases }) (record { threads = s.threads; waiters = s.waiters })

  -- part 5
  preempts_by-goes : (o : Option Chosen) (best : Option Queued) (k : Core) → Sound k → Goes (turns.preempts_by queue system t o best k) (turns.preempts_by queue other t o best (spin k))
  preempts_by-goes (Some chosen) (Some best) k s =
      goes-to _ _ _
      (by_test (nat_lt (thread_of k chosen.thread).place.priority best.priority)
      (turns.stops_to_front queue system t chosen.thread why.Preempt chosen.using (turns.charged system chosen.thread chosen.using k)) (silent k)
      (turns.stops_to_front queue other t chosen.thread why.Preempt chosen.using (turns.charged other chosen.thread chosen.using (spin k))) (silent (spin k))
      (charged-goes (turns.enters_front queue) front chosen.thread why.Preempt chosen.using k s) (record { sound = s; alike = refl }))
      (ap (λ priority. cond (nat_lt priority best.priority)
      (turns.stops_to_front queue other t chosen.thread why.Preempt chosen.using (turns.charged other chosen.thread chosen.using (spin k))) (silent (spin k))) (sym (priority-same chosen.thread k)))
  preempts_by-goes (Some chosen) None k s = record { sound = s; alike = refl }
  preempts_by-goes None best k s = record { sound = s; alike = refl }

  preempts-goes : (k : Core) → Sound k → Goes (turns.preempts queue system t k) (turns.preempts queue other t (spin k))
  preempts-goes k s = preempts_by-goes k.running (queue.best k.ready) k s

  chooses_of-goes : (o : Option Chosen) (best : Option Queued) (k : Core) → Sound k → Goes (turns.chooses_of queue system t o best k) (turns.chooses_of queue other t o best (spin k))
  chooses_of-goes (Some chosen) best k s = record { sound = s; alike = refl }
  chooses_of-goes None None k s = record { sound = s; alike = refl }
  chooses_of-goes None (Some best) k s =
      record {
        sound =
            let q = sound-stands best.thread Running (turns.with_chosen_context system t best.thread k) (record { threads = s.threads; waiters = s.waiters }) in
            record { threads = q.threads; waiters = q.waiters };
        alike =
            ap (λ (core : Core). says (row.Run best.thread) (record core { running = Some (record { thread = best.thread; using = 0 }); ready = queue.rest k.ready }))
            (stands-same best.thread Running (turns.with_chosen_context system t best.thread k) ∙ ap (stands best.thread Running) (changed-same (context_chosen t) best.thread k));
      }

  chooses-goes : (k : Core) → Sound k → Goes (turns.chooses queue system t k) (turns.chooses queue other t (spin k))
  chooses-goes k s = chooses_of-goes k.running (queue.best k.ready) k s

  -- a thread that only computes: its place changes in the system, and in the spun one nothing does
  priority-kept : (item : Option Item) (p : ℕ) → IsCompute item → priority_after item p ≡ p
  priority-kept None p h = refl
  priority-kept (Some (Compute ticks)) p h = refl
  priority-kept (Some (Signal note badge)) p h = absurd h
  priority-kept (Some (Wait note)) p h = absurd h
  priority-kept (Some Yield) p h = absurd h
  priority-kept (Some (On badges)) p h = absurd h
  priority-kept (Some Spin) p h = absurd h
  priority-kept (Some (Enter server priority)) p h = absurd h
  priority-kept (Some (Leave server priority)) p h = absurd h

  module _ (x : ℕ) (e : is_spun system x ≡ true) where
    abbrev part : ThreadPart
    part = thread_part system x

    placed-spun : (m : Moved) (since : ℕ) (k : Core) → spin (turns.placed system t x m since k) ≡ spin k
    placed-spun m since k =
        ap (λ threads. record (spin k) { threads = threads })
        (kept-states (λ y. record y { place = place_after system.call part.script m y.place; since = since }) system.threads x k.threads e
        (spinning-kept part (λ y. record y { place = place_after system.call part.script m y.place; since = since }) e (λ y. refl) (λ y. kept m y)))
      where
        kept : (m : Moved) (y : Thread) → (place_after system.call part.script m y.place).priority ≡ y.place.priority
        kept Next y = priority-kept (slice_get part.script y.place.item) y.place.priority (items-compute part y.place.item e)
        kept RoundEnds y = priority-kept (slice_get part.script y.place.item) y.place.priority (items-compute part y.place.item e)
        kept AllDone y = refl

    moves-spun : (o : Option ℕ) (k : Core) → Sound k → Goes (turns.moves system t x (move_by o 0 (thread_of k x).place) k) (silent (spin k))
    moves-spun (Some next) k s = record { sound = sound-thread x _ k s; alike = ap silent (placed-spun Next (thread_of k x).since k) }
    moves-spun None k s =
        record {
          sound = sound-thread x _ k s;
          alike = ap (λ b. made (cond b (turns.round_row system t x k ∷ []) [])) (ap not e) ∙ ap silent (placed-spun RoundEnds t k);
        }
      where
        made : List What → Turn
        made rows = record { core = spin (turns.placed system t x RoundEnds t k); rows = rows; mails = [] }

    moves_on-spun : (k : Core) → Sound k → Goes (turns.moves_on system t x k) (silent (spin k))
    moves_on-spun k s =
        let P : ℕ → Type 0 = λ rounds. Goes (turns.moves system t x (move_by (next_of part.script (thread_of k x).place) rounds (thread_of k x).place) k) (silent (spin k)) in
        subst P (sym (endless part e)) (moves-spun (next_of part.script (thread_of k x).place) k s)

    after-spun : (item : Option Item) (k : Core) → IsCompute item → turns.after_item system x item k ≡ after.GoesOn
    after-spun None k h = refl
    after-spun (Some (Compute ticks)) k h =
        ap (λ rounds. turns.after_move (move_by (next_of part.script (thread_of k x).place) rounds (thread_of k x).place) after.GoesOn) (endless part e)
        ∙ by (next_of part.script (thread_of k x).place)
      where
        by : (o : Option ℕ) → turns.after_move (move_by o 0 (thread_of k x).place) after.GoesOn ≡ after.GoesOn
        by (Some next) = refl
        by None = refl
    after-spun (Some (Signal note badge)) k h = absurd h
    after-spun (Some (Wait note)) k h = absurd h
    after-spun (Some Yield) k h = absurd h
    after-spun (Some (On badges)) k h = absurd h
    after-spun (Some Spin) k h = absurd h
    after-spun (Some (Enter server priority)) k h = absurd h
    after-spun (Some (Leave server priority)) k h = absurd h

  -- part 1
  module _ (c : ℕ) where
    signals-goes : (x note badge : ℕ) (k : Core) → Sound k → Goes (turns.signals queue system c t x note badge k) (turns.signals queue other c t x note badge (spin k))
    signals-goes x note badge k s =
        says_first (row.Signal x note badge) k (sent system) (sent other) refl s
        (λ l q. by_test ((note_part system note).core == c) (turns.posts queue system t note badge l) (record { core = l; rows = []; mails = turns.mail_to system c t note badge ∷ [] })
        (turns.posts queue other t note badge (spin l)) (record { core = spin l; rows = []; mails = turns.mail_to system c t note badge ∷ [] })
        (posts-goes note badge l q) (record { sound = q; alike = refl }))
      where
        sent : System → Core → Turn
        sent system l = cond ((note_part system note).core == c) (turns.posts queue system t note badge l) (record { core = l; rows = []; mails = turns.mail_to system c t note badge ∷ [] })

    module _ (x : ℕ) (e : is_spun system x ≡ false) where
      takes_effect-other : (item : Option Item) (k : Core) → Sound k → Goes (turns.takes_effect queue system c t x item k) (turns.takes_effect queue other c t x item (spin k))
      takes_effect-other (Some (Signal note badge)) k s =
          then_part (turns.signals queue system c t x note badge k) (turns.signals queue other c t x note badge (spin k)) (turns.moves_on system t x) (turns.moves_on other t x)
          (signals-goes x note badge k s) (moves_on-other x e)
      takes_effect-other (Some (Wait note)) k s = waits_as-other x e note (waited (note_of k note)) k s
      takes_effect-other (Some (Compute ticks)) k s = moves_on-other x e k s
      takes_effect-other (Some Yield) k s = moves_on-other x e k s
      takes_effect-other (Some (On badges)) k s = moves_on-other x e k s
      takes_effect-other (Some Spin) k s = moves_on-other x e k s
      takes_effect-other (Some (Enter server priority)) k s = enters_as-other x e server (waited (note_of k server)) k s
      takes_effect-other (Some (Leave server priority)) k s =
          then_part (turns.frees queue system t x server k) (turns.frees queue other t x server (spin k)) (turns.moves_on system t x) (turns.moves_on other t x)
          (frees-goes x server k s) (moves_on-other x e)
      takes_effect-other None k s = record { sound = s; alike = refl }

      after_item-other : (item : Option Item) (k : Core) → turns.after_item system x item k ≡ turns.after_item other x item (spin k)
      after_item-other (Some (Signal note badge)) k = ap (λ m. turns.after_move m after.GoesOn) (move-other x e k)
      after_item-other (Some (Wait note)) k = refl
      after_item-other (Some (Compute ticks)) k = ap (λ m. turns.after_move m after.GoesOn) (move-other x e k)
      after_item-other (Some Yield) k = ap (λ m. turns.after_move m after.Yields) (move-other x e k)
      after_item-other (Some (On badges)) k = ap (λ m. turns.after_move m after.GoesOn) (move-other x e k)
      after_item-other (Some Spin) k = ap (λ m. turns.after_move m after.GoesOn) (move-other x e k)
      after_item-other (Some (Enter server priority)) k = refl
      after_item-other (Some (Leave server priority)) k = ap (λ m. turns.after_move m after.GoesOn) (move-other x e k)
      after_item-other None k = refl

      finishes-other : (using : ℕ) (item : Option Item) (k : Core) → Sound k → Goes (turns.finishes queue system c t x using item k) (turns.finishes queue other c t x using item (spin k))
      finishes-other using item k s =
          goes-to _ _ _
          (then_part (turns.takes_effect queue system c t x item k) (turns.takes_effect queue other c t x item (spin k))
          (turns.may_stop queue system t x using (turns.after_item system x item k)) (turns.may_stop queue other t x using (turns.after_item system x item k))
          (takes_effect-other item k s) (may_stop-goes x using (turns.after_item system x item k)))
          (ap (λ cause. turns.takes_effect queue other c t x item (spin k) followed_by turns.may_stop queue other t x using cause) (after_item-other item k))

      after_count-other : (using : ℕ) (k : Core) → Sound k → Goes (turns.after_count queue system c t x using k) (turns.after_count queue other c t x using (spin k))
      after_count-other using k s =
          goes-to _ _ _
          (by_test ((thread_of k x).place.left == 0) (turns.finishes queue system c t x using (turns.item_of system x k) k) (turns.may_stop queue system t x using after.GoesOn k)
          (turns.finishes queue other c t x using (turns.item_of system x k) (spin k)) (turns.may_stop queue other t x using after.GoesOn (spin k))
          (finishes-other using (turns.item_of system x k) k s) (may_stop-goes x using after.GoesOn k s))
          (ap (λ item. cond ((thread_of k x).place.left == 0) (turns.finishes queue other c t x using item (spin k)) (turns.may_stop queue other t x using after.GoesOn (spin k))) (item-other x e k)
          ∙ ap (λ (state : Thread). cond (state.place.left == 0) (turns.finishes queue other c t x using (turns.item_of other x (spin k)) (spin k)) (turns.may_stop queue other t x using after.GoesOn (spin k))) (sym (thread-other x e k)))

    module _ (x : ℕ) (e : is_spun system x ≡ true) where
      takes_effect-spun : (item : Option Item) (k : Core) → IsCompute item → Sound k → Goes (turns.takes_effect queue system c t x item k) (silent (spin k))
      takes_effect-spun None k h s = record { sound = s; alike = refl }
      takes_effect-spun (Some (Compute ticks)) k h s = moves_on-spun x e k s
      takes_effect-spun (Some (Signal note badge)) k h s = absurd h
      takes_effect-spun (Some (Wait note)) k h s = absurd h
      takes_effect-spun (Some Yield) k h s = absurd h
      takes_effect-spun (Some (On badges)) k h s = absurd h
      takes_effect-spun (Some Spin) k h s = absurd h
      takes_effect-spun (Some (Enter server priority)) k h s = absurd h
      takes_effect-spun (Some (Leave server priority)) k h s = absurd h

      finishes-spun : (using : ℕ) (item : Option Item) (k : Core) → IsCompute item → Sound k →
          Goes (turns.finishes queue system c t x using item k) (turns.may_stop queue other t x using after.GoesOn (spin k))
      finishes-spun using item k h s =
          let P : AfterItem → Type 0 = λ cause. Goes (turns.takes_effect queue system c t x item k followed_by turns.may_stop queue system t x using cause) (turns.may_stop queue other t x using after.GoesOn (spin k)) in
          subst P (sym (after-spun x e item k h))
          (then_part (turns.takes_effect queue system c t x item k) (silent (spin k)) (turns.may_stop queue system t x using after.GoesOn) (turns.may_stop queue other t x using after.GoesOn)
          (takes_effect-spun item k h s) (may_stop-goes x using after.GoesOn))

      after_count-spun : (using : ℕ) (k : Core) → Sound k → Goes (turns.after_count queue system c t x using k) (turns.after_count queue other c t x using (spin k))
      after_count-spun using k s =
          goes-to _ _ _
          (either_way ((thread_of k x).place.left == 0) (turns.finishes queue system c t x using (turns.item_of system x k) k) (turns.may_stop queue system t x using after.GoesOn k)
          (turns.may_stop queue other t x using after.GoesOn (spin k))
          (finishes-spun using (turns.item_of system x k) k (items-compute (thread_part system x) (thread_of k x).place.item e) s) (may_stop-goes x using after.GoesOn k s))
          (ap (λ left. cond (left == 0) (turns.finishes queue other c t x using (turns.item_of other x (spin k)) (spin k)) (turns.may_stop queue other t x using after.GoesOn (spin k)))
          (sym (left-spun system.threads x k.threads s.threads e)))

    after_count-goes : (x using : ℕ) (k : Core) → Sound k → Goes (turns.after_count queue system c t x using k) (turns.after_count queue other c t x using (spin k))
    after_count-goes x using k s = by (is_spun system x) refl
      where
        by : (b : Bool) → is_spun system x ≡ b → Goes (turns.after_count queue system c t x using k) (turns.after_count queue other c t x using (spin k))
        by true e = after_count-spun x e using k s
        by false e = after_count-other x e using k s

    counts-same : (chosen : Chosen) (k : Core) → spin (turns.counts chosen k) ≡ turns.counts chosen (spin k)
    counts-same chosen k =
        with-thread (λ y. record y { place = record (y.place) { left = left_after 1 y.place.left } }) chosen.thread
        (record k { running = Some (record { thread = chosen.thread; using = chosen.using + 1 }) }) (counted-state (thread_part system chosen.thread))

    tick_of-goes : (o : Option Chosen) (k : Core) → Sound k → Goes (turns.tick_of queue system c t o k) (turns.tick_of queue other c t o (spin k))
    tick_of-goes None k s = record { sound = s; alike = refl }
    tick_of-goes (Some chosen) k s =
        goes-to _ _ _
        (after_count-goes chosen.thread (chosen.using + 1) (turns.counts chosen k)
        (sound-thread chosen.thread _ (record k { running = Some (record { thread = chosen.thread; using = chosen.using + 1 }) }) (record { threads = s.threads; waiters = s.waiters })))
        (ap (turns.after_count queue other c t chosen.thread (chosen.using + 1)) (counts-same chosen k))

    -- the parts of a turn, one more at a time
    abbrev ticked : System → Core → Turn
    ticked system k = turns.tick queue system c t k

    abbrev rung : System → Core → Turn
    rung system k = ticked system k followed_by each (turns.interrupts queue system t) (ringing t (alarms_at system c t))

    abbrev arrived : List Mail → System → Core → Turn
    arrived mails system k = rung system k followed_by each (turns.arrives queue system t) mails

    abbrev obeyed : List Mail → System → Core → Turn
    obeyed mails system k = arrived mails system k followed_by each (turns.obeys queue system t) (filter (turns.is_for_now system c t) system.orders)

    abbrev freed : List Mail → System → Core → Turn
    freed mails system k = obeyed mails system k followed_by turns.releases queue system t

    abbrev yielded : List Mail → System → Core → Turn
    yielded mails system k = freed mails system k followed_by turns.preempts queue system t

    rung-goes : (k : Core) → Sound k → Goes (rung system k) (rung other (spin k))
    rung-goes k s =
        then_part (ticked system k) (ticked other (spin k)) (each (turns.interrupts queue system t) (ringing t (alarms_at system c t))) (each (turns.interrupts queue other t) (ringing t (alarms_at system c t)))
        (tick_of-goes k.running k s) (each_part (turns.interrupts queue system t) (turns.interrupts queue other t) interrupts-goes (ringing t (alarms_at system c t)))

    arrived-goes : (mails : List Mail) (k : Core) → Sound k → Goes (arrived mails system k) (arrived mails other (spin k))
    arrived-goes mails k s =
        then_part (rung system k) (rung other (spin k)) (each (turns.arrives queue system t) mails) (each (turns.arrives queue other t) mails)
        (rung-goes k s) (each_part (turns.arrives queue system t) (turns.arrives queue other t) arrives-goes mails)

    obeyed-goes : (mails : List Mail) (k : Core) → Sound k → Goes (obeyed mails system k) (obeyed mails other (spin k))
    obeyed-goes mails k s =
        then_part (arrived mails system k) (arrived mails other (spin k))
        (each (turns.obeys queue system t) (filter (turns.is_for_now system c t) system.orders)) (each (turns.obeys queue other t) (filter (turns.is_for_now system c t) system.orders))
        (arrived-goes mails k s) (each_part (turns.obeys queue system t) (turns.obeys queue other t) obeys-goes (filter (turns.is_for_now system c t) system.orders))

    freed-goes : (mails : List Mail) (k : Core) → Sound k → Goes (freed mails system k) (freed mails other (spin k))
    freed-goes mails k s =
        then_part (obeyed mails system k) (obeyed mails other (spin k)) (turns.releases queue system t) (turns.releases queue other t) (obeyed-goes mails k s) releases-goes

    yielded-goes : (mails : List Mail) (k : Core) → Sound k → Goes (yielded mails system k) (yielded mails other (spin k))
    yielded-goes mails k s =
        then_part (freed mails system k) (freed mails other (spin k)) (turns.preempts queue system t) (turns.preempts queue other t) (freed-goes mails k s) preempts-goes

    -- a whole turn
    pub turn-goes : (mails : List Mail) (k : Core) → Sound k → Goes (turns.turn_with queue system c t mails k) (turns.turn_with queue other c t mails (spin k))
    turn-goes mails k s =
        then_part (yielded mails system k) (yielded mails other (spin k)) (turns.chooses queue system t) (turns.chooses queue other t) (yielded-goes mails k s) chooses-goes
