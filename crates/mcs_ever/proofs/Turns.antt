-- The turn at t + d of a core that is later by d. If the rows of the turn at t agree, it makes the
-- same, later by d.
use Rattle.std.proofs.Common.{◌≡◌, ℕ, ◌+◌, ◌-◌, ◌≤◌, inl, inr, Bool, true, false, cond, not, List, [], ◌∷◌, ◌++◌, map, min, ◌^◌, refl, sym, ap, ◌∙◌, Option, Some, None, option_map, arith}
use Rattle.std.specs.Prelude.{filter, ◌==◌, nat_lt, nat_le}
use Rattle.std.specs.List.{slice_get}
use Rattle.std.proofs.lemmas.Bool.Decides.{nat_tests}
use Rattle.std.proofs.lemmas.List.{map-append}
use Rattle.std.proofs.Math.ListN.{length-set}
use Rattle.mcs_ticks.specs.Queue.{Discipline}
use Rattle.mcs_ticks.specs.declared.queue.Queued.{Queued}
use Rattle.mcs_ticks.specs.declared.row.What.{What}
use Rattle.mcs_ticks.specs.declared.row.What.TheVariants as row
use Rattle.mcs_ticks.specs.declared.row.Why.{Why}
use Rattle.mcs_ticks.specs.declared.row.Why.TheVariants as why
use Rattle.mcs_control.specs.declared.config.Order.{Order}
use Rattle.mcs_control.specs.Context.{Context, context_charged, context_woken, context_chosen, head_amount, date_from}
use Rattle.mcs_notify.specs.Note.{posted, after_post, waited, after_wait}
use Rattle.mcs_notify.specs.declared.posted.Posted.{Posted}
use Rattle.mcs_notify.specs.declared.posted.Posted.TheVariants.{Woke, Held}
use Rattle.mcs_notify.specs.declared.posted.Waited.{Waited}
use Rattle.mcs_notify.specs.declared.posted.Waited.TheVariants.{Got, Blocks}
use Rattle.mcs_script.specs.declared.item.Item.{Item}
use Rattle.mcs_script.specs.declared.item.Item.TheVariants.{Compute, Signal, Wait, Yield, On, Spin, Enter, Leave}
use Rattle.mcs_script.specs.declared.moved.Moved.{Moved}
use Rattle.mcs_script.specs.declared.moved.Moved.TheVariants.{Next, RoundEnds, AllDone}
use Rattle.mcs_script.specs.Script.{move_after, place_after, goes_to, heard, left_after}
use Rattle.mcs_mail.specs.declared.mail.Mail.{Mail}
use Rattle.mcs_system.specs.System.{System, note_part, thread_part, delay_between}
use Rattle.mcs_core.specs.Alarms.{alarms_at, rings, has_come, ringing}
use Rattle.mcs_core.specs.declared.alarm.Alarm.{Alarm}
use Rattle.mcs_core.specs.Core.{Core, note_of, with_note, with_context, with_thread, thread_of, stands, pends, off}
use Rattle.mcs_core.specs.declared.standing.Standing.{Standing}
use Rattle.mcs_core.specs.declared.standing.Standing.TheVariants.{Blocked, Pending, Ready, Running, Done}
use Rattle.mcs_core.specs.declared.standing.AfterItem.{AfterItem}
use Rattle.mcs_core.specs.declared.standing.AfterItem.TheVariants as after
use Rattle.mcs_core.specs.declared.standing.Chosen.{Chosen}
use Rattle.mcs_core.specs.declared.standing.Thread.{Thread}
use Rattle.mcs_release.specs.declared.dated.Dated.{Dated}
use Rattle.mcs_release.specs.Release.{is_due}
use Rattle.mcs_core.specs.Turn as turns
use Rattle.mcs_core.specs.Turn.{Turn, each, silent, says, ◌followed_by◌}
use Rattle.mcs_ever.specs.Later.{Shift, later_context, later_thread, more_rounds, later_dated, later_mail, later_alarm, later_core, later_what, ContextKeepsUp, RoundKeepsUp, IsShift}
use Rattle.mcs_ever.proofs.Sound.{Agrees, AllAgree, IsInOrder, IsCore}
use Rattle.mcs_ever.proofs.Parts.{charged-context, woken-context, chosen-context, chosen-sporadic, head-context, charged-order, woken-order, chosen-order, date-later, held-later, set-later, held-order, kept-order, thread-same, thread-later, thread-set, round-ends, moves-same}

abbrev pub later_turn : Shift → Turn → Turn
later_turn shift made =
    record {
      core = later_core shift made.core;
      rows = map (later_what shift) made.rows;
      mails = map (later_mail shift.by) made.mails;
    }

-- an alarm that is later rings later
pub rings-later : (t d : ℕ) (alarm : Alarm) → rings (t + d) (later_alarm d alarm) ≡ rings t alarm
rings-later t d alarm = by alarm.date
  where
    come : (date : ℕ) → nat_le (date + d) (t + d) ≡ nat_le date t
    come date = grind (arith, nat_tests)

    by : (o : Option ℕ) → has_come (t + d) (option_map (λ date. date + d) o) ≡ has_come t o
    by None = refl
    by (Some date) = come date

module _ (queue : Discipline) (system : System) (shift : Shift) (is_shift : IsShift system shift) (t : ℕ) where
  abbrev d : ℕ
  d = shift.by

  abbrev now : ℕ
  now = t + shift.by

  abbrev later : Core → Core
  later core = later_core shift core

  abbrev Sound : Core → Type 0
  Sound core = IsCore system shift core

  abbrev Agree : List What → Type 0
  Agree rows = AllAgree system shift rows

  -- what a part makes, and what the same part of the later core makes
  pub record Goes (a b : Turn) : Type 0 where
    pub sound : IsCore system shift a.core
    pub alike : later_turn shift a ≡ b

  agree-first : (xs ys : List What) → Agree (xs ++ ys) → Agree xs
  agree-first [] ys a = tt
  agree-first (x ∷ xs) ys a = (a.0, agree-first xs ys a.1)

  agree-second : (xs ys : List What) → Agree (xs ++ ys) → Agree ys
  agree-second [] ys a = a
  agree-second (x ∷ xs) ys a = agree-second xs ys a.1

  goes-to : (a b c : Turn) → Goes a b → b ≡ c → Goes a c
  goes-to a b c h e = record { sound = h.sound; alike = h.alike ∙ e }

  -- one part, and then another
  then_part : (a b : Turn) (f g : Core → Turn) → Goes a b → ((k : Core) → Sound k → Agree (f k).rows → Goes (f k) (g (later k))) →
      Agree (a followed_by f).rows → Goes (a followed_by f) (b followed_by g)
  then_part a b f g h p r =
      let second = p a.core h.sound (agree-second a.rows (f a.core).rows r) in
      record {
        sound = second.sound;
        alike =
            both _ _ _ _ (map-append (later_what shift) a.rows (f a.core).rows) (map-append (later_mail d) a.mails (f a.core).mails)
            ∙ ap (λ (other : Turn). record { core = other.core; rows = map (later_what shift) a.rows ++ other.rows; mails = map (later_mail d) a.mails ++ other.mails }) second.alike
            ∙ ap (λ (first : Turn). first followed_by g) h.alike;
      }
    where
      made : List What → List Mail → Turn
      made rows mails = record { core = later (f a.core).core; rows = rows; mails = mails }

      both : (xs ys : List What) (us vs : List Mail) → xs ≡ ys → us ≡ vs →
          made xs us ≡ made ys vs
      both xs ys us vs e f = ap (λ rows. made rows us) e ∙ ap (λ mails. made ys mails) f

  by_test : (b : Bool) (u v x y : Turn) → (Agree u.rows → Goes u x) → (Agree v.rows → Goes v y) → Agree (cond b u v).rows → Goes (cond b u v) (cond b x y)
  by_test true u v x y p q r = p r
  by_test false u v x y p q r = q r

  each_part : {A : Type 0} (m : A → A) (f g : A → Core → Turn) → ((x : A) (k : Core) → Sound k → Agree (f x k).rows → Goes (f x k) (g (m x) (later k))) →
      (xs : List A) (k : Core) → Sound k → Agree (each f xs k).rows → Goes (each f xs k) (each g (map m xs) (later k))
  each_part m f g h [] k s r = record { sound = s; alike = refl }
  each_part m f g h (x ∷ xs) k s r =
      then_part (f x k) (g (m x) (later k)) (each f xs) (each g (map m xs)) (h x k s (agree-first (f x k).rows (each f xs (f x k).core).rows r)) (each_part m f g h xs) r

  says_first : (what : What) (k : Core) (f g : Core → Turn) → Sound k → ((l : Core) → Sound l → Agree (f l).rows → Goes (f l) (g (later l))) →
      Agree (says what k followed_by f).rows → Goes (says what k followed_by f) (says (later_what shift what) (later k) followed_by g)
  says_first what k f g s h r = then_part (says what k) (says (later_what shift what) (later k)) f g (record { sound = s; alike = refl }) h r

  -- threads
  sound-thread : (x : ℕ) (state : Thread) (k : Core) → Sound k → Sound (with_thread x state k)
  sound-thread x state k s = record { threads = length-set k.threads x state ∙ s.threads; contexts = s.contexts }

  with-thread : (F G : Thread → Thread) (x : ℕ) (k : Core) →
      ((y : Thread) → later_thread (shift.threads x) (shift.rounds x) (F y) ≡ G (later_thread (shift.threads x) (shift.rounds x) y)) →
      later (with_thread x (F (thread_of k x)) k) ≡ with_thread x (G (thread_of (later k) x)) (later k)
  with-thread F G x k h = ap (λ threads. record (later k) { threads = threads }) (thread-set shift.threads shift.rounds F G x k.threads h)

  stands-later : (x : ℕ) (standing : Standing) (k : Core) → later (stands x standing k) ≡ stands x standing (later k)
  stands-later x standing k = with-thread (λ y. record y { standing = standing }) (λ y. record y { standing = standing }) x k (λ y. refl)

  sound-stands : (x : ℕ) (standing : Standing) (k : Core) → Sound k → Sound (stands x standing k)
  sound-stands x standing k s = sound-thread x (record (thread_of k x) { standing = standing }) k s

  -- contexts
  its-later : (x : ℕ) (k : Core) → turns.its_context system x (later k) ≡ later_context (shift.contexts (thread_part system x).context) (turns.its_context system x k)
  its-later x k = held-later shift.contexts (thread_part system x).context k.contexts

  its-order : (x : ℕ) (k : Core) → Sound k → IsInOrder system shift (thread_part system x).context (turns.its_context system x k)
  its-order x k s = held-order system shift (thread_part system x).context k.contexts s.contexts

  with-context : (i : ℕ) (c : Context) (k : Core) → later (with_context i c k) ≡ with_context i (later_context (shift.contexts i) c) (later k)
  with-context i c k = ap (λ contexts. record (later k) { contexts = contexts }) (set-later shift.contexts i k.contexts c)

  sound-context : (i : ℕ) (c : Context) (k : Core) → Sound k → IsInOrder system shift i c → Sound (with_context i c k)
  sound-context i c k s o = record { threads = s.threads; contexts = kept-order system shift i k.contexts c s.contexts o }

  charged-later : (x j : ℕ) (k : Core) → 1 ≤ j → Sound k → later (turns.charged system x j k) ≡ turns.charged system x j (later k)
  charged-later x j k l s =
      with-context (thread_part system x).context (context_charged j system.min_budget (turns.its_context system x k)) k
      ∙ ap (λ c. with_context (thread_part system x).context c (later k))
      (charged-context (shift.contexts (thread_part system x).context) system shift (thread_part system x).context j system.min_budget (turns.its_context system x k) l (its-order x k s)
      ∙ ap (context_charged j system.min_budget) (sym (its-later x k)))

  sound-charged : (x j : ℕ) (k : Core) → 1 ≤ j → Sound k → Sound (turns.charged system x j k)
  sound-charged x j k l s =
      sound-context (thread_part system x).context (context_charged j system.min_budget (turns.its_context system x k)) k s
      (charged-order system shift (thread_part system x).context j system.min_budget (turns.its_context system x k) l (its-order x k s))

  head-later : (x : ℕ) (k : Core) → head_amount (turns.its_context system x (later k)) ≡ head_amount (turns.its_context system x k)
  head-later x k = ap head_amount (its-later x k) ∙ head-context (shift.contexts (thread_part system x).context) (turns.its_context system x k)

  date_of-later : (x : ℕ) (cause : Why) (j : ℕ) (k : Core) → Agrees system shift (row.Stop x cause j (turns.date_of system t x k)) →
      option_map (λ date. date + d) (turns.date_of system t x k) ≡ turns.date_of system now x (later k)
  date_of-later x cause j k a =
      date-later system shift x cause j t (turns.its_context system x k) (is_shift.lags (thread_part system x).context) a
      ∙ ap (date_from now) (sym (its-later x k))

  charges-some : (x : ℕ) (cause : Why) (j : ℕ) (until : Option ℕ) → Agrees system shift (row.Stop x cause j until) → 1 ≤ j
  charges-some x cause j None a = a
  charges-some x cause j (Some date) a = a.0

  keeping-up : (x : ℕ) (cause : Why) (until : Option ℕ) → ContextKeepsUp system shift x → Agrees system shift (row.Stop x cause 1 until)
  keeping-up x cause None e = omega arith
  keeping-up x cause (Some date) e = (omega arith, e)

  -- places that threads enter
  pends-later : (x date : ℕ) (k : Core) → later (pends x date k) ≡ pends x (date + d) (later k)
  pends-later x date k =
      ap (λ (core : Core). record core { releases = map (later_dated d) (k.releases ++ record { thread = x; date = date } ∷ []) }) (stands-later x Pending k)
      ∙ ap (λ releases. record (stands x Pending (later k)) { releases = releases }) (map-append (later_dated d) k.releases (record { thread = x; date = date } ∷ []))

  sound-pends : (x date : ℕ) (k : Core) → Sound k → Sound (pends x date k)
  sound-pends x date k s = let r = sound-stands x Pending k s in record { threads = r.threads; contexts = r.contexts }

  -- the place's priority is the same
  priority-same : (x : ℕ) (k : Core) → (thread_of (later k) x).place.priority ≡ (thread_of k x).place.priority
  priority-same x k = thread-same shift.threads shift.rounds (λ y. y.place.priority) x k.threads (λ y. refl)

  queued-same : (x : ℕ) (k : Core) → turns.queued x (later k) ≡ turns.queued x k
  queued-same x k = ap (λ priority. record { thread = x; priority = priority }) (priority-same x k)

  -- a way to enter
  record IsEntering (enters : ℕ → Option ℕ → Core → Core) : Type 0 where
    alike : (x : ℕ) (until : Option ℕ) (k : Core) → later (enters x until k) ≡ enters x (option_map (λ date. date + d) until) (later k)
    sound : (x : ℕ) (until : Option ℕ) (k : Core) → Sound k → Sound (enters x until k)

  enters_back-later : (x : ℕ) (until : Option ℕ) (k : Core) → later (turns.enters_back queue x until k) ≡ turns.enters_back queue x (option_map (λ date. date + d) until) (later k)
  enters_back-later x (Some date) k = pends-later x date k
  enters_back-later x None k =
      ap (λ (core : Core). record core { ready = queue.back (turns.queued x k) k.ready }) (stands-later x Ready k)
      ∙ ap (λ queued. record (stands x Ready (later k)) { ready = queue.back queued k.ready }) (sym (queued-same x k))

  sound-back : (x : ℕ) (until : Option ℕ) (k : Core) → Sound k → Sound (turns.enters_back queue x until k)
  sound-back x (Some date) k s = sound-pends x date k s
  sound-back x None k s = let r = sound-stands x Ready k s in record { threads = r.threads; contexts = r.contexts }

  enters_front-later : (x : ℕ) (until : Option ℕ) (k : Core) → later (turns.enters_front queue x until k) ≡ turns.enters_front queue x (option_map (λ date. date + d) until) (later k)
  enters_front-later x (Some date) k = pends-later x date k
  enters_front-later x None k =
      ap (λ (core : Core). record core { ready = queue.front (turns.queued x k) k.ready }) (stands-later x Ready k)
      ∙ ap (λ queued. record (stands x Ready (later k)) { ready = queue.front queued k.ready }) (sym (queued-same x k))

  sound-front : (x : ℕ) (until : Option ℕ) (k : Core) → Sound k → Sound (turns.enters_front queue x until k)
  sound-front x (Some date) k s = sound-pends x date k s
  sound-front x None k s = let r = sound-stands x Ready k s in record { threads = r.threads; contexts = r.contexts }

  back : IsEntering (turns.enters_back queue)
  back = record { alike = enters_back-later; sound = sound-back }

  front : IsEntering (turns.enters_front queue)
  front = record { alike = enters_front-later; sound = sound-front }

  sound-off : (k : Core) → Sound k → Sound (off k)
  sound-off k s = record { threads = s.threads; contexts = s.contexts }

  -- stops
  leaves-goes : (enters : ℕ → Option ℕ → Core → Core) → IsEntering enters → (x : ℕ) (cause : Why) (j : ℕ) (k : Core) → Sound k →
      Agree (turns.leaves queue system t enters x cause j k).rows → Goes (turns.leaves queue system t enters x cause j k) (turns.leaves queue system now enters x cause j (later k))
  leaves-goes enters e x cause j k s r =
      record {
        sound = e.sound x (turns.date_of system t x k) (off k) (sound-off k s);
        alike =
            ap (says (row.Stop x cause j (option_map (λ date. date + d) (turns.date_of system t x k)))) (e.alike x (turns.date_of system t x k) (off k))
            ∙ ap (λ until. says (row.Stop x cause j until) (enters x until (off (later k)))) (date_of-later x cause j k r.0);
      }

  charged-goes : (enters : ℕ → Option ℕ → Core → Core) → IsEntering enters → (x : ℕ) (cause : Why) (j : ℕ) (k : Core) → Sound k →
      Agree (turns.leaves queue system t enters x cause j (turns.charged system x j k)).rows →
      Goes (turns.leaves queue system t enters x cause j (turns.charged system x j k)) (turns.leaves queue system now enters x cause j (turns.charged system x j (later k)))
  charged-goes enters e x cause j k s r =
      let l : 1 ≤ j = charges-some x cause j (turns.date_of system t x (turns.charged system x j k)) r.0 in
      goes-to _ _ _ (leaves-goes enters e x cause j (turns.charged system x j k) (sound-charged x j k l s) r)
      (ap (turns.leaves queue system now enters x cause j) (charged-later x j k l s))

  stops-goes : (x : ℕ) (cause : Why) (j : ℕ) (standing : Standing) (k : Core) → Sound k →
      Agree (turns.stops system x cause j standing k).rows → Goes (turns.stops system x cause j standing k) (turns.stops system x cause j standing (later k))
  stops-goes x cause j standing k s r =
      record {
        sound = sound-stands x standing (off (turns.charged system x j k)) (sound-off _ (sound-charged x j k r.0 s));
        alike =
            ap (says (row.Stop x cause j None))
            (stands-later x standing (off (turns.charged system x j k)) ∙ ap (λ core. stands x standing (off core)) (charged-later x j k r.0 s));
      }

  may_stop-goes : (x using : ℕ) (cause : AfterItem) (k : Core) → Sound k → Agree (turns.may_stop queue system t x using cause k).rows →
      Goes (turns.may_stop queue system t x using cause k) (turns.may_stop queue system now x using cause (later k))
  may_stop-goes x using after.Ends k s r = stops-goes x why.Done using Done k s r
  may_stop-goes x using after.Blocks k s r = stops-goes x why.Wait using Blocked k s r
  may_stop-goes x using after.Calls k s r = stops-goes x why.Call using Blocked k s r
  may_stop-goes x using after.Yields k s r =
      goes-to _ _ _ (charged-goes (turns.enters_back queue) back x why.Yield (head_amount (turns.its_context system x k)) k s r)
      (ap (λ j. turns.stops_to_back queue system now x why.Yield j (later k)) (sym (head-later x k)))
  may_stop-goes x using after.GoesOn k s r =
      goes-to _ _ _
      (by_test (using == head_amount (turns.its_context system x k)) (turns.stops_to_back queue system t x why.Spent using k) (silent k)
      (turns.stops_to_back queue system now x why.Spent using (later k)) (silent (later k))
      (charged-goes (turns.enters_back queue) back x why.Spent using k s) (λ r. record { sound = s; alike = refl }) r)
      (ap (λ n. cond (using == n) (turns.stops_to_back queue system now x why.Spent using (later k)) (silent (later k))) (sym (head-later x k)))

  -- the place of a thread in its script
  item-same : (x : ℕ) (k : Core) → turns.item_of system x (later k) ≡ turns.item_of system x k
  item-same x k = thread-same shift.threads shift.rounds (λ y. slice_get (thread_part system x).script y.place.item) x k.threads (λ y. refl)

  move-same : (x : ℕ) (k : Core) → turns.move_of system x (later k) ≡ turns.move_of system x k
  move-same x k =
      thread-same shift.threads shift.rounds (λ y. move_after (thread_part system x).script (thread_part system x).rounds y.place) x k.threads
      (λ y. moves-same (thread_part system x).script (thread_part system x).rounds (shift.rounds x) y.place (is_shift.endless x))

  left-same : (x : ℕ) (k : Core) → (thread_of (later k) x).place.left ≡ (thread_of k x).place.left
  left-same x k = thread-same shift.threads shift.rounds (λ y. y.place.left) x k.threads (λ y. refl)

  given-later : (x word : ℕ) (k : Core) → RoundKeepsUp system shift x → later (turns.given system t x word k) ≡ turns.given system now x word (later k)
  given-later x word k e =
      with-thread (turns.round_begun (thread_part system x).script t word) (turns.round_begun (thread_part system x).script now word) x k (λ y. by y (y.place.item == 0))
    where
      begun : Thread → Bool → ℕ → ℕ → Thread
      begun y first since before =
          record y { place = record (y.place) { word = cond first (heard (thread_part system x).script word) y.place.word }; since = cond first since before }

      by : (y : Thread) (b : Bool) →
          later_thread (shift.threads x) (shift.rounds x) (begun y b t y.since) ≡ begun (later_thread (shift.threads x) (shift.rounds x) y) b now (y.since + shift.threads x)
      by y true = ap (λ since. begun (later_thread (shift.threads x) (shift.rounds x) y) true (t + since) y.since) e
      by y false = refl

  sound-given : (x word : ℕ) (k : Core) → Sound k → Sound (turns.given system t x word k)
  sound-given x word k s = sound-thread x _ k s

  round_row-later : (x : ℕ) (k : Core) → Sound k → Agrees system shift (turns.round_row system t x k) → later_what shift (turns.round_row system t x k) ≡ turns.round_row system now x (later k)
  round_row-later x k s a =
      ap (row.Round x (more_rounds (shift.rounds x) (thread_of k x).place.round)) response
      ∙ ap (λ (y : Thread). row.Round x y.place.round (now - y.since)) (sym (thread-later shift.threads shift.rounds x k.threads (rw (s.threads) a.0)))
    where
      response : t - (thread_of k x).since ≡ now - ((thread_of k x).since + shift.threads x)
      response = let e : shift.threads x ≡ d = a.1 in omega (arith, e)

  moves-goes : (x : ℕ) (m : Moved) (k : Core) → Sound k → Agree (turns.moves system t x m k).rows → Goes (turns.moves system t x m k) (turns.moves system now x m (later k))
  moves-goes x Next k s r =
      record {
        sound = sound-thread x _ k s;
        alike =
            ap silent
            (with-thread (λ y. record y { place = place_after system.call (thread_part system x).script Next y.place; since = y.since })
            (λ y. record y { place = place_after system.call (thread_part system x).script Next y.place; since = y.since }) x k (λ y. refl));
      }
  moves-goes x RoundEnds k s r =
      record {
        sound = sound-thread x _ k s;
        alike =
            ap (λ what. says what (later (turns.placed system t x RoundEnds t k))) (round_row-later x k s r.0)
            ∙ ap (says (turns.round_row system now x (later k)))
            (with-thread (λ y. record y { place = place_after system.call (thread_part system x).script RoundEnds y.place; since = t })
            (λ y. record y { place = place_after system.call (thread_part system x).script RoundEnds y.place; since = now }) x k by);
      }
    where
      placed : Thread → ℕ → ℕ → Thread
      placed y round since = record y { place = goes_to system.call (thread_part system x).script round 0 y.place; since = since }

      moved : (y : Thread) (round more since : ℕ) → round ≡ more → since ≡ now → placed y round since ≡ placed y more now
      moved y round more since e f = ap (λ round. placed y round since) e ∙ ap (λ since. placed y more since) f

      by : (y : Thread) → later_thread (shift.threads x) (shift.rounds x) (record y { place = place_after system.call (thread_part system x).script RoundEnds y.place; since = t })
          ≡ record (later_thread (shift.threads x) (shift.rounds x) y) { place = place_after system.call (thread_part system x).script RoundEnds (later_thread (shift.threads x) (shift.rounds x) y).place; since = now }
      by y =
          moved y (more_rounds (shift.rounds x) (min (y.place.round + 1) (2 ^ 64 - 1))) (min (more_rounds (shift.rounds x) y.place.round + 1) (2 ^ 64 - 1)) (t + shift.threads x)
          (round-ends (shift.rounds x) y.place.round) (ap (λ n. t + n) r.0.1)
  moves-goes x AllDone k s r = record { sound = s; alike = ap (λ what. says what (later k)) (round_row-later x k s r.0) }

  moves_on-goes : (x : ℕ) (k : Core) → Sound k → Agree (turns.moves_on system t x k).rows → Goes (turns.moves_on system t x k) (turns.moves_on system now x (later k))
  moves_on-goes x k s r =
      goes-to _ _ _ (moves-goes x (turns.move_of system x k) k s r) (ap (λ m. turns.moves system now x m (later k)) (sym (move-same x k)))

  waits_as-goes : (x note : ℕ) (w : Waited) (k : Core) → Sound k → Agree (turns.waits_as system t x note w k).rows →
      Goes (turns.waits_as system t x note w k) (turns.waits_as system now x note w (later k))
  waits_as-goes x note (Got word) k s r =
      then_part (says (row.Got x note word) (turns.given system t x word noted)) (says (row.Got x note word) (turns.given system now x word (later noted))) (turns.moves_on system t x) (turns.moves_on system now x)
      (record { sound = sound-given x word noted sound-noted; alike = ap (says (row.Got x note word)) (given-later x word noted r.0) })
      (moves_on-goes x) r
    where
      noted : Core
      noted = with_note note (after_wait (Got word) (turns.queued x k) (note_of k note)) k

      sound-noted : Sound noted
      sound-noted = record { threads = s.threads; contexts = s.contexts }
  waits_as-goes x note Blocks k s r =
      record {
        sound = record { threads = s.threads; contexts = s.contexts };
        alike = ap (λ queued. silent (with_note note (after_wait Blocks queued (note_of k note)) (later k))) (sym (queued-same x k));
      }

  enters_as-goes : (x server : ℕ) (w : Waited) (k : Core) → Sound k → Agree (turns.enters_as system t x server w k).rows →
      Goes (turns.enters_as system t x server w k) (turns.enters_as system now x server w (later k))
  enters_as-goes x server (Got word) k s r =
      then_part (says (row.Got x server word) taken) (says (row.Got x server word) (later taken)) (turns.moves_on system t x) (turns.moves_on system now x)
      (record { sound = record { threads = s.threads; contexts = s.contexts }; alike = refl }) (moves_on-goes x) r
    where
      taken : Core
      taken = with_note server (after_wait (Got word) (turns.queued x k) (note_of k server)) k
  enters_as-goes x server Blocks k s r =
      record {
        sound = record { threads = s.threads; contexts = s.contexts };
        alike = ap (λ queued. silent (with_note server (after_wait Blocks queued (note_of k server)) (later k))) (sym (queued-same x k));
      }

  -- a wake
  woken-later : (x : ℕ) (k : Core) → ContextKeepsUp system shift x → later (turns.with_woken_context system t x k) ≡ turns.with_woken_context system now x (later k)
  woken-later x k e =
      with-context (thread_part system x).context (context_woken t (turns.its_context system x k)) k
      ∙ ap (λ c. with_context (thread_part system x).context c (later k))
      (woken-context (shift.contexts (thread_part system x).context) t (turns.its_context system x k)
      ∙ ap (λ m. context_woken (t + m) (later_context (shift.contexts (thread_part system x).context) (turns.its_context system x k))) e
      ∙ ap (context_woken now) (sym (its-later x k)))

  woken_until-later : (x : ℕ) (k : Core) → ContextKeepsUp system shift x →
      option_map (λ date. date + d) (turns.woken_until system t x k) ≡ turns.woken_until system now x (later k)
  woken_until-later x k e =
      let woken : Core = turns.with_woken_context system t x k in
      date_of-later x why.Wait 1 woken (keeping-up x why.Wait (turns.date_of system t x woken) e) ∙ ap (turns.date_of system now x) (woken-later x k e)

  sound-woken : (x : ℕ) (k : Core) → Sound k → Sound (turns.with_woken_context system t x k)
  sound-woken x k s =
      sound-context (thread_part system x).context (context_woken t (turns.its_context system x k)) k s
      (woken-order system shift (thread_part system x).context t (turns.its_context system x k) (its-order x k s))

  wakes-goes : (x word : ℕ) (k : Core) → ContextKeepsUp system shift x → RoundKeepsUp system shift x → Sound k → Agree (turns.wakes queue system t x word k).rows →
      Goes (turns.wakes queue system t x word k) (turns.wakes queue system now x word (later k))
  wakes-goes x word k e f s r =
      then_part (turns.moves_on system t x begun) (turns.moves_on system now x (turns.given system now x word (turns.with_woken_context system now x (later k))))
      (λ core. silent (turns.enters_back queue x (turns.date_of system t x core) core))
      (λ core. silent (turns.enters_back queue x (turns.date_of system now x core) core))
      (goes-to _ _ _ (moves_on-goes x begun sound-begun (agree-first (turns.moves_on system t x begun).rows [] r)) (ap (turns.moves_on system now x) begun-later))
      (λ core sound _. record {
        sound = sound-back x (turns.date_of system t x core) core sound;
        alike = ap silent (enters_back-later x (turns.date_of system t x core) core
            ∙ ap (λ until. turns.enters_back queue x until (later core)) (date_of-later x why.Wait 1 core (keeping-up x why.Wait (turns.date_of system t x core) e)));
      })
      r
    where
      begun : Core
      begun = turns.given system t x word (turns.with_woken_context system t x k)

      sound-begun : Sound begun
      sound-begun = sound-given x word (turns.with_woken_context system t x k) (sound-woken x k s)

      begun-later : later begun ≡ turns.given system now x word (turns.with_woken_context system now x (later k))
      begun-later = given-later x word (turns.with_woken_context system t x k) f ∙ ap (turns.given system now x word) (woken-later x k e)

  -- a thread that is let in
  let_in-goes : (x : ℕ) (k : Core) → ContextKeepsUp system shift x → Sound k → Agree (turns.let_in queue system t x k).rows →
      Goes (turns.let_in queue system t x k) (turns.let_in queue system now x (later k))
  let_in-goes x k e s r =
      then_part (turns.moves_on system t x woken) (turns.moves_on system now x (turns.with_woken_context system now x (later k)))
      (λ core. silent (turns.enters_front queue x (turns.date_of system t x core) core))
      (λ core. silent (turns.enters_front queue x (turns.date_of system now x core) core))
      (goes-to _ _ _ (moves_on-goes x woken (sound-woken x k s) (agree-first (turns.moves_on system t x woken).rows [] r)) (ap (turns.moves_on system now x) (woken-later x k e)))
      (λ core sound _. record {
        sound = sound-front x (turns.date_of system t x core) core sound;
        alike = ap silent (enters_front-later x (turns.date_of system t x core) core
            ∙ ap (λ until. turns.enters_front queue x until (later core)) (date_of-later x why.Wait 1 core (keeping-up x why.Wait (turns.date_of system t x core) e)));
      })
      r
    where
      woken : Core
      woken = turns.with_woken_context system t x k

  posts_as-goes : (note : ℕ) (p : Posted) (k : Core) → Sound k → Agree (turns.posts_as queue system t note p k).rows →
      Goes (turns.posts_as queue system t note p k) (turns.posts_as queue system now note p (later k))
  posts_as-goes note (Woke x word) k s r =
      let posted : Core = with_note note (after_post (Woke x word) (note_of k note)) k in
      goes-to _ _ _
      (says_first (row.Wake x note word (turns.woken_until system t x k)) posted (turns.wakes queue system t x word) (turns.wakes queue system now x word)
      (record { threads = s.threads; contexts = s.contexts }) (λ l. wakes-goes x word l r.0.0 r.0.1) r)
      (ap (λ until. says (row.Wake x note word until) (later posted) followed_by turns.wakes queue system now x word) (woken_until-later x k r.0.0))
  posts_as-goes note (Held word) k s r = record { sound = record { threads = s.threads; contexts = s.contexts }; alike = refl }

  frees_as-goes : (server : ℕ) (p : Posted) (k : Core) → Sound k → Agree (turns.frees_as queue system t server p k).rows →
      Goes (turns.frees_as queue system t server p k) (turns.frees_as queue system now server p (later k))
  frees_as-goes server (Woke x word) k s r =
      let posted : Core = with_note server (after_post (Woke x word) (note_of k server)) k in
      goes-to _ _ _
      (says_first (row.Wake x server word (turns.woken_until system t x k)) posted (turns.let_in queue system t x) (turns.let_in queue system now x)
      (record { threads = s.threads; contexts = s.contexts }) (λ l. let_in-goes x l r.0.0) r)
      (ap (λ until. says (row.Wake x server word until) (later posted) followed_by turns.let_in queue system now x) (woken_until-later x k r.0.0))
  frees_as-goes server (Held word) k s r = record { sound = record { threads = s.threads; contexts = s.contexts }; alike = refl }

  frees-goes : (x server : ℕ) (k : Core) → Sound k → Agree (turns.frees queue system t x server k).rows →
      Goes (turns.frees queue system t x server k) (turns.frees queue system now x server (later k))
  frees-goes x server k s r =
      says_first (row.Signal x server 1) k (λ l. turns.frees_as queue system t server (posted 1 (note_of l server)) l) (λ l. turns.frees_as queue system now server (posted 1 (note_of l server)) l) s
      (λ l. frees_as-goes server (posted 1 (note_of l server)) l) r

  posts-goes : (note badge : ℕ) (k : Core) → Sound k → Agree (turns.posts queue system t note badge k).rows →
      Goes (turns.posts queue system t note badge k) (turns.posts queue system now note badge (later k))
  posts-goes note badge k s r = posts_as-goes note (posted badge (note_of k note)) k s r

  -- part 1a
  interrupts-goes : (alarm : Alarm) (k : Core) → Sound k → Agree (turns.interrupts queue system t alarm k).rows →
      Goes (turns.interrupts queue system t alarm k) (turns.interrupts queue system now (later_alarm d alarm) (later k))
  interrupts-goes alarm k s r =
      says_first (row.Interrupt alarm.source alarm.note alarm.badge) k (turns.posts queue system t alarm.note alarm.badge) (turns.posts queue system now alarm.note alarm.badge) s
      (posts-goes alarm.note alarm.badge) r

  ringing-later : (alarms : List Alarm) → map (later_alarm d) (ringing t alarms) ≡ ringing now (map (later_alarm d) alarms)
  ringing-later [] = refl
  ringing-later (alarm ∷ alarms) =
      by (rings t alarm) (ringing-later alarms)
      ∙ ap (λ b. cond b (later_alarm d alarm ∷ ringing now (map (later_alarm d) alarms)) (ringing now (map (later_alarm d) alarms))) (sym (rings-later t d alarm))
    where
      by : (b : Bool) → map (later_alarm d) (ringing t alarms) ≡ ringing now (map (later_alarm d) alarms) →
          map (later_alarm d) (cond b (alarm ∷ ringing t alarms) (ringing t alarms))
          ≡ cond b (later_alarm d alarm ∷ ringing now (map (later_alarm d) alarms)) (ringing now (map (later_alarm d) alarms))
      by true e = ap (λ others. later_alarm d alarm ∷ others) e
      by false e = e

  -- part 2
  arrives-goes : (mail : Mail) (k : Core) → Sound k → Agree (turns.arrives queue system t mail k).rows →
      Goes (turns.arrives queue system t mail k) (turns.arrives queue system now (later_mail d mail) (later k))
  arrives-goes mail k s r =
      says_first (row.Arrive mail.note mail.badge mail.maker) k (turns.posts queue system t mail.note mail.badge) (turns.posts queue system now mail.note mail.badge) s
      (posts-goes mail.note mail.badge) r

  -- part 4
  released-goes : (due : Dated) (k : Core) → Sound k → Agree (turns.released queue due k).rows →
      Goes (turns.released queue due k) (turns.released queue (later_dated d due) (later k))
  released-goes due k s r = record { sound = sound-back due.thread None k s; alike = ap (says (row.Release due.thread)) (enters_back-later due.thread None k) }

  due-later : (x : Dated) → is_due now (later_dated d x) ≡ is_due t x
  due-later x = by x.date
    where
      by : (date : ℕ) → nat_le (date + d) (t + d) ≡ nat_le date t
      by date = grind (arith, nat_tests)

  filter-later : (p q : Dated → Bool) → ((x : Dated) → q (later_dated d x) ≡ p x) → (xs : List Dated) → map (later_dated d) (filter p xs) ≡ filter q (map (later_dated d) xs)
  filter-later p q h [] = refl
  filter-later p q h (x ∷ xs) = by (p x) (filter-later p q h xs) ∙ ap (λ b. cond b (later_dated d x ∷ filter q (map (later_dated d) xs)) (filter q (map (later_dated d) xs))) (sym (h x))
    where
      by : (b : Bool) → map (later_dated d) (filter p xs) ≡ filter q (map (later_dated d) xs) →
          map (later_dated d) (cond b (x ∷ filter p xs) (filter p xs)) ≡ cond b (later_dated d x ∷ filter q (map (later_dated d) xs)) (filter q (map (later_dated d) xs))
      by true e = ap (λ others. later_dated d x ∷ others) e
      by false e = e

  releases-goes : (k : Core) → Sound k → Agree (turns.releases queue system t k).rows → Goes (turns.releases queue system t k) (turns.releases queue system now (later k))
  releases-goes k s r =
      goes-to _ _ _
      (each_part (later_dated d) (turns.released queue) (turns.released queue) released-goes (filter (is_due t) k.releases) rest (record { threads = s.threads; contexts = s.contexts }) r)
      (ap (λ xs. each (turns.released queue) xs (later rest)) (filter-later (is_due t) (is_due now) due-later k.releases)
      ∙ ap (λ releases. each (turns.released queue) (filter (is_due now) (map (later_dated d) k.releases)) (record (later k) { releases = releases }))
      (filter-later (λ x. not (is_due t x)) (λ x. not (is_due now x)) (λ x. ap not (due-later x)) k.releases))
    where
      rest : Core
      rest = record k { releases = filter (λ x. not (is_due t x)) k.releases }

  -- part 5
  preempts_by-goes : (o : Option Chosen) (best : Option Queued) (k : Core) → Sound k → Agree (turns.preempts_by queue system t o best k).rows →
      Goes (turns.preempts_by queue system t o best k) (turns.preempts_by queue system now o best (later k))
  preempts_by-goes (Some chosen) (Some best) k s r =
      goes-to _ _ _
      (by_test (nat_lt (thread_of k chosen.thread).place.priority best.priority)
      (turns.stops_to_front queue system t chosen.thread why.Preempt chosen.using (turns.charged system chosen.thread chosen.using k)) (silent k)
      (turns.stops_to_front queue system now chosen.thread why.Preempt chosen.using (turns.charged system chosen.thread chosen.using (later k))) (silent (later k))
      (charged-goes (turns.enters_front queue) front chosen.thread why.Preempt chosen.using k s) (λ r. record { sound = s; alike = refl }) r)
      (ap (λ priority. cond (nat_lt priority best.priority)
      (turns.stops_to_front queue system now chosen.thread why.Preempt chosen.using (turns.charged system chosen.thread chosen.using (later k))) (silent (later k))) (sym (priority-same chosen.thread k)))
  preempts_by-goes (Some chosen) None k s r = record { sound = s; alike = refl }
  preempts_by-goes None best k s r = record { sound = s; alike = refl }

  preempts-goes : (k : Core) → Sound k → Agree (turns.preempts queue system t k).rows → Goes (turns.preempts queue system t k) (turns.preempts queue system now (later k))
  preempts-goes k s r = preempts_by-goes k.running (queue.best k.ready) k s r

  chosen-later : (x : ℕ) (k : Core) → Sound k → Agrees system shift (row.Run x) → later (turns.with_chosen_context system t x k) ≡ turns.with_chosen_context system now x (later k)
  chosen-later x k s a =
      with-context n (context_chosen t (turns.its_context system x k)) k
      ∙ ap (λ c. with_context n c (later k)) (by a ∙ ap (context_chosen now) (sym (its-later x k)))
    where
      n : ℕ
      n = (thread_part system x).context

      by : Agrees system shift (row.Run x) →
          later_context (shift.contexts n) (context_chosen t (turns.its_context system x k)) ≡ context_chosen now (later_context (shift.contexts n) (turns.its_context system x k))
      by (inl e) =
          chosen-context (shift.contexts n) t (turns.its_context system x k)
          ∙ ap (λ m. context_chosen (t + m) (later_context (shift.contexts n) (turns.its_context system x k))) e
      by (inr e) = chosen-sporadic (shift.contexts n) t now (turns.its_context system x k) ((its-order x k s).mode e)

  sound-chosen : (x : ℕ) (k : Core) → Sound k → Sound (turns.with_chosen_context system t x k)
  sound-chosen x k s =
      sound-context (thread_part system x).context (context_chosen t (turns.its_context system x k)) k s
      (chosen-order system shift (thread_part system x).context t (turns.its_context system x k) (its-order x k s))

  chooses_of-goes : (o : Option Chosen) (best : Option Queued) (k : Core) → Sound k → Agree (turns.chooses_of queue system t o best k).rows →
      Goes (turns.chooses_of queue system t o best k) (turns.chooses_of queue system now o best (later k))
  chooses_of-goes (Some chosen) best k s r = record { sound = s; alike = refl }
  chooses_of-goes None None k s r = record { sound = s; alike = refl }
  chooses_of-goes None (Some best) k s r =
      record {
        sound = let q = sound-stands best.thread Running (turns.with_chosen_context system t best.thread k) (sound-chosen best.thread k s) in record { threads = q.threads; contexts = q.contexts };
        alike =
            ap (λ (core : Core). says (row.Run best.thread) (record core { running = Some (record { thread = best.thread; using = 0 }); ready = queue.rest k.ready }))
            (stands-later best.thread Running (turns.with_chosen_context system t best.thread k) ∙ ap (stands best.thread Running) (chosen-later best.thread k s r.0));
      }

  chooses-goes : (k : Core) → Sound k → Agree (turns.chooses queue system t k).rows → Goes (turns.chooses queue system t k) (turns.chooses queue system now (later k))
  chooses-goes k s r = chooses_of-goes k.running (queue.best k.ready) k s r

  -- part 1
  module _ (c : ℕ) where
    signals-goes : (x note badge : ℕ) (k : Core) → Sound k → Agree (turns.signals queue system c t x note badge k).rows →
        Goes (turns.signals queue system c t x note badge k) (turns.signals queue system c now x note badge (later k))
    signals-goes x note badge k s r =
        says_first (row.Signal x note badge) k (sent t) (sent now) s
        (λ l q. by_test ((note_part system note).core == c) (turns.posts queue system t note badge l) (record { core = l; rows = []; mails = turns.mail_to system c t note badge ∷ [] })
        (turns.posts queue system now note badge (later l)) (record { core = later l; rows = []; mails = turns.mail_to system c now note badge ∷ [] })
        (posts-goes note badge l q) (λ _. record { sound = q; alike = mail l })) r
      where
        sent : ℕ → Core → Turn
        sent m l = cond ((note_part system note).core == c) (turns.posts queue system m note badge l) (record { core = l; rows = []; mails = turns.mail_to system c m note badge ∷ [] })

        sends : Core → ℕ → Turn
        sends l arrives = record { core = later l; rows = []; mails = record { arrives = arrives; made = now; maker = c; note = note; badge = badge } ∷ [] }

        moved : (m delay : ℕ) → t + delay + m ≡ t + m + delay
        moved m delay = omega arith

        mail : (l : Core) → later_turn shift (record { core = l; rows = []; mails = turns.mail_to system c t note badge ∷ [] }) ≡ record { core = later l; rows = []; mails = turns.mail_to system c now note badge ∷ [] }
        mail l = ap (sends l) (moved d (delay_between system c (note_part system note).core))

    takes_effect-goes : (x : ℕ) (item : Option Item) (k : Core) → Sound k → Agree (turns.takes_effect queue system c t x item k).rows →
        Goes (turns.takes_effect queue system c t x item k) (turns.takes_effect queue system c now x item (later k))
    takes_effect-goes x (Some (Signal note badge)) k s r =
        then_part (turns.signals queue system c t x note badge k) (turns.signals queue system c now x note badge (later k)) (turns.moves_on system t x) (turns.moves_on system now x)
        (signals-goes x note badge k s (agree-first (turns.signals queue system c t x note badge k).rows (turns.moves_on system t x (turns.signals queue system c t x note badge k).core).rows r))
        (moves_on-goes x) r
    takes_effect-goes x (Some (Wait note)) k s r = waits_as-goes x note (waited (note_of k note)) k s r
    takes_effect-goes x (Some (Compute ticks)) k s r = moves_on-goes x k s r
    takes_effect-goes x (Some Yield) k s r = moves_on-goes x k s r
    takes_effect-goes x (Some (On badges)) k s r = moves_on-goes x k s r
    takes_effect-goes x (Some Spin) k s r = moves_on-goes x k s r
    takes_effect-goes x (Some (Enter server priority)) k s r = enters_as-goes x server (waited (note_of k server)) k s r
    takes_effect-goes x (Some (Leave server priority)) k s r =
        then_part (turns.frees queue system t x server k) (turns.frees queue system now x server (later k)) (turns.moves_on system t x) (turns.moves_on system now x)
        (frees-goes x server k s (agree-first (turns.frees queue system t x server k).rows (turns.moves_on system t x (turns.frees queue system t x server k).core).rows r))
        (moves_on-goes x) r
    takes_effect-goes x None k s r = record { sound = s; alike = refl }

    after_item-same : (x : ℕ) (item : Option Item) (k : Core) → turns.after_item system x item k ≡ turns.after_item system x item (later k)
    after_item-same x (Some (Signal note badge)) k = ap (λ m. turns.after_move m after.GoesOn) (sym (move-same x k))
    after_item-same x (Some (Wait note)) k = refl
    after_item-same x (Some (Compute ticks)) k = ap (λ m. turns.after_move m after.GoesOn) (sym (move-same x k))
    after_item-same x (Some Yield) k = ap (λ m. turns.after_move m after.Yields) (sym (move-same x k))
    after_item-same x (Some (On badges)) k = ap (λ m. turns.after_move m after.GoesOn) (sym (move-same x k))
    after_item-same x (Some Spin) k = ap (λ m. turns.after_move m after.GoesOn) (sym (move-same x k))
    after_item-same x (Some (Enter server priority)) k = refl
    after_item-same x (Some (Leave server priority)) k = ap (λ m. turns.after_move m after.GoesOn) (sym (move-same x k))
    after_item-same x None k = refl

    finishes-goes : (x using : ℕ) (item : Option Item) (k : Core) → Sound k → Agree (turns.finishes queue system c t x using item k).rows →
        Goes (turns.finishes queue system c t x using item k) (turns.finishes queue system c now x using item (later k))
    finishes-goes x using item k s r =
        goes-to _ _ _
        (then_part (turns.takes_effect queue system c t x item k) (turns.takes_effect queue system c now x item (later k))
        (turns.may_stop queue system t x using (turns.after_item system x item k)) (turns.may_stop queue system now x using (turns.after_item system x item k))
        (takes_effect-goes x item k s (agree-first (turns.takes_effect queue system c t x item k).rows (turns.may_stop queue system t x using (turns.after_item system x item k) (turns.takes_effect queue system c t x item k).core).rows r))
        (may_stop-goes x using (turns.after_item system x item k)) r)
        (ap (λ cause. turns.takes_effect queue system c now x item (later k) followed_by turns.may_stop queue system now x using cause) (after_item-same x item k))

    after_count-goes : (x using : ℕ) (k : Core) → Sound k → Agree (turns.after_count queue system c t x using k).rows →
        Goes (turns.after_count queue system c t x using k) (turns.after_count queue system c now x using (later k))
    after_count-goes x using k s r =
        goes-to _ _ _
        (by_test ((thread_of k x).place.left == 0) (turns.finishes queue system c t x using (turns.item_of system x k) k) (turns.may_stop queue system t x using after.GoesOn k)
        (turns.finishes queue system c now x using (turns.item_of system x k) (later k)) (turns.may_stop queue system now x using after.GoesOn (later k))
        (finishes-goes x using (turns.item_of system x k) k s) (may_stop-goes x using after.GoesOn k s) r)
        (ap (λ item. cond ((thread_of k x).place.left == 0) (turns.finishes queue system c now x using item (later k)) (turns.may_stop queue system now x using after.GoesOn (later k))) (sym (item-same x k))
        ∙ ap (λ left. cond (left == 0) (turns.finishes queue system c now x using (turns.item_of system x (later k)) (later k)) (turns.may_stop queue system now x using after.GoesOn (later k))) (sym (left-same x k)))

    counts-later : (chosen : Chosen) (k : Core) → later (turns.counts chosen k) ≡ turns.counts chosen (later k)
    counts-later chosen k =
        with-thread (λ y. record y { place = record (y.place) { left = left_after 1 y.place.left } }) (λ y. record y { place = record (y.place) { left = left_after 1 y.place.left } }) chosen.thread
        (record k { running = Some (record { thread = chosen.thread; using = chosen.using + 1 }) }) (λ y. refl)

    tick_of-goes : (o : Option Chosen) (k : Core) → Sound k → Agree (turns.tick_of queue system c t o k).rows → Goes (turns.tick_of queue system c t o k) (turns.tick_of queue system c now o (later k))
    tick_of-goes None k s r = record { sound = s; alike = refl }
    tick_of-goes (Some chosen) k s r =
        goes-to _ _ _
        (after_count-goes chosen.thread (chosen.using + 1) (turns.counts chosen k)
        (let q : Sound (record k { running = Some (record { thread = chosen.thread; using = chosen.using + 1 }) }) = record { threads = s.threads; contexts = s.contexts } in
        sound-thread chosen.thread _ (record k { running = Some (record { thread = chosen.thread; using = chosen.using + 1 }) }) q) r)
        (ap (turns.after_count queue system c now chosen.thread (chosen.using + 1)) (counts-later chosen k))

    none-goes : (os us : List Order) → os ≡ [] → us ≡ [] → (l : Core) → Sound l → Goes (each (turns.obeys queue system t) os l) (each (turns.obeys queue system now) us (later l))
    none-goes os us e f l s = rw (e, f) (record { sound = s; alike = refl })

    -- the parts before the choice, one more at a time
    abbrev ticked : ℕ → Core → Turn
    ticked m k = turns.tick queue system c m k

    abbrev rung : ℕ → Core → Turn
    rung m k = ticked m k followed_by each (turns.interrupts queue system m) (ringing m (alarms_at system c m))

    abbrev arrived : ℕ → List Mail → Core → Turn
    arrived m mails k = rung m k followed_by each (turns.arrives queue system m) mails

    abbrev obeyed : ℕ → List Mail → Core → Turn
    obeyed m mails k = arrived m mails k followed_by each (turns.obeys queue system m) (filter (turns.is_for_now system c m) system.orders)

    abbrev freed : ℕ → List Mail → Core → Turn
    freed m mails k = obeyed m mails k followed_by turns.releases queue system m

    abbrev yielded : ℕ → List Mail → Core → Turn
    yielded m mails k = freed m mails k followed_by turns.preempts queue system m

    -- the alarms are the same, but later
    abbrev RingLater : Type 0
    RingLater = alarms_at system c now ≡ map (later_alarm d) (alarms_at system c t)

    rung-goes : (k : Core) → RingLater → Sound k → Agree (rung t k).rows → Goes (rung t k) (rung now (later k))
    rung-goes k g s r =
        goes-to _ _ _
        (then_part (ticked t k) (ticked now (later k)) (each (turns.interrupts queue system t) (ringing t (alarms_at system c t)))
        (each (turns.interrupts queue system now) (map (later_alarm d) (ringing t (alarms_at system c t))))
        (tick_of-goes k.running k s (agree-first (ticked t k).rows (each (turns.interrupts queue system t) (ringing t (alarms_at system c t)) (ticked t k).core).rows r))
        (each_part (later_alarm d) (turns.interrupts queue system t) (turns.interrupts queue system now) interrupts-goes (ringing t (alarms_at system c t))) r)
        (ap (λ alarms. ticked now (later k) followed_by each (turns.interrupts queue system now) alarms) (ringing-later (alarms_at system c t) ∙ ap (ringing now) (sym g)))

    arrived-goes : (mails : List Mail) (k : Core) → RingLater → Sound k → Agree (arrived t mails k).rows → Goes (arrived t mails k) (arrived now (map (later_mail d) mails) (later k))
    arrived-goes mails k g s r =
        then_part (rung t k) (rung now (later k)) (each (turns.arrives queue system t) mails) (each (turns.arrives queue system now) (map (later_mail d) mails))
        (rung-goes k g s (agree-first (rung t k).rows (each (turns.arrives queue system t) mails (rung t k).core).rows r))
        (each_part (later_mail d) (turns.arrives queue system t) (turns.arrives queue system now) arrives-goes mails) r

    obeyed-goes : (mails : List Mail) (k : Core) → filter (turns.is_for_now system c t) system.orders ≡ [] → filter (turns.is_for_now system c now) system.orders ≡ [] →
        RingLater → Sound k → Agree (obeyed t mails k).rows → Goes (obeyed t mails k) (obeyed now (map (later_mail d) mails) (later k))
    obeyed-goes mails k e f g s r =
        then_part (arrived t mails k) (arrived now (map (later_mail d) mails) (later k))
        (each (turns.obeys queue system t) (filter (turns.is_for_now system c t) system.orders)) (each (turns.obeys queue system now) (filter (turns.is_for_now system c now) system.orders))
        (arrived-goes mails k g s (agree-first (arrived t mails k).rows (each (turns.obeys queue system t) (filter (turns.is_for_now system c t) system.orders) (arrived t mails k).core).rows r))
        (λ l q _. none-goes (filter (turns.is_for_now system c t) system.orders) (filter (turns.is_for_now system c now) system.orders) e f l q) r

    freed-goes : (mails : List Mail) (k : Core) → filter (turns.is_for_now system c t) system.orders ≡ [] → filter (turns.is_for_now system c now) system.orders ≡ [] →
        RingLater → Sound k → Agree (freed t mails k).rows → Goes (freed t mails k) (freed now (map (later_mail d) mails) (later k))
    freed-goes mails k e f g s r =
        then_part (obeyed t mails k) (obeyed now (map (later_mail d) mails) (later k)) (turns.releases queue system t) (turns.releases queue system now)
        (obeyed-goes mails k e f g s (agree-first (obeyed t mails k).rows (turns.releases queue system t (obeyed t mails k).core).rows r)) releases-goes r

    yielded-goes : (mails : List Mail) (k : Core) → filter (turns.is_for_now system c t) system.orders ≡ [] → filter (turns.is_for_now system c now) system.orders ≡ [] →
        RingLater → Sound k → Agree (yielded t mails k).rows → Goes (yielded t mails k) (yielded now (map (later_mail d) mails) (later k))
    yielded-goes mails k e f g s r =
        then_part (freed t mails k) (freed now (map (later_mail d) mails) (later k)) (turns.preempts queue system t) (turns.preempts queue system now)
        (freed-goes mails k e f g s (agree-first (freed t mails k).rows (turns.preempts queue system t (freed t mails k).core).rows r)) preempts-goes r

    -- a whole turn, if no order is for its moment and the alarms are later
    pub turn-goes : (mails : List Mail) (k : Core) → filter (turns.is_for_now system c t) system.orders ≡ [] → filter (turns.is_for_now system c now) system.orders ≡ [] →
        RingLater → Sound k → Agree (turns.turn_with queue system c t mails k).rows →
        Goes (turns.turn_with queue system c t mails k) (turns.turn_with queue system c now (map (later_mail d) mails) (later k))
    turn-goes mails k e f g s r =
        then_part (yielded t mails k) (yielded now (map (later_mail d) mails) (later k)) (turns.chooses queue system t) (turns.chooses queue system now)
        (yielded-goes mails k e f g s (agree-first (yielded t mails k).rows (turns.chooses queue system t (yielded t mails k).core).rows r)) chooses-goes r
