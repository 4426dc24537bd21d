-- The interrupt rows of a turn are those of the alarms that ring, and each comes before that of its
-- post.
use Rattle.std.proofs.Common.{◌≡◌, ℕ, zero, suc, ◌+◌, Bool, true, false, cond, ◌==◌, List, [], ◌∷◌, ◌++◌, map, refl, sym, ap, subst, ◌∙◌, append-nil}
use Rattle.std.specs.Prelude.{filter, bit_and, bit_or, flat_map, Option, Some, None}
use Rattle.std.specs.List.{range_with_len}
use Rattle.std.proofs.lemmas.List.{map-append}
use Rattle.std.proofs.lemmas.List.Elements.{filter-append}
use Rattle.std.proofs.lemmas.Nat.{and_or_self}
use Rattle.mcs_ticks.specs.Queue.{Discipline, first_of_greatest, in_one_list}
use Rattle.mcs_ticks.specs.declared.queue.Queued.{Queued}
use Rattle.mcs_ticks.specs.declared.row.Row.{Row}
use Rattle.mcs_ticks.specs.declared.row.What.{What}
use Rattle.mcs_ticks.specs.declared.row.What.TheVariants as row
use Rattle.mcs_notify.specs.Note.{Note, posted}
use Rattle.mcs_notify.specs.declared.posted.Posted.{Posted}
use Rattle.mcs_notify.specs.declared.posted.Posted.TheVariants.{Woke, Held}
use Rattle.mcs_mail.specs.declared.mail.Mail.{Mail}
use Rattle.mcs_system.specs.declared.part.Beat.{Beat}
use Rattle.mcs_system.specs.System.{System}
use Rattle.mcs_system.specs.WellFormed.{IsWellFormed}
use Rattle.mcs_core.specs.Alarms.{rung, rings, ringing, alarms_at}
use Rattle.mcs_core.specs.declared.alarm.Alarm.{Alarm}
use Rattle.mcs_core.specs.declared.standing.AfterItem.{AfterItem}
use Rattle.mcs_core.specs.declared.standing.AfterItem.TheVariants as after
use Rattle.mcs_core.specs.declared.standing.Chosen.{Chosen}
use Rattle.mcs_core.specs.Core.{Core, note_of, thread_of}
use Rattle.mcs_core.specs.Turn as turns
use Rattle.mcs_core.specs.Turn.{Turn, silent, says, ◌followed_by◌, each, is_for_now, stamped}
use Rattle.mcs_core.specs.Clock as clocks
use Rattle.mcs_core.proofs.Clock.{rows-clock}
use Rattle.mcs_laws.proofs.Histories.{takes-time}
use Rattle.mcs_server_laws.specs.Interrupts.{is_interrupt, interrupt_by, due_at, IsPosted, ArePosted, TurnsTellDates, InterruptsArePosted}
use Rattle.mcs_server_laws.proofs.Rows as rows
use Rattle.mcs_server_laws.proofs.Rows.{IsPlain}
use Rattle.mcs_server_laws.proofs.Dates.{alarm_before, ringing-dates}

-- the interrupts of a part of a turn
abbrev pub told : List What → List What
told rows = filter is_interrupt rows

plain : (what : What) → IsPlain what → is_interrupt what ≡ false
plain (row.Interrupt source note badge) h = absurd h
plain what h = refl

-- whether an interrupt is posted depends on the next row alone
last-posted : (first : Row) (what : What) (rows : List Row) → IsPosted first what [] → IsPosted first what rows
last-posted first (row.Interrupt source note badge) rows h = absurd h
last-posted first what rows h = tt

next-posted : (first next : Row) (what : What) (rows more : List Row) → IsPosted first what (next ∷ rows) → IsPosted first what (next ∷ more)
next-posted first next (row.Interrupt source note badge) rows more h = h
next-posted first next what rows more h = tt

-- rows, and then others
pub posted-append : (rows more : List Row) → ArePosted rows → ArePosted more → ArePosted (rows ++ more)
posted-append [] more h m = m
posted-append (first ∷ []) more h m = (last-posted first first.what more h.0, m)
posted-append (first ∷ next ∷ rows) more h m =
    (next-posted first next first.what rows (rows ++ more) h.0, posted-append (next ∷ rows) more h.1 m)

-- rows without interrupts
module _ (queue : Discipline) (system : System) (c t : ℕ) where
  posts_as-none : (note : ℕ) (post : Posted) (k : Core) → told (turns.posts_as queue system t note post k).rows ≡ []
  posts_as-none note post k = rows.posts_as-none is_interrupt plain queue system c t note post k

  tick_of-none : (o : Option Chosen) (k : Core) → told (turns.tick_of queue system c t o k).rows ≡ []
  tick_of-none None k = refl
  tick_of-none (Some chosen) k =
      let counted = turns.counts chosen k in
      let x = chosen.thread in
      let item = turns.item_of system x counted in
      by ((thread_of counted x).place.left == 0) (turns.finishes queue system c t x (chosen.using + 1) item counted)
      (turns.may_stop queue system t x (chosen.using + 1) after.GoesOn counted)
      (rows.none-then is_interrupt plain (turns.takes_effect queue system c t x item counted)
      (turns.may_stop queue system t x (chosen.using + 1) (turns.after_item system x item counted))
      (rows.effect-none is_interrupt plain queue system c t x item counted)
      (stop-none x (chosen.using + 1) (turns.after_item system x item counted) (turns.takes_effect queue system c t x item counted).core))
      (stop-none x (chosen.using + 1) after.GoesOn counted)
    where
      stop-none : (x using : ℕ) (cause : AfterItem) (k : Core) → told (turns.may_stop queue system t x using cause k).rows ≡ []
      stop-none x using after.Calls k = refl
      stop-none x using after.Ends k = refl
      stop-none x using after.Blocks k = refl
      stop-none x using after.Yields k = refl
      stop-none x using after.GoesOn k = rows.may_stop-none is_interrupt plain queue system c t x using after.GoesOn k tt

      by : (b : Bool) (u v : Turn) → told u.rows ≡ [] → told v.rows ≡ [] → told (cond b u v).rows ≡ []
      by true u v p q = p
      by false u v p q = q

  -- what an alarm tells
  abbrev row_of : Alarm → What
  row_of alarm = row.Interrupt alarm.source alarm.note alarm.badge

  told-interrupts : (alarms : List Alarm) (k : Core) → told (each (turns.interrupts queue system t) alarms k).rows ≡ map row_of alarms
  told-interrupts [] k = refl
  told-interrupts (alarm ∷ alarms) k =
      let first = turns.interrupts queue system t alarm k in
      filter-append is_interrupt first.rows (each (turns.interrupts queue system t) alarms first.core).rows
      ∙ rw (rows.posts-none is_interrupt plain queue system c t alarm.note alarm.badge k, told-interrupts alarms first.core) refl

  -- a whole turn has the rows of the alarms that ring
  pub told-turn : (mails : List Mail) (k : Core) → told (turns.turn_with queue system c t mails k).rows ≡ map row_of (ringing t (alarms_at system c t))
  told-turn mails k =
      let first = turns.tick queue system c t k in
      let rang = each (turns.interrupts queue system t) (ringing t (alarms_at system c t)) first.core in
      let came = each (turns.arrives queue system t) mails rang.core in
      let obeyed = each (turns.obeys queue system t) (filter (is_for_now system c t) system.orders) came.core in
      let freed = turns.releases queue system t obeyed.core in
      let gave = turns.preempts queue system t freed.core in
      let chosen = turns.chooses queue system t gave.core in
      only first.rows rang.rows came.rows obeyed.rows freed.rows gave.rows chosen.rows
      (tick_of-none k.running k)
      (rows.none-each is_interrupt plain (turns.arrives queue system t) (rows.arrives-none is_interrupt plain queue system c t) mails rang.core)
      (rows.none-each is_interrupt plain (turns.obeys queue system t) (rows.obeys-none is_interrupt plain queue system c t) (filter (is_for_now system c t) system.orders) came.core)
      (rows.releases-none is_interrupt plain queue system c t obeyed.core)
      (rows.preempts-none is_interrupt plain queue system c t freed.core.running (queue.best freed.core.ready) freed.core)
      (rows.chooses-none is_interrupt plain queue system c t gave.core.running (queue.best gave.core.ready) gave.core)
      ∙ told-interrupts (ringing t (alarms_at system c t)) first.core
    where
      one_more : (xs ys : List What) → told ys ≡ [] → told (xs ++ ys) ≡ told xs
      one_more xs ys e = filter-append is_interrupt xs ys ∙ ap (λ zs. told xs ++ zs) e ∙ append-nil (told xs)

      only : (a i b d e f g : List What) → told a ≡ [] → told b ≡ [] → told d ≡ [] → told e ≡ [] → told f ≡ [] → told g ≡ [] → told (a ++ i ++ b ++ d ++ e ++ f ++ g) ≡ told i
      only a i b d e f g o q r s u v =
          one_more (a ++ i ++ b ++ d ++ e ++ f) g v ∙ one_more (a ++ i ++ b ++ d ++ e) f u ∙ one_more (a ++ i ++ b ++ d) e s
          ∙ one_more (a ++ i ++ b) d r ∙ one_more (a ++ i) b q ∙ filter-append is_interrupt a i ∙ ap (λ zs. zs ++ told i) o

  -- rows of this core and moment
  abbrev IsTold : List What → Type 0
  IsTold whats = ArePosted (stamped c t whats)

  none-posted : (whats : List What) → told whats ≡ [] → IsTold whats
  none-posted [] e = tt
  none-posted (row.Interrupt source note badge ∷ whats) e = absurd (cc)
  none-posted (what ∷ whats) e = (tt, none-posted whats e)

  -- a post on a notification has a row
  woke-word : (badge x word : ℕ) (note : Note) → posted badge note ≡ Woke x word → word ≡ badge
  woke-word badge x word note e = by (first_of_greatest note.waiters) refl
    where
      by : (o : Option Queued) → first_of_greatest note.waiters ≡ o → word ≡ badge
      by (Some first) f = let g : Woke first.thread badge ≡ Woke x word = rw f at e in cc
      by None f = let g : Held (bit_or note.word badge) ≡ Woke x word = rw f at e in absurd (cc)

  held-word : (badge word : ℕ) (note : Note) → posted badge note ≡ Held word → bit_and word badge ≡ badge
  held-word badge word note e = by (first_of_greatest note.waiters) refl
    where
      by : (o : Option Queued) → first_of_greatest note.waiters ≡ o → bit_and word badge ≡ badge
      by (Some first) f = let g : Woke first.thread badge ≡ Held word = rw f at e in absurd (cc)
      by None f =
          let g : Held (bit_or note.word badge) ≡ Held word = rw f at e in
          let h : bit_or note.word badge ≡ word = cc in
          subst (λ w. bit_and w badge ≡ badge) h (and_or_self badge note.word)

  posts-posted : (source note badge : ℕ) (k : Core) → IsTold (row.Interrupt source note badge ∷ (turns.posts queue system t note badge k).rows)
  posts-posted source note badge k = by (posted badge (note_of k note)) refl
    where
      by : (post : Posted) → posted badge (note_of k note) ≡ post → IsTold (row.Interrupt source note badge ∷ (turns.posts_as queue system t note post k).rows)
      by (Woke x word) e =
          ((refl, refl, (refl, woke-word badge x word (note_of k note) e)), none-posted (turns.posts_as queue system t note (Woke x word) k).rows (posts_as-none note (Woke x word) k))
      by (Held word) e = ((refl, refl, (refl, held-word badge word (note_of k note) e)), (tt, tt))

  -- one part of a turn, and then another
  both-told : (xs ys : List What) → IsTold xs → IsTold ys → IsTold (xs ++ ys)
  both-told xs ys p q =
      subst ArePosted (sym (map-append (λ (what : What). record { moment = t; core = c; what = what }) xs ys)) (posted-append (stamped c t xs) (stamped c t ys) p q)

  interrupts-posted : (alarms : List Alarm) (k : Core) → IsTold (each (turns.interrupts queue system t) alarms k).rows
  interrupts-posted [] k = tt
  interrupts-posted (alarm ∷ alarms) k =
      let first = turns.interrupts queue system t alarm k in
      both-told first.rows (each (turns.interrupts queue system t) alarms first.core).rows (posts-posted alarm.source alarm.note alarm.badge k)
      (interrupts-posted alarms first.core)

  pub posted-turn : (mails : List Mail) (k : Core) → IsTold (turns.turn_with queue system c t mails k).rows
  posted-turn mails k =
      let first = turns.tick queue system c t k in
      let rang = each (turns.interrupts queue system t) (ringing t (alarms_at system c t)) first.core in
      let came = each (turns.arrives queue system t) mails rang.core in
      let obeyed = each (turns.obeys queue system t) (filter (is_for_now system c t) system.orders) came.core in
      let freed = turns.releases queue system t obeyed.core in
      let gave = turns.preempts queue system t freed.core in
      let chosen = turns.chooses queue system t gave.core in
      all first.rows rang.rows came.rows obeyed.rows freed.rows gave.rows chosen.rows
      (tick_of-none k.running k)
      (interrupts-posted (ringing t (alarms_at system c t)) first.core)
      (rows.none-each is_interrupt plain (turns.arrives queue system t) (rows.arrives-none is_interrupt plain queue system c t) mails rang.core)
      (rows.none-each is_interrupt plain (turns.obeys queue system t) (rows.obeys-none is_interrupt plain queue system c t) (filter (is_for_now system c t) system.orders) came.core)
      (rows.releases-none is_interrupt plain queue system c t obeyed.core)
      (rows.preempts-none is_interrupt plain queue system c t freed.core.running (queue.best freed.core.ready) freed.core)
      (rows.chooses-none is_interrupt plain queue system c t gave.core.running (queue.best gave.core.ready) gave.core)
    where
      more : (xs ys : List What) → told ys ≡ [] → IsTold xs → IsTold (xs ++ ys)
      more xs ys e p = both-told xs ys p (none-posted ys e)

      all : (a i b d e f g : List What) → told a ≡ [] → IsTold i → told b ≡ [] → told d ≡ [] → told e ≡ [] → told f ≡ [] → told g ≡ []
          → IsTold (a ++ i ++ b ++ d ++ e ++ f ++ g)
      all a i b d e f g o p q r s u v =
          more (a ++ i ++ b ++ d ++ e ++ f) g v (more (a ++ i ++ b ++ d ++ e) f u (more (a ++ i ++ b ++ d) e s (more (a ++ i ++ b) d r (more (a ++ i) b q (both-told a i (none-posted a o) p)))))

-- of a well-formed system: the turns of the clock
module _ (system : System) (well : IsWellFormed system) where
  pub turns-tell : TurnsTellDates system
  turns-tell c t soon =
      told-turn in_one_list system c t (filter (clocks.arrives_at system t c) (clocks.world system t).mails) (clocks.core_at system (clocks.world system t) c)
      ∙ ap (map (row_of in_one_list system c t)) (ringing-dates system t soon well c)
      ∙ of-beats (due_at system c t)
    where
      same : (beat : Beat) (u : ℕ) → row_of in_one_list system c t (alarm_before system beat u) ≡ interrupt_by system beat
      same beat zero = refl
      same beat (suc u) = by (rings u (alarm_before system beat u)) (same beat u)
        where
          by : (b : Bool) → row_of in_one_list system c t (alarm_before system beat u) ≡ interrupt_by system beat
              → row_of in_one_list system c t (cond b (rung (alarm_before system beat u)) (alarm_before system beat u)) ≡ interrupt_by system beat
          by true e = e
          by false e = e

      of-beats : (beats : List Beat) → map (row_of in_one_list system c t) (map (λ beat. alarm_before system beat t) beats) ≡ map (interrupt_by system) beats
      of-beats [] = refl
      of-beats (beat ∷ beats) = both _ _ _ _ (same beat t) (of-beats beats)
        where
          both : (x y : What) (xs ys : List What) → x ≡ y → xs ≡ ys → ◌≡◌ {A = List What} (x ∷ xs) (y ∷ ys)
          both x y xs ys e f = cc

  pub interrupts-are-posted : InterruptsArePosted system
  interrupts-are-posted horizon = before (suc horizon)
    where
      of-cores : (t : ℕ) (cs : List ℕ) → ArePosted (flat_map (λ c. clocks.rows_of system c t) cs)
      of-cores t [] = tt
      of-cores t (c ∷ cs) =
          posted-append (clocks.rows_of system c t) (flat_map (λ c. clocks.rows_of system c t) cs)
          (posted-turn in_one_list system c t (filter (clocks.arrives_at system t c) (clocks.world system t).mails) (clocks.core_at system (clocks.world system t) c))
          (of-cores t cs)

      before : (t : ℕ) → ArePosted (clocks.clock system t).rows
      before zero = tt
      before (suc t) =
          subst ArePosted (sym (rows-clock system (takes-time system well) t))
          (posted-append (clocks.clock system t).rows (flat_map (λ c. clocks.rows_of system c t) (range_with_len 0 system.cores)) (before t) (of-cores t (range_with_len 0 system.cores)))
