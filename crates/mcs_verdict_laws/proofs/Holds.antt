-- The places of a thread on its core, and the parts of a turn that do not change them.
use Rattle.std.proofs.Common.{◌≡◌, ◌≢◌, ℕ, zero, suc, ◌+◌, ◌<◌, ◌≤◌, Bool, true, false, cond, ◌==◌, List, [], ◌∷◌, ◌++◌, length, set, get_or, slice_get, Option, Some, None, refl, sym, ap, subst, ◌∙◌, arith}
use Rattle.std.specs.Prelude.{nat_lt}
use Rattle.std.specs.List.{AllByRecursion}
use Rattle.std.proofs.lemmas.Bool.Decides.{nat_tests}
use Rattle.std.proofs.lemmas.List.{get_or-set_other, append_assoc}
use Rattle.std.proofs.Math.ListN.{length-set}
use Rattle.mcs_ticks.specs.Queue.{by_priority}
use Rattle.mcs_ticks.specs.declared.queue.Queued.{Queued}
use Rattle.mcs_ticks.specs.declared.row.What.{What}
use Rattle.mcs_control.specs.Context.{Context}
use Rattle.mcs_notify.specs.Note.{Note, quiet_note}
use Rattle.mcs_release.specs.declared.dated.Dated.{Dated}
use Rattle.mcs_script.specs.declared.item.Item.TheVariants.{Wait, Enter}
use Rattle.mcs_script.specs.declared.item.Item.{Item}
use Rattle.mcs_script.specs.declared.place.Place.{Place}
use Rattle.mcs_system.specs.System.{System, thread_part, is_server}
use Rattle.mcs_core.specs.declared.standing.Chosen.{Chosen}
use Rattle.mcs_core.specs.declared.standing.Standing as core_standing
use Rattle.mcs_core.specs.declared.standing.Thread.{Thread}
use Rattle.mcs_core.specs.Core.{Core, no_state, thread_of, note_of, with_thread, with_context, with_note, stands, off}
use Rattle.mcs_core.specs.Places.{times_queued, times_dated, times_waiting}
use Rattle.mcs_core.specs.Turn as turns
use Rattle.mcs_core.specs.Turn.{Turn, silent, says, ◌followed_by◌, each}
use Rattle.mcs_core.proofs.Counts.{times_queued-back, times_queued-front, times_dated-append, times_waiting-set}
use Rattle.mcs_laws.specs.Places.{times_running}
use Rattle.mcs_verdict.specs.declared.standing.Standing.{Standing}
use Rattle.mcs_verdict.specs.declared.standing.Standing.TheVariants.{Pending, Ready, Running, Throttled, Blocked, AtServer, Done}
use Rattle.mcs_verdict.specs.Calls.{first_wait, bits_of}
use Rattle.mcs_verdict_laws.proofs.Steps.{Told, First, AreOther, other-append, AreEnded, ended-append, ended-other, Walks, walks-append, walks-other}

-- how often a thread that stands so runs, is ready, is in the release queue, and waits
abbrev pub runs_as : Standing → ℕ
runs_as Running = 1
runs_as Pending = 0
runs_as Ready = 0
runs_as Throttled = 0
runs_as Blocked = 0
runs_as AtServer = 0
runs_as Done = 0

abbrev pub ready_as : Standing → ℕ
ready_as Ready = 1
ready_as Pending = 0
ready_as Running = 0
ready_as Throttled = 0
ready_as Blocked = 0
ready_as AtServer = 0
ready_as Done = 0

abbrev pub dated_as : Standing → ℕ
dated_as Pending = 1
dated_as Throttled = 1
dated_as Ready = 0
dated_as Running = 0
dated_as Blocked = 0
dated_as AtServer = 0
dated_as Done = 0

abbrev pub waits_as : Standing → ℕ
waits_as Blocked = 1
waits_as AtServer = 1
waits_as Pending = 0
waits_as Ready = 0
waits_as Running = 0
waits_as Throttled = 0
waits_as Done = 0

-- when the round began that is under way, by the thread's place and what its core keeps of it
abbrev pub beginning_of : Option ℕ → ℕ → ℕ → Option ℕ
beginning_of None item since = Some since
beginning_of (Some note) item since = cond (item == 0) None (Some since)

-- whether an item waits for this notification, or for this server
abbrev pub Awaits : Option Item → ℕ → Type 0
Awaits (Some (Wait n)) note = n ≡ note
Awaits (Some (Enter n priority)) note = n ≡ note
Awaits _ note = ⊥

module _ (system : System) (x : ℕ) where
  abbrev pub first : First
  first = record { waits = first_wait (thread_part system x); bits = bits_of (thread_part system x); start = (thread_part system x).start; script = (thread_part system x).script }

  abbrev pub start_at : ℕ
  start_at = (thread_part system x).start

  -- a thread that is not done
  pub record IsUnderWay (begun : Option ℕ) (k : Core) : Type 0 where
    pub known : x < length system.threads
    pub has : x < length k.threads
    pub notes : length k.notes ≡ length system.notes
    pub begins : begun ≡ beginning_of first.waits (thread_of k x).place.item (thread_of k x).since

  -- and that has started
  pub record IsStarted (now : ℕ) (k : Core) : Type 0 where
    pub start : start_at ≤ now
    pub since : (thread_of k x).since ≤ now

  -- its item is a wait
  pub record IsWaiting (k : Core) : Type 0 where
    pub note : ℕ
    pub item : slice_get (thread_part system x).script (thread_of k x).place.item ≡ Some (Wait note)

  -- it is among those that wait for the signal, or for the server, for which its item waits
  pub record IsListed (served : Bool) (k : Core) : Type 0 where
    pub note : ℕ
    pub served_is : is_server system note ≡ served
    pub item : Awaits (slice_get (thread_part system x).script (thread_of k x).place.item) note
    pub listed : 1 ≤ times_queued x (note_of k note).waiters

  -- its dates in the release queue are this one
  abbrev pub AreDated : ℕ → List Dated → Type 0
  AreDated date releases = AllByRecursion (λ (dated : Dated). dated.thread ≡ x → dated.date ≡ date) releases

  -- before its start it is pending, from this moment on at least
  pub record IsPending (from : ℕ) (k : Core) : Type 0 where
    pub later : from ≤ start_at
    pub since : (thread_of k x).since ≡ start_at
    pub dates : AreDated start_at k.releases

  -- the state that is kept of it
  abbrev pub Own : ℕ → ℕ → Standing → Option ℕ → Core → Type 0
  Own from now Pending begun k = IsUnderWay begun k × IsPending from k
  Own from now Ready begun k = IsUnderWay begun k × IsStarted now k
  Own from now Running begun k = IsUnderWay begun k × IsStarted now k
  Own from now Throttled begun k = IsUnderWay begun k × IsStarted now k
  Own from now Blocked begun k = IsUnderWay begun k × IsStarted now k × IsListed false k
  Own from now AtServer begun k = IsUnderWay begun k × IsStarted now k × IsListed true k
  Own from now Done begun k = Unit {0}

  -- the thread stands so on its core
  pub record Holds (from now : ℕ) (told : Told) (k : Core) : Type 0 where
    pub runs : times_running x k.running ≡ runs_as told.standing
    pub ready : times_queued x k.ready ≡ ready_as told.standing
    pub dated : times_dated x k.releases ≡ dated_as told.standing
    pub waits : times_waiting x k.notes ≡ waits_as told.standing
    pub own : Own from now told.standing told.begun k

  -- a thread on its way, that has no place
  pub record Loose (now : ℕ) (begun : Option ℕ) (k : Core) : Type 0 where
    pub runs : times_running x k.running ≡ 0
    pub ready : times_queued x k.ready ≡ 0
    pub dated : times_dated x k.releases ≡ 0
    pub waits : times_waiting x k.notes ≡ 0
    pub under : IsUnderWay begun k
    pub started : IsStarted now k

  -- a core on which everything about the thread is unchanged
  pub record Same (k after : Core) : Type 0 where
    pub runs : times_running x after.running ≡ times_running x k.running
    pub ready : times_queued x after.ready ≡ times_queued x k.ready
    pub dated : times_dated x after.releases ≡ times_dated x k.releases
    pub dates : (date : ℕ) → AreDated date k.releases → AreDated date after.releases
    pub waits : times_waiting x after.notes ≡ times_waiting x k.notes
    pub listed : (note : ℕ) → times_queued x (note_of after note).waiters ≡ times_queued x (note_of k note).waiters
    pub place : (thread_of after x).place ≡ (thread_of k x).place
    pub since : (thread_of after x).since ≡ (thread_of k x).since
    pub has : length after.threads ≡ length k.threads
    pub notes : length after.notes ≡ length k.notes

  pub same-refl : (k : Core) → Same k k
  same-refl k =
      record { runs = refl; ready = refl; dated = refl; dates = λ date h. h; waits = refl; listed = λ note. refl; place = refl; since = refl; has = refl; notes = refl }

  pub same-trans : (a b c : Core) → Same a b → Same b c → Same a c
  same-trans a b c p q =
      record {
        runs = q.runs ∙ p.runs;
        ready = q.ready ∙ p.ready;
        dated = q.dated ∙ p.dated;
        dates = λ date h. q.dates date (p.dates date h);
        waits = q.waits ∙ p.waits;
        listed = λ note. q.listed note ∙ p.listed note;
        place = q.place ∙ p.place;
        since = q.since ∙ p.since;
        has = q.has ∙ p.has;
        notes = q.notes ∙ p.notes;
      }

  under-same : (begun : Option ℕ) (k after : Core) → Same k after → IsUnderWay begun k → IsUnderWay begun after
  under-same begun k after s u =
      record {
        known = u.known;
        has = let e = s.has in let h = u.has in omega arith;
        notes = s.notes ∙ u.notes;
        begins = u.begins ∙ ap (λ p. beginning_of first.waits p.item (thread_of k x).since) (sym s.place) ∙ ap
            (λ m. beginning_of first.waits (thread_of after x).place.item m) (sym s.since);
      }

  started-same : (now : ℕ) (k after : Core) → Same k after → IsStarted now k → IsStarted now after
  started-same now k after s u = record { start = u.start; since = let e = s.since in let h = u.since in omega arith }

  listed-same : (served : Bool) (k after : Core) → Same k after → IsListed served k → IsListed served after
  listed-same served k after s w =
      record {
        note = w.note;
        served_is = w.served_is;
        item = subst (λ (p : Place). Awaits (slice_get (thread_part system x).script p.item) w.note) (sym s.place) w.item;
        listed = let e = s.listed w.note in let l = w.listed in omega (arith, e, l);
      }

  pending-same : (from : ℕ) (k after : Core) → Same k after → IsPending from k → IsPending from after
  pending-same from k after s p = record { later = p.later; since = s.since ∙ p.since; dates = s.dates start_at p.dates }

  own-same : (from now : ℕ) (standing : Standing) (begun : Option ℕ) (k after : Core) → Same k after → Own from now standing begun k
      → Own from now standing begun after
  own-same from now Pending begun k after s o = (under-same begun k after s o.0, pending-same from k after s o.1)
  own-same from now Ready begun k after s o = (under-same begun k after s o.0, started-same now k after s o.1)
  own-same from now Running begun k after s o = (under-same begun k after s o.0, started-same now k after s o.1)
  own-same from now Throttled begun k after s o = (under-same begun k after s o.0, started-same now k after s o.1)
  own-same from now Blocked begun k after s o = (under-same begun k after s o.0, started-same now k after s o.1, listed-same false k after s o.2)
  own-same from now AtServer begun k after s o = (under-same begun k after s o.0, started-same now k after s o.1, listed-same true k after s o.2)
  own-same from now Done begun k after s o = tt

  pub holds-same : (from now : ℕ) (told : Told) (k after : Core) → Same k after → Holds from now told k → Holds from now told after
  holds-same from now told k after s h =
      record {
        runs = s.runs ∙ h.runs;
        ready = s.ready ∙ h.ready;
        dated = s.dated ∙ h.dated;
        waits = s.waits ∙ h.waits;
        own = own-same from now told.standing told.begun k after s h.own;
      }

  pub loose-same : (now : ℕ) (begun : Option ℕ) (k after : Core) → Same k after → Loose now begun k → Loose now begun after
  loose-same now begun k after s h =
      record {
        runs = s.runs ∙ h.runs;
        ready = s.ready ∙ h.ready;
        dated = s.dated ∙ h.dated;
        waits = s.waits ∙ h.waits;
        under = under-same begun k after s h.under;
        started = started-same now k after s h.started;
      }

  -- contexts are no matter
  pub same-context : (context : ℕ) (state : Context) (k : Core) → Same k (with_context context state k)
  same-context context state k =
      record { runs = refl; ready = refl; dated = refl; dates = λ date h. h; waits = refl; listed = λ note. refl; place = refl; since = refl; has = refl; notes = refl }

  differs : (y : ℕ) → (y == x) ≡ false → x ≢ y
  differs y e = grind (arith, nat_tests)

  -- nor is the state of another thread
  pub same-thread : (y : ℕ) (state : Thread) (k : Core) → (y == x) ≡ false → Same k (with_thread y state k)
  same-thread y state k e =
      let other = get_or-set_other k.threads y x state no_state (differs y e) in
      record {
        runs = refl;
        ready = refl;
        dated = refl;
        dates = λ date h. h;
        waits = refl;
        listed = λ note. refl;
        place = ap (λ (s : Thread). s.place) other;
        since = ap (λ (s : Thread). s.since) other;
        has = length-set k.threads y state;
        notes = refl;
      }

  pub same-running : (o : Option Chosen) (k : Core) → times_running x o ≡ times_running x k.running → Same k (record k { running = o })
  same-running o k e =
      record { runs = e; ready = refl; dated = refl; dates = λ date h. h; waits = refl; listed = λ note. refl; place = refl; since = refl; has = refl; notes = refl }

  pub same-ready : (ready : List Queued) (k : Core) → times_queued x ready ≡ times_queued x k.ready → Same k (record k { ready = ready })
  same-ready ready k e =
      record { runs = refl; ready = e; dated = refl; dates = λ date h. h; waits = refl; listed = λ note. refl; place = refl; since = refl; has = refl; notes = refl }

  one_other : (y : ℕ) → (y == x) ≡ false → ◌≡◌ {A = ℕ} (cond (y == x) 1 0) 0
  one_other y e = ap (λ b. cond b 1 0) e

  dates-push : (date : ℕ) (releases : List Dated) (dated : Dated) → (dated.thread ≡ x → dated.date ≡ date) → AreDated date releases
      → AreDated date (releases ++ dated ∷ [])
  dates-push date [] dated h all = (h, tt)
  dates-push date (other ∷ others) dated h all = (all.0, dates-push date others dated h all.1)

  same-dated : (y date : ℕ) (k : Core) → (y == x) ≡ false → Same k (record k { releases = k.releases ++ record { thread = y; date = date } ∷ [] })
  same-dated y date k e =
      let more = times_dated-append x k.releases (record { thread = y; date = date }) in
      record {
        runs = refl;
        ready = refl;
        dated = more ∙ ap (λ n. n + times_dated x k.releases) (one_other y e) ∙ omega arith;
        dates = λ m h. dates-push m k.releases (record { thread = y; date = date }) (λ f. absurd (differs y e (sym f))) h;
        waits = refl;
        listed = λ note. refl;
        place = refl;
        since = refl;
        has = refl;
        notes = refl;
      }

  inside : (a b : ℕ) → nat_lt a b ≡ true → a < b
  inside a b e = grind (arith, nat_tests)

  outside : (a b : ℕ) → nat_lt a b ≡ false → b ≤ a
  outside a b e = grind (arith, nat_tests)

  set-past : (notes : List Note) (i : ℕ) (n : Note) → length notes ≤ i → set notes i n ≡ notes
  set-past [] i n l = refl
  set-past (m ∷ notes) zero n l = absurd (omega (arith, l))
  set-past (m ∷ notes) (suc i) n l = ap (λ ns. m ∷ ns) (set-past notes i n (omega (arith, l)))

  -- a notification on which the thread waits as often as before
  pub waiting-set : (notes : List Note) (i : ℕ) (n : Note) → times_queued x n.waiters ≡ times_queued x (get_or notes i quiet_note).waiters
      → times_waiting x (set notes i n) ≡ times_waiting x notes
  waiting-set notes i n e = by (nat_lt i (length notes)) refl
    where
      by : (b : Bool) → nat_lt i (length notes) ≡ b → times_waiting x (set notes i n) ≡ times_waiting x notes
      by true f = omega (arith, e, times_waiting-set x i n notes (inside i (length notes) f))
      by false f = ap (times_waiting x) (set-past notes i n (outside i (length notes) f))

  listed-set : (notes : List Note) (i : ℕ) (n : Note) (j : ℕ) → times_queued x n.waiters ≡ times_queued x (get_or notes i quiet_note).waiters
      → times_queued x (get_or (set notes i n) j quiet_note).waiters ≡ times_queued x (get_or notes j quiet_note).waiters
  listed-set [] i n j e = refl
  listed-set (m ∷ notes) zero n zero e = e
  listed-set (m ∷ notes) zero n (suc j) e = refl
  listed-set (m ∷ notes) (suc i) n zero e = refl
  listed-set (m ∷ notes) (suc i) n (suc j) e = listed-set notes i n j e

  pub same-note : (note : ℕ) (state : Note) (k : Core) → times_queued x state.waiters ≡ times_queued x (note_of k note).waiters
      → Same k (with_note note state k)
  same-note note state k e =
      record {
        runs = refl;
        ready = refl;
        dated = refl;
        dates = λ date h. h;
        waits = waiting-set k.notes note state e;
        listed = λ n. listed-set k.notes note state n e;
        place = refl;
        since = refl;
        has = refl;
        notes = length-set k.notes note state;
      }

  -- another thread enters, or leaves the core
  pub same-back : (y : ℕ) (date : Option ℕ) (k : Core) → (y == x) ≡ false → Same k (turns.enters_back by_priority y date k)
  same-back y None k e =
      same-trans k (stands y core_standing.TheVariants.Ready k) (turns.enters_back by_priority y None k)
      (same-thread y (record (thread_of k y) { standing = core_standing.TheVariants.Ready }) k e)
      (same-ready (by_priority.back (turns.queued y k) k.ready) (stands y core_standing.TheVariants.Ready k)
      (times_queued-back x (turns.queued y k) k.ready ∙ ap (λ n. n + times_queued x k.ready) (one_other y e) ∙ omega arith))
  same-back y (Some date) k e =
      same-trans k (stands y core_standing.TheVariants.Pending k) (turns.enters_back by_priority y (Some date) k)
      (same-thread y (record (thread_of k y) { standing = core_standing.TheVariants.Pending }) k e)
      (same-dated y date (stands y core_standing.TheVariants.Pending k) e)

  pub same-front : (y : ℕ) (date : Option ℕ) (k : Core) → (y == x) ≡ false → Same k (turns.enters_front by_priority y date k)
  same-front y None k e =
      same-trans k (stands y core_standing.TheVariants.Ready k) (turns.enters_front by_priority y None k)
      (same-thread y (record (thread_of k y) { standing = core_standing.TheVariants.Ready }) k e)
      (same-ready (by_priority.front (turns.queued y k) k.ready) (stands y core_standing.TheVariants.Ready k)
      (times_queued-front x (turns.queued y k) k.ready ∙ ap (λ n. n + times_queued x k.ready) (one_other y e) ∙ omega arith))
  same-front y (Some date) k e =
      same-trans k (stands y core_standing.TheVariants.Pending k) (turns.enters_front by_priority y (Some date) k)
      (same-thread y (record (thread_of k y) { standing = core_standing.TheVariants.Pending }) k e)
      (same-dated y date (stands y core_standing.TheVariants.Pending k) e)

  not_running : (o : Option Chosen) (y using : ℕ) → o ≡ Some (record { thread = y; using = using }) → (y == x) ≡ false → times_running x o ≡ 0
  not_running o y using f e = ap (times_running x) f ∙ one_other y e

  pub same-off : (y using : ℕ) (k : Core) → k.running ≡ Some (record { thread = y; using = using }) → (y == x) ≡ false → Same k (off k)
  same-off y using k f e = same-running None k (sym (not_running k.running y using f e))

  -- the core and the rows of a part of a turn, which leaves the thread as it is
  pub record Aside (k : Core) (turn : Turn) : Type 0 where
    pub same : Same k turn.core
    pub rows : AreOther x turn.rows

  pub aside-then : (k : Core) (made : Turn) (part : Core → Turn) → Aside k made → Aside made.core (part made.core) → Aside k (made followed_by part)
  aside-then k made part p q =
      record {
        same = same-trans k made.core (part made.core).core p.same q.same;
        rows = other-append x made.rows
            (part made.core).rows p.rows q.rows;
      }

  pub aside-silent : (k after : Core) → Same k after → Aside k (silent after)
  aside-silent k after s = record { same = s; rows = tt }

  -- a part of a turn that the thread passes
  pub record Goes (from now : ℕ) (told : Told) (turn : Turn) : Type 0 where
    pub last : Told
    pub walks : Walks x first now told turn.rows last
    pub holds : Holds from now last turn.core
    pub ended : (before : Option What) → AreEnded x before turn.rows

  pub goes-aside : (from now : ℕ) (told : Told) (k : Core) (turn : Turn) → Holds from now told k → Aside k turn → Goes from now told turn
  goes-aside from now told k turn h a =
      record {
        last = told;
        walks = walks-other x first now told turn.rows a.rows;
        holds = holds-same from now told k turn.core a.same h;
        ended = λ before. ended-other x before turn.rows a.rows;
      }

  -- two parts in turn; the first may end if other dates are to come
  pub goes-then : (from to now : ℕ) (told : Told) (made : Turn) (part : Core → Turn) → Goes from now told made
      → ((last : Told) → Holds from now last made.core → Goes to now last (part made.core)) → Goes to now told (made followed_by part)
  goes-then from to now told made part p h =
      let q = h p.last p.holds in
      record {
        last = q.last;
        walks = walks-append x first now made.rows (part made.core).rows told p.last q.last p.walks q.walks;
        holds = q.holds;
        ended = λ before. ended-append x before made.rows (part made.core).rows (p.ended before) q.ended;
      }

  pub goes-assoc : (from now : ℕ) (told : Told) (made : Turn) (part others : Core → Turn)
      → Goes from now told (made followed_by λ core. part core followed_by others) → Goes from now told (made followed_by part followed_by others)
  goes-assoc from now told made part others g =
      let P : List What → Type 0 = λ rows. Walks x first now told rows g.last in
      let e = append_assoc made.rows (part made.core).rows (others (part made.core).core).rows in
      let Q : List What → Type 0 = λ rows. (before : Option What) → AreEnded x before rows in
      record { last = g.last; walks = subst P (sym e) g.walks; holds = g.holds; ended = subst Q (sym e) g.ended }

  pub goes-each : {A : Type 0} (from now : ℕ) (part : A → Core → Turn)
      → ((item : A) (told : Told) (k : Core) → Holds from now told k → Goes from now told (part item k))
      → (items : List A) (told : Told) (k : Core) → Holds from now told k → Goes from now told (each part items k)
  goes-each from now part h [] told k holds = goes-aside from now told k (silent k) holds (aside-silent k k (same-refl k))
  goes-each from now part h (item ∷ items) told k holds =
      goes-then from from now told (part item k) (each part items) (h item told k holds)
      (λ last then. goes-each from now part h items last (part item k).core then)

  -- if it passes the part for all items with this property
  pub goes-where : {A : Type 0} (C : A → Type 0) (from now : ℕ) (part : A → Core → Turn)
      → ((item : A) (told : Told) (k : Core) → C item → Holds from now told k → Goes from now told (part item k))
      → (items : List A) (told : Told) (k : Core) → AllByRecursion C items → Holds from now told k → Goes from now told (each part items k)
  goes-where C from now part h [] told k all holds = goes-aside from now told k (silent k) holds (aside-silent k k (same-refl k))
  goes-where C from now part h (item ∷ items) told k all holds =
      goes-then from from now told (part item k) (each part items) (h item told k all.0 holds)
      (λ last then. goes-where C from now part h items last (part item k).core all.1 then)

  pub goes_if : (from now : ℕ) (told : Told) (b : Bool) (u v : Turn) → Goes from now told u → Goes from now told v → Goes from now told (cond b u v)
  goes_if from now told true u v p q = p
  goes_if from now told false u v p q = q

  pub aside_if : (k : Core) (b : Bool) (u v : Turn) → Aside k u → Aside k v → Aside k (cond b u v)
  aside_if k true u v p q = p
  aside_if k false u v p q = q
