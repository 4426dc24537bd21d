-- The running thread finishes an item, and a waiting one is woken.
use Rattle.std.proofs.Common.{◌≡◌, ◌≢◌, ℕ, zero, suc, ◌+◌, ◌-◌, ◌<◌, ◌≤◌, ◌⊎◌, inl, inr, Bool, true, false, cond, not, ◌==◌, ◌&&◌, List, [], ◌∷◌, length, get_or, slice_get, Option, Some, None, refl, sym, ap, subst, ◌∙◌, arith}
use Rattle.std.specs.Prelude.{unwrap_or}
use Rattle.std.proofs.lemmas.Bool.{cases_lt}
use Rattle.std.proofs.lemmas.Bool.Decides.{nat_tests}
use Rattle.std.proofs.lemmas.List.{get_or-set_same, get_or_past}
use Rattle.std.proofs.lemmas.Option.{slice_get_past, get_or_from_slice_get}
use Rattle.std.proofs.Math.ListN.{length-set}
use Rattle.mcs_ticks.specs.Queue.{by_priority}
use Rattle.mcs_ticks.specs.declared.row.What.TheVariants as row
use Rattle.mcs_ticks.specs.declared.row.Why.TheVariants as why
use Rattle.mcs_notify.specs.Note.{Note, quiet_note, after_post, after_wait}
use Rattle.mcs_notify.specs.declared.posted.Posted.TheVariants.{Woke}
use Rattle.mcs_notify.specs.declared.posted.Waited.TheVariants.{Got, Blocks}
use Rattle.mcs_script.specs.declared.item.Item.{Item}
use Rattle.mcs_script.specs.declared.item.Item.TheVariants.{Compute, Signal, Wait, Yield, On, Spin, Enter, Leave}
use Rattle.mcs_script.specs.declared.moved.Moved.{Moved}
use Rattle.mcs_script.specs.declared.moved.Moved.TheVariants.{Next, RoundEnds, AllDone}
use Rattle.mcs_script.specs.Script.{is_wait, heard, next_item, next_of, place_after}
use Rattle.mcs_script.specs.declared.place.Place.{Place}
use Rattle.mcs_system.specs.declared.part.ThreadPart.{ThreadPart}
use Rattle.mcs_system.specs.System.{System, no_thread, thread_part, core_of, is_server}
use Rattle.mcs_system.specs.WellFormed.{IsWellFormed, IsThread, IsItem}
use Rattle.mcs_core.specs.declared.standing.AfterItem.{AfterItem}
use Rattle.mcs_core.specs.declared.standing.AfterItem.TheVariants as after
use Rattle.mcs_core.specs.declared.standing.Standing as core_standing
use Rattle.mcs_core.specs.declared.standing.Thread.{Thread}
use Rattle.mcs_core.specs.Core.{Core, no_state, thread_of, note_of, with_note, stands, off}
use Rattle.mcs_core.specs.Places.{times_queued, times_waiting}
use Rattle.mcs_core.specs.Turn as turns
use Rattle.mcs_core.specs.Turn.{Turn, silent, says, ◌followed_by◌}
use Rattle.mcs_core.proofs.Counts.{times_queued-append, times_queued-without, times_waiting-set, times_waiting-at}
use Rattle.mcs_laws.proofs.Places.{set-waiting}
use Rattle.mcs_verdict.specs.declared.standing.Standing.{Standing}
use Rattle.mcs_verdict.specs.declared.standing.Standing.TheVariants.{Pending, Ready, Running, Throttled, Blocked, AtServer, Done}
use Rattle.mcs_verdict.specs.Calls.{calls, called_for, waited_on}
use Rattle.mcs_verdict.specs.Rounds.{begun_at, begun_by_word}
use Rattle.mcs_verdict.specs.Standing.{standing_until}
use Rattle.mcs_verdict_laws.proofs.Steps.{TakesAt, Told, told_of, contrary, Step}
use Rattle.mcs_verdict_laws.proofs.Handlers.{goes-where, not-first, wait_goes, enter_goes, goes-past}
use Rattle.mcs_verdict_laws.proofs.Holds.{waits_as, beginning_of, Awaits, first, IsUnderWay, IsStarted, IsWaiting, IsListed, Holds, Loose, same-note, holds-same, Goes}
use Rattle.mcs_verdict_laws.proofs.Entering.{self, equal, step-stop, step-round, step-got, step-wake, under-thread, started-thread, under-stands, started-stands, enters-back, enters-front, IsCalm, calm-goes}

-- when a round begins that does not begin with the thread's first wait
pub unless_first : (script : List Item) (waits : Option ℕ) (item since : ℕ) → waits ≡ waited_on (slice_get script 0)
    → waited_on (slice_get script item) ≡ None
    → beginning_of waits item since ≡ Some since
unless_first script None item since e f = refl
unless_first script (Some note) item since e f = by (item == 0) refl
  where
    by : (b : Bool) → (item == 0) ≡ b → cond b None (Some since) ≡ Some since
    by true g =
        let h : item ≡ 0 = equal item 0 g in
        let i : Some note ≡ None = e ∙ ap (λ n. waited_on (slice_get script n)) (sym h) ∙ f in
        absurd (cc)
    by false g = refl

-- if no round is under way its thread is at that wait
at_wait : (script : List Item) (waits : Option ℕ) (item since note : ℕ) → waits ≡ waited_on (slice_get script 0)
    → slice_get script item ≡ Some (Wait note) → beginning_of waits item since ≡ None → waits ≡ Some note
at_wait script None item since note e f g = absurd (cc)
at_wait script (Some first) item since note e f g = by (item == 0) refl g
  where
    by : (b : Bool) → (item == 0) ≡ b → cond b None (Some since) ≡ None → Some first ≡ Some note
    by true h g =
        let i : item ≡ 0 = equal item 0 h in
        e ∙ ap (λ n. waited_on (slice_get script n)) (sym i) ∙ ap waited_on f
    by false h g = absurd (cc)

-- and at its first wait no round is
none_at_first : (script : List Item) (waits : Option ℕ) (item since note : ℕ) → waits ≡ waited_on (slice_get script 0)
    → slice_get script item ≡ Some (Wait note) → item ≡ 0 → beginning_of waits item since ≡ None
none_at_first script None item since note e f g =
    let h : None ≡ Some note = e ∙ ap (λ n. waited_on (slice_get script n)) (sym g) ∙ ap waited_on f in
    absurd (cc)
none_at_first script (Some wait) item since note e f g = ap (λ n. cond (n == 0) None (Some since)) g

-- a thread that waits once waits for one signal
two_waiting : (x : ℕ) (notes : List Note) (i j : ℕ) → i ≢ j
    → times_queued x (get_or notes i quiet_note).waiters + times_queued x (get_or notes j quiet_note).waiters ≤ times_waiting x notes
two_waiting x [] i j n = omega arith
two_waiting x (note ∷ notes) zero zero n = absurd (n refl)
two_waiting x (note ∷ notes) zero (suc j) n = let l = times_waiting-at x j notes in omega (arith, l)
two_waiting x (note ∷ notes) (suc i) zero n = let l = times_waiting-at x i notes in omega (arith, l)
two_waiting x (note ∷ notes) (suc i) (suc j) n = let l = two_waiting x notes i j (λ e. n (ap suc e)) in omega (arith, l)

one_note : (x : ℕ) (notes : List Note) (i j : ℕ) → times_waiting x notes ≡ 1 → 1 ≤ times_queued x (get_or notes i quiet_note).waiters
    → 1 ≤ times_queued x (get_or notes j quiet_note).waiters → i ≡ j
one_note x notes i j one here there = by (i == j) refl
  where
    differ : (a b : ℕ) → (a == b) ≡ false → a ≢ b
    differ a b e = grind (arith, nat_tests)

    by : (b : Bool) → (i == j) ≡ b → i ≡ j
    by true e = equal i j e
    by false e = let l = two_waiting x notes i j (differ i j e) in absurd (omega (arith, l, one, here, there))

-- a wait is given its word: its round is under way from then on, unless it is the first one and the word leaves nothing to do
when_given : (script : List Item) (waits : Option ℕ) (item since t note word old : ℕ) → waits ≡ waited_on (slice_get script 0)
    → slice_get script item ≡ Some (Wait note)
    → begun_by_word waits (called_for script) note word t (beginning_of waits item since)
    ≡ beginning_of waits (unwrap_or (next_item script (cond (item == 0) (heard script word) old) item) 0) (cond (item == 0) t since)
when_given script None item since t note word old e f = by (item == 0) refl
  where
    by : (b : Bool) → (item == 0) ≡ b → Some since ≡ Some (cond b t since)
    by true g =
        let h : item ≡ 0 = equal item 0 g in
        let i : None ≡ Some note = e ∙ ap (λ n. waited_on (slice_get script n)) (sym h) ∙ ap waited_on f in
        absurd (cc)
    by false g = refl
when_given script (Some first) item since t note word old e f = by (item == 0) refl
  where
    gives : (b c : Bool) → c ≡ not b → cond b (Some t) None ≡ cond c None (Some t)
    gives true c g = ap (λ c. cond c None (Some t)) (sym g)
    gives false c g = ap (λ c. cond c None (Some t)) (sym g)

    by : (b : Bool) → (item == 0) ≡ b
        → begun_by_word (Some first) (called_for script) note word t (cond b None (Some since))
        ≡ beginning_of (Some first) (unwrap_or (next_item script (cond b (heard script word) old) item) 0) (cond b t since)
    by true g =
        let h : item ≡ 0 = equal item 0 g in
        let i : Some first ≡ Some note = e ∙ ap (λ n. waited_on (slice_get script n)) (sym h) ∙ ap waited_on f in
        let at : first ≡ note = cc in
        ap (λ b. cond (b && calls (called_for script) word) (Some t) None) (ap (λ n. n == note) at ∙ self note)
        ∙ gives (calls (called_for script) word) (unwrap_or (next_item script (heard script word) 0) 0 == 0)
        (goes-where script word note (ap (slice_get script) (sym h) ∙ f))
        ∙ ap (λ n. cond (unwrap_or (next_item script (heard script word) n) 0 == 0) None (Some t)) (sym h)
    by false g = sym (ap (λ b. cond b None (Some since)) (not-first script old item note f g))

-- after an item that is no wait no round begins
past_first : (waits : Option ℕ) (next since : ℕ) → (next == 0) ≡ false → beginning_of waits next since ≡ Some since
past_first None next since e = refl
past_first (Some note) next since e = ap (λ b. cond b None (Some since)) e

-- and a round that begins is under way unless it begins with a wait
at_first : (waits : Option ℕ) (t : ℕ) → begun_at waits t ≡ beginning_of waits 0 t
at_first None t = refl
at_first (Some note) t = refl

-- its notification is one of the system's
wait_known : (system : System) (core : ℕ) (script : List Item) (item note : ℕ)
    → ((i : ℕ) (d : Item) → i < length script → IsItem system core (get_or script i d))
    → slice_get script item ≡ Some (Wait note) → note < length system.notes
wait_known system core script item note h e = by (cases_lt item (length script))
  where
    by : (item < length script) ⊎ (length script ≤ item) → note < length system.notes
    by (inl within) =
        let P : Item → Type 0 = IsItem system core in
        let is : IsItem system core (Wait note) = subst P (get_or_from_slice_get script item (Wait note) Yield e) (h item Yield within) in
        is.0
    by (inr past) =
        let g : Some (Wait note) ≡ None = sym e ∙ slice_get_past script item past in
        absurd (cc)

-- so is a server that it enters, and it is one
item_known : (system : System) (core : ℕ) (script : List Item) (place : ℕ) (item : Item)
    → ((i : ℕ) (d : Item) → i < length script → IsItem system core (get_or script i d))
    → slice_get script place ≡ Some item → IsItem system core item
item_known system core script place item h e = by (cases_lt place (length script))
  where
    by : (place < length script) ⊎ (length script ≤ place) → IsItem system core item
    by (inl within) = let P : Item → Type 0 = IsItem system core in subst P (get_or_from_slice_get script place item Yield e) (h place Yield within)
    by (inr past) =
        let g : Some item ≡ None = sym e ∙ slice_get_past script place past in
        absurd (cc)

enter_known : (system : System) (core : ℕ) (script : List Item) (place server priority : ℕ)
    → ((i : ℕ) (d : Item) → i < length script → IsItem system core (get_or script i d))
    → slice_get script place ≡ Some (Enter server priority) → server < length system.notes
enter_known system core script place server priority h e = (item_known system core script place (Enter server priority) h e).0

server_known : (system : System) (core : ℕ) (script : List Item) (place server priority : ℕ)
    → ((i : ℕ) (d : Item) → i < length script → IsItem system core (get_or script i d))
    → slice_get script place ≡ Some (Enter server priority) → is_server system server ≡ true
server_known system core script place server priority h e = (item_known system core script place (Enter server priority) h e).2

note_known : (system : System) (core : ℕ) (script : List Item) (place note : ℕ)
    → ((i : ℕ) (d : Item) → i < length script → IsItem system core (get_or script i d))
    → slice_get script place ≡ Some (Wait note) → is_server system note ≡ false
note_known system core script place note h e = (item_known system core script place (Wait note) h e).2

-- an item of a thread of the system, or of none
pub item_home : (system : System) → IsWellFormed system → (y place : ℕ) (item : Item) → slice_get (thread_part system y).script place ≡ Some item
    → IsItem system (core_of system (thread_part system y)) item
item_home system well y place item e = by (cases_lt y (length system.threads))
  where
    by : (y < length system.threads) ⊎ (length system.threads ≤ y) → IsItem system (core_of system (thread_part system y)) item
    by (inl l) = item_known system (core_of system (thread_part system y)) (thread_part system y).script place item (well.threads y no_thread l).items e
    by (inr past) =
        let nothing : List Item = [] in
        let none : thread_part system y ≡ no_thread = get_or_past system.threads y no_thread past in
        let g : Some item ≡ None =
        sym e ∙ ap (λ (part : ThreadPart). slice_get part.script place) none ∙ slice_get_past nothing place (omega arith)
        in
        absurd (cc)

-- a word that is given while a round is under way begins none
under_way : (waits bits : Option ℕ) (note word t since : ℕ) → begun_by_word waits bits note word t (Some since) ≡ Some since
under_way waits bits note word t since = refl

module _ (system : System) (well : IsWellFormed system) (x : ℕ) where
  thread : x < length system.threads → IsThread system (thread_part system x)
  thread known = well.threads x no_thread known

  -- its state after a move, in a round that began at this moment
  abbrev state_at : Moved → ℕ → Core → Thread
  state_at move since k =
      let state = thread_of k x in record state { place = place_after system.call (thread_part system x).script move state.place; since = since }

  -- what a wait makes of the thread when its word is there: it moves on to the next item
  pub moved_on : ℕ → ℕ → Core → Core
  moved_on t word k = let given = turns.given system t x word k in turns.placed system t x Next (thread_of given x).since given

  -- its state when it has the word
  abbrev given_at : ℕ → ℕ → Core → Thread
  given_at t word k = turns.round_begun (thread_part system x).script t word (thread_of k x)

  given-state : (t word : ℕ) (k : Core) → x < length k.threads → thread_of (turns.given system t x word k) x ≡ given_at t word k
  given-state t word k has = get_or-set_same k.threads x (given_at t word k) no_state has

  not_later : (b : Bool) (t since : ℕ) → since ≤ t → cond b t since ≤ t
  not_later true t since h = omega arith
  not_later false t since h = h

  given-next : (t word : ℕ) (k : Core) → x < length k.threads → IsWaiting system x k → turns.move_of system x (turns.given system t x word k) ≡ Next
  given-next t word k has w =
      let e = ap (λ (s : Thread). s.place) (given-state t word k has) in
      wait_goes (thread_part system x).script (thread_part system x).rounds w.note (thread_of (turns.given system t x word k) x).place
      (ap (λ (p : Place). slice_get (thread_part system x).script p.item) e ∙ w.item)

  given-has : (t word : ℕ) (k : Core) → x < length k.threads → x < length (turns.given system t x word k).threads
  given-has t word k has = let l = length-set k.threads x (given_at t word k) in omega arith

  given-under : (t word : ℕ) (begun : Option ℕ) (k : Core) → IsUnderWay system x begun k → (w : IsWaiting system x k)
      → IsUnderWay system x (begun_by_word (first system x).waits (first system x).bits w.note word t begun) (moved_on t word k)
  unfolding moved_on
  given-under t word begun k u w =
      let given = turns.given system t x word k in
      let script = (thread_part system x).script in
      let e = given-state t word k u.has in
      let old = (thread_of k x).place in
      let since = (thread_of k x).since in
      let next = begun_by_word (first system x).waits (first system x).bits w.note word t begun in
      let begins : next
      ≡ beginning_of (first system x).waits (unwrap_or (next_item script (given_at t word k).place.word old.item) 0) (given_at t word k).since =
      ap (begun_by_word (first system x).waits (first system x).bits w.note word t) u.begins
      ∙ when_given script (first system x).waits old.item since t w.note word old.word refl w.item
      in
      under-thread system x next (state_at Next (thread_of given x).since given) given u.known (given-has t word k u.has) u.notes
      (begins ∙ sym (ap (λ (s : Thread). beginning_of (first system x).waits (unwrap_or (next_item script s.place.word s.place.item) 0) s.since) e))

  given-started : (t word : ℕ) (begun : Option ℕ) (k : Core) → IsUnderWay system x begun k → IsStarted system x t k
      → IsStarted system x t (moved_on t word k)
  unfolding moved_on
  given-started t word begun k u s =
      let given = turns.given system t x word k in
      let item = (thread_of k x).place.item in
      let since = (thread_of k x).since in
      let e = ap (λ (s : Thread). s.since) (given-state t word k u.has) in
      let state = state_at Next (thread_of given x).since given in
      started-thread system x t state given (given-has t word k u.has) s.start
      (let n = not_later (item == 0) t since s.since in omega arith)

  -- the thread finishes an item that is no wait
  placed-holds : (from t since : ℕ) (move : Moved) (begun ended : Option ℕ) (k : Core) → Holds system x from t (told_of Running begun) k → since ≤ t
      → ended ≡ beginning_of (first system x).waits (place_after system.call (thread_part system x).script move (thread_of k x).place).item since
      → Holds system x from t (told_of Running ended) (turns.placed system t x move since k)
  placed-holds from t since move begun ended k h l e =
      let state = state_at move since k in
      record {
        runs = h.runs;
        ready = h.ready;
        dated = h.dated;
        waits = h.waits;
        own = (
          under-thread system x ended state k h.own.0.known h.own.0.has h.own.0.notes e,
          started-thread system x t state k h.own.0.has h.own.1.start l,
        );
      }

  pub finish-goes : (from t using : ℕ) (begun : Option ℕ) (k : Core) (move : Moved) (cause : AfterItem) → IsCalm system x cause
      → Holds system x from t (told_of Running begun) k
      → begun ≡ Some (thread_of k x).since → is_wait (turns.item_of system x k) ≡ false → turns.move_of system x k ≡ move
      → Goes system x from t (told_of Running begun)
      (turns.moves system t x move k followed_by turns.may_stop by_priority system t x using (turns.after_move move cause))
  finish-goes from t using begun k Next cause calm h e none move =
      let moved = turns.placed system t x Next (thread_of k x).since k in
      let q =
      calm-goes system x cause calm from t using begun moved
      (placed-holds from t (thread_of k x).since Next begun begun k h h.own.1.since
      (e ∙ sym (past_first (first system x).waits (unwrap_or (next_of (thread_part system x).script (thread_of k x).place) 0) (thread_of k x).since
      (goes-past (thread_part system x).script (thread_part system x).rounds (thread_of k x).place none move))))
      in
      record { last = q.last; walks = q.walks; holds = q.holds; ended = q.ended }
  finish-goes from t using begun k RoundEnds cause calm h e none move =
      let moved = turns.placed system t x RoundEnds t k in
      let next = begun_at (first system x).waits t in
      let q = calm-goes system x cause calm from t using next moved
      (placed-holds from t t RoundEnds begun next k h (omega arith) (at_first (first system x).waits t)) in
      let l = h.own.1.since in
      record {
        last = q.last;
        walks = (
          told_of Running next,
          step-round x (first system x) t (thread_of k x).place.round (t - (thread_of k x).since) (thread_of k x).since begun e (omega arith),
          q.walks,
        );
        holds = q.holds;
        ended = λ before. (tt, q.ended (Some (row.Round x (thread_of k x).place.round (t - (thread_of k x).since))));
      }
  finish-goes from t using begun k AllDone cause calm h e none move =
      let next = begun_at (first system x).waits t in
      let l = h.own.1.since in
      record {
        last = told_of Done None;
        walks = (
          told_of Running next,
          step-round x (first system x) t (thread_of k x).place.round (t - (thread_of k x).since) (thread_of k x).since begun e (omega arith),
          (
            told_of Done None,
            step-stop x (first system x) t using why.Done None Done next None refl (sym (ap (λ b. cond b None next) (self x))),
            refl,
          ),
        );
        holds = record { runs = refl; ready = h.ready; dated = h.dated; waits = h.waits; own = tt };
        ended = λ before. (tt, (λ own. self x, tt));
      }

  -- a wait that is given a word continues, and one that is given no word blocks
  pub got-goes : (from t using note word : ℕ) (begun : Option ℕ) (k : Core) → Holds system x from t (told_of Running begun) k
      → slice_get (thread_part system x).script (thread_of k x).place.item ≡ Some (Wait note)
      → Goes system x from t (told_of Running begun)
      (turns.waits_as system t x note (Got word) k followed_by turns.may_stop by_priority system t x using after.GoesOn)
  unfolding moved_on
  got-goes from t using note word begun k h item =
      let noted = with_note note (after_wait (Got word) (turns.queued x k) (note_of k note)) k in
      let given = turns.given system t x word noted in
      let was = holds-same system x from t (told_of Running begun) k noted
      (same-note system x note (after_wait (Got word) (turns.queued x k) (note_of k note)) k refl) h in
      let waits : IsWaiting system x noted = record { note = note; item = item } in
      let next = begun_by_word (first system x).waits (first system x).bits note word t begun in
      let yet : begun ≡ None → (first system x).waits ≡ Some note =
      λ none. at_wait (thread_part system x).script (first system x).waits (thread_of k x).place.item (thread_of k x).since note refl item
      (sym h.own.0.begins ∙ none)
      in
      let place : TakesAt (first system x).script note begun =
      inl (
        (thread_of k x).place.item,
        item,
        λ at. h.own.0.begins
            ∙ none_at_first (thread_part system x).script (first system x).waits (thread_of k x).place.item (thread_of k x).since note refl item at,
      )
      in
      let holds : Holds system x from t (told_of Running next) (moved_on t word noted) =
      record {
        runs = was.runs;
        ready = was.ready;
        dated = was.dated;
        waits = was.waits;
        own = (given-under t word begun noted was.own.0 waits, given-started t word begun noted was.own.0 was.own.1);
      }
      in
      let q = calm-goes system x after.GoesOn tt from t using next (moved_on t word noted) holds in
      let P : Moved → Type 0 =
      λ move. Goes system x from t (told_of Running begun)
      (says (row.Got x note word) given followed_by turns.moves system t x move followed_by turns.may_stop by_priority system t x using after.GoesOn)
      in
      subst P (sym (given-next t word noted was.own.0.has waits))
      record {
        last = q.last;
        walks = (told_of Running next, step-got x (first system x) t note word begun yet place, q.walks);
        holds = q.holds;
        ended = λ before. (tt, q.ended (Some (row.Got x note word)));
      }

  -- how a thread waits: for a server that is taken, or for a signal
  abbrev pub waiting_as : Bool → Standing
  waiting_as true = AtServer
  waiting_as false = Blocked

  -- a thread blocks at its item, which waits for this notification or server
  blocks-holds : (served : Bool) (from t using note : ℕ) (begun : Option ℕ) (k : Core) → Holds system x from t (told_of Running begun) k
      → is_server system note ≡ served → note < length system.notes → Awaits (turns.item_of system x k) note
      → Holds system x from t (told_of (waiting_as served) begun)
      (stands x core_standing.TheVariants.Blocked (off (turns.charged system x using (with_note note (after_wait Blocks (turns.queued x k) (note_of k note)) k))))
  blocks-holds served from t using note begun k h is known item = by served listed
    where
      ready : Note
      ready = after_wait Blocks (turns.queued x k) (note_of k note)

      gone : Core
      gone = off (turns.charged system x using (with_note note ready k))

      blocked : Core
      blocked = stands x core_standing.TheVariants.Blocked gone

      within : note < length k.notes
      within = let e = h.own.0.notes in omega arith

      more : times_queued x ready.waiters ≡ 1 + times_queued x (note_of k note).waiters
      more =
          let one : ◌≡◌ {A = ℕ} (cond (x == x) 1 0) 1 = ap (λ b. cond b 1 0) (self x) in
          let all = times_queued-append x (note_of k note).waiters (turns.queued x k) in
          omega (arith, one, all)

      waits : times_waiting x blocked.notes ≡ 1
      waits =
          let set = times_waiting-set x note ready k.notes within in
          let none = h.waits in
          omega (arith, set, more, none)

      under : IsUnderWay system x begun blocked
      under =
          let u = h.own.0 in
          under-stands system x begun core_standing.TheVariants.Blocked gone
          record { known = u.known; has = u.has; notes = length-set k.notes note ready ∙ u.notes; begins = u.begins }

      started : IsStarted system x t blocked
      started =
          started-stands system x t core_standing.TheVariants.Blocked gone h.own.0.has record { start = h.own.1.start; since = h.own.1.since }

      listed : IsListed system x served blocked
      listed =
          let state = get_or-set_same k.threads x (record (thread_of k x) { standing = core_standing.TheVariants.Blocked }) no_state h.own.0.has in
          record {
            note = note;
            served_is = is;
            item = subst (λ (s : Thread). Awaits (slice_get (thread_part system x).script s.place.item) note) (sym state) item;
            listed =
                let there = ap (λ (n : Note). times_queued x n.waiters) (get_or-set_same k.notes note ready quiet_note within) in
                omega (arith, there, more);
          }

      by : (served : Bool) → IsListed system x served blocked → Holds system x from t (told_of (waiting_as served) begun) blocked
      by true l = record { runs = refl; ready = h.ready; dated = h.dated; waits = waits; own = (under, started, l) }
      by false l = record { runs = refl; ready = h.ready; dated = h.dated; waits = waits; own = (under, started, l) }

  pub blocks-goes : (from t using note : ℕ) (begun : Option ℕ) (k : Core) → Holds system x from t (told_of Running begun) k
      → slice_get (thread_part system x).script (thread_of k x).place.item ≡ Some (Wait note)
      → Goes system x from t (told_of Running begun)
      (turns.waits_as system t x note Blocks k followed_by turns.may_stop by_priority system t x using after.Blocks)
  blocks-goes from t using note begun k h item =
      let core = core_of system (thread_part system x) in
      let script = (thread_part system x).script in
      let known = wait_known system core script (thread_of k x).place.item note (thread h.own.0.known).items item in
      let is = note_known system core script (thread_of k x).place.item note (thread h.own.0.known).items item in
      record {
        last = told_of Blocked begun;
        walks = (told_of Blocked begun, step-stop x (first system x) t using why.Wait None Blocked begun begun refl refl, refl);
        ended = λ before. (tt, tt);
        holds = blocks-holds false from t using note begun k h is known (subst (λ (o : Option Item). Awaits o note) (sym item) refl);
      }

  -- a thread enters a server that is free, or waits for it
  pub enters-blocks : (from t using server priority : ℕ) (begun : Option ℕ) (k : Core) → Holds system x from t (told_of Running begun) k
      → turns.item_of system x k ≡ Some (Enter server priority)
      → Goes system x from t (told_of Running begun)
      (turns.enters_as system t x server Blocks k followed_by turns.may_stop by_priority system t x using after.Calls)
  enters-blocks from t using server priority begun k h item =
      let core = core_of system (thread_part system x) in
      let script = (thread_part system x).script in
      let known = enter_known system core script (thread_of k x).place.item server priority (thread h.own.0.known).items item in
      let is = server_known system core script (thread_of k x).place.item server priority (thread h.own.0.known).items item in
      record {
        last = told_of AtServer begun;
        walks = (told_of AtServer begun, step-stop x (first system x) t using why.Call None AtServer begun begun refl refl, refl);
        ended = λ before. (tt, tt);
        holds = blocks-holds true from t using server begun k h is known (subst (λ (o : Option Item). Awaits o server) (sym item) refl);
      }

  -- after the entering of a server its script continues
  goes_behind : (server priority : ℕ) (k : Core) → x < length system.threads → turns.item_of system x k ≡ Some (Enter server priority)
      → turns.move_of system x k ≡ Next
  goes_behind server priority k known item =
      enter_goes (thread_part system x).script (thread_part system x).rounds server priority (thread_of k x).place (thread known).script item

  pub enters-goes : (from t using server priority word : ℕ) (begun : Option ℕ) (k : Core) → Holds system x from t (told_of Running begun) k
      → turns.item_of system x k ≡ Some (Enter server priority) → begun ≡ Some (thread_of k x).since
      → Goes system x from t (told_of Running begun)
      (turns.enters_as system t x server (Got word) k followed_by turns.may_stop by_priority system t x using after.GoesOn)
  enters-goes from t using server priority word begun k h item there =
      let noted = with_note server (after_wait (Got word) (turns.queued x k) (note_of k server)) k in
      let was = holds-same system x from t (told_of Running begun) k noted
      (same-note system x server (after_wait (Got word) (turns.queued x k) (note_of k server)) k refl) h in
      let next = goes_behind server priority k h.own.0.known item in
      let q = finish-goes from t using begun noted Next after.GoesOn tt was there (ap is_wait item) next in
      let P : Moved → Type 0 =
      λ move. Goes system x from t (told_of Running begun)
      (says (row.Got x server word) noted followed_by turns.moves system t x move followed_by turns.may_stop by_priority system t x using after.GoesOn)
      in
      let same : begun_by_word (first system x).waits (first system x).bits server word t begun ≡ begun =
      ap (begun_by_word (first system x).waits (first system x).bits server word t) there ∙ under_way (first system x).waits (first system x).bits server word t (thread_of k x).since
      ∙ sym there
      in
      let R : Option ℕ → Type 0 = λ after. Step x (first system x) t (told_of Running begun) (row.Got x server word) (told_of Running after) in
      subst P (sym next)
      record {
        last = q.last;
        walks = (
          told_of Running begun,
          subst R same
              (step-got x (first system x) t server word begun (λ none. absurd (let g : None ≡ Some (thread_of k x).since = sym none ∙ there in cc))
              (inr ((thread_of k x).place.item, priority, item))),
          q.walks,
        );
        holds = q.holds;
        ended = λ before. (tt, q.ended (Some (row.Got x server word)));
      }

  -- a waiting thread waits for a signal or for a server, as what it waits for is
  waits_one : (standing : Standing) → 1 ≤ waits_as standing → (standing ≡ Blocked) ⊎ (standing ≡ AtServer)
  waits_one Blocked l = inl refl
  waits_one AtServer l = inr refl
  waits_one Pending l = absurd (omega (arith, l))
  waits_one Ready l = absurd (omega (arith, l))
  waits_one Running l = absurd (omega (arith, l))
  waits_one Throttled l = absurd (omega (arith, l))
  waits_one Done l = absurd (omega (arith, l))

  waits_there : (from t note : ℕ) (told : Told) (k : Core) → 1 ≤ times_queued x (note_of k note).waiters → Holds system x from t told k
      → (told.standing ≡ Blocked) ⊎ (told.standing ≡ AtServer)
  waits_there from t note told k own h =
      let at = times_waiting-at x note k.notes in
      let w = h.waits in
      waits_one told.standing (omega (arith, w, own, at))

  listed_is : (note : ℕ) (served : Bool) (k : Core) → times_waiting x k.notes ≡ 1
      → 1 ≤ times_queued x (note_of k note).waiters → IsListed system x served k → is_server system note ≡ served
  listed_is note served k one own l =
      ap (is_server system) (one_note x k.notes note l.note one own l.listed) ∙ l.served_is

  pub waits_blocked : (from t note : ℕ) (told : Told) (k : Core) → is_server system note ≡ false → 1 ≤ times_queued x (note_of k note).waiters
      → Holds system x from t told k → told.standing ≡ Blocked
  waits_blocked from t note told k signalled own h = by (waits_there from t note told k own h)
    where
      by : (told.standing ≡ Blocked) ⊎ (told.standing ≡ AtServer) → told.standing ≡ Blocked
      by (inl e) = e
      by (inr e) =
          let P : Standing → Type 0 = λ s. Holds system x from t (told_of s told.begun) k in
          let there : Holds system x from t (told_of AtServer told.begun) k = subst P e h in
          absurd (contrary (is_server system note) signalled (listed_is note true k there.waits own there.own.2))

  pub waits_at_server : (from t server : ℕ) (told : Told) (k : Core) → is_server system server ≡ true
      → 1 ≤ times_queued x (note_of k server).waiters → Holds system x from t told k → told.standing ≡ AtServer
  waits_at_server from t server told k served own h = by (waits_there from t server told k own h)
    where
      by : (told.standing ≡ Blocked) ⊎ (told.standing ≡ AtServer) → told.standing ≡ AtServer
      by (inr e) = e
      by (inl e) =
          let P : Standing → Type 0 = λ s. Holds system x from t (told_of s told.begun) k in
          let there : Holds system x from t (told_of Blocked told.begun) k = subst P e h in
          absurd (contrary (is_server system server) (listed_is server false k there.waits own there.own.2) served)

  -- a waiting thread is woken
  -- a thread that waits for a notification is at a wait, and one that waits for a server is about
  -- to enter it
  at-wait : (note : ℕ) (o : Option Item) → is_server system note ≡ false → Awaits o note
      → ((n priority : ℕ) → o ≡ Some (Enter n priority) → is_server system n ≡ true) → o ≡ Some (Wait note)
  at-wait note (Some (Wait n)) e a h = ap (λ n. Some (Wait n)) a
  at-wait note (Some (Enter n priority)) e a h = absurd (contrary (is_server system note) e (ap (is_server system) (sym a) ∙ h n priority refl))
  at-wait note (Some (Compute ticks)) e a h = absurd a
  at-wait note (Some (Signal n badge)) e a h = absurd a
  at-wait note (Some Yield) e a h = absurd a
  at-wait note (Some (On badges)) e a h = absurd a
  at-wait note (Some Spin) e a h = absurd a
  at-wait note (Some (Leave n priority)) e a h = absurd a
  at-wait note None e a h = absurd a

  at-enter : (server : ℕ) (o : Option Item) → is_server system server ≡ true → Awaits o server
      → ((n : ℕ) → o ≡ Some (Wait n) → is_server system n ≡ false) → (priority : ℕ) × (o ≡ Some (Enter server priority))
  at-enter server (Some (Enter n priority)) e a h = (priority, ap (λ n. Some (Enter n priority)) a)
  at-enter server (Some (Wait n)) e a h = absurd (contrary (is_server system server) (ap (is_server system) (sym a) ∙ h n refl) e)
  at-enter server (Some (Compute ticks)) e a h = absurd a
  at-enter server (Some (Signal n badge)) e a h = absurd a
  at-enter server (Some Yield) e a h = absurd a
  at-enter server (Some (On badges)) e a h = absurd a
  at-enter server (Some Spin) e a h = absurd a
  at-enter server (Some (Leave n priority)) e a h = absurd a
  at-enter server None e a h = absurd a

  pub woken-goes : (from t note word : ℕ) (begun : Option ℕ) (k : Core) → is_server system note ≡ false → 1 ≤ times_queued x (note_of k note).waiters
      → Holds system x from t (told_of Blocked begun) k
      → Goes system x from t (told_of Blocked begun) (turns.posts_as by_priority system t note (Woke x word) k)
  unfolding moved_on
  woken-goes from t note word begun k signalled waits h =
      let state = after_post (Woke x word) (note_of k note) in
      let noted = with_note note state k in
      let woken = turns.with_woken_context system t x noted in
      let left = times_queued-without x x (note_of k note).waiters waits in
      let one : ◌≡◌ {A = ℕ} (cond (x == x) 1 0) 1 = ap (λ b. cond b 1 0) (self x) in
      let less = set-waiting x k.notes note state in
      let u = h.own.0 in
      let under : IsUnderWay system x begun woken =
      record { known = u.known; has = u.has; notes = length-set k.notes note state ∙ u.notes; begins = u.begins }
      in
      let started : IsStarted system x t woken = record { start = h.own.1.start; since = h.own.1.since } in
      let own : note ≡ h.own.2.note = one_note x k.notes note h.own.2.note h.waits waits h.own.2.listed in
      let place = (thread_of k x).place.item in
      let item : slice_get (thread_part system x).script place ≡ Some (Wait note) =
      at-wait note (slice_get (thread_part system x).script place) signalled
      (subst (λ n. Awaits (slice_get (thread_part system x).script place) n) (sym own) h.own.2.item)
      (λ n priority e. (server_known system (core_of system (thread_part system x)) (thread_part system x).script place n priority (thread u.known).items e))
      in
      let waiting : IsWaiting system x woken = record { note = note; item = item } in
      let next = begun_by_word (first system x).waits (first system x).bits note word t begun in
      let yet : begun ≡ None → (first system x).waits ≡ Some note =
      λ none. at_wait (thread_part system x).script (first system x).waits place (thread_of k x).since note refl item (sym u.begins ∙ none)
      in
      let moved = moved_on t word woken in
      let loose : Loose system x t next moved =
      record {
        runs = h.runs;
        ready = h.ready;
        dated = h.dated;
        waits = let was = h.waits in omega (arith, left, one, less, was);
        under = given-under t word begun woken under waiting;
        started = given-started t word begun woken under started;
      }
      in
      let date = turns.woken_until system t x k in
      let P : Moved → Type 0 =
      λ move. Goes system x from t (told_of Blocked begun)
      (says (row.Wake x note word (turns.woken_until system t x k)) noted followed_by λ core.
      turns.moves system t x move (turns.given system t x word (turns.with_woken_context system t x core))
      followed_by λ core. silent (turns.enters_back by_priority x (turns.date_of system t x core) core))
      in
      subst P (sym (given-next t word woken under.has waiting))
      record {
        last = told_of (standing_until date) next;
        walks = (told_of (standing_until date) next, step-wake x (first system x) t note word Blocked date begun (inl refl) yet, refl);
        holds = enters-back system x from t date next moved loose;
        ended = λ before. (tt, tt);
      }

  -- a thread that waits for a server is let in
  pub let-goes : (from t server word : ℕ) (begun : Option ℕ) (k : Core) → is_server system server ≡ true
      → 1 ≤ times_queued x (note_of k server).waiters → Holds system x from t (told_of AtServer begun) k
      → Goes system x from t (told_of AtServer begun) (turns.frees_as by_priority system t server (Woke x word) k)
  let-goes from t server word begun k served waits h =
      let state = after_post (Woke x word) (note_of k server) in
      let noted = with_note server state k in
      let woken = turns.with_woken_context system t x noted in
      let left = times_queued-without x x (note_of k server).waiters waits in
      let one : ◌≡◌ {A = ℕ} (cond (x == x) 1 0) 1 = ap (λ b. cond b 1 0) (self x) in
      let less = set-waiting x k.notes server state in
      let u = h.own.0 in
      let own : server ≡ h.own.2.note = one_note x k.notes server h.own.2.note h.waits waits h.own.2.listed in
      let place = (thread_of k x).place in
      let script = (thread_part system x).script in
      let enter =
      at-enter server (slice_get script place.item) served (subst (λ n. Awaits (slice_get script place.item) n) (sym own) h.own.2.item)
      (λ n e. note_known system (core_of system (thread_part system x)) script place.item n (thread u.known).items e)
      in
      let there : begun ≡ Some (thread_of k x).since =
      u.begins ∙ unless_first script (first system x).waits place.item (thread_of k x).since refl (ap waited_on enter.1)
      in
      let goes = goes_behind server enter.0 k u.known enter.1 in
      let moved = turns.placed system t x Next (thread_of woken x).since woken in
      let loose : Loose system x t begun moved =
      record {
        runs = h.runs;
        ready = h.ready;
        dated = h.dated;
        waits = let was = h.waits in omega (arith, left, one, less, was);
        under =
            under-thread system x begun (state_at Next (thread_of woken x).since woken) woken u.known u.has (length-set k.notes server state ∙ u.notes)
            (there ∙ sym (past_first (first system x).waits (unwrap_or (next_of script place) 0) (thread_of k x).since
            (goes-past script (thread_part system x).rounds place (ap is_wait enter.1) goes)));
        started = started-thread system x t (state_at Next (thread_of woken x).since woken) woken u.has h.own.1.start h.own.1.since;
      }
      in
      let date = turns.woken_until system t x k in
      let same : begun_by_word (first system x).waits (first system x).bits server word t begun ≡ begun =
      ap (begun_by_word (first system x).waits (first system x).bits server word t) there ∙ under_way (first system x).waits (first system x).bits server word t (thread_of k x).since
      ∙ sym there
      in
      let R : Option ℕ → Type 0 = λ after. Step x (first system x) t (told_of AtServer begun) (row.Wake x server word date) (told_of (standing_until date) after) in
      let P : Moved → Type 0 =
      λ move. Goes system x from t (told_of AtServer begun)
      (says (row.Wake x server word (turns.woken_until system t x k)) noted followed_by λ core.
      turns.moves system t x move (turns.with_woken_context system t x core)
      followed_by λ core. silent (turns.enters_front by_priority x (turns.date_of system t x core) core))
      in
      subst P (sym goes)
      record {
        last = told_of (standing_until date) begun;
        walks = (
          told_of (standing_until date) begun,
          subst R same
              (step-wake x (first system x) t server word AtServer date begun (inr refl) (λ none. absurd (let g : None ≡ Some (thread_of k x).since = sym none ∙ there in cc))),
          refl,
        );
        holds = enters-front system x from t date begun moved loose;
        ended = λ before. (tt, tt);
      }
