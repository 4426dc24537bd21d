-- Who has a server, through the parts of a turn: the thread that enters it, until it leaves it.
use Rattle.std.proofs.Common.{◌≡◌, ◌≢◌, ◌⊎◌, inl, inr, ℕ, ◌+◌, ◌<◌, ◌≤◌, Bool, true, false, cond, not, ◌==◌, ◌&&◌, List, [], ◌∷◌, ◌++◌, length, get_or, set, Option, Some, None, refl, sym, ap, subst, ◌∙◌, arith}
use Rattle.std.specs.Prelude.{◌||◌, filter, bit_or}
use Rattle.std.specs.List.{slice_get, AllByRecursion}
use Rattle.std.proofs.lemmas.Bool.{cases_eq}
use Rattle.std.proofs.lemmas.List.{get_or-set_same, get_or-set_other}
use Rattle.std.proofs.Math.ListN.{length-set}
use Rattle.mcs_ticks.specs.Queue.{by_priority, without}
use Rattle.mcs_ticks.specs.declared.queue.Queued.{Queued}
use Rattle.mcs_ticks.specs.declared.row.Why.{Why}
use Rattle.mcs_ticks.specs.declared.row.Why.TheVariants as why
use Rattle.mcs_control.specs.declared.config.Order.{Order}
use Rattle.mcs_notify.specs.Note.{Note, quiet_note, posted, after_post, waited, after_wait}
use Rattle.mcs_notify.specs.declared.posted.Posted.{Posted}
use Rattle.mcs_notify.specs.declared.posted.Posted.TheVariants.{Woke, Held}
use Rattle.mcs_notify.specs.declared.posted.Waited.{Waited}
use Rattle.mcs_notify.specs.declared.posted.Waited.TheVariants.{Got, Blocks}
use Rattle.mcs_script.specs.declared.item.Item.{Item}
use Rattle.mcs_script.specs.declared.item.Item.TheVariants.{Compute, Signal, Wait, Yield, On, Spin, Enter, Leave}
use Rattle.mcs_script.specs.declared.moved.Moved.{Moved}
use Rattle.mcs_script.specs.declared.moved.Moved.TheVariants.{Next, RoundEnds, AllDone}
use Rattle.mcs_script.specs.declared.place.Place.{Place}
use Rattle.mcs_script.specs.Script.{move_after, place_after}
use Rattle.mcs_mail.specs.declared.mail.Mail.{Mail}
use Rattle.mcs_system.specs.System.{System, note_part, thread_part, is_server}
use Rattle.mcs_system.specs.WellFormed.{IsWellFormed}
use Rattle.mcs_core.specs.Alarms.{ringing, alarms_at}
use Rattle.mcs_core.specs.declared.alarm.Alarm.{Alarm}
use Rattle.mcs_core.specs.declared.standing.AfterItem.{AfterItem}
use Rattle.mcs_core.specs.declared.standing.AfterItem.TheVariants as after
use Rattle.mcs_core.specs.declared.standing.Chosen.{Chosen}
use Rattle.mcs_core.specs.declared.standing.Standing.TheVariants.{Blocked, Done}
use Rattle.mcs_core.specs.declared.standing.Thread.{Thread}
use Rattle.mcs_core.specs.Core.{Core, thread_of, note_of, with_note}
use Rattle.mcs_core.specs.Places.{times_queued, times_waiting}
use Rattle.mcs_core.specs.Turn as turns
use Rattle.mcs_core.specs.Turn.{Turn, silent, says, ◌followed_by◌, each, is_for_now}
use Rattle.mcs_core.proofs.Counts.{one_if_same, times_queued-append, times_queued-without, times_waiting-at}
use Rattle.mcs_laws.specs.Places.{places, times_running}
use Rattle.mcs_laws.proofs.Places.{woke, set-waiting, signals-running, posts-held, frees-held, frees-running}
use Rattle.mcs_server_laws.specs.Nesting.{is_in, last_is, without_last, inside, inside_after, nests}
use Rattle.mcs_server_laws.specs.Exclusion.{is_done, is_inside, has, word_of, IsHeldBy}
use Rattle.mcs_server_laws.proofs.Nesting.{AreDistinct, may-stand, are-distinct, IsMoved, moved-inside, wait-goes, enter-goes}
use Rattle.mcs_server_laws.proofs.Calm.{Awaits, Calm, DoesStay, Entered, IsLine, IsTop, back-entered, chooses-calm, chooses-top, enters-at, entries-other, entries-same, front-entered, item-is, may_stop-calm, obeys-calm, off-places, one-of, preempts-calm, preempts-top, releases-calm, runs-place, spot, stands-still, thread-other, thread-own, view-set, waiters-set, waits-at, with-item}
use Rattle.mcs_server_laws.proofs.Tests.{apart, equal, itself}

module _ (system : System) (well : IsWellFormed system) (nested : (x : ℕ) → nests (thread_part system x).script ≡ true)
    (Fits : ℕ → ℕ → ℕ → Type 0)
    (fits-next : (x : ℕ) (item : Item) (place : Place) → slice_get (thread_part system x).script place.item ≡ Some item → Fits x place.item place.priority →
    let later = place_after system.call (thread_part system x).script (move_after (thread_part system x).script (thread_part system x).rounds place) place in
    Fits x later.item later.priority)
    (server : ℕ) (is : is_server system server ≡ true) where
  abbrev script : ℕ → List Item
  script x = (thread_part system x).script

  -- whether a thread is in the server
  abbrev pub now : Core → ℕ → Bool
  now k x = is_inside system server x (thread_of k x)

  -- a thread that stands at this item is in the server
  abbrev at : ℕ → ℕ → Bool
  at x i = is_in server (inside i (script x))

  now-spot : (k after : Core) (x : ℕ) → spot after x ≡ spot k x → now after x ≡ now k x
  now-spot k after x e = ap (λ (s : Bool × ℕ × ℕ). not s.0 && at x s.1) e

  now-at : (k : Core) (x : ℕ) → is_done (thread_of k x).standing ≡ false → now k x ≡ at x (thread_of k x).place.item
  now-at k x e = ap (λ b. not b && at x (thread_of k x).place.item) e

  -- what is known of the item and the priority of each thread
  abbrev HasFit : Core → ℕ → Type 0
  HasFit k x = Fits x (thread_of k x).place.item (thread_of k x).place.priority

  fits-spot : (k after : Core) (x : ℕ) → spot after x ≡ spot k x → HasFit k x → HasFit after x
  fits-spot k after x e h = subst (λ (s : Bool × ℕ × ℕ). Fits x s.1 s.2) (sym e) h

  -- what holds of a core: who waits stands at an item that does, and a thread has one place, and none when it is done
  pub record Kept (k : Core) : Type 0 where
    pub waits : (n x : ℕ) → 1 ≤ times_queued x (note_of k n).waiters → Awaits (slice_get (script x) (thread_of k x).place.item) n
    pub one : (x : ℕ) → places x k ≤ 1
    pub alive : (x : ℕ) → 1 ≤ places x k → is_done (thread_of k x).standing ≡ false
    pub there : server < length k.notes
    pub many : length k.threads ≡ length system.threads
    pub line : IsLine k.threads k.ready
    pub fits : (x : ℕ) → Fits x (thread_of k x).place.item (thread_of k x).place.priority

  pub record Good (k : Core) : Type 0 where
    pub kept : Kept k
    pub holder : Option ℕ
    pub held : IsHeldBy system server holder k

  -- the server is held so but for one thread, which is on its way
  record HeldBut (y : ℕ) (holder : Option ℕ) (k : Core) : Type 0 where
    word : (note_of k server).word ≡ word_of holder
    others : (x : ℕ) → x ≢ y → now k x ≡ has holder x

  calm-kept : (k after : Core) → Calm k after → Kept k → Kept after
  calm-kept k after c h =
      record {
        waits = λ n x l. subst (λ i. Awaits (slice_get (script x) i) n) (sym (ap (λ (s : Bool × ℕ × ℕ). s.1) (c.still.spots x)))
            (h.waits n x (subst (λ (notes : List Note). 1 ≤ times_queued x (get_or notes n quiet_note).waiters) c.still.notes l));
        one = λ x. omega (arith, c.fewer x, h.one x);
        alive = λ x l. ap (λ (s : Bool × ℕ × ℕ). s.0) (c.still.spots x) ∙ h.alive x (omega (arith, c.fewer x, l));
        there = subst (λ (notes : List Note). server < length notes) (sym c.still.notes) h.there;
        many = c.still.many ∙ h.many;
        line = c.still.line h.line;
        fits = λ x. fits-spot k after x (c.still.spots x) (h.fits x);
      }

  calm-good : (k after : Core) → Calm k after → Good k → Good after
  calm-good k after c g =
      record {
        kept = calm-kept k after c g.kept;
        holder = g.holder;
        held = record {
          word = ap (λ (notes : List Note). (get_or notes server quiet_note).word) c.still.notes ∙ g.held.word;
          inside = λ x. now-spot k after x (c.still.spots x) ∙ g.held.inside x;
        };
      }

  known : (k : Core) (x : ℕ) (item : Item) → Kept k → slice_get (script x) (thread_of k x).place.item ≡ Some item → x < length k.threads
  known k x item h e = omega (arith, with-item system x (thread_of k x).place.item item e, h.many)

  -- of one that runs, and of one that waits
  runs-alone : (y using : ℕ) (k : Core) → Kept k → k.running ≡ Some (record { thread = y; using = using }) → times_waiting y k.notes ≡ 0
  runs-alone y using k h e = omega (arith, off-places y y using k e, one-of y, h.one y)

  runs-unready : (y using : ℕ) (k : Core) → Kept k → k.running ≡ Some (record { thread = y; using = using }) → times_queued y k.ready ≡ 0
  runs-unready y using k h e = omega (arith, off-places y y using k e, one-of y, h.one y)

  waits-unready : (n x : ℕ) (k : Core) → Kept k → 1 ≤ times_queued x (note_of k n).waiters → times_queued x k.ready ≡ 0
  waits-unready n x k h l = omega (arith, l, times_waiting-at x n k.notes, h.one x)

  waits-place : (n x : ℕ) (k : Core) → 1 ≤ times_queued x (note_of k n).waiters → 1 ≤ places x k
  waits-place n x k l = omega (arith, l, times_waiting-at x n k.notes)

  module _ (t : ℕ) where
    -- a thread moves on
    moves-notes : (y : ℕ) (m : Moved) (k : Core) → (turns.moves system t y m k).core.notes ≡ k.notes
    moves-notes y Next k = refl
    moves-notes y RoundEnds k = refl
    moves-notes y AllDone k = refl

    moves-many : (y : ℕ) (m : Moved) (k : Core) → length (turns.moves system t y m k).core.threads ≡ length k.threads
    moves-many y Next k = length-set k.threads y _
    moves-many y RoundEnds k = length-set k.threads y _
    moves-many y AllDone k = refl

    moves-running : (y : ℕ) (m : Moved) (k : Core) → (turns.moves system t y m k).core.running ≡ k.running
    moves-running y Next k = refl
    moves-running y RoundEnds k = refl
    moves-running y AllDone k = refl

    moves-places : (x y : ℕ) (m : Moved) (k : Core) → places x (turns.moves system t y m k).core ≡ places x k
    moves-places x y Next k = refl
    moves-places x y RoundEnds k = refl
    moves-places x y AllDone k = refl

    moves-others : (x y : ℕ) (m : Moved) (k : Core) → x ≢ y → thread_of (turns.moves system t y m k).core x ≡ thread_of k x
    moves-others x y Next k h = thread-other y x _ k h
    moves-others x y RoundEnds k h = thread-other y x _ k h
    moves-others x y AllDone k h = refl

    moves-done : (y : ℕ) (m : Moved) (k : Core) → is_done (thread_of (turns.moves system t y m k).core y).standing ≡ is_done (thread_of k y).standing
    moves-done y Next k = view-set (λ (s : Thread). is_done s.standing) k.threads y y _ refl
    moves-done y RoundEnds k = view-set (λ (s : Thread). is_done s.standing) k.threads y y _ refl
    moves-done y AllDone k = refl

    moves-line : (y : ℕ) (m : Moved) (k : Core) → times_queued y k.ready ≡ 0 → IsLine k.threads k.ready
        → IsLine (turns.moves system t y m k).core.threads (turns.moves system t y m k).core.ready
    moves-line y Next k none l = (entries-other y k.threads (turns.moves system t y Next k).core.threads k.ready none (λ x ne. moves-others x y Next k ne) l.0, l.1)
    moves-line y RoundEnds k none l = (entries-other y k.threads (turns.moves system t y RoundEnds k).core.threads k.ready none (λ x ne. moves-others x y RoundEnds k ne) l.0, l.1)
    moves-line y AllDone k none l = l

    moves-fit : (y : ℕ) (item : Item) (k : Core) → y < length k.threads → slice_get (script y) (thread_of k y).place.item ≡ Some item → HasFit k y
        → HasFit (turns.moves_on system t y k).core y
    moves-fit y item k l e h = by (turns.move_of system y k) (fits-next y item (thread_of k y).place e h)
      where
        by : (m : Moved) → Fits y (place_after system.call (script y) m (thread_of k y).place).item (place_after system.call (script y) m (thread_of k y).place).priority
            → HasFit (turns.moves system t y m k).core y
        by Next f = subst (λ (s : Thread). Fits y s.place.item s.place.priority) (sym (thread-own y _ k l)) f
        by RoundEnds f = subst (λ (s : Thread). Fits y s.place.item s.place.priority) (sym (thread-own y _ k l)) f
        by AllDone f = f

    -- behind its item it is in the server, or not
    abbrev IsBehind : ℕ → Item → Core → Moved → Type 0
    IsBehind y item k AllDone = is_in server (inside_after item (inside (thread_of k y).place.item (script y))) ≡ false
    IsBehind y item k Next =
        now (turns.moves system t y Next k).core y ≡ is_in server (inside_after item (inside (thread_of k y).place.item (script y)))
    IsBehind y item k RoundEnds =
        now (turns.moves system t y RoundEnds k).core y ≡ is_in server (inside_after item (inside (thread_of k y).place.item (script y)))

    moves-behind : (y : ℕ) (item : Item) (k : Core) → y < length k.threads → slice_get (script y) (thread_of k y).place.item ≡ Some item
        → is_done (thread_of k y).standing ≡ false → IsBehind y item k (turns.move_of system y k)
    moves-behind y item k l e alive = by (turns.move_of system y k) (moved-inside (script y) (nested y) item system.call (thread_part system y).rounds (thread_of k y).place e)
      where
        placed : (m : Moved) (since : ℕ) → inside (place_after system.call (script y) m (thread_of k y).place).item (script y) ≡ inside_after item (inside (thread_of k y).place.item (script y))
            → now (turns.placed system t y m since k) y ≡ is_in server (inside_after item (inside (thread_of k y).place.item (script y)))
        placed m since f =
            ap (is_inside system server y) (thread-own y _ k l) ∙ ap (λ b. not b && at y (place_after system.call (script y) m (thread_of k y).place).item) alive ∙ ap (is_in server) f

        by : (m : Moved) → IsMoved (script y) (nested y) item system.call (thread_of k y).place m → IsBehind y item k m
        by AllDone f = ap (is_in server) f
        by Next f = placed Next (thread_of k y).since f
        by RoundEnds f = placed RoundEnds t f

    -- the thread that runs finishes its item: before it moves on
    record Before (y using : ℕ) (item : Item) (k : Core) : Type 0 where
      kept : Kept k
      holder : Option ℕ
      but : HeldBut y holder k
      at_item : slice_get (script y) (thread_of k y).place.item ≡ Some item
      own : has holder y ≡ is_in server (inside_after item (inside (thread_of k y).place.item (script y)))
      runs : k.running ≡ Some (record { thread = y; using = using })

    each-of : (y : ℕ) (holder : Option ℕ) (k : Core) → HeldBut y holder k → now k y ≡ has holder y → (x : ℕ) → now k x ≡ has holder x
    each-of y holder k h e x = by (cases_eq x y)
      where
        by : (x ≡ y) ⊎ (x ≢ y) → now k x ≡ has holder x
        by (inl same) = subst (λ z. now k z ≡ has holder z) (sym same) e
        by (inr other) = h.others x other

    -- and then at most one stop follows
    finished : (y using : ℕ) (item : Item) (k : Core) (cause : AfterItem) → DoesStay system t cause → Before y using item k
        → Good (turns.may_stop by_priority system t y using (turns.after_move (turns.move_of system y k) cause) (turns.moves_on system t y k).core).core
    finished y using item k cause stay b =
        by (turns.move_of system y k) (moves-behind y item k (known k y item b.kept b.at_item) b.at_item alive)
        (moves-fit y item k (known k y item b.kept b.at_item) b.at_item (b.kept.fits y))
      where
        alive : is_done (thread_of k y).standing ≡ false
        alive = b.kept.alive y (runs-place system t y using k b.runs)

        moved : (m : Moved) → IsBehind y item k m → HasFit (turns.moves system t y m k).core y → now (turns.moves system t y m k).core y ≡ has b.holder y → Good (turns.moves system t y m k).core
        moved m f fit own =
            record {
              kept = record {
                waits = λ n x l.
                    (let k2 = (turns.moves system t y m k).core in
                    let l2 : 1 ≤ times_queued x (note_of k n).waiters = subst (λ (notes : List Note). 1 ≤ times_queued x (get_or notes n quiet_note).waiters) (moves-notes y m k) l in
                    let ne : x ≢ y = λ e. omega (arith, l2, times_waiting-at x n k.notes, runs-alone y using k b.kept b.runs, ap (λ z. times_waiting z k.notes) e) in
                    subst (λ (s : Thread). Awaits (slice_get (script x) s.place.item) n) (sym (moves-others x y m k ne)) (b.kept.waits n x l2));
                one = λ x. omega (arith, moves-places x y m k, b.kept.one x);
                alive = λ x l. (
                    elim (cases_eq x y) as (λ c. is_done (thread_of (turns.moves system t y m k).core x).standing ≡ false) [
                      | inl same ↦ subst (λ z. is_done (thread_of (turns.moves system t y m k).core z).standing ≡ false) (sym same) (moves-done y m k ∙ alive)
                      | inr other ↦ ap (λ (s : Thread). is_done s.standing) (moves-others x y m k other) ∙ b.kept.alive x (omega (arith, moves-places x y m k, l))
                    ]);
                there = subst (λ (notes : List Note). server < length notes) (sym (moves-notes y m k)) b.kept.there;
                many = moves-many y m k ∙ b.kept.many;
                line = moves-line y m k (runs-unready y using k b.kept b.runs) b.kept.line;
                fits = λ x. (
                    elim (cases_eq x y) as (λ c. HasFit (turns.moves system t y m k).core x) [
                      | inl same ↦ subst (λ z. HasFit (turns.moves system t y m k).core z) (sym same) fit
                      | inr other ↦ subst (λ (s : Thread). Fits x s.place.item s.place.priority) (sym (moves-others x y m k other)) (b.kept.fits x)
                    ]);
              };
              holder = b.holder;
              held = record {
                word = ap (λ (notes : List Note). (get_or notes server quiet_note).word) (moves-notes y m k) ∙ b.but.word;
                inside = each-of y b.holder (turns.moves system t y m k).core record {
                  word = ap (λ (notes : List Note). (get_or notes server quiet_note).word) (moves-notes y m k) ∙ b.but.word;
                  others = λ x h. ap (is_inside system server x) (moves-others x y m k h) ∙ b.but.others x h;
                } own;
              };
            }

        goes : (m : Moved) → Good (turns.moves system t y m k).core → Good (turns.may_stop by_priority system t y using cause (turns.moves system t y m k).core).core
        goes m g =
            let k2 = (turns.moves system t y m k).core in
            calm-good k2 (turns.may_stop by_priority system t y using cause k2).core
            (may_stop-calm system t y using cause k2 stay (moves-running y m k ∙ b.runs) (moves-done y m k ∙ alive)) g

        -- after the last round it is done, and in no server
        ends : is_in server (inside_after item (inside (thread_of k y).place.item (script y))) ≡ false
            → Good (turns.stops system y why.Done using Done k).core
        ends f =
            let k2 = (turns.stops system y why.Done using Done k).core in
            let own : thread_of k2 y ≡ record (thread_of k y) { standing = Done } = thread-own y _ k (known k y item b.kept b.at_item) in
            let fewer : (x : ℕ) → one_if_same y x + places x k2 ≡ places x k = λ x. off-places x y using k b.runs in
            let but : HeldBut y b.holder k2 = record { word = b.but.word; others = λ x h. ap (is_inside system server x) (thread-other y x _ k h) ∙ b.but.others x h } in
            record {
              kept = record {
                waits = λ n x l.
                    (let ne : x ≢ y = λ e. omega (arith, l, times_waiting-at x n k.notes, runs-alone y using k b.kept b.runs, ap (λ z. times_waiting z k.notes) e) in
                    subst (λ (s : Thread). Awaits (slice_get (script x) s.place.item) n) (sym (thread-other y x _ k ne)) (b.kept.waits n x l));
                one = λ x. omega (arith, fewer x, b.kept.one x);
                alive = λ x l.
                    (let ne : x ≢ y = λ e. omega (arith, l, fewer x, b.kept.one x, one-of y, ap (λ z. one_if_same y z) e) in
                    ap (λ (s : Thread). is_done s.standing) (thread-other y x _ k ne) ∙ b.kept.alive x (omega (arith, fewer x, l)));
                there = b.kept.there;
                many = length-set k.threads y _ ∙ b.kept.many;
                line = (entries-same k.threads k2.threads k.ready (λ x. view-set (λ (s : Thread). s.place.priority) k.threads y x _ refl) b.kept.line.0, b.kept.line.1);
                fits = λ x. subst (λ (p : Place). Fits x p.item p.priority) (sym (view-set (λ (s : Thread). s.place) k.threads y x _ refl)) (b.kept.fits x);
              };
              holder = b.holder;
              held = record {
                word = b.but.word;
                inside = each-of y b.holder k2 but (ap (is_inside system server y) own ∙ sym f ∙ sym b.own);
              };
            }

        by : (m : Moved) → IsBehind y item k m → HasFit (turns.moves system t y m k).core y → Good (turns.may_stop by_priority system t y using (turns.after_move m cause) (turns.moves system t y m k).core).core
        by AllDone f fit = ends f
        by Next f fit = goes Next (moved Next f fit (f ∙ sym b.own))
        by RoundEnds f fit = goes RoundEnds (moved RoundEnds f fit (f ∙ sym b.own))

    -- a thread that has left the waiters of a note
    record Gone (w n : ℕ) (k after : Core) : Type 0 where
      others : (x : ℕ) → x ≢ w → thread_of after x ≡ thread_of k x
      own : spot after w ≡ spot k w
      notes : after.notes ≡ set k.notes n (record { word = (note_of k n).word; waiters = without w (note_of k n).waiters })
      many : length after.threads ≡ length k.threads
      ready : after.ready ≡ k.ready

    -- it has moved on, and entered a queue
    record Resumed (w n : ℕ) (item : Item) (k after : Core) : Type 0 where
      kept : Kept after
      others : (x : ℕ) → x ≢ w → thread_of after x ≡ thread_of k x
      own : now after w ≡ is_in server (inside_after item (inside (thread_of k w).place.item (script w)))
      was : now k w ≡ at w (thread_of k w).place.item
      notes : after.notes ≡ set k.notes n (record { word = (note_of k n).word; waiters = without w (note_of k n).waiters })

    behind-now : (w : ℕ) (item : Item) (k : Core) (m : Moved) → m ≡ Next → IsBehind w item k m
        → now (turns.moves system t w m k).core w ≡ is_in server (inside_after item (inside (thread_of k w).place.item (script w)))
    behind-now w item k Next e f = f
    behind-now w item k RoundEnds e f = f
    behind-now w item k AllDone e f = absurd (cc)

    resumed : (w n : ℕ) (item : Item) (k j after : Core) → Kept k → 1 ≤ times_queued w (note_of k n).waiters
        → slice_get (script w) (thread_of k w).place.item ≡ Some item → Gone w n k j → turns.move_of system w j ≡ Next
        → Entered w (turns.moves_on system t w j).core after → ((x : ℕ) → places x after ≤ places x k) → Resumed w n item k after
    resumed w n item k j after h waiting e gone next entered fewer =
        record {
          kept = record {
            waits = waits;
            one = λ x. omega (arith, fewer x, h.one x);
            alive = alive-after;
            there = let l = h.there in let e = ap (λ (ns : List Note). length ns) notes-are in omega (arith, l, e, length-set k.notes n left);
            many = entered.still.many ∙ moves-many w (turns.move_of system w j) j ∙ gone.many ∙ h.many;
            line = entered.still.line (moves-line w (turns.move_of system w j) j (ap (times_queued w) gone.ready ∙ waits-unready n w k h waiting) line-there);
            fits = fits;
          };
          others = others;
          own =
              now-spot moved after w (entered.still.spots w)
              ∙ behind-now w item j (turns.move_of system w j) next (moves-behind w item j (omega (arith, known k w item h e, gone.many)) at-item alive-there)
              ∙ ap (λ i. is_in server (inside_after item (inside i (script w)))) same-item;
          was = now-at k w alive;
          notes = notes-are;
        }
      where
        left : Note
        left = record { word = (note_of k n).word; waiters = without w (note_of k n).waiters }

        moved : Core
        moved = (turns.moves_on system t w j).core

        alive : is_done (thread_of k w).standing ≡ false
        alive = h.alive w (waits-place n w k waiting)

        same-item : (thread_of j w).place.item ≡ (thread_of k w).place.item
        same-item = ap (λ (s : Bool × ℕ × ℕ). s.1) gone.own

        alive-there : is_done (thread_of j w).standing ≡ false
        alive-there = ap (λ (s : Bool × ℕ × ℕ). s.0) gone.own ∙ alive

        at-item : slice_get (script w) (thread_of j w).place.item ≡ Some item
        at-item = ap (slice_get (script w)) same-item ∙ e

        notes-are : after.notes ≡ set k.notes n left
        notes-are = entered.still.notes ∙ moves-notes w (turns.move_of system w j) j ∙ gone.notes

        others : (x : ℕ) → x ≢ w → thread_of after x ≡ thread_of k x
        others x ne = entered.others x ne ∙ moves-others x w (turns.move_of system w j) j ne ∙ gone.others x ne

        line-there : IsLine j.threads j.ready
        line-there =
            subst (IsLine j.threads) (sym gone.ready)
            (entries-other w k.threads j.threads k.ready (waits-unready n w k h waiting) (λ x ne. gone.others x ne) h.line.0, h.line.1)

        fits : (x : ℕ) → HasFit after x
        fits x = by (cases_eq x w)
          where
            by : (x ≡ w) ⊎ (x ≢ w) → HasFit after x
            by (inl same) =
                subst (λ z. HasFit after z) (sym same)
                (fits-spot moved after w (entered.still.spots w)
                (moves-fit w item j (omega (arith, known k w item h e, gone.many)) at-item (fits-spot k j w gone.own (h.fits w))))
            by (inr other) = subst (λ (s : Thread). Fits x s.place.item s.place.priority) (sym (others x other)) (h.fits x)

        alive-after : (x : ℕ) → 1 ≤ places x after → is_done (thread_of after x).standing ≡ false
        alive-after x l = by (cases_eq x w)
          where
            by : (x ≡ w) ⊎ (x ≢ w) → is_done (thread_of after x).standing ≡ false
            by (inl same) =
                subst (λ z. is_done (thread_of after z).standing ≡ false) (sym same)
                (ap (λ (s : Bool × ℕ × ℕ). s.0) (entered.still.spots w) ∙ moves-done w (turns.move_of system w j) j ∙ alive-there)
            by (inr other) = ap (λ (s : Thread). is_done s.standing) (others x other) ∙ h.alive x (omega (arith, fewer x, l))

        waits : (m x : ℕ) → 1 ≤ times_queued x (note_of after m).waiters → Awaits (slice_get (script x) (thread_of after x).place.item) m
        waits m x l = by (cases_eq x w)
          where
            by : (x ≡ w) ⊎ (x ≢ w) → Awaits (slice_get (script x) (thread_of after x).place.item) m
            by (inl same) =
                let twice : 1 ≤ times_queued w (note_of after m).waiters = subst (λ z. 1 ≤ times_queued z (note_of after m).waiters) same l in
                absurd (omega (arith, twice, times_waiting-at w m after.notes, entered.queued, fewer w, h.one w))
            by (inr other) =
                let there : 1 ≤ times_queued x (get_or (set k.notes n left) m quiet_note).waiters = subst (λ (ns : List Note). 1 ≤ times_queued x (get_or ns m quiet_note).waiters) notes-are l in
                let less = waiters-set x k.notes n m left (omega (arith, times_queued-without x w (note_of k n).waiters waiting)) in
                subst (λ (s : Thread). Awaits (slice_get (script x) s.place.item) m) (sym (others x other)) (h.waits m x (omega (arith, there, less)))

    -- a note on which no more threads wait, and that is not the server
    noted-kept : (n : ℕ) (note : Note) (k : Core) → ((x : ℕ) → times_queued x note.waiters ≤ times_queued x (note_of k n).waiters) → Kept k → Kept (with_note n note k)
    noted-kept n note k fewer h =
        record {
          waits = λ m x l. h.waits m x (omega (arith, l, waiters-set x k.notes n m note (fewer x)));
          one = λ x. omega (arith, h.one x, set-waiting x k.notes n note, fewer x);
          alive = λ x l. h.alive x (omega (arith, l, set-waiting x k.notes n note, fewer x));
          there = omega (arith, h.there, length-set k.notes n note);
          many = h.many;
          line = h.line;
          fits = h.fits;
        }

    other-note : (n : ℕ) (note : Note) (k : Core) → n ≢ server → note_of (with_note n note k) server ≡ note_of k server
    other-note n note k ne = get_or-set_other k.notes n server note quiet_note (λ e. ne (sym e))

    own-note : (n : ℕ) (note : Note) (k : Core) → Kept k → n ≡ server → note_of (with_note n note k) server ≡ note
    own-note n note k h e =
        subst (λ m. get_or (set k.notes m note) server quiet_note ≡ note) (sym e) (get_or-set_same k.notes server note quiet_note h.there)

    noted-good : (n : ℕ) (note : Note) (k : Core) → ((x : ℕ) → times_queued x note.waiters ≤ times_queued x (note_of k n).waiters) → n ≢ server → Good k → Good (with_note n note k)
    noted-good n note k fewer ne g =
        record {
          kept = noted-kept n note k fewer g.kept;
          holder = g.holder;
          held = record { word = ap (λ (m : Note). m.word) (other-note n note k ne) ∙ g.held.word; inside = g.held.inside };
        }

    -- notifications are no servers
    no-server : (n : ℕ) → is_server system n ≡ false → n ≢ server
    no-server n f e = let g : true ≡ false = sym is ∙ ap (is_server system) (sym e) ∙ f in absurd (cc)

    -- what a post does: it also leaves each thread that does not wait
    record Post (k after : Core) : Type 0 where
      good : Good after
      others : (x : ℕ) → times_waiting x k.notes ≡ 0 → thread_of after x ≡ thread_of k x

    wakes-gone : (w word n : ℕ) (k : Core) → Gone w n k (turns.given system t w word (turns.with_woken_context system t w (with_note n (after_post (Woke w word) (note_of k n)) k)))
    wakes-gone w word n k =
        record {
          others = λ x ne. thread-other w x _ k ne;
          own = view-set (λ (s : Thread). let pair : Bool × ℕ × ℕ = (is_done s.standing, s.place.item, s.place.priority) in pair) k.threads w w _ refl;
          notes = refl;
          ready = refl;
          many = length-set k.threads w _;
        }

    posts_as-good : (n badge : ℕ) (post : Posted) (k : Core) → posted badge (note_of k n) ≡ post → is_server system n ≡ false → Good k
        → Post k (turns.posts_as by_priority system t n post k).core
    posts_as-good n badge (Woke w word) k e signalled g =
        record {
          good = record {
            kept = r.kept;
            holder = g.holder;
            held = record { word = ap (λ (ns : List Note). (get_or ns server quiet_note).word) r.notes ∙ ap (λ (m : Note). m.word) (other-note n _ k (no-server n signalled)) ∙ g.held.word; inside = inside-after };
          };
          others = λ x none. r.others x (λ same. omega (arith, waiting, times_waiting-at w n k.notes, none, ap (λ z. times_waiting z k.notes) same));
        }
      where
        waiting : 1 ≤ times_queued w (note_of k n).waiters
        waiting = woke w word badge (note_of k n).word (note_of k n).waiters e

        at-wait : slice_get (script w) (thread_of k w).place.item ≡ Some (Wait n)
        at-wait =
            waits-at (slice_get (script w) (thread_of k w).place.item) n
            (λ priority f. let g : true ≡ false = sym (item-is system well w (thread_of k w).place.item (Enter n priority) f).2 ∙ signalled in absurd (cc))
            (g.kept.waits n w waiting)

        j : Core
        j = turns.given system t w word (turns.with_woken_context system t w (with_note n (after_post (Woke w word) (note_of k n)) k))

        gone : Gone w n k j
        gone = wakes-gone w word n k

        next : turns.move_of system w j ≡ Next
        next = wait-goes (script w) (thread_part system w).rounds n (thread_of j w).place (ap (λ (s : Bool × ℕ × ℕ). slice_get (script w) s.1) gone.own ∙ at-wait)

        moved : Core
        moved = (turns.moves_on system t w j).core

        alive : is_done (thread_of moved w).standing ≡ false
        alive = moves-done w (turns.move_of system w j) j ∙ ap (λ (s : Bool × ℕ × ℕ). s.0) gone.own ∙ g.kept.alive w (waits-place n w k waiting)

        after : Core
        after = (turns.posts_as by_priority system t n (Woke w word) k).core

        r : Resumed w n (Wait n) k after
        r = resumed w n (Wait n) k j after g.kept waiting at-wait gone next (back-entered w (turns.date_of system t w moved) moved alive)
            (λ x. subst (λ (p : Posted). places x (turns.posts_as by_priority system t n p k).core ≤ places x k) e (posts-held system t x n badge k))

        inside-after : (x : ℕ) → now after x ≡ has g.holder x
        inside-after x = by (cases_eq x w)
          where
            by : (x ≡ w) ⊎ (x ≢ w) → now after x ≡ has g.holder x
            by (inl same) = subst (λ z. now after z ≡ has g.holder z) (sym same) (r.own ∙ sym r.was ∙ g.held.inside w)
            by (inr other) = ap (is_inside system server x) (r.others x other) ∙ g.held.inside x
    posts_as-good n badge (Held word) k e signalled g =
        record {
          good = noted-good n (after_post (Held word) (note_of k n)) k (λ x. omega arith) (no-server n signalled) g;
          others = λ x none. refl;
        }

    posts-good : (n badge : ℕ) (k : Core) → is_server system n ≡ false → Good k → Post k (turns.posts by_priority system t n badge k).core
    posts-good n badge k signalled g = posts_as-good n badge (posted badge (note_of k n)) k refl signalled g

    -- who waits for a server that is left is let in
    frees_gone : (w word n : ℕ) (k : Core) → Gone w n k (turns.with_woken_context system t w (with_note n (after_post (Woke w word) (note_of k n)) k))
    frees_gone w word n k = record { others = λ x ne. refl; own = refl; notes = refl; many = refl; ready = refl }

    -- after it the thread that left it is in it no more
    record Freed (y using n priority : ℕ) (k after : Core) : Type 0 where
      before : Before y using (Leave n priority) after
      same : thread_of after y ≡ thread_of k y

    in-first : (n m : ℕ) (others : List ℕ) → n ≡ m → is_in m (n ∷ others) ≡ true
    in-first n m others e = ap (λ b. b || is_in m others) (subst (λ z. (n == z) ≡ true) e (itself n))

    in-others : (n m : ℕ) (others : List ℕ) → n ≢ m → is_in m (n ∷ others) ≡ is_in m others
    in-others n m others h = ap (λ b. b || is_in m others) (apart n m h)

    holds : (holder : Option ℕ) (y : ℕ) → has holder y ≡ true → holder ≡ Some y
    holds None y e = absurd (cc)
    holds (Some z) y e = ap Some (equal z y e)

    last-of : (n : ℕ) (servers : List ℕ) → last_is n servers ≡ true → servers ≡ n ∷ without_last servers
    last-of n [] e = absurd (cc)
    last-of n (last ∷ others) e = ap (λ m. m ∷ others) (equal last n e)

    -- the server, when the thread y that runs leaves n
    module _ (y using n priority : ℕ) (k : Core) (g : Good k) (runs : k.running ≡ Some (record { thread = y; using = using }))
        (at-item : slice_get (script y) (thread_of k y).place.item ≡ Some (Leave n priority)) where
      stack : List ℕ
      stack = inside (thread_of k y).place.item (script y)

      stack-is : stack ≡ n ∷ without_last stack
      unfolding stack
      stack-is = last-of n (inside (thread_of k y).place.item (script y)) (may-stand (script y) (nested y) (Leave n priority) (thread_of k y).place.item at-item)

      alive : is_done (thread_of k y).standing ≡ false
      alive = g.kept.alive y (runs-place system t y using k runs)

      was-in : now k y ≡ is_in server (n ∷ without_last stack)
      unfolding stack
      was-in = now-at k y alive ∙ ap (is_in server) stack-is

      -- it is the one that has it
      had : n ≡ server → g.holder ≡ Some y
      had e = holds g.holder y (sym (g.held.inside y) ∙ was-in ∙ in-first n server (without_last stack) e)

      not-again : n ≡ server → is_in server (without_last stack) ≡ false
      unfolding stack
      not-again e =
          let d : AreDistinct (n ∷ without_last (inside (thread_of k y).place.item (script y))) =
          subst AreDistinct stack-is (are-distinct (script y) (nested y) (Leave n priority) (thread_of k y).place.item) in
          subst (λ m. is_in m (without_last (inside (thread_of k y).place.item (script y))) ≡ false) e d.0

      still-in : n ≢ server → has g.holder y ≡ is_in server (without_last stack)
      still-in ne = sym (g.held.inside y) ∙ was-in ∙ in-others n server (without_last stack) ne

      -- all that is left to say of the core after it
      freed : (holder : Option ℕ) (after : Core) → Kept after → HeldBut y holder after → has holder y ≡ is_in server (without_last stack)
          → thread_of after y ≡ thread_of k y → after.running ≡ k.running → Freed y using n priority k after
      unfolding stack
      freed holder after h but own same runs-too =
          record {
            before = record {
              kept = h;
              holder = holder;
              but = but;
              at_item = subst (λ (s : Thread). slice_get (script y) s.place.item ≡ Some (Leave n priority)) (sym same) at-item;
              own = own ∙ ap (λ (s : Thread). is_in server (without_last (inside s.place.item (script y)))) (sym same);
              runs = runs-too ∙ runs;
            };
            same = same;
          }

      -- nobody waits for it
      held-freed : (word : ℕ) → posted 1 (note_of k n) ≡ Held word → Freed y using n priority k (turns.frees_as by_priority system t n (Held word) k).core
      held-freed word e = by (cases_eq n server)
        where
          left : Note
          left = record { word = word; waiters = (note_of k n).waiters }

          word-is : (note : Note) → posted 1 note ≡ Held word → word ≡ bit_or note.word 1
          word-is note f = one note.word note.waiters f
            where
              one : (w : ℕ) (waiters : List Queued) → posted 1 (record { word = w; waiters = waiters }) ≡ Held word → word ≡ bit_or w 1
              one w [] f = cc
              one w (first ∷ others) f = absurd (cc)

          kept : Kept (with_note n left k)
          kept = noted-kept n left k (λ x. omega arith) g.kept

          by : (n ≡ server) ⊎ (n ≢ server) → Freed y using n priority k (with_note n left k)
          by (inl same) =
              let zero-word : (note_of k n).word ≡ 0 = ap (λ m. (note_of k m).word) same ∙ g.held.word ∙ ap word_of (had same) in
              freed None (with_note n left k) kept
              record {
                word = ap (λ (m : Note). m.word) (own-note n left k g.kept same) ∙ word-is (note_of k n) e ∙ ap (λ w. bit_or w 1) zero-word;
                others = λ x ne. g.held.inside x ∙ ap (λ h. has h x) (had same) ∙ apart y x (λ f. ne (sym f));
              }
              (sym (not-again same)) refl refl
          by (inr other) =
              freed g.holder (with_note n left k) kept
              record { word = ap (λ (m : Note). m.word) (other-note n left k other) ∙ g.held.word; others = λ x ne. g.held.inside x }
              (still-in other) refl refl

      -- a thread waits for it, and is let in
      woke-freed : (w word : ℕ) → posted 1 (note_of k n) ≡ Woke w word → is_server system n ≡ true → Freed y using n priority k (turns.frees_as by_priority system t n (Woke w word) k).core
      woke-freed w word e served = by (cases_eq n server)
        where
          waiting : 1 ≤ times_queued w (note_of k n).waiters
          waiting = woke w word 1 (note_of k n).word (note_of k n).waiters e

          at-enter : (p : ℕ) × (slice_get (script w) (thread_of k w).place.item ≡ Some (Enter n p))
          at-enter =
              enters-at (slice_get (script w) (thread_of k w).place.item) n
              (λ f. let g : true ≡ false = sym served ∙ (item-is system well w (thread_of k w).place.item (Wait n) f).2 in absurd (cc))
              (g.kept.waits n w waiting)

          j : Core
          j = turns.with_woken_context system t w (with_note n (after_post (Woke w word) (note_of k n)) k)

          moved : Core
          moved = (turns.moves_on system t w j).core

          alive-there : is_done (thread_of moved w).standing ≡ false
          alive-there = moves-done w (turns.move_of system w j) j ∙ g.kept.alive w (waits-place n w k waiting)

          after : Core
          after = (turns.frees_as by_priority system t n (Woke w word) k).core

          r : Resumed w n (Enter n at-enter.0) k after
          r = resumed w n (Enter n at-enter.0) k j after g.kept waiting at-enter.1 (frees_gone w word n k)
              (enter-goes (script w) (nested w) (thread_part system w).rounds n at-enter.0 (thread_of k w).place at-enter.1)
              (front-entered w (turns.date_of system t w moved) moved alive-there)
              (λ x. subst (λ (p : Posted). places x (turns.frees_as by_priority system t n p k).core ≤ places x k) e (frees-held system t x y n k))

          differs : y ≢ w
          differs same = omega (arith, waiting, times_waiting-at w n k.notes, runs-alone y using k g.kept runs, ap (λ z. times_waiting z k.notes) same)

          runs-too : after.running ≡ k.running
          runs-too = subst (λ (p : Posted). (turns.frees_as by_priority system t n p k).core.running ≡ k.running) e (frees-running system t y y n k)

          left : Note
          left = record { word = (note_of k n).word; waiters = without w (note_of k n).waiters }

          word-after : (note_of after server).word ≡ (get_or (set k.notes n left) server quiet_note).word
          word-after = ap (λ (ns : List Note). (get_or ns server quiet_note).word) r.notes

          by : (n ≡ server) ⊎ (n ≢ server) → Freed y using n priority k after
          by (inl same) =
              freed (Some w) after r.kept
              record {
                word = word-after ∙ ap (λ (m : Note). m.word) (own-note n left k g.kept same) ∙ ap (λ m. (note_of k m).word) same ∙ g.held.word ∙ ap word_of (had same);
                others = others;
              }
              (apart w y (λ f. differs (sym f)) ∙ sym (not-again same)) (r.others y differs) runs-too
            where
              others : (x : ℕ) → x ≢ y → now after x ≡ (w == x)
              others x ne = one (cases_eq x w)
                where
                  one : (x ≡ w) ⊎ (x ≢ w) → now after x ≡ (w == x)
                  one (inl f) = subst (λ z. now after z ≡ (w == z)) (sym f) (r.own ∙ in-first n server (inside (thread_of k w).place.item (script w)) same ∙ sym (itself w))
                  one (inr f) =
                      ap (is_inside system server x) (r.others x f) ∙ g.held.inside x ∙ ap (λ h. has h x) (had same) ∙ apart y x (λ q. ne (sym q)) ∙ sym (apart w x (λ q. f (sym q)))
          by (inr other) =
              freed g.holder after r.kept
              record { word = word-after ∙ ap (λ (m : Note). m.word) (other-note n left k other) ∙ g.held.word; others = others }
              (still-in other) (r.others y differs) runs-too
            where
              others : (x : ℕ) → x ≢ y → now after x ≡ has g.holder x
              others x ne = one (cases_eq x w)
                where
                  one : (x ≡ w) ⊎ (x ≢ w) → now after x ≡ has g.holder x
                  one (inl f) =
                      subst (λ z. now after z ≡ has g.holder z) (sym f)
                      (r.own ∙ in-others n server (inside (thread_of k w).place.item (script w)) other ∙ sym r.was ∙ g.held.inside w)
                  one (inr f) = ap (is_inside system server x) (r.others x f) ∙ g.held.inside x

      frees-freed : is_server system n ≡ true → Freed y using n priority k (turns.frees by_priority system t y n k).core
      frees-freed served = by (posted 1 (note_of k n)) refl
        where
          by : (post : Posted) → posted 1 (note_of k n) ≡ post → Freed y using n priority k (turns.frees_as by_priority system t n post k).core
          by (Woke w word) e = woke-freed w word e served
          by (Held word) e = held-freed word e

    -- the thread that runs finishes its item
    module _ (y using : ℕ) (k : Core) (g : Good k) (runs : k.running ≡ Some (record { thread = y; using = using })) where
      abbrev its : Core → ℕ
      its core = (thread_of core y).place.item

      running-alive : is_done (thread_of k y).standing ≡ false
      running-alive = g.kept.alive y (runs-place system t y using k runs)

      -- an item that changes no server
      before-same : (item : Item) (after : Core) → (good : Good after) → thread_of after y ≡ thread_of k y → after.running ≡ k.running
          → slice_get (script y) (its k) ≡ Some item → is_in server (inside_after item (inside (its k) (script y))) ≡ at y (its k) → Before y using item after
      before-same item after good same runs-too e stays =
          record {
            kept = good.kept;
            holder = good.holder;
            but = record { word = good.held.word; others = λ x ne. good.held.inside x };
            at_item = subst (λ (s : Thread). slice_get (script y) s.place.item ≡ Some item) (sym same) e;
            own =
                sym (good.held.inside y) ∙ ap (is_inside system server y) same ∙ now-at k y running-alive ∙ sym stays
                ∙ ap (λ (s : Thread). is_in server (inside_after item (inside s.place.item (script y)))) (sym same);
            runs = runs-too ∙ runs;
          }

      same-move : (after : Core) → thread_of after y ≡ thread_of k y → turns.move_of system y after ≡ turns.move_of system y k
      same-move after same = ap (λ (s : Thread). move_after (script y) (thread_part system y).rounds s.place) same

      not-waiting : times_waiting y k.notes ≡ 0
      not-waiting = runs-alone y using k g.kept runs

      plain-good : (item : Item) (cause : AfterItem) → DoesStay system t cause → slice_get (script y) (its k) ≡ Some item
          → is_in server (inside_after item (inside (its k) (script y))) ≡ at y (its k)
          → Good (turns.may_stop by_priority system t y using (turns.after_move (turns.move_of system y k) cause) (turns.moves_on system t y k).core).core
      plain-good item cause stay e stays = finished y using item k cause stay (before-same item k g refl refl e stays)

      -- a thread that waits stops
      blocked-good : (n : ℕ) (cause : Why) → Awaits (slice_get (script y) (its k)) n
          → Good (turns.stops system y cause using Blocked (with_note n (after_wait Blocks (turns.queued y k) (note_of k n)) k)).core
      blocked-good n cause awaits =
          record {
            kept = record {
              waits = λ m x l. subst (λ i. Awaits (slice_get (script x) i) m) (sym (ap (λ (s : Bool × ℕ × ℕ). s.1) (spots x))) (waits m x l);
              one = λ x. omega (arith, fewer x, g.kept.one x);
              alive = λ x l. ap (λ (s : Bool × ℕ × ℕ). s.0) (spots x) ∙ g.kept.alive x (omega (arith, fewer x, l));
              there = omega (arith, g.kept.there, length-set k.notes n note);
              many = length-set k.threads y _ ∙ g.kept.many;
              line = (stands-still y Blocked k (sym running-alive)).line g.kept.line;
              fits = λ x. fits-spot k after x (spots x) (g.kept.fits x);
            };
            holder = g.holder;
            held = record { word = word-same ∙ g.held.word; inside = λ x. now-spot k after x (spots x) ∙ g.held.inside x };
          }
        where
          note : Note
          note = record { word = (note_of k n).word; waiters = (note_of k n).waiters ++ turns.queued y k ∷ [] }

          after : Core
          after = (turns.stops system y cause using Blocked (with_note n (after_wait Blocks (turns.queued y k) (note_of k n)) k)).core

          spots : (x : ℕ) → spot after x ≡ spot k x
          spots = (stands-still y Blocked k (sym running-alive)).spots

          fewer : (x : ℕ) → places x after ≤ places x k
          fewer x = omega (arith, off-places x y using k runs, set-waiting x k.notes n note, times_queued-append x (note_of k n).waiters (turns.queued y k))

          word-same : (note_of after server).word ≡ (note_of k server).word
          word-same = by (cases_eq n server)
            where
              by : (n ≡ server) ⊎ (n ≢ server) → (note_of after server).word ≡ (note_of k server).word
              by (inl same) = ap (λ (m : Note). m.word) (own-note n note k g.kept same) ∙ ap (λ m. (note_of k m).word) same
              by (inr other) = ap (λ (m : Note). m.word) (other-note n note k other)

          waits : (m x : ℕ) → 1 ≤ times_queued x (note_of after m).waiters → Awaits (slice_get (script x) (thread_of k x).place.item) m
          waits m x l = by (cases_eq x y) (cases_eq m n)
            where
              by : (x ≡ y) ⊎ (x ≢ y) → (m ≡ n) ⊎ (m ≢ n) → Awaits (slice_get (script x) (thread_of k x).place.item) m
              by (inl same) (inl this) =
                  subst (λ z. Awaits (slice_get (script z) (thread_of k z).place.item) m) (sym same) (subst (Awaits (slice_get (script y) (its k))) (sym this) awaits)
              by (inl same) (inr other) =
                  let l2 : 1 ≤ times_queued x (note_of k m).waiters =
                  subst (λ (z : Note). 1 ≤ times_queued x z.waiters) (get_or-set_other k.notes n m note quiet_note other) l in
                  absurd (omega (arith, l2, times_waiting-at x m k.notes, not-waiting, ap (λ z. times_waiting z k.notes) same))
              by (inr ne) c =
                  let none : one_if_same y x ≡ 0 = ap (λ b. cond b 1 0) (apart y x (λ f. ne (sym f))) in
                  g.kept.waits m x (omega (arith, l, waiters-set x k.notes n m note (omega (arith, times_queued-append x (note_of k n).waiters (turns.queued y k), none))))

      -- a wait
      wait-good : (n : ℕ) (w : Waited) → waited (note_of k n) ≡ w → is_server system n ≡ false → slice_get (script y) (its k) ≡ Some (Wait n)
          → Good (turns.may_stop by_priority system t y using (turns.after_waited w) (turns.waits_as system t y n w k).core).core
      wait-good n (Got word) e signalled at-item =
          let noted = with_note n (after_wait (Got word) (turns.queued y k) (note_of k n)) k in
          let k1 = turns.given system t y word noted in
          let first = noted-good n (after_wait (Got word) (turns.queued y k) (note_of k n)) k (λ x. omega arith) (no-server n signalled) g in
          let item-same : its k1 ≡ its k = view-set (λ (s : Thread). s.place.item) k.threads y y _ refl in
          let good = calm-good noted k1
          record {
            still = record { notes = refl; many = length-set k.threads y _; spots = λ x. view-set (λ (s : Thread). let pair : Bool × ℕ × ℕ = (is_done s.standing, s.place.item, s.place.priority) in pair) k.threads y x _ refl; line = λ l. (entries-same k.threads k1.threads k.ready (λ x. view-set (λ (s : Thread). s.place.priority) k.threads y x _ refl) l.0, l.1) };
            fewer = λ x. omega arith;
          } first
          in
          let at-one : slice_get (script y) (its k1) ≡ Some (Wait n) = ap (slice_get (script y)) item-same ∙ at-item in
          let alive : is_done (thread_of k1 y).standing ≡ false = view-set (λ (s : Thread). is_done s.standing) k.threads y y _ refl ∙ running-alive in
          let before : Before y using (Wait n) k1 = record {
            kept = good.kept;
            holder = good.holder;
            but = record { word = good.held.word; others = λ x ne. good.held.inside x };
            at_item = at-one;
            own = sym (good.held.inside y) ∙ now-at k1 y alive;
            runs = runs;
          } in
          subst (λ m. Good (turns.may_stop by_priority system t y using (turns.after_move m after.GoesOn) (turns.moves_on system t y k1).core).core)
          (wait-goes (script y) (thread_part system y).rounds n (thread_of k1 y).place at-one)
          (finished y using (Wait n) k1 after.GoesOn tt before)
      wait-good n Blocks e signalled at-item = blocked-good n why.Wait (subst (λ o. Awaits o n) (sym at-item) refl)

      -- the entering of a server
      enter-good : (n priority : ℕ) (w : Waited) → waited (note_of k n) ≡ w → slice_get (script y) (its k) ≡ Some (Enter n priority)
          → Good (turns.may_stop by_priority system t y using (turns.after_entered w) (turns.enters_as system t y n w k).core).core
      enter-good n priority (Got word) e at-item =
          subst (λ m. Good (turns.may_stop by_priority system t y using (turns.after_move m after.GoesOn) (turns.moves_on system t y taken).core).core)
          (enter-goes (script y) (nested y) (thread_part system y).rounds n priority (thread_of k y).place at-item)
          (finished y using (Enter n priority) taken after.GoesOn tt (by (cases_eq n server)))
        where
          empty : Note
          empty = after_wait (Got word) (turns.queued y k) (note_of k n)

          taken : Core
          taken = with_note n empty k

          kept : Kept taken
          kept = noted-kept n empty k (λ x. omega arith) g.kept

          some-word : (note_of k n).word ≢ 0
          some-word none = one (note_of k n).word none e
            where
              one : (w : ℕ) → w ≡ 0 → cond (w == 0) Blocks (Got w) ≡ Got word → ⊥
              one w f q = let r : Blocks ≡ Got word = rw (ap (λ b. cond b Blocks (Got w)) (subst (λ z. (z == 0) ≡ true) (sym f) refl)) at q in absurd (cc)

          nobody : (h : Option ℕ) → g.holder ≡ h → n ≡ server → h ≡ None
          nobody None f same = refl
          nobody (Some z) f same = absurd (some-word (ap (λ m. (note_of k m).word) same ∙ g.held.word ∙ ap word_of f))

          by : (n ≡ server) ⊎ (n ≢ server) → Before y using (Enter n priority) taken
          by (inl same) =
              let none = nobody g.holder refl same in
              record {
                kept = kept;
                holder = Some y;
                but = record {
                  word = ap (λ (m : Note). m.word) (own-note n empty k g.kept same);
                  others = λ x ne. g.held.inside x ∙ ap (λ h. has h x) none ∙ sym (apart y x (λ f. ne (sym f)));
                };
                at_item = at-item;
                own = itself y ∙ sym (in-first n server (inside (its k) (script y)) same);
                runs = runs;
              }
          by (inr other) =
              record {
                kept = kept;
                holder = g.holder;
                but = record { word = ap (λ (m : Note). m.word) (other-note n empty k other) ∙ g.held.word; others = λ x ne. g.held.inside x };
                at_item = at-item;
                own = sym (g.held.inside y) ∙ now-at k y running-alive ∙ sym (in-others n server (inside (its k) (script y)) other);
                runs = runs;
              }
      enter-good n priority Blocks e at-item = blocked-good n why.Call (subst (λ o. Awaits o n) (sym at-item) refl)

      -- each item
      finishes-good : (c : ℕ) (o : Option Item) → slice_get (script y) (its k) ≡ o → Good (turns.finishes by_priority system c t y using o k).core
      finishes-good c (Some (Signal note badge)) e =
          subst (λ m. Good (turns.may_stop by_priority system t y using (turns.after_move m after.GoesOn) (turns.moves_on system t y sent).core).core) (same-move sent post-same)
          (finished y using (Signal note badge) sent after.GoesOn tt (before-same (Signal note badge) sent post.good post-same (signals-running system c t y y note badge k) e refl))
        where
          sent : Core
          sent = (turns.signals by_priority system c t y note badge k).core

          post : Post k sent
          post = by ((note_part system note).core == c)
            where
              by : (b : Bool) → Post k (cond b (turns.posts by_priority system t note badge k) (record { core = k; rows = []; mails = turns.mail_to system c t note badge ∷ [] })).core
              by true = posts-good note badge k (item-is system well y (its k) (Signal note badge) e).1 g
              by false = record { good = g; others = λ x none. refl }

          post-same : thread_of sent y ≡ thread_of k y
          post-same = post.others y not-waiting
      finishes-good c (Some (Wait note)) e = wait-good note (waited (note_of k note)) refl (item-is system well y (its k) (Wait note) e).2 e
      finishes-good c (Some (Compute ticks)) e = plain-good (Compute ticks) after.GoesOn tt e refl
      finishes-good c (Some Yield) e = plain-good Yield after.Yields tt e refl
      finishes-good c (Some (On badges)) e = plain-good (On badges) after.GoesOn tt e refl
      finishes-good c (Some Spin) e = plain-good Spin after.GoesOn tt e refl
      finishes-good c (Some (Enter n priority)) e = enter-good n priority (waited (note_of k n)) refl e
      finishes-good c (Some (Leave n priority)) e =
          let left = (turns.frees by_priority system t y n k).core in
          let f = frees-freed y using n priority k g runs e (item-is system well y (its k) (Leave n priority) e).2 in
          subst (λ m. Good (turns.may_stop by_priority system t y using (turns.after_move m after.GoesOn) (turns.moves_on system t y left).core).core) (same-move left f.same)
          (finished y using (Leave n priority) left after.GoesOn tt f.before)
      finishes-good c None e = calm-good k (turns.may_stop by_priority system t y using after.GoesOn k).core (may_stop-calm system t y using after.GoesOn k tt runs running-alive) g

    -- the end of the tick
    tick-good : (c : ℕ) (o : Option Chosen) (k : Core) → k.running ≡ o → Good k → Good (turns.tick_of by_priority system c t o k).core
    tick-good c None k e g = g
    tick-good c (Some chosen) k e g = by ((thread_of counted chosen.thread).place.left == 0)
      where
        counted : Core
        counted = turns.counts chosen k

        using : ℕ
        using = chosen.using + 1

        good : Good counted
        good =
            calm-good k counted
            record {
              still = record { notes = refl; many = length-set k.threads chosen.thread _; spots = λ x. view-set (λ (s : Thread). let pair : Bool × ℕ × ℕ = (is_done s.standing, s.place.item, s.place.priority) in pair) k.threads chosen.thread x _ refl; line = λ l. (entries-same k.threads counted.threads k.ready (λ x. view-set (λ (s : Thread). s.place.priority) k.threads chosen.thread x _ refl) l.0, l.1) };
              fewer = λ x. omega (arith, ap (times_running x) e);
            } g

        by : (b : Bool) → Good
            (cond b (turns.finishes by_priority system c t chosen.thread (chosen.using + 1) (turns.item_of system chosen.thread counted) counted)
            (turns.may_stop by_priority system t chosen.thread (chosen.using + 1) after.GoesOn counted)).core
        by true = finishes-good chosen.thread (chosen.using + 1) counted good refl c (turns.item_of system chosen.thread counted) refl
        by false =
            calm-good counted (turns.may_stop by_priority system t chosen.thread (chosen.using + 1) after.GoesOn counted).core
            (may_stop-calm system t chosen.thread (chosen.using + 1) after.GoesOn counted tt refl
            (good.kept.alive chosen.thread (runs-place system t chosen.thread (chosen.using + 1) counted refl))) good

    -- a whole turn, with signals and interrupts for notifications
    interrupts-good : (alarms : List Alarm) (k : Core) → AllByRecursion (λ (alarm : Alarm). is_server system alarm.note ≡ false) alarms → Good k
        → Good (each (turns.interrupts by_priority system t) alarms k).core
    interrupts-good [] k all g = g
    interrupts-good (alarm ∷ alarms) k all g =
        interrupts-good alarms (turns.interrupts by_priority system t alarm k).core all.1 (posts-good alarm.note alarm.badge k all.0 g).good

    arrives-good : (mails : List Mail) (k : Core) → AllByRecursion (λ (mail : Mail). is_server system mail.note ≡ false) mails → Good k
        → Good (each (turns.arrives by_priority system t) mails k).core
    arrives-good [] k all g = g
    arrives-good (mail ∷ mails) k all g =
        arrives-good mails (turns.arrives by_priority system t mail k).core all.1 (posts-good mail.note mail.badge k all.0 g).good

    obeys-good : (orders : List Order) (k : Core) → Good k → Good (each (turns.obeys by_priority system t) orders k).core
    obeys-good [] k g = g
    obeys-good (order ∷ orders) k g =
        obeys-good orders (turns.obeys by_priority system t order k).core (calm-good k (turns.obeys by_priority system t order k).core (obeys-calm system t order k g.kept.alive) g)

    -- the parts up to the releases, before the choice
    abbrev pub before_choice : ℕ → List Mail → Core → Core
    before_choice c mails k =
        (turns.tick by_priority system c t k
        followed_by each (turns.interrupts by_priority system t) (ringing t (alarms_at system c t))
        followed_by each (turns.arrives by_priority system t) mails
        followed_by each (turns.obeys by_priority system t) (filter (is_for_now system c t) system.orders)
        followed_by turns.releases by_priority system t).core

    choice-good : (c : ℕ) (mails : List Mail) (k : Core) → AllByRecursion (λ (alarm : Alarm). is_server system alarm.note ≡ false) (ringing t (alarms_at system c t))
        → AllByRecursion (λ (mail : Mail). is_server system mail.note ≡ false) mails → Good k → Good (before_choice c mails k)
    choice-good c mails k heard signalled g =
        let first = turns.tick by_priority system c t k in
        let rang = each (turns.interrupts by_priority system t) (ringing t (alarms_at system c t)) first.core in
        let came = each (turns.arrives by_priority system t) mails rang.core in
        let obeyed = each (turns.obeys by_priority system t) (filter (is_for_now system c t) system.orders) came.core in
        let freed = turns.releases by_priority system t obeyed.core in
        let good4 = obeys-good (filter (is_for_now system c t) system.orders) came.core
        (arrives-good mails rang.core signalled (interrupts-good (ringing t (alarms_at system c t)) first.core heard (tick-good c k.running k refl g)))
        in
        calm-good obeyed.core freed.core (releases-calm system t obeyed.core good4.kept.alive) good4

    pub turn-good : (c : ℕ) (mails : List Mail) (k : Core) → AllByRecursion (λ (alarm : Alarm). is_server system alarm.note ≡ false) (ringing t (alarms_at system c t))
        → AllByRecursion (λ (mail : Mail). is_server system mail.note ≡ false) mails → Good k → Good (turns.turn_with by_priority system c t mails k).core
    turn-good c mails k heard signalled g =
        let freed = before_choice c mails k in
        let gave = turns.preempts by_priority system t freed in
        let good5 = choice-good c mails k heard signalled g in
        let good6 = calm-good freed gave.core (preempts-calm system t freed good5.kept.alive) good5 in
        calm-good gave.core (turns.chooses by_priority system t gave.core).core (chooses-calm system t gave.core good6.kept.alive) good6

    -- and after it no ready thread is above the one that runs
    pub turn-top : (c : ℕ) (mails : List Mail) (k : Core) → AllByRecursion (λ (alarm : Alarm). is_server system alarm.note ≡ false) (ringing t (alarms_at system c t))
        → AllByRecursion (λ (mail : Mail). is_server system mail.note ≡ false) mails → Good k → IsTop system t (turns.turn_with by_priority system c t mails k).core
    turn-top c mails k heard signalled g =
        let freed = before_choice c mails k in
        let gave = turns.preempts by_priority system t freed in
        let good5 = choice-good c mails k heard signalled g in
        let good6 = calm-good freed gave.core (preempts-calm system t freed good5.kept.alive) good5 in
        chooses-top system t gave.core good6.kept.line (preempts-top system t freed good5.kept.line)
