-- Properties of the lines that each call keeps, and how callers see them.
use Rattle.std.proofs.Common.{◌≡◌, ℕ, zero, suc, ◌+◌, ◌-◌, ◌<◌, ◌≤◌, ◌==◌, if◌then◌else◌, false, List, [], ◌∷◌, ◌++◌, length, length-set, get_or, set, replicate, refl, sym, ap, subst, ◌∙◌, inl, inr, arith, get_or-set_same, get_or-set_other, ◌≢◌, bit_or}
use Rattle.std.proofs.lemmas.Bool.{cases_eq, cases_lt, eq-eqb, ne_eqb}
use Rattle.std.proofs.lemmas.List.{length-map, get_or-map, get_or_read, map-set}
use Rattle.mcs_ticks.specs.declared.queue.Queued.{Queued}
use Rattle.mcs_ticks.specs.Queue.{without}
use Rattle.mcs_notify.specs.declared.line.Line.{Line}
use Rattle.mcs_notify.specs.declared.line.Place.{Place}
use Rattle.mcs_notify.specs.declared.line.Waiter.{Waiter}
use Rattle.mcs_notify.specs.declared.notes.Kept.{Kept}
use Rattle.mcs_notify.specs.declared.posted.Posted.TheVariants.{Woke, Held}
use Rattle.mcs_notify.specs.declared.posted.Waited.TheVariants.{Blocks, Got}
use Rattle.mcs_notify.specs.Note.{Note, note_of, quiet_note, Notifications, with_note, is_waiting, after_post, after_wait, waited, posted}
use Rattle.mcs_notify.specs.stored.Lines.{IsKept, BestLeaves, place_of, waiters_from, waiters_of, note_at, notes_at, seen_as, nth, joined, with_back, before_back, without_waiter, unlinked, last_or, times, times_in, quiet}
use Rattle.mcs_notify.proofs.Lines.{length-waiters_from, nth-waits, last-waits, length-joined, not_zero, waiters_from-other, waiters-with_back, waiters-without, ends-without}
use Rattle.mcs_notify.proofs.Times.{times-append, times-cons_same, times-cons_other, times-without, times-le-times_in, times_in-set, times_in-free, length-le-room}

-- a thread that waits nowhere names another one
notes_at-other : (places : List Place) (y : ℕ) (place : Place) (kept : List Kept) → times_in y (notes_at kept places) ≡ 0 → notes_at kept (set places y place) ≡ notes_at kept places
notes_at-other places y place [] none = refl
notes_at-other places y place (k ∷ kept) none =
    let here = waiters_from-other places k.line.first k.line.len y place (omega arith) in
    let rest = notes_at-other places y place kept (omega arith) in
    cc

-- a thread that waits at most in this line names another one, and that line is changed
notes_at-set : (places : List Place) (y : ℕ) (place : Place) (kept : List Kept) (i : ℕ) (changed : Kept) → i < length kept →
    times_in y (notes_at kept places) ≡ times y (note_of (notes_at kept places) i).waiters →
    notes_at (set kept i changed) (set places y place) ≡ set (notes_at kept places) i (note_at (set places y place) changed)
notes_at-set places y place [] i changed h only = absurd (omega arith)
notes_at-set places y place (k ∷ kept) zero changed h only =
    ap (λ (ns : List Note). note_at (set places y place) changed ∷ ns) (notes_at-other places y place kept (omega arith))
notes_at-set places y place (k ∷ kept) (suc i) changed h only =
    let within = times-le-times_in y i (notes_at kept places) in
    let below : i < length kept = omega arith in
    let here = waiters_from-other places k.line.first k.line.len y place (omega arith) in
    let rest = notes_at-set places y place kept i changed below (omega arith) in
    cc

both : (ns ms : List Note) (a b : ℕ) → ns ≡ ms → a ≡ b →
    let one : Notifications = record { notes = ns; threads = a } in
    let other : Notifications = record { notes = ms; threads = b } in
    one ≡ other
both ns ms a b e f = cc

-- one line is changed: it has these waiters now, and ends with the last of them
changed-kept : {kept : List Kept} {places : List Place} → IsKept kept places → (new : List Place) (i : ℕ) (k : Kept) (waiters : List Queued) → i < length kept → length new ≡ length places →
    notes_at (set kept i k) new ≡ set (notes_at kept places) i (record { word = k.word; waiters = waiters }) → last_or k.line.last waiters ≡ k.line.last →
    ((x : ℕ) → times_in x (notes_at kept places) + times x waiters ≤ 1 + times x (note_of (notes_at kept places) i).waiters) →
    ((x : ℕ) → times x (note_of (notes_at kept places) i).waiters < times x waiters → x < length places) → IsKept (set kept i k) new
changed-kept {kept} {places} h new i k waiters within same now ends once below = record {
  ends = λ n. rw now (elim (cases_eq n i) [
    | inl e ↦ rw (e, get_or-set_same kept i k quiet within, get_or-set_same (notes_at kept places) i note quiet_note among) ends
    | inr ne ↦ rw (get_or-set_other kept i n k quiet ne, get_or-set_other (notes_at kept places) i n note quiet_note ne) (h.ends n)
  ]);
  once = λ x. rw now (omega (arith, times_in-set x i (notes_at kept places) note among, once x));
  below = λ x some. rw same (
      elim (cases_lt (times x (note_of (notes_at kept places) i).waiters) (times x waiters)) [
        | inl more ↦ below x more
        | inr less ↦ h.below x (let There : List Note → Type 0 = λ ns. 0 < times_in x ns in omega (arith, subst There now some, times_in-set x i (notes_at kept places) note among))
      ]
      );
}
  where
    note : Note
    note = record { word = k.word; waiters = waiters }

    among : i < length (notes_at kept places)
    among = omega (arith, within, length-map kept (note_at places))

-- notifications as they are kept and seen, and one that was read
pub record IsRead (kept : List Kept) (places : List Place) (all : Notifications) (note i : ℕ) (k : Kept) : Type 0 where
  pub is_kept : IsKept kept places
  pub view : seen_as kept places ≡ all
  pub index : i ≡ note
  pub within : note < length all.notes
  pub read : k ≡ get_or kept i k

module _ {kept : List Kept} {places : List Place} {all : Notifications} {note i : ℕ} {k : Kept} (r : IsRead kept places all note i k) where
  pub below : i < length kept
  below = omega (arith, r.index, r.within, ap (λ (n : Notifications). length n.notes) r.view, length-map kept (note_at places))

  here : note_of (notes_at kept places) i ≡ note_at places k
  here = get_or-map (note_at places) kept i quiet quiet_note below ∙ ap (note_at places) (sym (get_or_read kept i k below r.read quiet))

  pub seen : note_of all.notes note ≡ note_at places k
  seen = ap (λ (n : Notifications). note_of n.notes note) (sym r.view) ∙ ap (note_of (notes_at kept places)) (sym r.index) ∙ here

  ends-here : last_or k.line.last (waiters_of places k.line) ≡ k.line.last
  ends-here =
      let Ends : Kept → Note → Type 0 = λ k n. last_or k.line.last n.waiters ≡ k.line.last in
      let ends : Ends k (note_of (notes_at kept places) i) = subst (λ k. Ends k (note_of (notes_at kept places) i)) (sym (get_or_read kept i k below r.read quiet)) (r.is_kept.ends i) in
      subst (Ends k) here ends

  here-le : (x : ℕ) → times x (waiters_of places k.line) ≤ times_in x (notes_at kept places)
  here-le x = omega (arith, times-le-times_in x i (notes_at kept places), ap (λ (n : Note). times x n.waiters) here)

  once-here : (x : ℕ) → times x (waiters_of places k.line) ≤ 1
  once-here x = omega (arith, here-le x, r.is_kept.once x)

  -- a thread that waits here is one that there is, and waits nowhere else
  below-here : (x : ℕ) → 0 < times x (waiters_of places k.line) → x < length places
  below-here x some = r.is_kept.below x (omega (arith, here-le x))

  only-here : (x : ℕ) → 0 < times x (waiters_of places k.line) → times_in x (notes_at kept places) ≡ times x (note_of (notes_at kept places) i).waiters
  only-here x some = omega (arith, here-le x, r.is_kept.once x, ap (λ (n : Note). times x n.waiters) here)

  -- its waiters are at most as many as there are threads
  pub few : k.line.len ≤ length places
  few = omega (arith, length-waiters_from places k.line.first k.line.len, length-le-room (length places) (waiters_of places k.line) once-here below-here)

  -- one notification is written
  written : (new : List Place) (w : Kept) (n : Note) → length new ≡ length places → notes_at (set kept i w) new ≡ set (notes_at kept places) i n →
      seen_as (set kept i w) new ≡ with_note note n all
  written new w n e now =
      both _ _ _ _ (now ∙ ap (λ j. set (notes_at kept places) j n) r.index ∙ ap (λ (a : Notifications). set a.notes note n) r.view)
      (e ∙ ap (λ (a : Notifications). a.threads) r.view)

  -- the word is written, and the waiters stay
  word-now : (word : ℕ) → notes_at (set kept i (record { word = word; line = k.line })) places ≡ set (notes_at kept places) i (record { word = word; waiters = waiters_of places k.line })
  word-now word = map-set (note_at places) kept i (record { word = word; line = k.line })

  pub word-kept : (word : ℕ) → IsKept (set kept i (record { word = word; line = k.line })) places
  word-kept word =
      changed-kept r.is_kept places i (record { word = word; line = k.line }) (waiters_of places k.line) below refl (word-now word) ends-here
      (λ x. omega (arith, r.is_kept.once x, ap (λ (n : Note). times x n.waiters) here)) (λ x more. absurd (omega (arith, ap (λ (n : Note). times x n.waiters) here)))

  pub word-note : (word : ℕ) → seen_as (set kept i (record { word = word; line = k.line })) places ≡ with_note note (record { word = word; waiters = (note_of all.notes note).waiters }) all
  word-note word =
      written places (record { word = word; line = k.line }) _ refl (word-now word)
      ∙ ap (λ (n : Note). with_note note (record { word = word; waiters = n.waiters }) all) (sym seen)

  -- a word is taken
  pub got-answer : k.word ≢ 0 → Got k.word ≡ waited (note_of all.notes note)
  got-answer some = sym (ap waited seen ∙ rw (ne_eqb k.word 0 some) refl)

  -- no thread waits: the badge is held
  pub held-answer : (badge : ℕ) → k.line.len ≡ 0 → Held (bit_or k.word badge) ≡ posted badge (note_of all.notes note)
  held-answer badge e = sym (ap (posted badge) seen ∙ ap (λ len. posted badge (record { word = k.word; waiters = waiters_from places k.line.first len })) e)

  -- the line can be walked
  pub in_range : (n : ℕ) → n < k.line.len → nth places k.line.first n < length places
  in_range n h = below-here _ (nth-waits places k.line.first n k.line.len h)

  -- at no word a thread blocks
  pub blocks-answer : k.word ≡ 0 → Blocks ≡ waited (note_of all.notes note)
  blocks-answer none = sym (ap waited seen ∙ rw (eq-eqb k.word 0 none) refl)

  -- a thread joins the waiters
  module _ (q : Queued) (there : q.thread < all.threads) (free : is_waiting q.thread all.notes ≡ false) where
    pub has_place : q.thread < length places
    has_place = omega (arith, there, ap (λ (a : Notifications). a.threads) r.view)

    none : times_in q.thread (notes_at kept places) ≡ 0
    none = ap (λ (a : Notifications). times_in q.thread a.notes) r.view ∙ times_in-free q.thread all.notes free

    none-here : times q.thread (waiters_of places k.line) ≡ 0
    none-here = omega (arith, here-le q.thread, none)

    last-below : 0 < k.line.len → k.line.last < length places
    last-below some = below-here k.line.last (last-waits places k.line.first k.line.last k.line.len some ends-here)

    before-is : (len : ℕ) → len ≡ k.line.len →
        let before = if len == 0 then q.thread else k.line.last in
        (before < length places) × (times_in before (notes_at kept places) ≡ times before (note_of (notes_at kept places) i).waiters)
    before-is zero e = (has_place, omega (arith, none, none-here, ap (λ (n : Note). times q.thread n.waiters) here))
    before-is (suc len) e =
        let some : 0 < k.line.len = omega arith in
        rw (not_zero len) (last-below some, only-here k.line.last (last-waits places k.line.first k.line.last k.line.len some ends-here))

    pub before-below : before_back q.thread k.line < length places
    before-below = (before-is k.line.len refl).0

    joins : Kept
    joins = record { word = k.word; line = with_back q.thread k.line }

    joins-now : notes_at (set kept i joins) (joined q.thread q.priority k.line places) ≡ set (notes_at kept places) i (record { word = k.word; waiters = waiters_of places k.line ++ q ∷ [] })
    unfolding joins
    joins-now =
        let place : Place = record { behind = q.thread; priority = q.priority } in
        let before = before_back q.thread k.line in
        let stays = notes_at-other places q.thread place kept none in
        let Only : List Note → Type 0 = λ ns. times_in before ns ≡ times before (note_of ns i).waiters in
        notes_at-set (set places q.thread place) before _ kept i joins below (subst Only (sym stays) (before-is k.line.len refl).1)
        ∙ ap (λ ns. set ns i (note_at (joined q.thread q.priority k.line places) joins)) stays
        ∙ ap (λ qs. set (notes_at kept places) i (record { word = k.word; waiters = qs }))
        (waiters-with_back places k.line.first k.line.last k.line.len q.thread q.priority has_place none-here last-below ends-here once-here)

    last-push : (d : ℕ) (qs : List Queued) → last_or d (qs ++ q ∷ []) ≡ q.thread
    last-push d [] = refl
    last-push d (x ∷ qs) = last-push x.thread qs

    pub joins-kept : IsKept (set kept i (record { word = k.word; line = with_back q.thread k.line })) (joined q.thread q.priority k.line places)
    unfolding joins
    joins-kept =
        changed-kept r.is_kept (joined q.thread q.priority k.line places) i joins (waiters_of places k.line ++ q ∷ []) below (length-joined q.thread q.priority k.line places) joins-now
        (last-push q.thread (waiters_of places k.line)) once more
      where
        counted : (x : ℕ) → times x (waiters_of places k.line ++ q ∷ []) ≡ times x (note_of (notes_at kept places) i).waiters + times x (q ∷ [])
        counted x = omega (arith, times-append x (waiters_of places k.line) (q ∷ []), ap (λ (n : Note). times x n.waiters) here)

        once : (x : ℕ) → times_in x (notes_at kept places) + times x (waiters_of places k.line ++ q ∷ []) ≤ 1 + times x (note_of (notes_at kept places) i).waiters
        once x = elim (cases_eq q.thread x) [
          | inl e ↦ omega (arith, counted x, times-cons_same x q [] e, none, ap (λ y. times_in y (notes_at kept places)) e)
          | inr ne ↦ omega (arith, counted x, times-cons_other x q [] ne, r.is_kept.once x)
        ]

        more : (x : ℕ) → times x (note_of (notes_at kept places) i).waiters < times x (waiters_of places k.line ++ q ∷ []) → x < length places
        more x h = elim (cases_eq q.thread x) [
          | inl e ↦ omega (arith, has_place, e)
          | inr ne ↦ absurd (omega (arith, counted x, times-cons_other x q [] ne))
        ]

    pub joins-note : seen_as (set kept i (record { word = k.word; line = with_back q.thread k.line })) (joined q.thread q.priority k.line places)
        ≡ with_note note (after_wait Blocks q (note_of all.notes note)) all
    unfolding joins
    joins-note =
        written (joined q.thread q.priority k.line places) joins _ (length-joined q.thread q.priority k.line places) joins-now ∙ ap (λ n. with_note note (after_wait Blocks q n) all) (sym seen)

  -- the best waiter leaves
  module _ (woken : ℕ) (new : List Place) (line : Line) (leaves : BestLeaves places k.line woken new line) where
    best_is : leaves.0 ≡ record { before = leaves.0.before; thread = nth places k.line.first leaves.1.0 }
    best_is = same leaves.0.before leaves.0.thread _ leaves.1.2.0
      where
        same : (before a b : ℕ) → a ≡ b → let one : Waiter = record { before = before; thread = a } in let other : Waiter = record { before = before; thread = b } in one ≡ other
        same before a b e = cc

    before-waits : 0 < times leaves.0.before (waiters_of places k.line)
    before-waits =
        let Waits : ℕ → Type 0 = λ y. 0 < times y (waiters_of places k.line) in
        subst Waits (sym leaves.1.2.1) (nth-waits places k.line.first (leaves.1.0 - 1) k.line.len (omega (arith, leaves.1.1)))

    pub woke-answer : (badge : ℕ) → Woke woken badge ≡ posted badge (note_of all.notes note)
    woke-answer badge = sym (ap (posted badge) seen ∙ rw leaves.1.3 (ap (λ thread. Woke thread badge) (sym leaves.2)))

    leaves-waiters : waiters_of new line ≡ without woken (waiters_of places k.line)
    leaves-waiters =
        let Without : Waiter → Type 0 =
        λ one. waiters_of (unlinked one places) (without_waiter one (place_of places one.thread).behind k.line) ≡ without one.thread (waiters_of places k.line)
        in
        rw (leaves.2, leaves.3, leaves.4) (
        subst Without (sym best_is)
        (waiters-without places k.line.first k.line.last k.line.len leaves.1.0 leaves.0.before leaves.1.1 leaves.1.2.1 (below-here _ before-waits) once-here)
        )

    leaves-ends : last_or line.last (without woken (waiters_of places k.line)) ≡ line.last
    leaves-ends =
        let Ends : Waiter → Type 0 =
        λ one. let end = (without_waiter one (place_of places one.thread).behind k.line).last in last_or end (without one.thread (waiters_of places k.line)) ≡ end
        in
        rw (leaves.2, leaves.4)
        (subst Ends (sym best_is) (ends-without places k.line.first k.line.last k.line.len leaves.1.0 leaves.0.before leaves.1.1 leaves.1.2.1 ends-here once-here))

    pub length-left : length new ≡ length places
    length-left = rw leaves.3 (length-set places _ _)

    leaves-now : notes_at (set kept i (record { word = k.word; line = line })) new ≡ set (notes_at kept places) i (record { word = k.word; waiters = without woken (waiters_of places k.line) })
    leaves-now =
        let changed : Kept = record { word = k.word; line = line } in
        let Now : List Place → Type 0 = λ new. notes_at (set kept i changed) new ≡ set (notes_at kept places) i (note_at new changed) in
        subst Now (sym leaves.3) (notes_at-set places leaves.0.before _ kept i changed below (only-here leaves.0.before before-waits))
        ∙ ap (λ qs. set (notes_at kept places) i (record { word = k.word; waiters = qs })) leaves-waiters

    pub leaves-kept : IsKept (set kept i (record { word = k.word; line = line })) new
    leaves-kept =
        let fewer : (x : ℕ) → times x (without woken (waiters_of places k.line)) ≤ times x (note_of (notes_at kept places) i).waiters =
        λ x. omega (arith, times-without x woken (waiters_of places k.line), ap (λ (n : Note). times x n.waiters) here)
        in
        changed-kept r.is_kept new i (record { word = k.word; line = line }) (without woken (waiters_of places k.line)) below length-left leaves-now leaves-ends
        (λ x. omega (arith, fewer x, r.is_kept.once x)) (λ x h. absurd (omega (arith, fewer x)))

    pub leaves-note : (badge : ℕ) → seen_as (set kept i (record { word = k.word; line = line })) new ≡ with_note note (after_post (Woke woken badge) (note_of all.notes note)) all
    leaves-note badge =
        written new (record { word = k.word; line = line }) _ length-left leaves-now ∙ ap (λ n. with_note note (after_post (Woke woken badge) n) all) (sym seen)

-- with no waiter, everything is kept
notes_at-quiet : (n : ℕ) (places : List Place) → notes_at (replicate n quiet) places ≡ replicate n quiet_note
notes_at-quiet zero places = refl
notes_at-quiet (suc n) places = ap (λ (ns : List Note). quiet_note ∷ ns) (notes_at-quiet n places)

pub new-kept : (n : ℕ) (places : List Place) → IsKept (replicate n quiet) places
new-kept n places = record {
  ends = λ m. ap (λ ns. last_or (get_or (replicate n quiet) m quiet).line.last (note_of ns m).waiters) (notes_at-quiet n places) ∙ ap (last_or _) (none_at n m);
  once = λ x. omega (arith, none x);
  below = λ x some. absurd (omega (arith, none x));
}
  where
    none_at : (n m : ℕ) → (note_of (replicate n quiet_note) m).waiters ≡ []
    none_at zero m = refl
    none_at (suc n) zero = refl
    none_at (suc n) (suc m) = none_at n m

    none_in : (n x : ℕ) → times_in x (replicate n quiet_note) ≡ 0
    none_in zero x = refl
    none_in (suc n) x = omega (arith, none_in n x)

    none : (x : ℕ) → times_in x (notes_at (replicate n quiet) places) ≡ 0
    none x = ap (times_in x) (notes_at-quiet n places) ∙ none_in n x

pub new-note : (n : ℕ) (places : List Place) (threads : ℕ) → length places ≡ threads → seen_as (replicate n quiet) places ≡ record { notes = replicate n quiet_note; threads = threads }
new-note n places threads e = both _ _ _ _ (notes_at-quiet n places) e
