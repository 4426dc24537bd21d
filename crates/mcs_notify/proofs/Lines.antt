-- The waiters of a line, each named by the one before it.
use Rattle.std.proofs.Common.{◌≡◌, ◌≢◌, ℕ, zero, suc, ◌+◌, ◌-◌, ◌<◌, ◌≤◌, ◌==◌, false, List, [], ◌∷◌, ◌++◌, length, set, refl, sym, ap, subst, ◌∙◌, inl, inr, arith, get_or-set_same, get_or-set_other, length-set}
use Rattle.std.proofs.lemmas.Bool.{cases_eq, eq-eqb, ne_eqb}
use Rattle.std.proofs.lemmas.List.{set-get_or}
use Rattle.mcs_ticks.specs.declared.queue.Queued.{Queued}
use Rattle.mcs_ticks.specs.Queue.{without}
use Rattle.mcs_notify.specs.declared.line.Place.{Place}
use Rattle.mcs_notify.specs.declared.line.Line.{Line}
use Rattle.mcs_notify.specs.declared.line.Waiter.{Waiter}
use Rattle.mcs_notify.specs.stored.Lines.{no_place, place_of, queued_at, waiters_from, waiters_of, nth, named, joined, with_back, without_waiter, unlinked, last_or, times}
use Rattle.mcs_notify.proofs.Times.{times-cons_same, times-cons_other, times-last, last_or-without, without-cons_same, without-cons_other}

pub length-waiters_from : (places : List Place) (first len : ℕ) → length (waiters_from places first len) ≡ len
length-waiters_from places first zero = refl
length-waiters_from places first (suc len) = ap suc (length-waiters_from places (place_of places first).behind len)

-- the next of them follows the last
pub nth-next : (places : List Place) (first k : ℕ) → nth places first (suc k) ≡ (place_of places (nth places first k)).behind
nth-next places first zero = refl
nth-next places first (suc k) = nth-next places (place_of places first).behind k

pub waiters_from-next : (places : List Place) (first len : ℕ) →
    waiters_from places first (suc len) ≡ waiters_from places first len ++ queued_at places (nth places first len) ∷ []
waiters_from-next places first zero = refl
waiters_from-next places first (suc len) = ap (λ (qs : List Queued). queued_at places first ∷ qs) (waiters_from-next places (place_of places first).behind len)

-- each of them waits
pub nth-waits : (places : List Place) (first k len : ℕ) → k < len → 0 < times (nth places first k) (waiters_from places first len)
nth-waits places first k zero h = absurd (omega arith)
nth-waits places first zero (suc len) h = omega (arith, times-cons_same first (queued_at places first) (waiters_from places (place_of places first).behind len) refl)
nth-waits places first (suc k) (suc len) h =
    let earlier : k < len = omega arith in
    omega (arith, nth-waits places (place_of places first).behind k len earlier)

-- a thread that does not wait in the line names another one
pub waiters_from-other : (places : List Place) (first len y : ℕ) (place : Place) → times y (waiters_from places first len) ≡ 0 →
    waiters_from (set places y place) first len ≡ waiters_from places first len
waiters_from-other places first zero y place none = refl
waiters_from-other places first (suc len) y place none =
    let behind = (place_of places first).behind in
    let tail = waiters_from places behind len in
    let ne : first ≢ y = λ e. absurd (omega (arith, times-cons_same y (queued_at places first) tail e)) in
    let same : place_of (set places y place) first ≡ place_of places first = get_or-set_other places y first place no_place ne in
    ap (λ (p : Place). record { thread = first; priority = p.priority } ∷ waiters_from (set places y place) p.behind len) same
    ∙ ap (λ (qs : List Queued). queued_at places first ∷ qs) (waiters_from-other places behind len y place (omega arith))

-- a change of another thread's place changes no link of the first waiter
cons-other : (places : List Place) (first len y : ℕ) (place : Place) → first ≢ y →
    waiters_from (set places y place) first (suc len) ≡ queued_at places first ∷ waiters_from (set places y place) (place_of places first).behind len
cons-other places first len y place ne =
    let same : place_of (set places y place) first ≡ place_of places first = get_or-set_other places y first place no_place ne in
    ap (λ (p : Place). record { thread = first; priority = p.priority } ∷ waiters_from (set places y place) p.behind len) same

-- the first one names another thread
cons-named : (places : List Place) (first len thread : ℕ) → first < length places → times first (waiters_from places thread len) ≡ 0 →
    waiters_from (named first thread places) first (suc len) ≡ queued_at places first ∷ waiters_from places thread len
cons-named places first len thread h none =
    let place : Place = record { behind = thread; priority = (place_of places first).priority } in
    let same : place_of (set places first place) first ≡ place = get_or-set_same places first place no_place h in
    ap (λ (p : Place). record { thread = first; priority = p.priority } ∷ waiters_from (set places first place) p.behind len) same
    ∙ ap (λ (qs : List Queued). queued_at places first ∷ qs) (waiters_from-other places thread len first place none)

-- a thread appended after the last
waiters_from-back : (places : List Place) (first len last x : ℕ) → last < length places →
    last ≡ last_or first (waiters_from places (place_of places first).behind len) → times last (waiters_from places first (suc len)) ≤ 1 →
    x ≢ last → waiters_from (named last x places) first (suc (suc len)) ≡ waiters_from places first (suc len) ++ queued_at places x ∷ []
waiters_from-back places first zero last x h e once other =
    let none : times first (waiters_from places x 1) ≡ 0 = times-cons_other first (queued_at places x) [] (λ same. other (same ∙ sym e)) in
    let Named : ℕ → Type 0 = λ y. waiters_from (named y x places) first 2 ≡ queued_at places first ∷ queued_at places x ∷ [] in
    let Below : ℕ → Type 0 = λ y. y < length places in
    subst Named (sym e) (cons-named places first 1 x (subst Below e h) none)
waiters_from-back places first (suc len) last x h e once other =
    let second = (place_of places first).behind in
    let third = (place_of places second).behind in
    let place : Place = record { behind = x; priority = (place_of places last).priority } in
    let Waits : ℕ → Type 0 = λ y. 0 < times y (waiters_from places second (suc len)) in
    let waits : Waits last = subst Waits (sym e) (times-last (queued_at places second) (waiters_from places third len)) in
    let ne : first ≢ last = λ same. absurd (omega (arith, times-cons_same last (queued_at places first) (waiters_from places second (suc len)) same)) in
    cons-other places first (suc (suc len)) last place ne
    ∙ ap (λ (qs : List Queued). queued_at places first ∷ qs) (waiters_from-back places second len last x h e (omega arith) other)

-- a waiter other than the first leaves: the one before it then names the one after it
waiters_from-unlinked : (places : List Place) (first k len : ℕ) → k < len → nth places first k < length places →
    ((x : ℕ) → times x (waiters_from places first (suc len)) ≤ 1) →
    waiters_from (named (nth places first k) (place_of places (nth places first (suc k))).behind places) first len
    ≡ without (nth places first (suc k)) (waiters_from places first (suc len))
waiters_from-unlinked places first k zero h below once = absurd (omega arith)
waiters_from-unlinked places first zero (suc len) h below once =
    let second = (place_of places first).behind in
    let third = (place_of places second).behind in
    let tail = waiters_from places third len in
    let one : times first (queued_at places first ∷ queued_at places second ∷ tail) ≡ 1 + times first (queued_at places second ∷ tail) =
    times-cons_same first (queued_at places first) (queued_at places second ∷ tail) refl in
    let ne : first ≢ second = λ e. absurd (omega (arith, once first, one, times-cons_same first (queued_at places second) tail (sym e))) in
    cons-named places first len third below (omega (arith, once first, one))
    ∙ ap (λ (qs : List Queued). queued_at places first ∷ qs) (sym (without-cons_same second (queued_at places second) tail refl))
    ∙ sym (without-cons_other second (queued_at places first) (queued_at places second ∷ tail) ne)
waiters_from-unlinked places first (suc k) (suc len) h below once =
    let second = (place_of places first).behind in
    let before = nth places second k in
    let gone = nth places second (suc k) in
    let tail = waiters_from places second (suc len) in
    let earlier : k < len = omega arith in
    let place : Place = record { behind = (place_of places gone).behind; priority = (place_of places before).priority } in
    let ne : first ≢ before = λ e. absurd (omega (
      arith,
      once before,
      times-cons_same before (queued_at places first) tail e,
      nth-waits places second k (suc len) (omega arith),
    )) in
    let other : first ≢ gone = λ e. absurd (omega (
      arith,
      once gone,
      times-cons_same gone (queued_at places first) tail e,
      nth-waits places second (suc k) (suc len) (omega arith),
    )) in
    cons-other places first len before place ne
    ∙ ap (λ (qs : List Queued). queued_at places first ∷ qs) (waiters_from-unlinked places second k len earlier below (λ x. omega (arith, once x)))
    ∙ sym (without-cons_other gone (queued_at places first) tail other)

-- a first waiter that is the last is the only one
no_more : (d : ℕ) (q : Queued) (qs : List Queued) → q.thread ≡ last_or q.thread qs → times q.thread (q ∷ qs) ≤ 1 → last_or d qs ≡ d
no_more d q [] e once = refl
no_more d q (r ∷ qs) e once =
    let Waits : ℕ → Type 0 = λ y. 0 < times y (r ∷ qs) in
    let waits : Waits q.thread = subst Waits (sym e) (times-last r qs) in
    absurd (omega (arith, times-cons_same q.thread q (r ∷ qs) refl))

-- without its last waiter the line ends with the one before it
ends-unlinked : (places : List Place) (d first k len : ℕ) → k < len → nth places first (suc k) ≡ last_or first (waiters_from places (place_of places first).behind len) →
    ((x : ℕ) → times x (waiters_from places first (suc len)) ≤ 1) →
    last_or d (without (nth places first (suc k)) (waiters_from places first (suc len))) ≡ nth places first k
ends-unlinked places d first k zero h e once = absurd (omega arith)
ends-unlinked places d first zero (suc len) h e once =
    let second = (place_of places first).behind in
    let tail = waiters_from places (place_of places second).behind len in
    let one : times first (queued_at places first ∷ queued_at places second ∷ tail) ≡ 1 + times first (queued_at places second ∷ tail) =
    times-cons_same first (queued_at places first) (queued_at places second ∷ tail) refl in
    let ne : first ≢ second = λ e. absurd (omega (arith, once first, one, times-cons_same first (queued_at places second) tail (sym e))) in
    ap (last_or d) (without-cons_other second (queued_at places first) (queued_at places second ∷ tail) ne)
    ∙ ap (last_or first) (without-cons_same second (queued_at places second) tail refl)
    ∙ no_more first (queued_at places second) tail e (omega (arith, once second))
ends-unlinked places d first (suc k) (suc len) h e once =
    let second = (place_of places first).behind in
    let gone = nth places second (suc k) in
    let tail = waiters_from places second (suc len) in
    let earlier : k < len = omega arith in
    let other : first ≢ gone = λ e. absurd (omega (
      arith,
      once gone,
      times-cons_same gone (queued_at places first) tail e,
      nth-waits places second (suc k) (suc len) (omega arith),
    )) in
    ap (last_or d) (without-cons_other gone (queued_at places first) tail other)
    ∙ ends-unlinked places first second k len earlier e (λ x. omega (arith, once x))

-- the last of a line that has a waiter is one of them
pub last-waits : (places : List Place) (first last len : ℕ) → 0 < len → last_or last (waiters_from places first len) ≡ last → 0 < times last (waiters_from places first len)
last-waits places first last zero some ends = absurd (omega arith)
last-waits places first last (suc len) some ends =
    let Waits : ℕ → Type 0 = λ y. 0 < times y (waiters_from places first (suc len)) in
    subst Waits ends (times-last (queued_at places first) (waiters_from places (place_of places first).behind len))

pub not_zero : (n : ℕ) → (suc n == 0) ≡ false
not_zero n = ne_eqb (suc n) 0 (λ e. absurd (omega arith))

pub length-joined : (x priority : ℕ) (line : Line) (places : List Place) → length (joined x priority line places) ≡ length places
length-joined x priority line places = length-set (set places x (record { behind = x; priority = priority })) _ _ ∙ length-set places x _

-- a line with one more at its back
pub waiters-with_back : (places : List Place) (first last len x priority : ℕ) → x < length places → times x (waiters_from places first len) ≡ 0 →
    (0 < len → last < length places) → last_or last (waiters_from places first len) ≡ last → ((y : ℕ) → times y (waiters_from places first len) ≤ 1) →
    let line : Line = record { first = first; last = last; len = len } in
    waiters_of (joined x priority line places) (with_back x line) ≡ waiters_from places first len ++ record { thread = x; priority = priority } ∷ []
waiters-with_back places first last zero x priority below none last_below ends once =
    let place : Place = record { behind = x; priority = priority } in
    let now : place_of (set places x place) x ≡ place = get_or-set_same places x place no_place below in
    let again : place_of (named x x (set places x place)) x ≡ record { behind = x; priority = (place_of (set places x place) x).priority } =
    get_or-set_same (set places x place) x _ no_place (omega (arith, length-set places x place)) in
    ap (λ (p : Place). record { thread = x; priority = p.priority } ∷ []) again ∙ ap (λ (p : Place). record { thread = x; priority = p.priority } ∷ []) now
waiters-with_back places first last (suc len) x priority below none last_below ends once =
    let place : Place = record { behind = x; priority = priority } in
    let more : suc len + 1 ≡ suc (suc len) = omega arith in
    let stays : waiters_from (set places x place) first (suc len) ≡ waiters_from places first (suc len) = waiters_from-other places first (suc len) x place none in
    let now : place_of (set places x place) x ≡ place = get_or-set_same places x place no_place below in
    let waits = last-waits places first last (suc len) (omega arith) ends in
    let other : x ≢ last = λ e. absurd (omega (arith, waits, ap (λ y. times y (waiters_from places first (suc len))) e)) in
    let Once : List Queued → Type 0 = λ qs. times last qs ≤ 1 in
    rw (not_zero len, more) (
    waiters_from-back (set places x place) first len last x (omega (arith, length-set places x place, last_below (omega arith)))
    (sym ends ∙ ap (last_or last) (sym stays)) (subst Once (sym stays) (once last)) other
    ∙ ap (λ (qs : List Queued). qs ++ queued_at (set places x place) x ∷ []) stays
    ∙ ap (λ (p : Place). waiters_from places first (suc len) ++ record { thread = x; priority = p.priority } ∷ []) now
    )

-- a line without one of its waiters
pub waiters-without : (places : List Place) (first last len k before : ℕ) → k < len → before ≡ nth places first (k - 1) → before < length places →
    ((y : ℕ) → times y (waiters_from places first len) ≤ 1) →
    let line : Line = record { first = first; last = last; len = len } in
    let one : Waiter = record { before = before; thread = nth places first k } in
    waiters_of (unlinked one places) (without_waiter one (place_of places one.thread).behind line) ≡ without one.thread (waiters_from places first len)
waiters-without places first last zero k before h e below once = absurd (omega arith)
waiters-without places first last (suc len) zero before h e below once =
    let second = (place_of places first).behind in
    let none : 0 - 1 ≡ 0 = omega arith in
    let same : before ≡ first = e ∙ ap (nth places first) none in
    let less : suc len - 1 ≡ len = omega arith in
    let stays : named first second places ≡ places = set-get_or places first no_place in
    rw (eq-eqb first first refl, less, same)
    (ap (λ (ps : List Place). waiters_from ps second len) stays)
waiters-without places first last (suc len) (suc k) before h e below once =
    let gone = nth places first (suc k) in
    let less : suc len - 1 ≡ len = omega arith in
    let earlier : k < len = omega arith in
    let back : suc k - 1 ≡ k = omega arith in
    let same : before ≡ nth places first k = e ∙ ap (nth places first) back in
    let tail = waiters_from places (place_of places first).behind len in
    let other : gone ≢ first = λ f. absurd (omega (
      arith,
      once gone,
      times-cons_same gone (queued_at places first) tail (sym f),
      nth-waits places (place_of places first).behind k len earlier,
    )) in
    rw (ne_eqb gone first other, less, same) (waiters_from-unlinked places first k len earlier (omega arith) once)

-- ends with its last waiter
pub ends-without : (places : List Place) (first last len k before : ℕ) → k < len → before ≡ nth places first (k - 1) →
    last_or last (waiters_from places first len) ≡ last → ((y : ℕ) → times y (waiters_from places first len) ≤ 1) →
    let line : Line = record { first = first; last = last; len = len } in
    let one : Waiter = record { before = before; thread = nth places first k } in
    let end = (without_waiter one (place_of places one.thread).behind line).last in
    last_or end (without one.thread (waiters_from places first len)) ≡ end
ends-without places first last len k before h e ends once = elim (cases_eq (nth places first k) last) [
  | inl is ↦ rw (eq-eqb (nth places first k) last is) (at_end len k h e (ends ∙ sym is) once)
  | inr ne ↦
      rw (ne_eqb (nth places first k) last ne)
      (last_or-without last (nth places first k) (waiters_from places first len) (λ f. ne (sym f ∙ ends)) ∙ ends)
]
  where
    at_end : (len k : ℕ) → k < len → before ≡ nth places first (k - 1) → last_or last (waiters_from places first len) ≡ nth places first k →
        ((y : ℕ) → times y (waiters_from places first len) ≤ 1) → last_or before (without (nth places first k) (waiters_from places first len)) ≡ before
    at_end zero k h e ends once = absurd (omega arith)
    at_end (suc len) zero h e ends once =
        let tail = waiters_from places (place_of places first).behind len in
        ap (last_or before) (without-cons_same first (queued_at places first) tail refl) ∙ no_more before (queued_at places first) tail (sym ends) (once first)
    at_end (suc len) (suc k) h e ends once =
        let earlier : k < len = omega arith in
        let back : suc k - 1 ≡ k = omega arith in
        let same : before ≡ nth places first k = e ∙ ap (nth places first) back in
        ends-unlinked places before first k len earlier (sym ends) once ∙ sym same
