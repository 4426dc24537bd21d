-- The lines of all priorities as one queue: what it is to change one of them.
use Rattle.std.proofs.Common.{◌≡◌, ℕ, zero, suc, ◌+◌, ◌<◌, ◌≤◌, List, [], ◌∷◌, ◌++◌, length, get_or, set, refl, sym, ap, ◌∙◌, arith}
use Rattle.std.proofs.lemmas.Bool.{lt-ltb, le-ltb}
use Rattle.std.proofs.lemmas.List.{append_assoc, append-nil, map_push}
use Rattle.mcs_ticks.specs.declared.queue.Queued.{Queued}
use Rattle.mcs_ticks.specs.Queue.{entered_back, entered_front}
use Rattle.mcs_ready.specs.stored.Lines.{queued_at, queue_from}
use Rattle.mcs_ready.specs.Ready.{queued}

-- a thread enters behind all of its priority or above
back-line : (x p q : ℕ) (ys : List ℕ) (rest : List Queued) → p ≤ q →
    entered_back (queued x p) (queued_at q ys ++ rest) ≡ queued_at q ys ++ entered_back (queued x p) rest
back-line x p q [] rest h = refl
back-line x p q (y ∷ ys) rest h = rw (le-ltb q p h) (ap (λ (us : List Queued). queued y q ∷ us) (back-line x p q ys rest h))

back-lines : (x p q : ℕ) (lines : List (List ℕ)) (rest : List Queued) → p ≤ q →
    entered_back (queued x p) (queue_from q lines ++ rest) ≡ queue_from q lines ++ entered_back (queued x p) rest
back-lines x p q [] rest h = refl
back-lines x p q (ys ∷ lines) rest h =
    let above = queue_from (suc q) lines in
    ap (entered_back (queued x p)) (append_assoc above (queued_at q ys) rest)
    ∙ back-lines x p (suc q) lines (queued_at q ys ++ rest) (omega arith)
    ∙ ap (λ (us : List Queued). above ++ us) (back-line x p q ys rest h)
    ∙ sym (append_assoc above (queued_at q ys) (entered_back (queued x p) rest))

-- and before all of lower priority
back_above : (x : Queued) (above : List Queued) (p : ℕ) (ys : List ℕ) → p < x.priority →
    entered_back x (above ++ queued_at p ys) ≡ entered_back x above ++ queued_at p ys
back_above x [] p [] h = refl
back_above x [] p (y ∷ ys) h = rw (lt-ltb p x.priority h) refl
back_above x (z ∷ above) p ys h = grind (arith, back_above x above p ys h)

-- a thread at the back of its line is at the back of its priority
pub queue-back : (lines : List (List ℕ)) (p i x : ℕ) → i < length lines →
    queue_from p (set lines i (get_or lines i [] ++ x ∷ [])) ≡ entered_back (queued x (p + i)) (queue_from p lines)
queue-back [] p i x h = absurd (omega arith)
queue-back (ys ∷ lines) p zero x h =
    let above = queue_from (suc p) lines in
    let e : p ≡ p + 0 = omega arith in
    sym (
    back-lines x p (suc p) lines (queued_at p ys) (omega arith)
    ∙ ap (λ (us : List Queued). above ++ entered_back (queued x p) us) (sym (append-nil (queued_at p ys)))
    ∙ ap (λ (us : List Queued). above ++ us) (back-line x p p ys [] (omega arith))
    ∙ ap (λ (us : List Queued). above ++ us) (sym (map_push (λ (thread : ℕ). queued thread p) ys x))
    )
    ∙ ap (λ (n : ℕ). entered_back (queued x n) (queue_from p (ys ∷ lines))) e
queue-back (ys ∷ lines) p (suc i) x h =
    grind (arith, queue-back lines (suc p) i x (omega arith), back_above (queued x (p + suc i)) (queue_from (suc p) lines) p ys (omega arith))

-- a thread enters at the front behind all of greater priority
front-line : (x p q : ℕ) (ys : List ℕ) (rest : List Queued) → p < q →
    entered_front (queued x p) (queued_at q ys ++ rest) ≡ queued_at q ys ++ entered_front (queued x p) rest
front-line x p q [] rest h = refl
front-line x p q (y ∷ ys) rest h = rw (lt-ltb p q h) (ap (λ (us : List Queued). queued y q ∷ us) (front-line x p q ys rest h))

front-lines : (x p q : ℕ) (lines : List (List ℕ)) (rest : List Queued) → p < q →
    entered_front (queued x p) (queue_from q lines ++ rest) ≡ queue_from q lines ++ entered_front (queued x p) rest
front-lines x p q [] rest h = refl
front-lines x p q (ys ∷ lines) rest h =
    let above = queue_from (suc q) lines in
    ap (entered_front (queued x p)) (append_assoc above (queued_at q ys) rest)
    ∙ front-lines x p (suc q) lines (queued_at q ys ++ rest) (omega arith)
    ∙ ap (λ (us : List Queued). above ++ us) (front-line x p q ys rest h)
    ∙ sym (append_assoc above (queued_at q ys) (entered_front (queued x p) rest))

-- and before all of its priority or below
front_same : (x p : ℕ) (ys : List ℕ) → entered_front (queued x p) (queued_at p ys) ≡ queued_at p (x ∷ ys)
front_same x p [] = refl
front_same x p (y ∷ ys) = rw (le-ltb p p (omega arith)) refl

front_above : (x : Queued) (above : List Queued) (p : ℕ) (ys : List ℕ) → p < x.priority →
    entered_front x (above ++ queued_at p ys) ≡ entered_front x above ++ queued_at p ys
front_above x [] p [] h = refl
front_above x [] p (y ∷ ys) h = rw (le-ltb x.priority p (omega arith)) refl
front_above x (z ∷ above) p ys h = grind (arith, front_above x above p ys h)

-- a thread at the front of its line is at the front of its priority
pub queue-front : (lines : List (List ℕ)) (p i x : ℕ) → i < length lines →
    queue_from p (set lines i (x ∷ get_or lines i [])) ≡ entered_front (queued x (p + i)) (queue_from p lines)
queue-front [] p i x h = absurd (omega arith)
queue-front (ys ∷ lines) p zero x h = grind (arith, front-lines x p (suc p) lines (queued_at p ys) (omega arith), front_same x p ys)
queue-front (ys ∷ lines) p (suc i) x h =
    grind (arith, queue-front lines (suc p) i x (omega arith), front_above (queued x (p + suc i)) (queue_from (suc p) lines) p ys (omega arith))

-- with no thread in any line the queue is empty
pub queue-none : (lines : List (List ℕ)) (p : ℕ) → ((i : ℕ) → get_or lines i [] ≡ []) → queue_from p lines ≡ []
queue-none [] p none = refl
queue-none (ys ∷ lines) p none =
    ap (λ (us : List ℕ). queue_from (suc p) lines ++ queued_at p us) (none zero) ∙ append-nil (queue_from (suc p) lines)
    ∙ queue-none lines (suc p) (λ i. none (suc i))

-- the queue begins with the first thread of the highest line that has one
pub queue-first : (lines : List (List ℕ)) (p i x : ℕ) (xs : List ℕ) → get_or lines i [] ≡ x ∷ xs → ((j : ℕ) → i < j → get_or lines j [] ≡ []) →
    queue_from p lines ≡ queued x (p + i) ∷ queue_from p (set lines i xs)
queue-first [] p i x xs e none = cc
queue-first (ys ∷ lines) p zero x xs e none =
    let empty : queue_from (suc p) lines ≡ [] = queue-none lines (suc p) (λ j. none (suc j) (omega arith)) in
    let same : p ≡ p + 0 = omega arith in
    rw (empty, e) (ap (λ (n : ℕ). queued x n ∷ queued_at p xs) same)
queue-first (ys ∷ lines) p (suc i) x xs e none = grind (arith, queue-first lines (suc p) i x xs e (λ j h. none (suc j) (omega arith)))
