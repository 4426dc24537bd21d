-- Properties of the places that each call keeps.
use Rattle.std.proofs.Common.{◌≡◌, ◌≢◌, ℕ, zero, suc, ◌+◌, ◌<◌, ◌≤◌, ◌==◌, if◌then◌else◌, true, false, List, [], ◌∷◌, ◌++◌, length, map, get_or, set, refl, sym, ap, subst, ◌∙◌, inl, inr, arith, get_or-set_same, get_or-set_other, length-set, replicate}
use Rattle.std.specs.Prelude.{nat_lt, Option, None, Some, MatchOption}
use Rattle.std.proofs.Math.ListN.{get_or-map as get_or-map_at}
use Rattle.std.proofs.lemmas.Bool.Decides.{nat_tests}
use Rattle.std.proofs.lemmas.Grind.{common_steps}
use Rattle.std.proofs.lemmas.Bool.{cases_eq, cases_lt, eq-eqb, ne_eqb, false≢true}
use Rattle.std.proofs.lemmas.List.{length-map, get_or-map, get_or_past, get_or_read, length-replicate, set-get_or}
use Rattle.mcs_ticks.specs.declared.queue.Queued.{Queued}
use Rattle.mcs_ticks.specs.Queue.{entered_back, entered_front, first_of}
use Rattle.mcs_ready.specs.stored.Lines.{IsKept, IsLine, no_thread, line_to, threads_of, all_threads, queue_from, is_some_in, times, times_in, names_one, one_if}
use Rattle.mcs_ready.specs.stored.Priorities.{has}
use Rattle.mcs_ready.specs.Ready.{AreBelow, AreDistinct, ReadyQueue, queued, is_held, priority_of, thread_of}
use Rattle.mcs_ready.proofs.Lines.{last-stands, lines-changed, threads-back, threads-front, threads-other, threads-rest}
use Rattle.mcs_ready.proofs.Queues.{queue-back, queue-front, queue-first, queue-none}
use Rattle.mcs_ready.proofs.Times.{times-append, times-elsewhere, times-le-times_in, times_in-set, is_held-queue_from, length-le-room, length-lt-room, times-queue_from, times-get_or, names-below, distinct_from_once}

-- what a thread names, once a place is written
names-same : (next : List ℕ) (y v : ℕ) → y < length next → v ≢ no_thread → names_one (set next y v) y ≡ true
names-same next y v below some = rw (get_or-set_same next y v no_thread below, ne_eqb v no_thread some) refl

names-none : (next : List ℕ) (y : ℕ) → y < length next → names_one (set next y no_thread) y ≡ false
names-none next y below = rw (get_or-set_same next y no_thread no_thread below) refl

names-other : (next : List ℕ) (y v x : ℕ) → x ≢ y → names_one (set next y v) x ≡ names_one next x
names-other next y v x ne = rw (get_or-set_other next y x v no_thread ne) refl

module _ (words words' lasts next next' : List ℕ) (p last : ℕ) (threads : List ℕ) where
  -- one line changes to these threads, and its priority is marked if and only if it has one
  IsKept-changed : IsKept words lasts next → p < 256 → length next' ≡ length next →
      all_threads next' (set lasts p last) ≡ set (all_threads next lasts) p threads →
      ((q : ℕ) → has words' q ≡ (if q == p then is_some_in threads else has words q)) →
      ((x : ℕ) → times x threads + one_if (names_one next x) ≡ times x (get_or (all_threads next lasts) p []) + one_if (names_one next' x)) →
      IsKept words' (set lasts p last) next'
  IsKept-changed kept below room now marks moved = record {
    count = length-set lasts p last ∙ kept.count;
    few = rw room kept.few;
    marked = λ q. rw (now, marks q) (grind (arith, common_steps, nat_tests, kept.marked q));
    once = λ x. rw now (omega (arith, times_in-set x p olds threads among, moved x, kept.once x));
  }
    where
      olds : List (List ℕ)
      olds = all_threads next lasts

      among : p < length olds
      among = omega (arith, kept.count, length-map lasts (threads_of next))

some_in-push : (x : ℕ) (xs : List ℕ) → is_some_in (xs ++ x ∷ []) ≡ true
some_in-push x [] = refl
some_in-push x (y ∷ xs) = refl

nil_from_none : (xs : List ℕ) → is_some_in xs ≡ false → xs ≡ []
nil_from_none [] e = refl
nil_from_none (x ∷ xs) e = cc

module _ (words lasts next : List ℕ) (kept : IsKept words lasts next) where
  abbrev line : ℕ → List ℕ
  line q = threads_of next (get_or lasts q no_thread)

  line-at : (q : ℕ) → get_or (all_threads next lasts) q [] ≡ line q
  line-at q = get_or-map_at (threads_of next) lasts q no_thread

  -- each stands there at most once
  once-at : (q x : ℕ) → times x (line q) ≤ one_if (names_one next x)
  once-at q x = omega (arith, kept.once x, times-le-times_in x q (all_threads next lasts), ap (times x) (line-at q))

  few-at : (q : ℕ) → length (line q) ≤ length next
  few-at q = length-le-room (line q) next (once-at q)

  -- a thread that stands there names one, and has a number that there is room for
  stands-names : (q x : ℕ) → 1 ≤ times x (line q) → names_one next x ≡ true
  stands-names q x stands = grind (arith, once-at q x)

  stands-below : (q x : ℕ) → 1 ≤ times x (line q) → x < length next
  stands-below q x stands = names-below next x (stands-names q x stands)

  below-some : (x : ℕ) → x < length next → x ≢ no_thread
  below-some x below e = absurd (omega (arith, kept.few))

  -- it occurs in no other line
  other-line : (q x j : ℕ) → 1 ≤ times x (line q) → j ≢ q → times x (line j) ≡ 0
  other-line q x j stands ne =
      grind (arith, times-elsewhere x q j (all_threads next lasts) (λ e. ne (sym e)), kept.once x, ap (times x) (line-at q), ap (times x) (line-at j))

  -- a thread that names no next one occurs in no line
  free-line : (x j : ℕ) → names_one next x ≡ false → times x (line j) ≡ 0
  free-line x j free = omega (arith, once-at j x, ap one_if free)

  -- a line stays unchanged if a thread that is not in it names another one
  other-set : (y z j : ℕ) → times y (line j) ≡ 0 → threads_of (set next y z) (get_or lasts j no_thread) ≡ threads_of next (get_or lasts j no_thread)
  other-set y z j none = threads-other next (get_or lasts j no_thread) y z (few-at j) none

  other-sets : (y z w v j : ℕ) → times y (line j) ≡ 0 → times w (line j) ≡ 0 →
      threads_of (set (set next y z) w v) (get_or lasts j no_thread) ≡ threads_of next (get_or lasts j no_thread)
  other-sets y z w v j none none' =
      let same = other-set y z j none in
      threads-other (set next y z) (get_or lasts j no_thread) w v (rw (same, length-set next y z) (few-at j)) (rw same none') ∙ same

  -- a marked line is one of the 256, and has a last thread, which occurs in it
  pub marked-below : (p : ℕ) → has words p ≡ true → p < 256
  marked-below p marked = elim (cases_lt p 256) [
    | inl below ↦ below
    | inr past ↦
        let none : get_or (all_threads next lasts) p [] ≡ [] = get_or_past (all_threads next lasts) p [] (omega (arith, kept.count, length-map lasts (threads_of next))) in
        absurd (false≢true (ap is_some_in (sym none) ∙ sym (kept.marked p) ∙ marked))
  ]

  pub marked-some : (p : ℕ) → has words p ≡ true → get_or lasts p no_thread ≢ no_thread
  marked-some p marked e =
      let none : line p ≡ [] = rw e refl in
      absurd (false≢true (ap is_some_in (sym (line-at p ∙ none)) ∙ sym (kept.marked p) ∙ marked))

  last-stands_at : (p : ℕ) → get_or lasts p no_thread ≢ no_thread → 1 ≤ times (get_or lasts p no_thread) (line p)
  last-stands_at p some = last-stands next (get_or lasts p no_thread) some (few-at p)

  last-below : (p : ℕ) → get_or lasts p no_thread ≢ no_thread → get_or lasts p no_thread < length next
  last-below p some = stands-below p (get_or lasts p no_thread) (last-stands_at p some)

  -- and so does the first
  first-stands : (p : ℕ) → get_or lasts p no_thread ≢ no_thread → 1 ≤ times (get_or next (get_or lasts p no_thread) 0) (line p)
  first-stands p some =
      let first = get_or next (get_or lasts p no_thread) 0 in
      rw (ne_eqb (get_or lasts p no_thread) no_thread some) (rw (eq-eqb first first refl) (omega arith))

  first-below : (p : ℕ) → get_or lasts p no_thread ≢ no_thread → get_or next (get_or lasts p no_thread) 0 < length next
  first-below p some = stands-below p (get_or next (get_or lasts p no_thread) 0) (first-stands p some)

  -- the last thread of a line as a call reads it
  pub last-read : (p : ℕ) → p < 256 → (last : ℕ) → last ≡ get_or lasts p last → last ≡ get_or lasts p no_thread
  last-read p below last read = get_or_read lasts p last (omega (arith, kept.count)) read no_thread

  -- the place in which it names the first, and the first
  module _ (p last place : ℕ) (some : last ≢ no_thread) (is_last : last ≡ get_or lasts p no_thread) (at : place ≡ last) where
    pub place-below : place < length next
    place-below = rw (at, is_last) (last-below p (λ e. some (is_last ∙ e)))

    pub first-read : (first : ℕ) → first ≡ get_or next place first → first ≡ get_or next (get_or lasts p no_thread) 0
    first-read first read = get_or_read next place first place-below read 0 ∙ ap (λ (n : ℕ). get_or next n 0) (at ∙ is_last)

  pub IsLine-kept : (p : ℕ) → IsLine next (get_or lasts p no_thread)
  IsLine-kept p = record { known = last-below p; few = few-at p; within = stands-below p }

  module _ (p : ℕ) (below : p < 256) where
    among : p < length (all_threads next lasts)
    among = omega (arith, kept.count, length-map lasts (threads_of next))

    -- a thread enters the line
    module _ (x : ℕ) (x_below : x < length next) (free : names_one next x ≡ false) where
      -- each thread names one that did, and x
      moved : (next' threads : List ℕ) → ((y : ℕ) → times y threads ≡ times y (line p) + times y (x ∷ [])) →
          names_one next' x ≡ true → ((y : ℕ) → y ≢ x → names_one next' y ≡ names_one next y) →
          (y : ℕ) → times y threads + one_if (names_one next y) ≡ times y (get_or (all_threads next lasts) p []) + one_if (names_one next' y)
      moved next' threads entered mine others y = rw (line-at p) (grind (arith, nat_tests, entered y, others y))

      -- at the back or at the front of the line it is at the back or at the front of its priority
      queue-pushed : (lines : List (List ℕ)) → lines ≡ set (all_threads next lasts) p (line p ++ x ∷ []) → queue_from 0 lines ≡ entered_back (queued x p) (queue_from 0 (all_threads next lasts))
      queue-pushed lines now =
          ap (queue_from 0) (now ∙ ap (λ (xs : List ℕ). set (all_threads next lasts) p (xs ++ x ∷ [])) (sym (line-at p))) ∙ queue-back (all_threads next lasts) 0 p x among
          ∙ ap (λ (n : ℕ). entered_back (queued x n) (queue_from 0 (all_threads next lasts))) (omega arith)

      queue-put : (lines : List (List ℕ)) → lines ≡ set (all_threads next lasts) p (x ∷ line p) → queue_from 0 lines ≡ entered_front (queued x p) (queue_from 0 (all_threads next lasts))
      queue-put lines now =
          ap (queue_from 0) (now ∙ ap (λ (xs : List ℕ). set (all_threads next lasts) p (x ∷ xs)) (sym (line-at p))) ∙ queue-front (all_threads next lasts) 0 p x among
          ∙ ap (λ (n : ℕ). entered_front (queued x n) (queue_from 0 (all_threads next lasts))) (omega arith)

      -- it has none
      module _ (empty : get_or lasts p no_thread ≡ no_thread) where
        alone : threads_of (set next x x) x ≡ x ∷ []
        alone =
            rw (ne_eqb x no_thread (below-some x x_below), length-set next x x, get_or-set_same next x x 0 x_below)
            (rw (eq-eqb x x refl) refl)

        none : line p ≡ []
        none = rw empty refl

        alone-now : all_threads (set next x x) (set lasts p x) ≡ set (all_threads next lasts) p (x ∷ [])
        alone-now = lines-changed next (set next x x) lasts p x (x ∷ []) alone (λ j ne. other-set x x j (free-line x j free))

        pub IsKept-alone : (words' : List ℕ) → ((q : ℕ) → has words' q ≡ (if q == p then true else has words q)) → IsKept words' (set lasts p x) (set next x x)
        IsKept-alone words' marks =
            IsKept-changed words words' lasts next (set next x x) p x (x ∷ []) kept below (length-set next x x) alone-now marks
            (moved (set next x x) (x ∷ []) (λ y. omega (arith, ap (times y) none))
            (names-same next x x x_below (below-some x x_below)) (λ y ne. names-other next x x y ne))

        pub queue-alone_back : queue_from 0 (all_threads (set next x x) (set lasts p x)) ≡ entered_back (queued x p) (queue_from 0 (all_threads next lasts))
        queue-alone_back = queue-pushed _ (alone-now ∙ ap (λ (xs : List ℕ). set (all_threads next lasts) p (xs ++ x ∷ [])) (sym none))

        pub queue-alone_front : queue_from 0 (all_threads (set next x x) (set lasts p x)) ≡ entered_front (queued x p) (queue_from 0 (all_threads next lasts))
        queue-alone_front = queue-put _ (alone-now ∙ ap (λ (xs : List ℕ). set (all_threads next lasts) p (x ∷ xs)) (sym none))

      -- it has one
      module _ (some : get_or lasts p no_thread ≢ no_thread) where
        abbrev last : ℕ
        last = get_or lasts p no_thread

        abbrev first : ℕ
        first = get_or next last 0

        abbrev after : List ℕ
        after = set (set next x first) last x

        length-after : length after ≡ length next
        length-after = length-set (set next x first) last x ∙ length-set next x first

        other : x ≢ last
        other e =
            let named : names_one next x ≡ true = rw e (stands-names p last (last-stands_at p some)) in
            absurd (false≢true (sym free ∙ named))

        others-now : (j : ℕ) → j ≢ p → threads_of after (get_or lasts j no_thread) ≡ threads_of next (get_or lasts j no_thread)
        others-now j ne = other-sets x first last x j (free-line x j free) (other-line p last j (last-stands_at p some) ne)

        names-x : names_one after x ≡ true
        names-x = names-other (set next x first) last x x other ∙ names-same next x first x_below (below-some first (first-below p some))

        names-others : (y : ℕ) → y ≢ x → names_one after y ≡ names_one next y
        names-others y ne = grind (arith, common_steps, nat_tests, below-some x x_below, last-below p some, stands-names p last (last-stands_at p some))

        marks : (threads : List ℕ) → is_some_in threads ≡ true → (q : ℕ) → has words q ≡ (if q == p then is_some_in threads else has words q)
        marks threads e q = grind (arith, nat_tests, kept.marked q, line-at q, is_some)
          where
            is_some : is_some_in (line p) ≡ true
            is_some = rw (ne_eqb last no_thread some) refl

        front-now : all_threads after lasts ≡ set (all_threads next lasts) p (x ∷ line p)
        front-now =
            ap (all_threads after) (sym (set-get_or lasts p no_thread))
            ∙ lines-changed next after lasts p last (x ∷ line p)
            (threads-front next last x some (last-below p some) x_below other (free-line x p free) (few-at p)) others-now

        back-now : all_threads after (set lasts p x) ≡ set (all_threads next lasts) p (line p ++ x ∷ [])
        back-now =
            lines-changed next after lasts p x (line p ++ x ∷ [])
            (threads-back next last x some (last-below p some) x_below other (free-line x p free) (few-at p)
            (below-some x x_below) (length-lt-room (line p) next (once-at p) x x_below free)) others-now

        pub IsKept-front : IsKept words lasts after
        IsKept-front =
            let Kept : List ℕ → Type 0 = λ (l : List ℕ). IsKept words l after in
            subst Kept (set-get_or lasts p no_thread) (
            IsKept-changed words words lasts next after p last (x ∷ line p) kept below length-after
            (ap (all_threads after) (set-get_or lasts p no_thread) ∙ front-now) (marks (x ∷ line p) refl)
            (moved after (x ∷ line p) (λ y. omega arith) names-x names-others)
            )

        pub IsKept-back : IsKept words (set lasts p x) after
        IsKept-back =
            IsKept-changed words words lasts next after p x (line p ++ x ∷ []) kept below length-after back-now
            (marks (line p ++ x ∷ []) (some_in-push x (line p)))
            (moved after (line p ++ x ∷ []) (λ y. times-append y (line p) (x ∷ [])) names-x names-others)

        pub queue-front_in : queue_from 0 (all_threads after lasts) ≡ entered_front (queued x p) (queue_from 0 (all_threads next lasts))
        queue-front_in = queue-put _ front-now

        pub queue-back_in : queue_from 0 (all_threads after (set lasts p x)) ≡ entered_back (queued x p) (queue_from 0 (all_threads next lasts))
        queue-back_in = queue-pushed _ back-now

  -- the first thread leaves the line
  module _ (p : ℕ) (marked : has words p ≡ true) where
    below : p < 256
    below = marked-below p marked

    some : get_or lasts p no_thread ≢ no_thread
    some = marked-some p marked

    abbrev end : ℕ
    end = get_or lasts p no_thread

    abbrev head : ℕ
    head = get_or next end 0

    head-none : (j : ℕ) → j ≢ p → times head (line j) ≡ 0
    head-none j ne = other-line p head j (first-stands p some) ne

    left : (next' rest : List ℕ) → line p ≡ head ∷ rest → names_one next' head ≡ false → ((y : ℕ) → y ≢ head → names_one next' y ≡ names_one next y) →
        (y : ℕ) → times y rest + one_if (names_one next y) ≡ times y (get_or (all_threads next lasts) p []) + one_if (names_one next' y)
    left next' rest split mine others y = rw (line-at p, split) (grind (arith, nat_tests, others y, stands-names p head (first-stands p some)))

    -- as a call reads its last thread, the place of that, and the first
    module _ (last : ℕ) (read : last ≡ get_or lasts p last) (place : ℕ) (at : place ≡ last) where
      pub end-read : last ≡ end
      end-read = last-read p below last read

      pub end-below : place < length next
      end-below = rw (at, end-read) (last-below p some)

      module _ (first : ℕ) (read' : first ≡ get_or next place first) where
        pub head-read : first ≡ head
        head-read = get_or_read next place first end-below read' 0 ∙ ap (λ (n : ℕ). get_or next n 0) (at ∙ end-read)

        pub head-below : first < length next
        head-below = rw head-read (first-below p some)

        pub behind-read : (place : ℕ) → place ≡ first → (second : ℕ) → second ≡ get_or next place second → second ≡ get_or next head 0
        behind-read place at second read =
            get_or_read next place second (rw at head-below) read 0 ∙ ap (λ (n : ℕ). get_or next n 0) (at ∙ head-read)

        pub head-single : first ≡ last → head ≡ end
        head-single e = sym head-read ∙ e ∙ end-read

        pub head-several : first ≢ last → head ≢ end
        head-several ne e = ne (head-read ∙ e ∙ sym end-read)

    -- the queue begins with it, if no line above has a thread
    queue-rest : (rest : List ℕ) → line p ≡ head ∷ rest → ((q : ℕ) → p < q → has words q ≡ false) →
        queue_from 0 (all_threads next lasts) ≡ queued head p ∷ queue_from 0 (set (all_threads next lasts) p rest)
    queue-rest rest split none =
        queue-first (all_threads next lasts) 0 p head rest (line-at p ∙ split) (λ q above. nil_from_none _ (sym (kept.marked q) ∙ none q above))
        ∙ ap (λ (n : ℕ). queued head n ∷ queue_from 0 (set (all_threads next lasts) p rest)) (omega arith)

    -- it is the only one
    module _ (only : head ≡ end) where
      single : line p ≡ head ∷ []
      single = rw (ne_eqb end no_thread some, eq-eqb head end only) refl

      emptied-now : all_threads (set next head no_thread) (set lasts p no_thread) ≡ set (all_threads next lasts) p []
      emptied-now = lines-changed next (set next head no_thread) lasts p no_thread [] refl (λ j ne. other-set head no_thread j (head-none j ne))

      pub IsKept-emptied : (words' : List ℕ) → ((q : ℕ) → has words' q ≡ (if q == p then false else has words q)) →
          IsKept words' (set lasts p no_thread) (set next head no_thread)
      IsKept-emptied words' marks =
          IsKept-changed words words' lasts next (set next head no_thread) p no_thread [] kept below (length-set next head no_thread) emptied-now marks
          (left (set next head no_thread) [] single (names-none next head (first-below p some)) (λ y ne. names-other next head no_thread y ne))

      pub queue-emptied : ((q : ℕ) → p < q → has words q ≡ false) →
          queue_from 0 (all_threads next lasts) ≡ queued head p ∷ queue_from 0 (all_threads (set next head no_thread) (set lasts p no_thread))
      queue-emptied none = queue-rest [] single none ∙ ap (λ (xss : List (List ℕ)). queued head p ∷ queue_from 0 xss) (sym emptied-now)

    -- it is not
    module _ (more : head ≢ end) where
      abbrev closed : List ℕ
      closed = set (set next end (get_or next head 0)) head no_thread

      abbrev behind : List ℕ
      behind = threads_of closed end

      split : line p ≡ head ∷ behind
      split =
          let one : times head (line p) ≤ 1 = grind (arith, once-at p head) in
          threads-rest next end some (last-below p some) more one (few-at p)

      second-stands : 1 ≤ times (get_or next head 0) (line p)
      second-stands =
          let second = get_or next head 0 in
          rw (ne_eqb end no_thread some, ne_eqb head end more) (by (length next) refl)
        where
          by : (n : ℕ) → n ≡ length next → 1 ≤ times (get_or next head 0) (head ∷ line_to next end n (get_or next head 0))
          by zero e = absurd (omega (arith, first-below p some))
          by (suc n) e = rw (eq-eqb (get_or next head 0) (get_or next head 0) refl) (omega arith)

      rest-now : all_threads closed lasts ≡ set (all_threads next lasts) p behind
      rest-now =
          ap (all_threads closed) (sym (set-get_or lasts p no_thread))
          ∙ lines-changed next closed lasts p end behind refl
          (λ j ne. other-sets end (get_or next head 0) head no_thread j (other-line p end j (last-stands_at p some) ne) (head-none j ne))

      some_behind : is_some_in behind ≡ true
      some_behind = rw (ne_eqb end no_thread some) refl

      marks_behind : (q : ℕ) → has words q ≡ (if q == p then is_some_in behind else has words q)
      marks_behind q = grind (arith, nat_tests, kept.marked q, line-at q, split, some_behind)

      names-rest : (y : ℕ) → y ≢ head → names_one closed y ≡ names_one next y
      names-rest y ne = grind (arith, common_steps, nat_tests, below-some (get_or next head 0) (stands-below p (get_or next head 0) second-stands), last-below p some, stands-names p end (last-stands_at p some))

      pub IsKept-rest : IsKept words lasts closed
      IsKept-rest =
          let Kept : List ℕ → Type 0 = λ (l : List ℕ). IsKept words l closed in
          let room : head < length (set next end (get_or next head 0)) = rw (length-set next end (get_or next head 0)) (first-below p some) in
          subst Kept (set-get_or lasts p no_thread) (
          IsKept-changed words words lasts next closed p end behind kept below
          (length-set (set next end (get_or next head 0)) head no_thread ∙ length-set next end (get_or next head 0))
          (ap (all_threads closed) (set-get_or lasts p no_thread) ∙ rest-now) marks_behind
          (left closed behind split (names-none (set next end (get_or next head 0)) head room) names-rest)
          )

      pub queue-rest_in : ((q : ℕ) → p < q → has words q ≡ false) →
          queue_from 0 (all_threads next lasts) ≡ queued head p ∷ queue_from 0 (all_threads closed lasts)
      queue-rest_in none = queue-rest behind split none ∙ ap (λ (xss : List (List ℕ)). queued head p ∷ queue_from 0 xss) (sym rest-now)

    -- it is the first of the queue
    pub first-taken : ((q : ℕ) → p < q → has words q ≡ false) → thread_of (first_of (queue_from 0 (all_threads next lasts))) ≡ Some head
    first-taken none = elim (cases_eq head end) [
      | inl only ↦ rw (queue-emptied only none) refl
      | inr more ↦ rw (queue-rest_in more none) refl
    ]

  -- a thread is in the queue if and only if it names a next one
  pub is_held-kept : (x : ℕ) → is_held x (queue_from 0 (all_threads next lasts)) ≡ names_one next x
  is_held-kept x = is_held-queue_from x 0 (all_threads next lasts) ∙ ap (nat_lt 0) (kept.once x) ∙ grind (arith, nat_tests)

  pub queue_unmarked : ((q : ℕ) → has words q ≡ false) → queue_from 0 (all_threads next lasts) ≡ []
  queue_unmarked none = queue-none (all_threads next lasts) 0 (λ q. nil_from_none _ (sym (kept.marked q) ∙ none q))

  -- the greatest priority that is marked is that of the first thread
  pub first-greatest : (greatest : Option ℕ) →
      MatchOption greatest ((q : ℕ) → has words q ≡ false) (λ p. (has words p ≡ true) × ((q : ℕ) → p < q → has words q ≡ false)) →
      greatest ≡ priority_of (first_of (queue_from 0 (all_threads next lasts)))
  first-greatest None none = rw (queue_unmarked none) refl
  first-greatest (Some p) greatest = elim (cases_eq (get_or next (get_or lasts p no_thread) 0) (get_or lasts p no_thread)) [
    | inl only ↦ rw (queue-emptied p greatest.0 only greatest.1) refl
    | inr more ↦ rw (queue-rest_in p greatest.0 more greatest.1) refl
  ]

-- with no thread, everything is kept
no_threads_at : (next : List ℕ) (n p : ℕ) → get_or (all_threads next (replicate n no_thread)) p [] ≡ []
no_threads_at next zero p = refl
no_threads_at next (suc n) zero = refl
no_threads_at next (suc n) (suc p) = no_threads_at next n p

no_times_in : (next : List ℕ) (n x : ℕ) → times_in x (all_threads next (replicate n no_thread)) ≡ 0
no_times_in next zero x = refl
no_times_in next (suc n) x = omega (arith, no_times_in next n x)

none_named : (n x : ℕ) → names_one (replicate n no_thread) x ≡ false
none_named zero x = refl
none_named (suc n) zero = refl
none_named (suc n) (suc x) = none_named n x

pub IsKept-new : (words : List ℕ) (n room : ℕ) → n ≡ 256 → room ≤ no_thread → ((q : ℕ) → has words q ≡ false) →
    IsKept words (replicate n no_thread) (replicate room no_thread)
IsKept-new words n room e few none = record {
  count = length-replicate n no_thread ∙ e;
  few = rw (length-replicate room no_thread) few;
  marked = λ p. none p ∙ ap is_some_in (sym (no_threads_at (replicate room no_thread) n p));
  once = λ x. no_times_in (replicate room no_thread) n x ∙ ap one_if (sym (none_named room x));
}

-- the value that callers see, from the places
module _ (words lasts next : List ℕ) (kept : IsKept words lasts next) (value : ReadyQueue)
    (view_is : record { queue = queue_from 0 (all_threads next lasts); room = length next } ≡ value) (x : ℕ) where
  pub within-room : x < value.room → x < length next
  within-room below = rw (ap (λ (v : ReadyQueue). v.room) view_is) below

  pub holds-view : is_held x value.queue ≡ names_one next x
  holds-view = ap (λ (v : ReadyQueue). is_held x v.queue) (sym view_is) ∙ is_held-kept words lasts next kept x

  pub free-view : is_held x value.queue ≡ false → names_one next x ≡ false
  free-view free = sym holds-view ∙ free

pub same_value : (queue queue' : List Queued) (room room' : ℕ) → queue ≡ queue' → room ≡ room' →
    let old : ReadyQueue = record { queue = queue; room = room } in
    let new : ReadyQueue = record { queue = queue'; room = room' } in
    old ≡ new
same_value queue queue' room room' e f = cc

-- the queue holds no thread twice, and none above what there is room for
module _ (words lasts next : List ℕ) (kept : IsKept words lasts next) where
  times-queue : (x : ℕ) → times x (map (λ (q : Queued). q.thread) (queue_from 0 (all_threads next lasts))) ≡ one_if (names_one next x)
  times-queue x = times-queue_from x 0 (all_threads next lasts) ∙ kept.once x

  pub AreDistinct-kept : AreDistinct (queue_from 0 (all_threads next lasts))
  AreDistinct-kept i j d before below same =
      let queue = queue_from 0 (all_threads next lasts) in
      let threads = map (λ (q : Queued). q.thread) queue in
      let e = get_or-map (λ (q : Queued). q.thread) queue i d 0 (omega arith) in
      let f = get_or-map (λ (q : Queued). q.thread) queue j d 0 below in
      distinct_from_once threads (λ x. grind (arith, times-queue x)) i j before
      (omega (arith, length-map queue (λ (q : Queued). q.thread))) (e ∙ same ∙ sym f)

  pub AreBelow-kept : AreBelow (length next) (queue_from 0 (all_threads next lasts))
  AreBelow-kept k d below =
      let queue = queue_from 0 (all_threads next lasts) in
      let threads = map (λ (q : Queued). q.thread) queue in
      let e = get_or-map (λ (q : Queued). q.thread) queue k d 0 below in
      let among : k < length threads = omega (arith, length-map queue (λ (q : Queued). q.thread)) in
      let IsBelow : ℕ → Type 0 = λ x. x < length next in
      subst IsBelow e (names-below next (get_or threads k 0) (grind (arith, times-queue (get_or threads k 0), times-get_or threads k among)))
