-- The findings of the cores in their rows are together the findings in all rows.
use Rattle.std.proofs.Common.{◌≡◌, ◌∙◌, ℕ, zero, suc, ◌+◌, ◌-◌, ◌<◌, ◌≤◌, Bool, true, false, not, cond, nat_lt, nat_le, ◌==◌, List, [], ◌∷◌, ◌++◌, map, filter, flat_map, Option, Some, None, append-nil, ap, arith, nat_cmp, refl, subst, sym}
use Rattle.std.specs.List.{range_with_len}
use Rattle.std.specs.List.Sorted.{IsSortedByKey, IsStableByKey}
use Rattle.std.proofs.lemmas.Bool.Decides.{nat_tests}
use Rattle.std.proofs.lemmas.List.Elements.{filter-append}
use Rattle.mcs_ticks.specs.declared.row.Row.{Row}
use Rattle.mcs_ticks.specs.declared.row.What.{What}
use Rattle.mcs_system.specs.System.{System}
use Rattle.mcs_system.specs.WellFormed.{IsWellFormed}
use Rattle.mcs_system.proofs.Linked.{takes_time}
use Rattle.mcs_core.specs.Clock.{clock, rows_of, turn_of}
use Rattle.mcs_merge.specs.Merge.{AreFrom, DoNotFall}
use Rattle.mcs_merge.specs.Merging.{AreBefore}
use Rattle.mcs_merge.proofs.Merges.{flat_map-same}
use Rattle.mcs_laws.proofs.Homes.{core_of_context}
use Rattle.mcs_stretch.specs.Stretch.{rows_between}
use Rattle.mcs_stretch.proofs.Merging.{AreAt, AreAt-flat_map, AreAt-map, clock-before, clock-later, from-between, later-from, list-between, order_parts, rows-later}
use Rattle.mcs_stretch.proofs.Ranges.{rows-join}
use Rattle.mcs_verdict.specs.declared.finding.Finding.{Finding}
use Rattle.mcs_verdict.specs.declared.finding.Found.{Found}
use Rattle.mcs_verdict.specs.Findings.{InOrder, UpTo, finding, found_at, found_in, past_of}
use Rattle.mcs_verdict.specs.Due.{untaken}
use Rattle.mcs_verdict.specs.Misses.{unended}
use Rattle.mcs_verdict.specs.laws.ByCore.{rows_on, found_on, home_of, note_home_of, ComeHome, CoresAreWatched, WaitsAtHome}
use Rattle.mcs_verdict_laws.proofs.Standings.{past-append}
use Rattle.mcs_check_lines.specs.Counts.{is_allowed, told_of}
use Rattle.mcs_check_lines.specs.Told.{told}
use Rattle.mcs_check.specs.stored.ByCore.{before_on, told_on, told_on_all}
use Rattle.mcs_check.specs.stored.Found.{before_of, told_by, told_in}
use Rattle.mcs_check.specs.stored.OwnRows.{told-append}
use Rattle.mcs_check.proofs.FoundInOrder.{AreLater, found_then, stably-sorted}

-- rows in order before a moment are up to the one before it
pub up-past : (h : ℕ) (past rows : List Row) → UpTo h past → InOrder past rows → AreBefore (suc h) rows → UpTo h (past_of past rows)
up-past h past [] up order before = up
up-past h past (r ∷ rows) up order before = up-past h (r ∷ past) rows (omega (arith, before.0), order.0) order.1 before.1

come-order : (system : System) (past rows : List Row) → ComeHome system past rows → InOrder past rows
come-order system past [] come = tt
come-order system past (r ∷ rows) come = (come.1, come-order system (r ∷ past) rows come.2)

-- what was found before a moment, and from it on
abbrev pub found_before : ℕ → List Found → List Found
found_before t found = filter (λ (f : Found). nat_lt f.moment t) found

abbrev pub found_from : ℕ → List Found → List Found
found_from t found = filter (λ (f : Found). nat_le t f.moment) found

filter-comm : (p q : Found → Bool) (found : List Found) → filter p (filter q found) ≡ filter q (filter p found)
filter-comm p q [] = refl
filter-comm p q (f ∷ found) = grind (arith, filter-comm p q found)

filter-flat_map : (p : Found → Bool) (f : ℕ → List Found) (n a : ℕ) → filter p (flat_map f (range_with_len a n)) ≡ flat_map (λ c. filter p (f c)) (range_with_len a n)
filter-flat_map p f zero a = refl
filter-flat_map p f (suc n) a =
    filter-append p (f a) (flat_map f (range_with_len (a + 1) n)) ∙ ap (λ xs. filter p (f a) ++ xs) (filter-flat_map p f n (a + 1))

-- rows whose moments and cores all answer a test alike
abbrev pub Answer : (ℕ → ℕ → Bool) → Bool → List Row → Type 0
Answer test b [] = Unit {0}
Answer test b (r ∷ rows) = (test r.moment r.core ≡ b) × Answer test b rows

module _ (test : ℕ → ℕ → Bool) (b : Bool) where
  answer-append : (rows more : List Row) → Answer test b rows → Answer test b more → Answer test b (rows ++ more)
  answer-append [] more h k = k
  answer-append (r ∷ rows) more h k = (h.0, answer-append rows more h.1 k)

  answer-map : (c t : ℕ) (whats : List What) → test t c ≡ b → Answer test b (map (λ what. record { moment = t; core = c; what = what }) whats)
  answer-map c t [] e = tt
  answer-map c t (what ∷ whats) e = (e, answer-map c t whats e)

  pub answer-flat_map : (f : ℕ → List Row) (n a : ℕ) → ((c : ℕ) → a ≤ c → c < a + n → Answer test b (f c)) → Answer test b (flat_map f (range_with_len a n))
  answer-flat_map f zero a each = tt
  answer-flat_map f (suc n) a each =
      answer-append (f a) (flat_map f (range_with_len (a + 1) n)) (each a (omega arith) (omega arith)) (answer-flat_map f n (a + 1) (λ c l k. each c (omega arith) (omega arith)))

-- rows before a moment, and from it on
answer-before : (t : ℕ) (rows : List Row) → AreBefore t rows → Answer (λ m c. nat_lt m t) true rows × Answer (λ m c. nat_le t m) false rows
answer-before t [] h = (tt, tt)
answer-before t (r ∷ rows) h = let rest = answer-before t rows h.1 in ((grind (arith, nat_tests, h.0), rest.0), (grind (arith, nat_tests, h.0), rest.1))

answer-from : (t : ℕ) (rows : List Row) → AreFrom t rows → Answer (λ m c. nat_lt m t) false rows × Answer (λ m c. nat_le t m) true rows
answer-from t [] h = (tt, tt)
answer-from t (r ∷ rows) h = let rest = answer-from t rows h.1 in ((grind (arith, nat_tests, h.0), rest.0), (grind (arith, nat_tests, h.0), rest.1))

-- the rows of cores at a moment
module _ (system : System) where
  abbrev pub turns : ℕ → ℕ → ℕ → List Row
  turns t a n = flat_map (λ c. rows_of system c t) (range_with_len a n)

  abbrev moment_rows : ℕ → List Row
  moment_rows t = turns t 0 system.cores

  pub rows-answer : (test : ℕ → ℕ → Bool) (b : Bool) (c t : ℕ) → test t c ≡ b → Answer test b (rows_of system c t)
  rows-answer test b c t e = answer-map test b c t (turn_of system c t).rows e

  moment-answers : (t m : ℕ) (b : Bool) → (m == t) ≡ b → Answer (λ k c. k == t) b (moment_rows m)
  moment-answers t m b e = answer-flat_map (λ k c. k == t) b (λ c. rows_of system c m) system.cores 0 (λ c l i. rows-answer (λ k c. k == t) b c m e)

  at-turns : (t n a : ℕ) → AreAt t (turns t a n)
  at-turns t n a = AreAt-flat_map t (λ c. rows_of system c t) (λ c. AreAt-map t c (turn_of system c t).rows) n a

  later-order : (from to : ℕ) → DoNotFall (rows-later system from to)
  later-order from to = order_parts moment_rows (λ t. at-turns t system.cores 0) (to - from) from

module _ (system : System) (allowed : List Bool) where
  abbrev news : List Row → Row → List Found
  news past r = told_by system allowed past r

  abbrev all_news : List Row → List Row → List Found
  all_news past rows = told_in system allowed past rows

  -- the reported findings are all findings but the allowed ones
  one-told : (m c : ℕ) (f : Option Finding) → found_at m c (told_of allowed f) ≡ told allowed (found_at m c f)
  one-told m c None = refl
  one-told m c (Some f) = grind arith

  told-is-found : (past rows : List Row) → all_news past rows ≡ told allowed (found_in system past rows)
  told-is-found past [] = refl
  told-is-found past (r ∷ rows) =
      let found = found_at r.moment r.core (finding system past r.moment r.what) in
      cc (
        one-told r.moment r.core (finding system past r.moment r.what),
        told-is-found (r ∷ past) rows,
        filter-append (λ (f : Found). not (is_allowed allowed f.finding)) found (found_in system (r ∷ past) rows),
      )

  -- of rows in order it is in order
  one-later : (t m c : ℕ) (f : Option Finding) (rest : List Found) → t ≤ m → AreLater t rest → AreLater m rest → AreLater t (found_at m c f ++ rest)
  one-later t m c None rest l h k = h
  one-later t m c (Some f) rest l h k = (l, k)

  told-in-order : (t : ℕ) (past rows : List Row) → AreFrom t rows → DoNotFall rows → AreLater t (all_news past rows)
  told-in-order t past [] from order = tt
  told-in-order t past (r ∷ rows) from order =
      one-later t r.moment r.core (told_of allowed (finding system past r.moment r.what)) (all_news (r ∷ past) rows) from.0
      (told-in-order t (r ∷ past) rows from.1 order.1) (told-in-order r.moment (r ∷ past) rows order.0 order.1)

  -- a test that is the same for all rows keeps all findings or no finding
  module _ (test : ℕ → ℕ → Bool) where
    abbrev kept : List Found → List Found
    kept found = filter (λ (f : Found). test f.moment f.core) found

    one-kept : (b : Bool) (m c : ℕ) (f : Option Finding) → test m c ≡ b → kept (found_at m c f) ≡ cond b (found_at m c f) []
    one-kept b m c None e = grind arith
    one-kept b m c (Some f) e = rw e refl

    all-kept : (past rows : List Row) → Answer test true rows → kept (all_news past rows) ≡ all_news past rows
    all-kept past [] h = refl
    all-kept past (r ∷ rows) h =
        cc (
          filter-append (λ (f : Found). test f.moment f.core) (news past r) (all_news (r ∷ past) rows),
          one-kept true r.moment r.core (told_of allowed (finding system past r.moment r.what)) h.0,
          all-kept (r ∷ past) rows h.1,
        )

    none-kept : (past rows : List Row) → Answer test false rows → kept (all_news past rows) ≡ []
    none-kept past [] h = refl
    none-kept past (r ∷ rows) h =
        filter-append (λ (f : Found). test f.moment f.core) (news past r) (all_news (r ∷ past) rows)
        ∙ ap (λ xs. xs ++ kept (all_news (r ∷ past) rows)) (one-kept false r.moment r.core (told_of allowed (finding system past r.moment r.what)) h.0)
        ∙ none-kept (r ∷ past) rows h.1

    first-kept : (past rows more : List Row) → Answer test true rows → Answer test false more → kept (all_news past (rows ++ more)) ≡ all_news past rows
    first-kept past rows more h k =
        ap kept (told-append system allowed past rows more)
        ∙ filter-append (λ (f : Found). test f.moment f.core) (all_news past rows) (all_news (past_of past rows) more)
        ∙ cc (all-kept past rows h, none-kept (past_of past rows) more k, append-nil (all_news past rows))

    last-kept : (past rows more : List Row) → Answer test false rows → Answer test true more → kept (all_news past (rows ++ more)) ≡ all_news (past_of past rows) more
    last-kept past rows more h k =
        ap kept (told-append system allowed past rows more)
        ∙ filter-append (λ (f : Found). test f.moment f.core) (all_news past rows) (all_news (past_of past rows) more)
        ∙ ap (λ xs. xs ++ kept (all_news (past_of past rows) more)) (none-kept past rows h)
        ∙ all-kept (past_of past rows) more k

  -- the findings of a core are split at a time
  module _ (c from to end : ℕ) (l : from ≤ to) (k : to ≤ end) where
    abbrev earlier : List Row
    earlier = rows_between system c from to

    abbrev later : List Row
    later = rows_between system c to end

    earlier-answers : Answer (λ m c. nat_lt m to) true earlier × Answer (λ m c. nat_le to m) false earlier
    earlier-answers = answer-before to earlier (list-between system c from to l).before

    later-answers : Answer (λ m c. nat_lt m to) false later × Answer (λ m c. nat_le to m) true later
    later-answers = answer-from to later (from-between system c to end)

    both : told_on system allowed c from end ≡ all_news (before_on system c from) (earlier ++ later)
    both = ap (all_news (before_on system c from)) (sym (rows-join system c from to end l k))

    next : past_of (before_on system c from) earlier ≡ before_on system c to
    next = sym (past-append [] (rows_between system c 0 from) earlier) ∙ ap (past_of []) (rows-join system c 0 from to (omega arith) l)

    pub told-split : (found_before to (told_on system allowed c from end) ≡ told_on system allowed c from to) × (found_from to (told_on system allowed c from end) ≡ told_on system allowed c to end)
    told-split = (
      ap (found_before to) both ∙ first-kept (λ m c. nat_lt m to) (before_on system c from) earlier later earlier-answers.0 later-answers.0,
      ap (found_from to) both ∙ last-kept (λ m c. nat_le to m) (before_on system c from) earlier later earlier-answers.1 later-answers.1
          ∙ ap (λ past. all_news past later) next,
    )

  -- what is found, core by core
  abbrev by_cores : ℕ → ℕ → List Found → List Found
  by_cores a n found = flat_map (λ c. found_on c found) (range_with_len a n)

  none-by_cores : (n a : ℕ) → by_cores a n [] ≡ []
  none-by_cores zero a = refl
  none-by_cores (suc n) a = none-by_cores n (a + 1)

  -- the findings of one time come core by core
  turns-apart : (t n a : ℕ) (past : List Row) → by_cores a n (all_news past (turns system t a n)) ≡ all_news past (turns system t a n)
  turns-apart t zero a past = refl
  turns-apart t (suc n) a past =
      subst (λ all. by_cores a (suc n) all ≡ all) (sym (told-append system allowed past (rows_of system a t) (turns system t (a + 1) n)))
      (ap (λ xs. xs ++ by_cores (a + 1) n (first ++ rest)) own
      ∙ ap (λ xs. first ++ xs) (flat_map-same (λ c. found_on c (first ++ rest)) (λ c. found_on c rest) n (a + 1) (λ c l k. other c l) ∙ turns-apart t n (a + 1) (past_of past (rows_of system a t))))
    where
      first : List Found
      first = all_news past (rows_of system a t)

      rest : List Found
      rest = all_news (past_of past (rows_of system a t)) (turns system t (a + 1) n)

      own : found_on a (first ++ rest) ≡ first
      own =
          filter-append (λ (f : Found). f.core == a) first rest
          ∙ ap (λ xs. xs ++ found_on a rest) (all-kept (λ m c. c == a) past (rows_of system a t) (rows-answer system (λ m c. c == a) true a t (grind (arith, nat_tests))))
          ∙ ap (λ xs. first ++ xs) (none-kept (λ m c. c == a) (past_of past (rows_of system a t)) (turns system t (a + 1) n)
          (answer-flat_map (λ m c. c == a) false (λ c. rows_of system c t) n (a + 1) (λ c l k. rows-answer system (λ m c. c == a) false c t (grind (arith, nat_tests)))))
          ∙ append-nil first

      other : (c : ℕ) → a + 1 ≤ c → found_on c (first ++ rest) ≡ found_on c rest
      other c l =
          filter-append (λ (f : Found). f.core == c) first rest
          ∙ ap (λ xs. xs ++ found_on c rest) (none-kept (λ m d. d == c) past (rows_of system a t) (rows-answer system (λ m d. d == c) false a t (grind (arith, nat_tests))))

  moments-apart : (t n a : ℕ) (past : List Row) → let found = found_then t (all_news past (flat_map (moment_rows system) (range_with_len a n))) in by_cores 0 system.cores found ≡ found
  moments-apart t zero a past = none-by_cores system.cores 0
  moments-apart t (suc n) a past =
      subst (λ all. by_cores 0 system.cores all ≡ all) (sym whole) (by (a == t) refl (moments-apart t n (a + 1) (past_of past (moment_rows system a))))
    where
      first : List Found
      first = found_then t (all_news past (moment_rows system a))

      others : List Row
      others = flat_map (moment_rows system) (range_with_len (a + 1) n)

      rest : List Found
      rest = found_then t (all_news (past_of past (moment_rows system a)) others)

      whole : found_then t (all_news past (moment_rows system a ++ others)) ≡ first ++ rest
      whole =
          ap (found_then t) (told-append system allowed past (moment_rows system a) others)
          ∙ filter-append (λ (f : Found). f.moment == t) (all_news past (moment_rows system a)) (all_news (past_of past (moment_rows system a)) others)

      by : (b : Bool) → (a == t) ≡ b → by_cores 0 system.cores rest ≡ rest → by_cores 0 system.cores (first ++ rest) ≡ first ++ rest
      by true e i =
          let one : first ≡ all_news past (moment_rows system a) = all-kept (λ m c. m == t) past (moment_rows system a) (moment-answers system t a true e) in
          let none : rest ≡ [] = none-kept (λ m c. m == t) (past_of past (moment_rows system a)) others
          (answer-flat_map (λ m c. m == t) false (moment_rows system) n (a + 1) (λ m l k. moment-answers system t m false (grind (arith, nat_tests)))) in
          let both : first ++ rest ≡ all_news past (moment_rows system a) = ap (λ xs. first ++ xs) none ∙ append-nil first ∙ one in
          subst (λ all. by_cores 0 system.cores all ≡ all) (sym both) (turns-apart a system.cores 0 past)
      by false e i =
          let none : first ≡ [] = none-kept (λ m c. m == t) past (moment_rows system a) (moment-answers system t a false e) in
          subst (λ xs. by_cores 0 system.cores (xs ++ rest) ≡ xs ++ rest) (sym none) i

-- the rows up to a moment, and then those up to another
module _ (system : System) (well : IsWellFormed system) where
  pub rows-told : (from to : ℕ) → from ≤ to → (clock system to).rows ≡ (clock system from).rows ++ rows-later system from to
  rows-told from to l = clock-later system (takes_time system well) from to l

  module _ (allowed : List Bool) (from to : ℕ) (l : from ≤ to) where
    pub told-later : told_in system allowed [] (clock system to).rows
        ≡ told_in system allowed [] (clock system from).rows ++ told_in system allowed (before_of system from) (rows-later system from to)
    told-later = ap (told_in system allowed []) (rows-told from to l) ∙ told-append system allowed [] (clock system from).rows (rows-later system from to)

    told-from : found_from from (told_in system allowed [] (clock system to).rows) ≡ told_in system allowed (before_of system from) (rows-later system from to)
    told-from =
        ap (λ rows. found_from from (told_in system allowed [] rows)) (rows-told from to l)
        ∙ last-kept system allowed (λ m c. nat_le from m) [] (clock system from).rows (rows-later system from to)
        (answer-before from (clock system from).rows (clock-before system (takes_time system well) from)).1 (answer-from from (rows-later system from to) (later-from system from to)).1

-- rows that come home, those of each core being its own
module _ (system : System) (well : IsWellFormed system) (come-home : (t : ℕ) → ComeHome system [] (clock system t).rows)
    (on-core : (c t : ℕ) → c < system.cores → rows_on c (clock system t).rows ≡ rows_between system c 0 t) (watched : CoresAreWatched) where
  module _ (allowed : List Bool) where
    -- the findings of a core are those of its rows among all
    told-whole : (c t : ℕ) → c < system.cores → told_on system allowed c 0 t ≡ found_on c (told_in system allowed [] (clock system t).rows)
    told-whole c t known =
        ap (told_in system allowed []) (sym (on-core c t known))
        ∙ told-is-found system allowed [] (rows_on c (clock system t).rows)
        ∙ ap (told allowed) ((watched system).0 (clock system t).rows c (come-home t))
        ∙ filter-comm (λ (f : Found). not (is_allowed allowed f.finding)) (λ (f : Found). f.core == c) (found_in system [] (clock system t).rows)
        ∙ ap (found_on c) (sym (told-is-found system allowed [] (clock system t).rows))

    module _ (from to : ℕ) (l : from ≤ to) where
      abbrev all : List Found
      all = told_in system allowed (before_of system from) (rows-later system from to)

      pub told-on : (c : ℕ) → c < system.cores → told_on system allowed c from to ≡ found_on c all
      told-on c known =
          sym (told-split system allowed c 0 from to (omega arith) l).1
          ∙ ap (found_from from) (told-whole c to known)
          ∙ filter-comm (λ (f : Found). nat_le from f.moment) (λ (f : Found). f.core == c) (told_in system allowed [] (clock system to).rows)
          ∙ ap (found_on c) (told-from system well allowed from to l)

      told-then : (t : ℕ) → found_then t (told_on_all system allowed from to) ≡ found_then t all
      told-then t =
          ap (found_then t) (flat_map-same (λ c. told_on system allowed c from to) (λ c. found_on c all) system.cores 0 (λ c _ k. told-on c (omega arith)))
          ∙ filter-flat_map (λ (f : Found). f.moment == t) (λ c. found_on c all) system.cores 0
          ∙ flat_map-same (λ c. found_then t (found_on c all)) (λ c. found_on c (found_then t all)) system.cores 0
          (λ c _ k. filter-comm (λ (f : Found). f.moment == t) (λ (f : Found). f.core == c) all)
          ∙ moments-apart system allowed t (to - from) from (before_of system from)

      -- the findings of all cores, sorted stably by time, are those of all rows
      pub told-sorted : (sorted : List Found) → IsSortedByKey (λ (f : Found). f.moment) nat_cmp sorted → IsStableByKey (λ (f : Found). f.moment) nat_cmp (told_on_all system allowed from to) sorted → sorted ≡ all
      told-sorted sorted up stable =
          stably-sorted (told_on_all system allowed from to) sorted all from up stable
          (told-in-order system allowed from (before_of system from) (rows-later system from to) (later-from system from to) (later-order system from to)) told-then

  -- what a thread's core finds of it at the horizon
  pub unended-home : (waits-home : (thread : ℕ) → WaitsAtHome system thread) (horizon thread : ℕ)
      → unended system (before_on system (home_of system thread) (suc horizon)) horizon thread ≡ unended system (before_of system (suc horizon)) horizon thread
  unended-home waits-home horizon thread =
      let known : home_of system thread < system.cores = core_of_context system well _ in
      let up : UpTo horizon (before_of system (suc horizon)) = up-past horizon [] (clock system (suc horizon)).rows tt (come-order system [] (clock system (suc horizon)).rows (come-home (suc horizon))) (clock-before system (takes_time system well) (suc horizon)) in
      ap (λ rows. unended system (past_of [] rows) horizon thread) (sym (on-core (home_of system thread) (suc horizon) known))
      ∙ (watched system).1 (clock system (suc horizon)).rows horizon thread (come-home (suc horizon)) up (waits-home thread)

  -- what a notification's core finds of it at the horizon
  pub untaken-home : (horizon note : ℕ) → note_home_of system note < system.cores
      → untaken system (before_on system (note_home_of system note) (suc horizon)) horizon note ≡ untaken system (before_of system (suc horizon)) horizon note
  untaken-home horizon note known =
      let up : UpTo horizon (before_of system (suc horizon)) = up-past horizon [] (clock system (suc horizon)).rows tt (come-order system [] (clock system (suc horizon)).rows (come-home (suc horizon))) (clock-before system (takes_time system well) (suc horizon)) in
      ap (λ rows. untaken system (past_of [] rows) horizon note) (sym (on-core (note_home_of system note) (suc horizon) known))
      ∙ (watched system).2 (clock system (suc horizon)).rows horizon note (come-home (suc horizon)) up
