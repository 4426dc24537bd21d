-- The counts of the cores over their rows are together the counts over all rows.
use Rattle.std.proofs.Common.{◌≡◌, ◌∙◌, ◌++◌, ◌∷◌, [], ℕ, zero, suc, ◌+◌, ◌-◌, ◌<◌, ◌≤◌, length, get_or, Bool, true, false, cond, if◌then◌else◌, nat_lt, ◌==◌, List, Option, Some, None, fold, append_assoc, ap, arith, refl, subst, sym}
use Rattle.std.specs.List.{range_with_len}
use Rattle.std.proofs.lemmas.Bool.{cond_both, eq-eqb}
use Rattle.std.proofs.lemmas.Bool.Decides.{nat_tests}
use Rattle.std.proofs.lemmas.List.{append_cancel_left}
use Rattle.std.proofs.lemmas.List.Elements.{filter-append}
use Rattle.mcs_ticks.specs.Capped.{capped, one_more}
use Rattle.mcs_ticks.specs.declared.row.Row.{Row}
use Rattle.mcs_ticks.specs.declared.row.What.{What}
use Rattle.mcs_ticks.specs.declared.row.What.TheVariants as row
use Rattle.mcs_system.specs.System.{System}
use Rattle.mcs_system.specs.WellFormed.{IsWellFormed}
use Rattle.mcs_core.specs.Clock.{clock, rows_of}
use Rattle.mcs_stretch.specs.Stretch.{rows_between}
use Rattle.mcs_verdict.specs.declared.finding.Finding.{Finding}
use Rattle.mcs_verdict.specs.declared.finding.Finding.TheVariants.{Miss, Overdue, Untaken, Lost, Never}
use Rattle.mcs_verdict.specs.declared.finding.Found.{Found}
use Rattle.mcs_verdict.specs.declared.held.Held.{Held}
use Rattle.mcs_verdict.specs.Findings.{finding, found_at, found_in, past_of}
use Rattle.mcs_verdict.specs.Words.{adds, firsts_of, held, held_after, merges, no_word}
use Rattle.mcs_verdict.specs.laws.ByCore.{rows_on, found_on, note_home_of, word_told, ComeHome, CoresAreWatched, IsAtHome}
use Rattle.mcs_check_lines.specs.declared.counts.Counts.{Counts}
use Rattle.mcs_verdict_laws.proofs.Standings.{past-append}
use Rattle.mcs_check_lines.specs.Counts.{no_counts, taken, together}
use Rattle.mcs_check.specs.stored.ByCore.{counts_on, counts_on_all}
use Rattle.mcs_check.specs.stored.Found.{before_of, counts_so_far}
use Rattle.mcs_check.specs.stored.Rows.{counted_at, counts_in}
use Rattle.mcs_check.proofs.ByCore.{Answer, answer-flat_map, rows-answer, rows-told, turns}
use Rattle.mcs_check.proofs.Finders.{counts-so-far}

-- numbers that are added up, however great they get
abbrev plus : Counts → Counts → Counts
plus a b =
    record {
      missed = a.missed + b.missed;
      overdue = a.overdue + b.overdue;
      untaken = a.untaken + b.untaken;
      lost = a.lost + b.lost;
      never = a.never + b.never;
      merged = a.merged + b.merged;
      allowed = a.allowed + b.allowed;
      hints = a.hints + b.hints;
    }

-- and as they are given
abbrev capped_all : Counts → Counts
capped_all a =
    record {
      missed = capped a.missed;
      overdue = capped a.overdue;
      untaken = capped a.untaken;
      lost = capped a.lost;
      never = capped a.never;
      merged = capped a.merged;
      allowed = capped a.allowed;
      hints = capped a.hints;
    }

plus-none : (a : Counts) → plus a no_counts ≡ a
plus-none a = grind arith

none-plus : (a : Counts) → plus no_counts a ≡ a
none-plus a = grind arith

plus-assoc : (a b c : Counts) → plus (plus a b) c ≡ plus a (plus b c)
plus-assoc a b c = grind arith

plus-both : (a b c d : Counts) → plus (plus a b) (plus c d) ≡ plus (plus a c) (plus b d)
plus-both a b c d = grind arith

together-capped : (a b : Counts) → together (capped_all a) (capped_all b) ≡ capped_all (plus a b)
together-capped a b = grind arith

abbrev with_merged : Bool → Counts → Counts
with_merged m counts = if m then record counts { merged = one_more counts.merged } else counts

counted-plus : (allowed : List Bool) (f : Option Finding) (m : Bool) (s : Counts)
    → taken allowed f (with_merged m (capped_all s)) ≡ capped_all (plus s (taken allowed f (with_merged m no_counts)))
counted-plus allowed None true s = grind arith
counted-plus allowed None false s = grind arith
counted-plus allowed (Some (Miss thread number response deadline activated queued stood)) true s = grind arith
counted-plus allowed (Some (Miss thread number response deadline activated queued stood)) false s = grind arith
counted-plus allowed (Some (Overdue thread number age deadline activated queued stood)) true s = grind arith
counted-plus allowed (Some (Overdue thread number age deadline activated queued stood)) false s = grind arith
counted-plus allowed (Some (Untaken note word age deadline set)) true s = grind arith
counted-plus allowed (Some (Untaken note word age deadline set)) false s = grind arith
counted-plus allowed (Some (Lost note word)) true s = grind arith
counted-plus allowed (Some (Lost note word)) false s = grind arith
counted-plus allowed (Some (Never thread deadline)) true s = grind arith
counted-plus allowed (Some (Never thread deadline)) false s = grind arith

-- the numbers of the cores from a on, n of them, added up
total : (ℕ → Counts) → ℕ → ℕ → Counts
total x zero a = no_counts
total x (suc n) a = plus (x a) (total x n (a + 1))

total-same : (x y : ℕ → Counts) (n a : ℕ) → ((c : ℕ) → x c ≡ y c) → total x n a ≡ total y n a
unfolding total
total-same x y zero a same = refl
total-same x y (suc n) a same = cc (same a, total-same x y n (a + 1) same)

total-plus : (x y : ℕ → Counts) (n a : ℕ) → total (λ c. plus (x c) (y c)) n a ≡ plus (total x n a) (total y n a)
unfolding total
total-plus x y zero a = refl
total-plus x y (suc n) a = ap (plus (plus (x a) (y a))) (total-plus x y n (a + 1)) ∙ plus-both (x a) (y a) (total x n (a + 1)) (total y n (a + 1))

total-zero : (n a : ℕ) → total (λ c. no_counts) n a ≡ no_counts
unfolding total
total-zero zero a = refl
total-zero (suc n) a = rw (total-zero n (a + 1)) refl

-- the count of one core, if it is not among them and if it is
total-none : (d : ℕ) (v : Counts) (n a : ℕ) → d < a → total (λ c. cond (d == c) v no_counts) n a ≡ no_counts
unfolding total
total-none d v zero a l = refl
total-none d v (suc n) a l =
    let other : (d == a) ≡ false = grind (arith, nat_tests) in
    rw (other, total-none d v n (a + 1) (omega arith)) refl

total-one : (d : ℕ) (v : Counts) (n a : ℕ) → a ≤ d → d < a + n → total (λ c. cond (d == c) v no_counts) n a ≡ v
unfolding total
total-one d v zero a l k = absurd (omega arith)
total-one d v (suc n) a l k = by (d == a) refl (λ m. total-one d v n (a + 1) m (omega arith))
  where
    by : (b : Bool) → (d == a) ≡ b → (a + 1 ≤ d → total (λ c. cond (d == c) v no_counts) n (a + 1) ≡ v) → plus (cond (d == a) v no_counts) (total (λ c. cond (d == c) v no_counts) n (a + 1)) ≡ v
    by true e rest = rw (e, total-none d v n (a + 1) (grind (arith, nat_tests))) (plus-none v)
    by false e rest = rw (e, rest (grind (arith, nat_tests))) (none-plus v)

-- counts of cores, each as it is given, are added up
fold-together : (f x : ℕ → Counts) (n a : ℕ) (s : Counts) → ((c : ℕ) → a ≤ c → c < a + n → f c ≡ capped_all (x c))
    → fold (λ counts c. together counts (f c)) (capped_all s) (range_with_len a n) ≡ capped_all (plus s (total x n a))
unfolding total
fold-together f x zero a s each = sym (ap capped_all (plus-none s))
fold-together f x (suc n) a s each =
    ap (λ counts. fold (λ counts c. together counts (f c)) counts (range_with_len (a + 1) n)) (ap (together (capped_all s)) (each a (omega arith) (omega arith)) ∙ together-capped s (x a))
    ∙ fold-together f x n (a + 1) (plus s (x a)) (λ c l k. each c (omega arith) (omega arith))
    ∙ ap capped_all (plus-assoc s (x a) (total x n (a + 1)))

-- a row that changes another word
held_after-other : (note m : ℕ) (what : What) (before : Held) → (word_told what ≡ Some note → ⊥) → held_after note m what before ≡ before
held_after-other note m what before other = grind (arith, nat_tests, other)

-- what is found of one row, as a list of it
same-finding : (m c : ℕ) (f g : Option Finding) → found_at m c f ++ [] ≡ found_on c (found_at m c g ++ []) → f ≡ g
same-finding m c None None e = refl
same-finding m c None (Some g) e = absurd (grind (arith, nat_tests, e))
same-finding m c (Some f) None e = absurd (cc)
same-finding m c (Some f) (Some g) e = grind (arith, nat_tests, e)

found-append : (system : System) (past rows more : List Row) → found_in system past (rows ++ more) ≡ found_in system past rows ++ found_in system (past_of past rows) more
found-append system past [] more = refl
found-append system past (r ∷ rows) more =
    let one = found_at r.moment r.core (finding system past r.moment r.what) in
    ap (λ xs. one ++ xs) (found-append system (r ∷ past) rows more)
    ∙ sym (append_assoc one (found_in system (r ∷ past) rows) (found_in system (past_of (r ∷ past) rows) more))

past-on : (c : ℕ) (past rows : List Row) → past_of (rows_on c past) (rows_on c rows) ≡ rows_on c (past_of past rows)
past-on c past [] = refl
past-on c past (r ∷ rows) = grind (arith, past-on c (r ∷ past) rows)

module _ (system : System) where
  -- rows at home
  abbrev AreHome : List Row → Type 0
  AreHome [] = Unit {0}
  AreHome (r ∷ past) = IsAtHome system r × AreHome past

  home-past : (past rows : List Row) → AreHome past → ComeHome system past rows → AreHome (past_of past rows)
  home-past past [] h come = h
  home-past past (r ∷ rows) h come = home-past (r ∷ past) rows (come.0, h) come.2

  home-first : (past rows more : List Row) → ComeHome system past (rows ++ more) → ComeHome system past rows × ComeHome system (past_of past rows) more
  home-first past [] more come = (tt, come)
  home-first past (r ∷ rows) more come = let rest = home-first (r ∷ past) rows more come.2 in ((come.0, come.1, rest.0), rest.1)

  -- the word of a notification of the core
  held-on : (first : Held) (c note : ℕ) (past : List Row) → note_home_of system note ≡ c → AreHome past
      → held first note (rows_on c past) ≡ held first note past
  held-on first c note [] home h = refl
  held-on first c note (r ∷ past) home h =
      let before = held-on first c note past home h.1 in
      cond_both (r.core == c) (r ∷ rows_on c past) (rows_on c past) (λ rows. held first note rows ≡ held first note (r ∷ past))
      (λ e. ap (held_after note r.moment r.what) before)
      (λ e. before ∙ sym (held_after-other note r.moment r.what (held first note past) (λ t. grind (arith, nat_tests, h.0.note note t))))

  -- whether a row of the core merges
  merges-on : (c : ℕ) (past : List Row) (what : What) → ((n : ℕ) → word_told what ≡ Some n → note_home_of system n ≡ c) → AreHome past
      → merges system (rows_on c past) what ≡ merges system past what
  merges-on c past (row.Release x) note h = refl
  merges-on c past (row.Run x) note h = refl
  merges-on c past (row.Stop x cause charged until) note h = refl
  merges-on c past (row.Signal x n badge) note h = refl
  merges-on c past (row.Arrive n badge maker) note h = refl
  merges-on c past (row.Wake x n word until) note h = refl
  merges-on c past (row.Hold n word) note h =
      let firsts = firsts_of system in
      ap (λ (held : Held). adds (cond (nat_lt n (length firsts)) held no_word).word word) (held-on (get_or firsts n no_word) c n past (note n refl) h)
  merges-on c past (row.Got x n word) note h = refl
  merges-on c past (row.Round x number response) note h = refl
  merges-on c past (row.Order context) note h = refl
  merges-on c past (row.Interrupt source n badge) note h = refl

  -- what is found at a row of the core
  module _ (watched : CoresAreWatched) (c : ℕ) (done : List Row) (r : Row) (here : r.core ≡ c) (come : ComeHome system [] (done ++ r ∷ [])) where
    one-more : rows_on c (done ++ r ∷ []) ≡ rows_on c done ++ r ∷ []
    one-more = filter-append (λ (r : Row). r.core == c) done (r ∷ []) ∙ rw (eq-eqb r.core c here) refl

    abbrev alone : List Row
    alone = past_of [] (rows_on c done)

    abbrev all : List Row
    all = past_of [] done

    finding-on : finding system alone r.moment r.what ≡ finding system all r.moment r.what
    finding-on =
        same-finding r.moment c _ _
        (append_cancel_left (found_in system [] (rows_on c done)) _ _
        (subst (λ core. found_in system [] (rows_on c done) ++ (found_at r.moment core (finding system alone r.moment r.what) ++ []) ≡ found_in system [] (rows_on c done) ++ found_on c (found_at r.moment core (finding system all r.moment r.what) ++ [])) here
        (sym (found-append system [] (rows_on c done) (r ∷ []))
        ∙ sym (ap (found_in system []) one-more)
        ∙ (watched system).0 (done ++ r ∷ []) c come
        ∙ ap (found_on c) (found-append system [] done (r ∷ []))
        ∙ filter-append (λ (f : Found). f.core == c) (found_in system [] done) (found_at r.moment r.core (finding system all r.moment r.what) ++ [])
        ∙ ap (λ xs. xs ++ found_on c (found_at r.moment r.core (finding system all r.moment r.what) ++ [])) (sym ((watched system).0 done c (home-first [] done (r ∷ []) come).0)))))

module _ (system : System) (allowed : List Bool) where
  -- what is counted of one row, and of rows that come after these
  abbrev one : List Row → Row → Counts
  one past r = counted_at system allowed past r no_counts

  tally : List Row → List Row → Counts
  tally past [] = no_counts
  tally past (r ∷ rows) = plus (one past r) (tally (r ∷ past) rows)

  counts-in : (past rows : List Row) (s : Counts) → counts_in system allowed past rows (capped_all s) ≡ capped_all (plus s (tally past rows))
  unfolding tally
  counts-in past [] s = sym (ap capped_all (plus-none s))
  counts-in past (r ∷ rows) s =
      ap (counts_in system allowed (r ∷ past) rows) (counted-plus allowed (finding system past r.moment r.what) (merges system past r.what) s)
      ∙ counts-in (r ∷ past) rows (plus s (one past r))
      ∙ ap capped_all (plus-assoc s (one past r) (tally (r ∷ past) rows))

  tally-is : (rows : List Row) → counts_so_far system allowed (past_of [] rows) ≡ capped_all (tally [] rows)
  tally-is rows = counts-so-far system allowed [] rows ∙ counts-in [] rows no_counts ∙ ap capped_all (none-plus (tally [] rows))

  module _ (watched : CoresAreWatched) where
    -- a core counts one more row as all rows do if the row is on it, and else counts 0
    tally-on : (c : ℕ) (done : List Row) (r : Row) (rows : List Row) → ComeHome system [] (done ++ r ∷ [])
        → tally (rows_on c (past_of [] done)) (rows_on c (r ∷ rows)) ≡ plus (cond (r.core == c) (one (past_of [] done) r) no_counts) (tally (rows_on c (r ∷ past_of [] done)) (rows_on c rows))
    unfolding tally
    tally-on c done r rows come = by (r.core == c) refl
      where
        past : List Row
        past = past_of [] done

        some : List Row
        some = rows_on c past

        same : r.core ≡ c → one some r ≡ one past r
        same here =
            let parts = home-first system [] done (r ∷ []) come in
            let at : IsAtHome system r = parts.1.0 in
            let found : finding system some r.moment r.what ≡ finding system past r.moment r.what =
            ap (λ xs. finding system xs r.moment r.what) (sym (past-on c [] done)) ∙ finding-on system watched c done r here come in
            let merged : merges system some r.what ≡ merges system past r.what = merges-on system c past r.what (λ n t. at.note n t ∙ here) (home-past system [] done tt parts.0) in
            ap (λ f. taken allowed f (with_merged (merges system some r.what) no_counts)) found
            ∙ ap (λ m. taken allowed (finding system past r.moment r.what) (with_merged m no_counts)) merged

        by : (b : Bool) → (r.core == c) ≡ b → tally some (rows_on c (r ∷ rows)) ≡ plus (cond (r.core == c) (one past r) no_counts) (tally (rows_on c (r ∷ past)) (rows_on c rows))
        by true e =
            let here : r.core ≡ c = grind (arith, nat_tests) in
            rw e (ap (λ n. plus n (tally (r ∷ some) (rows_on c rows))) (same here))
        by false e = rw e (sym (none-plus (tally some (rows_on c rows))))

    -- the cores count together what all count
    tallies : (done rows : List Row) → ComeHome system [] (done ++ rows) → Answer (λ m c. nat_lt c system.cores) true rows
        → total (λ c. tally (rows_on c (past_of [] done)) (rows_on c rows)) system.cores 0 ≡ tally (past_of [] done) rows
    unfolding tally
    tallies done [] come known = total-zero system.cores 0
    tallies done (r ∷ rows) come known =
        let past = past_of [] done in
        let next : ComeHome system [] ((done ++ r ∷ []) ++ rows) = subst (ComeHome system []) (sym (append_assoc done (r ∷ []) rows)) come in
        let first : ComeHome system [] (done ++ r ∷ []) = (home-first system [] (done ++ r ∷ []) rows next).0 in
        let core : r.core < system.cores = grind (arith, nat_tests, known.0) in
        let rest : total (λ c. tally (rows_on c (r ∷ past)) (rows_on c rows)) system.cores 0 ≡ tally (r ∷ past) rows =
        subst (λ xs. total (λ c. tally (rows_on c xs) (rows_on c rows)) system.cores 0 ≡ tally xs rows) (past-append [] done (r ∷ [])) (tallies (done ++ r ∷ []) rows next known.1) in
        total-same _ (λ c. plus (cond (r.core == c) (one past r) no_counts) (tally (rows_on c (r ∷ past)) (rows_on c rows))) system.cores 0 (λ c. tally-on c done r rows first)
        ∙ total-plus (λ c. cond (r.core == c) (one past r) no_counts) (λ c. tally (rows_on c (r ∷ past)) (rows_on c rows)) system.cores 0
        ∙ ap (λ n. plus n (total (λ c. tally (rows_on c (r ∷ past)) (rows_on c rows)) system.cores 0)) (total-one r.core (one past r) system.cores 0 (omega arith) (omega arith))
        ∙ ap (plus (one past r)) rest

-- each row is one of a core that there is
rows-known : (system : System) → IsWellFormed system → (t : ℕ) → Answer (λ m c. nat_lt c system.cores) true (clock system t).rows
rows-known system well t =
    subst (Answer (λ m c. nat_lt c system.cores) true) (sym (rows-told system well 0 t (omega arith)))
    (answer-flat_map (λ m c. nat_lt c system.cores) true (λ m. turns system m 0 system.cores) (t - 0) 0
    (λ m l k. answer-flat_map (λ m c. nat_lt c system.cores) true (λ c. rows_of system c m) system.cores 0 (λ c i j. rows-answer system (λ m c. nat_lt c system.cores) true c m (grind (arith, nat_tests)))))

module _ (system : System) (well : IsWellFormed system) (come-home : (t : ℕ) → ComeHome system [] (clock system t).rows)
    (on-core : (c t : ℕ) → c < system.cores → rows_on c (clock system t).rows ≡ rows_between system c 0 t) (watched : CoresAreWatched) where
  pub counts-together : (allowed : List Bool) (t : ℕ) → counts_on_all system allowed t ≡ counts_so_far system allowed (before_of system t)
  counts-together allowed t =
      fold-together (λ c. counts_on system allowed c t) (λ c. tally system allowed [] (rows_on c (clock system t).rows)) system.cores 0 no_counts
      (λ c l k. ap (λ rows. counts_so_far system allowed (past_of [] rows)) (sym (on-core c t (omega arith))) ∙ tally-is system allowed (rows_on c (clock system t).rows))
      ∙ ap capped_all (none-plus (total (λ c. tally system allowed [] (rows_on c (clock system t).rows)) system.cores 0)
      ∙ tallies system allowed watched [] (clock system t).rows (come-home t) (rows-known system well t))
      ∙ sym (tally-is system allowed (clock system t).rows)
