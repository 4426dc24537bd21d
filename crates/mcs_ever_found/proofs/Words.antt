-- Each word of a group that recurs in its findings goes on as is known at the end of the first
-- period.
use Rattle.std.proofs.Common.{◌≡◌, ◌≢◌, ℕ, zero, suc, ◌+◌, ◌-◌, ◌^◌, ◌<◌, ◌≤◌, ◌⊎◌, inl, inr, Bool, true, false, cond, not, ◌==◌, ◌&&◌, List, [], ◌∷◌, ◌++◌, length, get_or, refl, sym, ap, subst, ◌∙◌, Option, Some, None, arith}
use Rattle.std.specs.Prelude.{bit_or, max, nat_lt, nat_le, filter, flat_map}
use Rattle.std.specs.List.{AllByRecursion, list_any, list_all, range_with_len}
use Rattle.std.proofs.lemmas.Bool.Decides.{nat_tests}
use Rattle.std.proofs.lemmas.List.{get_or_past}
use Rattle.std.proofs.lemmas.Nat.{le_or_l}
use Rattle.mcs_ticks.specs.declared.row.Row.{Row}
use Rattle.mcs_ticks.specs.declared.row.What.{What}
use Rattle.mcs_ticks.specs.declared.row.What.TheVariants as row
use Rattle.mcs_system.specs.declared.part.ThreadPart.{ThreadPart}
use Rattle.mcs_system.specs.System.{System, no_thread, thread_part, note_part, core_of}
use Rattle.mcs_system.specs.WellFormed.{IsWellFormed}
use Rattle.mcs_core.specs.Clock.{clock, schedule, turn_of, rows_of}
use Rattle.mcs_core.proofs.Clock.{rows-clock}
use Rattle.mcs_laws.proofs.Histories.{takes-time}
use Rattle.mcs_verdict.specs.declared.finding.Finding.{Finding}
use Rattle.mcs_verdict.specs.declared.finding.Finding.TheVariants.{Untaken}
use Rattle.mcs_verdict.specs.declared.held.Held.{Held}
use Rattle.mcs_verdict.specs.Calls.{first_wait, is_set, bits_of}
use Rattle.mcs_verdict.specs.Due.{calls_each, untaken_by, untaken}
use Rattle.mcs_verdict.specs.Findings.{UpTo, past_of}
use Rattle.mcs_verdict.specs.Takers.{takers, begins_with_deadline, greatest, due_by, due_of, waits_on}
use Rattle.mcs_verdict.specs.Words.{held_with, gave, taken, held_after, firsts_of}
use Rattle.mcs_verdict_laws.specs.laws.Fate.{untaken_from, overdue_from, IsUntaken, WasTaken, IsOverdue, HasMissed}
use Rattle.mcs_verdict_laws.specs.laws.Horizons.{has_miss_of}
use Rattle.mcs_verdict_laws.proofs.Due.{set-is, heard-there, due-there, known-held, MayTake, one-taker, calls-one, calls-each-or}
use Rattle.mcs_verdict_laws.proofs.Fate.{IsUntakenBy, untaken-is}
use Rattle.mcs_verdict_laws.proofs.Fits.{held_in, Fits}
use Rattle.mcs_verdict_laws.proofs.Horizons.{missed-one, untaken-ends}
use Rattle.mcs_verdict_laws.proofs.Order.{in_order}
use Rattle.mcs_verdict_laws.proofs.Steps.{contrary}
use Rattle.mcs_ever.specs.Recurs.{Shifts, shift_of}
use Rattle.mcs_ever.specs.laws.Home.{IsOfOwn}
use Rattle.mcs_ever.proofs.Home.{rows-of-own}
use Rattle.mcs_ever.proofs.Repeats.{forever}
use Rattle.mcs_ever.proofs.Schedules.{each-turn, all-turns}
use Rattle.mcs_ever_found.specs.Period.{far, is_taken_in_period, abandoned_word}
use Rattle.mcs_ever_found.specs.Recurs.{takes_word, TakesNoWord, past_before, FindingsRecur}
use Rattle.mcs_ever_found.specs.laws.GoOn.{untaken_up_to, WordGoesOn, WordsGoOn}
use Rattle.mcs_ever_found.specs.laws.Never.{told_up_to, IsInTime}
use Rattle.mcs_ever_found.specs.laws.Repeats.{rows_at}
use Rattle.mcs_ever_found.proofs.Alike.{at}
use Rattle.mcs_ever_found.proofs.Carried.{all-true, all-map, carried}
use Rattle.mcs_ever_found.proofs.Lows.{since-low}
use Rattle.mcs_ever_found.proofs.Moments.{alike, past-next}
use Rattle.mcs_ever_found.proofs.Open.{some-same, none-some}
use Rattle.mcs_ever_found.proofs.Periods.{both-all, stamps, of-all, told, told-rows, done-told, not-in-period}
use Rattle.mcs_ever_found.proofs.Quiet.{later-takes, away-takes, takes-none}

none-found : (found : Finding) → None ≡ Some found → ⊥
none-found found e = cc

some-more : (a n : ℕ) → a ≤ n → (a == 0) ≡ false → (n == 0) ≡ false
some-more a n l e = grind (arith, nat_tests)

-- no deadline of a notification is longer than the longest one of a thread
greatest-low : (note n : ℕ) (threads : List ThreadPart) → ((i : ℕ) → i < length threads → (get_or threads i no_thread).deadline ≤ n) → greatest (takers note threads) ≤ n
greatest-low note n [] h = omega arith
greatest-low note n (part ∷ threads) h =
    by (list_any (waits_on note) part.script) (greatest-low note n threads (λ i l. h (suc i) (omega (arith, l))))
  where
    by : (b : Bool) → greatest (takers note threads) ≤ n → greatest (cond b (part ∷ takers note threads) (takers note threads)) ≤ n
    by true l = let k = h 0 (omega arith) in omega (arith, l, k)
    by false l = l

due-low : (note n due : ℕ) (parts : List ThreadPart) → greatest parts ≤ n → due_by note parts ≡ Some due → due ≤ n
due-low note n due [] l e = absurd (none-some due e)
due-low note n due (part ∷ parts) l e = by (list_all (begins_with_deadline note) (part ∷ parts)) e
  where
    by : (b : Bool) → cond b (Some (greatest (part ∷ parts))) None ≡ Some due → due ≤ n
    by true f = let same = some-same (greatest (part ∷ parts)) due f in omega (arith, same, l)
    by false f = absurd (none-some due f)

-- a word that is held, or was taken
module _ (system : System) (n : ℕ) where
  abbrev holds : List Row → Held
  holds past = held_in system n past

  -- right after it was taken, and later in the same moment, it is 0, or was set then
  abbrev IsNew : ℕ → List Row → Type 0
  IsNew t past = ((holds past).word ≡ 0) ⊎ (t ≤ (holds past).since)

  new-taken : (t c m : ℕ) (what : What) (past : List Row) → takes_word n what ≡ true → IsNew t (at m c what ∷ past)
  new-taken t c m (row.Got x y word) past e =
      inl (ap (λ b. (cond b (taken word (holds past)) (holds past)).word) e)
  new-taken t c m (row.Round x number response) past e = absurd (contrary false refl e)
  new-taken t c m (row.Stop x cause charged until) past e = absurd (contrary false refl e)
  new-taken t c m (row.Wake x y word until) past e = absurd (contrary false refl e)
  new-taken t c m (row.Release x) past e = absurd (contrary false refl e)
  new-taken t c m (row.Run x) past e = absurd (contrary false refl e)
  new-taken t c m (row.Signal x y badge) past e = absurd (contrary false refl e)
  new-taken t c m (row.Arrive y badge maker) past e = absurd (contrary false refl e)
  new-taken t c m (row.Hold y word) past e = absurd (contrary false refl e)
  new-taken t c m (row.Order context) past e = absurd (contrary false refl e)
  new-taken t c m (row.Interrupt source at_note badge) past e = absurd (contrary false refl e)

  new-row : (t c m : ℕ) (what : What) (past : List Row) → m ≡ t → IsNew t past → IsNew t (at m c what ∷ past)
  new-row t c m (row.Hold y word) past same q = by (y == n)
    where
      set : (b : Bool) → is_set (holds past).bits (holds past).word ≡ b → ((holds past).word ≡ 0) ⊎ (t ≤ (holds past).since) → t ≤ cond b (holds past).since m
      set false f k = omega (arith, same)
      set true f (inr l) = l
      set true f (inl z) = absurd (contrary (is_set (holds past).bits (holds past).word) (ap (is_set (holds past).bits) z) f)

      by : (b : Bool) → ((cond b (held_with m word (holds past)) (holds past)).word ≡ 0) ⊎ (t ≤ (cond b (held_with m word (holds past)) (holds past)).since)
      by true = inr (set (is_set (holds past).bits (holds past).word) refl q)
      by false = q
  new-row t c m (row.Got x y word) past same q = by (y == n)
    where
      by : (b : Bool) → ((cond b (taken word (holds past)) (holds past)).word ≡ 0) ⊎ (t ≤ (cond b (taken word (holds past)) (holds past)).since)
      by true = inl refl
      by false = q
  new-row t c m (row.Wake x y word until) past same q = by (y == n)
    where
      by : (b : Bool) → ((cond b (gave word (holds past)) (holds past)).word ≡ 0) ⊎ (t ≤ (cond b (gave word (holds past)) (holds past)).since)
      by true = q
      by false = q
  new-row t c m (row.Round x number response) past same q = q
  new-row t c m (row.Stop x cause charged until) past same q = q
  new-row t c m (row.Release x) past same q = q
  new-row t c m (row.Run x) past same q = q
  new-row t c m (row.Signal x y badge) past same q = q
  new-row t c m (row.Arrive y badge maker) past same q = q
  new-row t c m (row.Order context) past same q = q
  new-row t c m (row.Interrupt source at_note badge) past same q = q

  new-rows : (t : ℕ) (past rows : List Row) → AllByRecursion (λ (r : Row). r.moment ≡ t) rows → IsNew t past → IsNew t (past_of past rows)
  new-rows t past [] all q = q
  new-rows t past (r ∷ rows) all q = new-rows t (r ∷ past) rows all.1 (new-row t r.core r.moment r.what past all.0 q)

  taken-or : (t : ℕ) (past rows : List Row) → AllByRecursion (λ (r : Row). r.moment ≡ t) rows
      → AllByRecursion (λ (r : Row). takes_word n r.what ≡ false) rows ⊎ IsNew t (past_of past rows)
  taken-or t past [] all = inl tt
  taken-or t past (r ∷ rows) all = by (takes_word n r.what) refl (taken-or t (r ∷ past) rows all.1)
    where
      by : (b : Bool) → takes_word n r.what ≡ b → AllByRecursion (λ (r : Row). takes_word n r.what ≡ false) rows ⊎ IsNew t (past_of (r ∷ past) rows)
          → AllByRecursion (λ (r : Row). takes_word n r.what ≡ false) (r ∷ rows) ⊎ IsNew t (past_of (r ∷ past) rows)
      by true e rest = inr (new-rows t (r ∷ past) rows all.1 (new-taken t r.core r.moment r.what past e))
      by false e (inl rest) = inl (e, rest)
      by false e (inr new) = inr new

module _ (system : System) (group : ℕ → Bool) (shifts : Shifts) (from : ℕ) (well : IsWellFormed system) (recur : FindingsRecur system group shifts from)
    (n : ℕ) (known : n < length system.notes) (own : group (note_part system n).core ≡ true) where
  abbrev d : ℕ
  d = shifts.by

  abbrev end : ℕ
  end = from + shifts.by

  abbrev last : ℕ
  last = from + shifts.by - 1

  abbrev past : ℕ → List Row
  past t = past_before system t

  abbrev word : ℕ → ℕ
  word t = (held_in system n (past_before system t)).word

  abbrev since : ℕ → ℕ
  since t = (held_in system n (past_before system t)).since

  abbrev due : Option ℕ
  due = due_of n system.threads

  some : 1 ≤ shifts.by
  some = recur.recurs.some

  last-is : suc last ≡ end
  last-is = omega (arith, some)

  near : from + shifts.by ≤ 2 ^ 41
  near = recur.near

  up-last : UpTo last (past end)
  up-last = let P : ℕ → Type 0 = λ t. UpTo last (past_before system t) in subst P last-is (in_order system well last).1

  -- the word is the same a period later
  word-later : (t : ℕ) → from ≤ t → word (t + d) ≡ word t
  word-later t l = (alike system group shifts from well recur t l).words n known own

  -- there is a later horizon at which it is as at the end of the period
  pub record Reached (m : ℕ) : Type 0 where
    pub horizon : ℕ
    pub from_m : m ≤ horizon
    pub from_last : last ≤ horizon
    pub same : word (suc horizon) ≡ word end

  reach : (m : ℕ) → Reached m
  reach zero = record { horizon = last; from_m = omega arith; from_last = omega arith; same = ap word last-is }
  reach (suc m) =
      let r = reach m in
      let l = r.from_m in
      let k = r.from_last in
      let e : suc (r.horizon + d) ≡ suc r.horizon + d = omega arith in
      record {
        horizon = r.horizon + d;
        from_m = omega (arith, l, some);
        from_last = omega (arith, k);
        same = ap word e ∙ word-later (suc r.horizon) (omega (arith, k)) ∙ r.same;
      }

  -- what is untaken, by the word
  untaken-by : (rows : List Row) (h : ℕ) → untaken system rows h n ≡ untaken_by h n (held_in system n rows) due (calls_each n (held_in system n rows).word system.threads)
  untaken-by rows h =
      ap (λ (held : Held). untaken_by h n held held.due (calls_each n held.word system.threads)) (known-held system n rows known)
      ∙ ap (λ due. untaken_by h n (held_in system n rows) due (calls_each n (held_in system n rows).word system.threads)) (due-there system n rows known)

  abbrev test : ℕ → ℕ → Held → Bool
  test h limit held = (not (held.word == 0) && calls_each n held.word system.threads) && nat_le limit (h - held.since)

  untaken-test : (rows : List Row) (h limit : ℕ) → due ≡ Some limit
      → untaken system rows h n ≡ cond (test h limit (held_in system n rows))
      (Some (Untaken n (held_in system n rows).word (h - (held_in system n rows).since) limit (held_in system n rows).since)) None
  untaken-test rows h limit e = untaken-by rows h ∙ ap (λ due. untaken_by h n (held_in system n rows) due (calls_each n (held_in system n rows).word system.threads)) e

  no-due : (rows : List Row) (h : ℕ) → due ≡ None → untaken system rows h n ≡ None
  no-due rows h e = untaken-by rows h ∙ ap (λ due. untaken_by h n (held_in system n rows) due (calls_each n (held_in system n rows).word system.threads)) e

  limit-low : (limit : ℕ) → due ≡ Some limit → limit ≤ 2 ^ 40
  limit-low limit e =
      due-low n (2 ^ 40) limit (takers n system.threads)
      (greatest-low n (2 ^ 40) system.threads (λ i l. (well.threads i no_thread l).deadline)) e

  late-far : (limit : ℕ) → due ≡ Some limit → nat_le limit (far - since end) ≡ true
  late-far limit e =
      let l = limit-low limit e in
      let s = since-low system n last (past end) up-last in
      let k = near in
      let m : limit ≤ far - since end = omega (arith, l, s, k, some) in
      grind (arith, nat_tests)

  -- a line of an untaken word says when it was set
  from-none : (rows : List Row) (h : ℕ) → untaken_from (untaken system rows h n) ≡ None → untaken system rows h n ≡ None
  from-none rows h e = by due refl
    where
      by : (o : Option ℕ) → due ≡ o → untaken system rows h n ≡ None
      by None f = no-due rows h f
      by (Some limit) f = untaken-test rows h limit f ∙ or (test h limit (held_in system n rows)) (sym (ap untaken_from (untaken-test rows h limit f)) ∙ e)
        where
          found : Finding
          found = Untaken n (held_in system n rows).word (h - (held_in system n rows).since) limit (held_in system n rows).since

          or : (b : Bool) → untaken_from (cond b (Some found) None) ≡ None → cond b (Some found) None ≡ None
          or false g = refl
          or true g = absurd (none-some (held_in system n rows).since (sym g))

  -- where the word is as at the end of the period, nothing is untaken if nothing is at a far horizon
  none-there : untaken system (past end) far n ≡ None → (h : ℕ) → word (suc h) ≡ word end → untaken system (past (suc h)) h n ≡ None
  none-there none h same = by due refl
    where
      by : (o : Option ℕ) → due ≡ o → untaken system (past (suc h)) h n ≡ None
      by None e = no-due (past (suc h)) h e
      by (Some limit) e =
          untaken-test (past (suc h)) h limit e
          ∙ ap (λ b. cond (b && nat_le limit (h - since (suc h))) (Some (Untaken n (word (suc h)) (h - since (suc h)) limit (since (suc h)))) None)
          (ap (λ w. not (w == 0) && calls_each n w system.threads) same ∙ unset)
        where
          unset : (not (word end == 0) && calls_each n (word end) system.threads) ≡ false
          unset = or (not (word end == 0) && calls_each n (word end) system.threads) (sym (untaken-test (past end) far limit e) ∙ none)
            where
              or : (b : Bool) → cond (b && nat_le limit (far - since end)) (Some (Untaken n (word end) (far - since end) limit (since end))) None ≡ None → b ≡ false
              or false f = refl
              or true f =
                  absurd
                  (none-found (Untaken n (word end) (far - since end) limit (since end))
                  (sym f ∙ ap (λ c. cond c (Some (Untaken n (word end) (far - since end) limit (since end))) None) (late-far limit e)))

  -- each thread that waits for it first is in time for ever
  module _ (in_time : (x : ℕ) → x < length system.threads → first_wait (thread_part system x) ≡ Some n → (h : ℕ) → IsInTime system h x) where
    there : (x : ℕ) → first_wait (thread_part system x) ≡ Some n → x < length system.threads
    there x e = by (nat_lt x (length system.threads)) refl
      where
        by : (b : Bool) → nat_lt x (length system.threads) ≡ b → x < length system.threads
        by true f = grind (arith, nat_tests)
        by false f =
            let low : length system.threads ≤ x = grind (arith, nat_tests) in
            absurd (none-some n (sym (ap first_wait (get_or_past system.threads x no_thread low)) ∙ e))

    -- an untaken word stays so
    stays : (h k s : ℕ) → h ≤ k → IsUntaken system h n s → IsUntaken system k n s
    stays h k s l e = by (untaken-ends system well n h k s l e)
      where
        not-late : (w : WasTaken system h k n s) → IsOverdue system k w.thread s ⊎ HasMissed system h k w.thread s → ⊥
        not-late w (inl late) =
            none-some s (sym (ap overdue_from (in_time w.thread (there w.thread w.waits) w.waits k).overdue) ∙ late)
        not-late w (inr missed) =
            contrary (has_miss_of w.thread (told_up_to system k)) (in_time w.thread (there w.thread w.waits) w.waits k).missed
            (missed-one h w.thread s (told_up_to system k) missed)

        by : IsUntaken system k n s ⊎ WasTaken system h k n s → IsUntaken system k n s
        by (inl stays) = stays
        by (inr w) = absurd (not-late w w.late)

    -- nobody takes the word in the period
    none-left : untaken system (past end) far n ≡ None → (h : ℕ) → untaken system (past (suc h)) h n ≡ None
    none-left none h = from-none (past (suc h)) h (by (untaken_from (untaken system (past (suc h)) h n)) refl)
      where
        r : Reached h
        r = reach h

        by : (o : Option ℕ) → untaken_from (untaken system (past (suc h)) h n) ≡ o → o ≡ None
        by None e = refl
        by (Some s) e =
            absurd
            (none-some s
            (sym (ap untaken_from (none-there none r.horizon r.same)) ∙ stays h r.horizon s r.from_m e))

    -- somebody does
    module _ (h s : ℕ) (untaken_at : IsUntaken system h n s) where
      is-by : IsUntakenBy system n h s (past (suc h))
      is-by = untaken-is system n h s (past (suc h)) untaken_at

      earlier : s < h
      earlier =
          let one = one-taker system n is-by.due is-by.own in
          let within = one.1.within in
          let some = positive (thread_part system one.0).deadline one.1.some in
          let late = reach-of is-by.due (h - s) is-by.late in
          omega (arith, within, some, late)
        where
          positive : (m : ℕ) → (m == 0) ≡ false → 1 ≤ m
          positive m e = grind (arith, nat_tests)

          reach-of : (p q : ℕ) → nat_le p q ≡ true → p ≤ q
          reach-of p q e = grind (arith, nat_tests)

      not-new : (t : ℕ) → suc h ≤ t → IsNew system n t (past (suc t)) → ⊥
      not-new t l q = by q
        where
          is : IsUntakenBy system n t s (past (suc t))
          is = untaken-is system n t s (past (suc t)) (stays h t s (omega (arith, l)) untaken_at)

          zero-not : (w : ℕ) → (w == 0) ≡ false → w ≡ 0 → ⊥
          zero-not w e f = grind (arith, nat_tests)

          by : ((held_in system n (past (suc t))).word ≡ 0) ⊎ (t ≤ (held_in system n (past (suc t))).since) → ⊥
          by (inl z) = zero-not (held_in system n (past (suc t))).word is.is.word z
          by (inr m) = let e = is.is.since in let k = earlier in omega (arith, m, e, k, l)

      moments : (t : ℕ) → AllByRecursion (λ (r : Row). r.moment ≡ t) (rows_at system t)
      moments t =
          of-all (λ (r : Row). r.moment ≡ t) (λ c. rows_of system c t) system.cores 0
          (λ c l. stamps (λ (r : Row). r.moment ≡ t) c t (turn_of system c t).rows (all-true (λ what. t ≡ t) (λ what. refl) (turn_of system c t).rows))

      none-at : (t : ℕ) → suc h ≤ t → AllByRecursion (λ (r : Row). takes_word n r.what ≡ false) (rows_at system t)
      none-at t l = by (taken-or system n t (past t) (rows_at system t) (moments t))
        where
          by : AllByRecursion (λ (r : Row). takes_word n r.what ≡ false) (rows_at system t) ⊎ IsNew system n t (past_of (past t) (rows_at system t))
              → AllByRecursion (λ (r : Row). takes_word n r.what ≡ false) (rows_at system t)
          by (inl all) = all
          by (inr new) =
              let P : List Row → Type 0 = λ rows. IsNew system n t rows in
              absurd (not-new t l (subst P (sym (past-next system well t)) new))

      abbrev Then : ℕ → Row → Type 0
      Then t r = (nat_le t r.moment && takes_word n r.what) ≡ false

      and-false : (b : Bool) → (b && false) ≡ false
      and-false true = refl
      and-false false = refl

      soon : (t m : ℕ) → m < t → nat_le t m ≡ false
      soon t m l = grind (arith, nat_tests)

      self-le : (t : ℕ) → nat_le t t ≡ true
      self-le t = grind (arith, nat_tests)

      none-after : (t c : ℕ) → suc h ≤ t → c < system.cores → AllByRecursion (λ what. takes_word n what ≡ false) (turn_of system c t).rows
      none-after t c l k =
          let P : List Row → Type 0 = λ rows. AllByRecursion (Then t) rows in
          all-map (λ what. (nat_le t t && takes_word n what) ≡ false) (λ what. takes_word n what ≡ false)
          (λ what e. sym (ap (λ b. b && takes_word n what) (self-le t)) ∙ e) (turn_of system c t).rows
          (each-turn (Then t) system well (suc t) t c (omega arith) k
          (subst P (sym (rows-clock system (takes-time system well) t))
          (both-all (Then t) (clock system t).rows (rows_at system t)
          (all-turns (Then t) system well t (λ m c l k. all-true (λ what. (nat_le t m && takes_word n what) ≡ false) (λ what. ap (λ b. b && takes_word n what) (soon t m l)) (turn_of system c m).rows))
          (all-map (λ (r : Row). takes_word n r.what ≡ false) (Then t) (λ (r : Row) e. ap (λ b. nat_le t r.moment && b) e ∙ and-false (nat_le t r.moment)) (rows_at system t) (none-at t l)))))

      not-taken : is_taken_in_period system shifts.by from n ≡ false
      not-taken =
          not-in-period system group shifts from well recur.recurs (takes_word n) (λ shift what. later-takes shift n what)
          (λ c what away o. away-takes system group n c what own away o) (suc h) none-after

    none-taken : is_taken_in_period system shifts.by from n ≡ true → (h : ℕ) → untaken system (past (suc h)) h n ≡ None
    none-taken takes h = from-none (past (suc h)) h (by (untaken_from (untaken system (past (suc h)) h n)) refl)
      where
        by : (o : Option ℕ) → untaken_from (untaken system (past (suc h)) h n) ≡ o → o ≡ None
        by None e = refl
        by (Some s) e = absurd (contrary (is_taken_in_period system shifts.by from n) (not-taken h s e) takes)

  -- nobody takes the word in the period
  module _ (none : is_taken_in_period system shifts.by from n ≡ false) where
    first : TakesNoWord system n from (from + shifts.by)
    first =
        takes-none system group shifts from well recur.recurs (told system well from shifts.by) (told-rows system well from shifts.by) n own
        (ap (list_any (takes_word n)) (sym (done-told system well from shifts.by)) ∙ none)

    come : (t : ℕ) → from ≤ t → nat_le from t ≡ true
    come t l = grind (arith, nat_tests)

    facts : (t c : ℕ) → from ≤ t → c < system.cores → AllByRecursion (λ what. takes_word n what ≡ false) (turn_of system c t).rows
    facts t c l k = by (group c) refl
      where
        by : (b : Bool) → group c ≡ b → AllByRecursion (λ what. takes_word n what ≡ false) (turn_of system c t).rows
        by true is =
            forever system group shifts from well recur.recurs (λ c what. takes_word n what ≡ false) (λ c what h. later-takes (shift_of shifts c) n what ∙ h)
            from (omega arith)
            (λ t c since within k is. all-map (λ what. (nat_le from t && takes_word n what) ≡ false) (λ what. takes_word n what ≡ false)
            (λ what h. sym (ap (λ b. b && takes_word n what) (come t since)) ∙ h) (turn_of system c t).rows
            (each-turn (λ (r : Row). (nat_le from r.moment && takes_word n r.what) ≡ false) system well (suc (from + shifts.by)) t c (omega (arith, within)) k first)) t c l k is
        by false away =
            all-map (IsOfOwn system c) (λ what. takes_word n what ≡ false) (λ what o. away-takes system group n c what own away o) (turn_of system c t).rows
            (rows-of-own system well c t k)

    module _ (limit : ℕ) (has_due : due ≡ Some limit) where
      abbrev one : ℕ
      one = (one-taker system n limit has_due).0

      waits : first_wait (thread_part system one) ≡ Some n
      waits = (one-taker system n limit has_due).1.waits

      -- the word is set since then, and is at least this number
      pub record IsKept (s low : ℕ) (rows : List Row) : Type 0 where
        pub word_set : ((held_in system n rows).word == 0) ≡ false
        pub each : calls_each n (held_in system n rows).word system.threads ≡ true
        pub since_is : (held_in system n rows).since ≡ s
        pub at_least : low ≤ (held_in system n rows).word

      kept-same : (s low c t : ℕ) (what : What) (rows : List Row) → (held_in system n (at t c what ∷ rows)).word ≡ (held_in system n rows).word
          → (held_in system n (at t c what ∷ rows)).since ≡ (held_in system n rows).since → IsKept s low rows → IsKept s low (at t c what ∷ rows)
      kept-same s low c t what rows e f q =
          record {
            word_set = ap (λ w. w == 0) e ∙ q.word_set;
            each = ap (λ w. calls_each n w system.threads) e ∙ q.each;
            since_is = f ∙ q.since_is;
            at_least = let l = q.at_least in omega (arith, l, e);
          }

      kept-row : (s low c t : ℕ) (what : What) (rows : List Row) → takes_word n what ≡ false → Fits system one rows t what → IsKept s low rows
          → IsKept s low (at t c what ∷ rows)
      kept-row s low c t (row.Hold y w) rows none fits q = by (y == n) refl
        where
          before : Held
          before = held_in system n rows

          by : (b : Bool) → (y == n) ≡ b → IsKept s low (at t c (row.Hold y w) ∷ rows)
          by false e =
              kept-same s low c t (row.Hold y w) rows (ap (λ b. (cond b (held_with t w before) before).word) e) (ap (λ b. (cond b (held_with t w before) before).since) e) q
          by true e =
              let same : y ≡ n = grind (arith, nat_tests) in
              let P : ℕ → Type 0 = λ y. first_wait (thread_part system one) ≡ Some y → (badge : ℕ) × (w ≡ bit_or (held_in system y rows).word badge) in
              let badge = subst P same fits waits in
              let more : w ≡ bit_or before.word badge.0 = badge.1 in
              let after : held_in system n (at t c (row.Hold y w) ∷ rows) ≡ held_with t w before = ap (λ b. cond b (held_with t w before) before) e in
              let low_before = q.at_least in
              let grows = le_or_l before.word badge.0 in
              let is_word : (held_in system n (at t c (row.Hold y w) ∷ rows)).word ≡ w = ap (λ (held : Held). held.word) after in
              record {
                word_set = ap (λ w. w == 0) (is_word ∙ more) ∙ some-more before.word (bit_or before.word badge.0) grows q.word_set;
                each = ap (λ w. calls_each n w system.threads) (is_word ∙ more) ∙ calls-each-or n before.word badge.0 system.threads q.each;
                since_is =
                    ap (λ (held : Held). held.since) after
                    ∙ ap (λ b. cond b before.since t)
                    (heard-there system one n before.word rows waits known
                    (set-is (bits_of (thread_part system one)) before.word q.word_set (calls-one n before.word one system.threads q.each waits)))
                    ∙ q.since_is;
                at_least = omega (arith, low_before, grows, is_word, more);
              }
      kept-row s low c t (row.Got x y w) rows none fits q =
          kept-same s low c t (row.Got x y w) rows (ap (λ b. (cond b (taken w (held_in system n rows)) (held_in system n rows)).word) none)
          (ap (λ b. (cond b (taken w (held_in system n rows)) (held_in system n rows)).since) none) q
      kept-row s low c t (row.Wake x y w until) rows none fits q = kept-same s low c t (row.Wake x y w until) rows (word-as (y == n)) (since-as (y == n)) q
        where
          word-as : (b : Bool) → (cond b (gave w (held_in system n rows)) (held_in system n rows)).word ≡ (held_in system n rows).word
          word-as true = refl
          word-as false = refl

          since-as : (b : Bool) → (cond b (gave w (held_in system n rows)) (held_in system n rows)).since ≡ (held_in system n rows).since
          since-as true = refl
          since-as false = refl
      kept-row s low c t (row.Round x number response) rows none fits q = kept-same s low c t (row.Round x number response) rows refl refl q
      kept-row s low c t (row.Stop x cause charged until) rows none fits q = kept-same s low c t (row.Stop x cause charged until) rows refl refl q
      kept-row s low c t (row.Release x) rows none fits q = kept-same s low c t (row.Release x) rows refl refl q
      kept-row s low c t (row.Run x) rows none fits q = kept-same s low c t (row.Run x) rows refl refl q
      kept-row s low c t (row.Signal x y badge) rows none fits q = kept-same s low c t (row.Signal x y badge) rows refl refl q
      kept-row s low c t (row.Arrive y badge maker) rows none fits q = kept-same s low c t (row.Arrive y badge maker) rows refl refl q
      kept-row s low c t (row.Order context) rows none fits q = kept-same s low c t (row.Order context) rows refl refl q
      kept-row s low c t (row.Interrupt source at_note badge) rows none fits q = kept-same s low c t (row.Interrupt source at_note badge) rows refl refl q

      kept-on : (s low m t : ℕ) → from ≤ m → m ≤ t → IsKept s low (past m) → IsKept s low (past t)
      kept-on s low m t l k q =
          carried system well one from (λ c what. takes_word n what ≡ false) (IsKept s low)
          (λ c t what rows l fact fits q. kept-row s low c t what rows fact fits q) (λ t c l known. facts t c l known) m t l k q

      -- it is the same word for ever
      module _ (is : IsKept (since end) (word end) (past end)) where
        word-same : (t : ℕ) → end ≤ t → word t ≡ word end
        word-same t l =
            let q = kept-on (since end) (word end) end t (omega arith) l is in
            let low = q.at_least in
            let again : IsKept (since end) (word t) (past t) = record { word_set = q.word_set; each = q.each; since_is = q.since_is; at_least = omega arith } in
            let r = reach t in
            let k = r.from_m in
            let later = kept-on (since end) (word t) t (suc r.horizon) (omega (arith, l)) (omega (arith, k)) again in
            let high = later.at_least in
            let same = r.same in
            omega (arith, low, high, same)

        untaken-on : (h : ℕ) → end ≤ suc h → limit ≤ h - since end
            → untaken system (past (suc h)) h n ≡ Some (Untaken n (word end) (h - since end) limit (since end))
        untaken-on h l m =
            let q = kept-on (since end) (word end) end (suc h) (omega arith) l is in
            let s = q.since_is in
            let late : nat_le limit (h - since (suc h)) ≡ true = reached limit (h - since (suc h)) (omega (arith, m, s)) in
            untaken-test (past (suc h)) h limit has_due
            ∙ ap (λ b. cond (b && nat_le limit (h - since (suc h))) (found (suc h)) None) (both (word (suc h)) q.word_set q.each)
            ∙ ap (λ b. cond b (found (suc h)) None) late
            ∙ ap (λ w. Some (Untaken n w (h - since (suc h)) limit (since (suc h)))) (word-same (suc h) l)
            ∙ ap (λ s. Some (Untaken n (word end) (h - s) limit s)) q.since_is
          where
            found : ℕ → Option Finding
            found t = Some (Untaken n (word t) (h - since t) limit (since t))

            reached : (p q : ℕ) → p ≤ q → nat_le p q ≡ true
            reached p q l = grind (arith, nat_tests)

            both : (w : ℕ) → (w == 0) ≡ false → calls_each n w system.threads ≡ true → (not (w == 0) && calls_each n w system.threads) ≡ true
            both w e f = ap (λ b. not b && calls_each n w system.threads) e ∙ f

  -- what an untaken word at a far horizon says
  pub record IsFar (w limit s : ℕ) : Type 0 where
    pub has_due : due_of n system.threads ≡ Some limit
    pub word_is : word end ≡ w
    pub since_is : since end ≡ s
    pub word_set : (word end == 0) ≡ false
    pub each : calls_each n (word end) system.threads ≡ true

  some-far : (w age limit s : ℕ) → untaken system (past end) far n ≡ Some (Untaken n w age limit s) → IsFar w limit s
  some-far w age limit s e = by due refl
    where
      by : (o : Option ℕ) → due ≡ o → IsFar w limit s
      by None f = absurd (none-found _ (sym (no-due (past end) far f) ∙ e))
      by (Some l) f = or (word end == 0) (calls_each n (word end) system.threads) (nat_le l (far - since end)) refl refl (sym (untaken-test (past end) far l f) ∙ e)
        where
          or : (a b c : Bool) → (word end == 0) ≡ a → calls_each n (word end) system.threads ≡ b
              → cond ((not a && b) && c) (Some (Untaken n (word end) (far - since end) l (since end))) None ≡ Some (Untaken n w age limit s) → IsFar w limit s
          or true b c g h i = absurd (none-found _ i)
          or false false c g h i = absurd (none-found _ i)
          or false true false g h i = absurd (none-found _ i)
          or false true true g h i =
              let same : Some (Untaken n (word end) (far - since end) l (since end)) ≡ Some (Untaken n w age limit s) = i in
              let limit_is : l ≡ limit = cc in
              record { has_due = f ∙ ap Some limit_is; word_is = cc; since_is = cc; word_set = g; each = h }

  pub goes-on : WordGoesOn system shifts.by from n
  goes-on =
      record {
        taken = λ none in_time h. taken none in_time h;
        abandoned = λ w age limit s e h l m. abandoned w age limit s e h l m;
      }
    where
      taken : abandoned_word system shifts.by from n ≡ None
          → ((x : ℕ) → x < length system.threads → first_wait (thread_part system x) ≡ Some n → (h : ℕ) → IsInTime system h x)
          → (h : ℕ) → untaken system (past (suc h)) h n ≡ None
      taken none in_time h = by (is_taken_in_period system shifts.by from n) refl
        where
          by : (b : Bool) → is_taken_in_period system shifts.by from n ≡ b → untaken system (past (suc h)) h n ≡ None
          by true e = none-taken in_time e h
          by false e = none-left in_time (sym (ap (λ b. cond b None (untaken system (past end) far n)) e) ∙ none) h

      abandoned : (w age limit s : ℕ) → abandoned_word system shifts.by from n ≡ Some (Untaken n w age limit s)
          → (h : ℕ) → from + shifts.by ≤ suc h → limit ≤ h - s → untaken system (past (suc h)) h n ≡ Some (Untaken n w (h - s) limit s)
      abandoned w age limit s e h l m = by (is_taken_in_period system shifts.by from n) refl
        where
          by : (b : Bool) → is_taken_in_period system shifts.by from n ≡ b → untaken system (past (suc h)) h n ≡ Some (Untaken n w (h - s) limit s)
          by true f = absurd (none-found _ (sym (ap (λ b. cond b None (untaken system (past end) far n)) f) ∙ e))
          by false f =
              let is = some-far w age limit s (sym (ap (λ b. cond b None (untaken system (past end) far n)) f) ∙ e) in
              let since_is = is.since_is in
              untaken-on f limit is.has_due (record { word_set = is.word_set; each = is.each; since_is = refl; at_least = omega arith }) h l (omega (arith, m, since_is))
              ∙ ap (λ w. Some (Untaken n w (h - since end) limit (since end))) is.word_is
              ∙ ap (λ s. Some (Untaken n w (h - s) limit s)) is.since_is

pub words-go-on : WordsGoOn
words-go-on system group shifts from well recur n known own = goes-on system group shifts from well recur n known own
