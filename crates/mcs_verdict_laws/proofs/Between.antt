-- A group of cores without findings at two horizons has no findings between them.
use Rattle.std.proofs.Common.{◌≡◌, ℕ, zero, suc, ◌+◌, ◌-◌, ◌<◌, ◌≤◌, ◌⊎◌, inl, inr, Bool, true, false, cond, not, ◌&&◌, ◌||◌, ◌==◌, nat_le, List, [], ◌∷◌, ◌++◌, length, get_or, slice_get, Option, Some, None, refl, sym, ap, ◌∙◌, arith}
use Rattle.std.specs.Prelude.{filter}
use Rattle.std.specs.List.{AllByRecursion, list_any}
use Rattle.std.proofs.lemmas.Bool.{cases_lt}
use Rattle.std.proofs.lemmas.List.{get_or_past}
use Rattle.std.proofs.lemmas.List.Folds.{list_any-append}
use Rattle.std.proofs.lemmas.List.Elements.{filter-append}
use Rattle.mcs_ticks.specs.Capped.{one_more}
use Rattle.mcs_ticks.specs.declared.row.Row.{Row}
use Rattle.mcs_ticks.specs.declared.row.What.{What}
use Rattle.mcs_ticks.specs.declared.row.What.TheVariants as row
use Rattle.mcs_system.specs.declared.part.NotePart.{NotePart}
use Rattle.mcs_system.specs.declared.part.ThreadPart.{ThreadPart}
use Rattle.mcs_system.specs.System.{System, no_note, no_thread, note_part, thread_part, core_of}
use Rattle.mcs_system.specs.WellFormed.{IsWellFormed}
use Rattle.mcs_core.specs.Clock.{schedule}
use Rattle.mcs_verdict.specs.declared.finding.Finding.{Finding}
use Rattle.mcs_verdict.specs.declared.finding.Finding.TheVariants.{Miss, Untaken, Lost}
use Rattle.mcs_verdict.specs.declared.finding.Found.{Found}
use Rattle.mcs_verdict.specs.declared.held.Held.{Held}
use Rattle.mcs_verdict.specs.Rounds.{first_wait, activated_of, rounds_of}
use Rattle.mcs_verdict.specs.Standing.{standing_at, telling}
use Rattle.mcs_verdict.specs.Stood.{stood_in}
use Rattle.mcs_verdict.specs.Parts.{free_of, parts_in}
use Rattle.mcs_verdict.specs.Jobs.{job}
use Rattle.mcs_verdict.specs.Calls.{bits_of}
use Rattle.mcs_verdict.specs.Due.{calls_each, untaken_by, untaken}
use Rattle.mcs_verdict.specs.Words.{held_of, leaves, firsts_of}
use Rattle.mcs_verdict.specs.Misses.{is_above, overdue_at, first_word, overdue_since, overdue, was_activated, never_at, never, first_of, unended}
use Rattle.mcs_verdict.specs.Findings.{finding, past_of, found_at, found_in, found_at_end, untaken_at_end, all_at_end, findings}
use Rattle.mcs_verdict_laws.specs.laws.Fate.{overdue_from, untaken_from, IsOverdue, IsUntaken, HasMissed, WasTaken}
use Rattle.mcs_verdict_laws.specs.laws.Horizons.{is_miss_of, has_miss_of, found_of, NothingIsFoundBetween, NothingAtAllIsFoundBetween}
use Rattle.mcs_verdict_laws.proofs.Steps.{contrary, ends_round}
use Rattle.mcs_verdict_laws.proofs.Reached.{later}
use Rattle.mcs_verdict_laws.proofs.Homes.{rounds-home}
use Rattle.mcs_verdict_laws.proofs.Signals.{wait_home}
use Rattle.mcs_verdict_laws.proofs.WordsTold.{waits-item}
use Rattle.mcs_verdict_laws.proofs.Due.{none-some}
use Rattle.mcs_verdict_laws.proofs.Horizons.{found-append, missed-one, overdue-stays, activation-stays, untaken-ends}

-- of two lists that make an empty one each is empty
first-empty : {A : Type 0} (xs ys : List A) → xs ++ ys ≡ [] → xs ≡ []
first-empty [] ys e = refl
first-empty (x ∷ xs) ys e = absurd (cc)

second-empty : {A : Type 0} (xs ys : List A) → xs ++ ys ≡ [] → ys ≡ []
second-empty [] ys e = e
second-empty (x ∷ xs) ys e = absurd (cc)

-- both have no finding
pub first-none : (a b : Option Finding) → first_of a b ≡ None → a ≡ None
first-none None b e = refl
first-none (Some found) b e = cc

pub second-none : (a b : Option Finding) → first_of a b ≡ None → b ≡ None
second-none None b e = e
second-none (Some found) b e = absurd (cc)

-- a round of a thread that misses its deadline is found on its core
pub miss-home : (system : System) (x m home core : ℕ) (past : List Row) (what : What) → (ends_round x what ≡ true → core ≡ home)
    → (f : Finding) → finding system past m what ≡ Some f → is_miss_of x f ≡ true → core ≡ home
miss-home system x m home core past (row.Round y number response) own f e miss =
    by (is_above (thread_part system y).deadline (job system past m y number).response) e
  where
    told : Finding
    told =
        let j = job system past m y number in
        Miss j.thread j.number j.response (thread_part system y).deadline j.activated j.queued j.stood

    by : (b : Bool)
        → cond b
        (Some
        (Miss y number (job system past m y number).response (thread_part system y).deadline (job system past m y number).activated
        (job system past m y number).queued (job system past m y number).stood))
        None ≡ Some f
        → core ≡ home
    by true g =
        let P : Finding → Type 0 = λ f. is_miss_of x f ≡ true in
        let same :
        Miss y number (job system past m y number).response (thread_part system y).deadline (job system past m y number).activated
        (job system past m y number).queued (job system past m y number).stood ≡ f = cc
        in
        own (ap (is_miss_of x) same ∙ miss)
    by false g = absurd (cc)
miss-home system x m home core past (row.Hold note word) own f e miss = by (leaves (held_of (firsts_of system) note past).word word) e
  where
    by : (b : Bool) → cond b (Some (Lost note word)) None ≡ Some f → core ≡ home
    by true g =
        let same : Lost note word ≡ f = cc in
        absurd (contrary false refl (ap (is_miss_of x) same ∙ miss))
    by false g = absurd (cc)
miss-home system x m home core past (row.Release y) own f e miss = absurd (cc)
miss-home system x m home core past (row.Run y) own f e miss = absurd (cc)
miss-home system x m home core past (row.Stop y cause charged until) own f e miss = absurd (cc)
miss-home system x m home core past (row.Signal y note badge) own f e miss = absurd (cc)
miss-home system x m home core past (row.Arrive note badge maker) own f e miss = absurd (cc)
miss-home system x m home core past (row.Wake y note word until) own f e miss = absurd (cc)
miss-home system x m home core past (row.Got y note word) own f e miss = absurd (cc)
miss-home system x m home core past (row.Order context) own f e miss = absurd (cc)
miss-home system x m home core past (row.Interrupt source at_note badge) own f e miss = absurd (cc)

module _ (group : ℕ → Bool) where
  abbrev mine : List Found → List Found
  mine found = filter (λ (f : Found). group f.core) found

  found-none : (m core : ℕ) (o : Option Finding) → group core ≡ true → mine (found_at m core o) ≡ [] → o ≡ None
  found-none m core None own e = refl
  found-none m core (Some found) own e =
      let f : mine (found_at m core (Some found)) ≡ found_at m core (Some found) = ap (λ b. cond b (found_at m core (Some found)) []) own in
      let g : found_at m core (Some found) ≡ [] = sym f ∙ e in
      absurd (cc)

  found-apart : (m core : ℕ) (o : Option Finding) → group core ≡ false → mine (found_at m core o) ≡ []
  found-apart m core None e = refl
  found-apart m core (Some found) e = ap (λ b. cond b (found_at m core (Some found)) []) e

  -- at a horizon
  end-none : (system : System) (past : List Row) (h n i : ℕ) (parts : List ThreadPart) → mine (found_at_end system past h n parts) ≡ []
      → i < length parts → group (core_of system (get_or parts i no_thread)) ≡ true → unended system past h (n + i) ≡ None
  end-none system past h n i [] e l own = absurd (omega (arith, l))
  end-none system past h n zero (part ∷ parts) e l own =
      let here = found_at h (core_of system part) (unended system past h n) in
      let rest = found_at_end system past h (suc n) parts in
      ap (unended system past h) (omega arith)
      ∙ found-none h (core_of system part) (unended system past h n) own
      (first-empty (mine here) (mine rest) (sym (filter-append (λ (f : Found). group f.core) here rest) ∙ e))
  end-none system past h n (suc i) (part ∷ parts) e l own =
      let here = found_at h (core_of system part) (unended system past h n) in
      let rest = found_at_end system past h (suc n) parts in
      ap (unended system past h) (omega arith)
      ∙ end-none system past h (suc n) i parts
      (second-empty (mine here) (mine rest) (sym (filter-append (λ (f : Found). group f.core) here rest) ∙ e)) (omega (arith, l)) own

  end-all : (system : System) (past : List Row) (h n : ℕ) (parts : List ThreadPart)
      → ((i : ℕ) → i < length parts → group (core_of system (get_or parts i no_thread)) ≡ true → unended system past h (n + i) ≡ None)
      → mine (found_at_end system past h n parts) ≡ []
  end-all system past h n [] none = refl
  end-all system past h n (part ∷ parts) none =
      let here = found_at h (core_of system part) (unended system past h n) in
      let rest = found_at_end system past h (suc n) parts in
      filter-append (λ (f : Found). group f.core) here rest
      ∙ ap (λ found. found ++ mine rest) (by (group (core_of system part)) refl)
      ∙ end-all system past h (suc n) parts
      (λ i l own. ap (unended system past h) (omega arith) ∙ none (suc i) (omega (arith, l)) own)
    where
      by : (b : Bool) → group (core_of system part) ≡ b → mine (found_at h (core_of system part) (unended system past h n)) ≡ []
      by true e =
          let nothing : unended system past h n ≡ None = ap (unended system past h) (omega arith) ∙ none 0 (omega arith) e in
          ap (λ o. mine (found_at h (core_of system part) o)) nothing
      by false e = found-apart h (core_of system part) (unended system past h n) e

  -- and of the notifications
  note-none : (system : System) (past : List Row) (h n i : ℕ) (parts : List NotePart) → mine (untaken_at_end system past h n parts) ≡ []
      → i < length parts → group (get_or parts i no_note).core ≡ true → untaken system past h (n + i) ≡ None
  note-none system past h n i [] e l own = absurd (omega (arith, l))
  note-none system past h n zero (part ∷ parts) e l own =
      let here = found_at h part.core (untaken system past h n) in
      let rest = untaken_at_end system past h (suc n) parts in
      ap (untaken system past h) (omega arith)
      ∙ found-none h part.core (untaken system past h n) own
      (first-empty (mine here) (mine rest) (sym (filter-append (λ (f : Found). group f.core) here rest) ∙ e))
  note-none system past h n (suc i) (part ∷ parts) e l own =
      let here = found_at h part.core (untaken system past h n) in
      let rest = untaken_at_end system past h (suc n) parts in
      ap (untaken system past h) (omega arith)
      ∙ note-none system past h (suc n) i parts
      (second-empty (mine here) (mine rest) (sym (filter-append (λ (f : Found). group f.core) here rest) ∙ e)) (omega (arith, l)) own

  note-all : (system : System) (past : List Row) (h n : ℕ) (parts : List NotePart)
      → ((i : ℕ) → i < length parts → group (get_or parts i no_note).core ≡ true → untaken system past h (n + i) ≡ None)
      → mine (untaken_at_end system past h n parts) ≡ []
  note-all system past h n [] none = refl
  note-all system past h n (part ∷ parts) none =
      let here = found_at h part.core (untaken system past h n) in
      let rest = untaken_at_end system past h (suc n) parts in
      filter-append (λ (f : Found). group f.core) here rest
      ∙ ap (λ found. found ++ mine rest) (by (group part.core) refl)
      ∙ note-all system past h (suc n) parts
      (λ i l own. ap (untaken system past h) (omega arith) ∙ none (suc i) (omega (arith, l)) own)
    where
      by : (b : Bool) → group part.core ≡ b → mine (found_at h part.core (untaken system past h n)) ≡ []
      by true e =
          let nothing : untaken system past h n ≡ None = ap (untaken system past h) (omega arith) ∙ none 0 (omega arith) e in
          ap (λ o. mine (found_at h part.core o)) nothing
      by false e = found-apart h part.core (untaken system past h n) e

  -- if its core has no finding
  no-miss-at : (x m core : ℕ) (o : Option Finding) → ((f : Finding) → o ≡ Some f → is_miss_of x f ≡ true → group core ≡ true)
      → mine (found_at m core o) ≡ [] → has_miss_of x (found_at m core o) ≡ false
  no-miss-at x m core None own e = refl
  no-miss-at x m core (Some found) own e = by (is_miss_of x found) refl
    where
      by : (b : Bool) → is_miss_of x found ≡ b → (b || false) ≡ false
      by false f = refl
      by true f = absurd (none (found-none m core (Some found) (own found refl f) e))
        where
          none : Some found ≡ None → ⊥
          none g = cc

  no-miss : (system : System) (x home : ℕ) (past rows : List Row) → group home ≡ true
      → AllByRecursion (λ (r : Row). ends_round x r.what ≡ true → r.core ≡ home) rows → mine (found_in system past rows) ≡ []
      → has_miss_of x (found_in system past rows) ≡ false
  no-miss system x home past [] own all e = refl
  no-miss system x home past (r ∷ rows) own all e =
      let here = found_at r.moment r.core (finding system past r.moment r.what) in
      let rest = found_in system (r ∷ past) rows in
      let p : Found → Bool = λ (f : Found). is_miss_of x f.finding in
      let f : mine here ++ mine rest ≡ [] = sym (filter-append (λ (f : Found). group f.core) here rest) ∙ e in
      let first : list_any p here ≡ false =
      no-miss-at x r.moment r.core (finding system past r.moment r.what)
      (λ found is miss. ap group (miss-home system x r.moment home r.core past r.what all.0 found is miss) ∙ own)
      (first-empty (mine here) (mine rest) f)
      in
      list_any-append p here rest ∙ ap (λ b. b || list_any p rest) first
      ∙ no-miss system x home (r ∷ past) rows own all.1 (second-empty (mine here) (mine rest) f)

-- a notification that is untaken was set at some time
untaken-some : (system : System) (past : List Row) (h n : ℕ)
    → (untaken system past h n ≡ None) ⊎ ((since : ℕ) × (untaken_from (untaken system past h n) ≡ Some since))
untaken-some system past h n =
    by (held_of (firsts_of system) n past) (held_of (firsts_of system) n past).due
    (calls_each n (held_of (firsts_of system) n past).word system.threads)
  where
    by : (held : Held) (due : Option ℕ) (called : Bool)
        → (untaken_by h n held due called ≡ None) ⊎ ((since : ℕ) × (untaken_from (untaken_by h n held due called) ≡ Some since))
    by held None called = inl refl
    by held (Some due) called = at (not (held.word == 0) && called && nat_le due (h - held.since))
      where
        at : (b : Bool)
            → (cond b (Some (Untaken n held.word (h - held.since) due held.since)) None ≡ None)
            ⊎ ((since : ℕ) × (untaken_from (cond b (Some (Untaken n held.word (h - held.since) due held.since)) None) ≡ Some since))
        at true = inr (held.since, refl)
        at false = inl refl

-- a thread that waits first is one of the system
known-first : (system : System) (x note : ℕ) → first_wait (thread_part system x) ≡ Some note → x < length system.threads
known-first system x note e = by (cases_lt x (length system.threads))
  where
    by : (x < length system.threads) ⊎ (length system.threads ≤ x) → x < length system.threads
    by (inl known) = known
    by (inr past) =
        let none : thread_part system x ≡ no_thread = get_or_past system.threads x no_thread past in
        let f : None ≡ Some note = ap first_wait (sym none) ∙ e in
        absurd (cc)

-- if no round of a thread missed its deadline up to a horizon, and the thread has no finding there
-- and at an earlier one, it has none between
module _ (system : System) (well : IsWellFormed system) (earlier last m : ℕ) (from : earlier ≤ m) (to : m ≤ last) where
  -- the rows up to the later horizon begin with those up to this one
  more-rows : (rows : List Row) × (schedule system last ≡ schedule system m ++ rows)
  more-rows = let l = later system well 0 (last - m) (suc m) (suc last) (omega (arith, to)) in (l.rows, l.more)

  pub thread-between : (x : ℕ) → has_miss_of x (found_in system [] (schedule system last)) ≡ false
      → unended system (past_of [] (schedule system earlier)) earlier x ≡ None → unended system (past_of [] (schedule system last)) last x ≡ None
      → unended system (past_of [] (schedule system m)) m x ≡ None
  thread-between x missed before after =
      let past = past_of [] (schedule system m) in
      let late : overdue system past m x ≡ None =
      overdue-stays system well x m last to missed
      (first-none (overdue system (past_of [] (schedule system last)) last x) (never system (past_of [] (schedule system last)) last x) after)
      in
      let once : never system past m x ≡ None =
      activation-stays system well x earlier m from
      (second-none (overdue system (past_of [] (schedule system earlier)) earlier x) (never system (past_of [] (schedule system earlier)) earlier x) before)
      in
      ap (λ found. first_of found (never system past m x)) late ∙ once

  -- if no word of a notification is untaken at the later horizon, no thread that waits first for it
  -- is overdue there, and no round of one missed its deadline, none was untaken
  pub note-between : (n : ℕ) → untaken system (past_of [] (schedule system last)) last n ≡ None
      → ((x : ℕ) → first_wait (thread_part system x) ≡ Some n
      → (overdue system (past_of [] (schedule system last)) last x ≡ None) × (has_miss_of x (found_in system [] (schedule system last)) ≡ false))
      → untaken system (past_of [] (schedule system m)) m n ≡ None
  note-between n none takers = by (untaken-some system (past_of [] (schedule system m)) m n)
    where
      taken : (s : ℕ) → WasTaken system m last n s → ⊥
      taken s was = late was.late
        where
          late : IsOverdue system last was.thread s ⊎ HasMissed system m last was.thread s → ⊥
          late (inl again) = none-some s (ap overdue_from (sym (takers was.thread was.waits).0) ∙ again)
          late (inr missed) =
              contrary (has_miss_of was.thread (found_in system [] (schedule system last))) (takers was.thread was.waits).1
              (missed-one m was.thread s (found_in system [] (schedule system last)) missed)

      ends : (s : ℕ) → IsUntaken system last n s ⊎ WasTaken system m last n s → ⊥
      ends s (inl again) = none-some s (ap untaken_from (sym none) ∙ again)
      ends s (inr was) = taken s was

      by : (untaken system (past_of [] (schedule system m)) m n ≡ None)
          ⊎ ((since : ℕ) × (untaken_from (untaken system (past_of [] (schedule system m)) m n) ≡ Some since))
          → untaken system (past_of [] (schedule system m)) m n ≡ None
      by (inl e) = e
      by (inr some) = absurd (ends some.0 (untaken-ends system well n m last some.0 to some.1))

module _ (system : System) (group : ℕ → Bool) (well : IsWellFormed system) (earlier last m : ℕ) (from : earlier ≤ m) (to : m ≤ last) where
  abbrev rows-of : ℕ → List Found
  rows-of n = mine group (found_in system [] (schedule system n))

  abbrev threads-of : ℕ → List Found
  threads-of n = mine group (found_at_end system (past_of [] (schedule system n)) n 0 system.threads)

  abbrev notes-of : ℕ → List Found
  notes-of n = mine group (untaken_at_end system (past_of [] (schedule system n)) n 0 system.notes)

  parted : (n : ℕ) → found_of system group n ≡ rows-of n ++ (threads-of n ++ notes-of n)
  parted n =
      filter-append (λ (f : Found). group f.core) (found_in system [] (schedule system n)) (all_at_end system (past_of [] (schedule system n)) n)
      ∙ ap (λ found. rows-of n ++ found)
      (filter-append (λ (f : Found). group f.core) (found_at_end system (past_of [] (schedule system n)) n 0 system.threads)
      (untaken_at_end system (past_of [] (schedule system n)) n 0 system.notes))

  no-rows : (n : ℕ) → found_of system group n ≡ [] → rows-of n ≡ []
  no-rows n e = first-empty (rows-of n) (threads-of n ++ notes-of n) (sym (parted n) ∙ e)

  no-threads : (n : ℕ) → found_of system group n ≡ [] → threads-of n ≡ []
  no-threads n e = first-empty (threads-of n) (notes-of n) (second-empty (rows-of n) (threads-of n ++ notes-of n) (sym (parted n) ∙ e))

  no-notes : (n : ℕ) → found_of system group n ≡ [] → notes-of n ≡ []
  no-notes n e = second-empty (threads-of n) (notes-of n) (second-empty (rows-of n) (threads-of n ++ notes-of n) (sym (parted n) ∙ e))

  rows-none : rows-of last ≡ [] → rows-of m ≡ []
  rows-none e =
      let more = more-rows system well earlier last m from to in
      let before = found_in system [] (schedule system m) in
      let rest = found_in system (past_of [] (schedule system m)) more.0 in
      first-empty (mine group before) (mine group rest)
      (sym (filter-append (λ (f : Found). group f.core) before rest)
      ∙ sym (ap (mine group) (ap (found_in system []) more.1 ∙ found-append system [] (schedule system m) more.0)) ∙ e)

  -- a thread of the group
  end : (x n : ℕ) → x < length system.threads → group (core_of system (thread_part system x)) ≡ true → found_of system group n ≡ []
      → unended system (past_of [] (schedule system n)) n x ≡ None
  end x n known own e =
      ap (unended system (past_of [] (schedule system n)) n) (omega arith)
      ∙ end-none group system (past_of [] (schedule system n)) n 0 x system.threads (no-threads n e) known own

  missed-none : (x : ℕ) → group (core_of system (thread_part system x)) ≡ true → found_of system group last ≡ []
      → has_miss_of x (found_in system [] (schedule system last)) ≡ false
  missed-none x own after =
      no-miss group system x (core_of system (thread_part system x)) [] (schedule system last) own (rounds-home system well x (suc last))
      (no-rows last after)

  ends-none : (x : ℕ) → x < length system.threads → group (core_of system (thread_part system x)) ≡ true
      → found_of system group earlier ≡ [] → found_of system group last ≡ []
      → unended system (past_of [] (schedule system m)) m x ≡ None
  ends-none x known own before after =
      thread-between system well earlier last m from to x (missed-none x own after) (end x earlier known own before) (end x last known own after)

  -- and a notification
  notes-none : (n : ℕ) → n < length system.notes → group (note_part system n).core ≡ true → found_of system group last ≡ []
      → untaken system (past_of [] (schedule system m)) m n ≡ None
  notes-none n known own after =
      note-between system well earlier last m from to n
      (ap (untaken system (past_of [] (schedule system last)) last) (omega arith)
      ∙ note-none group system (past_of [] (schedule system last)) last 0 n system.notes (no-notes last after) known own)
      (λ x waits.
      let here = wait_home system well x 0 n (waits-item (slice_get (thread_part system x).script 0) n waits) in
      let home : group (core_of system (thread_part system x)) ≡ true = ap group (sym here.1) ∙ own in (
        first-none (overdue system (past_of [] (schedule system last)) last x) (never system (past_of [] (schedule system last)) last x)
            (end x last (known-first system x n waits) home after),
        missed-none x home after,
      ))

pub nothing-between : NothingIsFoundBetween
nothing-between system group well earlier last before after m from to =
    parted system group well earlier last m from to m
    ∙ ap (λ found. found ++ (threads-of system group well earlier last m from to m ++ notes-of system group well earlier last m from to m))
    (rows-none system group well earlier last m from to (no-rows system group well earlier last m from to last after))
    ∙ ap (λ found. found ++ notes-of system group well earlier last m from to m)
    (end-all group system (past_of [] (schedule system m)) m 0 system.threads
    (λ x known own. ap (unended system (past_of [] (schedule system m)) m) (omega arith)
    ∙ ends-none system group well earlier last m from to x known own before after))
    ∙ note-all group system (past_of [] (schedule system m)) m 0 system.notes
    (λ n known own. ap (untaken system (past_of [] (schedule system m)) m) (omega arith)
    ∙ notes-none system group well earlier last m from to n known own after)

-- of all cores
all-pass : {A : Type 0} (items : List A) → filter (λ item. true) items ≡ items
all-pass [] = refl
all-pass (item ∷ items) = ap (λ rest. item ∷ rest) (all-pass items)

pub nothing-at-all : NothingAtAllIsFoundBetween
nothing-at-all system well earlier last before after m from to =
    sym (all-pass (findings system m (schedule system m)))
    ∙ nothing-between system (λ core. true) well earlier last
    (all-pass (findings system earlier (schedule system earlier)) ∙ before)
    (all-pass (findings system last (schedule system last)) ∙ after) m from to
