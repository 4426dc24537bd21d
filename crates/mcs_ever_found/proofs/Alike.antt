-- Rows of a group of cores that recur: the accounts of the group's threads and its words stay
-- later, and each finding is found later.
use Rattle.std.proofs.Common.{◌≡◌, ℕ, ◌+◌, ◌<◌, ◌⊎◌, inl, inr, Bool, true, false, cond, List, [], ◌∷◌, ◌++◌, length, map, refl, sym, ap, subst, ◌∙◌, Option, Some, None, option_map, arith}
use Rattle.std.specs.Prelude.{filter, ◌==◌, ◌&&◌, nat_lt, IfSome, option_to_list}
use Rattle.std.specs.List.{AllByRecursion}
use Rattle.std.proofs.lemmas.Bool.Decides.{nat_tests}
use Rattle.mcs_ticks.specs.declared.row.Row.{Row}
use Rattle.mcs_ticks.specs.declared.row.What.{What}
use Rattle.mcs_ticks.specs.declared.row.What.TheVariants as row
use Rattle.mcs_system.specs.System.{System, no_thread, thread_part, note_part, core_of}
use Rattle.mcs_system.specs.WellFormed.{IsWellFormed}
use Rattle.mcs_core.specs.Turn.{stamped}
use Rattle.mcs_verdict.specs.declared.account.Account.{Account}
use Rattle.mcs_verdict.specs.declared.finding.Finding.{Finding}
use Rattle.mcs_verdict.specs.declared.finding.Finding.TheVariants.{Lost}
use Rattle.mcs_verdict.specs.declared.finding.Found.{Found}
use Rattle.mcs_verdict.specs.declared.held.Held.{Held}
use Rattle.mcs_verdict.specs.Calls.{calls, is_set, first_wait}
use Rattle.mcs_verdict.specs.Takers.{waits_for}
use Rattle.mcs_verdict.specs.Words.{no_word, held_with, gave, taken, held_of, word_for, firsts_of, leaves}
use Rattle.mcs_verdict.specs.declared.job.Job.{Job}
use Rattle.mcs_verdict.specs.Jobs.{job, job_of, jobs_in}
use Rattle.mcs_verdict.specs.Misses.{missed}
use Rattle.mcs_verdict.specs.Findings.{finding, UpTo, past_of, found_at, found_in}
use Rattle.mcs_verdict.specs.Account.{is_about, seen_own}
use Rattle.mcs_verdict.specs.Later.{IsLaterAccount}
use Rattle.mcs_verdict.proofs.Accounts.{same, own}
use Rattle.mcs_verdict.proofs.Orders.{since-up_to}
use Rattle.mcs_verdict.proofs.Kept.{account_at, job-kept}
use Rattle.mcs_verdict_laws.proofs.Fits.{first_held, held_in}
use Rattle.mcs_verdict_laws.proofs.Due.{length-firsts, bits-kept}
use Rattle.mcs_ever.specs.Later.{Shift, later_what, more_rounds}
use Rattle.mcs_ever.specs.Recurs.{Shifts, shift_of}
use Rattle.mcs_ever.specs.laws.Home.{IsOwnThread, IsOfOwn}
use Rattle.mcs_ever_found.specs.Later.{later_job, later_finding, later_found}
use Rattle.mcs_ever_found.specs.laws.Repeats.{later_job_of}
use Rattle.mcs_ever_found.proofs.Accounts.{IsLaterQuiet, BeginsNone, account-seen, unset-seen, quiet-seen, later-quiet, account-jobs, missed-later}
use Rattle.mcs_ever_found.proofs.Scripts.{waits-first}

equal : (a b : ℕ) → (a == b) ≡ true → a ≡ b
equal a b e = grind (arith, nat_tests)

abbrev pub at : ℕ → ℕ → What → Row
at t core what = record { moment = t; core = core; what = what }

-- the word of a notification of the system
less : (a b : ℕ) → a < b → nat_lt a b ≡ true
less a b l = grind (arith, nat_tests)

pub held-known : (system : System) (n : ℕ) (past : List Row) → n < length system.notes → held_of (firsts_of system) n past ≡ held_in system n past
held-known system n past l =
    let e = length-firsts 0 system.threads system.notes in
    ap (λ b. cond b (held_in system n past) no_word) (less n (length (firsts_of system)) (omega (arith, l, e)))

-- the bits that call a thread are kept; the word must have one of them
bits-same : (system : System) (n : ℕ) (past past' : List Row) → (held_in system n past').bits ≡ (held_in system n past).bits
bits-same system n past past' = bits-kept (first_held system n) n past' ∙ sym (bits-kept (first_held system n) n past)

module _ (system : System) (group : ℕ → Bool) (shifts : Shifts) where
  abbrev d : ℕ
  d = shifts.by

  abbrev home : ℕ → ℕ
  home x = core_of system (thread_part system x)

  -- the word for which the thread waits first was set later, if its script begins with a wait
  abbrev pub FirstIsSet : (ℕ → Type 0) → ℕ → Type 0
  FirstIsSet Set x = (n : ℕ) → first_wait (thread_part system x) ≡ Some n → Set n

  -- the first rows leave each later thread of the group, and each word, as the other rows do, but
  -- later. `Later` has the threads that are later, and `Set` the words that were set later. If the
  -- word for which a thread waits first was not, its ticks between rounds may differ
  pub record Alike (Later Set : ℕ → Type 0) (t : ℕ) (past past' : List Row) : Type 0 where
    pub threads : (x : ℕ) → x < length system.threads → group (home x) ≡ true → Later x →
        IsLaterQuiet shifts.by (account_at system x past) (account_at system x past')
    pub wholes : (x : ℕ) → x < length system.threads → group (home x) ≡ true → Later x → FirstIsSet Set x →
        IsLaterAccount shifts.by (account_at system x past) (account_at system x past')
    pub words : (n : ℕ) → n < length system.notes → group (note_part system n).core ≡ true → (held_in system n past').word ≡ (held_in system n past).word
    pub sets : (n : ℕ) → n < length system.notes → group (note_part system n).core ≡ true → Set n →
        (held_in system n past').since ≡ (held_in system n past).since + shifts.by
    pub before : UpTo t past
    pub after : UpTo (t + shifts.by) past'

  -- rows that leave all threads and words of the group as they were
  record AreForeign (past past' : List Row) : Type 0 where
    threads : (x : ℕ) → group (home x) ≡ true → account_at system x past' ≡ account_at system x past
    words : (n : ℕ) → group (note_part system n).core ≡ true → held_in system n past' ≡ held_in system n past

  -- a row is about the thread that it names
  pub is_about-own : (c x : ℕ) (what : What) → IsOfOwn system c what → is_about x what ≡ true → home x ≡ c
  is_about-own c x (row.Release y) o e = ap home (sym (equal y x e)) ∙ o.home
  is_about-own c x (row.Run y) o e = ap home (sym (equal y x e)) ∙ o.home
  is_about-own c x (row.Stop y cause k until) o e = ap home (sym (equal y x e)) ∙ o.home
  is_about-own c x (row.Wake y note word until) o e = ap home (sym (equal y x e)) ∙ o.0.home
  is_about-own c x (row.Got y note word) o e = ap home (sym (equal y x e)) ∙ o.0.home
  is_about-own c x (row.Round y number response) o e = ap home (sym (equal y x e)) ∙ o.home
  is_about-own c x (row.Signal y note badge) o e = cc
  is_about-own c x (row.Arrive note badge maker) o e = cc
  is_about-own c x (row.Hold note word) o e = cc
  is_about-own c x (row.Order context) o e = cc
  is_about-own c x (row.Interrupt source at_note badge) o e = cc

  outside : (a b : ℕ) → a ≡ b → group a ≡ true → group b ≡ false → ⊥
  outside a b e f g = no (sym f ∙ ap group e ∙ g)
    where
      no : true ≡ false → ⊥
      no e = cc

  foreign-row : (c t : ℕ) (what : What) (past : List Row) → group c ≡ false → IsOfOwn system c what → AreForeign past (at t c what ∷ past)
  foreign-row c t what past away o = record { threads = threads; words = λ n h. words n h what o }
    where
      threads : (x : ℕ) → group (home x) ≡ true → account_at system x (at t c what ∷ past) ≡ account_at system x past
      threads x h = by (is_about x what) refl
        where
          by : (b : Bool) → is_about x what ≡ b → account_at system x (at t c what ∷ past) ≡ account_at system x past
          by true e = absurd (outside (home x) c (is_about-own c x what o e) h away)
          by false e = same (firsts_of system) (thread_part system x) x past t c what e

      other : (n y : ℕ) (a b : Held) → group (note_part system n).core ≡ true → (note_part system y).core ≡ c → cond (y == n) a b ≡ b
      other n y a b h f = by (y == n) refl
        where
          by : (s : Bool) → (y == n) ≡ s → cond s a b ≡ b
          by true e = absurd (outside (note_part system n).core c (ap (λ m. (note_part system m).core) (sym (equal y n e)) ∙ f) h away)
          by false e = refl

      words : (n : ℕ) → group (note_part system n).core ≡ true → (what : What) → IsOfOwn system c what → held_in system n (at t c what ∷ past) ≡ held_in system n past
      words n h (row.Hold y word) o = other n y (held_with t word (held_in system n past)) (held_in system n past) h o.home
      words n h (row.Got x y word) o = other n y (taken word (held_in system n past)) (held_in system n past) h o.1.home
      words n h (row.Release x) o = refl
      words n h (row.Run x) o = refl
      words n h (row.Stop x cause k until) o = refl
      words n h (row.Signal x note badge) o = refl
      words n h (row.Arrive note badge maker) o = refl
      words n h (row.Wake x y word until) o = other n y (gave word (held_in system n past)) (held_in system n past) h o.1.home
      words n h (row.Round x number response) o = refl
      words n h (row.Order context) o = refl
      words n h (row.Interrupt source at_note badge) o = refl

  -- the rows of a turn of a core outside the group
  foreign-turn : (c t : ℕ) (whats : List What) (past : List Row) → group c ≡ false → AllByRecursion (IsOfOwn system c) whats → AreForeign past (past_of past (stamped c t whats))
  foreign-turn c t [] past away o = record { threads = λ x h. refl; words = λ n h. refl }
  foreign-turn c t (what ∷ whats) past away o =
      let first = foreign-row c t what past away o.0 in
      let rest = foreign-turn c t whats (at t c what ∷ past) away o.1 in
      record { threads = λ x h. rest.threads x h ∙ first.threads x h; words = λ n h. rest.words n h ∙ first.words n h }

  up_to-turn : (c t : ℕ) (whats : List What) (past : List Row) → UpTo t past → UpTo t (past_of past (stamped c t whats))
  up_to-turn c t [] past up = up
  up_to-turn c t (what ∷ whats) past up = up_to-turn c t whats (at t c what ∷ past) (omega arith, up)

  -- no finding of the group is in them
  abbrev of_group : Found → Bool
  of_group found = group found.core

  found-foreign : (c t : ℕ) (whats : List What) (past : List Row) → group c ≡ false → filter of_group (found_in system past (stamped c t whats)) ≡ []
  found-foreign c t [] past away = refl
  found-foreign c t (what ∷ whats) past away = by (finding system past t what) (found-foreign c t whats (at t c what ∷ past) away)
    where
      by : (o : Option Finding) → filter of_group (found_in system (at t c what ∷ past) (stamped c t whats)) ≡ [] →
          filter of_group (found_at t c o ++ found_in system (at t c what ∷ past) (stamped c t whats)) ≡ []
      by None i = i
      by (Some found) i =
          ap (λ b. cond b (record { moment = t; core = c; finding = found } ∷ filter of_group (found_in system (at t c what ∷ past) (stamped c t whats)))
          (filter of_group (found_in system (at t c what ∷ past) (stamped c t whats)))) away ∙ i

  found-own : (c t : ℕ) (whats : List What) (past : List Row) → group c ≡ true → filter of_group (found_in system past (stamped c t whats)) ≡ found_in system past (stamped c t whats)
  found-own c t [] past own = refl
  found-own c t (what ∷ whats) past own = by (finding system past t what) (found-own c t whats (at t c what ∷ past) own)
    where
      by : (o : Option Finding) → filter of_group (found_in system (at t c what ∷ past) (stamped c t whats)) ≡ found_in system (at t c what ∷ past) (stamped c t whats) →
          filter of_group (found_at t c o ++ found_in system (at t c what ∷ past) (stamped c t whats)) ≡ found_at t c o ++ found_in system (at t c what ∷ past) (stamped c t whats)
      by None i = i
      by (Some found) i =
          ap (λ b. cond b (record { moment = t; core = c; finding = found } ∷ filter of_group (found_in system (at t c what ∷ past) (stamped c t whats)))
          (filter of_group (found_in system (at t c what ∷ past) (stamped c t whats)))) own ∙ ap (λ others. record { moment = t; core = c; finding = found } ∷ others) i

  -- the round of a thread of the system
  job-known : (x number t : ℕ) (past : List Row) → x < length system.threads → job_of system past t (row.Round x number 0) ≡ Some (job system past t x number)
  job-known x number t past l =
      let b : nat_lt x (length system.threads) ≡ true = grind (arith, nat_tests) in
      ap (λ b. cond b (Some (job system past t x number)) None) b

  -- the rounds that a core's rows end are its own threads'
  of-core : (c t : ℕ) (what : What) (past : List Row) → IsOfOwn system c what → IfSome (job_of system past t what) (λ job. home job.thread ≡ c)
  of-core c t (row.Round x number response) past o = by (nat_lt x (length system.threads))
    where
      by : (b : Bool) → IfSome (cond b (Some (job system past t x number)) None) (λ job. home job.thread ≡ c)
      by true = o.home
      by false = tt
  of-core c t (row.Release x) past o = tt
  of-core c t (row.Run x) past o = tt
  of-core c t (row.Stop x cause j until) past o = tt
  of-core c t (row.Signal x note badge) past o = tt
  of-core c t (row.Arrive note badge maker) past o = tt
  of-core c t (row.Wake x note word until) past o = tt
  of-core c t (row.Hold note word) past o = tt
  of-core c t (row.Got x note word) past o = tt
  of-core c t (row.Order context) past o = tt
  of-core c t (row.Interrupt source at_note badge) past o = tt

  abbrev is_own_job : Job → Bool
  is_own_job job = group (home job.thread)

  jobs-foreign : (c t : ℕ) (whats : List What) (past : List Row) → group c ≡ false → AllByRecursion (IsOfOwn system c) whats → filter is_own_job (jobs_in system past (stamped c t whats)) ≡ []
  jobs-foreign c t [] past away o = refl
  jobs-foreign c t (what ∷ whats) past away o = by (job_of system past t what) (of-core c t what past o.0) (jobs-foreign c t whats (at t c what ∷ past) away o.1)
    where
      by : (o : Option Job) → IfSome o (λ job. home job.thread ≡ c) → filter is_own_job (jobs_in system (at t c what ∷ past) (stamped c t whats)) ≡ [] →
          filter is_own_job (option_to_list o ++ jobs_in system (at t c what ∷ past) (stamped c t whats)) ≡ []
      by None f i = i
      by (Some job) f i =
          ap (λ b. cond b (job ∷ filter is_own_job (jobs_in system (at t c what ∷ past) (stamped c t whats))) (filter is_own_job (jobs_in system (at t c what ∷ past) (stamped c t whats)))) (ap group f ∙ away) ∙ i

  jobs-own : (c t : ℕ) (whats : List What) (past : List Row) → group c ≡ true → AllByRecursion (IsOfOwn system c) whats → filter is_own_job (jobs_in system past (stamped c t whats)) ≡ jobs_in system past (stamped c t whats)
  jobs-own c t [] past own o = refl
  jobs-own c t (what ∷ whats) past own o = by (job_of system past t what) (of-core c t what past o.0) (jobs-own c t whats (at t c what ∷ past) own o.1)
    where
      by : (o : Option Job) → IfSome o (λ job. home job.thread ≡ c) → filter is_own_job (jobs_in system (at t c what ∷ past) (stamped c t whats)) ≡ jobs_in system (at t c what ∷ past) (stamped c t whats) →
          filter is_own_job (option_to_list o ++ jobs_in system (at t c what ∷ past) (stamped c t whats)) ≡ option_to_list o ++ jobs_in system (at t c what ∷ past) (stamped c t whats)
      by None f i = i
      by (Some job) f i =
          ap (λ b. cond b (job ∷ filter is_own_job (jobs_in system (at t c what ∷ past) (stamped c t whats))) (filter is_own_job (jobs_in system (at t c what ∷ past) (stamped c t whats)))) (ap group f ∙ own)
          ∙ ap (λ others. job ∷ others) i

  module _ (well : IsWellFormed system) (Later Set : ℕ → Type 0) where
    abbrev Like : ℕ → List Row → List Row → Type 0
    Like t past past' = Alike Later Set t past past'

    -- a thread that ends a round is later; a word that is taken was set later, or the thread does not
    -- wait for it first
    abbrev pub Counts : What → Type 0
    Counts (row.Round x number response) = Later x
    Counts (row.Got x note word) = Set note ⊎ (waits_for note (first_wait (thread_part system x)) ≡ false)
    Counts (row.Release x) = Unit {0}
    Counts (row.Run x) = Unit {0}
    Counts (row.Stop x cause k until) = Unit {0}
    Counts (row.Signal x note badge) = Unit {0}
    Counts (row.Arrive note badge maker) = Unit {0}
    Counts (row.Wake x note word until) = Unit {0}
    Counts (row.Hold note word) = Unit {0}
    Counts (row.Order context) = Unit {0}
    Counts (row.Interrupt source at_note badge) = Unit {0}

    abbrev pub AreCounted : List What → Type 0
    AreCounted whats = AllByRecursion Counts whats

    alike-foreign : (c t : ℕ) (whats whats' : List What) (past past' : List Row) → group c ≡ false → AllByRecursion (IsOfOwn system c) whats → AllByRecursion (IsOfOwn system c) whats' →
        Like t past past' → Like t (past_of past (stamped c t whats)) (past_of past' (stamped c (t + d) whats'))
    alike-foreign c t whats whats' past past' away o o' l =
        let f = foreign-turn c t whats past away o in
        let g = foreign-turn c (t + d) whats' past' away o' in
        record {
          threads = λ x known h later. quiet-both (account_at system x past) (account_at system x past') _ _ (f.threads x h) (g.threads x h) (l.threads x known h later);
          wholes = λ x known h later set. both (account_at system x past) (account_at system x past') _ _ (f.threads x h) (g.threads x h) (l.wholes x known h later set);
          words = λ n known h. ap (λ (held : Held). held.word) (g.words n h) ∙ l.words n known h ∙ sym (ap (λ (held : Held). held.word) (f.words n h));
          sets = λ n known h set. ap (λ (held : Held). held.since) (g.words n h) ∙ l.sets n known h set ∙ sym (ap (λ (held : Held). held.since + d) (f.words n h));
          before = up_to-turn c t whats past l.before;
          after = up_to-turn c (t + d) whats' past' l.after;
        }
      where
        both : (a b a' b' : Account) → a' ≡ a → b' ≡ b → IsLaterAccount d a b → IsLaterAccount d a' b'
        both a b a' b' e f h = rw (e, f) h

        quiet-both : (a b a' b' : Account) → a' ≡ a → b' ≡ b → IsLaterQuiet d a b → IsLaterQuiet d a' b'
        quiet-both a b a' b' e f h = rw (e, f) h

    module _ (c t : ℕ) (own_core : group c ≡ true) where
      abbrev shift : Shift
      shift = shift_of shifts c

      about-later : (x : ℕ) (what : What) → is_about x (later_what shift what) ≡ is_about x what
      about-later x (row.Release y) = refl
      about-later x (row.Run y) = refl
      about-later x (row.Stop y cause k until) = refl
      about-later x (row.Signal y note badge) = refl
      about-later x (row.Arrive note badge maker) = refl
      about-later x (row.Wake y note word until) = refl
      about-later x (row.Hold note word) = refl
      about-later x (row.Got y note word) = refl
      about-later x (row.Round y number response) = refl
      about-later x (row.Order context) = refl
      about-later x (row.Interrupt source at_note badge) = refl

      own-note : (n : ℕ) → (note_part system n).core ≡ c → group (note_part system n).core ≡ true
      own-note n e = ap group e ∙ own_core

      -- when the word for which a thread waits first was set
      first_set : ℕ → List Row → ℕ
      first_set x past = (word_for (firsts_of system) (first_wait (thread_part system x)) past).since

      some-same : (a b : ℕ) → Some a ≡ Some b → a ≡ b
      some-same a b e = cc

      false-true : false ≡ true → ⊥
      false-true e = cc

      first-is : (n : ℕ) (waits : Option ℕ) → waits_for n waits ≡ true → waits ≡ Some n
      first-is n None e = absurd (false-true e)
      first-is n (Some first) e = ap Some (equal first n e)

      -- a word that a thread takes begins no round of it, or the one for which it waits first was set
      -- later
      kinds : (what : What) (x : ℕ) (a : Account) → a.waits ≡ first_wait (thread_part system x) → is_about x what ≡ true → Counts what →
          BeginsNone shift what a ⊎ FirstIsSet Set x
      kinds (row.Got y n word) x a w e k = by (waits_for n (first_wait (thread_part system x))) refl k
        where
          by : (b : Bool) → waits_for n (first_wait (thread_part system x)) ≡ b → Set n ⊎ (waits_for n (first_wait (thread_part system y)) ≡ false) →
              BeginsNone shift (row.Got y n word) a ⊎ FirstIsSet Set x
          by false f k = inl (ap (λ waits. waits_for n waits && calls a.bits word) w ∙ ap (λ b. b && calls a.bits word) f)
          by true f (inl set) = inr (λ m g. subst Set (some-same n m (sym (first-is n (first_wait (thread_part system x)) f) ∙ g)) set)
          by true f (inr none) =
              let P : ℕ → Type 0 = λ z. waits_for n (first_wait (thread_part system z)) ≡ false in
              absurd (false-true (sym (subst P (equal y x e) none) ∙ f))
      kinds (row.Release y) x a w e k = inl tt
      kinds (row.Run y) x a w e k = inl tt
      kinds (row.Stop y cause j until) x a w e k = inl tt
      kinds (row.Signal y note badge) x a w e k = inl tt
      kinds (row.Arrive note badge maker) x a w e k = inl tt
      kinds (row.Wake y note word until) x a w e k = inl tt
      kinds (row.Hold note word) x a w e k = inl tt
      kinds (row.Round y number response) x a w e k = inl tt
      kinds (row.Order context) x a w e k = inl tt
      kinds (row.Interrupt source at_note badge) x a w e k = inl tt

      -- an account whose thread's row it is
      module _ (what : What) (past past' : List Row) (o : IsOfOwn system c what) (k : Counts what) (l : Like t past past')
          (x : ℕ) (known : x < length system.threads) (h : group (home x) ≡ true) (later : Later x) where
        abbrev before : Account
        before = account_at system x past

        abbrev after : Account
        after = account_at system x past'

        abbrev next : Account
        next = account_at system x (at t c what ∷ past)

        abbrev next' : Account
        next' = account_at system x (at (t + d) c (later_what shift what) ∷ past')

        abbrev set : ℕ
        set = (word_for (firsts_of system) (first_wait (thread_part system x)) past).since

        abbrev set' : ℕ
        set' = (word_for (firsts_of system) (first_wait (thread_part system x)) past').since

        moved : (a b a' b' : Account) → a ≡ a' → b ≡ b' → IsLaterAccount d a b → IsLaterAccount d a' b'
        moved a b a' b' e f h = rw (sym e, sym f) h

        quiet-moved : (a b a' b' : Account) → a ≡ a' → b ≡ b' → IsLaterQuiet d a b → IsLaterQuiet d a' b'
        quiet-moved a b a' b' e f h = rw (sym e, sym f) h

        same-next : is_about x what ≡ false → before ≡ next
        same-next e = sym (same (firsts_of system) (thread_part system x) x past t c what e)

        same-next' : is_about x what ≡ false → after ≡ next'
        same-next' e = sym (same (firsts_of system) (thread_part system x) x past' (t + d) c (later_what shift what) (about-later x what ∙ e))

        own-next : is_about x what ≡ true → seen_own set t what before ≡ next
        own-next e = own (firsts_of system) (thread_part system x) x past t c set what e refl l.before

        own-next' : is_about x what ≡ true → seen_own set' (t + d) (later_what shift what) after ≡ next'
        own-next' e = own (firsts_of system) (thread_part system x) x past' (t + d) c set' (later_what shift what) (about-later x what ∙ e) refl l.after

        -- the word was set later, or none is waited for first
        whole-own : FirstIsSet Set x → is_about x what ≡ true → IsLaterAccount d next next'
        whole-own first e = by (first_wait (thread_part system x)) refl
          where
            whole : IsLaterAccount d before after
            whole = l.wholes x known h later first

            seen : IsLaterAccount d (seen_own set t what before) (seen_own (set + d) (t + d) (later_what shift what) after)
            seen = account-seen shift set t what before after whole

            by : (waits : Option ℕ) → first_wait (thread_part system x) ≡ waits → IsLaterAccount d next next'
            by None f =
                moved _ _ _ _ (own-next e)
                (unset-seen shift (set + d) set' (t + d) (later_what shift what) after f ∙ own-next' e) seen
            by (Some n) f =
                let there = waits-first system (home x) (thread_part system x).script n (well.threads x no_thread known).items f in
                let mine : group (note_part system n).core ≡ true = ap group there.1 ∙ h in
                let is : set' ≡ set + d =
                ap (λ waits. (word_for (firsts_of system) waits past').since) f
                ∙ ap (λ (held : Held). held.since) (held-known system n past' there.0)
                ∙ l.sets n there.0 mine (first n f)
                ∙ sym (ap (λ (held : Held). held.since + d) (held-known system n past there.0))
                ∙ sym (ap (λ waits. (word_for (firsts_of system) waits past).since + d) f)
                in
                let P : ℕ → Type 0 = λ s. IsLaterAccount d (seen_own set t what before) (seen_own s (t + d) (later_what shift what) after) in
                moved _ _ _ _ (own-next e) (own-next' e) (subst P (sym is) seen)

        whole-row : FirstIsSet Set x → IsLaterAccount d next next'
        whole-row first = by (is_about x what) refl
          where
            by : (b : Bool) → is_about x what ≡ b → IsLaterAccount d next next'
            by false e = moved before after next next' (same-next e) (same-next' e) (l.wholes x known h later first)
            by true e = whole-own first e

        quiet-row : IsLaterQuiet d next next'
        quiet-row = by (is_about x what) refl
          where
            or : is_about x what ≡ true → BeginsNone shift what before ⊎ FirstIsSet Set x → IsLaterQuiet d next next'
            or e (inl none) =
                quiet-moved _ _ next next' (own-next e) (own-next' e)
                (quiet-seen shift set set' t what before after none (l.threads x known h later))
            or e (inr first) = later-quiet shift next next' (whole-own first e)

            by : (b : Bool) → is_about x what ≡ b → IsLaterQuiet d next next'
            by false e = quiet-moved before after next next' (same-next e) (same-next' e) (l.threads x known h later)
            by true e = or e (kinds what x before refl e k)

      -- the word of a notification
      word-row : (n : ℕ) (what : What) (past past' : List Row) → (held_in system n past').word ≡ (held_in system n past).word →
          (held_in system n (at (t + d) c (later_what shift what) ∷ past')).word ≡ (held_in system n (at t c what ∷ past)).word
      word-row n (row.Hold y word) past past' e = by (y == n)
        where
          by : (b : Bool) → (cond b (held_with (t + d) word (held_in system n past')) (held_in system n past')).word ≡ (cond b (held_with t word (held_in system n past)) (held_in system n past)).word
          by true = refl
          by false = e
      word-row n (row.Got x y word) past past' e = by (y == n)
        where
          by : (b : Bool) → (cond b (taken word (held_in system n past')) (held_in system n past')).word ≡ (cond b (taken word (held_in system n past)) (held_in system n past)).word
          by true = refl
          by false = e
      word-row n (row.Release x) past past' e = e
      word-row n (row.Run x) past past' e = e
      word-row n (row.Stop x cause k until) past past' e = e
      word-row n (row.Signal x note badge) past past' e = e
      word-row n (row.Arrive note badge maker) past past' e = e
      word-row n (row.Wake x y word until) past past' e = by (y == n)
        where
          by : (b : Bool) → (cond b (gave word (held_in system n past')) (held_in system n past')).word ≡ (cond b (gave word (held_in system n past)) (held_in system n past)).word
          by true = e
          by false = e
      word-row n (row.Round x number response) past past' e = e
      word-row n (row.Order context) past past' e = e
      word-row n (row.Interrupt source at_note badge) past past' e = e

      set-row : (n : ℕ) (what : What) (past past' : List Row) → (held_in system n past').word ≡ (held_in system n past).word → (held_in system n past').since ≡ (held_in system n past).since + d →
          (held_in system n (at (t + d) c (later_what shift what) ∷ past')).since ≡ (held_in system n (at t c what ∷ past)).since + d
      set-row n (row.Hold y word) past past' e f = by (y == n)
        where
          first : (b : Bool) → cond b (held_in system n past').since (t + d) ≡ cond b (held_in system n past).since t + d
          first true = f
          first false = refl

          by : (b : Bool) → (cond b (held_with (t + d) word (held_in system n past')) (held_in system n past')).since ≡ (cond b (held_with t word (held_in system n past)) (held_in system n past)).since + d
          by true =
              ap (λ bits. cond (is_set bits (held_in system n past').word) (held_in system n past').since (t + d)) (bits-same system n past past')
              ∙ ap (λ word. cond (is_set (held_in system n past).bits word) (held_in system n past').since (t + d)) e
              ∙ first (is_set (held_in system n past).bits (held_in system n past).word)
          by false = f
      set-row n (row.Got x y word) past past' e f = by (y == n)
        where
          by : (b : Bool) → (cond b (taken word (held_in system n past')) (held_in system n past')).since ≡ (cond b (taken word (held_in system n past)) (held_in system n past)).since + d
          by true = f
          by false = f
      set-row n (row.Release x) past past' e f = f
      set-row n (row.Run x) past past' e f = f
      set-row n (row.Stop x cause k until) past past' e f = f
      set-row n (row.Signal x note badge) past past' e f = f
      set-row n (row.Arrive note badge maker) past past' e f = f
      set-row n (row.Wake x y word until) past past' e f = by (y == n)
        where
          by : (b : Bool) → (cond b (gave word (held_in system n past')) (held_in system n past')).since ≡ (cond b (gave word (held_in system n past)) (held_in system n past)).since + d
          by true = f
          by false = f
      set-row n (row.Round x number response) past past' e f = f
      set-row n (row.Order context) past past' e f = f
      set-row n (row.Interrupt source at_note badge) past past' e f = f

      alike-row : (what : What) (past past' : List Row) → IsOfOwn system c what → Counts what → Like t past past' → Like t (at t c what ∷ past) (at (t + d) c (later_what shift what) ∷ past')
      alike-row what past past' o k l =
          record {
            threads = λ x known h later. quiet-row what past past' o k l x known h later;
            wholes = λ x known h later first. whole-row what past past' o k l x known h later first;
            words = λ n known h. word-row n what past past' (l.words n known h);
            sets = λ n known h set. set-row n what past past' (l.words n known h) (l.sets n known h set);
            before = (omega arith, l.before);
            after = (omega arith, l.after);
          }

      -- the round that a row ends
      round-later : (x number : ℕ) (past past' : List Row) → IsOwnThread system c x → Later x → Like t past past' →
          job system past' (t + d) x (more_rounds (shift.rounds x) number) ≡ later_job shift (job system past t x number)
      round-later x number past past' o k l =
          sym (job-kept system x past' (t + d) (more_rounds (shift.rounds x) number) l.after)
          ∙ account-jobs shift t x number (account_at system x past) (account_at system x past') (since-up_to x t past l.before) (since-up_to x (t + d) past' l.after) (l.threads x o.known (ap group o.home ∙ own_core) k)
          ∙ ap (later_job shift) (job-kept system x past t number l.before)

      job-later : (what : What) (past past' : List Row) → IsOfOwn system c what → Counts what → Like t past past' →
          job_of system past' (t + d) (later_what shift what) ≡ option_map (later_job shift) (job_of system past t what)
      job-later (row.Round x number response) past past' o k l =
          job-known x (more_rounds (shift.rounds x) number) (t + d) past' o.known ∙ ap Some (round-later x number past past' o k l)
          ∙ ap (option_map (later_job shift)) (sym (job-known x number t past o.known))
      job-later (row.Release x) past past' o k l = refl
      job-later (row.Run x) past past' o k l = refl
      job-later (row.Stop x cause j until) past past' o k l = refl
      job-later (row.Signal x note badge) past past' o k l = refl
      job-later (row.Arrive note badge maker) past past' o k l = refl
      job-later (row.Wake x note word until) past past' o k l = refl
      job-later (row.Hold note word) past past' o k l = refl
      job-later (row.Got x note word) past past' o k l = refl
      job-later (row.Order context) past past' o k l = refl
      job-later (row.Interrupt source at_note badge) past past' o k l = refl

      -- the finding of the row
      finding-later : (what : What) (past past' : List Row) → IsOfOwn system c what → Counts what → Like t past past' →
          finding system past' (t + d) (later_what shift what) ≡ option_map (later_finding shift) (finding system past t what)
      finding-later (row.Round x number response) past past' o k l =
          ap (missed (thread_part system x).deadline) (round-later x number past past' o k l)
          ∙ missed-later shift (thread_part system x).deadline (job system past t x number)
      finding-later (row.Hold n word) past past' o k l =
          ap (λ (held : Held). cond (leaves held.word word) (Some (Lost n word)) None) (held-known system n past' o.known)
          ∙ ap (λ w. cond (leaves w word) (Some (Lost n word)) None) (l.words n o.known (own-note n o.home))
          ∙ ap (λ (held : Held). cond (leaves held.word word) (Some (Lost n word)) None) (sym (held-known system n past o.known))
          ∙ by (leaves (held_of (firsts_of system) n past).word word)
        where
          by : (b : Bool) → cond b (Some (Lost n word)) None ≡ option_map (later_finding shift) (cond b (Some (Lost n word)) None)
          by true = refl
          by false = refl
      finding-later (row.Release x) past past' o k l = refl
      finding-later (row.Run x) past past' o k l = refl
      finding-later (row.Stop x cause j until) past past' o k l = refl
      finding-later (row.Signal x note badge) past past' o k l = refl
      finding-later (row.Arrive note badge maker) past past' o k l = refl
      finding-later (row.Wake x note word until) past past' o k l = refl
      finding-later (row.Got x note word) past past' o k l = refl
      finding-later (row.Order context) past past' o k l = refl
      finding-later (row.Interrupt source at_note badge) past past' o k l = refl

      -- the rows of a turn of a core of the group
      alike-own : (whats : List What) (past past' : List Row) → AllByRecursion (IsOfOwn system c) whats → AreCounted whats → Like t past past' →
          Like t (past_of past (stamped c t whats)) (past_of past' (stamped c (t + d) (map (later_what shift) whats)))
      alike-own [] past past' o k l = l
      alike-own (what ∷ whats) past past' o k l =
          alike-own whats (at t c what ∷ past) (at (t + d) c (later_what shift what) ∷ past') o.1 k.1 (alike-row what past past' o.0 k.0 l)

      found-later : (whats : List What) (past past' : List Row) → AllByRecursion (IsOfOwn system c) whats → AreCounted whats → Like t past past' →
          found_in system past' (stamped c (t + d) (map (later_what shift) whats)) ≡ map (later_found shifts) (found_in system past (stamped c t whats))
      found-later [] past past' o k l = refl
      found-later (what ∷ whats) past past' o k l =
          ap (λ found. found_at (t + d) c found ++ others') (finding-later what past past' o.0 k.0 l)
          ∙ by (finding system past t what)
          (found-later whats (at t c what ∷ past) (at (t + d) c (later_what shift what) ∷ past') o.1 k.1 (alike-row what past past' o.0 k.0 l))
        where
          others : List Found
          others = found_in system (at t c what ∷ past) (stamped c t whats)

          others' : List Found
          others' = found_in system (at (t + d) c (later_what shift what) ∷ past') (stamped c (t + d) (map (later_what shift) whats))

          by : (o : Option Finding) → others' ≡ map (later_found shifts) others →
              found_at (t + d) c (option_map (later_finding shift) o) ++ others' ≡ map (later_found shifts) (found_at t c o ++ others)
          by None e = e
          by (Some found) e = ap (λ more. record { moment = t + d; core = c; finding = later_finding shift found } ∷ more) e

      jobs-later : (whats : List What) (past past' : List Row) → AllByRecursion (IsOfOwn system c) whats → AreCounted whats → Like t past past' →
          jobs_in system past' (stamped c (t + d) (map (later_what shift) whats)) ≡ map (later_job_of system shifts) (jobs_in system past (stamped c t whats))
      jobs-later [] past past' o k l = refl
      jobs-later (what ∷ whats) past past' o k l =
          ap (λ job. option_to_list job ++ others') (job-later what past past' o.0 k.0 l)
          ∙ by (job_of system past t what) (of-core c t what past o.0)
          (jobs-later whats (at t c what ∷ past) (at (t + d) c (later_what shift what) ∷ past') o.1 k.1 (alike-row what past past' o.0 k.0 l))
        where
          others : List Job
          others = jobs_in system (at t c what ∷ past) (stamped c t whats)

          others' : List Job
          others' = jobs_in system (at (t + d) c (later_what shift what) ∷ past') (stamped c (t + d) (map (later_what shift) whats))

          by : (o : Option Job) → IfSome o (λ job. home job.thread ≡ c) → others' ≡ map (later_job_of system shifts) others →
              option_to_list (option_map (later_job shift) o) ++ others' ≡ map (later_job_of system shifts) (option_to_list o ++ others)
          by None f e = e
          by (Some job) f e =
              ap (λ c. later_job (shift_of shifts c) job ∷ others') (sym f) ∙ ap (λ more. later_job_of system shifts job ∷ more) e

    -- a turn, of whichever core
    pub alike-turn : (c t : ℕ) (whats whats' : List What) (past past' : List Row) → AllByRecursion (IsOfOwn system c) whats → AllByRecursion (IsOfOwn system c) whats' →
        (group c ≡ true → AreCounted whats) → (group c ≡ true → whats' ≡ map (later_what (shift_of shifts c)) whats) → Like t past past' →
        Like t (past_of past (stamped c t whats)) (past_of past' (stamped c (t + d) whats'))
    alike-turn c t whats whats' past past' o o' k e l = by (group c) refl
      where
        by : (b : Bool) → group c ≡ b → Like t (past_of past (stamped c t whats)) (past_of past' (stamped c (t + d) whats'))
        by true own =
            let P : List What → Type 0 = λ ws. Like t (past_of past (stamped c t whats)) (past_of past' (stamped c (t + d) ws)) in
            subst P (sym (e own)) (alike-own c t own whats past past' o (k own) l)
        by false away = alike-foreign c t whats whats' past past' away o o' l

    pub found-turn : (c t : ℕ) (whats whats' : List What) (past past' : List Row) → AllByRecursion (IsOfOwn system c) whats → AllByRecursion (IsOfOwn system c) whats' →
        (group c ≡ true → AreCounted whats) → (group c ≡ true → whats' ≡ map (later_what (shift_of shifts c)) whats) → Like t past past' →
        filter of_group (found_in system past' (stamped c (t + d) whats')) ≡ map (later_found shifts) (filter of_group (found_in system past (stamped c t whats)))
    found-turn c t whats whats' past past' o o' k e l = by (group c) refl
      where
        by : (b : Bool) → group c ≡ b →
            filter of_group (found_in system past' (stamped c (t + d) whats')) ≡ map (later_found shifts) (filter of_group (found_in system past (stamped c t whats)))
        by true own =
            found-own c (t + d) whats' past' own
            ∙ ap (λ ws. found_in system past' (stamped c (t + d) ws)) (e own)
            ∙ found-later c t own whats past past' o (k own) l
            ∙ ap (map (later_found shifts)) (sym (found-own c t whats past own))
        by false away = found-foreign c (t + d) whats' past' away ∙ ap (map (later_found shifts)) (sym (found-foreign c t whats past away))

    pub jobs-turn : (c t : ℕ) (whats whats' : List What) (past past' : List Row) → AllByRecursion (IsOfOwn system c) whats → AllByRecursion (IsOfOwn system c) whats' →
        (group c ≡ true → AreCounted whats) → (group c ≡ true → whats' ≡ map (later_what (shift_of shifts c)) whats) → Like t past past' →
        filter is_own_job (jobs_in system past' (stamped c (t + d) whats')) ≡ map (later_job_of system shifts) (filter is_own_job (jobs_in system past (stamped c t whats)))
    jobs-turn c t whats whats' past past' o o' k e l = by (group c) refl
      where
        by : (b : Bool) → group c ≡ b →
            filter is_own_job (jobs_in system past' (stamped c (t + d) whats')) ≡ map (later_job_of system shifts) (filter is_own_job (jobs_in system past (stamped c t whats)))
        by true own =
            jobs-own c (t + d) whats' past' own o'
            ∙ ap (λ ws. jobs_in system past' (stamped c (t + d) ws)) (e own)
            ∙ jobs-later c t own whats past past' o (k own) l
            ∙ ap (map (later_job_of system shifts)) (sym (jobs-own c t whats past own o))
        by false away = jobs-foreign c (t + d) whats' past' away o' ∙ ap (map (later_job_of system shifts)) (sym (jobs-foreign c t whats past away o))
