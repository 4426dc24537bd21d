-- The watch of a group that recurs: before each moment from then on the accounts of its threads and
-- its words are those a period earlier, but later.
use Rattle.std.proofs.Common.{◌≡◌, ℕ, zero, suc, ◌+◌, ◌-◌, ◌<◌, ◌≤◌, ◌⊎◌, inl, inr, Bool, true, false, ◌&&◌, List, [], ◌∷◌, ◌++◌, length, get_or, map, refl, sym, ap, subst, ◌∙◌, append_assoc, Option, Some, None, arith}
use Rattle.std.specs.Prelude.{filter, flat_map, ◌==◌, nat_le, option_to_list}
use Rattle.std.specs.List.{range_with_len, AllByRecursion}
use Rattle.std.proofs.lemmas.Bool.Decides.{nat_tests}
use Rattle.std.proofs.lemmas.List.{map-append}
use Rattle.std.proofs.lemmas.List.Elements.{filter-append}
use Rattle.mcs_ticks.specs.declared.row.Row.{Row}
use Rattle.mcs_ticks.specs.declared.row.What.{What}
use Rattle.mcs_ticks.specs.declared.row.What.TheVariants as row
use Rattle.mcs_system.specs.System.{System, no_thread, thread_part, core_of, is_server}
use Rattle.mcs_system.specs.WellFormed.{IsWellFormed}
use Rattle.mcs_verdict.specs.Calls.{first_wait}
use Rattle.mcs_verdict.specs.Takers.{waits_for}
use Rattle.mcs_core.specs.Clock.{clock, turn_of, rows_of}
use Rattle.mcs_core.proofs.Clock.{rows-clock}
use Rattle.mcs_laws.proofs.Histories.{takes-time}
use Rattle.mcs_verdict.specs.declared.account.Account.{Account}
use Rattle.mcs_verdict.specs.declared.held.Held.{Held}
use Rattle.mcs_verdict.specs.declared.finding.Found.{Found}
use Rattle.mcs_verdict.specs.Words.{no_word, firsts_of}
use Rattle.mcs_verdict.specs.declared.job.Job.{Job}
use Rattle.mcs_verdict.specs.Jobs.{job_of, jobs_in}
use Rattle.mcs_verdict.specs.Findings.{UpTo, past_of, found_at, found_in, finding}
use Rattle.mcs_verdict.specs.Watch.{accounts_of, words_of}
use Rattle.mcs_verdict.specs.Later.{IsLaterAccount}
use Rattle.mcs_verdict.proofs.Kept.{account_at}
use Rattle.mcs_verdict.proofs.Watches.{account_kept}
use Rattle.mcs_verdict.proofs.Words.{length-words, word_kept}
use Rattle.mcs_verdict_laws.proofs.Fits.{held_in}
use Rattle.mcs_verdict_laws.proofs.Due.{length-firsts}
use Rattle.mcs_verdict_laws.proofs.Order.{in_order}
use Rattle.mcs_ever.specs.Later.{later_what}
use Rattle.mcs_ever.specs.Recurs.{Shifts, shift_of}
use Rattle.mcs_ever.specs.laws.Home.{IsOfOwn}
use Rattle.mcs_ever.specs.laws.Repeats.{ends_round, EndsNoRound}
use Rattle.mcs_ever.proofs.Home.{rows-of-own}
use Rattle.mcs_ever.proofs.Worlds.{rows-again}
use Rattle.mcs_ever.proofs.Schedules.{each-turn}
use Rattle.mcs_ever.proofs.Repeats.{forever}
use Rattle.mcs_verdict.proofs.Orders.{up_to-later}
use Rattle.mcs_verdict_laws.proofs.Standings.{past-append}
use Rattle.mcs_ever_found.specs.Later.{later_found}
use Rattle.mcs_ever_found.specs.Recurs.{takes_word, TakesNoWord, past_before, ThreadIsLater, WordIsSame, WordIsLater, FindingsRecur}
use Rattle.mcs_ever_found.specs.laws.Repeats.{rows_at, later_job_of}
use Rattle.mcs_ever_found.proofs.Accounts.{later-quiet}
use Rattle.mcs_ever_found.proofs.Scripts.{waits-first}
use Rattle.mcs_ever_found.proofs.Alike.{Alike, Counts, AreCounted, alike-turn, found-turn, jobs-turn}

-- some rows and then others
pub found_in-append : (system : System) (past xs ys : List Row) → found_in system past (xs ++ ys) ≡ found_in system past xs ++ found_in system (past_of past xs) ys
found_in-append system past [] ys = refl
found_in-append system past (x ∷ xs) ys =
    ap (λ found. found_at x.moment x.core (finding system past x.moment x.what) ++ found) (found_in-append system (x ∷ past) xs ys)
    ∙ sym (append_assoc (found_at x.moment x.core (finding system past x.moment x.what)) (found_in system (x ∷ past) xs) (found_in system (past_of (x ∷ past) xs) ys))

pub jobs_in-append : (system : System) (past xs ys : List Row) → jobs_in system past (xs ++ ys) ≡ jobs_in system past xs ++ jobs_in system (past_of past xs) ys
jobs_in-append system past [] ys = refl
jobs_in-append system past (x ∷ xs) ys =
    ap (λ jobs. option_to_list (job_of system past x.moment x.what) ++ jobs) (jobs_in-append system (x ∷ past) xs ys)
    ∙ sym (append_assoc (option_to_list (job_of system past x.moment x.what)) (jobs_in system (x ∷ past) xs) (jobs_in system (past_of (x ∷ past) xs) ys))

module _ (system : System) (well : IsWellFormed system) where
  -- the rows before a moment
  pub past-next : (t : ℕ) → past_before system (suc t) ≡ past_of (past_before system t) (rows_at system t)
  past-next t = ap (past_of []) (rows-clock system (takes-time system well) t) ∙ past-append [] (clock system t).rows (rows_at system t)

  pub up_to : (t : ℕ) → UpTo t (past_before system t)
  up_to zero = tt
  up_to (suc t) = up_to-later t (suc t) (past_before system (suc t)) (omega arith) (in_order system well t).1

  -- the account of a thread, and a word
  pub account-kept : (t x : ℕ) (d : Account) → x < length system.threads → get_or (accounts_of (firsts_of system) 0 system.threads (past_before system t)) x d ≡ account_at system x (past_before system t)
  account-kept t x d l = account_kept (firsts_of system) x system.threads (past_before system t) d l

  pub word-kept : (t n : ℕ) (d : Held) → n < length system.notes → get_or (words_of 0 (firsts_of system) (past_before system t)) n d ≡ held_in system n (past_before system t)
  word-kept t n d l =
      let m = length-words 0 (firsts_of system) (past_before system t) in
      let k = length-firsts 0 system.threads system.notes in
      word_kept n (firsts_of system) (past_before system t) (words_of 0 (firsts_of system) (past_before system t)) d refl (omega (arith, l, m, k))

module _ (system : System) (group : ℕ → Bool) (shifts : Shifts) (from : ℕ) (well : IsWellFormed system) (recur : FindingsRecur system group shifts from) where
  abbrev d : ℕ
  d = shifts.by

  abbrev home : ℕ → ℕ
  home x = core_of system (thread_part system x)

  abbrev past : ℕ → List Row
  past t = past_before system t

  abbrev whats : ℕ → ℕ → List What
  whats t c = (turn_of system c t).rows

  -- the threads that are later, and the words that were set later
  abbrev pub Later : ℕ → Type 0
  Later x = IsLaterAccount shifts.by (account_at system x (past_before system from)) (account_at system x (past_before system (from + shifts.by)))

  abbrev pub Set : ℕ → Type 0
  Set n = (held_in system n (past_before system (from + shifts.by))).since ≡ (held_in system n (past_before system from)).since + shifts.by

  abbrev Like : ℕ → List Row → List Row → Type 0
  Like t rows rows' = Alike system group shifts Later Set t rows rows'

  -- a thread that ends a round is later; a word that is taken was set later, or is a server's
  abbrev Count : What → Type 0
  Count (row.Round x number response) = Later x
  Count (row.Got x note word) = Set note ⊎ (is_server system note ≡ true)
  Count (row.Release x) = Unit {0}
  Count (row.Run x) = Unit {0}
  Count (row.Stop x cause k until) = Unit {0}
  Count (row.Signal x note badge) = Unit {0}
  Count (row.Arrive note badge maker) = Unit {0}
  Count (row.Wake x note word until) = Unit {0}
  Count (row.Hold note word) = Unit {0}
  Count (row.Order context) = Unit {0}
  Count (row.Interrupt source at_note badge) = Unit {0}

  pub later-thread : (x : ℕ) → x < length system.threads → ThreadIsLater system d from x → Later x
  later-thread x known h =
      moved _ _ _ _ (account-kept system well from x other known) (account-kept system well (from + d) x other known) (h other)
    where
      other : Account
      other = account_at system x []

      moved : (a b a' b' : Account) → a ≡ a' → b ≡ b' → IsLaterAccount d a b → IsLaterAccount d a' b'
      moved a b a' b' e f h = rw (sym e, sym f) h

  pub later-word : (n : ℕ) → n < length system.notes → WordIsLater system d from n → Set n
  later-word n known h =
      sym (ap (λ (held : Held). held.since) (word-kept system well (from + d) n no_word known)) ∙ h no_word
      ∙ ap (λ (held : Held). held.since + d) (word-kept system well from n no_word known)

  same-word : (n : ℕ) → n < length system.notes → WordIsSame system d from n → (held_in system n (past (from + d))).word ≡ (held_in system n (past from)).word
  same-word n known h =
      sym (ap (λ (held : Held). held.word) (word-kept system well (from + d) n no_word known)) ∙ h no_word
      ∙ ap (λ (held : Held). held.word) (word-kept system well from n no_word known)

  count-row : (c t : ℕ) (what : What) → group c ≡ true → from ≤ t → IsOfOwn system c what →
      ((x : ℕ) → EndsNoRound system x from (from + d) → (nat_le from t && ends_round x what) ≡ false) →
      ((n : ℕ) → TakesNoWord system n from (from + d) → (nat_le from t && takes_word n what) ≡ false) → Count what
  count-row c t (row.Round x number response) own l o ends takes = by (recur.threads x o.known (ap group o.home ∙ own))
    where
      never : (a b x : ℕ) → a ≤ b → (nat_le a b && (x == x)) ≡ false → ⊥
      never a b x l e = grind (arith, nat_tests)

      by : ThreadIsLater system d from x ⊎ EndsNoRound system x from (from + d) → Later x
      by (inl later) = later-thread x o.known later
      by (inr none) = absurd (never from t x l (ends x none))
  count-row c t (row.Got x n word) own l o ends takes = by (recur.taken n o.1.known (ap group o.1.home ∙ own))
    where
      never : (a b x : ℕ) → a ≤ b → (nat_le a b && (x == x)) ≡ false → ⊥
      never a b x l e = grind (arith, nat_tests)

      by : WordIsLater system d from n ⊎ (TakesNoWord system n from (from + d) ⊎ (is_server system n ≡ true)) → Set n ⊎ (is_server system n ≡ true)
      by (inl later) = inl (later-word n o.1.known later)
      by (inr (inl none)) = absurd (never from t n l (takes n none))
      by (inr (inr served)) = inr served
  count-row c t (row.Release x) own l o ends takes = tt
  count-row c t (row.Run x) own l o ends takes = tt
  count-row c t (row.Stop x cause k until) own l o ends takes = tt
  count-row c t (row.Signal x note badge) own l o ends takes = tt
  count-row c t (row.Arrive note badge maker) own l o ends takes = tt
  count-row c t (row.Wake x note word until) own l o ends takes = tt
  count-row c t (row.Hold note word) own l o ends takes = tt
  count-row c t (row.Order context) own l o ends takes = tt
  count-row c t (row.Interrupt source at_note badge) own l o ends takes = tt

  count-rows : (c t : ℕ) (rows : List What) → group c ≡ true → from ≤ t → AllByRecursion (IsOfOwn system c) rows →
      ((x : ℕ) → EndsNoRound system x from (from + d) → AllByRecursion (λ what. (nat_le from t && ends_round x what) ≡ false) rows) →
      ((n : ℕ) → TakesNoWord system n from (from + d) → AllByRecursion (λ what. (nat_le from t && takes_word n what) ≡ false) rows) → AllByRecursion Count rows
  count-rows c t [] own l o ends takes = tt
  count-rows c t (what ∷ rows) own l o ends takes = (
    count-row c t what own l o.0 (λ x none. (ends x none).0) (λ n none. (takes n none).0),
    count-rows c t rows own l o.1 (λ x none. (ends x none).1) (λ n none. (takes n none).1),
  )

  count-first : (t c : ℕ) → from ≤ t → t < from + d → c < system.cores → group c ≡ true → AllByRecursion Count (whats t c)
  count-first t c l less known own =
      count-rows c t (whats t c) own l (rows-of-own system well c t known)
      (λ x none. each-turn (λ row. (nat_le from row.moment && ends_round x row.what) ≡ false) system well (suc (from + d)) t c (omega (arith, less)) known none)
      (λ n none. each-turn (λ row. (nat_le from row.moment && takes_word n row.what) ≡ false) system well (suc (from + d)) t c (omega (arith, less)) known none)

  count-later : (c : ℕ) (what : What) → Count what → Count (later_what (shift_of shifts c) what)
  count-later c (row.Round x number response) k = k
  count-later c (row.Got x note word) k = k
  count-later c (row.Release x) k = k
  count-later c (row.Run x) k = k
  count-later c (row.Stop x cause j until) k = k
  count-later c (row.Signal x note badge) k = k
  count-later c (row.Arrive note badge maker) k = k
  count-later c (row.Wake x note word until) k = k
  count-later c (row.Hold note word) k = k
  count-later c (row.Order context) k = k
  count-later c (row.Interrupt source at_note badge) k = k

  count-all : (t c : ℕ) → from ≤ t → c < system.cores → group c ≡ true → AllByRecursion Count (whats t c)
  count-all t c l known own = forever system group shifts from well recur.recurs (λ c what. Count what) count-later from (omega arith) count-first t c l known own

  no-server : false ≡ true → ⊥
  no-server e = cc

  -- a script waits first for no server
  counted-row : (c : ℕ) (what : What) → IsOfOwn system c what → Count what → Counts system group shifts well Later Set what
  counted-row c (row.Got x n word) o (inl set) = inl set
  counted-row c (row.Got x n word) o (inr served) = inr (by (first_wait (thread_part system x)) refl)
    where
      by : (waits : Option ℕ) → first_wait (thread_part system x) ≡ waits → waits_for n waits ≡ false
      by None e = refl
      by (Some first) e = at (first == n) refl
        where
          there : is_server system first ≡ false
          there = (waits-first system (home x) (thread_part system x).script first (well.threads x no_thread o.0.known).items e).2

          at : (b : Bool) → (first == n) ≡ b → b ≡ false
          at false f = refl
          at true f = let same : first ≡ n = grind (arith, nat_tests) in absurd (no-server (sym there ∙ ap (is_server system) same ∙ served))
  counted-row c (row.Round x number response) o k = k
  counted-row c (row.Release x) o k = tt
  counted-row c (row.Run x) o k = tt
  counted-row c (row.Stop x cause j until) o k = tt
  counted-row c (row.Signal x note badge) o k = tt
  counted-row c (row.Arrive note badge maker) o k = tt
  counted-row c (row.Wake x note word until) o k = tt
  counted-row c (row.Hold note word) o k = tt
  counted-row c (row.Order context) o k = tt
  counted-row c (row.Interrupt source at_note badge) o k = tt

  counted : (c : ℕ) (whats : List What) → AllByRecursion (IsOfOwn system c) whats → AllByRecursion Count whats → AreCounted system group shifts well Later Set whats
  counted c [] o k = tt
  counted c (what ∷ whats) o k = (counted-row c what o.0 k.0, counted c whats o.1 k.1)

  counted-turn : (t c : ℕ) → from ≤ t → c < system.cores → group c ≡ true → AreCounted system group shifts well Later Set (whats t c)
  counted-turn t c l known own = counted c (whats t c) (rows-of-own system well c t known) (count-all t c l known own)

  -- the turn of core c
  alike-core : (c t : ℕ) (rows rows' : List Row) → from ≤ t → c < system.cores → Like t rows rows' → Like t (past_of rows (rows_of system c t)) (past_of rows' (rows_of system c (t + d)))
  alike-core c t rows rows' l known h =
      alike-turn system group shifts well Later Set c t (whats t c) (whats (t + d) c) rows rows' (rows-of-own system well c t known) (rows-of-own system well c (t + d) known)
      (λ own. counted-turn t c l known own) (λ own. rows-again system group shifts from well recur.recurs t c l known own) h

  -- all turns of a moment, from core a on
  alike-cores : (n a t : ℕ) (rows rows' : List Row) → from ≤ t → a + n ≤ system.cores → Like t rows rows' →
      Like t (past_of rows (flat_map (λ c. rows_of system c t) (range_with_len a n))) (past_of rows' (flat_map (λ c. rows_of system c (t + d)) (range_with_len a n)))
  alike-cores zero a t rows rows' l few h = h
  alike-cores (suc n) a t rows rows' l few h =
      rw (
        past-append rows (rows_of system a t) (flat_map (λ c. rows_of system c t) (range_with_len (a + 1) n)),
        past-append rows' (rows_of system a (t + d)) (flat_map (λ c. rows_of system c (t + d)) (range_with_len (a + 1) n)),
      )
      (alike-cores n (a + 1) t (past_of rows (rows_of system a t)) (past_of rows' (rows_of system a (t + d))) l (omega (arith, few))
      (alike-core a t rows rows' l (omega (arith, few)) h))

  -- the findings of rows, by those before them
  module _ {A : Type 0} (tells : List Row → List Row → List A) (later : A → A) (nothing : (rows : List Row) → tells rows [] ≡ [])
      (append : (rows xs ys : List Row) → tells rows (xs ++ ys) ≡ tells rows xs ++ tells (past_of rows xs) ys)
      (turn : (c t : ℕ) (rows rows' : List Row) → from ≤ t → c < system.cores → Like t rows rows' → tells rows' (rows_of system c (t + shifts.by)) ≡ map later (tells rows (rows_of system c t))) where
    told-cores : (n a t : ℕ) (rows rows' : List Row) → from ≤ t → a + n ≤ system.cores → Like t rows rows' →
        tells rows' (flat_map (λ c. rows_of system c (t + d)) (range_with_len a n)) ≡ map later (tells rows (flat_map (λ c. rows_of system c t) (range_with_len a n)))
    told-cores zero a t rows rows' l few h = nothing rows' ∙ ap (map later) (sym (nothing rows))
    told-cores (suc n) a t rows rows' l few h =
        let known : a < system.cores = omega (arith, few) in
        append rows' now' others'
        ∙ both _ _ _ _ (turn a t rows rows' l known h)
        (told-cores n (a + 1) t (past_of rows now) (past_of rows' now') l (omega (arith, few)) (alike-core a t rows rows' l known h))
        ∙ sym (map-append later (tells rows now) (tells (past_of rows now) others))
        ∙ ap (map later) (sym (append rows now others))
      where
        now : List Row
        now = rows_of system a t

        now' : List Row
        now' = rows_of system a (t + d)

        others : List Row
        others = flat_map (λ c. rows_of system c t) (range_with_len (a + 1) n)

        others' : List Row
        others' = flat_map (λ c. rows_of system c (t + d)) (range_with_len (a + 1) n)

        both : (xs ys us vs : List A) → xs ≡ ys → us ≡ vs → xs ++ us ≡ ys ++ vs
        both xs ys us vs e f = cc

  abbrev LikeAt : ℕ → Type 0
  LikeAt t = Like t (past_before system t) (past_before system (t + shifts.by))

  base : LikeAt from
  base =
      record {
        threads = λ x known h later. later-quiet (shift_of shifts (home x)) (account_at system x (past from)) (account_at system x (past (from + d))) later;
        wholes = λ x known h later first. later;
        words = λ n known h. same-word n known (recur.words n known h);
        sets = λ n known h set. set;
        before = up_to system well from;
        after = up_to system well (from + d);
      }

  next : (t : ℕ) → from ≤ t → LikeAt t → LikeAt (suc t)
  next t l h =
      let now = alike-cores system.cores 0 t (past t) (past (t + d)) l (omega arith) h in
      let later : Like (suc t) (past_of (past t) (rows_at system t)) (past_of (past (t + d)) (rows_at system (t + d))) =
      record {
        threads = now.threads;
        wholes = now.wholes;
        words = now.words;
        sets = now.sets;
        before = up_to-later t (suc t) (past_of (past t) (rows_at system t)) (omega arith) now.before;
        after = up_to-later (t + d) (suc t + d) (past_of (past (t + d)) (rows_at system (t + d))) (omega arith) now.after;
      } in
      let e : suc (t + d) ≡ suc t + d = omega arith in
      let P : ℕ → Type 0 = λ n. Like (suc t) (past (suc t)) (past n) in
      let Q : List Row → List Row → Type 0 = λ rows rows'. Like (suc t) rows rows' in
      subst P e (moved Q _ _ _ _ (sym (past-next system well t)) (sym (past-next system well (t + d))) later)
    where
      moved : (Q : List Row → List Row → Type 0) (a b a' b' : List Row) → a ≡ a' → b ≡ b' → Q a b → Q a' b'
      moved Q a b a' b' e f h = rw (sym e, sym f) h

  alike-from : (n : ℕ) → LikeAt (from + n)
  alike-from zero = let e : from ≡ from + 0 = omega arith in subst LikeAt e base
  alike-from (suc n) = let e : suc (from + n) ≡ from + suc n = omega arith in subst LikeAt e (next (from + n) (omega arith) (alike-from n))

  pub alike : (t : ℕ) → from ≤ t → LikeAt t
  alike t l = let e : from + (t - from) ≡ t = omega (arith, l) in subst LikeAt e (alike-from (t - from))

  abbrev of_group : Found → Bool
  of_group found = group found.core

  abbrev is_own_job : Job → Bool
  is_own_job job = group (home job.thread)

  found-core : (c t : ℕ) (rows rows' : List Row) → from ≤ t → c < system.cores → Like t rows rows' →
      filter of_group (found_in system rows' (rows_of system c (t + d))) ≡ map (later_found shifts) (filter of_group (found_in system rows (rows_of system c t)))
  found-core c t rows rows' l known h =
      found-turn system group shifts well Later Set c t (whats t c) (whats (t + d) c) rows rows' (rows-of-own system well c t known) (rows-of-own system well c (t + d) known)
      (λ own. counted-turn t c l known own) (λ own. rows-again system group shifts from well recur.recurs t c l known own) h

  jobs-core : (c t : ℕ) (rows rows' : List Row) → from ≤ t → c < system.cores → Like t rows rows' →
      filter is_own_job (jobs_in system rows' (rows_of system c (t + d))) ≡ map (later_job_of system shifts) (filter is_own_job (jobs_in system rows (rows_of system c t)))
  jobs-core c t rows rows' l known h =
      jobs-turn system group shifts well Later Set c t (whats t c) (whats (t + d) c) rows rows' (rows-of-own system well c t known) (rows-of-own system well c (t + d) known)
      (λ own. counted-turn t c l known own) (λ own. rows-again system group shifts from well recur.recurs t c l known own) h

  pub found-later : (t : ℕ) → from ≤ t →
      filter of_group (found_in system (past_before system (t + shifts.by)) (rows_at system (t + shifts.by)))
      ≡ map (later_found shifts) (filter of_group (found_in system (past_before system t) (rows_at system t)))
  found-later t l =
      told-cores (λ past rows. filter of_group (found_in system past rows)) (later_found shifts) (λ past. refl)
      (λ past xs ys. ap (filter of_group) (found_in-append system past xs ys) ∙ filter-append of_group (found_in system past xs) (found_in system (past_of past xs) ys))
      found-core system.cores 0 t (past t) (past (t + d)) l (omega arith) (alike t l)

  pub jobs-later : (t : ℕ) → from ≤ t →
      filter is_own_job (jobs_in system (past_before system (t + shifts.by)) (rows_at system (t + shifts.by)))
      ≡ map (later_job_of system shifts) (filter is_own_job (jobs_in system (past_before system t) (rows_at system t)))
  jobs-later t l =
      told-cores (λ past rows. filter is_own_job (jobs_in system past rows)) (later_job_of system shifts) (λ past. refl)
      (λ past xs ys. ap (filter is_own_job) (jobs_in-append system past xs ys) ∙ filter-append is_own_job (jobs_in system past xs) (jobs_in system (past_of past xs) ys))
      jobs-core system.cores 0 t (past t) (past (t + d)) l (omega arith) (alike t l)
