-- The rows of each core may be counted by themselves.
use Rattle.std.proofs.Common.{◌≡◌, ◌≢◌, ℕ, zero, suc, ◌+◌, ◌-◌, ◌<◌, ◌≤◌, true, false, inl, inr, List, [], ◌∷◌, ◌++◌, length, get_or, refl, sym, ap, subst, ◌∙◌, append_assoc, arith}
use Rattle.std.specs.Prelude.{filter, fold, flat_map, slice_index}
use Rattle.std.specs.List.{range_with_len}
use Rattle.std.proofs.lemmas.Bool.{cases_lt, cases_eq}
use Rattle.std.proofs.lemmas.List.{ext_get_or, length-map}
use Rattle.std.proofs.lemmas.List.Sums.{fold-append}
use Rattle.mcs_ticks.specs.declared.row.Row.{Row}
use Rattle.mcs_ticks.specs.declared.row.What.{What}
use Rattle.mcs_system.proofs.Linked.{takes_time}
use Rattle.mcs_system.specs.System.{System, TakesTime}
use Rattle.mcs_system.specs.WellFormed.{IsWellFormed}
use Rattle.mcs_core.specs.Clock as clocks
use Rattle.mcs_core.specs.Turn.{Turn, stamped}
use Rattle.mcs_core.proofs.Clock.{turn_of-kept, rows-clock}
use Rattle.mcs_laws.proofs.Ranges.{flat_map-moments-more}
use Rattle.mcs_report.specs.declared.account.Account.{Account}
use Rattle.mcs_report.specs.Reports.{runs, stops}
use Rattle.mcs_report.specs.Tally.{Tally, no_account, opened_tally, added, finished}
use Rattle.mcs_report.specs.laws.Agreement.{tally_of}
use Rattle.mcs_report.specs.laws.ByCore.{home_of, rows_within, CountsNone, CountsMore, CountsAll, CoresAreCounted}
use Rattle.mcs_report.proofs.Alone.{alone, told_alone, each_from, accounts-fold, horizon-fold, cores-fold}
use Rattle.mcs_report.proofs.Agree.{same_tally}
use Rattle.mcs_report.proofs.Walks.{plain}
use Rattle.mcs_laws.proofs.Homes.{own_core, own_core_known, away}
use Rattle.mcs_report.proofs.Schedules.{turn-plain, reported}
use Rattle.mcs_report.proofs.Rounds.{ends_round, roundless, turn-roundless}

-- folding over the parts of a range, in order
module _ {A B : Type 0} (f : B → A → B) (g : ℕ → List A) where
  -- if no part changes anything
  fold-silent : (n a : ℕ) → ((c : ℕ) → a ≤ c → c < a + n → (b : B) → fold f b (g c) ≡ b) → (b : B) → fold f b (flat_map g (range_with_len a n)) ≡ b
  fold-silent zero a silent b = refl
  fold-silent (suc n) a silent b =
      fold-append f b (g a) (flat_map g (range_with_len (a + 1) n))
      ∙ ap (λ d. fold f d (flat_map g (range_with_len (a + 1) n))) (silent a (omega arith) (omega arith) b)
      ∙ fold-silent n (a + 1) (λ c l m. silent c (omega arith) (omega arith)) b

  -- if one part alone does
  fold-one : (home n a : ℕ) → a ≤ home → home < a + n → ((c : ℕ) → a ≤ c → c < a + n → c ≢ home → (b : B) → fold f b (g c) ≡ b)
      → (b : B) → fold f b (flat_map g (range_with_len a n)) ≡ fold f b (g home)
  fold-one home zero a l m silent b = absurd (omega arith)
  fold-one home (suc n) a l m silent b =
      fold-append f b (g a) (flat_map g (range_with_len (a + 1) n))
      ∙ elim (cases_lt a home) [
        | inl less ↦
            fold-one home n (a + 1) (omega arith) (omega arith) (λ c p q r. silent c (omega arith) (omega arith) r) (fold f b (g a))
            ∙ ap (λ d. fold f d (g home)) (silent a (omega arith) (omega arith) (omega arith) b)
        | inr at ↦
            let here : a ≡ home = omega arith in
            fold-silent n (a + 1) (λ c p q. silent c (omega arith) (omega arith) (omega arith)) (fold f b (g a)) ∙ ap (λ c. fold f b (g c)) here
      ]

-- stretches join, the first from any number
range-join : {A : Type 0} (g : ℕ → List A) (m n a : ℕ) → flat_map g (range_with_len a m) ++ flat_map g (range_with_len (a + m) n) ≡ flat_map g (range_with_len a (m + n))
range-join g zero n a = ap (λ b. flat_map g (range_with_len b n)) (omega arith) ∙ ap (λ k. flat_map g (range_with_len a k)) (omega arith)
range-join g (suc m) n a =
    let next : a + suc m ≡ a + 1 + m = omega arith in
    let count : suc m + n ≡ suc (m + n) = omega arith in
    rw (next, count, append_assoc (g a)) (ap (λ xs. g a ++ xs) (range-join g m n (a + 1)))

within-join : (system : System) (c s past : ℕ) → s ≤ past → rows_within system c 0 s ++ rows_within system c s past ≡ rows_within system c 0 past
within-join system c s past l =
    let start : 0 + (s - 0) ≡ s = omega arith in
    let count : s - 0 + (past - s) ≡ past - 0 = omega arith in
    cc (range-join (clocks.rows_of system c) (s - 0) (past - s) 0)

-- what a row says to the account of another thread
module _ (h x : ℕ) where
  row-silent : (m : ℕ) (what : What) (a : Account) → runs x what ≡ false → stops x what ≡ false → ends_round x what ≡ false → alone h x m what a ≡ a
  row-silent m what a e f g = grind (arith, e, f, g)

  rows-silent : (c t : ℕ) (whats : List What) → plain x whats ≡ true → roundless x whats ≡ true → (a : Account) → fold (told_alone h x) a (stamped c t whats) ≡ a
  rows-silent c t [] quiet rounds a = refl
  rows-silent c t (what ∷ whats) quiet rounds a =
      let run : runs x what ≡ false = grind (arith, quiet) in
      let stop : stops x what ≡ false = grind (arith, quiet) in
      let rest : plain x whats ≡ true = grind (arith, quiet) in
      let round : ends_round x what ≡ false = grind (arith, rounds) in
      ap (λ b. fold (told_alone h x) b (stamped c t whats)) (row-silent t what a run stop round) ∙ rows-silent c t whats rest (grind (arith, rounds)) a

-- each account of a tally
get_or-each : {A B : Type 0} (f : ℕ → A → B) (d : A) (e : B) (n i j : ℕ) (xs : List A) → i < length xs → n + i ≡ j → get_or (each_from n f xs) i e ≡ f j (get_or xs i d)
get_or-each f d e n i j [] l q = absurd (omega arith)
get_or-each f d e n zero j (x ∷ xs) l q = ap (λ k. f k x) (omega arith)
get_or-each f d e n (suc i) j (x ∷ xs) l q = get_or-each f d e (suc n) i j xs (omega arith) (omega arith)

length-each : {A B : Type 0} (f : ℕ → A → B) (n : ℕ) (xs : List A) → length (each_from n f xs) ≡ length xs
length-each f n [] = refl
length-each f n (x ∷ xs) = ap suc (length-each f (suc n) xs)

length-fold : (rows : List Row) (tally : Tally) → length (fold added tally rows).accounts ≡ length tally.accounts
length-fold rows tally = ap length (accounts-fold rows tally) ∙ length-each (λ i account. fold (told_alone tally.horizon i) account rows) 0 tally.accounts

pub account-fold : (rows : List Row) (tally : Tally) (x : ℕ) → x < length tally.accounts
    → get_or (fold added tally rows).accounts x no_account ≡ fold (told_alone tally.horizon x) (get_or tally.accounts x no_account) rows
account-fold rows tally x known =
    ap (λ accounts. get_or accounts x no_account) (accounts-fold rows tally)
    ∙ get_or-each (λ i account. fold (told_alone tally.horizon i) account rows) no_account no_account 0 x x tally.accounts known (omega arith)

-- the account of thread x at first
first_account : System → ℕ → ℕ → Account
first_account system h x = get_or (opened_tally system h).accounts x no_account

pub length-opened : (system : System) (h : ℕ) → length (opened_tally system h).accounts ≡ length system.threads
length-opened system h = length-map system.threads _

account-rows : (system : System) (h x : ℕ) (rows : List Row) → x < length system.threads
    → get_or (tally_of system h rows).accounts x no_account ≡ fold (told_alone h x) (first_account system h x) rows
unfolding first_account
account-rows system h x rows known = account-fold rows (opened_tally system h) x (omega (arith, length-opened system h))

module _ (system : System) (takes_time : TakesTime system) (h x : ℕ) where
  turn-silent : (t c : ℕ) → c < system.cores → c ≢ own_core system x → (a : Account) → fold (told_alone h x) a (clocks.rows_of system c t) ≡ a
  turn-silent t c known other a =
      rows-silent h x c t (clocks.turn_of system c t).rows
      (turn-plain system takes_time x t c known other)
      (subst (λ (made : Turn). roundless x made.rows ≡ true) (sym (turn_of-kept system c t))
      (turn-roundless system c t x (filter (clocks.arrives_at system t c) (clocks.world system t).mails) (clocks.core_shown system (clocks.world system t) c) (away system takes_time x t c known other)))
      a

  -- the rows of another core
  within-silent : (c first past : ℕ) → c < system.cores → c ≢ home_of system x → (a : Account) → fold (told_alone h x) a (rows_within system c first past) ≡ a
  unfolding own_core
  within-silent c first past known other a =
      fold-silent (told_alone h x) (clocks.rows_of system c) (past - first) first (λ t l m. turn-silent t c known other) a

  -- the rows of all cores are to the account what those of the thread's own core are
  clock-within : own_core system x < system.cores → (t : ℕ) (a : Account) →
      fold (told_alone h x) a (clocks.clock system t).rows ≡ fold (told_alone h x) a (flat_map (clocks.rows_of system (own_core system x)) (range_with_len 0 t))
  clock-within known zero a = refl
  clock-within known (suc t) a =
      let home = own_core system x in
      let told = told_alone h x in
      ap (fold told a) (rows-clock system takes_time t)
      ∙ fold-append told a (clocks.clock system t).rows (flat_map (λ c. clocks.rows_of system c t) (range_with_len 0 system.cores))
      ∙ fold-one told (λ c. clocks.rows_of system c t) home system.cores 0 (omega arith) (omega arith) (λ c l m other. turn-silent t c (omega arith) other) (fold told a (clocks.clock system t).rows)
      ∙ ap (λ b. fold told b (clocks.rows_of system home t)) (clock-within known t a)
      ∙ sym (fold-append told a (flat_map (clocks.rows_of system home) (range_with_len 0 t)) (clocks.rows_of system home t))
      ∙ ap (fold told a) (sym (flat_map-moments-more (clocks.rows_of system home) t))

  clock-home : home_of system x < system.cores → (t : ℕ) (a : Account) →
      fold (told_alone h x) a (clocks.clock system t).rows ≡ fold (told_alone h x) a (rows_within system (home_of system x) 0 t)
  unfolding own_core
  clock-home known t a =
      clock-within known t a ∙ ap (λ n. fold (told_alone h x) a (flat_map (clocks.rows_of system (home_of system x)) (range_with_len 0 n))) (omega arith)

pub home_known : (system : System) → IsWellFormed system → (x : ℕ) → home_of system x < system.cores
unfolding own_core
home_known system well x = own_core_known system well x

counts-none : (system : System) → IsWellFormed system → CountsNone system
counts-none system well h pasts zeros =
    record {
      horizon_is = refl;
      cores_are = refl;
      many_are = length-opened system h;
      own = λ x known.
          ap (λ n. get_or (tally_of system h (rows_within system (home_of system x) 0 n)).accounts x no_account) (sym (zeros (home_of system x) (home_known system well x)));
    }

counts-more : (system : System) → IsWellFormed system → CountsMore system
counts-more system well h c past pasts later tally known before there others counts =
    record {
      horizon_is = horizon-fold rows tally ∙ counts.horizon_is;
      cores_are = cores-fold rows tally ∙ counts.cores_are;
      many_are = length-fold rows tally ∙ counts.many_are;
      own = λ x in_threads.
          account-fold rows tally x (omega (arith, counts.many_are))
          ∙ ap (λ k. fold (told_alone k x) (get_or tally.accounts x no_account) rows) counts.horizon_is
          ∙ ap (λ a. fold (told_alone h x) a rows) (counts.own x in_threads ∙ account-rows system h x (rows_within system (home_of system x) 0 (slice_index pasts (home_of system x))) in_threads)
          ∙ by x
          ∙ sym (account-rows system h x (rows_within system (home_of system x) 0 (slice_index later (home_of system x))) in_threads);
    }
  where
    rows : List Row
    rows = rows_within system c (slice_index pasts c) past

    by : (x : ℕ) → fold (told_alone h x) (fold (told_alone h x) (first_account system h x) (rows_within system (home_of system x) 0 (slice_index pasts (home_of system x)))) rows
        ≡ fold (told_alone h x) (first_account system h x) (rows_within system (home_of system x) 0 (slice_index later (home_of system x)))
    by x =
        let home = home_of system x in
        let told = told_alone h x in
        let first = first_account system h x in
        elim (cases_eq home c) [
          | inl same ↦
              ap (λ k. fold told (fold told first (rows_within system k 0 (slice_index pasts k))) rows) same
              ∙ sym (fold-append told first (rows_within system c 0 (slice_index pasts c)) rows)
              ∙ ap (fold told first) (within-join system c (slice_index pasts c) past before)
              ∙ ap (λ n. fold told first (rows_within system c 0 n)) (sym there)
              ∙ ap (λ k. fold told first (rows_within system k 0 (slice_index later k))) (sym same)
          | inr other ↦
              within-silent system (takes_time system well) h x c (slice_index pasts c) past known (λ e. other (sym e)) (fold told first (rows_within system home 0 (slice_index pasts home)))
              ∙ ap (λ n. fold told first (rows_within system home 0 n)) (sym (others home (home_known system well x) other))
        ]

same_finished : (a b : Tally) → a.horizon ≡ b.horizon → a.cores ≡ b.cores → a.accounts ≡ b.accounts → finished a ≡ finished b
same_finished a b horizon cores accounts = ap finished (same_tally (record a { last = b.last }) b horizon cores refl accounts)

counts-all : (system : System) → IsWellFormed system → CountsAll system
counts-all system well h pasts tally ends counts =
    same_finished tally (tally_of system h rows)
    (counts.horizon_is ∙ sym (horizon-fold rows (opened_tally system h)))
    (counts.cores_are ∙ sym (cores-fold rows (opened_tally system h)))
    (ext_get_or no_account tally.accounts (tally_of system h rows).accounts
    (counts.many_are ∙ sym (length-fold rows (opened_tally system h) ∙ length-opened system h))
    (λ x l. same x (omega (arith, counts.many_are))))
    ∙ reported system well h
  where
    rows : List Row
    rows = clocks.schedule system h

    same : (x : ℕ) → x < length system.threads → get_or tally.accounts x no_account ≡ get_or (tally_of system h rows).accounts x no_account
    same x known =
        let home = home_of system x in
        let count : h + 1 ≡ suc h = omega arith in
        counts.own x known
        ∙ account-rows system h x (rows_within system home 0 (slice_index pasts home)) known
        ∙ ap (λ n. fold (told_alone h x) (first_account system h x) (rows_within system home 0 n)) (ends home (home_known system well x) ∙ count)
        ∙ sym (clock-home system (takes_time system well) h x (home_known system well x) (suc h) (first_account system h x))
        ∙ sym (account-rows system h x rows known)

pub cores-counted : CoresAreCounted
cores-counted system well = (counts-none system well, counts-more system well, counts-all system well)
