-- The account of who ran, after one more row and at the end.
use Rattle.std.proofs.Common.{◌≡◌, ℕ, ◌+◌, ◌-◌, ◌^◌, ◌<◌, ◌≤◌, min, true, false, eqb, ◌&&◌, cond, nat_lt, List, [], ◌∷◌, length, get_or, map, replicate, Option, None, refl, sym, ap, ◌∙◌, arith}
use Rattle.std.specs.List.{range_with_len}
use Rattle.std.proofs.lemmas.List.FromFn.{length-map-range_with_len}
use Rattle.std.proofs.lemmas.Bool.Decides.{nat_tests}
use Rattle.mcs_ticks.specs.declared.row.Row.{Row}
use Rattle.mcs_verdict.specs.Account.{since_of}
use Rattle.mcs_verdict.specs.Findings.{UpTo}
use Rattle.mcs_why.specs.Running.{is_turn, runner, turns, is_thread, is_nobody, ticks_for, ran_in, idle_in}
use Rattle.mcs_why.specs.Account.{Account, runner_now, passed_at, account_at, account_of}
use Rattle.mcs_why.proofs.Ticks.{earlier, passes, few, passed_more, passed_after, passed_before, passed_whole, passed_until, up_since, turn}
use Rattle.mcs_why.proofs.Ranges.{same_numbers, with_more, counts-first, count_of}

abbrev pub account : ℕ → ℕ → ℕ → ℕ → Option ℕ → List ℕ → ℕ → Account
account core from to passed runner ran idle =
    record { core = core; from = from; to = to; passed = passed; runner = runner; ran = ran; idle = idle }

pub same_account : (c c' f f' t t' p p' : ℕ) (r r' : Option ℕ) (xs xs' : List ℕ) (i i' : ℕ) → c ≡ c' → f ≡ f' → t ≡ t' → p ≡ p' → r ≡ r' → xs ≡ xs'
    → i ≡ i'
    → account c f t p r xs i ≡ account c' f' t' p' r' xs' i'
same_account c c' f f' t t' p p' r r' xs xs' i i' a b d e g h k =
    ap (λ x. account x f t p r xs i) a ∙ ap (λ x. account c' x t p r xs i) b ∙ ap (λ x. account c' f' x p r xs i) d
    ∙ ap (λ x. account c' f' t' x r xs i) e ∙ ap (λ x. account c' f' t' p' x xs i) g ∙ ap (λ x. account c' f' t' p' r' x i) h
    ∙ ap (λ x. account c' f' t' p' r' xs' x) k

-- no sum of what was counted and what is yet to be is above all ticks that passed
pub fits : (x n m : ℕ) → x ≤ n → n ≤ m → m < 2 ^ 64 → x + (m - n) < 2 ^ 64
fits x n m a b h = omega arith

-- so a sum that stays at 2^64 - 1 is exact
pub exact : (new old more x z total n : ℕ) → new ≡ min (old + more) (2 ^ 64 - 1) → old ≡ x → more ≡ z → total ≡ z + x → total ≤ n → n < 2 ^ 64
    → new ≡ total
exact new old more x z total n is a b e few small = omega arith

-- what the threads ran, if the same one runs for the ticks that passed
pub ran_more : (rows : List Row) (from n m threads : ℕ) → n ≤ m → (n < m → since_of rows ≤ from + n)
    → map (with_more (runner_now rows) (m - n) (λ thread. ticks_for (is_thread thread) rows from n)) (range_with_len 0 threads)
    ≡ map (λ thread. ticks_for (is_thread thread) rows from m) (range_with_len 0 threads)
ran_more rows from n m threads up since =
    same_numbers (with_more (runner_now rows) (m - n) (λ thread. ticks_for (is_thread thread) rows from n))
    (λ thread. ticks_for (is_thread thread) rows from m) threads
    (λ thread h. sym (passes (is_thread thread) rows from n m up since))

-- and how long the core was idle
pub idle_more : (rows : List Row) (from n m new old more : ℕ) → n ≤ m → m < 2 ^ 64 → (n < m → since_of rows ≤ from + n)
    → new ≡ min (old + more) (2 ^ 64 - 1) → old ≡ ticks_for is_nobody rows from n → more ≡ cond (is_nobody (runner_now rows)) (m - n) 0
    → new ≡ ticks_for is_nobody rows from m
idle_more rows from n m new old more up small since is was adds =
    exact new old more (ticks_for is_nobody rows from n) (cond (is_nobody (runner_now rows)) (m - n) 0) (ticks_for is_nobody rows from m) m
    is was adds (passes is_nobody rows from n m up since) (few is_nobody rows from m) small

-- the same, if this one runs from then on
abbrev pub with_runner : Account → Option ℕ → Account
with_runner kept who = account kept.core kept.from kept.to kept.passed who kept.ran kept.idle

-- a row that says who runs
pub turned : (threads core from to : ℕ) (r : Row) (past : List Row) → (eqb r.core core && is_turn r.what) ≡ true
    → with_runner (account_at threads core from to (turns core past) (passed_at from to r.moment)) (runner r.what)
    ≡ account_of threads core from to (r ∷ past)
turned threads core from to r past e =
    let n = passed_at from to r.moment in
    let rows = turns core past in
    same_account core core from from to to n n (runner r.what) (runner r.what)
    (map (λ thread. ticks_for (is_thread thread) rows from n) (range_with_len 0 threads))
    (map (λ thread. ticks_for (is_thread thread) (r ∷ rows) from n) (range_with_len 0 threads))
    (ticks_for is_nobody rows from n) (ticks_for is_nobody (r ∷ rows) from n)
    refl refl refl refl refl
    (same_numbers (λ thread. ticks_for (is_thread thread) rows from n) (λ thread. ticks_for (is_thread thread) (r ∷ rows) from n) threads
    (λ thread h. sym (earlier (is_thread thread) r rows from n (passed_before from to r.moment))))
    (sym (earlier is_nobody r rows from n (passed_before from to r.moment)))
    ∙ ap (λ rows. account_at threads core from to rows (passed_at from to (since_of rows))) (sym (turn core r past e))

-- how long a thread ran, at the end of the span
pub ran_whole : (threads core from to thread y old more new d : ℕ) (past : List Row) (counts : List ℕ) → y ≡ thread → y < length counts
    → counts ≡ map (λ thread. ticks_for (is_thread thread) (turns core past) from (passed_at from to (since_of (turns core past))))
    (range_with_len 0 threads)
    → old ≡ get_or counts y d
    → more ≡ cond (is_thread thread (runner_now (turns core past))) (to - from - passed_at from to (since_of (turns core past))) 0
    → new ≡ min (old + more) (2 ^ 64 - 1) → to ≤ 2 ^ 42 → new ≡ ran_in core thread past from to
ran_whole threads core from to thread y old more new d past counts at has e was adds is small =
    let rows = turns core past in
    let n = passed_at from to (since_of rows) in
    exact new old more (ticks_for (is_thread thread) rows from n) (cond (is_thread thread (runner_now rows)) (to - from - n) 0)
    (ran_in core thread past from to) (to - from) is
    (count_of (λ thread. ticks_for (is_thread thread) rows from n) threads y d old counts e has was
    ∙ ap (λ x. ticks_for (is_thread x) rows from n) at)
    adds
    (passes (is_thread thread) rows from n (to - from) (passed_whole from to (since_of rows)) (passed_until from to (since_of rows)))
    (few (is_thread thread) rows from (to - from)) (omega arith)

-- how long the core was idle
pub idle_whole : (core from to old more new : ℕ) (past : List Row)
    → old ≡ ticks_for is_nobody (turns core past) from (passed_at from to (since_of (turns core past)))
    → more ≡ cond (is_nobody (runner_now (turns core past))) (to - from - passed_at from to (since_of (turns core past))) 0
    → new ≡ min (old + more) (2 ^ 64 - 1) → to ≤ 2 ^ 42 → new ≡ idle_in core past from to
idle_whole core from to old more new past was adds is small =
    let rows = turns core past in
    idle_more rows from (passed_at from to (since_of rows)) (to - from) new old more (passed_whole from to (since_of rows)) (omega arith)
    (passed_until from to (since_of rows)) is was adds

-- the ticks before a row that comes after these
pub up_to_row : (core from to m : ℕ) (past : List Row) → UpTo m past
    → passed_at from to (since_of (turns core past)) ≤ passed_at from to m
up_to_row core from to m past up = passed_more from to (since_of (turns core past)) m (up_since core m past up)

pub since_row : (core from to m : ℕ) (past : List Row) → passed_at from to (since_of (turns core past)) < passed_at from to m
    → since_of (turns core past) ≤ from + passed_at from to (since_of (turns core past))
since_row core from to m past h = passed_after from to (since_of (turns core past)) m h

-- before the first row
pub opened : (threads len core from to : ℕ) (counts : List ℕ) → len ≡ threads → counts ≡ replicate {A = ℕ} len 0
    → account core from to 0 None counts 0 ≡ account_of threads core from to []
opened threads len core from to counts long is =
    same_account core core from from to to 0 (passed_at from to 0) None None counts
    (map (λ thread. ticks_for (is_thread thread) [] from (passed_at from to 0)) (range_with_len 0 threads)) 0
    (ticks_for is_nobody [] from (passed_at from to 0)) refl refl refl (omega arith) refl
    (is ∙ ap (λ n. replicate {A = ℕ} n 0) long ∙ counts-first threads
    ∙ ap (λ n. map (λ thread. ticks_for (is_thread thread) [] from n) (range_with_len 0 threads)) none)
    (ap (ticks_for is_nobody [] from) none)
  where
    none : 0 ≡ passed_at from to 0
    none = omega arith

length-ran : (threads core from to : ℕ) (past : List Row) (counts : List ℕ) → counts ≡ (account_of threads core from to past).ran
    → length counts ≡ threads
length-ran threads core from to past counts e =
    let rows = turns core past in
    ap length e ∙ length-map-range_with_len (λ thread. ticks_for (is_thread thread) rows from (passed_at from to (since_of rows))) 0 threads

-- a thread that the system has, and one that it has not
pub ran_known : (threads core from to thread y : ℕ) (past : List Row) (counts : List ℕ) → y ≡ thread → y < length counts
    → counts ≡ (account_of threads core from to past).ran
    → ran_in core thread past from to ≡ cond (nat_lt thread threads) (ran_in core thread past from to) 0
ran_known threads core from to thread y past counts at has e =
    let long = length-ran threads core from to past counts e in
    let less : thread < threads = omega (arith, long) in
    let is : nat_lt thread threads ≡ true = grind (arith, nat_tests) in
    ap (λ b. cond b (ran_in core thread past from to) 0) (sym is)

pub ran_unknown : (threads core from to thread y : ℕ) (past : List Row) (counts : List ℕ) → y ≡ thread → length counts ≤ y
    → counts ≡ (account_of threads core from to past).ran
    → 0 ≡ cond (nat_lt thread threads) (ran_in core thread past from to) 0
ran_unknown threads core from to thread y past counts at has e =
    let long = length-ran threads core from to past counts e in
    let more : threads ≤ thread = omega (arith, long) in
    let is : nat_lt thread threads ≡ false = grind (arith, nat_tests) in
    ap (λ b. cond b (ran_in core thread past from to) 0) (sym is)
