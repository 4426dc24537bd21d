-- The ticks that all threads ran and the core's idle ticks are each tick once.
use Rattle.std.proofs.Common.{◌≡◌, ◌≢◌, ℕ, zero, suc, ◌+◌, ◌<◌, ◌≤◌, ◌⊎◌, inl, inr, Bool, true, false, ◌&&◌, eqb, cond, nat_le, List, [], ◌∷◌, map, Option, Some, None, refl, ap, ◌∙◌, arith}
use Rattle.std.specs.List.{range_with_len, sum, sum_by}
use Rattle.std.proofs.lemmas.List.Sums.{sum-map, sum_by-cons}
use Rattle.std.proofs.lemmas.Bool.{cases_eq, eq-eqb, ne_eqb}
use Rattle.mcs_ticks.specs.declared.row.Row.{Row}
use Rattle.mcs_ticks.specs.declared.row.What.{What}
use Rattle.mcs_ticks.specs.declared.row.What.TheVariants as row
use Rattle.mcs_why.specs.Running.{is_turn, runner, turns, runner_at, is_thread, is_nobody, ticks_for}
use Rattle.mcs_why.specs.laws.Sums.{IsKnown, AreKnown}

-- sums of n numbers from one on
abbrev total : (ℕ → ℕ) → ℕ → ℕ → ℕ
total f a n = sum_by f (range_with_len a n)

first : (f : ℕ → ℕ) (a n : ℕ) → total f a (suc n) ≡ f a + total f (a + 1) n
first f a n = sum_by-cons f a (range_with_len (a + 1) n)

both : (s s' s'' y z u v w : ℕ) → s ≡ (y + z) + u → s' ≡ y + v → s'' ≡ z + w → u ≡ v + w → s ≡ s' + s''
both s s' s'' y z u v w e f g h = omega arith

total_both : (f g : ℕ → ℕ) (a n : ℕ) → total (λ k. f k + g k) a n ≡ total f a n + total g a n
total_both f g a zero = refl
total_both f g a (suc n) =
    both (total (λ k. f k + g k) a (suc n)) (total f a (suc n)) (total g a (suc n)) (f a) (g a) (total (λ k. f k + g k) (a + 1) n) (total f (a + 1) n)
    (total g (a + 1) n) (first (λ k. f k + g k) a n) (first f a n) (first g a n) (total_both f g (a + 1) n)

-- one of them alone is this one
abbrev one_at : ℕ → ℕ → ℕ
one_at w k = cond (eqb w k) 1 0

not_at : (w k : ℕ) → w ≢ k → one_at w k ≡ 0
not_at w k h = ap (λ b. cond b 1 0) (ne_eqb w k h)

is_at : (w k : ℕ) → w ≡ k → one_at w k ≡ 1
is_at w k h = ap (λ b. cond b 1 0) (eq-eqb w k h)

plus : (s x y m n : ℕ) → s ≡ x + y → x ≡ m → y ≡ n → s ≡ m + n
plus s x y m n e f g = omega arith

none_above : (w a n : ℕ) → w < a → total (one_at w) a n ≡ 0
none_above w a zero h = refl
none_above w a (suc n) h =
    plus (total (one_at w) a (suc n)) (one_at w a) (total (one_at w) (a + 1) n) 0 0 (first (one_at w) a n) (not_at w a (λ e. omega arith))
    (none_above w (a + 1) n (omega arith))

one_within : (w a n : ℕ) → a ≤ w → w < a + n → total (one_at w) a n ≡ 1
one_within w a zero h g = absurd (omega arith)
one_within w a (suc n) h g = first (one_at w) a n ∙ by (cases_eq w a) (λ differ. one_within w (a + 1) n (omega arith) (omega arith))
  where
    by : (w ≡ a) ⊎ (w ≢ a) → (w ≢ a → total (one_at w) (a + 1) n ≡ 1) → one_at w a + total (one_at w) (a + 1) n ≡ 1
    by (inl e) rest =
        plus (one_at w a + total (one_at w) (a + 1) n) (one_at w a) (total (one_at w) (a + 1) n) 1 0 refl (is_at w a e)
        (none_above w (a + 1) n (omega arith))
    by (inr differ) rest =
        plus (one_at w a + total (one_at w) (a + 1) n) (one_at w a) (total (one_at w) (a + 1) n) 0 1 refl
        (not_at w a differ) (rest differ)

none_at_all : (a n : ℕ) → total (λ thread. cond (is_thread thread None) 1 0) a n ≡ 0
none_at_all a zero = refl
none_at_all a (suc n) =
    plus (total (λ thread. 0) a (suc n)) 0 (total (λ thread. 0) (a + 1) n) 0 0 (first (λ thread. 0) a n) refl (none_at_all (a + 1) n)

-- in each tick one thread runs, or nobody
once : (threads : ℕ) (who : Option ℕ) → ((w : ℕ) → who ≡ Some w → w < threads)
    → total (λ thread. cond (is_thread thread who) 1 0) 0 threads + cond (is_nobody who) 1 0 ≡ 1
once threads None known = ap (λ n. n + 1) (none_at_all 0 threads)
once threads (Some w) known =
    let has : w < threads = known w refl in
    ap (λ n. n + 0) (one_within w 0 threads (omega arith) (omega arith))

more : (a b c d x y n : ℕ) → a + b ≡ 1 → c + d ≡ n → x ≡ a + c → y ≡ b + d → x + y ≡ suc n
more a b c d x y n e f g h = omega arith

each_once : (threads : ℕ) (rows : List Row) (from n : ℕ) → ((t w : ℕ) → runner_at t rows ≡ Some w → w < threads)
    → total (λ thread. ticks_for (is_thread thread) rows from n) 0 threads + ticks_for is_nobody rows from n ≡ n
each_once threads rows from zero known = ap (λ n. n + 0) (none_at_all 0 threads)
each_once threads rows from (suc n) known =
    let who = runner_at (from + n) rows in
    more (total (λ thread. cond (is_thread thread who) 1 0) 0 threads) (cond (is_nobody who) 1 0)
    (total (λ thread. ticks_for (is_thread thread) rows from n) 0 threads) (ticks_for is_nobody rows from n)
    (total (λ thread. ticks_for (is_thread thread) rows from (suc n)) 0 threads) (ticks_for is_nobody rows from (suc n)) n
    (once threads who (known (from + n))) (each_once threads rows from n known)
    (total_both (λ thread. cond (is_thread thread who) 1 0) (λ thread. ticks_for (is_thread thread) rows from n) 0 threads) refl

-- as the law has it
pub told_once : (threads : ℕ) (rows : List Row) (from n : ℕ) → ((t w : ℕ) → runner_at t rows ≡ Some w → w < threads)
    → sum (map (λ thread. ticks_for (is_thread thread) rows from n) (range_with_len 0 threads)) + ticks_for is_nobody rows from n ≡ n
told_once threads rows from n known =
    ap (λ s. s + ticks_for is_nobody rows from n) (sum-map (λ thread. ticks_for (is_thread thread) rows from n) (range_with_len 0 threads))
    ∙ each_once threads rows from n known

-- who runs is known
known_runner : (threads : ℕ) (what : What) (w : ℕ) → IsKnown threads what → runner what ≡ Some w → w < threads
known_runner threads (row.Run x) w h e = let same : x ≡ w = cc in omega arith
known_runner threads (row.Release x) w h e = absurd (cc)
known_runner threads (row.Stop x cause charged until) w h e = absurd (cc)
known_runner threads (row.Signal x note badge) w h e = absurd (cc)
known_runner threads (row.Arrive note badge maker) w h e = absurd (cc)
known_runner threads (row.Wake x note bits until) w h e = absurd (cc)
known_runner threads (row.Hold note bits) w h e = absurd (cc)
known_runner threads (row.Got x note bits) w h e = absurd (cc)
known_runner threads (row.Round x number response) w h e = absurd (cc)
known_runner threads (row.Order context) w h e = absurd (cc)
known_runner threads (row.Interrupt source n badge) w h e = absurd (cc)

pub all_known : (threads : ℕ) (rows : List Row) → AreKnown threads rows → (t w : ℕ) → runner_at t rows ≡ Some w → w < threads
all_known threads [] h t w e = absurd (cc)
all_known threads (r ∷ rows) h t w e = by (nat_le r.moment t) e (all_known threads rows h.1 t w)
  where
    by : (b : Bool) → cond b (runner r.what) (runner_at t rows) ≡ Some w → (runner_at t rows ≡ Some w → w < threads) → w < threads
    by true e rest = known_runner threads r.what w h.0 e
    by false e rest = rest e

known_if : (b : Bool) (threads : ℕ) (r : Row) (rows : List Row) → IsKnown threads r.what → AreKnown threads rows
    → AreKnown threads (cond b (r ∷ rows) rows)
known_if true threads r rows h g = (h, g)
known_if false threads r rows h g = g

pub known_turns : (threads core : ℕ) (past : List Row) → AreKnown threads past → AreKnown threads (turns core past)
known_turns threads core [] h = tt
known_turns threads core (r ∷ past) h =
    known_if (eqb r.core core && is_turn r.what) threads r (turns core past) h.0 (known_turns threads core past h.1)
