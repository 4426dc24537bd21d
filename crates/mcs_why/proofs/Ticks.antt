-- Ticks that are counted by who runs in them.
use Rattle.std.proofs.Common.{◌≡◌, ℕ, zero, suc, ◌+◌, ◌-◌, ◌≤◌, ◌<◌, Bool, true, false, ◌&&◌, eqb, cond, nat_le, List, [], ◌∷◌, Option, refl, ap, ◌∙◌, arith}
use Rattle.std.proofs.lemmas.Bool.Decides.{nat_tests}
use Rattle.mcs_ticks.specs.declared.row.Row.{Row}
use Rattle.mcs_verdict.specs.Account.{since_of}
use Rattle.mcs_verdict.specs.Findings.{UpTo}
use Rattle.mcs_verdict.proofs.Orders.{up_to-later}
use Rattle.mcs_why.specs.Running.{is_turn, runner, turns, runner_at, ticks_for}
use Rattle.mcs_why.specs.Account.{runner_now, passed_at}

-- before a row's moment the rows before it say who runs
before : (t : ℕ) (r : Row) (rows : List Row) → t < r.moment → runner_at t (r ∷ rows) ≡ runner_at t rows
before t r rows h =
    let e : nat_le r.moment t ≡ false = grind (arith, nat_tests) in
    ap (λ b. cond b (runner r.what) (runner_at t rows)) e

-- and from the latest row's moment on that one does
from_then_on : (t : ℕ) (rows : List Row) → since_of rows ≤ t → runner_at t rows ≡ runner_now rows
from_then_on t [] h = refl
from_then_on t (r ∷ rows) h =
    let e : nat_le r.moment t ≡ true = grind (arith, nat_tests) in
    ap (λ b. cond b (runner r.what) (runner_at t rows)) e

-- a row changes nothing of the ticks before it
pub earlier : (is : Option ℕ → Bool) (r : Row) (rows : List Row) (from n : ℕ) → (0 < n → from + n ≤ r.moment)
    → ticks_for is (r ∷ rows) from n ≡ ticks_for is rows from n
earlier is r rows from zero h = refl
earlier is r rows from (suc n) h =
    let up : from + suc n ≤ r.moment = h (omega arith) in
    let e = earlier is r rows from n (λ _. omega arith) in
    let s = before (from + n) r rows (omega arith) in
    ap (λ x. cond (is x) 1 0 + ticks_for is (r ∷ rows) from n) s
    ∙ ap (λ x. cond (is (runner_at (from + n) rows)) 1 0 + x) e

more : (b : Bool) (k x y z : ℕ) → x ≡ cond b 1 0 → y ≡ cond b k 0 + z → x + y ≡ cond b (suc k) 0 + z
more true k x y z e f = omega arith
more false k x y z e f = omega arith

none : (b : Bool) (z : ℕ) → z ≡ cond b 0 0 + z
none true z = omega arith
none false z = omega arith

later : (is : Option ℕ → Bool) (rows : List Row) (from n k m : ℕ) → (0 < k → since_of rows ≤ from + n) → m ≡ k + n
    → ticks_for is rows from m ≡ cond (is (runner_now rows)) k 0 + ticks_for is rows from n
later is rows from n zero m h e =
    ap (ticks_for is rows from) (omega arith) ∙ none (is (runner_now rows)) (ticks_for is rows from n)
later is rows from n (suc k) zero h e = absurd (omega arith)
later is rows from n (suc k) (suc m) h e =
    let since : since_of rows ≤ from + n = h (omega arith) in
    let rest = later is rows from n k m (λ _. since) (omega arith) in
    let one = from_then_on (from + m) rows (omega arith) in
    more (is (runner_now rows)) k (cond (is (runner_at (from + m) rows)) 1 0) (ticks_for is rows from m) (ticks_for is rows from n)
    (ap (λ x. cond (is x) 1 0) one) rest

-- n ticks more, in which the latest runner runs
pub passes : (is : Option ℕ → Bool) (rows : List Row) (from n m : ℕ) → n ≤ m → (n < m → since_of rows ≤ from + n)
    → ticks_for is rows from m ≡ cond (is (runner_now rows)) (m - n) 0 + ticks_for is rows from n
passes is rows from n m up h = later is rows from n (m - n) m (λ some. h (omega arith)) (omega arith)

one : (b : Bool) (x n : ℕ) → x ≤ n → cond b 1 0 + x ≤ suc n
one true x n h = omega arith
one false x n h = omega arith

-- at most as many as there are
pub few : (is : Option ℕ → Bool) (rows : List Row) (from n : ℕ) → ticks_for is rows from n ≤ n
few is rows from zero = omega arith
few is rows from (suc n) = one (is (runner_at (from + n) rows)) (ticks_for is rows from n) n (few is rows from n)

-- the ticks of a span before two moments in order
pub passed_more : (from to since m : ℕ) → since ≤ m → passed_at from to since ≤ passed_at from to m
passed_more from to since m h = omega arith

pub passed_after : (from to since m : ℕ) → passed_at from to since < passed_at from to m → since ≤ from + passed_at from to since
passed_after from to since m h = omega arith

pub passed_before : (from to m : ℕ) → 0 < passed_at from to m → from + passed_at from to m ≤ m
passed_before from to m h = omega arith

pub passed_whole : (from to since : ℕ) → passed_at from to since ≤ to - from
passed_whole from to since = omega arith

pub passed_until : (from to since : ℕ) → passed_at from to since < to - from → since ≤ from + passed_at from to since
passed_until from to since h = omega arith

-- of rows in order, the latest that says who runs is no later
since_if : (b : Bool) (m : ℕ) (r : Row) (rows : List Row) → r.moment ≤ m → since_of rows ≤ m → since_of (cond b (r ∷ rows) rows) ≤ m
since_if true m r rows h g = h
since_if false m r rows h g = g

pub up_since : (core m : ℕ) (past : List Row) → UpTo m past → since_of (turns core past) ≤ m
up_since core m [] up = omega arith
up_since core m (r ∷ past) up = since_if (eqb r.core core && is_turn r.what) m r (turns core past) up.0 (up_since core m past (up_to-later r.moment m past up.0 up.1))

-- a row that says who runs
pub turn : (core : ℕ) (r : Row) (past : List Row) → (eqb r.core core && is_turn r.what) ≡ true → turns core (r ∷ past) ≡ r ∷ turns core past
turn core r past e = ap (λ b. cond b (r ∷ turns core past) (turns core past)) e
