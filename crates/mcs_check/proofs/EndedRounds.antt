-- How many rounds of each thread ended, and how many of those are judged.
use Rattle.std.proofs.Common.{◌≡◌, ◌≢◌, ◌∙◌, ◌∷◌, [], ℕ, ◌+◌, ◌<◌, ◌≤◌, Bool, true, false, cond, List, length, get_or, set, refl, ap, sym, arith}
use Rattle.std.specs.Prelude.{◌==◌, ◌&&◌, nat_lt}
use Rattle.std.specs.List.{count_by}
use Rattle.std.proofs.lemmas.Bool.{eq-eqb, ne_eqb}
use Rattle.std.proofs.lemmas.Bool.Decides.{nat_tests}
use Rattle.std.proofs.lemmas.List.{get_or_past}
use Rattle.std.proofs.lemmas.List.Sums.{sum_by-cons}
use Rattle.mcs_ticks.specs.Capped.{capped, one_more}
use Rattle.mcs_ticks.specs.declared.row.Row.{Row}
use Rattle.mcs_ticks.specs.declared.row.What.{What}
use Rattle.mcs_ticks.specs.declared.row.What.TheVariants as row
use Rattle.mcs_system.specs.System.{System, no_thread, thread_part}
use Rattle.mcs_hints.proofs.Numbers.{at_number, set_number}
use Rattle.mcs_check_lines.specs.Deadlines.{has_deadline}
use Rattle.mcs_check.specs.Judged.{ended, ends, is_judged, judged_rounds}
use Rattle.mcs_check.specs.stored.Threads.{ended_of}

count-row : (p : Row → Bool) (r : Row) (past : List Row) → count_by p (r ∷ past) ≡ cond (p r) 1 0 + count_by p past
count-row p r past = sum_by-cons (λ x. cond (p x) 1 0) r past

pub ended-more : (n : ℕ) (r : Row) (past : List Row) → ended n (r ∷ past) ≡ cond (ends n r.what) 1 0 + ended n past
ended-more n r past = count-row (λ r. ends n r.what) r past

cap-more : (n : ℕ) → one_more (capped n) ≡ capped (1 + n)
cap-more n = omega arith

none-more : (n : ℕ) → n ≡ 0 + n
none-more n = omega arith

-- a row that ends a round of thread y
pub ended-round : (threads y : ℕ) (r : Row) (past : List Row) → ((n : ℕ) → ends n r.what ≡ (y == n))
    → set (ended_of threads past) y (one_more (get_or (ended_of threads past) y 0)) ≡ ended_of threads (r ∷ past)
ended-round threads y r past is =
    set_number (λ n. capped (ended n past)) (λ n. capped (ended n (r ∷ past))) threads y (one_more (get_or (ended_of threads past) y 0)) here others
  where
    here : y < threads → one_more (get_or (ended_of threads past) y 0) ≡ capped (ended y (r ∷ past))
    here h =
        ap one_more (at_number (λ n. capped (ended n past)) threads y 0 h) ∙ cap-more (ended y past)
        ∙ sym (ap capped (ended-more y r past ∙ ap (λ b. cond b 1 0 + ended y past) (is y ∙ eq-eqb y y refl)))

    others : (k : ℕ) → k ≢ y → capped (ended k past) ≡ capped (ended k (r ∷ past))
    others k differ =
        ap capped (none-more (ended k past)
        ∙ sym (ended-more k r past ∙ ap (λ b. cond b 1 0 + ended k past) (is k ∙ ne_eqb y k (λ e. differ (sym e)))))

-- how often a round of a thread with a deadline ended, of the threads below n
abbrev pub is_below : System → ℕ → What → Bool
is_below system n (row.Round x number response) = has_deadline (thread_part system x) && nat_lt x n
is_below system n _ = false

abbrev pub rounds_below : System → ℕ → List Row → ℕ
rounds_below system n past = count_by (λ r. is_below system n r.what) past

module _ (system : System) where
  row-none : (what : What) → is_below system 0 what ≡ false
  row-none (row.Round x number response) = grind (arith, nat_tests)
  row-none (row.Release x) = refl
  row-none (row.Run x) = refl
  row-none (row.Stop x why charged until) = refl
  row-none (row.Signal x n badge) = refl
  row-none (row.Arrive n badge maker) = refl
  row-none (row.Wake x n word until) = refl
  row-none (row.Hold n word) = refl
  row-none (row.Got x n word) = refl
  row-none (row.Order context) = refl
  row-none (row.Interrupt source n badge) = refl

  pub below-none : (past : List Row) → rounds_below system 0 past ≡ 0
  below-none [] = refl
  below-none (r ∷ past) = count-row (λ r. is_below system 0 r.what) r past ∙ rw (row-none r.what, below-none past) refl

  -- the rounds of one thread, if it has a deadline
  abbrev pub own_rounds : ℕ → List Row → ℕ
  own_rounds n past = cond (has_deadline (thread_part system n)) (ended n past) 0

  row-more : (n : ℕ) (what : What) → cond (is_below system (n + 1) what) 1 0 ≡ cond (is_below system n what) 1 0 + cond (has_deadline (thread_part system n)) (cond (ends n what) 1 0) 0
  row-more n (row.Round x number response) = by (x == n) refl
    where
      by : (b : Bool) → (x == n) ≡ b
          → cond (has_deadline (thread_part system x) && nat_lt x (n + 1)) 1 0 ≡ cond (has_deadline (thread_part system x) && nat_lt x n) 1 0 + cond (has_deadline (thread_part system n)) (cond (x == n) 1 0) 0
      by true e = grind (arith, nat_tests)
      by false e = grind (arith, nat_tests)
  row-more n (row.Release x) = grind arith
  row-more n (row.Run x) = grind arith
  row-more n (row.Stop x why charged until) = grind arith
  row-more n (row.Signal x m badge) = grind arith
  row-more n (row.Arrive m badge maker) = grind arith
  row-more n (row.Wake x m word until) = grind arith
  row-more n (row.Hold m word) = grind arith
  row-more n (row.Got x m word) = grind arith
  row-more n (row.Order context) = grind arith
  row-more n (row.Interrupt source m badge) = grind arith

  sum-both : (b : Bool) (a k l m : ℕ) → (a + cond b k 0) + (l + cond b m 0) ≡ (a + l) + cond b (k + m) 0
  sum-both true a k l m = omega arith
  sum-both false a k l m = omega arith

  pub below-more : (n : ℕ) (past : List Row) → rounds_below system (n + 1) past ≡ rounds_below system n past + own_rounds n past
  below-more n [] = grind arith
  below-more n (r ∷ past) =
      let b = has_deadline (thread_part system n) in
      count-row (λ r. is_below system (n + 1) r.what) r past
      ∙ ap (λ k. k + rounds_below system (n + 1) past) (row-more n r.what)
      ∙ ap (λ k. (cond (is_below system n r.what) 1 0 + cond b (cond (ends n r.what) 1 0) 0) + k) (below-more n past)
      ∙ sum-both b (cond (is_below system n r.what) 1 0) (cond (ends n r.what) 1 0) (rounds_below system n past) (ended n past)
      ∙ ap (λ k. k + cond b (cond (ends n r.what) 1 0 + ended n past) 0) (sym (count-row (λ r. is_below system n r.what) r past))
      ∙ ap (λ k. rounds_below system n (r ∷ past) + cond b k 0) (sym (ended-more n r past))

  -- a thread that the system does not have has no deadline
  none-past : (x : ℕ) → length system.threads ≤ x → has_deadline (thread_part system x) ≡ false
  none-past x h = ap has_deadline (get_or_past system.threads x no_thread h)

  row-all : (what : What) → is_below system (length system.threads) what ≡ is_judged system what
  row-all (row.Round x number response) = by (nat_lt x (length system.threads)) refl
    where
      by : (b : Bool) → nat_lt x (length system.threads) ≡ b → (has_deadline (thread_part system x) && nat_lt x (length system.threads)) ≡ has_deadline (thread_part system x)
      by true e = grind (arith, nat_tests)
      by false e =
          let past : length system.threads ≤ x = grind (arith, nat_tests) in
          rw (none-past x past) refl
  row-all (row.Release x) = refl
  row-all (row.Run x) = refl
  row-all (row.Stop x why charged until) = refl
  row-all (row.Signal x n badge) = refl
  row-all (row.Arrive n badge maker) = refl
  row-all (row.Wake x n word until) = refl
  row-all (row.Hold n word) = refl
  row-all (row.Got x n word) = refl
  row-all (row.Order context) = refl
  row-all (row.Interrupt source n badge) = refl

  pub below-all : (past : List Row) → rounds_below system (length system.threads) past ≡ judged_rounds system past
  below-all [] = refl
  below-all (r ∷ past) =
      count-row (λ r. is_below system (length system.threads) r.what) r past
      ∙ ap (λ b. cond b 1 0 + rounds_below system (length system.threads) past) (row-all r.what)
      ∙ ap (λ k. cond (is_judged system r.what) 1 0 + k) (below-all past)
      ∙ sym (count-row (λ r. is_judged system r.what) r past)

-- one thread more is added up
capped-both : (a b : ℕ) → capped (capped a + capped b) ≡ capped (a + b)
capped-both a b = omega arith

capped-none : (a : ℕ) → capped a ≡ capped (a + 0)
capped-none a = omega arith

pub more-judged : (system : System) (past : List Row) (n sum own : ℕ) → sum ≡ capped (rounds_below system n past) → own ≡ capped (ended n past)
    → has_deadline (thread_part system n) ≡ true → capped (sum + own) ≡ capped (rounds_below system (n + 1) past)
more-judged system past n sum own sum_is own_is some =
    rw (sum_is, own_is) (capped-both (rounds_below system n past) (ended n past))
    ∙ sym (ap capped (below-more system n past ∙ ap (λ b. rounds_below system n past + cond b (ended n past) 0) some))

pub no-more-judged : (system : System) (past : List Row) (n sum : ℕ) → sum ≡ capped (rounds_below system n past)
    → has_deadline (thread_part system n) ≡ false → sum ≡ capped (rounds_below system (n + 1) past)
no-more-judged system past n sum sum_is none =
    sum_is ∙ capped-none (rounds_below system n past)
    ∙ sym (ap capped (below-more system n past ∙ ap (λ b. rounds_below system n past + cond b (ended n past) 0) none))
