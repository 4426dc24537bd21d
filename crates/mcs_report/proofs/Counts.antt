-- The rows of one thread, except for the ticks that it ran.
use Rattle.std.proofs.Common.{◌≡◌, ℕ, ◌+◌, ◌-◌, ◌≤◌, ◌^◌, min, max, cond, if◌then◌else◌, ◌==◌, List, [], ◌∷◌, ◌++◌, length, fold, sum, count_by, length-append, sym, ap, subst, ◌∙◌, arith}
use Rattle.std.proofs.lemmas.Bool.Decides.{nat_tests}
use Rattle.std.proofs.lemmas.List.Sums.{fold-append, sum_by-cons, sum_by-append}
use Rattle.mcs_ticks.specs.declared.row.Row.{Row}
use Rattle.mcs_ticks.specs.declared.row.What.{What}
use Rattle.mcs_report.specs.declared.reports.ThreadReport.{ThreadReport}
use Rattle.mcs_report.specs.declared.account.Account.{Account}
use Rattle.mcs_ticks.specs.Capped.{capped}
use Rattle.mcs_report.specs.Reports.{is_late, response_in, wait_in, is_spent, responses, waits}
use Rattle.mcs_report.proofs.Alone.{alone, told_alone, reopened-alone}

-- each number is one that is given
pub record IsGiven (a : ThreadReport) : Type 0 where
  pub rounds : a.rounds ≤ 2 ^ 64 - 1
  pub total : a.total ≤ 2 ^ 64 - 1
  pub late : a.late ≤ 2 ^ 64 - 1
  pub spent : a.spent ≤ 2 ^ 64 - 1
  pub throttled : a.throttled ≤ 2 ^ 64 - 1

abbrev pub least_after : ℕ → ℕ → List ℕ → ℕ
least_after rounds least [] = least
least_after rounds least (x ∷ xs) = fold min (if rounds == 0 then x else min least x) xs

-- b is a after these responses and waits, and this many stops with a spent head
pub record Counts (deadline : ℕ) (a b : ThreadReport) (responses waits : List ℕ) (stops : ℕ) : Type 0 where
  pub rounds : b.rounds ≡ capped (a.rounds + length responses)
  pub least : b.least ≡ least_after a.rounds a.least responses
  pub greatest : b.greatest ≡ fold max a.greatest responses
  pub total : b.total ≡ capped (a.total + sum responses)
  pub late : b.late ≡ capped (a.late + count_by (is_late deadline) responses)
  pub spent : b.spent ≡ capped (a.spent + stops)
  pub throttled : b.throttled ≡ capped (a.throttled + sum waits)
  pub longest : b.longest ≡ fold max a.longest waits

pub nothing : (d : ℕ) (a : ThreadReport) → IsGiven a → Counts d a a [] [] 0
nothing d a g = grind arith

pub is_given : {d : ℕ} {a b : ThreadReport} {rs ws : List ℕ} {s : ℕ} → Counts d a b rs ws s → IsGiven b
is_given {d} {a} {b} {rs} {ws} {s} c = grind arith

past_first : (a b least x : ℕ) (xs ys : List ℕ) → b ≡ capped (a + length (x ∷ xs)) → least_after b least ys ≡ fold min least ys
past_first a b least x xs ys e = grind (arith, nat_tests)

least_after-append : (a b least : ℕ) (xs ys : List ℕ) → a ≤ 2 ^ 64 - 1 → b ≡ capped (a + length xs)
    → least_after b (least_after a least xs) ys ≡ least_after a least (xs ++ ys)
least_after-append a b least [] ys h e = let same : b ≡ a = omega arith in ap (λ n. least_after n least ys) same
least_after-append a b least (x ∷ xs) ys h e =
    past_first a b (fold min (if a == 0 then x else min least x) xs) x xs ys e
    ∙ sym (fold-append min (if a == 0 then x else min least x) xs ys)

pub then_counts : {d : ℕ} {a b c : ThreadReport} {rs qs ws vs : List ℕ} {s t : ℕ} → IsGiven a
    → Counts d a b rs ws s → Counts d b c qs vs t → Counts d a c (rs ++ qs) (ws ++ vs) (s + t)
then_counts {d} {a} {b} {c} {rs} {qs} {ws} {vs} {s} {t} g first second = record {
  rounds = omega (arith, first.rounds, second.rounds, length-append rs qs);
  least = second.least ∙ ap (λ n. least_after b.rounds n qs) first.least ∙ least_after-append a.rounds b.rounds a.least rs qs g.rounds first.rounds;
  greatest = second.greatest ∙ ap (λ n. fold max n qs) first.greatest ∙ sym (fold-append max a.greatest rs qs);
  total = omega (arith, first.total, second.total, sum_by-append (λ x. x) rs qs);
  late = omega (arith, first.late, second.late, sum_by-append (λ x. cond (is_late d x) 1 0) rs qs);
  spent = omega (arith, first.spent, second.spent);
  throttled = omega (arith, first.throttled, second.throttled, sum_by-append (λ x. x) ws vs);
  longest = second.longest ∙ ap (λ n. fold max n vs) first.longest ∙ sym (fold-append max a.longest ws vs);
}

-- one row
abbrev spent_in : ℕ → What → ℕ
spent_in x what = cond (is_spent x what) 1 0

abbrev Step : ℕ → ℕ → ℕ → What → Account → Type 0
Step h x m what a =
    Counts a.deadline a.report (alone h x m what a).report (response_in x what) (wait_in h x m what) (spent_in x what)

pub step : (h x m : ℕ) (what : What) (a : Account) → IsGiven a.report → Step h x m what a
step h x m what a g = grind (arith, g)

-- all rows
pub counts-fold : (h x : ℕ) (rows : List Row) (a : Account) → IsGiven a.report
    → Counts a.deadline a.report (fold (told_alone h x) a rows).report (responses x rows) (waits h x rows) (count_by (λ r. is_spent x r.what) rows)
counts-fold h x [] a g = nothing a.deadline a.report g
counts-fold h x (r ∷ rows) a g =
    let next : Account = alone h x r.moment r.what a in
    let first : Counts a.deadline a.report next.report (response_in x r.what) (wait_in h x r.moment r.what) (spent_in x r.what) = step h x r.moment r.what a g in
    let same : next.deadline ≡ a.deadline = ap (λ (b : Account). b.deadline) (reopened-alone h x r.moment r.what a) in
    rw (sum_by-cons (λ q. cond (is_spent x q.what) 1 0) r rows)
    (then_counts g first
    (subst (λ d. Counts d next.report (fold (told_alone h x) next rows).report (responses x rows) (waits h x rows) (count_by (λ r. is_spent x r.what) rows))
    same (counts-fold h x rows next (is_given first))))
