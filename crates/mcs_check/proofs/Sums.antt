-- The counts, row by row, are the numbers of findings of each kind.
use Rattle.std.proofs.Common.{◌≡◌, ◌∙◌, ◌++◌, ◌∷◌, [], ℕ, ◌+◌, ◌-◌, ◌^◌, ◌≤◌, Bool, true, false, List, Option, Some, None, refl, ap, sym, arith, if◌then◌else◌, min}
use Rattle.std.specs.List.{count_by}
use Rattle.std.specs.Prelude.{cond, not}
use Rattle.std.proofs.lemmas.List.Elements.{filter-append}
use Rattle.std.proofs.lemmas.List.Sums.{sum_by-append, sum_by-cons}
use Rattle.mcs_ticks.specs.declared.row.Row.{Row}
use Rattle.mcs_system.specs.System.{System}
use Rattle.mcs_verdict.specs.declared.finding.Finding.{Finding}
use Rattle.mcs_verdict.specs.declared.finding.Finding.TheVariants.{Miss, Overdue, Untaken, Lost, Never}
use Rattle.mcs_verdict.specs.declared.finding.Found.{Found}
use Rattle.mcs_verdict.specs.Findings.{finding, found_at, found_in}
use Rattle.mcs_verdict.specs.Words.{merges}
use Rattle.mcs_check_lines.specs.declared.counts.Counts.{Counts}
use Rattle.mcs_ticks.specs.Capped.{one_more, capped}
use Rattle.mcs_check_lines.specs.Counts.{added, is_allowed, no_counts, taken, with_hints}
use Rattle.mcs_check_lines.specs.Told.{counts_with, is_lost, is_miss, is_never, is_overdue, is_untaken, merged_in, more, told}
use Rattle.mcs_check.specs.stored.Rows.{counted_at, counts_found, counts_in}

cap-suc : (n k : ℕ) → capped (n + (1 + k)) ≡ capped (one_more n + k)
cap-suc n k = omega arith

-- one that is of the kind is counted before the others, or with them
first-more : (is : Finding → Bool) (f : Found) (rest : List Found) (n : ℕ) → is f.finding ≡ true → more is (f ∷ rest) n ≡ more is rest (one_more n)
first-more is f rest n e =
    let head : cond (is f.finding) 1 0 ≡ 1 = rw e refl in
    ap (λ k. capped (n + k)) (sum_by-cons (λ g. cond (is g.finding) 1 0) f rest ∙ ap (λ k. k + count_by (λ g. is g.finding) rest) head)
    ∙ cap-suc n (count_by (λ g. is g.finding) rest)

zero-plus : (n : ℕ) → 0 + n ≡ n
zero-plus n = omega arith

cap-sum : (n k j : ℕ) → capped (n + (k + j)) ≡ capped (capped (n + k) + j)
cap-sum n k j = omega arith

cap-none : (n : ℕ) → n ≤ 2 ^ 64 - 1 → capped (n + 0) ≡ n
cap-none n within = omega (arith, within)

-- no number is above what 64 bits hold
pub record IsWithin (c : Counts) : Type 0 where
  pub missed : c.missed ≤ 2 ^ 64 - 1
  pub overdue : c.overdue ≤ 2 ^ 64 - 1
  pub untaken : c.untaken ≤ 2 ^ 64 - 1
  pub lost : c.lost ≤ 2 ^ 64 - 1
  pub never : c.never ≤ 2 ^ 64 - 1
  pub merged : c.merged ≤ 2 ^ 64 - 1
  pub allowed : c.allowed ≤ 2 ^ 64 - 1
  pub hints : c.hints ≤ 2 ^ 64 - 1

more-within : (n : ℕ) → one_more n ≤ 2 ^ 64 - 1
more-within n = omega arith

pub none-within : IsWithin no_counts
none-within = record { missed = omega arith; overdue = omega arith; untaken = omega arith; lost = omega arith; never = omega arith; merged = omega arith; allowed = omega arith; hints = omega arith }

added-within : (f : Finding) (c : Counts) → IsWithin c → IsWithin (added f c)
added-within (Miss thread number response deadline activated queued stood) c w = record { missed = more-within c.missed; overdue = w.overdue; untaken = w.untaken; lost = w.lost; never = w.never; merged = w.merged; allowed = w.allowed; hints = w.hints }
added-within (Overdue thread number age deadline activated queued stood) c w = record { missed = w.missed; overdue = more-within c.overdue; untaken = w.untaken; lost = w.lost; never = w.never; merged = w.merged; allowed = w.allowed; hints = w.hints }
added-within (Untaken note word age deadline set) c w = record { missed = w.missed; overdue = w.overdue; untaken = more-within c.untaken; lost = w.lost; never = w.never; merged = w.merged; allowed = w.allowed; hints = w.hints }
added-within (Lost note word) c w = record { missed = w.missed; overdue = w.overdue; untaken = w.untaken; lost = more-within c.lost; never = w.never; merged = w.merged; allowed = w.allowed; hints = w.hints }
added-within (Never thread deadline) c w = record { missed = w.missed; overdue = w.overdue; untaken = w.untaken; lost = w.lost; never = more-within c.never; merged = w.merged; allowed = w.allowed; hints = w.hints }

one-within : (allowed : List Bool) (f : Finding) (c : Counts) (b : Bool) → is_allowed allowed f ≡ b → IsWithin c → IsWithin (taken allowed (Some f) c)
one-within allowed f c true e w = rw e (record { missed = w.missed; overdue = w.overdue; untaken = w.untaken; lost = w.lost; never = w.never; merged = w.merged; allowed = more-within c.allowed; hints = w.hints })
one-within allowed f c false e w = rw e (added-within f c w)

pub taken-within : (allowed : List Bool) (f : Option Finding) (c : Counts) → IsWithin c → IsWithin (taken allowed f c)
taken-within allowed None c w = w
taken-within allowed (Some f) c w = one-within allowed f c (is_allowed allowed f) refl w

merged-within : (b : Bool) (c : Counts) → IsWithin c → IsWithin (if b then record c { merged = one_more c.merged } else c)
merged-within true c w = record { missed = w.missed; overdue = w.overdue; untaken = w.untaken; lost = w.lost; never = w.never; merged = more-within c.merged; allowed = w.allowed; hints = w.hints }
merged-within false c w = w

abbrev numbers : ℕ → ℕ → ℕ → ℕ → ℕ → ℕ → ℕ → ℕ → Counts
numbers a b c d e f g h = record { missed = a; overdue = b; untaken = c; lost = d; never = e; merged = f; allowed = g; hints = h }

-- counts whose numbers are the same are the same
same : (a a' b b' c c' d d' e e' f f' g g' h h' : ℕ) → a ≡ a' → b ≡ b' → c ≡ c' → d ≡ d' → e ≡ e' → f ≡ f' → g ≡ g' → h ≡ h'
    → numbers a b c d e f g h ≡ numbers a' b' c' d' e' f' g' h'
same a a' b b' c c' d d' e e' f f' g g' h h' ea eb ec ed ee ef eg eh = rw (ea, eb, ec, ed, ee, ef, eg, eh) refl

with-none : (allowed : List Bool) (c : Counts) → IsWithin c → counts_with allowed [] 0 0 c ≡ c
with-none allowed c w =
    same _ c.missed _ c.overdue _ c.untaken _ c.lost _ c.never _ c.merged _ c.allowed _ c.hints
    (cap-none c.missed w.missed) (cap-none c.overdue w.overdue) (cap-none c.untaken w.untaken) (cap-none c.lost w.lost) (cap-none c.never w.never)
    (cap-none c.merged w.merged) (cap-none c.allowed w.allowed) (cap-none c.hints w.hints)

-- a finding is counted before the others, or with them
module _ (allowed : List Bool) (moment core : ℕ) (rest : List Found) (merged : ℕ) where
  found : Finding → Found
  found f = record { moment = moment; core = core; finding = f }

  told-first : (f : Finding) (c : Counts) → is_allowed allowed f ≡ false
      → counts_with allowed (found_at moment core (Some f) ++ rest) merged 0 c ≡ counts_with allowed rest merged 0 (added f c)
  unfolding found
  told-first (Miss thread number response deadline activated queued stood) c e =
      same _ _ _ _ _ _ _ _ _ _ _ _ _ _ _ _ (first-more is_miss (found (Miss thread number response deadline activated queued stood)) (told allowed rest) c.missed refl) refl refl refl refl refl refl refl
  told-first (Overdue thread number age deadline activated queued stood) c e =
      same _ _ _ _ _ _ _ _ _ _ _ _ _ _ _ _ refl (first-more is_overdue (found (Overdue thread number age deadline activated queued stood)) (told allowed rest) c.overdue refl) refl refl refl refl refl refl
  told-first (Untaken note word age deadline set) c e =
      same _ _ _ _ _ _ _ _ _ _ _ _ _ _ _ _ refl refl (first-more is_untaken (found (Untaken note word age deadline set)) (told allowed rest) c.untaken refl) refl refl refl refl refl
  told-first (Lost note word) c e =
      rw e (same _ _ _ _ _ _ _ _ _ _ _ _ _ _ _ _ refl refl refl (first-more is_lost (found (Lost note word)) (told allowed rest) c.lost refl) refl refl refl refl)
  told-first (Never thread deadline) c e =
      same _ _ _ _ _ _ _ _ _ _ _ _ _ _ _ _ refl refl refl refl (first-more is_never (found (Never thread deadline)) (told allowed rest) c.never refl) refl refl refl

  one-first : (f : Finding) (c : Counts) (b : Bool) → is_allowed allowed f ≡ b
      → counts_with allowed (found_at moment core (Some f) ++ rest) merged 0 c ≡ counts_with allowed rest merged 0 (taken allowed (Some f) c)
  unfolding found
  one-first f c true e =
      let counted : more (is_allowed allowed) (found_at moment core (Some f) ++ rest) c.allowed ≡ more (is_allowed allowed) rest (one_more c.allowed) =
      first-more (is_allowed allowed) (found f) rest c.allowed e in
      rw counted (rw e refl)
  one-first f c false e = told-first f c e ∙ rw e refl

  with-first : (f : Option Finding) (c : Counts)
      → counts_with allowed (found_at moment core f ++ rest) merged 0 c ≡ counts_with allowed rest merged 0 (taken allowed f c)
  with-first None c = refl
  with-first (Some f) c = one-first f c (is_allowed allowed f) refl

  with-merged : (b : Bool) (c : Counts)
      → counts_with allowed rest ((if b then 1 else 0) + merged) 0 c ≡ counts_with allowed rest merged 0 (if b then record c { merged = one_more c.merged } else c)
  with-merged true c = same _ _ _ _ _ _ _ _ _ _ _ _ _ _ _ _ refl refl refl refl refl (cap-suc c.merged _) refl refl
  with-merged false c = ap (λ many. counts_with allowed rest many 0 c) (zero-plus merged)

pub sums-found : (allowed : List Bool) (found : List Found) (c : Counts) → IsWithin c → counts_found allowed found c ≡ counts_with allowed found 0 0 c
sums-found allowed [] c w = sym (with-none allowed c w)
sums-found allowed (f ∷ found) c w =
    sums-found allowed found (taken allowed (Some f.finding) c) (taken-within allowed (Some f.finding) c w)
    ∙ sym (with-first allowed f.moment f.core found 0 (Some f.finding) c)

module _ (system : System) (allowed : List Bool) where
  row-within : (past : List Row) (r : Row) (c : Counts) → IsWithin c → IsWithin (counted_at system allowed past r c)
  row-within past r c w =
      taken-within allowed (finding system past r.moment r.what) (if merges system past r.what then record c { merged = one_more c.merged } else c)
      (merged-within (merges system past r.what) c w)

  pub rows-within : (past rows : List Row) (c : Counts) → IsWithin c → IsWithin (counts_in system allowed past rows c)
  rows-within past [] c w = w
  rows-within past (r ∷ rows) c w = rows-within (r ∷ past) rows (counted_at system allowed past r c) (row-within past r c w)

  pub sums-rows : (past rows : List Row) (c : Counts) → IsWithin c
      → counts_in system allowed past rows c ≡ counts_with allowed (found_in system past rows) (merged_in system past rows) 0 c
  sums-rows past [] c w = sym (with-none allowed c w)
  sums-rows past (r ∷ rows) c w =
      let f = finding system past r.moment r.what in
      let b = merges system past r.what in
      let rest = found_in system (r ∷ past) rows in
      let many = merged_in system (r ∷ past) rows in
      sums-rows (r ∷ past) rows (counted_at system allowed past r c) (row-within past r c w)
      ∙ sym (with-first allowed r.moment r.core rest many f (if b then record c { merged = one_more c.merged } else c))
      ∙ sym (with-merged allowed r.moment r.core (found_at r.moment r.core f ++ rest) many b c)

sum-all : (is : Finding → Bool) (xs ys : List Found) (n : ℕ) → more is (xs ++ ys) n ≡ more is ys (more is xs n)
sum-all is xs ys n =
    ap (λ k. capped (n + k)) (sum_by-append (λ f. cond (is f.finding) 1 0) xs ys)
    ∙ cap-sum n (count_by (λ f. is f.finding) xs) (count_by (λ f. is f.finding) ys)

sum-both : (allowed : List Bool) (is : Finding → Bool) (xs ys : List Found) (n : ℕ)
    → more is (told allowed (xs ++ ys)) n ≡ more is (told allowed ys) (more is (told allowed xs) n)
sum-both allowed is xs ys n =
    ap (λ l. more is l n) (filter-append (λ f. not (is_allowed allowed f.finding)) xs ys)
    ∙ sum-all is (told allowed xs) (told allowed ys) n

cap-again : (n k : ℕ) → capped (n + k) ≡ capped (capped (n + k) + 0)
cap-again n k = omega arith

cap-hints : (n h : ℕ) → capped (n + h) ≡ min (capped (capped (n + 0) + 0) + h) (2 ^ 64 - 1)
cap-hints n h = omega arith

-- what rows tell, what is found at the horizon, and hints
pub sums-all : (allowed : List Bool) (xs ys : List Found) (merged hints : ℕ) (c : Counts)
    → counts_with allowed (xs ++ ys) merged hints c ≡ with_hints hints (counts_with allowed ys 0 0 (counts_with allowed xs merged 0 c))
sums-all allowed xs ys merged hints c =
    same _ _ _ _ _ _ _ _ _ _ _ _ _ _ _ _
    (sum-both allowed is_miss xs ys c.missed) (sum-both allowed is_overdue xs ys c.overdue) (sum-both allowed is_untaken xs ys c.untaken)
    (sum-both allowed is_lost xs ys c.lost)
    (sum-both allowed is_never xs ys c.never) (cap-again c.merged merged) (sum-all (is_allowed allowed) xs ys c.allowed) (cap-hints c.hints hints)
