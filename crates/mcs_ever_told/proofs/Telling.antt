-- The lines of a set, appended to one another.
use Rattle.std.proofs.Common.{◌≡◌, ℕ, suc, ◌+◌, ◌-◌, Bool, true, false, List, [], ◌∷◌, ◌++◌, length, ap, ◌∙◌, append_assoc, arith}
use Rattle.mcs_system.specs.System.{System}
use Rattle.mcs_ever_found.specs.Course.{Course}
use Rattle.mcs_ever_told.specs.declared.line.Line.{Line}
use Rattle.mcs_ever_told.specs.declared.line.Line.TheVariants as line
use Rattle.mcs_ever_told.specs.declared.outlook.told.Period.{Period}
use Rattle.mcs_ever_told.specs.Lines.{count_lines, end_lines, ever_lines, thread_lines, threads_so_far, clean_lines}
use Rattle.mcs_ever_found.specs.laws.GoOn.{untaken_up_to}
use Rattle.mcs_ever_told.specs.Outlook.{course_before, course_up_to, ended_between, unended_at, last_of, endless, abandoned, found_in_period, period_lines, found_so_far, open_lines}

length-first : (l : Line) (ls lines : List Line) (n : ℕ) → lines ≡ l ∷ ls → n ≡ length lines - 1 → n ≡ length ls
length-first l ls lines n e is = is ∙ ap (λ (ls : List Line). length ls - 1) e ∙ less (length ls)
  where
    less : (n : ℕ) → suc n - 1 ≡ n
    less n = omega arith

-- what was put first, and two more
pub first-three : (l : Line) (xs ys l1 l2 l3 : List Line) → l1 ≡ l ∷ [] → l2 ≡ l1 ++ xs → l3 ≡ l2 ++ ys → l3 ≡ l ∷ (xs ++ ys)
first-three l xs ys l1 l2 l3 e1 e2 e3 = e3 ∙ ap (λ (ls : List Line). ls ++ ys) (e2 ∙ ap (λ (ls : List Line). ls ++ xs) e1)

module _ (s : System) (allowed : List Bool) (horizon : ℕ) (set own : List Bool) (p : Period) where
  abbrev found : List Line
  found = found_in_period s allowed own p

  -- for a set that recurs
  pub record AreOfPeriod (lines : List Line) (findings : ℕ) : Type 0 where
    pub lines_are : lines ≡ period_lines s allowed horizon set own p
    pub findings_are : findings ≡ length found

  pub told-period : (m : ℕ) (before after : Course) (ended : List Bool) (l1 l2 l3 l4 l5 : List Line) (findings : ℕ) →
      m ≡ last_of p → before ≡ course_before s p.from → after ≡ course_up_to s (last_of p) → ended ≡ ended_between s p.from (p.from + p.ticks) →
      l1 ≡ line.Repeats set p.from p.ticks ∷ [] →
      l2 ≡ l1 ++ count_lines s own true before after allowed →
      l3 ≡ l2 ++ ever_lines s own (endless s own p) (unended_at s m) (abandoned s own p) →
      l4 ≡ l3 ++ thread_lines s own after p.from ended →
      findings ≡ length l3 - 1 →
      ((told : List Line) → findings ≡ length told → l5 ≡ l4 ++ clean_lines set told) → AreOfPeriod l5 findings
  told-period m before after ended l1 l2 l3 l4 l5 findings is_last is_before is_after is_ended e1 e2 e3 e4 counted e5 =
      let counts : l2 ≡ l1 ++ count_lines s own true (course_before s p.from) (course_up_to s (last_of p)) allowed =
      e2 ∙ ap (λ (b : Course). l1 ++ count_lines s own true b after allowed) is_before
      ∙ ap (λ (a : Course). l1 ++ count_lines s own true (course_before s p.from) a allowed) is_after in
      let ends : l3 ≡ l2 ++ ever_lines s own (endless s own p) (unended_at s (last_of p)) (abandoned s own p) =
      e3 ∙ ap (λ (m : ℕ). l2 ++ ever_lines s own (endless s own p) (unended_at s m) (abandoned s own p)) is_last in
      let three : l3 ≡ line.Repeats set p.from p.ticks ∷ found =
      first-three (line.Repeats set p.from p.ticks) (count_lines s own true (course_before s p.from) (course_up_to s (last_of p)) allowed)
      (ever_lines s own (endless s own p) (unended_at s (last_of p)) (abandoned s own p)) l1 l2 l3 e1 counts ends in
      let many : findings ≡ length found = length-first (line.Repeats set p.from p.ticks) found l3 findings three counted in
      let threads = thread_lines s own (course_up_to s (last_of p)) p.from (ended_between s p.from (p.from + p.ticks)) in
      let more : l4 ≡ (line.Repeats set p.from p.ticks ∷ found) ++ thread_lines s own (course_up_to s (last_of p)) p.from (ended_between s p.from (p.from + p.ticks)) =
      e4 ∙ ap (λ (a : Course). l3 ++ thread_lines s own a p.from ended) is_after
      ∙ ap (λ (e : List Bool). l3 ++ thread_lines s own (course_up_to s (last_of p)) p.from e) is_ended
      ∙ ap (λ (ls : List Line). ls ++ thread_lines s own (course_up_to s (last_of p)) p.from (ended_between s p.from (p.from + p.ticks))) three in
      record {
        lines_are =
            e5 found many ∙ ap (λ (ls : List Line). ls ++ clean_lines set found) more
            ∙ append_assoc (line.Repeats set p.from p.ticks ∷ found)
            (thread_lines s own (course_up_to s (last_of p)) p.from (ended_between s p.from (p.from + p.ticks))) (clean_lines set found);
        findings_are = many;
      }

module _ (s : System) (allowed : List Bool) (horizon : ℕ) (set own : List Bool) where
  -- for a set that was not found to recur
  pub record AreOpen (lines : List Line) (findings : ℕ) : Type 0 where
    pub lines_are : lines ≡ open_lines s allowed horizon set own
    pub findings_are : findings ≡ length (found_so_far s allowed horizon set own)

  pub told-open : (before after : Course) (l1 l2 l3 l4 : List Line) (findings : ℕ) → before ≡ course_up_to s horizon →
      l1 ≡ line.Open set horizon ∷ [] →
      l2 ≡ l1 ++ count_lines s own false before before allowed →
      l3 ≡ l2 ++ end_lines s own horizon (unended_at s horizon) (untaken_up_to s horizon) →
      l4 ≡ l3 ++ threads_so_far s own before →
      findings ≡ length l3 - 1 → AreOpen l4 findings
  told-open before after l1 l2 l3 l4 findings is_before e1 e2 e3 e4 counted =
      let three : l3 ≡ line.Open set horizon ∷ found_so_far s allowed horizon set own =
      first-three (line.Open set horizon) (count_lines s own false (course_up_to s horizon) (course_up_to s horizon) allowed)
      (end_lines s own horizon (unended_at s horizon) (untaken_up_to s horizon)) l1 l2 l3 e1
      (e2 ∙ ap (λ (b : Course). l1 ++ count_lines s own false b b allowed) is_before) e3 in
      record {
        lines_are = e4 ∙ ap (λ (b : Course). l3 ++ threads_so_far s own b) is_before ∙ ap (λ (ls : List Line). ls ++ threads_so_far s own (course_up_to s horizon)) three;
        findings_are = length-first (line.Open set horizon) (found_so_far s allowed horizon set own) l3 findings three counted;
      }
