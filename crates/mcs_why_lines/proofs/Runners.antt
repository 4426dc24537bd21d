-- The lines of threads that ran, one after another.
use Rattle.std.proofs.Common.{◌≡◌, ◌∙◌, ◌++◌, ◌∷◌, ◌+◌, [], ℕ, suc, List, arith, ap, sym, append_assoc, append-nil}
use Rattle.mcs_ticks.specs.declared.row.Row.{Row}
use Rattle.mcs_system.specs.declared.part.ThreadPart.{ThreadPart}
use Rattle.mcs_system.specs.System.{System}
use Rattle.mcs_why.specs.Running.{ran_in}
use Rattle.mcs_check_words.specs.declared.asked.Format.{Format}
use Rattle.mcs_why_lines.specs.Account.{idle_line, ran_line, ran_lines}

module _ (how : Format) (system : System) (core : ℕ) (past : List Row) (from to n : ℕ) (whole : List ℕ) where
  abbrev behind : ℕ → List ThreadPart → List ℕ
  behind n parts = ran_lines how system core past from to n parts

  -- after the last one
  pub no-more : (parts : List ThreadPart) (text : List ℕ) → parts ≡ [] → text ++ ran_lines how system core past from to n parts ≡ whole → text ≡ whole
  no-more parts text none is = sym (append-nil text) ∙ ap (λ parts. text ++ behind n parts) (sym none) ∙ is

  -- behind one more
  pub one-more : (part : ThreadPart) (parts rest : List ThreadPart) (text now : List ℕ) (ticks : ℕ) → parts ≡ part ∷ rest
      → ticks ≡ ran_in core n past from to → now ≡ text ++ ran_line how system n ticks
      → text ++ ran_lines how system core past from to n parts ≡ whole → now ++ ran_lines how system core past from to (n + 1) rest ≡ whole
  one-more part parts rest text now ticks first told put is =
      let line = ran_line how system n (ran_in core n past from to) in
      let next : n + 1 ≡ suc n = omega arith in
      ap (λ m. now ++ behind m rest) next
      ∙ ap (λ l. l ++ behind (suc n) rest) (put ∙ ap (λ t. text ++ ran_line how system n t) told)
      ∙ append_assoc text line (behind (suc n) rest) ∙ ap (λ parts. text ++ behind n parts) (sym first) ∙ is

-- the line of the round, those of threads that ran, and that of idle ticks
pub accounted : (how : Format) (old first second last round ran : List ℕ) (ticks idle : ℕ) → ticks ≡ idle → first ≡ old ++ round → second ≡ first ++ ran
    → last ≡ second ++ idle_line how ticks → last ≡ old ++ (round ++ ran ++ idle_line how idle)
accounted how old first second last round ran ticks idle told one two three =
    three ∙ ap (λ t. second ++ idle_line how t) told
    ∙ ap (λ l. l ++ idle_line how idle) (two ∙ ap (λ l. l ++ ran) one ∙ append_assoc old round ran)
    ∙ append_assoc old (round ++ ran) (idle_line how idle)
