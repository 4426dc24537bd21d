-- The lines of threads, one after another.
use Rattle.std.proofs.Common.{◌≡◌, ◌∙◌, ◌++◌, ◌∷◌, ◌+◌, [], ℕ, suc, List, arith, ap, sym, append_assoc, append-nil}
use Rattle.mcs_ticks.specs.declared.row.Row.{Row}
use Rattle.mcs_system.specs.declared.part.ThreadPart.{ThreadPart}
use Rattle.mcs_system.specs.System.{System}
use Rattle.mcs_table.specs.declared.figures.Figures.{Figures}
use Rattle.mcs_table.specs.Figures.{figures_of}
use Rattle.mcs_check_words.specs.declared.asked.Format.{Format}
use Rattle.mcs_check_lines.specs.Figures.{thread_line, thread_lines}

module _ (how : Format) (system : System) (horizon : ℕ) (past : List Row) (n : ℕ) (whole : List ℕ) where
  abbrev behind : ℕ → List ThreadPart → List ℕ
  behind n parts = thread_lines how system horizon past n parts

  -- after the last one
  pub no-more : (parts : List ThreadPart) (text : List ℕ) → parts ≡ [] → text ++ thread_lines how system horizon past n parts ≡ whole → text ≡ whole
  no-more parts text none is = sym (append-nil text) ∙ ap (λ parts. text ++ behind n parts) (sym none) ∙ is

  -- behind one more
  pub one-more : (part : ThreadPart) (parts rest : List ThreadPart) (text now : List ℕ) (f : Figures) → parts ≡ part ∷ rest
      → f ≡ figures_of system horizon past n → now ≡ text ++ thread_line how system n f
      → text ++ thread_lines how system horizon past n parts ≡ whole → now ++ thread_lines how system horizon past (n + 1) rest ≡ whole
  one-more part parts rest text now f first told put is =
      let line = thread_line how system n (figures_of system horizon past n) in
      let next : n + 1 ≡ suc n = omega arith in
      ap (λ m. now ++ behind m rest) next
      ∙ ap (λ l. l ++ behind (suc n) rest) (put ∙ ap (λ f. text ++ thread_line how system n f) told)
      ∙ append_assoc text line (behind (suc n) rest) ∙ ap (λ parts. text ++ behind n parts) (sym first) ∙ is
