-- The line of a row of a span.
use Rattle.std.proofs.Common.{◌≡◌, ◌∙◌, ℕ, Bool, true, List, refl, ap, sym}
use Rattle.mcs_ticks.specs.declared.row.Row.{Row}
use Rattle.mcs_system.specs.System.{System}
use Rattle.mcs_why.specs.Running.{is_within}
use Rattle.mcs_why.specs.Account.{Account, account_of}
use Rattle.mcs_check_words.specs.declared.asked.Format.{Format}
use Rattle.mcs_why_lines.specs.Rows.{row_line}
use Rattle.mcs_explain.specs.stored.Spans.{line_at}

-- whether an account shows a row, by the span that it is of
pub shown-is : (a : Account) (threads core from to : ℕ) (past : List Row) (r : Row) (shown : Bool) → a ≡ account_of threads core from to past
    → shown ≡ is_within a.core a.from a.to r → is_within core from to r ≡ shown
shown-is a threads core from to past r shown is tells = sym (tells ∙ ap (λ (a : Account). is_within a.core a.from a.to r) is)

module _ (how : Format) (system : System) (core from to : ℕ) (r : Row) where
  pub line-within : is_within core from to r ≡ true → row_line how system r ≡ line_at how system core from to r
  line-within e = rw e refl
