-- Whether a thread is unjudged, by its deadline, its rounds and what is found of it.
use Rattle.std.proofs.Common.{◌≡◌, ◌∙◌, ◌<◌, ℕ, Bool, true, false, List, get_or, refl, ap, sym, arith}
use Rattle.std.specs.Prelude.{◌==◌, ◌&&◌, not, is_some}
use Rattle.std.proofs.lemmas.Bool.Decides.{nat_tests}
use Rattle.mcs_ticks.specs.Capped.{capped}
use Rattle.mcs_ticks.specs.declared.row.Row.{Row}
use Rattle.mcs_system.specs.System.{System, thread_part}
use Rattle.mcs_hints.proofs.Numbers.{at_number}
use Rattle.mcs_verdict.specs.Misses.{unended}
use Rattle.mcs_check_lines.specs.Deadlines.{has_deadline}
use Rattle.mcs_check.specs.Judged.{ended, is_unjudged}
use Rattle.mcs_check.specs.stored.Threads.{ended_of}

pub own-rounds : (threads n : ℕ) (past : List Row) → n < threads → get_or (ended_of threads past) n 0 ≡ capped (ended n past)
own-rounds threads n past h = at_number (λ n. capped (ended n past)) threads n 0 h

pub flipped : (a b : Bool) → b ≡ not a → a ≡ not b
flipped true b e = sym (ap not e)
flipped false b e = sym (ap not e)

and-false : (b : Bool) → false ≡ (b && false)
and-false true = refl
and-false false = refl

module _ (system : System) (past : List Row) (horizon thread : ℕ) where
  pub without-deadline : (thread_part system thread).deadline ≡ 0 → false ≡ is_unjudged system past horizon thread
  without-deadline e = sym (ap (λ d. not (d == 0) && (ended thread past == 0 && not (is_some (unended system past horizon thread)))) e)

  pub with-rounds : (rounds : ℕ) → rounds ≡ capped (ended thread past) → (rounds == 0) ≡ false → false ≡ is_unjudged system past horizon thread
  with-rounds rounds is some =
      let more : (ended thread past == 0) ≡ false = grind (arith, nat_tests) in
      and-false (has_deadline (thread_part system thread))
      ∙ ap (λ b. has_deadline (thread_part system thread) && (b && not (is_some (unended system past horizon thread)))) (sym more)

  pub by-findings : (rounds : ℕ) (b : Bool) → ((thread_part system thread).deadline == 0) ≡ false → rounds ≡ capped (ended thread past) → (rounds == 0) ≡ true
      → b ≡ not (is_some (unended system past horizon thread)) → b ≡ is_unjudged system past horizon thread
  by-findings rounds b some is none found =
      let no : (ended thread past == 0) ≡ true = grind (arith, nat_tests) in
      found ∙ sym (ap (λ d. not d && (ended thread past == 0 && not (is_some (unended system past horizon thread)))) some
      ∙ ap (λ d. d && not (is_some (unended system past horizon thread))) no)
