-- The result of a chain at the horizon.
use Rattle.std.proofs.Common.{◌≡◌, ℕ, suc, ◌+◌, ◌-◌, List, Option, None, ap, ◌∙◌, arith}
use Rattle.mcs_ticks.specs.declared.row.Row.{Row}
use Rattle.mcs_system.specs.declared.part.ChainPart.{ChainPart}
use Rattle.mcs_system.specs.System.{System}
use Rattle.mcs_chain.specs.declared.finding.Finding.{Finding}
use Rattle.mcs_chain.specs.Answers.{unanswered}
use Rattle.mcs_ever_found.specs.Recurs.{past_before}
use Rattle.mcs_ever_told.specs.declared.line.Often.{Often}
use Rattle.mcs_ever_told.specs.declared.line.Often.TheVariants.{SoFar}
use Rattle.mcs_ever_chain.specs.declared.often.Counts.{Counts}
use Rattle.mcs_ever_chain.specs.Told.{ChainIsSoFar, left_for, past_up_to}
use Rattle.mcs_ever_chain.specs.stored.Runs.{counts_of, left_at}

module _ (system : System) (chain : ChainPart) (horizon clock n : ℕ) (counts : Counts) (found : Option Finding) (left : Option Often) (at : clock ≡ horizon + 1) where
  past-is : past_before system clock ≡ past_up_to system chain horizon
  past-is = let e : clock ≡ suc horizon = omega (arith, at) in ap (λ (t : ℕ). past_before system t) e

  pub so-far : counts ≡ counts_of system chain (past_before system clock) → found ≡ left_at system chain clock (clock - 1) →
      left ≡ left_for found (counts.interrupts - counts.answers) →
      ChainIsSoFar system chain horizon (record {
        chain = n;
        period = None;
        greatest = counts.greatest;
        answers = SoFar counts.answers;
        slow = SoFar counts.slow;
        unanswered = left;
      })
  so-far are is left-is =
      let here : counts ≡ counts_of system chain (past_up_to system chain horizon) = are ∙ ap (λ (past : List Row). counts_of system chain past) past-is in
      let before : clock - 1 ≡ horizon = omega (arith, at) in
      let at_end : found ≡ unanswered system chain (past_up_to system chain horizon) horizon =
      is ∙ ap (λ (h : ℕ). left_at system chain clock h) before ∙ ap (λ (past : List Row). unanswered system chain past horizon) past-is in
      record {
        greatest_is = ap (λ (c : Counts). c.greatest) here;
        answers = ap (λ (c : Counts). SoFar c.answers) here;
        slow = ap (λ (c : Counts). SoFar c.slow) here;
        left =
            left-is ∙ ap (λ (f : Option Finding). left_for f (counts.interrupts - counts.answers)) at_end
            ∙ ap (λ (c : Counts). left_for (unanswered system chain (past_up_to system chain horizon) horizon) (c.interrupts - c.answers)) here;
      }
