-- The laws of findings, jobs and tests, from that of rows.
use Rattle.std.proofs.Common.{[], sym, ap, ◌∙◌}
use Rattle.mcs_core.specs.Clock.{schedule}
use Rattle.mcs_verdict.specs.Findings.{past_of, findings}
use Rattle.mcs_verdict.specs.Jobs.{jobs_in}
use Rattle.mcs_spin.specs.Spun.{spun}
use Rattle.mcs_spin.specs.laws.Rows.{RowsAreSpun}
use Rattle.mcs_spin.specs.laws.Verdicts.{FindingsAreSpun, JobsAreSpun, TestsAreSpun, has_passed}
use Rattle.mcs_spin.proofs.LeftOut.{past-left, passed-left}
use Rattle.mcs_spin.proofs.SameFound.{findings-left, jobs-left}

module _ (rows : RowsAreSpun) where
  pub findings-spun : FindingsAreSpun
  findings-spun system well horizon =
      sym (findings-left system horizon (schedule system horizon)) ∙ ap (findings (spun system) horizon) (rows system well horizon)

  pub jobs-spun : JobsAreSpun
  jobs-spun system well horizon =
      jobs-left system [] (schedule system horizon) ∙ ap (jobs_in (spun system) []) (rows system well horizon)

  pub tests-spun : TestsAreSpun
  tests-spun system well test none horizon =
      sym (passed-left system test none (past_of [] (schedule system horizon)))
      ∙ ap (has_passed test) (sym (past-left system [] (schedule system horizon)))
      ∙ ap (λ rows. has_passed test (past_of [] rows)) (rows system well horizon)
