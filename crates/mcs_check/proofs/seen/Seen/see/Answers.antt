use Rattle.mcs_check.proofs.seen.Seen.see.Goals as goal

-- the tables of both are those of the figures
pub returns-in_ok-tabulate-in-Both-clause-tabled : goal.returns-in_ok-tabulate-in-Both-clause-tabled
returns-in_ok-tabulate-in-Both-clause-tabled c = λ system horizon past chains watch up table.
    rw c.in-Both.is (c.tabulate-in-Both.ensures.tabled system horizon past chains watch up (rw c.in-Both.is at table))
