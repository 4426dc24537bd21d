use Rattle.mcs_core.specs.Clock.{schedule}
use Rattle.std.specs.Arc.{arc_value}
use Rattle.example_longest_wait.proofs.Chains.{counted}
use Rattle.example_longest_wait.proofs.sink.longest_wait.Goals as goal

-- the sink has counted the schedule's rows
pub returns : goal.returns
returns g c =
    counted (record { thread = c.args.thread; longest = 0 }) c.simulate_to.new.sink
    (schedule (arc_value c.args.system) c.args.horizon) c.in_ok-simulate_to.ensures.given
