use Rattle.mcs_merge.proofs.Helds.{err_same}
use Rattle.mcs_merge.proofs.Pouring.{pouring-goes-on, pouring-on, pouring-refused, pouring-stops, pouring-ends}
use Rattle.mcs_merge.proofs.merger.Merger.pour_before.Goals as goal

pub moments-preserved-then-steps-gt0 : goal.moments-preserved-then-steps-gt0
moments-preserved-then-steps-gt0 g c =
    let part = g.P.Part in
    pouring-goes-on g.P.Out.Sink.takes part.holds part.first g.met.P.Part.is_first g.met.P.Part.holds_on c.args.until c.args.out.now c.moments.out c.args.self.now c.moments.self
    c.moments.invariant c.next_before.ensures.in_line c.pour.new.out c.in-Some.core c.in-Some.ensures.next c.pour.new.self c.in_ok-pour.ensures.given c.in_ok-pour.ensures.others

pub moments-preserved : goal.moments-preserved
moments-preserved g c =
    let part = g.P.Part in
    let one =
    pouring-goes-on g.P.Out.Sink.takes part.holds part.first g.met.P.Part.is_first g.met.P.Part.holds_on c.args.until c.args.out.now c.moments.out c.args.self.now c.moments.self
    c.moments.invariant c.next_before.ensures.in_line c.pour.new.out c.in-Some.core c.in-Some.ensures.next c.pour.new.self c.in_ok-pour.ensures.given c.in_ok-pour.ensures.others
    in
    pouring-on g.P.Out.Sink.takes part.holds part.first g.met.P.Part.is_first g.met.P.Part.holds_on c.args.until c.args.out.now c.pour.new.out c.sweep.new.out
    c.args.self.now c.pour.new.self c.sweep.new.self one c.in_ok-steps.ensures.goes_on

pub returns-in_err-pour-clause-refused : goal.returns-in_err-pour-clause-refused
returns-in_err-pour-clause-refused g c = λ lists o h.
    let part = g.P.Part in
    let refused = pouring-refused g.P.Out.Sink.takes part.holds part.first g.met.P.Part.is_first g.met.P.Part.holds_on c.args.until c.args.out.now c.moments.out c.args.self.now c.moments.self
    c.moments.invariant c.next_before.ensures.in_line c.pour.new.out c.in-Some.core c.in-Some.ensures.next c.in_err-pour.ensures.refused lists o h
    in
    err_same c.from_residual.result refused

pub returns-in_err-steps-clause-refused : goal.returns-in_err-steps-clause-refused
returns-in_err-steps-clause-refused g c = λ lists o h.
    let part = g.P.Part in
    let one =
    pouring-goes-on g.P.Out.Sink.takes part.holds part.first g.met.P.Part.is_first g.met.P.Part.holds_on c.args.until c.args.out.now c.moments.out c.args.self.now c.moments.self
    c.moments.invariant c.next_before.ensures.in_line c.pour.new.out c.in-Some.core c.in-Some.ensures.next c.pour.new.self c.in_ok-pour.ensures.given c.in_ok-pour.ensures.others
    in
    let stopped = pouring-stops g.P.Out.Sink.takes part.holds part.first g.met.P.Part.is_first g.met.P.Part.holds_on c.args.until c.args.out.now c.pour.new.out c.sweep.new.out
    c.args.self.now c.pour.new.self one c.in_err-steps.ensures.stops
    in
    err_same c.from_residual-in_err-steps.result (stopped lists o h)

pub returns-clause-given : goal.returns-clause-given
returns-clause-given g c =
    let part = g.P.Part in
    pouring-ends g.P.Out.Sink.takes part.holds part.first g.met.P.Part.is_first g.met.P.Part.holds_on c.args.until c.args.out.now c.moments.out c.args.self.now c.moments.self
    c.moments.invariant c.next_before.ensures.in_line c.in_default.ensures.none
