use Rattle.std.proofs.Common.{◌∷◌, OnOk, OnErr, subst}
use Rattle.std.specs.Prelude.{IfSome}
use Rattle.mcs_merge.specs.Merge.{DoNotFall}
use Rattle.mcs_merge.specs.Parts.{first_of, Hold}
use Rattle.mcs_merge.specs.stored.Parts.{Pours, IsRefused}
use Rattle.mcs_merge.proofs.Parts.{on-ok, on-err, pours, refuses, DoNotFall-front}
use Rattle.mcs_merge.proofs.waiting.Waiting.pour.Goals as goal

pub returns-clause-given : goal.returns-clause-given
returns-clause-given g c = λ rows o h.
    let part = g.P.Part in
    let takes = g.P.Out.Sink.takes in
    let old = c.self.inside in
    let after = c.go_on.new.front ∷ c.go_on.new.later.items in
    subst (λ parts. Hold part.holds c.args.out.now parts rows → OnOk c.pour-poured.result
    (IfSome (first_of part.first parts) (λ t. Pours takes part.holds t rows c.args.out.now c.pour-poured.new.out after))) c.self.view_is
    (λ h. on-ok c.pour-poured.result
    (pours takes part.holds part.first g.met.P.Part.is_first g.met.P.Part.holds_on c.args.out.now c.pour-poured.new.out old.front c.pour-poured.new.self old.later.items after
    rows o h c.go_on.ensures.same)
    (c.pour-poured.ensures.given h.0 (DoNotFall-front h.0 h.1 (subst DoNotFall h.2 o)) h.3)) h

pub returns-clause-refused : goal.returns-clause-refused
returns-clause-refused g c = λ rows o h.
    let part = g.P.Part in
    let takes = g.P.Out.Sink.takes in
    let old = c.self.inside in
    subst (λ parts. Hold part.holds c.args.out.now parts rows → OnErr c.pour-poured.result
    (IfSome (first_of part.first parts) (λ t. IsRefused takes part.holds t rows c.args.out.now c.pour-poured.new.out))) c.self.view_is
    (λ h. on-err c.pour-poured.result
    (refuses takes part.holds part.first g.met.P.Part.is_first g.met.P.Part.holds_on c.args.out.now c.pour-poured.new.out old.front old.later.items rows o h)
    (c.pour-poured.ensures.refused h.0 (DoNotFall-front h.0 h.1 (subst DoNotFall h.2 o)) h.3)) h
