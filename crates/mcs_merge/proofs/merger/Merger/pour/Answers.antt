use Rattle.std.proofs.Common.{◌≡◌, ◌∙◌, ◌++◌, ◌<◌, List, ap, drop, length, set, subst, sym, take, OnOk, OnErr}
use Rattle.std.proofs.lemmas.List.{length-set}
use Rattle.std.specs.Prelude.{IfSome}
use Rattle.mcs_merge.specs.declared.heads.Head.{Head}
use Rattle.mcs_merge.specs.Parts.{first_of, parts_of, Hold}
use Rattle.mcs_merge.specs.stored.Parts.{AreNext, Pours, IsRefused}
use Rattle.mcs_merge.proofs.Helds.{written_whole}
use Rattle.mcs_merge.proofs.Nexts.{AreNext-set}
use Rattle.mcs_merge.proofs.merger.Merger.pour.Goals as goal

-- the cores that are written back
whole : (g : _) (c : goal.After-set g) →
    take c.self.inside.cores.len (c.pour_of-poured.new.cores ++ drop (length c.pour_of-poured.new.cores) c.self.inside.cores.items) ≡ c.pour_of-poured.new.cores
whole g c =
    let new = c.pour_of-poured.new.cores in
    written_whole c.self.inside.cores.len new (drop (length new) c.self.inside.cores.items)
    (ap (λ cores. length cores) c.pour_of-poured.ensures.others ∙ length-set c.as_mut_slice-cores.result.now c.args.core (parts_of c.args.core new) ∙ c.as_mut_slice-cores.ensures.len)

pub invariant_of-self : goal.invariant_of-self
invariant_of-self g c =
    let first = g.P.Part.first in
    let new = c.pour_of-poured.new.cores in
    let old = c.self.inside.cores.items in
    let core = c.args.core in
    let written : new ≡ set old core (parts_of core new) =
    subst (λ cores. new ≡ set cores core (parts_of core new)) c.as_mut_slice-cores.ensures.value c.pour_of-poured.ensures.others
    in
    let within : core < length old = subst (λ cores. core < length cores) (sym c.self.view_is) c.requires.within in
    subst (λ cores. AreNext first cores c.set.new.self) (sym (whole g c))
    (subst (λ (heads : List Head). AreNext first new heads) (sym c.set.ensures)
    (subst (λ cores. AreNext first cores (set c.self.inside.heads core c.head_at-head.result)) (sym written)
    (AreNext-set first old c.self.inside.heads c.self.invariant core (parts_of core new) c.head_at-head.result within c.pour_of-poured.ensures.in_line c.head_at-head.ensures)))

pub returns-clause-given : goal.returns-clause-given
returns-clause-given g c = λ rows o h.
    let part = g.P.Part in
    let takes = g.P.Out.Sink.takes in
    let core = c.args.core in
    let slice = c.as_mut_slice-cores.result.now in
    let lies : slice ≡ c.args.self.now = c.as_mut_slice-cores.ensures.value ∙ c.self.view_is in
    let r = c.pour_of-poured.result in
    let after = c.pour_of-poured.new.out in
    let given = c.pour_of-poured.ensures.given rows o (subst (λ cores. Hold part.holds c.args.out.now (parts_of core cores) rows) (sym lies) h) in
    subst (λ cores. OnOk r (IfSome (first_of part.first (parts_of core c.args.self.now)) (λ t. Pours takes part.holds t rows c.args.out.now after (parts_of core cores)))) (sym (whole g c))
    (subst (λ cores. OnOk r (IfSome (first_of part.first (parts_of core cores)) (λ t. Pours takes part.holds t rows c.args.out.now after (parts_of core c.pour_of-poured.new.cores)))) lies given)

pub returns-clause-refused : goal.returns-clause-refused
returns-clause-refused g c = λ rows o h.
    let part = g.P.Part in
    let takes = g.P.Out.Sink.takes in
    let core = c.args.core in
    let slice = c.as_mut_slice-cores.result.now in
    let lies : slice ≡ c.args.self.now = c.as_mut_slice-cores.ensures.value ∙ c.self.view_is in
    let r = c.pour_of-poured.result in
    let refused = c.pour_of-poured.ensures.refused rows o (subst (λ cores. Hold part.holds c.args.out.now (parts_of core cores) rows) (sym lies) h) in
    subst (λ cores. OnErr r (IfSome (first_of part.first (parts_of core cores)) (λ t. IsRefused takes part.holds t rows c.args.out.now c.pour_of-poured.new.out))) lies refused
