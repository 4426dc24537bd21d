use Rattle.std.proofs.Common.{get_or, false, ap, sym, subst, ◌∙◌, arith}
use Rattle.mcs_system.specs.declared.part.Link.{Link}
use Rattle.mcs_system.proofs.Marks.{marked_none, marked_not, marked_more}
use Rattle.mcs_system.proofs.Pairs.{pair_of, AreCores, differ_by_number, number_differs}
use Rattle.mcs_system.proofs.well_formed.have_cores_of_their_own.Goals as goal

pub loop-link-init : goal.loop-link-init
loop-link-init c = marked_none pair_of c.args.links.now

pub returns-then-has_link-pair : goal.returns-then-has_link-pair
returns-then-has_link-pair c =
    let links = c.args.links.now in
    let marks = c.loop-link.has_link in
    let same = ap pair_of c.link.view_is in
    let marked = ap (λ k. get_or marks k false) (sym same) ∙ c.if-has_link-pair.true in
    (λ h. absurd (let f : ⊥ = cc in f), λ all. absurd (marked_not pair_of links marks c.loop-link.link-index c.link-item.result (omega arith) c.link-item.is marked c.loop-link.invariant (number_differs links c.requires all)))

pub loop-link-preserved : goal.loop-link-preserved
loop-link-preserved c =
    let n = c.loop-link.link-index in
    let x = c.link-item.result in
    let marks = c.loop-link.has_link in
    let cores = subst (λ (link : Link). AreCores link) (sym c.link-item.is) (c.requires n x (omega arith)) in
    let same = ap pair_of c.link.view_is in
    let free = ap (λ k. get_or marks k false) (sym same) ∙ c.if-has_link-pair.false in
    rw same (marked_more pair_of c.args.links.now marks n x (omega arith) c.link-item.is (omega (arith, cores.0, cores.1)) free c.loop-link.invariant)

pub returns : goal.returns
returns c =
    let differ = c.loop-link.invariant.differ in
    (λ h. differ_by_number c.args.links.now (λ i j d less within. differ i j d less (omega arith)), λ h. cc)
