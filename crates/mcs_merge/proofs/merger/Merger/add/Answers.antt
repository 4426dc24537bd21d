use Rattle.std.proofs.Common.{◌≡◌, ◌∙◌, ◌++◌, ◌<◌, List, ap, drop, length, set, subst, sym, take}
use Rattle.std.proofs.lemmas.List.{length-set}
use Rattle.mcs_merge.specs.declared.heads.Head.{Head}
use Rattle.mcs_merge.specs.Merging.{list_of, with_rows}
use Rattle.mcs_merge.specs.Parts.{parts_of, AreHeld, Hold}
use Rattle.mcs_merge.specs.stored.Parts.{AreNext}
use Rattle.mcs_merge.proofs.Helds.{written_whole}
use Rattle.mcs_merge.proofs.Nexts.{AreNext-set}
use Rattle.mcs_merge.proofs.Pouring.{AreHeld-set}
use Rattle.mcs_merge.proofs.merger.Merger.add.Goals as goal

-- the cores that are written back
whole : (g : _) (c : goal.After-set g) →
    take c.self.inside.cores.len (c.add_to.new.cores ++ drop (length c.add_to.new.cores) c.self.inside.cores.items) ≡ c.add_to.new.cores
whole g c =
    let new = c.add_to.new.cores in
    let core = c.core.inside.0 in
    written_whole c.self.inside.cores.len new (drop (length new) c.self.inside.cores.items)
    (ap (λ cores. length cores) c.add_to.ensures.others ∙ length-set c.as_mut_slice-cores.result.now core (parts_of core new) ∙ c.as_mut_slice-cores.ensures.len)

within : (g : _) (c : goal.After-set g) → c.core.inside.0 < length c.self.inside.cores.items
within g c = subst (λ core. core < length c.self.inside.cores.items) (sym c.core.view_is) (subst (λ cores. c.args.core < length cores) (sym c.self.view_is) c.requires)

written : (g : _) (c : goal.After-set g) → c.add_to.new.cores ≡ set c.self.inside.cores.items c.core.inside.0 (parts_of c.core.inside.0 c.add_to.new.cores)
written g c =
    let new = c.add_to.new.cores in
    let core = c.core.inside.0 in
    subst (λ cores. new ≡ set cores core (parts_of core new)) c.as_mut_slice-cores.ensures.value c.add_to.ensures.others

pub invariant_of-self-2 : goal.invariant_of-self-2
invariant_of-self-2 g c =
    let first = g.P.Part.first in
    let new = c.add_to.new.cores in
    let old = c.self.inside.cores.items in
    let core = c.core.inside.0 in
    subst (λ cores. AreNext first cores c.set.new.self) (sym (whole g c))
    (subst (λ (heads : List Head). AreNext first new heads) (sym c.set.ensures)
    (subst (λ cores. AreNext first cores (set c.self.inside.heads core c.head_at-head.result)) (sym (written g c))
    (AreNext-set first old c.self.inside.heads c.self.invariant core (parts_of core new) c.head_at-head.result (within g c) c.add_to.ensures.in_line c.head_at-head.ensures)))

pub returns-clause-added : goal.returns-clause-added
returns-clause-added g c = λ out lists rows h k.
    let holds = g.P.Part.holds in
    let new = c.add_to.new.cores in
    let old = c.self.inside.cores.items in
    let core = c.core.inside.0 in
    let held : AreHeld holds out old lists = subst (λ cores. AreHeld holds out cores lists) (sym c.self.view_is) h in
    let lies = c.as_mut_slice-cores.ensures.value in
    let l : core < length lists = subst (λ n. core < n) held.same (within g c) in
    let added : Hold holds out (parts_of core new) (list_of core lists ++ rows) =
    c.in_ok-room.ensures.added out (list_of core lists) rows (subst (λ cores. Hold holds out (parts_of core cores) (list_of core lists)) (sym lies) (held.each core l)) k
    in
    let all : AreHeld holds out (set old core (parts_of core new)) (with_rows core rows lists) =
    AreHeld-set out old lists core (parts_of core new) (list_of core lists ++ rows) held (within g c) added
    in
    subst (λ cores. AreHeld holds out cores (with_rows c.args.core rows lists)) (sym (whole g c))
    (subst (λ core. AreHeld holds out new (with_rows core rows lists)) c.core.view_is
    (subst (λ cores. AreHeld holds out cores (with_rows core rows lists)) (sym (written g c)) all))
