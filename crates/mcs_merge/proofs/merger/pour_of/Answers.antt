use Rattle.std.proofs.Common.{◌<◌, [], subst}
use Rattle.std.proofs.lemmas.List.{get_or_default}
use Rattle.mcs_merge.specs.stored.Parts.{left_of}
use Rattle.mcs_merge.proofs.Parts.{on-ok}
use Rattle.mcs_merge.proofs.Nexts.{fewer-of-all}
use Rattle.mcs_merge.proofs.merger.pour_of.Goals as goal

pub returns-clause-fewer : goal.returns-clause-fewer
returns-clause-fewer g c =
    let left = g.P.Part.left in
    let cores = c.args.cores.now in
    let core = c.args.core in
    let is = get_or_default cores core c.index-cores-core.result [] c.requires.within in
    on-ok c.pour.result
    (λ less. fewer-of-all left cores core c.pour.new.self c.requires.within (subst (λ parts. left_of left c.pour.new.self < left_of left parts) is less))
    c.pour.ensures.fewer
