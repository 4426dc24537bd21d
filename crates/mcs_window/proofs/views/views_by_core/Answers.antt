use Rattle.std.proofs.Common.{◌≡◌, ◌∙◌, length, map, sym, subst, arith}
use Rattle.std.proofs.lemmas.List.{length-map}
use Rattle.mcs_window.specs.stored.Views.{AreBegun}
use Rattle.mcs_window.proofs.Dealing.{state-at, state-fits, begun-more, all-begun}
use Rattle.mcs_window.proofs.views.views_by_core.Goals as goal

pub views-requires : goal.views-requires
views-requires g c =
    state-fits c.args.system.now g.T.Stands.state c.args.cores.now c.loop-core.core-index c.core-item.result c.requires c.loop-core-test.true c.core-item.is

pub loop-core-preserved : goal.loop-core-preserved
loop-core-preserved g c =
    let n = c.loop-core.core-index in
    let cores = c.args.cores.now in
    let state = g.T.Stands.state in
    let core = c.core-item.result in
    begun-more c.args.system.now (map state cores) n c.loop-core.queues.items c.push.new.self.items (state core) c.from_vec-queue.result c.loop-core.invariant
    (let same = length-map cores state in let l = c.loop-core-test.true in omega arith)
    (sym (state-at state cores n core (state core) c.loop-core-test.true c.core-item.is))
    (c.from_vec-queue.ensures.items ∙ c.in_ok-views.ensures) c.in_ok-push.ensures.items

pub returns : goal.returns
returns g c =
    let cores = c.args.cores.now in
    let state = g.T.Stands.state in
    let all : c.loop-core.core-index ≡ length (map state cores) = (let same = length-map cores state in omega arith) in
    all-begun c.args.system.now (map state cores) c.loop-core.queues.items c.requires
    (subst (λ n. AreBegun c.args.system.now (map state cores) n c.loop-core.queues.items) all c.loop-core.invariant)
