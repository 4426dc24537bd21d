use Rattle.std.proofs.Common.{◌≡◌, ◌∙◌, None, List, ℕ, ap, map, subst, sym}
use Rattle.std.proofs.lemmas.Result.{err_from_is_err_and}
use Rattle.toml.specs.View.{table_view}
use Rattle.mcs_system.specs.declared.part.NotePart.{NotePart}
use Rattle.mcs_load.specs.declared.server.Server.{Server}
use Rattle.mcs_load.specs.declared.source.Source.{Source}
use Rattle.mcs_load.specs.Checks.{first_failed}
use Rattle.mcs_load.specs.Walk.{is_version_3, threads, sources, orders, chains, others}
use Rattle.mcs_load.specs.stored.Bases.{base_view}
use Rattle.mcs_load.specs.stored.Ready.{AreReady}
use Rattle.mcs_load.proofs.Each.{fails_first, fails_later}
use Rattle.mcs_load.proofs.file.others.Goals as goal

pub threads-requires-clause-ready : goal.threads-requires-clause-ready
threads-requires-clause-ready c =
    let P : List NotePart → Type 0 = λ ns. AreReady ns c.deref-3.result.now in
    let Q : List Server → Type 0 = λ ss. AreReady c.args.start.notes.items ss in
    subst P (sym c.deref-2.ensures.value) (subst Q (sym c.deref-3.ensures.value) c.requires.ready)

pub returns-in_err-orders : goal.returns-in_err-orders
unfolding others
returns-in_err-orders c =
    let p = err_from_is_err_and c.from_residual-in_err-orders.result c.from_residual-in_err-orders.ensures.1 in
    let file = table_view c.args.file.now in
    let start = base_view c.args.start in
    let of_threads = threads start.contexts start.notes start.servers (is_version_3 file) file in
    let of_sources = sources (map (λ (n : NotePart). n.name) start.notes) file in
    let of_orders = orders start.top.cores start.top.min_budget start.contexts file in
    let first = rw (c.deref.ensures.value, c.deref-2.ensures.value, c.deref-3.ensures.value, c.is_version_3.ensures) at c.in_ok-threads.ensures.gives.0 in
    let second = rw c.requires.notes at c.in_ok-sources.ensures.gives.0 in
    rw (p.1, p.2)
    (λ h.
    fails_later of_threads.tests _ first
    ∙ (fails_later of_sources.tests _ second
    ∙ fails_first of_orders.tests _ c.in_err-orders.field-0.0 (rw c.deref-4.ensures.value at c.in_err-orders.ensures h)))

pub returns-in_err-chains : goal.returns-in_err-chains
unfolding others
returns-in_err-chains c =
    let p = err_from_is_err_and c.from_residual-in_err-chains.result c.from_residual-in_err-chains.ensures.1 in
    let file = table_view c.args.file.now in
    let start = base_view c.args.start in
    let of_threads = threads start.contexts start.notes start.servers (is_version_3 file) file in
    let of_sources = sources (map (λ (n : NotePart). n.name) start.notes) file in
    let of_orders = orders start.top.cores start.top.min_budget start.contexts file in
    let of_chains = chains (map (λ (s : Source). s.name) of_sources.value) of_threads.value file in
    let first = rw (c.deref.ensures.value, c.deref-2.ensures.value, c.deref-3.ensures.value, c.is_version_3.ensures) at c.in_ok-threads.ensures.gives in
    let second = rw c.requires.notes at c.in_ok-sources.ensures.gives in
    let third = rw c.deref-4.ensures.value at c.in_ok-orders.ensures.0 in
    let names : c.in_ok-sources.source_names ≡ map (λ (s : Source). s.name) of_sources.value =
    c.in_ok-sources.ensures.kept ∙ ap (map (λ (s : Source). s.name)) (sym second.1) in
    let read = c.deref-5.ensures.value ∙ sym first.1 in
    rw (p.1, p.2)
    (λ h.
    fails_later of_threads.tests _ first.0
    ∙ (fails_later of_sources.tests _ second.0
    ∙ (fails_later of_orders.tests _ third
    ∙ fails_first of_chains.tests _ c.in_err-chains.field-0.0 (rw (names, read) at c.in_err-chains.ensures h))))
