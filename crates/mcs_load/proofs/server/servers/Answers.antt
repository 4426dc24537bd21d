use Rattle.std.proofs.Common.{◌≡◌, ◌∙◌, [], List, ap, subst}
use Rattle.std.proofs.lemmas.Result.{err_from_is_err_and}
use Rattle.toml.specs.Data.{Items}
use Rattle.toml.specs.View.{table_view, items_view}
use Rattle.mcs_load.specs.declared.server.Server.{Server}
use Rattle.mcs_load.specs.declared.spot.Key.TheVariants as key
use Rattle.mcs_load.specs.declared.spot.Section.TheVariants as section
use Rattle.mcs_load.specs.Checks.{first_failed}
use Rattle.mcs_load.specs.Words.{row, rows, each}
use Rattle.mcs_load.specs.Walk.{server, servers, few_notes}
use Rattle.mcs_load.specs.stored.Ready.{AreReady}
use Rattle.mcs_load.proofs.Each.{fails_later}
use Rattle.mcs_load.proofs.Ready.{rows_ready}
use Rattle.mcs_load.proofs.server.servers.Goals as goal

pub returns-clause-ready : goal.returns-clause-ready
returns-clause-ready c =
    let P : List Server → Type 0 = λ ss. AreReady c.args.notes.now ss in
    subst P c.in_ok-servers.ensures.gives.1 (rows_ready c.args.notes.now c.args.cores (items_view c.in_ok-values.values.now) c.in_ok-servers.ensures.gives.0)

pub returns-in_err-servers-clause-gives : goal.returns-in_err-servers-clause-gives
unfolding servers
returns-in_err-servers-clause-gives c =
    let p = err_from_is_err_and c.from_residual-in_err-servers.result c.from_residual-in_err-servers.ensures.1 in
    let values = rows section.Server key.Server (table_view c.args.file.now) in
    let step = row section.Server (server c.args.notes.now c.args.cores) in
    let are = c.in_ok-values.ensures.gives.1 in
    rw (p.1, p.2)
    (λ h.
    fails_later values.tests _ c.in_ok-values.ensures.gives.0
    ∙ (fails_later (few_notes c.args.notes.now values.value).tests _ (ap (λ (v : Items). first_failed (few_notes c.args.notes.now v).tests) are ∙ c.in_ok-few_notes.ensures.0)
    ∙ (ap (λ (v : Items). first_failed (each step [] v).tests) are ∙ c.in_err-servers.ensures.gives h)))
