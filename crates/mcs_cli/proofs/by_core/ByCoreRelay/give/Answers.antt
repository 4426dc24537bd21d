use Rattle.std.proofs.Common.{rules, [], ◌≡◌, ◌≢◌, ◌∙◌, sym, subst, false, true}
use Rattle.mcs_merge.proofs.Helds.{err_same}
use Rattle.mcs_text.specs.Told.{ToldLines, HoldsTold}
use Rattle.mcs_cli.specs.Lines.{PutsLines}
use Rattle.mcs_cli.proofs.Puts.{told-given, told-refused, told-none-holds}
use Rattle.mcs_cli.proofs.by_core.ByCoreRelay.give.Goals as goal

pub returns-in_err-append-clause-refused : goal.returns-in_err-append-clause-refused
returns-in_err-append-clause-refused g c = λ rows fits h.
    let held = g.T.Target.contents in
    let failed = g.T.Target.has_failed in
    let out = c.args.out.now in
    let after = c.append.new.self in
    let told : ToldLines = c.args.told.now.told in
    let bytes : c.as_slice.result.now ≡ told.lines.bytes = search rules in
    let many : told.rows ≢ 0 = search rules in
    let put = subst (λ xs. PutsLines held failed out xs false after) bytes c.in_err-append.ensures in
    err_same c.from_residual.result (told-refused held failed out after told rows (c.args.told.now.of_system ∙ sym fits) h many put)

pub returns-clause-given : goal.returns-clause-given
returns-clause-given g c = λ rows fits h.
    let held = g.T.Target.contents in
    let failed = g.T.Target.has_failed in
    let out = c.args.out.now in
    let after = c.append.new.self in
    let told : ToldLines = c.args.told.now.told in
    let bytes : c.as_slice.result.now ≡ told.lines.bytes = search rules in
    let many : told.rows ≢ 0 = search rules in
    let put = subst (λ xs. PutsLines held failed out xs true after) bytes c.in_ok-append.ensures in (
      told-given held failed out after told rows (c.args.told.now.of_system ∙ sym fits) h many put,
      subst (λ left. HoldsTold left []) (sym c.in_room_of.ensures) (told-none-holds _),
    )
