use Rattle.std.proofs.Common.{◌≡◌, ◌++◌, false, refl, rules, subst, sym}
use Rattle.std.specs.Result.{is_ok}
use Rattle.mcs_text.specs.Text.{row_text}
use Rattle.mcs_cli.specs.Flow.{AppendsBefore}
use Rattle.mcs_cli.proofs.Flow.{before-longer, prefix-longer}
use Rattle.mcs_cli.proofs.Puts.{puts-then}
use Rattle.mcs_cli.proofs.sink.LinesSink.row.Goals as goal

pub returns-in_err-make_room : goal.returns-in_err-make_room
returns-in_err-make_room g c =
    let refused : is_ok c.from_residual.result ≡ false = search rules in
    let line = row_text c.args.self.now.names.now c.args.row.now in
    let prefix = prefix-longer _ _ c.args.self.now.page.now line c.in_err-make_room.ensures.prefix in
    (refl, refl, refl, search rules, search rules, rw refused prefix)

pub returns : goal.returns
returns g c =
    let held = g.T.Target.contents in
    let old = c.args.self.now in
    let line = row_text old.names.now c.args.row.now in
    let put = record old { target = record old.target { now = c.make_room.new.target }; page = record old.page { now = c.put_row.new.self } } in
    let longer = before-longer _ _ old.page.now c.make_room.new.page line c.in_ok-make_room.ensures.written in
    let before : AppendsBefore (held old.target.now) (held c.make_room.new.target) (old.page.now ++ line) c.put_row.new.self =
    subst (AppendsBefore (held old.target.now) (held c.make_room.new.target) (old.page.now ++ line)) (sym c.put_row.ensures) longer
    in
    puts-then held g.T.Target.has_failed old put c.write_enough.new.self line (is_ok c.write_enough.result)
    (refl, refl, refl, λ e. c.in_ok-make_room.ensures.working, λ e. cc, before) c.write_enough.ensures
