use Rattle.std.proofs.Common.{refl}
use Rattle.std.specs.Result.{is_ok}
use Rattle.mcs_cli.proofs.Puts.{puts-then}
use Rattle.mcs_cli.proofs.sink.Lines.append.Goals as goal

pub returns : goal.returns
returns g c =
    let old = c.args.self.now in
    let put = record old { target = record old.target { now = c.put.new.target }; page = record old.page { now = c.put.new.page } } in
    puts-then g.T.Target.contents g.T.Target.has_failed old put c.write_enough.new.self c.args.lines.now (is_ok c.write_enough.result)
    (refl, refl, refl, λ e. c.in_ok-put.ensures.working, λ e. cc, c.in_ok-put.ensures.written) c.write_enough.ensures
