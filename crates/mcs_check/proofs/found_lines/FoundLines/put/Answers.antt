use Rattle.std.proofs.Common.{◌≡◌, false, is_ok, rules, subst, sym, true}
use Rattle.mcs_check.specs.stored.Pages.{founds_text, PutsLines}
use Rattle.mcs_check.proofs.Pages.{put-next, put-refused, puts-none}
use Rattle.mcs_check.proofs.found_lines.FoundLines.put.Goals as goal

pub loop-one-init : goal.loop-one-init
loop-one-init g c = puts-none g.T.Target.contents g.T.Target.has_failed c.args.self.now

pub loop-one-preserved : goal.loop-one-preserved
loop-one-preserved g c =
    put-next g.T.Target.contents g.T.Target.has_failed c.args.self.now c.loop-one.self c.put_one.new.self c.args.found.now c.loop-one.one-index c.one-item.result
    c.loop-one-test.true (search rules) c.loop-one.invariant true c.in_ok-put_one.ensures

pub returns-in_err-put_one : goal.returns-in_err-put_one
returns-in_err-put_one g c =
    let held = g.T.Target.contents in
    let failed = g.T.Target.has_failed in
    let refused : is_ok c.from_residual.result ≡ false = search rules in
    subst (λ b. PutsLines held failed c.args.self.now (founds_text c.args.self.now.format c.args.self.now.system.now c.args.found.now) b c.put_one.new.self) (sym refused)
    (put-refused held failed c.args.self.now c.loop-one.self c.put_one.new.self c.args.found.now c.loop-one.one-index c.one-item.result
    c.loop-one-test.true (search rules) c.loop-one.invariant c.in_err-put_one.ensures)
