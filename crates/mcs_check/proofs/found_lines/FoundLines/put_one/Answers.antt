use Rattle.std.proofs.Common.{refl}
use Rattle.mcs_check_lines.specs.Formats.{found_line}
use Rattle.mcs_check_run.proofs.Results.{err-holds, ok-holds}
use Rattle.mcs_check.proofs.found_lines.FoundLines.put_one.Goals as goal

pub returns : goal.returns
returns g c = (
  c.take_line.ensures.target,
  refl,
  refl,
  refl,
  λ taken. ok-holds c.take_line.result taken c.take_line.ensures.working,
  λ taken. err-holds c.take_line.result taken c.take_line.ensures.refused,
  c.take_line.ensures.line c.args.self.now.text.now.items (found_line c.args.self.now.format c.args.self.now.system.now c.args.found.now)
      c.put_shown-appended.ensures.ok,
)
