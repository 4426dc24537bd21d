use Rattle.std.proofs.Common.{◌≡◌, false, sym, ap, ◌∙◌, rules}
use Rattle.mcs_system.specs.System.{note_part, source_part}
use Rattle.mcs_ever.specs.Closed.{has}
use Rattle.mcs_ever_again.proofs.SourceDates.{go-on-elsewhere}
use Rattle.mcs_ever_again.proofs.recurs.sources.own_go_on.Goals as goal

pub returns-then-not-is_own : goal.returns-then-not-is_own
returns-then-not-is_own c = λ yes.
    let other : has c.args.group.now (note_part c.args.system.now (source_part c.args.system.now c.args.beat.now.source).note).core ≡ false =
    ap (has c.args.group.now) (sym c.home_of.ensures) ∙ sym c.is_own.ensures ∙ search rules in
    go-on-elsewhere c.args.system.now c.args.group.now c.args.from c.args.by c.args.beat.now other
