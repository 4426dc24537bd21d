use Rattle.std.proofs.Common.{◌≡◌, ◌≤◌, ◌+◌, length, arith, rules}
use Rattle.mcs_text.specs.Lines.{marked}
use Rattle.mcs_text.proofs.Places.{kept-more, written_within}
use Rattle.mcs_text.proofs.lines.LinesSink.row.Goals as goal

pub invariant_of-self-2 : goal.invariant_of-self-2
invariant_of-self-2 c =
    let lines = c.self.inside in
    let moment = c.args.row.now.moment in
    let end = c.write_line-self-inside.result in
    let bytes = c.make_room.new.bytes in
    let marks : c.reach.new.marks.items ≡ marked moment lines.used lines.marks.items = c.in_ok-reach.ensures.marks in
    let digits : c.reach.new.digits ≡ moment = c.in_ok-reach.ensures.digits in
    let room : lines.used + 144 ≤ length bytes.items = c.in_ok-make_room.ensures.room in
    let known : bytes.len ≡ length bytes.items = search rules in
    let same : length c.write_line-self-inside.new.bytes ≡ length bytes.items = search rules in
    let within = written_within c.write_line-self-inside.new.bytes bytes.items bytes.len end same known (omega arith) in
    rw (marks, digits) (kept-more _ _ lines.used _ moment _ lines.marks.items c.self.invariant c.write_line-self-inside.ensures.longer within)
