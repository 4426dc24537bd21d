use Rattle.std.proofs.Common.{◌≡◌, ◌∙◌, ◌<◌, ◌≤◌, ◌+◌, ap, sym, arith, rules, length}
use Rattle.mcs_text.specs.Lines.{Lines, text_at, start_of, end_of}
use Rattle.mcs_text.proofs.Places.{text_part, end_known, end_last, read_start}
use Rattle.mcs_text.proofs.lines.Lines.text_at.Goals as goal
use Rattle.mcs_text.proofs.lines.Lines.text_at.Goals.{then-next-len, else-next-len}

pub returns : goal.returns
returns c =
    let lines = c.self.inside in
    let marks = lines.marks.items in
    let known : c.args.place < length marks = search rules in
    let start : c.index.result.now.start ≡ start_of marks c.args.place =
    read_start marks c.args.place c.index.result.now known c.index.ensures in
    let end : c.if-next-len.end ≡ end_of lines.used marks c.args.place =
    elim c.if-next-len.branch [
      | then-next-len w ↦
          let next : c.args.place + 1 < length marks = omega arith in
          w.end-is ∙ read_start marks (c.args.place + 1) w.index-then-next-len.result.now next w.index-then-next-len.ensures
          ∙ sym (end_known lines.used marks c.args.place next)
      | else-next-len w ↦
          let last : length marks ≤ c.args.place + 1 = omega arith in
          w.end-is ∙ sym (end_last lines.used marks c.args.place last)
    ]
    in
    let whole : c.deref.result.now ≡ lines.bytes.items = c.deref.ensures.value in
    rw whole (text_part lines.names.now lines.bytes.items lines.used _ _ marks c.args.place c.self.invariant.within c.self.invariant.in_order known start end
    ∙ ap (λ (all : Lines). text_at all c.args.place) c.self.view_is)
