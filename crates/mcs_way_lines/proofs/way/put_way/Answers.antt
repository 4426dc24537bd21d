use Rattle.std.proofs.Common.{◌∙◌, ◌++◌, ap, append_assoc, flat_map}
use Rattle.mcs_way.specs.Sums.{sums_of}
use Rattle.mcs_way_lines.specs.Lines.{leg_text, sum_text}
use Rattle.mcs_way_lines.proofs.way.put_way.Goals as goal

pub returns : goal.returns
returns c =
    let way = c.args.way.now in
    let sum = sum_text (sums_of way) in
    c.in_ok-append_sum.ensures
    ∙ ap (λ s. c.append_legs.new.text.items ++ sum_text s) c.sums_of.ensures
    ∙ ap (λ l. l ++ sum) c.in_ok-append_legs.ensures
    ∙ append_assoc c.args.text.now.items (flat_map (leg_text c.args.system.now) way) sum
