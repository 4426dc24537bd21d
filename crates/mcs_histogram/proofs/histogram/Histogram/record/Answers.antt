use Rattle.std.proofs.Common.{◌≡◌, ◌+◌, length, sym, ap, ◌∙◌, arith}
use Rattle.std.proofs.lemmas.List.{length-set}
use Rattle.mcs_histogram.specs.Histogram.{Histogram, counted}
use Rattle.mcs_histogram.proofs.Histograms.{full, has_room, recorded, sum_more}
use Rattle.mcs_histogram.proofs.histogram.Histogram.record.Goals as goal

pub index_mut-requires : goal.index_mut-requires
index_mut-requires c =
    let inside = c.self.inside in
    let known = has_room c.args.value inside.limit c.min-value.result c.bucket.result inside.counts.items c.min-value.ensures c.bucket.ensures.number c.self.invariant.room in
    omega (arith, inside.counts.ok.0)

pub overflow_add-index_mut : goal.overflow_add-index_mut
overflow_add-index_mut c =
    let inside = c.self.inside in
    let known = has_room c.args.value inside.limit c.min-value.result c.bucket.result inside.counts.items c.min-value.ensures c.bucket.ensures.number c.self.invariant.room in
    let more = sum_more inside.counts.items c.bucket.result c.index_mut.result.now inside.count c.self.invariant.summed known c.index_mut.ensures.value in
    omega arith

pub invariant_of-self : goal.invariant_of-self
invariant_of-self c =
    let inside = c.self.inside in
    let known = has_room c.args.value inside.limit c.min-value.result c.bucket.result inside.counts.items c.min-value.ensures c.bucket.ensures.number c.self.invariant.room in
    record {
      in_range = c.self.invariant.in_range;
      room = length-set inside.counts.items c.bucket.result (c.index_mut.result.now + 1) ∙ c.self.invariant.room;
      summed = (sum_more inside.counts.items c.bucket.result c.index_mut.result.now inside.count c.self.invariant.summed known c.index_mut.ensures.value).1;
    }

pub returns-then-self-lt18446744073709551615 : goal.returns-then-self-lt18446744073709551615
returns-then-self-lt18446744073709551615 c limit values e =
    let inside = c.self.inside in
    let known = has_room c.args.value inside.limit c.min-value.result c.bucket.result inside.counts.items c.min-value.ensures c.bucket.ensures.number c.self.invariant.room in
    recorded inside.limit inside.count inside.greatest c.args.value c.min-value.result c.max-self-inside.result c.bucket.result c.index_mut.result.now limit inside.counts.items values
    (c.self.view_is ∙ e) c.if-self-lt18446744073709551615.true c.min-value.ensures c.max-self-inside.ensures c.bucket.ensures.number known c.index_mut.ensures.value

pub returns-else-self-lt18446744073709551615 : goal.returns-else-self-lt18446744073709551615
returns-else-self-lt18446744073709551615 c limit values e =
    let count : c.self.inside.count ≡ length (counted limit values) = ap (λ (h : Histogram). h.count) (c.self.view_is ∙ e) in
    e ∙ sym (full limit c.args.value values (omega arith))
