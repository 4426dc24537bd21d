use Rattle.std.proofs.Common.{◌≡◌, ◌+◌, length, sum, take, Some, ap, ◌∙◌, arith}
use Rattle.mcs_histogram.proofs.Buckets.{number-lt}
use Rattle.mcs_histogram.proofs.Histograms.{told}
use Rattle.mcs_histogram.proofs.histogram.Histogram.percentile.Goals as goal

pub bucket_end-requires : goal.bucket_end-requires
bucket_end-requires c =
    omega (arith, number-lt c.self.inside.limit c.self.invariant.in_range, c.self.invariant.room, ap length c.as_slice.ensures.value)

pub returns-clause-value : goal.returns-clause-value
returns-clause-value c limit values e =
    let inside = c.self.inside in
    let counts = inside.counts.items in
    let number = c.bucket_at-number.result in
    let same : c.as_slice.result.now ≡ counts = c.as_slice.ensures.value in
    let long : length c.as_slice.result.now ≡ length counts = ap length same in
    let before : sum (take number c.as_slice.result.now) ≡ sum (take number counts) = ap (λ xs. sum (take number xs)) same in
    let within : sum (take (number + 1) c.as_slice.result.now) ≡ sum (take (number + 1) counts) = ap (λ xs. sum (take (number + 1) xs)) same in
    ap Some c.min.ensures
    ∙ told c.args.percent number c.rank.result c.bucket_end.result inside.greatest inside.limit inside.count counts limit values (c.self.view_is ∙ e) c.rank.ensures
    (omega (arith, c.bucket_at-number.ensures.known)) (omega (arith, c.bucket_at-number.ensures.before)) (omega (arith, c.bucket_at-number.ensures.within)) c.bucket_end.ensures
