use Rattle.std.proofs.Common.{◌≡◌, ℕ, ◌+◌, List, [], replicate, ap, ◌∙◌}
use Rattle.mcs_histogram.specs.Histogram.{counts_of}
use Rattle.mcs_histogram.proofs.Counts.{counts-none}
use Rattle.mcs_histogram.proofs.Histograms.{made}
use Rattle.mcs_histogram.proofs.histogram.Histogram.new.Goals as goal

pub returns : goal.returns
returns c =
    let counts : c.in_ok-vec.field-0.items ≡ counts_of c.args.limit [] =
    c.in_ok-vec.ensures.items_if_clones_equal (λ y e. e) ∙ ap (λ n. replicate (n + 1) 0) c.bucket.ensures.number ∙ counts-none c.args.limit
    in
    ap (λ (counts : List ℕ). made c.args.limit 0 0 counts) counts
