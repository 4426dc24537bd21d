use Rattle.std.proofs.Common.{◌≡◌, ℕ, ◌+◌, ◌-◌, ◌*◌, ◌/◌, ◌%◌, ◌^◌, ◌<◌, ◌≤◌, ap, ◌∙◌, arith}
use Rattle.std.proofs.lemmas.Nat.{pow_pos}
use Rattle.mcs_histogram.specs.Buckets.{doublings, width}
use Rattle.mcs_histogram.proofs.Buckets.{steps, end_found, width_found, end_fits, end_computed}
use Rattle.mcs_histogram.proofs.bucket.bucket_end.Goals as goal

fits : (d number : ℕ) → d ≡ number / 64 - 1 → number < 3776
    → (0 < 1 * 2 ^ d % 2 ^ 64) × ((number - 64 * d) * (1 * 2 ^ d % 2 ^ 64) + (1 * 2 ^ d % 2 ^ 64) ≤ 2 ^ 64)
fits d number e h =
    let same : 1 * 2 ^ d % 2 ^ 64 ≡ 2 ^ d = width_found d (omega arith) in
    let pos : 0 < 2 ^ d = pow_pos d in
    (omega arith, end_fits d (number - 64 * d) (1 * 2 ^ d % 2 ^ 64) same (omega arith) (omega arith))

pub overflow_mul-result : goal.overflow_mul-result
overflow_mul-result c =
    let fit = fits c.saturating_sub-doublings.result c.args.number c.saturating_sub-doublings.ensures c.requires in
    omega arith

pub overflow_add-result : goal.overflow_add-result
overflow_add-result c =
    let fit = fits c.saturating_sub-doublings.result c.args.number c.saturating_sub-doublings.ensures c.requires in
    omega arith

pub returns : goal.returns
returns c value e =
    let d = c.saturating_sub-doublings.result in
    let number = c.args.number in
    let found = end_found value number (doublings value) (value / width value) (steps value) e c.requires in
    let same : d ≡ doublings value = c.saturating_sub-doublings.ensures ∙ found.0 in
    let below : number - 64 * d ≡ value / width value = ap (λ d. number - 64 * d) c.saturating_sub-doublings.ensures ∙ found.1 in
    end_computed (doublings value) (value / width value) (number - 64 * d) (1 * 2 ^ d % 2 ^ 64) below
    (width_found d (omega (arith, c.requires)) ∙ ap (λ d. 2 ^ d) same)
