-- The answer for the i-th origin precedes those for the later ones.
use Rattle.std.proofs.Common.{◌≡◌, ℕ, suc, ◌-◌, ◌<◌, ◌∷◌, ◌++◌, length, map, drop, ap, ◌∙◌, arith}
use Rattle.mcs_chain.specs.Figures.{tally_with}
use Rattle.mcs_chain.proofs.Counts.{one-first}
use Rattle.mcs_chain.proofs.tally.Tally.answer_all.Goals as goal

pub loop-i-preserved : goal.loop-i-preserved
loop-i-preserved c = λ horizon started latencies e.
    let moment = c.args.moment in
    let origins = c.args.origins.now in
    let i = c.loop-i.i in
    let origin = c.index-origins-i.result in
    let later = map (λ (o : ℕ). moment - o) (drop i origins) ++ latencies in
    let within : i - 1 < length origins = omega (arith, c.loop-i.auto.i, c.loop-i-test.true) in
    let next : suc (i - 1) ≡ i = omega (arith, c.loop-i-test.true) in
    let latency : c.saturating_sub.result ≡ moment - origin =
    c.saturating_sub.ensures ∙ ap (λ m. m - c.get-in-loop-i.result) c.get.ensures.value ∙ ap (λ o. moment - o) c.get-in-loop-i.ensures.value
    in
    c.answer.ensures horizon started later (c.loop-i.invariant horizon started latencies e)
    ∙ ap (λ n. tally_with horizon started (n ∷ later)) latency
    ∙ ap (tally_with horizon started) (one-first (λ o. moment - o) origins latencies (i - 1) i origin within next c.index-origins-i.is)

pub returns : goal.returns
returns c = λ horizon started latencies e.
    let none : c.loop-i.i ≡ 0 = omega (arith, c.loop-i-test.false) in
    c.loop-i.invariant horizon started latencies e
    ∙ ap (λ i. tally_with horizon started (map (λ (o : ℕ). c.args.moment - o) (drop i c.args.origins.now) ++ latencies)) none
