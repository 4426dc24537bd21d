-- The ticks of a way in parts.
use Rattle.std.proofs.Common.{◌≡◌, ℕ, ◌+◌, List, [], ◌∷◌, map, sum, refl, arith}
use Rattle.std.proofs.lemmas.List.Sums.{sum-map, sum_by-cons}
use Rattle.mcs_verdict.specs.Stood.{all_ticks}
use Rattle.mcs_way.specs.declared.leg.Carrier.{Carrier}
use Rattle.mcs_way.specs.declared.leg.Carrier.TheVariants as by
use Rattle.mcs_way.specs.declared.leg.Leg.{Leg}
use Rattle.mcs_way.specs.Sums.{delay_by, delay_in, held_by, held_in, stood_by, stood_in, ticks_of}
use Rattle.mcs_way.specs.laws.Ways.{all_ticks_of, IsSplit, Lead}

-- of one leg
one : (carrier : Carrier) (ticks : ℕ) → IsSplit carrier ticks → ticks ≡ held_by carrier ticks + delay_by carrier ticks + all_ticks (stood_by carrier)
one (by.Note note) ticks h = omega arith
one (by.Thread thread stood) ticks h = omega arith
one (by.Signal maker home) ticks h = omega arith

sum-cons : (f : Leg → ℕ) (leg : Leg) (legs : List Leg) → sum (map f (leg ∷ legs)) ≡ f leg + sum (map f legs)
sum-cons f leg legs = omega (arith, sum-map f (leg ∷ legs), sum-map f legs, sum_by-cons f leg legs)

pub parts-lead : (from to : ℕ) (legs : List Leg) → Lead from legs to
    → all_ticks_of legs ≡ sum (map held_in legs) + sum (map delay_in legs) + sum (map (λ leg. all_ticks (stood_in leg)) legs)
parts-lead from to [] h = refl
parts-lead from to (leg ∷ legs) h =
    omega (
      arith,
      one leg.carrier (ticks_of leg) h.2,
      parts-lead leg.to to legs h.3,
      sum-cons ticks_of leg legs,
      sum-cons held_in leg legs,
      sum-cons delay_in leg legs,
      sum-cons (λ leg. all_ticks (stood_in leg)) leg legs,
    )
