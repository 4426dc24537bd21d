-- A turn leaves fewer turns to be taken, and what a sink was given goes on.
use Rattle.std.proofs.Common.{◌≡◌, ℕ, suc, ◌+◌, ◌-◌, ◌*◌, ◌<◌, ◌≤◌, ◌⊎◌, inl, inr, [], ◌++◌, sym, ap, ◌∙◌, append_assoc, append-nil, Bool, subst, arith}
use Rattle.std.proofs.Math.Nat.{suc-mul, zero-mul, mul-le-mul_right}
use Rattle.mcs_ticks.specs.declared.row.Row.{Row}
use Rattle.mcs_ticks.proofs.Givens.{given-none, given-append}
use Rattle.mcs_step.specs.Steps.{Steps, IsOver, IsToldBetween, places_left, rows_so_far}

-- more moments of n places each are n more places
times-more : (n few many : ℕ) → few < many → few * n + n ≤ many * n
times-more n few many l =
    let more : suc few * n ≤ many * n = mul-le-mul_right n (omega arith) in
    let e = suc-mul few n in
    omega (arith, more, e)

fewer-by : (n now was before core : ℕ) → now + n ≤ was → before < n → core ≤ now → now - core < was - before
fewer-by n now was before core l k m = omega arith

fewer-within : (n now before core : ℕ) → n ≤ now → core < n → before < core → now - core < now - before
fewer-within n now before core h m l = omega arith

pub places-fewer : (n horizon old before moment core : ℕ) → (old < moment) ⊎ ((old ≡ moment) × (before < core)) → before < n → core < n → moment ≤ horizon →
    (horizon + 1 - moment) * n - core < (horizon + 1 - old) * n - before
places-fewer n horizon old before moment core ahead few known in_time =
    elim ahead [
      | inl l ↦ fewer-by n ((horizon + 1 - moment) * n) ((horizon + 1 - old) * n) before core (times-more n (horizon + 1 - moment) (horizon + 1 - old) (omega arith)) few (let all = full in omega (arith, all))
      | inr p ↦ same p.0 (fewer-within n ((horizon + 1 - moment) * n) before core full known p.1)
    ]
  where
    full : n ≤ (horizon + 1 - moment) * n
    full = let more = times-more n 0 (horizon + 1 - moment) (omega arith) in omega (arith, more)

    same : old ≡ moment → (horizon + 1 - moment) * n - core < (horizon + 1 - moment) * n - before → (horizon + 1 - moment) * n - core < (horizon + 1 - old) * n - before
    same e h = rw e h

-- at the end no place is left, and before it some are
pub places-none : (steps : Steps) → IsOver steps → places_left steps ≡ 0
places-none steps over =
    let none : steps.horizon + 1 - steps.moment ≡ 0 = (let e = over.moment_is in omega arith) in
    rw none (let e = zero-mul (steps.system.cores + 1) in omega (arith, e))

pub places-some : (steps : Steps) → steps.moment ≤ steps.horizon → steps.core ≤ steps.system.cores → 0 < places_left steps
places-some steps in_time few =
    let more = times-more (steps.system.cores + 1) 0 (steps.horizon + 1 - steps.moment) (omega arith) in
    omega (arith, more)

-- some are fewer than at the start, if the last step left fewer than there were before it
module _ (start before after : Steps) (so_far : (before ≡ start) ⊎ (places_left before < places_left start)) where
  pub less-since : places_left after < places_left before → places_left after < places_left start
  less-since less = elim so_far [
    | inl e ↦ subst (λ (s : Steps). places_left after < places_left s) e less
    | inr l ↦ omega (arith, less, l)
  ]

  pub ends-since : IsOver before ⊎ (places_left after < places_left before) → IsOver after → IsOver start ⊎ (places_left after < places_left start)
  ends-since (inr less) over = inr (less-since less)
  ends-since (inl was) over = elim so_far [
    | inl e ↦ inl (subst IsOver e was)
    | inr l ↦ (let none = places-none after over in inr (omega (arith, l, none)))
  ]

module _ {S : Type 0} (takes : S → Row → Bool → S → Type 0) where
  pub told-none : (before after : Steps) (s : S) → rows_so_far after ≡ rows_so_far before → IsToldBetween takes before after s s
  told-none before after s e = ([], append-nil (rows_so_far before) ∙ sym e, given-none takes s)

  pub told-more : (before between after : Steps) (s m t : S) → IsToldBetween takes before between s m → IsToldBetween takes between after m t → IsToldBetween takes before after s t
  told-more before between after s m t (rows, e, g) (more, f, h) = (
    rows ++ more,
    sym (append_assoc (rows_so_far before) rows more) ∙ ap (λ xs. xs ++ more) e ∙ f,
    given-append takes s m t rows more g h,
  )
