-- Sets that are joined.
use Rattle.std.proofs.Common.{◌≡◌, ℕ, zero, suc, ◌-◌, ◌*◌, ◌<◌, ◌≤◌, true, false, List, [], ◌∷◌, ◌++◌, refl, ap, ◌∙◌, arith}
use Rattle.std.specs.Prelude.{nat_lt, bit_or}
use Rattle.std.proofs.lemmas.Bool.Decides.{nat_tests}
use Rattle.mcs_origins.specs.declared.mark.Mark.{Mark}
use Rattle.mcs_origins.specs.Sets.{both, join}
use Rattle.mcs_origins.specs.stored.Stretches.{run}

pub join-none : (set : List Mark) → join set [] ≡ set
join-none [] = refl
join-none (a ∷ set) = ap (λ rest. a ∷ rest) (join-none set)

is-less : (a b : ℕ) → a < b → nat_lt a b ≡ true
is-less a b h = grind (arith, nat_tests)

is-not-less : (a b : ℕ) → b ≤ a → nat_lt a b ≡ false
is-not-less a b h = grind (arith, nat_tests)

join-first : (a b : Mark) (set others : List Mark) → b.origin < a.origin → join (a ∷ set) (b ∷ others) ≡ a ∷ join set (b ∷ others)
join-first a b set others h = rw (is-less b.origin a.origin h) refl

join-second : (a b : Mark) (set others : List Mark) → a.origin < b.origin → join (a ∷ set) (b ∷ others) ≡ b ∷ join (a ∷ set) others
join-second a b set others h =
    let not : a.origin ≤ b.origin = omega arith in
    rw (is-not-less b.origin a.origin not, is-less a.origin b.origin h) refl

join-same : (a b : Mark) (set others : List Mark) → a.origin ≡ b.origin → join (a ∷ set) (b ∷ others) ≡ both a b ∷ join set others
join-same a b set others e =
    let not : a.origin ≤ b.origin = omega arith in
    let nor : b.origin ≤ a.origin = omega arith in
    rw (is-not-less b.origin a.origin not, is-not-less a.origin b.origin nor) refl

-- a run of the set that is later than the others
pub join-set-run : (l s p n : ℕ) (set : List Mark) (b : Mark) (others : List Mark) → b.origin < l - s * n →
    join (run l s (suc n) p ++ set) (b ∷ others) ≡ run l s (suc n) p ++ join set (b ∷ others)
join-set-run l s p zero set b others h =
    let now : b.origin < l = omega arith in
    join-first (record { origin = l; places = p }) b set others now
join-set-run l s p (suc n) set b others h =
    let now : b.origin < l = omega arith in
    let next : b.origin < (l - s) - s * n = omega arith in
    join-first (record { origin = l; places = p }) b (run (l - s) s (suc n) p ++ set) others now
    ∙ ap (λ rest. record { origin = l; places = p } ∷ rest) (join-set-run (l - s) s p n set b others next)

-- a run of the others that is later than the set
pub join-others-run : (l s p n : ℕ) (a : Mark) (set others : List Mark) → a.origin < l - s * n →
    join (a ∷ set) (run l s (suc n) p ++ others) ≡ run l s (suc n) p ++ join (a ∷ set) others
join-others-run l s p zero a set others h =
    let now : a.origin < l = omega arith in
    join-second a (record { origin = l; places = p }) set others now
join-others-run l s p (suc n) a set others h =
    let now : a.origin < l = omega arith in
    let next : a.origin < (l - s) - s * n = omega arith in
    join-second a (record { origin = l; places = p }) set (run (l - s) s (suc n) p ++ others) now
    ∙ ap (λ rest. record { origin = l; places = p } ∷ rest) (join-others-run (l - s) s p n a set others next)

-- a run of both
pub join-both-run : (l s p q n : ℕ) (set others : List Mark) → join (run l s n p ++ set) (run l s n q ++ others) ≡ run l s n (bit_or p q) ++ join set others
join-both-run l s p q zero set others = refl
join-both-run l s p q (suc n) set others =
    join-same (record { origin = l; places = p }) (record { origin = l; places = q }) (run (l - s) s n p ++ set) (run (l - s) s n q ++ others) refl
    ∙ ap (λ rest. record { origin = l; places = bit_or p q } ∷ rest) (join-both-run (l - s) s p q n set others)
