-- The end of a set, when a priority enters the set or leaves it.
use Rattle.std.proofs.Common.{◌≡◌, ℕ, ◌+◌, ◌-◌, ◌*◌, ◌/◌, ◌^◌, ◌<◌, ◌≤◌, ◌==◌, if◌then◌else◌, true, false, List, Option, Some, None, get_or, ◌∙◌, inl, inr, arith}
use Rattle.std.specs.Prelude.{max}
use Rattle.std.proofs.lemmas.Bool.{cases_lt, ne_eqb}
use Rattle.std.proofs.lemmas.Bool.Decides.{nat_tests}
use Rattle.mcs_ready.specs.stored.Priorities.{has, end_behind, IsEnd, IsGreatest}
use Rattle.mcs_ready.proofs.Marks.{has-highest, has_above}

-- a set ends just after its maximum priority, and its end gives the maximum
pub IsEnd-behind : (words : List ℕ) (g : Option ℕ) → end_behind g ≤ 256 → IsGreatest words g → IsEnd words (end_behind g)
IsEnd-behind words None few none = (few, λ q _. none q, λ above. absurd (omega (arith, above)))
IsEnd-behind words (Some g) few found =
    let it : g + 1 - 1 ≡ g = omega arith in
    (few, λ q past. found.1 q (omega arith), λ _. rw it found.0)

module _ (words words' : List ℕ) (p : ℕ) where
  -- one enters
  pub IsEnd-set : (e : ℕ) → IsEnd words e → p < 256 → ((q : ℕ) → has words' q ≡ (if q == p then true else has words q)) → IsEnd words' (max e (p + 1))
  IsEnd-set e end below is = (
    omega (arith, end.0),
    λ q past. is q ∙ rw (ne_eqb q p (omega arith)) (end.1 q (omega arith)),
    λ some. grind (arith, nat_tests, is (max e (p + 1) - 1), end.2),
  )

  -- the greatest one leaves, and its word still has one: the highest of that word is the greatest
  pub greatest-in_word : (k : ℕ) → IsGreatest words (Some p) → ((q : ℕ) → has words' q ≡ (if q == p then false else has words q)) →
      k < 64 → 2 ^ k ≤ get_or words' (p / 64) 0 → get_or words' (p / 64) 0 < 2 * 2 ^ k → IsGreatest words' (Some (p / 64 * 64 + k))
  greatest-in_word k found is below low high = (
    has-highest words' (p / 64) k below low high,
    λ q above. elim (cases_lt q (p / 64 * 64 + 64)) [
      | inl within ↦ has_above words' (p / 64) k q high above within
      | inr past ↦ is q ∙ rw (ne_eqb q p (omega arith)) (found.1 q (omega arith))
    ],
  )
