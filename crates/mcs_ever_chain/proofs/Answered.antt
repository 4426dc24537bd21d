-- The latencies of a row's answers, and whether one of them is slow, do not depend on the time.
use Rattle.std.proofs.Common.{◌≡◌, ◌∙◌, ℕ, ◌+◌, ◌-◌, min, Bool, true, false, cond, List, [], ◌∷◌, ◌++◌, length, map, Option, Some, None, option_map, refl, sym, ap, ap₂, arith}
use Rattle.std.specs.Prelude.{fold, if◌then◌else◌}
use Rattle.std.proofs.lemmas.List.{length-append}
use Rattle.mcs_ticks.specs.declared.row.Row.{Row}
use Rattle.mcs_system.specs.declared.part.ChainPart.{ChainPart}
use Rattle.mcs_system.specs.System.{System}
use Rattle.mcs_verdict.specs.Misses.{is_above}
use Rattle.mcs_chain.specs.declared.finding.Finding.{Finding}
use Rattle.mcs_chain.specs.declared.finding.Finding.TheVariants.{Slow}
use Rattle.mcs_chain.specs.Answers.{earliest, latencies, origins, slow_for, slow_of}
use Rattle.mcs_chain.specs.Watch.{one_if, slow_sum}
use Rattle.mcs_ever_chain.specs.Later.{later_origins}
use Rattle.mcs_ever_chain.proofs.Turns.{total}

-- the latencies of answers for these origins
abbrev pub latencies_of : ℕ → List ℕ → List ℕ
latencies_of m answered = map (λ origin. m - origin) answered

pub latencies-steady : (by m : ℕ) (answered : List ℕ) → latencies_of (m + by) (later_origins by answered) ≡ latencies_of m answered
latencies-steady by m [] = refl
latencies-steady by m (origin ∷ answered) =
    let e : (m + by) - (origin + by) ≡ m - origin = omega arith in
    ap₂ (λ x xs. x ∷ xs) e (latencies-steady by m answered)

-- the earliest of origins that are later is later
fold-later : (by x : ℕ) (xs : List ℕ) → fold min (x + by) (later_origins by xs) ≡ fold min x xs + by
fold-later by x [] = refl
fold-later by x (y ∷ ys) =
    let e : min (x + by) (y + by) ≡ min x y + by = omega arith in
    ap (λ z. fold min z (later_origins by ys)) e ∙ fold-later by (min x y) ys

pub earliest-later : (by : ℕ) (xs : List ℕ) → earliest (later_origins by xs) ≡ option_map (λ x. x + by) (earliest xs)
earliest-later by [] = refl
earliest-later by (x ∷ xs) = ap Some (fold-later by x xs)

-- one for a slow answer
abbrev one_of : Option Finding → List ℕ
one_of None = []
one_of (Some finding) = 0 ∷ []

abbrev pub slow_ones : ℕ → ℕ → List ℕ → List ℕ
slow_ones deadline m answered = one_of (slow_of deadline m answered)

pub slow-steady : (deadline by m : ℕ) (answered : List ℕ) → slow_ones deadline (m + by) (later_origins by answered) ≡ slow_ones deadline m answered
slow-steady deadline by m answered =
    ap (λ o. one_of (slow_for deadline (m + by) o)) (earliest-later by answered) ∙ each (earliest answered)
  where
    chosen : (b : Bool) (f : Finding) → one_of (if b then Some f else None) ≡ cond b (0 ∷ []) []
    chosen true f = refl
    chosen false f = refl

    each : (o : Option ℕ) → one_of (slow_for deadline (m + by) (option_map (λ x. x + by) o)) ≡ one_of (slow_for deadline m o)
    each None = refl
    each (Some origin) =
        let e : (m + by) - (origin + by) ≡ m - origin = omega arith in
        chosen (is_above deadline ((m + by) - (origin + by))) (Slow ((m + by) - (origin + by)) deadline (origin + by))
        ∙ ap (λ latency. cond (is_above deadline latency) (0 ∷ []) []) e
        ∙ sym (chosen (is_above deadline (m - origin)) (Slow (m - origin) deadline origin))

module _ (system : System) (chain : ChainPart) where
  pub all-latencies : (past : List Row) → latencies system chain past ≡ total system chain latencies_of past
  all-latencies [] = refl
  all-latencies (r ∷ past) = ap (λ rest. latencies_of r.moment (origins system chain (r ∷ past)).answered ++ rest) (all-latencies past)

  pub all-slow : (past : List Row) → slow_sum system chain past ≡ length (total system chain (slow_ones chain.deadline) past)
  all-slow [] = refl
  all-slow (r ∷ past) =
      ap₂ (λ a b. a + b) (one (slow_of chain.deadline r.moment (origins system chain (r ∷ past)).answered)) (all-slow past)
      ∙ sym (length-append (slow_ones chain.deadline r.moment (origins system chain (r ∷ past)).answered) (total system chain (slow_ones chain.deadline) past))
    where
      one : (o : Option Finding) → one_if o ≡ length (one_of o)
      one None = refl
      one (Some finding) = refl
