-- The laws: what the answers of a chain that recurs are up to the end of the first period they are for
-- ever.
use Rattle.std.proofs.Common.{◌≡◌, ◌∙◌, ℕ, zero, suc, ◌+◌, ◌-◌, ◌*◌, ◌<◌, ◌≤◌, Bool, true, false, not, ◌==◌, ◌&&◌, List, length, Option, Some, None, option_map, refl, sym, ap, subst, arith}
use Rattle.std.specs.Prelude.{if◌then◌else◌, nat_le, nat_lt}
use Rattle.std.proofs.lemmas.Bool.Decides.{nat_tests}
use Rattle.mcs_system.specs.declared.part.ChainPart.{ChainPart}
use Rattle.mcs_system.specs.System.{System}
use Rattle.mcs_system.specs.WellFormed.{IsWellFormed}
use Rattle.mcs_table.specs.Rounds.{greatest}
use Rattle.mcs_chain.specs.declared.finding.Finding.{Finding}
use Rattle.mcs_chain.specs.declared.finding.Finding.TheVariants.{Unanswered}
use Rattle.mcs_chain.specs.Answers.{earliest, unanswered_for, unanswered_of}
use Rattle.mcs_ever.specs.Recurs.{Shifts}
use Rattle.mcs_ever_found.specs.Recurs.{past_before}
use Rattle.mcs_ever_chain.specs.Later.{later_origins}
use Rattle.mcs_ever_chain.specs.Recurs.{ChainRecurs, origins_before}
use Rattle.mcs_ever_chain.specs.laws.Repeats.{AnswersAreAdded, GreatestIsForever, InterruptsAreAdded, IsAddedInEach, NoneIsLeft, NoneIsLonger, NoneIsSlow, SlowAreAdded, latencies_before, slow_before}
use Rattle.mcs_ever_chain.proofs.Answered.{all-slow, earliest-later, latencies-steady, latencies_of, slow-steady, slow_ones}
use Rattle.mcs_ever_chain.proofs.Counts as counts
use Rattle.mcs_ever_chain.proofs.Interrupts.{interrupts-added}
use Rattle.mcs_ever_chain.proofs.Moments.{again, left-later, more, more-latencies, new}
use Rattle.mcs_ever_chain.proofs.Turns.{total}

module _ (system : System) (chain : ChainPart) (group : ℕ → Bool) (shifts : Shifts) (from : ℕ) (well : IsWellFormed system)
    (recurs : ChainRecurs system chain group shifts from) where
  -- the latencies of the answers, moment by moment
  abbrev latencies : ℕ → List ℕ
  latencies t = latencies_before system chain t

  abbrev new_latencies : ℕ → List ℕ
  new_latencies t = new system chain well latencies_of t

  latencies-again : (t : ℕ) → from ≤ t → new_latencies (t + shifts.by) ≡ new_latencies t
  latencies-again t l = again system chain well group shifts from recurs latencies_of (latencies-steady shifts.by) (λ m. refl) t l

  pub answers-added : IsAddedInEach shifts from (λ t. length (latencies_before system chain t))
  answers-added = counts.length-added shifts from recurs.some latencies new_latencies refl (more-latencies system chain well) latencies-again

  pub greatest-forever : (t : ℕ) → from + shifts.by ≤ t → greatest (latencies_before system chain t) ≡ greatest (latencies_before system chain (from + shifts.by))
  greatest-forever = counts.greatest-forever shifts from recurs.some latencies new_latencies refl (more-latencies system chain well) latencies-again

  pub none-longer : (t : ℕ) → counts.AreAtMost (greatest (latencies_before system chain (from + shifts.by))) (latencies_before system chain t)
  none-longer = counts.none-longer shifts from recurs.some latencies new_latencies refl (more-latencies system chain well) latencies-again

  -- one for each slow answer
  abbrev ones : ℕ → List ℕ
  ones t = total system chain (slow_ones chain.deadline) (past_before system t)

  abbrev new_ones : ℕ → List ℕ
  new_ones t = new system chain well (slow_ones chain.deadline) t

  ones-again : (t : ℕ) → from ≤ t → new_ones (t + shifts.by) ≡ new_ones t
  ones-again t l = again system chain well group shifts from recurs (slow_ones chain.deadline) (slow-steady chain.deadline shifts.by) (λ m. refl) t l

  all-ones : (t : ℕ) → slow_before system chain t ≡ length (ones t)
  all-ones t = all-slow system chain (past_before system t)

  pub slow-added : IsAddedInEach shifts from (slow_before system chain)
  slow-added k =
      let count = counts.length-added shifts from recurs.some ones new_ones refl (more system chain well (slow_ones chain.deadline)) ones-again k in
      let a = all-ones (from + (k + 1) * shifts.by) in
      let b = all-ones (from + k * shifts.by) in
      let c = all-ones (from + shifts.by) in
      let e = all-ones from in
      rw (a, b, c, e) count

  pub none-slow : slow_before system chain (from + shifts.by) ≡ 0 → (t : ℕ) → slow_before system chain t ≡ 0
  none-slow none t =
      all-ones t
      ∙ counts.none-forever shifts from recurs.some ones new_ones refl (more system chain well (slow_ones chain.deadline)) ones-again
      (sym (all-ones (from + shifts.by)) ∙ none) t

-- an interrupt whose deadline has not passed is not found a period later
not-found : (b : Bool) (finding : Finding) → (if b then Some finding else None) ≡ None → b ≡ false
not-found true finding e = absurd (cc)
not-found false finding e = refl

nothing : (b : Bool) (finding : Finding) → b ≡ false → (if b then Some finding else None) ≡ None
nothing true finding e = absurd (cc)
nothing false finding e = refl

le-later : (a b by : ℕ) → nat_le a b ≡ false → nat_le (a + by) (b + by) ≡ false
le-later a b by e = grind (arith, nat_tests)

and-le-later : (c : Bool) (a b by : ℕ) → (c && nat_le a b) ≡ false → (c && nat_le (a + by) (b + by)) ≡ false
and-le-later true a b by e = le-later a b by e
and-le-later false a b by e = refl

for-later : (deadline by h : ℕ) (origin : Option ℕ) → unanswered_for deadline h origin ≡ None → unanswered_for deadline (h + by) (option_map (λ x. x + by) origin) ≡ None
for-later deadline by h None e = refl
for-later deadline by h (Some origin) e =
    let sum : origin + by + deadline ≡ origin + deadline + by = omega arith in
    nothing (not (deadline == 0) && nat_le (origin + by + deadline) (h + by)) (Unanswered deadline (origin + by))
    (ap (λ n. not (deadline == 0) && nat_le n (h + by)) sum
    ∙ and-le-later (not (deadline == 0)) (origin + deadline) h by
    (not-found (not (deadline == 0) && nat_le (origin + deadline) h) (Unanswered deadline origin) e))

of-later : (deadline by h : ℕ) (left : List ℕ) → unanswered_of deadline h left ≡ None → unanswered_of deadline (h + by) (later_origins by left) ≡ None
of-later deadline by h left e =
    ap (unanswered_for deadline (h + by)) (earliest-later by left) ∙ for-later deadline by h (earliest left) e

module _ (system : System) (chain : ChainPart) (shifts : Shifts) (from : ℕ) (some : 1 ≤ shifts.by)
    (later : (t : ℕ) → from ≤ t → (origins_before system chain (t + shifts.by)).unanswered ≡ later_origins shifts.by (origins_before system chain t).unanswered) where
  abbrev IsNone : ℕ → Type 0
  IsNone horizon = unanswered_of chain.deadline horizon (origins_before system chain (suc horizon)).unanswered ≡ None

  none-below : ((horizon : ℕ) → horizon < from + shifts.by → IsNone horizon) → (n h : ℕ) → h < n → IsNone h
  none-below first zero h l = absurd (omega (arith, l))
  none-below first (suc n) h l = by (none-below first n (h - shifts.by)) (nat_lt h (from + shifts.by)) refl
    where
      by : (h - shifts.by < n → IsNone (h - shifts.by)) → (b : Bool) → nat_lt h (from + shifts.by) ≡ b → IsNone h
      by i true e = first h (grind (arith, nat_tests))
      by i false e =
          let m : from + shifts.by ≤ h = grind (arith, nat_tests) in
          let f : h - shifts.by + shifts.by ≡ h = omega (arith, m) in
          let g : suc (h - shifts.by) + shifts.by ≡ suc (h - shifts.by + shifts.by) = omega arith in
          let left = (origins_before system chain (suc (h - shifts.by))).unanswered in
          let before = i (omega (arith, l, m, some)) in
          let now : IsNone (h - shifts.by + shifts.by) =
          ap (λ t. unanswered_of chain.deadline (h - shifts.by + shifts.by) (origins_before system chain t).unanswered) (sym g)
          ∙ ap (unanswered_of chain.deadline (h - shifts.by + shifts.by)) (later (suc (h - shifts.by)) (omega (arith, m)))
          ∙ of-later chain.deadline shifts.by (h - shifts.by) left before
          in
          subst IsNone f now

  pub none-left : ((horizon : ℕ) → horizon < from + shifts.by → IsNone horizon) → (horizon : ℕ) → IsNone horizon
  none-left first horizon = none-below first (suc horizon) horizon (omega arith)

pub answers-are-added : AnswersAreAdded
answers-are-added system chain group shifts from well known recurs = answers-added system chain group shifts from well recurs

pub slow-are-added : SlowAreAdded
slow-are-added system chain group shifts from well known recurs = slow-added system chain group shifts from well recurs

pub interrupts-are-added : InterruptsAreAdded
interrupts-are-added system chain group shifts from well known recurs here = interrupts-added chain system group here shifts from well recurs

pub greatest-is-forever : GreatestIsForever
greatest-is-forever system chain group shifts from well known recurs horizon l =
    greatest-forever system chain group shifts from well recurs (suc horizon) (omega (arith, l))

pub none-is-longer : NoneIsLonger
none-is-longer system chain group shifts from well known recurs horizon = none-longer system chain group shifts from well recurs (suc horizon)

pub none-is-slow : NoneIsSlow
none-is-slow system chain group shifts from well known recurs none horizon =
    none-slow system chain group shifts from well recurs none (suc horizon)

pub none-is-left : NoneIsLeft
none-is-left system chain group shifts from well known h first horizon =
    none-left system chain shifts from h.recurs.some (left-later system chain well group shifts from h) first horizon
