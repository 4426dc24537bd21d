-- One core moves to a later moment, and the others stay.
use Rattle.std.proofs.Common.{◌≡◌, ◌≢◌, ℕ, ◌-◌, ◌<◌, ◌≤◌, List, [], length, set, inl, inr, refl, sym, ap, ◌∙◌, arith}
use Rattle.std.specs.Prelude.{slice_index}
use Rattle.std.proofs.lemmas.Bool.Decides.{eqb_tells}
use Rattle.std.proofs.lemmas.List.{get_or-set_same, get_or-set_other}
use Rattle.mcs_system.specs.System.{System, TakesTime}
use Rattle.mcs_system.specs.WellFormed.{IsWellFormed}
use Rattle.mcs_stretch.specs.Inbox.{signals_between, Rises}
use Rattle.mcs_stretch.proofs.Deliveries.{signals_from, flat_map-one}
use Rattle.mcs_system.proofs.Linked.{delays_within}

-- signals of a system that is well formed take time
pub takes_time : (system : System) → IsWellFormed system → TakesTime system
takes_time system well maker home = (delays_within system well maker home).0

module _ (system : System) (front : List ℕ) (c to : ℕ) (known : c < length front) where
  -- the clocks then
  abbrev later : List ℕ
  later = set front c to

  pub later_same : slice_index later c ≡ to
  later_same = get_or-set_same front c to 0 known

  pub later_other : (b : ℕ) → b ≢ c → slice_index later b ≡ slice_index front b
  later_other b h = get_or-set_other front c b to 0 h

  pub rises : slice_index front c ≤ to → Rises system front later
  rises l b h = elim (eqb_tells b c) [
    | inl p ↦ (let e : slice_index later b ≡ to = ap (slice_index later) p.1 ∙ later_same in let f : slice_index front b ≡ slice_index front c = ap (slice_index front) p.1 in omega arith)
    | inr p ↦ (let e = later_other b p.1 in omega arith)
  ]

  none_between : (b n m : ℕ) → n ≡ m → signals_between system b m n ≡ []
  none_between b n m e = let f : n - m ≡ 0 = omega arith in rw f refl

  -- the signals made meanwhile are the core's own
  pub signals_own : c < system.cores → signals_between system c (slice_index front c) to ≡ signals_from system front later
  signals_own h =
      ap (λ past. signals_between system c (slice_index front c) past) (sym later_same)
      ∙ sym (flat_map-one (λ b. signals_between system b (slice_index front b) (slice_index later b)) c system.cores 0 (omega arith) (omega arith) (λ b k. none_between b (slice_index later b) (slice_index front b) (later_other b k)))
