-- Delays by links, one link after the other.
use Rattle.std.proofs.Common.{◌≡◌, ℕ, ◌+◌, ◌*◌, ◌<◌, ◌≤◌, ◌^◌, Bool, true, false, cond, List, [], ◌∷◌, suc, length, drop, replicate, slice_index, All, sym, ap, ◌∙◌, arith}
use Rattle.std.proofs.lemmas.List.{get_or-replicate, length-replicate, drop_all}
use Rattle.mcs_system.specs.declared.part.Link.{Link}
use Rattle.mcs_system.specs.System.{System, delay_by_link, delay_between, TakesTime}
use Rattle.mcs_system.specs.stored.Delays.{AreDelays}
use Rattle.mcs_system.specs.WellFormed.{IsLink, IsWellFormed}

module _ (links : List Link) (delay : ℕ) where
  -- the delays from a core, by the links from the n-th on
  pub record AreFrom (delays : List ℕ) (maker n : ℕ) : Type 0 where
    pub room : length delays ≡ 64
    pub each : (home : ℕ) → home < 64 → slice_index delays home ≡ delay_by_link (drop n links) maker home delay

  -- the delays to a core
  pub record AreTo (delays : List ℕ) (home n : ℕ) : Type 0 where
    pub room : length delays ≡ 64
    pub each : (maker : ℕ) → maker < 64 → slice_index delays maker ≡ delay_by_link (drop n links) maker home delay

  past : (maker home core : ℕ) → core < 64 → slice_index (replicate 64 delay) core ≡ delay_by_link (drop (length links) links) maker home delay
  past maker home core l =
      get_or-replicate 64 core delay 0 l
      ∙ sym (ap (λ rest. delay_by_link rest maker home delay) (drop_all (length links) links (omega arith)))

  pub from_none : (maker : ℕ) → AreFrom (replicate 64 delay) maker (length links)
  from_none maker = record { room = length-replicate 64 delay; each = λ home l. past maker home home l }

  pub to_none : (home : ℕ) → AreTo (replicate 64 delay) home (length links)
  to_none home = record { room = length-replicate 64 delay; each = λ maker l. past maker home maker l }

-- the delays of all pairs, by the links from the n-th on
module _ (links : List Link) (delay : ℕ) where
  pub all_none : AreDelays (drop (length links) links) delay (replicate 4096 delay)
  all_none = record {
    room = length-replicate 4096 delay;
    each = λ maker home m h.
        get_or-replicate 4096 (maker * 64 + home) delay 0 (omega (arith, m, h))
        ∙ sym (ap (λ rest. delay_by_link rest maker home delay) (drop_all (length links) links (omega arith)));
  }

abbrev IsDelay : ℕ → Type 0
IsDelay delay = (1 ≤ delay) × (delay ≤ 2 ^ 20)

-- each delay lies within its limits
pub delays_within : (system : System) → IsWellFormed system → (maker home : ℕ)
    → (1 ≤ delay_between system maker home) × (delay_between system maker home ≤ 2 ^ 20)
delays_within system well maker home =
    each system.links well.links
  where
    one : (b : Bool) (here rest : ℕ) → IsDelay here → IsDelay rest → IsDelay (cond b here rest)
    one true here rest h r = h
    one false here rest h r = r

    each : (links : List Link) → All (IsLink system) links → IsDelay (delay_by_link links maker home system.delay)
    each [] all = well.limits.delay
    each (link ∷ links) all = one _ link.delay _ ((all 0 link (omega arith)).delay) (each links (λ k d within. all (suc k) d (omega arith)))

pub takes_time : (system : System) → IsWellFormed system → TakesTime system
takes_time system well maker home = (delays_within system well maker home).0
