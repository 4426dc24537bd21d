-- Runs of origins, later.
use Rattle.std.proofs.Common.{◌≡◌, ℕ, zero, suc, ◌+◌, ◌-◌, ◌*◌, ◌⊎◌, inl, inr, ◌∷◌, refl, sym, ap, ◌∙◌, arith}
use Rattle.mcs_origins.specs.declared.stretch.Stretch.{Stretch}
use Rattle.mcs_origins.specs.Later.{later_set}
use Rattle.mcs_origins.specs.stored.Stretches.{run, all_of}
use Rattle.mcs_origins.proofs.Runs.{same-run}

run-later : (l s p by n : ℕ) → (l + by) - s * n ≡ (l - s * n) + by → run (l + by) s (suc n) p ≡ later_set by (run l s (suc n) p)
run-later l s p by zero e = refl
run-later l s p by (suc n) e =
    let product : s * suc n ≡ s * n + s = omega arith in
    let first : (l + by) - s ≡ (l - s) + by = omega arith in
    let next : ((l - s) + by) - s * n ≡ ((l - s) - s * n) + by = omega arith in
    ap (λ rest. record { origin = l + by; places = p } ∷ rest) (ap (λ last. run last s (suc n) p) first ∙ run-later (l - s) s p by n next)

at-once : (l s by : ℕ) → (l + by) - s * 0 ≡ (l - s * 0) + by
at-once l s by = omega arith

pub top-later : (before after : Stretch) (by more : ℕ) → before.places ≡ after.places → (more ≡ 0) ⊎ (after.step ≡ before.step) →
    after.last ≡ before.last + by → after.last - after.step * more ≡ (before.last - before.step * more) + by →
    all_of (record after { more = more }) ≡ later_set by (all_of (record before { more = more }))
top-later before after by more places step last first =
    let alone = ap (λ l. run l after.step (suc more) after.places) last ∙ ap (λ q. run (before.last + by) after.step (suc more) q) (sym places) in
    let same = same-run (before.last + by) after.step before.step before.places more step in
    alone ∙ same ∙ run-later before.last before.step before.places by more (end step)
  where
    end : (more ≡ 0) ⊎ (after.step ≡ before.step) → (before.last + by) - before.step * more ≡ (before.last - before.step * more) + by
    end (inl none) = ap (λ n. (before.last + by) - before.step * n) none ∙ at-once before.last before.step by ∙ sym (ap (λ n. (before.last - before.step * n) + by) none)
    end (inr e) = sym (ap (λ l. l - before.step * more) last) ∙ sym (ap (λ s. after.last - s * more) e) ∙ first
