-- A core that is not refused may take its turn.
use Rattle.std.proofs.Common.{◌≡◌, ◌≢◌, ℕ, ◌+◌, ◌<◌, ◌≤◌, Bool, true, false, refl, arith}
use Rattle.std.specs.Prelude.{nat_le, slice_index}
use Rattle.std.proofs.lemmas.Bool.Decides.{nat_tests}
use Rattle.mcs_system.specs.System.{delay_between}
use Rattle.mcs_window.specs.Progress.{Progress, IsBehind, clock_of}
use Rattle.mcs_stretch.specs.Stretch.{NothingArrivesBefore}
use Rattle.mcs_stretch.proofs.Reaches.{by-delays}

-- no other core is behind
pub none-behind : (progress : Progress) (c to : ℕ) → ((b : ℕ) → IsBehind progress c b → ⊥) → to ≡ clock_of progress c + 1 → NothingArrivesBefore progress.system c to progress.clocks
none-behind progress c to none is = by-delays progress.system c to progress.clocks (λ b known other. far b known other (nat_le (clock_of progress b + delay_between progress.system b c) (clock_of progress c)) refl)
  where
    far : (b : ℕ) → b < progress.system.cores → b ≢ c → (u : Bool) → nat_le (clock_of progress b + delay_between progress.system b c) (clock_of progress c) ≡ u → to ≤ slice_index progress.clocks b + delay_between progress.system b c
    far b known other true e =
        let reaches : clock_of progress b + delay_between progress.system b c ≤ clock_of progress c = grind (arith, nat_tests) in
        absurd (none b (record { known = known; other = other; reaches = reaches }))
    far b known other false e =
        let later : clock_of progress c < clock_of progress b + delay_between progress.system b c = grind (arith, nat_tests) in
        omega arith
