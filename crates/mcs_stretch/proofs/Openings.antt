-- At the beginning each core stands as the clock has it.
use Rattle.std.proofs.Common.{◌≡◌, ℕ, zero, suc, ◌<◌, List, [], ◌∷◌, replicate, inl, refl, sym, ap, ◌∙◌, arith}
use Rattle.std.specs.Prelude.{slice_index}
use Rattle.mcs_mail.specs.declared.mail.Mail.{Mail}
use Rattle.mcs_mail.specs.Box.{IsIn}
use Rattle.mcs_system.specs.System.{System}
use Rattle.mcs_core.specs.State.{State, Fits, opening_state}
use Rattle.mcs_core.proofs.Clock.{core_shown-first}
use Rattle.mcs_stretch.specs.Inbox.{inbox}
use Rattle.mcs_stretch.specs.Stretch.{StandsAt}
use Rattle.mcs_stretch.proofs.Inboxes.{from_inbox}

none_in : (mails : List Mail) → ((mail : Mail) → IsIn mail mails → ⊥) → mails ≡ []
none_in [] h = refl
none_in (mail ∷ mails) h = absurd (h mail (inl refl))

module _ (system : System) where
  pub opening_stands : (c : ℕ) (state : State) → c < system.cores → state ≡ opening_state system c → Fits system state → StandsAt system c 0 state
  opening_stands c state l e fits =
      record {
        number_is = ap (λ (s : State). s.number) e;
        clock_is = ap (λ (s : State). s.clock) e;
        core_is = ap (λ (s : State). s.core) e ∙ sym (core_shown-first system c l);
        whole = ap (λ (s : State). s.failed) e;
        fits = fits;
      }

  -- no signal is made before time 0
  pub inbox-opening : (c from : ℕ) (front : List ℕ) → ((b : ℕ) → b < system.cores → slice_index front b ≡ 0) → inbox system c from front ≡ []
  inbox-opening c from front zeros =
      none_in (inbox system c from front) (λ mail k.
      let made = (from_inbox system c front from mail k).0 in
      let never = zeros made.maker made.known in
      omega (arith, made.before))

pub zero_at : (n c : ℕ) → slice_index (replicate n 0) c ≡ 0
zero_at zero c = refl
zero_at (suc n) zero = refl
zero_at (suc n) (suc c) = zero_at n c
