-- At the beginning all cores are in step.
use Rattle.std.proofs.Common.{◌≡◌, ◌≢◌, zero, suc, ℕ, ◌+◌, ◌-◌, ◌<◌, ◌≤◌, List, [], length, replicate, set, inl, inr, refl, sym, ap, ◌∙◌, subst, arith}
use Rattle.std.specs.Prelude.{slice_index}
use Rattle.std.proofs.lemmas.Bool.Decides.{eqb_tells}
use Rattle.std.proofs.lemmas.List.{get_or-set_same, get_or-set_other, length-set, length-replicate}
use Rattle.mcs_mail.specs.declared.mail.Mail.{Mail}
use Rattle.mcs_system.specs.System.{System}
use Rattle.mcs_core.specs.Clock.{world, core_at}
use Rattle.mcs_core.specs.Quiet.{AreQuiet}
use Rattle.mcs_core.specs.State.{State, Fits, opening_state}
use Rattle.mcs_stretch.specs.Stretch.{StandsAt}
use Rattle.mcs_stretch.proofs.Openings.{zero_at, opening_stands, inbox-opening}
use Rattle.mcs_window.specs.stored.Opening.{AreOpening, AreEmptyBoxes}
use Rattle.mcs_step.specs.stored.Cores.{Cores, AreInStep, IsBusyAt, IsQuietTo}

-- the next busy times of the cores below this number, before their first turns
pub record AreFirstQuiet (system : System) (horizon many : ℕ) (next : List ℕ) : Type 0 where
  pub long : length next ≡ 64
  pub quiet : (c : ℕ) → c < many → AreQuiet system c 0 [] (core_at system (world system 0) c) (slice_index next c - 0)
  pub busy : (c : ℕ) → c < many → slice_index next c ≤ horizon → ¬ AreQuiet system c 0 [] (core_at system (world system 0) c) (slice_index next c + 1 - 0)
  pub ends : (c : ℕ) → c < many → slice_index next c ≤ horizon + 1
  pub rest : (c : ℕ) → many ≤ c → c < 64 → slice_index next c ≡ horizon + 1

pub get_or-replicate : (n c t : ℕ) → c < n → slice_index (replicate n t) c ≡ t
get_or-replicate zero c t l = absurd (omega arith)
get_or-replicate (suc n) zero t l = refl
get_or-replicate (suc n) (suc c) t l = get_or-replicate n c t (omega arith)

pub first-quiet : (system : System) (horizon moment : ℕ) (next : List ℕ) → next ≡ replicate 64 moment → moment ≡ horizon + 1 → AreFirstQuiet system horizon 0 next
first-quiet system horizon moment next e end =
    record { long = ap length e ∙ length-replicate 64 moment; quiet = λ c l. absurd (omega arith); busy = λ c l. absurd (omega arith); ends = λ c l. absurd (omega arith); rest = λ c l k. ap (λ xs. slice_index xs c) e ∙ get_or-replicate 64 c moment k ∙ end }

module _ (system : System) (horizon many : ℕ) (next : List ℕ) (below : AreFirstQuiet system horizon many next) (known : many < system.cores) (few : many < 64)
    (state : State) (is : state ≡ opening_state system many) (fits : Fits system state) (box : List Mail) (empty : box ≡ []) (moment : ℕ) (quiet : IsQuietTo system state box moment) (busy : moment ≤ horizon → IsBusyAt system state box moment) (early : moment ≤ horizon + 1) where
  stands : StandsAt system many 0 state
  stands = opening_stands system many state known is fits

  own-busy : moment ≤ horizon → ¬ AreQuiet system many 0 [] (core_at system (world system 0) many) (moment + 1 - 0)
  own-busy l = same _ _ _ _ _ _ stands.number_is stands.clock_is empty (busy l (core_at system (world system 0) many) stands.core_is)
    where
      same : (n c u t : ℕ) (ms ms' : List Mail) → n ≡ c → u ≡ t → ms ≡ ms' → ¬ AreQuiet system n u ms (core_at system (world system 0) many) (moment + 1 - u) →
          ¬ AreQuiet system c t ms' (core_at system (world system 0) many) (moment + 1 - t)
      same n c u t ms ms' e f g h = rw (sym e, sym f, sym g) h

  own-quiet : AreQuiet system many 0 [] (core_at system (world system 0) many) (moment - 0)
  own-quiet = same _ _ _ _ _ _ stands.number_is stands.clock_is empty (quiet (core_at system (world system 0) many) stands.core_is)
    where
      same : (n c u t : ℕ) (ms ms' : List Mail) → n ≡ c → u ≡ t → ms ≡ ms' → AreQuiet system n u ms (core_at system (world system 0) many) (moment - u) →
          AreQuiet system c t ms' (core_at system (world system 0) many) (moment - t)
      same n c u t ms ms' e f g h = rw (sym e, sym f, sym g) h

  own-next : slice_index (set next many moment) many ≡ moment
  own-next = get_or-set_same next many moment 0 (let l = below.long in omega arith)

  pub quiet-more : AreFirstQuiet system horizon (many + 1) (set next many moment)
  quiet-more =
      record {
        long = length-set next many moment ∙ below.long;
        quiet = λ c l. elim (eqb_tells c many) [
          | inl e ↦ subst (λ d. AreQuiet system d 0 [] (core_at system (world system 0) d) (slice_index (set next many moment) d - 0)) (sym e.1)
              (subst (λ t. AreQuiet system many 0 [] (core_at system (world system 0) many) (t - 0)) (sym own-next) own-quiet)
          | inr e ↦ (let apart = e.1 in subst (λ t. AreQuiet system c 0 [] (core_at system (world system 0) c) (t - 0)) (sym (get_or-set_other next many c moment 0 apart)) (below.quiet c (omega arith)))
        ];
        busy = λ c l. elim (eqb_tells c many) [
          | inl e ↦ subst (λ d. slice_index (set next many moment) d ≤ horizon → ¬ AreQuiet system d 0 [] (core_at system (world system 0) d) (slice_index (set next many moment) d + 1 - 0)) (sym e.1)
              (subst (λ t. t ≤ horizon → ¬ AreQuiet system many 0 [] (core_at system (world system 0) many) (t + 1 - 0)) (sym own-next) own-busy)
          | inr e ↦ (let apart = e.1 in subst (λ t. t ≤ horizon → ¬ AreQuiet system c 0 [] (core_at system (world system 0) c) (t + 1 - 0)) (sym (get_or-set_other next many c moment 0 apart)) (below.busy c (omega arith)))
        ];
        ends = λ c l. elim (eqb_tells c many) [
          | inl e ↦ subst (λ d. slice_index (set next many moment) d ≤ horizon + 1) (sym e.1) (let own = own-next in omega arith)
          | inr e ↦ (let apart = e.1 in let other = get_or-set_other next many c moment 0 apart in let end = below.ends c (omega arith) in omega arith)
        ];
        rest = λ c l k. (let apart : c ≢ many = omega arith in get_or-set_other next many c moment 0 apart ∙ below.rest c (omega arith) k);
      }

pub opened : (system : System) (horizon : ℕ) (cores : Cores) → system.cores ≤ 64 → cores.clocks ≡ replicate system.cores 0 → AreOpening system system.cores cores.states →
    AreEmptyBoxes system.cores cores.boxes → AreFirstQuiet system horizon system.cores cores.next → AreInStep system horizon 0 0 cores
opened system horizon cores few clocks_are states boxes next =
    record {
      clocks_of = ap length clocks_are ∙ length-replicate system.cores 0;
      states_of = states.many_are;
      boxes_of = boxes.many_are;
      next_of = next.long;
      few = few;
      known = omega arith;
      in_time = omega arith;
      over = λ e. refl;
      here = λ c x y l. record {
        reached = λ b m z _ _ _ _. let e = clock c l in omega arith;
        state_is = rw (clock c l) (opening_stands system c _ l (states.each c x l) (states.fit c x l));
        box_is = boxes.each c y l ∙ sym (inbox-opening system c (slice_index cores.clocks c) cores.clocks clock);
      };
      quiet = λ c y l. rw (clock c l, boxes.each c y l) (next.quiet c l);
      busy = λ c y l. rw (clock c l, boxes.each c y l) (next.busy c l);
      ends = next.ends;
      rest = next.rest;
      place = record {
        done = λ c l. absurd (omega arith);
        left = λ c _ l. (let e = clock c l in omega arith, omega arith);
      };
    }
  where
    clock : (c : ℕ) → c < system.cores → slice_index cores.clocks c ≡ 0
    clock c l = ap (λ xs. slice_index xs c) clocks_are ∙ zero_at system.cores c
