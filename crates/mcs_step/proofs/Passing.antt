-- Idle time passes before the first turn at a moment, from the cores as they are kept.
use Rattle.std.proofs.Common.{◌≡◌, ℕ, ◌+◌, ◌<◌, ◌≤◌, Bool, true, false, List, length, map, max, replicate, refl, sym, ap, ◌∙◌, subst, arith}
use Rattle.std.specs.Prelude.{nat_lt, slice_index, slice_index_or}
use Rattle.std.specs.Arc.{arc_value}
use Rattle.std.specs.Vec.{with_items}
use Rattle.std.proofs.lemmas.Bool.Decides.{nat_tests}
use Rattle.std.proofs.lemmas.List.{length-map, with_items_is}
use Rattle.mcs_system.specs.System.{System}
use Rattle.mcs_core.specs.State.{State}
use Rattle.mcs_stretch.specs.Idle.{AreReached, AreIdle, IsIdleUntil}
use Rattle.mcs_stretch.specs.Stretch.{StandsAt}
use Rattle.mcs_window.specs.stored.Cores.{AreAt}
use Rattle.mcs_step.specs.declared.in_step.InStep.TheInside.{Inside}
use Rattle.mcs_step.specs.Steps.{Steps, rows_before}
use Rattle.mcs_step.specs.stored.Cores.{AreInStep, IsKept, cores_of, steps_of}
use Rattle.mcs_step.proofs.Moved.{first-in_time, over-moved, over-rows}
use Rattle.mcs_step.proofs.Settled as settled
use Rattle.mcs_step.proofs.Still.{no-box, here-at}

module _ (a : Inside) (kept : IsKept a) (going : a.failed ≡ false) where
  abbrev system : System
  system = arc_value a.system

  -- the state of a core at its clock
  pub state-here : (core : ℕ) (state : State) → core < system.cores → state ≡ slice_index_or a.states.items core state → StandsAt system core (slice_index a.clocks.items core) state
  state-here core state known at =
      subst (StandsAt system core (slice_index a.clocks.items core)) (sym at)
      (here-at system kept.well_formed a.horizon a.place.moment a.place.core (cores_of a) (kept.in_step going) core known state no-box).state_is

  module _ (none : a.place.core ≡ 0) where
    was : AreInStep system a.horizon a.place.moment 0 (cores_of a)
    was = subst (λ core. AreInStep system a.horizon a.place.moment core (cores_of a)) none (kept.in_step going)

    pub first-later : a.place.moment ≤ a.first.moment
    first-later = by (nat_lt a.first.core system.cores) refl
      where
        is : slice_index (cores_of a).next a.first.core ≡ a.first.moment
        is = (kept.first going).is

        by : (u : Bool) → nat_lt a.first.core system.cores ≡ u → a.place.moment ≤ a.first.moment
        by true e =
            let l : a.first.core < system.cores = grind (arith, nat_tests) in
            let h = (was.place.left a.first.core (omega arith) l).1 in
            let at = is in
            omega arith
        by false e =
            let l : system.cores ≤ a.first.core = grind (arith, nat_tests) in
            let k = (kept.first going).known in
            let n = was.next_of in
            let end = was.rest a.first.core l (omega arith) in
            let most = was.in_time in
            let at = is in
            omega arith

    pub idle-until : IsIdleUntil system (replicate system.cores a.place.moment) (a.horizon + 1) a.first.moment
    idle-until = settled.idle-until system kept.well_formed a.horizon a.place.moment (cores_of a) was a.first (kept.first going)

    -- the cores move on to the first busy moment
    pub passed-kept : IsKept (record a { place = record { moment = a.first.moment; core = 0 } })
    passed-kept =
        record {
          horizon = kept.horizon;
          well_formed = kept.well_formed;
          in_step = λ _. over-moved system kept.well_formed a.horizon a.place.moment 0 (cores_of a) was a.first (kept.first going) a.first.moment
              (first-in_time system kept.well_formed a.horizon a.place.moment 0 (cores_of a) was a.first (kept.first going)) first-later (λ e. refl) (omega arith);
          first = kept.first;
        }

    pub passed-rows : rows_before system a.first.moment 0 ≡ rows_before system a.place.moment a.place.core
    passed-rows =
        over-rows system kept.well_formed a.horizon a.place.moment 0 (cores_of a) was a.first (kept.first going) a.first.moment
        (first-in_time system kept.well_formed a.horizon a.place.moment 0 (cores_of a) was a.first (kept.first going)) first-later (λ e. refl) (omega arith)
        ∙ ap (rows_before system a.place.moment) (sym none)

    -- or stay, and those that are idle count their ticks
    pub all-reached : AreReached system a.clocks.items
    all-reached = settled.reached system kept.well_formed a.horizon a.place.moment (cores_of a) was

    pub all-idle : AreIdle system a.clocks.items a.place.moment
    all-idle = settled.idle system kept.well_formed a.horizon a.place.moment (cores_of a) was

    pub all-stand : AreAt system a.clocks.items a.states.items
    all-stand = settled.stand system kept.well_formed a.horizon a.place.moment (cores_of a) was

    module _ (later : List ℕ) (states : List State) (later_is : later ≡ map (λ clock. max clock a.place.moment) a.clocks.items)
        (many : length states ≡ length a.states.items) (at : AreAt system later states) where
      clocks-are : (with_items a.clocks later).items ≡ later
      clocks-are = with_items_is a.clocks later (let ok = a.clocks.ok.0 in let same = ap length later_is ∙ length-map a.clocks.items (λ clock. max clock a.place.moment) in omega arith)

      states-are : (with_items a.states states).items ≡ states
      states-are = with_items_is a.states states (let ok = a.states.ok.0 in omega arith)

      now-is : later ≡ replicate system.cores a.place.moment
      now-is = later_is ∙ settled.all-now system kept.well_formed a.horizon a.place.moment (cores_of a) was

      pub settled-kept : IsKept (record a { clocks = with_items a.clocks later; states = with_items a.states states })
      settled-kept =
          record {
            horizon = kept.horizon;
            well_formed = kept.well_formed;
            in_step = λ _. subst (λ core. AreInStep system a.horizon a.place.moment core (cores_of (record a { clocks = with_items a.clocks later; states = with_items a.states states }))) (sym none)
                (subst (λ xs. AreInStep system a.horizon a.place.moment 0 (record (cores_of a) { clocks = xs; states = (with_items a.states states).items })) (sym (clocks-are ∙ now-is))
                (subst (λ xs. AreInStep system a.horizon a.place.moment 0 (record (cores_of a) { clocks = replicate system.cores a.place.moment; states = xs })) (sym states-are)
                (settled.settled system kept.well_formed a.horizon a.place.moment (cores_of a) was states many (subst (λ xs. AreAt system xs states) now-is at))));
            first = kept.first;
          }

      pub settled-shows : (steps : Steps) → steps_of a ≡ steps → steps_of (record a { clocks = with_items a.clocks later; states = with_items a.states states }) ≡ record steps { clocks = replicate steps.system.cores steps.moment }
      settled-shows steps e =
          subst (λ (s : Steps). steps_of (record a { clocks = with_items a.clocks later; states = with_items a.states states }) ≡ record s { clocks = replicate s.system.cores s.moment }) e
          (ap (λ xs. record (steps_of a) { clocks = xs }) (clocks-are ∙ now-is))
