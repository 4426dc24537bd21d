-- The next busy turn is taken, from the cores as they are kept.
use Rattle.std.proofs.Common.{◌≡◌, ℕ, ◌+◌, ◌<◌, ◌≤◌, ◌⊎◌, inl, inr, Bool, true, false, List, [], ◌++◌, Vec, get_or, set, refl, sym, ap, ◌∙◌, subst, append-nil, arith}
use Rattle.std.specs.Prelude.{All, nat_lt}
use Rattle.std.specs.Arc.{arc_value}
use Rattle.std.specs.Vec.{with_item, with_items}
use Rattle.std.specs.declared.alloc.Global.{Global}
use Rattle.std.proofs.lemmas.Bool.Decides.{nat_tests}
use Rattle.std.proofs.lemmas.List.{with_items_is}
use Rattle.mcs_stretch.proofs.Later.{takes_time}
use Rattle.mcs_mail.specs.declared.mail.Mail.{Mail}
use Rattle.mcs_mail.specs.Box.{Content}
use Rattle.mcs_system.specs.System.{System}
use Rattle.mcs_core.specs.Clock.{rows_of}
use Rattle.mcs_core.specs.State.{State, Fits, IsExpected, made_by}
use Rattle.mcs_window.specs.stored.Delivery.{AreDelivered}
use Rattle.mcs_step.specs.declared.calendar.Place.{Place}
use Rattle.mcs_step.specs.declared.in_step.InStep.TheInside.{Inside}
use Rattle.mcs_step.specs.Steps.{Steps, rows_before, places_left, AreAfter, IsOnSchedule, IsUpTo}
use Rattle.mcs_step.specs.stored.Cores.{AreInStep, AreLowered, IsBusyAt, IsKept, IsQuietTo, cores_of, steps_of}
use Rattle.mcs_step.specs.stored.Places.{IsFirst}
use Rattle.mcs_step.proofs.Rows.{rows-turn, rows-end, rows-rest}
use Rattle.mcs_step.proofs.Moved.{first-known, first-moved, first-rows, first-ahead, over-moved, over-rows}
use Rattle.mcs_step.proofs.Turned.{HasTurned, stands, are-expected, rows-are, stands-after, left-expected, turned-kept}
use Rattle.mcs_step.proofs.Counted.{places-fewer, places-none, places-some}

module _ (a : Inside) (kept : IsKept a) (going : a.failed ≡ false) (place : Place) (first : IsFirst a.next place) where
  abbrev system : System
  system = arc_value a.system

  was : AreInStep system a.horizon a.place.moment a.place.core (cores_of a)
  was = kept.in_step going

  -- no turn up to the moment `last` is left
  module _ (last moment : ℕ) (end : moment ≡ last + 1) (late : last < place.moment) (up_to : IsUpTo last (steps_of a)) where
    in_time : moment ≤ a.horizon + 1
    in_time = let l = up_to.in_time in omega arith

    later : a.place.moment ≤ moment
    later = let l = up_to.moment_is in omega arith

    over : a.place.moment ≡ moment → a.place.core ≡ 0
    over e = up_to.over (omega arith)

    pub over-so_far : rows_before system moment 0 ≡ rows_before system a.place.moment a.place.core
    over-so_far = over-rows system kept.well_formed a.horizon a.place.moment a.place.core (cores_of a) was place first moment in_time later over (omega arith)

    pub over-kept : IsKept (record a { place = record { moment = moment; core = 0 } })
    over-kept =
        record {
          horizon = kept.horizon;
          well_formed = kept.well_formed;
          in_step = λ _. over-moved system kept.well_formed a.horizon a.place.moment a.place.core (cores_of a) was place first moment in_time later over (omega arith);
          first = kept.first;
        }

    pub over-on_schedule : IsOnSchedule (record (steps_of a) { moment = moment; core = 0 })
    over-on_schedule = by (nat_lt last a.horizon) refl
      where
        by : (u : Bool) → nat_lt last a.horizon ≡ u → IsOnSchedule (record (steps_of a) { moment = moment; core = 0 })
        by true g =
            let l : last < a.horizon = grind (arith, nat_tests) in
            rows-rest system (takes_time system kept.well_formed) moment 0 a.horizon (omega arith) (omega arith)
        by false g =
            let l : a.horizon ≤ last = grind (arith, nat_tests) in
            let most = up_to.in_time in
            ([], append-nil (rows_before system moment 0) ∙ rows-end system moment a.horizon (omega arith))

    -- unless it stood there already, the end comes nearer
    pub over-ends : (steps after : Steps) → steps_of a ≡ steps → after ≡ record (steps_of a) { moment = moment; core = 0 } → AreAfter last steps ⊎ (places_left after < places_left steps)
    over-ends steps after e f = subst (λ (s : Steps). AreAfter last s ⊎ (places_left after < places_left s)) e (by (nat_lt last a.place.moment) refl)
      where
        few : a.place.moment ≤ last → places_left (record (steps_of a) { moment = moment; core = 0 }) < places_left (steps_of a)
        few l = at-end (nat_lt last a.horizon) refl
          where
            at-end : (u : Bool) → nat_lt last a.horizon ≡ u → places_left (record (steps_of a) { moment = moment; core = 0 }) < places_left (steps_of a)
            at-end true g =
                let k : last < a.horizon = grind (arith, nat_tests) in
                places-fewer (system.cores + 1) a.horizon a.place.moment a.place.core moment 0 (inl (omega arith)) (let most = was.known in omega arith) (omega arith) (omega arith)
            at-end false g =
                let k : a.horizon ≤ last = grind (arith, nat_tests) in
                let most = up_to.in_time in
                let none = places-none (record (steps_of a) { moment = moment; core = 0 }) (record { moment_is = omega arith; core_is = refl }) in
                let some = places-some (steps_of a) (omega arith) was.known in
                omega (arith, some, none)

        by : (u : Bool) → nat_lt last a.place.moment ≡ u → AreAfter last (steps_of a) ⊎ (places_left after < places_left (steps_of a))
        by true g =
            let l : last < a.place.moment = grind (arith, nat_tests) in
            let most = up_to.moment_is in
            let at : a.place.moment ≡ last + 1 = omega arith in
            inl (record { moment_is = at; core_is = up_to.over at })
        by false g =
            let l : a.place.moment ≤ last = grind (arith, nat_tests) in
            inr (rw f (few l))

  module _ (in_time : place.moment ≤ a.horizon) where
    known : place.core < system.cores
    known = first-known system kept.well_formed a.horizon a.place.moment a.place.core (cores_of a) was place first in_time

    now : AreInStep system a.horizon place.moment place.core (cores_of a)
    now = first-moved system kept.well_formed a.horizon a.place.moment a.place.core (cores_of a) was place first in_time

    pub few-places : (steps : Steps) → steps_of a ≡ steps → places_left (record (steps_of a) { moment = place.moment; core = place.core + 1 }) < places_left steps
    few-places steps e =
        subst (λ (s : Steps). places_left (record (steps_of a) { moment = place.moment; core = place.core + 1 }) < places_left s) e
        (places-fewer (system.cores + 1) a.horizon a.place.moment a.place.core place.moment (place.core + 1) ahead
        (let few = was.known in omega arith) (let k = known in omega arith) in_time)
      where
        ahead : (a.place.moment < place.moment) ⊎ ((a.place.moment ≡ place.moment) × (a.place.core < place.core + 1))
        ahead = elim (first-ahead system kept.well_formed a.horizon a.place.moment a.place.core (cores_of a) was place first in_time) [
          | inl l ↦ inl l
          | inr p ↦ (let k = p.1 in inr (p.0, omega arith))
        ]

    pub goes-on_schedule : (steps : Steps) → steps ≡ record (steps_of a) { moment = place.moment; core = place.core + 1; clocks = steps.clocks; failed = false } → IsOnSchedule steps
    goes-on_schedule steps e =
        subst IsOnSchedule (sym e) (rows-rest system (takes_time system kept.well_formed) place.moment (place.core + 1) a.horizon in_time (let k = known in omega arith))

    pub rows-next : rows_before system a.place.moment a.place.core ++ rows_of system place.core place.moment ≡ rows_before system place.moment (place.core + 1)
    rows-next =
        ap (λ xs. xs ++ rows_of system place.core place.moment)
        (sym (first-rows system kept.well_formed a.horizon a.place.moment a.place.core (cores_of a) was place first in_time))
        ∙ sym (rows-turn system place.moment place.core)

    module _ (state : State) (box : Content) (state_at : state ≡ get_or a.states.items place.core state) (box_at : box ≡ get_or a.boxes.items place.core box) where
      pub fits-now : Fits system state
      fits-now = (stands system kept.well_formed a.horizon place.moment place.core (cores_of a) now in_time known first.is state box state_at box_at).fits

      pub expected-now : All (IsExpected system state) box.mails
      expected-now = are-expected system kept.well_formed a.horizon place.moment place.core (cores_of a) now in_time known first.is state box state_at box_at

      pub rows-made : (made_by system state (place.moment + 1) box.mails).rows ≡ rows_of system place.core place.moment
      rows-made = rows-are system kept.well_formed a.horizon place.moment place.core (cores_of a) now in_time known first.is state box state_at box_at

      module _ (after : State) (left : Content) (signals : List Mail) (turned : HasTurned system (place.moment + 1) state after box.mails left.mails signals) where
        pub clock-after : after.clock ≡ place.moment + 1
        clock-after = (stands-after system kept.well_formed a.horizon place.moment place.core (cores_of a) now in_time known first.is state box state_at box_at after left signals turned).clock_is

        pub expected-after : All (IsExpected system after) left.mails
        expected-after = left-expected system kept.well_formed a.horizon place.moment place.core (cores_of a) now in_time known first.is state box state_at box_at after left signals turned

        pub step-kept : (full : List Content) (next lowest : List ℕ) (later past : ℕ) (made : Vec Mail Global) (then : Place) → past ≡ place.moment + 1 → next ≡ set a.next place.core later → IsQuietTo system after left.mails later →
            (later ≤ a.horizon → IsBusyAt system after left.mails later) → place.moment + 1 ≤ later → later ≤ a.horizon + 1 → AreDelivered system signals (set a.boxes.items place.core left) full → AreLowered system signals next lowest → IsFirst lowest then →
            IsKept (record a {
              place = record { moment = place.moment; core = place.core + 1 };
              failed = false;
              clocks = with_item a.clocks place.core past;
              states = with_item a.states place.core after;
              boxes = with_items (with_item a.boxes place.core left) full;
              next = lowest;
              first = then;
              signals = made;
            })
        step-kept full next lowest later past made then past_is next_is quiet busy ahead early delivered lowers first_then =
            record {
              horizon = kept.horizon;
              well_formed = kept.well_formed;
              in_step = λ _. subst (λ boxes. AreInStep system a.horizon place.moment (place.core + 1) (record { clocks = set a.clocks.items place.core past; states = set a.states.items place.core after; boxes = boxes; next = lowest })) (sym boxes_are)
                  (subst (λ t. AreInStep system a.horizon place.moment (place.core + 1) (record { clocks = set a.clocks.items place.core t; states = set a.states.items place.core after; boxes = full; next = lowest })) (sym past_is)
                  (turned-kept system kept.well_formed a.horizon place.moment place.core (cores_of a) now in_time known first.is state box state_at box_at after left signals turned
                  full next lowest later next_is quiet busy ahead early delivered lowers));
              first = λ _. first_then;
            }
          where
            boxes_are : (with_items (with_item a.boxes place.core left) full).items ≡ full
            boxes_are = with_items_is (with_item a.boxes place.core left) full (let ok = (with_item a.boxes place.core left).ok.0 in let many = delivered.many in omega arith)
