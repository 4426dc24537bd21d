-- The place moves on to the first busy turn, or to the end.
use Rattle.std.proofs.Common.{◌≡◌, ℕ, ◌+◌, ◌<◌, ◌≤◌, ◌⊎◌, inl, inr, Bool, true, false, List, [], refl, arith}
use Rattle.std.specs.Prelude.{nat_lt, slice_index}
use Rattle.std.proofs.lemmas.Bool.Decides.{nat_tests}
use Rattle.mcs_system.specs.System.{System}
use Rattle.mcs_system.specs.WellFormed.{IsWellFormed}
use Rattle.mcs_core.specs.Clock.{rows_of}
use Rattle.mcs_stretch.proofs.Later.{takes_time}
use Rattle.mcs_step.specs.declared.calendar.Place.{Place}
use Rattle.mcs_step.specs.Steps.{rows_before}
use Rattle.mcs_step.specs.stored.Cores.{Cores, AreInStep}
use Rattle.mcs_step.specs.stored.Places.{IsFirst}
use Rattle.mcs_step.proofs.Rows.{rows-within, rows-later_on}
use Rattle.mcs_step.proofs.Still.{no-rows-before, no-rows-at}

module _ (system : System) (well : IsWellFormed system) (horizon old before : ℕ) (cores : Cores) (kept : AreInStep system horizon old before cores) where
  abbrev front : List ℕ
  front = cores.clocks

  -- no clock is past the moment, or past the next one if the core has taken its turn
  clock-most : (c : ℕ) → c < system.cores → (slice_index front c ≤ old + 1) × (before ≤ c → slice_index front c ≤ old)
  clock-most c known = by (nat_lt c before) refl
    where
      by : (u : Bool) → nat_lt c before ≡ u → (slice_index front c ≤ old + 1) × (before ≤ c → slice_index front c ≤ old)
      by true e =
          let l : c < before = grind (arith, nat_tests) in
          let at = (kept.place.done c l).0 in
          (at, λ k. absurd (omega arith))
      by false e =
          let l : before ≤ c = grind (arith, nat_tests) in
          let at = (kept.place.left c l known).0 in
          (omega arith, λ k. at)

  -- a later place, before which no core is busy
  module _ (moment core : ℕ) (few : core ≤ system.cores) (in_time : moment ≤ horizon + 1) (over : moment ≡ horizon + 1 → core ≡ 0)
      (ahead : (old < moment) ⊎ ((old ≡ moment) × (before ≤ core)))
      (done : (c : ℕ) → c < core → moment + 1 ≤ slice_index cores.next c)
      (left : (c : ℕ) → core ≤ c → c < system.cores → moment ≤ slice_index cores.next c) where
    soonest : (c : ℕ) → c < system.cores → moment ≤ slice_index cores.next c
    soonest c known = by (nat_lt c core) refl
      where
        by : (u : Bool) → nat_lt c core ≡ u → moment ≤ slice_index cores.next c
        by true e =
            let l : c < core = grind (arith, nat_tests) in
            let h = done c l in
            omega arith
        by false e =
            let l : core ≤ c = grind (arith, nat_tests) in
            left c l known

    clock-ahead : (c : ℕ) → c < system.cores → (slice_index front c ≤ moment + 1) × (core ≤ c → slice_index front c ≤ moment)
    clock-ahead c known =
        let most = clock-most c known in
        elim ahead [
          | inl l ↦ (let k = most.0 in (omega arith, λ _. omega arith))
          | inr p ↦ (let k = most.0 in let e = p.0 in let n = p.1 in (omega arith, λ q. (let i = most.1 (omega arith) in omega arith)))
        ]

    pub moved : AreInStep system horizon moment core cores
    moved =
        record {
          clocks_of = kept.clocks_of;
          states_of = kept.states_of;
          boxes_of = kept.boxes_of;
          next_of = kept.next_of;
          few = kept.few;
          known = few;
          in_time = in_time;
          over = over;
          here = kept.here;
          quiet = kept.quiet;
          busy = kept.busy;
          ends = kept.ends;
          rest = kept.rest;
          place = record {
            done = λ c l. ((clock-ahead c (omega arith)).0, done c l);
            left = λ c l known. ((clock-ahead c known).1 l, left c l known);
          };
        }

    none-before : (c t : ℕ) → c < system.cores → slice_index front c ≤ t → t < moment → rows_of system c t ≡ []
    none-before c t known from l = no-rows-before system well horizon old before cores kept moment soonest c t known from l

    none-at : (c : ℕ) → c < core → slice_index front c ≤ moment → rows_of system c moment ≡ []
    none-at c l from = (let h = done c l in no-rows-at system well horizon old before cores kept moment soonest c (omega arith) from (omega arith))

    pub rows-moved : rows_before system moment core ≡ rows_before system old before
    rows-moved =
        elim ahead [
          | inl l ↦ rows-later_on system (takes_time system well) old moment before core l kept.known
              (λ c p known. none-before c old known ((clock-most c known).1 p) l)
              (λ t c p q known. (let m = (clock-most c known).0 in none-before c t known (omega arith) q))
              (λ c p. (let m = (clock-most c (omega arith)).0 in none-at c p (omega arith)))
          | inr p ↦ (let e = p.0 in same e (rows-within system moment before core p.1
              (λ c q r. (let m = (clock-most c (omega arith)).1 q in none-at c r (omega arith)))))
        ]
      where
        same : old ≡ moment → rows_before system moment core ≡ rows_before system moment before → rows_before system moment core ≡ rows_before system old before
        same e h = rw e h

  -- the first busy turn is the one that comes next
  module _ (place : Place) (first : IsFirst cores.next place) where
    pub below : (c : ℕ) → c < system.cores → place.moment ≤ slice_index cores.next c
    below c known = by (nat_lt c place.core) refl
      where
        by : (u : Bool) → nat_lt c place.core ≡ u → place.moment ≤ slice_index cores.next c
        by true e =
            let l : c < place.core = grind (arith, nat_tests) in
            let h = first.before c l in
            omega arith
        by false e =
            let l : place.core ≤ c = grind (arith, nat_tests) in
            first.from c l (let n = kept.next_of in let f = kept.few in omega arith)

    module _ (in_time : place.moment ≤ horizon) where
      pub first-known : place.core < system.cores
      first-known = by (nat_lt place.core system.cores) refl
        where
          is : slice_index cores.next place.core ≡ place.moment
          is = first.is

          by : (u : Bool) → nat_lt place.core system.cores ≡ u → place.core < system.cores
          by true e =
              let l : place.core < system.cores = grind (arith, nat_tests) in
              l
          by false e =
              let l : system.cores ≤ place.core = grind (arith, nat_tests) in
              let end = kept.rest place.core l (let k = first.known in let n = kept.next_of in omega arith) in
              absurd (omega arith)

      known : place.core < system.cores
      known = first-known

      pub first-ahead : (old < place.moment) ⊎ ((old ≡ place.moment) × (before ≤ place.core))
      first-ahead = by (nat_lt place.core before) refl
        where
          is : slice_index cores.next place.core ≡ place.moment
          is = first.is

          by : (u : Bool) → nat_lt place.core before ≡ u → (old < place.moment) ⊎ ((old ≡ place.moment) × (before ≤ place.core))
          by true e =
              let l : place.core < before = grind (arith, nat_tests) in
              let h = (kept.place.done place.core l).1 in
              inl (omega arith)
          by false e =
              let l : before ≤ place.core = grind (arith, nat_tests) in
              let h = (kept.place.left place.core l known).1 in
              level (nat_lt old place.moment) refl l (omega arith)
            where
              level : (v : Bool) → nat_lt old place.moment ≡ v → before ≤ place.core → old ≤ place.moment → (old < place.moment) ⊎ ((old ≡ place.moment) × (before ≤ place.core))
              level true f l h =
                  let k : old < place.moment = grind (arith, nat_tests) in
                  inl k
              level false f l h =
                  let k : place.moment ≤ old = grind (arith, nat_tests) in
                  inr (omega arith, l)

      pub first-moved : AreInStep system horizon place.moment place.core cores
      first-moved =
          moved place.moment place.core (let k = known in omega arith) (omega arith) (λ e. absurd (omega arith)) first-ahead
          (λ c l. let h = first.before c l in omega arith) (λ c l k. below c k)

      pub first-rows : rows_before system place.moment place.core ≡ rows_before system old before
      first-rows =
          rows-moved place.moment place.core (let k = known in omega arith) (omega arith) (λ e. absurd (omega arith)) first-ahead
          (λ c l. let h = first.before c l in omega arith) (λ c l k. below c k)

    -- the first busy time is not past the end
    pub first-in_time : place.moment ≤ horizon + 1
    first-in_time = by (nat_lt place.core system.cores) refl
      where
        is : slice_index cores.next place.core ≡ place.moment
        is = first.is

        by : (u : Bool) → nat_lt place.core system.cores ≡ u → place.moment ≤ horizon + 1
        by true e =
            let l : place.core < system.cores = grind (arith, nat_tests) in
            let end = kept.ends place.core l in
            omega arith
        by false e =
            let l : system.cores ≤ place.core = grind (arith, nat_tests) in
            let end = kept.rest place.core l (let k = first.known in let n = kept.next_of in omega arith) in
            omega arith

    -- no turn before a moment is busy
    module _ (moment : ℕ) (in_time : moment ≤ horizon + 1) (later : old ≤ moment) (over : old ≡ moment → before ≡ 0) (late : moment ≤ place.moment) where
      over-ahead : (old < moment) ⊎ ((old ≡ moment) × (before ≤ 0))
      over-ahead = by (nat_lt old moment) refl
        where
          by : (u : Bool) → nat_lt old moment ≡ u → (old < moment) ⊎ ((old ≡ moment) × (before ≤ 0))
          by true e =
              let l : old < moment = grind (arith, nat_tests) in
              inl l
          by false e =
              let l : moment ≤ old = grind (arith, nat_tests) in
              let same : old ≡ moment = omega arith in
              let none = over same in
              inr (same, omega arith)

      pub over-moved : AreInStep system horizon moment 0 cores
      over-moved =
          moved moment 0 (omega arith) in_time (λ e. refl) over-ahead
          (λ c l. absurd (omega arith)) (λ c l k. let h = below c k in omega arith)

      pub over-rows : rows_before system moment 0 ≡ rows_before system old before
      over-rows =
          rows-moved moment 0 (omega arith) in_time (λ e. refl) over-ahead
          (λ c l. absurd (omega arith)) (λ c l k. let h = below c k in omega arith)
