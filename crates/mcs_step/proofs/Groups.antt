-- The soonest times of the groups of a calendar.
use Rattle.std.proofs.Common.{◌≡◌, ◌≢◌, ℕ, ◌+◌, ◌*◌, ◌/◌, ◌<◌, ◌≤◌, inl, inr, Bool, true, false, List, replicate, set, refl, sym, ap, ◌∙◌, subst, arith}
use Rattle.std.specs.Prelude.{nat_lt, slice_index}
use Rattle.std.proofs.lemmas.Bool.Decides.{eqb_tells, nat_tests}
use Rattle.std.proofs.lemmas.List.{get_or-set_same, get_or-set_other, length-set, length-replicate}
use Rattle.mcs_step.specs.declared.calendar.Place.{Place}
use Rattle.mcs_step.specs.stored.Places.{IsFirst, IsFirstOf, IsSoonest, AreGrouped}
use Rattle.mcs_step.proofs.Opened.{get_or-replicate}

pub grouped-same : (moment : ℕ) → AreGrouped (replicate 64 moment) (replicate 8 moment)
grouped-same moment =
    record {
      next_of = length-replicate 64 moment;
      soonest_of = length-replicate 8 moment;
      each = λ group l. record {
        core = 8 * group;
        from = omega arith;
        below = omega arith;
        is = get_or-replicate 64 (8 * group) moment (omega arith) ∙ sym (get_or-replicate 8 group moment l);
        least = λ c p q. (let e = get_or-replicate 64 c moment (omega arith) in let f = get_or-replicate 8 group moment l in omega arith);
      };
    }

module _ (next soonest : List ℕ) (grouped : AreGrouped next soonest) (core moment group : ℕ) (from : 8 * group ≤ core) (below : core < 8 * group + 8) (known : group < 8) where
  own-time : slice_index (set next core moment) core ≡ moment
  own-time = get_or-set_same next core moment 0 (let n = grouped.next_of in omega arith)

  other-time : (c : ℕ) → c ≢ core → slice_index (set next core moment) c ≡ slice_index next c
  other-time c h = get_or-set_other next core c moment 0 h

  -- another group stays as it is
  other-group : (h : ℕ) → h < 8 → h ≢ group → IsSoonest (set next core moment) h (slice_index soonest h)
  other-group h l apart =
      let was = grouped.each h l in
      let p = was.from in
      let q = was.below in
      record {
        core = was.core;
        from = p;
        below = q;
        is = other-time was.core (omega arith) ∙ was.is;
        least = λ c p q. (let e = other-time c (omega arith) in let m = was.least c p q in omega arith);
      }

  pub grouped-set : (least : ℕ) → IsSoonest (set next core moment) group least → AreGrouped (set next core moment) (set soonest group least)
  grouped-set least own =
      record {
        next_of = length-set next core moment ∙ grouped.next_of;
        soonest_of = length-set soonest group least ∙ grouped.soonest_of;
        each = λ h l. elim (eqb_tells h group) [
          | inl e ↦ subst (λ d. IsSoonest (set next core moment) d (slice_index (set soonest group least) d)) (sym e.1)
              (subst (IsSoonest (set next core moment) group) (sym (get_or-set_same soonest group least 0 (let n = grouped.soonest_of in omega arith))) own)
          | inr e ↦ subst (IsSoonest (set next core moment) h) (sym (get_or-set_other soonest group h least 0 e.1)) (other-group h l e.1)
        ];
      }

  module _ (sooner : moment < slice_index next core) where
    -- the core's new time is the soonest of its group
    pub soonest-new : moment < slice_index soonest group → IsSoonest (set next core moment) group moment
    soonest-new less =
        record {
          core = core;
          from = from;
          below = below;
          is = own-time;
          least = λ c p q. elim (eqb_tells c core) [
            | inl e ↦ (let f = ap (slice_index (set next core moment)) e.1 in let g = own-time in omega arith)
            | inr e ↦ (let f = other-time c e.1 in let m = (grouped.each group known).least c p q in omega arith)
          ];
        }

-- the first core of the first group that has the soonest time is the first of all
pub first-of-all : (next soonest : List ℕ) → AreGrouped next soonest → (group : ℕ) (place : Place) → group < 8 → slice_index soonest group ≡ place.moment →
    ((h : ℕ) → h < group → place.moment < slice_index soonest h) → ((h : ℕ) → group ≤ h → h < 8 → place.moment ≤ slice_index soonest h) →
    IsFirstOf next group place.moment place.core → IsFirst next place
first-of-all next soonest grouped group place known is before from first =
    record {
      known = (let n = grouped.next_of in let b = first.below in omega arith);
      is = first.is;
      before = λ c l. earlier c l (nat_lt c (8 * group)) refl;
      from = λ c l k.
          let n = grouped.next_of in
          let f = first.from in
          let p : 8 * (c / 8) ≤ c = omega arith in
          let q : c < 8 * (c / 8) + 8 = omega arith in
          let h : c / 8 < 8 = omega arith in
          let g : group ≤ c / 8 = omega arith in
          let m = (grouped.each (c / 8) h).least c p q in
          let s = from (c / 8) g h in
          omega (arith, m, s);
    }
  where
    earlier : (c : ℕ) → c < place.core → (u : Bool) → nat_lt c (8 * group) ≡ u → place.moment < slice_index next c
    earlier c l true e =
        let k : c < 8 * group = grind (arith, nat_tests) in
        let p : 8 * (c / 8) ≤ c = omega arith in
        let q : c < 8 * (c / 8) + 8 = omega arith in
        let g : c / 8 < group = omega arith in
        let h : c / 8 < 8 = omega arith in
        let m = (grouped.each (c / 8) h).least c p q in
        let s = before (c / 8) g in
        omega (arith, m, s)
    earlier c l false e =
        let k : 8 * group ≤ c = grind (arith, nat_tests) in
        first.before c k l
