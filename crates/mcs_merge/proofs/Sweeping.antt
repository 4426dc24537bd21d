-- The next core of a sweep, and the state of the sweep after a core is added or taken out.
use Rattle.std.proofs.Common.{◌≡◌, ◌≢◌, ◌⊎◌, ℕ, ◌+◌, ◌-◌, ◌<◌, ◌≤◌, ◌==◌, ◌&&◌, Bool, true, false, inl, inr, List, [], length, set, Option, Some, None, refl, sym, ap, ◌∙◌, subst, arith, get_or-set_other}
use Rattle.std.specs.Prelude.{IfSome, nat_lt, nat_le, if◌then◌else◌}
use Rattle.std.proofs.lemmas.Bool.{cases_eq, cases_lt, eq-eqb, ne_eqb, false≢true}
use Rattle.std.proofs.lemmas.Bool.Decides.{nat_tests}
use Rattle.std.proofs.lemmas.Option.{cond_some}
use Rattle.std.proofs.lemmas.List.{length-set}
use Rattle.mcs_merge.specs.Parts.{first_of, parts_of}
use Rattle.mcs_merge.specs.stored.Parts.{IsNextCore}
use Rattle.mcs_merge.specs.stored.Sweep.{Sweep, no_sweep, has, is_at, IsPut, IsTaken, IsSwept}
use Rattle.mcs_merge.proofs.Sweeps.{none-of}

pub some-same : (a b : ℕ) → Some a ≡ Some b → a ≡ b
some-same a b e = (cond_some true a b e).1

-- a moment is that of a place
at-place : (s : Sweep) (t place : ℕ) → is_at s (Some t) place ≡ true → (t < s.end) × (t ≡ s.start + place)
at-place s t place e = (grind (arith, nat_tests), grind (arith, nat_tests))

-- .. and the index at which it is put
is-place : (s : Sweep) (t : ℕ) → t < s.end → s.start + s.at ≤ t → is_at s (Some t) (t - s.start) ≡ true
is-place s t early late =
    let is_early : nat_lt t s.end ≡ true = grind (arith, nat_tests) in
    let is_late : nat_le (s.start + s.at) t ≡ true = grind (arith, nat_tests) in
    rw (is_early, is_late) (eq-eqb (t - s.start) (t - s.start) refl)

-- a sweep after a core was put in, at that core and at the others
module _ (s : Sweep) (core : ℕ) (next : Option ℕ) (after : Sweep) (p : IsPut s core next after) where
  put-other : (place d : ℕ) → d < 64 → d ≢ core → has after.sets place d ≡ has s.sets place d
  put-other place d few ne = p.sets place d few ∙ by (d == core) (ne_eqb d core ne)
    where
      by : (b : Bool) → b ≡ false → (if b && is_at s next place then true else has s.sets place d) ≡ has s.sets place d
      by true e = absurd (false≢true (sym e))
      by false e = refl

  put-same : (place : ℕ) → core < 64 → has after.sets place core ≡ (if is_at s next place then true else has s.sets place core)
  put-same place few = p.sets place core few ∙ by (core == core) (eq-eqb core core refl)
    where
      by : (b : Bool) → b ≡ true → (if b && is_at s next place then true else has s.sets place core) ≡ (if is_at s next place then true else has s.sets place core)
      by true e = refl
      by false e = absurd (false≢true e)

  put-here : (t : ℕ) → core < 64 → next ≡ Some t → t < s.end → s.start + s.at ≤ t → has after.sets (t - s.start) core ≡ true
  put-here t few e early late = put-same (t - s.start) few ∙ by (is_at s next (t - s.start)) (ap (λ n. is_at s n (t - s.start)) e ∙ is-place s t early late)
    where
      by : (b : Bool) → b ≡ true → (if b then true else has s.sets (t - s.start) core) ≡ true
      by true e = refl
      by false e = absurd (false≢true e)

  -- if a core is in a set afterwards, it was before, or the set is that of its next moment
  put-was : (place : ℕ) → core < 64 → has after.sets place core ≡ true → (has s.sets place core ≡ false) → (s.start + place < s.end) × (next ≡ Some (s.start + place))
  put-was place few h none = by next (is_at s next place) refl (sym (put-same place few) ∙ h)
    where
      by : (n : Option ℕ) (b : Bool) → is_at s n place ≡ b → (if b then true else has s.sets place core) ≡ true → (s.start + place < s.end) × (n ≡ Some (s.start + place))
      by n false e f = absurd (false≢true (sym none ∙ f))
      by None true e f = absurd (false≢true e)
      by (Some t) true e f =
          let is = at-place s t place e in
          let early = is.0 in
          let same = is.1 in
          (omega arith, ap Some same)

-- a sweep after a core was taken out
module _ (s : Sweep) (core : ℕ) (after : Sweep) (t : IsTaken s core after) where
  taken-other : (place d : ℕ) → d < 64 → d ≢ core → has after.sets place d ≡ has s.sets place d
  taken-other place d few ne = t.sets place d few ∙ by (d == core) (ne_eqb d core ne)
    where
      by : (b : Bool) → b ≡ false → (if b && place == after.at then false else has s.sets place d) ≡ has s.sets place d
      by true e = absurd (false≢true (sym e))
      by false e = refl

  taken-same : (place : ℕ) → has after.sets place core ≡ true → (has s.sets place core ≡ true) × (place ≢ after.at)
  taken-same place h = by (core == core) (place == after.at) (eq-eqb core core refl) refl (sym (t.sets place core t.few) ∙ h)
    where
      by : (b e : Bool) → b ≡ true → (place == after.at) ≡ e → (if b && e then false else has s.sets place core) ≡ true → (has s.sets place core ≡ true) × (place ≢ after.at)
      by false e f g h = absurd (false≢true f)
      by true true f g h = absurd (false≢true h)
      by true false f g h = (h, λ same. false≢true (sym g ∙ eq-eqb place after.at same))

-- what is known of the next moment of a core that is in a sweep
abbrev Placed : Sweep → ℕ → Option ℕ → Type 0
Placed s d n = IfSome n (λ t. t < s.end → (s.start + s.at ≤ t) × (has s.sets (t - s.start) d ≡ true))

module _ {P : Type 0} (first : P → Option ℕ) where
  -- no core is in a new sweep
  pub swept-none : (cores : List (List P)) (start until : ℕ) → IsSwept first cores (λ d. d < 0) (no_sweep start until)
  swept-none cores start until =
      record {
        marked = λ place d few h. absurd (false≢true (sym (none-of 256 place d) ∙ h));
        placed = λ d l. absurd (omega arith);
      }

  -- the same cores
  pub swept-same : (cores : List (List P)) (which those : ℕ → Type 0) (s : Sweep) → ((d : ℕ) → which d → those d) → ((d : ℕ) → those d → which d) → IsSwept first cores which s → IsSwept first cores those s
  swept-same cores which those s f g h =
      record {
        marked = λ place d few is. let was = h.marked place d few is in (f d was.0, was.1, was.2);
        placed = λ d w. h.placed d (g d w);
      }

  -- another core is put in
  pub swept-put : (cores : List (List P)) (which : ℕ → Type 0) (core : ℕ) (s after : Sweep) → core < 64 → ((d : ℕ) → which d → d < 64) → (which core → ⊥) → IsSwept first cores which s →
      IsPut s core (first_of first (parts_of core cores)) after → IfSome (first_of first (parts_of core cores)) (λ t. t < s.end → s.start + s.at ≤ t) →
      IsSwept first cores (λ d. which d ⊎ (d ≡ core)) after
  swept-put cores which core s after low all out h p late =
      record {
        marked = λ place d few is. elim (cases_eq d core) [
          | inl e ↦
              let mine : has after.sets place core ≡ true = subst (λ k. has after.sets place k ≡ true) e is in
              let was = put-was s core next after p place low mine (fresh place (has s.sets place core) refl) in
              (inr e, moved place was.0, subst (λ k. first_of first (parts_of k cores) ≡ Some (after.start + place)) (sym e) (was.1 ∙ ap (λ (n : ℕ). Some (n + place)) (sym p.same.0)))
          | inr ne ↦
              let was = h.marked place d few (sym (put-other s core next after p place d few ne) ∙ is) in
              (inl was.0, moved place was.1, was.2 ∙ ap (λ (n : ℕ). Some (n + place)) (sym p.same.0))
        ];
        placed = λ d w. elim w [
          | inl in_it ↦ other d (all d in_it) (λ e. out (subst which e in_it)) (first_of first (parts_of d cores)) (h.placed d in_it)
          | inr e ↦ subst (λ k. Placed after k (first_of first (parts_of k cores))) (sym e) (mine next refl late)
        ];
      }
    where
      next : Option ℕ
      next = first_of first (parts_of core cores)

      fresh : (place : ℕ) (b : Bool) → has s.sets place core ≡ b → has s.sets place core ≡ false
      fresh place false e = e
      fresh place true e = absurd (out (h.marked place core low e).0)

      moved : (place : ℕ) → s.start + place < s.end → after.start + place < after.end
      moved place l = let start = p.same.0 in let end = p.same.2 in omega arith

      mine : (n : Option ℕ) → next ≡ n → IfSome n (λ t. t < s.end → s.start + s.at ≤ t) → Placed after core n
      mine None e l = tt
      mine (Some t) e l = λ early.
          let start = p.same.0 in let at = p.same.1 in let end = p.same.2 in
          let before : t < s.end = omega arith in
          let from = l before in
          (omega arith, subst (λ n. has after.sets (t - n) core ≡ true) (sym start) (put-here s core next after p t low e before from))

      other : (d : ℕ) → d < 64 → d ≢ core → (n : Option ℕ) → Placed s d n → Placed after d n
      other d few ne None k = tt
      other d few ne (Some t) k = λ early.
          let start = p.same.0 in let at = p.same.1 in let end = p.same.2 in
          let was = k (omega arith) in
          let from = was.0 in
          (omega arith, subst (λ n. has after.sets (t - n) d ≡ true) (sym start) (put-other s core next after p (t - s.start) d few ne ∙ was.1))

  module _ (cores : List (List P)) (s after : Sweep) (core : ℕ) (few : length cores ≤ 64) (h : IsSwept first cores (λ d. d < length cores) s) (t : IsTaken s core after) where
    is-core : (core < length cores) × (s.start + after.at < s.end) × (first_of first (parts_of core cores) ≡ Some (s.start + after.at))
    is-core = h.marked after.at core t.few t.was

    no-earlier : (d : ℕ) (n : Option ℕ) → Placed s d n → IfSome n (λ m. s.start + after.at ≤ m)
    no-earlier d None k = tt
    no-earlier d (Some m) k = elim (cases_lt m (s.start + after.at)) [
      | inl early ↦
          let within = is-core.1 in
          let was = k (omega arith) in
          let from = was.0 in
          absurd (false≢true (sym (t.none (m - s.start) d (omega arith) (omega arith)) ∙ was.1))
      | inr late ↦ late
    ]

    later : (d : ℕ) → d < core → (n : Option ℕ) → Placed s d n → IfSome n (λ m. s.start + after.at < m)
    later d l None k = tt
    later d l (Some m) k = elim (cases_lt (s.start + after.at) m) [
      | inl late ↦ late
      | inr early ↦
          let within = is-core.1 in
          let was = k (omega arith) in
          let from : s.start + after.at ≤ m = no-earlier d (Some m) k in
          let place : m - s.start ≡ after.at = omega arith in
          absurd (false≢true (sym (t.lower d l) ∙ subst (λ p. has s.sets p d ≡ true) place was.1))
    ]

    -- the core that is taken out is next
    pub swept-next : (until : ℕ) → s.end ≤ until → IsNextCore first cores until core
    swept-next until e =
        record {
          within = is-core.0;
          moment = s.start + after.at;
          is = is-core.2;
          before = (let within = is-core.1 in omega arith);
          least = λ d l. no-earlier d (first_of first (parts_of d cores)) (h.placed d l);
          lower = λ d l. later d l (first_of first (parts_of d cores)) (h.placed d (let within = is-core.0 in omega arith));
        }

    -- the others are in the sweep as they were
    swept-taken : (new : List (List P)) → ((d : ℕ) → d ≢ core → parts_of d new ≡ parts_of d cores) → IsSwept first new (λ d. (d < length cores) × (d ≢ core)) after
    swept-taken new same =
        record {
          marked = λ place d low is. elim (cases_eq d core) [
            | inl e ↦
                let mine = taken-same s core after t place (subst (λ k. has after.sets place k ≡ true) e is) in
                let was = h.marked place core t.few mine.0 in
                let one : s.start + place ≡ s.start + after.at = some-same (s.start + place) (s.start + after.at) (sym was.2 ∙ is-core.2) in
                absurd (mine.1 (omega arith))
            | inr ne ↦
                let was = h.marked place d low (sym (taken-other s core after t place d low ne) ∙ is) in
                let within = was.1 in
                let start = t.same.0 in let end = t.same.1 in
                ((was.0, ne), omega arith, ap (first_of first) (same d ne) ∙ was.2 ∙ ap (λ (n : ℕ). Some (n + place)) (sym t.same.0))
          ];
          placed = λ d w. subst (λ parts. Placed after d (first_of first parts)) (sym (same d w.1))
              (still d (let l = w.0 in omega arith) w.1 (first_of first (parts_of d cores)) (h.placed d w.0));
        }
      where
        still : (d : ℕ) → d < 64 → d ≢ core → (n : Option ℕ) → Placed s d n → Placed after d n
        still d low ne None k = tt
        still d low ne (Some m) k = λ early.
            let start = t.same.0 in let end = t.same.1 in
            let was = k (omega arith) in
            let from : s.start + after.at ≤ m = no-earlier d (Some m) k in
            (omega arith, subst (λ n. has after.sets (m - n) d ≡ true) (sym start) (taken-other s core after t (m - s.start) d low ne ∙ was.1))

    -- the core is put in again, with other parts
    pub swept-again : (new : List (List P)) (put : Sweep) → new ≡ set cores core (parts_of core new) → IsPut after core (first_of first (parts_of core new)) put →
        IfSome (first_of first (parts_of core new)) (λ m. m < after.end → after.start + after.at ≤ m) → IsSwept first new (λ d. d < length new) put
    swept-again new put e p late =
        let long : length new ≡ length cores = ap (λ parts. length parts) e ∙ length-set cores core (parts_of core new) in
        swept-same new (λ d. ((d < length cores) × (d ≢ core)) ⊎ (d ≡ core)) (λ d. d < length new) put
        (λ d w. elim w [
          | inl u ↦ let l = u.0 in omega arith
          | inr same ↦ let l = is-core.0 in omega arith
        ])
        (λ d l. elim (cases_eq d core) [
          | inl same ↦ inr same
          | inr ne ↦ inl (omega arith, ne)
        ])
        (swept-put new (λ d. (d < length cores) × (d ≢ core)) core after put t.few (λ d w. let l = w.0 in omega arith) (λ w. w.1 refl)
        (swept-taken new (λ d ne. ap (parts_of d) e ∙ get_or-set_other cores core d (parts_of core new) [] ne)) p late)

-- a bound on a moment holds if the moment is before the end
pub late-before : (a end : ℕ) (n : Option ℕ) → IfSome n (λ t. a ≤ t) → IfSome n (λ t. t < end → a ≤ t)
late-before a end None l = tt
late-before a end (Some t) l = λ early. l
