-- The next core, if the heads have the first moments of parts.
use Rattle.std.proofs.Common.{◌≡◌, ℕ, zero, suc, ◌*◌, ◌^◌, ◌<◌, ◌≤◌, inl, inr, true, false, List, [], ◌∷◌, length, get_or, set, Option, Some, None, refl, sym, ap, ◌∙◌, subst, arith, get_or-set_same, get_or-set_other}
use Rattle.std.specs.Prelude.{Contains, IfSome, nat_lt, map}
use Rattle.std.proofs.lemmas.Bool.{cases_eq, cases_lt}
use Rattle.std.proofs.lemmas.Bool.Decides.{nat_tests}
use Rattle.std.proofs.lemmas.List.{length-set, get_or_default}
use Rattle.mcs_merge.specs.declared.heads.Head.{Head}
use Rattle.mcs_merge.specs.Parts.{first_of, parts_of}
use Rattle.mcs_merge.specs.stored.Heads.{core_of, far, head_at, head_of_next}
use Rattle.mcs_merge.specs.stored.Parts.{left_of, left_of_all, AreNext, IsInLine, IsNextCore, NoneBefore}

-- fewer moments of one core are fewer of all
pub fewer-of-all : {P : Type 0} (left : P → ℕ) (cores : List (List P)) (core : ℕ) (new : List P) → core < length cores → left_of left new < left_of left (get_or cores core []) →
    left_of_all left (set cores core new) < left_of_all left cores
fewer-of-all left [] core new l h = absurd (omega arith)
fewer-of-all left (parts ∷ cores) zero new l h = omega arith
fewer-of-all left (parts ∷ cores) (suc core) new l h = let less = fewer-of-all left cores core new (omega arith) h in omega arith

-- a single part follows no empty one
pub alone-in-line : {P : Type 0} (first : P → Option ℕ) (parts : List P) (core : ℕ) → IsInLine first (parts_of core (map (λ part. part ∷ []) parts))
alone-in-line first [] core = tt
alone-in-line first (part ∷ parts) zero = λ none. refl
alone-in-line first (part ∷ parts) (suc core) = alone-in-line first parts core

core-of-next : (core t : ℕ) → core < 64 → core_of (head_of_next core (Some t)) ≡ core
core-of-next core t l = omega arith

moment-before : (core : ℕ) (next : Option ℕ) (until : ℕ) → until ≤ 2 ^ 42 → core < 64 → (head_of_next core next).rank < 64 * until → (t : ℕ) × (next ≡ Some t) × (t < until)
moment-before core None until m l h = absurd (omega arith)
moment-before core (Some t) until m l h = (t, refl, omega arith)

no-later : (c d t : ℕ) (next : Option ℕ) → d < 64 → (head_of_next c (Some t)).rank ≤ (head_of_next d next).rank → IfSome next (λ other. t ≤ other)
no-later c d t None l h = tt
no-later c d t (Some other) l h = omega arith

earlier : (c d t : ℕ) (next : Option ℕ) → d < c → c < 64 → (head_of_next c (Some t)).rank ≤ (head_of_next d next).rank → IfSome next (λ other. t < other)
earlier c d t None l k h = tt
earlier c d t (Some other) l k h = omega arith

not-before : (d until rank : ℕ) (next : Option ℕ) → d < 64 → 64 * until ≤ rank → rank ≤ (head_of_next d next).rank → IfSome next (λ other. until ≤ other)
not-before d until rank None l m h = tt
not-before d until rank (Some other) l m h = omega arith

module _ {P : Type 0} (first : P → Option ℕ) (cores : List (List P)) (heads : List Head) (h : AreNext first cores heads) where
  module _ (head : Head) (among : Contains heads head) (least : (core : ℕ) → core < length heads → head.rank ≤ (head_at core heads).rank) where
    -- if it is before a moment, it belongs to a core
    within : (until : ℕ) → until ≤ 2 ^ 42 → head.rank < 64 * until → among.0 < length cores
    within until m l = elim (cases_lt among.0 (length cores)) [
      | inl k ↦ k
      | inr k ↦
          let is : head ≡ far = sym among.2 ∙ get_or_default heads among.0 head far among.1 ∙ h.others among.0 k among.1 in
          let late : far.rank < 64 * until = subst (λ (x : Head). x.rank < 64 * until) is l in
          absurd (omega arith)
    ]

    head-is : among.0 < length cores → head ≡ head_of_next among.0 (first_of first (parts_of among.0 cores))
    head-is k = sym among.2 ∙ get_or_default heads among.0 head far among.1 ∙ h.each among.0 k

    least-of : (d : ℕ) → d < length cores → head.rank ≤ (head_of_next d (first_of first (parts_of d cores))).rank
    least-of d l = subst (λ (x : Head). head.rank ≤ x.rank) (h.each d l) (least d (let enough = h.enough in omega arith))

    pub next-core : (until core : ℕ) → until ≤ 2 ^ 42 → nat_lt head.rank (64 * until) ≡ true → core ≡ core_of head → IsNextCore first cores until core
    next-core until core m e is =
        let k = among.0 in
        let early : head.rank < 64 * until = grind (arith, nat_tests) in
        let is_core = within until m early in
        let few : k < 64 = (let few = h.few in omega arith) in
        let lies : (head_of_next k (first_of first (parts_of k cores))).rank < 64 * until = subst (λ (x : Head). x.rank < 64 * until) (head-is is_core) early in
        let found = moment-before k (first_of first (parts_of k cores)) until m few lies in
        let head_is : head ≡ head_of_next k (Some found.0) = head-is is_core ∙ ap (head_of_next k) found.1 in
        let core_is : core ≡ k = is ∙ ap core_of head_is ∙ core-of-next k found.0 few in
        let by : (d : ℕ) → d < length cores → (head_of_next k (Some found.0)).rank ≤ (head_of_next d (first_of first (parts_of d cores))).rank =
        λ d l. subst (λ (x : Head). x.rank ≤ (head_of_next d (first_of first (parts_of d cores))).rank) head_is (least-of d l)
        in
        let total = h.few in
        subst (IsNextCore first cores until) (sym core_is)
        (record {
          within = is_core;
          moment = found.0;
          is = found.1;
          before = found.2;
          least = λ d l. no-later k d found.0 (first_of first (parts_of d cores)) (omega arith) (by d l);
          lower = λ d l. earlier k d found.0 (first_of first (parts_of d cores)) l few (by d (omega arith));
        })

  -- other parts of a core, and their head
  pub AreNext-set : (core : ℕ) (parts : List P) (head : Head) → core < length cores → IsInLine first parts → head ≡ head_of_next core (first_of first parts) →
      AreNext first (set cores core parts) (set heads core head)
  AreNext-set core parts head l line is =
      record {
        few = (let few = h.few in omega (arith, length-set cores core parts));
        enough = (let enough = h.enough in omega (arith, length-set cores core parts, length-set heads core head));
        each = λ d p. elim (cases_eq d core) [
          | inl e ↦ subst (λ i. head_at i (set heads core head) ≡ head_of_next i (first_of first (get_or (set cores core parts) i []))) (sym e)
              (get_or-set_same heads core head far (let enough = h.enough in omega arith) ∙ is
              ∙ sym (ap (λ parts. head_of_next core (first_of first parts)) (get_or-set_same cores core parts [] l)))
          | inr e ↦ get_or-set_other heads core d head far e ∙ h.each d (omega (arith, length-set cores core parts))
              ∙ sym (ap (λ parts. head_of_next d (first_of first parts)) (get_or-set_other cores core d parts [] e))
        ];
        others = λ i p q. get_or-set_other heads core i head far (λ e. omega (arith, length-set cores core parts))
            ∙ h.others i (omega (arith, length-set cores core parts)) (omega (arith, length-set heads core head));
        in_line = λ d p. elim (cases_eq d core) [
          | inl e ↦ subst (λ i. IsInLine first (get_or (set cores core parts) i [])) (sym e)
              (subst (IsInLine first) (sym (get_or-set_same cores core parts [] l)) line)
          | inr e ↦ subst (IsInLine first) (sym (get_or-set_other cores core d parts [] e)) (h.in_line d (omega (arith, length-set cores core parts)))
        ];
      }

-- a change of one core's parts keeps all cores in line
pub line-set : {P : Type 0} (first : P → Option ℕ) (cores new : List (List P)) (core : ℕ) → ((d : ℕ) → d < length cores → IsInLine first (parts_of d cores)) →
    new ≡ set cores core (parts_of core new) → IsInLine first (parts_of core new) → (d : ℕ) → d < length new → IsInLine first (parts_of d new)
line-set first cores new core h e line d l = elim (cases_eq d core) [
  | inl same ↦ subst (λ k. IsInLine first (parts_of k new)) (sym same) line
  | inr ne ↦ subst (λ parts. IsInLine first parts) (sym (ap (parts_of d) e ∙ get_or-set_other cores core d (parts_of core new) [] ne))
      (h d (omega (arith, l, ap (λ xs. length xs) e, length-set cores core (parts_of core new))))
]
