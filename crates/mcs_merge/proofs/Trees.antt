-- A tree of heads with the least at its root.
use Rattle.std.proofs.Common.{◌≡◌, ◌≢◌, ℕ, zero, suc, ◌+◌, ◌-◌, ◌⊎◌, ◌*◌, ◌/◌, ◌%◌, ◌<◌, ◌≤◌, Bool, true, false, cond, ltb, List, length, set, drop, replicate, inl, inr, refl, sym, ap, ◌∙◌, subst, arith, get_or-set_same, get_or-set_other, length-drop}
use Rattle.std.specs.Prelude.{Contains}
use Rattle.std.proofs.lemmas.Bool.{cases_eq, cases_lt}
use Rattle.std.proofs.lemmas.Bool.Decides.{nat_tests}
use Rattle.std.proofs.lemmas.List.{length-set, length-replicate, get_or-drop, get_or-replicate, get_or_default, get_or_past, drop-set-add, drop-set-lt, drop-replicate}
use Rattle.mcs_merge.specs.declared.heads.Head.{Head}
use Rattle.mcs_merge.specs.stored.Heads.{far, head_at, least_below, lesser, IsTree}

trans : (a b c : ℕ) → a ≤ b → b ≤ c → a ≤ c
trans a b c l m = omega arith

itself : (a : ℕ) → a ≤ a
itself a = omega arith

-- the lesser comes no later than each, and is one of them
lesser-first : (a b : Head) → (lesser a b).rank ≤ a.rank
lesser-first a b = by (ltb b.rank a.rank) refl
  where
    by : (t : Bool) → ltb b.rank a.rank ≡ t → (cond t b a).rank ≤ a.rank
    by true e = grind (arith, nat_tests)
    by false e = omega arith

lesser-second : (a b : Head) → (lesser a b).rank ≤ b.rank
lesser-second a b = by (ltb b.rank a.rank) refl
  where
    by : (t : Bool) → ltb b.rank a.rank ≡ t → (cond t b a).rank ≤ b.rank
    by true e = omega arith
    by false e = grind (arith, nat_tests)

lesser-one : (a b : Head) → (lesser a b ≡ a) ⊎ (lesser a b ≡ b)
lesser-one a b = by (ltb b.rank a.rank)
  where
    by : (t : Bool) → (cond t b a ≡ a) ⊎ (cond t b a ≡ b)
    by true = inr refl
    by false = inl refl

-- which of the four below the place above it a place is
which : (j : ℕ) → 1 ≤ j → (j ≡ 4 * ((j - 1) / 4) + 1) ⊎ (j ≡ 4 * ((j - 1) / 4) + 2) ⊎ (j ≡ 4 * ((j - 1) / 4) + 3) ⊎ (j ≡ 4 * ((j - 1) / 4) + 4)
which j l = elim (cases_eq ((j - 1) % 4) 0) [
  | inl e ↦ inl (omega arith)
  | inr e ↦ elim (cases_eq ((j - 1) % 4) 1) [
    | inl f ↦ inr (inl (omega arith))
    | inr f ↦ elim (cases_eq ((j - 1) % 4) 2) [ inl g ↦ inr (inr (inl (omega arith))) | inr g ↦ inr (inr (inr (omega arith))) ]
  ]
]

module _ (nodes : List Head) where
  -- the least of four comes no later than each ..
  below-least : (j : ℕ) → 1 ≤ j → (least_below ((j - 1) / 4) nodes).rank ≤ (head_at j nodes).rank
  below-least j l = by ((j - 1) / 4) (which j l)
    where
      by : (i : ℕ) → (j ≡ 4 * i + 1) ⊎ (j ≡ 4 * i + 2) ⊎ (j ≡ 4 * i + 3) ⊎ (j ≡ 4 * i + 4) → (least_below i nodes).rank ≤ (head_at j nodes).rank
      by i (inl e) = subst (λ k. (least_below i nodes).rank ≤ (head_at k nodes).rank) (sym e) (trans _ _ _ (lesser-first _ _) (trans _ _ _ (lesser-first _ _) (lesser-first _ _)))
      by i (inr (inl e)) = subst (λ k. (least_below i nodes).rank ≤ (head_at k nodes).rank) (sym e) (trans _ _ _ (lesser-first _ _) (trans _ _ _ (lesser-first _ _) (lesser-second _ _)))
      by i (inr (inr (inl e))) = subst (λ k. (least_below i nodes).rank ≤ (head_at k nodes).rank) (sym e) (trans _ _ _ (lesser-first _ _) (lesser-second _ _))
      by i (inr (inr (inr e))) = subst (λ k. (least_below i nodes).rank ≤ (head_at k nodes).rank) (sym e) (lesser-second _ _)

  -- .. and is one of them
  below-one : (i : ℕ) → (k : ℕ) × (4 * i + 1 ≤ k) × (k ≤ 4 * i + 4) × (head_at k nodes ≡ least_below i nodes)
  below-one i = by (lesser-one _ _) (lesser-one _ _) (lesser-one _ _)
    where
      by : let a = head_at (4 * i + 1) nodes in let b = head_at (4 * i + 2) nodes in let c = head_at (4 * i + 3) nodes in let d = head_at (4 * i + 4) nodes in
          (lesser a b ≡ a) ⊎ (lesser a b ≡ b) → (lesser (lesser a b) c ≡ lesser a b) ⊎ (lesser (lesser a b) c ≡ c) →
          (least_below i nodes ≡ lesser (lesser a b) c) ⊎ (least_below i nodes ≡ d) → (k : ℕ) × (4 * i + 1 ≤ k) × (k ≤ 4 * i + 4) × (head_at k nodes ≡ least_below i nodes)
      by e f (inr g) = (4 * i + 4, omega arith, omega arith, sym g)
      by e (inr f) (inl g) = (4 * i + 3, omega arith, omega arith, sym (g ∙ f))
      by (inr e) (inl f) (inl g) = (4 * i + 2, omega arith, omega arith, sym (g ∙ f ∙ e))
      by (inl e) (inl f) (inl g) = (4 * i + 1, omega arith, omega arith, sym (g ∙ f ∙ e))

-- other nodes with the same four below a place
below-same : (i : ℕ) (a b : List Head) → ((k : ℕ) → 4 * i + 1 ≤ k → k ≤ 4 * i + 4 → head_at k a ≡ head_at k b) → least_below i a ≡ least_below i b
below-same i a b h = by _ _ _ _ _ _ _ _ (h (4 * i + 1) (omega arith) (omega arith)) (h (4 * i + 2) (omega arith) (omega arith)) (h (4 * i + 3) (omega arith) (omega arith)) (h (4 * i + 4) (omega arith) (omega arith))
  where
    by : (p q r s t u v w : Head) → p ≡ t → q ≡ u → r ≡ v → s ≡ w → lesser (lesser (lesser p q) r) s ≡ lesser (lesser (lesser t u) v) w
    by p q r s t u v w e f g k = rw (e, f, g, k) refl

-- while a place is written, all but what stands above it is as in a tree
pub record IsPlaying (inner place core : ℕ) (head : Head) (old nodes : List Head) : Type 0 where
  pub within : place ≤ 4 * inner
  pub wide : length nodes ≡ 4 * inner + 1
  pub others : (i : ℕ) → i < inner → (1 ≤ place → i ≢ (place - 1) / 4) → head_at i nodes ≡ least_below i nodes
  pub leaves : drop inner nodes ≡ set (drop inner old) core head

-- what is written is below no other place
other-below : (i place : ℕ) (nodes : List Head) (head : Head) → (1 ≤ place → i ≢ (place - 1) / 4) → least_below i (set nodes place head) ≡ least_below i nodes
other-below i place nodes head apart =
    below-same i (set nodes place head) nodes (λ k l m. get_or-set_other nodes place k head far (λ e. apart (omega arith) (omega arith)))

pub IsPlaying-starts : (inner core : ℕ) (head : Head) (old : List Head) → IsTree inner old → inner + core < length old → IsPlaying inner (inner + core) core head old (set old (inner + core) head)
IsPlaying-starts inner core head old h l =
    record {
      within = let wide = h.wide in omega arith;
      wide = length-set old (inner + core) head ∙ h.wide;
      others = λ i p apart. get_or-set_other old (inner + core) i head far (omega arith) ∙ h.least i p ∙ sym (other-below i (inner + core) old head apart);
      leaves = drop-set-add inner old core head;
    }

pub IsPlaying-up : (inner place core : ℕ) (head : Head) (old nodes : List Head) (q : ℕ) (best : Head) → IsPlaying inner place core head old nodes → 1 ≤ place → q ≡ (place - 1) / 4 →
    best ≡ least_below q nodes → IsPlaying inner q core head old (set nodes q best)
IsPlaying-up inner place core head old nodes q best h l e b =
    record {
      within = let within = h.within in omega arith;
      wide = length-set nodes q best ∙ h.wide;
      others = λ i p apart.
          elim (cases_eq i q) [
            | inl s ↦ subst (λ k. head_at k (set nodes q best) ≡ least_below k (set nodes q best)) (sym s)
                (get_or-set_same nodes q best far (let within = h.within in let wide = h.wide in omega arith) ∙ b ∙ sym (other-below q q nodes best (λ m. omega arith)))
            | inr s ↦ get_or-set_other nodes q i best far s ∙ h.others i p (λ m f. s (f ∙ sym e)) ∙ sym (other-below i q nodes best apart)
          ];
      leaves = drop-set-lt inner nodes q best (let within = h.within in omega arith) ∙ h.leaves;
    }

module _ (inner : ℕ) (nodes : List Head) (h : IsTree inner nodes) where
  -- the root comes no later than any place ..
  root-first : (fuel j : ℕ) → j ≤ fuel → j ≤ 4 * inner → (head_at 0 nodes).rank ≤ (head_at j nodes).rank
  root-first zero j l m = subst (λ i. (head_at 0 nodes).rank ≤ (head_at i nodes).rank) (let e : 0 ≡ j = omega arith in e) (itself _)
  root-first (suc fuel) j l m = by (cases_lt 0 j) (root-first fuel ((j - 1) / 4))
    where
      by : (0 < j) ⊎ (j ≤ 0) → ((j - 1) / 4 ≤ fuel → (j - 1) / 4 ≤ 4 * inner → (head_at 0 nodes).rank ≤ (head_at ((j - 1) / 4) nodes).rank) →
          (head_at 0 nodes).rank ≤ (head_at j nodes).rank
      by (inl o) i =
          trans _ _ _ (i (omega arith) (omega arith))
          (subst (λ (x : Head). x.rank ≤ (head_at j nodes).rank) (sym (h.least ((j - 1) / 4) (omega arith))) (below-least nodes j (omega arith)))
      by (inr o) i = subst (λ i. (head_at 0 nodes).rank ≤ (head_at i nodes).rank) (let e : 0 ≡ j = omega arith in e) (itself _)

  pub root-least : (root : Head) → root ≡ head_at 0 nodes → (core : ℕ) → core < length (drop inner nodes) → root.rank ≤ (head_at core (drop inner nodes)).rank
  root-least root e core l =
      let wide = h.wide in
      let within : inner + core ≤ 4 * inner = omega (arith, l, length-drop inner nodes) in
      subst (λ (x : Head). x.rank ≤ (head_at core (drop inner nodes)).rank) (sym e)
      (subst (λ (x : Head). (head_at 0 nodes).rank ≤ x.rank) (sym (get_or-drop inner nodes core far)) (root-first (inner + core) (inner + core) (omega arith) within))

  -- .. and is a leaf
  leaf-below : (fuel j : ℕ) → 4 * inner + 1 ≤ j + fuel → j ≤ 4 * inner → (k : ℕ) × (inner + k ≤ 4 * inner) × (head_at (inner + k) nodes ≡ head_at j nodes)
  leaf-below zero j l m = absurd (omega arith)
  leaf-below (suc fuel) j l m = by (cases_lt j inner) (leaf-below fuel)
    where
      by : (j < inner) ⊎ (inner ≤ j) → ((i : ℕ) → 4 * inner + 1 ≤ i + fuel → i ≤ 4 * inner → (k : ℕ) × (inner + k ≤ 4 * inner) × (head_at (inner + k) nodes ≡ head_at i nodes)) →
          (k : ℕ) × (inner + k ≤ 4 * inner) × (head_at (inner + k) nodes ≡ head_at j nodes)
      by (inl p) i =
          let below = below-one nodes j in
          let from = below.1 in
          let to = below.2 in
          let r = i below.0 (omega arith) (omega arith) in
          (r.0, r.1, r.2 ∙ below.3 ∙ sym (h.least j p))
      by (inr p) i =
          let e : j ≡ inner + (j - inner) = omega arith in
          (j - inner, omega arith, ap (λ i. head_at i nodes) (sym e))

  pub root-among : (root : Head) → root ≡ head_at 0 nodes → Contains (drop inner nodes) root
  root-among root e =
      let r = leaf-below (4 * inner + 1) 0 (omega arith) (omega arith) in
      let l = r.1 in
      let wide = h.wide in (
        r.0,
        omega (arith, length-drop inner nodes),
        get_or-drop inner nodes r.0 root ∙ get_or_default nodes (inner + r.0) root far (omega arith) ∙ r.2 ∙ sym e,
      )

-- nodes that are all far are a tree
pub IsTree-far : (inner : ℕ) → IsTree inner (replicate (4 * inner + 1) far)
IsTree-far inner =
    record {
      wide = length-replicate (4 * inner + 1) far;
      least = λ i p. all i ∙ sym (rw (all (4 * i + 1), all (4 * i + 2), all (4 * i + 3), all (4 * i + 4)) refl);
    }
  where
    all : (i : ℕ) → head_at i (replicate (4 * inner + 1) far) ≡ far
    all i = elim (cases_lt i (4 * inner + 1)) [
      | inl k ↦ get_or-replicate (4 * inner + 1) i far far k
      | inr k ↦ get_or_past (replicate (4 * inner + 1) far) i far (omega (arith, length-replicate (4 * inner + 1) far))
    ]

pub leaves-far : (inner : ℕ) (nodes : List Head) → nodes ≡ replicate (4 * inner + 1) far → drop inner nodes ≡ replicate (length (drop inner nodes)) far
leaves-far inner nodes e =
    by (drop inner nodes) (4 * inner + 1 - inner) (ap (drop inner) e ∙ drop-replicate inner (4 * inner + 1) far)
  where
    by : (heads : List Head) (n : ℕ) → heads ≡ replicate n far → heads ≡ replicate (length heads) far
    by heads n f = f ∙ ap (λ m. replicate m far) (sym (ap (λ (xs : List Head). length xs) f ∙ length-replicate n far))
