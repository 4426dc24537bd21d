-- A tree of minima: its root is the minimum of all, and a change of a number changes only the nodes
-- on its way to the root.
use Rattle.std.proofs.Common.{◌≡◌, ℕ, zero, suc, ◌+◌, ◌-◌, ◌*◌, ◌/◌, ◌<◌, ◌≤◌, ◌≢◌, List, [], ◌∷◌, length, get_or, set, refl, sym, ap, ◌∙◌, inl, inr, arith, get_or-set_other, length-set, min}
use Rattle.std.proofs.lemmas.Bool.{cases_eq, cases_lt}
use Rattle.std.proofs.lemmas.Grind.{common_steps}
use Rattle.std.proofs.lemmas.List.{get_or-drop, get_or_past, drop-set-lt, drop-set-add, length-drop}
use Rattle.mcs_release.specs.stored.Least.{empty, leaves, least, least_child, IsLeast}

-- the minimum is at most each number, and is one of them
pub least-lower : (xs : List ℕ) (i : ℕ) → least xs ≤ get_or xs i empty
least-lower [] i = omega arith
least-lower (x ∷ xs) zero = omega arith
least-lower (x ∷ xs) (suc i) = omega (arith, least-lower xs i)

pub least-le-empty : (xs : List ℕ) → least xs ≤ empty
least-le-empty [] = omega arith
least-le-empty (x ∷ xs) = omega (arith, least-le-empty xs)

pub least-found : (xs : List ℕ) → least xs < empty → (i : ℕ) × (i < length xs) × (get_or xs i empty ≡ least xs)
least-found [] h = absurd (omega arith)
least-found (x ∷ xs) h = elim (cases_lt x (least xs)) [
  | inl less ↦ (zero, omega arith, omega arith)
  | inr more ↦
      let found = least-found xs (omega arith) in
      (suc found.0, omega (arith, found.1), omega (arith, found.2))
]

-- no node is less than the least of the children of its parent
child-least : (nodes : List ℕ) (node : ℕ) → least_child nodes (node / 4 + 2) ≤ get_or nodes node empty
child-least nodes node = grind arith

module _ (inner : ℕ) (nodes : List ℕ) (tree : IsLeast inner nodes) where
  -- no node is less than the root, ..
  root-lower : (n node : ℕ) → node ≤ n → 3 ≤ node → node < 4 * inner + 4 → get_or nodes 3 empty ≤ get_or nodes node empty
  root-lower zero node few from within = absurd (omega arith)
  root-lower (suc n) node few from within = elim (cases_eq node 3) [
    | inl e ↦ rw e (omega arith)
    | inr ne ↦ omega (arith, child-least nodes node, tree.each (node / 4 + 2) (omega arith) (omega arith), root-lower n (node / 4 + 2) (omega arith) (omega arith) (omega arith))
  ]

  -- .. and every node is at least the minimum of the numbers of all places
  leaves-lower : (n node : ℕ) → 4 * inner + 4 ≤ node + n → 3 ≤ node → least (leaves inner nodes) ≤ get_or nodes node empty
  leaves-lower zero node few from = omega (arith, get_or_past nodes node empty (omega (arith, tree.size)), least-le-empty (leaves inner nodes))
  leaves-lower (suc n) node few from =
      let lower : (child : ℕ) → node < child → least (leaves inner nodes) ≤ get_or nodes child empty = λ child more. leaves-lower n child (omega arith) (omega arith) in
      elim (cases_lt node (inner + 3)) [
        | inl below ↦ omega (arith, tree.each node from below, lower (4 * node - 8) (omega arith), lower (4 * node - 7) (omega arith), lower (4 * node - 6) (omega arith), lower (4 * node - 5) (omega arith))
        | inr leaf ↦
            let there : inner + 3 + (node - (inner + 3)) ≡ node = omega arith in
            omega (arith, least-lower (leaves inner nodes) (node - (inner + 3)), get_or-drop (inner + 3) nodes (node - (inner + 3)) empty, ap (λ (k : ℕ). get_or nodes k empty) there)
      ]

  -- the root is the least of the numbers of all places
  pub root-least : get_or nodes 3 empty ≤ empty → get_or nodes 3 empty ≡ least (leaves inner nodes)
  root-least h =
      let lower = leaves-lower (4 * inner + 4) 3 (omega arith) (omega arith) in
      elim (cases_lt (least (leaves inner nodes)) empty) [
        | inl some ↦
            let found = least-found (leaves inner nodes) some in
            let within : inner + 3 + found.0 < 4 * inner + 4 = omega (arith, tree.size, found.1, length-drop (inner + 3) nodes) in
            omega (arith, lower, found.2, get_or-drop (inner + 3) nodes found.0 empty, root-lower (inner + 3 + found.0) (inner + 3 + found.0) (omega arith) (omega arith) within)
        | inr none ↦ omega (arith, lower)
      ]

-- if a node changes, the minimum of children changes only at its parent
child-other : (nodes : List ℕ) (j p x : ℕ) → 3 ≤ p → p ≢ j / 4 + 2 → least_child (set nodes j x) p ≡ least_child nodes p
child-other nodes j p x inner apart = grind (arith, common_steps)

-- a node is lowered: the least of the children of its parent is lowered as far
child-lowered : (nodes : List ℕ) (j p x : ℕ) → 3 ≤ p → p ≡ j / 4 + 2 → j < length nodes → x ≤ get_or nodes j empty →
    least_child (set nodes j x) p ≡ min (least_child nodes p) x
child-lowered nodes j p x inner parent within less = grind (arith, common_steps)

-- the number of a place was lowered, and each node from it up to this one: only the parent of this
-- one may be too great
pub record IsRising (inner : ℕ) (start nodes : List ℕ) (place node number : ℕ) : Type 0 where
  pub size : length nodes ≡ 4 * inner + 4
  pub low : 3 ≤ node
  pub high : node < 4 * inner + 4
  pub others : (p : ℕ) → 3 ≤ p → p < inner + 3 → p ≢ node / 4 + 2 → get_or nodes p empty ≡ least_child nodes p
  pub above : (p : ℕ) → 3 ≤ p → p < inner + 3 → p ≡ node / 4 + 2 → min (get_or nodes p empty) number ≡ least_child nodes p
  pub placed : leaves inner nodes ≡ set (leaves inner start) place number

pub IsRising-start : (inner : ℕ) (nodes : List ℕ) (place number : ℕ) → IsLeast inner nodes → place ≤ 3 * inner →
    number ≤ get_or (leaves inner nodes) place empty → IsRising inner nodes (set nodes (inner + 3 + place) number) place (inner + 3 + place) number
IsRising-start inner nodes place number tree within less = record {
  size = omega (arith, tree.size, length-set nodes (inner + 3 + place) number);
  low = omega arith;
  high = omega arith;
  others = λ p from below apart.
      get_or-set_other nodes (inner + 3 + place) p number empty (omega arith) ∙ tree.each p from below ∙ sym (child-other nodes (inner + 3 + place) p number from apart);
  above = λ p from below parent. omega (
    arith,
    get_or-set_other nodes (inner + 3 + place) p number empty (omega arith),
    tree.each p from below,
    child-lowered nodes (inner + 3 + place) p number from parent (omega (arith, tree.size)) (omega (arith, get_or-drop (inner + 3) nodes place empty)),
  );
  placed = drop-set-add (inner + 3) nodes place number;
}

module _ (inner : ℕ) (start nodes : List ℕ) (place node number : ℕ) (rising : IsRising inner start nodes place node number) where
  -- its parent is no greater
  pub IsLeast-stop : get_or nodes (node / 4 + 2) empty ≤ number → IsLeast inner nodes
  IsLeast-stop less = record {
    size = rising.size;
    each = λ p from below. grind (arith, rising.above p from below, rising.others p from below);
  }

  pub IsLeast-risen : node ≤ 3 → IsLeast inner nodes
  IsLeast-risen root = record { size = rising.size; each = λ p from below. rising.others p from below (omega arith) }

  -- its parent is lowered
  pub IsRising-next : 3 < node → number < get_or nodes (node / 4 + 2) empty →
      IsRising inner start (set nodes (node / 4 + 2) number) place (node / 4 + 2) number
  IsRising-next more greater = record {
    size = omega (arith, rising.size, length-set nodes (node / 4 + 2) number);
    low = omega arith;
    high = omega (arith, rising.high);
    others = λ p from below apart. grind (arith, common_steps, rising.size, rising.high, rising.above p from below, rising.others p from below, child-other nodes (node / 4 + 2) p number from apart);
    above = λ p from below parent. omega (
      arith,
      get_or-set_other nodes (node / 4 + 2) p number empty (omega arith),
      rising.others p from below (omega arith),
      child-lowered nodes (node / 4 + 2) p number from parent (omega (arith, rising.size, rising.high)) (omega arith),
    );
    placed = drop-set-lt (inner + 3) nodes (node / 4 + 2) number (omega (arith, rising.high)) ∙ rising.placed;
  }

-- the place was emptied, and each node from it up to this one is the minimum of its children again:
-- only the parent of this one may be too small
pub record IsClearing (inner : ℕ) (start nodes : List ℕ) (place node : ℕ) : Type 0 where
  pub size : length nodes ≡ 4 * inner + 4
  pub low : 3 ≤ node
  pub high : node < 4 * inner + 4
  pub others : (p : ℕ) → 3 ≤ p → p < inner + 3 → p ≢ node / 4 + 2 → get_or nodes p empty ≡ least_child nodes p
  pub placed : leaves inner nodes ≡ set (leaves inner start) place empty

pub IsClearing-start : (inner : ℕ) (nodes : List ℕ) (place : ℕ) → IsLeast inner nodes → place ≤ 3 * inner →
    IsClearing inner nodes (set nodes (inner + 3 + place) empty) place (inner + 3 + place)
IsClearing-start inner nodes place tree within = record {
  size = omega (arith, tree.size, length-set nodes (inner + 3 + place) empty);
  low = omega arith;
  high = omega arith;
  others = λ p from below apart.
      get_or-set_other nodes (inner + 3 + place) p empty empty (omega arith) ∙ tree.each p from below ∙ sym (child-other nodes (inner + 3 + place) p empty from apart);
  placed = drop-set-add (inner + 3) nodes place empty;
}

module _ (inner : ℕ) (start nodes : List ℕ) (place node : ℕ) (clearing : IsClearing inner start nodes place node) where
  pub IsLeast-cleared : node ≤ 3 → IsLeast inner nodes
  IsLeast-cleared root = record { size = clearing.size; each = λ p from below. clearing.others p from below (omega arith) }

  pub IsClearing-next : 3 < node →
      IsClearing inner start (set nodes (node / 4 + 2) (least_child nodes (node / 4 + 2))) place (node / 4 + 2)
  IsClearing-next more = record {
    size = omega (arith, clearing.size, length-set nodes (node / 4 + 2) (least_child nodes (node / 4 + 2)));
    low = omega arith;
    high = omega (arith, clearing.high);
    others = λ p from below apart. grind (arith, common_steps, clearing.size, clearing.high, clearing.others p from below, child-other nodes (node / 4 + 2) p (least_child nodes (node / 4 + 2)) from apart);
    placed = drop-set-lt (inner + 3) nodes (node / 4 + 2) (least_child nodes (node / 4 + 2)) (omega (arith, clearing.high)) ∙ clearing.placed;
  }

-- the last i inner nodes are each the least of their children
pub record IsRebuilding (inner : ℕ) (start nodes : List ℕ) (i : ℕ) : Type 0 where
  pub size : length nodes ≡ 4 * inner + 4
  pub each : (p : ℕ) → 3 ≤ p → p < inner + 3 → inner + 3 ≤ p + i → get_or nodes p empty ≡ least_child nodes p
  pub placed : leaves inner nodes ≡ leaves inner start

pub IsRebuilding-start : (inner : ℕ) (nodes : List ℕ) → length nodes ≡ 4 * inner + 4 → IsRebuilding inner nodes nodes 0
IsRebuilding-start inner nodes size = record { size = size; each = λ p from below behind. absurd (omega arith); placed = refl }

pub IsRebuilding-next : (inner : ℕ) (start nodes : List ℕ) (i : ℕ) → IsRebuilding inner start nodes i → i < inner →
    IsRebuilding inner start (set nodes (inner + 2 - i) (least_child nodes (inner + 2 - i))) (i + 1)
IsRebuilding-next inner start nodes i rebuilding more = record {
  size = omega (arith, rebuilding.size, length-set nodes (inner + 2 - i) (least_child nodes (inner + 2 - i)));
  each = λ p from below behind. grind (arith, common_steps, rebuilding.size, rebuilding.each p from below, child-other nodes (inner + 2 - i) p (least_child nodes (inner + 2 - i)) from);
  placed = drop-set-lt (inner + 3) nodes (inner + 2 - i) (least_child nodes (inner + 2 - i)) (omega arith) ∙ rebuilding.placed;
}

pub IsLeast-rebuilt : (inner : ℕ) (start nodes : List ℕ) → IsRebuilding inner start nodes inner → IsLeast inner nodes
IsLeast-rebuilt inner start nodes rebuilding = record { size = rebuilding.size; each = λ p from below. rebuilding.each p from below (omega arith) }
