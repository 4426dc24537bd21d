-- The place of the first alarm that rings, and the tree of dates in which it is searched.
use Rattle.std.specs.Prelude.{◌≡◌, ℕ, zero, suc, ◌+◌, ◌*◌, ◌/◌, ◌<◌, ◌≤◌, ◌⊎◌, true, false, List, length, get_or, set, Option, Some, None}
use Rattle.mcs_ticks.specs.Soonest.{sooner, HasCome}
use Rattle.mcs_core.specs.Alarms.{rings, rung, first_ringing, with_first_rung, no_alarm}
use Rattle.mcs_core.specs.declared.alarm.Alarm.{Alarm}

abbrev pub alarm_at : List Alarm → ℕ → Alarm
alarm_at alarms k = get_or alarms k no_alarm

-- the alarms before the n-th do not ring
abbrev pub AreSilent : ℕ → List Alarm → ℕ → Type 0
AreSilent t alarms n = (k : ℕ) → k < n → rings t (alarm_at alarms k) ≡ false

abbrev pub IsFirstPlace : ℕ → List Alarm → Option ℕ → Type 0
IsFirstPlace t alarms None = first_ringing t alarms ≡ None
IsFirstPlace t alarms (Some k) =
    (k < length alarms)
    × (rings t (alarm_at alarms k) ≡ true)
    × (first_ringing t alarms ≡ Some (alarm_at alarms k))
    × (with_first_rung t alarms ≡ set alarms k (rung (alarm_at alarms k)))
    × AreSilent t alarms k

-- the children of node n are nodes 2 n and 2 n + 1: the first leaf below a node, a number of levels down
abbrev pub first_leaf : ℕ → ℕ → ℕ
first_leaf zero node = node
first_leaf (suc levels) node = first_leaf levels (2 * node)

abbrev pub date_at : List (Option ℕ) → ℕ → Option ℕ
date_at tree node = get_or tree node None

-- the sooner date of the two children of a node
abbrev pub joined : List (Option ℕ) → ℕ → Option ℕ
joined tree node = sooner (date_at tree (2 * node)) (date_at tree (2 * node + 1))

-- the leaves, which follow the nodes above them: the date of each alarm, then never
pub record AreLeaves (leaves : ℕ) (tree : List (Option ℕ)) (alarms : List Alarm) : Type 0 where
  pub many : length tree ≡ 2 * leaves
  pub each : (k : ℕ) → k < leaves → date_at tree (leaves + k) ≡ (alarm_at alarms k).date

-- the nodes above the leaves: each has the sooner date of its children
abbrev pub AreNodes : ℕ → List (Option ℕ) → Type 0
AreNodes leaves tree = (n : ℕ) → 1 ≤ n → n < leaves → date_at tree n ≡ joined tree n

-- each of them but the parent of node `changed`
abbrev pub AreOtherNodes : ℕ → ℕ → List (Option ℕ) → Type 0
AreOtherNodes changed leaves tree = (n : ℕ) → 1 ≤ n → n < leaves → (n ≡ changed / 2 → ⊥) → date_at tree n ≡ joined tree n

-- two trees with the same leaves
pub record AreSameLeaves (leaves : ℕ) (tree other : List (Option ℕ)) : Type 0 where
  pub many : length other ≡ length tree
  pub each : (n : ℕ) → leaves ≤ n → date_at other n ≡ date_at tree n

-- the tree of the dates of alarms: node 1 is its root
pub record IsTree (levels : ℕ) (tree : List (Option ℕ)) (alarms : List Alarm) : Type 0 where
  pub room : length alarms ≤ first_leaf levels 1
  pub leaves : AreLeaves (first_leaf levels 1) tree alarms
  pub nodes : AreNodes (first_leaf levels 1) tree

-- the levels of a tree for these alarms, and its leaves
abbrev pub IsSize : List Alarm → ℕ × ℕ → Type 0
IsSize alarms (levels, leaves) =
    (leaves ≡ first_leaf levels 1) × (length alarms ≤ leaves) × (leaves ≤ 2 * length alarms + 1)

-- the first child of a node if its date has come, or else the second
abbrev pub IsChild : ℕ → List (Option ℕ) → ℕ → ℕ → Type 0
IsChild t tree node child =
    ((child ≡ 2 * node) × HasCome t (date_at tree (2 * node)))
    ⊎ ((child ≡ 2 * node + 1) × (HasCome t (date_at tree (2 * node)) → ⊥))
