-- The tree of a core's dates: what its nodes tell of its leaves.
use Rattle.std.proofs.Common.{◌≡◌, ℕ, zero, suc, ◌+◌, ◌-◌, ◌*◌, ◌/◌, ◌<◌, ◌≤◌, ◌⊎◌, inl, inr, Bool, true, false, cond, List, [], ◌∷◌, length, set, refl, sym, ap, subst, ◌∙◌, arith}
use Rattle.std.specs.Prelude.{nat_lt, Option, Some, None}
use Rattle.std.proofs.lemmas.Bool.{cases_lt, cases_eq}
use Rattle.std.proofs.lemmas.Bool.Decides.{nat_tests}
use Rattle.std.proofs.lemmas.List.{get_or-set_same, get_or-set_other, length-set}
use Rattle.mcs_ticks.specs.Soonest.{sooner, HasCome}
use Rattle.mcs_core.specs.Alarms.{has_come, rings, first_date, first_ringing, no_alarm}
use Rattle.mcs_core.specs.declared.alarm.Alarm.{Alarm}
use Rattle.mcs_core.specs.stored.Places.{alarm_at, first_leaf, date_at, joined, AreNodes, AreOtherNodes, AreSameLeaves, IsTree, IsChild, AreSilent, IsFirstPlace}
use Rattle.mcs_core.proofs.Firsts.{not_le}
use Rattle.mcs_core.proofs.Ringing.{at-place, no-place, none-come}

-- a tree with 3 levels below its root has 8 leaves, and those below node 5 begin with node 10
first_leaf-example : (first_leaf 3 1 ≡ 8) × (first_leaf 1 5 ≡ 10)
first_leaf-example = (refl, refl)

-- alarms at 5, 3 and 9 have a tree of two levels: the soonest date of the first two is 3, and so is that of all
abbrev alarm : ℕ → Alarm
alarm date = record { source = 0; note = 0; badge = 1; date = Some date; period = 10; left = 0 }

abbrev three : List Alarm
three = alarm 5 ∷ alarm 3 ∷ alarm 9 ∷ []

abbrev its_tree : List (Option ℕ)
its_tree = None ∷ Some 3 ∷ Some 3 ∷ Some 9 ∷ Some 5 ∷ Some 3 ∷ Some 9 ∷ None ∷ []

tree-example : IsTree 2 its_tree three
tree-example = record { room = omega arith; leaves = record { many = refl; each = leaf }; nodes = node }
  where
    leaf : (k : ℕ) → k < 4 → date_at its_tree (4 + k) ≡ (alarm_at three k).date
    leaf zero l = refl
    leaf (suc zero) l = refl
    leaf (suc (suc zero)) l = refl
    leaf (suc (suc (suc zero))) l = refl
    leaf (suc (suc (suc (suc k)))) l = absurd (omega (arith, l))

    node : (n : ℕ) → 1 ≤ n → n < 4 → date_at its_tree n ≡ joined its_tree n
    node zero one l = absurd (omega (arith, one))
    node (suc zero) one l = refl
    node (suc (suc zero)) one l = refl
    node (suc (suc (suc zero))) one l = refl
    node (suc (suc (suc (suc n)))) one l = absurd (omega (arith, l))

-- a level more has twice as many leaves
pub leaf-double : (levels node : ℕ) → first_leaf levels (2 * node) ≡ 2 * first_leaf levels node
leaf-double zero node = refl
leaf-double (suc levels) node = leaf-double levels (2 * node)

pub leaf-above : (levels node : ℕ) → node ≤ first_leaf levels node
leaf-above zero node = omega arith
leaf-above (suc levels) node = let i = leaf-above levels (2 * node) in omega (arith, i)

leaf-next : (levels node : ℕ) → first_leaf levels node ≤ first_leaf levels (node + 1)
leaf-next zero node = omega arith
leaf-next (suc levels) node =
    let last : 2 * node + 1 + 1 ≡ 2 * (node + 1) = omega arith in
    let P : ℕ → Type 0 = λ n. first_leaf levels (2 * node + 1) ≤ first_leaf levels n in
    let i = leaf-next levels (2 * node) in
    let j = subst P last (leaf-next levels (2 * node + 1)) in
    omega (arith, i, j)

half-within : (levels more node : ℕ) → first_leaf (suc more) (node + 1) ≤ first_leaf levels 2 → first_leaf more (2 * node + 1) ≤ first_leaf levels 2
half-within levels more node l =
    let last : 2 * node + 1 + 1 ≡ 2 * (node + 1) = omega arith in
    let P : ℕ → Type 0 = λ n. first_leaf more (2 * node + 1) ≤ first_leaf more n in
    let j = subst P last (leaf-next more (2 * node + 1)) in
    omega (arith, l, j)

last-within : (levels more node : ℕ) → first_leaf (suc more) (node + 1) ≤ first_leaf levels 2 → first_leaf more (2 * node + 1 + 1) ≤ first_leaf levels 2
last-within levels more node l =
    let last : 2 * (node + 1) ≡ 2 * node + 1 + 1 = omega arith in
    let P : ℕ → Type 0 = λ n. first_leaf more n ≤ first_leaf levels 2 in
    subst P last l

-- a node whose leaves are among those of the tree stands above them
pub node-above : (levels more node : ℕ) → first_leaf (suc more) (node + 1) ≤ first_leaf levels 2 → node < first_leaf levels 1
node-above levels more node l = omega (arith, l, leaf-above more (2 * (node + 1)), leaf-double levels 1)

-- the sooner of two dates has come if one of them has
come-left : (t : ℕ) (a b : Option ℕ) → HasCome t a → HasCome t (sooner a b)
come-left t None b h = absurd h
come-left t (Some x) None h = h
come-left t (Some x) (Some y) h = by (nat_lt y x) refl
  where
    by : (z : Bool) → nat_lt y x ≡ z → cond z y x ≤ t
    by true e = grind (arith, nat_tests, h)
    by false e = h

come-right : (t : ℕ) (a b : Option ℕ) → HasCome t b → HasCome t (sooner a b)
come-right t None b h = h
come-right t (Some x) None h = absurd h
come-right t (Some x) (Some y) h = by (nat_lt y x) refl
  where
    by : (z : Bool) → nat_lt y x ≡ z → cond z y x ≤ t
    by true e = h
    by false e = grind (arith, nat_tests, h)

come-either : (t : ℕ) (a b : Option ℕ) → HasCome t (sooner a b) → HasCome t a ⊎ HasCome t b
come-either t None b h = inr h
come-either t (Some x) None h = inl h
come-either t (Some x) (Some y) h = by (nat_lt y x) h
  where
    by : (z : Bool) → cond z y x ≤ t → (x ≤ t) ⊎ (y ≤ t)
    by true k = inr k
    by false k = inl k

-- dates that have come at the same moments are the same
same-date : (a b : Option ℕ) → ((t : ℕ) → HasCome t a → HasCome t b) → ((t : ℕ) → HasCome t b → HasCome t a) → a ≡ b
same-date None None f g = refl
same-date None (Some y) f g = absurd (g y (omega arith))
same-date (Some x) None f g = absurd (f x (omega arith))
same-date (Some x) (Some y) f g =
    let p : y ≤ x = f x (omega arith) in
    let q : x ≤ y = g y (omega arith) in
    let e : x ≡ y = omega (arith, p, q) in ap Some e

-- if a leaf has come so has each node above it
pub node-come : (t levels : ℕ) (tree : List (Option ℕ)) → AreNodes (first_leaf levels 1) tree → (more node leaf : ℕ) → 1 ≤ node → first_leaf more (node + 1) ≤ first_leaf levels 2 →
    first_leaf more node ≤ leaf → leaf < first_leaf more (node + 1) → HasCome t (date_at tree leaf) → HasCome t (date_at tree node)
node-come t levels tree are zero node leaf one l low high h =
    let e : leaf ≡ node = omega (arith, low, high) in
    let P : ℕ → Type 0 = λ n. HasCome t (date_at tree n) in
    subst P e h
node-come t levels tree are (suc more) node leaf one l low high h =
    let P : Option ℕ → Type 0 = HasCome t in
    let last : 2 * (node + 1) ≡ 2 * node + 1 + 1 = omega arith in
    let Q : ℕ → Type 0 = λ n. leaf < first_leaf more n in
    subst P (sym (are node one (node-above levels more node l)))
    (by (cases_lt leaf (first_leaf more (2 * node + 1)))
    (λ left. node-come t levels tree are more (2 * node) leaf (omega (arith, one)) (half-within levels more node l) low left h)
    (λ right. node-come t levels tree are more (2 * node + 1) leaf (omega arith) (last-within levels more node l) right (subst Q last high) h))
  where
    by : (leaf < first_leaf more (2 * node + 1)) ⊎ (first_leaf more (2 * node + 1) ≤ leaf) → (leaf < first_leaf more (2 * node + 1) → HasCome t (date_at tree (2 * node))) →
        (first_leaf more (2 * node + 1) ≤ leaf → HasCome t (date_at tree (2 * node + 1))) → HasCome t (joined tree node)
    by (inl left) f g = come-left t (date_at tree (2 * node)) (date_at tree (2 * node + 1)) (f left)
    by (inr right) f g = come-right t (date_at tree (2 * node)) (date_at tree (2 * node + 1)) (g right)

-- a node on the way down to the first leaf that has come, so many levels above the leaves
pub record IsReached (t levels more node : ℕ) (tree : List (Option ℕ)) : Type 0 where
  pub one : 1 ≤ node
  pub within : first_leaf more (node + 1) ≤ first_leaf levels 2
  pub after : first_leaf levels 1 ≤ first_leaf more node
  pub come : HasCome t (date_at tree node)
  pub silent : (leaf : ℕ) → first_leaf levels 1 ≤ leaf → leaf < first_leaf more node → HasCome t (date_at tree leaf) → ⊥

pub reached-root : (t levels : ℕ) (tree : List (Option ℕ)) → HasCome t (date_at tree 1) → IsReached t levels levels 1 tree
reached-root t levels tree h = record { one = omega arith; within = omega arith; after = omega arith; come = h; silent = λ leaf low high _. absurd (omega (arith, low, high)) }

pub reached-child : (t levels more node child : ℕ) (tree : List (Option ℕ)) → AreNodes (first_leaf levels 1) tree → IsReached t levels (suc more) node tree → IsChild t tree node child →
    IsReached t levels more child tree
reached-child t levels more node child tree are h (inl (e, come)) =
    let P : ℕ → Type 0 = λ n. IsReached t levels more n tree in
    subst P (sym e) (record { one = omega (arith, h.one); within = half-within levels more node h.within; after = h.after; come = come; silent = h.silent })
reached-child t levels more node child tree are h (inr (e, none)) =
    let P : ℕ → Type 0 = λ n. IsReached t levels more n tree in
    let i = leaf-next more (2 * node) in
    subst P (sym e) (record {
      one = omega arith;
      within = last-within levels more node h.within;
      after = omega (arith, h.after, i);
      come = second (come-either t (date_at tree (2 * node)) (date_at tree (2 * node + 1)) both);
      silent = λ leaf low high come. by leaf low high come (cases_lt leaf (first_leaf more (2 * node)));
    })
  where
    both : HasCome t (joined tree node)
    both = let Q : Option ℕ → Type 0 = HasCome t in subst Q (are node h.one (node-above levels more node h.within)) h.come

    second : HasCome t (date_at tree (2 * node)) ⊎ HasCome t (date_at tree (2 * node + 1)) → HasCome t (date_at tree (2 * node + 1))
    second (inl c) = absurd (none c)
    second (inr c) = c

    by : (leaf : ℕ) → first_leaf levels 1 ≤ leaf → leaf < first_leaf more (2 * node + 1) → HasCome t (date_at tree leaf) → (leaf < first_leaf more (2 * node)) ⊎ (first_leaf more (2 * node) ≤ leaf) → ⊥
    by leaf low high come (inl before) = h.silent leaf low before come
    by leaf low high come (inr here) = none (node-come t levels tree are more (2 * node) leaf (omega (arith, h.one)) (half-within levels more node h.within) here high come)

decide : (t : ℕ) (o : Option ℕ) → HasCome t o ⊎ (HasCome t o → ⊥)
decide t None = inr (λ h. h)
decide t (Some d) = by (cases_lt t d)
  where
    by : (t < d) ⊎ (d ≤ t) → (d ≤ t) ⊎ (d ≤ t → ⊥)
    by (inl l) = inr (λ m. omega (arith, l, m))
    by (inr m) = inl m

reached-leaf : (t levels : ℕ) (tree : List (Option ℕ)) → AreNodes (first_leaf levels 1) tree → (more node : ℕ) → IsReached t levels more node tree → (leaf : ℕ) × IsReached t levels zero leaf tree
reached-leaf t levels tree are zero node h = (node, h)
reached-leaf t levels tree are (suc more) node h =
    by (decide t (date_at tree (2 * node)))
    (λ c. reached-leaf t levels tree are more (2 * node) (reached-child t levels more node (2 * node) tree are h (inl (refl, c))))
    (λ f. reached-leaf t levels tree are more (2 * node + 1) (reached-child t levels more node (2 * node + 1) tree are h (inr (refl, f))))
  where
    by : HasCome t (date_at tree (2 * node)) ⊎ (HasCome t (date_at tree (2 * node)) → ⊥) → (HasCome t (date_at tree (2 * node)) → (leaf : ℕ) × IsReached t levels zero leaf tree) →
        ((HasCome t (date_at tree (2 * node)) → ⊥) → (leaf : ℕ) × IsReached t levels zero leaf tree) → (leaf : ℕ) × IsReached t levels zero leaf tree
    by (inl c) f g = f c
    by (inr n) f g = g n

come-true : (t : ℕ) (o : Option ℕ) → HasCome t o → has_come t o ≡ true
come-true t None h = absurd h
come-true t (Some d) h = grind (arith, nat_tests, h)

come-false : (t : ℕ) (o : Option ℕ) → (HasCome t o → ⊥) → has_come t o ≡ false
come-false t None f = refl
come-false t (Some d) f = let l = not_le d t f in grind (arith, nat_tests, l)

past-end : (alarms : List Alarm) (k : ℕ) → length alarms ≤ k → alarm_at alarms k ≡ no_alarm
past-end [] k l = refl
past-end (x ∷ xs) zero l = absurd (omega (arith, l))
past-end (x ∷ xs) (suc k) l = past-end xs k (omega (arith, l))

-- the leaf that is reached is the first alarm that rings
pub found : (t levels node : ℕ) (tree : List (Option ℕ)) (alarms : List Alarm) → IsTree levels tree alarms → IsReached t levels zero node tree → IsFirstPlace t alarms (Some (node - first_leaf levels 1))
found t levels node tree alarms is h = at-place t alarms k silent (by (cases_lt k (length alarms))) (come-true t (alarm_at alarms k).date come)
  where
    k : ℕ
    k = node - first_leaf levels 1

    come : HasCome t (alarm_at alarms k).date
    come =
        let there : node ≡ first_leaf levels 1 + k = omega (arith, h.after) in
        let small : k < first_leaf levels 1 = omega (arith, h.within, leaf-double levels 1) in
        let P : Option ℕ → Type 0 = HasCome t in
        subst P (ap (date_at tree) there ∙ is.leaves.each k small) h.come

    silent : AreSilent t alarms k
    silent j l =
        let small : j < first_leaf levels 1 = omega (arith, l, h.within, leaf-double levels 1) in
        let P : Option ℕ → Type 0 = HasCome t in
        come-false t (alarm_at alarms j).date
        (λ c. h.silent (first_leaf levels 1 + j) (omega arith) (omega (arith, l, h.after)) (subst P (sym (is.leaves.each j small)) c))

    by : (k < length alarms) ⊎ (length alarms ≤ k) → k < length alarms
    by (inl l) = l
    by (inr m) = let P : Alarm → Type 0 = λ x. HasCome t x.date in absurd (subst P (past-end alarms k m) come)

-- if the root has not come no alarm rings
pub none-found : (t levels : ℕ) (tree : List (Option ℕ)) (alarms : List Alarm) → IsTree levels tree alarms → (HasCome t (date_at tree 1) → ⊥) → first_ringing t alarms ≡ None
none-found t levels tree alarms is none = no-place t alarms silent
  where
    silent : AreSilent t alarms (length alarms)
    silent j l =
        let small : j < first_leaf levels 1 = omega (arith, l, is.room) in
        let P : Option ℕ → Type 0 = HasCome t in
        come-false t (alarm_at alarms j).date
        (λ c. none (node-come t levels tree is.nodes levels 1 (first_leaf levels 1 + j) (omega arith) (omega arith) (omega arith) (omega (arith, small, leaf-double levels 1)) (subst P (sym (is.leaves.each j small)) c)))

first-rings : (t : ℕ) (alarms : List Alarm) → HasCome t (first_date alarms) → first_ringing t alarms ≡ None → ⊥
first-rings t [] h e = h
first-rings t (x ∷ xs) h e = by (come-either t x.date (first_date xs) h) (first-rings t xs)
  where
    test : (b : Bool) → cond b (Some x) (first_ringing t xs) ≡ None → (first_ringing t xs ≡ None → ⊥) → ⊥
    test true f others = cc
    test false f others = others f

    by : HasCome t x.date ⊎ HasCome t (first_date xs) → (HasCome t (first_date xs) → first_ringing t xs ≡ None → ⊥) → ⊥
    by (inl c) others = let r = come-true t x.date c in let f = rw r at e in cc
    by (inr c) others = test (rings t x) e (others c)

-- the root has the soonest date
pub root-first : (levels : ℕ) (tree : List (Option ℕ)) (alarms : List Alarm) → IsTree levels tree alarms → date_at tree 1 ≡ first_date alarms
root-first levels tree alarms is = same-date (date_at tree 1) (first_date alarms) down up
  where
    down : (t : ℕ) → HasCome t (date_at tree 1) → HasCome t (first_date alarms)
    down t h = by (decide t (first_date alarms))
      where
        by : HasCome t (first_date alarms) ⊎ (HasCome t (first_date alarms) → ⊥) → HasCome t (first_date alarms)
        by (inl c) = c
        by (inr f) =
            let leaf = reached-leaf t levels tree is.nodes levels 1 (reached-root t levels tree h) in
            let place = found t levels leaf.0 tree alarms is leaf.1 in
            let none = none-come t alarms f in
            let some = place.2 in
            absurd (let e = sym none ∙ some in cc)

    up : (t : ℕ) → HasCome t (first_date alarms) → HasCome t (date_at tree 1)
    up t h = by (decide t (date_at tree 1))
      where
        by : HasCome t (date_at tree 1) ⊎ (HasCome t (date_at tree 1) → ⊥) → HasCome t (date_at tree 1)
        by (inl c) = c
        by (inr f) = absurd (first-rings t alarms h (none-found t levels tree alarms is f))

-- a node that gets the sooner date of its children
joined-other : (tree : List (Option ℕ)) (i n : ℕ) (x : Option ℕ) → (2 * n ≡ i → ⊥) → (2 * n + 1 ≡ i → ⊥) → joined (set tree i x) n ≡ joined tree n
joined-other tree i n x f g =
    ap (λ (o : Option ℕ). sooner o (date_at (set tree i x) (2 * n + 1))) (get_or-set_other tree i (2 * n) x None f)
    ∙ ap (sooner (date_at tree (2 * n))) (get_or-set_other tree i (2 * n + 1) x None g)

joined-here : (tree : List (Option ℕ)) (i n : ℕ) → 1 ≤ n → n ≡ i → i < length tree → date_at (set tree i (joined tree i)) n ≡ joined (set tree i (joined tree i)) n
joined-here tree i n one e l =
    let P : ℕ → Type 0 = λ m. date_at (set tree i (joined tree i)) m ≡ joined (set tree i (joined tree i)) m in
    let some : 1 ≤ i = omega (arith, one, e) in
    subst P (sym e) (get_or-set_same tree i (joined tree i) None l ∙ sym (joined-other tree i i (joined tree i) (λ f. omega (arith, f, some)) (λ f. omega (arith, f, some))))

same-leaves : (leaves i : ℕ) (x : Option ℕ) (first tree : List (Option ℕ)) → i < leaves → AreSameLeaves leaves first tree → AreSameLeaves leaves first (set tree i x)
same-leaves leaves i x first tree l same = record {
  many = length-set tree i x ∙ same.many;
  each = λ n m. get_or-set_other tree i n x None (λ e. omega (arith, e, l, m)) ∙ same.each n m;
}

pub same-itself : (leaves : ℕ) (tree : List (Option ℕ)) → AreSameLeaves leaves tree tree
same-itself leaves tree = record { many = refl; each = λ n m. refl }

-- the way up from a leaf
pub record IsJoined (levels more node : ℕ) (first tree : List (Option ℕ)) : Type 0 where
  pub below : node < 2 * first_leaf levels 1
  pub near : node < first_leaf more 2
  pub others : AreOtherNodes node (first_leaf levels 1) tree
  pub many : length tree ≡ 2 * first_leaf levels 1
  pub same : AreSameLeaves (first_leaf levels 1) first tree

pub joined-more : (levels more node : ℕ) (first tree : List (Option ℕ)) → IsJoined levels (suc more) node first tree → IsJoined levels more (node / 2) first (set tree (node / 2) (joined tree (node / 2)))
joined-more levels more node first tree h = record {
  below = omega (arith, h.below);
  near = omega (arith, h.near, leaf-double more 2);
  others = λ n one l other. by n one l other (cases_eq n (node / 2));
  many = length-set tree (node / 2) (joined tree (node / 2)) ∙ h.many;
  same = same-leaves (first_leaf levels 1) (node / 2) (joined tree (node / 2)) first tree (omega (arith, h.below)) h.same;
}
  where
    by : (n : ℕ) → 1 ≤ n → n < first_leaf levels 1 → (n ≡ node / 2 / 2 → ⊥) → (n ≡ node / 2) ⊎ (n ≡ node / 2 → ⊥) → date_at (set tree (node / 2) (joined tree (node / 2))) n ≡ joined (set tree (node / 2) (joined tree (node / 2))) n
    by n one l other (inl e) = joined-here tree (node / 2) n one e (omega (arith, h.below, h.many))
    by n one l other (inr f) =
        get_or-set_other tree (node / 2) n (joined tree (node / 2)) None f ∙ h.others n one l f
        ∙ sym (joined-other tree (node / 2) n (joined tree (node / 2)) (λ e. other (omega (arith, e))) (λ e. other (omega (arith, e))))

-- the same of the other child
pub joined-first : (levels more node other : ℕ) (first tree : List (Option ℕ)) → other ≤ node → other / 2 ≡ node / 2 → IsJoined levels more node first tree → IsJoined levels more other first tree
joined-first levels more node other first tree l parent h = record {
  below = omega (arith, h.below, l);
  near = omega (arith, h.near, l);
  others = λ n one m f. h.others n one m (λ e. f (e ∙ sym parent));
  many = h.many;
  same = h.same;
}

-- all nodes, from the last
pub record IsJoinedFrom (leaves from : ℕ) (first tree : List (Option ℕ)) : Type 0 where
  pub nodes : (n : ℕ) → from ≤ n → 1 ≤ n → n < leaves → date_at tree n ≡ joined tree n
  pub many : length tree ≡ 2 * leaves
  pub same : AreSameLeaves leaves first tree

-- the leaves of the first places, as they are made
pub record AreLeavesSoFar (leaves place : ℕ) (tree : List (Option ℕ)) (alarms : List Alarm) : Type 0 where
  pub many : length tree ≡ place
  pub each : (k : ℕ) → leaves + k < place → date_at tree (leaves + k) ≡ (alarm_at alarms k).date
