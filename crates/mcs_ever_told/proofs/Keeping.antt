-- An outlook's invariant, from one call to the next.
use Rattle.std.proofs.Common.{◌≡◌, ℕ, zero, suc, ◌+◌, ◌<◌, ◌≤◌, ◌⊎◌, inl, inr, Bool, true, false, List, [], ◌∷◌, length, get_or, cond, replicate, Option, Some, None, Result, Ok, Err, ◌&&◌, refl, sym, ap, subst, ◌∙◌, arith}
use Rattle.std.specs.Prelude.{IfSome, IfOk, nat_le}
use Rattle.std.proofs.lemmas.Bool.Decides.{nat_tests}
use Rattle.std.specs.List.{filter, range_with_len}
use Rattle.std.proofs.lemmas.Bool.{cases_lt}
use Rattle.std.proofs.lemmas.List.{get_or-map, get_or-replicate, get_or_past, length-map}
use Rattle.std.proofs.lemmas.List.FromFn.{get_or-map-range_with_len, length-map-range_with_len}
use Rattle.mcs_system.specs.System.{System}
use Rattle.mcs_ever.specs.Closed.{has, AreLeastClosed}
use Rattle.mcs_ever_told.specs.declared.outlook.sets.Group.{Group}
use Rattle.mcs_ever_told.specs.declared.outlook.told.Told.{Told}
use Rattle.mcs_ever_told.specs.Sets.{set_has, have_one_set, own_of, firsts, is_first}
use Rattle.mcs_ever_told.specs.Outlook.{IsTold, AreTold}
use Rattle.mcs_ever_told.specs.stored.Groups.{group_of, groups_of}
use Rattle.mcs_ever_told.specs.stored.Looks.{IsClosedGroup, AreClosed, AreToldSoFar, AreToldBelow}
use Rattle.mcs_ever_told.specs.stored.Left.{is_any_left}

-- a number that passes a test is among those that were tried
module _ (p : ℕ → Bool) where
  head-of : (b : Bool) (a m : ℕ) (rest : List ℕ) (d : ℕ) → a < m → ((i : ℕ) → i < length rest → get_or rest i d < m) →
      (i : ℕ) → i < length (cond b (a ∷ rest) rest) → get_or (cond b (a ∷ rest) rest) i d < m
  head-of true a m rest d here below zero l = here
  head-of true a m rest d here below (suc i) l = below i (omega (arith, l))
  head-of false a m rest d here below i l = below i l

  kept-below : (n a m d : ℕ) → a + n ≡ m → (i : ℕ) → i < length (filter p (range_with_len a n)) → get_or (filter p (range_with_len a n)) i d < m
  kept-below zero a m d e i l = absurd (omega (arith, l))
  kept-below (suc n) a m d e i l =
      head-of (p a) a m (filter p (range_with_len (a + 1) n)) d (omega (arith, e)) (kept-below n (a + 1) m d (omega (arith, e))) i l

-- the cores that are reported with a set are some of its own
no-core : (b : Bool) → b ≡ true → b ≡ false → ⊥
no-core true e f = cc
no-core false e f = cc

both-of : (a b : Bool) → (a && b) ≡ true → a ≡ true
both-of true b e = refl
both-of false b e = e

own-within : (sets : List (List Bool)) (core other : ℕ) → has (own_of sets core) other ≡ true → has (get_or sets core []) other ≡ true
own-within sets core other own = by (cases_lt other 64)
  where
    by : (other < 64) ⊎ (64 ≤ other) → has (get_or sets core []) other ≡ true
    by (inl l) =
        both-of (set_has sets core other) (set_has sets other core)
        (sym (get_or-map-range_with_len (have_one_set sets core) 0 64 other other false l (omega arith)) ∙ own)
    by (inr m) =
        let many : length (own_of sets core) ≤ other = omega (arith, m, length-map-range_with_len (have_one_set sets core) 0 64) in
        absurd (no-core (has (own_of sets core) other) own (get_or_past (own_of sets core) other false many))

module _ (sets : List (List Bool)) (groups : List Group) (is : groups ≡ groups_of sets) where
  many-groups : length groups ≡ length (firsts sets)
  many-groups = ap (λ (groups : List Group). length groups) is ∙ length-map (firsts sets) (group_of sets)

  group-at : (i : ℕ) (d : Group) → i < length groups → get_or groups i d ≡ group_of sets (get_or (firsts sets) i 0)
  group-at i d l =
      let within : i < length (firsts sets) = omega (arith, l, many-groups) in
      ap (λ (groups : List Group). get_or groups i d) is ∙ get_or-map (group_of sets) (firsts sets) i 0 d within

  first-below : (i : ℕ) → i < length groups → get_or (firsts sets) i 0 < length sets
  first-below i l =
      let within : i < length (firsts sets) = omega (arith, l, many-groups) in
      kept-below (is_first sets) (length sets) 0 (length sets) 0 (omega arith) i within

  -- the sets of the groups are closed: no core outside signals one of them
  pub groups-closed : (system : System) → AreLeastClosed system sets → AreClosed system groups
  groups-closed system closed i d l =
      let core = get_or (firsts sets) i 0 in
      let known : get_or (firsts sets) i 0 < system.cores = (let m = closed.many in omega (arith, m, first-below i l)) in
      subst (IsClosedGroup system) (sym (group-at i d l))
      (record { closed = (closed.each (get_or (firsts sets) i 0) known).closed; within = own-within sets (get_or (firsts sets) i 0) })

  -- the results of all sets are true, in order
  pub all-told : (system : System) (allowed : List Bool) (horizon : ℕ) (all : List Told) →
      AreLeastClosed system sets → AreToldBelow system allowed horizon groups (length groups) all → AreTold system allowed horizon all
  all-told system allowed horizon all closed told =
      record {
        sets = sets;
        closed = closed;
        many = told.many ∙ many-groups;
        each = λ i d l.
            let within : i < length groups = omega (arith, l, told.many) in
            let g = group_of sets 0 in
            let P : Group → Type 0 = λ group. IsTold system allowed horizon group.set group.own (get_or all i d) in
            subst P (group-at i (group_of sets 0) within) (told.each (group_of sets 0) d i within);
      }

-- before the first step no set has a result
pub none-told-yet : (system : System) (allowed : List Bool) (horizon : ℕ) (groups : List Group) (told : List (Option Told)) →
    told ≡ replicate (length groups) None → AreToldSoFar system allowed horizon groups told
none-told-yet system allowed horizon groups told is i d l =
    let e : get_or told i None ≡ None = ap (λ (told : List (Option Told)). get_or told i None) is ∙ get_or-replicate (length groups) i None None l in
    let P : Option Told → Type 0 = λ one. IfSome one (IsTold system allowed horizon (get_or groups i d).set (get_or groups i d).own) in
    subst P (sym e) tt

-- if no set is left, each has a result
left-at : (told : List (Option Told)) (i : ℕ) → is_any_left told ≡ false → i < length told → get_or told i None ≡ None → ⊥
left-at [] i none l e = omega (arith, l)
left-at (None ∷ told) i none l e = cc
left-at (Some one ∷ told) zero none l e = cc
left-at (Some one ∷ told) (suc i) none l e = left-at told i none (omega (arith, l)) e

pub nothing-left : (told : List (Option Told)) → is_any_left told ≡ false → (i : ℕ) → i < length told → get_or told i None ≡ None → ⊥
nothing-left told none i l e = left-at told i none l e

-- if a set is left, the horizon is met
pub at-end : (clock horizon : ℕ) (told : List (Option Told)) → (nat_le clock horizon && is_any_left told) ≡ false → clock ≤ horizon + 1 →
    (i : ℕ) → i < length told → get_or told i None ≡ None → clock ≡ horizon + 1
at-end clock horizon told e t i l none = by (nat_le clock horizon) refl
  where
    by : (b : Bool) → nat_le clock horizon ≡ b → clock ≡ horizon + 1
    by true f = absurd (nothing-left told (ap (λ (b : Bool). b && is_any_left told) (sym f) ∙ e) i l none)
    by false f =
        let late : horizon < clock = grind (arith, nat_tests) in
        omega (arith, late, t)

-- results stay true for an equal system, horizon and list of notifications
pub told-on : (s s' : System) (al al' : List Bool) (h : ℕ) (g g' : List Group) (t t' n n' : List (Option Told)) → s' ≡ s → al' ≡ al → g' ≡ g → t' ≡ t → n' ≡ n →
    (AreToldSoFar s' al' h g' t' → AreToldSoFar s' al' h g' n) → AreToldSoFar s al h g t → AreToldSoFar s al h g n'
told-on s s' al al' h g g' t t' n n' es ea eg et en f so =
    let A : System → Type 0 = λ x. AreToldSoFar x al' h g' t' → AreToldSoFar x al' h g' n in
    let B : List Bool → Type 0 = λ x. AreToldSoFar s x h g' t' → AreToldSoFar s x h g' n in
    let C : List Group → Type 0 = λ x. AreToldSoFar s al h x t' → AreToldSoFar s al h x n in
    let D : List (Option Told) → Type 0 = λ x. AreToldSoFar s al h g x → AreToldSoFar s al h g n in
    let E : List (Option Told) → Type 0 = λ x. AreToldSoFar s al h g x in
    subst E (sym en) (subst D et (subst C eg (subst B ea (subst A es f))) so)

pub below-on : (s s' : System) (al al' : List Bool) (h : ℕ) (g g' : List Group) (all : List Told) → s' ≡ s → al' ≡ al → g' ≡ g →
    AreToldBelow s' al' h g' (length g') all → AreToldBelow s al h g (length g) all
below-on s s' al al' h g g' all es ea eg below =
    let A : System → Type 0 = λ x. AreToldBelow x al' h g' (length g') all in
    let B : List Bool → Type 0 = λ x. AreToldBelow s x h g' (length g') all in
    let C : List Group → Type 0 = λ x. AreToldBelow s al h x (length x) all in
    subst C eg (subst B ea (subst A es below))

pub ok-maps : {T E : Type 0} (P Q : T → Type 0) → ((x : T) → P x → Q x) → (r : Result T E) → IfOk r P → IfOk r Q
ok-maps P Q f (Ok x) h = f x h
ok-maps P Q f (Err e) h = tt
