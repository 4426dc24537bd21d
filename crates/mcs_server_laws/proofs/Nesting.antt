-- As a thread goes through its script, it is in the servers that it entered and did not leave.
use Rattle.std.proofs.Common.{◌≡◌, ℕ, zero, suc, ◌+◌, Bool, true, false, cond, not, ◌==◌, ◌&&◌, List, [], ◌∷◌, drop, Option, Some, None, refl, sym, ap, subst, ◌∙◌, arith}
use Rattle.std.specs.Prelude.{bit_and, nat_le, unwrap_or}
use Rattle.std.specs.List.{slice_get}
use Rattle.mcs_script.specs.declared.item.Item.{Item}
use Rattle.mcs_script.specs.declared.item.Item.TheVariants.{Compute, Signal, Wait, Yield, On, Spin, Enter, Leave}
use Rattle.mcs_script.specs.declared.moved.Moved.{Moved}
use Rattle.mcs_script.specs.declared.moved.Moved.TheVariants.{Next, RoundEnds, AllDone}
use Rattle.mcs_script.specs.declared.place.Place.{Place}
use Rattle.mcs_script.specs.Script.{first_taken, or_again, next_item, next_of, move_by, move_after, place_after}
use Rattle.mcs_server_laws.specs.Nesting.{is_in, are_none, inside_after, inside_from, inside, may_stand, nests_from, nests}
use Rattle.mcs_server_laws.proofs.Tests.{left-true, right-true}

are-none : (servers : List ℕ) → are_none servers ≡ true → servers ≡ []
are-none [] e = refl
are-none (last ∷ others) e = absurd (cc)

-- an item may be in its place
stands-from : (script : List Item) (servers : List ℕ) (i : ℕ) (item : Item) → nests_from script servers ≡ true → slice_get script i ≡ Some item
    → may_stand item (inside_from i script servers) ≡ true
stands-from [] servers i item h e = absurd (cc)
stands-from (x ∷ xs) servers zero item h e =
    let f : x ≡ item = cc in
    subst (λ y. may_stand y servers ≡ true) f (left-true (may_stand x servers) (nests_from xs (inside_after x servers)) h)
stands-from (x ∷ xs) servers (suc i) item h e =
    stands-from xs (inside_after x servers) i item (right-true (may_stand x servers) (nests_from xs (inside_after x servers)) h) e

-- after it
pub after-from : (script : List Item) (servers : List ℕ) (i : ℕ) (item : Item) → slice_get script i ≡ Some item
    → inside_from (suc i) script servers ≡ inside_after item (inside_from i script servers)
after-from [] servers i item e = absurd (cc)
after-from (x ∷ xs) servers zero item e = let f : x ≡ item = cc in ap (λ y. inside_after y servers) f
after-from (x ∷ xs) servers (suc i) item e = after-from xs (inside_after x servers) i item e

pub past-from : (script : List Item) (servers : List ℕ) (i : ℕ) → slice_get script i ≡ None → inside_from (suc i) script servers ≡ inside_from i script servers
past-from [] servers zero e = refl
past-from [] servers (suc i) e = refl
past-from (x ∷ xs) servers zero e = absurd (cc)
past-from (x ∷ xs) servers (suc i) e = past-from xs (inside_after x servers) i e

-- the servers after some items
rest-nests : (script : List Item) (servers : List ℕ) (i : ℕ) → nests_from script servers ≡ true → nests_from (drop i script) (inside_from i script servers) ≡ true
rest-nests script servers zero h = h
rest-nests [] servers (suc i) h = h
rest-nests (x ∷ xs) servers (suc i) h = rest-nests xs (inside_after x servers) i (right-true (may_stand x servers) (nests_from xs (inside_after x servers)) h)

rest-inside : (script : List Item) (servers : List ℕ) (i m : ℕ) → inside_from (i + m) script servers ≡ inside_from m (drop i script) (inside_from i script servers)
rest-inside script servers zero m = ap (λ n. inside_from n script servers) (omega arith)
rest-inside [] servers (suc i) zero = let e : suc i + zero ≡ suc i = omega arith in ap (λ n. inside_from n [] servers) e
rest-inside [] servers (suc i) (suc m) = let e : suc i + suc m ≡ suc (i + suc m) = omega arith in ap (λ n. inside_from n [] servers) e
rest-inside (x ∷ xs) servers (suc i) m =
    let e : suc i + m ≡ suc (i + m) = omega arith in
    ap (λ n. inside_from n (x ∷ xs) servers) e ∙ rest-inside xs (inside_after x servers) i m

-- the item that is taken, m items after the first: if handlers were passed over it is in none
abbrev IsTaken : ℕ → ℕ → List Item → List ℕ → List ℕ → Type 0
IsTaken next number items servers then = (m : ℕ) × (next ≡ number + m) × (inside_from m items servers ≡ then)

one-further : (next number : ℕ) (x : Item) (xs : List Item) (servers then : List ℕ) → IsTaken next (number + 1) xs (inside_after x servers) then → IsTaken next number (x ∷ xs) servers then
one-further next number x xs servers then h = (suc h.0, omega (arith, h.1), h.2)

in-none : (b : Bool) (servers : List ℕ) → servers ≡ [] → cond b [] servers ≡ []
in-none true servers e = refl
in-none false servers e = e

taken : (items : List Item) (servers : List ℕ) (word number next : ℕ) (passes : Bool) → nests_from items servers ≡ true → first_taken word number passes items ≡ Some next
    → IsTaken next number items servers (cond passes [] servers)
taken [] servers word number next passes h e = absurd (cc)
taken (On badges ∷ xs) servers word number next passes h e =
    let none : servers ≡ [] = are-none servers (left-true (are_none servers) (nests_from xs servers) h) in
    let rest = taken xs servers word (number + 1) next (bit_and word badges == 0) (right-true (are_none servers) (nests_from xs servers) h) (goes passes e) in
    one-further next number (On badges) xs servers (cond passes [] servers)
    (rest.0, rest.1, rest.2 ∙ in-none (bit_and word badges == 0) servers none ∙ sym (in-none passes servers none))
  where
    goes : (p : Bool) → first_taken word number p (On badges ∷ xs) ≡ Some next → first_taken word (number + 1) (bit_and word badges == 0) xs ≡ Some next
    goes true e = e
    goes false e = e
taken (x ∷ xs) servers word number next true h e =
    one-further next number x xs servers [] (taken xs (inside_after x servers) word (number + 1) next true (right-true (may_stand x servers) (nests_from xs (inside_after x servers)) h) e)
taken (x ∷ xs) servers word number next false h e = let f : number ≡ next = cc in (0, omega (arith, f), refl)

-- if no item is taken it is in none
none-taken : (items : List Item) (servers : List ℕ) (word number : ℕ) → nests_from items servers ≡ true → first_taken word number false items ≡ None → servers ≡ []
none-taken [] servers word number h e = are-none servers h
none-taken (On badges ∷ xs) servers word number h e = are-none servers (left-true (are_none servers) (nests_from xs servers) h)
none-taken (x ∷ xs) servers word number h e = absurd (cc)

-- each of them is there at most once
abbrev pub AreDistinct : List ℕ → Type 0
AreDistinct [] = Unit {0}
AreDistinct (last ∷ others) = (is_in last others ≡ false) × AreDistinct others

after-distinct : (item : Item) (servers : List ℕ) → may_stand item servers ≡ true → AreDistinct servers → AreDistinct (inside_after item servers)
after-distinct (Enter server priority) servers h d = (by (is_in server servers) h, d)
  where
    by : (b : Bool) → not b ≡ true → b ≡ false
    by true e = absurd (cc)
    by false e = refl
after-distinct (Leave server priority) [] h d = d
after-distinct (Leave server priority) (last ∷ others) h d = d.1
after-distinct item servers h d = d

distinct-from : (script : List Item) (servers : List ℕ) (i : ℕ) → nests_from script servers ≡ true → AreDistinct servers → AreDistinct (inside_from i script servers)
distinct-from script servers zero h d = d
distinct-from [] servers (suc i) h d = d
distinct-from (x ∷ xs) servers (suc i) h d =
    distinct-from xs (inside_after x servers) i (right-true (may_stand x servers) (nests_from xs (inside_after x servers)) h)
    (after-distinct x servers (left-true (may_stand x servers) (nests_from xs (inside_after x servers)) h) d)

-- a script that nests, at an item
module _ (script : List Item) (nested : nests script ≡ true) (item : Item) where
  abbrev pub behind : ℕ → List ℕ
  behind i = inside_after item (inside i script)

  pub may-stand : (i : ℕ) → slice_get script i ≡ Some item → may_stand item (inside i script) ≡ true
  may-stand i at = stands-from script [] i item nested at

  pub are-distinct : (i : ℕ) → AreDistinct (inside i script)
  are-distinct i = distinct-from script [] i nested tt

  behind-is : (i : ℕ) → slice_get script i ≡ Some item → inside (i + 1) script ≡ behind i
  behind-is i at = let e : i + 1 ≡ suc i = omega arith in ap (λ n. inside n script) e ∙ after-from script [] i item at

  rest : (i : ℕ) → slice_get script i ≡ Some item → nests_from (drop (i + 1) script) (behind i) ≡ true
  rest i at = subst (λ servers. nests_from (drop (i + 1) script) servers ≡ true) (behind-is i at) (rest-nests script [] (i + 1) nested)

  again : (i next : ℕ) (x : Item) → or_again i (Some x) None ≡ Some next → inside next script ≡ inside_after x (inside i script)
  again i next (Wait note) e = let same : i ≡ next = cc in ap (λ m. inside m script) (sym same)
  again i next (Compute ticks) e = absurd (cc)
  again i next (Signal note badge) e = absurd (cc)
  again i next Yield e = absurd (cc)
  again i next (On badges) e = absurd (cc)
  again i next Spin e = absurd (cc)
  again i next (Enter server priority) e = absurd (cc)
  again i next (Leave server priority) e = absurd (cc)

  -- at its next item it is in the servers after the item
  next-inside : (word i next : ℕ) → slice_get script i ≡ Some item → next_item script word i ≡ Some next → inside next script ≡ behind i
  next-inside word i next at e = by (first_taken word (i + 1) false (drop (i + 1) script)) refl e
    where
      by : (o : Option ℕ) → first_taken word (i + 1) false (drop (i + 1) script) ≡ o → or_again i (slice_get script i) o ≡ Some next → inside next script ≡ behind i
      by (Some n) f g =
          let same : n ≡ next = cc in
          let t = taken (drop (i + 1) script) (behind i) word (i + 1) n false (rest i at) f in
          ap (λ m. inside m script) (sym same ∙ t.1) ∙ rest-inside script [] (i + 1) t.0 ∙ ap (inside_from t.0 (drop (i + 1) script)) (behind-is i at) ∙ t.2
      by None f g = again i next item (subst (λ (o : Option Item). or_again i o None ≡ Some next) at g)

  -- when its round ends it is in none
  end-inside : (word i : ℕ) → slice_get script i ≡ Some item → next_item script word i ≡ None → behind i ≡ []
  end-inside word i at e = by (first_taken word (i + 1) false (drop (i + 1) script)) refl e
    where
      by : (o : Option ℕ) → first_taken word (i + 1) false (drop (i + 1) script) ≡ o → or_again i (slice_get script i) o ≡ None → behind i ≡ []
      by (Some n) f g = absurd (cc)
      by None f g = none-taken (drop (i + 1) script) (behind i) word (i + 1) (rest i at) f

  -- the move after it: after the last round it is in none, and otherwise in the servers after the
  -- item
  abbrev pub IsMoved : ℕ → Place → Moved → Type 0
  IsMoved call place AllDone = behind place.item ≡ []
  IsMoved call place Next = inside (place_after call script Next place).item script ≡ behind place.item
  IsMoved call place RoundEnds = inside (place_after call script RoundEnds place).item script ≡ behind place.item

  pub moved-inside : (call rounds : ℕ) (place : Place) → slice_get script place.item ≡ Some item → IsMoved call place (move_after script rounds place)
  moved-inside call rounds place at = by (next_of script place) refl
    where
      ends : (b : Bool) → behind place.item ≡ [] → IsMoved call place (cond b AllDone RoundEnds)
      ends true e = e
      ends false e = sym e

      by : (o : Option ℕ) → next_of script place ≡ o → IsMoved call place (move_by o rounds place)
      by (Some next) e = ap (λ (o : Option ℕ). inside (unwrap_or o 0) script) e ∙ next-inside place.word place.item next at e
      by None e = ends (not (rounds == 0) && nat_le rounds place.round) (end-inside place.word place.item at e)

-- after a wait, and after entering a server, it continues
pub wait-goes : (script : List Item) (rounds note : ℕ) (place : Place) → slice_get script place.item ≡ Some (Wait note) → move_after script rounds place ≡ Next
wait-goes script rounds note place at = by (first_taken place.word (place.item + 1) false (drop (place.item + 1) script)) refl
  where
    by : (o : Option ℕ) → first_taken place.word (place.item + 1) false (drop (place.item + 1) script) ≡ o → move_after script rounds place ≡ Next
    by (Some n) e = rw e refl
    by None e = rw (e, at) refl

pub enter-goes : (script : List Item) (nested : nests script ≡ true) (rounds server priority : ℕ) (place : Place) → slice_get script place.item ≡ Some (Enter server priority)
    → move_after script rounds place ≡ Next
enter-goes script nested rounds server priority place at = by (next_of script place) refl
  where
    by : (o : Option ℕ) → next_of script place ≡ o → move_by o rounds place ≡ Next
    by (Some n) e = refl
    by None e = let f = end-inside script nested (Enter server priority) place.word place.item at e in absurd (cc)
