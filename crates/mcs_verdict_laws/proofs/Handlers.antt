-- The items that a word of the first wait leaves to do, as the script continues from there.
use Rattle.std.proofs.Common.{◌≡◌, ℕ, zero, suc, ◌+◌, ◌<◌, ◌≤◌, Bool, true, false, cond, not, ◌==◌, ◌&&◌, List, [], ◌∷◌, length, drop, slice_get, Option, Some, None, refl, sym, ap, ◌∙◌, arith}
use Rattle.std.specs.Prelude.{◌||◌, bit_and, bit_or, fold, is_none, unwrap_or}
use Rattle.std.specs.Int.Bits.{and_zero_r, or_zero_r}
use Rattle.std.proofs.lemmas.Bool.Decides.{nat_tests}
use Rattle.std.proofs.lemmas.Nat.{le_or_l, and_comm, and_assoc, and_or_self, and_or_apart, or_comm}
use Rattle.mcs_script.specs.declared.item.Item.{Item}
use Rattle.mcs_script.specs.declared.item.Item.TheVariants.{Compute, Signal, Wait, Yield, On, Spin, Enter, Leave}
use Rattle.mcs_script.specs.declared.moved.Moved.TheVariants.{Next, RoundEnds, AllDone}
use Rattle.mcs_script.specs.declared.place.Place.{Place}
use Rattle.mcs_script.specs.Script.{IsScript, is_enter, is_wait, is_on, badges_in, badges_of, ends_handler, heard, passes_after, first_taken, or_again, next_item, next_of, move_by, move_after}
use Rattle.mcs_script.proofs.Steps.{next-later}
use Rattle.mcs_verdict.specs.Calls.{calls, handled, called_for}
use Rattle.mcs_verdict_laws.proofs.Entering.{equal}

and-true : (b : Bool) → (b && true) ≡ b
and-true true = refl
and-true false = refl

and-false : (b : Bool) → (b && false) ≡ false
and-false true = refl
and-false false = refl

not-not : (b : Bool) → not (not b) ≡ b
not-not true = refl
not-not false = refl

zero-is : (n : ℕ) → n ≡ 0 → (n == 0) ≡ true
zero-is n e = grind (arith, nat_tests)

some-is : (n : ℕ) → 1 ≤ n → (n == 0) ≡ false
some-is n l = grind (arith, nat_tests)

-- a word has a bit of one of two words
pub zero-or : (w a b : ℕ) → (bit_and w (bit_or a b) == 0) ≡ ((bit_and w a == 0) && (bit_and w b == 0))
zero-or w a b = by (bit_and w b == 0) refl
  where
    none : (bit_and w b == 0) ≡ false → (z : Bool) → (bit_and w (bit_or a b) == 0) ≡ z → z ≡ false
    none e false f = refl
    none e true f =
        let all : bit_and w (bit_or a b) ≡ 0 = equal (bit_and w (bit_or a b)) 0 f in
        let part : bit_and w b ≡ 0 =
        ap (bit_and w) (sym (and_or_self b a)) ∙ sym (and_assoc b w (bit_or a b)) ∙ ap (λ n. bit_and n b) all ∙ and_comm 0 b ∙ and_zero_r b
        in
        let g : true ≡ false = sym (zero-is (bit_and w b) part) ∙ e in
        absurd (cc)

    by : (z : Bool) → (bit_and w b == 0) ≡ z → (bit_and w (bit_or a b) == 0) ≡ ((bit_and w a == 0) && z)
    by true e =
        let apart : bit_and (bit_or a b) w ≡ bit_and a w = and_or_apart w a b (and_comm b w ∙ equal (bit_and w b) 0 e) in
        ap (λ n. n == 0) (and_comm w (bit_or a b) ∙ apart ∙ and_comm a w) ∙ sym (and-true (bit_and w a == 0))
    by false e = none e (bit_and w (bit_or a b) == 0) refl ∙ sym (and-false (bit_and w a == 0))

-- a number to which bits are joined is none the less some
pub or-some : (a b : ℕ) → (a == 0) ≡ false → (bit_or a b == 0) ≡ false
or-some a b e = by (bit_or a b == 0) refl
  where
    by : (z : Bool) → (bit_or a b == 0) ≡ z → z ≡ false
    by false f = refl
    by true f =
        let least = le_or_l a b in
        let all : bit_or a b ≡ 0 = equal (bit_or a b) 0 f in
        let none : a ≡ 0 = omega (arith, least, all) in
        let g : true ≡ false = sym (zero-is a none) ∙ e in
        absurd (cc)

-- the badges of each of these items are among all
abbrev Among : ℕ → List Item → Type 0
Among all [] = Unit {0}
Among all (item ∷ items) = (bit_and all (badges_in item) ≡ badges_in item) × Among all items

kept : (some x m : ℕ) → bit_and some m ≡ m → bit_and (bit_or some x) m ≡ m
kept some x m e =
    ap (bit_and (bit_or some x)) (sym e) ∙ sym (and_assoc m (bit_or some x) some)
    ∙ ap (λ n. bit_and n m) (ap (λ n. bit_and n some) (or_comm some x) ∙ and_or_self some x) ∙ e

abbrev joined : ℕ → List Item → ℕ
joined some items = fold (λ badges item. bit_or badges (badges_in item)) some items

all-kept : (items : List Item) (some m : ℕ) → bit_and some m ≡ m → bit_and (joined some items) m ≡ m
all-kept [] some m e = e
all-kept (item ∷ items) some m e = all-kept items (bit_or some (badges_in item)) m (kept some (badges_in item) m e)

among : (items : List Item) (some : ℕ) → Among (joined some items) items
among [] some = tt
among (item ∷ items) some =
    (all-kept items (bit_or some (badges_in item)) (badges_in item) (and_or_self (badges_in item) some), among items (bit_or some (badges_in item)))

-- an item that is found is not before those that are looked at
taken-from : (word number next : ℕ) (passes : Bool) (items : List Item) → first_taken word number passes items ≡ Some next → number ≤ next
taken-from word number next passes [] e = absurd (cc)
taken-from word number next passes (item ∷ items) e =
    by (passes || is_on item) (λ f. taken-from word (number + 1) next (passes_after word passes item) items f) e
  where
    by : (b : Bool) → (first_taken word (number + 1) (passes_after word passes item) items ≡ Some next → number + 1 ≤ next)
        → cond b (first_taken word (number + 1) (passes_after word passes item) items) (Some number) ≡ Some next → number ≤ next
    by true h f = let l = h f in omega (arith, l)
    by false h f = let same : number ≡ next = cc in omega (arith, same)

-- before a handler, or at the end, it is no matter whether what was there was passed over
at-end : (word number : ℕ) (passes : Bool) (items : List Item) → ends_handler (slice_get items 0) ≡ true
    → first_taken word number passes items ≡ first_taken word number true items
at-end word number passes [] e = refl
at-end word number true (On badges ∷ items) e = refl
at-end word number false (On badges ∷ items) e = refl
at-end word number passes (Compute ticks ∷ items) e = absurd (cc)
at-end word number passes (Signal note badge ∷ items) e = absurd (cc)
at-end word number passes (Wait note ∷ items) e = absurd (cc)
at-end word number passes (Yield ∷ items) e = absurd (cc)
at-end word number passes (Spin ∷ items) e = absurd (cc)
at-end word number passes (Enter server priority ∷ items) e = absurd (cc)
at-end word number passes (Leave server priority ∷ items) e = absurd (cc)

-- and elsewhere an item is found that is not passed over
taken-here : (word number : ℕ) (items : List Item) → ends_handler (slice_get items 0) ≡ false → is_none (first_taken word number false items) ≡ false
taken-here word number [] e = absurd (cc)
taken-here word number (On badges ∷ items) e = absurd (cc)
taken-here word number (Compute ticks ∷ items) e = refl
taken-here word number (Signal note badge ∷ items) e = refl
taken-here word number (Wait note ∷ items) e = refl
taken-here word number (Yield ∷ items) e = refl
taken-here word number (Spin ∷ items) e = refl
taken-here word number (Enter server priority ∷ items) e = refl
taken-here word number (Leave server priority ∷ items) e = refl

-- among items that are passed over at first, one is found just if the word has a badge of a handler
-- that has an item
abbrev Finds : ℕ → ℕ → ℕ → List Item → ℕ → Type 0
Finds word all number items bits =
    (bit_and word (handled bits items) == 0) ≡ ((bit_and word bits == 0) && is_none (first_taken (bit_and word all) number true items))

no-handler : (word all number bits : ℕ) (items : List Item) → ((bits : ℕ) → Finds word all number items bits)
    → (bit_and word (handled (cond (ends_handler (slice_get items 0)) bits (bit_or bits 0)) items) == 0)
    ≡ ((bit_and word bits == 0) && is_none (first_taken (bit_and word all) number true items))
no-handler word all number bits items rest = ap (λ b. bit_and word (handled b items) == 0) (same (ends_handler (slice_get items 0))) ∙ rest bits
  where
    same : (b : Bool) → cond b bits (bit_or bits 0) ≡ bits
    same true = refl
    same false = or_zero_r bits

handler : (word all number bits badges : ℕ) (items : List Item) → bit_and all badges ≡ badges → ((bits : ℕ) → Finds word all number items bits)
    → (bit_and word (handled (cond (ends_handler (slice_get items 0)) bits (bit_or bits badges)) items) == 0)
    ≡ ((bit_and word bits == 0) && is_none (first_taken (bit_and word all) number (bit_and (bit_and word all) badges == 0) items))
handler word all number bits badges items known rest = by (ends_handler (slice_get items 0)) refl (bit_and (bit_and word all) badges == 0) refl
  where
    same : (bit_and (bit_and word all) badges == 0) ≡ (bit_and word badges == 0)
    same = ap (λ n. n == 0) (and_assoc badges word all ∙ ap (bit_and word) known)

    by : (e : Bool) → ends_handler (slice_get items 0) ≡ e → (q : Bool) → (bit_and (bit_and word all) badges == 0) ≡ q
        → (bit_and word (handled (cond e bits (bit_or bits badges)) items) == 0)
        ≡ ((bit_and word bits == 0) && is_none (first_taken (bit_and word all) number q items))
    by true f q g =
        rest bits ∙ ap (λ o. (bit_and word bits == 0) && is_none o) (sym (at-end (bit_and word all) number q items f))
    by false f true g =
        rest (bit_or bits badges)
        ∙ ap (λ b. b && is_none (first_taken (bit_and word all) number true items))
        (zero-or word bits badges ∙ ap (λ b. (bit_and word bits == 0) && b) (sym same ∙ g) ∙ and-true (bit_and word bits == 0))
    by false f false g =
        rest (bit_or bits badges)
        ∙ ap (λ b. b && is_none (first_taken (bit_and word all) number true items))
        (zero-or word bits badges ∙ ap (λ b. (bit_and word bits == 0) && b) (sym same ∙ g) ∙ and-false (bit_and word bits == 0))
        ∙ sym (ap (λ b. (bit_and word bits == 0) && b) (taken-here (bit_and word all) number items f) ∙ and-false (bit_and word bits == 0))

finds : (word all number : ℕ) (items : List Item) → Among all items → (bits : ℕ) → Finds word all number items bits
finds word all number [] h bits = sym (and-true (bit_and word bits == 0))
finds word all number (On badges ∷ items) h bits = handler word all (number + 1) bits badges items h.0 (finds word all (number + 1) items h.1)
finds word all number (Compute ticks ∷ items) h bits = no-handler word all (number + 1) bits items (finds word all (number + 1) items h.1)
finds word all number (Signal note badge ∷ items) h bits = no-handler word all (number + 1) bits items (finds word all (number + 1) items h.1)
finds word all number (Wait note ∷ items) h bits = no-handler word all (number + 1) bits items (finds word all (number + 1) items h.1)
finds word all number (Yield ∷ items) h bits = no-handler word all (number + 1) bits items (finds word all (number + 1) items h.1)
finds word all number (Spin ∷ items) h bits = no-handler word all (number + 1) bits items (finds word all (number + 1) items h.1)
finds word all number (Enter server priority ∷ items) h bits = no-handler word all (number + 1) bits items (finds word all (number + 1) items h.1)
finds word all number (Leave server priority ∷ items) h bits = no-handler word all (number + 1) bits items (finds word all (number + 1) items h.1)

-- after a first wait the thread is at it again just if no item is found
again-where : (first : Item) (note : ℕ) (o : Option ℕ) → Some first ≡ Some (Wait note) → ((n : ℕ) → o ≡ Some n → 1 ≤ n)
    → (unwrap_or (or_again 0 (Some first) o) 0 == 0) ≡ is_none o
again-where first note None e h = ap (λ b. unwrap_or (cond b (Some 0) None) 0 == 0) (ap is_wait e)
again-where first note (Some n) e h = some-is n (h n refl)

-- a word leaves something to do just if the thread continues from its first wait
pub goes-where : (script : List Item) (word note : ℕ) → slice_get script 0 ≡ Some (Wait note)
    → (unwrap_or (next_item script (heard script word) 0) 0 == 0) ≡ not (calls (called_for script) word)
goes-where [] word note e = absurd (cc)
goes-where (first ∷ items) word note e = by (ends_handler (slice_get items 0)) refl
  where
    by : (b : Bool) → ends_handler (slice_get items 0) ≡ b
        → (unwrap_or (next_item (first ∷ items) (heard (first ∷ items) word) 0) 0 == 0)
        ≡ not (calls (cond b (Some (handled 0 items)) None) word)
    by true f =
        again-where first note (first_taken (bit_and word (badges_of (first ∷ items))) 1 false items) e (λ n g. taken-from (bit_and word (badges_of (first ∷ items))) 1 n false items g)
        ∙ ap is_none (at-end (bit_and word (badges_of (first ∷ items))) 1 false items f)
        ∙ ap (λ b. b && is_none (first_taken (bit_and word (badges_of (first ∷ items))) 1 true items)) (sym (zero-is (bit_and word 0) (and_zero_r word)))
        ∙ sym (finds word (badges_of (first ∷ items)) 1 items (among (first ∷ items) 0).1 0)
        ∙ sym (not-not (bit_and word (handled 0 items) == 0))
    by false f =
        again-where first note (first_taken (bit_and word (badges_of (first ∷ items))) 1 false items) e (λ n g. taken-from (bit_and word (badges_of (first ∷ items))) 1 n false items g)
        ∙ taken-here (bit_and word (badges_of (first ∷ items))) 1 items f

-- behind another wait it never is at the first item
pub not-first : (script : List Item) (word item note : ℕ) → slice_get script item ≡ Some (Wait note) → (item == 0) ≡ false
    → (unwrap_or (next_item script word item) 0 == 0) ≡ false
not-first script word item note e later =
    by (first_taken word (item + 1) false (drop (item + 1) script)) (λ n f. taken-from word (item + 1) n false (drop (item + 1) script) f)
  where
    by : (o : Option ℕ) → ((n : ℕ) → o ≡ Some n → item + 1 ≤ n) → (unwrap_or (or_again item (slice_get script item) o) 0 == 0) ≡ false
    by (Some n) h = let l = h n refl in some-is n (omega (arith, l))
    by None h = ap (λ o. unwrap_or (or_again item o None) 0 == 0) e ∙ later

-- a wait ends no round
pub wait_goes : (script : List Item) (rounds note : ℕ) (place : Place) → slice_get script place.item ≡ Some (Wait note)
    → move_after script rounds place ≡ Next
wait_goes script rounds note place e = by (first_taken place.word (place.item + 1) false (drop (place.item + 1) script))
  where
    by : (o : Option ℕ) → move_by (or_again place.item (slice_get script place.item) o) rounds place ≡ Next
    by (Some n) = refl
    by None = ap (λ item. move_by (or_again place.item item None) rounds place) e

-- the first of several items is taken if no handler begins with it
taken-next : (word number n : ℕ) (script : List Item) → ends_handler (slice_get script n) ≡ false
    → first_taken word number false (drop n script) ≡ Some number
taken-next word number n [] e = let f : true ≡ false = e in absurd (cc)
taken-next word number zero (item ∷ items) e = by (is_on item) e
  where
    by : (b : Bool) → b ≡ false → cond b (first_taken word (number + 1) (passes_after word false item) items) (Some number) ≡ Some number
    by true f = absurd (cc)
    by false f = refl
taken-next word number (suc n) (item ∷ items) e = taken-next word number n items e

-- the script continues after an item if the next one begins no handler
pub item_goes : (script : List Item) (rounds : ℕ) (place : Place) → ends_handler (slice_get script (place.item + 1)) ≡ false
    → move_after script rounds place ≡ Next
item_goes script rounds place e =
    ap (λ o. move_by (or_again place.item (slice_get script place.item) o) rounds place)
    (taken-next place.word (place.item + 1) (place.item + 1) script e)

and-right : (a b : Bool) → a ≡ true → (a && b) ≡ false → b ≡ false
and-right true b e f = f
and-right false b e f = absurd (cc)

none-past : (items : List Item) (k : ℕ) (item : Item) → slice_get items k ≡ Some item → k < length items
none-past [] k item e = absurd (cc)
none-past (next ∷ items) zero item e = omega arith
none-past (next ∷ items) (suc k) item e = let l = none-past items k item e in omega (arith, l)

-- the same after the entering of a server
pub enter_goes : (script : List Item) (rounds server priority : ℕ) (place : Place) → IsScript script
    → slice_get script place.item ≡ Some (Enter server priority) → move_after script rounds place ≡ Next
enter_goes script rounds server priority place is e =
    item_goes script rounds place
    (and-right (is_enter (slice_get script place.item)) (ends_handler (slice_get script (place.item + 1))) (ap is_enter e)
    (is.entering place.item (none-past script place.item (Enter server priority) e)))

-- a thread that continues from another item does not reach the first one
pub goes-past : (script : List Item) (rounds : ℕ) (place : Place) → is_wait (slice_get script place.item) ≡ false → move_after script rounds place ≡ Next
    → (unwrap_or (next_of script place) 0 == 0) ≡ false
goes-past script rounds place none e = by (next_of script place) (λ n f. next-later script place.word place.item n none f) e
  where
    ended : (b : Bool) → cond b AllDone RoundEnds ≡ Next → ⊥
    ended true f = cc
    ended false f = cc

    by : (o : Option ℕ) → ((n : ℕ) → o ≡ Some n → place.item < n) → move_by o rounds place ≡ Next → (unwrap_or o 0 == 0) ≡ false
    by (Some n) h f = let l = h n refl in some-is n (omega (arith, l))
    by None h f = absurd (ended _ f)
