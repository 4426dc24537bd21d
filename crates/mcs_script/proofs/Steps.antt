-- The next item of a script: its number, and the remaining ticks of an item as it runs.
use Rattle.std.proofs.Common.{◌≡◌, ℕ, suc, ◌+◌, ◌<◌, ◌≤◌, Bool, true, false, cond, List, [], ◌∷◌, length, drop, Some, None, refl, arith}
use Rattle.std.specs.Prelude.{Option, ◌||◌}
use Rattle.std.specs.List.{slice_get}
use Rattle.std.proofs.lemmas.Bool.Decides.{nat_tests}
use Rattle.std.proofs.lemmas.List.{length-drop}
use Rattle.mcs_script.specs.declared.item.Item.{Item}
use Rattle.mcs_script.specs.Script.{is_wait, is_on, first_taken, passes_after, or_again, next_item, left_after}

-- an item that is found stands among those that are looked at
taken-within : (word number next : ℕ) (passes : Bool) (items : List Item) → first_taken word number passes items ≡ Some next →
    (number ≤ next) × (next < number + length items)
taken-within word number next passes [] e = cc
taken-within word number next passes (item ∷ items) e =
    by (passes || is_on item) (λ f. taken-within word (number + 1) next (passes_after word passes item) items f) e
  where
    by : (b : Bool) →
        (first_taken word (number + 1) (passes_after word passes item) items ≡ Some next → (number + 1 ≤ next) × (next < number + 1 + length items)) →
        cond b (first_taken word (number + 1) (passes_after word passes item) items) (Some number) ≡ Some next →
        (number ≤ next) × (next < number + suc (length items))
    by true h f = let k = h f in (omega (arith, k.0), omega (arith, k.1))
    by false h f = let k : number ≡ next = cc in (omega arith, omega arith)

-- the next item is one of the script; it is after this one, unless this one is a wait
pub next-within : (script : List Item) (word item next : ℕ) → item < length script → next_item script word item ≡ Some next → next < length script
next-within script word item next l e =
    by (first_taken word (item + 1) false (drop (item + 1) script)) (λ n f. (taken-within word (item + 1) n false (drop (item + 1) script) f).1) (is_wait (slice_get script item)) e
  where
    by : (o : Option ℕ) → ((n : ℕ) → o ≡ Some n → n < item + 1 + length (drop (item + 1) script)) → (b : Bool) →
        or_again item (slice_get script item) o ≡ Some next → next < length script
    by (Some n) h b f = let k : n ≡ next = cc in omega (arith, h n refl, length-drop (item + 1) script)
    by None h b f = again (is_wait (slice_get script item)) f
      where
        again : (b : Bool) → cond b (Some item) None ≡ Some next → next < length script
        again true g = let k : item ≡ next = cc in omega arith
        again false g = cc

pub next-later : (script : List Item) (word item next : ℕ) → is_wait (slice_get script item) ≡ false → next_item script word item ≡ Some next → item < next
next-later script word item next none e =
    by (first_taken word (item + 1) false (drop (item + 1) script)) (λ n f. (taken-within word (item + 1) n false (drop (item + 1) script) f).0) e
  where
    by : (o : Option ℕ) → ((n : ℕ) → o ≡ Some n → item + 1 ≤ n) → or_again item (slice_get script item) o ≡ Some next → item < next
    by (Some n) h f = let k : n ≡ next = cc in omega (arith, h n refl)
    by None h f = again (rw none at f)
      where
        again : None ≡ Some next → item < next
        again g = cc

-- what is left of an item after one tick, or after none, and after some and one more
pub left-none : (left : ℕ) → left_after 0 left ≡ left
left-none left = grind (arith, nat_tests)

pub left-more : (n left : ℕ) → left_after 1 (left_after n left) ≡ left_after (suc n) left
left-more n left = grind (arith, nat_tests)
