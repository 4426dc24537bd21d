-- The values read if no test fails, for the tests of a key, a row and an array.
use Rattle.std.proofs.Common.{◌≡◌, ◌≢◌, ℕ, ℤ, pos, negsuc, zero, suc, ◌+◌, ◌<◌, ◌≤◌, nat_le, nat_eq, Bool, true, false, not, cond, List, [], ◌∷◌, ◌++◌, length, length-append, map, get_or, Option, Some, None, is_some, option_and_then, All, AllPairs, IsTrue, le_refl, refl, ap, ◌∙◌, arith}
use Rattle.std.specs.List.{list_any}
use Rattle.std.specs.Cmp.Lexicographic.{pointwise}
use Rattle.std.proofs.lemmas.Bool.{or_parts, leb-true}
use Rattle.std.proofs.lemmas.Cmp.{nat_list_eq_equiv}
use Rattle.std.proofs.lemmas.List.Elements.{All-push}
use Rattle.std.proofs.lemmas.List.Quantifiers.{all_pairs_push}
use Rattle.toml.specs.Data.{Data, Items, no_items, item, Members, get_member, as_integer, as_array}
use Rattle.mcs_load.specs.declared.at.At.{At}
use Rattle.mcs_load.specs.declared.spot.Key.{Key}
use Rattle.mcs_load.specs.declared.spot.Key.TheVariants as key
use Rattle.mcs_load.specs.declared.fault.LoadFault.{LoadFault}
use Rattle.mcs_load.specs.declared.spot.Section.{Section}
use Rattle.mcs_load.specs.Checks.{Test, Checked, first_failed}
use Rattle.mcs_load.specs.Keys.{key_name}
use Rattle.mcs_system.specs.Names.{is_name}
use Rattle.mcs_load.specs.Words.{each, each_from, if_there, is_in_range, number_or, number, whole_number, number_with_default, new_name, text, is_among, place_of, item_count, items_or_none, rows}
use Rattle.mcs_load.specs.Script.{place_or_first}

pub passed_test : (b : Bool) (fault : LoadFault) (r : Option LoadFault) → cond b r (Some fault) ≡ None → (b ≡ true) × (r ≡ None)
passed_test true fault r h = (refl, h)
passed_test false fault r h = cc

-- both of two lists pass
pub both_passed : (xs ys : List Test) → first_failed (xs ++ ys) ≡ None → (first_failed xs ≡ None) × (first_failed ys ≡ None)
both_passed [] ys h = (refl, h)
both_passed (x ∷ xs) ys h =
    let p = passed_test x.passes x.fault (first_failed (xs ++ ys)) h in
    let q = both_passed xs ys p.1 in
    (rw (p.0, q.0), q.1)

-- what each step keeps is kept by all
pub each_keeps : {A : Type 0} (step : List A → Data → Checked A) (Q : List A → Type 0)
    → ((earlier : List A) (d : Data) → Q earlier → first_failed (step earlier d).tests ≡ None → Q (earlier ++ (step earlier d).value ∷ []))
    → (items : Items) (earlier : List A) → Q earlier → first_failed (each step earlier items).tests ≡ None → Q (each step earlier items).value
each_keeps step Q keeps no_items earlier q h = q
each_keeps step Q keeps (item d others) earlier q h =
    let p = both_passed (step earlier d).tests (each step (earlier ++ (step earlier d).value ∷ []) others).tests h in
    each_keeps step Q keeps others (earlier ++ (step earlier d).value ∷ []) (keeps earlier d q p.0) p.1

-- and of a walk that keeps what it has read so far
pub each_from_keeps : {A : Type 0} (step : A → Data → Checked A) (Q : A → Type 0)
    → ((before : A) (d : Data) → Q before → first_failed (step before d).tests ≡ None → Q (step before d).value)
    → (items : Items) (before : A) → Q before → first_failed (each_from step before items).tests ≡ None → Q (each_from step before items).value
each_from_keeps step Q keeps no_items before q h = q
each_from_keeps step Q keeps (item d others) before q h =
    let p = both_passed (step before d).tests (each_from step (step before d).value others).tests h in
    each_from_keeps step Q keeps others (step before d).value (keeps before d q p.0) p.1

-- one thing is read of each item
pub each_length : {A : Type 0} (step : List A → Data → Checked A) (items : Items) (earlier : List A) → length (each step earlier items).value ≡ length earlier + item_count items
each_length step no_items earlier = omega arith
each_length {A} step (item d others) earlier =
    let rest : length (each step (earlier ++ (step earlier d).value ∷ []) others).value ≡ length (earlier ++ (step earlier d).value ∷ []) + item_count others =
    each_length step others (earlier ++ (step earlier d).value ∷ []) in
    let one : length (earlier ++ (step earlier d).value ∷ []) ≡ length earlier + 1 = length-append earlier ((step earlier d).value ∷ []) in
    rest ∙ ap (λ n. n + item_count others) one ∙ omega arith

in_range_as : (least most default : ℕ) (z : Option ℤ) → least ≤ default → default ≤ most → if_there (is_in_range least most) z ≡ true → (least ≤ number_or default z) × (number_or default z ≤ most)
in_range_as least most default None low high h = (low, high)
in_range_as least most default (Some (pos n)) low high h = grind arith
in_range_as least most default (Some (negsuc n)) low high h = cc

-- a number lies in its range
pub number_passed : (at : At) (k : Key) (least most default : ℕ) (found : Option Data) → least ≤ default → default ≤ most
    → first_failed (number at k least most default found).tests ≡ None → (least ≤ (number at k least most default found).value) × ((number at k least most default found).value ≤ most)
unfolding number
number_passed at k least most default found low high h =
    let p = passed_test _ _ _ h in
    let q = passed_test (if_there (is_in_range least most) (option_and_then as_integer found)) _ _ p.1 in
    in_range_as least most default (option_and_then as_integer found) low high q.0

pub whole_number_passed : (at : At) (k : Key) (least most : ℕ) (row : Members) → least ≤ most
    → first_failed (whole_number at k least most row).tests ≡ None → (least ≤ (whole_number at k least most row).value) × ((whole_number at k least most row).value ≤ most)
unfolding whole_number
whole_number_passed at k least most row le h =
    let p = passed_test _ _ _ h in
    number_passed at k least most least (get_member (key_name k) row) (le_refl least) le p.1

pub number_with_default_passed : (at : At) (k : Key) (least most default : ℕ) (row : Members) → least ≤ default → default ≤ most
    → first_failed (number_with_default at k least most default row).tests ≡ None
    → (least ≤ (number_with_default at k least most default row).value) × ((number_with_default at k least most default row).value ≤ most)
unfolding number_with_default
number_with_default_passed at k least most default row low high h = number_passed at k least most default (get_member (key_name k) row) low high h

-- a name is one, and no earlier row has it
pub new_name_passed : (at : At) (earlier : List (List ℕ)) (row : Members) → first_failed (new_name at earlier row).tests ≡ None
    → (is_name (new_name at earlier row).value ≡ true) × (is_among (new_name at earlier row).value earlier ≡ false)
unfolding new_name
new_name_passed at earlier row h =
    let p = both_passed (text at key.Name row).tests _ h in
    let q = passed_test (is_name (text at key.Name row).value) _ _ p.1 in
    let r = passed_test (not (is_among (text at key.Name row).value earlier)) _ _ q.1 in
    (q.0, grind arith)

few_as : (most : ℕ) (found : Option Items) → if_there (λ ds. nat_le (item_count ds) most) found ≡ true → item_count (items_or_none found) ≤ most
few_as most None h = omega arith
few_as most (Some items) h = leb-true (item_count items) most h

-- an array has at most 4,096 rows
pub rows_passed : (section : Section) (k : Key) (members : Members) → first_failed (rows section k members).tests ≡ None → item_count (rows section k members).value ≤ 4096
unfolding rows
rows_passed section k members h =
    let found = get_member (key_name k) members in
    let p = passed_test (if_there (λ d. is_some (as_array d)) found) _ _ h in
    let q = passed_test (if_there (λ ds. nat_le (item_count ds) 4096) (option_and_then as_array found)) _ _ p.1 in
    few_as 4096 (option_and_then as_array found) q.0

place_as : (n m : ℕ) → is_some (cond (nat_le (suc n) m) (Some n) None) ≡ true → place_or_first (cond (nat_le (suc n) m) (Some n) None) < m
place_as n m h = place_by (nat_le (suc n) m) n m refl h
  where
    place_by : (b : Bool) (n m : ℕ) → nat_le (suc n) m ≡ b → is_some (cond b (Some n) None) ≡ true → place_or_first (cond b (Some n) None) < m
    place_by true n m e h = leb-true (suc n) m e
    place_by false n m e h = cc

-- the place of a name that is there
pub place_within : (name : List ℕ) (names : List (List ℕ)) → is_some (place_of name names) ≡ true → place_or_first (place_of name names) < length names
place_within name names h = place_as _ (length names) h

-- no earlier key is the same
module _ {A K : Type 0} (eq : K → K → Bool) (same : (k : K) → eq k k ≡ true) (key : A → K) where
  same_as : (a b : K) → a ≡ b → eq b a ≡ true
  same_as a b e = ap (λ k. eq b k) e ∙ same b

  pub differs : (xs : List A) (x : A) → list_any (eq (key x)) (map key xs) ≡ false → (k : ℕ) (d : A) → k < length xs → key (get_or xs k d) ≢ key x
  differs [] x h k d within = absurd (omega arith)
  differs (y ∷ ys) x h zero d within = λ e. let p = or_parts (eq (key x) (key y)) _ h in let q = same_as (key y) (key x) e in cc
  differs (y ∷ ys) x h (suc k) d within = differs ys x (or_parts (eq (key x) (key y)) _ h).1 k d (omega arith)

  pub distinct_more : (xs : List A) (x : A) → AllPairs (λ a b. key a ≢ key b) xs → list_any (eq (key x)) (map key xs) ≡ false → AllPairs (λ a b. key a ≢ key b) (xs ++ x ∷ [])
  distinct_more xs x pairs h = all_pairs_push (λ a b. key a ≢ key b) xs x pairs (differs xs x h)

-- the rows so far: each has a name, and no two have one name
pub record HaveNames {A : Type 0} (name : A → List ℕ) (xs : List A) : Type 0 where
  pub each : All (λ x. IsTrue (is_name (name x))) xs
  pub distinct : AllPairs (λ a b. name a ≢ name b) xs

pub have_no_names : {A : Type 0} (name : A → List ℕ) → HaveNames name []
have_no_names name = record { each = λ k d within. absurd (omega arith); distinct = λ i j d less within. absurd (omega arith) }

pub have_names_more : {A : Type 0} (name : A → List ℕ) (xs : List A) (x : A) → HaveNames name xs → is_name (name x) ≡ true → is_among (name x) (map name xs) ≡ false → HaveNames name (xs ++ x ∷ [])
have_names_more name xs x h named new = record {
  each = All-push (λ x. IsTrue (is_name (name x))) xs x h.each named;
  distinct = distinct_more (pointwise nat_eq) nat_list_eq_equiv.refl name xs x h.distinct new;
}
