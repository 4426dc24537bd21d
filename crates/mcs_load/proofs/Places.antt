-- The place of a name among borrowed ones.
use Rattle.std.proofs.Common.{◌≡◌, ℕ, ◌+◌, Bool, true, false, not, cond, ◌||◌, List, [], ◌∷◌, ◌++◌, map, Bor, nat_eq, refl, ap, ◌∙◌, sym}
use Rattle.std.specs.List.{list_any, position, prefix_len}
use Rattle.std.specs.Cmp.Lexicographic.{pointwise}
use Rattle.std.proofs.lemmas.List.{length-map, map-append}
use Rattle.mcs_load.specs.Words.{place_of, is_among}

abbrev pub names_of : List (Bor (List ℕ)) → List (List ℕ)
names_of keys = map (λ k. k.now) keys

prefix_len-map : {X Y : Type 0} (p : Y → Bool) (f : X → Y) (xs : List X) → prefix_len p (map f xs) ≡ prefix_len (λ x. p (f x)) xs
prefix_len-map p f [] = refl
prefix_len-map p f (x ∷ xs) = ap (λ n. cond (p (f x)) (1 + n) 0) (prefix_len-map p f xs)

list_any-map : {X Y : Type 0} (p : Y → Bool) (f : X → Y) (xs : List X) → list_any p (map f xs) ≡ list_any (λ x. p (f x)) xs
list_any-map p f [] = refl
list_any-map p f (x ∷ xs) = ap (λ b. p (f x) || b) (list_any-map p f xs)

pub position-map : {X Y : Type 0} (p : Y → Bool) (f : X → Y) (xs : List X) → position (λ x. p (f x)) xs ≡ position p (map f xs)
position-map p f xs = rw (prefix_len-map, length-map)

-- the place among the keys of a set
pub place_of-keys : (name : List ℕ) (keys : List (Bor (List ℕ))) → position (λ k. pointwise nat_eq name k.now) keys ≡ place_of name (names_of keys)
place_of-keys name keys = position-map (pointwise nat_eq name) (λ k. k.now) keys

pub is_among-keys : (name : List ℕ) (keys : List (Bor (List ℕ))) → list_any (λ k. pointwise nat_eq name k.now) keys ≡ is_among name (names_of keys)
is_among-keys name keys = sym (list_any-map (pointwise nat_eq name) (λ k. k.now) keys)

inserted_as : (b : Bool) (keys : List (Bor (List ℕ))) (key : Bor (List ℕ)) → names_of (cond b keys (keys ++ key ∷ [])) ≡ cond (not b) (names_of keys ++ key.now ∷ []) (names_of keys)
inserted_as true keys key = refl
inserted_as false keys key = map-append _ keys (key ∷ [])

-- the names of the keys after an insert
pub names_of-inserted : (key : Bor (List ℕ)) (keys : List (Bor (List ℕ)))
    → names_of (cond (list_any (λ k. pointwise nat_eq key.now k.now) keys) keys (keys ++ key ∷ [])) ≡ cond (not (is_among key.now (names_of keys))) (names_of keys ++ key.now ∷ []) (names_of keys)
names_of-inserted key keys = inserted_as _ keys key ∙ ap (λ b. cond (not b) (names_of keys ++ key.now ∷ []) (names_of keys)) (is_among-keys key.now keys)
