-- Lists joined over one range of moments and then the next.
use Rattle.std.proofs.Common.{◌≡◌, ℕ, zero, suc, ◌+◌, ◌-◌, ◌≤◌, List, [], ◌++◌, refl, sym, ap, ◌∙◌, append_assoc, arith}
use Rattle.std.specs.Prelude.{flat_map}
use Rattle.std.specs.List.{range_with_len}
use Rattle.mcs_system.specs.System.{System}
use Rattle.mcs_core.specs.Clock.{rows_of}
use Rattle.mcs_stretch.specs.Stretch.{rows_between}

pub flat_map-join : {A : Type 0} (f : ℕ → List A) (n m a : ℕ) → flat_map f (range_with_len a n) ++ flat_map f (range_with_len (a + n) m) ≡ flat_map f (range_with_len a (n + m))
flat_map-join f zero m a = let e : a + 0 ≡ a = omega arith in let g : 0 + m ≡ m = omega arith in rw (e, g) refl
flat_map-join f (suc n) m a =
    let e : a + suc n ≡ a + 1 + n = omega arith in
    let g : suc n + m ≡ suc (n + m) = omega arith in
    rw (e, g) (append_assoc (f a) (flat_map f (range_with_len (a + 1) n)) (flat_map f (range_with_len (a + 1 + n) m)) ∙ ap (λ xs. f a ++ xs) (flat_map-join f n m (a + 1)))

-- the rows up to a moment, and then those from it on
pub rows-join : (system : System) (c a b d : ℕ) → a ≤ b → b ≤ d → rows_between system c a b ++ rows_between system c b d ≡ rows_between system c a d
rows-join system c a b d l k =
    let e : a + (b - a) ≡ b = omega arith in
    let g : b - a + (d - b) ≡ d - a = omega arith in
    ap (λ m. rows_between system c a b ++ flat_map (rows_of system c) (range_with_len m (d - b))) (sym e)
    ∙ flat_map-join (rows_of system c) (b - a) (d - b) a
    ∙ ap (λ n. flat_map (rows_of system c) (range_with_len a n)) g

pub rows-none : (system : System) (c a : ℕ) → rows_between system c a a ≡ []
rows-none system c a = let e : a - a ≡ 0 = omega arith in rw e refl
