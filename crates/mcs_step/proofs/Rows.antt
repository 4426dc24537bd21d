-- The schedule's rows before a turn, and that they are the same where only turns without rows lie between.
use Rattle.std.proofs.Common.{◌≡◌, ℕ, zero, suc, ◌+◌, ◌-◌, ◌<◌, ◌≤◌, List, [], ◌∷◌, ◌++◌, refl, sym, ap, ◌∙◌, add-zero, append-nil, append_assoc, arith}
use Rattle.std.specs.Prelude.{flat_map}
use Rattle.std.specs.List.{range_with_len}
use Rattle.mcs_ticks.specs.declared.row.Row.{Row}
use Rattle.mcs_system.specs.System.{System, TakesTime}
use Rattle.mcs_core.specs.Clock.{clock, rows_of, schedule}
use Rattle.mcs_core.proofs.Clock.{rows-clock}
use Rattle.mcs_stretch.proofs.Ranges.{flat_map-join}
use Rattle.mcs_stretch.proofs.Merging.{clock-later, rows-later}
use Rattle.mcs_step.specs.Steps.{rows_before}

append-none : {A : Type 0} (xs ys : List A) → xs ++ ys ≡ [] → (xs ≡ []) × (ys ≡ [])
append-none [] ys e = (refl, e)
append-none (x ∷ xs) ys e = absurd cc

-- of many parts that make no list each is empty, and the other way round
pub none-of : {A : Type 0} (f : ℕ → List A) (n a : ℕ) → flat_map f (range_with_len a n) ≡ [] → (i : ℕ) → i < n → f (a + i) ≡ []
none-of f zero a e i l = absurd (omega arith)
none-of f (suc n) a e zero l = ap f (add-zero a) ∙ (append-none (f a) (flat_map f (range_with_len (a + 1) n)) e).0
none-of f (suc n) a e (suc i) l =
    let same : a + suc i ≡ a + 1 + i = omega arith in
    ap f same ∙ none-of f n (a + 1) (append-none (f a) (flat_map f (range_with_len (a + 1) n)) e).1 i (omega arith)

none-all : {A : Type 0} (f : ℕ → List A) (n a : ℕ) → ((i : ℕ) → a ≤ i → i < a + n → f i ≡ []) → flat_map f (range_with_len a n) ≡ []
none-all f zero a h = refl
none-all f (suc n) a h = rw (h a (omega arith) (omega arith)) (none-all f n (a + 1) (λ i p q. h i (omega arith) (omega arith)))

none-more : {A : Type 0} (f : ℕ → List A) (a b : ℕ) → a ≤ b → ((i : ℕ) → a ≤ i → i < b → f i ≡ []) → flat_map f (range_with_len 0 b) ≡ flat_map f (range_with_len 0 a)
none-more f a b l h =
    let e : a + (b - a) ≡ b = omega arith in
    ap (λ n. flat_map f (range_with_len 0 n)) (sym e) ∙ sym (flat_map-join f a (b - a) 0)
    ∙ ap (λ xs. flat_map f (range_with_len 0 a) ++ xs) (none-all f (b - a) (0 + a) (λ i p q. h i (omega arith) (omega arith)))
    ∙ append-nil (flat_map f (range_with_len 0 a))

-- one part more
part-more : {A : Type 0} (f : ℕ → List A) (k : ℕ) → flat_map f (range_with_len 0 (k + 1)) ≡ flat_map f (range_with_len 0 k) ++ f k
part-more f k =
    let e : 0 + k ≡ k = omega arith in
    sym (flat_map-join f k 1 0) ∙ ap (λ xs. flat_map f (range_with_len 0 k) ++ xs) (append-nil (f (0 + k)) ∙ ap f e)

module _ (system : System) where
  -- the rows of the turn come next
  pub rows-turn : (moment core : ℕ) → rows_before system moment (core + 1) ≡ rows_before system moment core ++ rows_of system core moment
  rows-turn moment core =
      ap (λ xs. (clock system moment).rows ++ xs) (part-more (λ c. rows_of system c moment) core)
      ∙ sym (append_assoc (clock system moment).rows (flat_map (λ c. rows_of system c moment) (range_with_len 0 core)) (rows_of system core moment))

  pub rows-end : (moment horizon : ℕ) → moment ≡ horizon + 1 → rows_before system moment 0 ≡ schedule system horizon
  rows-end moment horizon e =
      let g : moment ≡ suc horizon = omega arith in
      append-nil (clock system moment).rows ∙ ap (λ n. (clock system n).rows) g

  -- the rows before a turn up to the horizon are a first part of the schedule
  pub rows-rest : TakesTime system → (moment core horizon : ℕ) → moment ≤ horizon → core ≤ system.cores → (rest : List Row) × (rows_before system moment core ++ rest ≡ schedule system horizon)
  rows-rest takes_time moment core horizon l few = (others ++ later, append_assoc (clock system moment).rows own (others ++ later) ∙ ap (λ xs. (clock system moment).rows ++ xs) (sym (append_assoc own others later) ∙ ap (λ xs. xs ++ later) all) ∙ whole)
    where
      own : List Row
      own = flat_map (λ c. rows_of system c moment) (range_with_len 0 core)

      others : List Row
      others = flat_map (λ c. rows_of system c moment) (range_with_len (0 + core) (system.cores - core))

      later : List Row
      later = rows-later system (suc moment) (suc horizon)

      all : own ++ others ≡ flat_map (λ c. rows_of system c moment) (range_with_len 0 system.cores)
      all =
          let e : core + (system.cores - core) ≡ system.cores = omega arith in
          flat_map-join (λ c. rows_of system c moment) core (system.cores - core) 0 ∙ ap (λ n. flat_map (λ c. rows_of system c moment) (range_with_len 0 n)) e

      whole : (clock system moment).rows ++ (flat_map (λ c. rows_of system c moment) (range_with_len 0 system.cores) ++ later) ≡ schedule system horizon
      whole =
          sym (append_assoc (clock system moment).rows (flat_map (λ c. rows_of system c moment) (range_with_len 0 system.cores)) later)
          ∙ ap (λ xs. xs ++ later) (sym (rows-clock system takes_time moment))
          ∙ sym (clock-later system takes_time (suc moment) (suc horizon) (omega arith))

  -- at the same moment, cores between the two make no row
  pub rows-within : (moment old new : ℕ) → old ≤ new → ((c : ℕ) → old ≤ c → c < new → rows_of system c moment ≡ []) → rows_before system moment new ≡ rows_before system moment old
  rows-within moment old new l none = ap (λ xs. (clock system moment).rows ++ xs) (none-more (λ c. rows_of system c moment) old new l none)

  -- at a later moment
  module _ (takes_time : TakesTime system) (old new before core : ℕ) (l : old < new) (few : before ≤ system.cores)
      (left : (c : ℕ) → before ≤ c → c < system.cores → rows_of system c old ≡ [])
      (between : (t c : ℕ) → old < t → t < new → c < system.cores → rows_of system c t ≡ [])
      (done : (c : ℕ) → c < core → rows_of system c new ≡ []) where
    moment-none : (t : ℕ) → old < t → t < new → flat_map (λ c. rows_of system c t) (range_with_len 0 system.cores) ≡ []
    moment-none t p q = none-all (λ c. rows_of system c t) system.cores 0 (λ c _ k. between t c p q (omega arith))

    clock-same : (clock system new).rows ≡ rows_before system old before
    clock-same =
        clock-later system takes_time (suc old) new (omega arith)
        ∙ ap (λ xs. (clock system (suc old)).rows ++ xs)
        (none-all (λ t. flat_map (λ c. rows_of system c t) (range_with_len 0 system.cores)) (new - suc old) (suc old) (λ t p q. moment-none t (omega arith) (omega arith)))
        ∙ append-nil (clock system (suc old)).rows
        ∙ rows-clock system takes_time old
        ∙ ap (λ xs. (clock system old).rows ++ xs) (none-more (λ c. rows_of system c old) before system.cores few left)

    pub rows-later_on : rows_before system new core ≡ rows_before system old before
    rows-later_on =
        ap (λ xs. (clock system new).rows ++ xs) (none-all (λ c. rows_of system c new) core 0 (λ c _ k. done c (omega arith)))
        ∙ append-nil (clock system new).rows ∙ clock-same
