-- A property of all rows of a schedule is one of the rows of its turns.
use Rattle.std.proofs.Common.{◌≡◌, ◌≢◌, ℕ, zero, suc, ◌+◌, ◌<◌, ◌≤◌, Bool, true, false, List, [], ◌∷◌, ◌++◌, refl, sym, subst, arith}
use Rattle.std.specs.Prelude.{flat_map, ◌==◌, nat_lt}
use Rattle.std.specs.List.{range_with_len, AllByRecursion}
use Rattle.std.proofs.lemmas.Bool.Decides.{nat_tests}
use Rattle.mcs_ticks.specs.declared.row.Row.{Row}
use Rattle.mcs_ticks.specs.declared.row.What.{What}
use Rattle.mcs_system.specs.System.{System}
use Rattle.mcs_system.specs.WellFormed.{IsWellFormed}
use Rattle.mcs_core.specs.Turn as turns
use Rattle.mcs_core.specs.Clock as clocks
use Rattle.mcs_core.proofs.Clock.{rows-clock}
use Rattle.mcs_laws.proofs.Histories.{takes-time}

module _ (P : Row → Type 0) where
  abbrev All : List Row → Type 0
  All rows = AllByRecursion P rows

  -- of what core c tells at t
  abbrev pub AllAt : ℕ → ℕ → List What → Type 0
  AllAt c t rows = AllByRecursion (λ what. P (record { moment = t; core = c; what = what })) rows

  all-first : (xs ys : List Row) → All (xs ++ ys) → All xs
  all-first [] ys h = tt
  all-first (x ∷ xs) ys h = (h.0, all-first xs ys h.1)

  all-second : (xs ys : List Row) → All (xs ++ ys) → All ys
  all-second [] ys h = h
  all-second (x ∷ xs) ys h = all-second xs ys h.1

  all-both : (xs ys : List Row) → All xs → All ys → All (xs ++ ys)
  all-both [] ys g h = h
  all-both (x ∷ xs) ys g h = (g.0, all-both xs ys g.1 h)

  told : (c t : ℕ) (rows : List What) → All (turns.stamped c t rows) → AllAt c t rows
  told c t [] h = tt
  told c t (what ∷ rows) h = (h.0, told c t rows h.1)

  stamps : (c t : ℕ) (rows : List What) → AllAt c t rows → All (turns.stamped c t rows)
  stamps c t [] h = tt
  stamps c t (what ∷ rows) h = (h.0, stamps c t rows h.1)

  among : (f : ℕ → List Row) (n a c : ℕ) → a ≤ c → c < a + n → All (flat_map f (range_with_len a n)) → All (f c)
  among f zero a c l m h = absurd (omega (arith, l, m))
  among f (suc n) a c l m h =
      by (a == c) refl (λ more less. among f n (a + 1) c more less (all-second (f a) (flat_map f (range_with_len (a + 1) n)) h))
    where
      by : (b : Bool) → (a == c) ≡ b → (a + 1 ≤ c → c < a + 1 + n → All (f c)) → All (f c)
      by true e i =
          let same : a ≡ c = grind (arith, nat_tests) in
          let Q : ℕ → Type 0 = λ b. All (f b) in subst Q same (all-first (f a) (flat_map f (range_with_len (a + 1) n)) h)
      by false e i = let other : a ≢ c = grind (arith, nat_tests) in i (omega (arith, l, other)) (omega (arith, m))

  of-all : (f : ℕ → List Row) (n a : ℕ) → ((c : ℕ) → c < a + n → All (f c)) → All (flat_map f (range_with_len a n))
  of-all f zero a h = tt
  of-all f (suc n) a h =
      all-both (f a) (flat_map f (range_with_len (a + 1) n)) (h a (omega arith)) (of-all f n (a + 1) (λ c l. h c (omega (arith, l))))

  module _ (system : System) (well : IsWellFormed system) where
    abbrev rows_before : ℕ → List Row
    rows_before t = (clocks.clock system t).rows

    more : (t : ℕ) → rows_before (suc t) ≡ rows_before t ++ flat_map (λ c. clocks.rows_of system c t) (range_with_len 0 system.cores)
    more t = rows-clock system (takes-time system well) t

    -- the turns before moment n
    pub each-turn : (n t c : ℕ) → t < n → c < system.cores → All (rows_before n) → AllAt c t (clocks.turn_of system c t).rows
    each-turn zero t c l known h = absurd (omega (arith, l))
    each-turn (suc n) t c l known h =
        by (λ less. each-turn n t c less known (all-first (rows_before n) now both)) (nat_lt t n) refl
      where
        now : List Row
        now = flat_map (λ c. clocks.rows_of system c n) (range_with_len 0 system.cores)

        both : All (rows_before n ++ now)
        both = let Q : List Row → Type 0 = λ rows. All rows in subst Q (more n) h

        by : (t < n → AllAt c t (clocks.turn_of system c t).rows) → (b : Bool) → nat_lt t n ≡ b → AllAt c t (clocks.turn_of system c t).rows
        by i true e = i (grind (arith, nat_tests))
        by i false e =
            let low : n ≤ t = grind (arith, nat_tests) in
            let same : n ≡ t = omega (arith, low, l) in
            let Q : ℕ → Type 0 = λ s. AllAt c s (clocks.turn_of system c s).rows in
            subst Q same
            (told c n (clocks.turn_of system c n).rows
            (among (λ c. clocks.rows_of system c n) system.cores 0 c (omega arith) (omega (arith, known)) (all-second (rows_before n) now both)))

    pub all-turns : (n : ℕ) → ((t c : ℕ) → t < n → c < system.cores → AllAt c t (clocks.turn_of system c t).rows) → All (rows_before n)
    all-turns zero h = tt
    all-turns (suc n) h =
        let Q : List Row → Type 0 = λ rows. All rows in
        subst Q (sym (more n))
        (all-both (rows_before n) (flat_map (λ c. clocks.rows_of system c n) (range_with_len 0 system.cores)) (all-turns n (λ t c l known. h t c (omega (arith, l)) known))
        (of-all (λ c. clocks.rows_of system c n) system.cores 0 (λ c l. stamps c n (clocks.turn_of system c n).rows (h n c (omega arith) (omega (arith, l))))))
