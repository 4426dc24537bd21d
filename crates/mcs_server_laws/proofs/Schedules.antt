-- The moments of a source's interrupts in a schedule are its dates, each of them once.
use Rattle.std.proofs.Common.{◌≡◌, ◌≢◌, ◌⊎◌, inl, inr, ℕ, zero, suc, ◌+◌, ◌*◌, ◌-◌, ◌/◌, ◌%◌, ◌^◌, ◌<◌, ◌≤◌, Bool, true, false, cond, ◌==◌, ◌&&◌, List, [], ◌∷◌, ◌++◌, length, map, get_or, refl, sym, ap, ◌∙◌, append-nil, arith}
use Rattle.std.specs.Prelude.{◌||◌, filter, nat_le, nat_lt, flat_map, AllPairs}
use Rattle.std.specs.List.{list_any, range_with_len}
use Rattle.std.proofs.lemmas.Bool.{cases_lt}
use Rattle.std.proofs.lemmas.Bool.Decides.{nat_tests}
use Rattle.std.proofs.lemmas.List.{map-append, get_or_past}
use Rattle.std.proofs.lemmas.List.Elements.{filter-append}
use Rattle.std.proofs.lemmas.Nat.{mod-mul-add}
use Rattle.mcs_ticks.specs.declared.row.Row.{Row}
use Rattle.mcs_ticks.specs.declared.row.What.{What}
use Rattle.mcs_ticks.specs.declared.row.What.TheVariants as row
use Rattle.mcs_system.specs.declared.part.Beat.{Beat}
use Rattle.mcs_system.specs.System.{System, no_note, note_part, source_part}
use Rattle.mcs_system.specs.WellFormed.{IsWellFormed, DoPrecede}
use Rattle.mcs_core.specs.Alarms.{is_at_home}
use Rattle.mcs_core.specs.Turn.{stamped}
use Rattle.mcs_core.specs.Clock.{clock, turn_of, rows_of}
use Rattle.mcs_core.proofs.Clock.{rows-clock}
use Rattle.mcs_laws.proofs.Histories.{takes-time}
use Rattle.mcs_laws.proofs.Ranges.{flat_map-moments-more}
use Rattle.mcs_server_laws.specs.Interrupts.{is_date, is_interrupt, is_interrupt_of, interrupt_by, due_at, is_date_of, moments_told, SchedulesTellDates}
use Rattle.mcs_server_laws.proofs.Dates.{quotient}
use Rattle.mcs_server_laws.proofs.Interrupts.{turns-tell}

-- of all numbers in a range one alone makes something
module _ (f : ℕ → List ℕ) (home : ℕ) (others : (c : ℕ) → c ≢ home → f c ≡ []) where
  none-past : (n a : ℕ) → home < a → flat_map f (range_with_len a n) ≡ []
  none-past zero a l = refl
  none-past (suc n) a l =
      ap (λ ks. ks ++ flat_map f (range_with_len (a + 1) n)) (others a (λ e. omega (arith, e, l))) ∙ none-past n (a + 1) (omega (arith, l))

  once : (n a : ℕ) → a ≤ home → home < a + n → flat_map f (range_with_len a n) ≡ f home
  once zero a l m = absurd (omega (arith, l, m))
  once (suc n) a l m = by (cases_lt a home) (once n (a + 1))
    where
      by : (a < home) ⊎ (home ≤ a) → (a + 1 ≤ home → home < a + 1 + n → flat_map f (range_with_len (a + 1) n) ≡ f home) → flat_map f (range_with_len a (suc n)) ≡ f home
      by (inl less) rest =
          ap (λ ks. ks ++ flat_map f (range_with_len (a + 1) n)) (others a (λ e. omega (arith, e, less))) ∙ rest (omega (arith, less)) (omega (arith, m))
      by (inr reached) rest =
          let e : a ≡ home = omega (arith, reached, l) in
          ap (λ ks. f a ++ ks) (none-past n (a + 1) (omega (arith, reached))) ∙ append-nil (f a) ∙ ap f e

-- the test holds
here : (ts : List ℕ) (p : ℕ → Bool) → flat_map (λ t. cond (p t) (t ∷ []) []) ts ≡ filter p ts
here [] p = refl
here (t ∷ ts) p = by (p t) (here ts p)
  where
    by : (b : Bool) → flat_map (λ t. cond (p t) (t ∷ []) []) ts ≡ filter p ts → cond b (t ∷ []) [] ++ flat_map (λ t. cond (p t) (t ∷ []) []) ts ≡ cond b (t ∷ filter p ts) (filter p ts)
    by true e = ap (λ ks. t ∷ ks) e
    by false e = e

-- a test of a list whose first may be left out
kept-if : (p : Beat → Bool) (b : Bool) (x : Beat) (xs : List Beat) → filter p (cond b (x ∷ xs) xs) ≡ cond (b && p x) (x ∷ filter p xs) (filter p xs)
kept-if p true x xs = refl
kept-if p false x xs = refl

same-if : (b : Bool) (n m : ℕ) → (n == m) ≡ b → b ≡ true → n ≡ m
same-if b n m e f = grind (arith, nat_tests)

module _ (system : System) (source : ℕ) where
  home : ℕ
  home = (note_part system (source_part system source).note).core

  abbrev is_its : ℕ → Beat → Bool
  is_its t beat = (beat.source == source) && is_date t beat

  abbrev at : ℕ → Beat → ℕ
  at t beat = t

  -- the rows of a turn for the source
  moments-told : (c t : ℕ) (whats : List What) → moments_told system source (stamped c t whats) ≡ map (λ what. t) (filter (is_interrupt_of source) whats)
  moments-told c t [] = refl
  moments-told c t (what ∷ whats) = by (is_interrupt_of source what) (moments-told c t whats)
    where
      by : (b : Bool) → moments_told system source (stamped c t whats) ≡ map (λ what. t) (filter (is_interrupt_of source) whats)
          → map (λ (told : Row). told.moment) (cond b (record { moment = t; core = c; what = what } ∷ filter (λ (told : Row). is_interrupt_of source told.what) (stamped c t whats)) (filter (λ (told : Row). is_interrupt_of source told.what) (stamped c t whats)))
          ≡ map (λ what. t) (cond b (what ∷ filter (is_interrupt_of source) whats) (filter (is_interrupt_of source) whats))
      by true e = ap (λ ks. t ∷ ks) e
      by false e = e

  of-interrupts : (whats : List What) → filter (is_interrupt_of source) whats ≡ filter (is_interrupt_of source) (filter is_interrupt whats)
  of-interrupts [] = refl
  of-interrupts (row.Interrupt other note badge ∷ whats) = by (other == source) (of-interrupts whats)
    where
      by : (b : Bool) → filter (is_interrupt_of source) whats ≡ filter (is_interrupt_of source) (filter is_interrupt whats)
          → cond b (row.Interrupt other note badge ∷ filter (is_interrupt_of source) whats) (filter (is_interrupt_of source) whats)
          ≡ cond b (row.Interrupt other note badge ∷ filter (is_interrupt_of source) (filter is_interrupt whats)) (filter (is_interrupt_of source) (filter is_interrupt whats))
      by true e = ap (λ xs. row.Interrupt other note badge ∷ xs) e
      by false e = e
  of-interrupts (what ∷ whats) = of-interrupts whats

  of-beats : (t : ℕ) (beats : List Beat) → map (λ what. t) (filter (is_interrupt_of source) (map (interrupt_by system) beats)) ≡ map (at t) (filter (λ beat. beat.source == source) beats)
  of-beats t [] = refl
  of-beats t (beat ∷ beats) = by (beat.source == source) (of-beats t beats)
    where
      by : (b : Bool) → map (λ what. t) (filter (is_interrupt_of source) (map (interrupt_by system) beats)) ≡ map (at t) (filter (λ beat. beat.source == source) beats)
          → map (λ what. t) (cond b (interrupt_by system beat ∷ filter (is_interrupt_of source) (map (interrupt_by system) beats)) (filter (is_interrupt_of source) (map (interrupt_by system) beats)))
          ≡ map (at t) (cond b (beat ∷ filter (λ beat. beat.source == source) beats) (filter (λ beat. beat.source == source) beats))
      by true e = ap (λ ks. t ∷ ks) e
      by false e = e

  -- the source has one home
  one-home : (c t : ℕ) (beats : List Beat)
      → filter (λ beat. beat.source == source) (filter (is_date t) (filter (is_at_home system c) beats)) ≡ cond (home == c) (filter (is_its t) beats) []
  unfolding home
  one-home c t [] = by (home == c)
    where
      by : (b : Bool) → ◌≡◌ {A = List Beat} [] (cond b [] [])
      by true = refl
      by false = refl
  one-home c t (beat ∷ beats) =
      let own = filter (is_at_home system c) beats in
      ap (filter (λ beat. beat.source == source)) (kept-if (is_date t) (is_at_home system c beat) beat own)
      ∙ kept-if (λ beat. beat.source == source) (is_at_home system c beat && is_date t beat) beat (filter (is_date t) own)
      ∙ ap (λ xs. cond (is_at_home system c beat && is_date t beat && (beat.source == source)) (beat ∷ xs) xs) (one-home c t beats)
      ∙ by (is_at_home system c beat) (is_date t beat) (beat.source == source) (home == c)
      (λ e. ap (λ s. (note_part system (source_part system s).note).core == c) (same-if (beat.source == source) beat.source source refl e))
    where
      by : (b d s h : Bool) → (s ≡ true → b ≡ h)
          → cond (b && d && s) (beat ∷ cond h (filter (is_its t) beats) []) (cond h (filter (is_its t) beats) [])
          ≡ cond h (cond (s && d) (beat ∷ filter (is_its t) beats) (filter (is_its t) beats)) []
      by true true true true e = refl
      by true true true false e = let f = e refl in absurd (cc)
      by true true false true e = refl
      by true true false false e = refl
      by true false true true e = refl
      by true false true false e = refl
      by true false false true e = refl
      by true false false false e = refl
      by false d true true e = let f = e refl in absurd (cc)
      by false d true false e = refl
      by false d false true e = refl
      by false d false false e = refl

  known-home : IsWellFormed system → home < system.cores
  unfolding home
  known-home well = by (cases_lt (source_part system source).note (length system.notes))
    where
      by : ((source_part system source).note < length system.notes) ⊎ (length system.notes ≤ (source_part system source).note)
          → (note_part system (source_part system source).note).core < system.cores
      by (inl within) = well.notes (source_part system source).note no_note within
      by (inr past) = rw (get_or_past system.notes (source_part system source).note no_note past) (omega (arith, well.limits.cores.0))

  -- in a turn of the clock
  turn-told : IsWellFormed system → (c t : ℕ) → t < 2 ^ 64 → moments_told system source (rows_of system c t) ≡ cond (home == c) (map (at t) (filter (is_its t) system.beats)) []
  turn-told well c t soon =
      moments-told c t (turn_of system c t).rows
      ∙ ap (map (λ what. t)) (of-interrupts (turn_of system c t).rows ∙ ap (filter (is_interrupt_of source)) (turns-tell system well c t soon))
      ∙ of-beats t (due_at system c t) ∙ ap (map (at t)) (one-home c t system.beats) ∙ by (home == c)
    where
      by : (b : Bool) → map (at t) (cond b (filter (is_its t) system.beats) []) ≡ cond b (map (at t) (filter (is_its t) system.beats)) []
      by true = refl
      by false = refl

  -- no two beats of the source have the same date
  module _ (t : ℕ) where
    since : (a : Beat) → is_its t a ≡ true → 1 ≤ a.period → (a.source ≡ source) × (t ≡ a.first + (t - a.first) / a.period * a.period)
    since a e some = by (a.source == source) (nat_le a.first t) ((t - a.first) % a.period == 0) ((a.count == 0) || nat_lt ((t - a.first) / a.period) a.count) refl refl refl e
      where
        by : (s l m n : Bool) → (a.source == source) ≡ s → nat_le a.first t ≡ l → ((t - a.first) % a.period == 0) ≡ m → (s && (l && m && n)) ≡ true
            → (a.source ≡ source) × (t ≡ a.first + (t - a.first) / a.period * a.period)
        by true true true n p q r f = (same-if true a.source source p refl, quotient a.first a.period a.count some t q r)
        by true true false n p q r f = absurd (cc)
        by true false m n p q r f = absurd (cc)
        by false l m n p q r f = absurd (cc)

    apart : (a b q r period : ℕ) → a < b → b < a + period → t ≡ a + q * period → t ≡ b + r * period → ⊥
    apart a b q r period l m e f =
        let d = b - a in
        let none : (q * period + 0) % period ≡ 0 = mod-mul-add q period 0 (omega (arith, l, m)) in
        let some : (r * period + d) % period ≡ d = mod-mul-add r period d (omega (arith, l, m)) in
        let same : q * period + 0 ≡ r * period + d = omega (arith, e, f, l) in
        omega (arith, sym none ∙ ap (λ n. n % period) same ∙ some, l)

    clash : (a b : Beat) → DoPrecede a b → is_its t a ≡ true → is_its t b ≡ true → ⊥
    clash a b h p q = by (same (a.source == source) (b.source == source) p q)
      where
        source-of : (x : Beat) (s d : Bool) → (x.source == source) ≡ s → (s && d) ≡ true → x.source ≡ source
        source-of x true d e f = same-if true x.source source e refl
        source-of x false d e f = absurd (cc)

        same : (s u : Bool) → is_its t a ≡ true → is_its t b ≡ true → a.source ≡ b.source
        same s u p q = source-of a (a.source == source) (is_date t a) refl p ∙ sym (source-of b (b.source == source) (is_date t b) refl q)

        by : a.source ≡ b.source → ⊥
        by e =
            let k = h.1 e in
            let i = since a p (omega (arith, k.1, k.2)) in
            let j = since b q (omega (arith, k.0, k.1, k.2)) in
            apart a.first b.first ((t - a.first) / a.period) ((t - b.first) / b.period) a.period k.1 k.2 i.1
            (j.1 ∙ ap (λ n. b.first + (t - b.first) / b.period * n) (sym k.0))

    no-more : (a : Beat) (beats : List Beat) → is_its t a ≡ true → ((k : ℕ) → k < length beats → DoPrecede a (get_or beats k a))
        → (filter (is_its t) beats ≡ []) × (list_any (is_its t) beats ≡ false)
    no-more a [] e h = (refl, refl)
    no-more a (b ∷ beats) e h = by (is_its t b) refl (no-more a beats e (λ k l. h (suc k) (omega (arith, l))))
      where
        by : (z : Bool) → is_its t b ≡ z → (filter (is_its t) beats ≡ []) × (list_any (is_its t) beats ≡ false)
            → (cond z (b ∷ filter (is_its t) beats) (filter (is_its t) beats) ≡ []) × ((z || list_any (is_its t) beats) ≡ false)
        by true f rest = absurd (clash a b (h 0 (omega arith)) e f)
        by false f rest = rest

    at-most-one : (beats : List Beat) → AllPairs DoPrecede beats → map (at t) (filter (is_its t) beats) ≡ cond (list_any (is_its t) beats) (t ∷ []) []
    at-most-one [] h = refl
    at-most-one (b ∷ beats) h = by (is_its t b) refl (at-most-one beats (λ i j d l m. h (suc i) (suc j) d (omega (arith, l)) (omega (arith, m))))
      where
        by : (z : Bool) → is_its t b ≡ z → map (at t) (filter (is_its t) beats) ≡ cond (list_any (is_its t) beats) (t ∷ []) []
            → map (at t) (cond z (b ∷ filter (is_its t) beats) (filter (is_its t) beats)) ≡ cond (z || list_any (is_its t) beats) (t ∷ []) []
        by true f rest = ap (λ xs. t ∷ map (at t) xs) (no-more b beats f (λ k l. h 0 (suc k) b (omega arith) (omega (arith, l)))).0
        by false f rest = rest

  -- in all turns before a moment
  told-before : IsWellFormed system → (t : ℕ) → t ≤ 2 ^ 64 → moments_told system source (clock system t).rows ≡ flat_map (λ u. cond (is_date_of system source u) (u ∷ []) []) (range_with_len 0 t)
  told-before well zero soon = refl
  told-before well (suc t) soon =
      ap (moments_told system source) (rows-clock system (takes-time system well) t)
      ∙ append (clock system t).rows (flat_map (λ c. rows_of system c t) (range_with_len 0 system.cores))
      ∙ both _ _ _ _ (told-before well t (omega (arith, soon)))
      (of-cores (range_with_len 0 system.cores) ∙ once (λ c. moments_told system source (rows_of system c t)) home elsewhere system.cores 0 (omega arith) (omega (arith, known-home well))
      ∙ turn-told well home t (omega (arith, soon)) ∙ ap (λ b. cond b (map (at t) (filter (is_its t) system.beats)) []) (itself home)
      ∙ at-most-one t system.beats well.sources.order.each)
      ∙ sym (flat_map-moments-more (λ u. cond (is_date_of system source u) (u ∷ []) []) t)
    where
      both : (ks js ls ms : List ℕ) → ks ≡ js → ls ≡ ms → ks ++ ls ≡ js ++ ms
      both ks js ls ms e f = cc

      itself : (n : ℕ) → (n == n) ≡ true
      itself n = grind (arith, nat_tests)

      differs : (n m : ℕ) → m ≢ n → (n == m) ≡ false
      differs n m h = grind (arith, nat_tests)

      elsewhere : (c : ℕ) → c ≢ home → moments_told system source (rows_of system c t) ≡ []
      elsewhere c h = turn-told well c t (omega (arith, soon)) ∙ ap (λ b. cond b (map (at t) (filter (is_its t) system.beats)) []) (differs home c h)

      append : (xs ys : List Row) → moments_told system source (xs ++ ys) ≡ moments_told system source xs ++ moments_told system source ys
      append xs ys =
          ap (map (λ (told : Row). told.moment)) (filter-append (λ (told : Row). is_interrupt_of source told.what) xs ys)
          ∙ map-append (λ (told : Row). told.moment) (filter (λ (told : Row). is_interrupt_of source told.what) xs) (filter (λ (told : Row). is_interrupt_of source told.what) ys)

      of-cores : (cs : List ℕ) → moments_told system source (flat_map (λ c. rows_of system c t) cs) ≡ flat_map (λ c. moments_told system source (rows_of system c t)) cs
      of-cores [] = refl
      of-cores (c ∷ cs) =
          append (rows_of system c t) (flat_map (λ c. rows_of system c t) cs)
          ∙ ap (λ ks. moments_told system source (rows_of system c t) ++ ks) (of-cores cs)

pub schedules-tell : (system : System) → IsWellFormed system → SchedulesTellDates system
schedules-tell system well source horizon soon =
    told-before system source well (suc horizon) (omega (arith, soon)) ∙ here (range_with_len 0 (suc horizon)) (is_date_of system source)
