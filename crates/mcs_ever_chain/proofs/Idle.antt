-- Moments between which the schedule has no row.
use Rattle.std.proofs.Common.{◌≡◌, ℕ, zero, suc, ◌+◌, ◌-◌, ◌<◌, ◌≤◌, inl, inr, Bool, List, [], ◌∷◌, ◌++◌, refl, sym, ap, subst, ◌∙◌, append_assoc, append-nil, add-zero, arith}
use Rattle.std.specs.Prelude.{flat_map}
use Rattle.std.proofs.lemmas.Bool.{cases_lt}
use Rattle.std.specs.List.{range_with_len}
use Rattle.mcs_ticks.specs.declared.row.Row.{Row}
use Rattle.mcs_ticks.specs.declared.row.What.{What}
use Rattle.mcs_system.specs.System.{System}
use Rattle.mcs_system.specs.WellFormed.{IsWellFormed}
use Rattle.mcs_core.specs.Clock.{rows_of, turn_of}
use Rattle.mcs_core.specs.Turn.{stamped}
use Rattle.mcs_verdict.specs.Findings.{past_of}
use Rattle.mcs_ever.specs.Closed.{has}
use Rattle.mcs_ever_found.specs.Recurs.{past_before}
use Rattle.mcs_stretch.proofs.Later.{takes_time}
use Rattle.mcs_ever_search.specs.Together.{rows_at, rows_before}
use Rattle.mcs_ever_search.proofs.Turning.{rows-after}
use Rattle.mcs_ever_chain.specs.Recurs.{StandAlone}
use Rattle.mcs_ever_chain.specs.stored.Looks.{TurnsStandAlone}

nil-more : {A : Type 0} (xs ys : List A) → xs ++ ys ≡ xs → ys ≡ []
nil-more [] ys e = e
nil-more (x ∷ xs) ys e = nil-more xs ys (cc)

nil-left : {A : Type 0} (xs ys : List A) → xs ++ ys ≡ [] → xs ≡ []
nil-left [] ys e = refl
nil-left (x ∷ xs) ys e = absurd (cc)

nil-right : {A : Type 0} (xs ys : List A) → xs ++ ys ≡ [] → ys ≡ []
nil-right [] ys e = e
nil-right (x ∷ xs) ys e = absurd (cc)

none-each : (f : ℕ → List Row) (n a : ℕ) → flat_map f (range_with_len a n) ≡ [] → (i : ℕ) → i < n → f (a + i) ≡ []
none-each f zero a e i l = absurd (omega (arith, l))
none-each f (suc n) a e zero l = ap f (add-zero a) ∙ nil-left (f a) (flat_map f (range_with_len (a + 1) n)) e
none-each f (suc n) a e (suc i) l =
    let same : a + suc i ≡ a + 1 + i = omega arith in
    ap f same ∙ none-each f n (a + 1) (nil-right (f a) (flat_map f (range_with_len (a + 1) n)) e) i (omega (arith, l))

none-stamped : (c t : ℕ) (rows : List What) → stamped c t rows ≡ [] → rows ≡ []
none-stamped c t [] e = refl
none-stamped c t (what ∷ rows) e = absurd (cc)

-- the rows before a later moment are those before, and more
record Grown (system : System) (t u : ℕ) : Type 0 where
  more : List Row
  is : rows_before system u ≡ rows_before system t ++ more

module _ (system : System) (well : IsWellFormed system) where
  grown : (t n : ℕ) → Grown system t (t + n)
  grown t zero =
      record { more = []; is = ap (rows_before system) (add-zero t) ∙ sym (append-nil (rows_before system t)) }
  grown t (suc n) =
      let g = grown t n in
      let e : t + suc n ≡ t + n + 1 = omega arith in
      record {
        more = g.more ++ rows_at system (t + n);
        is =
            ap (rows_before system) e ∙ rows-after system (takes_time system well) (t + n)
            ∙ ap (λ (rows : List Row). rows ++ rows_at system (t + n)) g.is
            ∙ append_assoc (rows_before system t) g.more (rows_at system (t + n));
      }

  grown-to : (t u : ℕ) → t ≤ u → Grown system t u
  grown-to t u l =
      let e : t + (u - t) ≡ u = omega (arith, l) in
      subst (λ (v : ℕ). Grown system t v) e (grown t (u - t))

  -- no row comes up to a moment between
  pub still-before : (t m u : ℕ) → t ≤ m → m ≤ u → rows_before system u ≡ rows_before system t → rows_before system m ≡ rows_before system t
  still-before t m u l k e =
      let g = grown-to t m l in
      let h = grown-to m u k in
      let both : rows_before system t ++ (g.more ++ h.more) ≡ rows_before system t =
      sym (h.is ∙ ap (λ (rows : List Row). rows ++ h.more) g.is ∙ append_assoc (rows_before system t) g.more h.more) ∙ e in
      let none : g.more ≡ [] = nil-left g.more h.more (nil-more (rows_before system t) (g.more ++ h.more) both) in
      g.is ∙ ap (λ (rows : List Row). rows_before system t ++ rows) none ∙ append-nil (rows_before system t)

  pub past-still : (t m u : ℕ) → t ≤ m → m ≤ u → rows_before system u ≡ rows_before system t → past_before system m ≡ past_before system t
  past-still t m u l k e = ap (λ (rows : List Row). past_of [] rows) (still-before t m u l k e)

  -- no turn between makes one
  none-at : (t s u : ℕ) → t ≤ s → s < u → rows_before system u ≡ rows_before system t → rows_at system s ≡ []
  none-at t s u l k e =
      let here = still-before t s u l (omega (arith, k)) e in
      let next : rows_before system (s + 1) ≡ rows_before system t = still-before t (s + 1) u (omega (arith, l)) (omega (arith, k)) e in
      nil-more (rows_before system s) (rows_at system s) (sym (rows-after system (takes_time system well) s) ∙ next ∙ sym here)

  none-of : (t s u c : ℕ) → t ≤ s → s < u → rows_before system u ≡ rows_before system t → c < system.cores → (turn_of system c s).rows ≡ []
  none-of t s u c l k e known =
      let f : ℕ → List Row = λ c. rows_of system c s in
      let same : 0 + c ≡ c = omega arith in
      none-stamped c s (turn_of system c s).rows (ap f (sym same) ∙ none-each f system.cores 0 (none-at t s u l k e) c known)

  -- so all turns up to the later moment stand alone, if those up to the earlier one do
  pub alone-still : (set : List Bool) (from t u : ℕ) → rows_before system u ≡ rows_before system t → TurnsStandAlone system set from t → TurnsStandAlone system set from u
  alone-still set from t u e alone s c l k known own = elim (cases_lt s t) [
    | inl early ↦ alone s c l early known own
    | inr late ↦
        let none = none-of t s u c late k e known in
        let P : List What → Type 0 = λ rows. StandAlone (has set) rows in
        subst P (sym none) (record { first = refl; makers = tt })
  ]
