-- A thread that is overdue and never misses a deadline ends no round from then on.
use Rattle.std.proofs.Common.{◌≡◌, ℕ, zero, suc, ◌+◌, ◌-◌, ◌<◌, ◌≤◌, ◌⊎◌, inl, inr, Bool, true, false, ◌&&◌, ◌||◌, List, [], ◌∷◌, ◌++◌, length, refl, sym, ap, subst, ◌∙◌, Option, Some, None, arith}
use Rattle.std.specs.Prelude.{nat_le}
use Rattle.std.specs.List.{AllByRecursion, list_any}
use Rattle.std.proofs.lemmas.Bool.Decides.{nat_tests}
use Rattle.std.proofs.lemmas.List.Folds.{list_any-append}
use Rattle.mcs_ticks.specs.declared.row.Row.{Row}
use Rattle.mcs_ticks.specs.declared.row.What.{What}
use Rattle.mcs_system.specs.System.{System, thread_part}
use Rattle.mcs_system.specs.WellFormed.{IsWellFormed}
use Rattle.mcs_core.specs.Clock.{turn_of, schedule}
use Rattle.mcs_verdict.specs.declared.finding.Found.{Found}
use Rattle.mcs_verdict.specs.Findings.{found_in}
use Rattle.mcs_verdict.specs.Misses.{is_reached}
use Rattle.mcs_verdict.specs.Rounds.{activated_of}
use Rattle.mcs_verdict_laws.specs.laws.Horizons.{is_miss_of, has_miss_of}
use Rattle.mcs_verdict_laws.proofs.Due.{second-of}
use Rattle.mcs_verdict_laws.proofs.Fits.{AreFit, ArePlaced}
use Rattle.mcs_verdict_laws.proofs.Horizons.{found-append, After, after, missed-one}
use Rattle.mcs_verdict_laws.proofs.Overdue.{active-longer, IsOpen, Ends, EndsIn, open-rows, misses-end}
use Rattle.mcs_verdict_laws.proofs.Steps.{contrary, ends_round as ends_there}
use Rattle.mcs_verdict_laws.specs.laws.Fate.{rows_to}
use Rattle.mcs_ever.specs.laws.Repeats.{ends_round}
use Rattle.mcs_ever.proofs.Schedules.{each-turn, all-turns}
use Rattle.mcs_ever_found.specs.laws.Never.{told_up_to}
use Rattle.mcs_ever_found.proofs.Carried.{all-true, all-map}
use Rattle.mcs_ever_found.proofs.Open.{ends-there}

both-all : (P : Row → Type 0) (xs ys : List Row) → AllByRecursion P xs → AllByRecursion P ys → AllByRecursion P (xs ++ ys)
both-all P [] ys g h = h
both-all P (r ∷ xs) ys g h = (g.0, both-all P xs ys g.1 h)

module _ (system : System) (well : IsWellFormed system) (x h a : ℕ) (known : x < length system.threads) where
  -- a row ends the round that is under way, or none ends one
  ends-or : (past rows : List Row) → AllByRecursion (λ (r : Row). suc h ≤ r.moment) rows → AreFit system x past rows → ArePlaced system x past rows
      → IsOpen system x h a past → AllByRecursion (λ (r : Row). ends_there x r.what ≡ false) rows ⊎ EndsIn system x h a past rows
  ends-or past [] after fits placed e = inl tt
  ends-or past (r ∷ rows) after fits placed e =
      by (ends_there x r.what) refl (open-rows system x h a past (r ∷ []) (after.0, tt) (fits.0, tt) (placed.0, tt) e)
      (λ e. ends-or (r ∷ past) rows after.1 fits.1 placed.1 e)
    where
      later : h < r.moment
      later = let l = after.0 in omega (arith, l)

      by : (b : Bool) → ends_there x r.what ≡ b → IsOpen system x h a (r ∷ past) ⊎ EndsIn system x h a past (r ∷ [])
          → (IsOpen system x h a (r ∷ past) → AllByRecursion (λ (r : Row). ends_there x r.what ≡ false) rows ⊎ EndsIn system x h a (r ∷ past) rows)
          → AllByRecursion (λ (r : Row). ends_there x r.what ≡ false) (r ∷ rows) ⊎ EndsIn system x h a past (r ∷ rows)
      by true f here rest =
          inr (inl record { ends = f; later = later; known = known; activated = active-longer system x h r.moment a past (omega (arith, later)) e })
      by false f (inr (inl ends)) rest = inr (inl ends)
      by false f (inr (inr none)) rest = absurd none
      by false f (inl open_now) rest = or (rest open_now)
        where
          or : AllByRecursion (λ (r : Row). ends_there x r.what ≡ false) rows ⊎ EndsIn system x h a (r ∷ past) rows
              → AllByRecursion (λ (r : Row). ends_there x r.what ≡ false) (r ∷ rows) ⊎ EndsIn system x h a past (r ∷ rows)
          or (inl all) = inl (f, all)
          or (inr ends) = inr (inr ends)

  module _ (late : is_reached (thread_part system x).deadline (h - a) ≡ true) (under_way : activated_of system x (rows_to system h) h ≡ Some a)
      (none : (k : ℕ) → has_miss_of x (told_up_to system k) ≡ false) where
    no-end : (k : ℕ) → h ≤ k → (rest : After system h k) → EndsIn system x h a (rows_to system h) rest.rows → ⊥
    no-end k l rest ends =
        let p : Found → Bool = λ (f : Found). is_miss_of x f.finding in
        let before = found_in system [] (schedule system h) in
        let now = found_in system (rows_to system h) rest.rows in
        contrary (has_miss_of x (told_up_to system k)) (none k)
        (ap (λ rows. list_any p (found_in system [] rows)) rest.more
        ∙ ap (list_any p) (found-append system [] (schedule system h) rest.rows)
        ∙ list_any-append p before now
        ∙ second-of (list_any p before) (list_any p now) (missed-one h x a now (misses-end system x h a late (rows_to system h) rest.rows ends)))

    none-rest : (k : ℕ) → h ≤ k → (rest : After system h k) → AllByRecursion (λ (r : Row). ends_round x r.what ≡ false) rest.rows
    none-rest k l rest = by (ends-or (rows_to system h) rest.rows rest.moments (rest.fits x) (rest.placed x) under_way)
      where
        by : AllByRecursion (λ (r : Row). ends_there x r.what ≡ false) rest.rows ⊎ EndsIn system x h a (rows_to system h) rest.rows
            → AllByRecursion (λ (r : Row). ends_round x r.what ≡ false) rest.rows
        by (inl all) =
            all-map (λ (r : Row). ends_there x r.what ≡ false) (λ (r : Row). ends_round x r.what ≡ false) (λ (r : Row) e. sym (ends-there x r.what) ∙ e) rest.rows all
        by (inr ends) = absurd (no-end k l rest ends)

    abbrev Then : Row → Type 0
    Then r = (nat_le (suc h) r.moment && ends_round x r.what) ≡ false

    and-false : (b : Bool) → (b && false) ≡ false
    and-false true = refl
    and-false false = refl

    soon : (t : ℕ) → t < suc h → nat_le (suc h) t ≡ false
    soon t l = grind (arith, nat_tests)

    come : (t : ℕ) → suc h ≤ t → nat_le (suc h) t ≡ true
    come t l = grind (arith, nat_tests)

    then-up-to : (k : ℕ) → h ≤ k → AllByRecursion Then (schedule system k)
    then-up-to k l =
        let rest = after system well h k l in
        let P : List Row → Type 0 = λ rows. AllByRecursion Then rows in
        subst P (sym rest.more)
        (both-all Then (schedule system h) rest.rows
        (all-turns Then system well (suc h) (λ t c m known. all-true (λ what. (nat_le (suc h) t && ends_round x what) ≡ false) (λ what. ap (λ b. b && ends_round x what) (soon t m)) (turn_of system c t).rows))
        (all-map (λ (r : Row). ends_round x r.what ≡ false) Then (λ (r : Row) e. ap (λ b. nat_le (suc h) r.moment && b) e ∙ and-false (nat_le (suc h) r.moment)) rest.rows
        (none-rest k l rest)))

    pub ends-none-after : (t c : ℕ) → suc h ≤ t → c < system.cores → AllByRecursion (λ what. ends_round x what ≡ false) (turn_of system c t).rows
    ends-none-after t c l known =
        all-map (λ what. (nat_le (suc h) t && ends_round x what) ≡ false) (λ what. ends_round x what ≡ false)
        (λ what e. sym (ap (λ b. b && ends_round x what) (come t l)) ∙ e) (turn_of system c t).rows
        (each-turn Then system well (suc t) t c (omega arith) known (then-up-to t (omega (arith, l))))
