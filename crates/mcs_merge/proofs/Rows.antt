-- Rows that are given one by one, as far as they are of one moment.
use Rattle.std.proofs.Common.{◌≡◌, ◌≢◌, ℕ, suc, ◌<◌, ◌⊎◌, inl, inr, Bool, true, false, List, [], ◌∷◌, length, Some, refl, sym, ap, ◌∙◌, subst, arith}
use Rattle.mcs_ticks.specs.declared.row.Row.{Row}
use Rattle.mcs_ticks.specs.Given.{Given, GivenUntil}
use Rattle.mcs_merge.specs.Merge.{rows_at, AreFrom, DoNotFall}
use Rattle.mcs_merge.specs.Parts.{first_moment, rows_from}
use Rattle.mcs_merge.proofs.Joins.{AreFrom-earlier, rows_at-later}
use Rattle.mcs_merge.proofs.Passing.{head_same}
use Rattle.mcs_merge.proofs.Parts.{from-all, from-none, from-first}

module _ {O : Type 0} (takes : O → Row → Bool → O → Type 0) where
  -- of all these rows some of this moment were given, and these are left
  pub record AreGiving (t : ℕ) (all rows : List Row) (before out : O) : Type 0 where
    pub fewer : (rows ≡ all) ⊎ (length rows < length all)
    pub in_order : DoNotFall all → DoNotFall rows × AreFrom t rows
    pub later : rows_from (suc t) rows ≡ rows_from (suc t) all
    pub goes_on : (after : O) → Given takes out (rows_at t rows) after → Given takes before (rows_at t all) after
    pub stops : (after : O) → GivenUntil takes out (rows_at t rows) after → GivenUntil takes before (rows_at t all) after

  pub giving-begins : (t : ℕ) (rows : List Row) (out : O) → first_moment rows ≡ Some t → AreGiving t rows rows out out
  giving-begins t rows out e =
      record { fewer = inl refl; in_order = λ o. (o, from-first t rows o e); later = refl; goes_on = λ after g. g; stops = λ after g. g }

  -- no row of the moment is left
  past : (t : ℕ) (rows : List Row) → DoNotFall rows → AreFrom t rows → first_moment rows ≢ Some t → AreFrom (suc t) rows
  past t [] o h n = tt
  past t (row ∷ rows) o h n =
      let other : row.moment ≢ t = λ e. n (ap Some e) in
      let from = h.0 in
      (omega arith, AreFrom-earlier (suc t) row.moment rows (omega arith) o.0)

  pub giving-ends : (t : ℕ) (all rows : List Row) (before out : O) → AreGiving t all rows before out → first_moment rows ≢ Some t → DoNotFall all →
      Given takes before (rows_at t all) out × (rows ≡ rows_from (suc t) all)
  giving-ends t all rows before out h n o =
      let k = h.in_order o in
      let later = past t rows k.0 k.1 n in (
        h.goes_on out (subst (λ xs. Given takes out xs out) (sym (rows_at-later t (suc t) rows (omega arith) later)) refl),
        sym (from-all (suc t) rows later) ∙ h.later,
      )
