-- The rows from a moment on, told and given after all before it.
use Rattle.std.proofs.Common.{◌≡◌, ◌≢◌, ℕ, ◌+◌, ◌<◌, ◌≤◌, Bool, true, false, cond, List, [], ◌∷◌, ◌++◌, length, min, take, get_or, refl, sym, ap, ◌∙◌, subst, append-nil, arith}
use Rattle.std.specs.Prelude.{fold, nat_le, slice_index, slice_set, ◌==◌}
use Rattle.std.proofs.lemmas.Bool.Decides.{nat_tests}
use Rattle.std.proofs.lemmas.List.{get_or-set_same, get_or-set_other, length-set, take_more}
use Rattle.std.proofs.lemmas.List.Elements.{filter-append}
use Rattle.mcs_ticks.specs.declared.row.Row.{Row}
use Rattle.mcs_merge.specs.Parts.{rows_from}
use Rattle.mcs_merge.proofs.Parts.{from-all, from-none}
use Rattle.mcs_system.specs.System.{System}
use Rattle.mcs_stretch.specs.Stretch.{rows_between}
use Rattle.mcs_stretch.proofs.Merging.{from-between, list-between}
use Rattle.mcs_stretch.proofs.Ranges.{rows-join}
use Rattle.mcs_window.specs.Desk.{Table, clock_of, taken_of, taken_at}
use Rattle.mcs_team.specs.Flow.{IsGivenBetween}
use Rattle.mcs_team.proofs.Opened as opened
use Rattle.mcs_team.proofs.Rounds.{least-same}

from-kept : (t : ℕ) (row : Row) → t ≤ row.moment → rows_from t (row ∷ []) ≡ row ∷ []
from-kept t row l = by (nat_le t row.moment) refl
  where
    by : (b : Bool) → nat_le t row.moment ≡ b → cond b (row ∷ []) [] ≡ row ∷ []
    by true e = refl
    by false e = absurd (let g : row.moment < t = grind (arith, nat_tests) in omega arith)

-- while the rows are recorded
module _ {S : Type 0} (holds : S → List Row → Type 0) (from : ℕ) (rows : List Row) (i : ℕ) (row : Row) (l : i < length rows) (is : row ≡ get_or rows i row) where
  parts : rows_from from (take (i + 1) rows) ≡ rows_from from (take i rows) ++ rows_from from (row ∷ [])
  parts =
      ap (rows_from from) (take_more rows i row l ∙ ap (λ x. take i rows ++ x ∷ []) (sym is))
      ∙ filter-append (λ row. nat_le from row.moment) (take i rows) (row ∷ [])

-- of all rows of a core, those from a time on
pub rest-of : (system : System) (c from past : ℕ) → from ≤ past → rows_from from (rows_between system c 0 past) ≡ rows_between system c from past
rest-of system c from past l =
    ap (rows_from from) (sym (rows-join system c 0 from past (omega arith) l))
    ∙ filter-append (λ row. nat_le from row.moment) (rows_between system c 0 from) (rows_between system c from past)
    ∙ ap (λ xs. xs ++ rows_from from (rows_between system c from past)) (opened.from-none from (rows_between system c 0 from) (list-between system c 0 from (omega arith)).before)
    ∙ from-all from (rows_between system c from past) (from-between system c from past)

-- while the rest of each core is added: of the cores below this number all was
pub record AreAdded (start : Table) (first : List ℕ) (end many : ℕ) (desk : Table) (pasts : List ℕ) : Type 0 where
  pub system_is : desk.system ≡ start.system
  pub horizon_is : desk.horizon ≡ start.horizon
  pub clocks_are : desk.clocks ≡ start.clocks
  pub taken_left : (core : ℕ) → many ≤ core → taken_of desk core ≡ taken_of start core
  pub long : length pasts ≡ length first
  pub done : (core : ℕ) → core < many → slice_index pasts core ≡ end
  pub left : (core : ℕ) → many ≤ core → slice_index pasts core ≡ slice_index first core

-- when the rest of each core was added, all of it was given
pub rest-given : {O : Type 0} (takes : O → Row → Bool → O → Type 0) (system : System) (horizon from reached now end : ℕ) (pasts : List ℕ) (before out : O) → reached ≡ from → now ≡ fold min end pasts →
    end ≡ horizon + 1 → (length pasts ≡ system.cores) × ((c : ℕ) → c < system.cores → slice_index pasts c ≡ horizon + 1) → IsGivenBetween takes system reached now before out →
    IsGivenBetween takes system from (horizon + 1) before out
rest-given takes system horizon from reached now end pasts before out e least last all given =
    subst (λ t. IsGivenBetween takes system t (horizon + 1) before out) e
    (subst (λ u. IsGivenBetween takes system reached u before out) (least ∙ least-same end pasts (λ c l. all.1 c (let n = all.0 in omega arith) ∙ sym last) ∙ last) given)
