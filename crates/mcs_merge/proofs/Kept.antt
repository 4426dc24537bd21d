-- Lists of cores that stay in order while rows are added.
use Rattle.std.proofs.Common.{ℕ, ◌<◌, ◌≤◌, List, [], ◌∷◌, ◌++◌, length, get_or, set, slice_index, inl, inr, sym, ◌∙◌, subst, arith, get_or-set_same, get_or-set_other}
use Rattle.std.proofs.lemmas.Bool.{cases_eq}
use Rattle.std.proofs.lemmas.List.{length-set}
use Rattle.mcs_ticks.specs.declared.row.Row.{Row}
use Rattle.mcs_merge.specs.Merge.{AreFrom}
use Rattle.mcs_merge.specs.Merging.{Merging, list_of, after_add, AreOf, AreBefore, IsListOf, CanAdd, IsInOrder}
use Rattle.mcs_merge.proofs.Pushes.{AreUntil, DoNotFall-append}

-- a core with another list and another clock
pub IsInOrder-set : (m : Merging) (core : ℕ) (rows : List Row) (clock : ℕ) → IsInOrder m → core < length m.left → IsListOf core rows clock →
    IsInOrder (record { left = set m.left core rows; clocks = set m.clocks core clock })
IsInOrder-set m core rows clock h l k =
    record {
      same = length-set m.clocks core clock ∙ h.same ∙ sym (length-set m.left core rows);
      lists = λ d p. elim (cases_eq d core) [
        | inl e ↦ subst (λ i. IsListOf i (get_or (set m.left core rows) i []) (get_or (set m.clocks core clock) i 0)) (sym e)
            (rw (get_or-set_same m.left core rows [] l, get_or-set_same m.clocks core clock 0 (let same = h.same in omega arith)) k)
        | inr e ↦ rw (get_or-set_other m.left core d rows [] e, get_or-set_other m.clocks core d clock 0 e) (h.lists d (omega (arith, length-set m.left core rows)))
      ];
    }

pub AreOf-append : (core : ℕ) (rows more : List Row) → AreOf core rows → AreOf core more → AreOf core (rows ++ more)
AreOf-append core [] more h k = k
AreOf-append core (row ∷ rows) more h k = (h.0, AreOf-append core rows more h.1 k)

pub AreBefore-append : (t u : ℕ) (rows more : List Row) → t ≤ u → AreBefore t rows → AreBefore u more → AreBefore u (rows ++ more)
AreBefore-append t u [] more l h k = k
AreBefore-append t u (row ∷ rows) more l h k = (let first = h.0 in omega arith, AreBefore-append t u rows more l h.1 k)

AreUntil-before : (t : ℕ) (rows : List Row) → AreBefore t rows → AreUntil t rows
AreUntil-before t [] h = tt
AreUntil-before t (row ∷ rows) h = (let first = h.0 in omega arith, AreUntil-before t rows h.1)

-- rows that may be added, behind those that are left
pub IsListOf-append : (core t clock : ℕ) (rows more : List Row) → t ≤ clock → IsListOf core rows t → AreFrom t more → IsListOf core more clock → IsListOf core (rows ++ more) clock
IsListOf-append core t clock rows more l h i k =
    record {
      of_core = AreOf-append core rows more h.of_core k.of_core;
      in_order = DoNotFall-append t rows more h.in_order (AreUntil-before t rows h.before) k.in_order i;
      before = AreBefore-append t clock rows more l h.before k.before;
    }

-- rows that may be added, in order
pub IsInOrder-added : (m : Merging) (core : ℕ) (rows : List Row) (clock : ℕ) → IsInOrder m → CanAdd core rows clock m → IsInOrder (after_add core rows clock m)
IsInOrder-added m core rows clock h may =
    let l : core < length m.left = (let same = h.same in let is_core = may.is_core in omega arith) in
    IsInOrder-set m core (list_of core m.left ++ rows) clock h l (IsListOf-append core (slice_index m.clocks core) clock (list_of core m.left) rows may.no_earlier (h.lists core l) may.from_clock may.is_list)
