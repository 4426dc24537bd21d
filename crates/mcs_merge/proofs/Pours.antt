-- The rows given from all lists, if those before a moment are given at once.
use Rattle.std.proofs.Common.{◌≡◌, ℕ, ◌-◌, ◌<◌, ◌≤◌, Bool, true, false, cond, List, [], ◌∷◌, ◌++◌, length, slice_index, sym, ap, ◌∙◌, subst, arith, append_assoc}
use Rattle.std.specs.Prelude.{flat_map, nat_le}
use Rattle.std.proofs.lemmas.List.{length-map, get_or-map}
use Rattle.mcs_ticks.specs.declared.row.Row.{Row}
use Rattle.mcs_merge.specs.Merge.{rows_at, merged_before, AreFrom}
use Rattle.mcs_merge.specs.Merging.{Merging, list_of, least_clock, passed, AreOf, AreBefore, IsListOf, IsInOrder}
use Rattle.mcs_merge.specs.Parts.{rows_from, all_from, poured}
use Rattle.mcs_merge.specs.laws.Steps.{PoursMerged, PoursAll}
use Rattle.mcs_merge.proofs.Merges.{flat_map-same}
use Rattle.mcs_merge.proofs.Adds.{between, merged-more, same-at}
use Rattle.mcs_merge.proofs.Parts.{from-in-order, from-is, at-from}
use Rattle.mcs_merge.proofs.Pouring.{merged-none}

from-AreOf : (core u : ℕ) (rows : List Row) → AreOf core rows → AreOf core (rows_from u rows)
from-AreOf core u [] h = tt
from-AreOf core u (row ∷ rows) h = by (nat_le u row.moment) (from-AreOf core u rows h.1)
  where
    by : (b : Bool) → AreOf core (rows_from u rows) → AreOf core (cond b (row ∷ rows_from u rows) (rows_from u rows))
    by true i = (h.0, i)
    by false i = i

from-AreBefore : (t u : ℕ) (rows : List Row) → AreBefore t rows → AreBefore t (rows_from u rows)
from-AreBefore t u [] h = tt
from-AreBefore t u (row ∷ rows) h = by (nat_le u row.moment) (from-AreBefore t u rows h.1)
  where
    by : (b : Bool) → AreBefore t (rows_from u rows) → AreBefore t (cond b (row ∷ rows_from u rows) (rows_from u rows))
    by true i = (h.0, i)
    by false i = i

-- the list of a core
list-from : (u core : ℕ) (lists : List (List Row)) → core < length lists → list_of core (all_from u lists) ≡ rows_from u (list_of core lists)
list-from u core lists l = get_or-map (rows_from u) lists core [] [] l

IsInOrder-poured : (u : ℕ) (m : Merging) → IsInOrder m → IsInOrder (poured u m)
IsInOrder-poured u m o =
    record {
      same = o.same ∙ sym (length-map m.left (rows_from u));
      lists = λ core l.
          let k : core < length m.left = omega (arith, l, length-map m.left (rows_from u)) in
          let h = o.lists core k in
          subst (λ rows. IsListOf core rows (slice_index m.clocks core)) (sym (list-from u core m.left k))
          (record { of_core = from-AreOf core u _ h.of_core; in_order = from-in-order u _ h.in_order; before = from-AreBefore _ u _ h.before });
    }

-- rows from a moment on, at a moment from it on
at-poured : (t u : ℕ) (lists : List (List Row)) → u ≤ t → flat_map (rows_at t) (all_from u lists) ≡ flat_map (rows_at t) lists
at-poured t u lists l =
    same-at t (all_from u lists) lists (length-map lists (rows_from u))
    (λ d k. let within : d < length lists = omega (arith, k, length-map lists (rows_from u)) in
    ap (rows_at t) (list-from u d lists within) ∙ at-from t u (list_of d lists) l)

merged-poured : (u end : ℕ) (lists : List (List Row)) → u ≤ end → merged_before end lists ≡ merged_before u lists ++ merged_before end (all_from u lists)
merged-poured u end lists l =
    let none : merged_before u (all_from u lists) ≡ [] =
    merged-none u (all_from u lists) (λ d k.
    let within : d < length lists = omega (arith, k, length-map lists (rows_from u)) in
    subst (AreFrom u) (sym (list-from u d lists within)) (from-is u (list_of d lists)))
    in
    let same : between u end lists ≡ between u end (all_from u lists) =
    flat_map-same (λ i. flat_map (rows_at i) lists) (λ i. flat_map (rows_at i) (all_from u lists)) (end - u) u (λ t p q. sym (at-poured t u lists p))
    in
    let rest : merged_before end (all_from u lists) ≡ between u end (all_from u lists) = merged-more u end (all_from u lists) l ∙ ap (λ xs. xs ++ between u end (all_from u lists)) none in
    merged-more u end lists l ∙ ap (λ xs. merged_before u lists ++ xs) (same ∙ sym rest)

pub pours-merged : PoursMerged
pours-merged m all out until o h l = (
  IsInOrder-poured until m o,
  record {
    count = h.count ∙ sym (length-map m.left (rows_from until));
    begun = append_assoc out (merged_before until m.left) (passed (poured until m))
        ∙ ap (λ rows. out ++ rows) (sym (merged-poured until (least_clock m.clocks) m.left l)) ∙ h.begun;
    later = λ t core p k.
        let within : core < length m.left = omega (arith, k, length-map m.left (rows_from until)) in
        ap (rows_at t) (list-from until core m.left within) ∙ at-from t until (list_of core m.left) (omega arith) ∙ h.later t core p within;
  },
)

pub pours-all : PoursAll
pours-all m all out h = h.begun
