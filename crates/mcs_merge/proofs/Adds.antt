-- Rows that are added, of all rows and of those that were given so far.
use Rattle.std.proofs.Common.{◌≡◌, ℕ, zero, suc, ◌+◌, ◌-◌, ◌<◌, ◌≤◌, ◌⊎◌, List, [], ◌∷◌, ◌++◌, length, get_or, set, slice_index, inl, inr, refl, sym, ap, ◌∙◌, subst, arith, append_assoc, append-nil, get_or-set_same, get_or-set_other}
use Rattle.std.specs.Prelude.{flat_map}
use Rattle.std.specs.List.{range_with_len}
use Rattle.std.proofs.lemmas.Bool.{cases_eq, cases_lt}
use Rattle.std.proofs.lemmas.List.{length-set, length-replicate, get_or-replicate}
use Rattle.std.proofs.lemmas.List.Elements.{filter-append}
use Rattle.mcs_ticks.specs.declared.row.Row.{Row}
use Rattle.mcs_merge.specs.Merge.{rows_at, merged_before, merged, last_of_all, AreFrom}
use Rattle.mcs_merge.specs.Merging.{Merging, list_of, least_clock, passed, with_rows, after_add, CanAdd, IsInOrder}
use Rattle.mcs_merge.specs.laws.Steps.{HasTaken, BeginsMerged, AddsMerged, EndsMerged}
use Rattle.mcs_merge.proofs.Joins.{rows_at-later}
use Rattle.mcs_merge.proofs.Merges.{flat_map-same, all-past}
use Rattle.mcs_merge.proofs.Passing.{flat_map-none, least-of}
use Rattle.mcs_merge.proofs.Kept.{IsInOrder-added}

-- what is put together part by part, up to a number and from it on
flat_map-split : {A : Type 0} (f : ℕ → List A) (n k a m b : ℕ) → m ≡ n + k → b ≡ a + n → flat_map f (range_with_len a m) ≡ flat_map f (range_with_len a n) ++ flat_map f (range_with_len b k)
flat_map-split f zero k a m b e i = let u : m ≡ k = omega arith in let v : b ≡ a = omega arith in rw (u, v) refl
flat_map-split f (suc n) k a zero b e i = absurd (omega arith)
flat_map-split f (suc n) k a (suc m) b e i =
    ap (λ xs. f a ++ xs) (flat_map-split f n k (a + 1) m b (omega arith) (omega arith)) ∙ sym (append_assoc (f a) (flat_map f (range_with_len (a + 1) n)) (flat_map f (range_with_len b k)))

-- the merged rows from a moment to before another
abbrev pub between : ℕ → ℕ → List (List Row) → List Row
between t u lists = flat_map (λ i. flat_map (rows_at i) lists) (range_with_len t (u - t))

pub merged-more : (t u : ℕ) (lists : List (List Row)) → t ≤ u → merged_before u lists ≡ merged_before t lists ++ between t u lists
merged-more t u lists l = flat_map-split (λ i. flat_map (rows_at i) lists) t (u - t) 0 u t (omega arith) (omega arith)

-- lists that have the same rows of a moment
pub same-at : (t : ℕ) (a b : List (List Row)) → length a ≡ length b → ((d : ℕ) → d < length a → rows_at t (list_of d a) ≡ rows_at t (list_of d b)) → flat_map (rows_at t) a ≡ flat_map (rows_at t) b
same-at t [] [] e h = refl
same-at t [] (ys ∷ b) e h = absurd (omega arith)
same-at t (xs ∷ a) [] e h = absurd (omega arith)
same-at t (xs ∷ a) (ys ∷ b) e h = both _ _ _ _ (h 0 (omega arith)) (same-at t a b (omega arith) (λ d l. h (suc d) (omega arith)))
  where
    both : (ps qs us vs : List Row) → ps ≡ qs → us ≡ vs → ps ++ us ≡ qs ++ vs
    both ps qs us vs e f = cc

-- the rows of a moment with rows added
rows-added : (t d core : ℕ) (rows : List Row) (a b : List (List Row)) → length a ≡ length b → core < length a → rows_at t (list_of d a) ≡ rows_at t (list_of d b) →
    rows_at t (list_of d (with_rows core rows a)) ≡ rows_at t (list_of d (with_rows core rows b))
rows-added t d core rows a b e l h =
    elim (cases_eq d core) [
      | inl i ↦ subst (λ k. rows_at t (list_of k (with_rows core rows a)) ≡ rows_at t (list_of k (with_rows core rows b))) (sym i)
          (rw (get_or-set_same a core (list_of core a ++ rows) [] l, get_or-set_same b core (list_of core b ++ rows) [] (omega arith))
          (filter-append _ (list_of core a) rows ∙ ap (λ xs. xs ++ rows_at t rows) (subst (λ k. rows_at t (list_of k a) ≡ rows_at t (list_of k b)) i h) ∙ sym (filter-append _ (list_of core b) rows)))
      | inr i ↦ rw (get_or-set_other a core d (list_of core a ++ rows) [] i, get_or-set_other b core d (list_of core b ++ rows) [] i) h
    ]

-- rows that are added change nothing before their moments
none-added : (t d core u : ℕ) (rows : List Row) (lists : List (List Row)) → core < length lists → t < u → AreFrom u rows → rows_at t (list_of d (with_rows core rows lists)) ≡ rows_at t (list_of d lists)
none-added t d core u rows lists l m h =
    elim (cases_eq d core) [
      | inl i ↦ subst (λ k. rows_at t (list_of k (with_rows core rows lists)) ≡ rows_at t (list_of k lists)) (sym i)
          (rw (get_or-set_same lists core (list_of core lists ++ rows) [] l)
          (filter-append _ (list_of core lists) rows ∙ ap (λ xs. rows_at t (list_of core lists) ++ xs) (rows_at-later t u rows m h) ∙ append-nil (rows_at t (list_of core lists))))
      | inr i ↦ rw (get_or-set_other lists core d (list_of core lists ++ rows) [] i) refl
    ]

merged-added : (end core u : ℕ) (rows : List Row) (lists : List (List Row)) → core < length lists → end ≤ u → AreFrom u rows → merged_before end (with_rows core rows lists) ≡ merged_before end lists
merged-added end core u rows lists l m h =
    flat_map-same (λ t. flat_map (rows_at t) (with_rows core rows lists)) (λ t. flat_map (rows_at t) lists) end 0
    (λ t p q. same-at t (with_rows core rows lists) lists (length-set lists core (list_of core lists ++ rows)) (λ d k. none-added t d core u rows lists l (omega arith) h))

least-from : (clocks : List ℕ) (t : ℕ) → 1 ≤ length clocks → ((d : ℕ) → d < length clocks → t ≤ get_or clocks d 0) → t ≤ least_clock clocks
least-from [] t l h = absurd (omega arith)
least-from (clock ∷ []) t l h = h 0 (omega arith)
least-from (clock ∷ other ∷ clocks) t l h =
    omega (arith, h 0 (omega arith), least-from (other ∷ clocks) t (omega arith) (λ d k. h (suc d) (omega arith)))

least-raised : (clocks : List ℕ) (core clock : ℕ) → core < length clocks → get_or clocks core 0 ≤ clock → least_clock clocks ≤ least_clock (set clocks core clock)
least-raised clocks core clock l m =
    least-from (set clocks core clock) (least_clock clocks) (omega (arith, length-set clocks core clock))
    (λ d k. let p : d < length clocks = omega (arith, k, length-set clocks core clock) in elim (cases_eq d core) [
      | inl e ↦ subst (λ i. least_clock clocks ≤ get_or (set clocks core clock) i 0) (sym e) (rw (get_or-set_same clocks core clock 0 l) (omega (arith, least-of clocks core l)))
      | inr e ↦ rw (get_or-set_other clocks core d clock 0 e) (least-of clocks d p)
    ])

-- parts that are equal, behind what was taken
joined : (out left all part part' : List Row) → part ≡ part' → out ++ left ≡ all → out ++ (left ++ part) ≡ all ++ part'
joined out left all part part' i j = sym (append_assoc out left part) ∙ ap (λ xs. xs ++ part) j ∙ ap (λ xs. all ++ xs) i

-- rows are added
pub HasTaken-added : (m : Merging) (all : List (List Row)) (out : List Row) (core : ℕ) (rows : List Row) (clock : ℕ) → IsInOrder m → HasTaken all out m → CanAdd core rows clock m →
    HasTaken (with_rows core rows all) out (after_add core rows clock m)
HasTaken-added m all out core rows clock o h may =
    let within : core < length m.left = (let same = o.same in let is_core = may.is_core in omega arith) in
    let among : core < length all = (let count = h.count in omega arith) in
    let raised : least_clock m.clocks ≤ least_clock (set m.clocks core clock) = least-raised m.clocks core clock may.is_core may.no_earlier in
    let lowest : least_clock m.clocks ≤ slice_index m.clocks core = least-of m.clocks core may.is_core in
    let before = least_clock m.clocks in
    let end = least_clock (set m.clocks core clock) in
    let later : (t d : ℕ) → least_clock m.clocks ≤ t → d < length m.left → rows_at t (list_of d (with_rows core rows m.left)) ≡ rows_at t (list_of d (with_rows core rows all)) =
    λ t d l k. rows-added t d core rows m.left all (sym h.count) within (h.later t d l k)
    in
    let parts : between before end (with_rows core rows m.left) ≡ between before end (with_rows core rows all) =
    flat_map-same (λ i. flat_map (rows_at i) (with_rows core rows m.left)) (λ i. flat_map (rows_at i) (with_rows core rows all)) (end - before) before
    (λ t p q. same-at t (with_rows core rows m.left) (with_rows core rows all)
    (length-set m.left core (list_of core m.left ++ rows) ∙ sym h.count ∙ sym (length-set all core (list_of core all ++ rows)))
    (λ d k. later t d p (omega (arith, k, length-set m.left core (list_of core m.left ++ rows)))))
    in
    record {
      count = length-set all core (list_of core all ++ rows) ∙ h.count ∙ sym (length-set m.left core (list_of core m.left ++ rows));
      begun = ap (λ xs. out ++ xs) (merged-more before end (with_rows core rows m.left) raised ∙ ap (λ xs. xs ++ between before end (with_rows core rows m.left)) (merged-added before core (slice_index m.clocks core) rows m.left within lowest may.from_clock))
          ∙ joined out (passed m) (merged_before before all) (between before end (with_rows core rows m.left)) (between before end (with_rows core rows all)) parts h.begun
          ∙ sym (merged-more before end (with_rows core rows all) raised ∙ ap (λ xs. xs ++ between before end (with_rows core rows all)) (merged-added before core (slice_index m.clocks core) rows all among lowest may.from_clock));
      later = λ t d l k. later t d (omega (arith, l, raised)) (omega (arith, k, length-set m.left core (list_of core m.left ++ rows)));
    }

pub adds-merged : AddsMerged
adds-merged m all out core rows clock o h may = (IsInOrder-added m core rows clock o may, HasTaken-added m all out core rows clock o h may)

pub begins-merged : BeginsMerged
begins-merged cores = (
  record {
    same = length-replicate {A = ℕ} cores 0 ∙ sym (length-replicate {A = List Row} cores []);
    lists = λ d p. let k : d < cores = omega (arith, p, length-replicate {A = List Row} cores []) in
        rw (get_or-replicate {A = List Row} cores d [] [] k) (record { of_core = tt; in_order = tt; before = tt });
  },
  record { count = refl; begun = refl; later = λ t d l k. refl },
)

-- past all rows there is no more
merged-past : (end : ℕ) (lists : List (List Row)) → last_of_all lists < end → merged_before end lists ≡ merged lists
merged-past end lists l =
    let none : between (suc (last_of_all lists)) end lists ≡ [] =
    flat_map-none (λ t. flat_map (rows_at t) lists) (end - suc (last_of_all lists)) (suc (last_of_all lists)) (λ t p q. all-past t lists (omega arith))
    in
    merged-more (suc (last_of_all lists)) end lists (omega arith) ∙ ap (λ rows. merged lists ++ rows) none ∙ append-nil (merged lists)

-- all rows merged begin with those before a moment
pub merged-begins : (end : ℕ) (lists : List (List Row)) → (rest : List Row) × (merged lists ≡ merged_before end lists ++ rest)
merged-begins end lists = by (cases_lt end (suc (last_of_all lists)))
  where
    by : (end < suc (last_of_all lists)) ⊎ (suc (last_of_all lists) ≤ end) → (rest : List Row) × (merged lists ≡ merged_before end lists ++ rest)
    by (inl l) = (between end (suc (last_of_all lists)) lists, merged-more end (suc (last_of_all lists)) lists (omega arith))
    by (inr l) = ([], sym (append-nil (merged_before end lists) ∙ merged-past end lists (omega arith)))

pub ends-merged : EndsMerged
ends-merged m all out h l = h.begun ∙ merged-past (least_clock m.clocks) all l
