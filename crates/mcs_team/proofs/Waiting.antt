-- The rows that wait for an output: more are added, and all before a time are written.
use Rattle.std.proofs.Common.{◌≡◌, ◌≢◌, ℕ, zero, suc, ◌+◌, ◌<◌, ◌≤◌, Bool, true, false, List, [], ◌∷◌, ◌++◌, length, map, min, get_or, refl, sym, ap, ◌∙◌, subst, arith}
use Rattle.std.specs.Prelude.{◌==◌, All, fold, slice_index, slice_set, nat_le}
use Rattle.std.specs.List.{range_with_len}
use Rattle.std.proofs.lemmas.Bool.Decides.{nat_tests}
use Rattle.std.proofs.lemmas.List.{get_or-set_same, get_or-set_other, get_or-map, ext_get_or, length-set, length-map, map-set}
use Rattle.std.proofs.lemmas.List.Elements.{filter-append}
use Rattle.mcs_ticks.specs.declared.row.Row.{Row}
use Rattle.mcs_merge.specs.Merge.{merged_before, DoNotFall}
use Rattle.mcs_merge.specs.Merging.{list_of, least_clock, with_rows, IsInOrder}
use Rattle.mcs_merge.specs.Parts.{rows_from, all_from, AreHeld}
use Rattle.mcs_merge.proofs.Joins.{AreFrom-earlier}
use Rattle.mcs_merge.proofs.Passing.{least-of}
use Rattle.mcs_merge.proofs.Parts.{from-all, from-in-order}
use Rattle.mcs_merge.proofs.Pours.{pours-merged}
use Rattle.mcs_system.specs.System.{System, TakesTime}
use Rattle.mcs_core.specs.Clock.{clock}
use Rattle.mcs_stretch.specs.Stretch.{rows_between}
use Rattle.mcs_stretch.specs.laws.Merging.{rows_until}
use Rattle.mcs_stretch.proofs.Merging.{list-between, from-between, order-between, rows-so_far, clock-later, rows-later}
use Rattle.mcs_stretch.proofs.Ranges.{rows-join}
use Rattle.mcs_ticks.specs.Given.{Given, GivenUntil}
use Rattle.mcs_ticks.specs.declared.sink.FlowFault.TheVariants as fault
use Rattle.mcs_team.specs.Flow.{FailsFrom, IsGivenBetween, Waits}
use Rattle.mcs_team.proofs.Giving.{until-append, until-more}

range-at : (f : ℕ → List Row) (n a i : ℕ) (d : List Row) → i < n → get_or (map f (range_with_len a n)) i d ≡ f (a + i)
range-at f zero a i d l = absurd (omega arith)
range-at f (suc n) a zero d l = ap f (omega arith)
range-at f (suc n) a (suc i) d l = range-at f n (a + 1) i d (omega arith) ∙ ap f (omega arith)

range-long : (f : ℕ → List Row) (n a : ℕ) → length (map f (range_with_len a n)) ≡ n
range-long f zero a = refl
range-long f (suc n) a = ap suc (range-long f n (a + 1))

-- rows from a moment on, of rows from an earlier one on
from-from : (t u : ℕ) (rows : List Row) → t ≤ u → rows_from u (rows_from t rows) ≡ rows_from u rows
from-from t u [] l = refl
from-from t u (row ∷ rows) l = by (nat_le t row.moment) (nat_le u row.moment) refl refl (from-from t u rows l)
  where
    by : (a b : Bool) → nat_le t row.moment ≡ a → nat_le u row.moment ≡ b → rows_from u (rows_from t rows) ≡ rows_from u rows →
        rows_from u (rows_from t (row ∷ rows)) ≡ rows_from u (row ∷ rows)
    by true true e f i = rw (e, f) (ap (λ xs. row ∷ xs) i)
    by true false e f i = rw (e, f) i
    by false true e f i = absurd (grind (arith, nat_tests))
    by false false e f i = rw (e, f) i

all-from-from : (t u : ℕ) (lists : List (List Row)) → t ≤ u → all_from u (all_from t lists) ≡ all_from u lists
all-from-from t u [] l = refl
all-from-from t u (rows ∷ lists) l = both _ _ _ _ (from-from t u rows l) (all-from-from t u lists l)
  where
    both : (xs ys : List Row) (us vs : List (List Row)) → xs ≡ ys → us ≡ vs → xs ∷ us ≡ ys ∷ vs
    both xs ys us vs e f = cc

-- the least of the moments is the least clock
least-fold : (end clk : ℕ) (clks : List ℕ) → fold min end (clk ∷ clks) ≡ min end (least_clock (clk ∷ clks))
least-fold end clk [] = refl
least-fold end clk (other ∷ clks) = least-fold (min end clk) other clks ∙ omega arith

least-is : (end : ℕ) (clks : List ℕ) → 1 ≤ length clks → least_clock clks ≤ end → fold min end clks ≡ least_clock clks
least-is end [] l k = absurd (omega arith)
least-is end (clk ∷ clks) l k = least-fold end clk clks ∙ omega arith

module _ (system : System) where
  list-at : (pasts : List ℕ) (c : ℕ) (d : List Row) → c < system.cores → get_or (rows_until system pasts) c d ≡ rows_between system c 0 (slice_index pasts c)
  list-at pasts c d l =
      let e : 0 + c ≡ c = omega arith in
      range-at (λ c. rows_between system c 0 (slice_index pasts c)) system.cores 0 c d l ∙ ap (λ c. rows_between system c 0 (slice_index pasts c)) e

  lists-long : (pasts : List ℕ) → length (rows_until system pasts) ≡ system.cores
  lists-long pasts = range-long (λ c. rows_between system c 0 (slice_index pasts c)) system.cores 0

  -- the rows of a core from its moment on, behind those before it
  with-until : (pasts : List ℕ) (c past : ℕ) → length pasts ≡ system.cores → c < system.cores → slice_index pasts c ≤ past →
      with_rows c (rows_between system c (slice_index pasts c) past) (rows_until system pasts) ≡ rows_until system (slice_set pasts c past)
  with-until pasts c past long l le =
      ap (λ xs. slice_set (rows_until system pasts) c xs) whole
      ∙ ext_get_or [] _ _ (length-set _ c _ ∙ lists-long pasts ∙ sym (lists-long (slice_set pasts c past)))
      (λ i k. at i (subst (λ n. i < n) (length-set _ c _ ∙ lists-long pasts) k))
    where
      whole : list_of c (rows_until system pasts) ++ rows_between system c (slice_index pasts c) past ≡ rows_between system c 0 past
      whole = ap (λ xs. xs ++ rows_between system c (slice_index pasts c) past) (list-at pasts c [] l) ∙ rows-join system c 0 (slice_index pasts c) past (omega arith) le

      at : (i : ℕ) → i < system.cores → get_or (slice_set (rows_until system pasts) c (rows_between system c 0 past)) i [] ≡ get_or (rows_until system (slice_set pasts c past)) i []
      at i k = by (i == c) refl ∙ sym (list-at (slice_set pasts c past) i [] k)
        where
          by : (b : Bool) → (i == c) ≡ b → get_or (slice_set (rows_until system pasts) c (rows_between system c 0 past)) i [] ≡ rows_between system i 0 (slice_index (slice_set pasts c past) i)
          by true e =
              let g : i ≡ c = grind (arith, nat_tests) in
              subst (λ j. get_or (slice_set (rows_until system pasts) c (rows_between system c 0 past)) j [] ≡ rows_between system j 0 (slice_index (slice_set pasts c past) j)) (sym g)
              (get_or-set_same (rows_until system pasts) c (rows_between system c 0 past) [] (let r = lists-long pasts in omega arith)
              ∙ ap (rows_between system c 0) (sym (get_or-set_same pasts c past 0 (omega arith))))
          by false e =
              let g : i ≢ c = grind (arith, nat_tests) in
              get_or-set_other (rows_until system pasts) c i (rows_between system c 0 past) [] g ∙ list-at pasts i [] k
              ∙ ap (rows_between system i 0) (sym (get_or-set_other pasts c i past 0 g))

  -- the same, if all before an earlier time was given
  with-from : (t : ℕ) (pasts : List ℕ) (c past : ℕ) → length pasts ≡ system.cores → c < system.cores → t ≤ slice_index pasts c → slice_index pasts c ≤ past →
      with_rows c (rows_between system c (slice_index pasts c) past) (all_from t (rows_until system pasts)) ≡ all_from t (rows_until system (slice_set pasts c past))
  with-from t pasts c past long l le in_order =
      ap (λ xs. slice_set (all_from t (rows_until system pasts)) c xs) joined
      ∙ sym (map-set (rows_from t) (rows_until system pasts) c (list_of c (rows_until system pasts) ++ more))
      ∙ ap (all_from t) (with-until pasts c past long l in_order)
    where
      more : List Row
      more = rows_between system c (slice_index pasts c) past

      later : rows_from t more ≡ more
      later = from-all t more (AreFrom-earlier t (slice_index pasts c) more le (from-between system c (slice_index pasts c) past))

      joined : list_of c (all_from t (rows_until system pasts)) ++ more ≡ rows_from t (list_of c (rows_until system pasts) ++ more)
      joined =
          ap (λ xs. xs ++ more) (get_or-map (rows_from t) (rows_until system pasts) c [] [] (let r = lists-long pasts in omega arith))
          ∙ ap (λ xs. rows_from t (list_of c (rows_until system pasts)) ++ xs) (sym later)
          ∙ sym (filter-append (λ row. nat_le t row.moment) (list_of c (rows_until system pasts)) more)

  -- the lists that wait are in order
  pub waits-in-order : (t : ℕ) (pasts : List ℕ) → All DoNotFall (all_from t (rows_until system pasts))
  waits-in-order t pasts c d l =
      let r = lists-long pasts in
      let n = length-map (rows_until system pasts) (rows_from t) in
      let k : c < length (rows_until system pasts) = omega arith in
      subst DoNotFall (sym (get_or-map (rows_from t) (rows_until system pasts) c d d k))
      (from-in-order t _ (subst DoNotFall (sym (list-at pasts c d (omega arith))) (order-between system c 0 (slice_index pasts c))))

  -- all rows before a time that all cores have passed, if those before an earlier one were given
  module _ (takes_time : TakesTime system) (t : ℕ) (pasts : List ℕ) (long : length pasts ≡ system.cores) (some : 1 ≤ system.cores)
      (passed : (c : ℕ) → c < system.cores → t ≤ slice_index pasts c) where
    in-order : IsInOrder (record { left = rows_until system pasts; clocks = pasts })
    in-order =
        record {
          same = long ∙ sym (lists-long pasts);
          lists = λ c l.
              let k : c < system.cores = (let r = lists-long pasts in omega arith) in
              rw (list-at pasts c [] k) (list-between system c 0 (slice_index pasts c) (omega arith));
        }

    at-least : t ≤ least_clock pasts
    at-least = least-above pasts (omega arith) (λ c l. passed c (omega arith))
      where
        least-above : (clks : List ℕ) → 1 ≤ length clks → ((c : ℕ) → c < length clks → t ≤ slice_index clks c) → t ≤ least_clock clks
        least-above [] l h = absurd (omega arith)
        least-above (clk ∷ []) l h = h 0 (omega arith)
        least-above (clk ∷ other ∷ clks) l h =
            let first = h 0 (omega arith) in
            let rest = least-above (other ∷ clks) (omega arith) (λ c k. h (suc c) (omega arith)) in
            omega arith

    pub rows-poured : (clock system t).rows ++ merged_before (least_clock pasts) (all_from t (rows_until system pasts)) ≡ (clock system (least_clock pasts)).rows
    rows-poured =
        ap (λ xs. xs ++ merged_before (least_clock pasts) (all_from t (rows_until system pasts))) (sym (rows-so_far system takes_time pasts t passed))
        ∙ (pours-merged (record { left = rows_until system pasts; clocks = pasts }) (rows_until system pasts) [] t in-order
        (record { count = refl; begun = refl; later = λ t core l k. refl }) at-least).1.begun
        ∙ rows-so_far system takes_time pasts (least_clock pasts) (λ c l. least-of pasts c (omega arith))

module _ {O P : Type 0} (holds : O → P → List Row → Type 0) (system : System) (horizon : ℕ) where
  -- a part is added
  pub waits-more : (t : ℕ) (pasts : List ℕ) (parts : List (List P)) (out : O) (c past : ℕ) → Waits holds system horizon t pasts parts out → c < system.cores →
      slice_index pasts c ≤ past → past ≤ horizon + 1 → (now : List (List P)) →
      AreHeld holds out now (with_rows c (rows_between system c (slice_index pasts c) past) (all_from t (rows_until system pasts))) →
      Waits holds system horizon t (slice_set pasts c past) now out
  waits-more t pasts parts out c past is l in_order in_time now held =
      record {
        many_are = length-set pasts c past ∙ is.many_are;
        early = λ d k. by d k (λ n. n ≤ horizon + 1) in_time is.early;
        passed = λ d k. by d k (λ n. t ≤ n) (let p = is.passed c l in omega arith) is.passed;
        held = subst (AreHeld holds out now) (with-from system t pasts c past is.many_are l (is.passed c l) in_order) held;
      }
    where
      by : (d : ℕ) → d < system.cores → (Q : ℕ → Type 0) → Q past → ((d : ℕ) → d < system.cores → Q (slice_index pasts d)) → Q (slice_index (slice_set pasts c past) d)
      by d k Q new old = on (d == c) refl
        where
          on : (b : Bool) → (d == c) ≡ b → Q (slice_index (slice_set pasts c past) d)
          on true e =
              let g : d ≡ c = grind (arith, nat_tests) in
              subst (λ d. Q (slice_index (slice_set pasts c past) d)) (sym g) (subst Q (sym (get_or-set_same pasts c past 0 (let m = is.many_are in omega arith))) new)
          on false e =
              let g : d ≢ c = grind (arith, nat_tests) in
              subst Q (sym (get_or-set_other pasts c d past 0 g)) (old d k)

  -- all before the earliest of the times is written
  module _ (takes : O → Row → Bool → O → Type 0) (takes_time : TakesTime system) (some : 1 ≤ system.cores) (t : ℕ) (pasts : List ℕ) (parts : List (List P)) (before : O)
      (is : Waits holds system horizon t pasts parts before) (u : ℕ) (at : u ≡ fold min (horizon + 1) pasts) where
    least : ℕ
    least = least_clock pasts

    in_time : least_clock pasts ≤ horizon + 1
    in_time =
        let n = is.many_are in
        let a = least-of pasts 0 (omega arith) in
        let b = is.early 0 (omega arith) in
        omega arith

    u-is : u ≡ least_clock pasts
    u-is = let n = is.many_are in at ∙ least-is (horizon + 1) pasts (omega arith) in_time

    u-passed : (c : ℕ) → c < system.cores → u ≤ slice_index pasts c
    u-passed c l = let n = is.many_are in let e = u-is in let k = least-of pasts c (omega arith) in omega arith

    rows-now : (clock system t).rows ++ merged_before u (all_from t (rows_until system pasts)) ≡ (clock system u).rows
    rows-now = rw u-is (rows-poured system takes_time t pasts is.many_are some is.passed)

    pub waits-poured : (now : List (List P)) (after : O) → AreHeld holds after now (all_from u (all_from t (rows_until system pasts))) → Waits holds system horizon u pasts now after
    waits-poured now after held =
        record {
          many_are = is.many_are;
          early = is.early;
          passed = u-passed;
          held = subst (AreHeld holds after now) (all-from-from t u (rows_until system pasts) later) held;
        }
      where
        later : t ≤ u
        later = let e = u-is in let l = at-least system takes_time t pasts is.many_are some is.passed in omega arith

    pub is-given : (after : O) → Given takes before (merged_before u (all_from t (rows_until system pasts))) after → IsGivenBetween takes system t u before after
    is-given after more = (merged_before u (all_from t (rows_until system pasts)), rows-now, more)

    pub fails : (after : O) → GivenUntil takes before (merged_before u (all_from t (rows_until system pasts))) after → FailsFrom takes system horizon t before after fault.Sink
    fails after refused s given =
        subst (λ xs. GivenUntil takes s xs after)
        (ap (λ xs. xs ++ rows-later system u (suc horizon)) rows-now ∙ sym (clock-later system takes_time u (suc horizon) (let e = u-is in let l = in_time in omega arith)))
        (until-more takes s after ((clock system t).rows ++ merged_before u (all_from t (rows_until system pasts))) (rows-later system u (suc horizon))
        (until-append takes s before after (clock system t).rows (merged_before u (all_from t (rows_until system pasts))) given refused))

-- an output that a relay fits stays so while it is given rows
pub fits-given : {W O : Type 0} (fits : W → O → Type 0) (takes : O → Row → Bool → O → Type 0) →
    ((relay : W) (before after : O) (row : Row) → fits relay before → takes before row true after → fits relay after) →
    (relay : W) (before after : O) (rows : List Row) → fits relay before → Given takes before rows after → fits relay after
fits-given fits takes on relay before after [] h g = subst (fits relay) g h
fits-given fits takes on relay before after (row ∷ rows) h g = fits-given fits takes on relay g.0 after rows (on relay before g.0 row h g.1) g.2
