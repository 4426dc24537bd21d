-- The rows that the calls of a merger give over time.
use Rattle.std.proofs.Common.{◌≡◌, List, [], ◌∷◌, ◌++◌, replicate, refl, sym, ap, ◌∙◌, append_assoc, append-nil}
use Rattle.mcs_ticks.specs.declared.row.Row.{Row}
use Rattle.mcs_merge.specs.Merge.{merged_before}
use Rattle.mcs_merge.specs.Merging.{Merging, starting, least_clock, passed, with_rows, after_add, IsInOrder}
use Rattle.mcs_merge.specs.Parts.{poured}
use Rattle.mcs_merge.specs.laws.Steps.{HasTaken}
use Rattle.mcs_merge.specs.laws.Calls.{Call, Add, Pour, after, taken, added, all_added, MayBeMade, TakesMerged, TakesPrefix}
use Rattle.mcs_merge.proofs.Adds.{adds-merged, begins-merged, merged-begins}
use Rattle.mcs_merge.proofs.Pours.{pours-merged}

-- over a list of calls
over-calls : (calls : List Call) (m : Merging) (all : List (List Row)) (out : List Row) → IsInOrder m → HasTaken all out m → MayBeMade calls m → HasTaken (added calls all) (out ++ taken calls m) (after calls m)
over-calls [] m all out o h may = rw (append-nil out) h
over-calls (Add core rows clock ∷ calls) m all out o h may =
    let next = adds-merged m all out core rows clock o h may.0 in
    over-calls calls (after_add core rows clock m) (with_rows core rows all) out next.0 next.1 may.1
over-calls (Pour until ∷ calls) m all out o h may =
    let next = pours-merged m all out until o h may.0 in
    rw (← append_assoc out (merged_before until m.left) (taken calls (poured until m)))
    (over-calls calls (poured until m) all (out ++ merged_before until m.left) next.0 next.1 may.1)

pub takes-merged : TakesMerged
takes-merged cores calls may =
    let begin = begins-merged cores in
    let h = over-calls calls (starting cores) (replicate cores []) [] begin.0 begin.1 may in
    h.begun

taken-more : (calls more : List Call) (m : Merging) → taken (calls ++ more) m ≡ taken calls m ++ taken more (after calls m)
taken-more [] more m = refl
taken-more (Add core rows clock ∷ calls) more m = taken-more calls more (after_add core rows clock m)
taken-more (Pour until ∷ calls) more m =
    ap (λ rows. merged_before until m.left ++ rows) (taken-more calls more (poured until m))
    ∙ sym (append_assoc (merged_before until m.left) (taken calls (poured until m)) (taken more (after calls (poured until m))))

pub takes-prefix : TakesPrefix
takes-prefix cores calls more may =
    let whole = takes-merged cores (calls ++ more) may in
    let m = after calls (starting cores) in
    let last = after (calls ++ more) (starting cores) in
    let begins = merged-begins (least_clock last.clocks) (all_added cores (calls ++ more)) in (
      taken more m ++ (passed last ++ begins.0),
      begins.1 ∙ ap (λ rows. rows ++ begins.0) (sym whole ∙ ap (λ rows. rows ++ passed last) (taken-more calls more (starting cores)))
          ∙ grouped (taken calls (starting cores)) (taken more m) (passed last) begins.0,
    )
  where
    grouped : (a b c d : List Row) → ((a ++ b) ++ c) ++ d ≡ a ++ (b ++ (c ++ d))
    grouped a b c d = simp append_assoc
