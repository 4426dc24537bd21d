-- Properties of a release queue that each call keeps.
use Rattle.std.proofs.Common.{◌≡◌, ℕ, zero, suc, ◌+◌, ◌<◌, ◌≤◌, false, List, [], ◌∷◌, ◌++◌, length, get_or, set, Option, Some, None, refl, sym, ap, ◌∙◌, arith, get_or-set_other, length-set}
use Rattle.std.specs.Prelude.{nat_lt}
use Rattle.std.proofs.lemmas.Bool.Decides.{nat_tests}
use Rattle.std.proofs.lemmas.Grind.{common_steps}
use Rattle.std.proofs.lemmas.List.{get_or_past}
use Rattle.mcs_ticks.specs.Soonest.{sooner}
use Rattle.mcs_release.specs.declared.dated.Dated.{Dated}
use Rattle.mcs_release.specs.stored.Places.{entered, times, one_if, waiting, most, AreEmptyFrom, AreEnoughFor, AsManyFit, IsAlone, IsKept, IsTaken}
use Rattle.mcs_release.specs.Release.{ReleaseQueue, is_held, earliest, next_date, when_left, AreBelow, AreDistinct}
use Rattle.mcs_release.proofs.Earliest.{next_date-entered, next_date-none}
use Rattle.mcs_release.proofs.Entered.{empty_from, entered-none, entered-push, entered-left, times-left}
use Rattle.mcs_release.proofs.Times.{times-append, times-cons_same, times-free, length-le-room}

-- with no thread
pub entered-new : (places : List (Option Dated)) → AreEmptyFrom 0 places → entered places ≡ []
entered-new places empty = entered-none places (λ place. empty place (omega arith))

pub IsKept-new : (places : List (Option Dated)) (spare : Option (List (Option Dated))) (room : ℕ) → AreEmptyFrom 0 places → AreEnoughFor room places spare →
    IsKept None None places spare 0 room
IsKept-new places spare room empty enough = record {
  first = sym (ap next_date (entered-new places empty));
  alone = tt;
  behind = empty;
  once = λ thread. omega (arith, ap (times thread) (entered-new places empty));
  enough = enough;
}

-- as many fit into as many places
pub AreEnoughFor-same : (count : ℕ) (places places' : List (Option Dated)) (spare : Option (List (Option Dated))) → length places' ≡ length places →
    AreEnoughFor count places spare → AreEnoughFor count places' spare
AreEnoughFor-same count places places' spare same enough = record {
  two = omega (arith, enough.two);
  wide = omega (arith, enough.wide, ap (λ (n : ℕ). most n spare) same);
  unused = enough.unused;
}

-- if no thread waits, no place has a thread
pub entered-nil : (lone : Option Dated) (places : List (Option Dated)) → waiting lone places ≡ [] → entered places ≡ []
entered-nil None places e = e
entered-nil (Some x) places e = cc

-- one enters
module _ (soonest : Option ℕ) (lone : Option Dated) (places : List (Option Dated)) (spare : Option (List (Option Dated))) (end room : ℕ)
    (kept : IsKept soonest lone places spare end room) (x : Dated)
    (x_below : x.thread < room) (free : is_held x.thread (waiting lone places) ≡ false) where
  once-more : (thread : ℕ) → times thread (x ∷ waiting lone places) ≤ one_if (nat_lt thread room)
  once-more thread = grind (arith, nat_tests, times-free x.thread (waiting lone places) free, kept.once thread)

  -- there is a place for one more
  pub enough-for-more : AreEnoughFor (length (waiting lone places)) places spare
  enough-for-more = record {
    two = kept.enough.two;
    wide = omega (arith, length-le-room (x ∷ waiting lone places) room once-more, kept.enough.wide);
    unused = kept.enough.unused;
  }

  -- it is the only one
  pub alone-now : soonest ≡ None → x ∷ entered places ≡ waiting lone places ++ x ∷ []
  alone-now none =
      let empty = next_date-none (waiting lone places) (sym kept.first ∙ none) in
      ap (λ (xs : List Dated). x ∷ xs) (entered-nil lone places empty) ∙ sym (ap (λ (xs : List Dated). xs ++ x ∷ []) empty)

  pub IsKept-alone : soonest ≡ None → IsKept (Some x.date) (Some x) places spare end room
  IsKept-alone none =
      let empty = next_date-none (waiting lone places) (sym kept.first ∙ none) in
      let nil = entered-nil lone places empty in
      record {
        first = sym (ap (λ (xs : List Dated). next_date (x ∷ xs)) nil);
        alone = nil;
        behind = kept.behind;
        once = λ thread. omega (arith, once-more thread, ap (λ (xs : List Dated). times thread (x ∷ xs)) (nil ∙ sym empty));
        enough = kept.enough;
      }

  -- it gets a place behind all
  module _ (places' : List (Option Dated)) (spare' : Option (List (Option Dated))) (place : ℕ) (same : entered places' ≡ waiting lone places)
      (within : place < length places') (behind : AreEmptyFrom place places') (fit : AsManyFit places spare places' spare')
    where
      pub entered-more : entered (set places' place (Some x)) ≡ waiting lone places ++ x ∷ []
      entered-more = entered-push places' place x within behind ∙ ap (λ (xs : List Dated). xs ++ x ∷ []) same

      pub IsKept-entered : IsKept (sooner soonest (Some x.date)) None (set places' place (Some x)) spare' (place + 1) room
      IsKept-entered = record {
        first = ap (λ (r : Option ℕ). sooner r (Some x.date)) kept.first ∙ sym (next_date-entered (waiting lone places) x) ∙ sym (ap next_date entered-more);
        alone = tt;
        behind = λ i from. get_or-set_other places' place i (Some x) None (omega arith) ∙ behind i (omega arith);
        once = λ thread. omega (
          arith,
          ap (times thread) entered-more,
          times-append thread (waiting lone places) (x ∷ []),
          once-more thread,
        );
        enough = AreEnoughFor-same room places' (set places' place (Some x)) spare' (length-set places' place (Some x)) (fit room kept.enough);
      }

-- an empty place stays empty when another is emptied
still : (places : List (Option Dated)) (k i : ℕ) → get_or places i None ≡ None → get_or (set places k None) i None ≡ None
still places k i e = grind (arith, common_steps, get_or_past (set places k None) i None)

-- the earliest leaves its place
module _ (soonest : Option ℕ) (lone : Option Dated) (places : List (Option Dated)) (spare : Option (List (Option Dated))) (end room : ℕ)
    (kept : IsKept soonest lone places spare end room) (places' : List (Option Dated))
    (thread : ℕ) (taken : IsTaken places places' thread) (none : lone ≡ None) where
  all : waiting lone places ≡ entered places
  all = ap (λ (r : Option Dated). waiting r places) none

  pub left-others : entered places' ≡ when_left (earliest (waiting lone places)) (waiting lone places)
  left-others =
      ap entered taken.left
      ∙ sym (
      entered-left places taken.place taken.first taken.stood
      (grind (arith, ap (times taken.first.thread) all, kept.once taken.first.thread))
      )
      ∙ sym (ap (λ (r : Option Dated). when_left r (entered places)) taken.is_earliest)
      ∙ sym (ap (λ (xs : List Dated). when_left (earliest xs) xs) all)

  pub IsKept-left : IsKept (next_date (entered places')) None places' spare end room
  IsKept-left = record {
    first = refl;
    alone = tt;
    behind = λ i from. ap (λ (ps : List (Option Dated)). get_or ps i None) taken.left ∙ still places taken.place i (kept.behind i from);
    once = λ t. omega (
      arith,
      ap (λ (ps : List (Option Dated)). times t (entered ps)) taken.left,
      times-left places taken.place t,
      ap (times t) all,
      kept.once t,
    );
    enough = AreEnoughFor-same room places places' spare (ap length taken.left ∙ length-set places taken.place None) kept.enough;
  }

-- no thread stands twice, and none above what there is room for
times-get_or : (xs : List Dated) (i : ℕ) (d : Dated) → i < length xs → 1 ≤ times (get_or xs i d).thread xs
times-get_or [] i d h = absurd (omega arith)
times-get_or (x ∷ xs) zero d h = omega (arith, times-cons_same x xs)
times-get_or (x ∷ xs) (suc i) d h = omega (arith, times-get_or xs i d (omega arith))

pub AreDistinct-once : (xs : List Dated) → ((thread : ℕ) → times thread xs ≤ 1) → AreDistinct xs
AreDistinct-once [] once i j d before h same = absurd (omega arith)
AreDistinct-once (x ∷ xs) once i zero d before h same = absurd (omega arith)
AreDistinct-once (x ∷ xs) once zero (suc j) d before h same =
    absurd (omega (arith, once x.thread, times-cons_same x xs, ap (λ (t : ℕ). times t xs) same, times-get_or xs j d (omega arith)))
AreDistinct-once (x ∷ xs) once (suc i) (suc j) d before h same =
    AreDistinct-once xs (λ thread. omega (arith, once thread)) i j d (omega arith) (omega arith) same

pub AreBelow-once : (xs : List Dated) (room : ℕ) → ((thread : ℕ) → times thread xs ≤ one_if (nat_lt thread room)) → AreBelow room xs
AreBelow-once xs room once k d h = grind (arith, nat_tests, once (get_or xs k d).thread, times-get_or xs k d h)

pub same_value : (queue queue' : List Dated) (room room' : ℕ) → queue ≡ queue' → room ≡ room' →
    let old : ReleaseQueue = record { queue = queue; room = room } in
    let new : ReleaseQueue = record { queue = queue'; room = room' } in
    old ≡ new
same_value queue queue' room room' e f = cc

-- a lone thread moved to the first place is all that waits, and all later places are empty
pub entered-lone : (lone : Option Dated) (x : Dated) (places : List (Option Dated)) → IsAlone lone places → lone ≡ Some x → 0 < length places →
    entered (set places 0 (Some x)) ≡ waiting lone places
entered-lone None x places alone e room = cc
entered-lone (Some y) x places alone e room =
    let it : y ≡ x = cc in
    entered-push places 0 x room (λ i from. empty_from places i alone) ∙ ap (λ (xs : List Dated). xs ++ x ∷ []) alone
    ∙ sym (ap (λ (xs : List Dated). y ∷ xs) alone ∙ ap (λ (z : Dated). z ∷ []) it)

pub AreEmptyFrom-lone : (lone : Option Dated) (x : Dated) (places : List (Option Dated)) → IsAlone lone places → lone ≡ Some x → AreEmptyFrom 1 (set places 0 (Some x))
AreEmptyFrom-lone None x places alone e i from = cc
AreEmptyFrom-lone (Some y) x places alone e i from = get_or-set_other places 0 i (Some x) None (omega arith) ∙ empty_from places i alone
