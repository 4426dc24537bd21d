-- The contents of a heap of numbered mail, in order of delivery, after a push and after a pop.
use Rattle.std.proofs.Common.{◌≡◌, ◌≢◌, ℕ, zero, suc, ◌+◌, ◌<◌, ◌≤◌, Bool, true, false, ◌&&◌, ◌||◌, List, [], ◌∷◌, length, get_or, slice_get, Some, inl, inr, refl, sym, ap, subst, ◌∙◌, arith}
use Rattle.std.specs.Prelude.{◌==◌, nat_lt, IsPermutation}
use Rattle.std.specs.Ordering.{nat_cmp, is_lt, ordering_then}
use Rattle.std.specs.declared.cmp.Ordering.{Ordering}
use Rattle.std.specs.declared.cmp.Reverse.{Reverse}
use Rattle.std.specs.BinaryHeap.{lt_by_cmp, IsHeap, IsUpperBound}
use Rattle.std.specs.List.{AllByRecursion, Contains}
use Rattle.std.proofs.lemmas.Bool.{eq-eqb}
use Rattle.std.proofs.lemmas.Bool.Decides.{nat_tests}
use Rattle.std.proofs.lemmas.List.Sums.{sum_by-cons}
use Rattle.std.proofs.lemmas.List.Sorted.{Contains-permutation, IsPermutation-sym, sum_by-IsPermutation}
use Rattle.mcs_mail.specs.declared.mail.Mail.{Mail}
use Rattle.mcs_mail.specs.declared.late.Numbered.{Numbered}
use Rattle.mcs_mail.specs.Box.{is_before, put}
use Rattle.mcs_mail.proofs.Inserts.{Among, Pairwise, length-inserted, from_inserted, in_inserted, pairwise-inserted, same_lists}
use Rattle.mcs_mail.specs.stored.Numbers.{mail_of, is_earlier, enter, in_order, mails_of, late_cmp, numbered, one_if, times, IsNumbered}

-- a number and then what follows it
part_trans : (a x u : ℕ) (r s t : Bool) → (r ≡ true → s ≡ true → t ≡ true) →
    (nat_lt a x || ((a == x) && r)) ≡ true → (nat_lt x u || ((x == u) && s)) ≡ true → (nat_lt a u || ((a == u) && t)) ≡ true
part_trans a x u true true t h p q = rw (h refl refl) (grind (arith, nat_tests))
part_trans a x u true false t h p q = grind (arith, nat_tests)
part_trans a x u false true t h p q = grind (arith, nat_tests)
part_trans a x u false false t h p q = grind (arith, nat_tests)

earlier_trans : (a b d : Reverse Numbered) → is_earlier a b ≡ true → is_earlier b d ≡ true → is_earlier a d ≡ true
earlier_trans a b d p q =
    part_trans a.0.arrives b.0.arrives d.0.arrives _ _ _ (part_trans a.0.made b.0.made d.0.made _ _ _ (part_trans a.0.maker b.0.maker d.0.maker _ _ _ last)) p q
  where
    last : nat_lt a.0.number b.0.number ≡ true → nat_lt b.0.number d.0.number ≡ true → nat_lt a.0.number d.0.number ≡ true
    last e f = grind (arith, nat_tests)

not_earlier : (a : Reverse Numbered) → is_earlier a a ≡ true → ⊥
not_earlier a p = grind (arith, nat_tests)

other_earlier : (a b : Reverse Numbered) → is_earlier a b ≡ false → a.0.number ≢ b.0.number → is_earlier b a ≡ true
other_earlier a b p h = grind (arith, nat_tests)

-- the heap's order says the same of two of different numbers
part_before : (a x : ℕ) (o : Ordering) (r : Bool) → (a ≡ x → is_lt o ≡ false → r ≡ true) → is_lt (ordering_then (nat_cmp x a) o) ≡ false → (nat_lt a x || ((a == x) && r)) ≡ true
part_before a x o r next h = grind (arith, nat_tests, next)

top_earlier : (x y : Reverse Numbered) → lt_by_cmp late_cmp x y ≡ false → x.0.number ≢ y.0.number → is_earlier x y ≡ true
top_earlier x y h apart =
    part_before x.0.arrives y.0.arrives _ _ (λ _. part_before x.0.made y.0.made _ _ (λ _. part_before x.0.maker y.0.maker _ _ (λ _ k. number k))) h
  where
    number : is_lt (ordering_then (nat_cmp y.0.number x.0.number) (ordering_then (nat_cmp y.0.note x.0.note) (nat_cmp y.0.badge x.0.badge))) ≡ false → nat_lt x.0.number y.0.number ≡ true
    number k = let p = part_before x.0.number y.0.number (ordering_then (nat_cmp y.0.note x.0.note) (nat_cmp y.0.badge x.0.badge)) false (λ e _. absurd (apart e)) k in grind (arith, nat_tests)

to_contains : (x : Reverse Numbered) (xs : List (Reverse Numbered)) → Among x xs → Contains xs x
to_contains x [] h = absurd h
to_contains x (y ∷ ys) (inl e) = (zero, omega arith, sym e)
to_contains x (y ∷ ys) (inr h) = let at = to_contains x ys h in (suc at.0, omega (arith, at.1), at.2)

from_contains : (x : Reverse Numbered) (xs : List (Reverse Numbered)) (k : ℕ) → k < length xs → get_or xs k x ≡ x → Among x xs
from_contains x [] k p e = absurd (omega arith)
from_contains x (y ∷ ys) zero p e = inl (sym e)
from_contains x (y ∷ ys) (suc k) p e = inr (from_contains x ys k (omega arith) e)

among-permuted : (x : Reverse Numbered) (xs ys : List (Reverse Numbered)) → IsPermutation xs ys → Among x xs → Among x ys
among-permuted x xs ys moved h = let at = Contains-permutation xs ys x moved (to_contains x xs h) in from_contains x ys at.0 at.1 at.2

-- what a heap holds is there in order
from_in_order : (x : Reverse Numbered) (heap : List (Reverse Numbered)) → Among x (in_order heap) → Among x heap
from_in_order x [] h = h
from_in_order x (y ∷ heap) h = elim (from_inserted (Reverse Numbered) is_earlier x y (in_order heap) h) [ inl e ↦ inl e | inr k ↦ inr (from_in_order x heap k) ]

to_in_order : (x : Reverse Numbered) (heap : List (Reverse Numbered)) → Among x heap → Among x (in_order heap)
to_in_order x [] h = h
to_in_order x (y ∷ heap) (inl e) = in_inserted (Reverse Numbered) is_earlier x y (in_order heap) (inl e)
to_in_order x (y ∷ heap) (inr k) = in_inserted (Reverse Numbered) is_earlier x y (in_order heap) (inr (to_in_order x heap k))

-- if no number occurs twice ..
abbrev IsApart : List (Reverse Numbered) → Type 0
IsApart heap = (number : ℕ) → times number heap ≤ 1

counted : (x : Reverse Numbered) (heap : List (Reverse Numbered)) → Among x heap → 1 ≤ times x.0.number heap
counted x [] h = absurd h
counted x (y ∷ heap) (inl e) =
    omega (arith, sum_by-cons (λ (z : Reverse Numbered). one_if (z.0.number == x.0.number)) y heap, ap one_if (eq-eqb y.0.number x.0.number (ap (λ (z : Reverse Numbered). z.0.number) (sym e))))
counted x (y ∷ heap) (inr k) = omega (arith, sum_by-cons (λ (z : Reverse Numbered). one_if (z.0.number == x.0.number)) y heap, counted x heap k)

apart-rest : (x : Reverse Numbered) (heap : List (Reverse Numbered)) → IsApart (x ∷ heap) → IsApart heap
apart-rest x heap apart number = omega (arith, apart number, sum_by-cons (λ (z : Reverse Numbered). one_if (z.0.number == number)) x heap)

apart-first : (x y : Reverse Numbered) (heap : List (Reverse Numbered)) → IsApart (x ∷ heap) → Among y heap → x.0.number ≢ y.0.number
apart-first x y heap apart h e =
    absurd (omega (
      arith,
      apart y.0.number,
      sum_by-cons (λ (z : Reverse Numbered). one_if (z.0.number == y.0.number)) x heap,
      ap one_if (eq-eqb x.0.number y.0.number e),
      counted y heap h,
    ))

-- .. what a heap holds in order ascends ..
abbrev IsAscending : List (Reverse Numbered) → Type 0
IsAscending xs = Pairwise (λ x y. is_earlier x y ≡ true) xs

ascending : (heap : List (Reverse Numbered)) → IsApart heap → IsAscending (in_order heap)
ascending [] apart = tt
ascending (x ∷ heap) apart =
    pairwise-inserted (Reverse Numbered) is_earlier (λ y z. is_earlier y z ≡ true) x (in_order heap) (ascending heap (apart-rest x heap apart)) (λ y z k e f. elim f [
      | inl g ↦ ap (is_earlier x) g ∙ e
      | inr l ↦ earlier_trans x y z e l
    ]) (λ y k e. other_earlier x y e (apart-first x y heap apart (from_in_order y heap k)))

-- .. and is the same however the heap stores it
apart-permuted : (xs ys : List (Reverse Numbered)) → IsPermutation xs ys → IsApart xs → IsApart ys
apart-permuted xs ys moved apart number = omega (arith, apart number, sum_by-IsPermutation (λ (z : Reverse Numbered). one_if (z.0.number == number)) xs ys moved)

in_order-permuted : (xs ys : List (Reverse Numbered)) → IsPermutation xs ys → IsPermutation ys xs → IsApart xs → in_order xs ≡ in_order ys
in_order-permuted xs ys moved back apart =
    same_lists (Reverse Numbered) (λ x y. is_earlier x y ≡ true) not_earlier earlier_trans (in_order xs) (in_order ys) (ascending xs apart) (ascending ys (apart-permuted xs ys moved apart))
    (λ m h. to_in_order m ys (among-permuted m xs ys moved (from_in_order m xs h)))
    (λ m h. to_in_order m xs (among-permuted m ys xs back (from_in_order m ys h)))

-- .. an element that is earlier than all enters first
enter-first : (x : Reverse Numbered) (ys : List (Reverse Numbered)) → ((y : Reverse Numbered) → Among y ys → is_earlier x y ≡ true) → enter x ys ≡ x ∷ ys
enter-first x [] h = refl
enter-first x (y ∷ ys) h = rw (h y (inl refl)) refl

below_top : (x : Reverse Numbered) (P : Reverse Numbered → Type 0) (heap : List (Reverse Numbered)) → AllByRecursion P heap → Among x heap → P x
below_top x P [] all h = absurd h
below_top x P (y ∷ heap) all (inl e) = subst P (sym e) all.0
below_top x P (y ∷ heap) all (inr k) = below_top x P heap all.1 k

in_order-top : (x : Reverse Numbered) (heap : List (Reverse Numbered)) → IsApart (x ∷ heap) → AllByRecursion (λ y. lt_by_cmp late_cmp x y ≡ false) heap → in_order (x ∷ heap) ≡ x ∷ in_order heap
in_order-top x heap apart below =
    enter-first x (in_order heap) (λ y k. top_earlier x y (below_top y (λ z. lt_by_cmp late_cmp x z ≡ false) heap below (from_in_order y heap k)) (apart-first x y heap apart (from_in_order y heap k)))

-- .. and an element with a greater number enters at the place of `put`
earlier_greater : (x y : Reverse Numbered) → y.0.number < x.0.number → is_earlier x y ≡ is_before (mail_of x.0) (mail_of y.0)
earlier_greater x y h = grind (arith, nat_tests)

mails-enter : (x : Reverse Numbered) (ys : List (Reverse Numbered)) → ((y : Reverse Numbered) → Among y ys → y.0.number < x.0.number) → mails_of (enter x ys) ≡ put (mail_of x.0) (mails_of ys)
mails-enter x [] h = refl
mails-enter x (y ∷ ys) h = let rest = mails-enter x ys (λ z k. h z (inr k)) in rw (← earlier_greater x y (h y (inl refl))) (grind (arith))

-- how much there is
mails-count : (ys : List (Reverse Numbered)) → length (mails_of ys) ≡ length ys
mails-count [] = refl
mails-count (y ∷ ys) = ap suc (mails-count ys)

in_order-count : (heap : List (Reverse Numbered)) → length (in_order heap) ≡ length heap
in_order-count [] = refl
in_order-count (x ∷ heap) = length-inserted (Reverse Numbered) is_earlier x (in_order heap) ∙ ap suc (in_order-count heap)

pub held-count : (heap : List (Reverse Numbered)) → length (mails_of (in_order heap)) ≡ length heap
held-count heap = mails-count (in_order heap) ∙ in_order-count heap

pub none-numbered : (heap : List (Reverse Numbered)) (next next' : ℕ) → mails_of (in_order heap) ≡ [] → IsNumbered heap next → IsNumbered heap next'
none-numbered heap next next' none kept = record { once = λ number. omega (arith, nowhere number heap (sym (held-count heap) ∙ ap length none)); order = kept.order }
  where
    nowhere : (number : ℕ) (xs : List (Reverse Numbered)) → length xs ≡ 0 → times number xs ≡ 0
    nowhere number [] e = refl
    nowhere number (x ∷ xs) e = absurd (omega arith)

module _ (heap : List (Reverse Numbered)) (next : ℕ) (kept : IsNumbered heap next) where
  apart : IsApart heap
  apart number = grind (arith, kept.once number)

  below_next : (y : Reverse Numbered) → Among y heap → y.0.number < next
  below_next y h = grind (arith, nat_tests, kept.once y.0.number, counted y heap h)

  -- the top is the first
  pub first-top : (x : Reverse Numbered) → 0 < length heap → x ≡ get_or heap 0 x → AllByRecursion (λ y. lt_by_cmp late_cmp x y ≡ false) heap →
      slice_get (mails_of (in_order heap)) 0 ≡ Some (mail_of x.0)
  first-top x some top greatest = by heap refl some top greatest
    where
      by : (ys : List (Reverse Numbered)) → heap ≡ ys → 0 < length ys → x ≡ get_or ys 0 x → AllByRecursion (λ y. lt_by_cmp late_cmp x y ≡ false) ys →
          slice_get (mails_of (in_order ys)) 0 ≡ Some (mail_of x.0)
      by [] e some top greatest = absurd (omega arith)
      by (y ∷ ys) e some top greatest =
          let Apart : List (Reverse Numbered) → Type 0 = λ zs. IsApart zs in
          let is : IsApart (x ∷ ys) = subst Apart (e ∙ ap (λ (z : Reverse Numbered). z ∷ ys) (sym top)) apart in
          ap (λ (z : Reverse Numbered). slice_get (mails_of (in_order (z ∷ ys))) 0) (sym top)
          ∙ ap (λ (zs : List (Reverse Numbered)). slice_get (mails_of zs) 0) (in_order-top x ys is greatest.1)

  -- it is popped
  module _ (x : Reverse Numbered) (heap' : List (Reverse Numbered)) (moved : IsPermutation heap (x ∷ heap')) where
    pub popped-mails : IsUpperBound late_cmp x heap' → mails_of (in_order heap) ≡ mail_of x.0 ∷ mails_of (in_order heap')
    popped-mails below =
        ap mails_of (in_order-permuted heap (x ∷ heap') moved (IsPermutation-sym heap (x ∷ heap') moved) apart)
        ∙ ap mails_of (in_order-top x heap' (apart-permuted heap (x ∷ heap') moved apart) below)

    pub popped-numbered : IsHeap late_cmp heap' → IsNumbered heap' next
    popped-numbered order = record {
      once = λ number.
          omega (
            arith,
            kept.once number,
            sum_by-IsPermutation (λ (z : Reverse Numbered). one_if (z.0.number == number)) heap (x ∷ heap') moved,
            sum_by-cons (λ (z : Reverse Numbered). one_if (z.0.number == number)) x heap',
          );
      order = order;
    }

  -- one more is pushed
  module _ (mail : Mail) (x : Reverse Numbered) (heap' : List (Reverse Numbered)) (same : x.0 ≡ numbered next mail) (moved : IsPermutation (x ∷ heap) heap') where
    once-more : (number : ℕ) → times number (x ∷ heap) ≤ one_if (nat_lt number (next + 1))
    once-more number =
        grind (arith, nat_tests, sum_by-cons (λ (z : Reverse Numbered). one_if (z.0.number == number)) x heap, ap (λ (z : Numbered). one_if (z.number == number)) same, kept.once number)

    pub pushed-numbered : IsHeap late_cmp heap' → IsNumbered heap' (next + 1)
    pushed-numbered order = record {
      once = λ number. omega (arith, once-more number, sum_by-IsPermutation (λ (z : Reverse Numbered). one_if (z.0.number == number)) (x ∷ heap) heap' moved);
      order = order;
    }

    pub pushed-mails : mails_of (in_order heap') ≡ put mail (mails_of (in_order heap))
    pushed-mails =
        ap mails_of (sym (in_order-permuted (x ∷ heap) heap' moved (IsPermutation-sym (x ∷ heap) heap' moved) apart-more))
        ∙ mails-enter x (in_order heap) (λ y k. omega (arith, ap (λ (z : Numbered). z.number) same, below_next y (from_in_order y heap k)))
        ∙ ap (λ (m : Numbered). put (mail_of m) (mails_of (in_order heap))) same
      where
        apart-more : IsApart (x ∷ heap)
        apart-more number = grind (arith, once-more number)
