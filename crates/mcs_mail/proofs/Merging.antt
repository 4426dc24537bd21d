-- Late mail and a ring as one list in order of delivery.
use Rattle.std.proofs.Common.{◌≡◌, ℕ, zero, suc, ◌+◌, ◌<◌, ◌≤◌, true, false, cond, List, [], ◌∷◌, ◌++◌, length, get_or, slice_get, drop, Option, Some, None, Bor, ◌⊎◌, inl, inr, refl, sym, ap, ◌∙◌, arith}
use Rattle.std.specs.Option.{option_copied, option_to_list}
use Rattle.std.specs.Prelude.{nat_lt, is_some, IfSome, Result, Ok, Err, is_ok, OnOk, OnErr}
use Rattle.std.proofs.lemmas.Bool.{false≢true, cases_Bool, cond_both}
use Rattle.std.proofs.lemmas.Bool.Decides.{nat_tests}
use Rattle.mcs_mail.specs.declared.mail.Mail.{Mail}
use Rattle.mcs_mail.specs.Box.{is_before, put, put_all, first_arrival, IsIn, IsOrdered}
use Rattle.mcs_mail.specs.stored.Late.{last_or, late_is_first, sooner_of, IsMerged}
use Rattle.mcs_mail.proofs.Boxes.{not_back, not_trans, ordered-put}
use Rattle.mcs_mail.proofs.Inserts.{inserted-inserted, length-inserted}
use Rattle.mcs_mail.proofs.Orders.{from_put, not_itself, trans}

-- strictly before one that is not after the other
before-until : (a b d : Mail) → is_before a b ≡ true → is_before d b ≡ false → is_before a d ≡ true
before-until a b d p q = grind (arith, nat_tests)

not_before_itself : (a : Mail) → is_before a a ≡ false
not_before_itself a = grind (arith, nat_tests)

-- the last of a ring
pub last_or-back : (mail last : Mail) (xs : List Mail) (k : ℕ) → k + 1 ≡ length xs → last ≡ get_or xs k last → last_or mail xs ≡ last
last_or-back mail last [] k e h = absurd (omega arith)
last_or-back mail last (x ∷ []) zero e h = sym h
last_or-back mail last (x ∷ []) (suc k) e h = absurd (omega arith)
last_or-back mail last (x ∷ y ∷ xs) zero e h = absurd (omega arith)
last_or-back mail last (x ∷ y ∷ xs) (suc k) e h = last_or-back x last (y ∷ xs) k (omega arith) h

last_or-append : (d m : Mail) (xs : List Mail) → last_or d (xs ++ m ∷ []) ≡ m
last_or-append d m [] = refl
last_or-append d m (x ∷ xs) = last_or-append x m xs

-- the last is not before any earlier one
not_after_last : (d : Mail) (xs : List Mail) → IsOrdered (d ∷ xs) → is_before (last_or d xs) d ≡ false
not_after_last d [] h = not_before_itself d
not_after_last d (x ∷ xs) h = not_trans (last_or x xs) x d (not_after_last x xs h.1) (h.0 x (inl refl))

-- mail that is not before the last goes to the end
put-behind : (m : Mail) (xs : List Mail) → IsOrdered xs → is_before m (last_or m xs) ≡ false → put m xs ≡ xs ++ m ∷ []
put-behind m [] h e = refl
put-behind m (x ∷ []) h e = rw e refl
put-behind m (x ∷ y ∷ xs) h e =
    rw (not_trans m (last_or y xs) x e (not_after_last x (y ∷ xs) h)) (ap (λ (zs : List Mail). x ∷ zs) (put-behind m (y ∷ xs) h.1 e))

-- two mails, one strictly before the other, may be put in either order
put-put : (a b : Mail) (xs : List Mail) → is_before a b ≡ true → put a (put b xs) ≡ put b (put a xs)
put-put a b xs h = inserted-inserted Mail is_before a b xs h (not_back a b h) (λ x. trans a b x h)

put-put_all : (m : Mail) (late xs : List Mail) → ((l : Mail) → IsIn l late → (is_before l m ≡ true) ⊎ (is_before m l ≡ true)) → put_all late (put m xs) ≡ put m (put_all late xs)
put-put_all m [] xs h = refl
put-put_all m (l ∷ late) xs h =
    ap (put_all late) (elim (h l (inl refl)) [ inl e ↦ put-put l m xs e | inr e ↦ sym (put-put m l xs e) ]) ∙ put-put_all m late (put l xs) (λ k i. h k (inr i))

-- late mail that is put among the late is put among all
pub put_all-put : (m : Mail) (late xs : List Mail) → IsOrdered late → put_all (put m late) xs ≡ put m (put_all late xs)
put_all-put m [] xs h = refl
put_all-put m (l ∷ late) xs h =
    cond_both (is_before m l) (m ∷ l ∷ late) (l ∷ put m late) (λ zs. put_all zs xs ≡ put m (put_all late (put l xs))) (λ e. put-put_all m (l ∷ late) xs (λ k j. inr (elim j [
      | inl f ↦ ap (is_before m) f ∙ e
      | inr i ↦ before-until m l k e (h.0 k i)
    ]))) (λ e. put_all-put m late (put l xs) h.1)

-- mail stays first if no late mail is before it
put_all-over : (f : Mail) (late xs : List Mail) → ((l : Mail) → IsIn l late → is_before l f ≡ false) → put_all late (f ∷ xs) ≡ f ∷ put_all late xs
put_all-over f [] xs h = refl
put_all-over f (l ∷ late) xs h = rw (h l (inl refl)) (put_all-over f late (put l xs) (λ k j. h k (inr j)))

-- how much there is, and its order
pub length-put : (m : Mail) (xs : List Mail) → length (put m xs) ≡ suc (length xs)
length-put m xs = length-inserted Mail is_before m xs

pub length-put_all : (late xs : List Mail) → length (put_all late xs) ≡ length xs + length late
length-put_all [] xs = omega arith
length-put_all (l ∷ late) xs = omega (arith, length-put_all late (put l xs), length-put l xs)

pub ordered-put_all : (late xs : List Mail) → IsOrdered xs → IsOrdered (put_all late xs)
ordered-put_all [] xs h = h
ordered-put_all (l ∷ late) xs h = ordered-put_all late (put l xs) (ordered-put l xs h)

-- the case of no late mail
pub IsMerged-ring : (late ring : List Mail) (capacity : ℕ) → late ≡ [] → IsOrdered ring → length ring ≤ capacity → IsMerged late ring capacity
IsMerged-ring [] ring capacity e h room = record { late_ordered = tt; ring_ordered = h; before_last = λ m k. absurd k; room = omega arith }
IsMerged-ring (l ∷ late) ring capacity e h room = cc

-- one is put ..
module _ (late ring : List Mail) (capacity : ℕ) (kept : IsMerged late ring capacity) (m : Mail) where
  -- .. the mail is not before the last of the ring
  module _ (behind : is_before m (last_or m ring) ≡ false) where
    last-before : (l : Mail) → IsIn l late → is_before l m ≡ true
    last-before l k = by ring (kept.before_last l k) behind
      where
        by : (xs : List Mail) → is_before l (last_or l xs) ≡ true → is_before m (last_or m xs) ≡ false → is_before l m ≡ true
        by [] e f = absurd (not_itself l e)
        by (x ∷ xs) e f = before-until l (last_or x xs) m e f

    pub mails-behind : put_all late (ring ++ m ∷ []) ≡ put m (put_all late ring)
    mails-behind = ap (put_all late) (sym (put-behind m ring kept.ring_ordered behind)) ∙ put-put_all m late ring (λ l k. inl (last-before l k))

    pub IsMerged-behind : (capacity' : ℕ) → length ring + length late + 1 ≤ capacity' → IsMerged late (ring ++ m ∷ []) capacity'
    IsMerged-behind capacity' room = record {
      late_ordered = kept.late_ordered;
      ring_ordered = rw (← put-behind m ring kept.ring_ordered behind) (ordered-put m ring kept.ring_ordered);
      before_last = λ l k. ap (is_before l) (last_or-append l m ring) ∙ last-before l k;
      room = rw (← put-behind m ring kept.ring_ordered behind) (omega (arith, length-put m ring));
    }

  -- .. or among the late mail
  IsMerged-late : is_before m (last_or m ring) ≡ true → length ring + length late + 1 ≤ capacity → IsMerged (put m late) ring capacity
  IsMerged-late before room = record {
    late_ordered = ordered-put m late kept.late_ordered;
    ring_ordered = kept.ring_ordered;
    before_last = λ l k. elim (from_put l m late k) [ inl e ↦ ap (λ (z : Mail). is_before z (last_or z ring)) e ∙ before | inr i ↦ kept.before_last l i ];
    room = omega (arith, length-put m late);
  }

-- a put among the late mail that may be refused
pub IsMerged-put : {A B : Type 0} (late late' ring : List Mail) (capacity : ℕ) (m : Mail) (r : Result A B) → IsMerged late ring capacity →
    length ring + length late + 1 ≤ capacity → is_before m (last_or m ring) ≡ true → OnOk r (late' ≡ put m late) → OnErr r (late' ≡ late) → IsMerged late' ring capacity
IsMerged-put late late' ring capacity m (Ok x) kept room before done refused = rw done (IsMerged-late late ring capacity kept m before room)
IsMerged-put late late' ring capacity m (Err x) kept room before done refused = rw refused kept

-- the first is that of the late mail ..
pub mails-late_first : (late ring : List Mail) (capacity : ℕ) → IsMerged late ring capacity → late_is_first late ring ≡ true →
    (slice_get late 0 ≡ slice_get (put_all late ring) 0) × (put_all (drop 1 late) ring ≡ drop 1 (put_all late ring)) × IsMerged (drop 1 late) ring capacity
mails-late_first [] ring capacity kept e = cc
mails-late_first (l ∷ late) [] capacity kept e = cc
mails-late_first (l ∷ late) (f ∷ ring) capacity kept e =
    (sym (ap (λ (zs : List Mail). slice_get zs 0) whole), sym (ap (λ (zs : List Mail). drop 1 zs) whole), less)
  where
    whole : put_all (l ∷ late) (f ∷ ring) ≡ l ∷ put_all late (f ∷ ring)
    whole = rw e (put_all-over l late (f ∷ ring) (λ k j. kept.late_ordered.0 k j))

    less : IsMerged late (f ∷ ring) capacity
    less = record { late_ordered = kept.late_ordered.1; ring_ordered = kept.ring_ordered; before_last = λ m k. kept.before_last m (inr k); room = omega (arith, kept.room) }

-- .. or of the ring
pub mails-ring_first : (late ring : List Mail) (capacity : ℕ) → IsMerged late ring capacity → late_is_first late ring ≡ false →
    (slice_get ring 0 ≡ slice_get (put_all late ring) 0) × (put_all late (drop 1 ring) ≡ drop 1 (put_all late ring)) × IsMerged late (drop 1 ring) capacity
mails-ring_first [] [] capacity kept e = (refl, refl, kept)
mails-ring_first (l ∷ late) [] capacity kept e = absurd (not_itself l (kept.before_last l (inl refl)))
mails-ring_first [] (f ∷ ring) capacity kept e = (refl, refl, IsMerged-ring [] ring capacity refl kept.ring_ordered.1 (omega (arith, kept.room)))
mails-ring_first (l ∷ late) (f ∷ ring) capacity kept e =
    (sym (ap (λ (zs : List Mail). slice_get zs 0) whole), sym (ap (λ (zs : List Mail). drop 1 zs) whole), less)
  where
    whole : put_all (l ∷ late) (f ∷ ring) ≡ f ∷ put_all (l ∷ late) ring
    whole = put_all-over f (l ∷ late) ring (λ k i. elim i [ inl g ↦ ap (λ (z : Mail). is_before z f) g ∙ e | inr j ↦ not_trans k l f (kept.late_ordered.0 k j) e ])

    still : (xs : List Mail) (m : Mail) → is_before l (last_or l (f ∷ xs)) ≡ true → is_before m (last_or m (f ∷ xs)) ≡ true → is_before m (last_or m xs) ≡ true
    still [] m g h = absurd (false≢true (sym e ∙ g))
    still (y ∷ ys) m g h = h

    less : IsMerged (l ∷ late) ring capacity
    less = record {
      late_ordered = kept.late_ordered;
      ring_ordered = kept.ring_ordered.1;
      before_last = λ m k. still ring m (kept.before_last l (inl refl)) (kept.before_last m k);
      room = omega (arith, kept.room);
    }

-- when the first arrives
first-arrives : (m : Mail) (xs : List Mail) → Some m ≡ slice_get xs 0 → Some m.arrives ≡ first_arrival xs
first-arrives m [] e = cc
first-arrives m (x ∷ xs) e = let same : m ≡ x = cc in ap (λ (z : Mail). Some z.arrives) same

sooner_arrival : (l f : Mail) → is_before l f ≡ true → cond (nat_lt l.arrives f.arrives) l.arrives f.arrives ≡ l.arrives
sooner_arrival l f e = grind (arith, nat_tests)

later_arrival : (l f : Mail) → is_before l f ≡ false → cond (nat_lt l.arrives f.arrives) l.arrives f.arrives ≡ f.arrives
later_arrival l f e = grind (arith, nat_tests)

pub sooner-merged : (late ring : List Mail) (capacity : ℕ) → IsMerged late ring capacity → sooner_of (slice_get ring 0) (slice_get late 0) ≡ first_arrival (put_all late ring)
sooner-merged [] [] capacity kept = refl
sooner-merged [] (f ∷ ring) capacity kept = refl
sooner-merged (l ∷ late) [] capacity kept = absurd (not_itself l (kept.before_last l (inl refl)))
sooner-merged (l ∷ late) (f ∷ ring) capacity kept = elim (cases_Bool (is_before l f)) [
  | inl e ↦ ap Some (sooner_arrival l f e) ∙ first-arrives l _ (mails-late_first (l ∷ late) (f ∷ ring) capacity kept e).0
  | inr e ↦ ap Some (later_arrival l f e) ∙ first-arrives f _ (mails-ring_first (l ∷ late) (f ∷ ring) capacity kept e).0
]

-- the first of the late mail moves into the ring
pub moved : (late late' ring ring' : List Mail) (r : Option Mail) (m : Mail) → r ≡ slice_get late 0 → r ≡ Some m → late' ≡ drop 1 late → ring' ≡ put m ring →
    (put_all late' ring' ≡ put_all late ring) × (length late' + 1 ≡ length late)
moved [] late' ring ring' r m e f g h = cc
moved (l ∷ late) late' ring ring' r m e f g h =
    let same : l ≡ m = cc in
    (ap (put_all late') h ∙ ap (λ (zs : List Mail). put_all zs (put m ring)) g ∙ ap (λ (z : Mail). put_all late (put z ring)) (sym same), omega (arith, ap length g))

pub none-taken : (late : List Mail) (r : Option Mail) → r ≡ slice_get late 0 → r ≡ None → 0 < length late → ⊥
none-taken [] r e f some = absurd (omega arith)
none-taken (l ∷ late) r e f some = cc

pub when_ok : {A B : Type 0} (P : Type 0) (r : Result A B) → is_ok r ≡ true → OnOk r P → P
when_ok P (Ok x) e h = h
when_ok P (Err x) e h = absurd (false≢true e)

pub on_ok-both : {A B : Type 0} (P Q R : Type 0) (r : Result A B) → (P → Q → R) → OnOk r P → OnOk r Q → OnOk r R
on_ok-both P Q R (Ok x) f h k = f h k
on_ok-both P Q R (Err x) f h k = tt

-- what the ends of a ring answer
pub copied-front : (xs : List Mail) (n : ℕ) (r : Option (Bor Mail)) → n ≡ length xs → (is_some r ≡ true → 0 < n) × (0 < n → is_some r ≡ true) → IfSome r (λ x. x.now ≡ get_or xs 0 x.now) →
    option_copied r ≡ slice_get xs 0
copied-front [] n None e h k = refl
copied-front [] n (Some x) e h k = absurd (omega (arith, h.0 refl))
copied-front (y ∷ xs) n None e h k = absurd (false≢true (h.1 (omega arith)))
copied-front (y ∷ xs) n (Some x) e h k = ap (λ (z : Mail). Some z) k

pub popped-front : (xs ys : List Mail) (n : ℕ) (r : Option Mail) → n ≡ length xs → xs ≡ option_to_list r ++ ys → (0 < n → is_some r ≡ true) → r ≡ slice_get xs 0
popped-front xs ys n (Some x) e f h = sym (ap (λ (zs : List Mail). slice_get zs 0) f)
popped-front [] ys n None e f h = refl
popped-front (x ∷ xs) ys n None e f h = absurd (false≢true (h (omega arith)))
