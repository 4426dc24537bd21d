-- The place of mail that is put into a list in order of delivery, and the result of taking mail
-- out.
use Rattle.std.proofs.Common.{◌≡◌, ℕ, zero, suc, ◌-◌, ◌<◌, ◌≤◌, true, false, not, List, [], ◌∷◌, length, get_or, Some, None, inl, inr, refl, sym, ap, ◌∙◌, arith}
use Rattle.std.specs.Prelude.{nat_le}
use Rattle.std.specs.List.{All, insert}
use Rattle.std.specs.List.Sorted.{IsPartitionedBy, IsPartitionPoint}
use Rattle.std.proofs.lemmas.Bool.{not-true, not-false, cond_both}
use Rattle.std.proofs.lemmas.List.{get_or_default}
use Rattle.std.proofs.lemmas.Bool.Decides.{nat_tests}
use Rattle.std.proofs.lemmas.List.Elements.{All-head, All-tail}
use Rattle.mcs_mail.specs.declared.mail.Mail.{Mail}
use Rattle.mcs_mail.specs.Box.{is_before, put, due, without_due, arriving, staying, IsIn, IsOrdered}
use Rattle.mcs_mail.proofs.Inserts.{pairwise-inserted}

pub not_trans : (a b d : Mail) → is_before a b ≡ false → is_before b d ≡ false → is_before a d ≡ false
not_trans a b d p q = grind (arith, nat_tests)

pub not_back : (a b : Mail) → is_before a b ≡ true → is_before b a ≡ false
not_back a b p = grind (arith, nat_tests)

-- mail at two places of an ordered list
is_in_at : (d : Mail) (xs : List Mail) (i : ℕ) → i < length xs → IsIn (get_or xs i d) xs
is_in_at d [] i p = absurd (omega arith)
is_in_at d (x ∷ xs) zero p = inl refl
is_in_at d (x ∷ xs) (suc i) p = inr (is_in_at d xs i (omega arith))

pub no_earlier : (mail d : Mail) (xs : List Mail) (i j : ℕ) → IsOrdered xs → i ≤ j → j < length xs → is_before mail (get_or xs j d) ≡ false → is_before mail (get_or xs i d) ≡ false
no_earlier mail d [] i j h p q e = absurd (omega arith)
no_earlier mail d (x ∷ xs) zero zero h p q e = e
no_earlier mail d (x ∷ xs) zero (suc j) h p q e = not_trans mail (get_or xs j d) x e (h.0 (get_or xs j d) (is_in_at d xs j (omega arith)))
no_earlier mail d (x ∷ xs) (suc i) zero h p q e = absurd (omega arith)
no_earlier mail d (x ∷ xs) (suc i) (suc j) h p q e = no_earlier mail d xs i j h.1 (omega arith) (omega arith) e

-- what a binary search for the place asks
pub is_partitioned : (mail : Mail) (xs : List Mail) → IsOrdered xs → IsPartitionedBy (λ y. not (is_before mail y)) xs
is_partitioned mail xs h i j d p q e = ap not (no_earlier mail d xs i j h p q (not-true (is_before mail (get_or xs j d)) e))

-- an index is the place of mail if all before it are not after the mail, and the one at the index
-- is
pub put-at : (mail : Mail) (xs : List Mail) (i : ℕ) → i ≤ length xs → ((k : ℕ) (d : Mail) → k < i → is_before mail (get_or xs k d) ≡ false) →
    ((d : Mail) → i < length xs → is_before mail (get_or xs i d) ≡ true) → insert xs i mail ≡ put mail xs
put-at mail [] zero p f g = refl
put-at mail [] (suc i) p f g = absurd (omega arith)
put-at mail (x ∷ xs) zero p f g = rw (g x (omega arith)) refl
put-at mail (x ∷ xs) (suc i) p f g =
    rw (f 0 x (omega arith)) (ap (λ ys. x ∷ ys) (put-at mail xs i (omega arith) (λ k d q. f (suc k) d (omega arith)) (λ d q. g d (omega arith))))

pub put-partition : (mail : Mail) (xs : List Mail) (i : ℕ) → i ≤ length xs → IsPartitionPoint (λ y. not (is_before mail y) ≡ true) (λ y. not (is_before mail y) ≡ false) xs i →
    insert xs i mail ≡ put mail xs
put-partition mail xs i p h =
    put-at mail xs i p (λ k d q. not-true (is_before mail (get_or xs k d)) (h.0 k d (omega arith) q)) (λ d q. not-false (is_before mail (get_or xs i d)) (h.1 i d (omega arith) q))

-- the place is the back if the last is not delivered after the mail
pub put-back : (mail last : Mail) (xs : List Mail) (n : ℕ) → IsOrdered xs → n ≡ length xs → last ≡ get_or xs (n - 1) last → is_before mail last ≡ false → insert xs n mail ≡ put mail xs
put-back mail last [] n h e f g = rw e refl
put-back mail last (x ∷ xs) n h e f g =
    put-at mail (x ∷ xs) n (omega (arith, e))
    (λ k d q. no_earlier mail d (x ∷ xs) k (n - 1) h (omega (arith, e)) (omega (arith, e)) (ap (is_before mail) (get_or_default (x ∷ xs) (n - 1) d last (omega (arith, e)) ∙ sym f) ∙ g))
    (λ d q. absurd (omega (arith, e)))

pub put-empty : (mail : Mail) (xs : List Mail) (n : ℕ) → n ≡ length xs → (0 < n → ⊥) → insert xs n mail ≡ put mail xs
put-empty mail [] n e f = rw e refl
put-empty mail (x ∷ xs) n e f = absurd (f (omega (arith, e)))

-- a put keeps the order
pub ordered-put : (mail : Mail) (xs : List Mail) → IsOrdered xs → IsOrdered (put mail xs)
ordered-put mail xs h = pairwise-inserted Mail is_before (λ a b. is_before b a ≡ false) mail xs h (λ y z k e f. elim f [
  | inl g ↦ ap (λ (m : Mail). is_before m mail) g ∙ not_back mail y e
  | inr l ↦ not_trans z y mail l (not_back mail y e)
]) (λ y k e. e)

-- what is left when the first is taken is no earlier
pub no_earlier-without_due : (t from : ℕ) (xs : List Mail) → All (λ (mail : Mail). from ≤ mail.arrives) xs → All (λ (mail : Mail). from ≤ mail.arrives) (without_due t xs)
no_earlier-without_due t from [] h = h
no_earlier-without_due t from (x ∷ xs) h =
    let Late : List Mail → Type 0 = λ ys. All (λ (mail : Mail). from ≤ mail.arrives) ys in
    cond_both (nat_le x.arrives t) xs (x ∷ xs) Late (λ e. All-tail (λ (mail : Mail). from ≤ mail.arrives) x xs h) (λ e. h)

-- if no mail arrives before t, the mail that is due at t is the first that arrives at t ..
pub due-some : (t : ℕ) (mail : Mail) (xs : List Mail) → All (λ (m : Mail). t ≤ m.arrives) xs → due t xs ≡ Some mail →
    (arriving t xs ≡ mail ∷ arriving t (without_due t xs)) × (staying t xs ≡ staying t (without_due t xs))
due-some t mail [] h e = cc
due-some t mail (x ∷ xs) h e = let first = All-head (λ (m : Mail). t ≤ m.arrives) x xs h in grind (arith, nat_tests)

-- .. and if all mail arrives after t, no mail arrives at t
none-arrives : (t : ℕ) (xs : List Mail) → ((y : Mail) → IsIn y xs → t < y.arrives) → (arriving t xs ≡ []) × (staying t xs ≡ xs)
none-arrives t [] g = (refl, refl)
none-arrives t (x ∷ xs) g =
    let first = g x (inl refl) in
    let rest = none-arrives t xs (λ y k. g y (inr k)) in
    grind (arith, nat_tests)

first-later : (t : ℕ) (x : Mail) (xs : List Mail) → due t (x ∷ xs) ≡ None → t < x.arrives
first-later t x xs e = grind (arith, nat_tests)

no_sooner : (x y : Mail) → is_before y x ≡ false → x.arrives ≤ y.arrives
no_sooner x y p = grind (arith, nat_tests)

pub due-none : (t : ℕ) (xs : List Mail) → IsOrdered xs → due t xs ≡ None → (arriving t xs ≡ []) × (staying t xs ≡ xs)
due-none t [] h e = (refl, refl)
due-none t (x ∷ xs) h e = none-arrives t (x ∷ xs) (λ y k. elim k [
  | inl f ↦ omega (arith, ap (λ (z : Mail). z.arrives) f, first-later t x xs e)
  | inr l ↦ omega (arith, no_sooner x y (h.0 y l), first-later t x xs e)
])
