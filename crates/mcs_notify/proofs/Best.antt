-- The best waiter so far, and the next one.
use Rattle.std.proofs.Common.{◌≡◌, ℕ, suc, ◌+◌, ◌-◌, ◌<◌, ◌≤◌, Bool, true, false, cond, nat_lt, List, [], ◌∷◌, ◌++◌, length, get_or, Some, refl, sym, ap, ◌∙◌, arith}
use Rattle.std.proofs.lemmas.Bool.{lt-ltb, le-ltb}
use Rattle.std.proofs.lemmas.List.{get_or_read}
use Rattle.mcs_ticks.specs.declared.queue.Queued.{Queued}
use Rattle.mcs_ticks.specs.Queue.{first_among, first_of_greatest}
use Rattle.mcs_notify.specs.declared.line.Place.{Place}
use Rattle.mcs_notify.specs.declared.line.Waiter.{Waiter}
use Rattle.mcs_notify.specs.stored.Lines.{no_place, place_of, queued_at, waiters_from, nth, IsBest}
use Rattle.mcs_notify.proofs.Lines.{waiters_from-next, nth-next}

-- the first of greatest priority when one more waits
first_of_greatest-push : (xs : List Queued) (best y : Queued) → first_of_greatest xs ≡ Some best → first_of_greatest (xs ++ y ∷ []) ≡ Some (cond (nat_lt best.priority y.priority) y best)
first_of_greatest-push [] best y e = cc
first_of_greatest-push (x ∷ xs) best y e = ap (λ (q : Queued). Some q) (among x xs (same e))
  where
    same : Some (first_among x xs) ≡ Some best → first_among x xs ≡ best
    same f = cc

    among : (x : Queued) (xs : List Queued) → first_among x xs ≡ best → first_among x (xs ++ y ∷ []) ≡ cond (nat_lt best.priority y.priority) y best
    among x [] f = rw f refl
    among x (z ∷ xs) f = by (nat_lt x.priority z.priority) (among z xs) (among x xs) f
      where
        by : (b : Bool) → (first_among z xs ≡ best → first_among z (xs ++ y ∷ []) ≡ cond (nat_lt best.priority y.priority) y best) →
            (first_among x xs ≡ best → first_among x (xs ++ y ∷ []) ≡ cond (nat_lt best.priority y.priority) y best) → cond b (first_among z xs) (first_among x xs) ≡ best →
            cond b (first_among z (xs ++ y ∷ [])) (first_among x (xs ++ y ∷ [])) ≡ cond (nat_lt best.priority y.priority) y best
        by true i j f = i f
        by false i j f = j f

-- a place that was read
pub read-is : (places : List Place) (thread : ℕ) (read : Place) → thread < length places → read ≡ get_or places thread read → get_or places thread read ≡ place_of places thread
read-is places thread read below is = sym is ∙ get_or_read places thread read below is no_place

more : (n : ℕ) → suc n ≡ n + 1
more n = omega arith

-- the waiter after the last one
pub next-is : (places : List Place) (first len last : ℕ) (place : Place) → last ≡ nth places first len → place ≡ place_of places last → place.behind ≡ nth places first (len + 1)
next-is places first len last place last_is is =
    ap (λ (p : Place). p.behind) is ∙ ap (λ n. (place_of places n).behind) last_is ∙ sym (nth-next places first len) ∙ ap (nth places first) (more len)

module _ (places : List Place) (first len last : ℕ) (best : Waiter) (last_is : last ≡ nth places first (len - 1)) (h : IsBest places first len best) (next : ℕ)
    (next_is : next ≡ nth places first len) (of_best of_next : Place) (best_is : of_best ≡ place_of places best.thread) (next_place : of_next ≡ place_of places next) where
  now : (b : Bool) → nat_lt of_best.priority of_next.priority ≡ b →
      first_of_greatest (waiters_from places first (len + 1)) ≡ Some (cond b (queued_at places next) (queued_at places best.thread))
  now b e =
      ap (λ n. first_of_greatest (waiters_from places first n)) (sym (more len))
      ∙ ap first_of_greatest (waiters_from-next places first len ∙ ap (λ n. waiters_from places first len ++ queued_at places n ∷ []) (sym next_is))
      ∙ first_of_greatest-push (waiters_from places first len) (queued_at places best.thread) (queued_at places next) h.3
      ∙ ap (λ (p : Place). Some (cond (nat_lt p.priority (place_of places next).priority) (queued_at places next) (queued_at places best.thread))) (sym best_is)
      ∙ ap (λ (p : Place). Some (cond (nat_lt of_best.priority p.priority) (queued_at places next) (queued_at places best.thread))) (sym next_place)
      ∙ ap (λ b. Some (cond b (queued_at places next) (queued_at places best.thread))) e

  -- which is better
  pub best-next : of_best.priority < of_next.priority → IsBest places first (len + 1) (record { before = last; thread = next })
  best-next lower = (len, omega arith, (next_is, last_is), now true (lt-ltb of_best.priority of_next.priority lower))

  -- or is not
  pub best-stays : of_next.priority ≤ of_best.priority → IsBest places first (len + 1) best
  best-stays lower = (h.0, omega (arith, h.1), h.2, now false (le-ltb of_best.priority of_next.priority lower))
