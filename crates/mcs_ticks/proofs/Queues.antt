-- The queue in one list and the queue by priority hold the same threads: the best of one list is
-- the first by priority.
use Rattle.std.proofs.Common.{◌≡◌, Bool, true, false, cond, List, [], ◌∷◌, ◌++◌, refl, sym, ap, ◌∙◌, arith}
use Rattle.std.specs.Prelude.{nat_lt, Some}
use Rattle.std.proofs.lemmas.Bool.Decides.{nat_tests}
use Rattle.mcs_ticks.specs.Queue.{first_among, first_of_greatest, without_greatest, entered_back, entered_front, first_of, rest_of, by_priority, in_one_list, sorted, Command, answers, AnswerAlike}
use Rattle.mcs_ticks.specs.Queue.Command.{EnterBack, EnterFront, Take}
use Rattle.mcs_ticks.specs.declared.queue.Queued.{Queued}

entered_front-back : (x z : Queued) (ys : List Queued) → entered_front x (entered_back z ys) ≡ entered_back z (entered_front x ys)
entered_front-back x z [] = grind (arith)
entered_front-back x z (y ∷ ys) = grind (arith, nat_tests, entered_front-back x z ys)

-- entering the one list at its back enters behind those of the priority
pub sorted-back : (xs : List Queued) (z : Queued) → sorted (xs ++ z ∷ []) ≡ entered_back z (sorted xs)
sorted-back [] z = refl
sorted-back (x ∷ xs) z = ap (entered_front x) (sorted-back xs z) ∙ entered_front-back x z (sorted xs)

greater : (x y f m : Queued) → m ≡ cond (nat_lt y.priority f.priority) f y →
    cond (nat_lt x.priority y.priority) m (cond (nat_lt x.priority f.priority) f x) ≡ cond (nat_lt x.priority m.priority) m x
greater x y f m e = grind (arith, nat_tests)

first_among-more : (x y : Queued) (ys : List Queued) → first_among x (y ∷ ys) ≡ cond (nat_lt x.priority (first_among y ys).priority) (first_among y ys) x
first_among-more x y [] = refl
first_among-more x y (z ∷ ys) =
    ap (λ (q : Queued). cond (nat_lt x.priority y.priority) (first_among y (z ∷ ys)) q) (first_among-more x z ys)
    ∙ greater x y (first_among z ys) (first_among y (z ∷ ys)) (first_among-more y z ys)

front-first : (x m : Queued) (ys : List Queued) → first_of ys ≡ Some m → first_of (entered_front x ys) ≡ Some (cond (nat_lt x.priority m.priority) m x)
front-first x m [] e = cc
front-first x m (y ∷ ys) e = grind (arith)

-- the first by priority is the first of greatest priority of the one list
pub first-sorted : (xs : List Queued) → first_of (sorted xs) ≡ first_of_greatest xs
first-sorted [] = refl
first-sorted (x ∷ []) = refl
first-sorted (x ∷ y ∷ ys) =
    front-first x (first_among y ys) (sorted (y ∷ ys)) (first-sorted (y ∷ ys)) ∙ ap (λ (q : Queued). Some q) (sym (first_among-more x y ys))

-- what is left when it is taken
front-rest : (x m : Queued) (ys zs : List Queued) → first_of ys ≡ Some m → rest_of ys ≡ sorted zs →
    rest_of (entered_front x ys) ≡ cond (nat_lt x.priority m.priority) (entered_front x (sorted zs)) ys
front-rest x m [] zs e f = cc
front-rest x m (y ∷ ys) zs e f = grind (arith)

pub rest-sorted : (xs : List Queued) → rest_of (sorted xs) ≡ sorted (without_greatest xs)
rest-sorted [] = refl
rest-sorted (x ∷ []) = refl
rest-sorted (x ∷ y ∷ ys) =
    front-rest x (first_among y ys) (sorted (y ∷ ys)) (without_greatest (y ∷ ys)) (first-sorted (y ∷ ys)) (rest-sorted (y ∷ ys))
    ∙ by (nat_lt x.priority (first_among y ys).priority)
  where
    by : (b : Bool) → cond b (entered_front x (sorted (without_greatest (y ∷ ys)))) (sorted (y ∷ ys)) ≡ sorted (cond b (x ∷ without_greatest (y ∷ ys)) (y ∷ ys))
    by true = refl
    by false = refl

answers-sorted : (commands : List Command) (xs : List Queued) → answers by_priority commands (sorted xs) ≡ answers in_one_list commands xs
answers-sorted [] xs = refl
answers-sorted (EnterBack x ∷ commands) xs = ap (answers by_priority commands) (sym (sorted-back xs x)) ∙ answers-sorted commands (xs ++ x ∷ [])
answers-sorted (EnterFront x ∷ commands) xs = answers-sorted commands (x ∷ xs)
answers-sorted (Take ∷ commands) xs =
    cc (first-sorted xs, ap (answers by_priority commands) (rest-sorted xs) ∙ answers-sorted commands (without_greatest xs))

-- the queue by priority and the one list give the same answers
pub answer_alike : AnswerAlike
answer_alike commands = answers-sorted commands []
