-- The contexts that a core holds, and the list that its code keeps.
use Rattle.std.proofs.Common.{◌≡◌, ℕ, zero, suc, ◌<◌, true, List, [], ◌∷◌, length, get_or, set, refl, sym, ap, subst, ◌∙◌, arith}
use Rattle.std.specs.Prelude.{Option, Some, None, option_map, slice_index_or}
use Rattle.mcs_control.specs.Context.{Context, WithRoom}
use Rattle.mcs_core.specs.stored.Contexts.{Kept, unboxed, seen_contexts, HasRoom, HaveRoom}
use Rattle.mcs_core.specs.Contexts.{is_own, held}

seen-set : (k : ℕ) (new : Kept) (xs : List (Option Kept)) → seen_contexts (set xs k (Some new)) ≡ set (seen_contexts xs) k (Some new.value.context)
seen-set k new [] = refl
seen-set zero new (x ∷ xs) = refl
seen-set (suc k) new (x ∷ xs) = ap (λ ys. option_map (λ own. own.context) (unboxed x) ∷ ys) (seen-set k new xs)

room-set : (k : ℕ) (new : Kept) (xs : List (Option Kept)) → HaveRoom xs → new.value.room ≡ 66 → HaveRoom (set xs k (Some new))
room-set k new [] h e = tt
room-set zero new (x ∷ xs) h e = (e, h.1)
room-set (suc k) new (x ∷ xs) h e = (h.0, room-set k new xs h.1 e)

own-within : (k : ℕ) (xs : List (Option Kept)) → is_own k (seen_contexts xs) ≡ true → k < length xs
own-within k [] e = cc
own-within zero (x ∷ xs) e = omega arith
own-within (suc k) (x ∷ xs) e = let i = own-within k xs e in omega arith

held-at : (k : ℕ) (xs : List (Option Kept)) (old : Kept) → get_or xs k None ≡ Some old → held k (seen_contexts xs) ≡ old.value.context
held-at k [] old e = cc
held-at zero (x ∷ xs) old e = rw e refl
held-at (suc k) (x ∷ xs) old e = held-at k xs old e

room-at : (k : ℕ) (xs : List (Option Kept)) (old : Kept) → get_or xs k None ≡ Some old → HaveRoom xs → old.value.room ≡ 66
room-at k [] old e h = cc
room-at zero (x ∷ xs) old e h = let P : Option Kept → Type 0 = λ kept. HasRoom (unboxed kept) in subst P e h.0
room-at (suc k) (x ∷ xs) old e h = room-at k xs old e h.1

get-any : (k : ℕ) (xs : List (Option Kept)) (d old : Option Kept) → k < length xs → get_or xs k d ≡ old → get_or xs k None ≡ old
get-any k [] d old l e = absurd (omega arith)
get-any zero (x ∷ xs) d old l e = e
get-any (suc k) (x ∷ xs) d old l e = get-any k xs d old (omega arith) e

-- a context that the code found at a place
pub record IsFound (k : ℕ) (xs : List (Option Kept)) (now : List (Option Context)) (old : Kept) : Type 0 where
  pub seen : seen_contexts xs ≡ now
  pub at : get_or xs k None ≡ Some old

pub found : (k j : ℕ) (xs : List (Option Kept)) (now : List (Option Context)) (d : Option Kept) (old : Kept) →
    k ≡ j → seen_contexts xs ≡ now → is_own j now ≡ true → d ≡ slice_index_or xs k d → d ≡ Some old → IsFound j xs now old
found k j xs now d old e s own f g =
    let l : k < length xs = own-within k xs (rw (s, e) own) in
    let at : get_or xs k None ≡ Some old = get-any k xs d (Some old) l (sym f ∙ g) in
    record { seen = s; at = ap (λ n. get_or xs n None) (sym e) ∙ at }

held-found : (k : ℕ) (xs : List (Option Kept)) (now : List (Option Context)) (old : Kept) → IsFound k xs now old → held k now ≡ old.value.context
held-found k xs now old h = ap (held k) (sym h.seen) ∙ held-at k xs old h.at

pub room-found : (k : ℕ) (xs : List (Option Kept)) (now : List (Option Context)) (old : Kept) → IsFound k xs now old → HaveRoom xs → old.value.room ≡ 66
room-found k xs now old h r = room-at k xs old h.at r

-- it is changed in the place from which it was lent
pub changed-held : (k : ℕ) (xs : List (Option Kept)) (now : List (Option Context)) (old : Kept) (lent new : WithRoom) (f : Context → Context) → IsFound k xs now old → lent ≡ old.value →
    new.context ≡ f lent.context → new.context ≡ f (held k now)
changed-held k xs now old lent new f h l g = g ∙ ap (λ (x : WithRoom). f x.context) l ∙ ap f (sym (held-found k xs now old h))

pub changed-seen : (k j : ℕ) (xs : List (Option Kept)) (now : List (Option Context)) (old : Kept) (lent new : WithRoom) (f : Context → Context) → k ≡ j → IsFound j xs now old →
    lent ≡ old.value → new.context ≡ f lent.context → seen_contexts (set xs k (Some (record old { value = new }))) ≡ set now j (Some (f (held j now)))
changed-seen k j xs now old lent new f e h l g =
    seen-set k (record old { value = new }) xs ∙ ap (λ ys. set ys k (Some new.context)) h.seen ∙ ap (λ n. set now n (Some new.context)) e
    ∙ ap (λ (x : Context). set now j (Some x)) (changed-held j xs now old lent new f h l g)

pub changed-room : (k j : ℕ) (xs : List (Option Kept)) (now : List (Option Context)) (old : Kept) (lent new : WithRoom) → IsFound j xs now old → HaveRoom xs → lent ≡ old.value →
    new.room ≡ lent.room → HaveRoom (set xs k (Some (record old { value = new })))
changed-room k j xs now old lent new h r l e = room-set k (record old { value = new }) xs r (e ∙ ap (λ (x : WithRoom). x.room) l ∙ room-found j xs now old h r)
