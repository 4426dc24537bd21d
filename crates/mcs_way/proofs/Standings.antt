-- How each thread stands after one more row.
use Rattle.std.proofs.Common.{◌≡◌, ◌∙◌, ℕ, zero, suc, ◌+◌, ◌-◌, ◌<◌, ◌≤◌, ◌^◌, ◌⊎◌, inl, inr, true, false, List, [], ◌∷◌, length, get_or, set, map, Option, Some, None, refl, sym, ap, arith}
use Rattle.std.specs.Prelude.{if◌then◌else◌}
use Rattle.std.proofs.lemmas.Bool.{cases_eq, ne_eqb}
use Rattle.std.proofs.lemmas.List.{ext_get_or, length-set, get_or-set_same, get_or-set_other, get_or_past, set_past}
use Rattle.mcs_ticks.specs.declared.row.Row.{Row}
use Rattle.mcs_ticks.specs.declared.row.What.{What}
use Rattle.mcs_ticks.specs.declared.row.What.TheVariants as row
use Rattle.mcs_verdict.specs.Standing.{tells, telling}
use Rattle.mcs_verdict.specs.Stood.{all_ticks, stood_for}
use Rattle.mcs_verdict.specs.Findings.{UpTo}
use Rattle.mcs_verdict.specs.Account.{since_of, stood_of, subject}
use Rattle.mcs_verdict.proofs.Stretches.{stretch, stretch_pending}
use Rattle.mcs_verdict.proofs.Orders.{since-up_to}
use Rattle.mcs_verdict.proofs.Watches.{all-stood_of}
use Rattle.mcs_way.specs.declared.stance.Stance.{Stance}
use Rattle.mcs_way.specs.Trace.{Trace, since_of as since_at}
use Rattle.mcs_way.specs.Stances.{stood_since, stance_of, stances_of, passed, AreNext}

-- no more ticks are counted than have passed
pub stance-small : (from : Option ℕ) (m : ℕ) (rows : List Row) → since_of rows ≤ m → m ≤ 2 ^ 42 → all_ticks (stance_of from rows).stood + m < 2 ^ 64
stance-small from m rows h small = omega (arith, all-stood_of from rows)

-- a stance is enough to say how the thread stood up to some time
passed-from : (from m : ℕ) (rows : List Row) → since_of rows ≤ m
    → passed m (Some from) (stance_of (Some from) rows) ≡ stood_for rows from (m - from)
passed-from from m [] h = grind (arith, stretch_pending from (m - from))
passed-from from m (r ∷ rows) h = sym (stretch r rows from m h)

pub stood-now : (thread m : ℕ) (from : Option ℕ) (past : List Row) → UpTo m past
    → passed m from (stance_of from (telling thread past)) ≡ stood_since thread past m from
stood-now thread m None past up = refl
stood-now thread m (Some from) past up = passed-from from m (telling thread past) (since-up_to thread m past up)

-- a telling row
pub stance-told : (from : Option ℕ) (r : Row) (rows : List Row) → since_of rows ≤ r.moment
    → passed r.moment from (stance_of from rows) ≡ stood_of from (r ∷ rows)
stance-told None r rows h = refl
stance-told (Some from) r rows h = passed-from from r.moment rows h

-- whether a row decides how a thread stands
tells-by : (what : What) (x k : ℕ) → subject what ≡ Some x → (x ≡ k → ⊥) → tells k what ≡ false
tells-by (row.Release y) x k e differ = ne_eqb y k (λ h. differ (cc))
tells-by (row.Run y) x k e differ = ne_eqb y k (λ h. differ (cc))
tells-by (row.Stop y cause charged until) x k e differ = ne_eqb y k (λ h. differ (cc))
tells-by (row.Wake y note word until) x k e differ = ne_eqb y k (λ h. differ (cc))
tells-by (row.Got y note word) x k e differ = refl
tells-by (row.Round y number response) x k e differ = refl
tells-by (row.Signal y note badge) x k e differ = refl
tells-by (row.Arrive note badge maker) x k e differ = refl
tells-by (row.Hold note word) x k e differ = refl
tells-by (row.Order context) x k e differ = refl
tells-by (row.Interrupt source note badge) x k e differ = refl

tells-none : (what : What) (k : ℕ) → subject what ≡ None → tells k what ≡ false
tells-none (row.Release y) k e = absurd (cc)
tells-none (row.Run y) k e = absurd (cc)
tells-none (row.Stop y cause charged until) k e = absurd (cc)
tells-none (row.Wake y note word until) k e = absurd (cc)
tells-none (row.Got y note word) k e = refl
tells-none (row.Round y number response) k e = refl
tells-none (row.Signal y note badge) k e = refl
tells-none (row.Arrive note badge maker) k e = refl
tells-none (row.Hold note word) k e = refl
tells-none (row.Order context) k e = refl
tells-none (row.Interrupt source note badge) k e = refl

-- the telling rows of a thread after one more row
pub telling-same : (thread : ℕ) (r : Row) (past : List Row) → tells thread r.what ≡ false → telling thread (r ∷ past) ≡ telling thread past
telling-same thread r past e = ap (λ b. if b then r ∷ telling thread past else telling thread past) e

pub telling-more : (thread : ℕ) (r : Row) (past : List Row) → tells thread r.what ≡ true → telling thread (r ∷ past) ≡ r ∷ telling thread past
telling-more thread r past e = ap (λ b. if b then r ∷ telling thread past else telling thread past) e

stance-at : (n k : ℕ) (spots : List (Option Trace)) (past : List Row) (d : Stance) → k < length spots
    → get_or (stances_of n spots past) k d ≡ stance_of (since_at (get_or spots k None)) (telling (n + k) past)
stance-at n k [] past d h = absurd (omega arith)
stance-at n zero (spot ∷ spots) past d h = ap (λ i. stance_of (since_at spot) (telling i past)) (omega arith)
stance-at n (suc k) (spot ∷ spots) past d h =
    stance-at (suc n) k spots past d (omega arith) ∙ ap (λ i. stance_of (since_at (get_or spots k None)) (telling i past)) (omega arith)

-- the stance of a thread
pub stance-is : (k : ℕ) (spots : List (Option Trace)) (past : List Row) (d : Stance) → k < length spots
    → get_or (stances_of 0 spots past) k d ≡ stance_of (since_at (get_or spots k None)) (telling k past)
stance-is k spots past d h =
    stance-at 0 k spots past d h ∙ ap (λ i. stance_of (since_at (get_or spots k None)) (telling i past)) (omega arith)

pub length-stances : (n : ℕ) (spots : List (Option Trace)) (past : List Row) → length (stances_of n spots past) ≡ length spots
length-stances n [] past = refl
length-stances n (spot ∷ spots) past = ap suc (length-stances (suc n) spots past)

-- a row that says nothing of how a thread stands
pub stances-same : (n : ℕ) (spots : List (Option Trace)) (r : Row) (past : List Row) → subject r.what ≡ None
    → stances_of n spots (r ∷ past) ≡ stances_of n spots past
stances-same n [] r past e = refl
stances-same n (spot ∷ spots) r past e =
    cc (telling-same n r past (tells-none r.what n e), stances-same (suc n) spots r past e)

-- a row of this thread
pub stances-next : (thread : ℕ) (r : Row) (past : List Row) (old new : List (Option Trace)) (stance d : Stance) → subject r.what ≡ Some thread
    → AreNext thread r.moment old new
    → (thread < length old → stance ≡ stance_of (since_at (get_or new thread None)) (telling thread (r ∷ past)))
    → set (stances_of 0 old past) thread stance ≡ stances_of 0 new (r ∷ past)
stances-next thread r past old new stance d own next is =
    ext_get_or d (set (stances_of 0 old past) thread stance) (stances_of 0 new (r ∷ past))
    (length-set (stances_of 0 old past) thread stance ∙ length-stances 0 old past ∙ sym next.long ∙ sym (length-stances 0 new (r ∷ past)))
    (λ k h. each k (omega (arith, h, length-set (stances_of 0 old past) thread stance, length-stances 0 old past)) (cases_eq k thread))
  where
    each : (k : ℕ) → k < length old → (k ≡ thread) ⊎ (k ≡ thread → ⊥)
        → get_or (set (stances_of 0 old past) thread stance) k d ≡ get_or (stances_of 0 new (r ∷ past)) k d
    each k h (inl e) =
        let here : thread < length old = omega arith in
        let there : thread < length new = omega (arith, next.long) in
        ap (λ i. get_or (set (stances_of 0 old past) thread stance) i d) e
        ∙ get_or-set_same (stances_of 0 old past) thread stance d (omega (arith, length-stances 0 old past))
        ∙ is here
        ∙ sym (stance-is thread new (r ∷ past) d there)
        ∙ ap (λ i. get_or (stances_of 0 new (r ∷ past)) i d) (sym e)
    each k h (inr differ) =
        get_or-set_other (stances_of 0 old past) thread k stance d differ
        ∙ stance-is k old past d h
        ∙ ap (λ s. stance_of s (telling k past)) (sym (next.others k differ))
        ∙ ap (λ rows. stance_of (since_at (get_or new k None)) rows) (sym (telling-same k r past (tells-by r.what thread k own (λ e. differ (sym e)))))
        ∙ sym (stance-is k new (r ∷ past) d (omega (arith, next.long)))

-- before the first row
pub stances-first : {X : Type 0} (n : ℕ) (xs : List X) → map (λ _. stance_of None []) xs ≡ stances_of n (map (λ _. None) xs) []
stances-first n [] = refl
stances-first n (x ∷ xs) = ap (λ rest. stance_of None [] ∷ rest) (stances-first (suc n) xs)

-- a thread's stance is read
pub own-stance : (stances : List Stance) (spots : List (Option Trace)) (past : List Row) (i thread : ℕ) (s : Stance) (from : Option ℕ)
    → stances ≡ stances_of 0 spots past → i ≡ thread → i < length stances → s ≡ get_or stances i s → from ≡ since_at (get_or spots thread None)
    → s ≡ stance_of from (telling thread past)
own-stance stances spots past i thread s from e at h is since =
    is
    ∙ ap (λ xs. get_or xs i s) e
    ∙ ap (λ k. get_or (stances_of 0 spots past) k s) at
    ∙ stance-is thread spots past s (omega (arith, h, at, ap length e, length-stances 0 spots past))
    ∙ ap (λ x. stance_of x (telling thread past)) (sym since)

-- there is no such thread
pub no-stance : (stances : List Stance) (spots : List (Option Trace)) (past : List Row) (i thread : ℕ) → stances ≡ stances_of 0 spots past
    → i ≡ thread → length stances ≤ i → get_or spots thread None ≡ None
no-stance stances spots past i thread e at h =
    get_or_past spots thread None (omega (arith, h, at, ap length e, length-stances 0 spots past))

-- a thread's stance is written
pub put-stance : (stances : List Stance) (old new : List (Option Trace)) (past : List Row) (r : Row) (i thread : ℕ) (s : Stance) (after : Option ℕ)
    → stances ≡ stances_of 0 old past → i ≡ thread → subject r.what ≡ Some thread → AreNext thread r.moment old new
    → after ≡ since_at (get_or new thread None) → s ≡ stance_of after (telling thread (r ∷ past)) → set stances i s ≡ stances_of 0 new (r ∷ past)
put-stance stances old new past r i thread s after e at own next since is =
    ap (λ xs. set xs i s) e
    ∙ ap (λ k. set (stances_of 0 old past) k s) at
    ∙ stances-next thread r past old new s s own next (λ h. is ∙ ap (λ x. stance_of x (telling thread (r ∷ past))) since)

pub past-stance : (stances : List Stance) (old new : List (Option Trace)) (past : List Row) (r : Row) (i thread : ℕ)
    → stances ≡ stances_of 0 old past → i ≡ thread → length stances ≤ i → subject r.what ≡ Some thread → AreNext thread r.moment old new
    → stances ≡ stances_of 0 new (r ∷ past)
past-stance stances old new past r i thread e at h own next =
    let s = stance_of None [] in
    let far : length (stances_of 0 old past) ≤ thread = omega (arith, h, at, ap length e) in
    e
    ∙ sym (set_past (stances_of 0 old past) thread s far)
    ∙ stances-next thread r past old new s s own next (λ k. absurd (omega (arith, k, far, length-stances 0 old past)))
