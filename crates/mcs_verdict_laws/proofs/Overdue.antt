-- A round that is under way stays so from row to row, until it ends.
use Rattle.std.proofs.Common.{◌≡◌, ℕ, zero, suc, ◌+◌, ◌-◌, ◌<◌, ◌≤◌, ◌⊎◌, inl, inr, Bool, true, false, cond, not, ◌&&◌, ◌==◌, nat_lt, nat_le, List, [], ◌∷◌, length, Option, Some, None, refl, sym, ap, subst, ◌∙◌, arith}
use Rattle.std.specs.Prelude.{option_to_list}
use Rattle.std.specs.List.{AllByRecursion, list_any}
use Rattle.std.proofs.lemmas.Bool.{cases_lt}
use Rattle.std.proofs.lemmas.Bool.Decides.{nat_tests}
use Rattle.std.proofs.lemmas.List.Folds.{list_any-append}
use Rattle.mcs_ticks.specs.declared.row.Row.{Row}
use Rattle.mcs_ticks.specs.declared.row.What.{What}
use Rattle.mcs_ticks.specs.declared.row.What.TheVariants as row
use Rattle.mcs_ticks.specs.declared.row.Why.TheVariants as why
use Rattle.mcs_system.specs.System.{System, thread_part}
use Rattle.mcs_verdict.specs.declared.finding.Finding.TheVariants.{Miss}
use Rattle.mcs_verdict.specs.declared.held.Held.{Held}
use Rattle.mcs_verdict.specs.Activation.{is_active, or_tick, first_for}
use Rattle.mcs_verdict.specs.Calls.{first_wait, bits_of}
use Rattle.mcs_verdict.specs.Findings.{finding, past_of, found_at, found_in}
use Rattle.mcs_verdict.specs.Jobs.{or_now, job, job_known, job_of, jobs_in}
use Rattle.mcs_verdict.specs.Misses.{is_above, is_reached, miss}
use Rattle.mcs_verdict.specs.Rounds.{begun_at, begun_after, begun_of, called_after, called_of, activated_by, activated_in, activated_of}
use Rattle.mcs_verdict.specs.Standing.{tells, telling, standing_after, standing_at}
use Rattle.mcs_verdict.specs.Words.{firsts_of}
use Rattle.mcs_verdict_laws.specs.laws.Fate.{is_end, is_miss_after}
use Rattle.mcs_verdict_laws.proofs.Entering.{self, equal}
use Rattle.mcs_verdict_laws.proofs.Steps.{contrary, ends_round}
use Rattle.mcs_verdict_laws.proofs.Fits.{JustEnded, Fits, AreFit, IsPlaced, ArePlaced}
use Rattle.mcs_verdict_laws.proofs.Due.{none-some, both, both-are, first-of, second-of}

abbrev pub stamp : ℕ → ℕ → What → Row
stamp moment core what = record { moment = moment; core = core; what = what }

-- a tick before a row is as it was
pub standing-before : (x m core t : ℕ) (what : What) (past : List Row) → t < m
    → standing_at t (telling x (stamp m core what ∷ past)) ≡ standing_at t (telling x past)
standing-before x m core t what past l = by (tells x what)
  where
    before : (p q : ℕ) → p < q → nat_le q p ≡ false
    before p q l = grind (arith, nat_tests)

    by : (b : Bool) → standing_at t (cond b (stamp m core what ∷ telling x past) (telling x past)) ≡ standing_at t (telling x past)
    by true = ap (λ b. cond b (standing_after what) (standing_at t (telling x past))) (before t m l)
    by false = refl

pub first-before : (x m core from n : ℕ) (what : What) (past : List Row) → ((i : ℕ) → i < n → from + i < m)
    → first_for (telling x (stamp m core what ∷ past)) from n ≡ first_for (telling x past) from n
first-before x m core from zero what past l = refl
first-before x m core from (suc n) what past l =
    ap (λ o. or_tick o (is_active (standing_at (from + n) (telling x (stamp m core what ∷ past)))) (from + n))
    (first-before x m core from n what past (λ i k. l i (omega (arith, k))))
    ∙ ap (λ s. or_tick (first_for (telling x past) from n) (is_active s) (from + n))
    (standing-before x m core (from + n) what past (l n (omega arith)))

-- and the first tick in which it was ready or running stays the first one
pub first-longer : (rows : List Row) (from n k a : ℕ) → n ≤ k → first_for rows from n ≡ Some a → first_for rows from k ≡ Some a
first-longer rows from n zero a l e = ap (first_for rows from) (let same : 0 ≡ n = omega (arith, l) in same) ∙ e
first-longer rows from n (suc k) a l e = by (cases_lt k n) (λ m. first-longer rows from n k a m e)
  where
    by : (k < n) ⊎ (n ≤ k) → (n ≤ k → first_for rows from k ≡ Some a) → first_for rows from (suc k) ≡ Some a
    by (inl m) rest = ap (first_for rows from) (let same : suc k ≡ n = omega (arith, l, m) in same) ∙ e
    by (inr m) rest = ap (λ o. or_tick o (is_active (standing_at (from + k) rows)) (from + k)) (rest m)

-- when the round under way was activated, by the wait with which the script begins, the latest call
-- of a word, and the telling rows
abbrev due_in : Option ℕ → Option ℕ → List Row → ℕ → Option ℕ → Option ℕ
due_in waits called rows h None = None
due_in waits called rows h (Some begun) = activated_by waits called (first_for rows begun (h - begun))

due-is : (system : System) (x h : ℕ) (past : List Row)
    → activated_of system x past h ≡ due_in (first_wait (thread_part system x)) (called_of system x past) (telling x past) h (begun_of system x past)
due-is system x h past = by (begun_of system x past)
  where
    by : (o : Option ℕ)
        → activated_in system x past h o ≡ due_in (first_wait (thread_part system x)) (called_of system x past) (telling x past) h o
    by None = refl
    by (Some begun) = refl

due-longer : (waits called : Option ℕ) (rows : List Row) (h k a : ℕ) (begun : Option ℕ) → h ≤ k → due_in waits called rows h begun ≡ Some a
    → due_in waits called rows k begun ≡ Some a
due-longer waits called rows h k a None l e = absurd (none-some a e)
due-longer (Some note) called rows h k a (Some begun) l e = e
due-longer None called rows h k a (Some begun) l e = first-longer rows begun (h - begun) (k - begun) a (omega (arith, l)) e

-- at a later horizon, by the same rows
pub active-longer : (system : System) (x h k a : ℕ) (past : List Row) → h ≤ k → activated_of system x past h ≡ Some a
    → activated_of system x past k ≡ Some a
active-longer system x h k a past l e =
    due-is system x k past
    ∙ due-longer (first_wait (thread_part system x)) (called_of system x past) (telling x past) h k a (begun_of system x past) l
    (sym (due-is system x h past) ∙ e)

due-before : (x m core h : ℕ) (what : What) (past : List Row) (waits called : Option ℕ) (begun : ℕ) → h < m
    → due_in waits called (telling x (stamp m core what ∷ past)) h (Some begun) ≡ due_in waits called (telling x past) h (Some begun)
due-before x m core h what past (Some note) called begun l = refl
due-before x m core h what past None called begun l =
    first-before x m core begun (h - begun) what past (λ i k. omega (arith, k, l))

-- whether the thread is done at this row
abbrev is_done : ℕ → What → Bool
is_done x (row.Stop y why.Done charged until) = y == x
is_done x _ = false

-- a round that is under way stays so, or the row ends it, or the thread is done
kept-if : (b : Bool) (begun : Option ℕ) → cond b begun begun ≡ begun
kept-if true begun = refl
kept-if false begun = refl

abbrev Keeps : Option ℕ → Option ℕ → ℕ → ℕ → What → ℕ → Type 0
Keeps waits bits x m what begun =
    (begun_after waits bits x m what (Some begun) ≡ Some begun) ⊎ ((ends_round x what ≡ true) ⊎ (is_done x what ≡ true))

keeps : (waits bits : Option ℕ) (x m : ℕ) (what : What) (begun : ℕ) → Keeps waits bits x m what begun
keeps waits bits x m (row.Round y number response) begun = by (y == x) refl
  where
    by : (b : Bool) → (y == x) ≡ b → Keeps waits bits x m (row.Round y number response) begun
    by true e = inr (inl e)
    by false e = inl (ap (λ b. cond b (begun_at waits m) (Some begun)) e)
keeps waits bits x m (row.Stop y why.Done charged until) begun = by (y == x) refl
  where
    by : (b : Bool) → (y == x) ≡ b → Keeps waits bits x m (row.Stop y why.Done charged until) begun
    by true e = inr (inr e)
    by false e = inl (ap (λ b. cond b None (Some begun)) e)
keeps waits bits x m (row.Stop y why.Spent charged until) begun = inl refl
keeps waits bits x m (row.Stop y why.Yield charged until) begun = inl refl
keeps waits bits x m (row.Stop y why.Wait charged until) begun = inl refl
keeps waits bits x m (row.Stop y why.Call charged until) begun = inl refl
keeps waits bits x m (row.Stop y why.Preempt charged until) begun = inl refl
keeps waits bits x m (row.Stop y why.Order charged until) begun = inl refl
keeps waits bits x m (row.Got y note word) begun = inl (kept-if (y == x) (Some begun))
keeps waits bits x m (row.Wake y note word until) begun = inl (kept-if (y == x) (Some begun))
keeps waits bits x m (row.Release y) begun = inl refl
keeps waits bits x m (row.Run y) begun = inl refl
keeps waits bits x m (row.Signal y note badge) begun = inl refl
keeps waits bits x m (row.Arrive note badge maker) begun = inl refl
keeps waits bits x m (row.Hold note word) begun = inl refl
keeps waits bits x m (row.Order context) begun = inl refl
keeps waits bits x m (row.Interrupt source at_note badge) begun = inl refl

-- and no word calls the thread while one is
called-keeps : (firsts : List Held) (waits bits : Option ℕ) (x m begun : ℕ) (past : List Row) (what : What) (before : Option ℕ)
    → called_after firsts waits bits x past m what (Some begun) before ≡ before
called-keeps firsts waits bits x m begun past (row.Got y note word) before = kept-if (y == x) before
called-keeps firsts waits bits x m begun past (row.Wake y note word until) before = kept-if (y == x) before
called-keeps firsts waits bits x m begun past (row.Round y number response) before = refl
called-keeps firsts waits bits x m begun past (row.Stop y cause charged until) before = refl
called-keeps firsts waits bits x m begun past (row.Release y) before = refl
called-keeps firsts waits bits x m begun past (row.Run y) before = refl
called-keeps firsts waits bits x m begun past (row.Signal y note badge) before = refl
called-keeps firsts waits bits x m begun past (row.Arrive note badge maker) before = refl
called-keeps firsts waits bits x m begun past (row.Hold note word) before = refl
called-keeps firsts waits bits x m begun past (row.Order context) before = refl
called-keeps firsts waits bits x m begun past (row.Interrupt source at_note badge) before = refl

-- what a row says that ends a round
ended-begun : (waits bits : Option ℕ) (x m : ℕ) (what : What) (begun : Option ℕ) → ends_round x what ≡ true
    → begun_after waits bits x m what begun ≡ begun_at waits m
ended-begun waits bits x m (row.Round y number response) begun e = ap (λ b. cond b (begun_at waits m) begun) e
ended-begun waits bits x m (row.Stop y cause charged until) begun e = absurd (contrary false refl e)
ended-begun waits bits x m (row.Got y note word) begun e = absurd (contrary false refl e)
ended-begun waits bits x m (row.Wake y note word until) begun e = absurd (contrary false refl e)
ended-begun waits bits x m (row.Release y) begun e = absurd (contrary false refl e)
ended-begun waits bits x m (row.Run y) begun e = absurd (contrary false refl e)
ended-begun waits bits x m (row.Signal y note badge) begun e = absurd (contrary false refl e)
ended-begun waits bits x m (row.Arrive note badge maker) begun e = absurd (contrary false refl e)
ended-begun waits bits x m (row.Hold note word) begun e = absurd (contrary false refl e)
ended-begun waits bits x m (row.Order context) begun e = absurd (contrary false refl e)
ended-begun waits bits x m (row.Interrupt source at_note badge) begun e = absurd (contrary false refl e)

-- the thread x, whose round was activated at time a, by the rows up to the horizon h
module _ (system : System) (x h a : ℕ) where
  abbrev pub IsOpen : List Row → Type 0
  IsOpen past = activated_of system x past h ≡ Some a

  -- a row after the horizon that ends it
  pub record Ends (past : List Row) (m : ℕ) (what : What) : Type 0 where
    pub ends : ends_round x what ≡ true
    pub later : h < m
    pub known : x < length system.threads
    pub activated : activated_of system x past m ≡ Some a

  abbrev pub EndsIn : List Row → List Row → Type 0
  EndsIn past [] = ⊥
  EndsIn past (r ∷ rows) = Ends past r.moment r.what ⊎ EndsIn (r ∷ past) rows

  -- none is under way right after a round of a later time
  no-open : (m : ℕ) (past : List Row) → h < m → JustEnded x m past → IsOpen past → ⊥
  no-open m [] l ended e = ended
  no-open m (r ∷ past) l ended e =
      let waits = first_wait (thread_part system x) in
      let rows = telling x (r ∷ past) in
      let called = called_of system x (r ∷ past) in
      by waits
      (ap (due_in waits called rows h)
      (sym (ended-begun waits (bits_of (thread_part system x)) x r.moment r.what (begun_of system x past) ended.0)) ∙ sym (due-is system x h (r ∷ past)) ∙ e)
    where
      by : (waits : Option ℕ) → due_in waits (called_of system x (r ∷ past)) (telling x (r ∷ past)) h (begun_at waits r.moment) ≡ Some a → ⊥
      by (Some note) e = none-some a e
      by None e =
          let same = ended.1 in
          let none : 0 ≡ h - r.moment = omega (arith, same, l) in
          none-some a (ap (first_for (telling x (r ∷ past)) r.moment) none ∙ e)

  -- a thread is done right after a round
  done-ended : (m : ℕ) (what : What) (past : List Row) → Fits system x past m what → is_done x what ≡ true → JustEnded x m past
  done-ended m (row.Stop y why.Done charged until) past fits e = fits e
  done-ended m (row.Stop y why.Spent charged until) past fits e = absurd (contrary false refl e)
  done-ended m (row.Stop y why.Yield charged until) past fits e = absurd (contrary false refl e)
  done-ended m (row.Stop y why.Wait charged until) past fits e = absurd (contrary false refl e)
  done-ended m (row.Stop y why.Call charged until) past fits e = absurd (contrary false refl e)
  done-ended m (row.Stop y why.Preempt charged until) past fits e = absurd (contrary false refl e)
  done-ended m (row.Stop y why.Order charged until) past fits e = absurd (contrary false refl e)
  done-ended m (row.Round y number response) past fits e = absurd (contrary false refl e)
  done-ended m (row.Got y note word) past fits e = absurd (contrary false refl e)
  done-ended m (row.Wake y note word until) past fits e = absurd (contrary false refl e)
  done-ended m (row.Release y) past fits e = absurd (contrary false refl e)
  done-ended m (row.Run y) past fits e = absurd (contrary false refl e)
  done-ended m (row.Signal y note badge) past fits e = absurd (contrary false refl e)
  done-ended m (row.Arrive note badge maker) past fits e = absurd (contrary false refl e)
  done-ended m (row.Hold note word) past fits e = absurd (contrary false refl e)
  done-ended m (row.Order context) past fits e = absurd (contrary false refl e)
  done-ended m (row.Interrupt source at_note badge) past fits e = absurd (contrary false refl e)

  -- the thread of a round that ends is one of the system
  ended-known : (what : What) (past : List Row) → IsPlaced system x past what → ends_round x what ≡ true → x < length system.threads
  ended-known (row.Round y number response) past placed e = placed e
  ended-known (row.Stop y cause charged until) past placed e = absurd (contrary false refl e)
  ended-known (row.Got y note word) past placed e = absurd (contrary false refl e)
  ended-known (row.Wake y note word until) past placed e = absurd (contrary false refl e)
  ended-known (row.Release y) past placed e = absurd (contrary false refl e)
  ended-known (row.Run y) past placed e = absurd (contrary false refl e)
  ended-known (row.Signal y note badge) past placed e = absurd (contrary false refl e)
  ended-known (row.Arrive note badge maker) past placed e = absurd (contrary false refl e)
  ended-known (row.Hold note word) past placed e = absurd (contrary false refl e)
  ended-known (row.Order context) past placed e = absurd (contrary false refl e)
  ended-known (row.Interrupt source at_note badge) past placed e = absurd (contrary false refl e)

  -- one row more
  open-row : (m core : ℕ) (what : What) (past : List Row) → h < m → Fits system x past m what → IsPlaced system x past what → IsOpen past
      → IsOpen (stamp m core what ∷ past) ⊎ Ends past m what
  open-row m core what past l fits placed e = by (begun_of system x past) refl
    where
      waits : Option ℕ
      waits = first_wait (thread_part system x)

      bits : Option ℕ
      bits = bits_of (thread_part system x)

      at : (begun : Option ℕ) → begun_of system x past ≡ begun → due_in waits (called_of system x past) (telling x past) h begun ≡ Some a
      at begun f = ap (due_in waits (called_of system x past) (telling x past) h) (sym f) ∙ sym (due-is system x h past) ∙ e

      by : (begun : Option ℕ) → begun_of system x past ≡ begun → IsOpen (stamp m core what ∷ past) ⊎ Ends past m what
      by None f = absurd (none-some a (at None f))
      by (Some begun) f = or (keeps waits bits x m what begun)
        where
          or : Keeps waits bits x m what begun → IsOpen (stamp m core what ∷ past) ⊎ Ends past m what
          or (inl kept) =
              let rows = telling x (stamp m core what ∷ past) in
              inl
              (due-is system x h (stamp m core what ∷ past)
              ∙ ap (due_in waits (called_of system x (stamp m core what ∷ past)) rows h)
              (ap (begun_after waits bits x m what) f ∙ kept)
              ∙ ap (λ called. due_in waits called rows h (Some begun))
              (ap (λ o. called_after (firsts_of system) waits bits x past m what o (called_of system x past)) f
              ∙ called-keeps (firsts_of system) waits bits x m begun past what (called_of system x past))
              ∙ due-before x m core h what past waits (called_of system x past) begun l ∙ at (Some begun) f)
          or (inr (inl ends)) =
              inr record {
                ends = ends;
                later = l;
                known = ended-known what past placed ends;
                activated = active-longer system x h m a past (omega (arith, l)) e;
              }
          or (inr (inr done)) = absurd (no-open m past l (done-ended m what past fits done) e)

  -- and after all rows
  pub open-rows : (past rows : List Row) → AllByRecursion (λ (r : Row). suc h ≤ r.moment) rows → AreFit system x past rows → ArePlaced system x past rows
      → IsOpen past → IsOpen (past_of past rows) ⊎ EndsIn past rows
  open-rows past [] after fits placed e = inl e
  open-rows past (r ∷ rows) after fits placed e =
      by (open-row r.moment r.core r.what past (let l = after.0 in omega (arith, l)) fits.0 placed.0 e)
      (λ e. open-rows (r ∷ past) rows after.1 fits.1 placed.1 e)
    where
      by : IsOpen (r ∷ past) ⊎ Ends past r.moment r.what
          → (IsOpen (r ∷ past) → IsOpen (past_of (r ∷ past) rows) ⊎ EndsIn (r ∷ past) rows)
          → IsOpen (past_of (r ∷ past) rows) ⊎ EndsIn past (r ∷ rows)
      by (inr ends) rest = inr (inl ends)
      by (inl e) rest = or (rest e)
        where
          or : IsOpen (past_of (r ∷ past) rows) ⊎ EndsIn (r ∷ past) rows → IsOpen (past_of (r ∷ past) rows) ⊎ EndsIn past (r ∷ rows)
          or (inl e) = inl e
          or (inr ends) = inr (inr ends)

  -- such an end is a job with that activation
  activation : (past : List Row) (m : ℕ) → activated_of system x past m ≡ Some a → or_now m (activated_of system x past m) ≡ a
  activation past m e = ap (or_now m) e

  passed : (p q : ℕ) → p < q → nat_lt p q ≡ true
  passed p q l = grind (arith, nat_tests)

  job-end : (past : List Row) (m : ℕ) (what : What) → Ends past m what → list_any (is_end h x a) (option_to_list (job_of system past m what)) ≡ true
  job-end past m (row.Round y number response) e =
      let P : ℕ → Type 0 = λ z. list_any (is_end h x a) (option_to_list (job_known system past m z number)) ≡ true in
      subst P (sym (equal y x e.ends))
      (ap (λ b. list_any (is_end h x a) (option_to_list (cond b (Some (job system past m x number)) None))) (passed x (length system.threads) e.known)
      ∙ first-of (is_end h x a (job system past m x number)) false
      (both-are (nat_lt h m && (x == x)) ((job system past m x number).activated == a)
      (both-are (nat_lt h m) (x == x) (passed h m e.later) (self x))
      (ap (λ n. n == a) (activation past m e.activated) ∙ self a)))
  job-end past m (row.Stop y cause charged until) e = absurd (contrary false refl e.ends)
  job-end past m (row.Got y note word) e = absurd (contrary false refl e.ends)
  job-end past m (row.Wake y note word until) e = absurd (contrary false refl e.ends)
  job-end past m (row.Release y) e = absurd (contrary false refl e.ends)
  job-end past m (row.Run y) e = absurd (contrary false refl e.ends)
  job-end past m (row.Signal y note badge) e = absurd (contrary false refl e.ends)
  job-end past m (row.Arrive note badge maker) e = absurd (contrary false refl e.ends)
  job-end past m (row.Hold note word) e = absurd (contrary false refl e.ends)
  job-end past m (row.Order context) e = absurd (contrary false refl e.ends)
  job-end past m (row.Interrupt source at_note badge) e = absurd (contrary false refl e.ends)

  pub jobs-end : (past rows : List Row) → EndsIn past rows → list_any (is_end h x a) (jobs_in system past rows) ≡ true
  jobs-end past [] e = absurd e
  jobs-end past (r ∷ rows) (inl e) =
      list_any-append (is_end h x a) (option_to_list (job_of system past r.moment r.what)) (jobs_in system (r ∷ past) rows)
      ∙ first-of (list_any (is_end h x a) (option_to_list (job_of system past r.moment r.what))) (list_any (is_end h x a) (jobs_in system (r ∷ past) rows))
      (job-end past r.moment r.what e)
  jobs-end past (r ∷ rows) (inr e) =
      list_any-append (is_end h x a) (option_to_list (job_of system past r.moment r.what)) (jobs_in system (r ∷ past) rows)
      ∙ second-of (list_any (is_end h x a) (option_to_list (job_of system past r.moment r.what))) (list_any (is_end h x a) (jobs_in system (r ∷ past) rows))
      (jobs-end (r ∷ past) rows e)

  -- a round that was activated a deadline before the horizon misses it
  module _ (late : is_reached (thread_part system x).deadline (h - a) ≡ true) where
    above : (m : ℕ) → h < m → is_above (thread_part system x).deadline (m - a) ≡ true
    above m l = by (thread_part system x).deadline late
      where
        by : (d : ℕ) → is_reached d (h - a) ≡ true → is_above d (m - a) ≡ true
        by d e =
            let halves = both (not (d == 0)) (nat_le d (h - a)) e in
            both-are (not (d == 0)) (nat_lt d (m - a)) halves.0 (more d (h - a) (m - a) (some d halves.0) halves.1 refl refl)
          where
            some : (d : ℕ) → not (d == 0) ≡ true → 1 ≤ d
            some d e = grind (arith, nat_tests)

            reach : (d p : ℕ) → nat_le d p ≡ true → d ≤ p
            reach d p e = grind (arith, nat_tests)

            more : (d p q : ℕ) → 1 ≤ d → nat_le d p ≡ true → p ≡ h - a → q ≡ m - a → nat_lt d q ≡ true
            more d p q s e f g =
                let r = reach d p e in
                passed d q (omega (arith, r, s, f, g, l))

    miss-end : (past : List Row) (m core : ℕ) (what : What) → Ends past m what
        → list_any (is_miss_after h x a) (found_at m core (finding system past m what)) ≡ true
    miss-end past m core (row.Round y number response) e =
        let P : ℕ → Type 0 = λ z. list_any (is_miss_after h x a) (found_at m core (miss system past m z number)) ≡ true in
        let told = job system past m x number in
        subst P (sym (equal y x e.ends))
        (ap
        (λ b. list_any (is_miss_after h x a)
        (found_at m core (cond b (Some (Miss x number told.response (thread_part system x).deadline told.activated told.queued told.stood)) None)))
        (ap (λ n. is_above (thread_part system x).deadline (m - n)) (activation past m e.activated) ∙ above m e.later)
        ∙ first-of (nat_lt h m && ((x == x) && (told.activated == a))) false
        (both-are (nat_lt h m) ((x == x) && (told.activated == a)) (passed h m e.later)
        (both-are (x == x) (told.activated == a) (self x) (ap (λ n. n == a) (activation past m e.activated) ∙ self a))))
    miss-end past m core (row.Stop y cause charged until) e = absurd (contrary false refl e.ends)
    miss-end past m core (row.Got y note word) e = absurd (contrary false refl e.ends)
    miss-end past m core (row.Wake y note word until) e = absurd (contrary false refl e.ends)
    miss-end past m core (row.Release y) e = absurd (contrary false refl e.ends)
    miss-end past m core (row.Run y) e = absurd (contrary false refl e.ends)
    miss-end past m core (row.Signal y note badge) e = absurd (contrary false refl e.ends)
    miss-end past m core (row.Arrive note badge maker) e = absurd (contrary false refl e.ends)
    miss-end past m core (row.Hold note word) e = absurd (contrary false refl e.ends)
    miss-end past m core (row.Order context) e = absurd (contrary false refl e.ends)
    miss-end past m core (row.Interrupt source at_note badge) e = absurd (contrary false refl e.ends)

    pub misses-end : (past rows : List Row) → EndsIn past rows → list_any (is_miss_after h x a) (found_in system past rows) ≡ true
    misses-end past [] e = absurd e
    misses-end past (r ∷ rows) (inl e) =
        let here = found_at r.moment r.core (finding system past r.moment r.what) in
        list_any-append (is_miss_after h x a) here (found_in system (r ∷ past) rows)
        ∙ first-of (list_any (is_miss_after h x a) here) (list_any (is_miss_after h x a) (found_in system (r ∷ past) rows))
        (miss-end past r.moment r.core r.what e)
    misses-end past (r ∷ rows) (inr e) =
        let here = found_at r.moment r.core (finding system past r.moment r.what) in
        list_any-append (is_miss_after h x a) here (found_in system (r ∷ past) rows)
        ∙ second-of (list_any (is_miss_after h x a) here) (list_any (is_miss_after h x a) (found_in system (r ∷ past) rows))
        (misses-end (r ∷ past) rows e)
