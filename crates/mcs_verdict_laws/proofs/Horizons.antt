-- Findings at two horizons: what is overdue or untaken ends with a miss, and what was activated stays
-- so.
use Rattle.std.proofs.Common.{◌≡◌, ℕ, suc, ◌-◌, ◌≤◌, ◌⊎◌, inl, inr, Bool, true, false, cond, not, ◌||◌, ◌==◌, nat_le, List, [], ◌∷◌, ◌++◌, slice_get, Option, Some, None, refl, sym, ap, subst, ◌∙◌, arith}
use Rattle.std.specs.Prelude.{nat_lt, option_to_list}
use Rattle.std.specs.List.{AllByRecursion, list_any}
use Rattle.std.proofs.lemmas.Bool.Decides.{nat_tests}
use Rattle.std.proofs.lemmas.List.Folds.{list_any-append}
use Rattle.std.proofs.lemmas.List.{append_assoc}
use Rattle.mcs_ticks.specs.declared.row.Row.{Row}
use Rattle.mcs_script.specs.declared.item.Item.TheVariants.{Wait, Enter}
use Rattle.mcs_system.specs.System.{System, thread_part, is_server}
use Rattle.mcs_system.specs.WellFormed.{IsWellFormed}
use Rattle.mcs_core.specs.Clock.{schedule}
use Rattle.mcs_verdict.specs.declared.finding.Finding.{Finding}
use Rattle.mcs_verdict.specs.declared.finding.Finding.TheVariants.{Miss, Overdue, Untaken, Lost, Never}
use Rattle.mcs_verdict.specs.declared.finding.Found.{Found}
use Rattle.mcs_verdict.specs.declared.standing.Stood.{Stood}
use Rattle.mcs_verdict.specs.Jobs.{job_of, jobs_in}
use Rattle.mcs_verdict.specs.Misses.{is_reached, overdue_at, overdue_since, overdue, never}
use Rattle.mcs_verdict.specs.Parts.{queued_in}
use Rattle.mcs_verdict.specs.Rounds.{activated_of}
use Rattle.mcs_verdict.specs.Findings.{finding, past_of, found_at, found_in}
use Rattle.mcs_verdict_laws.specs.laws.Fate.{rows_to, IsUnderWay, is_end, HasEnded, overdue_from, IsOverdue, IsUntaken, is_miss_from, is_miss_after, HasMissed, WasTaken, RoundsStayUntilTheyEnd, OverdueEndsWithAMiss, UntakenEndsWithAMiss}
use Rattle.mcs_verdict_laws.specs.laws.Horizons.{is_miss_of, has_miss_of, OverdueStays, ActivationStays}
use Rattle.mcs_verdict_laws.proofs.Steps.{contrary}
use Rattle.mcs_verdict_laws.proofs.Standings.{past-append}
use Rattle.mcs_verdict_laws.proofs.Reached.{later}
use Rattle.mcs_verdict_laws.proofs.Finishing.{item_home}
use Rattle.mcs_verdict_laws.proofs.Fits.{AreFit, fit-later, ArePlaced, placed-later}
use Rattle.mcs_verdict_laws.proofs.WordsTold.{AreRight, right-later, right-clock, waits-item}
use Rattle.mcs_verdict_laws.proofs.Fitting.{fitting, placing}
use Rattle.mcs_verdict_laws.proofs.Due.{none-some, both, both-are, second-of, MayTake, one-taker}
use Rattle.mcs_verdict_laws.proofs.Overdue.{active-longer, IsOpen, EndsIn, open-rows, jobs-end, misses-end}
use Rattle.mcs_verdict_laws.proofs.Fate.{IsSet, IsUntakenBy, IsTaken, late-one, set-rows, untaken-is, is-untaken}
use Rattle.mcs_verdict_laws.proofs.Once.{never-later}

-- what the later rows tell
pub found-append : (system : System) (past rows more : List Row)
    → found_in system past (rows ++ more) ≡ found_in system past rows ++ found_in system (past_of past rows) more
found-append system past [] more = refl
found-append system past (r ∷ rows) more =
    ap (λ found. found_at r.moment r.core (finding system past r.moment r.what) ++ found) (found-append system (r ∷ past) rows more)
    ∙ sym
    (append_assoc (found_at r.moment r.core (finding system past r.moment r.what)) (found_in system (r ∷ past) rows)
    (found_in system (past_of (r ∷ past) rows) more))

-- and the rounds that they end
pub jobs-append : (system : System) (past rows more : List Row)
    → jobs_in system past (rows ++ more) ≡ jobs_in system past rows ++ jobs_in system (past_of past rows) more
jobs-append system past [] more = refl
jobs-append system past (r ∷ rows) more =
    ap (λ jobs. option_to_list (job_of system past r.moment r.what) ++ jobs) (jobs-append system (r ∷ past) rows more)
    ∙ sym
    (append_assoc (option_to_list (job_of system past r.moment r.what)) (jobs_in system (r ∷ past) rows)
    (jobs_in system (past_of (r ∷ past) rows) more))

-- one of the later elements
later-one : {A : Type 0} (p : A → Bool) (items more all : List A) → all ≡ items ++ more → list_any p more ≡ true → list_any p all ≡ true
later-one p items more all e some =
    ap (list_any p) e ∙ list_any-append p items more ∙ second-of (list_any p items) (list_any p more) some

any-more : {A : Type 0} (p q : A → Bool) (items : List A) → ((item : A) → p item ≡ true → q item ≡ true) → list_any p items ≡ true
    → list_any q items ≡ true
any-more p q [] more e = e
any-more p q (item ∷ items) more e = by (p item) refl (λ e. any-more p q items more e) e
  where
    by : (b : Bool) → p item ≡ b → (list_any p items ≡ true → list_any q items ≡ true) → (b || list_any p items) ≡ true
        → (q item || list_any q items) ≡ true
    by true f rest e = ap (λ b. b || list_any q items) (more item f)
    by false f rest e = second-of (q item) (list_any q items) (rest e)

-- the rows after a horizon, up to a later one
pub record After (system : System) (h k : ℕ) : Type 0 where
  pub rows : List Row
  pub more : schedule system k ≡ schedule system h ++ rows
  pub moments : AllByRecursion (λ (r : Row). suc h ≤ r.moment) rows
  pub fits : (x : ℕ) → AreFit system x (rows_to system h) rows
  pub placed : (x : ℕ) → ArePlaced system x (rows_to system h) rows
  pub past : past_of (rows_to system h) rows ≡ rows_to system k

pub after : (system : System) → IsWellFormed system → (h k : ℕ) → h ≤ k → After system h k
after system well h k l =
    let rest = later system well 0 (k - h) (suc h) (suc k) (omega (arith, l)) in
    record {
      rows = rest.rows;
      more = rest.more;
      moments = rest.moments;
      fits = λ x.
          let P : List Row → Type 0 = λ rows. AreFit system x [] rows in
          fit-later system x [] (schedule system h) rest.rows (subst P rest.more (fitting system well x k));
      placed = λ x.
          let P : List Row → Type 0 = λ rows. ArePlaced system x [] rows in
          placed-later system x [] (schedule system h) rest.rows (subst P rest.more (placing system well x k));
      past = sym (ap (past_of []) rest.more ∙ past-append [] (schedule system h) rest.rows);
    }

-- what an overdue line says
overdue-at : (h x number deadline free a s : ℕ) (stood : Stood) → overdue_from (overdue_at h x number deadline free a stood) ≡ Some s
    → (a ≡ s) × (is_reached deadline (h - s) ≡ true)
overdue-at h x number deadline free a s stood e = by (is_reached deadline (h - a)) refl e
  where
    by : (b : Bool) → is_reached deadline (h - a) ≡ b
        → overdue_from (cond b (Some (Overdue x number (h - a) deadline a (queued_in free a) stood)) None) ≡ Some s
        → (a ≡ s) × (is_reached deadline (h - s) ≡ true)
    by true f e =
        let same : a ≡ s = let g : Some a ≡ Some s = e in cc in
        (same, ap (λ n. is_reached deadline (h - n)) (sym same) ∙ f)
    by false f e = absurd (none-some s e)

pub overdue-is : (system : System) (past : List Row) (h x s : ℕ) → overdue_from (overdue system past h x) ≡ Some s
    → (activated_of system x past h ≡ Some s) × (is_reached (thread_part system x).deadline (h - s) ≡ true)
overdue-is system past h x s e = by (activated_of system x past h) e
  where
    by : (o : Option ℕ) → overdue_from (overdue_since system past h x o) ≡ Some s
        → (o ≡ Some s) × (is_reached (thread_part system x).deadline (h - s) ≡ true)
    by None e = absurd (none-some s e)
    by (Some a) e =
        let is = overdue-at h x _ (thread_part system x).deadline _ a s _ e in
        (ap Some is.0, is.1)

pub is-overdue : (system : System) (past : List Row) (h x s : ℕ) → activated_of system x past h ≡ Some s
    → is_reached (thread_part system x).deadline (h - s) ≡ true → overdue_from (overdue system past h x) ≡ Some s
is-overdue system past h x s e late =
    ap (λ o. overdue_from (overdue_since system past h x o)) e ∙ by _ _ _
  where
    by : (number free : ℕ) (stood : Stood) → overdue_from (overdue_at h x number (thread_part system x).deadline free s stood) ≡ Some s
    by number free stood =
        ap (λ b. overdue_from (cond b (Some (Overdue x number (h - s) (thread_part system x).deadline s (queued_in free s) stood)) None)) late

reached-longer : (d h k s : ℕ) → h ≤ k → is_reached d (h - s) ≡ true → is_reached d (k - s) ≡ true
reached-longer d h k s l e =
    let halves = both (not (d == 0)) (nat_le d (h - s)) e in
    both-are (not (d == 0)) (nat_le d (k - s)) halves.0 (more (h - s) (k - s) (omega (arith, l)) halves.1)
  where
    more : (p q : ℕ) → p ≤ q → nat_le d p ≡ true → nat_le d q ≡ true
    more p q l e = grind (arith, nat_tests)

-- a miss from an activation is one of the thread
miss-of : (x s : ℕ) (f : Finding) → is_miss_from x s f ≡ true → is_miss_of x f ≡ true
miss-of x s (Miss y number response deadline activated queued stood) e = (both (y == x) (activated == s) e).0
miss-of x s (Overdue y number age deadline activated queued stood) e = absurd (contrary false refl e)
miss-of x s (Untaken note word age deadline set) e = absurd (contrary false refl e)
miss-of x s (Lost note word) e = absurd (contrary false refl e)
miss-of x s (Never y deadline) e = absurd (contrary false refl e)

pub missed-one : (h x s : ℕ) (found : List Found) → list_any (is_miss_after h x s) found ≡ true → has_miss_of x found ≡ true
missed-one h x s found e =
    any-more (is_miss_after h x s) (λ (f : Found). is_miss_of x f.finding) found
    (λ f miss. miss-of x s f.finding (both (nat_lt h f.moment) (is_miss_from x s f.finding) miss).1) e

module _ (system : System) (well : IsWellFormed system) (h k : ℕ) (l : h ≤ k) where
  -- a round that goes on, at the later horizon
  still-open : (x a : ℕ) (rest : After system h k) → IsOpen system x h a (past_of (rows_to system h) rest.rows) → IsUnderWay system k x a
  still-open x a rest e =
      let P : List Row → Type 0 = λ past. activated_of system x past h ≡ Some a in
      active-longer system x h k a (rows_to system k) l (subst P rest.past e)

  has-ended : (x a : ℕ) (rest : After system h k) → EndsIn system x h a (rows_to system h) rest.rows → HasEnded system h k x a
  has-ended x a rest ends =
      later-one (is_end h x a) (jobs_in system [] (schedule system h)) (jobs_in system (rows_to system h) rest.rows)
      (jobs_in system [] (schedule system k))
      (ap (jobs_in system []) rest.more ∙ jobs-append system [] (schedule system h) rest.rows)
      (jobs-end system x h a (rows_to system h) rest.rows ends)

  has-missed : (x a : ℕ) (rest : After system h k) → is_reached (thread_part system x).deadline (h - a) ≡ true
      → EndsIn system x h a (rows_to system h) rest.rows → HasMissed system h k x a
  has-missed x a rest late ends =
      later-one (is_miss_after h x a) (found_in system [] (schedule system h)) (found_in system (rows_to system h) rest.rows)
      (found_in system [] (schedule system k))
      (ap (found_in system []) rest.more ∙ found-append system [] (schedule system h) rest.rows)
      (misses-end system x h a late (rows_to system h) rest.rows ends)

  -- an overdue round
  still-late : (x a : ℕ) (rest : After system h k) → is_reached (thread_part system x).deadline (h - a) ≡ true
      → IsOpen system x h a (past_of (rows_to system h) rest.rows) ⊎ EndsIn system x h a (rows_to system h) rest.rows
      → IsOverdue system k x a ⊎ HasMissed system h k x a
  still-late x a rest late (inl e) =
      inl (is-overdue system (rows_to system k) k x a (still-open x a rest e) (reached-longer (thread_part system x).deadline h k a l late))
  still-late x a rest late (inr ends) = inr (has-missed x a rest late ends)

  goes-on : (x a : ℕ) (rest : After system h k) → IsUnderWay system h x a
      → IsOpen system x h a (past_of (rows_to system h) rest.rows) ⊎ EndsIn system x h a (rows_to system h) rest.rows
  goes-on x a rest e = open-rows system x h a (rows_to system h) rest.rows rest.moments (rest.fits x) (rest.placed x) e

  -- an untaken word
  untaken-then : (note s : ℕ) (rest : After system h k) → IsUntaken system h note s → IsUntaken system k note s ⊎ WasTaken system h k note s
  untaken-then note s rest e =
      by (set-rows system note is.due h s is.known is.own is.late free (rows_to system h) rest.rows rest.moments rest.fits rest.placed right is.is)
    where
      is : IsUntakenBy system note h s (rows_to system h)
      is = untaken-is system note h s (rows_to system h) e

      one : (x : ℕ) × MayTake note is.due (thread_part system x)
      one = one-taker system note is.due is.own

      free : (y priority place : ℕ) → slice_get (thread_part system y).script place ≡ Some (Enter note priority) → ⊥
      free y priority place enter =
          let server = (item_home system well y place (Enter note priority) enter).2 in
          let item = waits-item (slice_get (thread_part system one.0).script 0) note one.1.waits in
          let none = (item_home system well one.0 0 (Wait note) item).2 in
          contrary (is_server system note) none server

      right : AreRight system note (rows_to system h) rest.rows
      right =
          let P : List Row → Type 0 = λ rows. AreRight system note [] rows in
          right-later system note [] (schedule system h) rest.rows (subst P rest.more (right-clock system well one.0 (suc k) note one.1.waits))

      by : IsSet system note is.due h s is.known is.own is.late (past_of (rows_to system h) rest.rows)
          ⊎ IsTaken system note is.due h s is.known is.own is.late (rows_to system h) rest.rows
          → IsUntaken system k note s ⊎ WasTaken system h k note s
      by (inl set) =
          let P : List Row → Type 0 = IsSet system note is.due h s is.known is.own is.late in
          inl (is-untaken system note is.due h s k is.known is.own is.late (rows_to system k) l (subst P rest.past set))
      by (inr taken) =
          inr record {
            thread = taken.thread;
            waits = taken.may.waits;
            late = still-late taken.thread s rest
                (late-one system note is.due h s is.known is.own is.late (thread_part system taken.thread) taken.may) taken.goes;
          }

pub rounds-stay : RoundsStayUntilTheyEnd
rounds-stay system well x h k a l e = by (goes-on system well h k l x a (after system well h k l) e)
  where
    by : IsOpen system x h a (past_of (rows_to system h) (after system well h k l).rows)
        ⊎ EndsIn system x h a (rows_to system h) (after system well h k l).rows
        → IsUnderWay system k x a ⊎ HasEnded system h k x a
    by (inl e) = inl (still-open system well h k l x a (after system well h k l) e)
    by (inr ends) = inr (has-ended system well h k l x a (after system well h k l) ends)

pub overdue-ends : OverdueEndsWithAMiss
overdue-ends system well x h k a l e =
    let is = overdue-is system (rows_to system h) h x a e in
    let rest = after system well h k l in
    still-late system well h k l x a rest is.1 (goes-on system well h k l x a rest is.0)

pub untaken-ends : UntakenEndsWithAMiss
untaken-ends system well note h k s l e = untaken-then system well h k l note s (after system well h k l) e

pub overdue-stays : OverdueStays
overdue-stays system well x h k l none late = by (activated_of system x (rows_to system h) h) refl
  where
    deadline : ℕ
    deadline = (thread_part system x).deadline

    none-late : (a : ℕ) → activated_of system x (rows_to system h) h ≡ Some a → is_reached deadline (h - a) ≡ true → ⊥
    none-late a e f = or (overdue-ends system well x h k a l (is-overdue system (rows_to system h) h x a e f))
      where
        or : IsOverdue system k x a ⊎ HasMissed system h k x a → ⊥
        or (inl again) = none-some a (ap overdue_from (sym late) ∙ again)
        or (inr missed) = contrary (has_miss_of x (found_in system [] (schedule system k))) none (missed-one h x a (found_in system [] (schedule system k)) missed)

    nothing : (a number free : ℕ) (stood : Stood) → activated_of system x (rows_to system h) h ≡ Some a
        → overdue_at h x number deadline free a stood ≡ None
    nothing a number free stood e = at (is_reached deadline (h - a)) refl
      where
        at : (b : Bool) → is_reached deadline (h - a) ≡ b
            → cond b (Some (Overdue x number (h - a) deadline a (queued_in free a) stood)) None ≡ None
        at true f = absurd (none-late a e f)
        at false f = refl

    by : (o : Option ℕ) → activated_of system x (rows_to system h) h ≡ o → overdue_since system (rows_to system h) h x o ≡ None
    by None e = refl
    by (Some a) e = nothing a _ _ _ e

pub activation-stays : ActivationStays
activation-stays system well x h k l none =
    let rest = after system well h k l in
    let P : List Row → Type 0 = λ past. never system past k x ≡ None in
    subst P rest.past (never-later system x h k (rows_to system h) rest.rows l rest.moments none)
