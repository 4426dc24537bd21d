-- From when a round can proceed up to its end, and so far if it is under way, each tick is in one of its parts.
use Rattle.std.proofs.Common.{◌≡◌, ℕ, suc, ◌-◌, ◌≤◌, max, ◌⊎◌, inl, inr, Bool, true, false, cond, ◌==◌, List, [], ◌∷◌, length, Option, Some, None, refl, sym, ap, subst, ◌∙◌, arith}
use Rattle.std.specs.Prelude.{nat_lt}
use Rattle.std.proofs.lemmas.Bool.Decides.{nat_tests}
use Rattle.std.proofs.lemmas.List.{get_or_past}
use Rattle.mcs_ticks.specs.declared.row.Row.{Row}
use Rattle.mcs_ticks.specs.declared.row.What.{What}
use Rattle.mcs_ticks.specs.declared.row.What.TheVariants as row
use Rattle.mcs_ticks.specs.declared.row.Why.{Why}
use Rattle.mcs_ticks.specs.declared.row.Why.TheVariants as why
use Rattle.mcs_ticks.specs.Capped.{one_more}
use Rattle.mcs_system.specs.declared.part.ThreadPart.{ThreadPart}
use Rattle.mcs_system.specs.System.{System, no_thread, thread_part}
use Rattle.mcs_system.specs.WellFormed.{IsWellFormed}
use Rattle.mcs_core.specs.Clock.{schedule}
use Rattle.mcs_verdict.specs.declared.finding.Finding.{Finding}
use Rattle.mcs_verdict.specs.declared.finding.Finding.TheVariants.{Overdue}
use Rattle.mcs_verdict.specs.declared.standing.Standing.{Standing}
use Rattle.mcs_verdict.specs.declared.standing.Standing.TheVariants.{Pending, Ready, Running, Throttled, Blocked, AtServer, Done}
use Rattle.mcs_verdict.specs.declared.standing.Stood.{Stood}
use Rattle.mcs_verdict.specs.Account.{since_of, stood_of}
use Rattle.mcs_verdict.specs.Activation.{first_for, first_active}
use Rattle.mcs_verdict.specs.Findings.{InOrder, UpTo, past_of}
use Rattle.mcs_verdict.specs.Jobs.{or_now, job}
use Rattle.mcs_verdict.specs.Misses.{is_reached, overdue_at, overdue_since, overdue}
use Rattle.mcs_verdict.specs.Parts.{free_after, free_of, queued_in, parts_in}
use Rattle.mcs_verdict.specs.Rounds.{first_wait, begun_at, begun_after, begun_of, called_of, activated_by, activated_in, activated_of, rounds_of}
use Rattle.mcs_verdict.specs.Standing.{tells, telling, standing_until, standing_stopped, standing_after}
use Rattle.mcs_verdict.specs.Stood.{no_ticks, counted, all_ticks, stood_for}
use Rattle.mcs_verdict.proofs.Counts.{all-stood_for}
use Rattle.mcs_verdict.proofs.Stretches.{stretch, first_pending}
use Rattle.mcs_verdict.proofs.Orders.{since-up_to}
use Rattle.mcs_verdict_laws.specs.laws.Responses.{HasParts, IsSummed, IsAged, IsSummedBy, AreSummed, PartsSumToResponses, PartsSumToAges}
use Rattle.mcs_verdict_laws.proofs.Order.{in_order}
use Rattle.mcs_verdict_laws.proofs.Steps.{Told, Turns, Passes, IsOther, Allows, Step, step-other, Leads}
use Rattle.mcs_verdict_laws.proofs.Holds.{first, start_at}
use Rattle.mcs_verdict_laws.proofs.Entering.{self}
use Rattle.mcs_verdict_laws.proofs.Opening.{opening_as, opening_standing, opening_told}
use Rattle.mcs_verdict_laws.proofs.Activated.{or-now-within, since-within}
use Rattle.mcs_verdict_laws.proofs.Standings.{said, turn_tells, tells_on}
use Rattle.mcs_verdict_laws.proofs.Reached.{reached}

-- a thread that has started and is not done
abbrev IsAtIt : Standing → Type 0
IsAtIt Ready = Unit {0}
IsAtIt Running = Unit {0}
IsAtIt Throttled = Unit {0}
IsAtIt Blocked = Unit {0}
IsAtIt AtServer = Unit {0}
IsAtIt Pending = ⊥
IsAtIt Done = ⊥

-- in no tick it stood otherwise
record IsParted (stood : Stood) : Type 0 where
  pending : stood.pending ≡ 0
  done : stood.done ≡ 0

no-ticks : IsParted no_ticks
no-ticks = record { pending = refl; done = refl }

more-parted : (s : Standing) (k : ℕ) (stood : Stood) → IsAtIt s → IsParted stood → IsParted (counted s k stood)
more-parted Ready k stood at p = record { pending = p.pending; done = p.done }
more-parted Running k stood at p = record { pending = p.pending; done = p.done }
more-parted Throttled k stood at p = record { pending = p.pending; done = p.done }
more-parted Blocked k stood at p = record { pending = p.pending; done = p.done }
more-parted AtServer k stood at p = record { pending = p.pending; done = p.done }
more-parted Pending k stood at p = absurd at
more-parted Done k stood at p = absurd at

-- no telling row says that the thread is pending ..
until_not_pending : (until : Option ℕ) → standing_until until ≡ Pending → ⊥
until_not_pending None e = cc
until_not_pending (Some date) e = cc

stopped_not_pending : (cause : Why) (until : Option ℕ) → standing_stopped cause until ≡ Pending → ⊥
stopped_not_pending why.Wait until e = cc
stopped_not_pending why.Call until e = cc
stopped_not_pending why.Done until e = cc
stopped_not_pending why.Spent until e = until_not_pending until e
stopped_not_pending why.Yield until e = until_not_pending until e
stopped_not_pending why.Preempt until e = until_not_pending until e
stopped_not_pending why.Order until e = until_not_pending until e

not_pending : (what : What) → standing_after what ≡ Pending → ⊥
not_pending (row.Release y) e = cc
not_pending (row.Run y) e = cc
not_pending (row.Stop y cause charged until) e = stopped_not_pending cause until e
not_pending (row.Wake y note word until) e = until_not_pending until e
not_pending (row.Signal y note badge) e = cc
not_pending (row.Arrive note badge maker) e = cc
not_pending (row.Hold note word) e = cc
not_pending (row.Got y note word) e = cc
not_pending (row.Round y number response) e = cc
not_pending (row.Order context) e = cc
not_pending (row.Interrupt source at_note badge) e = cc

-- .. and none comes after it is done
none_done : (before after : Standing) (what : What) → Done ≡ before → Turns before what after → ⊥
none_done before after (row.Release y) e (inl f, g) = let h : Done ≡ Pending = e ∙ f in cc
none_done before after (row.Release y) e (inr f, g) = let h : Done ≡ Throttled = e ∙ f in cc
none_done before after (row.Run y) e h = let g : Done ≡ Ready = e ∙ h.0 in cc
none_done before after (row.Stop y cause charged until) e h = let g : Done ≡ Running = e ∙ h.0 in cc
none_done before after (row.Wake y note word until) e (inl f, g) = let h : Done ≡ Blocked = e ∙ f in cc
none_done before after (row.Wake y note word until) e (inr f, g) = let h : Done ≡ AtServer = e ∙ f in cc
none_done before after (row.Signal y note badge) e h = h
none_done before after (row.Arrive note badge maker) e h = h
none_done before after (row.Hold note word) e h = h
none_done before after (row.Got y note word) e h = h
none_done before after (row.Round y number response) e h = h
none_done before after (row.Order context) e h = h
none_done before after (row.Interrupt source at_note badge) e h = h

at_it : (told before after : Standing) (what : What) → told ≡ before → (told ≡ Pending → ⊥) → Turns before what after → IsAtIt told
at_it Pending before after what t other turn = absurd (other refl)
at_it Ready before after what t other turn = tt
at_it Running before after what t other turn = tt
at_it Throttled before after what t other turn = tt
at_it Blocked before after what t other turn = tt
at_it AtServer before after what t other turn = tt
at_it Done before after what t other turn = absurd (none_done before after what t turn)

-- no tick is counted from a moment on up to an earlier one
none_yet : (from : ℕ) (rows : List Row) → since_of rows ≤ from → IsParted (stood_of (Some from) rows)
none_yet from [] h = no-ticks
none_yet from (r ∷ rows) h =
    let none : 0 ≡ r.moment - from = omega (arith, h) in
    let P : ℕ → Type 0 = λ n. IsParted (stood_for rows from n) in
    subst P none no-ticks

-- up to the next telling row
up_to_next : (from : ℕ) (rows : List Row) (r : Row) (before after opening : Standing) → (opening ≡ Pending) ⊎ (opening ≡ Done)
    → since_of rows ≤ r.moment → said opening rows ≡ before → Turns before r.what after → (before ≡ Pending → r.moment ≤ from)
    → IsParted (stood_of (Some from) rows) → IsParted (stood_of (Some from) (r ∷ rows))
up_to_next from [] r before after at_first (inl o) since told turn early p =
    let l = early (sym told ∙ o) in
    let none : 0 ≡ r.moment - from = omega (arith, l) in
    let Q : ℕ → Type 0 = λ n. IsParted (stood_for [] from n) in
    subst Q none no-ticks
up_to_next from [] r before after at_first (inr o) since told turn early p = absurd (none_done before after r.what (sym o ∙ told) turn)
up_to_next from (last ∷ rows) r before after at_first o since told turn early p =
    let split = stretch last rows from r.moment since in
    let P : Stood → Type 0 = IsParted in
    subst P (sym split)
    (more-parted (standing_after last.what) (r.moment - max last.moment from) (stood_for rows from (last.moment - from))
    (at_it (standing_after last.what) before after r.what told (not_pending last.what) turn) p)

-- and up to any moment, of a thread that has started and is not done
up_to_moment : (t from : ℕ) (rows : List Row) (opening s : Standing) → (opening ≡ Pending) ⊎ (opening ≡ Done) → IsAtIt s → since_of rows ≤ t
    → said opening rows ≡ s → IsParted (stood_of (Some from) rows) → IsParted (stood_for rows from (t - from))
up_to_moment t from [] at_first s (inl o) at since told p = let P : Standing → Type 0 = IsAtIt in absurd (subst P (sym told ∙ o) at)
up_to_moment t from [] at_first s (inr o) at since told p = let P : Standing → Type 0 = IsAtIt in absurd (subst P (sym told ∙ o) at)
up_to_moment t from (last ∷ rows) at_first s o at since told p =
    let split = stretch last rows from t since in
    let P : Stood → Type 0 = IsParted in
    let Q : Standing → Type 0 = IsAtIt in
    subst P (sym split)
    (more-parted (standing_after last.what) (t - max last.moment from) (stood_for rows from (last.moment - from)) (subst Q (sym told) at) p)

-- no row tells of a thread that the rows leave pending
none_told : (opening : Standing) (rows : List Row) → said opening rows ≡ Pending → rows ≡ []
none_told at_first [] e = refl
none_told at_first (r ∷ rows) e = absurd (not_pending r.what e)

-- a row leaves it when the round before ended, or ends a round of the thread, which runs
data Frees (t : ℕ) (standing : Standing) (before after : ℕ) : Type 0 where
  Keeps : after ≡ before → Frees t standing before after
  Anew : after ≡ t → standing ≡ Running → Frees t standing before after

module _ (system : System) (x : ℕ) where
  frees : (t : ℕ) (what : What) (told : Told) (next : Standing) (before : ℕ) → Passes (tells x what) told.standing what next
      → Allows x (first system x) t what told → Frees t told.standing before (free_after x t what before)
  frees t (row.Round y number response) told next before passes allows = by (y == x) refl
    where
      by : (b : Bool) → (y == x) ≡ b → Frees t told.standing before (cond b t before)
      by true own = Anew refl (allows own)
      by false other = Keeps refl
  frees t (row.Stop y why.Done charged until) told next before passes allows = by (y == x) passes
    where
      by : (b : Bool) → Passes b told.standing (row.Stop y why.Done charged until) next → Frees t told.standing before (cond b t before)
      by true turn = Anew refl turn.0
      by false other = Keeps refl
  frees t (row.Stop y why.Spent charged until) told next before passes allows = Keeps refl
  frees t (row.Stop y why.Yield charged until) told next before passes allows = Keeps refl
  frees t (row.Stop y why.Wait charged until) told next before passes allows = Keeps refl
  frees t (row.Stop y why.Call charged until) told next before passes allows = Keeps refl
  frees t (row.Stop y why.Preempt charged until) told next before passes allows = Keeps refl
  frees t (row.Stop y why.Order charged until) told next before passes allows = Keeps refl
  frees t (row.Release y) told next before passes allows = Keeps refl
  frees t (row.Run y) told next before passes allows = Keeps refl
  frees t (row.Wake y note word until) told next before passes allows = Keeps refl
  frees t (row.Signal y note badge) told next before passes allows = Keeps refl
  frees t (row.Arrive note badge maker) told next before passes allows = Keeps refl
  frees t (row.Hold note word) told next before passes allows = Keeps refl
  frees t (row.Got y note word) told next before passes allows = Keeps refl
  frees t (row.Order context) told next before passes allows = Keeps refl
  frees t (row.Interrupt source at_note badge) told next before passes allows = Keeps refl

  -- the first telling row of a pending thread is of its start
  at_start : (t : ℕ) (what : What) (told : Told) (after : Standing) → tells x what ≡ true → Turns told.standing what after
      → Allows x (first system x) t what told → told.standing ≡ Pending → t ≡ start_at system x
  at_start t (row.Release y) told after own turn allows p = allows own p
  at_start t (row.Run y) told after own turn allows p = let g : Pending ≡ Ready = sym p ∙ turn.0 in absurd (cc)
  at_start t (row.Stop y cause charged until) told after own turn allows p = let g : Pending ≡ Running = sym p ∙ turn.0 in absurd (cc)
  at_start t (row.Wake y note word until) told after own (inl e, f) allows p = let g : Pending ≡ Blocked = sym p ∙ e in absurd (cc)
  at_start t (row.Wake y note word until) told after own (inr e, f) allows p = let g : Pending ≡ AtServer = sym p ∙ e in absurd (cc)
  at_start t (row.Signal y note badge) told after own turn allows p = absurd turn
  at_start t (row.Arrive note badge maker) told after own turn allows p = absurd turn
  at_start t (row.Hold note word) told after own turn allows p = absurd turn
  at_start t (row.Got y note word) told after own turn allows p = absurd turn
  at_start t (row.Round y number response) told after own turn allows p = absurd turn
  at_start t (row.Order context) told after own turn allows p = absurd turn
  at_start t (row.Interrupt source at_note badge) told after own turn allows p = absurd turn

  -- a row that tells nothing of a pending thread is another thread's
  is_other : (t : ℕ) (what : What) (told : Told) → tells x what ≡ false → told.standing ≡ Pending → Allows x (first system x) t what told
      → IsOther x what
  is_other t (row.Release y) told e p allows = e
  is_other t (row.Run y) told e p allows = e
  is_other t (row.Stop y cause charged until) told e p allows = e
  is_other t (row.Wake y note word until) told e p allows = e
  is_other t (row.Got y note word) told e p allows = by (y == x) refl
    where
      by : (b : Bool) → (y == x) ≡ b → b ≡ false
      by true own = let g : Pending ≡ Running = sym p ∙ allows own in absurd (cc)
      by false other = refl
  is_other t (row.Round y number response) told e p allows = by (y == x) refl
    where
      by : (b : Bool) → (y == x) ≡ b → b ≡ false
      by true own = let g : Pending ≡ Running = sym p ∙ allows own in absurd (cc)
      by false other = refl
  is_other t (row.Signal y note badge) told e p allows = tt
  is_other t (row.Arrive note badge maker) told e p allows = tt
  is_other t (row.Hold note word) told e p allows = tt
  is_other t (row.Order context) told e p allows = tt
  is_other t (row.Interrupt source at_note badge) told e p allows = tt

  -- no round of a thread is under way that is done
  until_not_done : (until : Option ℕ) → standing_until until ≡ Done → ⊥
  until_not_done None e = cc
  until_not_done (Some date) e = cc

  none_under_way : (t : ℕ) (what : What) (before after : Standing) (begun : Option ℕ) → tells x what ≡ true → Turns before what after → after ≡ Done
      → begun_after (first system x).waits (first system x).bits x t what begun ≡ None
  none_under_way t (row.Stop y why.Done charged until) before after begun own turn e = ap (λ b. cond b None begun) own
  none_under_way t (row.Stop y why.Wait charged until) before after begun own turn e = let g : Blocked ≡ Done = sym turn.1 ∙ e in absurd (cc)
  none_under_way t (row.Stop y why.Call charged until) before after begun own turn e = let g : AtServer ≡ Done = sym turn.1 ∙ e in absurd (cc)
  none_under_way t (row.Stop y why.Spent charged until) before after begun own turn e = absurd (until_not_done until (sym turn.1 ∙ e))
  none_under_way t (row.Stop y why.Yield charged until) before after begun own turn e = absurd (until_not_done until (sym turn.1 ∙ e))
  none_under_way t (row.Stop y why.Preempt charged until) before after begun own turn e = absurd (until_not_done until (sym turn.1 ∙ e))
  none_under_way t (row.Stop y why.Order charged until) before after begun own turn e = absurd (until_not_done until (sym turn.1 ∙ e))
  none_under_way t (row.Wake y note word until) before after begun own turn e = absurd (until_not_done until (sym turn.1 ∙ e))
  none_under_way t (row.Release y) before after begun own turn e = let g : Ready ≡ Done = sym turn.1 ∙ e in absurd (cc)
  none_under_way t (row.Run y) before after begun own turn e = let g : Running ≡ Done = sym turn.1 ∙ e in absurd (cc)
  none_under_way t (row.Signal y note badge) before after begun own turn e = absurd turn
  none_under_way t (row.Arrive note badge maker) before after begun own turn e = absurd turn
  none_under_way t (row.Hold note word) before after begun own turn e = absurd turn
  none_under_way t (row.Got y note word) before after begun own turn e = absurd turn
  none_under_way t (row.Round y number response) before after begun own turn e = absurd turn
  none_under_way t (row.Order context) before after begun own turn e = absurd turn
  none_under_way t (row.Interrupt source at_note badge) before after begun own turn e = absurd turn

-- one thread, which stood so before all rows
module _ (system : System) (x : ℕ) (opening : Standing) (o : (opening ≡ Pending) ⊎ (opening ≡ Done)) where
  -- what is kept of it from row to row
  record Kept (past : List Row) (told : Told) : Type 0 where
    told_so : said opening (telling x past) ≡ told.standing
    begins : told.begun ≡ begun_of system x past
    started : (told.standing ≡ Pending → ⊥) → (m : ℕ) → UpTo m past → start_at system x ≤ m
    late : start_at system x ≤ free_of system x past
    within : (m : ℕ) → UpTo m past → free_of system x past ≤ max (start_at system x) m
    parted : (from : ℕ) → free_of system x past ≤ from → IsParted (stood_of (Some from) (telling x past))
    pending : told.standing ≡ Pending → told.begun ≡ begun_at (first system x).waits (start_at system x)
    ended : opening ≡ Pending → told.standing ≡ Done → told.begun ≡ None

  -- one row more
  module _ (past : List Row) (r : Row) (before next : Told) (step : Step x (first system x) r.moment before r.what next) (up : UpTo r.moment past)
      (kept : Kept past before) where
    freed : Frees r.moment before.standing (free_of system x past) (free_of system x (r ∷ past))
    freed = frees system x r.moment r.what before next.standing (free_of system x past) step.passes step.allows

    next_started : (next.standing ≡ Pending → ⊥) → (m : ℕ) → UpTo m (r ∷ past) → start_at system x ≤ m
    next_started other m later = let l = by (tells x r.what) refl step.passes in let h = later.0 in omega (arith, l, h)
      where
        turned : (p : Standing) → before.standing ≡ p → tells x r.what ≡ true → Turns before.standing r.what next.standing → start_at system x ≤ r.moment
        turned Pending e own turn =
            let at = at_start system x r.moment r.what before next.standing own turn step.allows e in omega (arith, at)
        turned Ready e own turn = kept.started (λ f. let g : Pending ≡ Ready = sym f ∙ e in cc) r.moment up
        turned Running e own turn = kept.started (λ f. let g : Pending ≡ Running = sym f ∙ e in cc) r.moment up
        turned Throttled e own turn = kept.started (λ f. let g : Pending ≡ Throttled = sym f ∙ e in cc) r.moment up
        turned Blocked e own turn = kept.started (λ f. let g : Pending ≡ Blocked = sym f ∙ e in cc) r.moment up
        turned AtServer e own turn = kept.started (λ f. let g : Pending ≡ AtServer = sym f ∙ e in cc) r.moment up
        turned Done e own turn = kept.started (λ f. let g : Pending ≡ Done = sym f ∙ e in cc) r.moment up

        by : (b : Bool) → tells x r.what ≡ b → Passes b before.standing r.what next.standing → start_at system x ≤ r.moment
        by true own turn = turned before.standing refl own turn
        by false own same = kept.started (λ f. other (same ∙ f)) r.moment up

    next_late : start_at system x ≤ free_of system x (r ∷ past)
    next_late = by freed
      where
        by : Frees r.moment before.standing (free_of system x past) (free_of system x (r ∷ past)) → start_at system x ≤ free_of system x (r ∷ past)
        by (Keeps e) = let l = kept.late in omega (arith, e, l)
        by (Anew e runs) =
            let l = kept.started (λ f. let g : Pending ≡ Running = sym f ∙ runs in cc) r.moment up in omega (arith, e, l)

    next_within : (m : ℕ) → UpTo m (r ∷ past) → free_of system x (r ∷ past) ≤ max (start_at system x) m
    next_within m later = by freed
      where
        by : Frees r.moment before.standing (free_of system x past) (free_of system x (r ∷ past))
            → free_of system x (r ∷ past) ≤ max (start_at system x) m
        by (Keeps e) = let l = kept.within r.moment up in let h = later.0 in omega (arith, e, l, h)
        by (Anew e runs) = let h = later.0 in omega (arith, e, h)

    next_parted : (from : ℕ) → free_of system x (r ∷ past) ≤ from → IsParted (stood_of (Some from) (telling x (r ∷ past)))
    next_parted from h = by freed
      where
        same : (b : Bool) → tells x r.what ≡ b → Passes b before.standing r.what next.standing → free_of system x past ≤ from
            → IsParted (stood_of (Some from) (cond b (r ∷ telling x past) (telling x past)))
        same true own turn l =
            up_to_next from (telling x past) r before.standing next.standing opening o (since-up_to x r.moment past up) kept.told_so turn
            (λ e.
            let at = at_start system x r.moment r.what before next.standing own turn step.allows e in
            let late = kept.late in
            omega (arith, at, late, l))
            (kept.parted from l)
        same false own turn l = kept.parted from l

        by : Frees r.moment before.standing (free_of system x past) (free_of system x (r ∷ past))
            → IsParted (stood_of (Some from) (telling x (r ∷ past)))
        by (Keeps e) = same (tells x r.what) refl step.passes (omega (arith, e, h))
        by (Anew e runs) =
            let l = since-up_to x r.moment (r ∷ past) (omega arith, up) in none_yet from (telling x (r ∷ past)) (omega (arith, l, e, h))

    next_pending : next.standing ≡ Pending → next.begun ≡ begun_at (first system x).waits (start_at system x)
    next_pending p = by (tells x r.what) refl step.passes
      where
        by : (b : Bool) → tells x r.what ≡ b → Passes b before.standing r.what next.standing
            → next.begun ≡ begun_at (first system x).waits (start_at system x)
        by true own turn = absurd (not_pending r.what (turn_tells before.standing next.standing r.what turn ∙ p))
        by false own same =
            let was : before.standing ≡ Pending = sym same ∙ p in
            let other = is_other system x r.moment r.what before own was step.allows in
            step.begins ∙ sym (step-other x (first system x) r.moment before r.what other).begins ∙ kept.pending was

    next_ended : opening ≡ Pending → next.standing ≡ Done → next.begun ≡ None
    next_ended known e = by (tells x r.what) refl step.passes
      where
        by : (b : Bool) → tells x r.what ≡ b → Passes b before.standing r.what next.standing → next.begun ≡ None
        by true own turn = step.begins ∙ none_under_way system x r.moment r.what before.standing next.standing before.begun own turn e
        by false own same =
            let was : before.standing ≡ Done = sym same ∙ e in
            step.begins ∙ sym (step-other x (first system x) r.moment before r.what (step.alive was)).begins ∙ kept.ended known was

    kept-next : Kept (r ∷ past) next
    kept-next =
        record {
          told_so = tells_on x (first system x) opening past r before next step kept.told_so;
          begins = step.begins ∙ ap (λ begun. begun_after (first system x).waits (first system x).bits x r.moment r.what begun) kept.begins;
          started = next_started;
          late = next_late;
          within = next_within;
          parted = next_parted;
          pending = next_pending;
          ended = next_ended;
        }

  kept-all : (past rows : List Row) (before last : Told) → Leads x (first system x) before rows last → InOrder past rows → Kept past before
      → Kept (past_of past rows) last
  kept-all past [] before last leads order kept =
      let P : Told → Type 0 = λ told. Kept past told in subst P leads kept
  kept-all past (r ∷ rows) before last leads order kept =
      kept-all (r ∷ past) rows leads.0 last leads.2 order.1 (kept-next past r before leads.0 leads.1 order.0 kept)

  -- the parts of a round sum up, if its thread has started and is not done
  parts-sum : (past : List Row) (told : Told) (t activated : ℕ) → Kept past told → IsAtIt told.standing → UpTo t past
      → HasParts (t - activated) (queued_in (free_of system x past) activated) (parts_in x past (free_of system x past) activated t)
  parts-sum past told t activated kept at up =
      let from = max activated (free_of system x past) in
      let stood = parts_in x past (free_of system x past) activated t in
      let p = up_to_moment t from (telling x past) opening told.standing o at (since-up_to x t past up) kept.told_so (kept.parted from (omega arith)) in
      let all : all_ticks stood ≡ t - from = all-stood_for (telling x past) from (t - from) in
      let start = kept.started (λ e. let P : Standing → Type 0 = IsAtIt in subst P e at) t up in
      let within = kept.within t up in
      let pending : stood.pending ≡ 0 = p.pending in
      let done : stood.done ≡ 0 = p.done in
      record { sum = omega (arith, all, start, within, pending, done); pending = pending; done = done }

  -- the rounds of the thread
  abbrev IsPartedBy : List Row → ℕ → What → Type 0
  IsPartedBy past moment (row.Round y number response) = (y == x) ≡ true → IsSummed (job system past moment x number)
  IsPartedBy past moment _ = Unit {0}

  abbrev ArePartedBy : List Row → List Row → Type 0
  ArePartedBy past [] = Unit {0}
  ArePartedBy past (r ∷ rows) = IsPartedBy past r.moment r.what × ArePartedBy (r ∷ past) rows

  ends-parted : (past : List Row) (moment : ℕ) (what : What) (told : Told) → Allows x (first system x) moment what told → UpTo moment past
      → Kept past told → IsPartedBy past moment what
  ends-parted past moment (row.Round y number response) told allows up kept = λ own.
      let P : Standing → Type 0 = IsAtIt in
      let activated = or_now moment (activated_of system x past moment) in
      let within = or-now-within system x moment past up in
      record {
        parts = parts-sum past told moment activated kept (subst P (sym (allows own)) tt) up;
        response_is = omega (arith, within);
      }
  ends-parted past moment (row.Release y) told allows up kept = tt
  ends-parted past moment (row.Run y) told allows up kept = tt
  ends-parted past moment (row.Stop y cause charged until) told allows up kept = tt
  ends-parted past moment (row.Signal y note badge) told allows up kept = tt
  ends-parted past moment (row.Arrive note badge maker) told allows up kept = tt
  ends-parted past moment (row.Wake y note word until) told allows up kept = tt
  ends-parted past moment (row.Hold note word) told allows up kept = tt
  ends-parted past moment (row.Got y note word) told allows up kept = tt
  ends-parted past moment (row.Order context) told allows up kept = tt
  ends-parted past moment (row.Interrupt source at_note badge) told allows up kept = tt

  all-parted : (past rows : List Row) (before last : Told) → Leads x (first system x) before rows last → InOrder past rows → Kept past before
      → ArePartedBy past rows
  all-parted past [] before last leads order kept = tt
  all-parted past (r ∷ rows) before last leads order kept =
      let step = leads.1 in (
        ends-parted past r.moment r.what before step.allows order.0 kept,
        all-parted (r ∷ past) rows leads.0 last leads.2 order.1 (kept-next past r before leads.0 step order.0 kept),
      )

  -- a round that is under way and activated is one of a thread that has started and is not done
  pending-none : (past : List Row) (told : Told) (horizon : ℕ) → Kept past told → told.standing ≡ Pending
      → activated_of system x past horizon ≡ None
  pending-none past told horizon kept p =
      ap (activated_in system x past horizon) (sym kept.begins ∙ kept.pending p) ∙ by (first system x).waits refl
      (none_told opening (telling x past) (kept.told_so ∙ p))
    where
      by : (waits : Option ℕ) → first_wait (thread_part system x) ≡ waits → telling x past ≡ []
          → activated_in system x past horizon (begun_at waits (start_at system x)) ≡ None
      by (Some note) e rows = refl
      by None e rows =
          ap (λ w. activated_by w (called_of system x past) (first_active x past (start_at system x) horizon)) e
          ∙ ap (λ rows. first_for rows (start_at system x) (horizon - start_at system x)) rows
          ∙ first_pending (start_at system x) (horizon - start_at system x)

  under_way-at_it : (past : List Row) (told : Told) (horizon activated : ℕ) → opening ≡ Pending → Kept past told
      → activated_of system x past horizon ≡ Some activated → IsAtIt told.standing
  under_way-at_it past told horizon activated known kept a = by told.standing refl
    where
      by : (s : Standing) → told.standing ≡ s → IsAtIt s
      by Pending e = let g : None ≡ Some activated = sym (pending-none past told horizon kept e) ∙ a in absurd (cc)
      by Done e =
          let none : begun_of system x past ≡ None = sym kept.begins ∙ kept.ended known e in
          let g : None ≡ Some activated = sym (ap (activated_in system x past horizon) none) ∙ a in
          absurd (cc)
      by Ready e = tt
      by Running e = tt
      by Throttled e = tt
      by Blocked e = tt
      by AtServer e = tt

-- before all rows
module _ (system : System) (x : ℕ) where
  opens : (b : Bool) → (opening_as system x b ≡ Pending) ⊎ (opening_as system x b ≡ Done)
  opens true = inl refl
  opens false = inr refl

  abbrev before_all : (opening_standing system x ≡ Pending) ⊎ (opening_standing system x ≡ Done)
  before_all = opens (nat_lt x (length system.threads))

  past_all : nat_lt x (length system.threads) ≡ false → thread_part system x ≡ no_thread
  past_all e = get_or_past system.threads x no_thread (outside x (length system.threads) e)
    where
      outside : (a b : ℕ) → nat_lt a b ≡ false → b ≤ a
      outside a b e = grind (arith, nat_tests)

  kept-opening : Kept system x (opening_standing system x) before_all [] (opening_told system x)
  kept-opening =
      record {
        told_so = refl;
        begins = refl;
        started = λ other m up. by m (nat_lt x (length system.threads)) refl other;
        late = omega arith;
        within = λ m up. omega arith;
        parted = λ from l. no-ticks;
        pending = λ e. refl;
        ended = λ known e. let g : Pending ≡ Done = sym known ∙ e in absurd (cc);
      }
    where
      by : (m : ℕ) (b : Bool) → nat_lt x (length system.threads) ≡ b → (opening_as system x b ≡ Pending → ⊥) → start_at system x ≤ m
      by m true e other = absurd (other refl)
      by m false e other = let none : start_at system x ≡ 0 = ap (λ (p : ThreadPart). p.start) (past_all e) in omega (arith, none)

-- the rounds that end
module _ (system : System) where
  summed_by : (past : List Row) (moment : ℕ) (what : What)
      → ((x : ℕ) → IsPartedBy system x (opening_standing system x) (before_all system x) past moment what) → IsSummedBy system past moment what
  summed_by past moment (row.Round thread number response) parted = parted thread (self thread)
  summed_by past moment (row.Release y) parted = tt
  summed_by past moment (row.Run y) parted = tt
  summed_by past moment (row.Stop y cause charged until) parted = tt
  summed_by past moment (row.Signal y note badge) parted = tt
  summed_by past moment (row.Arrive note badge maker) parted = tt
  summed_by past moment (row.Wake y note word until) parted = tt
  summed_by past moment (row.Hold note word) parted = tt
  summed_by past moment (row.Got y note word) parted = tt
  summed_by past moment (row.Order context) parted = tt
  summed_by past moment (row.Interrupt source at_note badge) parted = tt

  summed_all : (past rows : List Row) → ((x : ℕ) → ArePartedBy system x (opening_standing system x) (before_all system x) past rows)
      → AreSummed system past rows
  summed_all past [] parted = tt
  summed_all past (r ∷ rows) parted = (summed_by past r.moment r.what (λ x. (parted x).0), summed_all (r ∷ past) rows (λ x. (parted x).1))

pub parts_sum : PartsSumToResponses
parts_sum system well horizon =
    summed_all system [] (schedule system horizon)
    (λ x.
    let r = reached system well x (suc horizon) in
    all-parted system x (opening_standing system x) (before_all system x) [] (schedule system horizon) (opening_told system x) r.told r.leads
    (in_order system well horizon).0 (kept-opening system x))

-- what is told of a round that is overdue sums up
abbrev SumsUp : ℕ → Option Finding → Type 0
SumsUp horizon None = Unit {0}
SumsUp horizon (Some found) = IsAged horizon found

sums-if : (b : Bool) (horizon : ℕ) (found : Finding) → IsAged horizon found → SumsUp horizon (cond b (Some found) None)
sums-if true horizon found h = h
sums-if false horizon found h = tt

module _ (system : System) (well : IsWellFormed system) (horizon x : ℕ) where
  abbrev past : List Row
  past = past_of [] (schedule system horizon)

  known-sums : opening_standing system x ≡ Pending → SumsUp horizon (overdue system past horizon x)
  known-sums known = by (activated_of system x past horizon) refl
    where
      kept : Kept system x (opening_standing system x) (before_all system x) past (reached system well x (suc horizon)).told
      kept =
          let r = reached system well x (suc horizon) in
          kept-all system x (opening_standing system x) (before_all system x) [] (schedule system horizon) (opening_told system x) r.told r.leads
          (in_order system well horizon).0 (kept-opening system x)

      by : (o : Option ℕ) → activated_of system x past horizon ≡ o → SumsUp horizon (overdue_since system past horizon x o)
      by None e = tt
      by (Some activated) e =
          let told = (reached system well x (suc horizon)).told in
          let at = under_way-at_it system x (opening_standing system x) (before_all system x) past told horizon activated known kept e in
          let within = since-within system x horizon past (in_order system well horizon).1 activated e in
          sums-if (is_reached (thread_part system x).deadline (horizon - activated)) horizon
          (Overdue x (one_more (rounds_of x past)) (horizon - activated) (thread_part system x).deadline activated
          (queued_in (free_of system x past) activated) (parts_in x past (free_of system x past) activated horizon)) (
            parts-sum system x (opening_standing system x) (before_all system x) past told horizon activated kept at (in_order system well horizon).1,
            omega (arith, within),
          )

  -- a thread that the system has not has no deadline
  unknown-none : nat_lt x (length system.threads) ≡ false → overdue system past horizon x ≡ None
  unknown-none e = by (activated_of system x past horizon)
    where
      none : (thread_part system x).deadline ≡ 0
      none = ap (λ (p : ThreadPart). p.deadline) (past_all system x e)

      by : (o : Option ℕ) → overdue_since system past horizon x o ≡ None
      by None = refl
      by (Some activated) =
          ap (λ deadline. overdue_at horizon x (one_more (rounds_of x past)) deadline (free_of system x past) activated
          (parts_in x past (free_of system x past) activated horizon)) none

  overdue-sums : SumsUp horizon (overdue system past horizon x)
  overdue-sums = by (nat_lt x (length system.threads)) refl
    where
      by : (b : Bool) → nat_lt x (length system.threads) ≡ b → SumsUp horizon (overdue system past horizon x)
      by true e = known-sums (ap (opening_as system x) e)
      by false e = let P : Option Finding → Type 0 = SumsUp horizon in subst P (sym (unknown-none e)) tt

pub ages_sum : PartsSumToAges
ages_sum system well horizon thread found e =
    let P : Option Finding → Type 0 = SumsUp horizon in subst P e (overdue-sums system well horizon thread)
