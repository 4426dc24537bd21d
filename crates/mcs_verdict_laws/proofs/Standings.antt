-- The state of a thread by the rows of a schedule is its place on its core.
use Rattle.std.proofs.Common.{◌≡◌, ℕ, zero, suc, ◌+◌, ◌-◌, ◌<◌, ◌≤◌, Bool, true, false, cond, ◌==◌, List, [], ◌∷◌, ◌++◌, length, get_or, Option, refl, sym, ap, subst, ◌∙◌, arith}
use Rattle.std.specs.Prelude.{nat_lt, nat_le}
use Rattle.std.specs.List.{AllByRecursion}
use Rattle.std.proofs.lemmas.Bool.Decides.{nat_tests}
use Rattle.mcs_ticks.specs.declared.row.Row.{Row}
use Rattle.mcs_ticks.specs.declared.row.What.{What}
use Rattle.mcs_ticks.specs.declared.row.What.TheVariants as row
use Rattle.mcs_notify.specs.Note.{Note, quiet_note}
use Rattle.mcs_system.specs.System.{System, thread_part, core_of, is_server}
use Rattle.mcs_system.specs.WellFormed.{IsWellFormed}
use Rattle.mcs_core.specs.Core.{Core}
use Rattle.mcs_core.specs.Places.{times_queued, times_dated, times_waiting}
use Rattle.mcs_core.specs.Clock as clocks
use Rattle.mcs_laws.specs.Places.{times_running}
use Rattle.mcs_laws.proofs.Places.{sorted-queued}
use Rattle.mcs_verdict.specs.declared.standing.Standing.{Standing}
use Rattle.mcs_verdict.specs.declared.standing.Standing.TheVariants.{Pending, Ready, Running, Throttled, Blocked, AtServer, Done}
use Rattle.mcs_verdict.specs.Account.{since_of}
use Rattle.mcs_verdict.specs.Findings.{past_of}
use Rattle.mcs_verdict.specs.Standing.{tells, telling, standing_after, standing_at}
use Rattle.mcs_verdict.proofs.Orders.{since-up_to}
use Rattle.mcs_verdict_laws.specs.Standing.{times_at_server, standing_in_clock}
use Rattle.mcs_verdict_laws.specs.laws.Standings.{StandingsAreTheClocks}
use Rattle.mcs_verdict_laws.proofs.Order.{in_order}
use Rattle.mcs_verdict_laws.proofs.Steps.{Told, First, Turns, Passes, Step, Leads}
use Rattle.mcs_verdict_laws.proofs.Holds.{runs_as, ready_as, dated_as, waits_as, first as first_of, start_at, Own}
use Rattle.mcs_verdict_laws.proofs.Opening.{opening_as, opening_standing, opening_told}
use Rattle.mcs_verdict_laws.proofs.Reached.{core_before, reached, after, later}

-- what the latest telling row says, or how the thread stood before all rows
abbrev pub said : Standing → List Row → Standing
said before [] = before
said before (r ∷ rows) = standing_after r.what

-- a telling row says how the thread stands after it
pub turn_tells : (before after : Standing) (what : What) → Turns before what after → standing_after what ≡ after
turn_tells before after (row.Release y) h = sym h.1
turn_tells before after (row.Run y) h = sym h.1
turn_tells before after (row.Stop y cause charged until) h = sym h.1
turn_tells before after (row.Wake y note word until) h = sym h.1
turn_tells before after (row.Signal y note badge) h = absurd h
turn_tells before after (row.Arrive note badge maker) h = absurd h
turn_tells before after (row.Hold note word) h = absurd h
turn_tells before after (row.Got y note word) h = absurd h
turn_tells before after (row.Round y number response) h = absurd h
turn_tells before after (row.Order context) h = absurd h
turn_tells before after (row.Interrupt source at_note badge) h = absurd h

module _ (x : ℕ) where
  -- rows after tick t do not change its state by the rows ..
  reads_on : (t : ℕ) (past rows : List Row) → AllByRecursion (λ (r : Row). suc t ≤ r.moment) rows
      → standing_at t (telling x (past_of past rows)) ≡ standing_at t (telling x past)
  reads_on t past [] all = refl
  reads_on t past (r ∷ rows) all = reads_on t (r ∷ past) rows all.1 ∙ by (tells x r.what)
    where
      later_row : nat_le r.moment t ≡ false
      later_row = let h = all.0 in past_it r.moment t h
        where
          past_it : (a b : ℕ) → suc b ≤ a → nat_le a b ≡ false
          past_it a b h = grind (arith, nat_tests)

      by : (b : Bool) → standing_at t (cond b (r ∷ telling x past) (telling x past)) ≡ standing_at t (telling x past)
      by true = ap (λ b. cond b (standing_after r.what) (standing_at t (telling x past))) later_row
      by false = refl

  -- .. and of tick t the latest row up to it tells
  reads_last : (t : ℕ) (rows : List Row) → since_of rows ≤ t → standing_at t rows ≡ said Pending rows
  reads_last t [] h = refl
  reads_last t (r ∷ rows) h = ap (λ b. cond b (standing_after r.what) (standing_at t rows)) (up_to r.moment t h)
    where
      up_to : (a b : ℕ) → a ≤ b → nat_le a b ≡ true
      up_to a b h = grind (arith, nat_tests)

  -- what rows tell goes along with how the thread stands
  pub tells_on : (first : First) (opening : Standing) (past : List Row) (r : Row) (before next : Told) → Step x first r.moment before r.what next
      → said opening (telling x past) ≡ before.standing → said opening (telling x (r ∷ past)) ≡ next.standing
  tells_on first opening past r before next step h = by (tells x r.what) step.passes
    where
      by : (b : Bool) → Passes b before.standing r.what next.standing
          → said opening (cond b (r ∷ telling x past) (telling x past)) ≡ next.standing
      by true turn = turn_tells before.standing next.standing r.what turn
      by false same = h ∙ sym same

  rows_tell : (first : First) (opening : Standing) (past rows : List Row) (before last : Told) → Leads x first before rows last
      → said opening (telling x past) ≡ before.standing → said opening (telling x (past_of past rows)) ≡ last.standing
  rows_tell first at_first past [] before last leads h = h ∙ ap (λ (told : Told). told.standing) leads
  rows_tell first at_first past (r ∷ rows) before last leads h =
      rows_tell first at_first (r ∷ past) rows leads.0 last leads.2 (tells_on first at_first past r before leads.0 leads.1 h)

pub past-append : (past rows more : List Row) → past_of past (rows ++ more) ≡ past_of (past_of past rows) more
past-append past [] more = refl
past-append past (r ∷ rows) more = past-append (r ∷ past) rows more

-- how often a thread that stands so waits for a server
abbrev served_as : Standing → ℕ
served_as AtServer = 1
served_as Pending = 0
served_as Ready = 0
served_as Running = 0
served_as Throttled = 0
served_as Blocked = 0
served_as Done = 0

-- the counts of a thread's places decide its state
counts_tell : (r q d w v : ℕ) (dated s : Standing) → r ≡ runs_as s → q ≡ ready_as s → d ≡ dated_as s → w ≡ waits_as s → (d ≡ 1 → dated ≡ s)
    → (w ≡ 1 → v ≡ served_as s)
    → cond (r == 1) Running (cond (q == 1) Ready (cond (d == 1) dated (cond (w == 1) (cond (v == 1) AtServer Blocked) Done))) ≡ s
counts_tell r q d w v dated Running e f g i h j = rw e refl
counts_tell r q d w v dated Ready e f g i h j = rw (e, f) refl
counts_tell r q d w v dated Pending e f g i h j = rw (e, f, g) (h g)
counts_tell r q d w v dated Throttled e f g i h j = rw (e, f, g) (h g)
counts_tell r q d w v dated Blocked e f g i h j = let n = j i in rw (e, f, g, i, n) refl
counts_tell r q d w v dated AtServer e f g i h j = let n = j i in rw (e, f, g, i, n) refl
counts_tell r q d w v dated Done e f g i h j = rw (e, f, g, i) refl

-- the waiters of servers are among all that wait
module _ (system : System) (x : ℕ) where
  within_waiting : (n : ℕ) (notes : List Note) → times_at_server system x n notes ≤ times_waiting x notes
  within_waiting n [] = omega arith
  within_waiting n (note ∷ notes) = by (is_server system n) (within_waiting (suc n) notes)
    where
      by : (b : Bool) → times_at_server system x (suc n) notes ≤ times_waiting x notes
          → cond b (times_queued x note.waiters) 0 + times_at_server system x (suc n) notes ≤ times_queued x note.waiters + times_waiting x notes
      by true l = omega (arith, l)
      by false l = omega (arith, l)

  at_server : (n i m : ℕ) (notes : List Note) → m ≡ n + i → is_server system m ≡ true
      → times_queued x (get_or notes i quiet_note).waiters ≤ times_at_server system x n notes
  at_server n i m [] e s = omega arith
  at_server n zero m (note ∷ notes) e s =
      let same : n ≡ m = omega (arith, e) in
      let all : ◌≡◌ {A = ℕ} (cond (is_server system n) (times_queued x note.waiters) 0) (times_queued x note.waiters) =
      ap (λ b. cond b (times_queued x note.waiters) 0) (ap (is_server system) same ∙ s)
      in
      omega (arith, all)
  at_server n (suc i) m (note ∷ notes) e s = let l = at_server (suc n) i m notes (omega (arith, e)) s in omega (arith, l)

  -- those of a notification are none of them
  at_note : (n i m : ℕ) (notes : List Note) → m ≡ n + i → is_server system m ≡ false
      → times_at_server system x n notes + times_queued x (get_or notes i quiet_note).waiters ≤ times_waiting x notes
  at_note n i m [] e s = omega arith
  at_note n zero m (note ∷ notes) e s =
      let same : n ≡ m = omega (arith, e) in
      let none : ◌≡◌ {A = ℕ} (cond (is_server system n) (times_queued x note.waiters) 0) 0 =
      ap (λ b. cond b (times_queued x note.waiters) 0) (ap (is_server system) same ∙ s)
      in
      omega (arith, none, within_waiting (suc n) notes)
  at_note n (suc i) m (note ∷ notes) e s = by (is_server system n) (at_note (suc n) i m notes (omega (arith, e)) s)
    where
      by : (b : Bool) → times_at_server system x (suc n) notes + times_queued x (get_or notes i quiet_note).waiters ≤ times_waiting x notes
          → cond b (times_queued x note.waiters) 0 + times_at_server system x (suc n) notes + times_queued x (get_or notes i quiet_note).waiters
          ≤ times_queued x note.waiters + times_waiting x notes
      by true l = omega (arith, l)
      by false l = omega (arith, l)

module _ (system : System) (well : IsWellFormed system) (x : ℕ) where
  -- in the release queue it is pending before its start
  dated_tell : (t : ℕ) (standing : Standing) (begun : Option ℕ) (k : Core) → Own system x (suc t) t standing begun k → dated_as standing ≡ 1
      → cond (nat_lt t (start_at system x)) Pending Throttled ≡ standing
  dated_tell t Pending begun k o e = ap (λ b. cond b Pending Throttled) (less t (start_at system x) o.1.later)
    where
      less : (a b : ℕ) → suc a ≤ b → nat_lt a b ≡ true
      less a b h = grind (arith, nat_tests)
  dated_tell t Throttled begun k o e = ap (λ b. cond b Pending Throttled) (not_less t (start_at system x) o.1.start)
    where
      not_less : (a b : ℕ) → b ≤ a → nat_lt a b ≡ false
      not_less a b h = grind (arith, nat_tests)
  dated_tell t Ready begun k o e = absurd (omega (arith, e))
  dated_tell t Running begun k o e = absurd (omega (arith, e))
  dated_tell t Blocked begun k o e = absurd (omega (arith, e))
  dated_tell t AtServer begun k o e = absurd (omega (arith, e))
  dated_tell t Done begun k o e = absurd (omega (arith, e))

  -- among waiters it waits for a server if it is listed at one
  served_tell : (t : ℕ) (standing : Standing) (begun : Option ℕ) (k : Core) → Own system x (suc t) t standing begun k
      → times_waiting x k.notes ≡ waits_as standing → waits_as standing ≡ 1 → times_at_server system x 0 k.notes ≡ served_as standing
  served_tell t Blocked begun k o w e =
      let l = o.2 in
      let here = l.listed in
      let apart = at_note system x 0 l.note l.note k.notes (omega arith) l.served_is in
      omega (arith, w, here, apart)
  served_tell t AtServer begun k o w e =
      let l = o.2 in
      let here = l.listed in
      let there = at_server system x 0 l.note l.note k.notes (omega arith) l.served_is in
      omega (arith, w, here, there, within_waiting system x 0 k.notes)
  served_tell t Pending begun k o w e = absurd (omega (arith, e))
  served_tell t Throttled begun k o w e = absurd (omega (arith, e))
  served_tell t Ready begun k o w e = absurd (omega (arith, e))
  served_tell t Running begun k o w e = absurd (omega (arith, e))
  served_tell t Done begun k o w e = absurd (omega (arith, e))

  -- its state in tick t, by its core
  clock_tells : (t : ℕ) → standing_in_clock system t x ≡ (reached system well x (suc t)).told.standing
  clock_tells t =
      let h = after system well x t in
      let told = (reached system well x (suc t)).told in
      let core = clocks.core_at system (clocks.world system (suc t)) (core_of system (thread_part system x)) in
      counts_tell (times_running x core.running) (times_queued x core.ready) (times_dated x core.releases)
      (times_waiting x core.notes) (times_at_server system x 0 core.notes) _ told.standing
      h.runs (sym (sorted-queued x core.ready) ∙ h.ready) h.dated h.waits
      (λ one. dated_tell t told.standing told.begun (core_before system well x (suc t)) h.own (sym h.dated ∙ one))
      (λ one. served_tell t told.standing told.begun (core_before system well x (suc t)) h.own h.waits (sym h.waits ∙ one))

  -- what the rows up to t tell
  pub rows_of_tick : (t : ℕ) → List Row
  rows_of_tick t = telling x (past_of [] (clocks.clock system (suc t)).rows)

  pub up_to_tick : (t : ℕ) → said (opening_standing system x) (rows_of_tick t) ≡ (reached system well x (suc t)).told.standing
  unfolding rows_of_tick
  up_to_tick t =
      let r = reached system well x (suc t) in
      rows_tell x (first_of system x) (opening_standing system x) [] (clocks.clock system (suc t)).rows (opening_told system x) r.told r.leads refl

  -- its state in a tick, by the rows of a whole schedule
  pub tick_told : (horizon t : ℕ) → t ≤ horizon
      → standing_at t (telling x (past_of [] (clocks.schedule system horizon))) ≡ said Pending (rows_of_tick t)
  unfolding rows_of_tick
  tick_told horizon t within =
      let l = later system well x (horizon - t) (suc t) (suc horizon) (omega (arith, within)) in
      let early = since-up_to x t (past_of [] (clocks.clock system (suc t)).rows) (in_order system well t).1 in
      ap (λ rows. standing_at t (telling x (past_of [] rows))) l.more
      ∙ ap (λ rows. standing_at t (telling x rows)) (past-append [] (clocks.clock system (suc t)).rows l.rows)
      ∙ reads_on x t (past_of [] (clocks.clock system (suc t)).rows) l.rows l.moments
      ∙ reads_last x t (telling x (past_of [] (clocks.clock system (suc t)).rows)) early

pub standings : StandingsAreTheClocks
standings system well horizon t x within known =
    let P : Bool → Type 0 = λ b. said (opening_as system x b) (rows_of_tick system well x t) ≡ (reached system well x (suc t)).told.standing in
    tick_told system well x horizon t within
    ∙ subst P (inside x (length system.threads) known) (up_to_tick system well x t)
    ∙ sym (clock_tells system well x t)
  where
    inside : (a b : ℕ) → a < b → nat_lt a b ≡ true
    inside a b e = grind (arith, nat_tests)
