-- The state of a thread before each time of the clock, and how it was reached.
use Rattle.std.proofs.Common.{◌≡◌, ◌≢◌, ℕ, zero, suc, ◌+◌, ◌<◌, ◌≤◌, ◌⊎◌, inl, inr, List, [], ◌∷◌, ◌++◌, None, refl, sym, ap, subst, ◌∙◌, arith}
use Rattle.std.specs.Prelude.{filter, flat_map}
use Rattle.std.specs.List.{range_with_len, AllByRecursion}
use Rattle.std.proofs.lemmas.Bool.{cases_lt}
use Rattle.std.proofs.lemmas.List.{append_assoc, append-nil}
use Rattle.mcs_ticks.specs.declared.row.Row.{Row}
use Rattle.mcs_ticks.specs.declared.row.What.{What}
use Rattle.mcs_mail.specs.declared.mail.Mail.{Mail}
use Rattle.mcs_system.specs.System.{System, TakesTime, thread_part, core_of}
use Rattle.mcs_system.specs.WellFormed.{IsWellFormed}
use Rattle.mcs_system.proofs.Linked.{takes_time}
use Rattle.mcs_core.specs.Core.{Core}
use Rattle.mcs_core.specs.Turn.{Turn, stamped}
use Rattle.mcs_core.specs.Clock as clocks
use Rattle.mcs_core.proofs.Clock.{core_shown-first, turn_of-kept, core_shown-kept, rows-clock}
use Rattle.mcs_laws.specs.Places.{places}
use Rattle.mcs_laws.proofs.Homes.{own_core, own_core_known, away}
use Rattle.mcs_verdict.specs.declared.standing.Standing.{Standing}
use Rattle.mcs_verdict.specs.declared.standing.Standing.TheVariants.{Pending, Ready, Running, Throttled, Blocked, AtServer, Done}
use Rattle.mcs_verdict_laws.proofs.Steps.{Told, told_of, AreOther, AreEnded, ended-other, Walks, walks-other, walks-done, Leads, leads-append, leads-stamped}
use Rattle.mcs_verdict_laws.proofs.Holds.{first, IsStarted, Own, Holds}
use Rattle.mcs_verdict_laws.proofs.Sources.{mails-signalled}
use Rattle.mcs_verdict_laws.proofs.Turns.{turn-goes}
use Rattle.mcs_verdict_laws.proofs.Opening.{opening_told, opening-holds}

-- the rows of a moment
stamped-of : (c t : ℕ) (told : List What) (more : List Row) → AllByRecursion (λ (r : Row). r.moment ≡ t) more
    → AllByRecursion (λ (r : Row). r.moment ≡ t) (stamped c t told ++ more)
stamped-of c t [] more h = h
stamped-of c t (what ∷ told) more h = (refl, stamped-of c t told more h)

all-append : (P : Row → Type 0) (rows more : List Row) → AllByRecursion P rows → AllByRecursion P more → AllByRecursion P (rows ++ more)
all-append P [] more here there = there
all-append P (r ∷ rows) more here there = (here.0, all-append P rows more here.1 there)

all-later : (t h : ℕ) (rows : List Row) → t ≤ h → AllByRecursion (λ (r : Row). r.moment ≡ h) rows → AllByRecursion (λ (r : Row). t ≤ r.moment) rows
all-later t h [] l all = tt
all-later t h (r ∷ rows) l all = (let e = all.0 in omega (arith, e, l), all-later t h rows l all.1)

-- what was of the moment before is so of this one
now-later : (system : System) (x from now to : ℕ) (told : Told) (k : Core) → now ≤ to → Holds system x from now told k → Holds system x from to told k
now-later system x from now to told k l h = record { runs = h.runs; ready = h.ready; dated = h.dated; waits = h.waits; own = by told.standing h.own }
  where
    started : IsStarted system x now k → IsStarted system x to k
    started s = record { start = let e = s.start in omega (arith, e, l); since = let e = s.since in omega (arith, e, l) }

    by : (standing : Standing) → Own system x from now standing told.begun k → Own system x from to standing told.begun k
    by Pending o = o
    by Ready o = (o.0, started o.1)
    by Running o = (o.0, started o.1)
    by Throttled o = (o.0, started o.1)
    by Blocked o = (o.0, started o.1, o.2)
    by AtServer o = (o.0, started o.1, o.2)
    by Done o = o

module _ (system : System) (well : IsWellFormed system) (x : ℕ) where
  takes : TakesTime system
  takes = takes_time system well

  abbrev home : ℕ
  home = core_of system (thread_part system x)

  home_known : home < system.cores
  unfolding own_core
  home_known = own_core_known system well x

  abbrev pub core_before : ℕ → Core
  core_before t = clocks.core_shown system (clocks.world system t) (core_of system (thread_part system x))

  mails : ℕ → ℕ → List Mail
  mails t c = filter (clocks.arrives_at system t c) (clocks.world system t).mails

  -- the turn of another core tells nothing of it
  pub other-turn : (t c : ℕ) → c < system.cores → c ≢ core_of system (thread_part system x) → AreOther x (clocks.turn_of system c t).rows
  unfolding own_core mails
  other-turn t c known other =
      let k = clocks.core_shown system (clocks.world system t) c in
      let none : places x k ≡ 0 = away system takes x t c known other in
      let holds : Holds system x t t (told_of Done None) k =
      record { runs = omega (arith, none); ready = omega (arith, none); dated = omega (arith, none); waits = omega (arith, none); own = tt }
      in
      let goes = turn-goes system well c t x (mails t c) (told_of Done None) k (mails-signalled system well t c) holds in
      let P : Turn → Type 0 = λ made. AreOther x made.rows in
      subst P (sym (turn_of-kept system c t)) (walks-done x (first system x) t (told_of Done None) goes.last _ goes.walks refl)

  -- the turn of its core
  pub record OwnTurn (t : ℕ) (told : Told) : Type 0 where
    pub last : Told
    pub walks : Walks x (first system x) t told (clocks.turn_of system (core_of system (thread_part system x)) t).rows last
    pub holds : Holds system x (suc t) t last (core_before (suc t))
    pub ended : AreEnded x None (clocks.turn_of system (core_of system (thread_part system x)) t).rows

  own-turn : (t : ℕ) (told : Told) → Holds system x t t told (core_before t) → OwnTurn t told
  unfolding mails
  own-turn t told holds =
      let c = core_of system (thread_part system x) in
      let goes = turn-goes system well c t x (mails t c) told (core_before t) (mails-signalled system well t c) holds in
      let P : Turn → Type 0 = λ made. Walks x (first system x) t told made.rows goes.last in
      let Q : Core → Type 0 = λ k. Holds system x (suc t) t goes.last k in
      let R : Turn → Type 0 = λ made. AreEnded x None made.rows in
      record {
        last = goes.last;
        walks = subst P (sym (turn_of-kept system c t)) goes.walks;
        holds = subst Q (sym (core_shown-kept system takes t c home_known)) goes.holds;
        ended = subst R (sym (turn_of-kept system c t)) (goes.ended None);
      }

  -- the rows of the cores from a on, n of them
  abbrev rows_from : ℕ → ℕ → ℕ → List Row
  rows_from t a n = flat_map (λ c. clocks.rows_of system c t) (range_with_len a n)

  rows-of : (t n a : ℕ) → AllByRecursion (λ (r : Row). r.moment ≡ t) (rows_from t a n)
  rows-of t zero a = tt
  rows-of t (suc n) a = stamped-of a t (clocks.turn_of system a t).rows (rows_from t (a + 1) n) (rows-of t n (a + 1))

  -- past its own core
  leads-past : (t n a : ℕ) (told : Told) → home < a → a + n ≤ system.cores → Leads x (first system x) told (rows_from t a n) told
  leads-past t zero a told past within = refl
  leads-past t (suc n) a told past within =
      leads-append x (first system x) (clocks.rows_of system a t) (rows_from t (a + 1) n) told told told
      (leads-stamped x (first system x) a t (clocks.turn_of system a t).rows told told
      (walks-other x (first system x) t told (clocks.turn_of system a t).rows (other-turn t a (omega (arith, within)) (λ e. omega (arith, past, e)))))
      (leads-past t n (a + 1) told (omega (arith, past)) (omega (arith, within)))

  -- and from before it
  leads-from : (t n a : ℕ) (told : Told) (turn : OwnTurn t told) → a ≤ home → home < a + n → a + n ≤ system.cores
      → Leads x (first system x) told (rows_from t a n) turn.last
  leads-from t zero a told turn before after within = absurd (omega (arith, before, after))
  leads-from t (suc n) a told turn before after within =
      by (cases_lt a home) (λ less. leads-from t n (a + 1) told turn (omega (arith, less)) (omega (arith, after)) (omega (arith, within)))
    where
      here : a ≡ home → Walks x (first system x) t told (clocks.turn_of system a t).rows turn.last
      here e = let P : ℕ → Type 0 = λ c. Walks x (first system x) t told (clocks.turn_of system c t).rows turn.last in subst P (sym e) turn.walks

      by : (a < home) ⊎ (home ≤ a) → (a < home → Leads x (first system x) told (rows_from t (a + 1) n) turn.last)
          → Leads x (first system x) told (clocks.rows_of system a t ++ rows_from t (a + 1) n) turn.last
      by (inl less) rest =
          leads-append x (first system x) (clocks.rows_of system a t) (rows_from t (a + 1) n) told told turn.last
          (leads-stamped x (first system x) a t (clocks.turn_of system a t).rows told told
          (walks-other x (first system x) t told (clocks.turn_of system a t).rows
          (other-turn t a (omega (arith, within)) (λ e. omega (arith, less, e)))))
          (rest less)
      by (inr at) rest =
          leads-append x (first system x) (clocks.rows_of system a t) (rows_from t (a + 1) n) told turn.last turn.last
          (leads-stamped x (first system x) a t (clocks.turn_of system a t).rows told turn.last (here (omega (arith, at, before))))
          (leads-past t n (a + 1) turn.last (omega (arith, at)) (omega (arith, within)))

  -- its state before time t, and the turn at t
  pub record Reached (t : ℕ) : Type 0 where
    pub told : Told
    pub leads : Leads x (first system x) (opening_told system x) (clocks.clock system t).rows told
    pub holds : Holds system x t t told (core_before t)

  pub turned : (t : ℕ) (r : Reached t) → OwnTurn t r.told
  turned t r = own-turn t r.told r.holds

  leads-moment : (t : ℕ) (r : Reached t) → Leads x (first system x) r.told (rows_from t 0 system.cores) (turned t r).last
  leads-moment t r = leads-from t system.cores 0 r.told (turned t r) (omega arith) (let l = home_known in omega (arith, l)) (omega arith)

  next : (t : ℕ) → Reached t → Reached (suc t)
  next t r =
      let turn = turned t r in
      let P : List Row → Type 0 = λ rows. Leads x (first system x) (opening_told system x) rows turn.last in
      record {
        told = turn.last;
        leads =
            subst P (sym (rows-clock system takes t))
            (leads-append x (first system x) (clocks.clock system t).rows (rows_from t 0 system.cores)
            (opening_told system x) r.told turn.last r.leads (leads-moment t r));
        holds = now-later system x (suc t) t (suc t) turn.last (core_before (suc t)) (omega arith) turn.holds;
      }

  pub reached : (t : ℕ) → Reached t
  reached zero =
      let Q : Core → Type 0 = λ k. Holds system x 0 0 (opening_told system x) k in
      record {
        told = opening_told system x;
        leads = refl;
        holds = subst Q
            (sym (core_shown-first system (core_of system (thread_part system x)) home_known)) (opening-holds system x);
      }
  reached (suc t) = next t (reached t)

  -- after the turn at t
  pub after : (t : ℕ) → Holds system x (suc t) t (reached (suc t)).told (core_before (suc t))
  unfolding reached next
  after t = (turned t (reached t)).holds

  -- the thread is done only after one of its rounds
  pub turn_ended : (t c : ℕ) → c < system.cores → AreEnded x None (clocks.turn_of system c t).rows
  unfolding own_core
  turn_ended t c known = by (cases_eq c home)
    where
      cases_eq : (a b : ℕ) → (a ≡ b) ⊎ (a ≢ b)
      cases_eq a b = go (cases_lt a b) (cases_lt b a)
        where
          go : (a < b) ⊎ (b ≤ a) → (b < a) ⊎ (a ≤ b) → (a ≡ b) ⊎ (a ≢ b)
          go (inl l) other = inr (λ e. omega (arith, l, e))
          go (inr l) (inl m) = inr (λ e. omega (arith, m, e))
          go (inr l) (inr m) = inl (omega (arith, l, m))

      by : (c ≡ home) ⊎ (c ≢ home) → AreEnded x None (clocks.turn_of system c t).rows
      by (inl e) =
          let P : ℕ → Type 0 = λ d. AreEnded x None (clocks.turn_of system d t).rows in
          subst P (sym e) (turned t (reached t)).ended
      by (inr n) = ended-other x None (clocks.turn_of system c t).rows (other-turn t c known n)

  -- the rows from one moment on
  pub record Later (t h : ℕ) : Type 0 where
    pub rows : List Row
    pub more : (clocks.clock system h).rows ≡ (clocks.clock system t).rows ++ rows
    pub leads : Leads x (first system x) (reached t).told rows (reached h).told
    pub moments : AllByRecursion (λ (r : Row). t ≤ r.moment) rows

  pub later : (n t h : ℕ) → h ≡ t + n → Later t h
  unfolding reached next
  later zero t h e =
      let same : t ≡ h = omega (arith, e) in
      let P : ℕ → Type 0 = λ m. Later t m in
      subst P same record { rows = []; more = sym (append-nil (clocks.clock system t).rows); leads = refl; moments = tt }
  later (suc n) t zero e = absurd (omega (arith, e))
  later (suc n) t (suc h) e =
      let before = later n t h (omega (arith, e)) in
      let r = reached h in
      record {
        rows = before.rows ++ rows_from h 0 system.cores;
        more = rows-clock system takes h ∙ ap (λ rows. rows ++ rows_from h 0 system.cores) before.more ∙ append_assoc
            (clocks.clock system t).rows before.rows (rows_from h 0 system.cores);
        leads = leads-append x (first system x) before.rows (rows_from h 0 system.cores) (reached t).told r.told (turned h r).last before.leads
            (leads-moment h r);
        moments =
            all-append (λ (q : Row). t ≤ q.moment) before.rows (rows_from h 0 system.cores) before.moments
            (all-later t h (rows_from h 0 system.cores) (omega (arith, e)) (rows-of h system.cores 0));
      }
