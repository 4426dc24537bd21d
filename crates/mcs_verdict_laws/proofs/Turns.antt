-- A thread passes a whole turn of its core.
use Rattle.std.proofs.Common.{◌≡◌, ◌≢◌, ℕ, suc, ◌+◌, ◌<◌, ◌≤◌, ◌⊎◌, inl, inr, Bool, true, false, cond, not, ◌==◌, List, [], ◌∷◌, Option, None, refl, sym, subst, arith}
use Rattle.std.specs.Prelude.{filter, nat_le}
use Rattle.std.proofs.lemmas.Bool.{cases_lt}
use Rattle.std.proofs.lemmas.Bool.Decides.{nat_tests}
use Rattle.mcs_ticks.specs.Queue.{by_priority, first_of}
use Rattle.mcs_release.specs.declared.dated.Dated.{Dated}
use Rattle.mcs_release.specs.Release.{is_due}
use Rattle.mcs_mail.specs.declared.mail.Mail.{Mail}
use Rattle.mcs_system.specs.System.{System}
use Rattle.mcs_system.specs.WellFormed.{IsWellFormed}
use Rattle.std.specs.List.{AllByRecursion}
use Rattle.mcs_core.specs.Alarms.{ringing, alarms_at}
use Rattle.mcs_core.specs.Core.{Core}
use Rattle.mcs_core.specs.Places.{times_dated}
use Rattle.mcs_core.specs.Turn as turns
use Rattle.mcs_core.specs.Turn.{Turn, silent, says, ◌followed_by◌, each, is_for_now}
use Rattle.mcs_verdict.specs.declared.standing.Standing.{Standing}
use Rattle.mcs_verdict.specs.declared.standing.Standing.TheVariants.{Pending, Ready, Running, Throttled, Blocked, AtServer, Done}
use Rattle.mcs_verdict_laws.proofs.Steps.{Told, told_of, ended-append, ended-other, walks-append, walks-other}
use Rattle.mcs_verdict_laws.proofs.Holds.{dated_as, first, start_at, IsUnderWay, IsStarted, AreDated, Own, Holds, Loose, Same, same-refl, same-back, holds-same, loose-same, Aside, Goes, goes-aside, goes-then, goes-each, goes-where}
use Rattle.mcs_verdict_laws.proofs.Entering.{equal, step-release, enters-back}
use Rattle.mcs_verdict_laws.proofs.Sources.{IsHeard, IsSignalled, alarms-heard}
use Rattle.mcs_verdict_laws.proofs.Parts.{tick_of-goes, interrupts-goes, arrives-goes, obeys-goes, preempts_by-goes, chooses_of-goes}

-- the release queue without the threads that are due
due-left : (x t : ℕ) (xs : List Dated)
    → times_dated x (filter (is_due t) xs) + times_dated x (filter (λ dated. not (is_due t dated)) xs) ≡ times_dated x xs
due-left x t [] = refl
due-left x t (d ∷ xs) = by (is_due t d) (due-left x t xs)
  where
    by : (b : Bool) → times_dated x (filter (is_due t) xs) + times_dated x (filter (λ dated. not (is_due t dated)) xs) ≡ times_dated x xs
        → times_dated x (cond b (d ∷ filter (is_due t) xs) (filter (is_due t) xs))
        + times_dated x (cond (not b) (d ∷ filter (λ dated. not (is_due t dated)) xs) (filter (λ dated. not (is_due t dated)) xs))
        ≡ times_dated x (d ∷ xs)
    by true i = omega (arith, i)
    by false i = omega (arith, i)

module _ (system : System) (x : ℕ) where
  filter-dated : (p : Dated → Bool) (date : ℕ) (xs : List Dated) → AreDated system x date xs → AreDated system x date (filter p xs)
  filter-dated p date [] all = tt
  filter-dated p date (d ∷ xs) all = by (p d) (filter-dated p date xs all.1)
    where
      by : (b : Bool) → AreDated system x date (filter p xs) → AreDated system x date (cond b (d ∷ filter p xs) (filter p xs))
      by true i = (all.0, i)
      by false i = i

  -- one of them that is the thread's has its date
  dated-passes : (p : Dated → Bool) (date : ℕ) (xs : List Dated) → AreDated system x date xs → 1 ≤ times_dated x (filter p xs)
      → (dated : Dated) × (p dated ≡ true) × (dated.date ≡ date)
  dated-passes p date [] all l = absurd (omega (arith, l))
  dated-passes p date (d ∷ xs) all l = by (p d) refl (dated-passes p date xs all.1) l
    where
      there : (b : Bool) → (d.thread == x) ≡ b → p d ≡ true
          → (1 ≤ times_dated x (filter p xs) → (dated : Dated) × (p dated ≡ true) × (dated.date ≡ date))
          → 1 ≤ cond b 1 0 + times_dated x (filter p xs) → (dated : Dated) × (p dated ≡ true) × (dated.date ≡ date)
      there true e f rest m = (d, f, all.0 (equal d.thread x e))
      there false e f rest m = rest (omega (arith, m))

      by : (b : Bool) → p d ≡ b → (1 ≤ times_dated x (filter p xs) → (dated : Dated) × (p dated ≡ true) × (dated.date ≡ date))
          → 1 ≤ times_dated x (cond b (d ∷ filter p xs) (filter p xs)) → (dated : Dated) × (p dated ≡ true) × (dated.date ≡ date)
      by true f rest m = there (d.thread == x) refl f rest m
      by false f rest m = rest m

  due_then : (t date : ℕ) (xs : List Dated) → AreDated system x date xs → 1 ≤ times_dated x (filter (is_due t) xs) → date ≤ t
  due_then t date xs all l =
      let d = dated-passes (is_due t) date xs all l in
      let h = come d.0.date t d.1 in
      let e = d.2 in
      omega arith
    where
      come : (a b : ℕ) → nat_le a b ≡ true → a ≤ b
      come a b e = grind (arith, nat_tests)

  left_then : (t date : ℕ) (xs : List Dated) → AreDated system x date xs → 1 ≤ times_dated x (filter (λ dated. not (is_due t dated)) xs)
      → suc t ≤ date
  left_then t date xs all l =
      let d = dated-passes (λ dated. not (is_due t dated)) date xs all l in
      let h = later d.0.date t (is_due t d.0) refl d.1 in
      let e = d.2 in
      omega arith
    where
      later : (a b : ℕ) (c : Bool) → nat_le a b ≡ c → not c ≡ true → suc b ≤ a
      later a b true e f = absurd (let g : false ≡ true = f in cc)
      later a b false e f = grind (arith, nat_tests)

  -- the due threads are released, among which this one is not ..
  released-aside : (due : Dated) (k : Core) → (due.thread == x) ≡ false → Aside system x k (turns.released by_priority due k)
  released-aside due k e = record { same = same-back system x due.thread None k e; rows = (e, tt) }

  none-released : (from t : ℕ) (xs : List Dated) (told : Told) (k : Core) → times_dated x xs ≡ 0 → Holds system x from t told k
      → Goes system x from t told (each (turns.released by_priority) xs k)
  none-released from t [] told k none h = goes-aside system x from t told k (silent k) h record { same = same-refl system x k; rows = tt }
  none-released from t (d ∷ xs) told k none h =
      by (d.thread == x) refl none (λ last empty holds. none-released from t xs last (turns.released by_priority d k).core empty holds)
    where
      by : (b : Bool) → (d.thread == x) ≡ b → cond b 1 0 + times_dated x xs ≡ 0
          → ((last : Told) → times_dated x xs ≡ 0 → Holds system x from t last (turns.released by_priority d k).core
          → Goes system x from t last (each (turns.released by_priority) xs (turns.released by_priority d k).core))
          → Goes system x from t told (each (turns.released by_priority) (d ∷ xs) k)
      by true e f rest = absurd (omega (arith, f))
      by false e f rest =
          let next = turns.released by_priority d k in
          goes-then system x from from t told next (each (turns.released by_priority) xs)
          (goes-aside system x from t told k next h (released-aside d k e))
          (λ last holds. rest last (omega (arith, f)) holds)

  -- .. or is
  one-released : (from t : ℕ) (xs : List Dated) (standing : Standing) (begun : Option ℕ) (k : Core) → (standing ≡ Pending) ⊎ (standing ≡ Throttled)
      → (standing ≡ Pending → t ≡ start_at system x) → times_dated x xs ≡ 1
      → Loose system x t begun k → Goes system x from t (told_of standing begun) (each (turns.released by_priority) xs k)
  one-released from t [] standing begun k was early one l = absurd (omega (arith, one))
  one-released from t (d ∷ xs) standing begun k was early one l =
      by (d.thread == x) refl one
      (λ another loose. one-released from t xs standing begun (turns.released by_priority d k).core was early another loose)
    where
      own : times_dated x xs ≡ 0 → Goes system x from t (told_of standing begun)
          (turns.released by_priority (record d { thread = x }) k followed_by each (turns.released by_priority) xs)
      own none =
          let next = turns.released by_priority (record d { thread = x }) k in
          let first : Goes system x from t (told_of standing begun) next =
          record {
            last = told_of Ready begun;
            walks = (told_of Ready begun, step-release x (first system x) t standing begun was early, refl);
            ended = λ before. (tt, tt);
            holds = enters-back system x from t None begun k l;
          }
          in
          goes-then system x from from t (told_of standing begun) next (each (turns.released by_priority) xs) first
          (λ last holds. none-released from t xs last next.core none holds)

      by : (b : Bool) → (d.thread == x) ≡ b → cond b 1 0 + times_dated x xs ≡ 1
          → (times_dated x xs ≡ 1 → Loose system x t begun (turns.released by_priority d k).core
          → Goes system x from t (told_of standing begun) (each (turns.released by_priority) xs (turns.released by_priority d k).core))
          → Goes system x from t (told_of standing begun) (each (turns.released by_priority) (d ∷ xs) k)
      by true e f rest =
          let P : ℕ → Type 0 =
          λ z. Goes system x from t (told_of standing begun)
          (turns.released by_priority (record d { thread = z }) k followed_by each (turns.released by_priority) xs)
          in
          subst P (sym (equal d.thread x e)) (own (omega (arith, f)))
      by false e f rest =
          let next = turns.released by_priority d k in
          let a = released-aside d k e in
          let q = rest (omega (arith, f)) (loose-same system x t begun k next.core a.same l) in
          record {
            last = q.last;
            walks = walks-append x (first system x) t next.rows _ (told_of standing begun) (told_of standing begun) q.last
                (walks-other x (first system x) t (told_of standing begun) next.rows a.rows) q.walks;
            holds = q.holds;
            ended = λ before. ended-append x before next.rows _ (ended-other x before next.rows a.rows) q.ended;
          }

  -- a thread that has started does not become pending
  later-holds : (from to t : ℕ) (standing : Standing) (begun : Option ℕ) (k : Core) → standing ≢ Pending
      → Holds system x from t (told_of standing begun) k → Holds system x to t (told_of standing begun) k
  later-holds from to t standing begun k h holds =
      record { runs = holds.runs; ready = holds.ready; dated = holds.dated; waits = holds.waits; own = by standing h holds.own }
    where
      by : (standing : Standing) → standing ≢ Pending → Own system x from t standing begun k → Own system x to t standing begun k
      by Pending h o = absurd (h refl)
      by Ready h o = o
      by Running h o = o
      by Throttled h o = o
      by Blocked h o = o
      by AtServer h o = o
      by Done h o = o

  -- those that are left
  left-same : (t : ℕ) (k : Core) → times_dated x (filter (is_due t) k.releases) ≡ 0 → Same system x k
      (record k { releases = filter (λ dated. not (is_due t dated)) k.releases })
  left-same t k none =
      let all = due-left x t k.releases in
      record {
        runs = refl;
        ready = refl;
        dated = omega (arith, all, none);
        dates = λ date h. filter-dated (λ dated. not (is_due t dated)) date k.releases h;
        waits = refl;
        listed = λ note. refl;
        place = refl;
        since = refl;
        has = refl;
        notes = refl;
      }

  left : ℕ → Core → Core
  left t k = record k { releases = filter (λ dated. not (is_due t dated)) k.releases }

  -- it has no date that is due
  not-due : (t : ℕ) (told : Told) (k : Core) → times_dated x (filter (is_due t) k.releases) ≡ 0 → Holds system x (suc t) t told (left t k)
      → Goes system x (suc t) t told (turns.releases by_priority system t k)
  unfolding left
  not-due t told k none h =
      let q = none-released (suc t) t (filter (is_due t) k.releases) told (left t k) none h in
      record { last = q.last; walks = q.walks; holds = q.holds; ended = q.ended }

  is-due : (t : ℕ) (standing : Standing) (begun : Option ℕ) (k : Core) → (standing ≡ Pending) ⊎ (standing ≡ Throttled)
      → (standing ≡ Pending → t ≡ start_at system x) → times_dated x (filter (is_due t) k.releases) ≡ 1
      → Loose system x t begun (left t k)
      → Goes system x (suc t) t (told_of standing begun) (turns.releases by_priority system t k)
  unfolding left
  is-due t standing begun k was early one l =
      let q = one-released (suc t) t (filter (is_due t) k.releases) standing begun (left t k) was early one l in
      record { last = q.last; walks = q.walks; holds = q.holds; ended = q.ended }

  loose-left : (t : ℕ) (begun : Option ℕ) (k : Core) (standing : Standing) → (standing ≡ Pending) ⊎ (standing ≡ Throttled)
      → times_dated x (filter (is_due t) k.releases) ≡ 1
      → Holds system x t t (told_of standing begun) k → IsUnderWay system x begun k → IsStarted system x t k → Loose system x t begun (left t k)
  unfolding left
  loose-left t begun k Pending was one h u s =
      let all = due-left x t k.releases in
      let d = h.dated in
      record {
        runs = h.runs;
        ready = h.ready;
        dated = omega (arith, all, one, d);
        waits = h.waits;
        under = record { known = u.known; has = u.has; notes = u.notes; begins = u.begins };
        started = record { start = s.start; since = s.since };
      }
  loose-left t begun k Throttled was one h u s =
      let all = due-left x t k.releases in
      let d = h.dated in
      record {
        runs = h.runs;
        ready = h.ready;
        dated = omega (arith, all, one, d);
        waits = h.waits;
        under = record { known = u.known; has = u.has; notes = u.notes; begins = u.begins };
        started = record { start = s.start; since = s.since };
      }
  loose-left t begun k Ready (inl e) one h u s = absurd (cc)
  loose-left t begun k Ready (inr e) one h u s = absurd (cc)
  loose-left t begun k Running (inl e) one h u s = absurd (cc)
  loose-left t begun k Running (inr e) one h u s = absurd (cc)
  loose-left t begun k Blocked (inl e) one h u s = absurd (cc)
  loose-left t begun k Blocked (inr e) one h u s = absurd (cc)
  loose-left t begun k AtServer (inl e) one h u s = absurd (cc)
  loose-left t begun k AtServer (inr e) one h u s = absurd (cc)
  loose-left t begun k Done (inl e) one h u s = absurd (cc)
  loose-left t begun k Done (inr e) one h u s = absurd (cc)

  -- no date of it is due, or it has one date only
  due-cases : (t : ℕ) (k : Core) → times_dated x k.releases ≤ 1
      → (times_dated x (filter (is_due t) k.releases) ≡ 0) ⊎ (times_dated x (filter (is_due t) k.releases) ≡ 1)
  due-cases t k l = by (cases_lt (times_dated x (filter (is_due t) k.releases)) 1)
    where
      by : (times_dated x (filter (is_due t) k.releases) < 1) ⊎ (1 ≤ times_dated x (filter (is_due t) k.releases))
          → (times_dated x (filter (is_due t) k.releases) ≡ 0) ⊎ (times_dated x (filter (is_due t) k.releases) ≡ 1)
      by (inl none) = inl (omega (arith, none))
      by (inr one) = inr (omega (arith, one, due-left x t k.releases))

  undated-goes : (t : ℕ) (standing : Standing) (begun : Option ℕ) (k : Core) → standing ≢ Pending → dated_as standing ≡ 0
      → Holds system x t t (told_of standing begun) k
      → Goes system x (suc t) t (told_of standing begun) (turns.releases by_priority system t k)
  unfolding left
  undated-goes t standing begun k other none h =
      let all = due-left x t k.releases in
      let d = h.dated in
      let empty : times_dated x (filter (is_due t) k.releases) ≡ 0 = omega (arith, all, d, none) in
      not-due t (told_of standing begun) k empty
      (later-holds t (suc t) t standing begun (left t k) other
      (holds-same system x t t (told_of standing begun) k (left t k) (left-same t k empty) h))

  releases-as : (t : ℕ) (standing : Standing) (begun : Option ℕ) (k : Core) → Holds system x t t (told_of standing begun) k
      → Goes system x (suc t) t (told_of standing begun) (turns.releases by_priority system t k)
  unfolding left
  releases-as t Ready begun k h = undated-goes t Ready begun k (λ e. cc) refl h
  releases-as t Running begun k h = undated-goes t Running begun k (λ e. cc) refl h
  releases-as t Blocked begun k h = undated-goes t Blocked begun k (λ e. cc) refl h
  releases-as t Done begun k h = undated-goes t Done begun k (λ e. cc) refl h
  releases-as t AtServer begun k h = undated-goes t AtServer begun k (λ e. cc) refl h
  releases-as t Throttled begun k h = by (due-cases t k (let d = h.dated in omega (arith, d)))
    where
      by : (times_dated x (filter (is_due t) k.releases) ≡ 0) ⊎ (times_dated x (filter (is_due t) k.releases) ≡ 1)
          → Goes system x (suc t) t (told_of Throttled begun) (turns.releases by_priority system t k)
      by (inl none) =
          not-due t (told_of Throttled begun) k none
          (later-holds t (suc t) t Throttled begun (left t k) (λ e. cc)
          (holds-same system x t t (told_of Throttled begun) k (left t k) (left-same t k none) h))
      by (inr one) = is-due t Throttled begun k (inr refl) (λ e. absurd (cc)) one (loose-left t begun k Throttled (inr refl) one h h.own.0 h.own.1)
  releases-as t Pending begun k h = by (due-cases t k (let d = h.dated in omega (arith, d)))
    where
      by : (times_dated x (filter (is_due t) k.releases) ≡ 0) ⊎ (times_dated x (filter (is_due t) k.releases) ≡ 1)
          → Goes system x (suc t) t (told_of Pending begun) (turns.releases by_priority system t k)
      by (inl none) =
          let was = holds-same system x t t (told_of Pending begun) k (left t k) (left-same t k none) h in
          let all = due-left x t k.releases in
          let d = h.dated in
          let one : 1 ≤ times_dated x (filter (λ dated. not (is_due t dated)) k.releases) = omega (arith, all, d, none) in
          not-due t (told_of Pending begun) k none
          record {
            runs = was.runs;
            ready = was.ready;
            dated = was.dated;
            waits = was.waits;
            own = (
              was.own.0,
              record { later = left_then t (start_at system x) k.releases h.own.1.dates one; since = was.own.1.since; dates = was.own.1.dates },
            );
          }
      by (inr one) =
          let start = due_then t (start_at system x) k.releases h.own.1.dates (omega (arith, one)) in
          let since = h.own.1.since in
          let later = h.own.1.later in
          is-due t Pending begun k (inl refl) (λ same. omega (arith, start, later)) one
          (loose-left t begun k Pending (inl refl) one h h.own.0 record { start = start; since = omega (arith, since, start) })

-- the whole turn
module _ (system : System) (well : IsWellFormed system) (c t x : ℕ) where
  pub turn-goes : (mails : List Mail) (told : Told) (k : Core) → AllByRecursion (IsSignalled system well) mails → Holds system x t t told k
      → Goes system x (suc t) t told (turns.turn_with by_priority system c t mails k)
  turn-goes mails told k signalled h =
      let first = turns.tick by_priority system c t k in
      let one = first followed_by each (turns.interrupts by_priority system t) (ringing t (alarms_at system c t)) in
      let two = one followed_by each (turns.arrives by_priority system t) mails in
      let three = two followed_by each (turns.obeys by_priority system t) (filter (is_for_now system c t) system.orders) in
      let four = three followed_by turns.releases by_priority system t in
      let five = four followed_by turns.preempts by_priority system t in
      goes-then system x (suc t) (suc t) t told five (turns.chooses by_priority system t)
      (goes-then system x (suc t) (suc t) t told four (turns.preempts by_priority system t)
      (goes-then system x t (suc t) t told three (turns.releases by_priority system t)
      (goes-then system x t t t told two (each (turns.obeys by_priority system t) (filter (is_for_now system c t) system.orders))
      (goes-then system x t t t told one (each (turns.arrives by_priority system t) mails)
      (goes-then system x t t t told first (each (turns.interrupts by_priority system t) (ringing t (alarms_at system c t)))
      (tick_of-goes system well x t c t k.running told k refl h)
      (λ last holds. goes-where system x (IsHeard system well c) t t (turns.interrupts by_priority system t)
      (λ alarm told core heard here. interrupts-goes system well x t t alarm told core heard.signalled here) (ringing t (alarms_at system c t)) last first.core
      (alarms-heard system well c t) holds))
      (λ last holds. goes-where system x (IsSignalled system well) t t (turns.arrives by_priority system t)
      (λ mail told core is here. arrives-goes system well x t t mail told core is here) mails last one.core signalled holds))
      (λ last holds. goes-each system x t t (turns.obeys by_priority system t) (obeys-goes system well x t t)
      (filter (is_for_now system c t) system.orders) last two.core holds))
      (λ last holds. releases-as system x t last.standing last.begun three.core holds))
      (λ last holds. preempts_by-goes system well x (suc t) t four.core.running (first_of four.core.ready) last four.core refl holds))
      (λ last holds. chooses_of-goes system well x (suc t) t five.core.running (first_of five.core.ready) last five.core refl refl holds)
