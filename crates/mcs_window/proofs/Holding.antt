-- A calendar of idle cores still holds after all cores skip idle time, and after one of them takes
-- turns without a signal.
use Rattle.std.proofs.Common.{◌≡◌, ◌≢◌, ℕ, zero, suc, ◌+◌, ◌-◌, ◌<◌, ◌≤◌, Bool, true, false, List, [], ◌∷◌, length, set, inl, inr, refl, sym, ap, subst, ◌∙◌, add-zero, arith}
use Rattle.std.specs.Prelude.{filter, nat_lt, slice_index}
use Rattle.std.specs.Arc.{arc_value}
use Rattle.std.proofs.lemmas.Bool.Decides.{eqb_tells, nat_tests}
use Rattle.std.proofs.lemmas.List.{get_or-set_other}
use Rattle.mcs_ticks.specs.declared.row.Row.{Row}
use Rattle.mcs_mail.specs.declared.mail.Mail.{Mail}
use Rattle.mcs_mail.specs.Box.{arriving, put_all}
use Rattle.mcs_system.specs.System.{System}
use Rattle.mcs_system.specs.WellFormed.{IsWellFormed}
use Rattle.mcs_core.specs.Clock.{world, core_at}
use Rattle.mcs_core.specs.Core.{Core}
use Rattle.mcs_core.specs.Quiet.{AreQuiet, IsQuiet, counted, counted_times}
use Rattle.mcs_window.specs.Desk.{Table, AllAreHere, clock_of, settled_at}
use Rattle.mcs_stretch.specs.Idle.{IsIdle, OnlyCounts}
use Rattle.mcs_stretch.specs.Inbox.{inbox, signals_between, is_home}
use Rattle.mcs_stretch.specs.Stretch.{NothingArrivesBefore}
use Rattle.mcs_window.specs.stored.Slots.{HoldsAt, IsKept, table_of}
use Rattle.mcs_window.specs.declared.calendar.Calendar.{Calendar}
use Rattle.mcs_window.specs.declared.desk.Desk.TheInside.{Inside}
use Rattle.mcs_stretch.proofs.Later.{rises, signals_own, takes_time}
use Rattle.mcs_stretch.proofs.Deliveries.{inbox-delivered}
use Rattle.mcs_window.proofs.Skipping.{all-reached}

module _ (system : System) (c : ℕ) where
  counted-on : (m a : ℕ) (core : Core) → counted_times system c m (counted_times system c a core) ≡ counted_times system c (a + m) core
  counted-on zero a core = ap (λ n. counted_times system c n core) (sym (add-zero a))
  counted-on (suc m) a core =
      let e : a + suc m ≡ suc (a + m) = omega arith in
      ap (counted system c) (counted-on m a core) ∙ ap (λ n. counted_times system c n core) (sym e)

  -- quiet turns behind quiet turns
  quiet-on : (t a n : ℕ) (core : Core) (box : List Mail) → AreQuiet system c t box core (a + n) → AreQuiet system c (t + a) box (counted_times system c a core) n
  quiet-on t a n core box q = λ m l.
      let at = q (a + m) (omega arith) in
      let e : t + (a + m) ≡ t + a + m = omega arith in
      let P : ℕ → Type 0 = λ u. IsQuiet system c u (arriving u box) (counted_times system c (a + m) core) in
      let Q : Core → Type 0 = λ k. IsQuiet system c (t + a + m) (arriving (t + a + m) box) k in
      subst Q (sym (counted-on m a core)) (subst P e at)

  -- a core that skips idle time is idle until the same moment
  pub idle-on : (clocks later : List ℕ) (b : ℕ) → slice_index clocks c ≤ slice_index later c → OnlyCounts system clocks later c → IsIdle system clocks b c → IsIdle system later b c
  idle-on clocks later b l counts idle = λ n k.
      let t = slice_index clocks c in
      let a = slice_index later c - t in
      let there : t + a ≡ slice_index later c = omega arith in
      same n _ _ _ _ _ _ there (sym counts.same_mail) (sym counts.core_is)
      (quiet-on t a (b - slice_index later c) (core_at system (world system t) c) (inbox system c t clocks) (λ m j. idle m (omega arith)) n k)
    where
      same : (n u v : ℕ) (box other : List Mail) (core k : Core) → u ≡ v → box ≡ other → core ≡ k → IsQuiet system c (u + n) (arriving (u + n) box) (counted_times system c n core) → IsQuiet system c (v + n) (arriving (v + n) other) (counted_times system c n k)
      same n u v box other core k e f g h = rw (sym e, sym f, sym g) h

  -- and was before, if it was idle until it skipped
  pub idle-back : (clocks later : List ℕ) (b : ℕ) → slice_index clocks c ≤ slice_index later c → OnlyCounts system clocks later c → IsIdle system clocks (slice_index later c) c → IsIdle system later b c → IsIdle system clocks b c
  idle-back clocks later b l counts first then = λ n k. by n k (nat_lt (slice_index clocks c + n) (slice_index later c)) refl
    where
      by : (n : ℕ) → n < b - slice_index clocks c → (u : Bool) → nat_lt (slice_index clocks c + n) (slice_index later c) ≡ u →
          IsQuiet system c (slice_index clocks c + n) (arriving (slice_index clocks c + n) (inbox system c (slice_index clocks c) clocks))
          (counted_times system c n (core_at system (world system (slice_index clocks c)) c))
      by n k true e =
          let early : slice_index clocks c + n < slice_index later c = grind (arith, nat_tests) in
          first n (omega arith)
      by n k false e =
          let late : slice_index later c ≤ slice_index clocks c + n = grind (arith, nat_tests) in
          let t = slice_index clocks c in
          let a = slice_index later c - t in
          let m = n - a in
          let there : slice_index later c + m ≡ t + n = omega arith in
          let many : a + m ≡ n = omega arith in
          same _ _ _ _ _ _ there counts.same_mail
          (ap (counted_times system c m) counts.core_is ∙ counted-on m a (core_at system (world system t) c) ∙ ap (λ i. counted_times system c i (core_at system (world system t) c)) many)
          (then m (omega arith))
        where
          same : (u v : ℕ) (box other : List Mail) (core k : Core) → u ≡ v → box ≡ other → core ≡ k → IsQuiet system c u (arriving u box) core → IsQuiet system c v (arriving v other) k
          same u v box other core k e f g h = rw (sym e, sym f, sym g) h

-- another core takes its turns up to before `to` without a signal
module _ (system : System) (well : IsWellFormed system) (clocks : List ℕ) (k to : ℕ) (in_clocks : k < length clocks) (known : k < system.cores) (forward : slice_index clocks k ≤ to)
    (silent : signals_between system k (slice_index clocks k) to ≡ []) where
  abbrev later : List ℕ
  later = set clocks k to

  same-inbox : (c t : ℕ) → NothingArrivesBefore system c t clocks → inbox system c t clocks ≡ inbox system c t later
  same-inbox c t reached =
      ap (λ ms. put_all (filter (is_home system c) ms) (inbox system c t clocks)) (sym silent ∙ signals_own system clocks k to in_clocks known)
      ∙ inbox-delivered system (takes_time system well) c t clocks later (rises system clocks k to in_clocks forward) reached

  idle-beside : (c b : ℕ) → c ≢ k → NothingArrivesBefore system c (slice_index clocks c) clocks → IsIdle system clocks b c → IsIdle system later b c
  idle-beside c b other reached idle =
      let here : slice_index later c ≡ slice_index clocks c = get_or-set_other clocks k c to 0 other in
      let P : ℕ → Type 0 = λ t. AreQuiet system c t (inbox system c t later) (core_at system (world system t) c) (b - t) in
      let Q : List Mail → Type 0 = λ box. AreQuiet system c (slice_index clocks c) box (core_at system (world system (slice_index clocks c)) c) (b - slice_index clocks c) in
      subst P (sym here) (subst Q (same-inbox c (slice_index clocks c) reached) idle)

-- an entry that is set to 0
zero-set : (xs : List ℕ) (k : ℕ) → slice_index (set xs k 0) k ≡ 0
zero-set [] k = refl
zero-set (x ∷ xs) zero = refl
zero-set (x ∷ xs) (suc k) = zero-set xs k

module _ {S : Type 0} {holds : S → List Row → Type 0} (a : Inside S) (kept : IsKept holds a) (here : AllAreHere (table_of a)) where
  abbrev system : System
  system = arc_value a.system

  pub holds-beside : (k to : ℕ) (calendar new : Calendar) → k < system.cores → slice_index a.clocks k ≤ to → HoldsAt (table_of a) calendar → new.until ≡ set calendar.until k 0
      → (new.stale ≡ false → (calendar.stale ≡ false) × (signals_between system k (slice_index a.clocks k) to ≡ [])) → HoldsAt (settled_at (table_of a) k to) new
  holds-beside k to calendar new known forward holds until fresh = λ e c l.
      let was = fresh e in
      let P : List ℕ → Type 0 = λ xs. IsIdle system (set a.clocks k to) (slice_index xs c) c in
      subst P (sym until) (elim (eqb_tells c k) [
        | inl f ↦ λ n m. (let none : slice_index (set calendar.until k 0) c ≡ 0 = ap (slice_index (set calendar.until k 0)) f.1 ∙ zero-set calendar.until k in absurd (omega arith))
        | inr f ↦ subst (λ b. IsIdle system (set a.clocks k to) b c) (sym (get_or-set_other calendar.until k c 0 0 f.1))
            (idle-beside system kept.well_formed a.clocks k to (let all = kept.clocks_of in let few = kept.few in omega arith) known forward was.1 c (slice_index calendar.until c) f.1 (all-reached a kept here c l) (holds was.0 c l))
      ])

-- the same of the table that the desk shows
pub holds-noted : {S : Type 0} {holds : S → List Row → Type 0} (a : Inside S) (kept : IsKept holds a) (table : Table) (view : table_of a ≡ table) (here : AllAreHere table) (k n : ℕ) (e : k ≡ n) (after : Table) (calendar new : Calendar) → n < table.system.cores → HoldsAt table calendar
    → clock_of table n < clock_of after n → after ≡ settled_at table n (clock_of after n) → new.until ≡ set calendar.until k 0
    → (new.stale ≡ false → (calendar.stale ≡ false) × (signals_between table.system n (clock_of table n) (clock_of after n) ≡ [])) → HoldsAt after new
holds-noted a kept table view here k n e after calendar new known holds moved is until fresh =
    let to = clock_of after n in
    let known_here = subst (λ m. m < (arc_value a.system).cores) (sym e) (subst (λ (t : Table). n < t.system.cores) (sym view) known) in
    let forward = subst (λ m. slice_index a.clocks m < to) (sym e) (subst (λ (t : Table). clock_of t n < to) (sym view) moved) in
    let silent : new.stale ≡ false → (calendar.stale ≡ false) × (signals_between (arc_value a.system) k (slice_index a.clocks k) to ≡ []) = λ f. ((fresh f).0, subst (λ m. signals_between (arc_value a.system) m (slice_index a.clocks m) to ≡ []) (sym e) (subst (λ (t : Table). signals_between t.system n (clock_of t n) to ≡ []) (sym view) (fresh f).1)) in
    let holds_here = holds-beside a kept (subst AllAreHere (sym view) here) k to calendar new known_here (omega arith) (subst (λ t. HoldsAt t calendar) (sym view) holds) until silent in
    subst (λ t. HoldsAt t new) (sym is) (subst (λ m. HoldsAt (settled_at table m to) new) e (subst (λ t. HoldsAt (settled_at t k to) new) view holds_here))

-- a skip of idle time
pub holds-on : (before after : Table) (calendar : Calendar) → after ≡ record before { clocks = after.clocks }
    → ((c : ℕ) → c < before.system.cores → slice_index before.clocks c ≤ slice_index after.clocks c)
    → ((c : ℕ) → c < before.system.cores → OnlyCounts before.system before.clocks after.clocks c) → HoldsAt before calendar → HoldsAt after calendar
holds-on before after calendar same rises counts holds =
    subst (λ t. HoldsAt t calendar) (sym same) (λ e c l. idle-on before.system c before.clocks after.clocks (slice_index calendar.until c) (rises c l) (counts c l) (holds e c l))
