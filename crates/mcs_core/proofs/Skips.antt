-- Many quiet turns at once, and the next busy moment, on a sound core.
use Rattle.std.proofs.Common.{◌≡◌, ℕ, zero, suc, ◌+◌, ◌-◌, ◌<◌, ◌≤◌, ◌^◌, Bool, false, List, [], ◌∷◌, length, refl, sym, ap, subst, ◌∙◌, arith, ◌++◌}
use Rattle.std.specs.Prelude.{max, All, Option, Some, None, IfSome}
use Rattle.std.proofs.lemmas.Bool.Decides.{nat_tests}
use Rattle.mcs_ticks.specs.Queue.{Discipline, by_priority}
use Rattle.mcs_ticks.specs.declared.row.Row.{Row}
use Rattle.mcs_ticks.specs.Given.{Given}
use Rattle.mcs_control.specs.declared.config.Order.{Order}
use Rattle.mcs_mail.specs.declared.mail.Mail.{Mail}
use Rattle.mcs_mail.specs.Box.{arriving, first_arrival, IsOrdered}
use Rattle.mcs_release.specs.Release.{next_date}
use Rattle.mcs_core.specs.declared.standing.Chosen.{Chosen}
use Rattle.mcs_system.specs.System.{System}
use Rattle.mcs_core.specs.Core.{Core}
use Rattle.mcs_core.specs.Orders.{due_now, to_come, orders_of}
use Rattle.mcs_core.specs.Turn.{Turn}
use Rattle.mcs_core.specs.stored.Sound.{IsSound}
use Rattle.mcs_core.specs.stored.Sound.Phase.{Between}
use Rattle.mcs_system.specs.WellFormed.{IsWellFormed}
use Rattle.mcs_core.specs.State.{State, Fits, IsExpected, made_by, state_after}
use Rattle.mcs_core.specs.Run.{Ran, ran}
use Rattle.mcs_core.proofs.Runs.{left_expected, joined, ran-more, same_state, to_come-twice}
use Rattle.mcs_ticks.specs.Soonest.{sooner, before}
use Rattle.mcs_core.specs.Busy.{first_moment, counted_for}
use Rattle.mcs_core.specs.stored.Ends.{IsEnd}
use Rattle.mcs_core.specs.Quiet.{counted_times, IsQuietWith, AreQuietWith, IsNextBusyWith}
use Rattle.mcs_core.proofs.Effects.{runner_small}
use Rattle.mcs_core.proofs.Firsts.{before-some, before-none}
use Rattle.mcs_core.proofs.Plans.{orders_of-by_moment, to_come-by_moment, due-of, due-to_come}
use Rattle.mcs_core.proofs.Systems.{one-each, orders-proper, all-noted}
use Rattle.mcs_core.proofs.Ticks.{runner-placed}
use Rattle.mcs_core.proofs.Turning.{turn-sound}
use Rattle.mcs_core.specs.Alarms.{alarms_of, alarms_at, before_moment, first_date}
use Rattle.mcs_core.specs.declared.alarm.Alarm.{Alarm}
use Rattle.mcs_core.proofs.Ringing.{stay-still, first-alarm, alarms-are, ringing-known}
use Rattle.mcs_core.proofs.Quiet.{no_alarm, no_mail, no_order, counted-for, quiet-ran}
use Rattle.mcs_core.proofs.Busy.{IsKnown, next-busy, first-mail, first-order-of, first-release}

abbrev pub IsEarlyTick : Option ℕ → Type 0
IsEarlyTick o = IfSome o (λ m. m ≤ 2 ^ 42)

early-some : (o : Option ℕ) → IsEarlyTick o → (m : ℕ) → o ≡ Some m → m ≤ 2 ^ 42
early-some o h m e = grind arith

-- if no order is for this moment, those to come at it are those to come after it
none-now : (t : ℕ) (os : List Order) → due_now t os ≡ [] → to_come t os ≡ to_come (t + 1) os
none-now t [] e = refl
none-now t (o ∷ os) e = grind (arith, nat_tests, none-now t os)

module _ (system : System) (c : ℕ) (w : IsWellFormed system) where
  -- quiet turns keep a sound core sound
  pub quiet-sound : (n t : ℕ) (core : Core) → IsSound system c t Between None core → AreQuietWith by_priority system c t [] core n → t + n ≤ 2 ^ 40 + 1 → IsSound system c (t + n) Between None (counted_times system c n core)
  quiet-sound zero t core h q l = let e : t ≡ t + zero = omega arith in let P : ℕ → Type 0 = λ u. IsSound system c u Between None core in subst P e h
  quiet-sound (suc n) t core h q l =
      let before = quiet-sound n t core h (λ m k. q m (omega arith)) (omega arith) in
      let soon : t + n ≤ 2 ^ 40 = omega arith in
      let made = turn-sound system c (one-each system w) (t + n) soon [] (counted_times system c n core) (all-noted system w) (orders-proper system w) tt (ringing-known (length system.notes) (t + n) (alarms_at system c (t + n)) (alarms-are system c w (t + n))) before in
      let same = ap (λ (turn : Turn). turn.core) (q n (omega arith)) in
      let e : t + n + 1 ≡ t + suc n = omega arith in
      let P : Core → Type 0 = λ k. IsSound system c (t + n + 1) Between None k in
      let Q : ℕ → Type 0 = λ u. IsSound system c u Between None (counted_times system c (suc n) core) in
      subst Q e (subst P same made)

  -- and no order is obeyed in them
  pub quiet-orders : (n t : ℕ) (core : Core) → AreQuietWith by_priority system c t [] core n → to_come t (orders_of system c) ≡ to_come (t + n) (orders_of system c)
  quiet-orders zero t core q = let e : t ≡ t + zero = omega arith in ap (λ u. to_come u (orders_of system c)) e
  quiet-orders (suc n) t core q =
      let e : t + n + 1 ≡ t + suc n = omega arith in
      let none = no_order by_priority system c (t + n) [] (counted_times system c n core) (q n (omega arith)) in
      quiet-orders n t core (λ m k. q m (omega arith))
      ∙ none-now (t + n) (orders_of system c) (sym (due-to_come (t + n) (orders_of system c)) ∙ due-of system c (t + n) ∙ none)
      ∙ ap (λ u. to_come u (orders_of system c)) e

  -- nor does an alarm ring
  pub quiet-alarms : (n t : ℕ) (core : Core) → AreQuietWith by_priority system c t [] core n → alarms_at system c (t + n) ≡ alarms_at system c t
  quiet-alarms n t core q = stay-still n t (alarms_of system c) (λ m l. no_alarm by_priority system c (t + m) [] (counted_times system c m core) (q m l))

  known : (t : ℕ) (core : Core) → IsSound system c t Between None core → (chosen : Chosen) → core.running ≡ Some chosen → IsKnown system core chosen
  known t core h chosen e =
      let p = runner-placed system c t (one-each system w) Between chosen core h e in
      record { thread = rw h.threads p.known; item = p.item }

  pub counts-many : (n t ticks : ℕ) (core new : Core) → IsSound system c t Between None core → ticks ≡ n → new ≡ counted_for ticks core.running core → new ≡ counted_times system c n core
  counts-many n t ticks core new h e f =
      f ∙ ap (λ k. counted_for k core.running core) e ∙ sym (counted-for system c n core (λ chosen e. (known t core h chosen e).thread))

  pub counts-fit : (ticks t : ℕ) (core : Core) → IsSound system c t Between None core → ticks ≤ 2 ^ 42 → IfSome core.running (λ chosen. chosen.using + ticks < 2 ^ 63)
  counts-fit ticks t core h l = by core.running refl
    where
      small : (chosen : Chosen) → core.running ≡ Some chosen → chosen.using < 2 ^ 40
      small chosen e = runner_small system c t (one-each system w) chosen core h e

      by : (o : Option Chosen) → core.running ≡ o → IfSome o (λ chosen. chosen.using + ticks < 2 ^ 63)
      by None e = tt
      by (Some chosen) e = let k = small chosen e in omega arith

  pub runner-known : (t : ℕ) (core : Core) → IsSound system c t Between None core → IfSome core.running (λ chosen. chosen.thread < length core.threads)
  runner-known t core h = by core.running refl
    where
      by : (o : Option Chosen) → core.running ≡ o → IfSome o (λ chosen. chosen.thread < length core.threads)
      by None e = tt
      by (Some chosen) e = (known t core h chosen e).thread

  pub next-busy-of : (clock : ℕ) (box : List Mail) (core : Core) (orders : List Order) (beats : List Alarm) (ends date order alarm mail : Option ℕ) →
      IsSound system c clock Between None core → orders ≡ to_come clock (orders_of system c) → IsOrdered box → All (λ (mail : Mail). clock ≤ mail.arrives) box →
      IsEnd system clock core ends →
      date ≡ next_date core.releases → IsEarlyTick date → order ≡ first_moment orders → IsEarlyTick order → beats ≡ alarms_of system c → alarm ≡ first_date (before_moment clock beats) → IsEarlyTick alarm → mail ≡ first_arrival box → IsEarlyTick mail →
      IsNextBusyWith by_priority system c clock box core (sooner (sooner (sooner (sooner ends date) order) alarm) mail)
  next-busy-of clock box core orders beats ends date order alarm mail h planned ordered come h1 e3 l3 e4 l4 first e6 l6 e5 l5 =
      next-busy system c clock box core ends date order alarm mail (known clock core h) h1
      (rw e3 (first-release clock core.releases h.later (λ m e. early-some date l3 m (e3 ∙ e))))
      (rw e4 (first-order-of system c clock orders planned (rw planned (to_come-by_moment 0 clock (orders_of system c) (orders_of-by_moment system c))) (λ m e. early-some order l4 m (e4 ∙ e))))
      (rw (e6, first) (first-alarm (length system.notes) clock (alarms_of system c) (alarms-are system c w clock) (λ m e. early-some alarm l6 m (e6 ∙ rw first e))))
      (rw e5 (first-mail clock box ordered come (λ m e. early-some mail l5 m (e5 ∙ e))))

-- a state after quiet turns
pub skipped-fits : (system : System) (w : IsWellFormed system) (state : State) (to : ℕ) (core : Core) → Fits system state → state.failed ≡ false → state.clock ≤ to → to ≤ 2 ^ 40 + 1 →
    AreQuietWith by_priority system state.number state.clock [] state.core (to - state.clock) → core ≡ counted_times system state.number (to - state.clock) state.core →
    Fits system (record state { clock = to; core = core })
skipped-fits system w state to core fits going later in_time quiet e =
    let there : state.clock + (to - state.clock) ≡ to = omega arith in
    let after = quiet-sound system state.number w (to - state.clock) state.clock state.core (fits.sound going) quiet (omega arith) in
    record {
      known = fits.known;
      early = in_time;
      sound = λ f. rw e (rw there at after);
      orders = λ f. fits.orders going ∙ quiet-orders system state.number w (to - state.clock) state.clock state.core quiet ∙ ap (λ u. to_come u (orders_of system state.number)) there;
      alarms = fits.alarms;
      delays = λ f. fits.delays going;
    }

-- however the ready threads are kept
module _ (queue : Discipline) (system : System) (c t : ℕ) where
  -- turns that are quiet with this mail are quiet with none
  pub quiet-alone : (n : ℕ) (core : Core) (box : List Mail) → AreQuietWith queue system c t box core n → AreQuietWith queue system c t [] core n
  quiet-alone n core box q = λ m l.
      let at = q m l in
      let P : List Mail → Type 0 = λ mails. IsQuietWith queue system c (t + m) mails (counted_times system c m core) in
      subst P (no_mail queue system c (t + m) (arriving (t + m) box) (counted_times system c m core) at) at

  -- up to the next busy moment, or up to a sooner one
  pub quiet-to : (to : ℕ) (core : Core) (box : List Mail) (o : Option ℕ) → IsNextBusyWith queue system c t box core o → ((m : ℕ) → o ≡ Some m → to ≤ m) → to ≤ 2 ^ 42 → AreQuietWith queue system c t box core (to - t)
  quiet-to to core box None h late l = λ n k. h n (omega arith)
  quiet-to to core box (Some moment) h late l = λ n k. (let e = late moment refl in let f = h.1 in h.3 n (omega arith))

  pub quiet-at : (moment : ℕ) (core : Core) (box : List Mail) → IsNextBusyWith queue system c t box core (Some moment) → AreQuietWith queue system c t box core (moment - t)
  quiet-at moment core box h = λ n k. (let f = h.1 in h.3 n (omega arith))

  pub later-busy : (moment : ℕ) (core : Core) (box : List Mail) → IsNextBusyWith queue system c t box core (Some moment) → t ≤ moment
  later-busy moment core box h = let f = h.1 in omega arith

-- of a state, what it says that its next busy moment is before `to`, and that it isn't
module _ (system : System) (state : State) (box : List Mail) (to : ℕ) (o : Option ℕ) (busy : IsNextBusyWith by_priority system state.number state.clock box state.core o) where
  pub quiet-whole : before to o ≡ None → to ≤ 2 ^ 42 → AreQuietWith by_priority system state.number state.clock box state.core (to - state.clock)
  quiet-whole e l = quiet-to by_priority system state.number state.clock to state.core box o busy (before-none to o e) l

  module _ (moment : ℕ) (e : before to o ≡ Some moment) where
    busy-here : IsNextBusyWith by_priority system state.number state.clock box state.core (Some moment)
    busy-here = rw (before-some to o moment e).0 at busy

    pub busy-before : moment < to
    busy-before = (before-some to o moment e).1

    pub busy-later : state.clock ≤ moment
    busy-later = later-busy by_priority system state.number state.clock moment state.core box busy-here

    pub quiet-first : AreQuietWith by_priority system state.number state.clock box state.core (moment - state.clock)
    quiet-first = quiet-at by_priority system state.number state.clock moment state.core box busy-here

module _ (system : System) (state : State) (box : List Mail) (until : ℕ) (later : state.clock ≤ until) (quiet : AreQuietWith by_priority system state.number state.clock box state.core (until - state.clock)) where
  -- the state after quiet turns
  abbrev pub quiet_state : State
  quiet_state = record state { clock = until; core = counted_times system state.number (until - state.clock) state.core }

  -- the results of turns that are all quiet
  made-quiet : made_by system state until box ≡ record { core = quiet_state.core; rows = []; mails = []; box = box }
  made-quiet = quiet-ran by_priority system state.number (until - state.clock) state.clock state.core box quiet

  -- nor is a row made by fewer of them
  pub no-rows : (to : ℕ) → to ≤ until → (made_by system state to box).rows ≡ []
  no-rows to l = ap (λ (made : Ran). made.rows) (quiet-ran by_priority system state.number (to - state.clock) state.clock state.core box (λ n k. quiet n (omega arith)))

  -- what turns make from the clock on, they make from the state after the quiet ones on
  pub made-on : (to : ℕ) → until ≤ to → made_by system state to box ≡ made_by system quiet_state to box
  made-on to l =
      let n = until - state.clock in
      let many : to - state.clock ≡ n + (to - until) = omega arith in
      let there : state.clock + n ≡ until = omega arith in
      ap (λ x. ran system state.number x state.clock state.core box) many
      ∙ ran-more system state.number n (to - until) state.clock state.core box
      ∙ ap (λ (before : Ran). joined before (ran system state.number (to - until) (state.clock + n) before.core before.box)) made-quiet
      ∙ ap (λ t. ran system state.number (to - until) t quiet_state.core box) there

  -- and so is the state after them
  pub after-on : (to : ℕ) → until ≤ to → state_after quiet_state to (made_by system quiet_state to box) ≡ state_after state to (made_by system state to box)
  after-on to l =
      let late : max until to ≡ max state.clock to = omega arith in
      ap (λ (made : Ran). state_after quiet_state to made) (sym (made-on to l))
      ∙ ap (λ t. let made : State = record { number = state.number; clock = t; core = (made_by system state to box).core; orders = to_come to state.orders; alarms = state.alarms; delays = state.delays; failed = state.failed } in made) late

  -- mail that is expected is expected after them
  pub expected-on : All (IsExpected system state) box → All (IsExpected system quiet_state) box
  expected-on h =
      let after = left_expected system state until box h in
      let P : List Mail → Type 0 = λ mails. All (IsExpected system (state_after state until (made_by system state until box))) mails in
      let kept = subst P (ap (λ (made : Ran). made.box) made-quiet) after in
      λ k d l. record { known = (kept k d l).known; home = (kept k d l).home; arrives = (let a = (kept k d l).arrives in omega arith) }

  -- a turn that is taken after them: with them it is one stretch, up to the clock
  module _ (skipped new : State) (same : skipped ≡ quiet_state) (took : new ≡ state_after skipped (skipped.clock + 1) (made_by system skipped (skipped.clock + 1) box)) where
    there : skipped.clock ≡ until
    there = ap (λ (s : State). s.clock) same

    time : new.clock ≡ skipped.clock + 1
    time = let next : max skipped.clock (skipped.clock + 1) ≡ skipped.clock + 1 = omega arith in ap (λ (s : State). s.clock) took ∙ next

    whole-stretch : made_by system skipped (skipped.clock + 1) box ≡ made_by system state new.clock box
    whole-stretch =
        ap (λ (s : State). made_by system s (skipped.clock + 1) box) same ∙ sym (made-on (skipped.clock + 1) (omega (arith, there)))
        ∙ ap (λ t. made_by system state t box) (sym time)

    pub stretch-state : new ≡ state_after state new.clock (made_by system state new.clock box)
    stretch-state =
        took ∙ ap (λ (s : State). state_after s (skipped.clock + 1) (made_by system s (skipped.clock + 1) box)) same ∙ after-on (skipped.clock + 1) (omega (arith, there))
        ∙ ap (λ t. state_after state t (made_by system state t box)) (sym time)

    -- no row is made before that turn
    pub stretch-last : (made_by system state (new.clock - 1) box).rows ≡ []
    stretch-last = no-rows (new.clock - 1) (omega (arith, there, time))

    pub stretch-told : {A : Type 0} (part : Ran → List A) (before after : List A) →
        after ≡ before ++ part (made_by system skipped (skipped.clock + 1) box) → after ≡ before ++ part (made_by system state new.clock box)
    stretch-told part before after told = told ∙ ap (λ (made : Ran). before ++ part made) whole-stretch

    pub stretch-given : {S : Type 0} (takes : S → Row → Bool → S → Type 0) (before after : S) →
        Given takes before (made_by system skipped (skipped.clock + 1) box).rows after → Given takes before (made_by system state new.clock box).rows after
    stretch-given takes before after told = subst (λ (made : Ran). Given takes before made.rows after) whole-stretch told

  -- no turn is taken after them
  module _ (skipped : State) (same : skipped ≡ quiet_state) where
    pub quiet-made : made_by system state skipped.clock box ≡ record { core = skipped.core; rows = []; mails = []; box = box }
    quiet-made =
        let P : State → Type 0 = λ s. made_by system state s.clock box ≡ record { core = s.core; rows = []; mails = []; box = box } in
        subst P (sym same) made-quiet

    pub quiet-state : Fits system state → state.failed ≡ false → Fits system skipped → skipped ≡ state_after state skipped.clock (made_by system state skipped.clock box)
    quiet-state fits going after =
        let there : skipped.clock ≡ until = ap (λ (s : State). s.clock) same in
        let late : skipped.clock ≡ max state.clock skipped.clock = omega arith in
        let number = ap (λ (s : State). s.number) same in
        let failed = ap (λ (s : State). s.failed) same in
        same_state skipped _ _ _ _ _ _ _ number late (ap (λ (made : Ran). made.core) (sym quiet-made))
        (after.orders (failed ∙ going) ∙ ap (λ n. to_come skipped.clock (orders_of system n)) number ∙ ap (λ t. to_come t (orders_of system state.number)) late
        ∙ sym (to_come-twice skipped.clock state.clock (orders_of system state.number)) ∙ ap (to_come skipped.clock) (sym (fits.orders going)))
        (ap (λ (s : State). s.alarms) same) (ap (λ (s : State). s.delays) same) failed
