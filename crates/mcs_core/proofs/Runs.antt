-- Turns one after another.
use Rattle.std.proofs.Common.{◌≡◌, ℕ, zero, suc, ◌+◌, ◌-◌, length, ◌<◌, ◌≤◌, Bool, true, false, cond, List, [], ◌∷◌, ◌++◌, refl, sym, ap, subst, ◌∙◌, append_assoc, append-nil, arith}
use Rattle.std.specs.Prelude.{◌==◌, not, max, All, Result, Ok, Err, OnOk, is_err}
use Rattle.mcs_ticks.specs.Given.{Given}
use Rattle.mcs_ticks.proofs.Givens.{given-append}
use Rattle.mcs_control.specs.declared.config.Order.{Order}
use Rattle.std.proofs.lemmas.Bool.Decides.{nat_tests}
use Rattle.std.proofs.lemmas.List.Elements.{All-cons}
use Rattle.mcs_ticks.specs.declared.row.Row.{Row}
use Rattle.mcs_mail.specs.declared.mail.Mail.{Mail}
use Rattle.mcs_mail.specs.Box.{arriving, staying, is_before, put}
use Rattle.mcs_system.specs.System.{System, note_part}
use Rattle.mcs_core.specs.declared.alarm.Alarm.{Alarm}
use Rattle.mcs_core.specs.Core.{Core}
use Rattle.mcs_core.specs.Orders.{orders_of, to_come}
use Rattle.mcs_core.specs.State.{State, Fits, IsExpected, made_by, state_after}
use Rattle.mcs_core.specs.Turn.{stamped, turn}
use Rattle.mcs_core.specs.Run.{Ran, ran, with_turn}
use Rattle.mcs_core.proofs.Counts.{either}

-- mail that stays arrives later
pub later-staying : (t : ℕ) (mails : List Mail) → All (λ (mail : Mail). t ≤ mail.arrives) mails → All (λ (mail : Mail). t + 1 ≤ mail.arrives) (staying t mails)
later-staying t [] h = λ k d l. absurd (omega arith)
later-staying t (x ∷ xs) h = by (x.arrives == t) refl (later-staying t xs (λ k d l. h (suc k) d (omega arith)))
  where
    by : (b : Bool) → (x.arrives == t) ≡ b → All (λ (mail : Mail). t + 1 ≤ mail.arrives) (staying t xs) → All (λ (mail : Mail). t + 1 ≤ mail.arrives) (cond (not b) (x ∷ staying t xs) (staying t xs))
    by true e i = i
    by false e i = All-cons (λ (mail : Mail). t + 1 ≤ mail.arrives) x (staying t xs) (first x.arrives (h 0 x (omega arith)) e) i
      where
        first : (a : ℕ) → t ≤ a → (a == t) ≡ false → t + 1 ≤ a
        first a l e = grind (arith, nat_tests)

-- what turns make, and then what those after them make
abbrev pub joined : Ran → Ran → Ran
joined before after = record { core = after.core; rows = before.rows ++ after.rows; mails = before.mails ++ after.mails; box = after.box }

module _ (system : System) (c : ℕ) where
  -- more turns after these
  pub ran-more : (n m t : ℕ) (core : Core) (box : List Mail) →
      ran system c (n + m) t core box ≡ joined (ran system c n t core box) (ran system c m (t + n) (ran system c n t core box).core (ran system c n t core box).box)
  ran-more zero m t core box =
      let e : zero + m ≡ m = omega arith in
      let f : t ≡ t + zero = omega arith in
      ap (λ x. ran system c x t core box) e ∙ ap (λ x. ran system c m x core box) f
  ran-more (suc n) m t core box =
      let e : suc n + m ≡ suc (n + m) = omega arith in
      let f : t + 1 + n ≡ t + suc n = omega arith in
      ap (λ x. ran system c x t core box) e
      ∙ ap (with_turn system c t (turn system c t (arriving t box) core)) (ran-more n m (t + 1) (turn system c t (arriving t box) core).core (staying t box))
      ∙ again (stamped c t (turn system c t (arriving t box) core).rows) (turn system c t (arriving t box) core).mails
      (ran system c n (t + 1) (turn system c t (arriving t box) core).core (staying t box))
      ∙ ap (λ x. joined (ran system c (suc n) t core box) (ran system c m x (ran system c (suc n) t core box).core (ran system c (suc n) t core box).box)) f
    where
      again : (rows : List Row) (mails : List Mail) (rest : Ran) →
          record { core = (joined rest (ran system c m (t + 1 + n) rest.core rest.box)).core; rows = rows ++ (rest.rows ++ (ran system c m (t + 1 + n) rest.core rest.box).rows); mails = mails ++ (rest.mails ++ (ran system c m (t + 1 + n) rest.core rest.box).mails); box = (ran system c m (t + 1 + n) rest.core rest.box).box }
          ≡ joined (record { core = rest.core; rows = rows ++ rest.rows; mails = mails ++ rest.mails; box = rest.box }) (ran system c m (t + 1 + n) rest.core rest.box)
      again rows mails rest = rw (append_assoc rows rest.rows (ran system c m (t + 1 + n) rest.core rest.box).rows, append_assoc mails rest.mails (ran system c m (t + 1 + n) rest.core rest.box).mails) refl

-- one turn more from a state
module _ (system : System) where
  one-turn : (state : State) (box : List Mail) →
      made_by system state (state.clock + 1) box
      ≡ with_turn system state.number state.clock (turn system state.number state.clock (arriving state.clock box) state.core)
      (record { core = (turn system state.number state.clock (arriving state.clock box) state.core).core; rows = []; mails = []; box = staying state.clock box })
  one-turn state box = let one : state.clock + 1 - state.clock ≡ 1 = omega arith in ap (λ n. ran system state.number n state.clock state.core box) one

  pub made-turn : (state : State) (box : List Mail) → (made_by system state (state.clock + 1) box).core ≡ (turn system state.number state.clock (arriving state.clock box) state.core).core
  made-turn state box = ap (λ (made : Ran). made.core) (one-turn state box)

  pub told-turn : (state : State) (box : List Mail) →
      (made_by system state (state.clock + 1) box).rows ≡ stamped state.number state.clock (turn system state.number state.clock (arriving state.clock box) state.core).rows
  told-turn state box = ap (λ (made : Ran). made.rows) (one-turn state box) ∙ append-nil _

  pub sent-turn : (state : State) (box : List Mail) → (made_by system state (state.clock + 1) box).mails ≡ (turn system state.number state.clock (arriving state.clock box) state.core).mails
  sent-turn state box = ap (λ (made : Ran). made.mails) (one-turn state box) ∙ append-nil _

  -- turns from the state after some of them go on from there
  pub made-through : (u to : ℕ) (state mid : State) (box left : List Mail) → state.clock ≤ u → u ≤ to →
      mid ≡ state_after state u (made_by system state u box) → left ≡ (made_by system state u box).box →
      made_by system state to box ≡ joined (made_by system state u box) (made_by system mid to left)
  made-through u to state mid box left l k e f =
      let n = u - state.clock in
      let many : to - state.clock ≡ n + (to - u) = omega arith in
      let there : state.clock + n ≡ u = omega arith in
      let time : mid.clock ≡ u = (let s = ap (λ (s : State). s.clock) e in omega arith) in
      let number = ap (λ (s : State). s.number) e in
      let core = ap (λ (s : State). s.core) e in
      let made = made_by system state u box in
      let rest : made_by system mid to left ≡ ran system state.number (to - u) u made.core made.box = rw (number, time, core, f) refl in
      ap (λ x. ran system state.number x state.clock state.core box) many ∙ ran-more system state.number n (to - u) state.clock state.core box
      ∙ ap (λ t. joined made (ran system state.number (to - u) t made.core made.box)) there ∙ ap (joined made) (sym rest)

-- a call that was no refusal
pub if_ok : {E : Type 0} (r : Result (Unit {0}) E) (P : Type 0) → is_err r ≡ false → OnOk r P → P
if_ok (Ok x) P e p = p
if_ok (Err x) P e p = cc

pub same_state : (s : State) (number time : ℕ) (core : Core) (orders : List Order) (alarms : List Alarm) (delays : List ℕ) (failed : Bool) → s.number ≡ number → s.clock ≡ time → s.core ≡ core → s.orders ≡ orders → s.alarms ≡ alarms → s.delays ≡ delays → s.failed ≡ failed →
    s ≡ record { number = number; clock = time; core = core; orders = orders; alarms = alarms; delays = delays; failed = failed }
same_state s number time core orders alarms delays failed a b d e h g f = rw (sym a, sym b, sym d, sym e, sym h, sym g, sym f) refl

-- what is to come from two moments on is what is to come from the later one on
pub to_come-twice : (a b : ℕ) (os : List Order) → to_come a (to_come b os) ≡ to_come (max b a) os
to_come-twice a b [] = refl
to_come-twice a b (x ∷ xs) = grind (arith, nat_tests, to_come-twice a b xs)

-- the facts if nothing failed
pub on_ok-map : {A E : Type 0} (P Q : Type 0) (r : Result A E) → (P → Q) → OnOk r P → OnOk r Q
on_ok-map P Q (Ok x) f p = f p
on_ok-map P Q (Err x) f p = tt

-- the state after turns, from which more turns were taken, is the state after all of them; so are rows, signals and mail
module _ (system : System) where
  -- no turn was taken yet
  pub none-made : (state : State) (box : List Mail) → made_by system state state.clock box ≡ record { core = state.core; rows = []; mails = []; box = box }
  none-made state box = let none : state.clock - state.clock ≡ 0 = omega arith in ap (λ n. ran system state.number n state.clock state.core box) none

  -- and none before it
  pub none-yet : (state : State) (box : List Mail) → made_by system state (state.clock - 1) box ≡ record { core = state.core; rows = []; mails = []; box = box }
  none-yet state box = let none : state.clock - 1 - state.clock ≡ 0 = omega arith in ap (λ n. ran system state.number n state.clock state.core box) none

  pub state-at-first : (state : State) (box : List Mail) → Fits system state → state.failed ≡ false → state ≡ state_after state state.clock (made_by system state state.clock box)
  state-at-first state box fits going =
      let time : state.clock ≡ max state.clock state.clock = omega arith in
      let orders = fits.orders going in
      same_state state _ _ _ _ _ _ _ refl time (ap (λ (made : Ran). made.core) (sym (none-made state box)))
      (orders ∙ ap (λ t. to_come t (orders_of system state.number)) time ∙ sym (to_come-twice state.clock state.clock (orders_of system state.number)) ∙ ap (to_come state.clock) (sym orders))
      refl refl refl

  module _ (u to : ℕ) (state mid : State) (box left : List Mail) (l : state.clock ≤ u) (k : u ≤ to) (e : mid ≡ state_after state u (made_by system state u box)) (f : left ≡ (made_by system state u box).box) where
    pub state-through : state_after mid to (made_by system mid to left) ≡ state_after state to (made_by system state to box)
    state-through =
        let all = made-through system u to state mid box left l k e f in
        let time : max mid.clock to ≡ max state.clock to = (let s = ap (λ (s : State). s.clock) e in omega arith) in
        let past : max u to ≡ to = omega arith in
        same_state (state_after mid to (made_by system mid to left)) _ _ _ _ _ _ _ (ap (λ (s : State). s.number) e) time (ap (λ (made : Ran). made.core) (sym all))
        (ap (λ (s : State). to_come to s.orders) e ∙ to_come-twice to u state.orders ∙ ap (λ n. to_come n state.orders) past)
        (ap (λ (s : State). s.alarms) e) (ap (λ (s : State). s.delays) e) (ap (λ (s : State). s.failed) e)

    pub given-through : {S : Type 0} (takes : S → Row → Bool → S → Type 0) (before now after : S) → Given takes before (made_by system state u box).rows now →
        Given takes now (made_by system mid to left).rows after → Given takes before (made_by system state to box).rows after
    given-through {S} takes before now after g h =
        subst (λ (made : Ran). Given takes before made.rows after) (sym (made-through system u to state mid box left l k e f))
        (given-append takes before now after (made_by system state u box).rows (made_by system mid to left).rows g h)

    -- if no row is made after some turns, nothing more is given
    pub given-rest : {S : Type 0} (takes : S → Row → Bool → S → Type 0) (before now : S) → Given takes before (made_by system state u box).rows now →
        (made_by system mid to left).rows ≡ [] → Given takes before (made_by system state to box).rows now
    given-rest {S} takes before now g none = given-through takes before now now g (subst (λ (rows : List Row). Given takes now rows now) (sym none) refl)

    pub signals-through : (sent signals signals' : List Mail) → signals ≡ sent ++ (made_by system state u box).mails → signals' ≡ signals ++ (made_by system mid to left).mails → signals' ≡ sent ++ (made_by system state to box).mails
    signals-through sent signals signals' g h =
        let all = made-through system u to state mid box left l k e f in
        h ∙ ap (λ (xs : List Mail). xs ++ (made_by system mid to left).mails) g
        ∙ append_assoc sent (made_by system state u box).mails (made_by system mid to left).mails ∙ ap (λ (made : Ran). sent ++ made.mails) (sym all)

    pub box-through : (made_by system mid to left).box ≡ (made_by system state to box).box
    box-through = ap (λ (made : Ran). made.box) (sym (made-through system u to state mid box left l k e f))

-- what holds of each mail of a box holds of each that stays, and of each when one more is put
kept-staying : (P : Mail → Type 0) (t : ℕ) (mails : List Mail) → All P mails → All P (staying t mails)
kept-staying P t [] h = h
kept-staying P t (x ∷ xs) h =
    let i = kept-staying P t xs (λ k d l. h (suc k) d (omega arith)) in
    either (All P) (not (x.arrives == t)) (x ∷ staying t xs) (staying t xs) (All-cons P x (staying t xs) (h 0 x (omega arith)) i) i

pub all_put : (P : Mail → Type 0) (mail : Mail) (mails : List Mail) → P mail → All P mails → All P (put mail mails)
all_put P mail [] p h = All-cons P mail [] p h
all_put P mail (x ∷ xs) p h =
    either (All P) (is_before mail x) (mail ∷ x ∷ xs) (x ∷ put mail xs) (All-cons P mail (x ∷ xs) p h)
    (All-cons P x (put mail xs) (h 0 x (omega arith)) (all_put P mail xs p (λ k d l. h (suc k) d (omega arith))))

-- the mail that a stretch of turns leaves is mail for the core after it
module _ (system : System) where
  kept-ran : (P : Mail → Type 0) (c n t : ℕ) (core : Core) (box : List Mail) → All P box → All P (ran system c n t core box).box
  kept-ran P c zero t core box h = h
  kept-ran P c (suc n) t core box h = kept-ran P c n (t + 1) (turn system c t (arriving t box) core).core (staying t box) (kept-staying P t box h)

  later-ran : (c n t : ℕ) (core : Core) (box : List Mail) → All (λ (mail : Mail). t ≤ mail.arrives) box →
      All (λ (mail : Mail). t + n ≤ mail.arrives) (ran system c n t core box).box
  later-ran c zero t core box h = λ k d l. (let g = h k d l in omega arith)
  later-ran c (suc n) t core box h =
      let g = later-ran c n (t + 1) (turn system c t (arriving t box) core).core (staying t box) (later-staying t box h) in
      λ k d l. (let e = g k d l in omega arith)

  pub left_expected : (state : State) (to : ℕ) (box : List Mail) → All (IsExpected system state) box →
      All (IsExpected system (state_after state to (made_by system state to box))) (made_by system state to box).box
  left_expected state to box h =
      let n = to - state.clock in
      let known = kept-ran (λ (mail : Mail). mail.note < length system.notes) state.number n state.clock state.core box (λ k d l. (h k d l).known) in
      let home = kept-ran (λ (mail : Mail). (note_part system mail.note).core ≡ state.number) state.number n state.clock state.core box (λ k d l. (h k d l).home) in
      let later = later-ran state.number n state.clock state.core box (λ k d l. (h k d l).arrives) in
      λ k d l. record { known = known k d l; home = home k d l; arrives = (let e = later k d l in omega arith) }

  -- .. and so with any name for that core and that mail
  pub expected-after : (state after : State) (to : ℕ) (box left : List Mail) → after ≡ state_after state to (made_by system state to box) → left ≡ (made_by system state to box).box →
      All (IsExpected system state) box → All (IsExpected system after) left
  expected-after state after to box left e f h =
      let P : State → Type 0 = λ s. All (IsExpected system s) left in
      let Q : List Mail → Type 0 = λ mails. All (IsExpected system (state_after state to (made_by system state to box))) mails in
      subst P (sym e) (subst Q (sym f) (left_expected state to box h))
