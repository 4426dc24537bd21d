-- A part for each of several things, done one after another.
use Rattle.std.proofs.Common.{◌≡◌, ℕ, suc, ◌+◌, ◌<◌, Bool, true, false, cond, List, [], ◌∷◌, ◌++◌, length, refl, sym, ap, subst, ◌∙◌, append_assoc, append-nil, arith}
use Rattle.std.specs.Prelude.{◌==◌, nat_le, Some, None, All}
use Rattle.std.specs.List.{AllByRecursion}
use Rattle.std.proofs.lemmas.Bool.Decides.{nat_tests}
use Rattle.mcs_ticks.specs.declared.row.Row.{Row}
use Rattle.mcs_ticks.specs.declared.row.What.{What}
use Rattle.mcs_ticks.specs.Given.{Given}
use Rattle.mcs_ticks.specs.Soonest.{HasCome}
use Rattle.mcs_ticks.proofs.Givens.{given-append}
use Rattle.mcs_control.specs.declared.config.Order.{Order}
use Rattle.mcs_mail.specs.declared.mail.Mail.{Mail}
use Rattle.mcs_mail.specs.Box.{due, without_due, arriving, first_arrival}
use Rattle.mcs_system.specs.System.{System}
use Rattle.mcs_core.specs.Busy.{first_moment}
use Rattle.mcs_core.specs.Core.{Core}
use Rattle.mcs_core.specs.Turn.{stamped, Turn, silent, ◌followed_by◌}
use Rattle.mcs_core.specs.declared.log.Here.{Here}
use Rattle.mcs_core.specs.declared.log.Log.{Log}
use Rattle.mcs_core.specs.stored.Parts.{Adds, Makes}
use Rattle.mcs_core.specs.Orders.{first_due, without_first, due_now, to_come, AreByMoment, IsPlanned, ArePlanned}
use Rattle.mcs_core.proofs.Counts.{either}
use Rattle.mcs_core.proofs.Firsts.{not_le}
use Rattle.mcs_core.proofs.Plans.{from-earlier, due-none}

pub stamped-append : (c t : ℕ) (xs ys : List What) → stamped c t (xs ++ ys) ≡ stamped c t xs ++ stamped c t ys
stamped-append c t [] ys = refl
stamped-append c t (x ∷ xs) ys = ap (λ rs. record { moment = t; core = c; what = x } ∷ rs) (stamped-append c t xs ys)

-- what the turns tell a sink: lemmas for each kind of sink
module _ {S : Type 0} {takes : S → Row → Bool → S → Type 0} where
  -- one part, and then another
  pub then-adds : (here : Here) (told more : List What) (mails others : List Mail) (before between after : Log S) →
      Adds takes here told mails before between → Adds takes here more others between after → Adds takes here (told ++ more) (mails ++ others) before after
  then-adds here told more mails others before between after h k = record {
    rows = subst (λ (rs : List Row). Given takes before.sink.now rs after.sink.now) (sym (stamped-append here.core here.moment told more))
        (given-append takes before.sink.now between.sink.now after.sink.now (stamped here.core here.moment told) (stamped here.core here.moment more) h.rows k.rows);
    signals = k.signals ∙ ap (λ (ms : List Mail). ms ++ others) h.signals ∙ append_assoc before.signals.now.items mails others;
    same_sink = k.same_sink ∙ h.same_sink;
    same_signals = k.same_signals ∙ h.same_signals;
  }

  pub then-makes : (here : Here) (first : Turn) (part : Core → Turn) (core core' : Core) (before between after : Log S) →
      Makes takes here first core before between → Makes takes here (part core) core' between after → Makes takes here (first followed_by part) core' before after
  then-makes here first part core core' before between after h k = rest core h.core k
    where
      rest : (core : Core) → core ≡ first.core → Makes takes here (part core) core' between after → Makes takes here (first followed_by part) core' before after
      rest core e k = by (let P : Core → Type 0 = λ x. Makes takes here (part x) core' between after in subst P e k)
        where
          by : Makes takes here (part first.core) core' between after → Makes takes here (first followed_by part) core' before after
          by k = record { core = k.core; adds = then-adds here first.rows (part first.core).rows first.mails (part first.core).mails before between after h.adds k.adds }

  -- no row is emitted and no signal is sent
  pub no-adds : (here : Here) (log : Log S) → Adds takes here [] [] log log
  no-adds here log = record { rows = refl; signals = sym (append-nil log.signals.now.items); same_sink = refl; same_signals = refl }

-- what was made so far, and what is left to do from this core on: together they make the whole
pub record GoesOn {S : Type 0} (takes : S → Row → Bool → S → Type 0) (here : Here) (whole rest : Turn) (before now : Log S) : Type 0 where
  pub goes : (core : Core) (after : Log S) → Makes takes here rest core now after → Makes takes here whole core before after

module _ {S : Type 0} {takes : S → Row → Bool → S → Type 0} where
  pub goes-step : (here : Here) (whole rest : Turn) (before now now' : Log S) (first : Turn) (part : Core → Turn) (core : Core) →
      GoesOn takes here whole rest before now → rest ≡ (first followed_by part) → Makes takes here first core now now' → GoesOn takes here whole (part core) before now'
  goes-step here whole rest before now now' first part core g e h = record {
    goes = λ core' after k. g.goes core' after (rw e (then-makes here first part core core' now now' after h k));
  }

  pub goes-end : (here : Here) (whole rest : Turn) (before now : Log S) (core : Core) →
      GoesOn takes here whole rest before now → rest ≡ silent core → Makes takes here whole core before now
  goes-end here whole rest before now core g e = g.goes core now (rw e (record { core = refl; adds = no-adds here now }))

-- the first order that is due, and the others
pub record IsFirstDue (system : System) (c t : ℕ) (order : Order) (orders : List Order) : Type 0 where
  pub now : due_now t orders ≡ order ∷ due_now t (without_first t orders)
  pub later : to_come (t + 1) orders ≡ to_come (t + 1) (without_first t orders)
  pub by_moment : AreByMoment t (without_first t orders)
  pub planned : ArePlanned system c (without_first t orders)
  pub fewer : length (without_first t orders) < length orders

pub first-due-is : (system : System) (c t : ℕ) (order : Order) (orders : List Order) → AreByMoment t orders → ArePlanned system c orders → first_due t orders ≡ Some order → IsFirstDue system c t order orders
first-due-is system c t order [] h p e = cc
first-due-is system c t order (x ∷ xs) h p e = by (nat_le x.moment t) refl e
  where
    by : (b : Bool) → nat_le x.moment t ≡ b → cond b (Some x) None ≡ Some order → IsFirstDue system c t order (x ∷ xs)
    by true f g =
        let same : x ≡ order = cc in
        let now : (x.moment == t) ≡ true = grind (arith, nat_tests) in
        let past : nat_le (t + 1) x.moment ≡ false = grind (arith, nat_tests) in
        record {
          now = rw (f, now) (ap (λ y. y ∷ due_now t xs) same);
          later = rw (f, past) refl;
          by_moment = rw f (from-earlier t x.moment xs h.0 h.1);
          planned = rw f p.1;
          fewer = rw f (omega arith);
        }
    by false f g = cc

-- no item is due
pub none-due-now : (t : ℕ) (orders : List Order) → AreByMoment t orders → first_due t orders ≡ None → due_now t orders ≡ []
none-due-now t [] h e = refl
none-due-now t (x ∷ xs) h e = let l : t < x.moment = grind (arith, nat_tests) in due-none t x.moment (x ∷ xs) l (omega arith, h.1)

pub none-due-later : (t : ℕ) (orders : List Order) → AreByMoment t orders → first_due t orders ≡ None → to_come (t + 1) orders ≡ orders
none-due-later t [] h e = refl
none-due-later t (x ∷ xs) h e = let l : t < x.moment = grind (arith, nat_tests) in all x.moment (x ∷ xs) l (omega arith, h.1)
  where
    all : (from : ℕ) (xs : List Order) → t < from → AreByMoment from xs → to_come (t + 1) xs ≡ xs
    all from [] l h = refl
    all from (y ∷ ys) l h = grind (arith, nat_tests, h.0, all y.moment ys (omega (arith, h.0)) h.1)

-- the first order is of a later moment: no order is due
pub no-order-come : (t : ℕ) (orders : List Order) → (HasCome t (first_moment orders) → ⊥) → first_due t orders ≡ None
no-order-come t [] h = refl
no-order-come t (x ∷ xs) h = let l : t < x.moment = not_le x.moment t h in let f : nat_le x.moment t ≡ false = grind (arith, nat_tests) in rw f refl

-- the first mail arrives later: no mail is due
pub no-mail-come : (t : ℕ) (mails : List Mail) → (HasCome t (first_arrival mails) → ⊥) → due t mails ≡ None
no-mail-come t [] h = refl
no-mail-come t (x ∷ xs) h = let l : t < x.arrives = not_le x.arrives t h in let f : nat_le x.arrives t ≡ false = grind (arith, nat_tests) in rw f refl

-- what holds of all mail holds of what is left of it
pub all-without_due : (P : Mail → Type 0) (t : ℕ) (mails : List Mail) → All P mails → All P (without_due t mails)
all-without_due P t [] h = h
all-without_due P t (x ∷ xs) h = either (All P) (nat_le x.arrives t) xs (x ∷ xs) (λ k d l. h (suc k) d (omega arith)) h

pub first-known : (P : Mail → Type 0) (t : ℕ) (mail : Mail) (mails : List Mail) → All P mails → due t mails ≡ Some mail → P mail
first-known P t mail [] h e = cc
first-known P t mail (x ∷ xs) h e = by (nat_le x.arrives t) e
  where
    by : (b : Bool) → cond b (Some x) None ≡ Some mail → P mail
    by true f = let g : x ≡ mail = cc in subst P g (h 0 x (omega arith))
    by false f = cc

pub none-taken : (t : ℕ) (mails : List Mail) → due t mails ≡ None → without_due t mails ≡ mails
none-taken t [] e = refl
none-taken t (x ∷ xs) e = grind arith

pub no-order-taken : (t : ℕ) (orders : List Order) → first_due t orders ≡ None → without_first t orders ≡ orders
no-order-taken t [] e = refl
no-order-taken t (x ∷ xs) e = grind arith

-- the first order is a planned one
pub first-planned : (system : System) (c t : ℕ) (order : Order) (orders : List Order) → ArePlanned system c orders → first_due t orders ≡ Some order → IsPlanned system c order
first-planned system c t order [] p e = cc
first-planned system c t order (x ∷ xs) p e = by (nat_le x.moment t) e
  where
    by : (b : Bool) → cond b (Some x) None ≡ Some order → IsPlanned system c order
    by true f = let g : x ≡ order = cc in let P : Order → Type 0 = IsPlanned system c in subst P g p.0
    by false f = cc

-- the notifications of the mail that arrives
pub known-arriving : (t notes : ℕ) (mails : List Mail) → All (λ (mail : Mail). mail.note < notes) mails → AllByRecursion (λ (mail : Mail). mail.note < notes) (arriving t mails)
known-arriving t notes [] h = tt
known-arriving t notes (x ∷ xs) h =
    let i = known-arriving t notes xs (λ k d l. h (suc k) d (omega arith)) in
    either (AllByRecursion (λ (mail : Mail). mail.note < notes)) (x.arrives == t) (x ∷ arriving t xs) (arriving t xs) (h 0 x (omega arith), i) i
