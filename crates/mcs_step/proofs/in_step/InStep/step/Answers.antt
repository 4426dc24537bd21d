use Rattle.std.proofs.Common.{◌≡◌, ◌≤◌, ◌<◌, ◌+◌, ℕ, ◌++◌, set, false, inr, refl, sym, ap, ◌∙◌, subst, arith, rules}
use Rattle.std.specs.Prelude.{All}
use Rattle.std.specs.Arc.{arc_value}
use Rattle.mcs_ticks.specs.Given.{Given}
use Rattle.mcs_mail.specs.Box.{Content}
use Rattle.mcs_system.specs.System.{System}
use Rattle.mcs_core.specs.Clock.{rows_of}
use Rattle.mcs_core.specs.State.{State, Fits, IsExpected, made_by}
use Rattle.mcs_window.specs.stored.Delivery.{AreDelivered}
use Rattle.mcs_step.specs.Steps.{Steps, IsUpTo, rows_so_far, rows_before}
use Rattle.mcs_step.specs.stored.Cores.{AreLowered, IsBusyAt, IsQuietTo, steps_of}
use Rattle.mcs_step.specs.stored.Places.{IsFirst}
use Rattle.mcs_step.proofs.Counted.{told-none}
use Rattle.mcs_step.proofs.Turned.{HasTurned}
use Rattle.mcs_step.proofs.Stepping.{fits-now, over-kept, over-so_far, over-on_schedule, over-ends, goes-on_schedule, few-places, rows-next, expected-now, rows-made, clock-after, expected-after, step-kept}
use Rattle.mcs_step.proofs.in_step.InStep.step.Goals as goal

pub returns-then-get-clause-told : goal.returns-then-get-clause-told
returns-then-get-clause-told g c =
    let a = c.self.inside in
    let s = arc_value a.system in
    let going : a.failed ≡ false = (let P : Steps → Type 0 = λ steps. steps.failed ≡ false in subst P (sym c.self.view_is) c.requires.going) in
    let place = a.first in
    let first : IsFirst a.next place = c.self.invariant.first going in
    let end : c.at.result ≡ c.args.last + 1 = search rules in
    let late : c.args.last < place.moment = search rules in
    let so_far = over-so_far a c.self.invariant going place first c.args.last c.at.result end late (subst (IsUpTo c.args.last) (sym c.self.view_is) c.requires) in
    let Q : Steps → Type 0 = λ steps. rows_before s c.at.result 0 ≡ rows_so_far steps in
    told-none g.S.Sink.takes c.args.self.now (record (steps_of a) { moment = c.at.result; core = 0 }) c.args.told.now (subst Q c.self.view_is so_far)

pub returns-then-get-clause-on_schedule : goal.returns-then-get-clause-on_schedule
returns-then-get-clause-on_schedule g c =
    let a = c.self.inside in
    let s = arc_value a.system in
    let going : a.failed ≡ false = (let P : Steps → Type 0 = λ steps. steps.failed ≡ false in subst P (sym c.self.view_is) c.requires.going) in
    let place = a.first in
    let first : IsFirst a.next place = c.self.invariant.first going in
    let end : c.at.result ≡ c.args.last + 1 = search rules in
    let late : c.args.last < place.moment = search rules in
    over-on_schedule a c.self.invariant going place first c.args.last c.at.result end late (subst (IsUpTo c.args.last) (sym c.self.view_is) c.requires)

pub returns-then-get-clause-ends : goal.returns-then-get-clause-ends
returns-then-get-clause-ends g c =
    let a = c.self.inside in
    let s = arc_value a.system in
    let going : a.failed ≡ false = (let P : Steps → Type 0 = λ steps. steps.failed ≡ false in subst P (sym c.self.view_is) c.requires.going) in
    let place = a.first in
    let first : IsFirst a.next place = c.self.invariant.first going in
    let end : c.at.result ≡ c.args.last + 1 = search rules in
    let late : c.args.last < place.moment = search rules in
    over-ends a c.self.invariant going place first c.args.last c.at.result end late (subst (IsUpTo c.args.last) (sym c.self.view_is) c.requires)
    c.args.self.now (record (steps_of a) { moment = c.at.result; core = 0 }) c.self.view_is refl

pub invariant_of-self : goal.invariant_of-self
invariant_of-self g c =
    let a = c.self.inside in
    let s = arc_value a.system in
    let going : a.failed ≡ false = (let P : Steps → Type 0 = λ steps. steps.failed ≡ false in subst P (sym c.self.view_is) c.requires.going) in
    let place = a.first in
    let first : IsFirst a.next place = c.self.invariant.first going in
    let end : c.at.result ≡ c.args.last + 1 = search rules in
    let late : c.args.last < place.moment = search rules in
    over-kept a c.self.invariant going place first c.args.last c.at.result end late (subst (IsUpTo c.args.last) (sym c.self.view_is) c.requires)

pub run_to-requires-clause-fits : goal.run_to-requires-clause-fits
run_to-requires-clause-fits g c =
    let a = c.self.inside in
    let s = arc_value a.system in
    let going : a.failed ≡ false = (let P : Steps → Type 0 = λ steps. steps.failed ≡ false in subst P (sym c.self.view_is) c.requires.going) in
    let place = a.first in
    let first : IsFirst a.next place = c.self.invariant.first going in
    let in_time : place.moment ≤ a.horizon = (let l : place.moment ≤ c.args.last = search rules in let most : c.args.last ≤ a.horizon = (subst (IsUpTo c.args.last) (sym c.self.view_is) c.requires).in_time in omega arith) in
    subst (λ system. Fits system c.index_mut-state.result.now) (sym c.deref.ensures)
    (fits-now a c.self.invariant going place first in_time c.index_mut-state.result.now c.index_mut-mail.result.now c.index_mut-state.ensures.value c.index_mut-mail.ensures.value)

pub next_of-moment-requires-clause-fits : goal.next_of-moment-requires-clause-fits
next_of-moment-requires-clause-fits g c =
    let own : c.index.result.now ≡ c.run_to.new.self = search rules in
    let fits : Fits (arc_value c.self.inside.system) c.run_to.new.self = subst (λ system. Fits system c.run_to.new.self) c.deref.ensures c.in-Ok.ensures.fits in
    subst (λ system. Fits system c.index.result.now) (sym c.deref-2.ensures) (subst (Fits (arc_value c.self.inside.system)) (sym own) fits)

pub run_to-requires-clause-expected : goal.run_to-requires-clause-expected
run_to-requires-clause-expected g c =
    let a = c.self.inside in
    let s = arc_value a.system in
    let going : a.failed ≡ false = (let P : Steps → Type 0 = λ steps. steps.failed ≡ false in subst P (sym c.self.view_is) c.requires.going) in
    let place = a.first in
    let first : IsFirst a.next place = c.self.invariant.first going in
    let in_time : place.moment ≤ a.horizon = (let l : place.moment ≤ c.args.last = search rules in let most : c.args.last ≤ a.horizon = (subst (IsUpTo c.args.last) (sym c.self.view_is) c.requires).in_time in omega arith) in
    let state = c.index_mut-state.result.now in
    let box = c.index_mut-mail.result.now in
    let Q : System → Type 0 = λ system. All (IsExpected system state) box.mails in
    subst Q (sym c.deref.ensures) (expected-now a c.self.invariant going place first in_time state box c.index_mut-state.ensures.value c.index_mut-mail.ensures.value)

pub next_of-moment-requires-clause-expected : goal.next_of-moment-requires-clause-expected
next_of-moment-requires-clause-expected g c =
    let a = c.self.inside in
    let s = arc_value a.system in
    let going : a.failed ≡ false = (let P : Steps → Type 0 = λ steps. steps.failed ≡ false in subst P (sym c.self.view_is) c.requires.going) in
    let place = a.first in
    let first : IsFirst a.next place = c.self.invariant.first going in
    let in_time : place.moment ≤ a.horizon = (let l : place.moment ≤ c.args.last = search rules in let most : c.args.last ≤ a.horizon = (subst (IsUpTo c.args.last) (sym c.self.view_is) c.requires).in_time in omega arith) in
    let state = c.index_mut-state.result.now in
    let box = c.index_mut-mail.result.now in
    let past : c.at-past.result ≡ place.moment + 1 = search rules in
    let R : System → ℕ → Type 0 = λ system to. HasTurned system to state c.run_to.new.self box.mails c.run_to.new.mail.mails c.run_to.new.signals.items in
    let turned : HasTurned s (place.moment + 1) state c.run_to.new.self box.mails c.run_to.new.mail.mails c.run_to.new.signals.items =
    subst (λ to. R s to) past (subst (λ system. R system c.at-past.result) c.deref.ensures
    (record {
      state_is = c.in-Ok.ensures.state;
      fits = c.in-Ok.ensures.fits;
      signals_are = c.in-Ok.ensures.signals ∙ ap (λ xs. xs ++ (made_by c.deref.result.now state c.at-past.result box.mails).mails) c.clear.ensures.items;
      box_is = c.in-Ok.ensures.mail;
    })) in
    let left : All (IsExpected s c.run_to.new.self) c.run_to.new.mail.mails =
    expected-after a c.self.invariant going place first in_time state box c.index_mut-state.ensures.value c.index_mut-mail.ensures.value c.run_to.new.self c.run_to.new.mail c.run_to.new.signals.items turned in
    let own : c.index.result.now ≡ c.run_to.new.self = search rules in
    let mail : c.index-2.result.now ≡ c.run_to.new.mail = search rules in
    let Q : System → State → Content → Type 0 = λ system state box. All (IsExpected system state) box.mails in
    subst (λ system. Q system c.index.result.now c.index-2.result.now) (sym c.deref-2.ensures)
    (subst (λ state. Q s state c.index-2.result.now) (sym own) (subst (λ box. Q s c.run_to.new.self box) (sym mail) left))

pub invariant_of-self-2 : goal.invariant_of-self-2
invariant_of-self-2 g c =
    let a = c.self.inside in
    let s = arc_value a.system in
    let going : a.failed ≡ false = (let P : Steps → Type 0 = λ steps. steps.failed ≡ false in subst P (sym c.self.view_is) c.requires.going) in
    let place = a.first in
    let first : IsFirst a.next place = c.self.invariant.first going in
    let in_time : place.moment ≤ a.horizon = (let l : place.moment ≤ c.args.last = search rules in let most : c.args.last ≤ a.horizon = (subst (IsUpTo c.args.last) (sym c.self.view_is) c.requires).in_time in omega arith) in
    let state = c.index_mut-state.result.now in
    let box = c.index_mut-mail.result.now in
    let past : c.at-past.result ≡ place.moment + 1 = search rules in
    let R : System → ℕ → Type 0 = λ system to. HasTurned system to state c.run_to.new.self box.mails c.run_to.new.mail.mails c.run_to.new.signals.items in
    let turned : HasTurned s (place.moment + 1) state c.run_to.new.self box.mails c.run_to.new.mail.mails c.run_to.new.signals.items =
    subst (λ to. R s to) past (subst (λ system. R system c.at-past.result) c.deref.ensures
    (record {
      state_is = c.in-Ok.ensures.state;
      fits = c.in-Ok.ensures.fits;
      signals_are = c.in-Ok.ensures.signals ∙ ap (λ xs. xs ++ (made_by c.deref.result.now state c.at-past.result box.mails).mails) c.clear.ensures.items;
      box_is = c.in-Ok.ensures.mail;
    })) in
    let own : c.index.result.now ≡ c.run_to.new.self = search rules in
    let mail : c.index-2.result.now ≡ c.run_to.new.mail = search rules in
    let later = c.next_of-moment.result in
    let Q : System → State → Content → Type 0 = λ system state box. IsQuietTo system state box.mails later in
    let quiet : IsQuietTo s c.run_to.new.self c.run_to.new.mail.mails later =
    subst (λ box. Q s c.run_to.new.self box) mail (subst (λ state. Q s state c.index-2.result.now) own (subst (λ system. Q system c.index.result.now c.index-2.result.now) c.deref-2.ensures c.next_of-moment.ensures.quiet)) in
    let B : System → State → Content → Type 0 = λ system state box. later ≤ a.horizon → IsBusyAt system state box.mails later in
    let busy : later ≤ a.horizon → IsBusyAt s c.run_to.new.self c.run_to.new.mail.mails later =
    subst (λ box. B s c.run_to.new.self box) mail (subst (λ state. B s state c.index-2.result.now) own (subst (λ system. B system c.index.result.now c.index-2.result.now) c.deref-2.ensures
    (λ l. c.next_of-moment.ensures.busy (let end : c.at-end.result ≡ a.horizon + 1 = search rules in omega arith)))) in
    let clock = clock-after a c.self.invariant going place first in_time state box c.index_mut-state.ensures.value c.index_mut-mail.ensures.value c.run_to.new.self c.run_to.new.mail c.run_to.new.signals.items turned in
    let ahead : place.moment + 1 ≤ later = (let l = c.next_of-moment.ensures.later in let same = ap (λ (x : State). x.clock) own in omega arith) in
    let early : later ≤ a.horizon + 1 = search rules in
    let delivered : AreDelivered s c.run_to.new.signals.items (set a.boxes.items place.core c.run_to.new.mail) c.deliver.new.boxes =
    rw (c.deref-3.ensures, c.deref-4.ensures.value, c.deref_mut.ensures.value) at c.in_ok-deliver.ensures.delivered in
    let lowers : AreLowered s c.run_to.new.signals.items c.set.new.self c.deliver.new.next = rw (c.deref-3.ensures, c.deref-4.ensures.value) at c.in_ok-deliver.ensures.lowered in
    step-kept a c.self.invariant going place first in_time state box c.index_mut-state.ensures.value c.index_mut-mail.ensures.value c.run_to.new.self c.run_to.new.mail c.run_to.new.signals.items turned
    c.deliver.new.boxes c.set.new.self c.deliver.new.next later c.at-past.result c.run_to.new.signals c.first-self-inside.result past c.set.ensures quiet busy ahead early delivered lowers c.first-self-inside.ensures

pub returns-clause-told : goal.returns-clause-told
returns-clause-told g c =
    let a = c.self.inside in
    let s = arc_value a.system in
    let going : a.failed ≡ false = (let P : Steps → Type 0 = λ steps. steps.failed ≡ false in subst P (sym c.self.view_is) c.requires.going) in
    let place = a.first in
    let first : IsFirst a.next place = c.self.invariant.first going in
    let in_time : place.moment ≤ a.horizon = (let l : place.moment ≤ c.args.last = search rules in let most : c.args.last ≤ a.horizon = (subst (IsUpTo c.args.last) (sym c.self.view_is) c.requires).in_time in omega arith) in
    let state = c.index_mut-state.result.now in
    let box = c.index_mut-mail.result.now in
    let past : c.at-past.result ≡ place.moment + 1 = search rules in
    let rows = rows_of s place.core place.moment in
    let made : (made_by c.deref.result.now state c.at-past.result box.mails).rows ≡ rows =
    ap (λ system. (made_by system state c.at-past.result box.mails).rows) c.deref.ensures
    ∙ ap (λ to. (made_by s state to box.mails).rows) past
    ∙ rows-made a c.self.invariant going place first in_time state box c.index_mut-state.ensures.value c.index_mut-mail.ensures.value in
    let Q : Steps → Type 0 = λ steps. rows_so_far steps ++ rows ≡ rows_before s place.moment (place.core + 1) in
    (rows, subst Q c.self.view_is (rows-next a c.self.invariant going place first in_time), subst (λ xs. Given g.S.Sink.takes c.args.told.now xs c.run_to.new.sink) made c.in-Ok.ensures.rows)

pub returns-clause-fewer : goal.returns-clause-fewer
returns-clause-fewer g c =
    let a = c.self.inside in
    let s = arc_value a.system in
    let going : a.failed ≡ false = (let P : Steps → Type 0 = λ steps. steps.failed ≡ false in subst P (sym c.self.view_is) c.requires.going) in
    let place = a.first in
    let first : IsFirst a.next place = c.self.invariant.first going in
    let in_time : place.moment ≤ a.horizon = (let l : place.moment ≤ c.args.last = search rules in let most : c.args.last ≤ a.horizon = (subst (IsUpTo c.args.last) (sym c.self.view_is) c.requires).in_time in omega arith) in
    λ _. few-places a c.self.invariant going place first in_time c.args.self.now c.self.view_is

pub returns-clause-on_schedule : goal.returns-clause-on_schedule
returns-clause-on_schedule g c =
    let a = c.self.inside in
    let s = arc_value a.system in
    let going : a.failed ≡ false = (let P : Steps → Type 0 = λ steps. steps.failed ≡ false in subst P (sym c.self.view_is) c.requires.going) in
    let place = a.first in
    let first : IsFirst a.next place = c.self.invariant.first going in
    let in_time : place.moment ≤ a.horizon = (let l : place.moment ≤ c.args.last = search rules in let most : c.args.last ≤ a.horizon = (subst (IsUpTo c.args.last) (sym c.self.view_is) c.requires).in_time in omega arith) in
    goes-on_schedule a c.self.invariant going place first in_time (record (steps_of a) { moment = place.moment; core = place.core + 1; clocks = set a.clocks.items place.core c.at-past.result; failed = false }) refl

pub returns-clause-ends : goal.returns-clause-ends
returns-clause-ends g c =
    let a = c.self.inside in
    let s = arc_value a.system in
    let going : a.failed ≡ false = (let P : Steps → Type 0 = λ steps. steps.failed ≡ false in subst P (sym c.self.view_is) c.requires.going) in
    let place = a.first in
    let first : IsFirst a.next place = c.self.invariant.first going in
    let in_time : place.moment ≤ a.horizon = (let l : place.moment ≤ c.args.last = search rules in let most : c.args.last ≤ a.horizon = (subst (IsUpTo c.args.last) (sym c.self.view_is) c.requires).in_time in omega arith) in
    inr (few-places a c.self.invariant going place first in_time c.args.self.now c.self.view_is)
