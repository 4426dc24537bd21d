use Rattle.std.proofs.Common.{rules, ◌≡◌, ◌∙◌, ℕ, ap, sym, subst, List}
use Rattle.std.specs.Prelude.{Option}
use Rattle.mcs_ticks.specs.Queue.{by_priority}
use Rattle.mcs_mail.specs.declared.mail.Mail.{Mail}
use Rattle.mcs_core.specs.Core.{Core}
use Rattle.mcs_core.specs.Alarms.{first_date}
use Rattle.mcs_system.specs.System.{System}
use Rattle.mcs_ticks.specs.Soonest.{sooner}
use Rattle.mcs_core.specs.Quiet.{IsNextBusyWith}
use Rattle.mcs_core.specs.State.{State}
use Rattle.mcs_core.specs.stored.Ends.{IsEnd}
use Rattle.mcs_core.proofs.Skips.{IsEarlyTick, next-busy-of}
use Rattle.mcs_core.proofs.state.CoreState.soonest.Goals as goal

pub returns : goal.returns
returns c =
    let system : System = c.args.system.now in
    let mails : List Mail = c.args.mail.now.mails in
    let number : ℕ = c.self.inside.number in
    let clock : ℕ = c.self.inside.clock in
    let core : Core = c.self.inside.local in
    let P : State → Type 0 = λ s. IsNextBusyWith by_priority system s.number s.clock mails s.core c.or-4.result in
    let fits = rw (← c.self.view_is) at c.requires.fits in
    let going = rw (← c.self.view_is) at c.requires.going in
    let expected = rw (← c.self.view_is) at c.requires.expected in
    let E : State → Type 0 = λ s. IsEnd system s.clock s.core c.args.ends in
    let ends : IsEnd system clock core c.args.ends = subst E (sym c.self.view_is) c.requires.ends in
    let early_date : IsEarlyTick c.next_date-date.result = search rules in
    let early_order : IsEarlyTick c.next-order.result = search rules in
    let early_alarm : IsEarlyTick c.next-alarm.result = search rules in
    let early_arrival : IsEarlyTick c.soonest-arrival.result = search rules in
    let result : sooner (sooner (sooner (sooner c.args.ends c.next_date-date.result) c.next-order.result) c.next-alarm.result) c.soonest-arrival.result ≡ c.or-4.result =
    sym (c.or-4.ensures ∙ ap (λ o. sooner o c.soonest-arrival.result) (c.or-3.ensures ∙ ap (λ o. sooner o c.next-alarm.result) (c.or-2.ensures ∙ ap (λ o. sooner o c.next-order.result) c.or.ensures))) in
    let N : Option ℕ → Type 0 = λ o. IsNextBusyWith by_priority system number clock mails core o in
    subst P c.self.view_is (subst N result
    (next-busy-of system number c.parts-parts.ensures.well_formed clock mails core c.self.inside.agenda c.self.inside.beats.items
    c.args.ends c.next_date-date.result c.next-order.result c.next-alarm.result c.soonest-arrival.result
    (fits.sound going) (fits.orders going) c.soonest-arrival.ensures.in_order (λ k d l. (expected k d l).arrives)
    ends c.next_date-date.ensures early_date c.next-order.ensures early_order
    (fits.alarms going) (c.next-alarm.ensures ∙ ap first_date (c.self.invariant going)) early_alarm
    c.soonest-arrival.ensures.first early_arrival))
