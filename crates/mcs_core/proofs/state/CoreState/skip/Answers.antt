use Rattle.std.proofs.Common.{◌≡◌, ℕ, ◌+◌, ◌-◌, [], ap, sym, subst, ◌∙◌, arith}
use Rattle.mcs_core.specs.Alarms.{before_moment, alarms_of}
use Rattle.mcs_core.specs.Core.{Core}
use Rattle.mcs_system.specs.System.{System}
use Rattle.mcs_core.specs.Quiet.{counted_times}
use Rattle.mcs_core.specs.State.{State}
use Rattle.mcs_core.proofs.QuietAlike.{quiet-of-one-list, counted-of-one-list}
use Rattle.mcs_core.proofs.Skips.{counts-fit, counts-many, quiet-alarms, skipped-fits}
use Rattle.mcs_core.proofs.state.CoreState.skip.Goals as goal

pub count_many-requires-clause-fits : goal.count_many-requires-clause-fits
count_many-requires-clause-fits c =
    let fits = rw (← c.self.view_is) at c.requires.fits in
    let going = rw (← c.self.view_is) at c.requires.going in
    counts-fit c.args.system.now c.self.inside.number c.parts-parts.ensures.well_formed (c.get.result - c.get-2.result) c.self.inside.clock c.self.inside.local (fits.sound going) (omega arith)

pub returns-clause-state : goal.returns-clause-state
returns-clause-state c =
    let system : System = c.args.system.now in
    let P : State → Type 0 = λ s.
    record { number = c.self.inside.number; clock = c.args.to; core = c.count_many.new.self; orders = c.self.inside.agenda; alarms = c.self.inside.beats.items; delays = c.self.inside.delays; failed = c.self.inside.failed }
    ≡ record s { clock = c.args.to; core = counted_times system s.number (c.args.to - s.clock) s.core } in
    let fits = rw (← c.self.view_is) at c.requires.fits in
    let going = rw (← c.self.view_is) at c.requires.going in
    let core = counts-many system c.self.inside.number c.parts-parts.ensures.well_formed (c.args.to - c.self.inside.clock) c.self.inside.clock (c.get.result - c.get-2.result)
    c.self.inside.local c.count_many.new.self (fits.sound going) (omega arith) c.count_many.ensures in
    subst P c.self.view_is
    (ap (λ (k : Core). let made : State = record { number = c.self.inside.number; clock = c.args.to; core = k; orders = c.self.inside.agenda; alarms = c.self.inside.beats.items; delays = c.self.inside.delays; failed = c.self.inside.failed } in made) core)

pub returns-clause-fits : goal.returns-clause-fits
returns-clause-fits c =
    let system : System = c.args.system.now in
    let fits = rw (← c.self.view_is) at c.requires.fits in
    let going = rw (← c.self.view_is) at c.requires.going in
    let later = rw (← c.self.view_is) at c.requires.later in
    let quiet = rw (← c.self.view_is) at c.requires.quiet in
    let core = counts-many system c.self.inside.number c.parts-parts.ensures.well_formed (c.args.to - c.self.inside.clock) c.self.inside.clock (c.get.result - c.get-2.result)
    c.self.inside.local c.count_many.new.self (fits.sound going) (omega arith) c.count_many.ensures in
    skipped-fits system c.parts-parts.ensures.well_formed
    (record { number = c.self.inside.number; clock = c.self.inside.clock; core = c.self.inside.local; orders = c.self.inside.agenda; alarms = c.self.inside.beats.items; delays = c.self.inside.delays; failed = c.self.inside.failed })
    c.args.to c.count_many.new.self fits going later c.requires.in_time quiet core

pub returns-clause-one_list : goal.returns-clause-one_list
returns-clause-one_list c core e =
    let state : State = c.args.self.now in
    let many : ℕ = c.args.to - state.clock in (
      quiet-of-one-list c.args.system.now state core e [] many c.requires.quiet,
      ap (λ (s : State). s.core) (returns-clause-state c) ∙ counted-of-one-list c.args.system.now state core e many,
    )

pub invariant_of-self : goal.invariant_of-self
invariant_of-self c going =
    let system : System = c.args.system.now in
    let number : ℕ = c.self.inside.number in
    let clock : ℕ = c.self.inside.clock in
    let fits = rw (← c.self.view_is) at c.requires.fits in
    let later = rw (← c.self.view_is) at c.requires.later in
    let quiet = rw (← c.self.view_is) at c.requires.quiet in
    let there : clock + (c.args.to - clock) ≡ c.args.to = omega arith in
    c.self.invariant going ∙ ap (before_moment clock) (fits.alarms going)
    ∙ sym (quiet-alarms system number c.parts-parts.ensures.well_formed (c.args.to - clock) clock c.self.inside.local quiet)
    ∙ ap (λ t. before_moment t (alarms_of system number)) there ∙ ap (before_moment c.args.to) (sym (fits.alarms going))
