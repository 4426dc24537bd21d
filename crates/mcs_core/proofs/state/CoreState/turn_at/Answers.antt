use Rattle.std.proofs.Common.{ℕ, ◌≡◌, ◌+◌, ◌-◌, ◌≤◌, [], false, add-one, sym, ap, ◌∙◌, subst, arith, rules}
use Rattle.std.specs.Prelude.{None}
use Rattle.mcs_mail.specs.Box.{arriving}
use Rattle.mcs_ticks.proofs.Givens.{given-same}
use Rattle.mcs_ticks.specs.Queue.{by_priority}
use Rattle.mcs_system.specs.System.{System}
use Rattle.mcs_core.specs.Alarms.{past, before_moment}
use Rattle.mcs_core.specs.Quiet.{AreQuietWith, counted_times}
use Rattle.mcs_core.specs.Turn.{stamped, turn}
use Rattle.mcs_core.specs.stored.Sound.{IsSound}
use Rattle.mcs_core.specs.stored.Sound.Phase.{Between}
use Rattle.mcs_core.specs.State.{State, Fits, made_by, state_after, skipped}
use Rattle.mcs_core.specs.stored.Parts.{CanTurn}
use Rattle.mcs_core.proofs.Turned.{present, can-turn, turned-state, turned-fits, turned-rows, turned-sent}
use Rattle.mcs_core.proofs.state.CoreState.turn_at.Goals as goal

pub turn-turned-requires-clause-can : goal.turn-turned-requires-clause-can
turn-turned-requires-clause-can g c =
    let state : State = record { number = c.self.inside.number; clock = c.self.inside.clock; core = c.self.inside.local; orders = c.self.inside.agenda; alarms = c.self.inside.beats.items; delays = c.self.inside.delays; failed = c.self.inside.failed } in
    let system : System = c.args.system.now in
    let fits : Fits system state = rw (← c.self.view_is) at c.requires.fits in
    let going : state.failed ≡ false = rw (← c.self.view_is) at c.requires.going in
    let later : state.clock ≤ c.args.moment = rw (← c.self.view_is) at c.requires.later in
    let quiet = rw (← c.self.view_is) at c.requires.quiet in
    let expected = rw (← c.self.view_is) at c.requires.expected in
    let many : c.get.result - c.get-2.result ≡ c.args.moment - c.self.inside.clock = omega arith in
    let P : System → Type 0 = λ s. CanTurn s state.number c.args.moment state.delays (c.get.result - c.get-2.result) state.orders c.self.inside.alarms c.args.mail.now.mails state.core in
    subst P (sym c.parts.ensures.same)
    (can-turn system c.parts.ensures.well_formed state c.args.moment c.args.mail.now.mails fits going later c.requires.in_time quiet c.self.inside.alarms (present system c.parts.ensures.well_formed state c.args.moment c.args.mail.now.mails fits going later c.requires.in_time quiet c.self.inside.alarms (c.self.invariant going)) (c.get.result - c.get-2.result) many expected)

-- what was asked, of the parts that the system shows and of the state as it is kept
module _ (g : _) (c : goal.After-self-1 g) where
  abbrev kept : State
  kept = record { number = c.self.inside.number; clock = c.self.inside.clock; core = c.self.inside.local; orders = c.self.inside.agenda; alarms = c.self.inside.beats.items; delays = c.self.inside.delays; failed = c.self.inside.failed }

  abbrev left : State
  left = record { number = c.self.inside.number; clock = c.at-self-inside.result; core = c.turn-turned.new.self; orders = c.turn-turned.new.agenda; alarms = c.self.inside.beats.items; delays = c.self.inside.delays; failed = c.self.inside.failed }

  abbrev quiets : ℕ
  quiets = c.get.result - c.get-2.result

  fits : Fits c.args.system.now kept
  fits = rw (← c.self.view_is) at c.requires.fits

  going : kept.failed ≡ false
  going = rw (← c.self.view_is) at c.requires.going

  later : kept.clock ≤ c.args.moment
  later = rw (← c.self.view_is) at c.requires.later

  quiet : AreQuietWith by_priority c.args.system.now kept.number kept.clock [] kept.core (c.args.moment - kept.clock)
  quiet = rw (← c.self.view_is) at c.requires.quiet

  many : quiets ≡ c.args.moment - kept.clock
  many = omega arith

  next : c.at-self-inside.result ≡ c.args.moment + 1
  next = search rules

  made : c.turn-turned.new.self
      ≡ (turn c.args.system.now kept.number c.args.moment (arriving c.args.moment c.args.mail.now.mails) (counted_times c.args.system.now kept.number quiets kept.core)).core
  made =
      c.in-Ok.ensures.makes.core
      ∙ ap (λ (s : System). (turn s kept.number c.args.moment (arriving c.args.moment c.args.mail.now.mails) (counted_times s kept.number quiets kept.core)).core) c.parts.ensures.same

pub returns-in-Ok-clause-state : goal.returns-in-Ok-clause-state
returns-in-Ok-clause-state g c =
    let P : State → Type 0 = λ s. left g c ≡ state_after (skipped c.args.system.now c.args.moment s) (c.args.moment + 1) (made_by c.args.system.now (skipped c.args.system.now c.args.moment s) (c.args.moment + 1) c.args.mail.now.mails) in
    subst P c.self.view_is
    (turned-state c.args.system.now c.parts.ensures.well_formed (kept g c) c.args.moment c.args.mail.now.mails (fits g c) (going g c) (later g c) c.requires.in_time (quiet g c)
    c.at-self-inside.result c.turn-turned.new.self c.turn-turned.new.agenda (next g c) (quiets g c) (many g c) (made g c) c.in-Ok.ensures.agenda)

pub returns-in-Ok-clause-rows : goal.returns-in-Ok-clause-rows
returns-in-Ok-clause-rows g c =
    let rows =
    ap (λ (s : System). stamped (kept g c).number c.args.moment (turn s (kept g c).number c.args.moment (arriving c.args.moment c.args.mail.now.mails) (counted_times s (kept g c).number (quiets g c) (kept g c).core)).rows) c.parts.ensures.same
    ∙ turned-rows c.args.system.now c.parts.ensures.well_formed (kept g c) c.args.moment c.args.mail.now.mails (fits g c) (going g c) (later g c) c.requires.in_time (quiet g c) (quiets g c) (many g c)
    ∙ ap (λ (s : State). (made_by c.args.system.now (skipped c.args.system.now c.args.moment s) (c.args.moment + 1) c.args.mail.now.mails).rows) c.self.view_is in
    given-same g.S.Sink.takes _ _ _ _ _ _ c.in-Ok.ensures.makes.adds.rows (search rules) rows (search rules)

pub returns-in-Ok-clause-signals : goal.returns-in-Ok-clause-signals
returns-in-Ok-clause-signals g c =
    let mails : (turn c.parts.result.now (kept g c).number c.args.moment (arriving c.args.moment c.args.mail.now.mails) (counted_times c.parts.result.now (kept g c).number (quiets g c) (kept g c).core)).mails
    ≡ (made_by c.args.system.now (skipped c.args.system.now c.args.moment c.args.self.now) (c.args.moment + 1) c.args.mail.now.mails).mails =
    ap (λ (s : System). (turn s (kept g c).number c.args.moment (arriving c.args.moment c.args.mail.now.mails) (counted_times s (kept g c).number (quiets g c) (kept g c).core)).mails) c.parts.ensures.same
    ∙ turned-sent c.args.system.now c.parts.ensures.well_formed (kept g c) c.args.moment c.args.mail.now.mails (fits g c) (going g c) (later g c) c.requires.in_time (quiet g c) (quiets g c) (many g c)
    ∙ ap (λ (s : State). (made_by c.args.system.now (skipped c.args.system.now c.args.moment s) (c.args.moment + 1) c.args.mail.now.mails).mails) c.self.view_is in
    rw (sym mails) (search rules)

pub returns-in-Ok-clause-fits : goal.returns-in-Ok-clause-fits
returns-in-Ok-clause-fits g c =
    let P : System → Type 0 = λ s. IsSound s (kept g c).number (c.args.moment + 1) Between None c.turn-turned.new.self in
    turned-fits c.args.system.now c.parts.ensures.well_formed (kept g c) c.args.moment c.args.mail.now.mails (fits g c) (going g c) (later g c) c.requires.in_time (quiet g c)
    c.at-self-inside.result c.turn-turned.new.self c.turn-turned.new.agenda (next g c) (quiets g c) (many g c) (made g c) c.in-Ok.ensures.agenda
    (subst P c.parts.ensures.same c.in-Ok.ensures.sound)

pub invariant_of-self : goal.invariant_of-self
invariant_of-self g c f =
    let found = present c.args.system.now c.parts.ensures.well_formed (kept g c) c.args.moment c.args.mail.now.mails (fits g c) (going g c) (later g c) c.requires.in_time (quiet g c)
    c.self.inside.alarms (c.self.invariant (going g c)) in
    c.in-Ok.ensures.alarms
    ∙ ap (past c.args.moment) (found ∙ ap (before_moment c.args.moment) (sym ((fits g c).alarms (going g c))))
    ∙ ap (λ t. before_moment t c.self.inside.beats.items) (sym (next g c ∙ add-one c.args.moment))
