-- A run up to a moment as one that no size ends.
use Rattle.std.proofs.Common.{◌≡◌, ◌⊎◌, inl, inr, ℕ, ◌-◌, ◌<◌, ◌≤◌, Bool, false, subst, List, [], ◌∷◌, sym, ap, ◌∙◌, arith}
use Rattle.std.specs.Prelude.{max, Result, Ok, Err, OnOk}
use Rattle.mcs_ticks.specs.declared.row.Row.{Row}
use Rattle.mcs_ticks.specs.Given.{Given}
use Rattle.mcs_control.specs.declared.config.Order.{Order}
use Rattle.mcs_mail.specs.declared.mail.Mail.{Mail}
use Rattle.mcs_system.specs.System.{System}
use Rattle.mcs_core.specs.Orders.{orders_of, to_come}
use Rattle.mcs_core.specs.Run.{Ran, ran}
use Rattle.mcs_core.specs.State.{State, Fits, made_by, state_after}
use Rattle.mcs_core.specs.declared.unmeasured.Unmeasured.{Unmeasured}
use Rattle.mcs_core.proofs.Runs.{to_come-twice}

module _ {S : Type 0} (takes : S → Row → Bool → S → Type 0) where
  -- each row goes to the wrapped sink
  abbrev Passes : Unmeasured S → Row → Bool → Unmeasured S → Type 0
  Passes before row taken after = (after.sink.ghost_name ≡ before.sink.ghost_name) × takes before.sink.now row taken after.sink.now

  -- which was given what it was given
  pub passed : (s t : Unmeasured S) (rows : List Row) → Given Passes s rows t →
      (t.sink.ghost_name ≡ s.sink.ghost_name) × Given takes s.sink.now rows t.sink.now
  passed s t [] g = (ap (λ (w : Unmeasured S). w.sink.ghost_name) (sym g), ap (λ (w : Unmeasured S). w.sink.now) g)
  passed s t (row ∷ rows) g =
      let rest = passed g.0 t rows g.2 in (rest.0 ∙ g.1.0, (g.0.sink.now, g.1.1, rest.1))

-- turns up to a moment, or to the clock if that has passed it
module _ (system : System) (state : State) (to : ℕ) (box : List Mail) where
  pub made-past : made_by system state (max state.clock to) box ≡ made_by system state to box
  made-past = let many : max state.clock to - state.clock ≡ to - state.clock = omega arith in
      ap (λ n. ran system state.number n state.clock state.core box) many

  pub state-past : (made : Ran) → Fits system state → state.failed ≡ false →
      state_after state (max state.clock to) made ≡ state_after state to made
  state-past made fits going =
      let all = orders_of system state.number in
      let past : max state.clock (max state.clock to) ≡ max state.clock to = omega arith in
      let held = fits.orders going in
      let orders : to_come (max state.clock to) state.orders ≡ to_come to state.orders =
      ap (to_come (max state.clock to)) held ∙ to_come-twice (max state.clock to) state.clock all
      ∙ ap (λ t. to_come t all) past ∙ sym (to_come-twice to state.clock all) ∙ ap (to_come to) (sym held) in
      ap (λ (t : ℕ). record { number = state.number; clock = t; core = made.core; orders = to_come (max state.clock to) state.orders; alarms = state.alarms; delays = state.delays; failed = state.failed }) past
      ∙ ap (λ (os : List Order). record { number = state.number; clock = max state.clock to; core = made.core; orders = os; alarms = state.alarms; delays = state.delays; failed = state.failed }) orders

  -- a state that has come that far is the one that was asked for
  pub state-reached : (new : State) → Fits system state → state.failed ≡ false → new.clock ≡ max state.clock to →
      new ≡ state_after state new.clock (made_by system state new.clock box) → new ≡ state_after state to (made_by system state to box)
  state-reached new fits going there is =
      is ∙ ap (λ t. state_after state t (made_by system state t box)) there
      ∙ ap (state_after state (max state.clock to)) made-past ∙ state-past (made_by system state to box) fits going

  -- and so is what was made
  pub made-reached : (t : ℕ) → t ≡ max state.clock to → made_by system state t box ≡ made_by system state to box
  made-reached t there = ap (λ u. made_by system state u box) there ∙ made-past

  -- how far a run has come that no size ends
  abbrev Reaches : ℕ → Type 0
  Reaches t = (t ≤ max state.clock to) × (state.clock < to → state.clock < t) × ((t ≡ max state.clock to) ⊎ (1 ≤ 0))

  there : (t : ℕ) → Reaches t → t ≡ max state.clock to
  there t h = elim h.2 [ inl e ↦ e | inr l ↦ absurd (let f : 1 ≤ 0 = l in omega (arith, f)) ]

  -- so it is the whole run
  pub whole-state : {E : Type 0} (r : Result (Unit {0}) E) (new : State) → Fits system state → OnOk r (Reaches new.clock) →
      OnOk r (state.failed ≡ false) → OnOk r (new ≡ state_after state new.clock (made_by system state new.clock box)) →
      OnOk r (new ≡ state_after state to (made_by system state to box))
  whole-state (Ok x) new fits far going is = state-reached new fits going (there new.clock far) is
  whole-state (Err x) new fits far going is = tt

  pub whole-made : {A E : Type 0} (r : Result (Unit {0}) E) (part : Ran → A) (t : ℕ) (x : A) → OnOk r (Reaches t) →
      OnOk r (x ≡ part (made_by system state t box)) → OnOk r (x ≡ part (made_by system state to box))
  whole-made (Ok y) part t x far is = is ∙ ap part (made-reached t (there t far))
  whole-made (Err y) part t x far is = tt

  pub whole-rows : {S E : Type 0} (takes : S → Row → Bool → S → Type 0) (r : Result (Unit {0}) E) (first last : Unmeasured S) (t : ℕ) (old new : S) →
      first.sink.now ≡ old → OnOk r (Reaches t) → OnOk r (Given (Passes takes) first (made_by system state t box).rows last) →
      (last.sink.ghost_name ≡ first.sink.ghost_name → new ≡ last.sink.now) →
      OnOk r (Given takes old (made_by system state to box).rows new)
  whole-rows takes (Ok x) first last t old new was far given is =
      let ended = passed takes first last (made_by system state t box).rows given in
      subst (λ w. Given takes old (made_by system state to box).rows w) (sym (is ended.0))
      (subst (λ (made : Ran). Given takes old made.rows last.sink.now) (made-reached t (there t far))
      (subst (λ w. Given takes w (made_by system state t box).rows last.sink.now) was ended.1))
  whole-rows takes (Err x) first last t old new was far given is = tt
