-- The initial states of cores are those of the global clock.
use Rattle.std.proofs.Common.{◌≡◌, ℕ, ◌+◌, ◌<◌, ◌≤◌, ◌^◌, Bool, true, false, List, [], ◌∷◌, ◌++◌, length, replicate, get_or, refl, sym, ap, ◌∙◌, subst, arith}
use Rattle.std.specs.Prelude.{nat_lt, slice_index}
use Rattle.std.specs.Arc.{arc_value}
use Rattle.std.proofs.lemmas.Bool.Decides.{nat_tests}
use Rattle.std.proofs.lemmas.List.{get_or_append_left, get_or_push, length_push, length-replicate}
use Rattle.mcs_mail.specs.Box.{Content}
use Rattle.mcs_system.specs.System.{System, delay_between}
use Rattle.mcs_system.specs.WellFormed.{IsWellFormed}
use Rattle.mcs_core.specs.State.{State, Fits, opening_state}
use Rattle.mcs_window.specs.stored.Cores.{IsKept}
use Rattle.mcs_window.specs.stored.Opening.{AreOpening, AreEmptyBoxes, AreEmptyRows, AreDelays}
use Rattle.mcs_stretch.specs.Stretch.{rows_between}
use Rattle.mcs_window.specs.declared.cores.Cores.TheInside.{Inside}
use Rattle.mcs_stretch.proofs.Ranges.{rows-none}
use Rattle.mcs_stretch.proofs.Openings.{zero_at, opening_stands, inbox-opening}

pub empty_boxes-more : (many : ℕ) (boxes more : List Content) (box : Content) → AreEmptyBoxes many boxes → box.mails ≡ [] → more ≡ boxes ++ box ∷ [] → AreEmptyBoxes (many + 1) more
empty_boxes-more many boxes more box h empty e =
    record { many_are = ap length e ∙ length_push boxes box ∙ ap (λ n. n + 1) h.many_are; each = λ c x l. ap (λ xs. (get_or xs c x).mails) e ∙ by c x l (nat_lt c many) refl }
  where
    by : (c : ℕ) (x : Content) → c < many + 1 → (u : Bool) → nat_lt c many ≡ u → (get_or (boxes ++ box ∷ []) c x).mails ≡ []
    by c x l true f =
        let below : c < many = grind (arith, nat_tests) in
        ap (λ (y : Content). y.mails) (get_or_append_left boxes (box ∷ []) x c (let many_are = h.many_are in omega arith)) ∙ h.each c x below
    by c x l false f =
        let last : length boxes ≡ c = (let many_are = h.many_are in grind (arith, nat_tests)) in
        ap (λ (y : Content). y.mails) (get_or_push boxes box x c last) ∙ empty

pub delays-more : (system : System) (many : ℕ) (rows more : List (List ℕ)) (row : List ℕ) → AreDelays system many rows → ((maker : ℕ) → maker < 64 → slice_index row maker ≡ delay_between system maker many) →
    more ≡ rows ++ row ∷ [] → AreDelays system (many + 1) more
delays-more system many rows more row h is e =
    record {
      many_are = ap length e ∙ length_push rows row ∙ ap (λ n. n + 1) h.many_are;
      each = λ home maker x l m. ap (λ (xs : List (List ℕ)). slice_index (get_or xs home x) maker) e ∙ by home maker x l m (nat_lt home many) refl;
    }
  where
    by : (home maker : ℕ) (x : List ℕ) → home < many + 1 → maker < 64 → (u : Bool) → nat_lt home many ≡ u → slice_index (get_or (rows ++ row ∷ []) home x) maker ≡ delay_between system maker home
    by home maker x l m true f =
        let below : home < many = grind (arith, nat_tests) in
        ap (λ (y : List ℕ). slice_index y maker) (get_or_append_left rows (row ∷ []) x home (let many_are = h.many_are in omega arith)) ∙ h.each home maker x below m
    by home maker x l m false f =
        let same : home ≡ many = grind (arith, nat_tests) in
        ap (λ (y : List ℕ). slice_index y maker) (get_or_push rows row x home (let many_are = h.many_are in omega arith)) ∙ is maker m ∙ ap (delay_between system maker) (sym same)

pub opening-more : (system : System) (many : ℕ) (states more : List State) (state : State) → AreOpening system many states → state ≡ opening_state system many → Fits system state → more ≡ states ++ state ∷ [] →
    AreOpening system (many + 1) more
opening-more system many states more state h is fits e =
    record {
      many_are = ap length e ∙ length_push states state ∙ ap (λ n. n + 1) h.many_are;
      each = λ c x l. ap (λ xs. get_or xs c x) e ∙ by c x l (nat_lt c many) refl;
      fit = λ c x l. subst (λ xs. Fits system (get_or xs c x)) (sym e) (fit_by c x l (nat_lt c many) refl);
    }
  where
    below : (c : ℕ) (x : State) → c < many → get_or (states ++ state ∷ []) c x ≡ get_or states c x
    below c x l = get_or_append_left states (state ∷ []) x c (let many_are = h.many_are in omega arith)

    last : (c : ℕ) (x : State) → c ≡ many → get_or (states ++ state ∷ []) c x ≡ state
    last c x f = get_or_push states state x c (let many_are = h.many_are in omega arith)

    by : (c : ℕ) (x : State) → c < many + 1 → (u : Bool) → nat_lt c many ≡ u → get_or (states ++ state ∷ []) c x ≡ opening_state system c
    by c x l true f =
        let k : c < many = grind (arith, nat_tests) in
        below c x k ∙ h.each c x k
    by c x l false f =
        let k : c ≡ many = grind (arith, nat_tests) in
        last c x k ∙ is ∙ ap (opening_state system) (sym k)

    fit_by : (c : ℕ) (x : State) → c < many + 1 → (u : Bool) → nat_lt c many ≡ u → Fits system (get_or (states ++ state ∷ []) c x)
    fit_by c x l true f =
        let k : c < many = grind (arith, nat_tests) in
        subst (Fits system) (sym (below c x k)) (h.fit c x k)
    fit_by c x l false f =
        let k : c ≡ many = grind (arith, nat_tests) in
        subst (Fits system) (sym (last c x k)) fits

pub opened_kept : (a : Inside) → a.horizon ≤ 2 ^ 40 → IsWellFormed (arc_value a.system) → a.clocks.items ≡ replicate (arc_value a.system).cores 0 → a.taken.items ≡ replicate (arc_value a.system).cores 0 →
    AreOpening (arc_value a.system) (arc_value a.system).cores a.states.items → AreEmptyBoxes (arc_value a.system).cores a.boxes.items → AreEmptyRows (arc_value a.system).cores a.rows.items →
    AreDelays (arc_value a.system) (arc_value a.system).cores a.delays.items → a.signals.items ≡ [] → IsKept a
opened_kept a in_time well clocks_are taken_are states boxes rows delays no_signals =
    record {
      horizon = in_time;
      well_formed = well;
      states_of = states.many_are;
      boxes_of = boxes.many_are;
      delays_are = delays;
      kept = record {
        clocks_of = ap length clocks_are ∙ length-replicate (arc_value a.system).cores 0;
        taken_of = ap length taken_are ∙ length-replicate (arc_value a.system).cores 0;
        since = record {
          in_time = λ c l. let e = clock c l in omega arith;
          in_order = λ c l. let e = clock c l in let f = taken c l in omega arith;
          told_are = record { many_are = rows.many_are; each = λ c x l. rows.each c x l ∙ sym (rows-none (arc_value a.system) c 0) ∙ both c (sym (taken c l)) (sym (clock c l)) };
        };
      };
      whole = λ _. record {
        here = λ c x y l. record {
          reached = λ b m x _ _ _ _. let e = clock c l in omega arith;
          state_is = rw (clock c l) (opening_stands (arc_value a.system) c _ l (states.each c x l) (states.fit c x l));
          box_is = boxes.each c y l ∙ sym (inbox-opening (arc_value a.system) c (slice_index a.clocks.items c) a.clocks.items clock);
        };
        no_signals = no_signals;
      };
    }
  where
    clock : (c : ℕ) → c < (arc_value a.system).cores → slice_index a.clocks.items c ≡ 0
    clock c l = ap (λ xs. slice_index xs c) clocks_are ∙ zero_at (arc_value a.system).cores c

    taken : (c : ℕ) → c < (arc_value a.system).cores → slice_index a.taken.items c ≡ 0
    taken c l = ap (λ xs. slice_index xs c) taken_are ∙ zero_at (arc_value a.system).cores c

    both : (c : ℕ) {p q : ℕ} → 0 ≡ p → 0 ≡ q → rows_between (arc_value a.system) c 0 0 ≡ rows_between (arc_value a.system) c p q
    both c e f = rw (← e, ← f) refl
