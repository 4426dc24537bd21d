-- Turns in an order that is safe by the signals are the turns of the clock.
use Rattle.std.proofs.Common.{◌≡◌, ◌≢◌, ℕ, zero, suc, ◌+◌, ◌-◌, ◌<◌, ◌≤◌, Bool, true, false, List, [], ◌∷◌, ◌++◌, length, map, set, replicate, inl, inr, refl, sym, ap, ◌∙◌, subst, arith}
use Rattle.std.specs.Prelude.{filter, slice_index, ◌==◌, if◌then◌else◌}
use Rattle.std.specs.List.{range_with_len}
use Rattle.std.proofs.lemmas.Bool.Decides.{eqb_tells, nat_tests}
use Rattle.std.proofs.lemmas.List.{length-set, length-replicate}
use Rattle.mcs_mail.specs.declared.mail.Mail.{Mail}
use Rattle.mcs_mail.specs.Box.{put_all}
use Rattle.mcs_merge.specs.Merge.{merged}
use Rattle.mcs_system.specs.System.{System, delay_between}
use Rattle.mcs_system.specs.WellFormed.{IsWellFormed}
use Rattle.mcs_core.specs.Clock as clocks
use Rattle.mcs_core.specs.Run.{ran}
use Rattle.mcs_core.proofs.Clock.{core_shown-first}
use Rattle.mcs_laws.specs.Links.{Signals}
use Rattle.mcs_laws.proofs.Links.{signals-said}
use Rattle.mcs_stretch.specs.ByScripts.{IsFarByScripts, clocks_after}
use Rattle.mcs_stretch.specs.Inbox.{inbox, is_home}
use Rattle.mcs_stretch.specs.Stretch.{NothingArrivesBefore, rows_between, After}
use Rattle.mcs_stretch.specs.laws.BySignals as by_signals
use Rattle.mcs_stretch.specs.laws.BySignals.{IsSafeBySignals}
use Rattle.mcs_stretch.specs.laws.Orders as orders
use Rattle.mcs_stretch.specs.laws.Orders.{Apart, with_at, opening_apart, turn_now, with_turn_of, after_turns, IsAsTheClock}
use Rattle.mcs_stretch.proofs.Later.{takes_time, later_same, later_other, rises, signals_own}
use Rattle.mcs_stretch.proofs.Deliveries.{inbox-delivered, signals_from}
use Rattle.mcs_stretch.proofs.Inboxes.{of_turn}
use Rattle.mcs_stretch.proofs.Merging as merging
use Rattle.mcs_stretch.proofs.Openings.{zero_at, inbox-opening}
use Rattle.mcs_stretch.proofs.Ranges.{rows-join}
use Rattle.mcs_stretch.proofs.Stretches.{stretches}

at-own : {A : Type 0} (c : ℕ) (x : A) (f : ℕ → A) (b : ℕ) → b ≡ c → with_at c x f b ≡ x
at-own {A} c x f b e = by (b == c) refl
  where
    by : (u : Bool) → (b == c) ≡ u → (if u then x else f b) ≡ x
    by true g = refl
    by false g = absurd (let h : b ≢ c = grind (arith, nat_tests) in h e)

at-other : {A : Type 0} (c : ℕ) (x : A) (f : ℕ → A) (b : ℕ) → b ≢ c → with_at c x f b ≡ f b
at-other {A} c x f b other = by (b == c) refl
  where
    by : (u : Bool) → (b == c) ≡ u → (if u then x else f b) ≡ f b
    by true g = absurd (let h : b ≡ c = grind (arith, nat_tests) in other h)
    by false g = refl

same-map : {A : Type 0} (f g : ℕ → A) (n a : ℕ) → ((b : ℕ) → b < a + n → f b ≡ g b) → map f (range_with_len a n) ≡ map g (range_with_len a n)
same-map f g zero a h = refl
same-map f g (suc n) a h = rw (h a (omega arith), same-map f g n (a + 1) (λ b l. h b (omega arith))) refl

module _ (system : System) (well : IsWellFormed system) where
  -- so far no signal arrives that is still to be made
  pub scripts-reached : (c past : ℕ) (front : List ℕ) → IsFarByScripts system front c past → NothingArrivesBefore system c past front
  scripts-reached c past front far b m mail known l i home =
      let made = of_turn system b m mail i in
      let other : b ≢ c = λ e. made.away (home ∙ sym e) in
      let signals = subst (Signals system b) home (signals-said system well b m mail known i) in
      let reach = far b known other signals in
      let arrives : mail.arrives ≡ m + delay_between system b c = made.arrives ∙ ap (λ h. m + delay_between system b h) home in
      omega arith

  record Holds (apart : Apart) : Type 0 where
    many : length apart.clocks ≡ system.cores
    reached : (c : ℕ) → c < system.cores → NothingArrivesBefore system c (slice_index apart.clocks c) apart.clocks
    like : (c : ℕ) → c < system.cores → IsAsTheClock system apart c

  holds-opening : Holds (opening_apart system)
  holds-opening =
      record {
        many = length-replicate {A = ℕ} system.cores 0;
        reached = λ c l b m mail known k i home. (let z = zero_at system.cores c in omega arith);
        like = λ c l.
            let z = zero_at system.cores c in
            record {
              state_is = sym (core_shown-first system c l) ∙ ap (λ t. clocks.core_shown system (clocks.world system t) c) (sym z);
              box_is = sym (inbox-opening system c (slice_index (replicate system.cores 0) c) (replicate system.cores 0) (λ b k. zero_at system.cores b));
              rows_are = ap (λ t. rows_between system c 0 t) (sym z);
            };
      }

  module _ (apart : Apart) (holds : Holds apart) (c : ℕ) (known : c < system.cores) (reached-next : NothingArrivesBefore system c (suc (slice_index apart.clocks c)) apart.clocks) where
    abbrev t : ℕ
    t = slice_index apart.clocks c

    abbrev later : List ℕ
    later = set apart.clocks c (suc t)

    in_clocks : c < length apart.clocks
    in_clocks = let m = holds.many in omega arith

    up : t ≤ suc t
    up = omega arith

    made-is : After system c t (suc t) apart.clocks (turn_now system apart c).core (turn_now system apart c).rows (turn_now system apart c).mails (turn_now system apart c).box
    made-is =
        subst (λ n. After system c t (suc t) apart.clocks (ran system c n t (apart.states c) (apart.boxes c)).core (ran system c n t (apart.states c) (apart.boxes c)).rows
        (ran system c n t (apart.states c) (apart.boxes c)).mails (ran system c n t (apart.states c) (apart.boxes c)).box) (let e : suc t - t ≡ 1 = omega arith in e)
        (stretches system (takes_time system well) c t (suc t) apart.clocks (apart.states c) (apart.boxes c) known up reached-next
        (record { state_is = (holds.like c known).state_is; mail_is = (holds.like c known).box_is }))

    mails-are : (turn_now system apart c).mails ≡ signals_from system apart.clocks later
    mails-are = made-is.out_is ∙ signals_own system apart.clocks c (suc t) in_clocks known

    same : slice_index later c ≡ suc t
    same = later_same system apart.clocks c (suc t) in_clocks

    other : (b : ℕ) → b ≢ c → slice_index later b ≡ slice_index apart.clocks b
    other b ne = later_other system apart.clocks c (suc t) in_clocks b ne

    rise : (b : ℕ) → b < system.cores → slice_index apart.clocks b ≤ slice_index later b
    rise = rises system apart.clocks c (suc t) in_clocks up

    delivered : (b past : ℕ) (box : List Mail) → box ≡ inbox system b past apart.clocks → NothingArrivesBefore system b past apart.clocks →
        put_all (filter (is_home system b) (turn_now system apart c).mails) box ≡ inbox system b past later
    delivered b past box is reached =
        ap (λ ms. put_all (filter (is_home system b) ms) box) mails-are ∙ ap (λ xs. put_all (filter (is_home system b) (signals_from system apart.clocks later)) xs) is
        ∙ inbox-delivered system (takes_time system well) b past apart.clocks later rise reached

    abbrev next : Apart
    next = with_turn_of system apart c (turn_now system apart c)

    as-own : IsAsTheClock system next c
    as-own =
        record {
          state_is = at-own c (turn_now system apart c).core apart.states c refl ∙ made-is.state_is ∙ ap (λ m. clocks.core_shown system (clocks.world system m) c) (sym same);
          box_is = delivered c (suc t) (with_at c (turn_now system apart c).box apart.boxes c) (at-own c (turn_now system apart c).box apart.boxes c refl ∙ made-is.mail_is) reached-next
              ∙ ap (λ m. inbox system c m later) (sym same);
          rows_are = at-own c (apart.rows c ++ (turn_now system apart c).rows) apart.rows c refl
              ∙ ap (λ xs. xs ++ (turn_now system apart c).rows) (holds.like c known).rows_are ∙ ap (λ xs. rows_between system c 0 t ++ xs) made-is.rows_are
              ∙ rows-join system c 0 t (suc t) (omega arith) up ∙ ap (λ m. rows_between system c 0 m) (sym same);
        }

    as-other : (b : ℕ) → b < system.cores → b ≢ c → IsAsTheClock system next b
    as-other b l ne =
        let old = holds.like b l in
        let e = sym (other b ne) in
        record {
          state_is = at-other c (turn_now system apart c).core apart.states b ne ∙ old.state_is ∙ ap (λ m. clocks.core_shown system (clocks.world system m) b) e;
          box_is = delivered b (slice_index apart.clocks b) (with_at c (turn_now system apart c).box apart.boxes b) (at-other c (turn_now system apart c).box apart.boxes b ne ∙ old.box_is) (holds.reached b l)
              ∙ ap (λ m. inbox system b m later) e;
          rows_are = at-other c (apart.rows c ++ (turn_now system apart c).rows) apart.rows b ne ∙ old.rows_are ∙ ap (λ m. rows_between system b 0 m) e;
        }

    holds-next : Holds next
    holds-next =
        record {
          many = length-set apart.clocks c (suc t) ∙ holds.many;
          reached = λ b l. elim (eqb_tells b c) [
            | inl e ↦ (λ d m mail k g i home.
                let up_d = rise d k in
                let far_c = reached-next d m mail k (omega arith) i (home ∙ e.1) in
                let here : slice_index later b ≡ suc t = ap (slice_index later) e.1 ∙ same in
                omega arith)
            | inr e ↦ (λ d m mail k g i home.
                let up_d = rise d k in
                let far_b = holds.reached b l d m mail k (omega arith) i home in
                let here = other b e.1 in
                omega arith)
          ];
          like = λ b l. elim (eqb_tells b c) [
            | inl e ↦ subst (IsAsTheClock system next) (sym e.1) as-own
            | inr e ↦ as-other b l e.1
          ];
        }

  holds-turns : (horizon : ℕ) (turns : List ℕ) (apart : Apart) → Holds apart → IsSafeBySignals system horizon apart.clocks turns →
      Holds (after_turns system apart turns) × ((after_turns system apart turns).clocks ≡ clocks_after apart.clocks turns)
  holds-turns horizon [] apart holds safe = (holds, refl)
  holds-turns horizon (c ∷ turns) apart holds safe =
      holds-turns horizon turns (with_turn_of system apart c (turn_now system apart c)) (holds-next apart holds c safe.0.known safe.0.safe) safe.1

  pub signal-orders-give : by_signals.SignalOrdersGiveTheSchedule system
  signal-orders-give horizon turns safe =
      let all = holds-turns horizon turns (opening_apart system) holds-opening safe in
      let apart = after_turns system (opening_apart system) turns in (
        all.1,
        all.0.like,
        λ ended. ap merged (same-map apart.rows (λ c. rows_between system c 0 (suc horizon)) system.cores 0 (λ b l.
            (all.0.like b (omega arith)).rows_are ∙ ap (λ m. rows_between system b 0 m) (ended b (omega arith))))
            ∙ merging.rows_merge system (takes_time system well) horizon,
      )

  -- safe by the scripts is safe by the signals
  pub scripts-signals : by_signals.ScriptOrdersAreBySignals system
  scripts-signals horizon clocks [] safe = tt
  scripts-signals horizon clocks (c ∷ cs) safe = (
    record {
      known = safe.0.known;
      in_time = safe.0.in_time;
      safe = scripts-reached c (suc (slice_index clocks c)) clocks (λ b l other r. let s = safe.0.safe b l other r in omega arith);
    },
    scripts-signals horizon (set clocks c (suc (slice_index clocks c))) cs safe.1,
  )

  pub orders-give : orders.OrdersGiveTheSchedule system
  orders-give horizon turns safe = signal-orders-give horizon turns (scripts-signals horizon (replicate system.cores 0) turns safe)
