-- A core takes the busy turn of its place, and its signals go to their homes.
use Rattle.std.proofs.Common.{◌≡◌, ◌≢◌, ℕ, ◌+◌, ◌-◌, ◌<◌, ◌≤◌, true, ◌⊎◌, List, [], ◌++◌, length, get_or, set, max, inl, inr, sym, ap, ◌∙◌, subst, append-nil, arith}
use Rattle.std.specs.Prelude.{filter, All, ◌==◌, slice_index}
use Rattle.std.proofs.lemmas.Bool.Decides.{eqb_tells, nat_tests}
use Rattle.std.proofs.lemmas.List.{get_or-set_same, get_or-set_other, length-set}
use Rattle.mcs_mail.specs.declared.mail.Mail.{Mail}
use Rattle.mcs_mail.specs.Box.{Content, IsIn, put_all}
use Rattle.mcs_mail.proofs.Members.{from_filter, from_flat_map}
use Rattle.mcs_system.specs.System.{System, note_part}
use Rattle.mcs_system.specs.WellFormed.{IsWellFormed}
use Rattle.mcs_core.specs.Clock.{world, core_at, rows_of, turn_of}
use Rattle.mcs_core.specs.Quiet.{AreQuiet}
use Rattle.mcs_core.specs.State.{State, Fits, IsExpected, made_by, state_after}
use Rattle.mcs_stretch.specs.Inbox.{is_home, inbox, signals_between}
use Rattle.mcs_stretch.specs.Stretch.{StandsAt, IsAfter, NothingArrivesBefore, rows_between}
use Rattle.mcs_stretch.proofs.Deliveries.{signals_from}
use Rattle.mcs_stretch.proofs.Later.{signals_own, later_same, later_other}
use Rattle.mcs_stretch.proofs.Ranges.{rows-join}
use Rattle.mcs_window.specs.stored.Cores.{AreHere, IsHere}
use Rattle.mcs_window.specs.stored.Delivery.{AreDelivered}
use Rattle.mcs_window.proofs.Advances.{expected, ran_here, state_here, here_later}
use Rattle.mcs_step.specs.stored.Cores.{Cores, AreInStep, AreLowered, IsBusyAt, IsQuietTo, lowered}
use Rattle.mcs_step.proofs.Soon.{busy-lowered, lowered-le, lowered-from, quiet-lowered}
use Rattle.mcs_step.proofs.Still.{here-at, nothing-arrives, no-rows-so-far}

-- what the core has made at its turn: the state after it, and the mail that is left
pub record HasTurned (system : System) (past : ℕ) (state after : State) (box left signals : List Mail) : Type 0 where
  pub state_is : after ≡ state_after state past (made_by system state past box)
  pub fits : Fits system after
  pub signals_are : signals ≡ (made_by system state past box).mails
  pub box_is : left ≡ (made_by system state past box).box

at-home : (h c : ℕ) → (h == c) ≡ true → h ≡ c
at-home h c e = grind (arith, nat_tests)

module _ (system : System) (well : IsWellFormed system) (horizon moment core : ℕ) (cores : Cores) (kept : AreInStep system horizon moment core cores)
    (in_time : moment ≤ horizon) (known : core < system.cores) (busy : slice_index cores.next core ≡ moment) where
  abbrev front : List ℕ
  front = cores.clocks

  abbrev past : ℕ
  past = moment + 1

  soonest : (c : ℕ) → c < system.cores → moment ≤ slice_index cores.next c
  soonest c p = elim (lt-or c) [
    | inl l ↦ (let h = (kept.place.done c l).1 in omega arith)
    | inr l ↦ (kept.place.left c l p).1
  ]
    where
      lt-or : (c : ℕ) → (c < core) ⊎ (core ≤ c)
      lt-or c = grind arith

  pub reached : (c : ℕ) → NothingArrivesBefore system c past front
  reached c = nothing-arrives system well horizon moment core cores kept moment soonest c

  clock-most : slice_index front core ≤ moment
  clock-most = (kept.place.left core (omega arith) known).0

  module _ (state : State) (box : Content) (state_at : state ≡ get_or cores.states core state) (box_at : box ≡ get_or cores.boxes core box) where
    here : IsHere system core (slice_index front core) front state box.mails
    here =
        subst (λ (s : State). IsHere system core (slice_index front core) front s box.mails) (sym state_at)
        (subst (λ (b : Content). IsHere system core (slice_index front core) front (get_or cores.states core state) b.mails) (sym box_at)
        (here-at system well horizon moment core cores kept core known state box))

    pub stands : StandsAt system core (slice_index front core) state
    stands = here.state_is

    pub are-expected : All (IsExpected system state) box.mails
    are-expected = expected system well core (slice_index front core) front state box.mails here.state_is here.box_is

    after-turn : IsAfter system core (slice_index front core) past front (made_by system state past box.mails)
    after-turn = ran_here system well core (slice_index front core) past front state box.mails here.state_is here.box_is known (omega arith) (reached core)

    -- the rows are those of the turn
    pub rows-are : (made_by system state past box.mails).rows ≡ rows_of system core moment
    rows-are =
        after-turn.rows_are
        ∙ sym (rows-join system core (slice_index front core) moment past clock-most (omega arith))
        ∙ ap (λ xs. xs ++ rows_between system core moment past) none-before
        ∙ one
      where
        none-before : rows_between system core (slice_index front core) moment ≡ []
        none-before =
            let same : max (slice_index front core) moment ≡ moment = omega arith in
            ap (rows_between system core (slice_index front core)) (sym same)
            ∙ no-rows-so-far system well horizon moment core cores kept moment soonest core known

        one : rows_between system core moment past ≡ rows_of system core moment
        one = let e : past - moment ≡ 1 = omega arith in rw e (append-nil (rows_of system core moment))

    module _ (after : State) (left : Content) (signals : List Mail) (turned : HasTurned system past state after box.mails left.mails signals) where
      pub stands-after : StandsAt system core past after
      stands-after = state_here system well core (slice_index front core) past front state after (made_by system state past box.mails) here.state_is (omega arith) turned.fits turned.state_is after-turn

      left-is : left.mails ≡ inbox system core past front
      left-is = turned.box_is ∙ after-turn.mail_is

      pub left-expected : All (IsExpected system after) left.mails
      left-expected = expected system well core past front after left.mails stands-after left-is

      signals-between : signals ≡ signals_between system core (slice_index front core) past
      signals-between = turned.signals_are ∙ after-turn.out_is

      -- a signal arrives after the moment
      signals-late : (c : ℕ) (mail : Mail) → IsIn mail (filter (is_home system c) signals) → past ≤ mail.arrives
      signals-late c mail k =
          let both = from_filter (is_home system c) mail signals k in
          by (at-home (note_part system mail.note).core c both.1)
          (from_flat_map (λ m. (turn_of system core m).mails) mail (past - slice_index front core) (slice_index front core)
          (subst (λ ms. IsIn mail ms) signals-between both.0))
        where
          by : (note_part system mail.note).core ≡ c → (m : ℕ) × (slice_index front core ≤ m) × (m < slice_index front core + (past - slice_index front core)) × IsIn mail (turn_of system core m).mails → past ≤ mail.arrives
          by home (m, p, q, i) = reached c core m mail known p i home

      module _ (full : List Content) (next lowest : List ℕ) (later : ℕ) (next_is : next ≡ set cores.next core later)
          (quiet : IsQuietTo system after left.mails later) (busy_then : later ≤ horizon → IsBusyAt system after left.mails later) (ahead : past ≤ later) (early : later ≤ horizon + 1)
          (delivered : AreDelivered system signals (set cores.boxes core left) full) (lowers : AreLowered system signals next lowest) where
        there : core < length front
        there = let all = kept.clocks_of in omega arith

        abbrev clocks-after : List ℕ
        clocks-after = set front core past

        own-clock : slice_index clocks-after core ≡ past
        own-clock = later_same system front core past there

        other-clock : (c : ℕ) → c ≢ core → slice_index clocks-after c ≡ slice_index front c
        other-clock c h = later_other system front core past there c h

        signals-are : signals ≡ signals_from system front clocks-after
        signals-are = signals-between ∙ signals_own system front core past there known

        here-after : AreHere system clocks-after (set cores.states core after) full
        here-after =
            here_later system well front core past there cores.states cores.boxes full kept.here known (omega arith) (reached core) kept.states_of kept.boxes_of after left
            stands-after left-is (subst (λ ms. AreDelivered system ms (set cores.boxes core left) full) signals-are delivered)

        -- the next busy times
        own-next : slice_index next core ≡ later
        own-next = ap (λ xs. slice_index xs core) next_is ∙ get_or-set_same cores.next core later 0 (let n = kept.next_of in let f = kept.few in omega arith)

        other-next : (c : ℕ) → c ≢ core → slice_index next c ≡ slice_index cores.next c
        other-next c h = ap (λ xs. slice_index xs c) next_is ∙ get_or-set_other cores.next core c later 0 h

        many-next : length next ≡ 64
        many-next = ap length next_is ∙ length-set cores.next core later ∙ kept.next_of

        lowest-is : (c : ℕ) (t : ℕ) → c < system.cores → slice_index next c ≡ t → slice_index lowest c ≡ lowered (filter (is_home system c) signals) t
        lowest-is c t p e = lowers.each c (let n = many-next in let f = kept.few in omega arith) ∙ ap (lowered (filter (is_home system c) signals)) e

        lowest-from : (c t : ℕ) → c < system.cores → slice_index next c ≡ t → (least : ℕ) → least ≤ t → least ≤ past → least ≤ slice_index lowest c
        lowest-from c t p e least l m =
            let is = lowest-is c t p e in
            let from = lowered-from (filter (is_home system c) signals) t least l (λ mail k. let late = signals-late c mail k in omega arith) in
            omega arith

        lowest-most : (c t : ℕ) → c < system.cores → slice_index next c ≡ t → slice_index lowest c ≤ t
        lowest-most c t p e = let is = lowest-is c t p e in let most = lowered-le (filter (is_home system c) signals) t in omega arith

        -- the boxes
        box-is : (c : ℕ) (x : Content) (ms : List Mail) → c < system.cores → (get_or (set cores.boxes core left) c x).mails ≡ ms →
            (get_or full c x).mails ≡ put_all (filter (is_home system c) signals) ms
        box-is c x ms p e =
            delivered.each c x (let all = kept.boxes_of in let same = length-set cores.boxes core left in omega arith)
            ∙ ap (put_all (filter (is_home system c) signals)) e

        abbrev IsQuietNow : ℕ → ℕ → List Mail → ℕ → Type 0
        IsQuietNow c clock ms next = AreQuiet system c clock ms (core_at system (world system clock) c) (next - clock)

        same-quiet : (c clock clock' next next' : ℕ) (ms ms' : List Mail) → clock' ≡ clock → next' ≡ next → ms' ≡ ms → IsQuietNow c clock ms next → IsQuietNow c clock' ms' next'
        same-quiet c clock clock' next next' ms ms' e f g h = rw (e, f, g) h

        own-quiet : IsQuietNow core past left.mails later
        own-quiet = same _ _ _ _ stands-after.number_is stands-after.clock_is (quiet (core_at system (world system past) core) stands-after.core_is)
          where
            same : (n c u t : ℕ) → n ≡ c → u ≡ t → AreQuiet system n u left.mails (core_at system (world system past) core) (later - u) →
                AreQuiet system c t left.mails (core_at system (world system past) core) (later - t)
            same n c u t e f h = rw (sym e, sym f) h

        own-quiet-after : (x : Content) → IsQuietNow core (slice_index clocks-after core) (get_or full core x).mails (slice_index lowest core)
        own-quiet-after x =
            same-quiet core past (slice_index clocks-after core) (lowered (filter (is_home system core) signals) later) (slice_index lowest core)
            (put_all (filter (is_home system core) signals) left.mails) (get_or full core x).mails own-clock (lowest-is core later known own-next)
            (box-is core x left.mails known (ap (λ (y : Content). y.mails) (get_or-set_same cores.boxes core left x (let all = kept.boxes_of in omega arith))))
            (quiet-lowered system core past later (core_at system (world system past) core) left.mails (filter (is_home system core) signals) own-quiet)

        other-quiet-after : (c : ℕ) (x : Content) → c < system.cores → c ≢ core → IsQuietNow c (slice_index clocks-after c) (get_or full c x).mails (slice_index lowest c)
        other-quiet-after c x p h =
            same-quiet c (slice_index front c) (slice_index clocks-after c) (lowered (filter (is_home system c) signals) (slice_index cores.next c)) (slice_index lowest c)
            (put_all (filter (is_home system c) signals) (get_or cores.boxes c x).mails) (get_or full c x).mails (other-clock c h) (lowest-is c (slice_index cores.next c) p (other-next c h))
            (box-is c x (get_or cores.boxes c x).mails p (ap (λ (y : Content). y.mails) (get_or-set_other cores.boxes core c left x h)))
            (quiet-lowered system c (slice_index front c) (slice_index cores.next c) (core_at system (world system (slice_index front c)) c) (get_or cores.boxes c x).mails
            (filter (is_home system c) signals) (kept.quiet c x p))

        quiet-after : (c : ℕ) (x : Content) → c < system.cores → IsQuietNow c (slice_index clocks-after c) (get_or full c x).mails (slice_index lowest c)
        quiet-after c x p = elim (eqb_tells c core) [
          | inl e ↦ subst (λ d. IsQuietNow d (slice_index clocks-after d) (get_or full d x).mails (slice_index lowest d)) (sym e.1) (own-quiet-after x)
          | inr e ↦ other-quiet-after c x p e.1
        ]

        abbrev IsBusyThen : ℕ → ℕ → List Mail → ℕ → Type 0
        IsBusyThen c clock ms next = next ≤ horizon → ¬ AreQuiet system c clock ms (core_at system (world system clock) c) (next + 1 - clock)

        same-busy : (c clock clock' next next' : ℕ) (ms ms' : List Mail) → clock' ≡ clock → next' ≡ next → ms' ≡ ms → IsBusyThen c clock ms next → IsBusyThen c clock' ms' next'
        same-busy c clock clock' next next' ms ms' e f g h = rw (e, f, g) h

        own-busy : IsBusyThen core past left.mails later
        own-busy l = same _ _ _ _ stands-after.number_is stands-after.clock_is (busy_then l (core_at system (world system past) core) stands-after.core_is)
          where
            same : (n c u t : ℕ) → n ≡ c → u ≡ t → ¬ AreQuiet system n u left.mails (core_at system (world system past) core) (later + 1 - u) →
                ¬ AreQuiet system c t left.mails (core_at system (world system past) core) (later + 1 - t)
            same n c u t e f h = rw (sym e, sym f) h

        busy-more : (c clock next : ℕ) (box : List Mail) → clock ≤ lowered (filter (is_home system c) signals) next → IsBusyThen c clock box next →
            IsBusyThen c clock (put_all (filter (is_home system c) signals) box) (lowered (filter (is_home system c) signals) next)
        busy-more c clock next box from was l =
            busy-lowered system c clock next (core_at system (world system clock) c) box (filter (is_home system c) signals) from (λ e. was (omega arith))

        own-busy-after : (x : Content) → IsBusyThen core (slice_index clocks-after core) (get_or full core x).mails (slice_index lowest core)
        own-busy-after x =
            same-busy core past (slice_index clocks-after core) (lowered (filter (is_home system core) signals) later) (slice_index lowest core)
            (put_all (filter (is_home system core) signals) left.mails) (get_or full core x).mails own-clock (lowest-is core later known own-next)
            (box-is core x left.mails known (ap (λ (y : Content). y.mails) (get_or-set_same cores.boxes core left x (let all = kept.boxes_of in omega arith))))
            (busy-more core past later left.mails (let is = lowest-is core later known own-next in let from = lowest-from core later known own-next past ahead (omega arith) in omega arith) own-busy)

        other-busy-after : (c : ℕ) (x : Content) → c < system.cores → c ≢ core → slice_index front c ≤ slice_index lowest c → IsBusyThen c (slice_index clocks-after c) (get_or full c x).mails (slice_index lowest c)
        other-busy-after c x p h from =
            same-busy c (slice_index front c) (slice_index clocks-after c) (lowered (filter (is_home system c) signals) (slice_index cores.next c)) (slice_index lowest c)
            (put_all (filter (is_home system c) signals) (get_or cores.boxes c x).mails) (get_or full c x).mails (other-clock c h) (lowest-is c (slice_index cores.next c) p (other-next c h))
            (box-is c x (get_or cores.boxes c x).mails p (ap (λ (y : Content). y.mails) (get_or-set_other cores.boxes core c left x h)))
            (busy-more c (slice_index front c) (slice_index cores.next c) (get_or cores.boxes c x).mails (let is = lowest-is c (slice_index cores.next c) p (other-next c h) in omega arith) (kept.busy c x p))

        -- no clock is past the core's next busy time
        clock-before : (c : ℕ) → c < system.cores → c ≢ core → slice_index front c ≤ slice_index lowest c
        clock-before c p apart = elim (lt-or c) [
          | inl l ↦ (let h = kept.place.done c l in let k = h.0 in let m = h.1 in let from = lowest-from c (slice_index cores.next c) p (other-next c apart) past m (omega arith) in omega arith)
          | inr l ↦ (let h = kept.place.left c l p in let k = h.0 in let m = h.1 in let from = lowest-from c (slice_index cores.next c) p (other-next c apart) moment m (omega arith) in omega arith)
        ]
          where
            lt-or : (c : ℕ) → (c < core) ⊎ (core ≤ c)
            lt-or c = grind arith

        busy-after : (c : ℕ) (x : Content) → c < system.cores → IsBusyThen c (slice_index clocks-after c) (get_or full c x).mails (slice_index lowest c)
        busy-after c x p = elim (eqb_tells c core) [
          | inl e ↦ subst (λ d. IsBusyThen d (slice_index clocks-after d) (get_or full d x).mails (slice_index lowest d)) (sym e.1) (own-busy-after x)
          | inr e ↦ other-busy-after c x p e.1 (clock-before c p e.1)
        ]

        ends-after : (c : ℕ) → c < system.cores → slice_index lowest c ≤ horizon + 1
        ends-after c p = elim (eqb_tells c core) [
          | inl e ↦ (let most = lowest-most core later known own-next in subst (λ d. slice_index lowest d ≤ horizon + 1) (sym e.1) (omega arith))
          | inr e ↦ (let most = lowest-most c (slice_index cores.next c) p (other-next c e.1) in let end = kept.ends c p in omega arith)
        ]

        done-after : (c : ℕ) → c < core + 1 → (slice_index clocks-after c ≤ moment + 1) × (moment + 1 ≤ slice_index lowest c)
        done-after c l = elim (eqb_tells c core) [
          | inl e ↦ subst (λ d. (slice_index clocks-after d ≤ moment + 1) × (moment + 1 ≤ slice_index lowest d)) (sym e.1)
              (let at = own-clock in omega arith, lowest-from core later known own-next (moment + 1) ahead (omega arith))
          | inr e ↦ (let apart = e.1 in let at = other-clock c apart in let h = kept.place.done c (omega arith) in let k = h.0 in let m = h.1 in
              (omega arith, lowest-from c (slice_index cores.next c) (omega arith) (other-next c apart) (moment + 1) m (omega arith)))
        ]

        left-after : (c : ℕ) → core + 1 ≤ c → c < system.cores → (slice_index clocks-after c ≤ moment) × (moment ≤ slice_index lowest c)
        left-after c l p =
            let apart : c ≢ core = omega arith in
            let at = other-clock c apart in
            let h = kept.place.left c (omega arith) p in
            let k = h.0 in
            let m = h.1 in
            (omega arith, lowest-from c (slice_index cores.next c) p (other-next c apart) moment m (omega arith))

        pub turned-kept : AreInStep system horizon moment (core + 1) (record { clocks = clocks-after; states = set cores.states core after; boxes = full; next = lowest })
        turned-kept =
            record {
              clocks_of = length-set front core past ∙ kept.clocks_of;
              states_of = length-set cores.states core after ∙ kept.states_of;
              boxes_of = delivered.many ∙ length-set cores.boxes core left ∙ kept.boxes_of;
              next_of = lowers.many ∙ many-next;
              few = kept.few;
              known = omega arith;
              in_time = omega arith;
              over = λ e. absurd (omega arith);
              here = here-after;
              quiet = quiet-after;
              busy = busy-after;
              ends = ends-after;
              rest = λ c l k. (let apart : c ≢ core = omega arith in lowers.rest c l ∙ other-next c apart ∙ kept.rest c l k);
              place = record { done = done-after; left = left-after };
            }
