-- If each core alone is idle until a moment, the whole world is: no core makes a signal that
-- another one would take.
use Rattle.std.proofs.Common.{◌≡◌, ℕ, zero, suc, ◌+◌, ◌-◌, ◌<◌, ◌≤◌, Bool, true, false, List, [], ◌++◌, map, max, refl, sym, ap, subst, ◌∙◌, add-zero, arith}
use Rattle.std.specs.Prelude.{filter, flat_map, nat_lt, slice_index}
use Rattle.std.specs.List.{range_with_len}
use Rattle.std.proofs.lemmas.Bool.Decides.{nat_tests}
use Rattle.std.proofs.lemmas.List.FromFn.{get_or-map-range_with_len}
use Rattle.mcs_ticks.specs.Queue.{in_one_list}
use Rattle.mcs_mail.specs.declared.mail.Mail.{Mail}
use Rattle.mcs_mail.specs.Box.{arriving, IsIn}
use Rattle.mcs_system.specs.System.{System, note_part, TakesTime}
use Rattle.mcs_core.specs.Core.{Core}
use Rattle.mcs_core.specs.Turn.{Turn, turn_with, silent, stamped}
use Rattle.mcs_core.specs.Clock as clocks
use Rattle.mcs_core.specs.Quiet.{counted_times}
use Rattle.mcs_core.proofs.Clock.{core_at-world}
use Rattle.mcs_core.proofs.Quiet.{no_mail}
use Rattle.mcs_stretch.specs.Inbox.{inbox, known_at, IsMade, AreNews, Rises}
use Rattle.mcs_stretch.specs.Idle as idle
use Rattle.mcs_stretch.specs.Idle.{AreReached, AreIdle, AreSet, OnlyCounts}
use Rattle.mcs_stretch.proofs.Arrivals.{arrivals-known}
use Rattle.mcs_stretch.proofs.Boxes.{arriving-inbox, inbox-step}
use Rattle.mcs_stretch.proofs.Inboxes.{of_turn}
use Rattle.mcs_stretch.proofs.Joins.{inbox-joined}
use Rattle.mcs_stretch.proofs.Reaches.{by-delays}

-- parts that are all empty
none-joined : {A : Type 0} (f : ℕ → List A) (n a : ℕ) → ((i : ℕ) → i < n → f (a + i) ≡ []) → flat_map f (range_with_len a n) ≡ []
none-joined f zero a h = refl
none-joined f (suc n) a h =
    let first : f a ≡ [] = ap f (sym (add-zero a)) ∙ h 0 (omega arith) in
    rw first (none-joined f n (a + 1) (λ i l. let e : a + 1 + i ≡ a + suc i = omega arith in ap f e ∙ h (suc i) (omega arith)))

module _ (system : System) (takes_time : TakesTime system) (front : List ℕ) where
  -- core c before its clock, and n ticks on
  abbrev core_now : ℕ → Core
  core_now c = clocks.core_at system (clocks.world system (slice_index front c)) c

  abbrev core_on : ℕ → ℕ → Core
  core_on c n = counted_times system c n (core_now c)

  -- the turns of all cores from their clocks to before the moment do nothing but count
  abbrev AreStill : ℕ → Type 0
  AreStill t = (c n : ℕ) → c < system.cores → slice_index front c + n < t → clocks.turn_of system c (slice_index front c + n) ≡ silent (core_on c (suc n))

  -- then so do the cores
  core-still : (t c : ℕ) → c < system.cores → AreStill t → (n : ℕ) → n ≤ t - slice_index front c →
      clocks.core_at system (clocks.world system (slice_index front c + n)) c ≡ core_on c n
  core-still t c known h zero l = ap (λ m. clocks.core_at system (clocks.world system m) c) (add-zero (slice_index front c))
  core-still t c known h (suc n) l =
      let e : slice_index front c + suc n ≡ suc (slice_index front c + n) = omega arith in
      ap (λ m. clocks.core_at system (clocks.world system m) c) e ∙ core_at-world system takes_time (slice_index front c + n) c known
      ∙ ap (λ (made : Turn). made.core) (h c n known (omega arith))

  -- there is no news, so each inbox is by later clocks what it is by these
  module _ (t : ℕ) (still : AreStill t) (later : List ℕ) (set : AreSet system front t later) where
    no-news : (c from : ℕ) → AreNews system c from front later []
    no-news c from = record { apart = tt; are = λ x k. absurd k; all = λ x p q. none x p }
      where
        none : (x : Mail) → IsMade system (slice_index front) (slice_index later) x → ⊥
        none x p =
            let l = p.from in
            let k = p.before in
            let at = set p.maker p.known in
            let e : slice_index front p.maker + (p.made - slice_index front p.maker) ≡ p.made = omega arith in
            let quiet = still p.maker (p.made - slice_index front p.maker) p.known (omega arith) in
            let P : List Mail → Type 0 = λ ms. IsIn x ms in
            subst P (ap (λ m. (clocks.turn_of system p.maker m).mails) (sym e) ∙ ap (λ (made : Turn). made.mails) quiet) p.is

    rises : Rises system front later
    rises b l = let at = set b l in omega arith

    same-inbox : (c from : ℕ) → inbox system c from later ≡ inbox system c from front
    same-inbox c from = sym (inbox-joined system takes_time c from front later [] rises (no-news c from))

  module _ (m : ℕ) (reached : AreReached system front) (is_idle : AreIdle system front m) where
    -- nothing arrives meanwhile
    inbox-waits : (c : ℕ) → c < system.cores → (n : ℕ) → n ≤ m - slice_index front c → inbox system c (slice_index front c + n) front ≡ inbox system c (slice_index front c) front
    inbox-waits c known zero l = ap (λ from. inbox system c from front) (add-zero (slice_index front c))
    inbox-waits c known (suc n) l =
        let t = slice_index front c + n in
        let e : slice_index front c + suc n ≡ t + 1 = omega arith in
        let before = inbox-waits c known n (omega arith) in
        let none : arriving t (inbox system c (slice_index front c) front) ≡ [] = no_mail in_one_list system c t _ (core_on c n) (is_idle c known n (omega arith)) in
        let none_now : known_at system c t front ≡ [] = sym (arriving-inbox system c front t) ∙ ap (arriving t) before ∙ none in
        ap (λ from. inbox system c from front) e
        ∙ sym (inbox-step system c front t ∙ ap (λ ms. ms ++ inbox system c (t + 1) front) none_now)
        ∙ before

    -- the clocks, those before the moment set to it
    abbrev set_to : ℕ → List ℕ
    set_to t = map (λ c. max (slice_index front c) t) (range_with_len 0 system.cores)

    are-set : (t : ℕ) → AreSet system front t (set_to t)
    are-set t c known = get_or-map-range_with_len (λ b. max (slice_index front b) t) 0 system.cores c c 0 known (omega arith)

    -- one moment more
    still-now : (c n : ℕ) → c < system.cores → slice_index front c + n < m → AreStill (slice_index front c + n) → clocks.turn_of system c (slice_index front c + n) ≡ silent (core_on c (suc n))
    still-now c n known l still =
        let t = slice_index front c + n in
        let now : filter (clocks.arrives_at system t c) (clocks.world system t).mails ≡ known_at system c t (set_to t) =
        arrivals-known system c t (set_to t) takes_time (by-delays system c (t + 1) (set_to t) (λ b p q. let at = are-set t b p in let long = takes_time b c in omega arith)) in
        let mail : filter (clocks.arrives_at system t c) (clocks.world system t).mails ≡ arriving t (inbox system c (slice_index front c) front) =
        now ∙ sym (arriving-inbox system c (set_to t) t)
        ∙ ap (arriving t) (same-inbox t still (set_to t) (are-set t) c t ∙ inbox-waits c known n (omega arith)) in
        same _ _ _ _ mail (core-still t c known still n (omega arith)) ∙ is_idle c known n (omega arith)
      where
        same : (xs ys : List Mail) (x y : Core) → xs ≡ ys → x ≡ y → turn_with in_one_list system c (slice_index front c + n) xs x ≡ turn_with in_one_list system c (slice_index front c + n) ys y
        same xs ys x y e f = cc

    all-still : (t : ℕ) → t ≤ m → AreStill t
    all-still zero l c n known k = absurd (omega arith)
    all-still (suc t) l c n known k = by (all-still t (omega arith)) (nat_lt (slice_index front c + n) t) refl
      where
        by : AreStill t → (u : Bool) → nat_lt (slice_index front c + n) t ≡ u → clocks.turn_of system c (slice_index front c + n) ≡ silent (core_on c (suc n))
        by still true e =
            let early : slice_index front c + n < t = grind (arith, nat_tests) in
            still c n known early
        by still false e =
            let late : t ≤ slice_index front c + n = grind (arith, nat_tests) in
            let same : t ≡ slice_index front c + n = omega arith in
            still-now c n known (omega arith) (subst AreStill same still)

    only-counts : (later : List ℕ) → AreSet system front m later → (c : ℕ) → c < system.cores → OnlyCounts system front later c
    only-counts later set c known =
        let still = all-still m (omega arith) in
        let at = set c known in
        let n = slice_index later c - slice_index front c in
        let e : slice_index front c + n ≡ slice_index later c = omega arith in
        record {
          reached = λ b k x p l i e.
              let other = set b p in
              let own = reached c known b k x p (omega arith) i e in
              let made = (of_turn system b k x i).arrives in
              let long = takes_time b (note_part system x.note).core in
              omega arith;
          core_is = ap (λ t. clocks.core_at system (clocks.world system t) c) (sym e) ∙ core-still m c known still n (omega arith);
          no_rows = none-joined (clocks.rows_of system c) n (slice_index front c)
              (λ i l. ap (λ (made : Turn). stamped c (slice_index front c + i) made.rows) (still c i known (omega arith)));
          no_signals = none-joined (λ t. (clocks.turn_of system c t).mails) n (slice_index front c)
              (λ i l. ap (λ (made : Turn). made.mails) (still c i known (omega arith)));
          same_mail = same-inbox m still later set c (slice_index later c) ∙ ap (λ from. inbox system c from front) (sym e) ∙ inbox-waits c known n (omega arith);
        }

pub idle-passes : (system : System) → TakesTime system → idle.IdleTimePasses system
idle-passes system takes_time front later m reached is_idle set = only-counts system takes_time front m reached is_idle later set
