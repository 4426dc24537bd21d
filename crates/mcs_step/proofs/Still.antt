-- All cores only count ticks until a moment, each by its own box: no row is made before it, and nothing arrives at it that is still to be made.
use Rattle.std.proofs.Common.{◌≡◌, ℕ, ◌+◌, ◌-◌, ◌<◌, ◌≤◌, Bool, true, false, List, [], map, max, refl, sym, ap, ◌∙◌, subst, arith}
use Rattle.std.specs.Prelude.{filter, nat_lt, slice_index, slice_index_or}
use Rattle.std.specs.List.{range_with_len}
use Rattle.std.proofs.lemmas.Bool.Decides.{nat_tests}
use Rattle.std.proofs.lemmas.List.FromFn.{get_or-map-range_with_len}
use Rattle.mcs_mail.specs.declared.mail.Mail.{Mail}
use Rattle.mcs_mail.specs.Box.{Content, IsIn, arriving}
use Rattle.mcs_system.specs.System.{System, note_part}
use Rattle.mcs_system.specs.WellFormed.{IsWellFormed}
use Rattle.mcs_core.specs.Turn.{Turn, stamped}
use Rattle.mcs_core.specs.Clock.{world, core_at, rows_of, turn_of, arrives_at}
use Rattle.mcs_core.specs.Quiet.{AreQuiet, IsQuiet, counted_times}
use Rattle.mcs_core.specs.State.{State, opening_state}
use Rattle.mcs_stretch.specs.Idle.{AreReached, AreIdle, AreSet, OnlyCounts}
use Rattle.mcs_stretch.specs.Inbox.{inbox}
use Rattle.mcs_stretch.specs.Stretch.{NothingArrivesBefore, rows_between}
use Rattle.mcs_stretch.proofs.Arrivals.{arrivals-known}
use Rattle.mcs_stretch.proofs.Boxes.{arriving-inbox}
use Rattle.mcs_stretch.proofs.Idle.{idle-passes}
use Rattle.mcs_stretch.proofs.Inboxes.{of_turn}
use Rattle.mcs_stretch.proofs.Later.{takes_time}
use Rattle.mcs_stretch.proofs.Reaches.{by-delays}
use Rattle.mcs_window.specs.stored.Cores.{IsHere}
use Rattle.mcs_step.specs.stored.Cores.{Cores, AreInStep}
use Rattle.mcs_step.proofs.Rows.{none-of}

pub no-box : Content
no-box = record { mails = []; spare = 0 }

module _ (system : System) (well : IsWellFormed system) (horizon old before : ℕ) (cores : Cores) (kept : AreInStep system horizon old before cores) where
  abbrev front : List ℕ
  front = cores.clocks

  pub here-at : (c : ℕ) → c < system.cores → (state : State) (box : Content) → IsHere system c (slice_index front c) front (slice_index_or cores.states c state) (slice_index_or cores.boxes c box).mails
  here-at c known state box = kept.here c state box known

  -- by the inbox, too, a core is quiet
  quiet-inbox : (c : ℕ) → c < system.cores → AreQuiet system c (slice_index front c) (inbox system c (slice_index front c) front) (core_at system (world system (slice_index front c)) c) (slice_index cores.next c - slice_index front c)
  quiet-inbox c known =
      subst (λ ms. AreQuiet system c (slice_index front c) ms (core_at system (world system (slice_index front c)) c) (slice_index cores.next c - slice_index front c))
      (here-at c known (opening_state system c) no-box).box_is (kept.quiet c no-box known)

  pub are-reached : AreReached system front
  are-reached c known = (here-at c known (opening_state system c) no-box).reached

  -- until a moment that no next busy time is before
  module _ (moment : ℕ) (soonest : (c : ℕ) → c < system.cores → moment ≤ slice_index cores.next c) where
    pub are-idle : AreIdle system front moment
    are-idle c known n l = quiet-inbox c known n (let s = soonest c known in omega arith)

    abbrev later : List ℕ
    later = map (λ c. max (slice_index front c) moment) (range_with_len 0 system.cores)

    are-set : AreSet system front moment later
    are-set c known = get_or-map-range_with_len (λ b. max (slice_index front b) moment) 0 system.cores c c 0 known (omega arith)

    only : (c : ℕ) → c < system.cores → OnlyCounts system front later c
    only c known = idle-passes system (takes_time system well) front later moment are-reached are-idle are-set c known

    -- no core makes a signal before that moment, and one made then arrives later
    pub nothing-arrives : (c : ℕ) → NothingArrivesBefore system c (moment + 1) front
    nothing-arrives c b t mail known from made home = by (nat_lt t (slice_index later b)) refl
      where
        by : (u : Bool) → nat_lt t (slice_index later b) ≡ u → moment + 1 ≤ mail.arrives
        by true e =
            let early : t < slice_index later b = grind (arith, nat_tests) in
            let same : slice_index front b + (t - slice_index front b) ≡ t = omega arith in
            let none = none-of (λ m. (turn_of system b m).mails) (slice_index later b - slice_index front b) (slice_index front b) (only b known).no_signals (t - slice_index front b) (omega arith) in
            let P : List Mail → Type 0 = λ ms. IsIn mail ms in
            absurd (subst P (ap (λ m. (turn_of system b m).mails) (sym same) ∙ none) made)
        by false e =
            let late : slice_index later b ≤ t = grind (arith, nat_tests) in
            let set = are-set b known in
            let sent = (of_turn system b t mail made).arrives in
            let long = takes_time system well b (note_part system mail.note).core in
            omega arith

    pub no-rows-so-far : (c : ℕ) → c < system.cores → rows_between system c (slice_index front c) (max (slice_index front c) moment) ≡ []
    no-rows-so-far c known = ap (rows_between system c (slice_index front c)) (sym (are-set c known)) ∙ (only c known).no_rows

    pub no-rows-before : (c t : ℕ) → c < system.cores → slice_index front c ≤ t → t < moment → rows_of system c t ≡ []
    no-rows-before c t known from l =
        let same : slice_index front c + (t - slice_index front c) ≡ t = omega arith in
        let set = are-set c known in
        ap (rows_of system c) (sym same)
        ∙ none-of (rows_of system c) (slice_index later c - slice_index front c) (slice_index front c) (only c known).no_rows (t - slice_index front c) (omega arith)

    -- nor does a core that is quiet at the moment itself
    module _ (c : ℕ) (known : c < system.cores) (from : slice_index front c ≤ moment) (busy_later : moment < slice_index cores.next c) where
      later-is : slice_index later c ≡ moment
      later-is = let set = are-set c known in omega arith

      mail-is : filter (arrives_at system moment c) (world system moment).mails ≡ arriving moment (inbox system c (slice_index front c) front)
      mail-is =
          arrivals-known system c moment later (takes_time system well)
          (by-delays system c (moment + 1) later (λ b p q. let set = are-set b p in let long = takes_time system well b c in omega arith))
          ∙ sym (arriving-inbox system c later moment)
          ∙ ap (λ t. arriving moment (inbox system c t later)) (sym later-is)
          ∙ ap (arriving moment) (only c known).same_mail

      core-is : core_at system (world system moment) c ≡ counted_times system c (moment - slice_index front c) (core_at system (world system (slice_index front c)) c)
      core-is =
          ap (λ t. core_at system (world system t) c) (sym later-is) ∙ (only c known).core_is
          ∙ ap (λ t. counted_times system c (t - slice_index front c) (core_at system (world system (slice_index front c)) c)) later-is

      turn-quiet : IsQuiet system c moment (filter (arrives_at system moment c) (world system moment).mails) (core_at system (world system moment) c)
      turn-quiet =
          let n = moment - slice_index front c in
          let same : slice_index front c + n ≡ moment = omega arith in
          rw (mail-is, core-is)
          (subst (λ t. IsQuiet system c t (arriving t (inbox system c (slice_index front c) front)) (counted_times system c n (core_at system (world system (slice_index front c)) c))) same
          (quiet-inbox c known n (omega arith)))

      pub no-rows-at : rows_of system c moment ≡ []
      no-rows-at = ap (λ (made : Turn). stamped c moment made.rows) turn-quiet
