-- The invariant of `Cores` when idle time is skipped.
use Rattle.std.proofs.Common.{◌≡◌, ◌≢◌, ℕ, ◌+◌, ◌-◌, ◌<◌, ◌≤◌, ◌^◌, false, List, [], ◌++◌, length, map, max, get_or, set, inl, inr, refl, sym, ap, ◌∙◌, subst, arith, append-nil}
use Rattle.std.specs.Prelude.{Option, Some, None, slice_index}
use Rattle.std.specs.Arc.{arc_value}
use Rattle.std.specs.Vec.{with_items}
use Rattle.std.proofs.lemmas.Bool.Decides.{eqb_tells}
use Rattle.std.proofs.lemmas.List.{ext_get_or, get_or-map, get_or-set_same, get_or-set_other, length-map, length-set, with_items_is}
use Rattle.mcs_ticks.specs.Queue.{by_priority, in_one_list}
use Rattle.mcs_mail.specs.declared.mail.Mail.{Mail}
use Rattle.mcs_mail.specs.Box.{arriving}
use Rattle.mcs_system.specs.System.{System, TakesTime}
use Rattle.mcs_core.specs.Clock.{world, core_at, shown}
use Rattle.mcs_core.specs.Core.{Core}
use Rattle.mcs_core.specs.Quiet.{AreQuietWith, IsQuiet, IsNextBusy, counted_times}
use Rattle.mcs_core.specs.State.{State, Fits, opening_state}
use Rattle.mcs_core.proofs.QuietAlike.{counted-times-shown, quiet-shown}
use Rattle.mcs_core.proofs.Skips.{quiet-alone, quiet-to, quiet-at}
use Rattle.mcs_stretch.specs.Idle.{IsIdle, AreIdle, AreReached, AreSet, IsIdleUntil, OnlyCounts}
use Rattle.mcs_stretch.specs.Inbox.{inbox}
use Rattle.mcs_window.specs.stored.Opening.{HasItems}
use Rattle.mcs_window.specs.stored.Cores.{AreSince, AreAt, AreHere, AreIdleBelow, AreKept, AreSetBelow, AreSkipped, AreWhole, IsHere, IsKept}
use Rattle.mcs_stretch.specs.Stretch.{StandsAt, rows_between}
use Rattle.mcs_window.specs.declared.cores.Cores.TheInside.{Inside}
use Rattle.mcs_stretch.proofs.Later.{takes_time}
use Rattle.mcs_stretch.proofs.Idle.{idle-passes}
use Rattle.mcs_stretch.proofs.Ranges.{rows-join}

-- the one next moment is not before another
pub not-before : (next : Option ℕ) (moment until : ℕ) → next ≡ Some moment → until ≤ moment → (m : ℕ) → next ≡ Some m → until ≤ m
not-before next moment until e l m f =
    let same : moment ≡ m = cc in
    omega arith

pub never-before : (next : Option ℕ) (until : ℕ) → next ≡ None → (m : ℕ) → next ≡ Some m → until ≤ m
never-before next until e m f = cc

module _ (system : System) (clocks : List ℕ) where
  -- a core's next busy moment, said of each core that the state that is kept shows, is that of the clock's core
  pub next-here : (c t : ℕ) (state : State) (box : List Mail) (next : Option ℕ) → StandsAt system c t state → box ≡ inbox system c t clocks →
      ((core : Core) → state.core ≡ shown core → IsNextBusy system state.number state.clock box core next) → IsNextBusy system c t (inbox system c t clocks) (core_at system (world system t) c) next
  next-here c t state box next stands box_is h = same _ _ _ _ _ _ stands.number_is stands.clock_is box_is (h (core_at system (world system t) c) stands.core_is)
    where
      same : (n c' u t' : ℕ) (mails box' : List Mail) → n ≡ c' → u ≡ t' → mails ≡ box' → IsNextBusy system n u mails (core_at system (world system t) c) next →
          IsNextBusy system c' t' box' (core_at system (world system t) c) next
      same n c' u t' mails box' d e f h = rw (sym d, sym e, sym f) h

  module _ (past many until : ℕ) (below : AreIdleBelow system clocks past many until) where
    each-below : (moment : ℕ) → moment ≤ until → IsIdle system clocks moment many → (c : ℕ) → c < many + 1 → IsIdle system clocks moment c
    each-below moment l own c p = elim (eqb_tells c many) [
      | inl e ↦ subst (λ d. IsIdle system clocks moment d) (sym e.1) own
      | inr e ↦ λ n k. (let other = e.1 in below.idle c (omega arith) n (omega arith))
    ]

    -- a core that is not busy before
    pub below-same : (next : Option ℕ) → until ≤ 2 ^ 42 → ((moment : ℕ) → next ≡ Some moment → until ≤ moment) →
        IsNextBusy system many (slice_index clocks many) (inbox system many (slice_index clocks many) clocks) (core_at system (world system (slice_index clocks many)) many) next →
        AreIdleBelow system clocks past (many + 1) until
    below-same next l late h =
        record {
          in_time = below.in_time;
          idle = each-below until (omega arith) (quiet-to in_one_list system many (slice_index clocks many) until _ _ next h late l);
          busy = λ p all. below.busy p (λ c q. all c (omega arith));
        }

    -- a core that is busy before
    pub below-sooner : (busy : ℕ) → busy < until →
        IsNextBusy system many (slice_index clocks many) (inbox system many (slice_index clocks many) clocks) (core_at system (world system (slice_index clocks many)) many) (Some busy) →
        AreIdleBelow system clocks past (many + 1) busy
    below-sooner busy l h =
        record {
          in_time = (let k = below.in_time in omega arith);
          idle = each-below busy (omega arith) (quiet-at in_one_list system many (slice_index clocks many) busy _ _ h);
          busy = λ p all.
              (let e : slice_index clocks many + h.0 ≡ busy = sym h.1 in
              let quiet = all many (omega arith) h.0 (omega arith) in
              let P : ℕ → Type 0 = λ t. IsQuiet system many t (arriving t (inbox system many (slice_index clocks many) clocks)) (counted_times system many h.0 (core_at system (world system (slice_index clocks many)) many)) in
              h.4 (subst P e quiet));
        }

  pub below-all : (past moment : ℕ) → AreIdleBelow system clocks past system.cores moment → IsIdleUntil system clocks past moment
  below-all past moment h = record { in_time = h.in_time; idle = h.idle; busy = h.busy }

-- the clocks
pub set-more : (clocks later : List ℕ) (moment many : ℕ) → many < length clocks → AreSetBelow clocks moment many later → slice_index later many < moment → AreSetBelow clocks moment (many + 1) (set later many moment)
set-more clocks later moment many l h early =
    record {
      many_are = length-set later many moment ∙ h.many_are;
      done = λ c p. elim (eqb_tells c many) [
        | inl e ↦ (let same : slice_index (set later many moment) c ≡ moment = ap (slice_index (set later many moment)) e.1 ∙ get_or-set_same later many moment 0 (let all = h.many_are in omega arith) in
            let at : slice_index clocks c ≡ slice_index later many = ap (slice_index clocks) e.1 ∙ sym (h.left many (omega arith)) in omega arith)
        | inr e ↦ (let other = e.1 in get_or-set_other later many c moment 0 other ∙ h.done c (omega arith))
      ];
      left = λ c p. (let other : c ≢ many = omega arith in get_or-set_other later many c moment 0 other ∙ h.left c (omega arith));
    }

pub set-same : (clocks later : List ℕ) (moment many : ℕ) → AreSetBelow clocks moment many later → moment ≤ slice_index later many → AreSetBelow clocks moment (many + 1) later
set-same clocks later moment many h late =
    record {
      many_are = h.many_are;
      done = λ c p. elim (eqb_tells c many) [
        | inl e ↦ (let at : slice_index clocks c ≡ slice_index later many = ap (slice_index clocks) e.1 ∙ sym (h.left many (omega arith)) in
            let there : slice_index later c ≡ slice_index later many = ap (slice_index later) e.1 in omega arith)
        | inr e ↦ (let other = e.1 in h.done c (omega arith))
      ];
      left = λ c p. h.left c (omega arith);
    }

pub enough : {n m : ℕ} → n ≡ m → m ≤ n
enough e = omega arith

abbrev set_all : List ℕ → ℕ → List ℕ
set_all clocks moment = map (λ clock. max clock moment) clocks

pub set-all : (clocks later : List ℕ) (moment : ℕ) → AreSetBelow clocks moment (length clocks) later → later ≡ set_all clocks moment
set-all clocks later moment h =
    ext_get_or 0 later (set_all clocks moment) (h.many_are ∙ sym (length-map clocks (λ clock. max clock moment)))
    (λ c p. let many = h.many_are in h.done c (omega arith) ∙ sym (get_or-map (λ clock. max clock moment) clocks c 0 0 (omega arith)))

module _ (system : System) (takes_time : TakesTime system) (clocks : List ℕ) (moment : ℕ) (clocks_of : system.cores ≤ length clocks) (reached : AreReached system clocks) (idle : AreIdle system clocks moment) where
  all-set : AreSet system clocks moment (set_all clocks moment)
  all-set c p = get_or-map (λ clock. max clock moment) clocks c 0 0 (omega arith)

  pub counts-all : (c : ℕ) → c < system.cores → OnlyCounts system clocks (set_all clocks moment) c
  counts-all = idle-passes system takes_time clocks (set_all clocks moment) moment reached idle all-set

  -- a core that skips
  pub skip-quiet : (c : ℕ) (state : State) → c < system.cores → StandsAt system c (slice_index clocks c) state → AreQuietWith by_priority system state.number state.clock [] state.core (moment - state.clock)
  skip-quiet c state p stands =
      let t = slice_index clocks c in
      let core = core_at system (world system t) c in
      same _ _ _ _ _ _ stands.number_is stands.clock_is stands.core_is
      (quiet-shown system c t [] core (moment - t) (quiet-alone in_one_list system c t (moment - t) core (inbox system c t clocks) (idle c p)))
    where
      same : (c c' t t' : ℕ) (core core' : Core) → c ≡ c' → t ≡ t' → core ≡ core' → AreQuietWith by_priority system c' t' [] core' (moment - t') → AreQuietWith by_priority system c t [] core (moment - t)
      same c c' t t' core core' d e f h = rw (d, e, f) h

  pub skip-stands : (c : ℕ) (state after : State) → c < system.cores → slice_index clocks c < moment → StandsAt system c (slice_index clocks c) state →
      after ≡ record state { clock = moment; core = counted_times system state.number (moment - state.clock) state.core } → Fits system after → StandsAt system c moment after
  skip-stands c state after p l stands e fits =
      let later = counts-all c p in
      let there : slice_index (set_all clocks moment) c ≡ moment = (let at = all-set c p in omega arith) in
      record {
        number_is = ap (λ (s : State). s.number) e ∙ stands.number_is;
        clock_is = ap (λ (s : State). s.clock) e;
        core_is = ap (λ (s : State). s.core) e ∙ same _ _ _ _ _ _ stands.number_is stands.clock_is stands.core_is
            ∙ counted-times-shown system c (moment - slice_index clocks c) (core_at system (world system (slice_index clocks c)) c)
            ∙ ap shown (ap (λ t. counted_times system c (t - slice_index clocks c) (core_at system (world system (slice_index clocks c)) c)) (sym there)
            ∙ sym later.core_is ∙ ap (λ t. core_at system (world system t) c) there);
        whole = ap (λ (s : State). s.failed) e ∙ stands.whole;
        fits = fits;
      }
    where
      same : (c c' t t' : ℕ) (core core' : Core) → c ≡ c' → t ≡ t' → core ≡ core' → counted_times system c (moment - t) core ≡ counted_times system c' (moment - t') core'
      same c c' t t' core core' d e f = rw (d, e, f) refl

  -- one more core
  module _ (states : List State) (many : ℕ) (later : List ℕ) (after : List State) (known : many < system.cores) (h : AreSkipped system clocks states moment many later after) (states_of : length states ≡ system.cores) where
    pub stands-now : (d : State) → StandsAt system many (slice_index clocks many) (get_or after many d)
    stands-now d = subst (λ t. StandsAt system many t (get_or after many d)) (h.clocks_are.left many (omega arith)) (h.states_are many d known)

    pub skipped-more : (d new : State) → slice_index later many < moment →
        new ≡ record (get_or after many d) { clock = moment; core = counted_times system (get_or after many d).number (moment - (get_or after many d).clock) (get_or after many d).core } → Fits system new →
        AreSkipped system clocks states moment (many + 1) (set later many moment) (set after many new)
    skipped-more d new early e fits =
        record {
          clocks_are = set-more clocks later moment many (omega arith) h.clocks_are early;
          many_are = length-set after many new ∙ h.many_are;
          states_are = λ c x p. elim (eqb_tells c many) [
            | inl f ↦ subst (λ b. StandsAt system b (slice_index (set later many moment) b) (get_or (set after many new) b x)) (sym f.1)
                (let there = h.clocks_are.left many (omega arith) in
                rw (get_or-set_same later many moment 0 (let all = h.clocks_are.many_are in omega arith), get_or-set_same after many new x (let all = h.many_are in omega arith))
                (skip-stands many (get_or after many d) new known (omega arith) (stands-now d) e fits))
            | inr f ↦ rw (get_or-set_other later many c moment 0 f.1, get_or-set_other after many c new x f.1) (h.states_are c x p)
          ];
        }

    pub skipped-same : moment ≤ slice_index later many → AreSkipped system clocks states moment (many + 1) later after
    skipped-same late = record { clocks_are = set-same clocks later moment many h.clocks_are late; many_are = h.many_are; states_are = h.states_are }

-- all of `Cores`
module _ (a : Inside) (kept : IsKept a) (unspent : a.failed ≡ false) where
  abbrev system : System
  system = arc_value a.system

  whole : AreWhole system a.clocks.items a.states.items a.boxes.items a.signals.items
  whole = kept.whole unspent

  since : AreSince HasItems system a.horizon a.clocks.items a.taken.items a.rows.items
  since = kept.kept.since

  here : (c : ℕ) (x : State) → c < system.cores → IsHere system c (slice_index a.clocks.items c) a.clocks.items (get_or a.states.items c x) (get_or a.boxes.items c (record { mails = []; spare = 0 })).mails
  here c x p = whole.here c x (record { mails = []; spare = 0 }) p

  pub at-clocks : AreAt system a.clocks.items a.states.items
  at-clocks c x p = (here c x p).state_is

  pub all-reached : AreReached system a.clocks.items
  all-reached c p = (here c (opening_state system c) p).reached

  pub skipped_kept : (moment : ℕ) (later : List ℕ) (after : List State) → moment ≤ a.horizon + 1 → AreIdle system a.clocks.items moment → later ≡ set_all a.clocks.items moment →
      length after ≡ length a.states.items → AreAt system later after → IsKept (record a { clocks = with_items a.clocks later; states = with_items a.states after })
  skipped_kept moment later after in_time idle e many at =
      record {
        horizon = kept.horizon;
        well_formed = kept.well_formed;
        states_of = ap length states-are ∙ many ∙ kept.states_of;
        boxes_of = kept.boxes_of;
        delays_are = kept.delays_are;
        kept = subst (λ xs. AreKept system a.horizon xs a.taken.items a.rows.items) (sym clocks-are)
            (record {
              clocks_of = many_are ∙ kept.kept.clocks_of;
              taken_of = kept.kept.taken_of;
              since = record {
                in_time = λ c p. (let l = since.in_time c p in let now = there c p in omega arith);
                in_order = λ c p. (let l = since.in_order c p in let now = there c p in omega arith);
                told_are = record { many_are = since.told_are.many_are; each = λ c x p. since.told_are.each c x p ∙ rows-on c p };
              };
            });
        whole = λ f. record {
          here = subst (λ xs. AreHere system xs (with_items a.states after).items a.boxes.items) (sym clocks-are)
              (subst (λ xs. AreHere system later xs a.boxes.items) (sym states-are) here-later);
          no_signals = whole.no_signals;
        };
      }
    where
      many_are : length later ≡ length a.clocks.items
      many_are = ap length e ∙ length-map a.clocks.items (λ clock. max clock moment)

      clocks-are : (with_items a.clocks later).items ≡ later
      clocks-are = with_items_is a.clocks later (let ok = a.clocks.ok.0 in let same = many_are in omega arith)

      states-are : (with_items a.states after).items ≡ after
      states-are = with_items_is a.states after (let ok = a.states.ok.0 in omega arith)

      counts : (c : ℕ) → c < system.cores → OnlyCounts system a.clocks.items later c
      counts c p = rw e (counts-all system (takes_time system kept.well_formed) a.clocks.items moment (enough kept.kept.clocks_of) all-reached idle c p)

      there : (c : ℕ) → c < system.cores → slice_index later c ≡ max (slice_index a.clocks.items c) moment
      there c p = ap (λ xs. slice_index xs c) e ∙ all-set system (takes_time system kept.well_formed) a.clocks.items moment (enough kept.kept.clocks_of) all-reached idle c p

      rows-on : (c : ℕ) → c < system.cores → rows_between system c (slice_index a.taken.items c) (slice_index a.clocks.items c) ≡ rows_between system c (slice_index a.taken.items c) (slice_index later c)
      rows-on c p =
          sym (append-nil (rows_between system c (slice_index a.taken.items c) (slice_index a.clocks.items c)))
          ∙ ap (λ xs. rows_between system c (slice_index a.taken.items c) (slice_index a.clocks.items c) ++ xs) (sym (counts c p).no_rows)
          ∙ rows-join system c (slice_index a.taken.items c) (slice_index a.clocks.items c) (slice_index later c) (since.in_order c p) (let now = there c p in omega arith)

      here-later : AreHere system later after a.boxes.items
      here-later c x y p =
          let same = counts c p in
          record { reached = same.reached; state_is = at c x p; box_is = (whole.here c x y p).box_is ∙ sym same.same_mail }
