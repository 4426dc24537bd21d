-- A desk all of whose cores skip idle time.
use Rattle.std.proofs.Common.{◌≡◌, ℕ, ◌+◌, ◌<◌, ◌≤◌, None, List, [], ◌++◌, length, map, replicate, get_or, set, inl, inr, refl, sym, ap, ◌∙◌, subst, arith, append-nil}
use Rattle.std.specs.Prelude.{slice_index}
use Rattle.std.specs.Arc.{arc_value}
use Rattle.std.specs.Vec.{with_items}
use Rattle.std.proofs.lemmas.Bool.Decides.{eqb_tells}
use Rattle.std.proofs.lemmas.List.{get_or-set_same, get_or-set_other, length-set, with_items_is}
use Rattle.mcs_ticks.specs.declared.row.Row.{Row}
use Rattle.mcs_mail.specs.declared.mail.Mail.{Mail}
use Rattle.mcs_mail.specs.Box.{Content}
use Rattle.mcs_system.specs.System.{System, TakesTime}
use Rattle.mcs_stretch.specs.Idle.{AreIdle, AreReached, AreSet, OnlyCounts}
use Rattle.mcs_stretch.specs.Inbox.{inbox}
use Rattle.mcs_window.specs.stored.Slots.{slot_loan, table_of, IsPlaced, ArePlaced, IsKept, StandsIn, AllStand, MaySkip, HasSkipped, HaveSkipped}
use Rattle.mcs_stretch.specs.Stretch.{NothingArrivesBefore, rows_between}
use Rattle.mcs_window.specs.Desk.{AllAreHere}
use Rattle.mcs_window.specs.declared.slot.Slot.{Slot}
use Rattle.mcs_window.specs.declared.slot.Slot.TheVariants.{Here, Away}
use Rattle.mcs_window.specs.declared.desk.Desk.TheInside.{Inside}
use Rattle.mcs_stretch.proofs.Later.{takes_time}
use Rattle.mcs_stretch.proofs.Idle.{idle-passes}
use Rattle.mcs_window.proofs.Lends.{loan_at}
use Rattle.mcs_stretch.proofs.Ranges.{rows-join}
use Rattle.mcs_window.proofs.Skips.{set-more, set-same, skip-quiet, skip-stands}
use Rattle.mcs_window.proofs.Slots.{no_loans}

module _ (system : System) (takes : TakesTime system) (clocks : List ℕ) (moment : ℕ) (clocks_of : system.cores ≤ length clocks) (reached : AreReached system clocks) (idle : AreIdle system clocks moment) where
  -- a core at its clock, which is before the moment
  pub may-skip : (c : ℕ) (slot : Slot) → c < system.cores → slice_index clocks c < moment → StandsIn system c (slice_index clocks c) slot → MaySkip system moment slot
  may-skip c (Here spare state) l early stands = (
    stands.1.fits,
    stands.1.whole,
    (let clock = stands.1.clock_is in omega arith),
    skip-quiet system takes clocks moment clocks_of reached idle c state.value l stands.1,
  )
  may-skip c (Away loan) l early stands = absurd stands

  has-skipped : (c : ℕ) (slot new : Slot) → c < system.cores → slice_index clocks c < moment → StandsIn system c (slice_index clocks c) slot → HasSkipped system moment slot new → StandsIn system c moment new
  has-skipped c (Here spare state) (Here other after) l early stands done = (
    ap (λ (a : _). arc_value a) done.0 ∙ stands.0,
    skip-stands system takes clocks moment clocks_of reached idle c state.value after.value l early stands.1 done.1 done.2,
  )
  has-skipped c (Here spare state) (Away loan) l early stands done = absurd done
  has-skipped c (Away loan) new l early stands done = absurd stands

  module _ (many : ℕ) (later : List ℕ) (slots : List Slot) (known : many < system.cores) (so_far : HaveSkipped system clocks moment many later slots) where
    pub stands-still : (x : Slot) → StandsIn system many (slice_index clocks many) (get_or slots many x)
    stands-still x = subst (λ t. StandsIn system many t (get_or slots many x)) (so_far.clocks_are.left many (omega arith)) (so_far.stand many x known)

    pub slots-more : (x new : Slot) → slice_index later many < moment → HasSkipped system moment (get_or slots many x) new → HaveSkipped system clocks moment (many + 1) (set later many moment) (set slots many new)
    slots-more x new early done =
        record {
          clocks_are = set-more clocks later moment many (omega arith) so_far.clocks_are early;
          many_are = length-set slots many new ∙ so_far.many_are;
          stand = λ c y p. elim (eqb_tells c many) [
            | inl f ↦ subst (λ b. StandsIn system b (slice_index (set later many moment) b) (get_or (set slots many new) b y)) (sym f.1)
                (let there = so_far.clocks_are.left many (omega arith) in
                rw (get_or-set_same later many moment 0 (let all = so_far.clocks_are.many_are in omega arith), get_or-set_same slots many new y (let all = so_far.many_are in omega arith))
                (has-skipped many (get_or slots many x) new known (omega arith) (stands-still x) done))
            | inr f ↦ rw (get_or-set_other later many c moment 0 f.1, get_or-set_other slots many c new y f.1) (so_far.stand c y p)
          ];
        }

    pub slots-same : moment ≤ slice_index later many → HaveSkipped system clocks moment (many + 1) later slots
    slots-same late = record { clocks_are = set-same clocks later moment many so_far.clocks_are late; many_are = so_far.many_are; stand = so_far.stand }

-- a core that is here
pub placed-parts : (system : System) (horizon c : ℕ) (clocks : List ℕ) (box : List Mail) (slot : Slot) → slot_loan slot ≡ None → IsPlaced system horizon c clocks box slot →
    StandsIn system c (slice_index clocks c) slot × NothingArrivesBefore system c (slice_index clocks c) clocks × (box ≡ inbox system c (slice_index clocks c) clocks)
placed-parts system horizon c clocks box (Here spare state) e placed = ((placed.0, placed.1.state_is), placed.1.reached, placed.1.box_is)
placed-parts system horizon c clocks box (Away loan) e placed = cc

stands-placed : (system : System) (horizon c : ℕ) (clocks : List ℕ) (box : List Mail) (slot : Slot) → StandsIn system c (slice_index clocks c) slot → NothingArrivesBefore system c (slice_index clocks c) clocks →
    box ≡ inbox system c (slice_index clocks c) clocks → IsPlaced system horizon c clocks box slot
stands-placed system horizon c clocks box (Here spare state) stands reached is = (stands.0, record { reached = reached; state_is = stands.1; box_is = is })
stands-placed system horizon c clocks box (Away loan) stands reached is = absurd stands

pub stands-loan : (system : System) (c t : ℕ) (slot : Slot) → StandsIn system c t slot → slot_loan slot ≡ None
stands-loan system c t (Here spare state) stands = refl
stands-loan system c t (Away loan) stands = absurd stands

module _ {S : Type 0} {holds : S → List Row → Type 0} (a : Inside S) (kept : IsKept holds a) (here : AllAreHere (table_of a)) where
  abbrev system : System
  system = arc_value a.system

  parts : (c : ℕ) (x : Slot) (y : Content) → c < system.cores →
      StandsIn system c (slice_index a.clocks c) (get_or a.slots.items c x) × NothingArrivesBefore system c (slice_index a.clocks c) a.clocks
      × ((get_or a.boxes.items c y).mails ≡ inbox system c (slice_index a.clocks c) a.clocks)
  parts c x y l = placed-parts system a.horizon c a.clocks _ (get_or a.slots.items c x) (sym (loan_at a kept c x l) ∙ here c l) (kept.placed c x y l)

  abbrev some_box : Content
  some_box = record { mails = []; spare = 0 }

  abbrev some_slot : Slot
  some_slot = Away (record { past = 0; front = [] })

  pub all-stand : AllStand system a.clocks a.slots.items
  all-stand c x l = (parts c x some_box l).0

  pub all-reached : AreReached system a.clocks
  all-reached c l = (parts c some_slot some_box l).1

  module _ (moment : ℕ) (later : List ℕ) (slots : List Slot) (in_time : moment ≤ a.horizon + 1) (idle : AreIdle system a.clocks moment) (skipped : HaveSkipped system a.clocks moment system.cores later slots) where
    pub all-set : AreSet system a.clocks moment later
    all-set = skipped.clocks_are.done

    pub counts : (c : ℕ) → c < system.cores → OnlyCounts system a.clocks later c
    counts = idle-passes system (takes_time system kept.well_formed) a.clocks later moment all-reached idle all-set

    slots-are : (with_items a.slots slots).items ≡ slots
    slots-are = with_items_is a.slots slots (let ok = a.slots.ok.0 in let many = skipped.many_are in let had = kept.slots_of in omega arith)

    rows-on : (c : ℕ) → c < system.cores → rows_between system c (slice_index a.taken c) (slice_index a.clocks c) ≡ rows_between system c (slice_index a.taken c) (slice_index later c)
    rows-on c p =
        sym (append-nil (rows_between system c (slice_index a.taken c) (slice_index a.clocks c)))
        ∙ ap (λ xs. rows_between system c (slice_index a.taken c) (slice_index a.clocks c) ++ xs) (sym (counts c p).no_rows)
        ∙ rows-join system c (slice_index a.taken c) (slice_index a.clocks c) (slice_index later c) (kept.since.in_order c p) (let now = all-set c p in omega arith)

    pub skipped_desk : IsKept holds (record a { clocks = later; slots = with_items a.slots slots })
    skipped_desk =
        record {
          horizon = kept.horizon;
          well_formed = kept.well_formed;
          few = kept.few;
          clocks_of = skipped.clocks_are.many_are ∙ kept.clocks_of;
          taken_of = kept.taken_of;
          idle = λ b l. skipped.clocks_are.left b l ∙ kept.idle b l;
          slots_of = ap length slots-are ∙ skipped.many_are;
          boxes_of = kept.boxes_of;
          delays_are = kept.delays_are;
          reaches_are = kept.reaches_are;
          since = record {
            in_time = λ c p. (let l = kept.since.in_time c p in let now = all-set c p in omega arith);
            in_order = λ c p. (let l = kept.since.in_order c p in let now = all-set c p in omega arith);
            told_are = record { many_are = kept.since.told_are.many_are; each = λ c x p. subst (holds (get_or a.told.items c x)) (rows-on c p) (kept.since.told_are.each c x p) };
          };
          placed = subst (λ xs. ArePlaced system a.horizon later xs a.boxes.items) (sym slots-are) placed;
        }
      where
        placed : ArePlaced system a.horizon later slots a.boxes.items
        placed c x y p =
            let same = counts c p in
            stands-placed system a.horizon c later _ (get_or slots c x) (skipped.stand c x p) same.reached ((parts c some_slot y p).2 ∙ sym same.same_mail)

    -- no core is lent, as before
    pub skipped_shows : table_of (record a { clocks = later; slots = with_items a.slots slots }) ≡ record (table_of a) { clocks = later }
    skipped_shows =
        ap (λ loans. record (table_of a) { clocks = later; loans = loans })
        (ap (map slot_loan) slots-are
        ∙ no_loans slots (λ c x l. stands-loan system c _ (get_or slots c x) (skipped.stand c x (omega (arith, skipped.many_are))))
        ∙ ap (λ n. replicate n None) (skipped.many_are ∙ sym kept.slots_of)
        ∙ sym (no_loans a.slots.items (λ c x l. stands-loan system c _ (get_or a.slots.items c x) (all-stand c x (omega (arith, kept.slots_of))))))
