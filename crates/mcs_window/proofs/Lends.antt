-- A desk after a core was lent.
use Rattle.std.proofs.Common.{Box, ◌≡◌, ℕ, ◌<◌, ◌≤◌, Some, None, List, [], length, map, get_or, set, inl, inr, refl, sym, ap, ◌∙◌, subst, arith}
use Rattle.std.specs.Prelude.{slice_index}
use Rattle.std.specs.Arc.{arc_value}
use Rattle.std.specs.Vec.{with_item}
use Rattle.std.specs.declared.alloc.Global.{Global}
use Rattle.std.specs.declared.sync.Arc.{Arc}
use Rattle.std.proofs.lemmas.Bool.Decides.{eqb_tells}
use Rattle.std.proofs.lemmas.List.{get_or-set_same, get_or-set_other, get_or-map, length-set, map-set}
use Rattle.mcs_ticks.specs.declared.row.Row.{Row}
use Rattle.mcs_mail.specs.declared.mail.Mail.{Mail}
use Rattle.mcs_mail.specs.Box.{Content}
use Rattle.mcs_system.specs.System.{System}
use Rattle.mcs_core.specs.State.{State}
use Rattle.mcs_window.specs.Desk.{past_of, past_within, loan_of, MayGoOn, MayLend, lent_to, IsFinished, AllAreHere}
use Rattle.mcs_window.specs.Pieces.{IsWork}
use Rattle.mcs_stretch.specs.Stretch.{NothingArrivesBefore}
use Rattle.mcs_window.specs.stored.Cores.{IsHere}
use Rattle.mcs_window.specs.stored.Slots.{slot_loan, table_of, IsAway, IsPlaced, ArePlaced, IsKept}
use Rattle.mcs_window.specs.declared.slot.Loan.{Loan}
use Rattle.mcs_window.specs.declared.slot.Slot.{Slot}
use Rattle.mcs_window.specs.declared.slot.Slot.TheVariants.{Here, Away}
use Rattle.mcs_window.specs.declared.desk.Desk.TheInside.{Inside}
use Rattle.mcs_stretch.proofs.Later.{takes_time}
use Rattle.mcs_window.proofs.Lending.{past_by-in_time, past_by-reached, goes_on}
use Rattle.mcs_stretch.proofs.News.{news-joined}
use Rattle.mcs_stretch.proofs.Reaches.{by-delays}

-- a slot and its box are written, and the others stay
pub placed-set : (system : System) (horizon : ℕ) (clocks : List ℕ) (slots : List Slot) (boxes : List Content) (k : ℕ) (slot : Slot) (box : Content) → ArePlaced system horizon clocks slots boxes →
    k < length slots → k < length boxes → IsPlaced system horizon k clocks box.mails slot → ArePlaced system horizon clocks (set slots k slot) (set boxes k box)
placed-set system horizon clocks slots boxes k slot box old in_slots in_boxes new c x y l = elim (eqb_tells c k) [
  | inl p ↦ same c _ _ _ _ _ p.1 (ap (λ i. get_or (set slots k slot) i x) p.1 ∙ get_or-set_same slots k slot x in_slots)
      (ap (λ i. (get_or (set boxes k box) i y).mails) p.1 ∙ ap (λ (z : Content). z.mails) (get_or-set_same boxes k box y in_boxes)) new
  | inr p ↦ same c _ _ _ _ _ refl (get_or-set_other slots k c slot x p.1) (ap (λ (z : Content). z.mails) (get_or-set_other boxes k c box y p.1)) (old c x y l)
]
  where
    same : (c d : ℕ) (s t : Slot) (m n : List Mail) → c ≡ d → s ≡ t → m ≡ n → IsPlaced system horizon d clocks n t → IsPlaced system horizon c clocks m s
    same c d s t m n e f g h = rw (e, f, g) h

module _ {S : Type 0} {holds : S → List Row → Type 0} (a : Inside S) (kept : IsKept holds a) where
  abbrev system : System
  system = arc_value a.system

  pub loan_at : (k : ℕ) (x : Slot) → k < system.cores → loan_of (table_of a) k ≡ slot_loan (get_or a.slots.items k x)
  loan_at k x l = get_or-map slot_loan a.slots.items k x None (omega (arith, kept.slots_of))

  -- a core that is here
  here_of : (k : ℕ) (slot : Slot) (box : List Mail) (spare : Arc System Global) (state : Box State Global) → slot ≡ Here spare state → IsPlaced system a.horizon k a.clocks box slot →
      (arc_value spare ≡ system) × IsHere system k (slice_index a.clocks k) a.clocks state.value box
  here_of k slot box spare state e placed = subst (IsPlaced system a.horizon k a.clocks box) e placed

  pub here_at : (k : ℕ) (slot : Slot) (box : Content) (spare : Arc System Global) (state : Box State Global) → k < system.cores → slot ≡ Here spare state → slot ≡ get_or a.slots.items k slot →
      box ≡ get_or a.boxes.items k box → (arc_value spare ≡ system) × IsHere system k (slice_index a.clocks k) a.clocks state.value box.mails
  here_at k slot box spare state l e at b_at =
      here_of k (get_or a.slots.items k slot) box.mails spare state (sym at ∙ e)
      (subst (λ (y : Content). IsPlaced system a.horizon k a.clocks y.mails (get_or a.slots.items k slot)) (sym b_at) (kept.placed k slot box l))

  -- a core that may be lent may go on as far as the clocks of all allow
  pub may_go_on : (k : ℕ) → MayLend (table_of a) k → MayGoOn (table_of a) k (past_of (table_of a) k)
  may_go_on k may =
      record {
        known = may.known;
        here = may.here;
        ahead = may.ahead;
        in_time = past_by-in_time (table_of a) k system.cores;
        reached = by-delays system k (past_of (table_of a) k) a.clocks (past_by-reached (table_of a) k system.cores);
        far = λ b l other _. past_by-reached (table_of a) k system.cores b l other;
      }

  -- and for at most `span` moments
  pub may_go_within : (k span : ℕ) → MayLend (table_of a) k → 1 ≤ span → MayGoOn (table_of a) k (past_within (table_of a) span k)
  may_go_within k span may some =
      let all = may_go_on k may in
      let ahead = all.ahead in
      let in_time = all.in_time in
      let no_more : past_within (table_of a) span k ≤ past_of (table_of a) k = omega arith in
      record {
        known = may.known;
        here = may.here;
        ahead = omega arith;
        in_time = omega arith;
        reached = λ b m x l j i e. (let reach = all.reached b m x l j i e in omega arith);
        far = λ b l other signals. (let far = all.far b l other signals in omega arith);
      }

  -- the piece that is lent
  pub lent_work : (k : ℕ) (slot : Slot) (box : Content) (spare : Arc System Global) (state : Box State Global) (first past : ℕ) → MayGoOn (table_of a) k past → slot ≡ Here spare state →
      slot ≡ get_or a.slots.items k slot → box ≡ get_or a.boxes.items k box → first ≡ slice_index a.clocks k →
      IsWork (record { system = arc_value spare; core = k; first = first; past = past; front = a.clocks; state = state.value; mail = box.mails })
  lent_work k slot box spare state first past may e at b_at first_is =
      let here = here_at k slot box spare state may.known e at b_at in
      let ahead = may.ahead in
      let far = may.in_time in
      rw (here.0, first_is) (record {
        stretch = record {
          known = may.known;
          in_order = omega arith;
          in_time = (let horizon = kept.horizon in omega arith);
          reached = may.reached;
          idle = kept.idle;
        };
        state_is = here.1.state_is;
        mail_is = here.1.box_is;
      })

  -- a core that is lent now, for which no mail was made since
  pub away_at : (k : ℕ) (loan : Loan) (box : List Mail) → MayGoOn (table_of a) k loan.past → loan.front ≡ a.clocks → box ≡ [] → IsAway system a.horizon k a.clocks loan box
  away_at k loan box may front none =
      record {
        in_order = (let ahead = may.ahead in omega arith);
        in_time = may.in_time;
        reached = subst (NothingArrivesBefore system k loan.past) (sym front) may.reached;
        rises = λ b _. let same : slice_index loan.front b ≡ slice_index a.clocks b = ap (λ xs. slice_index xs b) front in omega arith;
        box_are = rw (none, front) (news-joined system k loan.past a.clocks).1;
      }

  -- what the desk keeps
  pub lent_kept : (k : ℕ) (slot : Slot) (loan : Loan) (box : Content) → MayGoOn (table_of a) k loan.past → slot ≡ Away loan → loan.front ≡ a.clocks → box.mails ≡ [] →
      IsKept holds (record a { slots = with_item a.slots k slot; boxes = with_item a.boxes k box })
  lent_kept k slot loan box may e front none =
      record {
        horizon = kept.horizon;
        well_formed = kept.well_formed;
        few = kept.few;
        clocks_of = kept.clocks_of;
        taken_of = kept.taken_of;
        idle = kept.idle;
        slots_of = length-set a.slots.items k slot ∙ kept.slots_of;
        boxes_of = length-set a.boxes.items k box ∙ kept.boxes_of;
        delays_are = kept.delays_are;
        reaches_are = kept.reaches_are;
        since = kept.since;
        placed = placed-set system a.horizon a.clocks a.slots.items a.boxes.items k slot box kept.placed (omega (arith, kept.slots_of, may.known)) (omega (arith, kept.boxes_of, may.known))
            (subst (IsPlaced system a.horizon k a.clocks box.mails) (sym e) (away_at k loan box.mails may front none));
      }

  -- what the desk shows
  pub lent_shows : (k past : ℕ) (slot : Slot) (loan : Loan) (box : Content) → slot ≡ Away loan → loan.past ≡ past → loan.front ≡ a.clocks →
      table_of (record a { slots = with_item a.slots k slot; boxes = with_item a.boxes k box }) ≡ lent_to (table_of a) k past
  lent_shows k past slot loan box e past_is front =
      ap (λ loans. record (table_of a) { loans = loans }) (map-set slot_loan a.slots.items k slot ∙ ap (set (map slot_loan a.slots.items) k) (ap slot_loan e ∙ one))
    where
      one : Some loan ≡ Some (record { past = past; front = a.clocks })
      one = rw (← past_is, ← front) refl

  -- if no core is lent and none may be lent, all turns are taken
  pub all_done : AllAreHere (table_of a) → ((c : ℕ) → ¬ MayLend (table_of a) c) → IsFinished (table_of a)
  all_done = goes_on (table_of a) kept.well_formed.limits.cores.0 (takes_time system kept.well_formed) kept.since.in_time
