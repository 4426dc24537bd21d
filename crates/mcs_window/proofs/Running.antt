-- A desk whose cores take their turns in place.
use Rattle.std.proofs.Common.{◌≡◌, ◌≢◌, ℕ, ◌<◌, ◌≤◌, Bool, true, Some, None, List, [], ◌∷◌, ◌++◌, length, map, Vec, get_or, set, inl, inr, refl, sym, ap, ◌∙◌, subst, arith}
use Rattle.std.specs.Prelude.{filter, slice_index}
use Rattle.std.specs.Arc.{arc_value}
use Rattle.std.specs.Vec.{with_item, with_items}
use Rattle.std.specs.declared.alloc.Global.{Global}
use Rattle.std.proofs.lemmas.Bool.Decides.{eqb_tells}
use Rattle.std.proofs.lemmas.List.{get_or-set_same, get_or-set_other, length-set, map-set, with_items_is}
use Rattle.mcs_ticks.specs.declared.row.Row.{Row}
use Rattle.mcs_mail.specs.declared.mail.Mail.{Mail}
use Rattle.mcs_mail.specs.Box.{Content, put_all}
use Rattle.mcs_system.specs.System.{System}
use Rattle.mcs_window.specs.Desk.{Table, MayGoOn, settled_at, lent_to, taken_at, with_lost, turns_left}
use Rattle.mcs_stretch.specs.Inbox.{inbox, is_home}
use Rattle.mcs_stretch.specs.Stretch.{rows_between, NothingArrivesBefore}
use Rattle.mcs_window.specs.stored.Cores.{AreSince}
use Rattle.mcs_window.specs.stored.Delivery.{AreDelivered, AreSameMail}
use Rattle.mcs_window.specs.stored.Slots.{slot_loan, table_of, IsPlaced, ArePlaced, IsKept, StandsIn, MayGo, HasGone, HasGoneAndSent, AreSameBut}
use Rattle.mcs_window.specs.declared.slot.Loan.{Loan}
use Rattle.mcs_window.specs.declared.slot.Slot.{Slot}
use Rattle.mcs_window.specs.declared.slot.Slot.TheVariants.{Here, Away}
use Rattle.mcs_window.specs.declared.desk.Desk.TheInside.{Inside}
use Rattle.mcs_ticks.proofs.Givens.{held_more}
use Rattle.mcs_stretch.proofs.Later.{signals_own}
use Rattle.mcs_window.proofs.Advances.{here_own, since_later}
use Rattle.mcs_stretch.proofs.Deliveries.{signals_from}
use Rattle.mcs_window.proofs.Lending.{turns-fewer}
use Rattle.mcs_window.proofs.Lends.{away_at, loan_at, placed-set}
use Rattle.mcs_stretch.proofs.Ranges.{rows-none}
use Rattle.mcs_window.proofs.Settling.{placed_other}
use Rattle.mcs_window.proofs.Skipping.{placed-parts, stands-loan}

pub at_core : (u t : Table) (k n past : ℕ) → u ≡ t → k ≡ n → MayGoOn t n past → MayGoOn u k past
at_core u t k n past e f may = rw (e, f) may

-- another box takes the place of one, and the others have the mail that they had
pub respent : (boxes full : List Content) (k : ℕ) (box : Content) → k < length boxes → AreSameBut k boxes full → AreSameMail (set boxes k box) (set full k box)
respent boxes full k box l same =
    record { many = length-set full k box ∙ same.many ∙ sym (length-set boxes k box); each = each }
  where
    in_full : k < length full
    in_full = let many = same.many in omega arith

    each : (c : ℕ) (x : Content) → c < length (set boxes k box) → (get_or (set full k box) c x).mails ≡ (get_or (set boxes k box) c x).mails
    each c x m = elim (eqb_tells c k) [
      | inl e ↦ subst (λ d. (get_or (set full k box) d x).mails ≡ (get_or (set boxes k box) d x).mails) (sym e.1)
          (ap (λ (y : Content). y.mails) (get_or-set_same full k box x in_full ∙ sym (get_or-set_same boxes k box x l)))
      | inr e ↦ ap (λ (y : Content). y.mails) (get_or-set_other full k c box x e.1)
          ∙ same.each c x (let one = length-set boxes k box in omega arith) e.1
          ∙ ap (λ (y : Content). y.mails) (sym (get_or-set_other boxes k c box x e.1))
    ]

pub respent_are : (boxes : Vec Content Global) (full : List Content) (k : ℕ) (box : Content) → k < length boxes.items → AreSameBut k boxes.items full → AreSameMail (set boxes.items k box) (set (with_items boxes full).items k box)
respent_are boxes full k box l same =
    subst (λ xs. AreSameMail (set boxes.items k box) (set xs k box)) (sym (with_items_is boxes full (let ok = boxes.ok.0 in let many = same.many in omega arith)))
    (respent boxes.items full k box l same)

-- the rows of a core are taken, or they are gone
pub since_taken : {S : Type 0} {holds : S → List Row → Type 0} (a : Inside S) → IsKept holds a → (k clock : ℕ) (told : List S) (none : S) → k < (arc_value a.system).cores → holds none [] → told ≡ set a.told.items k none
    → clock ≡ slice_index a.clocks k → AreSince holds (arc_value a.system) a.horizon a.clocks (set a.taken k clock) told
since_taken {S} {holds} a kept k clock told none known none_is told_are clock_is =
    record {
      in_time = kept.since.in_time;
      in_order = in_order;
      told_are = record { many_are = ap length told_are ∙ length-set a.told.items k none ∙ kept.since.told_are.many_are; each = λ c x p. subst (λ ts. holds (get_or ts c x) (rows_between (arc_value a.system) c (slice_index (set a.taken k clock) c) (slice_index a.clocks c))) (sym told_are) (each c x p) };
    }
  where
    taken_same : slice_index (set a.taken k clock) k ≡ slice_index a.clocks k
    taken_same = get_or-set_same a.taken k clock 0 (let all = kept.taken_of in let few = kept.few in omega arith) ∙ clock_is

    in_order : (c : ℕ) → c < (arc_value a.system).cores → slice_index (set a.taken k clock) c ≤ slice_index a.clocks c
    in_order c p = elim (eqb_tells c k) [
      | inl e ↦ (let f : slice_index (set a.taken k clock) c ≡ slice_index a.clocks k = ap (slice_index (set a.taken k clock)) e.1 ∙ taken_same in
          let g : slice_index a.clocks c ≡ slice_index a.clocks k = ap (slice_index a.clocks) e.1 in omega arith)
      | inr e ↦ (let f = get_or-set_other a.taken k c clock 0 e.1 in let g = kept.since.in_order c p in omega arith)
    ]

    each : (c : ℕ) (x : S) → c < (arc_value a.system).cores → holds (get_or (set a.told.items k none) c x) (rows_between (arc_value a.system) c (slice_index (set a.taken k clock) c) (slice_index a.clocks c))
    each c x p = elim (eqb_tells c k) [
      | inl e ↦ subst (λ d. holds (get_or (set a.told.items k none) d x) (rows_between (arc_value a.system) d (slice_index (set a.taken k clock) d) (slice_index a.clocks d))) (sym e.1)
          (subst (λ t. holds t (rows_between (arc_value a.system) k (slice_index (set a.taken k clock) k) (slice_index a.clocks k))) (sym (get_or-set_same a.told.items k none x (let all = kept.since.told_are.many_are in omega arith)))
          (subst (holds none) (sym (rows-none (arc_value a.system) k (slice_index a.clocks k)) ∙ ap (λ t. rows_between (arc_value a.system) k t (slice_index a.clocks k)) (sym taken_same)) none_is))
      | inr e ↦ subst (λ t. holds t (rows_between (arc_value a.system) c (slice_index (set a.taken k clock) c) (slice_index a.clocks c))) (sym (get_or-set_other a.told.items k c none x e.1))
          (subst (λ t. holds (get_or a.told.items c x) (rows_between (arc_value a.system) c t (slice_index a.clocks c))) (sym (get_or-set_other a.taken k c clock 0 e.1)) (kept.since.told_are.each c x p))
    ]

pub taken_kept : {S : Type 0} {holds : S → List Row → Type 0} (a : Inside S) → IsKept holds a → (k clock : ℕ) (none : S) → k < (arc_value a.system).cores → holds none [] → clock ≡ slice_index a.clocks k
    → IsKept holds (record a { taken = set a.taken k clock; told = with_item a.told k none })
taken_kept a kept k clock none known none_is clock_is =
    record {
      horizon = kept.horizon;
      well_formed = kept.well_formed;
      few = kept.few;
      clocks_of = kept.clocks_of;
      taken_of = length-set a.taken k clock ∙ kept.taken_of;
      idle = kept.idle;
      slots_of = kept.slots_of;
      boxes_of = kept.boxes_of;
      delays_are = kept.delays_are;
      reaches_are = kept.reaches_are;
      since = since_taken a kept k clock (set a.told.items k none) none known none_is refl clock_is;
      placed = kept.placed;
    }

module _ {S : Type 0} {holds : S → List Row → Type 0} (a : Inside S) (kept : IsKept holds a) (k past : ℕ) (may : MayGoOn (table_of a) k past) where
  abbrev system : System
  system = arc_value a.system

  pub in_slots : k < length a.slots.items
  in_slots = let all = kept.slots_of in let h = may.known in omega arith

  pub in_clocks : k < length a.clocks
  in_clocks = let all = kept.clocks_of in let few = kept.few in let h = may.known in omega arith

  pub in_boxes : k < length a.boxes.items
  in_boxes = let all = kept.boxes_of in let h = may.known in omega arith

  pub may_go : (slot : Slot) → slot ≡ get_or a.slots.items k slot → (box : Content) → MayGo system k past a.clocks slot (get_or a.boxes.items k box).mails
  may_go slot at box =
      record {
        known = may.known;
        stands = subst (StandsIn system k (slice_index a.clocks k)) (sym at) parts.0;
        box_is = parts.2;
        ahead = may.ahead;
        in_time = (let h = may.in_time in let horizon = kept.horizon in omega arith);
        reached = may.reached;
      }
    where
      parts : StandsIn system k (slice_index a.clocks k) (get_or a.slots.items k slot) × NothingArrivesBefore system k (slice_index a.clocks k) a.clocks
          × ((get_or a.boxes.items k box).mails ≡ inbox system k (slice_index a.clocks k) a.clocks)
      parts = placed-parts system a.horizon k a.clocks _ (get_or a.slots.items k slot) (sym (loan_at a kept k slot may.known) ∙ may.here) (kept.placed k slot box may.known)

  -- the core has taken its turns
  module _ (takes : S → Row → Bool → S → Type 0) (holds_more : (s t : S) (held : List Row) (row : Row) → holds s held → takes s row true t → holds t (held ++ row ∷ [])) (to : ℕ) (after : Slot) (full : List Content) (old new : S)
      (out : Vec Mail Global) (went : HasGoneAndSent takes system k past a.clocks old a.boxes.items after full new out.items to) (at : old ≡ get_or a.told.items k old) where
    abbrev left : Content
    left = went.left

    gone : HasGone takes system k past a.clocks old after left.mails new out.items to
    gone = went.gone

    delivered : AreDelivered system out.items (set a.boxes.items k left) full
    delivered = went.delivered

    forward : slice_index a.clocks k ≤ to
    forward = let l = gone.later in omega arith

    so_far : NothingArrivesBefore system k to a.clocks
    so_far b m x l j i e = let reach = may.reached b m x l j i e in let h = gone.in_time in omega arith

    signals_are : out.items ≡ signals_from system a.clocks (set a.clocks k to)
    signals_are = gone.signals_are ∙ signals_own system a.clocks k to in_clocks may.known

    box_later : (b : ℕ) (y : Content) (ms : List Mail) → b < system.cores → (get_or (set a.boxes.items k left) b y).mails ≡ ms
        → (get_or full b y).mails ≡ put_all (filter (is_home system b) (signals_from system a.clocks (set a.clocks k to))) ms
    box_later b y ms p e =
        delivered.each b y (let all = kept.boxes_of in let same = length-set a.boxes.items k left in omega arith)
        ∙ ap (λ ms. put_all (filter (is_home system b) ms) (get_or (set a.boxes.items k left) b y).mails) signals_are
        ∙ ap (put_all (filter (is_home system b) (signals_from system a.clocks (set a.clocks k to)))) e

    own : (x : Slot) (y : Content) → IsPlaced system a.horizon k (set a.clocks k to) (get_or full k y).mails (get_or (set a.slots.items k after) k x)
    own x y =
        subst (IsPlaced system a.horizon k (set a.clocks k to) (get_or full k y).mails) (sym (get_or-set_same a.slots.items k after x in_slots))
        (subst (λ ms. IsPlaced system a.horizon k (set a.clocks k to) ms after) (sym (box_later k y left.mails may.known (ap (λ (z : Content). z.mails) (get_or-set_same a.boxes.items k left y (let all = kept.boxes_of in let h = may.known in omega arith)))))
        (here_after after gone.stands))
      where
        here_after : (slot : Slot) → StandsIn system k to slot → IsPlaced system a.horizon k (set a.clocks k to) (put_all (filter (is_home system k) (signals_from system a.clocks (set a.clocks k to))) left.mails) slot
        here_after (Here spare state) stands = (stands.0, here_own system kept.well_formed a.clocks k to in_clocks state.value left.mails forward so_far stands.1 gone.box_is)
        here_after (Away loan) stands = absurd stands

    other : (b : ℕ) (x : Slot) (y : Content) → b < system.cores → b ≢ k → IsPlaced system a.horizon b (set a.clocks k to) (get_or full b y).mails (get_or (set a.slots.items k after) b x)
    other b x y p e =
        subst (IsPlaced system a.horizon b (set a.clocks k to) (get_or full b y).mails) (sym (get_or-set_other a.slots.items k b after x e))
        (subst (λ ms. IsPlaced system a.horizon b (set a.clocks k to) ms (get_or a.slots.items b x)) (sym (box_later b y _ p (ap (λ (z : Content). z.mails) (get_or-set_other a.boxes.items k b left y e))))
        (placed_other system kept.well_formed a.clocks k to in_clocks forward a.horizon b (get_or a.boxes.items b y).mails (get_or a.slots.items b x) e (kept.placed b x y p)))

    placed : ArePlaced system a.horizon (set a.clocks k to) (set a.slots.items k after) full
    placed b x y p = elim (eqb_tells b k) [
      | inl e ↦ subst (λ d. IsPlaced system a.horizon d (set a.clocks k to) (get_or full d y).mails (get_or (set a.slots.items k after) d x)) (sym e.1) (own x y)
      | inr e ↦ other b x y p e.1
    ]

    boxes_are : (with_items a.boxes full).items ≡ full
    boxes_are = with_items_is a.boxes full (let ok = a.boxes.ok.0 in let many = delivered.many in let same = length-set a.boxes.items k left in omega arith)

    pub gone_kept : IsKept holds (record a {
      clocks = set a.clocks k to;
      slots = with_item a.slots k after;
      boxes = with_items a.boxes full;
      told = with_item a.told k new;
      signals = out;
    })
    gone_kept =
        record {
          horizon = kept.horizon;
          well_formed = kept.well_formed;
          few = kept.few;
          clocks_of = length-set a.clocks k to ∙ kept.clocks_of;
          taken_of = kept.taken_of;
          idle = λ b l. (let ne : b ≢ k = (let h = may.known in omega arith) in get_or-set_other a.clocks k b to 0 ne ∙ kept.idle b l);
          slots_of = length-set a.slots.items k after ∙ kept.slots_of;
          boxes_of = ap length boxes_are ∙ delivered.many ∙ length-set a.boxes.items k left ∙ kept.boxes_of;
          delays_are = kept.delays_are;
          reaches_are = kept.reaches_are;
          since = since_later system kept.well_formed a.clocks k to in_clocks a.horizon a.taken a.told.items kept.since may.known forward (let h = gone.in_time in let l = may.in_time in omega arith) old new at
              (λ held h. held_more takes holds holds_more old new held _ h gone.told);
          placed = subst (λ boxes. ArePlaced system a.horizon (set a.clocks k to) (set a.slots.items k after) boxes) (sym boxes_are) placed;
        }

    loans_are : map slot_loan (set a.slots.items k after) ≡ set (map slot_loan a.slots.items) k None
    loans_are = map-set slot_loan a.slots.items k after ∙ ap (set (map slot_loan a.slots.items) k) (stands-loan system k to after gone.stands)

    pub gone_shows : table_of (record a { clocks = set a.clocks k to; slots = with_item a.slots k after; boxes = with_items a.boxes full; told = with_item a.told k new; signals = out }) ≡ settled_at (table_of a) k to
    gone_shows = ap (λ loans. record (settled_at (table_of a) k to) { loans = loans }) loans_are

    pub gone_clock : slice_index (set a.clocks k to) k ≡ to
    gone_clock = get_or-set_same a.clocks k to 0 in_clocks

    pub gone_fewer : turns_left (settled_at (table_of a) k to) < turns_left (table_of a)
    gone_fewer =
        turns-fewer (table_of a) k to may.known (let all = kept.clocks_of in let few = kept.few in omega arith) gone.later
        (let l = gone.in_time in let h = may.in_time in omega arith)

  -- the desk shows a core that stays lent, without its rows
  pub spent_shows : (slots : List Slot) (loan : Loan) (clock : ℕ) → loan.past ≡ past → loan.front ≡ a.clocks → slots ≡ set a.slots.items k (Away loan) → clock ≡ slice_index a.clocks k →
      record (table_of a) { lost = true; taken = set a.taken k clock; loans = map slot_loan slots } ≡ taken_at (with_lost (lent_to (table_of a) k past)) k
  spent_shows slots loan clock past_is front_is slots_are clock_is =
      ap (λ loans. record (table_of a) { lost = true; taken = set a.taken k clock; loans = loans })
      (ap (map slot_loan) slots_are ∙ map-set slot_loan a.slots.items k (Away loan) ∙ ap (λ l. set (map slot_loan a.slots.items) k (Some l)) one)
      ∙ ap (λ t. record (with_lost (lent_to (table_of a) k past)) { taken = set a.taken k t }) clock_is
    where
      one : loan ≡ record { past = past; front = a.clocks }
      one = rw (← past_is, ← front_is) refl

  -- memory ran out: the core stays lent, without its mail and its rows
  module _ (slots : Vec Slot Global) (boxes : Vec Content Global) (told : Vec S Global) (signals : Vec Mail Global) (loan : Loan) (box : Content) (none : S) (past_is : loan.past ≡ past)
      (front_is : loan.front ≡ a.clocks) (box_is : box.mails ≡ []) (none_is : holds none []) (slots_are : slots.items ≡ set a.slots.items k (Away loan)) (boxes_are : AreSameMail (set a.boxes.items k box) boxes.items)
      (told_are : told.items ≡ set a.told.items k none) (clock : ℕ) (clock_is : clock ≡ slice_index a.clocks k) where
    placed_away : ArePlaced system a.horizon a.clocks slots.items boxes.items
    placed_away c x y p =
        subst (λ xs. IsPlaced system a.horizon c a.clocks (get_or boxes.items c y).mails (get_or xs c x)) (sym slots_are)
        (subst (λ ms. IsPlaced system a.horizon c a.clocks ms (get_or (set a.slots.items k (Away loan)) c x)) (sym (boxes_are.each c y (let all = kept.boxes_of in let same = length-set a.boxes.items k box in omega arith)))
        (placed-set system a.horizon a.clocks a.slots.items a.boxes.items k (Away loan) box kept.placed in_slots (let all = kept.boxes_of in let h = may.known in omega arith)
        (away_at a kept k loan box.mails (subst (MayGoOn (table_of a) k) (sym past_is) may) front_is box_is) c x y p))

    pub spent_kept : IsKept holds (record a {
      lost = true;
      taken = set a.taken k clock;
      slots = slots;
      boxes = boxes;
      told = told;
      signals = signals;
    })
    spent_kept =
        record {
          horizon = kept.horizon;
          well_formed = kept.well_formed;
          few = kept.few;
          clocks_of = kept.clocks_of;
          taken_of = length-set a.taken k clock ∙ kept.taken_of;
          idle = kept.idle;
          slots_of = ap length slots_are ∙ length-set a.slots.items k (Away loan) ∙ kept.slots_of;
          boxes_of = boxes_are.many ∙ length-set a.boxes.items k box ∙ kept.boxes_of;
          delays_are = kept.delays_are;
          reaches_are = kept.reaches_are;
          since = since_taken a kept k clock told.items none may.known none_is told_are clock_is;
          placed = placed_away;
        }
