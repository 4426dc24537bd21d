-- Room for a settlement, and the boxes that get its mail.
use Rattle.std.proofs.Common.{Box, ◌≡◌, ◌≢◌, ℕ, zero, suc, ◌+◌, ◌-◌, ◌<◌, ◌≤◌, Bool, true, false, cond, List, [], ◌∷◌, ◌++◌, length, Vec, get_or, set, take, drop, Some, None, Result, Ok, Err, inl, inr, refl, sym, ap, ◌∙◌, subst, arith}
use Rattle.std.specs.Prelude.{filter, ◌==◌, slice_index, is_err, OnOk}
use Rattle.std.specs.Arc.{arc_value}
use Rattle.std.specs.Vec.{with_item, with_items}
use Rattle.std.specs.declared.alloc.Global.{Global}
use Rattle.std.specs.declared.sync.Arc.{Arc}
use Rattle.std.proofs.lemmas.Bool.Decides.{eqb_tells, nat_tests}
use Rattle.std.proofs.lemmas.List.{map-set, get_or-map, get_or-set_same, get_or-set_other, get_or_default, length-set, drop_more, with_items_is}
use Rattle.std.proofs.lemmas.List.Filters.{length-filter_more}
use Rattle.mcs_ticks.specs.Queue.{in_one_list}
use Rattle.mcs_ticks.specs.declared.row.Row.{Row}
use Rattle.mcs_mail.specs.declared.mail.Mail.{Mail}
use Rattle.mcs_mail.specs.Box.{Content, put_all}
use Rattle.mcs_system.specs.System.{System, note_part}
use Rattle.mcs_system.specs.WellFormed.{IsWellFormed}
use Rattle.mcs_core.specs.Clock as clocks
use Rattle.mcs_core.specs.State.{State}
use Rattle.mcs_core.proofs.Mails as mails
use Rattle.mcs_window.specs.Desk.{settled_at, IsLoan}
use Rattle.mcs_stretch.specs.Inbox.{inbox, signals_between, AreNews, Rises, is_home}
use Rattle.mcs_window.specs.Pieces.{Outcome, IsOutcome}
use Rattle.mcs_stretch.specs.Stretch.{StandsAt, rows_between, NothingArrivesBefore}
use Rattle.mcs_window.specs.declared.slot.Loan.{Loan}
use Rattle.mcs_window.specs.declared.slot.Slot.{Slot}
use Rattle.mcs_window.specs.declared.slot.Slot.TheVariants.{Here, Away}
use Rattle.mcs_window.specs.declared.desk.Desk.TheInside.{Inside}
use Rattle.mcs_window.specs.stored.Cores.{IsHere}
use Rattle.mcs_window.specs.stored.Delivery.{count_for, HaveRoom, AreSameMail, AreDelivered, IsJoined}
use Rattle.mcs_window.specs.stored.Slots.{slot_loan, table_of, IsAway, IsPlaced, ArePlaced, IsKept}
use Rattle.mcs_stretch.proofs.Boxes.{filter-flat_map-none, out_of_turn}
use Rattle.mcs_stretch.proofs.Joins.{inbox-joined}
use Rattle.mcs_stretch.proofs.News.{news-are, news-joined}
use Rattle.mcs_stretch.proofs.Deliveries.{signals_from, home-news}
use Rattle.mcs_window.proofs.Advances.{here_own, here_other, since_later}
use Rattle.mcs_stretch.proofs.Later.{takes_time, rises, later_other, signals_own}

-- at most i of the first i signals are for a core
pub count-fits : (system : System) (c i : ℕ) (signals : List Mail) → count_for system c (take i signals) ≤ i
count-fits system c zero signals = omega arith
count-fits system c (suc i) [] = omega arith
count-fits system c (suc i) (mail ∷ signals) = by (is_home system c mail) (count-fits system c i signals)
  where
    by : (u : Bool) → count_for system c (take i signals) ≤ i → length (cond u (mail ∷ filter (is_home system c) (take i signals)) (filter (is_home system c) (take i signals))) ≤ suc i
    by true h = omega arith
    by false h = omega arith

-- one more signal is counted for its home
pub counted-more : (system : System) (signals : List Mail) (i h : ℕ) (mail : Mail) (counts : List ℕ) (n : ℕ) → i < length signals → mail ≡ get_or signals i mail → h ≡ (note_part system mail.note).core
    → h < length counts → ((c : ℕ) → c < n → slice_index counts c ≡ count_for system c (take i signals)) →
    (c : ℕ) → c < n → slice_index (set counts h (get_or counts h 0 + 1)) c ≡ count_for system c (take (i + 1) signals)
counted-more system signals i h mail counts n l is home known so_far c k = rw (length-filter_more (is_home system c) signals i mail l, ← is) (by (h == c) refl)
  where
    same_test : (h == c) ≡ is_home system c mail
    same_test = ap (λ core. core == c) home

    by : (u : Bool) → (h == c) ≡ u → slice_index (set counts h (get_or counts h 0 + 1)) c ≡ count_for system c (take i signals) + cond (is_home system c mail) 1 0
    by true e =
        let f : h ≡ c = grind (arith, nat_tests) in
        rw (← same_test, e)
        (ap (λ d. slice_index (set counts h (get_or counts h 0 + 1)) d) (sym f) ∙ get_or-set_same counts h (get_or counts h 0 + 1) 0 known ∙ ap (λ d. get_or counts d 0 + 1) f ∙ ap (λ m. m + 1) (so_far c k))
    by false e =
        let f : c ≢ h = grind (arith, nat_tests) in
        rw (← same_test, e) (get_or-set_other counts h c (get_or counts h 0 + 1) 0 f ∙ so_far c k ∙ omega arith)

-- the next box has room
pub room-next : (system : System) (signals : List Mail) (k : ℕ) (boxes : List Content) (new : Content) → k < length boxes → count_for system k signals ≤ new.spare
    → ((c : ℕ) (x : Content) → c < k → count_for system c signals ≤ (get_or boxes c x).spare) →
    (c : ℕ) (x : Content) → c < k + 1 → count_for system c signals ≤ (get_or (set boxes k new) c x).spare
room-next system signals k boxes new l here so_far c x m = elim (eqb_tells c k) [
  | inl e ↦ (let got : get_or (set boxes k new) c x ≡ new = ap (λ i. get_or (set boxes k new) i x) e.1 ∙ get_or-set_same boxes k new x l in
      subst (λ (y : Content). count_for system c signals ≤ y.spare) (sym got) (subst (λ i. count_for system i signals ≤ new.spare) (sym e.1) here))
  | inr e ↦ subst (λ (y : Content). count_for system c signals ≤ y.spare) (sym (get_or-set_other boxes k c new x e.1)) (so_far c x (let f = e.1 in omega arith))
]

-- a box with the same mail takes the place of another
pub same_mail-set : (before boxes : List Content) (k : ℕ) (held new : Content) → AreSameMail before boxes → k < length boxes → held ≡ get_or boxes k held → new.mails ≡ held.mails
    → AreSameMail before (set boxes k new)
same_mail-set before boxes k held new so_far l at same =
    record { many = length-set boxes k new ∙ so_far.many; each = each }
  where
    each : (c : ℕ) (x : Content) → c < length before → (get_or (set boxes k new) c x).mails ≡ (get_or before c x).mails
    each c x m = elim (eqb_tells c k) [
      | inl e ↦ ap (λ i. (get_or (set boxes k new) i x).mails) e.1 ∙ ap (λ (y : Content). y.mails) (get_or-set_same boxes k new x l)
          ∙ same ∙ ap (λ (y : Content). y.mails) (at ∙ get_or_default boxes k held x l) ∙ ap (λ i. (get_or boxes i x).mails) (sym e.1) ∙ so_far.each c x m
      | inr e ↦ ap (λ (y : Content). y.mails) (get_or-set_other boxes k c new x e.1) ∙ so_far.each c x m
    ]

-- there is room for what is left when one signal was put into the box of its home
pub room-less : (system : System) (signals : List Mail) (i h : ℕ) (mail : Mail) (boxes : List Content) (held new : Content) → i < length signals → mail ≡ get_or signals i mail → h ≡ (note_part system mail.note).core
    → h < length boxes → held ≡ get_or boxes h held → held.spare ≤ new.spare + 1 → HaveRoom system (drop i signals) boxes → HaveRoom system (drop (i + 1) signals) (set boxes h new)
room-less system signals i h mail boxes held new l is home known at less room c x k = by (h == c) refl
  where
    first : drop i signals ≡ mail ∷ drop (i + 1) signals
    first = drop_more signals i mail l ∙ ap (λ m. m ∷ drop (i + 1) signals) (sym is)

    inside : c < length boxes
    inside = omega (arith, length-set boxes h new)

    same_test : (h == c) ≡ is_home system c mail
    same_test = ap (λ core. core == c) home

    had : count_for system c (mail ∷ drop (i + 1) signals) ≤ (get_or boxes c x).spare
    had = subst (λ ms. count_for system c ms ≤ (get_or boxes c x).spare) first (room c x inside)

    own : h ≡ c → is_home system c mail ≡ true → count_for system c (drop (i + 1) signals) ≤ (get_or (set boxes h new) c x).spare
    own e t =
        let got : get_or (set boxes h new) c x ≡ new = ap (λ j. get_or (set boxes h new) j x) (sym e) ∙ get_or-set_same boxes h new x known in
        let was : held ≡ get_or boxes c x = at ∙ get_or_default boxes h held x known ∙ ap (λ j. get_or boxes j x) e in
        let one : suc (count_for system c (drop (i + 1) signals)) ≤ (get_or boxes c x).spare = rw t at had in
        let s : held.spare ≡ (get_or boxes c x).spare = ap (λ (y : Content). y.spare) was in
        subst (λ (y : Content). count_for system c (drop (i + 1) signals) ≤ y.spare) (sym got) (omega arith)

    other : h ≢ c → is_home system c mail ≡ false → count_for system c (drop (i + 1) signals) ≤ (get_or (set boxes h new) c x).spare
    other e t =
        let kept : count_for system c (drop (i + 1) signals) ≤ (get_or boxes c x).spare = rw t at had in
        subst (λ (y : Content). count_for system c (drop (i + 1) signals) ≤ y.spare) (sym (get_or-set_other boxes h c new x (λ f. e (sym f)))) kept

    by : (u : Bool) → (h == c) ≡ u → count_for system c (drop (i + 1) signals) ≤ (get_or (set boxes h new) c x).spare
    by true e =
        let f : h ≡ c = grind (arith, nat_tests) in
        own f (sym same_test ∙ e)
    by false e =
        let f : h ≢ c = grind (arith, nat_tests) in
        other f (sym same_test ∙ e)

-- a core's signals are for other cores
away-none : (system : System) (c m : ℕ) (ms : List Mail) → mails.IsOutgoing in_one_list system c m ms → filter (is_home system c) ms ≡ []
away-none system c m [] k = refl
away-none system c m (mail ∷ []) k =
    let f = k.away in
    let e : ((note_part system mail.note).core == c) ≡ false = grind (arith, nat_tests) in
    rw e refl
away-none system c m (mail ∷ next ∷ ms) k = absurd k

pub own-none : (system : System) (c low high : ℕ) → filter (is_home system c) (signals_between system c low high) ≡ []
own-none system c low high =
    filter-flat_map-none (is_home system c) (λ m. (clocks.turn_of system c m).mails) (high - low) low
    (λ m _ _. away-none system c m (clocks.turn_of system c m).mails (out_of_turn system 0 [] c m))

-- the box that comes back needs no room for them
pub room-joined : (system : System) (c : ℕ) (out : List Mail) (mailbox : Content) (boxes joined : List Content) → HaveRoom system out boxes → IsJoined c mailbox boxes joined → filter (is_home system c) out ≡ []
    → HaveRoom system out joined
room-joined system c out mailbox boxes joined room is none b x l = elim (eqb_tells b c) [
  | inl e ↦ (let f : count_for system b out ≡ 0 = ap (λ d. count_for system d out) e.1 ∙ ap length none in omega arith)
  | inr e ↦ (let many = is.many in subst (λ (y : Content). count_for system b out ≤ y.spare) (sym (is.others b x e.1)) (room b x (omega arith)))
]

-- by later clocks the signals for a core that is lent are those that there were and the new ones
module _ (system : System) (well : IsWellFormed system) (front : List ℕ) (c to : ℕ) (known : c < length front) (forward : slice_index front c ≤ to) where
  abbrev later : List ℕ
  later = set front c to

  abbrev with_delivered : ℕ → List Mail → List Mail
  with_delivered b box = put_all (filter (is_home system b) (signals_from system front later)) box

  up : Rises system front later
  up = rises system front c to known forward

  -- what the loan allows, the clocks allow
  still : (b past : ℕ) (before : List ℕ) → NothingArrivesBefore system b past before → Rises system before front → NothingArrivesBefore system b past front
  still b past before reached rise d m x q l i e = let g = rise d q in reached d m x q (omega arith) i e

  away_later : (horizon b : ℕ) (loan : Loan) (box : List Mail) → b ≢ c → IsAway system horizon b front loan box → IsAway system horizon b later loan (with_delivered b box)
  away_later horizon b loan box other away =
      record {
        in_order = (let same = later_other system front c to known b other in let f = away.in_order in omega arith);
        in_time = away.in_time;
        reached = away.reached;
        rises = λ d q. (let f = away.rises d q in let g = up d q in omega arith);
        box_are = (news-joined system b loan.past loan.front).2 front later box _ away.rises up away.box_are
            (subst (λ ms. AreNews system b loan.past front later ms) (sym (home-news system b loan.past front later (still b loan.past loan.front away.reached away.rises))) (news-are system b loan.past front later));
      }

  -- each other core keeps its place
  pub placed_other : (horizon b : ℕ) (box : List Mail) (slot : Slot) → b ≢ c → IsPlaced system horizon b front box slot → IsPlaced system horizon b later (with_delivered b box) slot
  placed_other horizon b box (Here spare state) other placed = (placed.0, here_other system well front c to known b state.value box other forward placed.1)
  placed_other horizon b box (Away loan) other placed = away_later horizon b loan box other placed

  -- the core that comes back
  come_back : (horizon : ℕ) (loan : Loan) (box mail joined : List Mail) (state : State) → IsAway system horizon c front loan box → loan.past ≡ to → StandsAt system c to state
      → mail ≡ inbox system c to loan.front → joined ≡ put_all box mail → IsHere system c (slice_index later c) later state (with_delivered c joined)
  come_back horizon loan box mail joined state away end stands is all =
      here_own system well front c to known state joined forward (rw end at (still c loan.past loan.front away.reached away.rises)) stands
      (all ∙ ap (put_all box) is ∙ inbox-joined system (takes_time system well) c to loan.front front box away.rises (rw end at away.box_are))

lent : (system : System) (horizon c : ℕ) (clocks : List ℕ) (box : List Mail) (slot : Slot) (loan : Loan) → slot_loan slot ≡ Some loan → IsPlaced system horizon c clocks box slot → IsAway system horizon c clocks loan box
lent system horizon c clocks box (Here spare state) loan is placed = cc
lent system horizon c clocks box (Away other) loan is placed = let e : other ≡ loan = cc in subst (λ l. IsAway system horizon c clocks l box) e placed

pub when_not_err : {A B : Type 0} (P : Type 0) (r : Result A B) → is_err r ≡ false → OnOk r P → P
when_not_err P (Ok x) e h = h
when_not_err P (Err x) e h = cc

pub roomy_are : (boxes : Vec Content Global) (full : List Content) → AreSameMail boxes.items full → (with_items boxes full).items ≡ full
roomy_are boxes full same = with_items_is boxes full (let ok = boxes.ok.0 in let many = same.many in omega arith)

pub joined_are : (boxes : Vec Content Global) (c : ℕ) (mailbox : Content) (items joined : List Content) → boxes.items ≡ items → IsJoined c mailbox items joined → (with_items boxes joined).items ≡ joined
joined_are boxes c mailbox items joined are is = with_items_is boxes joined (let ok = boxes.ok.0 in let many = is.many in let e = ap length are in omega arith)

-- each box has more room
pub boxes_roomy : {S : Type 0} {holds : S → List Row → Type 0} (a : Inside S) (full : List Content) → IsKept holds a → AreSameMail a.boxes.items full → IsKept holds (record a { boxes = with_items a.boxes full })
boxes_roomy a full kept same =
    record {
      horizon = kept.horizon;
      well_formed = kept.well_formed;
      few = kept.few;
      clocks_of = kept.clocks_of;
      taken_of = kept.taken_of;
      idle = kept.idle;
      slots_of = kept.slots_of;
      boxes_of = ap length are ∙ same.many ∙ kept.boxes_of;
      delays_are = kept.delays_are;
      reaches_are = kept.reaches_are;
      since = kept.since;
      placed = subst (λ boxes. ArePlaced (arc_value a.system) a.horizon a.clocks a.slots.items boxes) (sym are) placed;
    }
  where
    are : (with_items a.boxes full).items ≡ full
    are = roomy_are a.boxes full same

    placed : ArePlaced (arc_value a.system) a.horizon a.clocks a.slots.items full
    placed b slot box l =
        let many = kept.boxes_of in
        subst (λ ms. IsPlaced (arc_value a.system) a.horizon b a.clocks ms (get_or a.slots.items b slot)) (sym (same.each b box (omega arith))) (kept.placed b slot box l)

-- the rows that a core told since they were last taken
abbrev rows_since : {S : Type 0} → Inside S → ℕ → List Row
rows_since a b = rows_between (arc_value a.system) b (slice_index a.taken b) (slice_index a.clocks b)

-- what a core told has more room
pub told_roomy : {S : Type 0} {holds : S → List Row → Type 0} (a : Inside S) (k : ℕ) (old new : S) → IsKept holds a → k < (arc_value a.system).cores → old ≡ get_or a.told.items k old
    → ((held : List Row) → holds old held → holds new held) → IsKept holds (record a { told = with_item a.told k new })
told_roomy {S} {holds} a k old new kept h at same =
    record {
      horizon = kept.horizon;
      well_formed = kept.well_formed;
      few = kept.few;
      clocks_of = kept.clocks_of;
      taken_of = kept.taken_of;
      idle = kept.idle;
      slots_of = kept.slots_of;
      boxes_of = kept.boxes_of;
      delays_are = kept.delays_are;
      reaches_are = kept.reaches_are;
      since = record {
        in_time = kept.since.in_time;
        in_order = kept.since.in_order;
        told_are = record { many_are = length-set a.told.items k new ∙ kept.since.told_are.many_are; each = each };
      };
      placed = kept.placed;
    }
  where
    each : (b : ℕ) (x : S) → b < (arc_value a.system).cores → holds (get_or (set a.told.items k new) b x) (rows_since a b)
    each b x p = elim (eqb_tells b k) [
      | inl e ↦ subst (λ d. holds (get_or (set a.told.items k new) d x) (rows_since a d)) (sym e.1)
          (subst (λ t. holds t (rows_since a k)) (sym (get_or-set_same a.told.items k new x (let all = kept.since.told_are.many_are in omega arith)))
          (same (rows_since a k) (subst (λ t. holds t (rows_since a k)) (sym at) (kept.since.told_are.each k old h))))
      | inr e ↦ subst (λ t. holds t (rows_since a b)) (sym (get_or-set_other a.told.items k b new x e.1)) (kept.since.told_are.each b x p)
    ]

-- a stretch that was lent
module _ {S : Type 0} {holds : S → List Row → Type 0} (a : Inside S) (kept : IsKept holds a) (done : Outcome) (are : IsOutcome done) (same : done.system ≡ arc_value a.system) (loan : IsLoan (table_of a) done) where
  abbrev system : System
  system = arc_value a.system

  abbrev k : ℕ
  k = done.core

  pub inside : k < system.cores
  inside = let h = are.stretch.known in let e = ap (λ (s : System). s.cores) same in omega arith

  -- its signals are for other cores
  pub out-none : filter (is_home system k) done.out ≡ []
  out-none = ap (filter (is_home system k)) (rw same at are.out_is) ∙ own-none system k done.first done.past

  module _ (spare : Arc System Global) (state : Box State Global) (boxed : state.value ≡ done.state) (mailbox : Content) (joined full : List Content) (old new : S) (copy : arc_value spare ≡ done.system) (mails_are : mailbox.mails ≡ done.mail)
      (is_joined : IsJoined k mailbox a.boxes.items joined) (delivered : AreDelivered system done.out joined full) (at : old ≡ get_or a.told.items k old)
      (more : (held : List Row) → holds old held → holds new (held ++ done.rows)) where
    abbrev back : Slot
    back = Here spare state

    there : k < length a.clocks
    there = let all = kept.clocks_of in let few = kept.few in let h = inside in omega arith

    in_slots : k < length a.slots.items
    in_slots = let all = kept.slots_of in let h = inside in omega arith

    abbrev the_loan : Loan
    the_loan = record { past = done.past; front = done.front }

    away : (x : Content) → IsAway system a.horizon k a.clocks the_loan (get_or a.boxes.items k x).mails
    away x =
        lent system a.horizon k a.clocks (get_or a.boxes.items k x).mails (get_or a.slots.items k back) the_loan (sym (get_or-map slot_loan a.slots.items k back None in_slots) ∙ loan.loan)
        (kept.placed k back x inside)

    forward : slice_index a.clocks k ≤ done.past
    forward = (away mailbox).in_order

    signals_are : done.out ≡ signals_from system a.clocks (set a.clocks k done.past)
    signals_are =
        rw same at are.out_is ∙ ap (λ m. signals_between system k m done.past) loan.first
        ∙ signals_own system a.clocks k done.past there inside

    box_later : (b : ℕ) (y : Content) (ms : List Mail) → b < system.cores → (get_or joined b y).mails ≡ ms
        → (get_or full b y).mails ≡ put_all (filter (is_home system b) (signals_from system a.clocks (set a.clocks k done.past))) ms
    box_later b y ms p e =
        delivered.each b y (let many = is_joined.many in let all = kept.boxes_of in omega arith)
        ∙ ap (λ out. put_all (filter (is_home system b) out) (get_or joined b y).mails) signals_are
        ∙ ap (put_all (filter (is_home system b) (signals_from system a.clocks (set a.clocks k done.past)))) e

    own : (x : Slot) (y : Content) → IsPlaced system a.horizon k (set a.clocks k done.past) (get_or full k y).mails (get_or (set a.slots.items k back) k x)
    own x y =
        subst (IsPlaced system a.horizon k (set a.clocks k done.past) (get_or full k y).mails) (sym (get_or-set_same a.slots.items k back x in_slots)) (
          copy ∙ same,
          subst (λ s. IsHere system k (slice_index (set a.clocks k done.past) k) (set a.clocks k done.past) s (get_or full k y).mails) (sym boxed)
              (subst (IsHere system k (slice_index (set a.clocks k done.past) k) (set a.clocks k done.past) done.state) (sym (box_later k y _ inside (is_joined.own y)))
              (come_back system kept.well_formed a.clocks k done.past there forward a.horizon the_loan (get_or a.boxes.items k y).mails mailbox.mails _ done.state (away y) refl
              (rw same at are.state_is) (mails_are ∙ rw same at are.mail_is) refl)),
        )

    other : (b : ℕ) (x : Slot) (y : Content) → b < system.cores → b ≢ k → IsPlaced system a.horizon b (set a.clocks k done.past) (get_or full b y).mails (get_or (set a.slots.items k back) b x)
    other b x y p e =
        subst (IsPlaced system a.horizon b (set a.clocks k done.past) (get_or full b y).mails) (sym (get_or-set_other a.slots.items k b back x e))
        (subst (λ ms. IsPlaced system a.horizon b (set a.clocks k done.past) ms (get_or a.slots.items b x)) (sym (box_later b y _ p (ap (λ (z : Content). z.mails) (is_joined.others b y e))))
        (placed_other system kept.well_formed a.clocks k done.past there forward a.horizon b (get_or a.boxes.items b y).mails (get_or a.slots.items b x) e (kept.placed b x y p)))

    placed : ArePlaced system a.horizon (set a.clocks k done.past) (set a.slots.items k back) full
    placed b x y p = elim (eqb_tells b k) [
      | inl e ↦ subst (λ d. IsPlaced system a.horizon d (set a.clocks k done.past) (get_or full d y).mails (get_or (set a.slots.items k back) d x)) (sym e.1) (own x y)
      | inr e ↦ other b x y p e.1
    ]

    boxes_first : (with_items a.boxes joined).items ≡ joined
    boxes_first = joined_are a.boxes k mailbox a.boxes.items joined refl is_joined

    boxes_are : (with_items (with_items a.boxes joined) full).items ≡ full
    boxes_are = with_items_is (with_items a.boxes joined) full (let ok = (with_items a.boxes joined).ok.0 in let many = delivered.many in let e = ap length boxes_first in omega arith)

    rows_are : done.rows ≡ rows_between system k (slice_index a.clocks k) done.past
    rows_are = rw same at are.rows_are ∙ ap (λ m. rows_between system k m done.past) loan.first

    pub settled_kept : IsKept holds (record a {
      clocks = set a.clocks k done.past;
      slots = with_item a.slots k back;
      boxes = with_items (with_items a.boxes joined) full;
      told = with_item a.told k new;
    })
    settled_kept =
        record {
          horizon = kept.horizon;
          well_formed = kept.well_formed;
          few = kept.few;
          clocks_of = length-set a.clocks k done.past ∙ kept.clocks_of;
          taken_of = kept.taken_of;
          idle = λ b l. (let ne : b ≢ k = (let h = inside in omega arith) in get_or-set_other a.clocks k b done.past 0 ne ∙ kept.idle b l);
          slots_of = length-set a.slots.items k back ∙ kept.slots_of;
          boxes_of = ap length boxes_are ∙ delivered.many ∙ is_joined.many ∙ kept.boxes_of;
          delays_are = kept.delays_are;
          reaches_are = kept.reaches_are;
          since = since_later system kept.well_formed a.clocks k done.past there a.horizon a.taken a.told.items kept.since inside forward (away mailbox).in_time old new at
              (λ held h. subst (λ rows. holds new (held ++ rows)) rows_are (more held h));
          placed = subst (λ boxes. ArePlaced system a.horizon (set a.clocks k done.past) (set a.slots.items k back) boxes) (sym boxes_are) placed;
        }

-- the desk shows it
pub settled_view : {S : Type 0} (a : Inside S) (k past : ℕ) (spare : Arc System Global) (state : Box State Global) → table_of (record a { clocks = set a.clocks k past; slots = with_item a.slots k (Here spare state) }) ≡ settled_at (table_of a) k past
settled_view a k past spare state = ap (λ loans. record (settled_at (table_of a) k past) { loans = loans }) (map-set slot_loan a.slots.items k (Here spare state))
