use Rattle.std.proofs.Common.{◌≡◌, ◌<◌, ℕ, refl, rules, ap, sym, ◌∙◌, subst}
use Rattle.std.specs.Arc.{arc_value}
use Rattle.std.specs.Vec.{with_items, with_item}
use Rattle.mcs_stretch.specs.Stretch.{rows_between}
use Rattle.mcs_window.specs.Desk.{Table, IsLoan, settled_at}
use Rattle.mcs_window.specs.Pieces.{Outcome, IsOutcome}
use Rattle.mcs_window.specs.stored.Delivery.{HaveRoom, AreSameMail, AreDelivered, IsJoined}
use Rattle.mcs_window.specs.stored.Slots.{table_of}
use Rattle.mcs_window.specs.declared.desk.Desk.TheInside as desks
use Rattle.mcs_window.specs.declared.piece.Done.TheInside as pieces
use Rattle.mcs_window.proofs.Settling.{when_not_err, roomy_are, joined_are, boxes_roomy, told_roomy, room-joined, inside, out-none, settled_kept, settled_view}
use Rattle.mcs_window.proofs.desk.Desk.take_back.Goals as goal

-- what comes back, at this core
abbrev back_at : {S : Type 0} → ℕ → pieces.Inside S → Outcome
back_at k d =
    record {
      system = arc_value d.system;
      core = k;
      first = d.first;
      past = d.past;
      front = d.front;
      state = d.state.value;
      rows = rows_between (arc_value d.system) k d.first d.past;
      out = d.out.items;
      mail = d.mail.mails;
    }

-- it is what its core is lent for
is_back : {S : Type 0} (a : desks.Inside S) (t : Table) (d : pieces.Inside S) (o : Outcome) (k : ℕ) → table_of a ≡ t → back_at d.core d ≡ o → k ≡ o.core → IsLoan t o → IsOutcome (back_at d.core d) → o.system ≡ t.system
    → IsOutcome (back_at k d) × ((back_at k d).system ≡ arc_value a.system) × IsLoan (table_of a) (back_at k d)
is_back a t d o k shows same core loan are system =
    let whole : back_at k d ≡ o = ap (λ n. back_at n d) (core ∙ sym (ap (λ (p : Outcome). p.core) same)) ∙ same in (
      subst IsOutcome (same ∙ sym whole) are,
      ap (λ (p : Outcome). p.system) whole ∙ system ∙ ap (λ (u : Table). u.system) (sym shows),
      subst (λ u. IsLoan u (back_at k d)) (sym shows) (subst (IsLoan t) (sym whole) loan),
    )

pub invariant_of-self : goal.invariant_of-self
invariant_of-self g c =
    boxes_roomy c.self.inside c.make_room.new.boxes c.self.invariant (rw c.deref_mut.ensures.value at c.make_room.ensures.mails)

pub invariant_of-self-then-is_err-2 : goal.invariant_of-self-then-is_err-2
invariant_of-self-then-is_err-2 g c =
    let a = c.self.inside in
    let b : desks.Inside _ = record a { boxes = with_items a.boxes c.make_room.new.boxes } in
    let k = c.done-inside.inside.0.1.0.0 in
    let h : k < (arc_value a.system).cores = search rules in
    told_roomy b k c.index_mut.result.now c.make_own_room.new.told (boxes_roomy a c.make_room.new.boxes c.self.invariant (rw c.deref_mut.ensures.value at c.make_room.ensures.mails)) h
    c.index_mut.ensures.value c.make_own_room.ensures.told

pub deliver_reserved-requires-clause-room : goal.deliver_reserved-requires-clause-room
deliver_reserved-requires-clause-room g c =
    let a = c.self.inside in
    let d : pieces.Inside _ = c.done-2.inside in
    let k = c.done-inside.inside.0.1.0.0 in
    let boxes = c.make_room.new.boxes in
    let back = is_back a c.args.self.now d c.args.done k c.self.view_is c.done-2.view_is
    (ap (λ (i : pieces.Inside _). i.core) c.done-inside.view_is ∙ ap (λ (o : Outcome). o.core) c.done.view_is) c.in_default.ensures.none c.done-2.invariant.is c.requires in
    let mails : AreSameMail a.boxes.items boxes = rw c.deref_mut.ensures.value at c.make_room.ensures.mails in
    let first = roomy_are a.boxes boxes mails in
    let room : HaveRoom (arc_value a.system) d.out.items boxes =
    rw (c.deref.ensures, c.deref-2.ensures.value) at (when_not_err _ _ (sym c.is_err.ensures.value ∙ c.if-is_err.false) c.make_room.ensures.room) in
    let joined : IsJoined k c.make_own_room.new.mailbox boxes c.put_box.new.boxes = rw (c.deref_mut-2.ensures.value, first) at c.put_box.ensures in
    let second = joined_are (with_items a.boxes boxes) k c.make_own_room.new.mailbox boxes c.put_box.new.boxes first joined in
    rw (c.deref-3.ensures, c.deref-4.ensures.value, c.deref_mut-3.ensures.value, second)
    (room-joined (arc_value a.system) k d.out.items c.make_own_room.new.mailbox boxes c.put_box.new.boxes room joined (out-none a c.self.invariant (back_at k d) back.0 back.1 back.2))

pub invariant_of-self-2 : goal.invariant_of-self-2
invariant_of-self-2 g c =
    let a = c.self.inside in
    let d : pieces.Inside _ = c.done-2.inside in
    let k = c.done-inside.inside.0.1.0.0 in
    let boxes = c.make_room.new.boxes in
    let back = is_back a c.args.self.now d c.args.done k c.self.view_is c.done-2.view_is
    (ap (λ (i : pieces.Inside _). i.core) c.done-inside.view_is ∙ ap (λ (o : Outcome). o.core) c.done.view_is) c.in_default.ensures.none c.done-2.invariant.is c.requires in
    let mails : AreSameMail a.boxes.items boxes = rw c.deref_mut.ensures.value at c.make_room.ensures.mails in
    let first = roomy_are a.boxes boxes mails in
    let b : desks.Inside _ = record a { boxes = with_items a.boxes boxes } in
    let roomy = boxes_roomy a boxes c.self.invariant mails in
    let ready : desks.Inside _ = record b { told = with_item a.told k c.make_own_room.new.told } in
    let core : d.core ≡ k = ap (λ (o : Outcome). o.core) c.done-2.view_is ∙ sym (ap (λ (i : pieces.Inside _). i.core) c.done-inside.view_is ∙ ap (λ (o : Outcome). o.core) c.done.view_is) in
    let kept = told_roomy b k c.index_mut.result.now c.make_own_room.new.told roomy (inside a c.self.invariant (back_at k d) back.0 back.1 back.2) c.index_mut.ensures.value c.make_own_room.ensures.told in
    let joined : IsJoined k c.make_own_room.new.mailbox (with_items a.boxes boxes).items c.put_box.new.boxes = rw c.deref_mut-2.ensures.value at c.put_box.ensures in
    let second = joined_are (with_items a.boxes boxes) k c.make_own_room.new.mailbox _ c.put_box.new.boxes refl joined in
    let delivered : AreDelivered (arc_value a.system) d.out.items c.put_box.new.boxes c.deliver_reserved.new.boxes =
    rw (c.deref-3.ensures, c.deref-4.ensures.value, c.deref_mut-3.ensures.value, second) at c.deliver_reserved.ensures in
    settled_kept ready kept (back_at k d) back.0 back.1 back.2 d.system d.state refl c.make_own_room.new.mailbox c.put_box.new.boxes c.deliver_reserved.new.boxes c.index_mut-2.result.now c.append.new.self
    refl c.make_own_room.ensures.mails joined delivered c.index_mut-2.ensures.value
    (λ held h. c.append.ensures held (rows_between (arc_value d.system) k d.first d.past) h (subst (λ n. g.S.Collector.holds d.rows (rows_between (arc_value d.system) n d.first d.past)) core c.done-2.invariant.told))

pub returns-clause-ok : goal.returns-clause-ok
returns-clause-ok g c =
    let a = c.self.inside in
    let d : pieces.Inside _ = c.done-2.inside in
    let k = c.done-inside.inside.0.1.0.0 in
    let core : k ≡ c.args.done.core = ap (λ (i : pieces.Inside _). i.core) c.done-inside.view_is ∙ ap (λ (o : Outcome). o.core) c.done.view_is in
    let past : d.past ≡ c.args.done.past = ap (λ (o : Outcome). o.past) c.done-2.view_is in (
      c.in_default.ensures.none,
      settled_view a k d.past d.system d.state ∙ ap (λ t. settled_at t k d.past) c.self.view_is ∙ ap (λ n. settled_at c.args.self.now n d.past) core
          ∙ ap (λ m. settled_at c.args.self.now c.args.done.core m) past,
    )
