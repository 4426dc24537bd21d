use Rattle.std.proofs.Common.{◌≡◌, ℕ, ◌+◌, ◌-◌, ◌^◌, ◌<◌, ◌∙◌, false, ap, arith, length, sym}
use Rattle.std.specs.Prelude.{nat_le}
use Rattle.std.proofs.lemmas.Bool.Decides.{nat_tests}
use Rattle.mcs_mail.proofs.Merging.{IsMerged-ring, length-put_all, ordered-put_all}
use Rattle.mcs_mail.proofs.merged.prepare.Goals as goal

pub returns-then-is_spent-clause-merged : goal.returns-then-is_spent-clause-merged
returns-then-is_spent-clause-merged c =
    rw c.settle.ensures.ring (
    IsMerged-ring _ _ _ c.settle.ensures.late
    (ordered-put_all c.args.late.now.mails c.make_room.new.ring.items (rw c.make_room.ensures.items c.requires.ring_ordered))
    (omega (arith, ap length c.settle.ensures.ring, c.settle.new.ring.ok.0, c.settle.new.ring.ok.1))
    )

pub returns-then-is_spent-clause-count : goal.returns-then-is_spent-clause-count
returns-then-is_spent-clause-count c =
    omega (
      arith,
      c.settle.new.ring.ok.0,
      ap length c.settle.ensures.ring,
      ap length c.settle.ensures.late,
      length-put_all c.args.late.now.mails c.make_room.new.ring.items,
      ap length c.make_room.ensures.items,
      c.args.ring.now.ok.0,
    )

pub returns-then-is_spent-clause-room : goal.returns-then-is_spent-clause-room
returns-then-is_spent-clause-room c =
    omega (
      arith,
      c.settle.new.ring.ok.0,
      ap length c.settle.ensures.ring,
      ap length c.settle.ensures.late,
      length-put_all c.args.late.now.mails c.make_room.new.ring.items,
      c.make_room.new.ring.ok.0,
      c.in_ok-make_room.ensures.room,
      c.len.ensures,
      c.settle.ensures.capacity,
    )

left : (next : ℕ) → nat_le (2 ^ 64 - 1) next ≡ false → next + 1 < 2 ^ 64
left next e = grind (arith, nat_tests)

pub returns-else-is_spent-clause-number : goal.returns-else-is_spent-clause-number
returns-else-is_spent-clause-number c = left _ (sym c.is_spent.ensures ∙ c.if-is_spent.false)
