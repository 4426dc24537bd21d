use Rattle.std.proofs.Common.{◌≡◌, ◌≤◌, ◌+◌, length}
use Rattle.std.specs.VecDeque.{deque_capacity, deque_len}
use Rattle.mcs_mail.specs.Box.{put_all, IsOrdered}
use Rattle.mcs_mail.proofs.merged.settle.Given as goal

abbrev pub invariant-loop : goal.invariant-loop
invariant-loop l = record {
  all : put_all l.late.mails l.ring.items ≡ put_all l.fn.late.mails l.fn.ring.items;
  ordered : IsOrdered l.ring.items;
  count : l.counter + length l.late.mails ≡ length l.fn.late.mails;
  room : deque_len l.ring + length l.late.mails ≤ deque_capacity l.ring;
  capacity : deque_capacity l.fn.ring ≤ deque_capacity l.ring;
  spare : l.fn.late.spare ≤ l.late.spare;
}
