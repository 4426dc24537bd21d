use Rattle.std.proofs.Common.{◌≡◌, ◌≤◌, ◌+◌, length}
use Rattle.mcs_mail.specs.Box.{put_all}
use Rattle.mcs_window.proofs.settle.join.Given as goal

abbrev pub invariant-loop : goal.invariant-loop
invariant-loop l = record {
  all : put_all l.collected.mails l.mailbox.mails ≡ put_all l.fn.collected.mails l.fn.mailbox.mails;
  count : l.counter + length l.collected.mails ≡ length l.fn.collected.mails;
  room : length l.collected.mails ≤ l.mailbox.spare;
}
