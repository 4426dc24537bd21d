use Rattle.std.proofs.Common.{not, sym, ◌∙◌, arith, rules}
use Rattle.std.proofs.lemmas.Bool.{false≢true}
use Rattle.std.proofs.lemmas.List.Sorted.{IsPartitionPoint-from_clause}
use Rattle.mcs_mail.specs.Box.{is_before}
use Rattle.mcs_mail.proofs.Boxes.{is_partitioned, put-partition, put-back, put-empty}
use Rattle.mcs_mail.proofs.merged.place_of.Goals as goal
use Rattle.mcs_mail.proofs.merged.place_of.Goals.{in_default-via-in-Some+else-is_before, in_default-via-in_default}

pub returns-in-Some-clause-place : goal.returns-in-Some-clause-place
returns-in-Some-clause-place c =
    put-partition c.args.mail.now c.args.mails.now.items c.partition_point.result (omega (arith, c.partition_point.ensures.bound, c.args.mails.now.ok))
    (IsPartitionPoint-from_clause (λ y. not (is_before c.args.mail.now y)) c.args.mails.now.items c.partition_point.result c.partition_point.ensures.partitioned
    (is_partitioned c.args.mail.now c.args.mails.now.items c.requires) (λ a r f h. search rules))

pub returns-in_default-clause-place : goal.returns-in_default-clause-place
returns-in_default-clause-place c =
    rw c.len.ensures
    (elim c.in_default.branch [
      | in_default-via-in-Some+else-is_before w ↦
          put-back c.args.mail.now w.in-Some.last.now c.args.mails.now.items c.args.mails.now.len c.requires c.args.mails.now.ok.0 w.in-Some.ensures.lookup
          (sym w.is_before.ensures ∙ w.if-is_before.false)
      | in_default-via-in_default w ↦ put-empty c.args.mail.now c.args.mails.now.items c.args.mails.now.len c.args.mails.now.ok.0 (λ p. false≢true (w.in_default.ensures.variant.1 p))
    ])
