use Rattle.std.proofs.Common.{◌≡◌, ◌+◌, ◌≤◌, ◌∙◌, ap, arith, length, sym}
use Rattle.std.proofs.lemmas.Result.{on_ok_weaker}
use Rattle.mcs_mail.specs.Box.{Content, put, put_all}
use Rattle.mcs_mail.proofs.Merging.{IsMerged-behind, IsMerged-put, length-put, mails-behind, on_ok-both, put_all-put}
use Rattle.mcs_mail.proofs.merged.Merged.put.Goals as goal

pub invariant_of-self-then-is_late : goal.invariant_of-self-then-is_late
invariant_of-self-then-is_late c =
    IsMerged-put _ _ _ _ c.args.mail c.put.result c.prepare.ensures.merged (omega (arith, c.in-Ok.ensures.room, c.prepare.new.ring.ok.0)) (sym c.is_late.ensures ∙ c.if-is_late.true) c.put.ensures.ok c.put.ensures.unchanged

pub invariant_of-self-in-Ok-2 : goal.invariant_of-self-in-Ok-2
invariant_of-self-in-Ok-2 c =
    rw (c.push_back_reserved.ensures.items, c.push_back_reserved.ensures.capacity)
    (IsMerged-behind _ _ _ c.prepare.ensures.merged c.args.mail (sym c.is_late.ensures ∙ c.if-is_late.false) _ (omega (arith, c.in-Ok-2.ensures.room, c.prepare.new.ring.ok.0)))

pub returns-in-Ok-clause-ok : goal.returns-in-Ok-clause-ok
returns-in-Ok-clause-ok c =
    on_ok_weaker c.put.result (λ (done : c.put.new.self.mails ≡ put c.args.mail c.prepare.new.late.mails).
    ap (λ late. put_all late c.prepare.new.ring.items) done
    ∙ put_all-put c.args.mail c.prepare.new.late.mails c.prepare.new.ring.items c.prepare.ensures.merged.late_ordered
    ∙ ap (put c.args.mail) c.prepare.ensures.mails
    ∙ ap (λ (v : Content). put c.args.mail v.mails) c.self.view_is
    ) c.put.ensures.ok

pub returns-in-Ok-clause-spare : goal.returns-in-Ok-clause-spare
returns-in-Ok-clause-spare c =
    on_ok-both _ _ _ c.put.result (λ (done : c.put.new.self.mails ≡ put c.args.mail c.prepare.new.late.mails) (spare : c.prepare.new.late.spare ≤ c.put.new.self.spare + 1).
    omega (
      arith,
      ap length done,
      length-put c.args.mail c.prepare.new.late.mails,
      spare,
      c.prepare.ensures.count,
      c.prepare.ensures.capacity,
      c.prepare.ensures.spare,
      ap (λ (v : Content). v.spare) c.self.view_is,
    )
    ) c.put.ensures.ok c.put.ensures.spare

pub returns-in-Ok-2-clause-ok : goal.returns-in-Ok-2-clause-ok
returns-in-Ok-2-clause-ok c =
    ap (put_all c.prepare.new.late.mails) c.push_back_reserved.ensures.items
    ∙ mails-behind _ _ _ c.prepare.ensures.merged c.args.mail (sym c.is_late.ensures ∙ c.if-is_late.false)
    ∙ ap (put c.args.mail) c.prepare.ensures.mails
    ∙ ap (λ (v : Content). put c.args.mail v.mails) c.self.view_is
