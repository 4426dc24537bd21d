use Rattle.std.proofs.Common.{◌≡◌, ◌+◌, ◌∙◌, arith, sym}
use Rattle.mcs_mail.specs.Box.{put}
use Rattle.mcs_mail.proofs.Boxes.{ordered-put}
use Rattle.mcs_mail.proofs.Merging.{moved, none-taken, when_ok}
use Rattle.mcs_mail.proofs.merged.settle.Goals as goal
use Rattle.mcs_mail.proofs.merged.settle.Goals.{in-Some+else-prove, in_default}

pub loop-preserved : goal.loop-preserved
loop-preserved c =
    elim c.match-take_first.branch [
      | in-Some+else-prove w ↦
          let put_in : w.insert.new.self.items ≡ put w.in-Some.mail c.loop.ring.items = when_ok _ _ (sym w.is_ok-put.ensures.value ∙ w.if-prove.false) w.insert.ensures.items ∙ w.place_of-place.ensures.place in
          let longer : w.insert.new.self.len ≡ c.loop.ring.len + 1 = when_ok _ _ (sym w.is_ok-put.ensures.value ∙ w.if-prove.false) w.insert.ensures.len in
          let both = moved _ _ _ _ _ _ c.take_first.ensures.taken w.in-Some.is c.take_first.ensures.left put_in in
          rw w.ring-is record {
            all = both.0 ∙ c.loop.invariant.all;
            ordered = rw put_in (ordered-put _ _ c.loop.invariant.ordered);
            count = omega (arith, both.1, c.loop.invariant.count);
            room = omega (arith, both.1, longer, w.insert.ensures.capacity, c.loop.invariant.room);
            capacity = omega (arith, w.insert.ensures.capacity, c.loop.invariant.capacity);
            spare = omega (arith, c.take_first.ensures.spare, c.loop.invariant.spare);
          }
      | in_default w ↦ absurd (none-taken _ _ c.take_first.ensures.taken w.in_default.is (omega (arith, c.loop.invariant.count, c.loop-test.true, c.len-end.ensures)))
    ]
