use Rattle.mcs_ever_search.proofs.seen.Seen.go_to.Goals as goal

pub returns : goal.returns
returns c = λ system before since t is later.
    record {
      watch = is.watch;
      under_way = c.forget_before.ensures.told system t before later is.under_way;
      marks = is.marks;
      doings = is.doings;
      course = is.course;
    }
