use Rattle.mcs_ever_search.proofs.seen.Seen.clear.Goals as goal

pub returns : goal.returns
returns c = λ system before since t is.
    record {
      watch = is.watch;
      under_way = is.under_way;
      marks = c.clear.ensures.anew system since is.marks;
      doings = c.clear-2.ensures.anew system since is.doings;
      course = is.course;
    }
