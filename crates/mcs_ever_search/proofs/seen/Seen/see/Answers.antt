use Rattle.std.proofs.Common.{[], sym, ap, ◌∙◌, arith}
use Rattle.mcs_verdict.specs.Findings.{past_of}
use Rattle.mcs_verdict.specs.Watch.{watch_of}
use Rattle.mcs_ever_found.specs.Course.{course_of}
use Rattle.mcs_ever_search.proofs.Seeing.{past_of-more}
use Rattle.mcs_ever_search.proofs.seen.Seen.see.Goals as goal

pub returns : goal.returns
returns c = λ before since is up early.
    let r = c.args.row.now in
    record {
      watch = c.see-found.ensures.kept c.args.system.now (past_of [] before) is.watch up ∙ ap (watch_of c.args.system.now) (sym (past_of-more [] before r));
      under_way = c.in_ok-see.ensures.told r.moment before is.under_way (omega arith) early;
      marks = c.see-3.ensures since is.marks;
      doings = c.see-4.ensures c.args.system.now since is.doings;
      course =
          c.see-2.ensures c.args.system.now (past_of [] before) is.course (c.see-found.ensures.found c.args.system.now (past_of [] before) is.watch up)
          (c.job-job.ensures c.args.system.now (past_of [] before) is.watch up)
          ∙ ap (course_of c.args.system.now) (sym (past_of-more [] before r));
    }
