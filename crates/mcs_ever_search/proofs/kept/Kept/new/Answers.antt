use Rattle.std.proofs.Common.{ℕ, sym, ap, ◌∙◌}
use Rattle.mcs_ever_found.specs.Recurs.{past_before, watch_before}
use Rattle.mcs_ever_found.specs.Course.{course_of}
use Rattle.mcs_ever_search.proofs.kept.Kept.new.Goals as goal

pub returns-clause-kept : goal.returns-clause-kept
returns-clause-kept c =
    record {
      snapshot = c.in_ok-snapshot.ensures.clock;
      watch = c.in_ok-copy.ensures ∙ c.requires.watch ∙ ap (λ (t : ℕ). watch_before c.args.system.now t) (sym c.in_ok-snapshot.ensures.moment);
      course =
          c.in_ok-copy-2.ensures ∙ c.requires.course
          ∙ ap (λ (t : ℕ). course_of c.args.system.now (past_before c.args.system.now t)) (sym c.in_ok-snapshot.ensures.moment);
    }
