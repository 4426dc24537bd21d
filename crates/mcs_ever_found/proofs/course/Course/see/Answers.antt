use Rattle.std.proofs.Common.{◌∙◌, ap}
use Rattle.std.proofs.lemmas.List.{with_items_is}
use Rattle.mcs_ever_found.specs.stored.Places.{missed_by, lost_at, spent_by, counted, raised, marked}
use Rattle.mcs_ever_found.proofs.CourseKept.{same_course, course-more}
use Rattle.mcs_ever_found.proofs.course.Course.see.Goals as goal

pub returns : goal.returns
returns c system past is finds ends =
    let found = c.args.found.now in
    let job = c.args.job.now in
    let self = c.self.inside in
    same_course _ _ _ _ _ _ _ _
    (with_items_is self.misses c.count.new.counts (c.count.auto.counts ∙ c.as_mut_slice.ensures.len) ∙ c.count.ensures
    ∙ ap (λ place. counted place c.as_mut_slice.result.now) c.missed_by.ensures ∙ ap (counted (missed_by found)) c.as_mut_slice.ensures.value)
    (with_items_is self.greatest c.raise.new.greatest (c.raise.auto.greatest ∙ c.as_mut_slice-2.ensures.len) ∙ c.raise.ensures
    ∙ ap (raised job) c.as_mut_slice-2.ensures.value)
    (with_items_is self.spent c.mark.new.marks (c.mark.auto.marks ∙ c.as_mut_slice-3.ensures.len) ∙ c.mark.ensures
    ∙ ap (λ place. marked place c.as_mut_slice-3.result.now) c.spent_by.ensures ∙ ap (marked (spent_by c.args.row.now.what)) c.as_mut_slice-3.ensures.value)
    (with_items_is self.losses c.count-2.new.counts (c.count-2.auto.counts ∙ c.as_mut_slice-4.ensures.len) ∙ c.count-2.ensures
    ∙ ap (λ place. counted place c.as_mut_slice-4.result.now) c.lost_at.ensures ∙ ap (counted (lost_at found)) c.as_mut_slice-4.ensures.value)
    ∙ course-more system past c.args.row.now found job self.misses.items self.greatest.items self.spent.items self.losses.items (c.self.view_is ∙ is) finds ends
