use Rattle.std.proofs.Common.{◌≡◌, ℕ, ◌-◌, [], length, None, refl, sym, ap, subst, ◌∙◌, arith}
use Rattle.mcs_core.specs.Clock.{schedule}
use Rattle.mcs_verdict.specs.Findings.{past_of}
use Rattle.mcs_verdict.specs.Watch.{watch_of}
use Rattle.mcs_ever_told.specs.Outlook.{IsTold, course_up_to}
use Rattle.mcs_ever_told.proofs.Since.{course-now, watch-at}
use Rattle.mcs_ever_told.proofs.Telling.{told-open}
use Rattle.mcs_ever_told.proofs.outlook.tell.told_open.Goals as goal

pub returns : goal.returns
returns c =
    let s = c.args.look.now.system.now in
    let run = c.args.look.now.search.now in
    let look = c.requires.look in
    let set = c.args.group.now.set in
    let own = c.args.group.now.own in
    let allowed = c.args.look.now.allowed.now in
    let m = c.before-horizon.result in
    let at : m ≡ run.clock - 1 = c.before-horizon.ensures ∙ ap (λ (t : ℕ). t - 1) c.clock.ensures.value in
    let course = course-now s run look c.requires.some c.course-course.result.now c.course-course.ensures
    ∙ ap (λ (t : ℕ). course_up_to s t) (sym at) in
    let watch = watch-at s run look run.clock c.requires.some c.watch-watch.result.now c.watch-watch.ensures
    ∙ ap (λ (t : ℕ). watch_of s (past_of [] (schedule s t))) (sym at) in
    let up = (c.schedules_are_in_order.ensures s c.parts-parts.ensures.well_formed m).1 in
    let counted : c.saturating_sub-findings.result ≡ length c.push_ends.new.lines.items - 1 =
    omega (arith, c.len.ensures, c.push_ends.new.lines.ok.0) in
    let told = told-open s allowed m set own c.course-course.result.now c.course-course.result.now
    c.in_ok-lines.lines.items c.push_counts.new.lines.items c.push_ends.new.lines.items c.push_so_far.new.lines.items
    c.saturating_sub-findings.result course
    c.in_ok-lines.ensures c.in_ok-push_counts.ensures (c.in_ok-push_ends.ensures (past_of [] (schedule s m)) watch up) c.in_ok-push_so_far.ensures counted in
    let T : ℕ → Type 0 = λ h. IsTold s allowed h set own
    (record { set = set; period = None; lines = c.push_so_far.new.lines; findings = c.saturating_sub-findings.result }) in
    subst T at (record { cores = refl; so = tt; lines = told.lines_are; findings = told.findings_are })
