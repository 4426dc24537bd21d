use Rattle.std.specs.Prelude.{◌^◌}
use Rattle.std.proofs.Common.{◌≡◌, ℕ, ◌+◌, ◌-◌, ◌≤◌, Bool, List, [], ◌∷◌, ◌++◌, length, Some, refl, sym, ap, subst, ◌∙◌, arith}
use Rattle.mcs_core.specs.Clock.{schedule}
use Rattle.mcs_verdict.specs.Findings.{past_of}
use Rattle.mcs_verdict.specs.Watch.{watch_of}
use Rattle.mcs_ever_told.specs.declared.line.Line.TheVariants as line
use Rattle.mcs_ever_told.specs.Outlook.{IsTold, course_up_to, last_of}
use Rattle.mcs_ever_told.specs.stored.Looks.{period_of}
use Rattle.mcs_ever_told.proofs.Settling.{clean}
use Rattle.mcs_ever_told.proofs.Since.{are-kept, course-now, course-kept, ended-since, watch-at, last-is, some-moment}
use Rattle.mcs_ever_told.proofs.Telling.{told-period}
use Rattle.mcs_system.specs.System.{System}
use Rattle.mcs_ever_again.specs.Period.{told_between}
use Rattle.mcs_ever_found.specs.Doings.{doings_of}
use Rattle.mcs_ever_found.specs.Recurs.{watch_before}
use Rattle.mcs_ever_told.specs.Lines.{thread_lines}
use Rattle.mcs_ever_told.proofs.outlook.tell.told_for_ever.Goals as goal

pub returns : goal.returns
returns c = λ horizon can.
    let s = c.args.look.now.system.now in
    let run = c.args.look.now.search.now in
    let look = c.requires in
    let recurred = can.recurred in
    let set = c.args.group.now.set in
    let own = c.args.group.now.own in
    let allowed = c.args.look.now.allowed.now in
    let by = c.args.by in
    let p = period_of run by in
    let some = some-moment s run look set by recurred in
    let m = c.before-last.result in
    let at : m ≡ run.clock - 1 = c.before-last.ensures ∙ ap (λ (t : ℕ). t - 1) c.clock.ensures.value in
    let last : m ≡ last_of p = at ∙ last-is s run look set by recurred in
    let from : c.kept-from.result ≡ run.kept = c.kept-from.ensures.value in
    let course = course-now s run look some c.course-course.result.now c.course-course.ensures
    ∙ ap (λ (t : ℕ). course_up_to s t) (last-is s run look set by recurred) in
    let before = course-kept s run look c.kept_course.result.now c.kept_course.ensures in
    let ended = c.in_ok-ended.ensures (told_between s run.kept run.clock)
    (c.doings-doings.ensures ∙ ap (λ (x : System). doings_of x (told_between x run.kept run.clock)) look.same) ∙ ended-since s run look by recurred.period c.doings-doings.result.now c.doings-doings.ensures in
    let watch = watch-at s run look run.clock some c.watch-watch.result.now c.watch-watch.ensures
    ∙ ap (λ (t : ℕ). watch_of s (past_of [] (schedule s t))) (sym at) in
    let up = (c.schedules_are_in_order.ensures s c.parts-parts.ensures.well_formed m).1 in
    let counted : c.saturating_sub-findings.result ≡ length c.push_ever.new.lines.items - 1 =
    omega (arith, c.len.ensures, c.push_ever.new.lines.ok.0) in
    let well = c.parts-parts.ensures.well_formed in
    let kept = are-kept s run look well (c.rows_tell_turns.ensures s well) by recurred.period (watch_before run.system run.kept) c.watch-watch.result.now
    c.doings-doings.result.now refl c.watch-watch.ensures c.doings-doings.ensures in
    let near_shifts = recurred.recurs.near in
    let near : run.kept + by ≤ 2 ^ 41 = omega (arith, near_shifts, recurred.by_is) in
    let told = told-period s allowed horizon set own p m c.kept_course.result.now c.course-course.result.now c.in_ok-ended.ended.items
    c.in_ok-lines.lines.items c.push_counts.new.lines.items c.push_ever.new.lines.items c.push_threads.new.lines.items
    c.push_clean.new.lines.items c.saturating_sub-findings.result
    last before course ended
    (c.in_ok-lines.ensures ∙ ap (λ (from : ℕ). line.Repeats set from by ∷ []) from) c.in_ok-push_counts.ensures
    (c.in_ok-push_ever.ensures by run.kept (watch_before run.system run.kept) (past_of [] (schedule s m)) near kept watch up)
    (c.in_ok-push_threads.ensures ∙ ap (λ (from : ℕ). c.push_ever.new.lines.items ++ thread_lines s own c.course-course.result.now from c.as_slice.result.now) from
    ∙ ap (λ (e : List Bool). c.push_ever.new.lines.items ++ thread_lines s own c.course-course.result.now run.kept e) c.as_slice.ensures.value)
    counted c.in_ok-push_clean.ensures in
    let T : ℕ → Type 0 = λ from. IsTold s allowed horizon set own
    (record {
      set = set;
      period = Some (record { from = from; ticks = by });
      lines = c.push_clean.new.lines;
      findings = c.saturating_sub-findings.result;
    }) in
    subst T (sym from)
    (record {
      cores = refl;
      so = record {
        shifts = recurred.shifts;
        by = recurred.by_is;
        recurs = recurred.recurs;
        lines_hold = can.lines_hold horizon;
        settled = can.settled;
        clean = λ none. clean s well allowed own p can.settled none;
      };
      lines = told.lines_are;
      findings = told.findings_are;
    })
