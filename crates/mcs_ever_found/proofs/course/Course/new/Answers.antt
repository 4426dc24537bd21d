use Rattle.std.proofs.Common.{◌≡◌, ℕ, false, Option, None, length, replicate, ap, ◌∙◌, rules}
use Rattle.mcs_ever_found.proofs.CourseKept.{same_course, course-first}
use Rattle.mcs_ever_found.proofs.course.Course.new.Goals as goal

pub returns : goal.returns
returns c =
    let threads : c.len-threads.result ≡ length c.args.system.now.threads = search rules in
    let notes : c.len-notes.result ≡ length c.args.system.now.notes = search rules in
    let misses : c.in_ok-vec.field-0.items ≡ replicate c.len-threads.result 0 = search rules in
    let greatest : c.in_ok-vec-2.field-0.items ≡ replicate c.len-threads.result None = search rules in
    let spent : c.in_ok-vec-3.field-0.items ≡ replicate c.len-threads.result false = search rules in
    let losses : c.in_ok-vec-4.field-0.items ≡ replicate c.len-notes.result 0 = search rules in
    same_course _ _ _ _ _ _ _ _ (misses ∙ ap (λ n. replicate n 0) threads)
    (let none : Option ℕ = None in greatest ∙ ap (λ n. replicate n none) threads) (spent ∙ ap (λ n. replicate n false) threads)
    (losses ∙ ap (λ n. replicate n 0) notes)
    ∙ course-first c.args.system.now
