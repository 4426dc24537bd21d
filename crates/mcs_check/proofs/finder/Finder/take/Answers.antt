-- The lines that wait, behind which those of a quiet row stand: what was due, and its answers.
use Rattle.std.proofs.Common.{rules, ◌≡◌, ◌∙◌, ◌++◌, ◌∷◌, Some, None, ap, sym}
use Rattle.std.proofs.lemmas.Result.{on_ok_weaker}
use Rattle.mcs_chain.specs.Answering.{answers_at}
use Rattle.mcs_chain.specs.Watch.{all_due, watch_of as chains_of}
use Rattle.mcs_check.specs.stored.Rows.{answered_lines, due_lines, shown_at, told_line}
use Rattle.mcs_check.proofs.Told.{told-is}
use Rattle.mcs_check.proofs.finder.Finder.take.Goals as goal

pub returns-then-see_quiet-clause-told : goal.returns-then-see_quiet-clause-told
returns-then-see_quiet-clause-told g c = λ past watch up.
    let row = c.args.row.now in
    let system = c.args.self.now.system.now in
    let allowed = c.args.self.now.allowed.now in
    let asked = c.args.self.now.show in
    let how = c.args.self.now.format in
    let first = c.args.self.now.seen.now.text.items in
    let due = due_lines how system asked (all_due (Some row.moment) 0 (chains_of system past).each) in
    let answers = answered_lines how system asked (answers_at system past row 0 system.chains) in
    let none : shown_at c.args.self.now.system.now c.args.self.now.allowed.now c.args.self.now.show past c.args.row.now ≡ None = search rules in
    let kept : c.see_quiet.new.self.watch.chains ≡ chains_of c.args.self.now.system.now past = search rules in
    let before : c.see_quiet.new.self.text.items ≡ c.args.self.now.seen.now.text.items = search rules in
    on_ok_weaker c.follow.result (λ last.
    last ∙ ap (λ l. l ++ due ++ answers) before
    ∙ ap (λ l. first ++ due ++ l) (sym (ap (λ shown. told_line how system shown ++ answers) none) ∙ told-is how system allowed asked past row))
    (c.follow.ensures.text past kept)
