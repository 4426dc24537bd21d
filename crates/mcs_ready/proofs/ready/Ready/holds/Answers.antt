use Rattle.std.proofs.Common.{◌<◌, ◌≤◌, ◌==◌, ◌∙◌, ap, arith, get_or, length, sym}
use Rattle.std.specs.Prelude.{not}
use Rattle.std.proofs.lemmas.Bool.{le-ltb}
use Rattle.std.proofs.lemmas.List.{get_or_past, get_or_read}
use Rattle.mcs_ready.specs.stored.Lines.{no_thread}
use Rattle.mcs_ready.proofs.Kept.{holds-view}
use Rattle.mcs_ready.proofs.ready.Ready.holds.Goals as goal

pub returns-then-x-len : goal.returns-then-x-len
returns-then-x-len c =
    let within : c.x.inside.0 < length c.self.inside.next.items = omega arith in
    c.ne.ensures
    ∙ ap (λ n. not (n == no_thread)) (get_or_read _ _ _ within c.index.ensures no_thread ∙ ap (λ x. get_or c.self.inside.next.items x no_thread) c.x.view_is)
    ∙ sym (holds-view _ _ _ c.self.invariant _ c.self.view_is c.args.x)

pub returns-else-x-len : goal.returns-else-x-len
returns-else-x-len c =
    let past : length c.self.inside.next.items ≤ c.x.inside.0 = omega arith in
    le-ltb _ _ c.if-x-len.false
    ∙ sym (ap (λ n. not (n == no_thread)) (get_or_past c.self.inside.next.items c.x.inside.0 no_thread past))
    ∙ ap (λ x. not (get_or c.self.inside.next.items x no_thread == no_thread)) c.x.view_is
    ∙ sym (holds-view _ _ _ c.self.invariant _ c.self.view_is c.args.x)
