use Rattle.std.proofs.Common.{◌≡◌, ◌+◌, ◌<◌, ◌≤◌, length, ap, ◌∙◌, sym, subst, rules}
use Rattle.std.specs.List.{slice_get}
use Rattle.mcs_system.specs.System.{thread_part}
use Rattle.mcs_system.specs.declared.part.ThreadPart.{ThreadPart}
use Rattle.mcs_ever.specs.stored.Makers.{home_signalled, AreMakersUntil}
use Rattle.mcs_ever.proofs.Closing.{makers-item, makers-silent, makers-next}
use Rattle.mcs_ever.proofs.closed.add_items.Goals as goal
use Rattle.mcs_ever.proofs.closed.add_items.Goals.{in-Some, in_default}

pub loop-item-preserved : goal.loop-item-preserved
loop-item-preserved c =
    let s = c.args.system.now in
    let n = c.args.thread in
    let i = c.loop-item.item in
    let part : c.thread.result.now ≡ thread_part s n = search rules in
    let item : c.get-said.result ≡ slice_get (thread_part s n).script i = c.get-said.ensures ∙ ap (λ (p : ThreadPart). slice_get p.script i) part in
    let said : home_signalled s (slice_get (thread_part s n).script i) ≡ c.home_signalled.result = ap (home_signalled s) (sym item) ∙ sym c.home_signalled.ensures.home in
    elim c.match-home_signalled.branch [
      | in-Some w ↦
          (let within : w.in-Some.home < s.cores = search rules in
          subst (AreMakersUntil s n (i + 1)) (sym (w.makers-is ∙ w.add.ensures))
          (makers-item s n i w.in-Some.home c.args.maker c.loop-item.makers c.requires.known (said ∙ w.in-Some.is) c.requires.own within c.requires.few c.loop-item.invariant))
      | in_default w ↦ subst (AreMakersUntil s n (i + 1)) (sym w.makers-is) (makers-silent s n i c.loop-item.makers (said ∙ w.in_default.is) c.loop-item.invariant)
    ]

pub returns : goal.returns
returns c =
    let all : length (thread_part c.args.system.now c.args.thread).script ≤ c.loop-item.item = search rules in
    makers-next c.args.system.now c.args.thread c.loop-item.item c.loop-item.makers all c.loop-item.invariant
