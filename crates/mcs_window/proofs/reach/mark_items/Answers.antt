use Rattle.std.proofs.Common.{◌≡◌, ◌+◌, ◌<◌, ◌≤◌, Some, length, ap, ◌∙◌, sym, subst, rules}
use Rattle.std.specs.List.{slice_get}
use Rattle.mcs_system.proofs.Linked.{delays_within}
use Rattle.mcs_system.specs.System.{core_of, thread_part}
use Rattle.mcs_system.specs.WellFormed.{IsWellFormed}
use Rattle.mcs_system.specs.declared.part.ThreadPart.{ThreadPart}
use Rattle.mcs_window.specs.stored.Reaches.{home_signalled, AreReachesOf}
use Rattle.mcs_window.proofs.Reaching.{items-same, items-more, items-all}
use Rattle.mcs_window.proofs.reach.mark_items.Goals as goal
use Rattle.mcs_window.proofs.reach.mark_items.Goals.{in-Some, in_default}

pub loop-item-preserved : goal.loop-item-preserved
loop-item-preserved c =
    let s = c.args.system.now in
    let n = c.args.thread in
    let i = c.loop-item.item in
    let maker = core_of s (thread_part s n) in
    let well : IsWellFormed s = search rules in
    let part : c.thread.result.now ≡ thread_part s n = search rules in
    let item : c.get-said.result ≡ slice_get (thread_part s n).script i = c.get-said.ensures ∙ ap (λ (p : ThreadPart). slice_get p.script i) part in
    let said : home_signalled s (slice_get (thread_part s n).script i) ≡ c.home_signalled.result = ap (home_signalled s) (sym item) ∙ sym c.home_signalled.ensures.home in
    elim c.match-home_signalled.branch [
      | in-Some w ↦
          (let home = w.home.inside.0 in
          let small : home < 64 = search rules in
          let in_row : home < length c.loop-item.row = search rules in
          subst (AreReachesOf s maker n (i + 1)) (sym w.row-is)
          (items-more s n (λ b h. (delays_within s well b h).1) i home _ c.loop-item.row (said ∙ w.in-Some.is ∙ ap Some (sym w.home.view_is)) in_row (c.requires.delays home small) c.loop-item.invariant))
      | in_default w ↦
          subst (AreReachesOf s maker n (i + 1)) (sym w.row-is)
          (items-same s n (λ b h. (delays_within s well b h).1) i c.loop-item.row (said ∙ w.in_default.is) c.loop-item.invariant)
    ]

pub returns : goal.returns
returns c =
    let s = c.args.system.now in
    let well : IsWellFormed s = search rules in
    let all : length (thread_part s c.args.thread).script ≤ c.loop-item.item = search rules in
    items-all s c.args.thread (λ maker home. (delays_within s well maker home).1) c.loop-item.item c.loop-item.row all c.loop-item.invariant
