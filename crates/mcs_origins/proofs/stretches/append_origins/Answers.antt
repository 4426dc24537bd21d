-- One origin more.
use Rattle.std.proofs.Common.{◌≡◌, suc, ◌+◌, ◌-◌, ◌*◌, [], ◌∷◌, ◌++◌, refl, ap, ◌∙◌, map, arith}
use Rattle.mcs_origins.specs.declared.mark.Mark.{Mark}
use Rattle.mcs_origins.specs.stored.Stretches.{run}
use Rattle.mcs_origins.proofs.Places.{run-push}
use Rattle.mcs_origins.proofs.stretches.append_origins.Goals as goal

pub loop-number-preserved : goal.loop-number-preserved
loop-number-preserved c =
    let a = c.args.stretch.now in
    let n = c.loop-number.number in
    let more : n + 1 ≡ suc n = omega arith in
    let mark : Mark = record { origin = a.last - a.step * n; places = a.places } in
    run-push (λ (m : Mark). m.origin) c.args.origins.now.items c.loop-number.origins.items c.push.new.self.items a.last a.step a.places n (n + 1) mark
    c.loop-number.invariant (c.in_ok-push.ensures.items ∙ ap (λ at. c.loop-number.origins.items ++ at ∷ []) c.at.ensures) refl more

pub returns : goal.returns
returns c =
    let a = c.args.stretch.now in
    let all : c.loop-number.number ≡ a.more = omega arith in
    let more : suc a.more ≡ suc a.more = refl in
    let mark : Mark = record { origin = a.last - a.step * a.more; places = a.places } in
    run-push (λ (m : Mark). m.origin) c.args.origins.now.items c.loop-number.origins.items c.push-2.new.self.items a.last a.step a.places a.more (suc a.more) mark
    (c.loop-number.invariant ∙ ap (λ n. c.args.origins.now.items ++ map (λ (m : Mark). m.origin) (run a.last a.step n a.places)) all)
    (c.in_ok-push-2.ensures.items ∙ ap (λ at. c.loop-number.origins.items ++ at ∷ []) c.at-2.ensures) refl more
