use Rattle.std.proofs.Common.{rules, ◌≡◌, ◌∙◌, [], refl, replicate}
use Rattle.mcs_hints.proofs.Numbers.{same_for_all}
use Rattle.mcs_ticks.specs.Capped.{capped}
use Rattle.mcs_check.specs.Judged.{ended}
use Rattle.mcs_check.proofs.ended.Ended.new.Goals as goal

pub returns : goal.returns
returns c =
    let zeros : c.in_ok-vec.field-0.items ≡ replicate c.args.threads 0 = search rules in
    zeros ∙ same_for_all (λ n. capped (ended n [])) c.args.threads 0 (λ k. refl)
