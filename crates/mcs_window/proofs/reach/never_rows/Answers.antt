use Rattle.std.proofs.Common.{◌≡◌, ◌^◌, replicate, subst, rules}
use Rattle.std.proofs.lemmas.List.{get_or-replicate}
use Rattle.mcs_system.proofs.Linked.{delays_within}
use Rattle.mcs_system.specs.WellFormed.{IsWellFormed}
use Rattle.mcs_window.proofs.Reaching.{AreNever, never-more, never-read}
use Rattle.mcs_window.proofs.reach.never_rows.Goals as goal

pub loop-preserved : goal.loop-preserved
loop-preserved c =
    never-more c.loop.counter c.loop.rows.items c.push.new.self.items (replicate 64 (2 ^ 41)) c.loop.invariant (λ home l. get_or-replicate 64 home _ _ l) c.in_ok-push.ensures.items

pub returns : goal.returns
returns c =
    let well : IsWellFormed c.args.system.now = search rules in
    let all : c.loop.counter ≡ c.args.system.now.cores = search rules in
    never-read c.args.system.now c.loop.rows.items (λ maker home. (delays_within c.args.system.now well maker home).1) (subst (λ n. AreNever n c.loop.rows.items) all c.loop.invariant)
