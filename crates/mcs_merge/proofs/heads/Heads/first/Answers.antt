use Rattle.std.proofs.Common.{◌≡◌, ◌<◌, ◌≤◌, ℕ, List, arith, length, subst}
use Rattle.std.specs.Prelude.{Contains}
use Rattle.std.proofs.lemmas.List.{get_or_read}
use Rattle.mcs_merge.specs.declared.heads.Head.{Head}
use Rattle.mcs_merge.specs.stored.Heads.{far, head_at}
use Rattle.mcs_merge.proofs.Trees.{root-among, root-least}
use Rattle.mcs_merge.proofs.heads.Heads.first.Goals as goal

pub returns-clause-among : goal.returns-clause-among
returns-clause-among c =
    let wide = c.self.invariant.wide in
    let is : c.index.result.now ≡ head_at 0 c.self.inside.nodes.items = get_or_read c.self.inside.nodes.items 0 _ (omega arith) c.index.ensures far in
    subst (λ (heads : List Head). Contains heads c.index.result.now) c.self.view_is (root-among _ _ c.self.invariant _ is)

pub returns-clause-least : goal.returns-clause-least
returns-clause-least c =
    let wide = c.self.invariant.wide in
    let is : c.index.result.now ≡ head_at 0 c.self.inside.nodes.items = get_or_read c.self.inside.nodes.items 0 _ (omega arith) c.index.ensures far in
    subst (λ (heads : List Head). (core : ℕ) → core < length heads → c.index.result.now.rank ≤ (head_at core heads).rank) c.self.view_is
    (root-least _ _ c.self.invariant _ is)
