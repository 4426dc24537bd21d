use Rattle.std.proofs.Common.{◌≡◌, ◌∙◌, arith, ap, length, subst, sym}
use Rattle.std.proofs.lemmas.List.{take_at}
use Rattle.mcs_release.specs.stored.Least.{leaves}
use Rattle.mcs_release.specs.stored.Places.{entered, AreOfPlaces}
use Rattle.mcs_release.proofs.Stored.{count-stored, IsStored-closed}
use Rattle.mcs_release.proofs.places.Places.close_up.Goals as goal

pub invariant_of-self : goal.invariant_of-self
invariant_of-self c =
    let len = c.self.inside.nodes.len in
    let nodes : length c.move_to_front-front.new.nodes ≡ len = omega (arith, c.move_to_front-front.auto.nodes, c.deref_mut.ensures.len) in
    let moved : c.deref_mut-3.result.now ≡ c.move_to_front-front.new.nodes = c.deref_mut-3.ensures.value ∙ take_at _ _ len nodes in
    let all : length c.rebuild.new.nodes ≡ len = omega (arith, c.rebuild.auto.nodes, ap length moved) in
    let threads : length c.move_to_front-front.new.threads ≡ c.self.inside.threads.len = omega (arith, c.move_to_front-front.auto.threads, c.deref_mut-2.ensures.len) in
    let same : leaves c.self.inside.inner c.rebuild.new.nodes ≡ leaves c.self.inside.inner c.move_to_front-front.new.nodes = rw moved at c.rebuild.ensures.leaves in
    rw (take_at c.rebuild.new.nodes _ len all, take_at c.move_to_front-front.new.threads _ _ threads) (
    IsStored-closed _ _ _ c.self.invariant _ _ c.rebuild.ensures.tree (subst AreOfPlaces (sym same) c.move_to_front-front.ensures.numbered) (omega arith)
    )

pub returns : goal.returns
returns c =
    let len = c.self.inside.nodes.len in
    let nodes : length c.move_to_front-front.new.nodes ≡ len = omega (arith, c.move_to_front-front.auto.nodes, c.deref_mut.ensures.len) in
    let moved : c.deref_mut-3.result.now ≡ c.move_to_front-front.new.nodes = c.deref_mut-3.ensures.value ∙ take_at _ _ len nodes in
    let all : length c.rebuild.new.nodes ≡ len = omega (arith, c.rebuild.auto.nodes, ap length moved) in
    let threads : length c.move_to_front-front.new.threads ≡ c.self.inside.threads.len = omega (arith, c.move_to_front-front.auto.threads, c.deref_mut-2.ensures.len) in
    let same : leaves c.self.inside.inner c.rebuild.new.nodes ≡ leaves c.self.inside.inner c.move_to_front-front.new.nodes = rw moved at c.rebuild.ensures.leaves in
    let moves = rw (c.deref_mut.ensures.value, c.deref_mut-2.ensures.value) at c.move_to_front-front.ensures in
    let stored = IsStored-closed _ _ _ c.self.invariant c.rebuild.new.nodes c.move_to_front-front.new.threads c.rebuild.ensures.tree (subst AreOfPlaces (sym same) c.move_to_front-front.ensures.numbered) (omega arith) in
    let own : length c.self.inside.threads.items ≡ c.self.inside.threads.len = omega arith in
    rw (take_at c.rebuild.new.nodes _ len all, take_at c.move_to_front-front.new.threads _ _ threads) (record {
      entered = rw same (moves.entered ∙ ap entered c.self.view_is);
      count = moves.count ∙ ap (λ places. length (entered places)) c.self.view_is;
      behind = rw same c.move_to_front-front.ensures.behind;
      len = count-stored _ _ _ stored ∙ threads ∙ sym (count-stored _ _ _ c.self.invariant ∙ own) ∙ ap (λ places. length places) c.self.view_is;
    })
