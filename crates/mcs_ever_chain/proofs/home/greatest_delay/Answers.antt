use Rattle.std.proofs.Common.{◌≡◌, ◌+◌, ◌<◌, List, [], ◌∷◌, ◌++◌, length, get_or, take, sym, ap, subst, ◌∙◌, arith}
use Rattle.std.proofs.lemmas.List.{take_more, take_all}
use Rattle.mcs_system.specs.declared.part.Link.{Link}
use Rattle.mcs_ever_chain.proofs.Delays.{AreAtMost, at-most-more, between-most}
use Rattle.mcs_ever_chain.proofs.home.greatest_delay.Goals as goal

pub loop-link-preserved : goal.loop-link-preserved
loop-link-preserved c =
    let links = c.args.parts.now.links in
    let i = c.loop-link.link-index in
    let link = c.link-item.result in
    let items = c.as_slice-link-items.ensures in
    let within : i < length links = omega (arith, ap (λ (ls : List Link). length ls) items, c.loop-link-test.true) in
    let at : link ≡ get_or links i link = c.link-item.is ∙ ap (λ (ls : List Link). get_or ls i link) items in
    let next : take i links ++ link ∷ [] ≡ take (i + 1) links =
    ap (λ (x : Link). take i links ++ x ∷ []) at ∙ sym (take_more links i link within) in
    let P : List Link → Type 0 = λ (ls : List Link). AreAtMost c.greater-delay.result ls in
    record {
      default = omega (arith, c.loop-link.invariant.default, c.greater-delay.ensures);
      links = subst P next (at-most-more c.loop-link.delay c.greater-delay.result (take i links) link c.loop-link.invariant.links c.greater-delay.ensures);
    }

pub returns : goal.returns
returns c = λ maker home.
    let links = c.args.parts.now.links in
    let items = c.as_slice-link-items.ensures in
    let P : List Link → Type 0 = λ (ls : List Link). AreAtMost c.loop-link.delay ls in
    let all = subst P (take_all c.loop-link.link-index links (omega (arith, ap (λ (ls : List Link). length ls) items, c.loop-link-test.false))) c.loop-link.invariant.links in
    between-most c.args.parts.now c.loop-link.delay c.loop-link.invariant.default all maker home
