-- If there is a chain, how far the threads have gone is kept.
use Rattle.std.proofs.Common.{rules, ◌≡◌, ◌∙◌, ◌∷◌, [], List, refl, ap, ap₂, sym, map}
use Rattle.std.proofs.lemmas.List.{with_items_is, places}
use Rattle.mcs_ticks.specs.declared.row.Row.{Row}
use Rattle.mcs_system.specs.declared.part.ChainPart.{ChainPart}
use Rattle.mcs_system.specs.System.{System}
use Rattle.mcs_chain.specs.Answers.{gone_after}
use Rattle.mcs_chain.specs.Moves.{moves}
use Rattle.mcs_chain.specs.Steps.{all_go}
use Rattle.mcs_chain.specs.Watch.{One, Watch, gone_for, one_of}
use Rattle.mcs_chain.proofs.watch.Watch.take.Goals as goal

-- of a chain that there is
gone-is : (system : System) (past : List Row) (chains : List ChainPart) → (chains ≡ [] → ⊥) → gone_for system past chains ≡ gone_after system past
gone-is system past [] some = absurd (some refl)
gone-is system past (chain ∷ chains) some = refl

pub returns : goal.returns
returns c = λ past e.
    let own = c.self.view_is ∙ e in
    let system = c.args.system.now in
    let row = c.args.row.now in
    let some : system.chains ≡ [] → ⊥ = λ none. search rules in
    let gone_are : c.self.inside.gone.items ≡ gone_after system past = ap (λ (w : Watch). w.gone) own ∙ gone-is system past system.chains some in
    let moved_is : c.moves-moved.result ≡ moves system (gone_after system past) row = search rules in
    let kept : ChainPart → One = λ chain. one_of system chain past in
    let next : ChainPart → One = λ chain. one_of system chain (row ∷ past) in
    let chains_are : c.as_slice.result.now ≡ system.chains = search rules in
    let each_were : c.deref_mut.result.now ≡ map kept c.as_slice.result.now =
    c.deref_mut.ensures.value ∙ ap (λ (w : Watch). w.each) own ∙ ap (map kept) (sym chains_are) in
    let seen = c.in_ok-all_see.ensures system past each_were moved_is in
    let gone_next : c.all_go.new.all ≡ gone_for system (row ∷ past) system.chains =
    c.all_go.ensures ∙ ap₂ (λ s gone. all_go s row.what gone) c.parts-parts.ensures.same (c.deref_mut-2.ensures.value ∙ gone_are) ∙ sym (gone-is system (row ∷ past) system.chains some) in
    let each_next : c.all_see.new.each ≡ map next system.chains = seen ∙ ap (map next) chains_are in
    let gone_kept = with_items_is c.self.inside.gone c.all_go.new.all (search (rules, places)) in
    let each_kept = with_items_is c.self.inside.each c.all_see.new.each (search (rules, places)) in
    rw (gone_kept, each_kept, gone_next, each_next) refl
