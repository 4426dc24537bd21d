use Rattle.std.proofs.Common.{rules, ◌∙◌, ◌++◌, ◌∷◌, ◌<◌, [], ap₂, sym, length}
use Rattle.std.proofs.lemmas.List.{map_more}
use Rattle.mcs_system.specs.declared.part.ChainPart.{ChainPart}
use Rattle.mcs_chain.specs.Watch.{One, one_of}
use Rattle.mcs_chain.proofs.chains.all_new.Goals as goal

pub loop-number-preserved : goal.loop-number-preserved
loop-number-preserved c =
    let chains = c.args.parts.now.chains in
    let fresh : ChainPart → One = λ chain. one_of c.args.parts.now chain [] in
    let within : c.loop-number._number < length c.args.parts.now.chains = search rules in
    c.in_ok-push.ensures.items ∙ ap₂ (λ l x. l ++ x ∷ []) c.loop-number.invariant (c.in_ok-new.ensures none)
    ∙ sym (map_more fresh chains c.loop-number._number none within)
  where
    none : ChainPart
    none = record { name = []; source = 0; thread = 0; badges = 0; deadline = 0 }
