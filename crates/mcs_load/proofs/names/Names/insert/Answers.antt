use Rattle.std.proofs.Common.{◌∙◌, ap, not, [], ◌∷◌, ◌++◌, cond}
use Rattle.mcs_load.specs.Words.{is_among}
use Rattle.mcs_load.proofs.Places.{names_of, is_among-keys, names_of-inserted}
use Rattle.mcs_load.proofs.names.Names.insert.Goals as goal

pub returns-clause-added : goal.returns-clause-added
returns-clause-added c =
    c.in_ok-insert.ensures.added
    ∙ ap not (is_among-keys c.args.name.now c.self.inside.set.keys)
    ∙ ap (λ names. not (is_among c.args.name.now names)) c.self.view_is

pub returns-clause-names : goal.returns-clause-names
returns-clause-names c =
    ap names_of c.in_ok-insert.ensures.keys
    ∙ names_of-inserted c.args.name c.self.inside.set.keys
    ∙ ap (λ names. cond (not (is_among c.args.name.now names)) (names ++ c.args.name.now ∷ []) names) c.self.view_is
