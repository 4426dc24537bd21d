use Rattle.std.proofs.Common.{◌∙◌, ap}
use Rattle.mcs_load.specs.Words.{place_of}
use Rattle.mcs_load.proofs.Places.{place_of-keys}
use Rattle.mcs_load.proofs.names.Names.find.Goals as goal

pub returns-clause-place : goal.returns-clause-place
returns-clause-place c = c.get_index_of.ensures.index ∙ place_of-keys c.args.name.now c.self.inside.set.keys ∙ ap (place_of c.args.name.now) c.self.view_is
