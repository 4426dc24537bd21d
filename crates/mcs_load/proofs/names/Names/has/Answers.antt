use Rattle.std.proofs.Common.{◌∙◌, ap}
use Rattle.mcs_load.specs.Words.{is_among}
use Rattle.mcs_load.proofs.Places.{is_among-keys}
use Rattle.mcs_load.proofs.names.Names.has.Goals as goal

pub returns : goal.returns
returns c = c.contains.ensures ∙ is_among-keys c.args.name.now c.self.inside.set.keys ∙ ap (is_among c.args.name.now) c.self.view_is
