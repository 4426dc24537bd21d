use Rattle.mcs_server_laws.proofs.Accepted.{accepted-nest, accepted-exclude, accepted-priorities}
use Rattle.mcs_server_laws.proofs.accepted_scripts_nest.Goals as goal

pub returns-clause-nest : goal.returns-clause-nest
returns-clause-nest c = accepted-nest

pub returns-clause-exclude : goal.returns-clause-exclude
returns-clause-exclude c = accepted-exclude

pub returns-clause-priorities : goal.returns-clause-priorities
returns-clause-priorities c = accepted-priorities
