use Rattle.mcs_server_laws.proofs.Holders.{servers-exclude, none-enters-twice}
use Rattle.mcs_server_laws.proofs.servers_exclude.Goals as goal

pub returns-clause-one_holder : goal.returns-clause-one_holder
returns-clause-one_holder c = servers-exclude

pub returns-clause-no_circle : goal.returns-clause-no_circle
returns-clause-no_circle c = none-enters-twice
