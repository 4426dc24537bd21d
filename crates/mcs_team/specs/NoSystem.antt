-- An empty system, for places that must name one and mean none.
use Rattle.std.specs.Prelude.{[]}
use Rattle.mcs_system.specs.System.{System}

abbrev pub no_system : System
no_system =
    record { cores = 0; delay = 0; call = 0; min_budget = 0; contexts = []; notes = []; threads = []; orders = []; links = []; servers = 0; sources = []; beats = []; chains = [] }
