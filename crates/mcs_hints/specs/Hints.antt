-- Likely mistakes in a system, found from its file alone.
use Rattle.std.specs.Prelude.{List, ◌++◌, length}
use Rattle.std.specs.List.{filter_map}
use Rattle.std.specs.Option.{option_to_list}
use Rattle.mcs_system.specs.System.{System}
use Rattle.mcs_hints.specs.declared.hint.Hint.{Hint}
use Rattle.mcs_hints.specs.Numbers.{numbers}
use Rattle.mcs_hints.specs.Notes.{items_of, unsignalled}
use Rattle.mcs_hints.specs.Contexts.{unbound}
use Rattle.mcs_hints.specs.Cores.{overcommitted, unused}
use Rattle.mcs_hints.specs.Whole.{nothing_to_judge}
use Rattle.mcs_hints.specs.Handlers.{unheard, unread}
use Rattle.mcs_hints.specs.Ceilings.{inverted}
use Rattle.mcs_hints.specs.Chains.{unreached}

-- that of the whole file, then those of notifications, sources, threads, chains, contexts, cores
-- without a thread and overcommitted cores, each by number
abbrev pub hints_of : System → List Hint
hints_of system =
    option_to_list (nothing_to_judge system.threads system.chains)
    ++ filter_map (unsignalled (items_of system.threads) system.sources) (numbers (length system.notes))
    ++ filter_map (unread system) (numbers (length system.sources))
    ++ filter_map (unheard system) (numbers (length system.threads))
    ++ filter_map (inverted system) (numbers (length system.threads))
    ++ filter_map (unreached system) (numbers (length system.chains))
    ++ filter_map (unbound system.threads) (numbers (length system.contexts))
    ++ filter_map (unused system) (numbers system.cores)
    ++ filter_map (overcommitted system) (numbers system.cores)
