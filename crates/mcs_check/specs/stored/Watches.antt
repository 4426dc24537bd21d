-- What is kept of the threads and of the chains.
use Rattle.std.specs.Prelude.{List}
use Rattle.mcs_ticks.specs.declared.row.Row.{Row}
use Rattle.mcs_system.specs.System.{System}
use Rattle.mcs_chain.specs.Watch.{watch_of as chains_of}
use Rattle.mcs_check.specs.declared.seen.Watches.{Watches}
use Rattle.mcs_check.specs.stored.Threads.{threads_of}

abbrev pub watches_of : System → List Row → Watches
watches_of system past = record { threads = threads_of system past; chains = chains_of system past }
