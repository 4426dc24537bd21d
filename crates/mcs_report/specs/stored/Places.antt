-- How the indexes of threads are stored.
use Rattle.std.specs.Prelude.{◌≡◌, ℕ, List, length, map}
use Rattle.std.specs.List.{range_with_len}
use Rattle.mcs_system.specs.System.{System, thread_part, core_of}
use Rattle.mcs_report.specs.declared.places.Home.{Home}
use Rattle.mcs_report.specs.Places.{place_of}

abbrev pub home_in : System → ℕ → Home
home_in system thread = record { core = core_of system (thread_part system thread); place = place_of system thread }

-- for each thread
abbrev pub AreHomes : System → List Home → Type 0
AreHomes system homes = homes ≡ map (home_in system) (range_with_len 0 (length system.threads))
