-- A law of every file.
use Rattle.std.specs.Prelude.{◌≡◌, ℕ, List, None}
use Rattle.mcs_system.specs.WellFormed.{IsWellFormed}
use Rattle.mcs_load.specs.Checks.{first_failed}
use Rattle.mcs_load.specs.Walk.{file}

-- a file that passes all tests describes a well-formed system
abbrev pub AcceptedIsWellFormed : Type 0
AcceptedIsWellFormed = (text : List ℕ) → first_failed (file text).tests ≡ None → IsWellFormed (file text).value
