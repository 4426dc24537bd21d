-- Files that the loader accepts.
use Rattle.std.specs.Prelude.{◌≡◌, ℕ, List, None}
use Rattle.mcs_load.specs.Checks.{first_failed}
use Rattle.mcs_load.specs.Walk.{file}
use Rattle.mcs_server_laws.specs.Nesting.{ScriptsNest}
use Rattle.mcs_server_laws.specs.Exclusion.{ServersExclude}
use Rattle.mcs_server_laws.specs.Ceiling.{HavePriorities}

-- in a file without a failed test, scripts enter and leave servers in pairs
abbrev pub AcceptedScriptsNest : Type 0
AcceptedScriptsNest = (text : List ℕ) → first_failed (file text).tests ≡ None → ScriptsNest (file text).value

-- each server of such a file has at most one holder
abbrev pub AcceptedServersExclude : Type 0
AcceptedServersExclude = (text : List ℕ) → first_failed (file text).tests ≡ None → ServersExclude (file text).value

-- each server gives its priority, and a thread that leaves it gets the previous one back
abbrev pub AcceptedHavePriorities : Type 0
AcceptedHavePriorities = (text : List ℕ) → first_failed (file text).tests ≡ None → (ceiling : ℕ → ℕ) × HavePriorities (file text).value ceiling
