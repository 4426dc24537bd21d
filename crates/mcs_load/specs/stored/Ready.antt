-- Steps of scripts that were read, and what they name.
use Rattle.std.specs.Prelude.{◌≡◌, ℕ, ◌+◌, ◌^◌, ◌<◌, ◌≤◌, List, length, All}
use Rattle.mcs_script.specs.declared.item.Item.{Item}
use Rattle.mcs_script.specs.declared.item.Item.TheVariants as items
use Rattle.mcs_script.specs.Script.{GoOn}
use Rattle.mcs_system.specs.declared.part.NotePart.{NotePart}
use Rattle.mcs_load.specs.declared.server.Server.{Server}
use Rattle.mcs_load.specs.Script.{core_of, server_at}

-- a server that may be called
pub record IsServerAt (notes : List NotePart) (servers : List Server) (core number : ℕ) : Type 0 where
  pub place : ℕ
  pub number_is : number ≡ length notes + place
  pub within : place < length servers
  pub home : (server_at servers place).core ≡ core

-- a step of a script of this core
abbrev pub IsStep : List NotePart → List Server → ℕ → Item → Type 0
IsStep notes servers core (items.Compute ticks) = (1 ≤ ticks) × (ticks ≤ 2 ^ 40)
IsStep notes servers core (items.Signal note badge) = (note < length notes) × (1 ≤ badge) × (badge < 2 ^ 32)
IsStep notes servers core (items.Wait note) = (note < length notes) × (core_of notes note ≡ core)
IsStep notes servers core items.Yield = Unit {0}
IsStep notes servers core (items.On badges) = (1 ≤ badges) × (badges < 2 ^ 32)
IsStep notes servers core items.Spin = Unit {0}
IsStep notes servers core (items.Enter number priority) = IsServerAt notes servers core number
IsStep notes servers core (items.Leave number priority) = IsServerAt notes servers core number

-- steps of a script of this core. After each enter the script continues.
pub record AreSteps (notes : List NotePart) (servers : List Server) (core : ℕ) (steps : List Item) : Type 0 where
  pub known : All (IsStep notes servers core) steps
  pub entering : GoOn steps (length steps)

-- the steps of each server are of its core
abbrev pub AreReady : List NotePart → List Server → Type 0
AreReady notes servers = All (λ server. AreSteps notes servers server.core server.steps) servers
