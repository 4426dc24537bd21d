-- The servers that a script is in at each of its items, and scripts that enter and leave servers in
-- pairs.
use Rattle.std.specs.Prelude.{◌≡◌, ℕ, zero, suc, Bool, true, false, ◌==◌, ◌&&◌, not, List, [], ◌∷◌, All}
use Rattle.std.specs.List.{list_any}
use Rattle.mcs_script.specs.declared.item.Item.{Item}
use Rattle.mcs_script.specs.declared.item.Item.TheVariants.{On, Enter, Leave}
use Rattle.mcs_system.specs.declared.part.ThreadPart.{ThreadPart}
use Rattle.mcs_system.specs.System.{System}

-- servers that were entered and not yet left, the last one first
abbrev pub is_in : ℕ → List ℕ → Bool
is_in server servers = list_any (λ entered. entered == server) servers

abbrev pub are_none : List ℕ → Bool
are_none [] = true
are_none (last ∷ others) = false

abbrev pub last_is : ℕ → List ℕ → Bool
last_is server [] = false
last_is server (last ∷ others) = last == server

abbrev pub without_last : List ℕ → List ℕ
without_last [] = []
without_last (last ∷ others) = others

-- after an item
abbrev pub inside_after : Item → List ℕ → List ℕ
inside_after (Enter server priority) servers = server ∷ servers
inside_after (Leave server priority) servers = without_last servers
inside_after _ servers = servers

-- before the item with this number
abbrev pub inside_from : ℕ → List Item → List ℕ → List ℕ
inside_from zero items servers = servers
inside_from (suc n) [] servers = servers
inside_from (suc n) (item ∷ items) servers = inside_from n items (inside_after item servers)

abbrev pub inside : ℕ → List Item → List ℕ
inside item script = inside_from item script []

-- no server is entered that the script is in, only the last one is left, and a handler begins in no
-- server
abbrev pub may_stand : Item → List ℕ → Bool
may_stand (Enter server priority) servers = not (is_in server servers)
may_stand (Leave server priority) servers = last_is server servers
may_stand (On badges) servers = are_none servers
may_stand _ servers = true

-- and the script ends in no server
abbrev pub nests_from : List Item → List ℕ → Bool
nests_from [] servers = are_none servers
nests_from (item ∷ items) servers = may_stand item servers && nests_from items (inside_after item servers)

abbrev pub nests : List Item → Bool
nests script = nests_from script []

abbrev pub ScriptsNest : System → Type 0
ScriptsNest system = All (λ (thread : ThreadPart). nests thread.script ≡ true) system.threads
