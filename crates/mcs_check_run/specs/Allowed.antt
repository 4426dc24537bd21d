-- The notifications at which lost signals are allowed, by name, and the fault of an unknown name.
use Rattle.std.specs.Prelude.{ℕ, ◌≡◌, ◌-◌, Bool, not, if◌then◌else◌, List, [], ◌∷◌, length, map, take, find, Option, Some, None, option_map, string_bytes, ⊤}
use Rattle.std.specs.List.{list_any}
use Rattle.std.specs.Str.{bytes_eq}
use Rattle.mcs_system.specs.declared.part.NotePart.{NotePart}
use Rattle.mcs_system.specs.System.{System}
use Rattle.mcs_cli.specs.declared.fault.RunFault.TheVariants as run
use Rattle.mcs_check_words.specs.declared.asked.Options.{Options}
use Rattle.mcs_check_run.specs.declared.fault.CheckFault.{CheckFault}
use Rattle.mcs_check_run.specs.declared.fault.CheckFault.TheVariants.{Run, Unknown}
use Rattle.mcs_check_run.specs.Names.{is_short, nearer}

-- the notifications at which lost signals are allowed, by name
abbrev pub names_of : Options → List (List ℕ)
names_of options = map (λ name. string_bytes name) options.allowed.items

-- the name is among these
abbrev pub is_named : List (List ℕ) → List ℕ → Bool
is_named names name = list_any (λ other. bytes_eq other name) names

-- for each notification, whether its name is among these
abbrev pub flags_of : List (List ℕ) → List NotePart → List Bool
flags_of names notes = map (λ part. is_named names part.name) notes

-- the notifications of a system: its notes without the servers, which come last
abbrev pub notifications : System → List NotePart
notifications system = take (length system.notes - system.servers) system.notes

-- a notification has the name
abbrev pub is_known : List NotePart → List ℕ → Bool
is_known notes name = list_any (λ part. bytes_eq part.name name) notes

-- the first of the names that no notification has
abbrev pub first_unknown : List NotePart → List (List ℕ) → Option (List ℕ)
first_unknown notes names = find (λ name. not (is_known notes name)) names

-- the nearest of a name and the names of these notifications
abbrev pub nearest_from : List ℕ → Option (List ℕ) → List NotePart → Option (List ℕ)
nearest_from name near [] = near
nearest_from name near (part ∷ parts) = nearest_from name (Some (nearer name near part.name)) parts

-- the nearest name of these notifications, if there is one and the given name is short
abbrev pub nearest_of : List NotePart → List ℕ → Option (List ℕ)
nearest_of notes name = if is_short name then nearest_from name None notes else None

-- the fault of a name that no notification has, or that memory ran out
abbrev pub IsUnknownFault : List NotePart → List ℕ → CheckFault → Type 0
IsUnknownFault notes name (Unknown given nearest) =
    (string_bytes given ≡ name) × (option_map string_bytes nearest ≡ nearest_of notes name)
IsUnknownFault notes name (Run (run.Sim f)) = ⊤
IsUnknownFault notes name _ = ⊥
