-- The names of the things of a system, by number.
use Rattle.std.specs.Prelude.{ℕ, List, Option, None, option_map, slice_get, ◌==◌, if◌then◌else◌}
use Rattle.mcs_system.specs.System.{System}

-- the name of a thread, context, note, source or chain (0 to 4) of this number, if there is one
abbrev pub name_of : ℕ → System → ℕ → Option (List ℕ)
name_of of system number =
    if of == 0 then option_map (λ part. part.name) (slice_get system.threads number)
    else if of == 1 then option_map (λ part. part.name) (slice_get system.contexts number)
    else if of == 2 then option_map (λ part. part.name) (slice_get system.notes number)
    else if of == 3 then option_map (λ part. part.name) (slice_get system.sources number)
    else if of == 4 then option_map (λ part. part.name) (slice_get system.chains number)
    else None
