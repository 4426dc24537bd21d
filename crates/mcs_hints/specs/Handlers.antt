-- Badges that scripts take from notifications, and sources and signals whose badge no script takes.
use Rattle.std.specs.Prelude.{ℕ, ◌-◌, ◌^◌, ◌==◌, ◌&&◌, ◌||◌, not, if◌then◌else◌, bit_and, bit_or, List, [], ◌∷◌, length, map, get_or, slice_get, take, drop, fold, Option, Some, None}
use Rattle.std.specs.Option.{option_or}
use Rattle.mcs_script.specs.declared.item.Item.{Item}
use Rattle.mcs_script.specs.declared.item.Item.TheVariants.{Signal, Wait}
use Rattle.mcs_script.specs.Script.{badges_of, ends_handler}
use Rattle.mcs_system.specs.declared.part.SourcePart.{SourcePart}
use Rattle.mcs_system.specs.declared.part.ThreadPart.{ThreadPart}
use Rattle.mcs_system.specs.System.{System, source_part, thread_part}
use Rattle.mcs_hints.specs.declared.hint.Hint.{Hint}
use Rattle.mcs_hints.specs.Numbers.{numbers}
use Rattle.mcs_hints.specs.declared.hint.Hint.TheVariants.{Unawaited, Unhandled, Unheard}

-- all badges of a word
abbrev pub every_badge : ℕ
every_badge = 2 ^ 32 - 1

-- the badges that a script's first item takes if it waits: those of its handlers, or all if it has
-- none, or if an item that is in no handler follows
abbrev pub badges_at_first : List Item → ℕ
badges_at_first script =
    if badges_of script == 0 || not (ends_handler (slice_get script 1)) then every_badge else badges_of script

-- the badges taken so far from the notification, with those of an item that takes `badges` if it
-- waits there
abbrev pub with_item : ℕ → ℕ → ℕ → Item → ℕ
with_item note badges so_far (Wait x) = if x == note then bit_or so_far badges else so_far
with_item note badges so_far _ = so_far

-- with those of a script: a wait that is not its first item takes all
abbrev pub with_script : ℕ → ℕ → List Item → ℕ
with_script note so_far script =
    fold (with_item note every_badge) (fold (with_item note (badges_at_first script)) so_far (take 1 script)) (drop 1 script)

-- the badges that the threads take from the notification; 0 if no script waits on it
abbrev pub taken_from : List ThreadPart → ℕ → ℕ
taken_from threads note = fold (λ so_far thread. with_script note so_far thread.script) 0 threads

-- the badges that are taken from each notification
abbrev pub taken_of : System → List ℕ
taken_of system = map (taken_from system.threads) (numbers (length system.notes))

-- the hint of a source, by the badges that are taken from its notification
abbrev pub unread_by : ℕ → ℕ → SourcePart → Option Hint
unread_by badges source part =
    if badges == 0
    then Some (Unawaited source part.note)
    else if bit_and badges part.badge == 0 then Some (Unhandled source part.note part.badge) else None

-- no script waits on the source's notification, or none of those that wait there takes its badge
abbrev pub unread : System → ℕ → Option Hint
unread system source =
    let part = source_part system source in
    unread_by (get_or (taken_of system) part.note 0) source part

-- the hint of a thread's item, by the badges that are taken: scripts wait on the notification that
-- it signals, and none of them takes the badge
abbrev pub unheard_at : List ℕ → ℕ → Item → Option Hint
unheard_at taken thread (Signal note badge) =
    let badges = get_or taken note 0 in
    if not (badges == 0) && bit_and badges badge == 0 then Some (Unheard thread note badge) else None
unheard_at taken thread _ = None

-- the first such hint of these items
abbrev pub first_unheard : List ℕ → ℕ → List Item → Option Hint
first_unheard taken thread [] = None
first_unheard taken thread (item ∷ items) = option_or (unheard_at taken thread item) (first_unheard taken thread items)

-- the first signal of the thread whose badge no script takes
abbrev pub unheard : System → ℕ → Option Hint
unheard system thread = first_unheard (taken_of system) thread (thread_part system thread).script
