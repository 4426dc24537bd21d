-- The words of notifications, and lost or merged signals, by the rows so far, the latest first.
use Rattle.std.specs.Prelude.{ℕ, suc, Bool, false, ◌==◌, ◌&&◌, not, nat_lt, if◌then◌else◌, bit_or, List, [], ◌∷◌, length, get_or, fold, Option, Some, None}
use Rattle.mcs_ticks.specs.declared.row.Row.{Row}
use Rattle.mcs_ticks.specs.declared.row.What.{What}
use Rattle.mcs_ticks.specs.declared.row.What.TheVariants as row
use Rattle.mcs_system.specs.declared.part.NotePart.{NotePart}
use Rattle.mcs_system.specs.declared.part.ThreadPart.{ThreadPart}
use Rattle.mcs_system.specs.System.{System}
use Rattle.mcs_verdict.specs.declared.finding.Finding.{Finding}
use Rattle.mcs_verdict.specs.declared.finding.Finding.TheVariants.{Lost}
use Rattle.mcs_verdict.specs.declared.held.Held.{Held}
use Rattle.mcs_verdict.specs.Calls.{first_wait, is_set, bits_of, either}
use Rattle.mcs_verdict.specs.Takers.{due_of}
pub use Rattle.mcs_verdict.specs.Takers.{waits_for}

-- the word of a notification that the system does not have
abbrev pub no_word : Held
no_word = record { word = 0; since = 0; bits = Some 0; due = None; given = 0 }

-- a word after a signal; it is set from now on if it left nothing to do before
abbrev pub held_with : ℕ → ℕ → Held → Held
held_with moment word before =
    record before { word = word; since = if is_set before.bits before.word then before.since else moment }

-- a word after one was given to a thread
abbrev pub gave : ℕ → Held → Held
gave word before = record before { given = bit_or before.given word }

-- a word after a thread took it
abbrev pub taken : ℕ → Held → Held
taken word before = record (gave word before) { word = 0 }

-- a word after a row: `hold` has the new word, `got` leaves 0, and a word that wakes is not held
abbrev pub held_after : ℕ → ℕ → What → Held → Held
held_after note moment (row.Hold x word) before = if x == note then held_with moment word before else before
held_after note moment (row.Got thread x word) before = if x == note then taken word before else before
held_after note moment (row.Wake thread x word until) before = if x == note then gave word before else before
held_after note moment _ before = before

-- the notification's word, `first` to begin with, when it was first set since it was last taken, and
-- the bits of all words that it gave to threads
abbrev pub held : Held → ℕ → List Row → Held
held first note [] = first
held first note (r ∷ past) = held_after note r.moment r.what (held first note past)

-- the same for a notification among those whose first words are `firsts`
abbrev pub held_of : List Held → ℕ → List Row → Held
held_of firsts note past = if nat_lt note (length firsts) then held (get_or firsts note no_word) note past else no_word

-- the word for which the script waits first
abbrev pub word_for : List Held → Option ℕ → List Row → Held
word_for firsts (Some note) past = held_of firsts note past
word_for firsts None past = no_word

-- the words that leave something to do, with this thread if it waits first for the notification
abbrev pub hears : ℕ → Option ℕ → ThreadPart → Option ℕ
hears note bits part = if waits_for note (first_wait part) then either bits (bits_of part) else bits

abbrev pub heard_at : ℕ → List ThreadPart → Option ℕ
heard_at note threads = fold (hears note) (Some 0) threads

-- the words at first, of the notifications from number n on
abbrev pub firsts_from : ℕ → List ThreadPart → List NotePart → List Held
firsts_from n threads [] = []
firsts_from n threads (part ∷ parts) =
    record { word = part.word; since = 0; bits = heard_at n threads; due = due_of n threads; given = 0 } ∷ firsts_from (suc n) threads parts

abbrev pub firsts_of : System → List Held
firsts_of system = firsts_from 0 system.threads system.notes

-- a signal that does not change the word is lost
abbrev pub leaves : ℕ → ℕ → Bool
leaves before word = before == word

-- a signal that adds bits to a word other than 0 is merged with those that set it
abbrev pub adds : ℕ → ℕ → Bool
adds before word = not (before == 0) && not (before == word)

abbrev pub lost : System → List Row → ℕ → ℕ → Option Finding
lost system past note word =
    if leaves (held_of (firsts_of system) note past).word word then Some (Lost note word) else None

abbrev pub merges : System → List Row → What → Bool
merges system past (row.Hold note word) = adds (held_of (firsts_of system) note past).word word
merges system past _ = false
