-- Interrupts of sources: their rows, and their dates by the file.
use Rattle.std.specs.Prelude.{◌≡◌, ℕ, suc, ◌-◌, ◌/◌, ◌%◌, ◌<◌, ◌^◌, Bool, true, false, ◌==◌, ◌&&◌, ◌||◌, nat_le, nat_lt, bit_and, List, [], ◌∷◌, map, filter}
use Rattle.std.specs.List.{list_any, range_with_len}
use Rattle.mcs_ticks.specs.declared.row.Row.{Row}
use Rattle.mcs_ticks.specs.declared.row.What.{What}
use Rattle.mcs_ticks.specs.declared.row.What.TheVariants as row
use Rattle.mcs_system.specs.declared.part.Beat.{Beat}
use Rattle.mcs_system.specs.System.{System, source_part}
use Rattle.mcs_core.specs.Alarms.{is_at_home}
use Rattle.mcs_core.specs.Clock.{turn_of, schedule}

-- whether t is a date of the beat: the first one or some periods later, limited by the count if
-- there is one
abbrev pub is_date : ℕ → Beat → Bool
is_date t beat =
    nat_le beat.first t && ((t - beat.first) % beat.period == 0)
    && ((beat.count == 0) || nat_lt ((t - beat.first) / beat.period) beat.count)

-- whether a row is an interrupt, and whether it is one of this source
abbrev pub is_interrupt : What → Bool
is_interrupt (row.Interrupt source note badge) = true
is_interrupt _ = false

abbrev pub is_interrupt_of : ℕ → What → Bool
is_interrupt_of source (row.Interrupt other note badge) = other == source
is_interrupt_of source _ = false

module _ (system : System) where
  -- the row of a beat
  abbrev pub interrupt_by : Beat → What
  interrupt_by beat =
      row.Interrupt beat.source (source_part system beat.source).note (source_part system beat.source).badge

  -- the beats of core c with a date at t, in file order
  abbrev pub due_at : ℕ → ℕ → List Beat
  due_at c t = filter (is_date t) (filter (is_at_home system c) system.beats)

  -- the turn of core c at t emits these interrupts, and no others
  abbrev pub TurnsTellDates : Type 0
  TurnsTellDates = (c t : ℕ) → t < 2 ^ 64 → filter is_interrupt (turn_of system c t).rows ≡ map interrupt_by (due_at c t)

  -- the dates of a source up to the horizon
  abbrev pub is_date_of : ℕ → ℕ → Bool
  is_date_of source t = list_any (λ beat. (beat.source == source) && is_date t beat) system.beats

  abbrev pub dates_to : ℕ → ℕ → List ℕ
  dates_to source horizon = filter (is_date_of source) (range_with_len 0 (suc horizon))

  -- the moments of a source's interrupts in rows
  abbrev pub moments_told : ℕ → List Row → List ℕ
  moments_told source rows = map (λ (told : Row). told.moment) (filter (λ (told : Row). is_interrupt_of source told.what) rows)

  -- these moments are its dates
  abbrev pub SchedulesTellDates : Type 0
  SchedulesTellDates =
      (source horizon : ℕ) → horizon < 2 ^ 64 → moments_told source (schedule system horizon) ≡ dates_to source horizon

-- the row of a post of this badge on this notification: it woke a thread with this word, or the
-- notification holds a word with all its bits
abbrev pub TellsPost : ℕ → ℕ → What → Type 0
TellsPost note badge (row.Wake thread at word until) = (at ≡ note) × (word ≡ badge)
TellsPost note badge (row.Hold at word) = (at ≡ note) × (bit_and word badge ≡ badge)
TellsPost note badge _ = ⊥

-- an interrupt is followed by such a row, of its moment and core
abbrev pub IsPosted : Row → What → List Row → Type 0
IsPosted told (row.Interrupt source note badge) [] = ⊥
IsPosted told (row.Interrupt source note badge) (next ∷ rows) =
    (next.moment ≡ told.moment) × (next.core ≡ told.core) × TellsPost note badge next.what
IsPosted told _ rows = Unit {0}

abbrev pub ArePosted : List Row → Type 0
ArePosted [] = Unit {0}
ArePosted (told ∷ rows) = IsPosted told told.what rows × ArePosted rows

abbrev pub InterruptsArePosted : System → Type 0
InterruptsArePosted system = (horizon : ℕ) → ArePosted (schedule system horizon)
