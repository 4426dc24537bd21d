-- The lines of a check for all time, as named values.
use Rattle.std.specs.Prelude.{ℕ, Bool, true, false, Option, Some, None, List, [], ◌∷◌, codes}
use Rattle.mcs_fields.specs.Fields.{Text, Value, amount, empty, listed, name}
use Rattle.mcs_system.specs.System.{System}
use Rattle.mcs_text.specs.Text.{note_name, thread_name}
use Rattle.mcs_ever_told.specs.Texts.{cores_text, taker_names}
use Rattle.mcs_ever_told.specs.declared.line.Line.{Line}
use Rattle.mcs_ever_told.specs.declared.line.Line.TheVariants as line
use Rattle.mcs_ever_told.specs.declared.line.Often.{Often}
use Rattle.mcs_ever_told.specs.declared.line.Totals.{Totals}
use Rattle.mcs_ever_told.specs.declared.line.Often.TheVariants.{Forever, SoFar}

abbrev pub Fields : Type 0
Fields = List (Text × Value)

-- a number, if there is one
abbrev pub known : Option ℕ → Value
known None = empty
known (Some n) = amount n

-- how often something is found
abbrev pub often_fields : Often → Fields
often_fields (Forever before each_period) = (codes "each_period", amount each_period) ∷ (codes "before", amount before) ∷ []
often_fields (SoFar times) = (codes "so_far", amount times) ∷ []

-- that a thread never stops with its budget exhausted, if that is so
abbrev pub throttled_value : Bool → Value
throttled_value false = empty
throttled_value true = name (codes "never")

-- how much was looked at and found
abbrev pub totals_fields : Totals → Fields
totals_fields totals =
    (codes "kind", name (codes "sets")) ∷ (codes "sets", amount totals.sets) ∷ (codes "repeating", amount totals.repeating)
    ∷ (codes "findings", amount totals.findings) ∷ (codes "threads", amount totals.threads) ∷ (codes "deadlines", amount totals.deadlines) ∷ []

module _ (system : System) where
  abbrev pub cores_field : List Bool → Text × Value
  cores_field cores = (codes "cores", name (cores_text system cores))

  abbrev pub thread_field : ℕ → Text × Value
  thread_field thread = (codes "thread", name (thread_name system thread))

  abbrev pub note_field : ℕ → Text × Value
  note_field note = (codes "note", name (note_name system note))

  -- the values of a line, after its kind
  abbrev pub line_fields : Line → Fields
  line_fields (line.Repeats cores from period) =
      (codes "kind", name (codes "repeats")) ∷ cores_field cores ∷ (codes "from", amount from) ∷ (codes "period", amount period) ∷ []
  line_fields (line.Open cores horizon) =
      (codes "kind", name (codes "open")) ∷ cores_field cores ∷ (codes "horizon", amount horizon) ∷ []
  line_fields (line.Miss thread often) = (codes "kind", name (codes "miss")) ∷ thread_field thread ∷ often_fields often
  line_fields (line.Lost note often) = (codes "kind", name (codes "lost")) ∷ note_field note ∷ often_fields often
  line_fields (line.Overdue thread moment) =
      (codes "kind", name (codes "overdue")) ∷ thread_field thread ∷ (codes "moment", amount moment) ∷ []
  line_fields (line.Never thread moment) =
      (codes "kind", name (codes "never")) ∷ thread_field thread ∷ (codes "moment", amount moment) ∷ []
  line_fields (line.Untaken note moment) =
      (codes "kind", name (codes "untaken")) ∷ note_field note ∷ (codes "moment", amount moment) ∷ []
  line_fields (line.Endless thread number activated) =
      (codes "kind", name (codes "overdue")) ∷ thread_field thread ∷ (codes "number", amount number) ∷ (codes "activated", amount activated) ∷ []
  line_fields (line.Inactive thread) = (codes "kind", name (codes "never")) ∷ thread_field thread ∷ []
  line_fields (line.Abandoned note word set) =
      (codes "kind", name (codes "untaken")) ∷ note_field note ∷ (codes "by", listed (taker_names system note)) ∷ (codes "word", amount word)
      ∷ (codes "set", amount set) ∷ []
  line_fields (line.Thread thread greatest never_throttled silent_from) =
      (codes "kind", name (codes "thread")) ∷ thread_field thread ∷ (codes "greatest", known greatest)
      ∷ (codes "throttled", throttled_value never_throttled) ∷ (codes "ends_no_round_from", known silent_from) ∷ []
  line_fields (line.Computes thread never_throttled) =
      (codes "kind", name (codes "computes")) ∷ thread_field thread ∷ (codes "throttled", throttled_value never_throttled) ∷ []
  line_fields (line.ThreadSoFar thread greatest) =
      (codes "kind", name (codes "thread_so_far")) ∷ thread_field thread ∷ (codes "greatest", known greatest) ∷ []
  line_fields (line.Clean cores) = (codes "kind", name (codes "clean")) ∷ cores_field cores ∷ []
  line_fields (line.Sets totals) = totals_fields totals
