-- The lines of a chain for all time, in words and as JSON objects.
use Rattle.std.specs.Prelude.{ℕ, ◌+◌, ◌==◌, ◌||◌, Bool, true, false, not, if◌then◌else◌, Option, Some, None, List, [], ◌∷◌, ◌++◌, codes, decimal, flat_map, get_or}
use Rattle.mcs_fields.specs.Fields.{Text, Value, amount, empty, name, object_text}
use Rattle.mcs_system.specs.declared.part.ChainPart.{ChainPart}
use Rattle.mcs_system.specs.System.{System}
use Rattle.mcs_text.specs.Text.{line}
use Rattle.mcs_ever_told.specs.declared.line.LineFormat.{LineFormat}
use Rattle.mcs_ever_told.specs.declared.line.LineFormat.TheVariants as format
use Rattle.mcs_ever_told.specs.declared.line.Often.{Often}
use Rattle.mcs_ever_told.specs.declared.line.Often.TheVariants.{Forever, SoFar}
use Rattle.mcs_ever_told.specs.declared.outlook.told.Period.{Period}
use Rattle.mcs_ever_told.specs.Fields.{known, often_fields}
use Rattle.mcs_ever_told.specs.Lines.{is_some}
use Rattle.mcs_ever_told.specs.Texts.{known_word, named, often_words}
use Rattle.mcs_ever_chain.specs.declared.told.ChainTold.{ChainTold}

abbrev pub Fields : Type 0
Fields = List (Text × Value)

-- the value past the end of the list, which is never reached
abbrev pub no_chain : ChainPart
no_chain = record { name = []; source = 0; thread = 0; badges = 0; deadline = 0 }

abbrev pub chain_part : System → ℕ → ChainPart
chain_part system n = get_or system.chains n no_chain

abbrev pub chain_name : System → ℕ → Text
chain_name system n = (chain_part system n).name

-- a deadline, if there is one
abbrev pub due_value : ℕ → Value
due_value deadline = if deadline == 0 then empty else amount deadline

abbrev pub deadline_value : System → ℕ → Value
deadline_value system n = due_value (chain_part system n).deadline

-- how many there are in each period, or so far
abbrev pub times_of : Often → ℕ
times_of (Forever before each_period) = each_period
times_of (SoFar times) = times

-- a word and a comma
abbrev pub listed : Text → Text
listed word = word ++ codes ","

-- whether slow answers have a line: there are some
abbrev pub has_slow : ChainTold → Bool
has_slow told = is_some told.slow

-- whether interrupts without an answer have a line: there are some, or one had no answer in time and
-- no slow answer tells so
abbrev pub tells : Bool → Often → Bool
tells slow often = is_some often || not slow

abbrev pub tells_left : Bool → Option Often → Bool
tells_left slow None = false
tells_left slow (Some often) = tells slow often

abbrev pub has_left : ChainTold → Bool
has_left told = tells_left (has_slow told) told.unanswered

-- how many lines of findings there are
abbrev pub one_if : Bool → ℕ
one_if true = 1
one_if false = 0

abbrev pub findings_of : ChainTold → ℕ
findings_of told = one_if (has_slow told) + one_if (has_left told)

module _ (system : System) where
  -- the words of a chain whose answers recur, and of one that was not found to recur
  abbrev pub repeats_words : ChainTold → Period → List Text
  repeats_words told p =
      named (chain_name system told.chain) ∷ codes "repeats from" ∷ decimal p.from ∷ codes "with period" ∷ listed (decimal p.ticks)
      ∷ codes "greatest latency" ∷ listed (known_word told.greatest)
      ∷ codes "answers" ∷ decimal (times_of told.answers) ∷ codes "in each period" ∷ []

  abbrev pub open_words : ℕ → ChainTold → List Text
  open_words horizon told =
      named (chain_name system told.chain) ∷ codes "no repetition found up to" ∷ listed (decimal horizon)
      ∷ codes "greatest latency" ∷ known_word told.greatest ∷ codes "so far,"
      ∷ codes "answers" ∷ decimal (times_of told.answers) ∷ codes "so far" ∷ []

  abbrev pub words_by : ℕ → ChainTold → Option Period → List Text
  words_by horizon told (Some p) = repeats_words told p
  words_by horizon told None = open_words horizon told

  -- the values of such chains
  abbrev pub repeats_fields : ChainTold → Period → Fields
  repeats_fields told p =
      (codes "kind", name (codes "chain")) ∷ (codes "chain", name (chain_name system told.chain))
      ∷ (codes "from", amount p.from) ∷ (codes "period", amount p.ticks)
      ∷ (codes "greatest", known told.greatest) ∷ (codes "answers", amount (times_of told.answers))
      ∷ (codes "deadline", deadline_value system told.chain) ∷ []

  abbrev pub open_fields : ℕ → ChainTold → Fields
  open_fields horizon told =
      (codes "kind", name (codes "chain")) ∷ (codes "chain", name (chain_name system told.chain))
      ∷ (codes "horizon", amount horizon)
      ∷ (codes "greatest", known told.greatest) ∷ (codes "answers", amount (times_of told.answers))
      ∷ (codes "deadline", deadline_value system told.chain) ∷ []

  abbrev pub fields_by : ℕ → ChainTold → Option Period → Fields
  fields_by horizon told (Some p) = repeats_fields told p
  fields_by horizon told None = open_fields horizon told

  -- the line of a chain, which was searched up to this horizon
  abbrev pub chain_line : LineFormat → ℕ → ChainTold → Text
  chain_line format.Text horizon told = line (codes "chain") (words_by horizon told told.period)
  chain_line format.Json horizon told = object_text (fields_by horizon told told.period)

  -- the line of a finding of a chain: what is found, and how often
  abbrev pub finding_line : LineFormat → Text → ℕ → Often → Text
  finding_line format.Text kind chain often = line kind (named (chain_name system chain) ∷ often_words often)
  finding_line format.Json kind chain often =
      object_text ((codes "kind", name kind) ∷ (codes "chain", name (chain_name system chain)) ∷ often_fields often)

  -- the line of slow answers, if there are any
  abbrev pub slow_line : LineFormat → ChainTold → Text
  slow_line how told = if has_slow told then finding_line how (codes "slow") told.chain told.slow else []

  -- the line of interrupts without an answer, if there is one
  abbrev pub left_by : LineFormat → ChainTold → Option Often → Text
  left_by how told None = []
  left_by how told (Some often) =
      if tells (has_slow told) often then finding_line how (codes "unanswered") told.chain often else []

  abbrev pub left_line : LineFormat → ChainTold → Text
  left_line how told = left_by how told told.unanswered

  -- the lines of a chain, and those of several
  abbrev pub chain_lines : LineFormat → ℕ → ChainTold → Text
  chain_lines how horizon told = chain_line how horizon told ++ slow_line how told ++ left_line how told

  abbrev pub chains_text : LineFormat → ℕ → List ChainTold → Text
  chains_text how horizon told = flat_map (chain_lines how horizon) told
