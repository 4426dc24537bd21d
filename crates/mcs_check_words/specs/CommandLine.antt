-- The command line of `mcscheck`, as clap reads it.
use Rattle.std.specs.Prelude.{◌≡◌, ◌^◌, ℕ, ◌&&◌, not, Bool, true, false, List, [], ◌∷◌, map, codes, find, Option, Some, None, option_and_then, option_map, unwrap_or, if◌then◌else◌, Result, IfOk, IfErr, string_bytes}
use Rattle.std.specs.Str.{bytes_eq}
use Rattle.std.specs.Borrow.{Bor}
use Rattle.clap.specs.Words.{App, FailsBy, IsParsedFrom, Row, Rule, Text, all_of, app_of, fault_of, first_of, found_of, kind_of, matches_of, new_app, new_rule, one_of, rows_of, takes, with_rule}
use Rattle.clap.specs.declared.ArgMatches.{ArgMatches}
use Rattle.clap.specs.declared.Error.{Error}
use Rattle.clap.specs.declared.Command.{Command}
use Rattle.clap.specs.declared.builder.ArgAction.TheVariants.{Append, Set, SetTrue}
use Rattle.clap.specs.declared.builder.ValueParser.TheVariants as parser
use Rattle.clap.specs.declared.error.kind.ErrorKind.TheVariants as kind
use Rattle.clap.specs.declared.parser.matches.ValueSource.{ValueSource}
use Rattle.clap.specs.declared.parser.matches.ValueSource.TheVariants.{CommandLine}
use Rattle.mcs_words.specs.CommandLine.{HasNumber, IsFaultOf, file_rule, horizon_rule, number_of, text_of, workers_rule}
use Rattle.mcs_words.specs.declared.asked.WordsFault.{WordsFault}
use Rattle.mcs_words.specs.declared.asked.WordsFault.TheVariants as fault
use Rattle.mcs_check_words.specs.declared.asked.Options.{Options}
use Rattle.mcs_check_words.specs.declared.asked.Question.{Question}
use Rattle.mcs_check_words.specs.declared.asked.Format.{Format}
use Rattle.mcs_check_words.specs.declared.asked.Format.TheVariants as format
use Rattle.mcs_check_words.specs.declared.asked.Show.{Show}
use Rattle.mcs_check_words.specs.declared.asked.Show.TheVariants as show

-- `--allow-lost NOTE`, which may be repeated
abbrev pub allow_lost_rule : Rule
allow_lost_rule = record (new_rule (codes "allow-lost")) {
  long = Some (codes "allow-lost");
  action = Some Append;
  value_names = 1;
}

abbrev pub strict_rule : Rule
strict_rule = record (new_rule (codes "strict")) { long = Some (codes "strict"); action = Some SetTrue }

-- `--why THREAD ROUND`
abbrev pub why_rule : Rule
why_rule = record (new_rule (codes "why")) { long = Some (codes "why"); action = Some Set; value_names = 2 }

-- `--forever`
abbrev pub forever_rule : Rule
forever_rule = record (new_rule (codes "forever")) { long = Some (codes "forever"); action = Some SetTrue }

-- the values of `--show`
abbrev pub show_words : List Text
show_words = codes "findings" ∷ codes "jobs" ∷ codes "table" ∷ codes "both" ∷ []

-- the values of `--format`
abbrev pub format_words : List Text
format_words = codes "text" ∷ codes "csv" ∷ codes "json" ∷ []

-- an option that takes one of these values
abbrev pub choice_rule : Text → Text → Bor (List (Bor Text)) → Rule
choice_rule name default words = record (new_rule name) {
  long = Some name;
  action = Some Set;
  value_names = 1;
  defaults = default ∷ [];
  parser = Some (parser.Names words);
}

-- the command line without arguments; it reads them without the program's name
abbrev pub bare_line : App
bare_line = let start = new_app (codes "mcscheck") in record { top = record start.top { no_binary_name = true }; subs = [] }

module _ (shows formats : Bor (List (Bor Text))) where
  abbrev pub show_rule : Rule
  show_rule = choice_rule (codes "show") (codes "both") shows

  abbrev pub format_rule : Rule
  format_rule = choice_rule (codes "format") (codes "text") formats

  -- `[FILE] [--horizon N] [--workers W] [--allow-lost NOTE].. [--strict]
  -- [--show findings|jobs|table|both] [--format text|csv|json] [--why THREAD ROUND] [--forever]`
  abbrev pub command_line : App
  command_line =
      let numbers = with_rule (with_rule (with_rule bare_line file_rule) horizon_rule) workers_rule in
      let shown = with_rule (with_rule (with_rule (with_rule numbers allow_lost_rule) strict_rule) show_rule) format_rule in
      with_rule (with_rule shown why_rule) forever_rule

-- the texts of all values of the id, in the order of the arguments
abbrev pub texts_of : Text → List Row → List Text
texts_of id rows = unwrap_or (all_of id rows) []

-- the option without a value is given: clap then gives it the value `true`, else `false`
abbrev pub is_set : Text → List Row → Bool
is_set id rows = bytes_eq (unwrap_or (one_of id rows) []) (codes "true")

-- the option has its value from the arguments, and not by default
abbrev pub is_by_words : Option ValueSource → Bool
is_by_words (Some CommandLine) = true
is_by_words _ = false

abbrev pub is_given : Text → List Row → Bool
is_given id rows = is_by_words (option_and_then (λ r. r.source) (find (λ r. bytes_eq r.id id) rows))

-- the last time of the run; for a search for a repetition 10000000, unless a number is given
abbrev pub horizon_of : List Row → ℕ
horizon_of rows = if is_set (codes "forever") rows && not (is_given (codes "horizon") rows) then 10000000 else number_of (codes "horizon") rows

-- the first two of these texts: a thread and a round
abbrev pub first_two : List Text → Option (Text × Text)
first_two [] = None
first_two (thread ∷ []) = None
first_two (thread ∷ round ∷ more) = Some (thread, round)

abbrev pub question_texts : Question → Text × Text
question_texts question = (string_bytes question.thread, string_bytes question.round)

-- the part of the schedule that a value of `--show` names
abbrev pub show_named : Text → Show
show_named word = if bytes_eq word (codes "jobs") then show.Jobs
    else if bytes_eq word (codes "table") then show.Table
    else if bytes_eq word (codes "both") then show.Both else show.Findings

-- the format that a value of `--format` names
abbrev pub format_named : Text → Format
format_named word = if bytes_eq word (codes "csv") then format.Csv
    else if bytes_eq word (codes "json") then format.Json else format.Text

-- a command with this command line; a parse that succeeds has both numbers
pub record IsCommandLine (c : Command) : Type 0 where
  -- the values of the two options, wherever they are in memory
  pub shows : Bor (List (Bor Text))
  pub formats : Bor (List (Bor Text))
  pub are_shows : map (λ name. name.now) shows.now ≡ show_words
  pub are_formats : map (λ name. name.now) formats.now ≡ format_words
  pub app : app_of c ≡ command_line shows formats
  pub horizon : (m : ArgMatches) → IsParsedFrom c m → HasNumber (codes "horizon") 0 (2 ^ 40) (rows_of (found_of m))
  pub workers : (m : ArgMatches) → IsParsedFrom c m → HasNumber (codes "workers") 1 64 (rows_of (found_of m))

-- the result of a parse of the arguments
pub record IsParse (words : List Text) (r : Result ArgMatches Error) : Type 0 where
  -- the values of the two options, wherever they are in memory
  pub shows : Bor (List (Bor Text))
  pub formats : Bor (List (Bor Text))
  pub are_shows : map (λ name. name.now) shows.now ≡ show_words
  pub are_formats : map (λ name. name.now) formats.now ≡ format_words
  pub rows : IfOk r (λ m. rows_of (found_of m) ≡ matches_of (command_line shows formats) words)
  pub taken : takes (command_line shows formats) words ≡ true → IfErr r (λ e. kind_of e ≡ kind.OutOfMemory)
  pub kinds : FailsBy (fault_of (command_line shows formats) words) r

-- the options have the values of these matches
pub record HasValues (rows : List Row) (o : Options) : Type 0 where
  pub file : option_map string_bytes o.file ≡ first_of (codes "FILE") rows
  pub horizon : o.horizon ≡ horizon_of rows
  pub workers : o.workers ≡ number_of (codes "workers") rows
  pub allowed : map string_bytes o.allowed.items ≡ texts_of (codes "allow-lost") rows
  pub strict : o.strict ≡ is_set (codes "strict") rows
  pub shown : o.show ≡ show_named (text_of (codes "show") rows)
  pub shown_by_words : o.show_given ≡ is_given (codes "show") rows
  pub written : o.format ≡ format_named (text_of (codes "format") rows)
  pub why : option_map question_texts o.why ≡ first_two (texts_of (codes "why") rows)
  pub forever : o.forever ≡ is_set (codes "forever") rows

-- The result for the arguments. Options have the values that the command line gives them, and there
-- is no fault. Valid arguments are refused only if memory runs out. A refusal of others is help if
-- that is among their faults, or the text of another fault.
pub record IsAnswer (words : List Text) (r : Result Options WordsFault) : Type 0 where
  -- the values of the two options, wherever they are in memory
  pub shows : Bor (List (Bor Text))
  pub formats : Bor (List (Bor Text))
  pub are_shows : map (λ name. name.now) shows.now ≡ show_words
  pub are_formats : map (λ name. name.now) formats.now ≡ format_words
  pub values : IfOk r (HasValues (matches_of (command_line shows formats) words))
  pub accepted : IfOk r (λ _. fault_of (command_line shows formats) words ≡ [])
  pub taken : takes (command_line shows formats) words ≡ true → IfErr r (λ e. e ≡ fault.NoMemory)
  pub refused : IfErr r (IsFaultOf (fault_of (command_line shows formats) words))
