-- The command line, as clap reads it.
use Rattle.clap.specs.Facts.{WantsDefault, least_values}
use Rattle.clap.specs.declared.Arg.{Arg}
use Rattle.std.specs.Prelude.{◌≤◌, ◌≡◌, ◌^◌, ℕ, true, List, [], ◌∷◌, map, codes, Some, None, option_map, unwrap_or, if◌then◌else◌, Result, IfOk, IfErr, string_bytes, ⊤}
use Rattle.std.specs.Str.{bytes_eq}
use Rattle.std.specs.Str.Parse.{digits_value, without_leading_plus}
use Rattle.std.specs.Borrow.{Bor}
use Rattle.clap.specs.Words.{App, FailsBy, IsAmong, IsParsedFrom, IsUnsignedIn, app_of, Kinds, Row, Rule, Text, fault_of, first_of, found_of, kind_of, matches_of, new_app, new_rule, one_of, rows_of, takes, with_rule}
use Rattle.clap.specs.declared.ArgMatches.{ArgMatches}
use Rattle.clap.specs.declared.Error.{Error}
use Rattle.clap.specs.declared.Command.{Command}
use Rattle.clap.specs.declared.builder.ArgAction.TheVariants.{Set}
use Rattle.clap.specs.declared.builder.ValueParser.TheVariants as parser
use Rattle.clap.specs.declared.error.kind.ErrorKind.{ErrorKind}
use Rattle.clap.specs.declared.error.kind.ErrorKind.TheVariants as kind
use Rattle.mcs_words.specs.declared.asked.Options.{Options}
use Rattle.mcs_words.specs.declared.asked.Show.{Show}
use Rattle.mcs_words.specs.declared.asked.Show.TheVariants as show
use Rattle.mcs_words.specs.declared.asked.WordsFault.{WordsFault}
use Rattle.mcs_words.specs.declared.asked.WordsFault.TheVariants as fault

abbrev pub file_rule : Rule
file_rule = record (new_rule (codes "FILE")) { action = Some Set }

abbrev pub number_rule : Text → Text → ℕ → ℕ → Rule
number_rule name default least most = record (new_rule name) {
  long = Some name;
  action = Some Set;
  value_names = 1;
  defaults = default ∷ [];
  parser = Some (parser.Unsigned least most);
}

abbrev pub horizon_rule : Rule
horizon_rule = number_rule (codes "horizon") (codes "1000") 0 (2 ^ 40)

abbrev pub workers_rule : Rule
workers_rule = number_rule (codes "workers") (codes "1") 1 64

-- the argument takes one value, and has a default
abbrev pub HasOneOrDefault : Arg → Type 0
HasOneOrDefault a = WantsDefault a × (a.action ≡ Some Set) × (a.val_delim ≡ None) × (1 ≤ least_values a)

abbrev pub show_words : List Text
show_words = codes "schedule" ∷ codes "reports" ∷ codes "both" ∷ []

-- a command line without the program's name
abbrev pub bare_line : App
bare_line = let start = new_app (codes "mcsim") in record { top = record start.top { no_binary_name = true }; subs = [] }

module _ (shows : Bor (List (Bor Text))) where
  abbrev pub show_rule : Rule
  show_rule = record (new_rule (codes "show")) {
    long = Some (codes "show");
    action = Some Set;
    value_names = 1;
    defaults = codes "schedule" ∷ [];
    parser = Some (parser.Names shows);
  }

  -- `[FILE] [--horizon N] [--workers W] [--show schedule|reports|both]`
  abbrev pub command_line : App
  command_line = with_rule (with_rule (with_rule (with_rule bare_line file_rule) horizon_rule) workers_rule) show_rule

abbrev pub text_of : Text → List Row → Text
text_of id rows = unwrap_or (first_of id rows) []

-- the number that u64 reads
abbrev pub number_of : Text → List Row → ℕ
number_of id rows = digits_value 10 (without_leading_plus (text_of id rows))

abbrev pub show_named : Text → Show
show_named word = if bytes_eq word (codes "reports") then show.Reports
    else if bytes_eq word (codes "both") then show.Both else show.Schedule

-- the id has a value, a number from `least` to `most`
abbrev pub HasNumber : Text → ℕ → ℕ → List Row → Type 0
HasNumber id least most rows =
    (t : Text) × (first_of id rows ≡ Some t) × (one_of id rows ≡ Some t) × IsUnsignedIn least most t

-- a command with this command line. A successful parse of it has both numbers.
pub record IsCommandLine (c : Command) : Type 0 where
  -- the names of what is shown, at any place
  pub shows : Bor (List (Bor Text))
  pub are : map (λ name. name.now) shows.now ≡ show_words
  pub app : app_of c ≡ command_line shows
  pub horizon : (m : ArgMatches) → IsParsedFrom c m → HasNumber (codes "horizon") 0 (2 ^ 40) (rows_of (found_of m))
  pub workers : (m : ArgMatches) → IsParsedFrom c m → HasNumber (codes "workers") 1 64 (rows_of (found_of m))

-- the result of a parse
pub record IsParse (words : List Text) (r : Result ArgMatches Error) : Type 0 where
  -- the names of what is shown, at any place
  pub shows : Bor (List (Bor Text))
  pub are : map (λ name. name.now) shows.now ≡ show_words
  pub rows : IfOk r (λ m. rows_of (found_of m) ≡ matches_of (command_line shows) words)
  pub taken : takes (command_line shows) words ≡ true → IfErr r (λ e. kind_of e ≡ kind.OutOfMemory)
  pub kinds : FailsBy (fault_of (command_line shows) words) r

-- the options have the values of these matches
pub record HasValues (rows : List Row) (o : Options) : Type 0 where
  pub file : option_map string_bytes o.file ≡ first_of (codes "FILE") rows
  pub horizon : o.horizon ≡ number_of (codes "horizon") rows
  pub workers : o.workers ≡ number_of (codes "workers") rows
  pub shown : o.show ≡ show_named (text_of (codes "show") rows)

-- the fault for an error of this kind
abbrev pub FaultOf : ErrorKind → WordsFault → Type 0
FaultOf k fault.NoMemory = ⊤
FaultOf k (fault.Help text) = k ≡ kind.DisplayHelp
FaultOf k (fault.Words text) = (k ≡ kind.DisplayHelp → ⊥) × (k ≡ kind.OutOfMemory → ⊥)

-- a fault has one of these kinds, or memory has run out
abbrev pub IsFaultOf : Kinds → WordsFault → Type 0
IsFaultOf kinds fault.NoMemory = ⊤
IsFaultOf kinds (fault.Help text) = IsAmong kind.DisplayHelp kinds
IsFaultOf kinds (fault.Words text) = (k : ErrorKind) × (k ≡ kind.DisplayHelp → ⊥) × IsAmong k kinds

-- The result of `options`:
-- - the values that the command line gives the words, if they have no fault;
-- - out of memory only, if the command line takes the words;
-- - otherwise help, if help is among their faults, or the text of another fault.
pub record IsAnswer (words : List Text) (r : Result Options WordsFault) : Type 0 where
  -- the names of what is shown, at any place
  pub shows : Bor (List (Bor Text))
  pub are : map (λ name. name.now) shows.now ≡ show_words
  pub values : IfOk r (HasValues (matches_of (command_line shows) words))
  pub accepted : IfOk r (λ _. fault_of (command_line shows) words ≡ [])
  pub taken : takes (command_line shows) words ≡ true → IfErr r (λ e. e ≡ fault.NoMemory)
  pub refused : IfErr r (IsFaultOf (fault_of (command_line shows) words))
