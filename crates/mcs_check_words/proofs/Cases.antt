-- The results of the command line for given arguments.
use Rattle.std.proofs.Common.{◌≡◌, refl, true, false, List, codes, [], ◌∷◌, map, Some, None}
use Rattle.std.specs.Borrow.{Bor}
use Rattle.clap.specs.Words.{App, Text, fault_of, first_of, matches_of, takes}
use Rattle.clap.specs.declared.error.kind.ErrorKind.TheVariants as kind
use Rattle.clap.proofs.OnLiterals.{clap_on_literals}
use Rattle.mcs_words.specs.CommandLine.{number_of, text_of}
use Rattle.mcs_check_words.specs.declared.asked.Show.TheVariants as show
use Rattle.mcs_check_words.specs.declared.asked.Format.TheVariants as format
use Rattle.mcs_check_words.specs.CommandLine.{command_line, first_two, format_named, format_words, is_given, is_set, show_named, show_words, texts_of, horizon_of}

abbrev at : {X : Type 0} → X → Bor X
at x = record { ref_ptr = (0, 0); now = x }

abbrev line : App
line = command_line (at (map at show_words)) (at (map at format_words))

no_words : (takes line [] ≡ true)
    × (first_of (codes "FILE") (matches_of line []) ≡ None)
    × (number_of (codes "horizon") (matches_of line []) ≡ 1000)
    × (number_of (codes "workers") (matches_of line []) ≡ 1)
    × (texts_of (codes "allow-lost") (matches_of line []) ≡ [])
    × (is_set (codes "strict") (matches_of line []) ≡ false)
    × (show_named (text_of (codes "show") (matches_of line [])) ≡ show.Both)
    × (format_named (text_of (codes "format") (matches_of line [])) ≡ format.Text)
    × (is_given (codes "show") (matches_of line []) ≡ false)
    × (first_two (texts_of (codes "why") (matches_of line [])) ≡ None)
unfolding clap_on_literals
no_words = (refl, refl, refl, refl, refl, refl, refl, refl, refl, refl)

-- `--allow-lost irq in.toml --horizon=10 --strict --allow-lost=timer --workers 2 --show jobs --format csv`
abbrev all_words : List Text
all_words = codes "--allow-lost" ∷ codes "irq" ∷ codes "in.toml" ∷ codes "--horizon=10" ∷ codes "--strict" ∷ codes "--allow-lost=timer" ∷ codes "--workers" ∷ codes "2"
    ∷ codes "--show" ∷ codes "jobs" ∷ codes "--format" ∷ codes "csv" ∷ []

many : (takes line all_words ≡ true)
    × (first_of (codes "FILE") (matches_of line all_words) ≡ Some (codes "in.toml"))
    × (number_of (codes "horizon") (matches_of line all_words) ≡ 10)
    × (number_of (codes "workers") (matches_of line all_words) ≡ 2)
    × (texts_of (codes "allow-lost") (matches_of line all_words) ≡ codes "irq" ∷ codes "timer" ∷ [])
    × (is_set (codes "strict") (matches_of line all_words) ≡ true)
    × (show_named (text_of (codes "show") (matches_of line all_words)) ≡ show.Jobs)
    × (format_named (text_of (codes "format") (matches_of line all_words)) ≡ format.Csv)
    × (is_given (codes "show") (matches_of line all_words) ≡ true)
unfolding clap_on_literals
many = (refl, refl, refl, refl, refl, refl, refl, refl, refl)

-- `in.toml --why High 1 --horizon 9`
abbrev a_question : List Text
a_question = codes "in.toml" ∷ codes "--why" ∷ codes "High" ∷ codes "1" ∷ codes "--horizon" ∷ codes "9" ∷ []

asks : (takes line a_question ≡ true)
    × (first_of (codes "FILE") (matches_of line a_question) ≡ Some (codes "in.toml"))
    × (first_two (texts_of (codes "why") (matches_of line a_question)) ≡ Some (codes "High", codes "1"))
    × (is_given (codes "show") (matches_of line a_question) ≡ false)
unfolding clap_on_literals
asks = (refl, refl, refl, refl)

-- the file's name after the round
asks_first : (takes line (codes "--why" ∷ codes "High" ∷ codes "1" ∷ codes "in.toml" ∷ []) ≡ true)
    × (first_of (codes "FILE") (matches_of line (codes "--why" ∷ codes "High" ∷ codes "1" ∷ codes "in.toml" ∷ [])) ≡ Some (codes "in.toml"))
unfolding clap_on_literals
asks_first = (refl, refl)

no_round : fault_of line (codes "--why" ∷ codes "High" ∷ []) ≡ kind.WrongNumberOfValues ∷ []
unfolding clap_on_literals
no_round = refl

asks_twice : fault_of line (codes "--why" ∷ codes "A" ∷ codes "1" ∷ codes "--why" ∷ codes "B" ∷ codes "1" ∷ []) ≡ kind.ArgumentConflict ∷ []
unfolding clap_on_literals
asks_twice = refl

-- `findings` may be asked for in words
shows_findings : is_given (codes "show") (matches_of line (codes "--show=findings" ∷ [])) ≡ true
unfolding clap_on_literals
shows_findings = refl

abbrev two_allowed : List Text
two_allowed = codes "--allow-lost" ∷ codes "b" ∷ codes "--allow-lost" ∷ codes "a" ∷ []

allowed_twice : (takes line two_allowed ≡ true)
    × (texts_of (codes "allow-lost") (matches_of line two_allowed) ≡ codes "b" ∷ codes "a" ∷ [])
    × (is_set (codes "strict") (matches_of line two_allowed) ≡ false)
unfolding clap_on_literals
allowed_twice = (refl, refl, refl)

help : fault_of line (codes "--help" ∷ []) ≡ kind.DisplayHelp ∷ []
unfolding clap_on_literals
help = refl

short_help : fault_of line (codes "-h" ∷ []) ≡ kind.DisplayHelp ∷ []
unfolding clap_on_literals
short_help = refl

zero_workers : fault_of line (codes "--workers" ∷ codes "0" ∷ []) ≡ kind.ValueValidation ∷ []
unfolding clap_on_literals
zero_workers = refl

too_far : fault_of line (codes "--horizon" ∷ codes "1099511627777" ∷ []) ≡ kind.ValueValidation ∷ []
unfolding clap_on_literals
too_far = refl

strict_twice : fault_of line (codes "--strict" ∷ codes "--strict" ∷ []) ≡ kind.ArgumentConflict ∷ []
unfolding clap_on_literals
strict_twice = refl

strict_with_a_value : fault_of line (codes "--strict=true" ∷ []) ≡ kind.TooManyValues ∷ []
unfolding clap_on_literals
strict_with_a_value = refl

two_files : fault_of line (codes "a.toml" ∷ codes "b.toml" ∷ []) ≡ kind.UnknownArgument ∷ []
unfolding clap_on_literals
two_files = refl

shows_all : fault_of line (codes "--show" ∷ codes "all" ∷ []) ≡ kind.InvalidValue ∷ []
unfolding clap_on_literals
shows_all = refl

the_table : show_named (text_of (codes "show") (matches_of line (codes "--show=table" ∷ []))) ≡ show.Table
unfolding clap_on_literals
the_table = refl

both : show_named (text_of (codes "show") (matches_of line (codes "--show" ∷ codes "both" ∷ []))) ≡ show.Both
unfolding clap_on_literals
both = refl

as_json : format_named (text_of (codes "format") (matches_of line (codes "--format=json" ∷ []))) ≡ format.Json
unfolding clap_on_literals
as_json = refl

as_yaml : fault_of line (codes "--format=yaml" ∷ []) ≡ kind.InvalidValue ∷ []
unfolding clap_on_literals
as_yaml = refl

shows_twice : fault_of line (codes "--show=jobs" ∷ codes "--show=jobs" ∷ []) ≡ kind.ArgumentConflict ∷ []
unfolding clap_on_literals
shows_twice = refl

unknown : fault_of line (codes "--list" ∷ codes "both" ∷ []) ≡ kind.UnknownArgument ∷ []
unfolding clap_on_literals
unknown = refl

nothing_allowed : fault_of line (codes "--allow-lost" ∷ []) ≡ kind.InvalidValue ∷ []
unfolding clap_on_literals
nothing_allowed = refl

-- `in.toml --forever`
abbrev for_ever : List Text
for_ever = codes "in.toml" ∷ codes "--forever" ∷ []

looks_far : (takes line for_ever ≡ true)
    × (is_set (codes "forever") (matches_of line for_ever) ≡ true)
    × (horizon_of (matches_of line for_ever) ≡ 10000000)
    × (horizon_of (matches_of line []) ≡ 1000)
    × (is_set (codes "forever") (matches_of line []) ≡ false)
unfolding clap_on_literals
looks_far = (refl, refl, refl, refl, refl)

looks_as_far_as_said : horizon_of (matches_of line (codes "--forever" ∷ codes "--horizon=1000" ∷ [])) ≡ 1000
unfolding clap_on_literals
looks_as_far_as_said = refl
