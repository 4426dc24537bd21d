-- The program's command line, from the arguments that were added in turn.
use Rattle.std.proofs.Common.{◌≡◌, ◌∙◌, ap, ap₂, false, List, [], ◌∷◌, refl, rules, arith, map, codes}
use Rattle.std.specs.List.{All, IsDistinct}
use Rattle.std.specs.Str.{bytes_eq}
use Rattle.std.specs.Borrow.{Bor}
use Rattle.std.proofs.lemmas.List.Elements.{All-from_recursion}
use Rattle.clap.specs.Words.{AddsArg, AddsInTurn, Rule, Text, app_of, args_of, groups_of, rule_of, with_rule}
use Rattle.clap.specs.declared.builder.command.Command.TheViews.{out-Command}
use Rattle.clap.specs.Built.{FitsChain, HasDistinctIds}
use Rattle.clap.specs.declared.Arg.{Arg}
use Rattle.clap.specs.declared.Command.{Command}
use Rattle.mcs_words.specs.CommandLine.{HasOneOrDefault, file_rule, horizon_rule, workers_rule}
use Rattle.mcs_words.proofs.Chain.{distinct_ids, number_in_chain}
use Rattle.mcs_check_words.specs.CommandLine.{IsCommandLine, allow_lost_rule, bare_line, command_line, format_rule, format_words, show_rule, show_words, strict_rule, why_rule, forever_rule}

abbrev before : Text → List Text → List Text
before id ids = id ∷ ids

abbrev line_ids : List Text
line_ids = codes "FILE" ∷ codes "horizon" ∷ codes "workers" ∷ codes "allow-lost" ∷ codes "strict" ∷ codes "show" ∷ codes "format" ∷ codes "why" ∷ codes "forever" ∷ []

distinct : IsDistinct bytes_eq line_ids
unfolding IsDistinct
distinct = search rules

module _ (bare one two three four five six seven eight line : Command) (file horizon workers allow_lost strict show format why forever : Arg) (shows formats : Bor (List (Bor Text)))
    (adds_file : AddsArg bare file one) (adds_horizon : AddsArg one horizon two) (adds_workers : AddsArg two workers three)
    (adds_allow_lost : AddsArg three allow_lost four) (adds_strict : AddsArg four strict five) (adds_show : AddsArg five show six) (adds_format : AddsArg six format seven) (adds_why : AddsArg seven why eight)
    (adds_forever : AddsArg eight forever line)
    (app : app_of bare ≡ bare_line) (args : args_of bare ≡ []) (groups : groups_of bare ≡ []) (globals : (out-Command bare).has_globals ≡ false)
    (file_is : rule_of file ≡ file_rule) (horizon_is : rule_of horizon ≡ horizon_rule) (workers_is : rule_of workers ≡ workers_rule)
    (allow_lost_is : rule_of allow_lost ≡ allow_lost_rule) (strict_is : rule_of strict ≡ strict_rule) (show_is : rule_of show ≡ show_rule shows formats)
    (format_is : rule_of format ≡ format_rule shows formats) (why_is : rule_of why ≡ why_rule) (forever_is : rule_of forever ≡ forever_rule)
    (file_fits : FitsChain file) (horizon_fits : FitsChain horizon) (workers_fits : FitsChain workers)
    (allow_lost_fits : FitsChain allow_lost) (strict_fits : FitsChain strict) (show_fits : FitsChain show) (format_fits : FitsChain format)
    (why_fits : FitsChain why) (forever_fits : FitsChain forever)
    (horizon_one : HasOneOrDefault horizon) (workers_one : HasOneOrDefault workers)
    (are_shows : map (λ name. name.now) shows.now ≡ show_words) (are_formats : map (λ name. name.now) formats.now ≡ format_words) where
  abbrev list : List Arg
  list = file ∷ horizon ∷ workers ∷ allow_lost ∷ strict ∷ show ∷ format ∷ why ∷ forever ∷ []

  chain : AddsInTurn AddsArg bare list line
  chain = (one, adds_file, (two, adds_horizon, (three, adds_workers, (four, adds_allow_lost, (five, adds_strict, (six, adds_show, (seven, adds_format, (eight, adds_why, (line, adds_forever, refl)))))))))

  fits : All FitsChain list
  fits = All-from_recursion FitsChain list (file_fits, (horizon_fits, (workers_fits, (allow_lost_fits, (strict_fits, (show_fits, (format_fits, (why_fits, (forever_fits, tt)))))))))

  id_is : (a : Arg) (r : Rule) → rule_of a ≡ r → a.id.now ≡ r.id
  id_is a r is = ap (λ (x : Rule). x.id) is

  ids : map (λ a. a.id.now) list ≡ line_ids
  ids = ap₂ before (id_is file file_rule file_is) (ap₂ before (id_is horizon horizon_rule horizon_is) (ap₂ before (id_is workers workers_rule workers_is)
      (ap₂ before (id_is allow_lost allow_lost_rule allow_lost_is) (ap₂ before (id_is strict strict_rule strict_is)
      (ap₂ before (id_is show (show_rule shows formats) show_is) (ap₂ before (id_is format (format_rule shows formats) format_is)
      (ap₂ before (id_is why why_rule why_is) (ap (λ i. i ∷ []) (id_is forever forever_rule forever_is)))))))))

  all_distinct : HasDistinctIds list
  all_distinct = distinct_ids list line_ids ids distinct

  local_of : (a : Arg) → FitsChain a → a.global ≡ false
  local_of a fit = fit.1

  app_is : app_of line ≡ command_line shows formats
  app_is =
      let one_is = adds_file.shape (local_of file file_fits) ∙ ap₂ with_rule app file_is in
      let two_is = adds_horizon.shape (local_of horizon horizon_fits) ∙ ap₂ with_rule one_is horizon_is in
      let three_is = adds_workers.shape (local_of workers workers_fits) ∙ ap₂ with_rule two_is workers_is in
      let four_is = adds_allow_lost.shape (local_of allow_lost allow_lost_fits) ∙ ap₂ with_rule three_is allow_lost_is in
      let five_is = adds_strict.shape (local_of strict strict_fits) ∙ ap₂ with_rule four_is strict_is in
      let six_is = adds_show.shape (local_of show show_fits) ∙ ap₂ with_rule five_is show_is in
      let seven_is = adds_format.shape (local_of format format_fits) ∙ ap₂ with_rule six_is format_is in
      let eight_is = adds_why.shape (local_of why why_fits) ∙ ap₂ with_rule seven_is why_is in
      adds_forever.shape (local_of forever forever_fits) ∙ ap₂ with_rule eight_is forever_is

  pub line_is : IsCommandLine line
  line_is = record {
    shows = shows;
    formats = formats;
    are_shows = are_shows;
    are_formats = are_formats;
    app = app_is;
    horizon = number_in_chain bare line list chain args groups globals fits all_distinct 1 horizon _ _ 0 1099511627776 (omega arith) refl horizon_is horizon_one;
    workers = number_in_chain bare line list chain args groups globals fits all_distinct 2 workers _ _ 1 64 (omega arith) refl workers_is workers_one;
  }
