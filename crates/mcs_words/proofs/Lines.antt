-- The program's command line, from the arguments that were added in turn.
use Rattle.std.proofs.Common.{◌≡◌, ◌∙◌, ap, ap₂, false, List, [], ◌∷◌, refl, rules, arith, map, codes}
use Rattle.std.specs.List.{All, IsDistinct}
use Rattle.std.specs.Str.{bytes_eq}
use Rattle.std.specs.Borrow.{Bor}
use Rattle.std.proofs.lemmas.List.Elements.{All-from_recursion}
use Rattle.clap.specs.Words.{AddsArg, AddsInTurn, Rule, Text, app_of, args_of, groups_of, rule_of, with_rule}
use Rattle.clap.specs.declared.builder.command.Command.TheViews.{out-Command}
use Rattle.clap.specs.Built.{FitsChain, HasDistinctIds}
use Rattle.clap.specs.declared.Arg.{Arg}
use Rattle.clap.specs.declared.Command.{Command}
use Rattle.mcs_words.specs.CommandLine.{HasOneOrDefault, IsCommandLine, bare_line, command_line, file_rule, horizon_rule, show_rule, show_words, workers_rule}
use Rattle.mcs_words.proofs.Chain.{distinct_ids, number_in_chain}

abbrev before : Text → List Text → List Text
before id ids = id ∷ ids

abbrev line_ids : List Text
line_ids = codes "FILE" ∷ codes "horizon" ∷ codes "workers" ∷ codes "show" ∷ []

distinct : IsDistinct bytes_eq line_ids
unfolding IsDistinct
distinct = search rules

module _ (bare one two three line : Command) (file horizon workers show : Arg) (shows : Bor (List (Bor Text)))
    (adds_file : AddsArg bare file one) (adds_horizon : AddsArg one horizon two) (adds_workers : AddsArg two workers three) (adds_show : AddsArg three show line)
    (app : app_of bare ≡ bare_line) (args : args_of bare ≡ []) (groups : groups_of bare ≡ []) (globals : (out-Command bare).has_globals ≡ false)
    (file_is : rule_of file ≡ file_rule) (horizon_is : rule_of horizon ≡ horizon_rule) (workers_is : rule_of workers ≡ workers_rule) (show_is : rule_of show ≡ show_rule shows)
    (file_fits : FitsChain file) (horizon_fits : FitsChain horizon) (workers_fits : FitsChain workers) (show_fits : FitsChain show)
    (horizon_one : HasOneOrDefault horizon) (workers_one : HasOneOrDefault workers)
    (are : map (λ name. name.now) shows.now ≡ show_words) where
  abbrev list : List Arg
  list = file ∷ horizon ∷ workers ∷ show ∷ []

  chain : AddsInTurn AddsArg bare list line
  chain = (one, adds_file, (two, adds_horizon, (three, adds_workers, (line, adds_show, refl))))

  fits : All FitsChain list
  fits = All-from_recursion FitsChain list (file_fits, (horizon_fits, (workers_fits, (show_fits, tt))))

  ids : map (λ a. a.id.now) list ≡ line_ids
  ids = ap₂ before (ap (λ (r : Rule). r.id) file_is) (ap₂ before (ap (λ (r : Rule). r.id) horizon_is)
      (ap₂ before (ap (λ (r : Rule). r.id) workers_is) (ap (λ i. i ∷ []) (ap (λ (r : Rule). r.id) show_is))))

  all_distinct : HasDistinctIds list
  all_distinct = distinct_ids list line_ids ids distinct

  local_of : (a : Arg) → FitsChain a → a.global ≡ false
  local_of a fit = fit.1

  app_is : app_of line ≡ command_line shows
  app_is =
      let one_is = adds_file.shape (local_of file file_fits) ∙ ap₂ with_rule app file_is in
      let two_is = adds_horizon.shape (local_of horizon horizon_fits) ∙ ap₂ with_rule one_is horizon_is in
      let three_is = adds_workers.shape (local_of workers workers_fits) ∙ ap₂ with_rule two_is workers_is in
      adds_show.shape (local_of show show_fits) ∙ ap₂ with_rule three_is show_is

  pub line_is : IsCommandLine line
  line_is = record {
    shows = shows;
    are = are;
    app = app_is;
    horizon = number_in_chain bare line list chain args groups globals fits all_distinct 1 horizon _ _ 0 1099511627776 (omega arith) refl horizon_is horizon_one;
    workers = number_in_chain bare line list chain args groups globals fits all_distinct 2 workers _ _ 1 64 (omega arith) refl workers_is workers_one;
  }
