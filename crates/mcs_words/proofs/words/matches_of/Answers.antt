use Rattle.std.proofs.Common.{rules, refl, true, map, List, ◌≡◌}
use Rattle.std.specs.Borrow.{Bor}
use Rattle.std.specs.Prelude.{string_bytes}
use Rattle.clap.specs.Words.{Text, is_simple, is_simple_and_free}
use Rattle.clap.proofs.OnLiterals.{clap_on_literals}
use Rattle.mcs_words.specs.CommandLine.{command_line, show_words}
use Rattle.mcs_words.proofs.Parsed.{faults_of_line, memory_fails, rows_of_line, taken_by_line}
use Rattle.mcs_words.proofs.words.matches_of.Goals as goal

-- wherever the names lie
free : (shows : Bor (List (Bor Text))) → is_simple_and_free (command_line shows) ≡ true
unfolding clap_on_literals
free shows = refl

simple : (shows : Bor (List (Bor Text))) → is_simple (command_line shows) ≡ true
unfolding clap_on_literals
simple shows = refl

pub returns-clause-parse : goal.returns-clause-parse
returns-clause-parse c =
    let made = c.in_ok-command.ensures in
    let parse = c.try_get_matches_from in
    let line = command_line made.shows in
    let words = map (λ word. string_bytes word) c.args.words.now in
    record {
      shows = made.shows;
      are = made.are;
      rows = rows_of_line _ line words parse.result made.app (simple made.shows) parse.ensures.matches;
      taken = taken_by_line _ line words parse.result made.app parse.ensures.passes;
      kinds = faults_of_line _ line words parse.result made.app (free made.shows) parse.ensures.kinds;
    }

-- a reference to these names, at no place in particular
abbrev at : {X : Type 0} → X → Bor X
at x = record { ref_ptr = (0, 0); now = x }

pub returns-in_err-command-clause-parse : goal.returns-in_err-command-clause-parse
returns-in_err-command-clause-parse c = record {
  shows = at (map at show_words);
  are = refl;
  rows = search rules;
  taken = λ taken. search rules;
  kinds = memory_fails c.from_residual.result _ c.from_residual.ensures.1;
}
