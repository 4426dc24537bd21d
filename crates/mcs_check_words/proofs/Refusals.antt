-- The fault of the result is that of the parse.
use Rattle.std.proofs.Common.{List, rules}
use Rattle.std.specs.Prelude.{Err}
use Rattle.clap.specs.Words.{Text, fault_of, kind_of}
use Rattle.clap.specs.declared.Error.{Error}
use Rattle.mcs_words.specs.CommandLine.{FaultOf}
use Rattle.mcs_words.specs.declared.asked.WordsFault.{WordsFault}
use Rattle.mcs_words.proofs.Refusals.{is_fault, is_memory}
use Rattle.mcs_check_words.specs.CommandLine.{IsAnswer, IsParse, command_line}

pub fault_answer : (words : List Text) (e : Error) (f : WordsFault) → IsParse words (Err e) → FaultOf (kind_of e) f → IsAnswer words (Err f)
fault_answer words e f p is = record {
  shows = p.shows;
  formats = p.formats;
  are_shows = p.are_shows;
  are_formats = p.are_formats;
  values = search rules;
  accepted = search rules;
  taken = λ taken. is_memory (kind_of e) f is (p.taken taken);
  refused = is_fault (fault_of (command_line p.shows p.formats) words) e f is p.kinds;
}
