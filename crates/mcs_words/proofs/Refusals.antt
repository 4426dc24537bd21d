-- The fault returned is that of the parse.
use Rattle.std.proofs.Common.{◌≡◌, ◌∙◌, inl, inr, sym, subst, refl, rules}
use Rattle.std.specs.Prelude.{Err}
use Rattle.clap.specs.Words.{HasKind, IsAmong, Kinds, Text, fault_of, kind_of}
use Rattle.clap.specs.declared.Error.{Error}
use Rattle.clap.specs.declared.error.kind.ErrorKind.{ErrorKind}
use Rattle.clap.specs.declared.error.kind.ErrorKind.TheVariants as kind
use Rattle.mcs_words.specs.CommandLine.{FaultOf, IsAnswer, IsFaultOf, IsParse, command_line}
use Rattle.mcs_words.specs.declared.asked.WordsFault.{WordsFault}
use Rattle.mcs_words.specs.declared.asked.WordsFault.TheVariants as fault
use Rattle.std.specs.Prelude.{List}

pub is_memory : (k : ErrorKind) (f : WordsFault) → FaultOf k f → k ≡ kind.OutOfMemory → f ≡ fault.NoMemory
is_memory k fault.NoMemory is memory = refl
is_memory k (fault.Help text) is memory =
    let bad : kind.DisplayHelp ≡ kind.OutOfMemory = sym is ∙ memory in
    cc
is_memory k (fault.Words text) is memory = absurd (is.1 memory)

pub is_fault : (kinds : Kinds) (e : Error) (f : WordsFault) → FaultOf (kind_of e) f → HasKind kinds e → IsFaultOf kinds f
is_fault kinds e fault.NoMemory is has = search rules
is_fault kinds e (fault.Help text) is (inl memory) =
    let bad : kind.DisplayHelp ≡ kind.OutOfMemory = sym is ∙ memory in
    cc
is_fault kinds e (fault.Help text) is (inr among) = subst (λ k. IsAmong k kinds) is among
is_fault kinds e (fault.Words text) is (inl memory) = absurd (is.1 memory)
is_fault kinds e (fault.Words text) is (inr among) = (kind_of e, is.0, among)

pub fault_answer : (words : List Text) (e : Error) (f : WordsFault) → IsParse words (Err e) → FaultOf (kind_of e) f → IsAnswer words (Err f)
fault_answer words e f p is = record {
  shows = p.shows;
  are = p.are;
  values = search rules;
  accepted = search rules;
  taken = λ taken. is_memory (kind_of e) f is (p.taken taken);
  refused = is_fault (fault_of (command_line p.shows) words) e f is p.kinds;
}
