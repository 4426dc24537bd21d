-- Parses of a command, in terms of its command line.
use Rattle.std.proofs.Common.{◌≡◌, ◌∙◌, ap, true, List, inl}
use Rattle.std.specs.Prelude.{Result, Ok, Err, IfErr, IfOk}
use Rattle.std.specs.Result.{IsErrAnd}
use Rattle.std.proofs.lemmas.Result.{IfErr-weaker, IfOk-weaker}
use Rattle.clap.specs.Words.{App, FailsBy, HasMatchesOf, Kinds, Text, fault_of, found_of, is_simple, is_simple_and_free, kind_of, matches_of, rows_of, takes}
use Rattle.clap.specs.declared.ArgMatches.{ArgMatches}
use Rattle.clap.specs.declared.Error.{Error}
use Rattle.clap.specs.declared.error.kind.ErrorKind.TheVariants.{OutOfMemory}
use Rattle.clap.proofs.FaultLemmas.{fails_as}

module _ (a line : App) (words : List Text) (r : Result ArgMatches Error) (same : a ≡ line) where
  pub rows_of_line : is_simple line ≡ true → IfOk r (HasMatchesOf a words) → IfOk r (λ m. rows_of (found_of m) ≡ matches_of line words)
  rows_of_line simple h = IfOk-weaker r _ _ (λ m has. (has (ap is_simple same ∙ simple)).0 ∙ ap (λ x. matches_of x words) same) h

  pub taken_by_line : IfErr r (λ e. takes a words ≡ true → kind_of e ≡ OutOfMemory) → takes line words ≡ true → IfErr r (λ e. kind_of e ≡ OutOfMemory)
  taken_by_line h taken = IfErr-weaker r _ _ (λ e f. f (ap (λ x. takes x words) same ∙ taken)) h

  pub faults_of_line : is_simple_and_free line ≡ true → (is_simple_and_free a ≡ true → FailsBy (fault_of a words) r) → FailsBy (fault_of line words) r
  faults_of_line free h = fails_as r _ _ (ap (λ x. fault_of x words) same) (h (ap is_simple_and_free same ∙ free))

-- a command for which there was no memory is refused for that alone
pub memory_fails : {T : Type 0} (r : Result T Error) (kinds : Kinds) → IsErrAnd r (λ e. kind_of e ≡ OutOfMemory) → FailsBy kinds r
memory_fails (Ok m) kinds memory = absurd memory
memory_fails (Err e) kinds memory = inl memory
