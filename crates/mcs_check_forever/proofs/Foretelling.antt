-- The bytes read and written, by the text of the system that was read.
use Rattle.std.proofs.Common.{◌≡◌, ℕ, Bool, true, false, List, Option, Some, None, IfSome, IsSome, refl, sym, subst}
use Rattle.std.specs.Prelude.{Result, Ok, Err}
use Rattle.std.specs.Io.KnownBytes.{Keeps}
use Rattle.mcs_system.specs.System.{System}
use Rattle.mcs_team.specs.declared.run.SimFault.{SimFault}
use Rattle.mcs_cli.specs.Devices.{AppendsPrefix}
use Rattle.mcs_cli.specs.Run.{IsRead}
use Rattle.mcs_cli.specs.declared.fault.RunFault.{RunFault}
use Rattle.mcs_cli.specs.declared.fault.RunFault.TheVariants as run
use Rattle.mcs_check_words.specs.declared.asked.Options.{Options}
use Rattle.mcs_check_run.specs.Allowed.{IsUnknownFault, first_unknown, notifications, names_of}
use Rattle.mcs_check_run.specs.declared.fault.CheckFault.{CheckFault}
use Rattle.mcs_check_run.specs.declared.fault.CheckFault.TheVariants as check
use Rattle.mcs_check_forever.specs.declared.forever_fault.ForeverFault.{ForeverFault}
use Rattle.mcs_check_forever.specs.declared.forever_fault.ForeverFault.TheVariants.{Check, Mixed}
use Rattle.mcs_check_forever.specs.declared.verdict.Verdict.{Verdict}
use Rattle.mcs_check_forever.specs.Foretold.{IsForetelling, IsTold, is_mixed}
use Rattle.mcs_check_forever.specs.Verdict.{IsForetold}

keeps : (w : Option (List ℕ)) → Keeps w w
keeps None = tt
keeps (Some xs) = refl

module _ (options : Options) (system : System) where
  -- no byte is written if a name is unknown, or if there is no memory for its text
  pub unknown-told : (a : Option (List ℕ)) (failed : Bool) (f : CheckFault) (asked : List ℕ) → first_unknown (notifications system) (names_of options) ≡ Some asked
      → IsUnknownFault (notifications system) asked f → IsTold a a failed options system (Err (Check f))
  unknown-told a failed (check.Unknown name nearest) asked none is = (keeps a, asked, none, is)
  unknown-told a failed (check.Run (run.Sim s)) asked none is = keeps a
  unknown-told a failed (check.Run run.Read) asked none is = absurd is
  unknown-told a failed (check.Run (run.Load l)) asked none is = absurd is
  unknown-told a failed (check.Run run.Write) asked none is = absurd is
  unknown-told a failed check.Mixed asked none is = absurd is

  pub refused-told : (a : Option (List ℕ)) (failed : Bool) (f : CheckFault) (o : Option (List ℕ)) → first_unknown (notifications system) (names_of options) ≡ o
      → IsSome o → IfSome o (λ name. IsUnknownFault (notifications system) name f) → IsTold a a failed options system (Err (Check f))
  refused-told a failed f (Some name) first some is = unknown-told a failed f name first is
  refused-told a failed f None first some is = cc

  pub memory-told : (a : Option (List ℕ)) (failed : Bool) (r : Result Verdict ForeverFault) (s : SimFault) → r ≡ Err (Check (check.Run (run.Sim s)))
      → IsTold a a failed options system r
  memory-told a failed r s is = subst (IsTold a a failed options system) (sym is) (keeps a)

  -- a first part of the text
  pub part-told : (a b : Option (List ℕ)) (failed : Bool) (f : RunFault) (verdict : Verdict) (text : List ℕ) → f ≡ run.Write → failed ≡ true
      → IsForetold (names_of options) system options.horizon options.format verdict text → AppendsPrefix a b text
      → IsTold a b failed options system (Err (Check (check.Run f)))
  part-told a b failed f verdict text is fails so part =
      let P : RunFault → Type 0 = λ f. IsTold a b failed options system (Err (Check (check.Run f))) in
      subst P (sym is) (fails, verdict, text, so, part)

-- the bytes written for a system that was read
module _ (a b : Option (List ℕ)) (failed : Bool) (options : Options)
    (read_old read_new : Option (List ℕ)) (given_old given_new : ℕ) (read_failed : Bool) (system : System) (alone : is_mixed options ≡ false)
    (read : IsRead read_old read_new given_old given_new system) where
  pub foretelling : (r : Result Verdict ForeverFault) → IsTold a b failed options system r
      → IsForetelling a b failed options read_old read_new given_old given_new read_failed r
  foretelling (Ok verdict) told = (alone, system, read, told)
  foretelling (Err (Check (check.Run (run.Sim s)))) told = (alone, system, read, told)
  foretelling (Err (Check (check.Run run.Write))) told = (alone, system, read, told)
  foretelling (Err (Check (check.Unknown name nearest))) told = (alone, system, read, told)
  foretelling (Err (Check (check.Run run.Read))) told = absurd told
  foretelling (Err (Check (check.Run (run.Load l)))) told = absurd told
  foretelling (Err (Check check.Mixed)) told = absurd told
  foretelling (Err Mixed) told = absurd told
