-- A name that no notification has is refused, and no byte is written.
use Rattle.std.proofs.Common.{◌≡◌, ℕ, Bool, List, Option, Some, None, IfSome, IsSome, refl}
use Rattle.std.specs.Io.KnownBytes.{Keeps}
use Rattle.std.proofs.KnownBytes.{Appends-nil}
use Rattle.mcs_system.specs.System.{System}
use Rattle.mcs_cli.specs.Run.{IsRead}
use Rattle.mcs_cli.specs.declared.fault.RunFault.TheVariants as run
use Rattle.mcs_check_words.specs.declared.asked.Options.{Options}
use Rattle.mcs_check_run.specs.declared.fault.CheckFault.{CheckFault}
use Rattle.mcs_check_run.specs.declared.fault.CheckFault.TheVariants.{Run, Unknown, Mixed}
use Rattle.mcs_check_run.specs.Allowed.{IsUnknownFault, first_unknown, notifications, names_of}
use Rattle.mcs_check.specs.Check.{IsFault}

keeps : (w : Option (List ℕ)) → Keeps w w
keeps None = tt
keeps (Some xs) = refl

module _ (read_old read_new : Option (List ℕ)) (given_old given_new : ℕ) (read_failed : Bool) (held : Option (List ℕ)) (failed : Bool) (options : Options)
    (system : System) (read : IsRead read_old read_new given_old given_new system) where
  unknown-name : (name : List ℕ) (f : CheckFault) → first_unknown (notifications system) (names_of options) ≡ Some name → IsUnknownFault (notifications system) name f
      → IsFault read_old read_new given_old given_new read_failed held held failed options f
  unknown-name name (Unknown given nearest) first is = (keeps held, (system, read, name, first, is))
  unknown-name name (Run (run.Sim s)) first is = (system, read, (0, Appends-nil held))
  unknown-name name (Run run.Read) first is = absurd is
  unknown-name name (Run (run.Load l)) first is = absurd is
  unknown-name name (Run run.Write) first is = absurd is
  unknown-name name Mixed first is = absurd is

  pub unknown-fault : (o : Option (List ℕ)) (f : CheckFault) → first_unknown (notifications system) (names_of options) ≡ o → IsSome o
      → IfSome o (λ name. IsUnknownFault (notifications system) name f)
      → IsFault read_old read_new given_old given_new read_failed held held failed options f
  unknown-fault (Some name) f first some is = unknown-name name f first is
  unknown-fault None f first some is = cc
