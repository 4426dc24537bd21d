-- Conditions on a core and its rows under which a later core makes the same rows, but later.
use Rattle.std.proofs.Common.{◌≡◌, ℕ, ◌+◌, ◌<◌, ◌≤◌, ◌⊎◌, List, [], ◌∷◌, length, Option, Some, None}
use Rattle.std.specs.Prelude.{unwrap_or}
use Rattle.std.specs.List.{AllByRecursion}
use Rattle.mcs_refills.specs.laws.Spacing.{AreKept}
use Rattle.mcs_control.specs.declared.config.Mode.TheVariants.{Sporadic}
use Rattle.mcs_control.specs.declared.config.Config.{Config}
use Rattle.mcs_control.specs.Context.{Context, Budget}
use Rattle.mcs_control.specs.Context.Budget.{Dates, Slice}
use Rattle.mcs_ticks.specs.declared.row.What.{What}
use Rattle.mcs_ticks.specs.declared.row.What.TheVariants as row
use Rattle.mcs_system.specs.System.{System, context_part}
use Rattle.mcs_core.specs.Contexts.{no_server}
use Rattle.mcs_core.specs.Core.{Core}
use Rattle.mcs_ever.specs.Later.{Shift, KeepsUp, ContextKeepsUp, RoundKeepsUp, IsSporadic}

module _ (system : System) (shift : Shift) where
  -- each stop charges at least a tick, and each round is one of a thread that there is
  abbrev pub IsProper : What → Type 0
  IsProper (row.Stop thread why k until) = 1 ≤ k
  IsProper (row.Round thread number response) = thread < length system.threads
  IsProper (row.Release thread) = Unit {0}
  IsProper (row.Run thread) = Unit {0}
  IsProper (row.Signal thread note badge) = Unit {0}
  IsProper (row.Arrive note badge maker) = Unit {0}
  IsProper (row.Wake thread note word until) = Unit {0}
  IsProper (row.Hold note word) = Unit {0}
  IsProper (row.Got thread note word) = Unit {0}
  IsProper (row.Order context) = Unit {0}
  IsProper (row.Interrupt source note badge) = Unit {0}

  -- what is compared with now keeps up, and the row is proper
  abbrev pub Agrees : What → Type 0
  Agrees (row.Stop thread why k None) = 1 ≤ k
  Agrees (row.Stop thread why k (Some date)) = (1 ≤ k) × ContextKeepsUp system shift thread
  Agrees (row.Round thread number response) = (thread < length system.threads) × RoundKeepsUp system shift thread
  Agrees (row.Release thread) = Unit {0}
  Agrees (row.Run thread) = ContextKeepsUp system shift thread ⊎ IsSporadic system shift thread
  Agrees (row.Signal thread note badge) = Unit {0}
  Agrees (row.Arrive note badge maker) = Unit {0}
  Agrees (row.Wake thread note word until) = ContextKeepsUp system shift thread × RoundKeepsUp system shift thread
  Agrees (row.Hold note word) = Unit {0}
  Agrees (row.Got thread note word) = RoundKeepsUp system shift thread
  Agrees (row.Order context) = Unit {0}
  Agrees (row.Interrupt source note badge) = Unit {0}

  abbrev pub AllAgree : List What → Type 0
  AllAgree [] = Unit {0}
  AllAgree (what ∷ rows) = Agrees what × AllAgree rows

  agrees : (what : What) → KeepsUp system shift what → IsProper what → Agrees what
  agrees (row.Stop thread why k None) a b = b
  agrees (row.Stop thread why k (Some date)) a b = (b, a)
  agrees (row.Round thread number response) a b = (b, a)
  agrees (row.Release thread) a b = tt
  agrees (row.Run thread) a b = a
  agrees (row.Signal thread note badge) a b = tt
  agrees (row.Arrive note badge maker) a b = tt
  agrees (row.Wake thread note word until) a b = a
  agrees (row.Hold note word) a b = tt
  agrees (row.Got thread note word) a b = a
  agrees (row.Order context) a b = tt
  agrees (row.Interrupt source note badge) a b = tt

  pub all-agree : (rows : List What) → AllByRecursion (KeepsUp system shift) rows → AllByRecursion IsProper rows → AllAgree rows
  all-agree [] a b = tt
  all-agree (what ∷ rows) a b = (agrees what a.0 b.0, all-agree rows a.1 b.1)

  -- a context in order: its dates are its budget's, and it has the mode of the file
  abbrev pub IsFit : Config → Budget → Type 0
  IsFit config (Dates dates) = AreKept config.budget config.period dates
  IsFit config (Slice left) = Unit {0}

  pub record IsInOrder (k : ℕ) (context : Context) : Type 0 where
    pub fit : IsFit context.config context.budget
    pub mode : (context_part system k).mode ≡ Sporadic → context.mode ≡ Sporadic

  abbrev pub AreInOrder : ℕ → List (Option Context) → Type 0
  AreInOrder k [] = Unit {0}
  AreInOrder k (context ∷ contexts) = IsInOrder k (unwrap_or context no_server) × AreInOrder (k + 1) contexts

  pub record IsCore (core : Core) : Type 0 where
    pub threads : length core.threads ≡ length system.threads
    pub contexts : AreInOrder 0 core.contexts
