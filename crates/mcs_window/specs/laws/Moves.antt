-- The moves of `Cores` over all its calls, and the turns that its cores take, in their order.
use Rattle.std.specs.Prelude.{◌≡◌, ◌≢◌, ℕ, ◌+◌, ◌-◌, ◌<◌, ◌≤◌, nat_le, false, List, [], ◌∷◌, ◌++◌, filter, flat_map, replicate}
use Rattle.std.specs.List.{range_with_len}
use Rattle.mcs_system.specs.System.{System, TakesTime, delay_between}
use Rattle.mcs_stretch.specs.Safe.{IsSafe}
use Rattle.mcs_stretch.specs.ByScripts.{IsSafeByScripts, IsFarByScripts, clocks_after}
use Rattle.mcs_stretch.specs.Idle.{IsIdleUntil}
use Rattle.mcs_stretch.specs.Stretch.{NothingArrivesBefore}
use Rattle.mcs_window.specs.Progress.{Progress, clock_of, opening_progress, advanced, stepped, skipped, with_taken, with_failed, after_fault, IsReady}
use Rattle.mcs_window.specs.declared.fault.StepFault.{StepFault}
use Rattle.mcs_stretch.specs.laws.BySignals.{IsSafeBySignals}

-- a move of `Cores`: one turn of a core (`Step`) or its turns up to before a moment (`Advance`);
-- all earlier clocks set to a moment (`Skip`); rows taken (`TakeRows`); memory ran out (`Fail`)
pub data Move : Type 0 where
  Step : (core : ℕ) → Move
  Advance : (core to : ℕ) → Move
  Skip : (moment : ℕ) → Move
  TakeRows : (core : ℕ) → Move
  Fail : Move

-- the cores after a move
abbrev pub after_move : Progress → Move → Progress
after_move progress (Step c) = stepped progress c
after_move progress (Advance c to) = advanced progress c to
after_move progress (Skip moment) = skipped progress moment
after_move progress (TakeRows c) = with_taken progress c
after_move progress Fail = with_failed progress

abbrev pub after_moves : Progress → List Move → Progress
after_moves progress [] = progress
after_moves progress (move ∷ moves) = after_moves (after_move progress move) moves

-- the cores whose clocks are not past moment t
abbrev pub cores_by : Progress → ℕ → List ℕ
cores_by progress t = filter (λ c. nat_le (clock_of progress c) t) (range_with_len 0 progress.system.cores)

-- the turns of a move, each as the number of its core; turns of idle time by moment, then core
abbrev pub turns_of : Progress → Move → List ℕ
turns_of progress (Step c) = c ∷ []
turns_of progress (Advance c to) = replicate (to - clock_of progress c) c
turns_of progress (Skip moment) = flat_map (cores_by progress) (range_with_len 0 moment)
turns_of progress (TakeRows c) = []
turns_of progress Fail = []

-- the turns of all moves, in order of the moves
abbrev pub turns_in : Progress → List Move → List ℕ
turns_in progress [] = []
turns_in progress (move ∷ moves) = turns_of progress move ++ turns_in (after_move progress move) moves

-- core c may advance up to a moment: no signal that another core still makes arrives before it, and
-- memory never ran out
pub record MayAdvance (progress : Progress) (c to : ℕ) : Type 0 where
  pub whole : progress.failed ≡ false
  pub known : c < progress.system.cores
  pub ahead : clock_of progress c ≤ to
  pub in_time : to ≤ progress.horizon + 1
  pub reached : NothingArrivesBefore progress.system c to progress.clocks

-- all earlier clocks may be set to a moment, at most one past the horizon, and memory never ran out
pub record MaySkipTo (progress : Progress) (moment : ℕ) : Type 0 where
  pub whole : progress.failed ≡ false
  pub in_time : moment ≤ progress.horizon + 1

-- the cores may make the move
abbrev pub MayMove : Progress → Move → Type 0
MayMove progress (Step c) = IsReady progress c
MayMove progress (Advance c to) = MayAdvance progress c to
MayMove progress (Skip moment) = MaySkipTo progress moment
MayMove progress (TakeRows c) = c < progress.system.cores
MayMove progress Fail = Unit {0}

-- an advance goes no further than the clocks of the others and their delays allow
abbrev pub IsByDelays : Progress → Move → Type 0
IsByDelays progress (Step c) = Unit {0}
IsByDelays progress (Advance c to) =
    (b : ℕ) → b < progress.system.cores → b ≢ c → to ≤ clock_of progress b + delay_between progress.system b c
IsByDelays progress (Skip moment) = Unit {0}
IsByDelays progress (TakeRows c) = Unit {0}
IsByDelays progress Fail = Unit {0}

-- an advance goes no further than the scripts allow
abbrev pub IsByScripts : Progress → Move → Type 0
IsByScripts progress (Step c) = Unit {0}
IsByScripts progress (Advance c to) = IsFarByScripts progress.system progress.clocks c to
IsByScripts progress (Skip moment) = Unit {0}
IsByScripts progress (TakeRows c) = Unit {0}
IsByScripts progress Fail = Unit {0}

-- each move satisfies P in the progress before it
abbrev pub Each : (Progress → Move → Type 0) → Progress → List Move → Type 0
Each P progress [] = Unit {0}
Each P progress (move ∷ moves) = P progress move × Each P (after_move progress move) moves

abbrev pub AreMade : Progress → List Move → Type 0
AreMade = Each MayMove

-- if each advance goes no further than the delays allow, the turns in order of the moves are a safe
-- order
abbrev pub CoreMovesAreASafeOrder : Type 0
CoreMovesAreASafeOrder =
    (system : System) (horizon : ℕ) (moves : List Move) → TakesTime system →
    let opening = opening_progress system horizon in
    AreMade opening moves → Each IsByDelays opening moves → IsSafe system horizon opening.clocks (turns_in opening moves)

-- if each advance goes no further than the scripts allow, that order is safe by the scripts
abbrev pub CoreMovesAreSafeByScripts : Type 0
CoreMovesAreSafeByScripts =
    (system : System) (horizon : ℕ) (moves : List Move) → TakesTime system →
    let opening = opening_progress system horizon in
    AreMade opening moves → Each IsByScripts opening moves →
    IsSafeByScripts system horizon opening.clocks (turns_in opening moves)

-- for all moves, that order is safe by the signals, and it brings each core to its clock
abbrev pub CoreMovesAreSafeBySignals : Type 0
CoreMovesAreSafeBySignals =
    (system : System) (horizon : ℕ) (moves : List Move) → TakesTime system →
    let opening = opening_progress system horizon in
    AreMade opening moves →
    let turns = turns_in opening moves in
    IsSafeBySignals system horizon opening.clocks turns
    × ((after_moves opening moves).clocks ≡ clocks_after opening.clocks turns)

-- these moves lead from the first progress to the second
pub record IsBy (before after : Progress) (moves : List Move) : Type 0 where
  pub made : AreMade before moves
  pub after_is : after ≡ after_moves before moves

-- the contracts of the calls, as moves
pub record CallsAreMoves (before after : Progress) : Type 0 where
  pub step : (c : ℕ) → IsReady before c → after ≡ stepped before c → IsBy before after (Step c ∷ [])
  pub step_refused : (fault : StepFault) → after ≡ after_fault fault before →
      (moves : List Move) × IsBy before after moves × (turns_in before moves ≡ [])
  pub advance : (c to : ℕ) → c < before.system.cores → clock_of before c ≤ to → to ≤ before.horizon + 1
      → NothingArrivesBefore before.system c to before.clocks → before.failed ≡ false → after ≡ advanced before c to →
      IsBy before after (Advance c to ∷ [])
  pub advance_refused : after ≡ with_failed before → IsBy before after (Fail ∷ [])
  pub skip : (moment : ℕ) → before.failed ≡ false
      → IsIdleUntil before.system before.clocks (before.horizon + 1) moment → after ≡ skipped before moment →
      IsBy before after (Skip moment ∷ [])
  pub rows_taken : (c : ℕ) → c < before.system.cores → after ≡ with_taken before c → IsBy before after (TakeRows c ∷ [])

-- each call of `Cores` is a list of moves
abbrev pub CoreCallsAreMoves : Type 0
CoreCallsAreMoves = (before after : Progress) → CallsAreMoves before after

-- consecutive calls are consecutive moves
abbrev pub MovesJoin : Type 0
MovesJoin =
    (before between after : Progress) (first second : List Move) → IsBy before between first → IsBy between after second →
    IsBy before after (first ++ second) × (turns_in before (first ++ second) ≡ turns_in before first ++ turns_in between second)
