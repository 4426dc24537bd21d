-- The course of one interrupt, an origin: its carriers, and for each the legs on which it came there.
use Rattle.std.specs.Prelude.{ℕ, Bool, false, ◌==◌, ◌&&◌, not, if◌then◌else◌, List, [], ◌∷◌, ◌++◌, fold, map, filter, get_or, slice_set, Option, Some, None}
use Rattle.mcs_ticks.specs.declared.row.Row.{Row}
use Rattle.mcs_ticks.specs.declared.row.What.{What}
use Rattle.mcs_ticks.specs.declared.row.What.TheVariants as row
use Rattle.mcs_verdict.specs.declared.standing.Stood.{Stood}
use Rattle.mcs_system.specs.System.{System}
use Rattle.mcs_chain.specs.declared.answer.Answer.{Answer}
use Rattle.mcs_chain.specs.declared.moves.Move.{Move}
use Rattle.mcs_chain.specs.declared.moves.Move.TheVariants.{Nothing, Start, Give, Send, Land, Hold, Wake, Got, End}
use Rattle.mcs_way.specs.declared.aim.Aim.{Aim}
use Rattle.mcs_way.specs.declared.leg.Carrier.TheVariants.{Thread, Signal}
use Rattle.mcs_way.specs.declared.leg.Leg.{Leg}
use Rattle.mcs_way.specs.Trace.{Trace, begun, left, given, taken, joined, ended_legs}

-- a signal to another core that carries the origin
pub record Sent : Type 0 where
  -- the notification that it is for, the core that made it, and when
  pub note : ℕ
  pub maker : ℕ
  pub made : ℕ
  pub trace : Trace

pub record Course : Type 0 where
  -- at each notification
  pub held : List (Option Trace)
  -- at each thread
  pub carried : List (Option Trace)
  -- at the signals to other cores
  pub under_way : List Sent
  -- at the post that the latest row makes
  pub posted : Option Trace
  -- the legs of the way to the answer; none before it
  pub way : List Leg

-- before the first row
abbrev pub no_course : System → Course
no_course system =
    record {
      held = map (λ _. None) system.notes;
      carried = map (λ _. None) system.threads;
      under_way = [];
      posted = None;
      way = [];
    }

-- a row that posts nothing
abbrev pub rest : Course → Course
rest c = record c { posted = None }

-- the interrupt
abbrev pub started : ℕ → ℕ → Course → Course
started moment badge c = record c { posted = Some (begun moment badge) }

-- a signal that leaves for another core
abbrev pub sent_with : ℕ → ℕ → ℕ → Option Trace → List Sent
sent_with note maker made None = []
sent_with note maker made (Some trace) = record { note = note; maker = maker; made = made; trace = trace } ∷ []

abbrev pub sets_out : ℕ → ℕ → ℕ → Option Trace → Course → Course
sets_out note maker made given c = record (rest c) { under_way = c.under_way ++ sent_with note maker made given }

-- whether a signal is the one that this core made at this moment for this notification
abbrev pub is_sent : ℕ → ℕ → ℕ → Sent → Bool
is_sent note maker made sent = sent.note == note && (sent.maker == maker && sent.made == made)

-- what a signal brings to this core
abbrev pub arrived : ℕ → ℕ → Sent → Trace
arrived home moment sent = left (Signal sent.maker home) moment sent.trace.places sent.trace

-- what the signal to this notification brings that this core made at this moment
abbrev pub with_arrived : ℕ → ℕ → ℕ → ℕ → ℕ → Option Trace → Sent → Option Trace
with_arrived note maker made home moment trace sent =
    if is_sent note maker made sent then joined (Some (arrived home moment sent)) trace else trace

abbrev pub landed : ℕ → ℕ → ℕ → ℕ → ℕ → List Sent → Option Trace
landed note maker made home moment all = fold (with_arrived note maker made home moment) None all

abbrev pub lands : ℕ → ℕ → ℕ → ℕ → ℕ → Course → Course
lands note maker made home moment c =
    record c {
      posted = landed note maker made home moment c.under_way;
      under_way = filter (λ sent. not (is_sent note maker made sent)) c.under_way;
    }

-- an origin that comes to the carrier with this number
abbrev pub come_to : ℕ → Option Trace → List (Option Trace) → List (Option Trace)
come_to number new spots = slice_set spots number (joined new (get_or spots number None))

abbrev pub holds : ℕ → Course → Course
holds note c = record (rest c) { held = come_to note c.posted c.held }

abbrev pub takes : ℕ → Option Trace → Course → Course
takes thread new c = record (rest c) { carried = come_to thread new c.carried }

abbrev pub gets : ℕ → ℕ → Option Trace → Course → Course
gets thread note new c = record (takes thread new c) { held = slice_set c.held note None }

-- a round of the thread ends
abbrev pub ends : ℕ → Course → Course
ends thread c = record (rest c) { carried = slice_set c.carried thread None }

-- it is the round that answers
abbrev pub is_round : ℕ → ℕ → What → Bool
is_round thread number (row.Round x n response) = x == thread && n == number
is_round thread number _ = false

abbrev pub is_answer : Answer → Row → Bool
is_answer answer r = r.moment == answer.moment && is_round answer.thread answer.number r.what

-- the first way stays
abbrev pub kept : List Leg → List Leg → List Leg
kept [] new = new
kept (leg ∷ legs) new = leg ∷ legs

abbrev pub answers : ℕ → List Leg → Course → Course
answers thread way c = record (ends thread c) { way = kept c.way way }

-- the notification from which a row wakes a thread
abbrev pub note_of : What → ℕ
note_of (row.Wake x note word until) = note
note_of _ = 0

-- whether a source's interrupt is the origin
abbrev pub is_origin : Aim → ℕ → ℕ → Bool
is_origin aim source moment = source == aim.source && moment == aim.answer.origin

-- The course after a row that moves this. The counts are how the row's thread stood since it has the origin.
abbrev pub moved : Aim → Row → Stood → Move → Course → Course
moved aim r stood Nothing c = rest c
moved aim r stood (Start source badge) c =
    if is_origin aim source r.moment then started r.moment badge c else rest c
moved aim r stood (Give thread places badge) c =
    record c { posted = given places badge (Thread thread stood) r.moment (get_or c.carried thread None) }
moved aim r stood (Send thread places badge note maker made) c =
    sets_out note maker made (given places badge (Thread thread stood) r.moment (get_or c.carried thread None)) c
moved aim r stood (Land note maker made) c = lands note maker made r.core r.moment c
moved aim r stood (Hold note) c = holds note c
moved aim r stood (Wake thread taking) c = takes thread (taken taking (note_of r.what) r.moment c.posted) c
moved aim r stood (Got thread note taking) c = gets thread note (taken taking note r.moment (get_or c.held note None)) c
moved aim r stood (End thread word) c =
    if is_answer aim.answer r
    then answers thread (ended_legs (Thread thread stood) r.moment (get_or c.carried thread None)) c
    else ends thread c
