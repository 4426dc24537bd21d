-- The legs of each carrier's origin have no tick in which their thread was pending or done.
use Rattle.std.proofs.Common.{◌≡◌, ℕ, zero, suc, Bool, true, false, not, List, [], ◌∷◌, ◌++◌, map, get_or, set, Option, Some, None}
use Rattle.std.specs.Prelude.{if◌then◌else◌, ◌==◌, filter, fold}
use Rattle.mcs_ticks.specs.declared.row.Row.{Row}
use Rattle.mcs_system.specs.System.{System}
use Rattle.mcs_verdict.specs.declared.standing.Stood.{Stood}
use Rattle.mcs_chain.specs.declared.moves.Move.{Move}
use Rattle.mcs_chain.specs.declared.moves.Move.TheVariants.{Nothing, Start, Give, Send, Land, Hold, Wake, Got, End}
use Rattle.mcs_origins.specs.declared.taking.Taking.{Taking}
use Rattle.mcs_origins.specs.declared.taking.Taking.TheVariants.{First, Later}
use Rattle.mcs_way.specs.declared.aim.Aim.{Aim}
use Rattle.mcs_way.specs.declared.leg.Carrier.{Carrier}
use Rattle.mcs_way.specs.declared.leg.Carrier.TheVariants as by
use Rattle.mcs_way.specs.declared.leg.Leg.{Leg}
use Rattle.mcs_way.specs.laws.Legs.{IsActive, AreActive}
use Rattle.mcs_way.specs.Trace.{Trace, is_at, left, left_note, given, taken, joined, ended_legs}
use Rattle.mcs_way.specs.Course.{Sent, Course, sent_with, is_sent, arrived, with_arrived, come_to, started, rest, ends, answers, kept, is_answer, is_origin, moved, no_course}

if-each : {A : Type 0} (P : A → Type 0) (b : Bool) (x y : A) → P x → P y → P (if b then x else y)
if-each P true x y h k = h
if-each P false x y h k = k

active-more : (legs : List Leg) (leg : Leg) → AreActive legs → IsActive leg.carrier → AreActive (legs ++ leg ∷ [])
active-more [] leg h k = (k, tt)
active-more (l ∷ legs) leg h k = (h.0, active-more legs leg h.1 k)

-- of an origin at a carrier, if it is there
abbrev IsFine : Option Trace → Type 0
IsFine None = Unit {0}
IsFine (Some trace) = AreActive trace.legs

left-fine : (carrier : Carrier) (moment places : ℕ) (trace : Trace) → AreActive trace.legs → IsActive carrier → AreActive (left carrier moment places trace).legs
left-fine carrier moment places trace h k = active-more trace.legs _ h k

left_note-fine : (note moment places : ℕ) (trace : Trace) → AreActive trace.legs → AreActive (left_note note moment places trace).legs
left_note-fine note moment places trace h =
    if-each (λ (t : Trace). AreActive t.legs) (trace.since == moment) (record trace { places = places }) (left (by.Note note) moment places trace)
    h (left-fine (by.Note note) moment places trace h tt)

given-fine : (places badge moment : ℕ) (carrier : Carrier) (spot : Option Trace) → IsFine spot → IsActive carrier → IsFine (given places badge carrier moment spot)
given-fine places badge moment carrier None h k = tt
given-fine places badge moment carrier (Some trace) h k =
    if-each IsFine (is_at places trace) (Some (left carrier moment badge trace)) None (left-fine carrier moment badge trace h k) tt

taken-fine : (note moment : ℕ) (taking : Taking) (spot : Option Trace) → IsFine spot → IsFine (taken taking note moment spot)
taken-fine note moment (First bits) None h = tt
taken-fine note moment (Later places) None h = tt
taken-fine note moment (First bits) (Some trace) h =
    if-each IsFine (is_at bits trace) (Some (left_note note moment _ trace)) None (left_note-fine note moment _ trace h) tt
taken-fine note moment (Later places) (Some trace) h = left_note-fine note moment places trace h

joined-fine : (new old : Option Trace) → IsFine new → IsFine old → IsFine (joined new old)
joined-fine None old h k = k
joined-fine (Some new) None h k = h
joined-fine (Some new) (Some old) h k = k

-- of many carriers
abbrev AllFine : List (Option Trace) → Type 0
AllFine [] = Unit {0}
AllFine (spot ∷ spots) = IsFine spot × AllFine spots

all-get : (spots : List (Option Trace)) (k : ℕ) → AllFine spots → IsFine (get_or spots k None)
all-get [] k h = tt
all-get (spot ∷ spots) zero h = h.0
all-get (spot ∷ spots) (suc k) h = all-get spots k h.1

all-set : (spots : List (Option Trace)) (k : ℕ) (spot : Option Trace) → AllFine spots → IsFine spot → AllFine (set spots k spot)
all-set [] k spot h new = tt
all-set (other ∷ spots) zero spot h new = (new, h.1)
all-set (other ∷ spots) (suc k) spot h new = (h.0, all-set spots k spot h.1 new)

all-come : (number : ℕ) (new : Option Trace) (spots : List (Option Trace)) → AllFine spots → IsFine new → AllFine (come_to number new spots)
all-come number new spots h fine = all-set spots number _ h (joined-fine new _ fine (all-get spots number h))

all-none : {X : Type 0} (xs : List X) → AllFine (map (λ _. None) xs)
all-none [] = tt
all-none (x ∷ xs) = (tt, all-none xs)

-- of the signals to other cores
abbrev AllSent : List Sent → Type 0
AllSent [] = Unit {0}
AllSent (sent ∷ others) = AreActive sent.trace.legs × AllSent others

sent-with : (note maker made : ℕ) (new : Option Trace) → IsFine new → AllSent (sent_with note maker made new)
sent-with note maker made None h = tt
sent-with note maker made (Some trace) h = (h, tt)

sent-append : (all more : List Sent) → AllSent all → AllSent more → AllSent (all ++ more)
sent-append [] more h k = k
sent-append (sent ∷ others) more h k = (h.0, sent-append others more h.1 k)

sent-left : (note maker made : ℕ) (all : List Sent) → AllSent all → AllSent (filter (λ sent. not (is_sent note maker made sent)) all)
sent-left note maker made [] h = tt
sent-left note maker made (sent ∷ others) h =
    if-each AllSent (not (is_sent note maker made sent))
    (sent ∷ filter (λ sent. not (is_sent note maker made sent)) others) (filter (λ sent. not (is_sent note maker made sent)) others)
    (h.0, sent-left note maker made others h.1) (sent-left note maker made others h.1)

landed-from : (moment note maker made home : ℕ) (before : Option Trace) (all : List Sent) → AllSent all → IsFine before
    → IsFine (fold (with_arrived note maker made home moment) before all)
landed-from moment note maker made home before [] h fine = fine
landed-from moment note maker made home before (sent ∷ others) h fine =
    landed-from moment note maker made home (with_arrived note maker made home moment before sent) others h.1
    (if-each IsFine (is_sent note maker made sent) (joined (Some (arrived home moment sent)) before) before
    (joined-fine (Some (arrived home moment sent)) before
    (left-fine (by.Signal sent.maker home) moment sent.trace.places sent.trace h.0 tt) fine) fine)

-- of all carriers, and of the way that is found
pub record AreFine (c : Course) : Type 0 where
  held : AllFine c.held
  carried : AllFine c.carried
  under_way : AllSent c.under_way
  posted : IsFine c.posted
  pub way : AreActive c.way

fine-posted : (c : Course) (post : Option Trace) → AreFine c → IsFine post → AreFine (record c { posted = post })
fine-posted c post h new = record { held = h.held; carried = h.carried; under_way = h.under_way; posted = new; way = h.way }

fine-carried : (c : Course) (spots : List (Option Trace)) → AreFine c → AllFine spots → AreFine (record (rest c) { carried = spots })
fine-carried c spots h new = record { held = h.held; carried = new; under_way = h.under_way; posted = tt; way = h.way }

kept-fine : (old new : List Leg) → AreActive old → AreActive new → AreActive (kept old new)
kept-fine [] new h k = k
kept-fine (leg ∷ legs) new h k = h

ended-fine : (carrier : Carrier) (moment : ℕ) (spot : Option Trace) → IsFine spot → IsActive carrier → AreActive (ended_legs carrier moment spot)
ended-fine carrier moment None h k = tt
ended-fine carrier moment (Some trace) h k = active-more trace.legs _ h k

pub none-fine : (system : System) → AreFine (no_course system)
none-fine system = record { held = all-none system.notes; carried = all-none system.threads; under_way = tt; posted = tt; way = tt }

-- one more row, if its thread was active since it has the origin
pub moved-fine : (aim : Aim) (r : Row) (stood : Stood) (move : Move) (c : Course) → (stood.pending ≡ 0) × (stood.done ≡ 0) → AreFine c
    → AreFine (moved aim r stood move c)
moved-fine aim r stood Nothing c active h = fine-posted c None h tt
moved-fine aim r stood (Start source badge) c active h =
    if-each AreFine (is_origin aim source r.moment) (started r.moment badge c) (rest c) (fine-posted c _ h tt) (fine-posted c None h tt)
moved-fine aim r stood (Give thread places badge) c active h =
    fine-posted c _ h (given-fine places badge r.moment (by.Thread thread stood) _ (all-get c.carried thread h.carried) active)
moved-fine aim r stood (Send thread places badge note maker made) c active h =
    record {
      held = h.held;
      carried = h.carried;
      under_way = sent-append c.under_way _ h.under_way
          (sent-with note maker made _ (given-fine places badge r.moment (by.Thread thread stood) _ (all-get c.carried thread h.carried) active));
      posted = tt;
      way = h.way;
    }
moved-fine aim r stood (Land note maker made) c active h =
    record {
      held = h.held;
      carried = h.carried;
      under_way = sent-left note maker made c.under_way h.under_way;
      posted = landed-from r.moment note maker made r.core None c.under_way h.under_way tt;
      way = h.way;
    }
moved-fine aim r stood (Hold note) c active h =
    record { held = all-come note c.posted c.held h.held h.posted; carried = h.carried; under_way = h.under_way; posted = tt; way = h.way }
moved-fine aim r stood (Wake thread taking) c active h =
    fine-carried c _ h (all-come thread _ c.carried h.carried (taken-fine _ r.moment taking c.posted h.posted))
moved-fine aim r stood (Got thread note taking) c active h =
    record {
      held = all-set c.held note None h.held tt;
      carried = all-come thread _ c.carried h.carried (taken-fine note r.moment taking _ (all-get c.held note h.held));
      under_way = h.under_way;
      posted = tt;
      way = h.way;
    }
moved-fine aim r stood (End thread word) c active h =
    let cleared = all-set c.carried thread None h.carried tt in
    if-each AreFine (is_answer aim.answer r) (answers thread (ended_legs (by.Thread thread stood) r.moment (get_or c.carried thread None)) c) (ends thread c)
    (record {
      held = h.held;
      carried = cleared;
      under_way = h.under_way;
      posted = tt;
      way = kept-fine c.way _ h.way (ended-fine (by.Thread thread stood) r.moment _ (all-get c.carried thread h.carried) active);
    })
    (fine-carried c _ h cleared)
