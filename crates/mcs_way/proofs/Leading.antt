-- The legs of each carrier's origin lead from the interrupt to the carrier.
use Rattle.std.proofs.Common.{◌≡◌, ℕ, zero, suc, ◌+◌, ◌-◌, ◌≤◌, ◌⊎◌, inl, inr, Bool, true, false, not, List, [], ◌∷◌, ◌++◌, map, get_or, set, Option, Some, None, refl, sym, subst, arith}
use Rattle.std.specs.Prelude.{if◌then◌else◌, ◌==◌, ◌&&◌, filter, fold}
use Rattle.std.proofs.lemmas.Bool.{eqb-true}
use Rattle.std.proofs.lemmas.List.Sums.{sum-map, sum_by-cons}
use Rattle.mcs_ticks.specs.declared.row.Row.{Row}
use Rattle.mcs_ticks.specs.declared.row.What.{What}
use Rattle.mcs_ticks.specs.declared.row.What.TheVariants as row
use Rattle.mcs_system.specs.System.{System, is_server, note_part}
use Rattle.mcs_verdict.specs.declared.standing.Stood.{Stood}
use Rattle.mcs_verdict.specs.Findings.{UpTo, InOrder, past_of}
use Rattle.mcs_verdict.specs.Standing.{telling}
use Rattle.mcs_verdict.specs.Stood.{all_ticks}
use Rattle.mcs_verdict.proofs.Counts.{all-stood_for}
use Rattle.mcs_chain.specs.declared.answer.Answer.{Answer}
use Rattle.mcs_chain.specs.declared.moves.Move.{Move}
use Rattle.mcs_chain.specs.declared.moves.Move.TheVariants.{Nothing, Start, Give, Send, Land, Hold, Wake, Got, End}
use Rattle.mcs_origins.specs.declared.taking.Taking.{Taking}
use Rattle.mcs_origins.specs.declared.taking.Taking.TheVariants.{First, Later}
use Rattle.mcs_chain.specs.declared.step.Gone.{Gone}
use Rattle.mcs_chain.specs.Answers.{gone_after}
use Rattle.mcs_chain.specs.Moves.{moves_by}
use Rattle.mcs_chain.specs.Steps.{goer}
use Rattle.mcs_way.specs.declared.aim.Aim.{Aim}
use Rattle.mcs_way.specs.declared.leg.Carrier.{Carrier}
use Rattle.mcs_way.specs.declared.leg.Carrier.TheVariants as by
use Rattle.mcs_way.specs.declared.leg.Leg.{Leg}
use Rattle.mcs_way.specs.laws.Ways.{all_ticks_of, IsSplit, Lead}
use Rattle.mcs_way.specs.Trace.{Trace, is_at, left, left_note, given, taken, joined, since_of, legs_to, ended_legs}
use Rattle.mcs_way.specs.Course.{Sent, Course, sent_with, is_sent, arrived, landed, with_arrived, come_to, started, rest, ends, answers, kept, is_answer, is_origin, is_round, moved}
use Rattle.mcs_way.specs.Stances.{stood_since}
use Rattle.mcs_way.specs.Sums.{ticks_of}
use Rattle.mcs_way.specs.Trail.{aim_of, stood_by, course_of, way_of}

-- one leg more
lead-more : (from mid to : ℕ) (legs : List Leg) (carrier : Carrier) → Lead from legs mid → mid ≤ to → IsSplit carrier (to - mid)
    → Lead from (legs ++ (record { carrier = carrier; from = mid; to = to }) ∷ []) to
lead-more from mid to [] carrier h up split = (sym h, up, split, refl)
lead-more from mid to (leg ∷ legs) carrier h up split = (h.0, h.1, h.2, lead-more leg.to mid to legs carrier h.3 up split)

-- the ticks of legs that lead from one time to another
pub ticks-lead : (from to : ℕ) (legs : List Leg) → Lead from legs to → from + all_ticks_of legs ≡ to
ticks-lead from to [] h = omega (arith, h)
ticks-lead from to (leg ∷ legs) h =
    omega (
      arith,
      h.0,
      h.1,
      ticks-lead leg.to to legs h.3,
      sum-map ticks_of (leg ∷ legs),
      sum-map ticks_of legs,
      sum_by-cons ticks_of leg legs,
    )

-- the origin is there since a time that is not after this one, and its legs lead there
record IsLed (origin now : ℕ) (trace : Trace) : Type 0 where
  up : trace.since ≤ now
  leads : Lead origin trace.legs trace.since

abbrev IsLedTo : ℕ → ℕ → Option Trace → Type 0
IsLedTo origin now None = Unit {0}
IsLedTo origin now (Some trace) = IsLed origin now trace

led-later : (origin now later : ℕ) (spot : Option Trace) → now ≤ later → IsLedTo origin now spot → IsLedTo origin later spot
led-later origin now later None up h = tt
led-later origin now later (Some trace) up h = let old = h.up in record { up = omega arith; leads = h.leads }

-- the ways in which a thread stood are the ticks since it has the origin
abbrev SplitsTo : ℕ → Stood → Option Trace → Type 0
SplitsTo moment stood None = Unit {0}
SplitsTo moment stood (Some trace) = all_ticks stood ≡ moment - trace.since

splits : (thread : ℕ) (past : List Row) (moment : ℕ) (spot : Option Trace) → SplitsTo moment (stood_since thread past moment (since_of spot)) spot
splits thread past moment None = tt
splits thread past moment (Some trace) = all-stood_for (telling thread past) trace.since (moment - trace.since)

left-led : (origin now moment places : ℕ) (carrier : Carrier) (trace : Trace) → IsLed origin now trace → now ≤ moment
    → IsSplit carrier (moment - trace.since) → IsLed origin moment (left carrier moment places trace)
left-led origin now moment places carrier trace h up split =
    let old = h.up in
    record { up = omega arith; leads = lead-more origin trace.since moment trace.legs carrier h.leads (omega arith) split }

if-by : {A : Type 0} (P : A → Type 0) (b : Bool) (x y : A) → (b ≡ true → P x) → P y → P (if b then x else y)
if-by P true x y h k = h refl
if-by P false x y h k = k

left_note-led : (origin now moment note places : ℕ) (trace : Trace) → IsLed origin now trace → now ≤ moment
    → IsLed origin moment (left_note note moment places trace)
left_note-led origin now moment note places trace h up =
    let old = h.up in
    if-by (IsLed origin moment) (trace.since == moment) (record trace { places = places }) (left (by.Note note) moment places trace)
    (λ e. record { up = omega arith; leads = h.leads }) (left-led origin now moment places (by.Note note) trace h up tt)

given-led : (origin now moment places badge thread : ℕ) (stood : Stood) (spot : Option Trace) → IsLedTo origin now spot → now ≤ moment
    → SplitsTo moment stood spot → IsLedTo origin moment (given places badge (by.Thread thread stood) moment spot)
given-led origin now moment places badge thread stood None h up split = tt
given-led origin now moment places badge thread stood (Some trace) h up split =
    if-by (IsLedTo origin moment) (is_at places trace) (Some (left (by.Thread thread stood) moment badge trace)) None
    (λ e. left-led origin now moment badge (by.Thread thread stood) trace h up split) tt

taken-led : (origin now moment note : ℕ) (taking : Taking) (spot : Option Trace) → IsLedTo origin now spot → now ≤ moment
    → IsLedTo origin moment (taken taking note moment spot)
taken-led origin now moment note (First bits) None h up = tt
taken-led origin now moment note (Later places) None h up = tt
taken-led origin now moment note (First bits) (Some trace) h up =
    if-by (IsLedTo origin moment) (is_at bits trace) (Some (left_note note moment _ trace)) None
    (λ e. left_note-led origin now moment note _ trace h up) tt
taken-led origin now moment note (Later places) (Some trace) h up = left_note-led origin now moment note places trace h up

joined-led : (origin now : ℕ) (new old : Option Trace) → IsLedTo origin now new → IsLedTo origin now old → IsLedTo origin now (joined new old)
joined-led origin now None old h k = k
joined-led origin now (Some new) None h k = h
joined-led origin now (Some new) (Some old) h k = record { up = k.up; leads = k.leads }

-- of many carriers
abbrev AllLed : ℕ → ℕ → List (Option Trace) → Type 0
AllLed origin now [] = Unit {0}
AllLed origin now (spot ∷ spots) = IsLedTo origin now spot × AllLed origin now spots

all-later : (origin now later : ℕ) (spots : List (Option Trace)) → now ≤ later → AllLed origin now spots → AllLed origin later spots
all-later origin now later [] up h = tt
all-later origin now later (spot ∷ spots) up h = (led-later origin now later spot up h.0, all-later origin now later spots up h.1)

all-get : (origin now : ℕ) (spots : List (Option Trace)) (k : ℕ) → AllLed origin now spots → IsLedTo origin now (get_or spots k None)
all-get origin now [] k h = tt
all-get origin now (spot ∷ spots) zero h = h.0
all-get origin now (spot ∷ spots) (suc k) h = all-get origin now spots k h.1

all-set : (origin now : ℕ) (spots : List (Option Trace)) (k : ℕ) (spot : Option Trace) → AllLed origin now spots → IsLedTo origin now spot
    → AllLed origin now (set spots k spot)
all-set origin now [] k spot h new = tt
all-set origin now (other ∷ spots) zero spot h new = (new, h.1)
all-set origin now (other ∷ spots) (suc k) spot h new = (h.0, all-set origin now spots k spot h.1 new)

all-come : (origin now thread : ℕ) (new : Option Trace) (spots : List (Option Trace)) → AllLed origin now spots → IsLedTo origin now new
    → AllLed origin now (come_to thread new spots)
all-come origin now thread new spots h led =
    all-set origin now spots thread _ h (joined-led origin now new _ led (all-get origin now spots thread h))

all-none : {X : Type 0} (origin : ℕ) (xs : List X) → AllLed origin 0 (map (λ _. None) xs)
all-none origin [] = tt
all-none origin (x ∷ xs) = (tt, all-none origin xs)

-- of the signals to other cores
abbrev AllSent : ℕ → ℕ → List Sent → Type 0
AllSent origin now [] = Unit {0}
AllSent origin now (sent ∷ others) = IsLed origin now sent.trace × AllSent origin now others

sent-later : (origin now later : ℕ) (all : List Sent) → now ≤ later → AllSent origin now all → AllSent origin later all
sent-later origin now later [] up h = tt
sent-later origin now later (sent ∷ others) up h =
    (led-later origin now later (Some sent.trace) up h.0, sent-later origin now later others up h.1)

sent-with : (origin now note maker made : ℕ) (new : Option Trace) → IsLedTo origin now new → AllSent origin now (sent_with note maker made new)
sent-with origin now note maker made None h = tt
sent-with origin now note maker made (Some trace) h = (h, tt)

sent-append : (origin now : ℕ) (all more : List Sent) → AllSent origin now all → AllSent origin now more → AllSent origin now (all ++ more)
sent-append origin now [] more h k = k
sent-append origin now (sent ∷ others) more h k = (h.0, sent-append origin now others more h.1 k)

sent-left : (origin now note maker made : ℕ) (all : List Sent) → AllSent origin now all
    → AllSent origin now (filter (λ sent. not (is_sent note maker made sent)) all)
sent-left origin now note maker made [] h = tt
sent-left origin now note maker made (sent ∷ others) h =
    if-by (AllSent origin now) (not (is_sent note maker made sent))
    (sent ∷ filter (λ sent. not (is_sent note maker made sent)) others) (filter (λ sent. not (is_sent note maker made sent)) others)
    (λ e. (h.0, sent-left origin now note maker made others h.1)) (sent-left origin now note maker made others h.1)

landed-from : (origin now moment note maker made home : ℕ) (before : Option Trace) (all : List Sent) → AllSent origin now all → now ≤ moment
    → IsLedTo origin moment before → IsLedTo origin moment (fold (with_arrived note maker made home moment) before all)
landed-from origin now moment note maker made home before [] h up led = led
landed-from origin now moment note maker made home before (sent ∷ others) h up led =
    landed-from origin now moment note maker made home (with_arrived note maker made home moment before sent) others h.1 up
    (if-by (IsLedTo origin moment) (is_sent note maker made sent) (joined (Some (arrived home moment sent)) before) before
    (λ e. joined-led origin moment (Some (arrived home moment sent)) before
    (left-led origin now moment sent.trace.places (by.Signal sent.maker home) sent.trace h.0 up tt) led) led)

landed-led : (origin now moment note maker made home : ℕ) (all : List Sent) → AllSent origin now all → now ≤ moment
    → IsLedTo origin moment (landed note maker made home moment all)
landed-led origin now moment note maker made home all h up = landed-from origin now moment note maker made home None all h up tt

-- what is led to each carrier, and the way that is found
record AreLed (aim : Aim) (now : ℕ) (c : Course) : Type 0 where
  held : AllLed aim.answer.origin now c.held
  carried : AllLed aim.answer.origin now c.carried
  under_way : AllSent aim.answer.origin now c.under_way
  posted : IsLedTo aim.answer.origin now c.posted
  way : (c.way ≡ []) ⊎ Lead aim.answer.origin c.way aim.answer.moment

led-from : (aim : Aim) (now later : ℕ) (c : Course) → now ≤ later → AreLed aim now c → AreLed aim later c
led-from aim now later c up h =
    record {
      held = all-later aim.answer.origin now later c.held up h.held;
      carried = all-later aim.answer.origin now later c.carried up h.carried;
      under_way = sent-later aim.answer.origin now later c.under_way up h.under_way;
      posted = led-later aim.answer.origin now later c.posted up h.posted;
      way = h.way;
    }

led-posted : (aim : Aim) (now : ℕ) (c : Course) (post : Option Trace) → AreLed aim now c → IsLedTo aim.answer.origin now post
    → AreLed aim now (record c { posted = post })
led-posted aim now c post h new = record { held = h.held; carried = h.carried; under_way = h.under_way; posted = new; way = h.way }

led-carried : (aim : Aim) (now : ℕ) (c : Course) (spots : List (Option Trace)) → AreLed aim now c → AllLed aim.answer.origin now spots
    → AreLed aim now (record (rest c) { carried = spots })
led-carried aim now c spots h new = record { held = h.held; carried = new; under_way = h.under_way; posted = tt; way = h.way }

first-true : (a b : Bool) → (a && b) ≡ true → a ≡ true
first-true true b e = refl
first-true false b e = e

second-true : (a b : Bool) → (a && b) ≡ true → b ≡ true
second-true true b e = e
second-true false b e = absurd (cc)

-- the interrupt
started-led : (aim : Aim) (r : Row) (c : Course) (source badge : ℕ) → AreLed aim r.moment c
    → AreLed aim r.moment (if is_origin aim source r.moment then started r.moment badge c else rest c)
started-led aim r c source badge h =
    if-by (AreLed aim r.moment) (is_origin aim source r.moment) (started r.moment badge c) (rest c)
    (λ e.
    let now : r.moment ≡ aim.answer.origin = eqb-true r.moment aim.answer.origin (second-true (source == aim.source) (r.moment == aim.answer.origin) e) in
    led-posted aim r.moment c _ h (record { up = omega arith; leads = sym now }))
    (led-posted aim r.moment c None h tt)

-- the end of the round that answers
way-led : (aim : Aim) (now moment thread : ℕ) (stood : Stood) (spot : Option Trace) → IsLedTo aim.answer.origin now spot → now ≤ moment
    → SplitsTo moment stood spot → moment ≡ aim.answer.moment
    → (ended_legs (by.Thread thread stood) moment spot ≡ []) ⊎ Lead aim.answer.origin (ended_legs (by.Thread thread stood) moment spot) aim.answer.moment
way-led aim now moment thread stood None h up split e = inl refl
way-led aim now moment thread stood (Some trace) h up split e =
    inr (subst (λ to. Lead aim.answer.origin (legs_to (by.Thread thread stood) moment trace) to) e
    (left-led aim.answer.origin now moment 0 (by.Thread thread stood) trace h up split).leads)

kept-led : (aim : Aim) (old new : List Leg) → (old ≡ []) ⊎ Lead aim.answer.origin old aim.answer.moment
    → (new ≡ []) ⊎ Lead aim.answer.origin new aim.answer.moment
    → (kept old new ≡ []) ⊎ Lead aim.answer.origin (kept old new) aim.answer.moment
kept-led aim [] new h k = k
kept-led aim (leg ∷ legs) new h k = h

ended-led : (aim : Aim) (now : ℕ) (r : Row) (c : Course) (thread : ℕ) (stood : Stood) → AreLed aim now c → now ≤ r.moment
    → SplitsTo r.moment stood (get_or c.carried thread None)
    → AreLed aim r.moment
    (if is_answer aim.answer r
    then answers thread (ended_legs (by.Thread thread stood) r.moment (get_or c.carried thread None)) c
    else ends thread c)
ended-led aim now r c thread stood h up split =
    let next = led-from aim now r.moment c up h in
    let cleared = all-set aim.answer.origin r.moment c.carried thread None next.carried tt in
    if-by (AreLed aim r.moment) (is_answer aim.answer r)
    (answers thread (ended_legs (by.Thread thread stood) r.moment (get_or c.carried thread None)) c) (ends thread c)
    (λ e. record {
      held = next.held;
      carried = cleared;
      under_way = next.under_way;
      posted = tt;
      way = kept-led aim c.way _ h.way
          (way-led aim now r.moment thread stood (get_or c.carried thread None) (all-get aim.answer.origin now c.carried thread h.carried) up split
          (eqb-true r.moment aim.answer.moment (first-true (r.moment == aim.answer.moment) (is_round aim.answer.thread aim.answer.number r.what) e)));
    })
    (led-carried aim r.moment c _ next cleared)

-- the ways in which the thread stood that a row moves the origin from
abbrev MovesSplit : Row → Stood → Course → Move → Type 0
MovesSplit r stood c (Give thread places badge) = SplitsTo r.moment stood (get_or c.carried thread None)
MovesSplit r stood c (Send thread places badge note maker made) = SplitsTo r.moment stood (get_or c.carried thread None)
MovesSplit r stood c (End thread word) = SplitsTo r.moment stood (get_or c.carried thread None)
MovesSplit r stood c _ = Unit {0}

moved-led : (aim : Aim) (now : ℕ) (r : Row) (stood : Stood) (c : Course) (move : Move) → AreLed aim now c → now ≤ r.moment
    → MovesSplit r stood c move → AreLed aim r.moment (moved aim r stood move c)
moved-led aim now r stood c Nothing h up split = led-posted aim r.moment c None (led-from aim now r.moment c up h) tt
moved-led aim now r stood c (Start source badge) h up split = started-led aim r c source badge (led-from aim now r.moment c up h)
moved-led aim now r stood c (Give thread places badge) h up split =
    led-posted aim r.moment c _ (led-from aim now r.moment c up h)
    (given-led aim.answer.origin now r.moment places badge thread stood (get_or c.carried thread None)
    (all-get aim.answer.origin now c.carried thread h.carried) up split)
moved-led aim now r stood c (Send thread places badge note maker made) h up split =
    let next = led-from aim now r.moment c up h in
    record {
      held = next.held;
      carried = next.carried;
      under_way = sent-append aim.answer.origin r.moment c.under_way _ next.under_way
          (sent-with aim.answer.origin r.moment note maker made _
          (given-led aim.answer.origin now r.moment places badge thread stood (get_or c.carried thread None)
          (all-get aim.answer.origin now c.carried thread h.carried) up split));
      posted = tt;
      way = next.way;
    }
moved-led aim now r stood c (Land note maker made) h up split =
    let next = led-from aim now r.moment c up h in
    record {
      held = next.held;
      carried = next.carried;
      under_way = sent-left aim.answer.origin r.moment note maker made c.under_way next.under_way;
      posted = landed-led aim.answer.origin now r.moment note maker made r.core c.under_way h.under_way up;
      way = next.way;
    }
moved-led aim now r stood c (Hold note) h up split =
    let next = led-from aim now r.moment c up h in
    record {
      held = all-come aim.answer.origin r.moment note c.posted c.held next.held next.posted;
      carried = next.carried;
      under_way = next.under_way;
      posted = tt;
      way = next.way;
    }
moved-led aim now r stood c (Wake thread taking) h up split =
    let next = led-from aim now r.moment c up h in
    led-carried aim r.moment c _ next
    (all-come aim.answer.origin r.moment thread _ c.carried next.carried (taken-led aim.answer.origin now r.moment _ taking c.posted h.posted up))
moved-led aim now r stood c (Got thread note taking) h up split =
    let next = led-from aim now r.moment c up h in
    record {
      held = all-set aim.answer.origin r.moment c.held note None next.held tt;
      carried = all-come aim.answer.origin r.moment thread _ c.carried next.carried
          (taken-led aim.answer.origin now r.moment note taking (get_or c.held note None) (all-get aim.answer.origin now c.held note h.held) up);
      under_way = next.under_way;
      posted = tt;
      way = next.way;
    }
moved-led aim now r stood c (End thread word) h up split = ended-led aim now r c thread stood h up split

-- how the thread of a row stood is what the move asks for
signal-splits : (b d : Bool) (r : Row) (stood : Stood) (c : Course) (thread places badge note maker made : ℕ) → SplitsTo r.moment stood (get_or c.carried thread None)
    → MovesSplit r stood c (if b then Nothing else if d then Give thread places badge else Send thread places badge note maker made)
signal-splits true d r stood c thread places badge note maker made h = tt
signal-splits false true r stood c thread places badge note maker made h = h
signal-splits false false r stood c thread places badge note maker made h = h

row-splits : (system : System) (all : List Gone) (past : List Row) (r : Row) (c : Course) (what : What)
    → MovesSplit r (stood_by past r.moment (goer what) c) c (moves_by system all r what)
row-splits system all past r c (row.Signal x note badge) =
    signal-splits (is_server system note) ((note_part system note).core == r.core) r _ c x _ badge note r.core r.moment
    (splits x past r.moment (get_or c.carried x None))
row-splits system all past r c (row.Round x number response) = splits x past r.moment (get_or c.carried x None)
row-splits system all past r c (row.Release x) = tt
row-splits system all past r c (row.Run x) = tt
row-splits system all past r c (row.Stop x cause charged until) = tt
row-splits system all past r c (row.Wake x note word until) = tt
row-splits system all past r c (row.Got x note word) = tt
row-splits system all past r c (row.Arrive note badge maker) = tt
row-splits system all past r c (row.Hold note word) = tt
row-splits system all past r c (row.Order context) = tt
row-splits system all past r c (row.Interrupt source note badge) = tt

-- the time of the latest row
abbrev latest : List Row → ℕ
latest [] = 0
latest (r ∷ past) = r.moment

latest-up : (moment : ℕ) (past : List Row) → UpTo moment past → latest past ≤ moment
latest-up moment [] up = omega arith
latest-up moment (r ∷ past) up = up.0

-- rows in the order of their times, the latest first
abbrev AreInOrder : List Row → Type 0
AreInOrder [] = Unit {0}
AreInOrder (r ∷ past) = UpTo r.moment past × AreInOrder past

in-order : (past rows : List Row) → AreInOrder past → InOrder past rows → AreInOrder (past_of past rows)
in-order past [] h k = h
in-order past (r ∷ rows) h k = in-order (r ∷ past) rows (k.0, h) k.1

course-led : (system : System) (aim : Aim) (past : List Row) → AreInOrder past → AreLed aim (latest past) (course_of system aim past)
course-led system aim [] h =
    record { held = all-none aim.answer.origin system.notes; carried = all-none aim.answer.origin system.threads; under_way = tt; posted = tt; way = inl refl }
course-led system aim (r ∷ past) h =
    moved-led aim (latest past) r _ (course_of system aim past) _ (course-led system aim past h.1) (latest-up r.moment past h.0)
    (row-splits system (gone_after system past) past r (course_of system aim past) r.what)

pub ways-led : (system : System) (answer : Answer) (rows : List Row) → InOrder [] rows
    → (way_of system answer (past_of [] rows) ≡ []) ⊎ Lead answer.origin (way_of system answer (past_of [] rows)) answer.moment
ways-led system answer rows h = (course-led system (aim_of system answer) (past_of [] rows) (in-order [] rows tt h)).way
