-- A row of a core of the group, and the same row later: what it leaves is later, too, if what was before it is.
use Rattle.std.proofs.Common.{◌≡◌, ◌∙◌, ℕ, ◌+◌, ◌-◌, ◌<◌, ◌≤◌, Bool, true, false, not, ◌==◌, ◌&&◌, List, [], ◌∷◌, ◌++◌, length, get_or, set, map, filter, length-set, Option, Some, None, refl, sym, ap, ap₂, subst, arith}
use Rattle.std.specs.Prelude.{if◌then◌else◌}
use Rattle.std.proofs.lemmas.Bool.{and_from, and_parts, eqb-true}
use Rattle.std.proofs.lemmas.List.{length-map, map-append}
use Rattle.std.proofs.lemmas.List.Elements.{filter-append}
use Rattle.mcs_ticks.specs.declared.row.Row.{Row}
use Rattle.mcs_ticks.specs.declared.row.What.{What}
use Rattle.mcs_ticks.specs.declared.row.What.TheVariants as row
use Rattle.mcs_system.specs.declared.part.ChainPart.{ChainPart}
use Rattle.mcs_system.specs.System.{System, thread_part, note_part, core_of, delay_between, is_server}
use Rattle.mcs_origins.specs.declared.mark.Mark.{Mark}
use Rattle.mcs_chain.specs.declared.sent.Sent.{Sent}
use Rattle.mcs_chain.specs.declared.moves.Move.{Move}
use Rattle.mcs_chain.specs.declared.moves.Move.TheVariants.{Nothing, Start, Give, Send, Land, Hold, Wake, Got, End}
use Rattle.mcs_origins.specs.declared.taking.Taking.{Taking}
use Rattle.mcs_chain.specs.declared.step.Gone.{Gone}
use Rattle.mcs_chain.specs.declared.step.Step.{Step}
use Rattle.mcs_chain.specs.Steps.{all_go, fresh, goer, goes_by, gone_of, one_goes, step_of}
use Rattle.mcs_chain.specs.Moves.{gives, moves, reach, taking}
use Rattle.mcs_origins.specs.Sets.{at_places, given, is_one_of, join, taken, without}
use Rattle.mcs_chain.specs.Origins.{Origins, answers, ends, gets, holds, is_answer, is_sent, lands, moved, rest, sent, sets_out, started, takes}
use Rattle.mcs_ever.specs.Later.{Shift, later_what}
use Rattle.mcs_ever.specs.laws.Home.{IsOfOwn, IsOwnNote, IsOwnThread}
use Rattle.mcs_ever_chain.specs.Later.{AreLater, StepsAreSame, is_within, later_mark, later_origins, later_sent, later_set}
use Rattle.mcs_ever_chain.specs.Recurs.{is_from, takes_posted}
use Rattle.mcs_ever_chain.proofs.Sets.{at-later, eq-later, filter-less, filter-made, filter-swap, get-made, given-later, join-later, left-later, made-twice, none-of-later, origins-later, set-later, taken-later, without-later}

-- what one more row leaves
pub record AfterRow (system : System) (group : ℕ → Bool) (by : ℕ) (o1 o2 : Origins) : Type 0 where
  pub later : AreLater system group by o1 o2
  pub posted : o2.posted ≡ later_set by o1.posted
  pub answered : o2.answered ≡ later_origins by o1.answered

-- of two values that are chosen alike
chosen : {A B : Type 0} (f : A → B) (b : Bool) (x y : A) → (if b then f x else f y) ≡ f (if b then x else y)
chosen f true x y = refl
chosen f false x y = refl

if-each : {A : Type 0} (P : A → Type 0) (b : Bool) (x y : A) → P x → P y → P (if b then x else y)
if-each P true x y p q = p
if-each P false x y p q = q

-- a relation of two values that are chosen alike
both-chosen : {A : Type 0} (R : A → A → Type 0) (b : Bool) (x y x' y' : A) → R x x' → R y y' → R (if b then x else y) (if b then x' else y')
both-chosen R true x y x' y' r s = r
both-chosen R false x y x' y' r s = s

-- a row's move, later
abbrev later_move : ℕ → Move → Move
later_move by (Send thread places badge note maker made) = Send thread places badge note maker (made + by)
later_move by (Land note maker made) = Land note maker (made + by)
later_move by Nothing = Nothing
later_move by (Start source badge) = Start source badge
later_move by (Give thread places badge) = Give thread places badge
later_move by (Hold note) = Hold note
later_move by (Wake thread taking) = Wake thread taking
later_move by (Got thread note taking) = Got thread note taking
later_move by (End thread word) = End thread word

chosen-later : (b c : Bool) (by : ℕ) (x y : Move)
    → (if b then Nothing else if c then later_move by x else later_move by y) ≡ later_move by (if b then Nothing else if c then x else y)
chosen-later true c by x y = refl
chosen-later false true by x y = refl
chosen-later false false by x y = refl

-- the lists are as long as before
module _ (chain : ChainPart) (moment : ℕ) (o : Origins) where
  pub held-long : (move : Move) → length (moved chain moment move o).held ≡ length o.held
  held-long Nothing = refl
  held-long (Start source badge) =
      if-each (λ (n : Origins). length n.held ≡ length o.held) (source == chain.source) (started moment badge o) (rest o) refl refl
  held-long (Give thread places badge) = refl
  held-long (Send thread places badge note maker made) = refl
  held-long (Land note maker made) = refl
  held-long (Hold note) = length-set o.held note (join o.posted (get_or o.held note []))
  held-long (Wake thread taking) = refl
  held-long (Got thread note taking) = length-set o.held note []
  held-long (End thread word) = length-map o.held (without (answers chain thread word o))

  pub carried-long : (move : Move) → length (moved chain moment move o).carried ≡ length o.carried
  carried-long Nothing = refl
  carried-long (Start source badge) =
      if-each (λ (n : Origins). length n.carried ≡ length o.carried) (source == chain.source) (started moment badge o) (rest o) refl refl
  carried-long (Give thread places badge) = refl
  carried-long (Send thread places badge note maker made) = refl
  carried-long (Land note maker made) = refl
  carried-long (Hold note) = refl
  carried-long (Wake thread taking) = length-set o.carried thread (join (taken taking o.posted) (get_or o.carried thread []))
  carried-long (Got thread note taking) =
      length-set o.carried thread (join (taken taking (get_or o.held note [])) (get_or o.carried thread []))
  carried-long (End thread word) =
      length-map (set o.carried thread []) (without (answers chain thread word o)) ∙ length-set o.carried thread []

pub gone-long : (system : System) (what : What) (all : List Gone) → length (all_go system what all) ≡ length all
gone-long system what all = by (goer what)
  where
    by : (thread : Option ℕ) → length (one_goes system what thread all) ≡ length all
    by None = refl
    by (Some thread) = length-set all thread (goes_by (thread_part system thread) what (gone_of all thread))

module _ (system : System) (group : ℕ → Bool) where
  -- a thread and a notification of the group
  abbrev IsThread : ℕ → Type 0
  IsThread thread = (thread < length system.threads) × (group (core_of system (thread_part system thread)) ≡ true)

  abbrev IsNote : ℕ → Type 0
  IsNote note = (note < length system.notes) × (group (note_part system note).core ≡ true)

  -- what a row of the group moves. P is what has to be so if the row takes what was posted
  abbrev IsOurs : Type 0 → Move → Type 0
  IsOurs P Nothing = Unit {0}
  IsOurs P (Start source badge) = Unit {0}
  IsOurs P (Give thread places badge) = IsThread thread
  IsOurs P (Send thread places badge note maker made) = IsThread thread
  IsOurs P (Land note maker made) = IsNote note × (group maker ≡ true)
  IsOurs P (Hold note) = IsNote note × P
  IsOurs P (Wake thread taking) = IsThread thread × P
  IsOurs P (Got thread note taking) = IsThread thread × IsNote note
  IsOurs P (End thread word) = IsThread thread

  -- the move of a row, in both runs
  module _ (chain : ChainPart) (by : ℕ) (o1 o2 : Origins) (h : AreLater system group by o1 o2) where
    abbrev within : Sent → Bool
    within = is_within system group

    abbrev all_later : List Sent → List Sent
    all_later all = map (later_sent by) all

    carried-is : (thread : ℕ) → IsThread thread → get_or o2.carried thread [] ≡ later_set by (get_or o1.carried thread [])
    carried-is thread own = h.carried thread own.0 own.1

    held-is : (note : ℕ) → IsNote note → get_or o2.held note [] ≡ later_set by (get_or o1.held note [])
    held-is note own = h.held note own.0 own.1

    rest-after : AfterRow system group by (rest o1) (rest o2)
    rest-after = record { later = record { held = h.held; carried = h.carried; under_way = h.under_way }; posted = refl; answered = refl }

    start-after : (moment badge : ℕ) → AfterRow system group by (started moment badge o1) (started (moment + by) badge o2)
    start-after moment badge = record { later = record { held = h.held; carried = h.carried; under_way = h.under_way }; posted = refl; answered = refl }

    posts-after : (x y : List Mark) → y ≡ later_set by x → AfterRow system group by (record (rest o1) { posted = x }) (record (rest o2) { posted = y })
    posts-after x y e = record { later = record { held = h.held; carried = h.carried; under_way = h.under_way }; posted = e; answered = refl }

    -- signals that leave
    sent-later : (note maker made : ℕ) (x y : List Mark) → y ≡ later_set by x
        → filter within (map (sent note maker (made + by)) y) ≡ all_later (filter within (map (sent note maker made) x))
    sent-later note maker made x y e =
        ap (λ set. filter within (map (sent note maker (made + by)) set)) e
        ∙ ap (filter within) (made-twice (sent note maker (made + by)) (later_mark by) (sent note maker made) (later_sent by) (λ mark. refl) x)
        ∙ filter-made (later_sent by) within within (λ one. refl) (map (sent note maker made) x)

    sets-after : (note maker made : ℕ) (x y : List Mark) → y ≡ later_set by x
        → AfterRow system group by (sets_out note maker made x o1) (sets_out note maker (made + by) y o2)
    sets-after note maker made x y e =
        record {
          later = record { held = h.held; carried = h.carried; under_way = under_way };
          posted = refl;
          answered = refl;
        }
      where
        under_way : filter within (o2.under_way ++ map (sent note maker (made + by)) y)
            ≡ all_later (filter within (o1.under_way ++ map (sent note maker made) x))
        under_way =
            filter-append within o2.under_way (map (sent note maker (made + by)) y)
            ∙ ap₂ (λ a b. a ++ b) h.under_way (sent-later note maker made x y e)
            ∙ sym (map-append (later_sent by) (filter within o1.under_way) (filter within (map (sent note maker made) x)))
            ∙ ap all_later (sym (filter-append within o1.under_way (map (sent note maker made) x)))

    -- and arrive
    is-sent-later : (note maker made : ℕ) (one : Sent) → is_sent note maker (made + by) (later_sent by one) ≡ is_sent note maker made one
    is-sent-later note maker made one = ap (λ b. (one.note == note) && ((one.maker == maker) && b)) (eq-later by one.made made)

    is-sent-within : (note maker made : ℕ) → IsNote note → group maker ≡ true → (one : Sent) → is_sent note maker made one ≡ true → within one ≡ true
    is-sent-within note maker made own from one e =
        let parts = and_parts (one.note == note) ((one.maker == maker) && (one.made == made)) e in
        let others = and_parts (one.maker == maker) (one.made == made) parts.1 in
        and_from (group one.maker) (group (note_part system one.note).core) (ap group (eqb-true one.maker maker others.0) ∙ from)
        (ap (λ n. group (note_part system n).core) (eqb-true one.note note parts.0) ∙ own.1)

    arrived-later : (note maker made : ℕ) → IsNote note → group maker ≡ true
        → filter (is_sent note maker (made + by)) o2.under_way ≡ all_later (filter (is_sent note maker made) o1.under_way)
    arrived-later note maker made own from =
        filter-less (is_sent note maker (made + by)) within (is-sent-within note maker (made + by) own from) o2.under_way
        ∙ ap (filter (is_sent note maker (made + by))) h.under_way
        ∙ filter-made (later_sent by) (is_sent note maker (made + by)) (is_sent note maker made) (is-sent-later note maker made) (filter within o1.under_way)
        ∙ ap all_later (sym (filter-less (is_sent note maker made) within (is-sent-within note maker made own from) o1.under_way))

    -- signals that stay under way
    stay-later : (p q : Sent → Bool) → ((one : Sent) → p (later_sent by one) ≡ q one)
        → filter within (filter p o2.under_way) ≡ all_later (filter within (filter q o1.under_way))
    stay-later p q e =
        filter-swap within p o2.under_way ∙ ap (filter p) h.under_way ∙ filter-made (later_sent by) p q e (filter within o1.under_way)
        ∙ ap all_later (filter-swap q within o1.under_way)

    lands-after : (note maker made : ℕ) → IsNote note → group maker ≡ true
        → AfterRow system group by (lands note maker made o1) (lands note maker (made + by) o2)
    lands-after note maker made own from =
        record {
          later =
              record {
                held = h.held;
                carried = h.carried;
                under_way =
                    stay-later (λ one. not (is_sent note maker (made + by) one)) (λ one. not (is_sent note maker made one))
                    (λ one. ap not (is-sent-later note maker made one));
              };
          posted =
              ap (map (λ (one : Sent). one.mark)) (arrived-later note maker made own from)
              ∙ made-twice (λ (one : Sent). one.mark) (later_sent by) (λ (one : Sent). one.mark) (later_mark by) (λ one. refl)
              (filter (is_sent note maker made) o1.under_way);
          answered = refl;
        }

    -- an answer
    answers-later : (thread word : ℕ) → IsThread thread → answers chain thread word o2 ≡ later_origins by (answers chain thread word o1)
    answers-later thread word own =
        let answers_it = (thread == chain.thread) && is_answer chain.badges word in
        let set = at_places (reach chain.badges) (get_or o1.carried thread []) in
        ap (λ marks. if answers_it then map (λ (mark : Mark). mark.origin) (at_places (reach chain.badges) marks) else []) (carried-is thread own)
        ∙ ap (λ origins. if answers_it then origins else [])
        (ap (map (λ (mark : Mark). mark.origin)) (at-later by (reach chain.badges) (get_or o1.carried thread [])) ∙ origins-later by set)
        ∙ chosen (later_origins by) answers_it (map (λ (mark : Mark). mark.origin) set) []

    unanswered-move : (moment : ℕ) (P : Type 0) (move : Move) → IsOurs P move → o2.unanswered ≡ later_origins by o1.unanswered
        → (moved chain (moment + by) (later_move by move) o2).unanswered ≡ later_origins by (moved chain moment move o1).unanswered
    unanswered-move moment P Nothing own e = e
    unanswered-move moment P (Start source badge) own e =
        both-chosen (λ (m n : Origins). n.unanswered ≡ later_origins by m.unanswered) (source == chain.source) (started moment badge o1) (rest o1)
        (started (moment + by) badge o2) (rest o2)
        (ap (λ origins. origins ++ (moment + by) ∷ []) e ∙ sym (map-append (λ origin. origin + by) o1.unanswered (moment ∷ []))) e
    unanswered-move moment P (Give thread places badge) own e = e
    unanswered-move moment P (Send thread places badge note maker made) own e = e
    unanswered-move moment P (Land note maker made) own e = e
    unanswered-move moment P (Hold note) own e = e
    unanswered-move moment P (Wake thread taking) own e = e
    unanswered-move moment P (Got thread note taking) own e = e
    unanswered-move moment P (End thread word) own e =
        ap₂ (λ answered origins. filter (λ origin. not (is_one_of answered origin)) origins) (answers-later thread word own) e
        ∙ left-later by (answers chain thread word o1) o1.unanswered

    module _ (held1 : length o1.held ≡ length system.notes) (held2 : length o2.held ≡ length system.notes)
        (carried1 : length o1.carried ≡ length system.threads) (carried2 : length o2.carried ≡ length system.threads) where
      -- a list of sets after a change at one place
      held-after : (note : ℕ) → IsNote note → (x y : List Mark) → y ≡ later_set by x → (n : ℕ) → n < length system.notes
          → group (note_part system n).core ≡ true → get_or (set o2.held note y) n [] ≡ later_set by (get_or (set o1.held note x) n [])
      held-after note own x y e n known ours =
          set-later (later_set by) [] o1.held o2.held note x y (subst (λ k. note < k) (sym held1) own.0) (subst (λ k. note < k) (sym held2) own.0) e n
          (h.held n known ours)

      carried-after : (thread : ℕ) → IsThread thread → (x y : List Mark) → y ≡ later_set by x → (n : ℕ) → n < length system.threads
          → group (core_of system (thread_part system n)) ≡ true
          → get_or (set o2.carried thread y) n [] ≡ later_set by (get_or (set o1.carried thread x) n [])
      carried-after thread own x y e n known ours =
          set-later (later_set by) [] o1.carried o2.carried thread x y (subst (λ k. thread < k) (sym carried1) own.0)
          (subst (λ k. thread < k) (sym carried2) own.0) e n (h.carried n known ours)

      joined : (thread : ℕ) → IsThread thread → (x y : List Mark) → y ≡ later_set by x
          → join y (get_or o2.carried thread []) ≡ later_set by (join x (get_or o1.carried thread []))
      joined thread own x y e = ap₂ join e (carried-is thread own) ∙ join-later by x (get_or o1.carried thread [])

      holds-after : (note : ℕ) → IsNote note → o2.posted ≡ later_set by o1.posted → AfterRow system group by (holds note o1) (holds note o2)
      holds-after note own e =
          record {
            later =
                record {
                  held =
                      held-after note own (join o1.posted (get_or o1.held note [])) (join o2.posted (get_or o2.held note []))
                      (ap₂ join e (held-is note own) ∙ join-later by o1.posted (get_or o1.held note []));
                  carried = h.carried;
                  under_way = h.under_way;
                };
            posted = refl;
            answered = refl;
          }

      takes-after : (thread : ℕ) → IsThread thread → (x y : List Mark) → y ≡ later_set by x
          → AfterRow system group by (takes thread x o1) (takes thread y o2)
      takes-after thread own x y e =
          record {
            later =
                record {
                  held = h.held;
                  carried =
                      carried-after thread own (join x (get_or o1.carried thread [])) (join y (get_or o2.carried thread [])) (joined thread own x y e);
                  under_way = h.under_way;
                };
            posted = refl;
            answered = refl;
          }

      gets-after : (thread note : ℕ) (taking : Taking) → IsThread thread → IsNote note
          → AfterRow system group by (gets thread note taking o1) (gets thread note taking o2)
      gets-after thread note taking own ours =
          let x = taken taking (get_or o1.held note []) in
          let y = taken taking (get_or o2.held note []) in
          let e : y ≡ later_set by x = ap (taken taking) (held-is note ours) ∙ taken-later by taking (get_or o1.held note []) in
          record {
            later =
                record {
                  held = held-after note ours [] [] refl;
                  carried =
                      carried-after thread own (join x (get_or o1.carried thread [])) (join y (get_or o2.carried thread [])) (joined thread own x y e);
                  under_way = h.under_way;
                };
            posted = refl;
            answered = refl;
          }

      -- sets without what was answered
      sets-without : (a b : List ℕ) → b ≡ later_origins by a → (before after : List (List Mark)) (n : ℕ)
          → get_or after n [] ≡ later_set by (get_or before n [])
          → get_or (map (without b) after) n [] ≡ later_set by (get_or (map (without a) before) n [])
      sets-without a b e before after n same =
          get-made (without b) [] [] refl after n ∙ ap₂ without e same ∙ without-later by a (get_or before n [])
          ∙ ap (later_set by) (sym (get-made (without a) [] [] refl before n))

      ends-after : (thread : ℕ) → IsThread thread → (a b : List ℕ) → b ≡ later_origins by a
          → AfterRow system group by (ends thread a o1) (ends thread b o2)
      ends-after thread own a b e =
          record {
            later =
                record {
                  held = λ n known ours. sets-without a b e o1.held o2.held n (h.held n known ours);
                  carried =
                      λ n known ours.
                      sets-without a b e (set o1.carried thread []) (set o2.carried thread []) n (carried-after thread own [] [] refl n known ours);
                  under_way =
                      stay-later (λ one. not (is_one_of b one.mark.origin)) (λ one. not (is_one_of a one.mark.origin))
                      (λ one. ap (λ origins. not (is_one_of origins (one.mark.origin + by))) e ∙ none-of-later by a one.mark.origin);
                };
            posted = refl;
            answered = e;
          }

      after-move : (moment : ℕ) (move : Move) → IsOurs (o2.posted ≡ later_set by o1.posted) move
          → AfterRow system group by (moved chain moment move o1) (moved chain (moment + by) (later_move by move) o2)
      after-move moment Nothing own = rest-after
      after-move moment (Start source badge) own =
          both-chosen (AfterRow system group by) (source == chain.source) (started moment badge o1) (rest o1) (started (moment + by) badge o2) (rest o2)
          (start-after moment badge) rest-after
      after-move moment (Give thread places badge) own =
          posts-after (given places badge (get_or o1.carried thread [])) (given places badge (get_or o2.carried thread []))
          (ap (given places badge) (carried-is thread own) ∙ given-later by places badge (get_or o1.carried thread []))
      after-move moment (Send thread places badge note maker made) own =
          sets-after note maker made (given places badge (get_or o1.carried thread [])) (given places badge (get_or o2.carried thread []))
          (ap (given places badge) (carried-is thread own) ∙ given-later by places badge (get_or o1.carried thread []))
      after-move moment (Land note maker made) own = lands-after note maker made own.0 own.1
      after-move moment (Hold note) own = holds-after note own.0 own.1
      after-move moment (Wake thread taking) own =
          takes-after thread own.0 (taken taking o1.posted) (taken taking o2.posted) (ap (taken taking) own.1 ∙ taken-later by taking o1.posted)
      after-move moment (Got thread note taking) own = gets-after thread note taking own.0 own.1
      after-move moment (End thread word) own =
          ends-after thread own (answers chain thread word o1) (answers chain thread word o2) (answers-later thread word own)

-- a row of a core of the group
module _ (system : System) (group : ℕ → Bool) (shift : Shift) (gone1 gone2 : List Gone) (core : ℕ) (ours : group core ≡ true)
    (steps : StepsAreSame system group gone1 gone2) where
  own-thread : (thread : ℕ) → IsOwnThread system core thread → IsThread system group thread
  own-thread thread own = (own.known, ap group own.home ∙ ours)

  own-note : (note : ℕ) → IsOwnNote system core note → IsNote system group note
  own-note note own = (own.known, ap group own.home ∙ ours)

  same-step : (thread : ℕ) → IsOwnThread system core thread → gone_of gone2 thread ≡ gone_of gone1 thread
  same-step thread own = steps thread own.known (ap group own.home ∙ ours)

  module _ (moment : ℕ) where
    abbrev at_first : What → Row
    at_first what = record { moment = moment; core = core; what = what }

    abbrev at_later : What → Row
    at_later what = record { moment = moment + shift.by; core = core; what = later_what shift what }

    gives-later : (what : What) (thread note badge : ℕ) (step : Step)
        → gives system (at_later what) thread note badge step ≡ later_move shift.by (gives system (at_first what) thread note badge step)
    gives-later what thread note badge step =
        chosen-later (is_server system note) ((note_part system note).core == core) shift.by (Give thread (reach step.handler) badge)
        (Send thread (reach step.handler) badge note core moment)

    taking-later : (thread : ℕ) → IsOwnThread system core thread
        → taking (thread_part system thread) (step_of (thread_part system thread) (gone_of gone2 thread)) (gone_of gone2 thread)
        ≡ taking (thread_part system thread) (step_of (thread_part system thread) (gone_of gone1 thread)) (gone_of gone1 thread)
    taking-later thread own =
        ap (λ gone. taking (thread_part system thread) (step_of (thread_part system thread) gone) gone) (same-step thread own)

    made-later : (delay : ℕ) → delay ≤ moment → (moment + shift.by) - delay ≡ (moment - delay) + shift.by
    made-later delay l = omega (arith, l)

    row-moves : ((maker home : ℕ) → delay_between system maker home ≤ moment) → (what : What) → IsOfOwn system core what
        → moves system gone2 (at_later what) ≡ later_move shift.by (moves system gone1 (at_first what))
    row-moves delays (row.Signal thread note badge) own =
        ap (λ gone. gives system (at_later (row.Signal thread note badge)) thread note badge (step_of (thread_part system thread) gone))
        (same-step thread own)
        ∙ gives-later (row.Signal thread note badge) thread note badge (step_of (thread_part system thread) (gone_of gone1 thread))
    row-moves delays (row.Arrive note badge maker) own = ap (Land note maker) (made-later (delay_between system maker core) (delays maker core))
    row-moves delays (row.Wake thread note word until) own = ap (Wake thread) (taking-later thread own.0)
    row-moves delays (row.Got thread note word) own = ap (Got thread note) (taking-later thread own.0)
    row-moves delays (row.Round thread number response) own = ap (λ (gone : Gone). End thread gone.word) (same-step thread own)
    row-moves delays (row.Hold note word) own = refl
    row-moves delays (row.Interrupt source note badge) own = refl
    row-moves delays (row.Stop thread why charged until) own = refl
    row-moves delays (row.Release thread) own = refl
    row-moves delays (row.Run thread) own = refl
    row-moves delays (row.Order context) own = refl

    row-ours : (P : Type 0) (what : What) → IsOfOwn system core what → is_from group what ≡ true → (takes_posted what ≡ true → P)
        → IsOurs system group P (moves system gone1 (at_first what))
    row-ours P (row.Signal thread note badge) own from posted =
        let step = step_of (thread_part system thread) (gone_of gone1 thread) in
        let give = Give thread (reach step.handler) badge in
        let send = Send thread (reach step.handler) badge note core moment in
        if-each (IsOurs system group P) (is_server system note) Nothing (if (note_part system note).core == core then give else send) tt
        (if-each (IsOurs system group P) ((note_part system note).core == core) give send (own-thread thread own) (own-thread thread own))
    row-ours P (row.Arrive note badge maker) own from posted = (own-note note own, from)
    row-ours P (row.Wake thread note word until) own from posted = (own-thread thread own.0, posted refl)
    row-ours P (row.Got thread note word) own from posted = (own-thread thread own.0, own-note note own.1)
    row-ours P (row.Round thread number response) own from posted = own-thread thread own
    row-ours P (row.Hold note word) own from posted = (own-note note own, posted refl)
    row-ours P (row.Interrupt source note badge) own from posted = tt
    row-ours P (row.Stop thread why charged until) own from posted = tt
    row-ours P (row.Release thread) own from posted = tt
    row-ours P (row.Run thread) own from posted = tt
    row-ours P (row.Order context) own from posted = tt

-- the row `what` of core `core` at `moment`, in both runs
pub moved-later : (system : System) (chain : ChainPart) (group : ℕ → Bool) (shift : Shift) (gone1 gone2 : List Gone) (o1 o2 : Origins)
    (core moment : ℕ) (what : What) → group core ≡ true → IsOfOwn system core what → is_from group what ≡ true
    → ((maker home : ℕ) → delay_between system maker home ≤ moment)
    → length o1.held ≡ length system.notes → length o2.held ≡ length system.notes
    → length o1.carried ≡ length system.threads → length o2.carried ≡ length system.threads
    → StepsAreSame system group gone1 gone2 → AreLater system group shift.by o1 o2
    → (takes_posted what ≡ true → o2.posted ≡ later_set shift.by o1.posted)
    → AfterRow system group shift.by
    (moved chain moment (moves system gone1 (record { moment = moment; core = core; what = what })) o1)
    (moved chain (moment + shift.by) (moves system gone2 (record { moment = moment + shift.by; core = core; what = later_what shift what })) o2)
moved-later system chain group shift gone1 gone2 o1 o2 core moment what ours own from delays held1 held2 carried1 carried2 steps h posted =
    let move = moves system gone1 (record { moment = moment; core = core; what = what }) in
    let after : AfterRow system group shift.by (moved chain moment move o1) (moved chain (moment + shift.by) (later_move shift.by move) o2) =
    after-move system group chain shift.by o1 o2 h held1 held2 carried1 carried2 moment move
    (row-ours system group shift gone1 gone2 core ours steps moment (o2.posted ≡ later_set shift.by o1.posted) what own from posted)
    in
    subst (λ m. AfterRow system group shift.by (moved chain moment move o1) (moved chain (moment + shift.by) m o2))
    (sym (row-moves system group shift gone1 gone2 core ours steps moment delays what own)) after

-- then the interrupts without an answer stay later
pub unanswered-later : (system : System) (chain : ChainPart) (group : ℕ → Bool) (shift : Shift) (gone1 gone2 : List Gone) (o1 o2 : Origins)
    (core moment : ℕ) (what : What) → group core ≡ true → IsOfOwn system core what → is_from group what ≡ true
    → ((maker home : ℕ) → delay_between system maker home ≤ moment)
    → StepsAreSame system group gone1 gone2 → AreLater system group shift.by o1 o2
    → o2.unanswered ≡ later_origins shift.by o1.unanswered
    → (moved chain (moment + shift.by) (moves system gone2 (record { moment = moment + shift.by; core = core; what = later_what shift what })) o2).unanswered
    ≡ later_origins shift.by (moved chain moment (moves system gone1 (record { moment = moment; core = core; what = what })) o1).unanswered
unanswered-later system chain group shift gone1 gone2 o1 o2 core moment what ours own from delays steps h same =
    let move = moves system gone1 (record { moment = moment; core = core; what = what }) in
    let after : (moved chain (moment + shift.by) (later_move shift.by move) o2).unanswered ≡ later_origins shift.by (moved chain moment move o1).unanswered =
    unanswered-move system group chain shift.by o1 o2 h moment (Unit {0}) move
    (row-ours system group shift gone1 gone2 core ours steps moment (Unit {0}) what own from (λ e. tt)) same
    in
    subst (λ m. (moved chain (moment + shift.by) m o2).unanswered ≡ later_origins shift.by (moved chain moment move o1).unanswered)
    (sym (row-moves system group shift gone1 gone2 core ours steps moment delays what own)) after

-- each thread of the group is as far as before after the row, too
pub goes-same : (system : System) (group : ℕ → Bool) (shift : Shift) (gone1 gone2 : List Gone) (core : ℕ) (what : What) → group core ≡ true
    → IsOfOwn system core what → length gone1 ≡ length system.threads → length gone2 ≡ length system.threads
    → StepsAreSame system group gone1 gone2 → StepsAreSame system group (all_go system what gone1) (all_go system (later_what shift what) gone2)
goes-same system group shift gone1 gone2 core what ours own long1 long2 steps = by what own
  where
    one : (thread : ℕ) (goes : Gone → Gone) → IsOwnThread system core thread
        → StepsAreSame system group (set gone1 thread (goes (gone_of gone1 thread))) (set gone2 thread (goes (gone_of gone2 thread)))
    one thread goes home n known inside =
        set-later (λ gone. gone) fresh gone1 gone2 thread (goes (gone_of gone1 thread)) (goes (gone_of gone2 thread))
        (subst (λ k. thread < k) (sym long1) home.known) (subst (λ k. thread < k) (sym long2) home.known)
        (ap goes (same-step system group shift gone1 gone2 core ours steps thread home)) n (steps n known inside)

    by : (what : What) → IsOfOwn system core what → StepsAreSame system group (all_go system what gone1) (all_go system (later_what shift what) gone2)
    by (row.Signal thread note badge) home = one thread (goes_by (thread_part system thread) (row.Signal thread note badge)) home
    by (row.Wake thread note word until) home = one thread (goes_by (thread_part system thread) (row.Wake thread note word until)) home.0
    by (row.Got thread note word) home = one thread (goes_by (thread_part system thread) (row.Got thread note word)) home.0
    by (row.Round thread number response) home = one thread (goes_by (thread_part system thread) (row.Round thread number response)) home
    by (row.Arrive note badge maker) home = steps
    by (row.Hold note word) home = steps
    by (row.Interrupt source note badge) home = steps
    by (row.Stop thread why charged until) home = steps
    by (row.Release thread) home = steps
    by (row.Run thread) home = steps
    by (row.Order context) home = steps
