-- A row of a core outside a group changes none of the group's steps and none of its origins, and
-- answers nothing of a chain that ends in the group.
use Rattle.std.proofs.Common.{◌≡◌, ◌∙◌, ℕ, ◌-◌, Bool, true, false, cond, not, ◌==◌, ◌&&◌, List, [], ◌∷◌, ◌++◌, get_or, set, map, filter, append-nil, refl, sym, ap, arith}
use Rattle.std.specs.Prelude.{if◌then◌else◌}
use Rattle.std.proofs.lemmas.Bool.Decides.{nat_tests}
use Rattle.std.proofs.lemmas.List.{get_or-set_other}
use Rattle.std.proofs.lemmas.List.Elements.{filter-append}
use Rattle.mcs_ticks.specs.declared.row.What.{What}
use Rattle.mcs_ticks.specs.declared.row.What.TheVariants as row
use Rattle.mcs_system.specs.declared.part.ChainPart.{ChainPart}
use Rattle.mcs_system.specs.System.{System, thread_part, note_part, source_part, core_of, is_server, delay_between}
use Rattle.mcs_origins.specs.declared.mark.Mark.{Mark}
use Rattle.mcs_chain.specs.declared.sent.Sent.{Sent}
use Rattle.mcs_chain.specs.declared.moves.Move.{Move}
use Rattle.mcs_chain.specs.declared.moves.Move.TheVariants.{Nothing, Give, Send}
use Rattle.mcs_chain.specs.declared.step.Gone.{Gone}
use Rattle.mcs_chain.specs.declared.step.Step.{Step}
use Rattle.mcs_chain.specs.Steps.{all_go, fresh, goes_by, gone_of, step_of}
use Rattle.mcs_chain.specs.Moves.{moves, reach, taking}
use Rattle.mcs_origins.specs.Sets.{at_places, given, join, taken}
use Rattle.mcs_chain.specs.Origins.{Origins, answers, ends, is_answer, is_sent, moved, rest, sent, sets_out, started}
use Rattle.mcs_chain.proofs.Nothing.{sets-stay, sent-stay, origins-stay}
use Rattle.mcs_ever.specs.laws.Home.{IsOfOwn, IsOwnThread}
use Rattle.mcs_ever_found.proofs.Alike.{at}
use Rattle.mcs_ever_chain.specs.Later.{AreLater, is_within, later_sent, later_set}

pub equal : (a b : ℕ) → (a == b) ≡ true → a ≡ b
equal a b e = grind (arith, nat_tests)

pub contrary : true ≡ false → ⊥
contrary e = cc

and-false : (a b : Bool) → b ≡ false → (a && b) ≡ false
and-false true b e = e
and-false false b e = refl

first-of : (a b : Bool) → (a && b) ≡ true → a ≡ true
first-of true b e = refl
first-of false b e = absurd (cc)

if-false : {A : Type 0} (b : Bool) (x y : A) → b ≡ false → (if b then x else y) ≡ y
if-false true x y e = absurd (contrary e)
if-false false x y e = refl

-- the notification of an interrupt is that of its source
abbrev pub IsOfSource : System → What → Type 0
IsOfSource system (row.Interrupt source note badge) = note ≡ (source_part system source).note
IsOfSource system _ = Unit {0}

module _ (system : System) (group : ℕ → Bool) where
  abbrev home : ℕ → ℕ
  home thread = core_of system (thread_part system thread)

  abbrev place : ℕ → ℕ
  place note = (note_part system note).core

  abbrev within : List Sent → List Sent
  within sent = filter (is_within system group) sent

  -- origins that are the same on the group
  pub record AreSame (before after : Origins) : Type 0 where
    pub held : (note : ℕ) → group (note_part system note).core ≡ true → get_or after.held note [] ≡ get_or before.held note []
    pub carried : (thread : ℕ) → group (core_of system (thread_part system thread)) ≡ true →
        get_or after.carried thread [] ≡ get_or before.carried thread []
    pub under_way : filter (is_within system group) after.under_way ≡ filter (is_within system group) before.under_way

  pub later-same : (by : ℕ) (a b a' b' : Origins) → AreSame a a' → AreSame b b' → AreLater system group by a b → AreLater system group by a' b'
  later-same by a b a' b' one two later =
      record {
        held = λ note known own. two.held note own ∙ later.held note known own ∙ ap (later_set by) (sym (one.held note own));
        carried = λ thread known own. two.carried thread own ∙ later.carried thread known own ∙ ap (later_set by) (sym (one.carried thread own));
        under_way = two.under_way ∙ later.under_way ∙ ap (map (later_sent by)) (sym one.under_way);
      }

  pub same-refl : (o : Origins) → AreSame o o
  same-refl o = record { held = λ note own. refl; carried = λ thread own. refl; under_way = refl }

  pub same-then : (a b c : Origins) → AreSame a b → AreSame b c → AreSame a c
  same-then a b c one two =
      record {
        held = λ note own. two.held note own ∙ one.held note own;
        carried = λ thread own. two.carried thread own ∙ one.carried thread own;
        under_way = two.under_way ∙ one.under_way;
      }

  module _ (c : ℕ) (away : group c ≡ false) where
    -- what is of the group is not at home on the core
    elsewhere : (a b : ℕ) → group a ≡ true → b ≡ c → a ≡ b → ⊥
    elsewhere a b own home e = contrary (sym own ∙ ap group (e ∙ home) ∙ away)

    -- its steps
    pub steps-stay : (what : What) (gone : List Gone) → IsOfOwn system c what → (thread : ℕ) → group (core_of system (thread_part system thread)) ≡ true →
        gone_of (all_go system what gone) thread ≡ gone_of gone thread
    steps-stay what gone o thread own = by what o
      where
        one : (x : ℕ) (to : Gone) → IsOwnThread system c x → gone_of (set gone x to) thread ≡ gone_of gone thread
        one x to o = get_or-set_other gone x thread to fresh (λ e. elsewhere (home thread) (home x) own o.home (ap home e))

        by : (what : What) → IsOfOwn system c what → gone_of (all_go system what gone) thread ≡ gone_of gone thread
        by (row.Signal x note badge) o = one x (goes_by (thread_part system x) (row.Signal x note badge) (gone_of gone x)) o
        by (row.Wake x note word until) o = one x (goes_by (thread_part system x) (row.Wake x note word until) (gone_of gone x)) o.0
        by (row.Got x note word) o = one x (goes_by (thread_part system x) (row.Got x note word) (gone_of gone x)) o.0
        by (row.Round x number response) o = one x (goes_by (thread_part system x) (row.Round x number response) (gone_of gone x)) o
        by (row.Stop x why charged until) o = refl
        by (row.Release x) o = refl
        by (row.Run x) o = refl
        by (row.Arrive note badge maker) o = refl
        by (row.Hold note word) o = refl
        by (row.Order context) o = refl
        by (row.Interrupt source note badge) o = refl

    -- a signal of the core is not within the group
    none-within : (note made : ℕ) (marks : List Mark) → within (map (sent note c made) marks) ≡ []
    none-within note made [] = refl
    none-within note made (mark ∷ marks) =
        ap (λ b. cond b (sent note c made mark ∷ within (map (sent note c made) marks)) (within (map (sent note c made) marks)))
        (ap (λ b. b && group (place note)) away)
        ∙ none-within note made marks

    -- nor is one for a notification of it
    none-lands : (note maker made : ℕ) → place note ≡ c → (all : List Sent) →
        within (filter (λ sent. not (is_sent note maker made sent)) all) ≡ within all
    none-lands note maker made at_home [] = refl
    none-lands note maker made at_home (s ∷ all) = by (is_sent note maker made s) refl (none-lands note maker made at_home all)
      where
        left : List Sent
        left = filter (λ sent. not (is_sent note maker made sent)) all

        unseen : is_sent note maker made s ≡ true → is_within system group s ≡ false
        unseen e =
            let same : s.note ≡ note = equal s.note note (first-of (s.note == note) (s.maker == maker && s.made == made) e) in
            and-false (group s.maker) (group (place s.note)) (ap (λ n. group (place n)) same ∙ ap group at_home ∙ away)

        by : (b : Bool) → is_sent note maker made s ≡ b → within left ≡ within all
            → within (cond (not b) (s ∷ left) left) ≡ cond (is_within system group s) (s ∷ within all) (within all)
        by true e more = more ∙ sym (ap (λ b. cond b (s ∷ within all) (within all)) (unseen e))
        by false e more = ap (λ others. cond (is_within system group s) (s ∷ others) others) more

    module _ (chain : ChainPart) (ends_here : group (core_of system (thread_part system chain.thread)) ≡ true) (m : ℕ) (gone : List Gone) (o : Origins) where
      abbrev after : What → Origins
      after what = moved chain m (moves system gone (at m c what)) o

      -- a round that ends on the core answers nothing
      none-answered : (thread word : ℕ) → home thread ≡ c → answers chain thread word o ≡ []
      none-answered thread word at_home =
          if-false (thread == chain.thread && is_answer chain.badges word) (map (λ mark. mark.origin) (at_places (reach chain.badges) (get_or o.carried thread []))) []
          (ap (λ b. b && is_answer chain.badges word) (by (thread == chain.thread) refl))
        where
          by : (b : Bool) → (thread == chain.thread) ≡ b → b ≡ false
          by true e = absurd (elsewhere (home chain.thread) (home thread) ends_here at_home (ap home (sym (equal thread chain.thread e))))
          by false e = refl

      -- what is chosen by a test
      either : (P : Origins → Type 0) (b : Bool) (p q : Origins) → P p → P q → P (if b then p else q)
      either P true p q f g = f
      either P false p q f g = g

      moves-either : (P : Origins → Type 0) (b : Bool) (p q : Move) → P (moved chain m p o) → P (moved chain m q o) → P (moved chain m (if b then p else q) o)
      moves-either P true p q f g = f
      moves-either P false p q f g = g

      rested : AreSame o (rest o)
      rested = record { held = λ note own. refl; carried = λ thread own. refl; under_way = refl }

      -- a signal
      signalled : (P : Origins → Type 0) (x note badge : ℕ) → P (rest o)
          → ((step : Step) → P (moved chain m (Give x (reach step.handler) badge) o))
          → ((step : Step) → P (moved chain m (Send x (reach step.handler) badge note c m) o)) → P (after (row.Signal x note badge))
      signalled P x note badge p q r =
          let step = step_of (thread_part system x) (gone_of gone x) in
          let give : Move = Give x (reach step.handler) badge in
          let send : Move = Send x (reach step.handler) badge note c m in
          moves-either P (is_server system note) Nothing (if place note == c then give else send) p
          (moves-either P (place note == c) give send (q step) (r step))

      sets-out : (note : ℕ) (marks : List Mark) → AreSame o (sets_out note c m marks o)
      sets-out note marks =
          record {
            held = λ n own. refl;
            carried = λ thread own. refl;
            under_way =
                filter-append (is_within system group) o.under_way (map (sent note c m) marks)
                ∙ ap (λ more. within o.under_way ++ more) (none-within note m marks) ∙ append-nil (within o.under_way);
          }

      held-elsewhere : (note : ℕ) (marks : List Mark) → place note ≡ c → (n : ℕ) → group (place n) ≡ true → get_or (set o.held note marks) n [] ≡ get_or o.held n []
      held-elsewhere note marks at_home n own = get_or-set_other o.held note n marks [] (λ e. elsewhere (place n) (place note) own at_home (ap place e))

      carried-elsewhere : (thread : ℕ) (marks : List Mark) → home thread ≡ c → (x : ℕ) → group (home x) ≡ true →
          get_or (set o.carried thread marks) x [] ≡ get_or o.carried x []
      carried-elsewhere thread marks at_home x own =
          get_or-set_other o.carried thread x marks [] (λ e. elsewhere (home x) (home thread) own at_home (ap home e))

      ended : (thread word : ℕ) → home thread ≡ c → AreSame o (ends thread (answers chain thread word o) o)
      ended thread word at_home =
          let all = answers chain thread word o in
          let none = none-answered thread word at_home in
          record {
            held = λ n own. ap (λ sets. get_or sets n []) (sym (sets-stay all o.held none));
            carried = λ x own. ap (λ sets. get_or sets x []) (sym (sets-stay all (set o.carried thread []) none)) ∙ carried-elsewhere thread [] at_home x own;
            under_way = ap within (sym (sent-stay all o.under_way none));
          }

      pub origins-stay-same : (what : What) → IsOfOwn system c what → AreSame o (after what)
      origins-stay-same (row.Signal x note badge) own =
          signalled (AreSame o) x note badge rested (λ step. record { held = λ n h. refl; carried = λ y h. refl; under_way = refl })
          (λ step. sets-out note (given (reach step.handler) badge (get_or o.carried x [])))
      origins-stay-same (row.Arrive note badge maker) own =
          record {
            held = λ n h. refl;
            carried = λ x h. refl;
            under_way = none-lands note maker (m - delay_between system maker c) own.home o.under_way;
          }
      origins-stay-same (row.Hold note word) own =
          record {
            held = λ n h. held-elsewhere note (join o.posted (get_or o.held note [])) own.home n h;
            carried = λ x h. refl;
            under_way = refl;
          }
      origins-stay-same (row.Wake x note word until) own =
          let part = thread_part system x in
          let marks = taken (taking part (step_of part (gone_of gone x)) (gone_of gone x)) o.posted in
          record {
            held = λ n h. refl;
            carried = λ y h. carried-elsewhere x (join marks (get_or o.carried x [])) own.0.home y h;
            under_way = refl;
          }
      origins-stay-same (row.Got x note word) own =
          let part = thread_part system x in
          let marks = taken (taking part (step_of part (gone_of gone x)) (gone_of gone x)) (get_or o.held note []) in
          record {
            held = λ n h. held-elsewhere note [] own.1.home n h;
            carried = λ y h. carried-elsewhere x (join marks (get_or o.carried x [])) own.0.home y h;
            under_way = refl;
          }
      origins-stay-same (row.Round x number response) own = ended x (gone_of gone x).word own.home
      origins-stay-same (row.Interrupt source note badge) own =
          either (AreSame o) (source == chain.source) (started m badge o) (rest o) (record { held = λ n h. refl; carried = λ x h. refl; under_way = refl }) rested
      origins-stay-same (row.Stop x why charged until) own = rested
      origins-stay-same (row.Release x) own = rested
      origins-stay-same (row.Run x) own = rested
      origins-stay-same (row.Order context) own = rested

      pub answers-none : (what : What) → IsOfOwn system c what → (after what).answered ≡ []
      answers-none (row.Signal x note badge) own = signalled (λ p. p.answered ≡ []) x note badge refl (λ step. refl) (λ step. refl)
      answers-none (row.Arrive note badge maker) own = refl
      answers-none (row.Hold note word) own = refl
      answers-none (row.Wake x note word until) own = refl
      answers-none (row.Got x note word) own = refl
      answers-none (row.Round x number response) own = none-answered x (gone_of gone x).word own.home
      answers-none (row.Interrupt source note badge) own =
          either (λ p. p.answered ≡ []) (source == chain.source) (started m badge o) (rest o) refl refl
      answers-none (row.Stop x why charged until) own = refl
      answers-none (row.Release x) own = refl
      answers-none (row.Run x) own = refl
      answers-none (row.Order context) own = refl

      -- nor does it add an interrupt of a source of the group
      pub left-stays : (what : What) → IsOfOwn system c what → IsOfSource system what → group (note_part system (source_part system chain.source).note).core ≡ true
          → (after what).unanswered ≡ o.unanswered
      left-stays (row.Signal x note badge) own of here = signalled (λ p. p.unanswered ≡ o.unanswered) x note badge refl (λ step. refl) (λ step. refl)
      left-stays (row.Arrive note badge maker) own of here = refl
      left-stays (row.Hold note word) own of here = refl
      left-stays (row.Wake x note word until) own of here = refl
      left-stays (row.Got x note word) own of here = refl
      left-stays (row.Round x number response) own of here =
          sym (origins-stay (answers chain x (gone_of gone x).word o) o.unanswered (none-answered x (gone_of gone x).word own.home))
      left-stays (row.Interrupt source note badge) own of here =
          ap (λ (p : Origins). p.unanswered) (if-false (source == chain.source) (started m badge o) (rest o) (by (source == chain.source) refl))
        where
          by : (b : Bool) → (source == chain.source) ≡ b → b ≡ false
          by true e =
              absurd
              (elsewhere (place (source_part system chain.source).note) (place note) here own.home
              (ap place (ap (λ s. (source_part system s).note) (sym (equal source chain.source e)) ∙ sym of)))
          by false e = refl
      left-stays (row.Stop x why charged until) own of here = refl
      left-stays (row.Release x) own of here = refl
      left-stays (row.Run x) own of here = refl
      left-stays (row.Order context) own of here = refl
