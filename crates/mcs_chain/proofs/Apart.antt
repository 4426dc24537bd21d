-- A row that moves no origin of a chain leaves what is kept of it, if the row before it posts and answers nothing.
use Rattle.std.proofs.Common.{◌≡◌, ◌∙◌, ℕ, ◌+◌, ◌++◌, ◌==◌, filter, true, false, not, List, [], ◌∷◌, map, get_or, set, append-nil, refl, ap, ap₂, sym, arith}
use Rattle.std.specs.Prelude.{Bool, ◌&&◌, if◌then◌else◌}
use Rattle.std.proofs.lemmas.List.{set-get_or}
use Rattle.mcs_ticks.specs.Capped.{capped}
use Rattle.mcs_ticks.specs.declared.row.Row.{Row}
use Rattle.mcs_system.specs.declared.part.ChainPart.{ChainPart}
use Rattle.mcs_system.specs.System.{System}
use Rattle.mcs_origins.specs.declared.mark.Mark.{Mark}
use Rattle.mcs_chain.specs.declared.sent.Sent.{Sent}
use Rattle.mcs_chain.specs.declared.moves.Move.{Move}
use Rattle.mcs_chain.specs.declared.moves.Move.TheVariants.{Nothing, Start, Give, Send, Land, Hold, Wake, Got, End}
use Rattle.mcs_origins.specs.declared.taking.Taking.{Taking}
use Rattle.mcs_origins.specs.declared.taking.Taking.TheVariants.{First, Later}
use Rattle.mcs_chain.specs.declared.one.Late.{Late}
use Rattle.mcs_chain.specs.Answers.{gone_after, origins, slow_of}
use Rattle.mcs_chain.specs.Moves.{moves, reach}
use Rattle.mcs_origins.specs.Sets.{at_places, given, taken}
use Rattle.mcs_chain.specs.Origins.{Origins, answers, is_answer, is_sent, moved, rest, sets_out, started}
use Rattle.mcs_chain.specs.Watch.{One, judged_at, judged_many, judged_sum, late_at, lately, one_if, one_of, slow_many, slow_sum}
use Rattle.mcs_chain.specs.stored.Still.{are_apart, is_none, is_still}
use Rattle.mcs_chain.proofs.Nothing.{joins-none, origins-stay, sent-stay, sets-stay}

pub none-is : {A : Type 0} (xs : List A) → is_none xs ≡ true → xs ≡ []
none-is [] e = refl
none-is (x ∷ xs) e = absurd (cc)

pub first-of : (a b : Bool) → (a && b) ≡ true → a ≡ true
first-of true b e = refl
first-of false b e = e

pub second-of : (a b : Bool) → (a && b) ≡ true → b ≡ true
second-of true b e = e
second-of false b e = absurd (cc)

-- an effect moves no origin
rest-is : (o : Origins) → o.posted ≡ [] → o.answered ≡ [] → rest o ≡ o
rest-is o posted answered = ap₂ (λ p a. record o { posted = p; answered = a }) (sym posted) (sym answered)

not-then : {A : Type 0} (b : Bool) (x y : A) → not b ≡ true → (if b then x else y) ≡ y
not-then true x y e = absurd (cc)
not-then false x y e = refl

taken-none : (taking : Taking) (marks : List Mark) → marks ≡ [] → taken taking marks ≡ []
taken-none (First bits) marks e = ap (taken (First bits)) e
taken-none (Later places) marks e = ap (taken (Later places)) e

none-either : (b : Bool) (xs : List ℕ) → xs ≡ [] → (if b then xs else []) ≡ []
none-either true xs e = e
none-either false xs e = refl

set-none : (sets : List (List Mark)) (i : ℕ) → get_or sets i [] ≡ [] → set sets i [] ≡ sets
set-none sets i e = ap (λ marks. set sets i marks) (sym e) ∙ set-get_or sets i []

abbrev parts : List (List Mark) → List (List Mark) → List Sent → List ℕ → List ℕ → Origins
parts h c u n a = record { held = h; carried = c; under_way = u; posted = []; unanswered = n; answered = a }

same-parts : (h h' c c' : List (List Mark)) (u u' : List Sent) (n n' a a' : List ℕ) → h ≡ h' → c ≡ c' → u ≡ u' → n ≡ n' → a ≡ a'
    → parts h c u n a ≡ parts h' c' u' n' a'
same-parts h h' c c' u u' n n' a a' eh ec eu en ea = rw (eh, ec, eu, en, ea) refl

pub apart-stays : (chain : ChainPart) (moment : ℕ) (move : Move) (o : Origins) → are_apart chain move o ≡ true → o.posted ≡ [] → o.answered ≡ []
    → moved chain moment move o ≡ o
apart-stays chain moment Nothing o e p a = rest-is o p a
apart-stays chain moment (Start source badge) o e p a =
    not-then (source == chain.source) (started moment badge o) (rest o) e ∙ rest-is o p a
apart-stays chain moment (Give thread places badge) o e p a =
    ap (λ marks. record (rest o) { posted = given places badge marks }) (none-is (get_or o.carried thread []) e) ∙ rest-is o p a
apart-stays chain moment (Send thread places badge note maker made) o e p a =
    ap (λ marks. sets_out note maker made (given places badge marks) o) (none-is (get_or o.carried thread []) e)
    ∙ ap (λ sent. record (rest o) { under_way = sent }) (append-nil o.under_way) ∙ rest-is o p a
apart-stays chain moment (Land note maker made) o e p a =
    let none = none-is o.under_way e in
    ap (λ all. record (rest o) { posted = map (λ (sent : Sent). sent.mark) (filter (is_sent note maker made) all); under_way = filter (λ sent. not (is_sent note maker made sent)) all }) none
    ∙ ap (λ sent. record (rest o) { under_way = sent }) (sym none) ∙ rest-is o p a
apart-stays chain moment (Hold note) o e p a =
    ap (λ sets. record (rest o) { held = sets }) (sym (joins-none o.posted o.held note p)) ∙ rest-is o p a
apart-stays chain moment (Wake thread taking) o e p a =
    ap (λ sets. record (rest o) { carried = sets }) (sym (joins-none (taken taking o.posted) o.carried thread (taken-none taking o.posted p))) ∙ rest-is o p a
apart-stays chain moment (Got thread note taking) o e p a =
    let marks = get_or o.held note [] in
    let none = none-is marks e in
    ap₂ (λ held carried. record (rest o) { held = held; carried = carried }) (set-none o.held note none)
    (sym (joins-none (taken taking marks) o.carried thread (taken-none taking marks none)))
    ∙ rest-is o p a
apart-stays chain moment (End thread word) o e p a =
    let none = none-is (get_or o.carried thread []) e in
    let all = answers chain thread word o in
    let answered : all ≡ [] =
    none-either (thread == chain.thread && is_answer chain.badges word) _ (ap (λ marks. map (λ (mark : Mark). mark.origin) (at_places (reach chain.badges) marks)) none)
    in
    same-parts _ _ _ _ _ _ _ _ _ _ (sym (sets-stay all o.held answered))
    (sym (sets-stay all (set o.carried thread []) answered) ∙ set-none o.carried thread none)
    (sym (sent-stay all o.under_way answered)) (sym (origins-stay all o.unanswered answered)) answered
    ∙ rest-is o p a

no-judged : (deadline n : ℕ) → capped (judged_at deadline [] + n) ≡ capped n
no-judged deadline n = grind arith

no-slow : (n : ℕ) → capped (0 + n) ≡ capped n
no-slow n = omega arith

abbrev state : Origins → List Late → ℕ → ℕ → One
state o l s j = record { origins = o; late = l; slow = s; judged = j }

-- states whose parts are the same are the same
same : (o : Origins) (l l' : List Late) (s s' j j' : ℕ) → l ≡ l' → s ≡ s' → j ≡ j' → state o l s j ≡ state o l' s' j'
same o l l' s s' j j' el es ej = rw (el, es, ej) refl

module _ (system : System) (past : List Row) (r : Row) (chain : ChainPart) where
  -- a row that answers nothing, if no slow answer has the moment of the row before it
  pub none-answered : lately system chain past ≡ [] → (origins system chain (r ∷ past)).answered ≡ []
      → record (one_of system chain past) { origins = origins system chain (r ∷ past) } ≡ one_of system chain (r ∷ past)
  none-answered late none =
      let late_are : lately system chain (r ∷ past) ≡ lately system chain past =
      ap₂ (λ (l : List Late) a. filter (λ (one : Late). one.moment == r.moment) l ++ late_at r.moment r.core (slow_of chain.deadline r.moment a)) late none ∙ sym late in
      let slow_is : slow_many system chain (r ∷ past) ≡ slow_many system chain past =
      ap (λ a. capped (one_if (slow_of chain.deadline r.moment a) + slow_sum system chain past)) none ∙ no-slow (slow_sum system chain past) in
      let judged_is : judged_many system chain (r ∷ past) ≡ judged_many system chain past =
      ap (λ a. capped (judged_at chain.deadline a + judged_sum system chain past)) none ∙ no-judged chain.deadline (judged_sum system chain past) in
      same _ _ _ _ _ _ _ (sym late_are) (sym slow_is) (sym judged_is)

  -- a row that moves no origin
  pub one-stays : (move : Move) → move ≡ moves system (gone_after system past) r → is_still (one_of system chain past) ≡ true
      → are_apart chain move (origins system chain past) ≡ true → one_of system chain past ≡ one_of system chain (r ∷ past)
  one-stays move move_is still apart =
      let o = origins system chain past in
      let both = first-of _ _ still in
      let posted : o.posted ≡ [] = none-is o.posted (first-of _ _ both) in
      let answered : o.answered ≡ [] = none-is o.answered (second-of _ _ both) in
      let late : lately system chain past ≡ [] = none-is (lately system chain past) (second-of _ _ still) in
      let origins_are : origins system chain (r ∷ past) ≡ o =
      ap (λ m. moved chain r.moment m o) (sym move_is) ∙ apart-stays chain r.moment move o apart posted answered in
      ap (λ x. record (one_of system chain past) { origins = x }) (sym origins_are)
      ∙ none-answered late (ap (λ (x : Origins). x.answered) origins_are ∙ answered)
