-- Each answer has a way.
use Rattle.std.proofs.Common.{◌≡◌, ◌∙◌, ℕ, zero, suc, ◌+◌, ◌-◌, ◌⊎◌, inl, inr, Bool, true, false, List, [], ◌∷◌, ◌++◌, length, map, reverse, get_or, Option, Some, None, refl, sym, ap, subst, arith}
use Rattle.std.specs.Prelude.{if◌then◌else◌, ◌==◌, ◌&&◌, filter, slice_get}
use Rattle.std.proofs.lemmas.Bool.{eq-eqb}
use Rattle.std.proofs.lemmas.List.{reverse-append}
use Rattle.mcs_ticks.specs.declared.row.Row.{Row}
use Rattle.mcs_ticks.specs.declared.row.What.{What}
use Rattle.mcs_ticks.specs.declared.row.What.TheVariants as row
use Rattle.mcs_ticks.specs.Capped.{capped}
use Rattle.mcs_system.specs.declared.part.ChainPart.{ChainPart}
use Rattle.mcs_system.specs.System.{System}
use Rattle.mcs_verdict.specs.declared.standing.Stood.{Stood}
use Rattle.mcs_chain.specs.declared.answer.Answer.{Answer}
use Rattle.mcs_origins.specs.declared.mark.Mark.{Mark}
use Rattle.mcs_chain.specs.declared.moves.Move.{Move}
use Rattle.mcs_chain.specs.declared.moves.Move.TheVariants.{Nothing, Start, Give, Send, Land, Hold, Wake, Got, End}
use Rattle.mcs_chain.specs.Answering.{answer_to, answers_to, answers_at}
use Rattle.mcs_chain.specs.Answers.{gone_after, origins}
use Rattle.mcs_chain.specs.Moves.{reach}
use Rattle.mcs_origins.specs.Sets as marks
use Rattle.mcs_chain.specs.Origins as chain_sets
use Rattle.mcs_chain.specs.Steps.{gone_of}
use Rattle.mcs_way.specs.declared.aim.Aim.{Aim}
use Rattle.mcs_way.specs.declared.leg.Carrier.{Carrier}
use Rattle.mcs_way.specs.declared.leg.Carrier.TheVariants as by
use Rattle.mcs_way.specs.declared.leg.Leg.{Leg}
use Rattle.mcs_way.specs.declared.sought.Sought.TheVariants.{There}
use Rattle.mcs_way.specs.Trace.{Trace, ended_legs}
use Rattle.mcs_way.specs.Course.{Course, answers, ends, is_answer, is_origin, kept, moved, started, rest}
use Rattle.mcs_way.specs.Sought.{answers_of, is_of, numbered, sought, sought_by}
use Rattle.mcs_way.specs.Trail.{aim_of, course_of, no_chain, stood_by, way_of}
use Rattle.mcs_way.proofs.Having.{Covers, Covered, get-covered, course-covered}

-- one of a list
abbrev IsIn : {A : Type 0} → A → List A → Type 0
IsIn x [] = ⊥
IsIn x (y ∷ ys) = (x ≡ y) ⊎ IsIn x ys

in-either : {A : Type 0} (x : A) (ys zs : List A) → IsIn x (ys ++ zs) → IsIn x ys ⊎ IsIn x zs
in-either x [] zs h = inr h
in-either x (y ∷ ys) zs (inl e) = inl (inl e)
in-either x (y ∷ ys) zs (inr h) = elim (in-either x ys zs h) [ inl k ↦ inl (inr k) | inr k ↦ inr k ]

in-reverse : {A : Type 0} (x : A) (ys : List A) → IsIn x (reverse ys) → IsIn x ys
in-reverse x [] h = h
in-reverse x (y ∷ ys) h =
    elim (in-either x (reverse ys) (y ∷ []) (subst (IsIn x) (reverse-append (y ∷ []) ys) h))
    [ inl k ↦ inr (in-reverse x ys k) | inr k ↦ elim k [ inl e ↦ inl e | inr nothing ↦ absurd nothing ] ]

in-map : {A B : Type 0} (f : A → B) (y : B) (xs : List A) → IsIn y (map f xs) → (x : A) × IsIn x xs × (y ≡ f x)
in-map f y [] h = absurd h
in-map f y (x ∷ xs) (inl e) = (x, inl refl, e)
in-map f y (x ∷ xs) (inr h) = let more = in-map f y xs h in (more.0, inr more.1, more.2)

in-filter : {A : Type 0} (p : A → Bool) (x : A) (ys : List A) → IsIn x (filter p ys) → IsIn x ys
in-filter p x [] h = h
in-filter p x (y ∷ ys) h = test (p y) h (in-filter p x ys)
  where
    test : (b : Bool) → IsIn x (if b then y ∷ filter p ys else filter p ys) → (IsIn x (filter p ys) → IsIn x ys) → IsIn x (y ∷ ys)
    test true (inl e) more = inl e
    test true (inr k) more = inr (more k)
    test false k more = inr (more k)

in-got : {A : Type 0} (x : A) (xs : List A) (i : ℕ) → slice_get xs i ≡ Some x → IsIn x xs
in-got x [] i e = absurd (cc)
in-got x (y ∷ ys) zero e = inl (cc)
in-got x (y ∷ ys) (suc i) e = inr (in-got x ys i e)

-- an origin of a covered set is where the set is
is-there : (origin other places : ℕ) (spot : Option Trace) (set : List Mark) → Covered origin spot set → other ≡ origin
    → IsIn other (map (λ (mark : Mark). mark.origin) (marks.at_places places set)) → spot ≡ None → ⊥
is-there origin other places spot [] h e k none = k
is-there origin other places spot (mark ∷ set) h e k none =
    test (marks.is_at places mark) k (λ more. is-there origin other places spot set h.1 e more none)
  where
    test : (b : Bool) → IsIn other (map (λ (mark : Mark). mark.origin) (if b then mark ∷ marks.at_places places set else marks.at_places places set))
        → (IsIn other (map (λ (mark : Mark). mark.origin) (marks.at_places places set)) → ⊥) → ⊥
    test true (inl is) others = subst (λ s. Covers s mark) none (h.0 (sym is ∙ e))
    test true (inr more) others = others more
    test false more others = others more

some-legs : (carrier : Carrier) (moment : ℕ) (spot : Option Trace) → (spot ≡ None → ⊥) → ended_legs carrier moment spot ≡ [] → ⊥
some-legs carrier moment None h e = h refl
some-legs carrier moment (Some trace) h e = not-empty trace.legs _ e
  where
    not-empty : (legs : List Leg) (leg : Leg) → legs ++ leg ∷ [] ≡ [] → ⊥
    not-empty [] leg e = absurd (cc)
    not-empty (first ∷ legs) leg e = absurd (cc)

some-kept : (old new : List Leg) → (new ≡ [] → ⊥) → kept old new ≡ [] → ⊥
some-kept [] new h e = h e
some-kept (leg ∷ legs) new h e = absurd (cc)

still-kept : (old new : List Leg) → (old ≡ [] → ⊥) → kept old new ≡ [] → ⊥
still-kept [] new h e = h refl
still-kept (leg ∷ legs) new h e = absurd (cc)

if-way : (b : Bool) (c d : Course) → (c.way ≡ [] → ⊥) → (d.way ≡ [] → ⊥) → (if b then c else d).way ≡ [] → ⊥
if-way true c d h k e = h e
if-way false c d h k e = k e

-- a way that was found stays
way-stays : (aim : Aim) (r : Row) (stood : Stood) (c : Course) (move : Move) → (c.way ≡ [] → ⊥) → (moved aim r stood move c).way ≡ [] → ⊥
way-stays aim r stood c Nothing h e = h e
way-stays aim r stood c (Start source badge) h e = if-way (is_origin aim source r.moment) (started r.moment badge c) (rest c) h h e
way-stays aim r stood c (Give thread places badge) h e = h e
way-stays aim r stood c (Send thread places badge note maker made) h e = h e
way-stays aim r stood c (Land note maker made) h e = h e
way-stays aim r stood c (Hold note) h e = h e
way-stays aim r stood c (Wake thread taking) h e = h e
way-stays aim r stood c (Got thread note taking) h e = h e
way-stays aim r stood c (End thread word) h e =
    if-way (is_answer aim.answer r) (answers thread _ c) (ends thread c) (still-kept c.way _ h) h e

-- the round that a row ends answers an origin of the chain
round-has : (system : System) (chain : ChainPart) (answer : Answer) (past : List Row) (m core n x number response origin : ℕ)
    → (aim_of system answer).source ≡ chain.source
    → answer ≡ answer_to n chain.deadline (record { moment = m; core = core; what = row.Round x number response }) x number origin
    → IsIn origin (origins system chain ((record { moment = m; core = core; what = row.Round x number response }) ∷ past)).answered
    → way_of system answer ((record { moment = m; core = core; what = row.Round x number response }) ∷ past) ≡ [] → ⊥
round-has system chain answer past m core n x number response origin source is inside =
    let r : Row = record { moment = m; core = core; what = row.Round x number response } in
    let aim = aim_of system answer in
    let o = origins system chain past in
    let c = course_of system aim past in
    let word = (gone_of (gone_after system past) x).word in
    let covered = course-covered system chain aim past source in
    let there = get-covered answer.origin c.carried o.carried x covered.carried in
    let from : origin ≡ answer.origin = sym (ap (λ (a : Answer). a.origin) is) in
    let ends_it : is_answer answer r ≡ true =
    ap (λ b. b && (x == answer.thread && number == answer.number)) (eq-eqb m answer.moment (sym (ap (λ (a : Answer). a.moment) is)))
    ∙ ap (λ b. b && number == answer.number) (eq-eqb x answer.thread (sym (ap (λ (a : Answer). a.thread) is)))
    ∙ eq-eqb number answer.number (sym (ap (λ (a : Answer). a.number) is))
    in
    let has : get_or c.carried x None ≡ None → ⊥ =
    inside-of (x == chain.thread && chain_sets.is_answer chain.badges word) origin (reach chain.badges) (get_or c.carried x None) (get_or o.carried x []) answer.origin there from inside
    in
    let stood = stood_by past m (Some x) c in
    subst (λ b. (if b then answers x (ended_legs (by.Thread x stood) m (get_or c.carried x None)) c else ends x c).way ≡ [] → ⊥) (sym ends_it)
    (some-kept c.way (ended_legs (by.Thread x stood) m (get_or c.carried x None)) (some-legs (by.Thread x stood) m (get_or c.carried x None) has))
  where
    inside-of : (b : Bool) (other places : ℕ) (spot : Option Trace) (set : List Mark) (origin : ℕ) → Covered origin spot set → other ≡ origin
        → IsIn other (if b then map (λ (mark : Mark). mark.origin) (marks.at_places places set) else []) → spot ≡ None → ⊥
    inside-of true other places spot set origin h e k = is-there origin other places spot set h e k
    inside-of false other places spot set origin h e k = absurd k

-- the answers of a chain at a row
chain-has : (system : System) (chain : ChainPart) (answer : Answer) (past : List Row) (m core n : ℕ) (what : What)
    → (answer.chain ≡ n → (aim_of system answer).source ≡ chain.source)
    → IsIn answer (answers_to n chain.deadline (record { moment = m; core = core; what = what }) what
    (origins system chain ((record { moment = m; core = core; what = what }) ∷ past)).answered)
    → way_of system answer ((record { moment = m; core = core; what = what }) ∷ past) ≡ [] → ⊥
chain-has system chain answer past m core n (row.Round x number response) source h =
    let r : Row = record { moment = m; core = core; what = row.Round x number response } in
    let found = in-map (answer_to n chain.deadline r x number) answer (reverse (origins system chain (r ∷ past)).answered) h in
    round-has system chain answer past m core n x number response found.0 (source (ap (λ (a : Answer). a.chain) found.2)) found.2
    (in-reverse found.0 (origins system chain (r ∷ past)).answered found.1)
chain-has system chain answer past m core n (row.Release x) source h = absurd h
chain-has system chain answer past m core n (row.Run x) source h = absurd h
chain-has system chain answer past m core n (row.Stop x cause charged until) source h = absurd h
chain-has system chain answer past m core n (row.Signal x note badge) source h = absurd h
chain-has system chain answer past m core n (row.Arrive note badge maker) source h = absurd h
chain-has system chain answer past m core n (row.Wake x note word until) source h = absurd h
chain-has system chain answer past m core n (row.Hold note word) source h = absurd h
chain-has system chain answer past m core n (row.Got x note word) source h = absurd h
chain-has system chain answer past m core n (row.Order context) source h = absurd h
chain-has system chain answer past m core n (row.Interrupt s note badge) source h = absurd h

row-has : (system : System) (answer : Answer) (past : List Row) (r : Row) (n : ℕ) (chains : List ChainPart)
    → ((k : ℕ) → get_or chains k no_chain ≡ get_or system.chains (n + k) no_chain) → IsIn answer (answers_at system past r n chains)
    → way_of system answer (r ∷ past) ≡ [] → ⊥
row-has system answer past r n [] same h = absurd h
row-has system answer past r n (chain ∷ chains) same h =
    elim (in-either answer (answers_to n chain.deadline r r.what (origins system chain (r ∷ past)).answered) (answers_at system past r (suc n) chains) h) [
      | inl own ↦ chain-has system chain answer past r.moment r.core n r.what source own
      | inr others ↦ row-has system answer past r (suc n) chains later others
    ]
  where
    source : answer.chain ≡ n → (aim_of system answer).source ≡ chain.source
    source e =
        let at : answer.chain ≡ n + 0 = omega arith in
        ap (λ (c : ChainPart). c.source) (ap (λ k. get_or system.chains k no_chain) at ∙ sym (same 0))

    later : (k : ℕ) → get_or chains k no_chain ≡ get_or system.chains (suc n + k) no_chain
    later k =
        let at : n + suc k ≡ suc n + k = omega arith in
        same (suc k) ∙ ap (λ k. get_or system.chains k no_chain) at

all-have : (system : System) (chain : ℕ) (answer : Answer) (past : List Row) → IsIn answer (answers_of system chain past)
    → way_of system answer past ≡ [] → ⊥
all-have system chain answer [] h = absurd h
all-have system chain answer (r ∷ past) h =
    elim (in-either answer (answers_of system chain past) (filter (is_of chain) (answers_at system past r 0 system.chains)) h) [
      | inl before ↦ way-stays (aim_of system answer) r _ (course_of system (aim_of system answer) past) _ (all-have system chain answer past before)
      | inr now ↦ row-has system answer past r 0 system.chains
          (λ k. let at : k ≡ 0 + k = omega arith in ap (λ i. get_or system.chains i no_chain) at)
          (in-filter (is_of chain) answer (answers_at system past r 0 system.chains) now)
    ]

-- the one that is looked for
pub sought-has : (system : System) (chain number : ℕ) (past : List Row) (answer : Answer) → sought system chain number past ≡ There answer
    → way_of system answer past ≡ [] → ⊥
sought-has system chain number past answer e =
    all-have system chain answer past (found (numbered number (answers_of system chain past)) refl e)
  where
    got : (b : Bool) → (if b then None else slice_get (answers_of system chain past) (number - 1)) ≡ Some answer → IsIn answer (answers_of system chain past)
    got true k = absurd (cc)
    got false k = in-got answer (answers_of system chain past) (number - 1) k

    found : (o : Option Answer) → numbered number (answers_of system chain past) ≡ o → sought_by (capped (length (answers_of system chain past))) o ≡ There answer
        → IsIn answer (answers_of system chain past)
    found None is k = absurd (cc)
    found (Some other) is k =
        let same : other ≡ answer = cc in
        got (number == 0) (is ∙ ap Some same)
