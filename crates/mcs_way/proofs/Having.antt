-- What a chain's sets have of an origin, the origin's course has too.
use Rattle.std.proofs.Common.{◌≡◌, ◌∙◌, ℕ, zero, suc, ◌≤◌, ◌⊎◌, inl, inr, Bool, true, false, not, List, [], ◌∷◌, ◌++◌, map, get_or, set, min, max, Option, Some, None, refl, sym, ap, subst, arith}
use Rattle.std.specs.Prelude.{if◌then◌else◌, ◌==◌, ◌&&◌, nat_lt, bit_and, bit_or, filter, fold}
use Rattle.std.specs.Int.{bit_at}
use Rattle.std.proofs.lemmas.Bool.{cases_eq, eqb-true, eq-eqb, ne_eqb}
use Rattle.std.proofs.lemmas.Bool.Decides.{nat_tests}
use Rattle.std.proofs.lemmas.Nat.Bits.{bit_at_and, bit_at_or, bit_at-zero, same_from_bits}
use Rattle.mcs_ticks.specs.declared.row.Row.{Row}
use Rattle.mcs_system.specs.declared.part.ChainPart.{ChainPart}
use Rattle.mcs_system.specs.System.{System}
use Rattle.mcs_verdict.specs.declared.standing.Stood.{Stood}
use Rattle.mcs_origins.specs.declared.mark.Mark.{Mark}
use Rattle.mcs_chain.specs.declared.sent.Sent.{Sent as MarkSent}
use Rattle.mcs_chain.specs.declared.moves.Move.{Move}
use Rattle.mcs_chain.specs.declared.moves.Move.TheVariants.{Nothing, Start, Give, Send, Land, Hold, Wake, Got, End}
use Rattle.mcs_origins.specs.declared.taking.Taking.{Taking}
use Rattle.mcs_origins.specs.declared.taking.Taking.TheVariants.{First, Later}
use Rattle.mcs_origins.specs.Sets as marks
use Rattle.mcs_chain.specs.Origins as chain_sets
use Rattle.mcs_chain.specs.Answers.{gone_after, origins}
use Rattle.mcs_chain.specs.Moves.{moves}
use Rattle.mcs_way.specs.declared.aim.Aim.{Aim}
use Rattle.mcs_way.specs.declared.leg.Carrier.{Carrier}
use Rattle.mcs_way.specs.Trace.{Trace, left, left_note, given, taken, joined}
use Rattle.mcs_way.specs.Course.{Sent, Course, sent_with, is_sent, arrived, landed, with_arrived, come_to, started, rest, ends, answers, is_answer, is_origin, moved}
use Rattle.mcs_way.specs.Trail.{course_of}

-- bits that are among others
abbrev pub Among : ℕ → ℕ → Type 0
Among a b = (i : ℕ) → bit_at a i ≤ bit_at b i

least : (x y z : ℕ) → x ≤ y → min y z ≡ 0 → min x z ≡ 0
least x y z h e = omega arith

both-least : (x y z a b : ℕ) → x ≤ y → a ≡ min x z → b ≡ min y z → a ≤ b
both-least x y z a b h e f = omega arith

one-most : (x y z b : ℕ) → x ≤ y → b ≡ max y z → x ≤ b
one-most x y z b h e = omega arith

both-most : (x y z w a b : ℕ) → x ≤ w → z ≤ y → a ≡ max x z → b ≡ max y w → a ≤ b
both-most x y z w a b h k e f = omega arith

at-more : (a b p : ℕ) → Among a b → not (bit_and a p == 0) ≡ true → not (bit_and b p == 0) ≡ true
at-more a b p more e = by (cases_eq (bit_and b p) 0)
  where
    by : (bit_and b p ≡ 0) ⊎ (bit_and b p ≡ 0 → ⊥) → not (bit_and b p == 0) ≡ true
    by (inr h) = ap not (ne_eqb (bit_and b p) 0 h)
    by (inl z) =
        let none : bit_and a p ≡ 0 =
        same_from_bits (bit_and a p) 0 (λ i. bit_at_and a p i
        ∙ least (bit_at a i) (bit_at b i) (bit_at p i) (more i) (sym (bit_at_and b p i) ∙ ap (λ n. bit_at n i) z ∙ bit_at-zero i)
        ∙ sym (bit_at-zero i))
        in
        let nowhere : not (bit_and a p == 0) ≡ false = ap not (eq-eqb (bit_and a p) 0 none) in
        absurd (cc)

-- the origin is at the places of the mark
abbrev pub Covers : Option Trace → Mark → Type 0
Covers None mark = ⊥
Covers (Some trace) mark = Among mark.places trace.places

-- at those of each mark of the set that is of the origin
abbrev pub Covered : ℕ → Option Trace → List Mark → Type 0
Covered origin spot [] = Unit {0}
Covered origin spot (mark ∷ set) = (mark.origin ≡ origin → Covers spot mark) × Covered origin spot set

if-both : {A : Type 0} (P : A → Type 0) (b : Bool) (x y : A) → (b ≡ true → P x) → (b ≡ false → P y) → P (if b then x else y)
if-both P true x y h k = h refl
if-both P false x y h k = k refl

-- what a signal carries
given-mark : (places badge moment : ℕ) (carrier : Carrier) (spot : Option Trace) (mark : Mark) → Covers spot mark → marks.is_at places mark ≡ true
    → Covers (given places badge carrier moment spot) (marks.put_at badge mark)
given-mark places badge moment carrier None mark h e = absurd h
given-mark places badge moment carrier (Some trace) mark h e =
    subst (λ b. Covers (if b then Some (left carrier moment badge trace) else None) (marks.put_at badge mark))
    (sym (at-more mark.places trace.places places h e)) (λ i. omega arith)

given-covered : (origin places badge moment : ℕ) (carrier : Carrier) (spot : Option Trace) (set : List Mark) → Covered origin spot set
    → Covered origin (given places badge carrier moment spot) (marks.given places badge set)
given-covered origin places badge moment carrier spot [] h = tt
given-covered origin places badge moment carrier spot (mark ∷ set) h =
    let rest = given-covered origin places badge moment carrier spot set h.1 in
    if-both (λ xs. Covered origin (given places badge carrier moment spot) (map (marks.put_at badge) xs)) (marks.is_at places mark)
    (mark ∷ marks.at_places places set) (marks.at_places places set)
    (λ e. ((λ o. given-mark places badge moment carrier spot mark (h.0 o) e), rest)) (λ e. rest)

-- what a thread takes
left_note-places : (note moment places : ℕ) (trace : Trace) → (left_note note moment places trace).places ≡ places
left_note-places note moment places trace = grind (arith, nat_tests)

first-mark : (bits note moment : ℕ) (spot : Option Trace) (mark : Mark) → Covers spot mark → marks.is_at bits mark ≡ true
    → Covers (taken (First bits) note moment spot) (marks.keep_at bits mark)
first-mark bits note moment None mark h e = absurd h
first-mark bits note moment (Some trace) mark h e =
    subst (λ b. Covers (if b then Some (left_note note moment (bit_and trace.places bits) trace) else None) (marks.keep_at bits mark))
    (sym (at-more mark.places trace.places bits h e))
    (subst (λ n. Among (bit_and mark.places bits) n) (sym (left_note-places note moment (bit_and trace.places bits) trace))
    (λ i. both-least (bit_at mark.places i) (bit_at trace.places i) (bit_at bits i) (bit_at (bit_and mark.places bits) i)
    (bit_at (bit_and trace.places bits) i) (h i) (bit_at_and mark.places bits i) (bit_at_and trace.places bits i)))

later-mark : (places note moment : ℕ) (spot : Option Trace) (mark : Mark) → Covers spot mark
    → Covers (taken (Later places) note moment spot) (marks.put_at places mark)
later-mark places note moment None mark h = absurd h
later-mark places note moment (Some trace) mark h =
    subst (λ n. Among places n) (sym (left_note-places note moment places trace)) (λ i. omega arith)

taken-covered : (origin note moment : ℕ) (taking : Taking) (spot : Option Trace) (set : List Mark) → Covered origin spot set
    → Covered origin (taken taking note moment spot) (marks.taken taking set)
taken-covered origin note moment (First bits) spot [] h = tt
taken-covered origin note moment (Later places) spot [] h = tt
taken-covered origin note moment (First bits) spot (mark ∷ set) h =
    let rest = taken-covered origin note moment (First bits) spot set h.1 in
    if-both (λ xs. Covered origin (taken (First bits) note moment spot) (map (marks.keep_at bits) xs)) (marks.is_at bits mark)
    (mark ∷ marks.at_places bits set) (marks.at_places bits set)
    (λ e. ((λ o. first-mark bits note moment spot mark (h.0 o) e), rest)) (λ e. rest)
taken-covered origin note moment (Later places) spot (mark ∷ set) h =
    ((λ o. later-mark places note moment spot mark (h.0 o)), taken-covered origin note moment (Later places) spot set h.1)

-- two sets in one
joined-old : (new old : Option Trace) (mark : Mark) → Covers old mark → Covers (joined new old) mark
joined-old None old mark h = h
joined-old (Some new) None mark h = absurd h
joined-old (Some new) (Some old) mark h =
    λ i. one-most (bit_at mark.places i) (bit_at old.places i) (bit_at new.places i) (bit_at (bit_or old.places new.places) i) (h i)
    (bit_at_or old.places new.places i)

joined-new : (new old : Option Trace) (mark : Mark) → Covers new mark → Covers (joined new old) mark
joined-new None old mark h = absurd h
joined-new (Some new) None mark h = h
joined-new (Some new) (Some old) mark h =
    λ i. most-other (bit_at mark.places i) (bit_at old.places i) (bit_at new.places i) (bit_at (bit_or old.places new.places) i) (h i)
    (bit_at_or old.places new.places i)
  where
    most-other : (x y z b : ℕ) → x ≤ z → b ≡ max y z → x ≤ b
    most-other x y z b h e = omega arith

joined-both : (new old : Option Trace) (a b : Mark) → Covers new a → Covers old b → Covers (joined new old) (marks.both a b)
joined-both None old a b h k = absurd h
joined-both (Some new) None a b h k = absurd k
joined-both (Some new) (Some old) a b h k =
    λ i. both-most (bit_at a.places i) (bit_at old.places i) (bit_at b.places i) (bit_at new.places i) (bit_at (bit_or a.places b.places) i)
    (bit_at (bit_or old.places new.places) i) (h i) (k i) (bit_at_or a.places b.places i) (bit_at_or old.places new.places i)

all-old : (origin : ℕ) (new old : Option Trace) (set : List Mark) → Covered origin old set → Covered origin (joined new old) set
all-old origin new old [] h = tt
all-old origin new old (mark ∷ set) h = ((λ o. joined-old new old mark (h.0 o)), all-old origin new old set h.1)

same-origin : (a b : ℕ) → nat_lt b a ≡ false → nat_lt a b ≡ false → b ≡ a
same-origin a b e f = grind (arith, nat_tests)

join-first : (origin : ℕ) (new old : Option Trace) (a : Mark) (set : List Mark) → (a.origin ≡ origin → Covers new a)
    → ((others : List Mark) → Covered origin old others → Covered origin (joined new old) (marks.join set others))
    → (others : List Mark) → Covered origin old others → Covered origin (joined new old) (marks.join (a ∷ set) others)
join-first origin new old a set h more [] k = ((λ o. joined-new new old a (h o)), more [] tt)
join-first origin new old a set h more (b ∷ others) k =
    if-both (Covered origin (joined new old)) (nat_lt b.origin a.origin) (a ∷ marks.join set (b ∷ others))
    (if nat_lt a.origin b.origin then b ∷ marks.join (a ∷ set) others else marks.both a b ∷ marks.join set others)
    (λ e. ((λ o. joined-new new old a (h o)), more (b ∷ others) k))
    (λ e. if-both (Covered origin (joined new old)) (nat_lt a.origin b.origin) (b ∷ marks.join (a ∷ set) others)
    (marks.both a b ∷ marks.join set others)
    (λ f. ((λ o. joined-old new old b (k.0 o)), join-first origin new old a set h more others k.1))
    (λ f. ((λ o. joined-both new old a b (h o) (k.0 (same-origin a.origin b.origin e f ∙ o))), more others k.1)))

join-covered : (origin : ℕ) (new old : Option Trace) (set others : List Mark) → Covered origin new set → Covered origin old others
    → Covered origin (joined new old) (marks.join set others)
join-covered origin new old [] others h k = all-old origin new old others k
join-covered origin new old (a ∷ set) others h k =
    join-first origin new old a set h.0 (λ more l. join-covered origin new old set more h.1 l) others k

-- a set that loses origins
without-covered : (origin : ℕ) (spot : Option Trace) (answered : List ℕ) (set : List Mark) → Covered origin spot set
    → Covered origin spot (marks.without answered set)
without-covered origin spot answered [] h = tt
without-covered origin spot answered (mark ∷ set) h =
    let rest = without-covered origin spot answered set h.1 in
    if-both (Covered origin spot) (not (marks.is_one_of answered mark.origin)) (mark ∷ marks.without answered set) (marks.without answered set)
    (λ e. (h.0, rest)) (λ e. rest)

-- of many carriers
abbrev pub AllCovered : ℕ → List (Option Trace) → List (List Mark) → Type 0
AllCovered origin [] [] = Unit {0}
AllCovered origin [] (set ∷ sets) = ⊥
AllCovered origin (spot ∷ spots) [] = ⊥
AllCovered origin (spot ∷ spots) (set ∷ sets) = Covered origin spot set × AllCovered origin spots sets

pub get-covered : (origin : ℕ) (spots : List (Option Trace)) (sets : List (List Mark)) (k : ℕ) → AllCovered origin spots sets
    → Covered origin (get_or spots k None) (get_or sets k [])
get-covered origin [] [] k h = tt
get-covered origin [] (s ∷ sets) k h = absurd h
get-covered origin (spot ∷ spots) [] k h = absurd h
get-covered origin (spot ∷ spots) (s ∷ sets) zero h = h.0
get-covered origin (spot ∷ spots) (s ∷ sets) (suc k) h = get-covered origin spots sets k h.1

set-covered : (origin : ℕ) (spots : List (Option Trace)) (sets : List (List Mark)) (k : ℕ) (spot : Option Trace) (s : List Mark)
    → AllCovered origin spots sets → Covered origin spot s → AllCovered origin (set spots k spot) (set sets k s)
set-covered origin [] [] k spot s h c = tt
set-covered origin [] (t ∷ sets) k spot s h c = absurd h
set-covered origin (other ∷ spots) [] k spot s h c = absurd h
set-covered origin (other ∷ spots) (t ∷ sets) zero spot s h c = (c, h.1)
set-covered origin (other ∷ spots) (t ∷ sets) (suc k) spot s h c = (h.0, set-covered origin spots sets k spot s h.1 c)

all-without : (origin : ℕ) (answered : List ℕ) (spots : List (Option Trace)) (sets : List (List Mark)) → AllCovered origin spots sets
    → AllCovered origin spots (map (marks.without answered) sets)
all-without origin answered [] [] h = tt
all-without origin answered [] (s ∷ sets) h = absurd h
all-without origin answered (spot ∷ spots) [] h = absurd h
all-without origin answered (spot ∷ spots) (s ∷ sets) h =
    (without-covered origin spot answered s h.0, all-without origin answered spots sets h.1)

none-covered : {X : Type 0} (origin : ℕ) (xs : List X) → AllCovered origin (map (λ _. None) xs) (map (λ _. []) xs)
none-covered origin [] = tt
none-covered origin (x ∷ xs) = (tt, none-covered origin xs)

come-covered : (origin k : ℕ) (new : Option Trace) (s : List Mark) (spots : List (Option Trace)) (sets : List (List Mark)) → AllCovered origin spots sets
    → Covered origin new s → AllCovered origin (come_to k new spots) (set sets k (marks.join s (get_or sets k [])))
come-covered origin k new s spots sets h c =
    set-covered origin spots sets k _ _ h (join-covered origin new (get_or spots k None) s (get_or sets k []) c (get-covered origin spots sets k h))

-- a signal under way has the origin that another one has
abbrev pub IsSentWith : List Sent → MarkSent → Type 0
IsSentWith [] their = ⊥
IsSentWith (sent ∷ mine) their =
    ((sent.note ≡ their.note) × (sent.maker ≡ their.maker) × (sent.made ≡ their.made) × Covers (Some sent.trace) their.mark) ⊎ IsSentWith mine their

abbrev pub AllSentWith : ℕ → List Sent → List MarkSent → Type 0
AllSentWith origin mine [] = Unit {0}
AllSentWith origin mine (their ∷ theirs) = (their.mark.origin ≡ origin → IsSentWith mine their) × AllSentWith origin mine theirs

sent-before : (mine more : List Sent) (their : MarkSent) → IsSentWith mine their → IsSentWith (mine ++ more) their
sent-before [] more their h = absurd h
sent-before (sent ∷ mine) more their (inl h) = inl h
sent-before (sent ∷ mine) more their (inr h) = inr (sent-before mine more their h)

sent-last : (mine : List Sent) (new : Option Trace) (note maker made : ℕ) (mark : Mark) → Covers new mark
    → IsSentWith (mine ++ sent_with note maker made new) (chain_sets.sent note maker made mark)
sent-last [] None note maker made mark h = absurd h
sent-last [] (Some trace) note maker made mark h = inl (refl, refl, refl, h)
sent-last (sent ∷ mine) new note maker made mark h = inr (sent-last mine new note maker made mark h)

all-before : (origin : ℕ) (mine more : List Sent) (theirs : List MarkSent) → AllSentWith origin mine theirs → AllSentWith origin (mine ++ more) theirs
all-before origin mine more [] h = tt
all-before origin mine more (their ∷ theirs) h = ((λ o. sent-before mine more their (h.0 o)), all-before origin mine more theirs h.1)

all-last : (origin : ℕ) (mine : List Sent) (new : Option Trace) (note maker made : ℕ) (set : List Mark) → Covered origin new set
    → AllSentWith origin (mine ++ sent_with note maker made new) (map (chain_sets.sent note maker made) set)
all-last origin mine new note maker made [] h = tt
all-last origin mine new note maker made (mark ∷ set) h =
    ((λ o. sent-last mine new note maker made mark (h.0 o)), all-last origin mine new note maker made set h.1)

all-more : (origin : ℕ) (mine : List Sent) (theirs more : List MarkSent) → AllSentWith origin mine theirs → AllSentWith origin mine more
    → AllSentWith origin mine (theirs ++ more)
all-more origin mine [] more h k = k
all-more origin mine (their ∷ theirs) more h k = (h.0, all-more origin mine theirs more h.1 k)

-- what a signal brings
from-before : (note maker made home moment : ℕ) (before : Option Trace) (mine : List Sent) (mark : Mark) → Covers before mark
    → Covers (fold (with_arrived note maker made home moment) before mine) mark
from-before note maker made home moment before [] mark h = h
from-before note maker made home moment before (sent ∷ mine) mark h =
    from-before note maker made home moment (with_arrived note maker made home moment before sent) mine mark
    (if-both (λ s. Covers s mark) (is_sent note maker made sent) (joined (Some (arrived home moment sent)) before) before
    (λ e. joined-old (Some (arrived home moment sent)) before mark h) (λ e. h))

sent-is : (sent : Sent) (note maker made : ℕ) → sent.note ≡ note → sent.maker ≡ maker → sent.made ≡ made → is_sent note maker made sent ≡ true
sent-is sent note maker made d e f = grind (arith, nat_tests)

landed-mark : (note maker made home moment : ℕ) (before : Option Trace) (mine : List Sent) (their : MarkSent) → their.note ≡ note → their.maker ≡ maker → their.made ≡ made
    → IsSentWith mine their → Covers (fold (with_arrived note maker made home moment) before mine) their.mark
landed-mark note maker made home moment before [] their d e f h = absurd h
landed-mark note maker made home moment before (sent ∷ mine) their d e f (inr h) =
    landed-mark note maker made home moment (with_arrived note maker made home moment before sent) mine their d e f h
landed-mark note maker made home moment before (sent ∷ mine) their d e f (inl h) =
    from-before note maker made home moment (with_arrived note maker made home moment before sent) mine their.mark
    (subst (λ b. Covers (if b then joined (Some (arrived home moment sent)) before else before) their.mark)
    (sym (sent-is sent note maker made (h.0 ∙ d) (h.1 ∙ e) (h.2 ∙ f))) (joined-new (Some (arrived home moment sent)) before their.mark h.3))

their-sent : (their : MarkSent) (note maker made : ℕ) → chain_sets.is_sent note maker made their ≡ true → (their.note ≡ note) × (their.maker ≡ maker) × (their.made ≡ made)
their-sent their note maker made e = (
  eqb-true their.note note (first-is (their.note == note) (their.maker == maker && their.made == made) e),
  eqb-true their.maker maker (first-is (their.maker == maker) (their.made == made) (second-is (their.note == note) (their.maker == maker && their.made == made) e)),
  eqb-true their.made made (second-is (their.maker == maker) (their.made == made) (second-is (their.note == note) (their.maker == maker && their.made == made) e)),
)
  where
    first-is : (a b : Bool) → (a && b) ≡ true → a ≡ true
    first-is true b e = refl
    first-is false b e = e

    second-is : (a b : Bool) → (a && b) ≡ true → b ≡ true
    second-is true b e = e
    second-is false b e = absurd (cc)

landed-covered : (origin note maker made home moment : ℕ) (mine : List Sent) (theirs : List MarkSent) → AllSentWith origin mine theirs
    → Covered origin (landed note maker made home moment mine) (map (λ sent. sent.mark) (filter (chain_sets.is_sent note maker made) theirs))
landed-covered origin note maker made home moment mine [] h = tt
landed-covered origin note maker made home moment mine (their ∷ theirs) h =
    let rest = landed-covered origin note maker made home moment mine theirs h.1 in
    if-both (λ (xs : List MarkSent). Covered origin (landed note maker made home moment mine) (map (λ sent. sent.mark) xs)) (chain_sets.is_sent note maker made their)
    (their ∷ filter (chain_sets.is_sent note maker made) theirs) (filter (chain_sets.is_sent note maker made) theirs)
    (λ e. let is = their-sent their note maker made e in ((λ o. landed-mark note maker made home moment None mine their is.0 is.1 is.2 (h.0 o)), rest))
    (λ e. rest)

-- and what stays under way
same-test : (sent : Sent) (their : MarkSent) (note maker made : ℕ) → sent.note ≡ their.note → sent.maker ≡ their.maker → sent.made ≡ their.made
    → is_sent note maker made sent ≡ chain_sets.is_sent note maker made their
same-test sent their note maker made d e f =
    ap (λ w. w == note && (sent.maker == maker && sent.made == made)) d ∙ ap (λ x. their.note == note && (x == maker && sent.made == made)) e
    ∙ ap (λ y. their.note == note && (their.maker == maker && y == made)) f

left-with : (note maker made : ℕ) (mine : List Sent) (their : MarkSent) → not (chain_sets.is_sent note maker made their) ≡ true → IsSentWith mine their
    → IsSentWith (filter (λ sent. not (is_sent note maker made sent)) mine) their
left-with note maker made [] their e h = absurd h
left-with note maker made (sent ∷ mine) their e (inl h) =
    subst (λ b. IsSentWith (if b then sent ∷ filter (λ sent. not (is_sent note maker made sent)) mine else filter (λ sent. not (is_sent note maker made sent)) mine) their)
    (sym (ap not (same-test sent their note maker made h.0 h.1 h.2) ∙ e)) (inl h)
left-with note maker made (sent ∷ mine) their e (inr h) =
    if-both (λ xs. IsSentWith xs their) (not (is_sent note maker made sent)) (sent ∷ filter (λ sent. not (is_sent note maker made sent)) mine)
    (filter (λ sent. not (is_sent note maker made sent)) mine)
    (λ f. inr (left-with note maker made mine their e h)) (λ f. left-with note maker made mine their e h)

all-left : (origin note maker made : ℕ) (mine : List Sent) (theirs : List MarkSent) → AllSentWith origin mine theirs
    → AllSentWith origin (filter (λ sent. not (is_sent note maker made sent)) mine) (filter (λ sent. not (chain_sets.is_sent note maker made sent)) theirs)
all-left origin note maker made mine [] h = tt
all-left origin note maker made mine (their ∷ theirs) h =
    let rest = all-left origin note maker made mine theirs h.1 in
    if-both (AllSentWith origin (filter (λ sent. not (is_sent note maker made sent)) mine)) (not (chain_sets.is_sent note maker made their))
    (their ∷ filter (λ sent. not (chain_sets.is_sent note maker made sent)) theirs) (filter (λ sent. not (chain_sets.is_sent note maker made sent)) theirs)
    (λ e. ((λ o. left-with note maker made mine their e (h.0 o)), rest)) (λ e. rest)

all-kept : (origin : ℕ) (answered : List ℕ) (mine : List Sent) (theirs : List MarkSent) → AllSentWith origin mine theirs
    → AllSentWith origin mine (filter (λ sent. not (marks.is_one_of answered sent.mark.origin)) theirs)
all-kept origin answered mine [] h = tt
all-kept origin answered mine (their ∷ theirs) h =
    let rest = all-kept origin answered mine theirs h.1 in
    if-both (AllSentWith origin mine) (not (marks.is_one_of answered their.mark.origin))
    (their ∷ filter (λ sent. not (marks.is_one_of answered sent.mark.origin)) theirs)
    (filter (λ sent. not (marks.is_one_of answered sent.mark.origin)) theirs)
    (λ e. (h.0, rest)) (λ e. rest)

-- the course has what the sets have of its origin
pub record AreCovered (origin : ℕ) (o : chain_sets.Origins) (c : Course) : Type 0 where
  pub held : AllCovered origin c.held o.held
  pub carried : AllCovered origin c.carried o.carried
  pub under_way : AllSentWith origin c.under_way o.under_way
  pub posted : Covered origin c.posted o.posted

started-covered : (chain : ChainPart) (aim : Aim) (moment source badge : ℕ) (o : chain_sets.Origins) (c : Course) → aim.source ≡ chain.source
    → AreCovered aim.answer.origin o c
    → AreCovered aim.answer.origin (if source == chain.source then chain_sets.started moment badge o else chain_sets.rest o)
    (if is_origin aim source moment then started moment badge c else rest c)
started-covered chain aim moment source badge o c e h =
    if-both (λ x. AreCovered aim.answer.origin x (if is_origin aim source moment then started moment badge c else rest c)) (source == chain.source)
    (chain_sets.started moment badge o) (chain_sets.rest o)
    (λ own. if-both (AreCovered aim.answer.origin (chain_sets.started moment badge o)) (is_origin aim source moment) (started moment badge c) (rest c)
    (λ is. record { held = h.held; carried = h.carried; under_way = h.under_way; posted = ((λ (at : moment ≡ aim.answer.origin) i. omega arith), tt) })
    (λ not_is. record { held = h.held; carried = h.carried; under_way = h.under_way; posted = ((λ (at : moment ≡ aim.answer.origin). other own not_is at), tt) }))
    (λ other. if-both (AreCovered aim.answer.origin (chain_sets.rest o)) (is_origin aim source moment) (started moment badge c) (rest c)
    (λ is. record { held = h.held; carried = h.carried; under_way = h.under_way; posted = tt })
    (λ not_is. record { held = h.held; carried = h.carried; under_way = h.under_way; posted = tt }))
  where
    other : (source == chain.source) ≡ true → is_origin aim source moment ≡ false → moment ≡ aim.answer.origin → ⊥
    other own not_is at =
        let same : (source == aim.source) ≡ true = ap (λ s. source == s) e ∙ own in
        let is : is_origin aim source moment ≡ true = ap (λ b. b && moment == aim.answer.origin) same ∙ eq-eqb moment aim.answer.origin at in
        absurd (cc)

ended-covered : (aim : Aim) (thread : ℕ) (answered : List ℕ) (o : chain_sets.Origins) (c : Course) → AreCovered aim.answer.origin o c
    → AreCovered aim.answer.origin (chain_sets.ends thread answered o) (ends thread c)
ended-covered aim thread answered o c h =
    record {
      held = all-without aim.answer.origin answered c.held o.held h.held;
      carried = all-without aim.answer.origin answered (set c.carried thread None) (set o.carried thread [])
          (set-covered aim.answer.origin c.carried o.carried thread None [] h.carried tt);
      under_way = all-kept aim.answer.origin answered c.under_way o.under_way h.under_way;
      posted = tt;
    }

moved-covered : (chain : ChainPart) (aim : Aim) (r : Row) (stood : Stood) (o : chain_sets.Origins) (c : Course) (move : Move) → aim.source ≡ chain.source
    → AreCovered aim.answer.origin o c → AreCovered aim.answer.origin (chain_sets.moved chain r.moment move o) (moved aim r stood move c)
moved-covered chain aim r stood o c Nothing e h = record { held = h.held; carried = h.carried; under_way = h.under_way; posted = tt }
moved-covered chain aim r stood o c (Start source badge) e h = started-covered chain aim r.moment source badge o c e h
moved-covered chain aim r stood o c (Give thread places badge) e h =
    record {
      held = h.held;
      carried = h.carried;
      under_way = h.under_way;
      posted = given-covered aim.answer.origin places badge r.moment _ (get_or c.carried thread None) (get_or o.carried thread [])
          (get-covered aim.answer.origin c.carried o.carried thread h.carried);
    }
moved-covered chain aim r stood o c (Send thread places badge note maker made) e h =
    record {
      held = h.held;
      carried = h.carried;
      under_way = all-more aim.answer.origin _ o.under_way _ (all-before aim.answer.origin c.under_way _ o.under_way h.under_way)
          (all-last aim.answer.origin c.under_way _ note maker made _
          (given-covered aim.answer.origin places badge r.moment _ (get_or c.carried thread None) (get_or o.carried thread [])
          (get-covered aim.answer.origin c.carried o.carried thread h.carried)));
      posted = tt;
    }
moved-covered chain aim r stood o c (Land note maker made) e h =
    record {
      held = h.held;
      carried = h.carried;
      under_way = all-left aim.answer.origin note maker made c.under_way o.under_way h.under_way;
      posted = landed-covered aim.answer.origin note maker made r.core r.moment c.under_way o.under_way h.under_way;
    }
moved-covered chain aim r stood o c (Hold note) e h =
    record {
      held = come-covered aim.answer.origin note c.posted o.posted c.held o.held h.held h.posted;
      carried = h.carried;
      under_way = h.under_way;
      posted = tt;
    }
moved-covered chain aim r stood o c (Wake thread taking) e h =
    record {
      held = h.held;
      carried = come-covered aim.answer.origin thread _ _ c.carried o.carried h.carried
          (taken-covered aim.answer.origin _ r.moment taking c.posted o.posted h.posted);
      under_way = h.under_way;
      posted = tt;
    }
moved-covered chain aim r stood o c (Got thread note taking) e h =
    record {
      held = set-covered aim.answer.origin c.held o.held note None [] h.held tt;
      carried = come-covered aim.answer.origin thread _ _ c.carried o.carried h.carried
          (taken-covered aim.answer.origin note r.moment taking (get_or c.held note None) (get_or o.held note [])
          (get-covered aim.answer.origin c.held o.held note h.held));
      under_way = h.under_way;
      posted = tt;
    }
moved-covered chain aim r stood o c (End thread word) e h =
    let ended = ended-covered aim thread (chain_sets.answers chain thread word o) o c h in
    if-both (AreCovered aim.answer.origin (chain_sets.ends thread (chain_sets.answers chain thread word o) o)) (is_answer aim.answer r)
    (answers thread _ c) (ends thread c)
    (λ is. record { held = ended.held; carried = ended.carried; under_way = ended.under_way; posted = tt }) (λ not_is. ended)

pub course-covered : (system : System) (chain : ChainPart) (aim : Aim) (past : List Row) → aim.source ≡ chain.source
    → AreCovered aim.answer.origin (origins system chain past) (course_of system aim past)
course-covered system chain aim [] e =
    record {
      held = none-covered aim.answer.origin system.notes;
      carried = none-covered aim.answer.origin system.threads;
      under_way = tt;
      posted = tt;
    }
course-covered system chain aim (r ∷ past) e =
    moved-covered chain aim r _ (origins system chain past) (course_of system aim past) (moves system (gone_after system past) r) e
    (course-covered system chain aim past e)
