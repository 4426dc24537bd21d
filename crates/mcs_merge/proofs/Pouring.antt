-- Parts of many cores, given one moment of a core at a time.
use Rattle.std.proofs.Common.{◌≡◌, ℕ, zero, suc, ◌<◌, ◌≤◌, inl, inr, Bool, true, List, [], ◌∷◌, ◌++◌, length, get_or, set, Option, refl, sym, ap, ◌∙◌, subst, append-nil, arith, get_or-set_same, get_or-set_other}
use Rattle.std.specs.Prelude.{All, IfSome, flat_map, map}
use Rattle.std.proofs.lemmas.Bool.{cases_eq}
use Rattle.std.proofs.lemmas.List.{length-set, length-map, map-set, set-get_or}
use Rattle.mcs_ticks.specs.declared.row.Row.{Row}
use Rattle.mcs_ticks.specs.Given.{Given, GivenUntil}
use Rattle.mcs_ticks.proofs.Givens.{given-append, until-append}
use Rattle.mcs_merge.specs.Merge.{rows_at, merged_before, AreFrom, DoNotFall}
use Rattle.mcs_merge.specs.Merging.{list_of}
use Rattle.mcs_merge.specs.Parts.{first_moment, rows_from, all_from, first_of, parts_of, Hold, HoldEach, AreHeld}
use Rattle.mcs_merge.specs.stored.Parts.{AreAt, ArePouring, IsInLine, IsNextCore, IsPouring, IsRefused, IsStopped, NoneBefore, Pours}
use Rattle.mcs_merge.proofs.Joins.{AreFrom-earlier, rows_at-later}
use Rattle.mcs_merge.proofs.Passing.{flat_map-none, none-at, merged-part}
use Rattle.mcs_merge.proofs.Parts.{from-all, from-none, held-on}

-- the rest of rows that do not fall
DoNotFall-rest : (rows more : List Row) → DoNotFall (rows ++ more) → DoNotFall more
DoNotFall-rest [] more h = h
DoNotFall-rest (row ∷ rows) more h = DoNotFall-rest rows more h.1

-- if the first row is at a moment or later, all rows are
from-moment : (t : ℕ) (rows : List Row) → DoNotFall rows → IfSome (first_moment rows) (λ other. t ≤ other) → AreFrom t rows
from-moment t [] o h = tt
from-moment t (row ∷ rows) o h = (h, AreFrom-earlier t row.moment rows h o.0)

from-none-of : (until t : ℕ) (now rest : List Row) → AreAt t now → t < until → rows_from until (now ++ rest) ≡ rows_from until rest
from-none-of until t [] rest h l = refl
from-none-of until t (row ∷ now) rest h l = from-none until row (now ++ rest) (let is = h.0 in omega arith) ∙ from-none-of until t now rest h.1 l

-- lists that have no row before a moment
all-from-all : (until : ℕ) (lists : List (List Row)) → ((d : ℕ) → d < length lists → AreFrom until (list_of d lists)) → all_from until lists ≡ lists
all-from-all until [] h = refl
all-from-all until (rows ∷ lists) h = both _ _ _ _ (from-all until rows (h 0 (omega arith))) (all-from-all until lists (λ d l. h (suc d) (omega arith)))
  where
    both : (xs ys : List Row) (us vs : List (List Row)) → xs ≡ ys → us ≡ vs → xs ∷ us ≡ ys ∷ vs
    both xs ys us vs e f = cc

pub merged-none : (until : ℕ) (lists : List (List Row)) → ((d : ℕ) → d < length lists → AreFrom until (list_of d lists)) → merged_before until lists ≡ []
merged-none until lists h =
    flat_map-none (λ t. flat_map (rows_at t) lists) until 0 (λ t p q. none-at t lists (λ d l. rows_at-later t until (list_of d lists) (omega arith) (h d l)))

-- parts that are alone
module _ {O P : Type 0} (holds : O → P → List Row → Type 0) (out : O) where
  each-long : (parts : List P) (lists : List (List Row)) → HoldEach holds out parts lists → length parts ≡ length lists
  each-long [] [] h = refl
  each-long [] (rows ∷ lists) h = absurd h
  each-long (part ∷ parts) [] h = absurd h
  each-long (part ∷ parts) (rows ∷ lists) h = ap suc (each-long parts lists h.1)

  each-alone : (parts : List P) (lists : List (List Row)) → HoldEach holds out parts lists → (core : ℕ) → core < length lists →
      Hold holds out (parts_of core (map (λ part. part ∷ []) parts)) (list_of core lists)
  each-alone [] [] h core l = absurd (omega arith)
  each-alone [] (rows ∷ lists) h core l = absurd h
  each-alone (part ∷ parts) [] h core l = absurd h
  each-alone (part ∷ parts) (rows ∷ lists) h zero l = (rows, [], sym (append-nil rows), h.0, refl)
  each-alone (part ∷ parts) (rows ∷ lists) h (suc core) l = each-alone parts lists h.1 core (omega arith)

  pub alone-held : (parts : List P) (lists : List (List Row)) → HoldEach holds out parts lists → AreHeld holds out (map (λ part. part ∷ []) parts) lists
  alone-held parts lists h = record { same = length-map parts (λ part. part ∷ []) ∙ each-long parts lists h; each = each-alone parts lists h }

-- other parts of a core, which hold other rows
pub AreHeld-set : {O P : Type 0} {holds : O → P → List Row → Type 0} (out : O) (cores : List (List P)) (lists : List (List Row)) (core : ℕ) (parts : List P) (rows : List Row) → AreHeld holds out cores lists →
    core < length cores → Hold holds out parts rows → AreHeld holds out (set cores core parts) (set lists core rows)
AreHeld-set {O} {P} {holds} out cores lists core parts rows h l k =
    record {
      same = length-set cores core parts ∙ h.same ∙ sym (length-set lists core rows);
      each = λ d p. elim (cases_eq d core) [
        | inl e ↦ subst (λ i. Hold holds out (parts_of i (set cores core parts)) (list_of i (set lists core rows))) (sym e)
            (subst (λ mine. Hold holds out mine (list_of core (set lists core rows))) (sym (get_or-set_same cores core parts [] l))
            (subst (Hold holds out parts) (sym (get_or-set_same lists core rows [] (let same = h.same in omega arith))) k))
        | inr e ↦ subst (λ mine. Hold holds out mine (list_of d (set lists core rows))) (sym (get_or-set_other cores core d parts [] e))
            (subst (Hold holds out (parts_of d cores)) (sym (get_or-set_other lists core d rows [] e)) (h.each d (omega (arith, length-set lists core rows))))
      ];
    }

module _ {O : Type 0} {P : Type 0} (takes : O → Row → Bool → O → Type 0) (holds : O → P → List Row → Type 0) (first : P → Option ℕ)
    (is_first : (out : O) (part : P) (rows : List Row) → holds out part rows → first part ≡ first_moment rows)
    (holds_on : (before after : O) (part : P) (rows : List Row) (row : Row) → holds before part rows → takes before row true after → holds after part rows) where
  -- more was given, and more stops
  pub pouring-on : (until : ℕ) (a b c : O) (xs ys zs : List (List P)) → ArePouring takes holds until a b xs ys → ArePouring takes holds until b c ys zs → ArePouring takes holds until a c xs zs
  pouring-on until a b c xs ys zs p q =
      record {
        long = q.long ∙ p.long;
        pouring = λ lists o h.
            let i = p.pouring lists o h in
            let j = q.pouring i.left i.in_order i.held in
            record {
              left = j.left;
              in_order = j.in_order;
              held = j.held;
              from = j.from ∙ i.from;
              goes_on = λ after g. i.goes_on after (j.goes_on after g);
              stops = λ after g. i.stops after (j.stops after g);
            };
      }

  pub pouring-stops : (until : ℕ) (a b c : O) (xs ys : List (List P)) → ArePouring takes holds until a b xs ys → IsStopped takes holds until b c ys → IsStopped takes holds until a c xs
  pouring-stops until a b c xs ys p q = λ lists o h.
      let i = p.pouring lists o h in
      i.stops c (q i.left i.in_order i.held)

  -- the first moment of parts is that of their rows
  first-held : (out : O) (parts : List P) (rows : List Row) → IsInLine first parts → Hold holds out parts rows → first_of first parts ≡ first_moment rows
  first-held out [] rows line h = sym (ap first_moment h)
  first-held out (part ∷ parts) rows line h = by h.0 (is_first out part h.0 h.3) h.2
    where
      by : (mine : List Row) → first part ≡ first_moment mine → rows ≡ mine ++ h.1 → first part ≡ first_moment rows
      by (row ∷ mine) e f = e ∙ sym (ap first_moment f)
      by [] e f =
          let rest : h.1 ≡ [] = subst (λ parts. Hold holds out parts h.1) (line e) h.4 in
          e ∙ sym (ap first_moment (f ∙ rest))

  module _ (until : ℕ) (out : O) (cores : List (List P)) (left : List (List Row)) (o : All DoNotFall left) (h : AreHeld holds out cores left)
      (line : (core : ℕ) → core < length cores → IsInLine first (parts_of core cores)) where
    list-first : (d : ℕ) → d < length left → first_of first (parts_of d cores) ≡ first_moment (list_of d left)
    list-first d l = first-held out (parts_of d cores) (list_of d left) (line d (let same = h.same in omega arith)) (h.each d l)

    -- no row is before a moment
    none-left : NoneBefore first cores until → (d : ℕ) → d < length left → AreFrom until (list_of d left)
    none-left none d l =
        from-moment until (list_of d left) (o d [] l)
        (subst (λ next. IfSome next (λ other. until ≤ other)) (list-first d l) (none d (let same = h.same in omega arith)))

    module _ (core : ℕ) (next : IsNextCore first cores until core) where
      all-later : (d : ℕ) → d < length left → AreFrom next.moment (list_of d left)
      all-later d l =
          from-moment next.moment (list_of d left) (o d [] l)
          (subst (λ n. IfSome n (λ other. next.moment ≤ other)) (list-first d l) (next.least d (let same = h.same in omega arith)))

      lower-later : (d : ℕ) → d < core → d < length left → AreFrom (suc next.moment) (list_of d left)
      lower-later d k l =
          from-moment (suc next.moment) (list_of d left) (o d [] l)
          (subst (λ n. IfSome n (λ other. suc next.moment ≤ other)) (list-first d l) (next.lower d k))

      -- what comes first of all lists
      merged-next : (now rest : List Row) → list_of core left ≡ now ++ rest → AreAt next.moment now → merged_before until left ≡ now ++ merged_before until (set left core rest)
      merged-next now rest e at =
          let within : core < length left = (let l = next.within in let same = h.same in omega arith) in
          merged-part until next.moment left core now rest within e at next.before
          (λ i l. none-at i left (λ d k. rows_at-later i next.moment (list_of d left) l (all-later d k)))
          (λ d l. rows_at-later next.moment (suc next.moment) (list_of d left) (omega arith) (lower-later d l (omega arith)))

  -- what all parts hold after rows were given
  held-all-on : (before after : O) (cores : List (List P)) (lists : List (List Row)) (given : List Row) → AreHeld holds before cores lists → Given takes before given after → AreHeld holds after cores lists
  held-all-on before after cores lists given h g =
      record { same = h.same; each = λ d l. held-on takes holds first is_first holds_on before after (parts_of d cores) (list_of d lists) given (h.each d l) g }

  -- giving a moment of a core keeps the invariant
  pours-one : (until : ℕ) (lists : List (List Row)) (before out after : O) (cores : List (List P)) (core : ℕ) (parts : List P) (i : IsPouring takes holds until lists before out cores) →
      ((core : ℕ) → core < length cores → IsInLine first (parts_of core cores)) → (next : IsNextCore first cores until core) →
      Pours takes holds next.moment (list_of core i.left) out after parts → IsPouring takes holds until lists before after (set cores core parts)
  pours-one until lists before out after cores core parts i line next p =
      let within : core < length i.left = (let l = next.within in let same = i.held.same in omega arith) in
      let merged = merged-next until out cores i.left i.in_order i.held line core next p.now p.rest p.split p.at in
      record {
        left = set i.left core p.rest;
        in_order = λ d rows l. elim (cases_eq d core) [
          | inl e ↦ subst (λ k. DoNotFall (get_or (set i.left core p.rest) k rows)) (sym e)
              (subst DoNotFall (sym (get_or-set_same i.left core p.rest rows within)) (DoNotFall-rest p.now p.rest (subst DoNotFall p.split (i.in_order core [] within))))
          | inr e ↦ subst DoNotFall (sym (get_or-set_other i.left core d p.rest rows e)) (i.in_order d rows (omega (arith, length-set i.left core p.rest)))
        ];
        held = AreHeld-set after cores i.left core parts p.rest (held-all-on out after cores i.left p.now i.held p.given) next.within p.left;
        from = map-set (rows_from until) i.left core p.rest
            ∙ ap (set (all_from until i.left) core) (sym (ap (rows_from until) p.split ∙ from-none-of until next.moment p.now p.rest p.at next.before))
            ∙ sym (map-set (rows_from until) i.left core (list_of core i.left)) ∙ ap (all_from until) (set-get_or i.left core []) ∙ i.from;
        goes_on = λ t g. i.goes_on t (subst (λ rows. Given takes out rows t) (sym merged) (given-append takes out after t p.now (merged_before until (set i.left core p.rest)) p.given g));
        stops = λ t g. i.stops t (subst (λ rows. GivenUntil takes out rows t) (sym merged) (until-append takes out after t p.now (merged_before until (set i.left core p.rest)) p.given g));
      }

  until-more : (now more : List Row) (out after : O) → GivenUntil takes out now after → GivenUntil takes out (now ++ more) after
  until-more [] more out after g = absurd g
  until-more (row ∷ now) more out after (inl g) = inl g
  until-more (row ∷ now) more out after (inr g) = inr (g.0, g.1, until-more now more g.0 after g.2)

  -- some rows of a moment of a core are given, and then one is refused
  refuses-one : (until : ℕ) (lists : List (List Row)) (before out after : O) (cores : List (List P)) (core : ℕ) (i : IsPouring takes holds until lists before out cores) →
      ((core : ℕ) → core < length cores → IsInLine first (parts_of core cores)) → (next : IsNextCore first cores until core) →
      IsRefused takes holds next.moment (list_of core i.left) out after → GivenUntil takes before (merged_before until lists) after
  refuses-one until lists before out after cores core i line next p =
      let merged = merged-next until out cores i.left i.in_order i.held line core next p.now p.rest p.split p.at in
      i.stops after (subst (λ rows. GivenUntil takes out rows after) (sym merged) (until-more p.now (merged_before until (set i.left core p.rest)) out after p.given))

  module _ (until : ℕ) (before out : O) (cores now : List (List P)) (a : ArePouring takes holds until before out cores now) (line : (core : ℕ) → core < length now → IsInLine first (parts_of core now)) where
    module _ (after : O) (core : ℕ) (next : IsNextCore first now until core) where
      mine : (lists : List (List Row)) (i : IsPouring takes holds until lists before out now) → core < length i.left
      mine lists i = let l = next.within in let same = i.held.same in omega arith

      pub pouring-goes-on : (new : List (List P)) →
          ((rows : List Row) → DoNotFall rows → Hold holds out (parts_of core now) rows → IfSome (first_of first (parts_of core now)) (λ t. Pours takes holds t rows out after (parts_of core new))) →
          new ≡ set now core (parts_of core new) → ArePouring takes holds until before after cores new
      pouring-goes-on new given others =
          record {
            long = ap (λ parts. length parts) others ∙ length-set now core (parts_of core new) ∙ a.long;
            pouring = λ lists o h.
                let i = a.pouring lists o h in
                let poured = given (list_of core i.left) (i.in_order core [] (mine lists i)) (i.held.each core (mine lists i)) in
                subst (λ parts. IsPouring takes holds until lists before after parts) (sym others)
                (pours-one until lists before out after now core (parts_of core new) i line next
                (subst (λ n. IfSome n (λ t. Pours takes holds t (list_of core i.left) out after (parts_of core new))) next.is poured));
          }

      pub pouring-refused :
          ((rows : List Row) → DoNotFall rows → Hold holds out (parts_of core now) rows → IfSome (first_of first (parts_of core now)) (λ t. IsRefused takes holds t rows out after)) →
          (lists : List (List Row)) → All DoNotFall lists → AreHeld holds before cores lists → GivenUntil takes before (merged_before until lists) after
      pouring-refused refused lists o h =
          let i = a.pouring lists o h in
          let poured = refused (list_of core i.left) (i.in_order core [] (mine lists i)) (i.held.each core (mine lists i)) in
          refuses-one until lists before out after now core i line next
          (subst (λ n. IfSome n (λ t. IsRefused takes holds t (list_of core i.left) out after)) next.is poured)

    -- no row is left before the moment
    pub pouring-ends : NoneBefore first now until → (lists : List (List Row)) → All DoNotFall lists → AreHeld holds before cores lists →
        Given takes before (merged_before until lists) out × AreHeld holds out now (all_from until lists)
    pouring-ends none lists o h =
        let i = a.pouring lists o h in
        let later = none-left until out now i.left i.in_order i.held line none in (
          i.goes_on out (subst (λ rows. Given takes out rows out) (sym (merged-none until i.left later)) refl),
          subst (AreHeld holds out now) (sym (all-from-all until i.left later) ∙ i.from) i.held,
        )
