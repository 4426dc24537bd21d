-- Parts that lie behind one another, and what is given of the first.
use Rattle.std.proofs.Common.{◌≡◌, ℕ, suc, ◌<◌, ◌≤◌, inl, inr, Bool, true, false, cond, List, [], ◌∷◌, ◌++◌, Option, Some, None, Result, Ok, Err, OnOk, OnErr, refl, sym, ap, ◌∙◌, subst, append-nil, append_assoc, arith}
use Rattle.std.specs.Prelude.{All, IfSome, IsSome, nat_le, ◌==◌}
use Rattle.std.proofs.lemmas.Bool.Decides.{nat_tests}
use Rattle.mcs_ticks.specs.declared.row.Row.{Row}
use Rattle.mcs_ticks.specs.Given.{Given, GivenUntil}
use Rattle.mcs_merge.specs.Merge.{rows_at, AreFrom, DoNotFall}
use Rattle.mcs_merge.specs.Parts.{first_moment, rows_from, Hold}
use Rattle.mcs_merge.specs.stored.Parts.{AreAt, AreInLine, GoesOn, Pours, IsRefused}
use Rattle.mcs_merge.proofs.Joins.{AreFrom-earlier, rows_at-later}

pub no-moment : (rows : List Row) → first_moment rows ≡ None → rows ≡ []
no-moment [] e = refl
no-moment (row ∷ rows) e = cc

pub on-ok : {T E P Q : Type 0} (r : Result T E) → (P → Q) → OnOk r P → OnOk r Q
on-ok (Ok x) f h = f h
on-ok (Err e) f h = tt

pub on-err : {T E P Q : Type 0} (r : Result T E) → (P → Q) → OnErr r P → OnErr r Q
on-err (Ok x) f h = tt
on-err (Err e) f h = f h

pub if-some : {T : Type 0} {P Q : T → Type 0} (o : Option T) → ((x : T) → o ≡ Some x → P x → Q x) → IfSome o P → IfSome o Q
if-some None f h = tt
if-some (Some x) f h = f x refl h

-- the first part of rows that do not fall
pub DoNotFall-front : (rows more : List Row) → DoNotFall (rows ++ more) → DoNotFall rows
DoNotFall-front [] more h = tt
DoNotFall-front (row ∷ rows) more h = (from rows h.0, DoNotFall-front rows more h.1)
  where
    from : (rows : List Row) → AreFrom row.moment (rows ++ more) → AreFrom row.moment rows
    from [] k = tt
    from (r ∷ rows) k = (k.0, from rows k.1)

-- rows from a moment on
pub from-all : (t : ℕ) (rows : List Row) → AreFrom t rows → rows_from t rows ≡ rows
from-all t [] h = refl
from-all t (row ∷ rows) h = by (nat_le t row.moment) refl (from-all t rows h.1)
  where
    by : (b : Bool) → nat_le t row.moment ≡ b → rows_from t rows ≡ rows → cond b (row ∷ rows_from t rows) (rows_from t rows) ≡ row ∷ rows
    by true e i = ap (λ (xs : List Row). row ∷ xs) i
    by false e i = let first = h.0 in absurd (grind (arith, nat_tests))

pub from-none : (t : ℕ) (row : Row) (rows : List Row) → row.moment < t → rows_from t (row ∷ rows) ≡ rows_from t rows
from-none t row rows l = by (nat_le t row.moment) refl
  where
    by : (b : Bool) → nat_le t row.moment ≡ b → cond b (row ∷ rows_from t rows) (rows_from t rows) ≡ rows_from t rows
    by true e = absurd (grind (arith, nat_tests))
    by false e = refl

-- they stay in order
pub from-AreFrom : (t u : ℕ) (rows : List Row) → AreFrom t rows → AreFrom t (rows_from u rows)
from-AreFrom t u [] h = tt
from-AreFrom t u (row ∷ rows) h = by (nat_le u row.moment) (from-AreFrom t u rows h.1)
  where
    by : (b : Bool) → AreFrom t (rows_from u rows) → AreFrom t (cond b (row ∷ rows_from u rows) (rows_from u rows))
    by true i = (h.0, i)
    by false i = i

pub from-in-order : (u : ℕ) (rows : List Row) → DoNotFall rows → DoNotFall (rows_from u rows)
from-in-order u [] h = tt
from-in-order u (row ∷ rows) h = by (nat_le u row.moment) (from-in-order u rows h.1)
  where
    by : (b : Bool) → DoNotFall (rows_from u rows) → DoNotFall (cond b (row ∷ rows_from u rows) (rows_from u rows))
    by true i = (from-AreFrom row.moment u rows h.0, i)
    by false i = i

pub from-is : (u : ℕ) (rows : List Row) → AreFrom u (rows_from u rows)
from-is u [] = tt
from-is u (row ∷ rows) = by (nat_le u row.moment) refl (from-is u rows)
  where
    by : (b : Bool) → nat_le u row.moment ≡ b → AreFrom u (rows_from u rows) → AreFrom u (cond b (row ∷ rows_from u rows) (rows_from u rows))
    by true e i = (grind (arith, nat_tests), i)
    by false e i = i

pub at-from : (t u : ℕ) (rows : List Row) → u ≤ t → rows_at t (rows_from u rows) ≡ rows_at t rows
at-from t u [] l = refl
at-from t u (row ∷ rows) l = by (nat_le u row.moment) (row.moment == t) refl refl (at-from t u rows l)
  where
    by : (a b : Bool) → nat_le u row.moment ≡ a → (row.moment == t) ≡ b → rows_at t (rows_from u rows) ≡ rows_at t rows →
        rows_at t (cond a (row ∷ rows_from u rows) (rows_from u rows)) ≡ cond b (row ∷ rows_at t rows) (rows_at t rows)
    by true true e f i = ap (λ c. cond c (row ∷ rows_at t (rows_from u rows)) (rows_at t (rows_from u rows))) f ∙ ap (λ (xs : List Row). row ∷ xs) i
    by true false e f i = ap (λ c. cond c (row ∷ rows_at t (rows_from u rows)) (rows_at t (rows_from u rows))) f ∙ i
    by false true e f i = absurd (grind (arith, nat_tests))
    by false false e f i = i

-- rows from a moment on are those of the moment, and then the later ones
pub at-and-from : (t : ℕ) (rows : List Row) → DoNotFall rows → AreFrom t rows → rows ≡ rows_at t rows ++ rows_from (suc t) rows
at-and-from t [] o h = refl
at-and-from t (row ∷ rows) o h = by (row.moment == t) refl (at-and-from t rows o.1 h.1)
  where
    by : (b : Bool) → (row.moment == t) ≡ b → rows ≡ rows_at t rows ++ rows_from (suc t) rows →
        row ∷ rows ≡ cond b (row ∷ rows_at t rows) (rows_at t rows) ++ rows_from (suc t) (row ∷ rows)
    by true e i =
        let l : row.moment < suc t = grind (arith, nat_tests) in
        ap (λ (xs : List Row). row ∷ xs) (i ∙ ap (λ xs. rows_at t rows ++ xs) (sym (from-none (suc t) row rows l)))
    by false e i =
        let from = h.0 in
        let l : suc t ≤ row.moment = grind (arith, nat_tests) in
        let later : AreFrom (suc t) rows = AreFrom-earlier (suc t) row.moment rows l o.0 in
        rw (rows_at-later t (suc t) rows (omega arith) later) (sym (from-all (suc t) (row ∷ rows) (l, later)))

pub AreAt-rows : (t : ℕ) (rows : List Row) → AreAt t (rows_at t rows)
AreAt-rows t [] = tt
AreAt-rows t (row ∷ rows) = by (row.moment == t) refl (AreAt-rows t rows)
  where
    by : (b : Bool) → (row.moment == t) ≡ b → AreAt t (rows_at t rows) → AreAt t (cond b (row ∷ rows_at t rows) (rows_at t rows))
    by true e i = (grind (arith, nat_tests), i)
    by false e i = i

-- if the first row is at a moment, all rows are from it on
pub from-first : (t : ℕ) (rows : List Row) → DoNotFall rows → first_moment rows ≡ Some t → AreFrom t rows
from-first t [] o e = tt
from-first t (row ∷ rows) o e = let is : row.moment ≡ t = cc in (omega arith, subst (λ u. AreFrom u rows) is o.0)

module _ {O : Type 0} {P : Type 0} (takes : O → Row → Bool → O → Type 0) (holds : O → P → List Row → Type 0) (first : P → Option ℕ)
    (is_first : (out : O) (part : P) (rows : List Row) → holds out part rows → first part ≡ first_moment rows)
    (holds_on : (before after : O) (part : P) (rows : List Row) (row : Row) → holds before part rows → takes before row true after → holds after part rows) where
  pub empty-held : (out : O) (part : P) (rows : List Row) → first part ≡ None → holds out part rows → rows ≡ []
  empty-held out part rows e h = no-moment rows (sym (is_first out part rows h) ∙ e)

  -- what parts hold for an output they hold after it was given rows
  pub held-on : (before after : O) (parts : List P) (rows given : List Row) → Hold holds before parts rows → Given takes before given after → Hold holds after parts rows
  held-on before after [] rows given h g = h
  held-on before after (part ∷ parts) rows given h g =
      (h.0, h.1, h.2, one given before h.3 g, held-on before after parts h.1 given h.4 g)
    where
      one : (given : List Row) (before : O) → holds before part h.0 → Given takes before given after → holds after part h.0
      one [] before k g = subst (λ out. holds out part h.0) g k
      one (row ∷ given) before k g = one given g.0 (holds_on before g.0 part h.0 row k g.1) g.2

  -- a part is added: if it is empty, ..
  pub adds-none : (out : O) (parts : List P) (part : P) (rows more : List Row) → first part ≡ None → Hold holds out parts rows → holds out part more → Hold holds out parts (rows ++ more)
  adds-none out parts part rows more e h k =
      subst (Hold holds out parts) (sym (ap (λ xs. rows ++ xs) (empty-held out part more e k) ∙ append-nil rows)) h

  -- .. if no row waits, ..
  pub adds-first : (out : O) (front part : P) (later : List P) (rows more : List Row) → first front ≡ None → later ≡ [] → Hold holds out (front ∷ later) rows → holds out part more →
      Hold holds out (part ∷ later) (rows ++ more)
  adds-first out front part later rows more e l h k =
      let mine : h.0 ≡ [] = empty-held out front h.0 e h.3 in
      let rest : h.1 ≡ [] = subst (λ parts. Hold holds out parts h.1) l h.4 in
      let none : rows ≡ [] = h.2 ∙ ap (λ xs. xs ++ h.1) mine ∙ rest in
      (more, [], ap (λ xs. xs ++ more) none ∙ sym (append-nil more), k, subst (λ parts. Hold holds out parts []) (sym l) refl)

  -- .. and behind others
  pub adds-behind : (out : O) (parts : List P) (part : P) (rows more : List Row) → Hold holds out parts rows → holds out part more → Hold holds out (parts ++ part ∷ []) (rows ++ more)
  adds-behind out [] part rows more h k = (more, [], ap (λ xs. xs ++ more) h ∙ sym (append-nil more), k, refl)
  adds-behind out (front ∷ parts) part rows more h k =
      (h.0, h.1 ++ more, ap (λ xs. xs ++ more) h.2 ∙ append_assoc h.0 h.1 more, h.3, adds-behind out parts part h.1 more h.4 k)

  -- an empty front may be dropped
  pub goes-on : (out : O) (front : P) (later after : List P) (rows : List Row) → GoesOn first (front ∷ later) after → Hold holds out (front ∷ later) rows → Hold holds out after rows
  goes-on out front later after rows (inl e) h = subst (λ parts. Hold holds out parts rows) (sym e) h
  goes-on out front later after rows (inr e) h =
      let mine : h.0 ≡ [] = empty-held out front h.0 e.0 h.3 in
      subst (λ parts. Hold holds out parts rows) (sym e.1)
      (subst (Hold holds out later) (sym (h.2 ∙ ap (λ xs. xs ++ h.1) mine)) h.4)

  -- the first moment of the front is given
  pub pours : (out out' : O) (front front' : P) (later after : List P) (rows : List Row) → DoNotFall rows → (h : Hold holds out (front ∷ later) rows) → GoesOn first (front' ∷ later) after →
      IfSome (first front) (λ t. Given takes out (rows_at t h.0) out' × holds out' front' (rows_from (suc t) h.0)) →
      IfSome (first front) (λ t. Pours takes holds t rows out out' after)
  pours out out' front front' later after rows o h k given =
      if-some (first front) (λ t e g.
      let mine : DoNotFall h.0 = DoNotFall-front h.0 h.1 (subst DoNotFall h.2 o) in
      let from : AreFrom t h.0 = from-first t h.0 mine (sym (is_first out front h.0 h.3) ∙ e) in
      record {
        now = rows_at t h.0;
        rest = rows_from (suc t) h.0 ++ h.1;
        split = h.2 ∙ ap (λ xs. xs ++ h.1) (at-and-from t h.0 mine from) ∙ append_assoc (rows_at t h.0) (rows_from (suc t) h.0) h.1;
        at = AreAt-rows t h.0;
        given = g.0;
        left = goes-on out' front' later after (rows_from (suc t) h.0 ++ h.1) k
            (rows_from (suc t) h.0, h.1, refl, g.1, held-on out out' later h.1 (rows_at t h.0) h.4 g.0);
      }) given

  pub refuses : (out out' : O) (front : P) (later : List P) (rows : List Row) → DoNotFall rows → (h : Hold holds out (front ∷ later) rows) →
      IfSome (first front) (λ t. GivenUntil takes out (rows_at t h.0) out') → IfSome (first front) (λ t. IsRefused takes holds t rows out out')
  refuses out out' front later rows o h given =
      if-some (first front) (λ t e g.
      let mine : DoNotFall h.0 = DoNotFall-front h.0 h.1 (subst DoNotFall h.2 o) in
      let from : AreFrom t h.0 = from-first t h.0 mine (sym (is_first out front h.0 h.3) ∙ e) in
      record {
        now = rows_at t h.0;
        rest = rows_from (suc t) h.0 ++ h.1;
        split = h.2 ∙ ap (λ xs. xs ++ h.1) (at-and-from t h.0 mine from) ∙ append_assoc (rows_at t h.0) (rows_from (suc t) h.0) h.1;
        at = AreAt-rows t h.0;
        given = g;
      }) given

pub none-is-some : {T : Type 0} (o : Option T) → IsSome o → o ≡ None → ⊥
none-is-some None h e = cc
none-is-some (Some x) h e = cc

-- the next part becomes the front
pub in-line : {P : Type 0} (first : P → Option ℕ) (front next : P) (all later : List P) → All (λ part. IsSome (first part)) all → all ≡ next ∷ later → first front ≡ None →
    AreInLine first next later (Some front)
in-line {P} first front next all later h e none =
    let lies : All (λ part. IsSome (first part)) (next ∷ later) = subst (All (λ part. IsSome (first part))) e h in
    record { behind = λ k d l. lies (suc k) d (omega arith); in_line = λ other. absurd (none-is-some (first next) (lies 0 next (omega arith)) other); unused = none }
