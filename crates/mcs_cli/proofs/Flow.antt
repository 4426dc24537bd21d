-- A target's bytes, and those that wait, after rows were given to a sink that writes their lines.
use Rattle.std.proofs.Common.{◌≡◌, ◌∙◌, ◌++◌, ℕ, Bool, true, false, List, [], ◌∷◌, Option, Result, Ok, Err, OnOk, OnErr, IfErr, inl, inr, length, take, drop, refl, ap, sym, subst, append_assoc, append-nil, take-append-drop, flat_map}
use Rattle.std.specs.Io.KnownBytes.{Appends}
use Rattle.std.proofs.KnownBytes.{Appends-nil, Appends-trans}
use Rattle.mcs_ticks.specs.declared.row.Row.{Row}
use Rattle.mcs_ticks.specs.Given.{Given, GivenUntil, GivenSome}
use Rattle.mcs_cli.specs.Devices.{AppendsPrefix}
use Rattle.mcs_cli.specs.Flow.{AppendsBefore, IsWriteFault, TakesLine}
use Rattle.mcs_cli.specs.declared.fault.RunFault.{RunFault}
use Rattle.mcs_cli.specs.declared.fault.RunFault.TheVariants as fault
use Rattle.mcs_team.specs.declared.run.SimFault.TheVariants.{NoMemory}

take-front : (xs ys : List ℕ) → take (length xs) (xs ++ ys) ≡ xs
take-front [] ys = refl
take-front (x ∷ xs) ys = ap (λ l. x ∷ l) (take-front xs ys)

flat_map-append : {A : Type 0} (f : A → List ℕ) (xs ys : List A) → flat_map f (xs ++ ys) ≡ flat_map f xs ++ flat_map f ys
flat_map-append f [] ys = refl
flat_map-append f (x ∷ xs) ys = ap (λ l. f x ++ l) (flat_map-append f xs ys) ∙ sym (append_assoc (f x) (flat_map f xs) (flat_map f ys))

pub before-none : (a : Option (List ℕ)) (xs : List ℕ) → AppendsBefore a a xs xs
before-none a xs = ([], Appends-nil a, refl)

-- more bytes come, and wait too
pub before-longer : (a b : Option (List ℕ)) (xs rest ys : List ℕ) → AppendsBefore a b xs rest → AppendsBefore a b (xs ++ ys) (rest ++ ys)
before-longer a b xs rest ys p = (p.0, p.1, ap (λ l. l ++ ys) p.2 ∙ append_assoc p.0 rest ys)

-- of the bytes that wait some are written
pub before-then : (a b c : Option (List ℕ)) (xs waits rest : List ℕ) → AppendsBefore a b xs waits → AppendsBefore b c waits rest → AppendsBefore a c xs rest
before-then a b c xs waits rest p q =
    (p.0 ++ q.0, Appends-trans a b c p.0 q.0 p.1 q.1, p.2 ∙ ap (λ l. p.0 ++ l) q.2 ∙ sym (append_assoc p.0 q.0 rest))

-- all are written
pub before-all : (a b c : Option (List ℕ)) (xs rest : List ℕ) → AppendsBefore a b xs rest → Appends b c rest → Appends a c xs
before-all a b c xs rest p q = subst (Appends a c) (sym p.2) (Appends-trans a b c p.0 rest p.1 q)

-- all are written if no call failed
pub ok-then : {U E : Type 0} (a b c : Option (List ℕ)) (xs rest : List ℕ) (r : Result U E) → AppendsBefore a b xs rest → OnOk r (Appends b c rest)
    → OnOk r (Appends a c xs)
ok-then a b c xs rest (Ok u) p q = before-all a b c xs rest p q
ok-then a b c xs rest (Err f) p q = tt

pub prefix-before : (a b : Option (List ℕ)) (xs rest : List ℕ) → AppendsBefore a b xs rest → AppendsPrefix a b xs
prefix-before a b xs rest p =
    (length p.0, subst (Appends a b) (sym (ap (take (length p.0)) p.2 ∙ take-front p.0 rest)) p.1)

pub before-prefix : (a b : Option (List ℕ)) (xs : List ℕ) (p : AppendsPrefix a b xs) → AppendsBefore a b xs (drop p.0 xs)
before-prefix a b xs p = (take p.0 xs, p.1, sym (take-append-drop p.0 xs))

-- a first part of a first part
pub prefix-longer : (a b : Option (List ℕ)) (xs ys : List ℕ) → AppendsPrefix a b xs → AppendsPrefix a b (xs ++ ys)
prefix-longer a b xs ys p =
    prefix-before a b (xs ++ ys) (drop p.0 xs ++ ys) (before-longer a b xs (drop p.0 xs) ys (before-prefix a b xs p))

pub prefix-then : (a b c : Option (List ℕ)) (xs rest : List ℕ) → AppendsBefore a b xs rest → AppendsPrefix b c rest → AppendsPrefix a c xs
prefix-then a b c xs rest p q =
    prefix-before a c xs (drop q.0 rest) (before-then a b c xs rest (drop q.0 rest) p (before-prefix b c rest q))

-- what waits is written, and then more bytes, without a wait
pub written-through : {U E : Type 0} (a b c : Option (List ℕ)) (xs rest ys : List ℕ) (r : Result U E) → AppendsBefore a b xs rest → rest ≡ []
    → OnOk r (Appends b c ys) → OnOk r (AppendsBefore a c (xs ++ ys) rest)
written-through a b c xs rest ys (Ok u) p e q =
    let waits : AppendsBefore a b (xs ++ ys) ys = subst (λ l. AppendsBefore a b (xs ++ ys) (l ++ ys)) e (before-longer a b xs rest ys p) in
    subst (AppendsBefore a c (xs ++ ys)) (sym e) (xs ++ ys, before-all a b c (xs ++ ys) ys waits q, sym (append-nil (xs ++ ys)))
written-through a b c xs rest ys (Err f) p e q = tt

-- .. or a first part of them
pub refused-through : {U E : Type 0} (a b c : Option (List ℕ)) (xs rest ys : List ℕ) (r : Result U E) → AppendsBefore a b xs rest → rest ≡ []
    → OnErr r (AppendsPrefix b c ys) → OnErr r (AppendsPrefix a c (xs ++ ys))
refused-through a b c xs rest ys (Ok u) p e q = tt
refused-through a b c xs rest ys (Err f) p e q =
    prefix-then a b c (xs ++ ys) ys (subst (λ l. AppendsBefore a b (xs ++ ys) (l ++ ys)) e (before-longer a b xs rest ys p)) q

-- A sink, what its target has, what waits, and the line of a row; what stays in it after each row,
-- and after each that it takes.
module _ {S : Type 0} (takes : S → Row → Bool → S → Type 0) (contents : S → Option (List ℕ)) (text : S → List ℕ)
    (line : Row → List ℕ) (Kept Working : S → Type 0)
    (step : (s t : S) (row : Row) (taken : Bool) → Kept s → takes s row taken t →
    Kept t × (taken ≡ true → Working s → Working t) × TakesLine (contents s) (contents t) (text s) (text t) (line row) taken) where
  pub given_streams : (s t : S) (rows : List Row) → Kept s → Working s → Given takes s rows t →
      Kept t × Working t × AppendsBefore (contents s) (contents t) (text s ++ flat_map line rows) (text t)
  given_streams s t [] kept working g =
      subst (λ u. Kept u × Working u × AppendsBefore (contents s) (contents u) (text s ++ []) (text u)) g
      (kept, working, subst (λ l. AppendsBefore (contents s) (contents s) l (text s)) (sym (append-nil (text s))) (before-none (contents s) (text s)))
  given_streams s t (row ∷ rows) kept working g =
      let m = g.0 in
      let one = step s m row true kept g.1 in
      let more = given_streams m t rows one.0 (one.1 refl working) g.2 in
      let longer = before-longer _ _ _ _ (flat_map line rows) one.2 in
      let both = before-then _ _ _ _ _ _ longer more.2 in
      (more.0, more.1, subst (λ l. AppendsBefore (contents s) (contents t) l (text t)) (append_assoc (text s) (line row) (flat_map line rows)) both)

  pub until_streams : (s t : S) (rows : List Row) → Kept s → GivenUntil takes s rows t →
      Kept t × AppendsPrefix (contents s) (contents t) (text s ++ flat_map line rows)
  until_streams s t [] kept g = absurd g
  until_streams s t (row ∷ rows) kept (inl refused) =
      let one = step s t row false kept refused in
      let longer = prefix-longer _ _ _ (flat_map line rows) one.2 in
      (one.0, subst (AppendsPrefix (contents s) (contents t)) (append_assoc (text s) (line row) (flat_map line rows)) longer)
  until_streams s t (row ∷ rows) kept (inr g) =
      let m = g.0 in
      let one = step s m row true kept g.1 in
      let more = until_streams m t rows one.0 g.2 in
      let longer = before-longer _ _ _ _ (flat_map line rows) one.2 in
      let both = prefix-then _ _ _ _ _ longer more.1 in
      (more.0, subst (AppendsPrefix (contents s) (contents t)) (append_assoc (text s) (line row) (flat_map line rows)) both)

  pub some_streams : (s t : S) (rows : List Row) → Kept s → Working s → GivenSome takes s rows t →
      Kept t × Working t × AppendsPrefix (contents s) (contents t) (text s ++ flat_map line rows)
  some_streams s t rows kept working g =
      let given = given_streams s t g.0 kept working g.3 in
      let begun = prefix-before _ _ _ _ given.2 in
      let longer = prefix-longer _ _ _ (flat_map line g.1) begun in
      let all : (text s ++ flat_map line g.0) ++ flat_map line g.1 ≡ text s ++ flat_map line rows =
      append_assoc (text s) (flat_map line g.0) (flat_map line g.1)
      ∙ ap (λ l. text s ++ l) (sym (flat_map-append line g.0 g.1) ∙ ap (flat_map line) (sym g.2))
      in
      (given.0, given.1, subst (AppendsPrefix (contents s) (contents t)) all longer)

-- what is so of a sink that has refused a row
pub until_ends : {S : Type 0} (takes : S → Row → Bool → S → Type 0) (Ends : S → Type 0)
    (refuses : (s t : S) (row : Row) → takes s row false t → Ends t) (s t : S) (rows : List Row) → GivenUntil takes s rows t → Ends t
until_ends takes Ends refuses s t [] g = absurd g
until_ends takes Ends refuses s t (row ∷ rows) (inl refused) = refuses s t row refused
until_ends takes Ends refuses s t (row ∷ rows) (inr g) = until_ends takes Ends refuses g.0 t rows g.2

-- what a fault says of the output it says of a longer one
pub fault-longer : (a b : Option (List ℕ)) (failed : Bool) (xs ys : List ℕ) (f : RunFault) → IsWriteFault a b failed xs f → IsWriteFault a b failed (xs ++ ys) f
fault-longer a b failed xs ys fault.Read p = absurd p
fault-longer a b failed xs ys (fault.Load f) p = absurd p
fault-longer a b failed xs ys (fault.Sim f) p = (p.0, prefix-longer a b xs ys p.1)
fault-longer a b failed xs ys fault.Write p = (p.0, prefix-longer a b xs ys p.1)

-- the text that waits is not written whole
pub fault-then : {U : Type 0} (a b c : Option (List ℕ)) (failed : Bool) (xs rest : List ℕ) (r : Result U RunFault) → AppendsBefore a b xs rest
    → OnErr r (AppendsPrefix b c rest) → IfErr r (λ f. (f ≡ fault.Write) × (failed ≡ true)) → IfErr r (IsWriteFault a c failed xs)
fault-then a b c failed xs rest (Ok u) p q e = tt
fault-then a b c failed xs rest (Err f) p q e =
    subst (IsWriteFault a c failed xs) (sym e.0) (e.1, prefix-then a b c xs rest p q)

-- memory ran out after a first part of the output
pub fault-memory : {U : Type 0} (a b : Option (List ℕ)) (failed : Bool) (xs : List ℕ) (r : Result U RunFault) → failed ≡ false → AppendsPrefix a b xs
    → IfErr r (λ f. f ≡ fault.Sim NoMemory) → IfErr r (IsWriteFault a b failed xs)
fault-memory a b failed xs (Ok u) working written e = tt
fault-memory a b failed xs (Err f) working written e =
    subst (IsWriteFault a b failed xs) (sym e) (working, written)

-- there is no memory for the reports after the rows
pub fault-last : {U : Type 0} (a b : Option (List ℕ)) (failed : Bool) (xs ys rest : List ℕ) (r : Result U RunFault) → AppendsBefore a b xs rest → failed ≡ false
    → IfErr r (λ f. f ≡ fault.Sim NoMemory) → IfErr r (IsWriteFault a b failed (xs ++ ys))
fault-last a b failed xs ys rest r p working e =
    fault-memory a b failed (xs ++ ys) r working (prefix-longer a b xs ys (prefix-before a b xs rest p)) e
