-- What is kept of the slow answers of the latest moment, and all slow answers.
use Rattle.std.proofs.Common.{◌≡◌, ◌∙◌, ◌++◌, ◌∷◌, [], ℕ, suc, ◌<◌, ◌≤◌, ◌==◌, Bool, true, false, List, Option, Some, None, filter, map, nat_lt, refl, ap, ap₂, append-nil, sym, arith}
use Rattle.std.proofs.lemmas.Bool.Decides.{nat_tests}
use Rattle.std.proofs.lemmas.List.Elements.{filter-append}
use Rattle.mcs_ticks.specs.declared.row.Row.{Row}
use Rattle.mcs_system.specs.declared.part.ChainPart.{ChainPart}
use Rattle.mcs_system.specs.System.{System}
use Rattle.mcs_verdict.specs.Findings.{UpTo}
use Rattle.mcs_verdict.proofs.Orders.{up_to-later}
use Rattle.mcs_chain.specs.declared.finding.Finding.{Finding}
use Rattle.mcs_chain.specs.declared.finding.Found.{Found}
use Rattle.mcs_chain.specs.declared.one.Late.{Late}
use Rattle.mcs_chain.specs.Answers.{slow}
use Rattle.mcs_chain.specs.Found.{all_slow, found_at, slow_in}
use Rattle.mcs_chain.specs.Watch.{all_due, is_due, late_at, lately, one_of, told}

-- rows in order, the latest first
abbrev pub AreOrdered : List Row → Type 0
AreOrdered [] = Unit {0}
AreOrdered (r ∷ past) = UpTo r.moment past × AreOrdered past

-- those at a time
abbrev pub late_then : ℕ → List Late → List Late
late_then m ls = filter (λ (l : Late). l.moment == m) ls

abbrev pub found_then : ℕ → List Found → List Found
found_then m fs = filter (λ (f : Found). f.moment == m) fs

abbrev MostLate : ℕ → List Late → Type 0
MostLate m [] = Unit {0}
MostLate m (l ∷ ls) = (l.moment ≤ m) × MostLate m ls

most-filter : (m k : ℕ) (ls : List Late) → MostLate m ls → MostLate m (late_then k ls)
most-filter m k [] h = tt
most-filter m k (l ∷ ls) h = by (l.moment == k) refl (most-filter m k ls h.1)
  where
    by : (b : Bool) → (l.moment == k) ≡ b → MostLate m (late_then k ls) → MostLate m (late_then k (l ∷ ls))
    by true t rest = rw t (h.0, rest)
    by false t rest = rw t rest

most-more : (m k : ℕ) (ls : List Late) → m ≤ k → MostLate m ls → MostLate k ls
most-more m k [] l h = tt
most-more m k (x ∷ ls) l h = (omega (arith, l, h.0), most-more m k ls l h.1)

most-join : (m : ℕ) (xs ys : List Late) → MostLate m xs → MostLate m ys → MostLate m (xs ++ ys)
most-join m [] ys h g = g
most-join m (x ∷ xs) ys h g = (h.0, most-join m xs ys h.1 g)

most-one : (m c : ℕ) (f : Option Finding) → MostLate m (late_at m c f)
most-one m c None = tt
most-one m c (Some f) = (omega arith, tt)

-- of those at most at r, those at r and at m are those at m if m is not before r
then-again : (m r : ℕ) (ls : List Late) → r ≤ m → MostLate r ls → late_then m (late_then r ls) ≡ late_then m ls
then-again m r [] l h = refl
then-again m r (x ∷ ls) l h = by (x.moment == r) (x.moment == m) refl refl (then-again m r ls l h.1)
  where
    by : (b c : Bool) → (x.moment == r) ≡ b → (x.moment == m) ≡ c → late_then m (late_then r ls) ≡ late_then m ls
        → late_then m (late_then r (x ∷ ls)) ≡ late_then m (x ∷ ls)
    by true true s t rest = rw (s, t) (ap (λ ys. x ∷ ys) rest)
    by true false s t rest = rw (s, t) rest
    by false false s t rest = rw (s, t) rest
    by false true s t rest =
        let yes : (x.moment == r) ≡ true = grind (arith, nat_tests, t, l, h.0) in
        let no : true ≡ false = sym yes ∙ s in
        cc

map-join : {X Y : Type 0} (f : X → Y) (xs ys : List X) → map f (xs ++ ys) ≡ map f xs ++ map f ys
map-join f [] ys = refl
map-join f (x ∷ xs) ys = ap (λ l. f x ∷ l) (map-join f xs ys)

one-then : (m moment core n : ℕ) (f : Option Finding) → found_then m (found_at moment core n f) ≡ map (told n) (late_then m (late_at moment core f))
one-then m moment core n None = refl
one-then m moment core n (Some f) = by (moment == m) refl
  where
    by : (b : Bool) → (moment == m) ≡ b → found_then m (found_at moment core n (Some f)) ≡ map (told n) (late_then m (late_at moment core (Some f)))
    by true t = rw t refl
    by false t = rw t refl

module _ (system : System) (n : ℕ) (chain : ChainPart) where
  most-lately : (m : ℕ) (past : List Row) → UpTo m past → AreOrdered past → MostLate m (lately system chain past)
  most-lately m [] up order = tt
  most-lately m (r ∷ past) up order =
      most-more r.moment m _ (up-first m r past up)
      (most-join r.moment (late_then r.moment (lately system chain past)) (late_at r.moment r.core (slow system chain past r))
      (most-filter r.moment r.moment (lately system chain past) (most-lately r.moment past order.0 order.1)) (most-one r.moment r.core (slow system chain past r)))
    where
      up-first : (m : ℕ) (r : Row) (past : List Row) → UpTo m (r ∷ past) → r.moment ≤ m
      up-first m r past up = omega (arith, up.0)

  -- the slow answers at a time that no row is after are among those that are kept
  then-kept : (m : ℕ) (past : List Row) → UpTo m past → AreOrdered past
      → found_then m (slow_in system n chain past) ≡ map (told n) (late_then m (lately system chain past))
  then-kept m [] up order = refl
  then-kept m (r ∷ past) up order =
      let new = slow system chain past r in
      let kept = lately system chain past in
      let last : r.moment ≤ m = omega (arith, up.0) in
      filter-append (λ (f : Found). f.moment == m) (slow_in system n chain past) (found_at r.moment r.core n new)
      ∙ ap₂ (λ a b. a ++ b) (then-kept m past (up_to-later r.moment m past last up.1) order.1 ∙ ap (map (told n)) (sym (then-again m r.moment kept last (most-lately r.moment past order.0 order.1))))
      (one-then m r.moment r.core n new)
      ∙ sym (map-join (told n) (late_then m (late_then r.moment kept)) (late_then m (late_at r.moment r.core new)))
      ∙ ap (map (told n)) (sym (filter-append (λ (l : Late). l.moment == m) (late_then r.moment kept) (late_at r.moment r.core new)))

abbrev LateAt : ℕ → List Late → Type 0
LateAt m [] = Unit {0}
LateAt m (l ∷ ls) = (l.moment ≡ m) × LateAt m ls

late-then-at : (m : ℕ) (ls : List Late) → LateAt m (late_then m ls)
late-then-at m [] = tt
late-then-at m (l ∷ ls) = by (l.moment == m) refl (late-then-at m ls)
  where
    by : (b : Bool) → (l.moment == m) ≡ b → LateAt m (late_then m ls) → LateAt m (late_then m (l ∷ ls))
    by true t rest = rw t (grind (arith, nat_tests, t), rest)
    by false t rest = rw t rest

late-one-at : (m c : ℕ) (f : Option Finding) → LateAt m (late_at m c f)
late-one-at m c None = tt
late-one-at m c (Some f) = (refl, tt)

late-join-at : (m : ℕ) (xs ys : List Late) → LateAt m xs → LateAt m ys → LateAt m (xs ++ ys)
late-join-at m [] ys h g = g
late-join-at m (x ∷ xs) ys h g = (h.0, late-join-at m xs ys h.1 g)

all-then : (m : ℕ) (ls : List Late) → LateAt m ls → late_then m ls ≡ ls
all-then m [] h = refl
all-then m (l ∷ ls) h = let t : (l.moment == m) ≡ true = grind (arith, nat_tests, h.0) in rw t (ap (λ ys. l ∷ ys) (all-then m ls h.1))

due-ever : (ls : List Late) → filter (λ (l : Late). is_due None l.moment) ls ≡ ls
due-ever [] = refl
due-ever (l ∷ ls) = ap (λ ys. l ∷ ys) (due-ever ls)

due-now : (m : ℕ) (ls : List Late) → LateAt m ls → filter (λ (l : Late). is_due (Some m) l.moment) ls ≡ []
due-now m [] h = refl
due-now m (l ∷ ls) h = let t : nat_lt l.moment m ≡ false = grind (arith, nat_tests, h.0) in rw t (due-now m ls h.1)

due-later : (k m : ℕ) (ls : List Late) → k < m → LateAt k ls → filter (λ (l : Late). is_due (Some m) l.moment) ls ≡ ls
due-later k m [] less h = refl
due-later k m (l ∷ ls) less h = let t : nat_lt l.moment m ≡ true = grind (arith, nat_tests, less, h.0) in rw t (ap (λ ys. l ∷ ys) (due-later k m ls less h.1))

lately-at : (system : System) (chain : ChainPart) (past : List Row) (r : Row) → LateAt r.moment (lately system chain (r ∷ past))
lately-at system chain past r =
    late-join-at r.moment (late_then r.moment (lately system chain past)) (late_at r.moment r.core (slow system chain past r))
    (late-then-at r.moment (lately system chain past)) (late-one-at r.moment r.core (slow system chain past r))

-- those before a time
abbrev pub found_before : ℕ → List Found → List Found
found_before m fs = filter (λ (f : Found). nat_lt f.moment m) fs

one-before : (m core n : ℕ) (f : Option Finding) → found_before m (found_at m core n f) ≡ []
one-before m core n None = refl
one-before m core n (Some f) = let t : nat_lt m m ≡ false = grind (arith, nat_tests) in rw t refl

abbrev pub MostFound : ℕ → List Found → Type 0
MostFound m [] = Unit {0}
MostFound m (f ∷ fs) = (f.moment ≤ m) × MostFound m fs

found-join : (m : ℕ) (xs ys : List Found) → MostFound m xs → MostFound m ys → MostFound m (xs ++ ys)
found-join m [] ys h g = g
found-join m (x ∷ xs) ys h g = (h.0, found-join m xs ys h.1 g)

found-one : (m k core n : ℕ) (f : Option Finding) → k ≤ m → MostFound m (found_at k core n f)
found-one m k core n None l = tt
found-one m k core n (Some f) l = (l, tt)

most-slow : (system : System) (n : ℕ) (chain : ChainPart) (m : ℕ) (past : List Row) → UpTo m past → MostFound m (slow_in system n chain past)
most-slow system n chain m [] up = tt
most-slow system n chain m (r ∷ past) up =
    found-join m (slow_in system n chain past) (found_at r.moment r.core n (slow system chain past r)) (most-slow system n chain m past (up_to-later r.moment m past up.0 up.1))
    (found-one m r.moment r.core n (slow system chain past r) up.0)

module _ (system : System) where
  pub most-all : (m : ℕ) (past : List Row) (n : ℕ) (chains : List ChainPart) → UpTo m past → MostFound m (all_slow system past n chains)
  most-all m past n [] up = tt
  most-all m past n (chain ∷ chains) up =
      found-join m (slow_in system n chain past) (all_slow system past (suc n) chains) (most-slow system n chain m past up) (most-all m past (suc n) chains up)

  -- before the first row there is none
  pub none-slow-yet : (n : ℕ) (chains : List ChainPart) → all_slow system [] n chains ≡ []
  none-slow-yet n [] = refl
  none-slow-yet n (chain ∷ chains) = none-slow-yet (suc n) chains

  pub none-due-yet : (before : Option ℕ) (n : ℕ) (chains : List ChainPart) → all_due before n (map (λ chain. one_of system chain []) chains) ≡ []
  none-due-yet before n [] = refl
  none-due-yet before n (chain ∷ chains) = none-due-yet before (suc n) chains

  module _ (r : Row) (past : List Row) where
    -- all slow answers that are kept are at the latest row's time
    pub kept-then : (n : ℕ) (chains : List ChainPart) → UpTo r.moment past → AreOrdered past
        → found_then r.moment (all_slow system (r ∷ past) n chains) ≡ all_due None n (map (λ chain. one_of system chain (r ∷ past)) chains)
    kept-then n [] up order = refl
    kept-then n (chain ∷ chains) up order =
        let kept = lately system chain (r ∷ past) in
        filter-append (λ (f : Found). f.moment == r.moment) (slow_in system n chain (r ∷ past)) (all_slow system (r ∷ past) (suc n) chains)
        ∙ ap₂ (λ a b. a ++ b)
        (then-kept system n chain r.moment (r ∷ past) (omega arith, up) (up, order)
        ∙ ap (map (told n)) (all-then r.moment kept (lately-at system chain past r) ∙ sym (due-ever kept)))
        (kept-then (suc n) chains up order)

    pub none-due-now : (n : ℕ) (chains : List ChainPart) → all_due (Some r.moment) n (map (λ chain. one_of system chain (r ∷ past)) chains) ≡ []
    none-due-now n [] = refl
    none-due-now n (chain ∷ chains) =
        ap₂ (λ a b. map (told n) a ++ b) (due-now r.moment (lately system chain (r ∷ past)) (lately-at system chain past r)) (none-due-now (suc n) chains)

    pub all-due-later : (m n : ℕ) (chains : List ChainPart) → r.moment < m
        → all_due (Some m) n (map (λ chain. one_of system chain (r ∷ past)) chains) ≡ all_due None n (map (λ chain. one_of system chain (r ∷ past)) chains)
    all-due-later m n [] less = refl
    all-due-later m n (chain ∷ chains) less =
        let kept = lately system chain (r ∷ past) in
        ap₂ (λ a b. map (told n) a ++ b) (due-later r.moment m kept less (lately-at system chain past r) ∙ sym (due-ever kept)) (all-due-later m (suc n) chains less)

    pub before-same : (n : ℕ) (chains : List ChainPart) → found_before r.moment (all_slow system (r ∷ past) n chains) ≡ found_before r.moment (all_slow system past n chains)
    before-same n [] = refl
    before-same n (chain ∷ chains) =
        let earlier = slow_in system n chain past in
        let new = found_at r.moment r.core n (slow system chain past r) in
        let is_before : Found → Bool = λ f. nat_lt f.moment r.moment in
        filter-append is_before (earlier ++ new) (all_slow system (r ∷ past) (suc n) chains)
        ∙ ap₂ (λ a b. a ++ b)
        (filter-append is_before earlier new ∙ ap (λ l. filter is_before earlier ++ l) (one-before r.moment r.core n (slow system chain past r)) ∙ append-nil (filter is_before earlier))
        (before-same (suc n) chains)
        ∙ sym (filter-append is_before earlier (all_slow system past (suc n) chains))
