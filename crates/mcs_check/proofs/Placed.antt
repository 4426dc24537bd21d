-- Lines that are placed at their times.
use Rattle.std.proofs.Common.{◌≡◌, ◌∙◌, ◌++◌, ◌∷◌, [], ℕ, ◌<◌, ◌≤◌, ◌==◌, Bool, true, false, List, filter, nat_lt, refl, ap, subst, sym, append_assoc, append-nil, arith}
use Rattle.std.specs.Prelude.{fold}
use Rattle.std.proofs.lemmas.Bool.Decides.{nat_tests}
use Rattle.mcs_check_lines.specs.Chains.{Entry, placed}

-- all of these are at most at this time, at it, or later
abbrev pub AtMost : ℕ → List Entry → Type 0
AtMost m [] = Unit {0}
AtMost m (e ∷ es) = (e.0 ≤ m) × AtMost m es

abbrev pub AreAt : ℕ → List Entry → Type 0
AreAt m [] = Unit {0}
AreAt m (e ∷ es) = (e.0 ≡ m) × AreAt m es

abbrev AreLater : ℕ → List Entry → Type 0
AreLater m [] = Unit {0}
AreLater m (e ∷ es) = (m < e.0) × AreLater m es

-- those before this time, and those at it
abbrev pub before : ℕ → List Entry → List Entry
before m es = filter (λ e. nat_lt e.0 m) es

abbrev pub at : ℕ → List Entry → List Entry
at m es = filter (λ e. e.0 == m) es

later-than : (s m : ℕ) (es : List Entry) → s < m → AreAt m es → AreLater s es
later-than s m [] l h = tt
later-than s m (e ∷ es) l h = (omega (arith, h.0), later-than s m es l h.1)

-- a line goes before those that are later
place-in-front : (s : Entry) (es ls : List Entry) → AreLater s.0 ls → placed s (es ++ ls) ≡ placed s es ++ ls
place-in-front s [] [] h = refl
place-in-front s [] (l ∷ ls) h = let t : nat_lt s.0 l.0 ≡ true = grind (arith, nat_tests, h.0) in rw t refl
place-in-front s (e ∷ es) ls h = by (nat_lt s.0 e.0) refl (place-in-front s es ls h)
  where
    by : (b : Bool) → nat_lt s.0 e.0 ≡ b → placed s (es ++ ls) ≡ placed s es ++ ls → placed s ((e ∷ es) ++ ls) ≡ placed s (e ∷ es) ++ ls
    by true t rest = rw t refl
    by false t rest = rw t (ap (λ l. e ∷ l) rest)

-- and behind those that are not
place-last : (s : Entry) (es : List Entry) → AtMost s.0 es → placed s es ≡ es ++ s ∷ []
place-last s [] h = refl
place-last s (e ∷ es) h = let t : nat_lt s.0 e.0 ≡ false = grind (arith, nat_tests, h.0) in rw t (ap (λ l. e ∷ l) (place-last s es h.1))

most-placed : (m : ℕ) (s : Entry) (es : List Entry) → s.0 ≤ m → AtMost m es → AtMost m (placed s es)
most-placed m s [] l h = (l, tt)
most-placed m s (e ∷ es) l h = by (nat_lt s.0 e.0) refl (most-placed m s es l h.1)
  where
    by : (b : Bool) → nat_lt s.0 e.0 ≡ b → AtMost m (placed s es) → AtMost m (placed s (e ∷ es))
    by true t rest = rw t (l, h)
    by false t rest = rw t (h.0, rest)

pub most-append : (m : ℕ) (es ls : List Entry) → AtMost m es → AtMost m ls → AtMost m (es ++ ls)
most-append m [] ls h g = g
most-append m (e ∷ es) ls h g = (h.0, most-append m es ls h.1 g)

at-most : (m : ℕ) (es : List Entry) → AreAt m es → AtMost m es
at-most m [] h = tt
at-most m (e ∷ es) h = (omega (arith, h.0), at-most m es h.1)

pub at-append : (m : ℕ) (es ls : List Entry) → AreAt m es → AreAt m ls → AreAt m (es ++ ls)
at-append m [] ls h g = g
at-append m (e ∷ es) ls h g = (h.0, at-append m es ls h.1 g)

-- those before a time are placed among the others, those at it behind all
pub placed-apart : (m : ℕ) (es ls ss : List Entry) → AtMost m es → AreAt m ls → AtMost m ss
    → fold (λ all s. placed s all) (es ++ ls) ss ≡ fold (λ all s. placed s all) es (before m ss) ++ (ls ++ at m ss)
placed-apart m es ls [] h g l = ap (λ x. es ++ x) (sym (append-nil ls))
placed-apart m es ls (s ∷ ss) h g l = by (nat_lt s.0 m) refl (λ es ls h g. placed-apart m es ls ss h g l.1)
  where
    by : (b : Bool) → nat_lt s.0 m ≡ b
        → ((es ls : List Entry) → AtMost m es → AreAt m ls → fold (λ all s. placed s all) (es ++ ls) ss ≡ fold (λ all s. placed s all) es (before m ss) ++ (ls ++ at m ss))
        → fold (λ all s. placed s all) (es ++ ls) (s ∷ ss) ≡ fold (λ all s. placed s all) es (before m (s ∷ ss)) ++ (ls ++ at m (s ∷ ss))
    by true t rest =
        let less : s.0 < m = grind (arith, nat_tests, t) in
        let other : (s.0 == m) ≡ false = grind (arith, nat_tests, less) in
        rw (t, other) (ap (λ x. fold (λ all s. placed s all) x ss) (place-in-front s es ls (later-than s.0 m ls less g))
        ∙ rest (placed s es) ls (most-placed m s es (omega (arith, less)) h) g)
    by false t rest =
        let here : s.0 ≡ m = grind (arith, nat_tests, t, l.0) in
        let same : (s.0 == m) ≡ true = grind (arith, nat_tests, here) in
        let all : AtMost s.0 (es ++ ls) = subst (λ k. AtMost k (es ++ ls)) (sym here) (most-append m es ls h (at-most m ls g)) in
        rw (t, same) (ap (λ x. fold (λ all s. placed s all) x ss) (place-last s (es ++ ls) all ∙ append_assoc es ls (s ∷ []))
        ∙ rest es (ls ++ s ∷ []) h (at-append m ls (s ∷ []) g (here, tt))
        ∙ ap (λ x. fold (λ all s. placed s all) es (before m ss) ++ x) (append_assoc ls (s ∷ []) (at m ss)))
