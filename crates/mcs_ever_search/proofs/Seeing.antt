-- The state that is kept of rows, after one row more.
use Rattle.std.proofs.Common.{◌≡◌, ℕ, zero, suc, ◌<◌, ◌≤◌, List, [], ◌∷◌, ◌++◌, length, get_or, refl, sym, ap, subst, ◌∙◌, append_assoc, append-nil, arith}
use Rattle.std.specs.List.{AllByRecursion}
use Rattle.std.proofs.lemmas.List.{map-append}
use Rattle.mcs_ticks.specs.declared.row.Row.{Row}
use Rattle.mcs_ticks.specs.declared.row.What.{What}
use Rattle.mcs_system.specs.System.{System}
use Rattle.mcs_ever_again.specs.Schedule.{whats}
use Rattle.mcs_verdict.specs.Findings.{UpTo, past_of}
use Rattle.mcs_ever_search.specs.stored.Seen.{IsOfRows}
use Rattle.mcs_ever_search.specs.declared.seen.Seen.{Seen}

-- one row more is the latest
pub past_of-more : (past rows : List Row) (r : Row) → past_of past (rows ++ r ∷ []) ≡ r ∷ past_of past rows
past_of-more past [] r = refl
past_of-more past (x ∷ rows) r = past_of-more (x ∷ past) rows r

pub all-at : {X : Type 0} (P : X → Type 0) (xs : List X) (i : ℕ) (d : X) → i < length xs → AllByRecursion P xs → P (get_or xs i d)
all-at P [] i d l all = absurd (omega (arith, l))
all-at P (x ∷ xs) zero d l all = all.0
all-at P (x ∷ xs) (suc i) d l all = all-at P xs i d (omega (arith, l)) all.1

-- after rows of time t were added to the others
pub record Sees (system : System) (before : List Row) (since : List What) (t : ℕ) (rows : List Row) (seen : Seen) : Type 0 where
  pub so_far : IsOfRows system (before ++ rows) (since ++ whats rows) t seen
  pub up_to : UpTo t (past_of [] (before ++ rows))

module _ (system : System) (before : List Row) (since : List What) (t : ℕ) where
  pub sees-none : (seen : Seen) → IsOfRows system before since t seen → UpTo t (past_of [] before) → Sees system before since t [] seen
  sees-none seen is up =
      let P : List Row → Type 0 = λ rows. IsOfRows system rows (since ++ []) t seen in
      let Q : List What → Type 0 = λ told. IsOfRows system before told t seen in
      let U : List Row → Type 0 = λ rows. UpTo t (past_of [] rows) in
      record {
        so_far = subst P (sym (append-nil before)) (subst Q (sym (append-nil since)) is);
        up_to = subst U (sym (append-nil before)) up;
      }

  pub sees-more : (rows : List Row) (r : Row) (seen seen' : Seen) → Sees system before since t rows seen → r.moment ≡ t →
      (IsOfRows system (before ++ rows) (since ++ whats rows) r.moment seen → UpTo r.moment (past_of [] (before ++ rows)) →
      IsOfRows system ((before ++ rows) ++ r ∷ []) ((since ++ whats rows) ++ r.what ∷ []) r.moment seen') →
      Sees system before since t (rows ++ r ∷ []) seen'
  sees-more rows r seen seen' so at step =
      let I : ℕ → Type 0 = λ t. IsOfRows system (before ++ rows) (since ++ whats rows) t seen in
      let V : ℕ → Type 0 = λ t. UpTo t (past_of [] (before ++ rows)) in
      let J : ℕ → Type 0 = λ t. IsOfRows system ((before ++ rows) ++ r ∷ []) ((since ++ whats rows) ++ r.what ∷ []) t seen' in
      let after : IsOfRows system ((before ++ rows) ++ r ∷ []) ((since ++ whats rows) ++ r.what ∷ []) t seen' =
      subst J at (step (subst I (sym at) so.so_far) (subst V (sym at) so.up_to)) in
      let P : List Row → Type 0 = λ all. IsOfRows system all ((since ++ whats rows) ++ r.what ∷ []) t seen' in
      let Q : List What → Type 0 = λ told. IsOfRows system (before ++ (rows ++ r ∷ [])) told t seen' in
      let U : List Row → Type 0 = λ all. UpTo t (past_of [] all) in
      let W : List Row → Type 0 = λ past. UpTo t past in
      let here : r.moment ≤ t = omega (arith, at) in
      record {
        so_far = subst Q (told-more rows r) (subst P (append_assoc before rows (r ∷ [])) after);
        up_to = subst U (append_assoc before rows (r ∷ [])) (subst W (sym (past_of-more [] (before ++ rows) r)) (here, subst V (sym at) so.up_to));
      }
    where
      told-more : (rows : List Row) (r : Row) → (since ++ whats rows) ++ r.what ∷ [] ≡ since ++ whats (rows ++ r ∷ [])
      told-more rows r =
          append_assoc since (whats rows) (r.what ∷ [])
          ∙ ap (λ (more : List What). since ++ more) (sym (map-append (λ (row : Row). row.what) rows (r ∷ [])))
