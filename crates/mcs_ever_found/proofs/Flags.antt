-- The flags of rows, one by one.
use Rattle.std.proofs.Common.{◌≡◌, ◌≢◌, ℕ, zero, suc, ◌+◌, ◌<◌, Bool, true, false, ◌||◌, List, [], ◌∷◌, ◌++◌, length, map, get_or, set, replicate, refl, sym, ap, ◌∙◌, Option, Some, None, arith}
use Rattle.std.specs.Prelude.{◌==◌}
use Rattle.std.specs.List.{list_any, range_with_len}
use Rattle.std.proofs.lemmas.Bool.Decides.{nat_tests}
use Rattle.std.proofs.lemmas.List.{length-set, get_or-set_same, get_or-set_other}
use Rattle.std.proofs.lemmas.List.Folds.{list_any-append}
use Rattle.std.proofs.lemmas.List.FromFn.{get_or-map-range_with_len, length-map-range_with_len, fill_by_all}
use Rattle.mcs_ticks.specs.declared.row.What.{What}
use Rattle.mcs_ticks.specs.declared.row.What.TheVariants as row
use Rattle.mcs_system.specs.System.{System}
use Rattle.mcs_verdict.specs.Account.{is_some_of}
use Rattle.mcs_ever.specs.laws.Repeats.{ends_round}
use Rattle.mcs_ever_found.specs.Recurs.{takes_word}
use Rattle.mcs_ever_found.specs.Doings.{flags_of, Doings, doings_of}
use Rattle.mcs_ever_found.specs.stored.Flags.{ended_by, taken_by, marked, unmarked, nothing_done}

or-false : (b : Bool) → (b || false) ≡ b
or-false true = refl
or-false false = refl

or-true : (b : Bool) → (b || true) ≡ true
or-true true = refl
or-true false = refl

module _ (test : ℕ → What → Bool) (n : ℕ) where
  pub flags-many : (rows : List What) → length (flags_of test n rows) ≡ n
  flags-many rows = length-map-range_with_len (λ x. list_any (test x) rows) 0 n

  pub flag-at : (rows : List What) (x : ℕ) (d : Bool) → x < n → get_or (flags_of test n rows) x d ≡ list_any (test x) rows
  flag-at rows x d l = get_or-map-range_with_len (λ x. list_any (test x) rows) 0 n x x d l (omega arith)

  -- before the first row
  pub flags-first : flags_of test n [] ≡ replicate n false
  flags-first = none n 0
    where
      none : (n a : ℕ) → map (λ x. list_any (test x) []) (range_with_len a n) ≡ replicate n false
      none zero a = refl
      none (suc n) a = ap (λ flags. false ∷ flags) (none n (a + 1))

  module _ (whom : What → Option ℕ) (whose : (x : ℕ) (what : What) → test x what ≡ is_some_of (whom what) x) (rows : List What) (what : What) where
    abbrev more : List What
    more = rows ++ what ∷ []

    flag-more : (x : ℕ) → list_any (test x) more ≡ (list_any (test x) rows || is_some_of (whom what) x)
    flag-more x =
        list_any-append (test x) rows (what ∷ [])
        ∙ ap (λ b. list_any (test x) rows || b) (or-false (test x what) ∙ whose x what)

    same : (x y : ℕ) → x ≡ y → (y == x) ≡ true
    same x y e = grind (arith, nat_tests)

    differ : (x y : ℕ) → x ≢ y → (y == x) ≡ false
    differ x y ne = grind (arith, nat_tests)

    none-more : whom what ≡ None → flags_of test n rows ≡ flags_of test n more
    none-more e =
        fill_by_all (λ x. list_any (test x) more) (flags_of test n rows) n false (flags-many rows)
        (λ x l. flag-at rows x false l ∙ sym (flag-more x ∙ ap (λ o. list_any (test x) rows || is_some_of o x) e ∙ or-false (list_any (test x) rows)))

    some-more : (y : ℕ) → whom what ≡ Some y → set (flags_of test n rows) y true ≡ flags_of test n more
    some-more y e =
        fill_by_all (λ x. list_any (test x) more) (set (flags_of test n rows) y true) n false
        (length-set (flags_of test n rows) y true ∙ flags-many rows) (λ x l. at x l (y == x) refl)
      where
        at : (x : ℕ) → x < n → (b : Bool) → (y == x) ≡ b → get_or (set (flags_of test n rows) y true) x false ≡ list_any (test x) more
        at x l true f =
            let here : y ≡ x = grind (arith, nat_tests) in
            let within : x < length (flags_of test n rows) = omega (arith, l, flags-many rows) in
            ap (λ z. get_or (set (flags_of test n rows) z true) x false) here
            ∙ get_or-set_same (flags_of test n rows) x true false within
            ∙ sym (flag-more x ∙ ap (λ o. list_any (test x) rows || is_some_of o x) e ∙ ap (λ b. list_any (test x) rows || b) f ∙ or-true (list_any (test x) rows))
        at x l false f =
            let other : x ≢ y = grind (arith, nat_tests) in
            get_or-set_other (flags_of test n rows) y x true false other
            ∙ flag-at rows x false l
            ∙ sym (flag-more x ∙ ap (λ o. list_any (test x) rows || is_some_of o x) e ∙ ap (λ b. list_any (test x) rows || b) f ∙ or-false (list_any (test x) rows))

    -- a row more
    pub flags-more : marked (whom what) (flags_of test n rows) ≡ flags_of test n more
    flags-more = by (whom what) refl
      where
        by : (o : Option ℕ) → whom what ≡ o → marked o (flags_of test n rows) ≡ flags_of test n more
        by None e = none-more e
        by (Some y) e = some-more y e

-- the thread or the notification to which a row does something
whose-ended : (x : ℕ) (what : What) → ends_round x what ≡ is_some_of (ended_by what) x
whose-ended x (row.Round y number response) = refl
whose-ended x (row.Stop y cause k until) = refl
whose-ended x (row.Release y) = refl
whose-ended x (row.Run y) = refl
whose-ended x (row.Signal y note badge) = refl
whose-ended x (row.Arrive note badge maker) = refl
whose-ended x (row.Wake y note word until) = refl
whose-ended x (row.Hold note word) = refl
whose-ended x (row.Got y note word) = refl
whose-ended x (row.Order context) = refl
whose-ended x (row.Interrupt source at_note badge) = refl

whose-taken : (x : ℕ) (what : What) → takes_word x what ≡ is_some_of (taken_by what) x
whose-taken x (row.Round y number response) = refl
whose-taken x (row.Stop y cause k until) = refl
whose-taken x (row.Release y) = refl
whose-taken x (row.Run y) = refl
whose-taken x (row.Signal y note badge) = refl
whose-taken x (row.Arrive note badge maker) = refl
whose-taken x (row.Wake y note word until) = refl
whose-taken x (row.Hold note word) = refl
whose-taken x (row.Got y note word) = refl
whose-taken x (row.Order context) = refl
whose-taken x (row.Interrupt source at_note badge) = refl

-- the flags, by these lists
abbrev pub doings : List Bool → List Bool → Doings
doings ended taken = record { ended = ended; taken = taken }

pub same_doings : (a a' b b' : List Bool) → a ≡ a' → b ≡ b' → doings a b ≡ doings a' b'
same_doings a a' b b' p q = cc

-- before the first row
pub doings-first : (system : System) → doings (replicate (length system.threads) false) (replicate (length system.notes) false) ≡ doings_of system []
doings-first system = same_doings _ _ _ _ (sym (flags-first ends_round (length system.threads))) (sym (flags-first takes_word (length system.notes)))

-- a row more
pub doings-more : (system : System) (rows : List What) (what : What) (a b : List Bool) → doings a b ≡ doings_of system rows →
    doings (marked (ended_by what) a) (marked (taken_by what) b) ≡ doings_of system (rows ++ what ∷ [])
doings-more system rows what a b is =
    same_doings _ _ _ _
    (ap (λ (doings : Doings). marked (ended_by what) doings.ended) is ∙ flags-more ends_round (length system.threads) ended_by whose-ended rows what)
    (ap (λ (doings : Doings). marked (taken_by what) doings.taken) is ∙ flags-more takes_word (length system.notes) taken_by whose-taken rows what)

-- all flags are cleared
flags-anew : (test : ℕ → What → Bool) (n : ℕ) (rows : List What) → unmarked (flags_of test n rows) ≡ flags_of test n []
flags-anew test n rows =
    ap (λ n. replicate n false) (flags-many test n rows)
    ∙ sym (flags-first test n)

pub doings-anew : (system : System) (rows : List What) (doings : Doings) → doings ≡ doings_of system rows → nothing_done doings ≡ doings_of system []
doings-anew system rows doings is =
    ap nothing_done is
    ∙ same_doings _ _ _ _ (flags-anew ends_round (length system.threads) rows) (flags-anew takes_word (length system.notes) rows)
