-- A row changes each account alone.
use Rattle.std.proofs.Common.{◌≡◌, ℕ, suc, zero, ◌+◌, ◌<◌, Option, if◌then◌else◌, ◌==◌, List, [], ◌∷◌, get_or, set, fold, refl, sym, ap, ◌∙◌, arith}
use Rattle.std.proofs.lemmas.Bool.Decides.{nat_tests}
use Rattle.mcs_ticks.specs.declared.row.Row.{Row}
use Rattle.mcs_ticks.specs.declared.row.What.{What}
use Rattle.mcs_ticks.specs.declared.row.What.TheVariants as row
use Rattle.mcs_ticks.specs.declared.row.Why.{Why}
use Rattle.mcs_report.specs.declared.account.Account.{Account}
use Rattle.mcs_report.specs.stored.CoreTally.{reopened}
use Rattle.mcs_report.specs.Tally.{Tally, no_account, begun, stopped, responded, told, added}

-- one row for the account with this number
abbrev pub alone : ℕ → ℕ → ℕ → What → Account → Account
alone horizon number moment (row.Run x) account = if x == number then begun moment account else account
alone horizon number moment (row.Stop x cause charged until) account = if x == number then stopped horizon moment cause until account else account
alone horizon number moment (row.Round x round response) account = if x == number then responded response account else account
alone horizon number moment _ account = account

abbrev pub told_alone : ℕ → ℕ → Account → Row → Account
told_alone horizon number account r = alone horizon number r.moment r.what account

-- a row changes neither core nor deadline of an account
pub reopened-stopped : (h m : ℕ) (cause : Why) (until : Option ℕ) (a : Account) → reopened (stopped h m cause until a) ≡ reopened a
reopened-stopped h m cause until a = grind arith

pub reopened-alone : (h x m : ℕ) (what : What) (a : Account) → reopened (alone h x m what a) ≡ reopened a
reopened-alone h x m what a = grind arith

-- each element with its number
abbrev pub each_from : {A B : Type 0} → ℕ → (ℕ → A → B) → List A → List B
each_from n f [] = []
each_from n f (x ∷ xs) = f n x ∷ each_from (suc n) f xs

each_from_same : {A : Type 0} (n : ℕ) (xs : List A) → each_from n (λ i x. x) xs ≡ xs
each_from_same n [] = refl
each_from_same n (x ∷ xs) = ap (λ ys. x ∷ ys) (each_from_same (suc n) xs)

each_from_twice : {A B C : Type 0} (n : ℕ) (f : ℕ → A → B) (g : ℕ → B → C) (xs : List A)
    → each_from n g (each_from n f xs) ≡ each_from n (λ i x. g i (f i x)) xs
each_from_twice n f g [] = refl
each_from_twice n f g (x ∷ xs) = ap (λ ys. g n (f n x) ∷ ys) (each_from_twice (suc n) f g xs)

each_from_before : {A : Type 0} (f : A → A) (t n : ℕ) (xs : List A) → t < n → each_from n (λ i x. if t == i then f x else x) xs ≡ xs
each_from_before f t n [] h = refl
each_from_before f t n (x ∷ xs) h = grind (arith, nat_tests, each_from_before f t (suc n) xs (omega arith))

set_each : {A : Type 0} (f : A → A) (d : A) (t n y : ℕ) (xs : List A) → t ≡ n + y
    → set xs y (f (get_or xs y d)) ≡ each_from n (λ i x. if t == i then f x else x) xs
set_each f d t n y [] e = refl
set_each f d t n zero (x ∷ xs) e = grind (arith, nat_tests, each_from_before f t (suc n) xs (omega arith))
set_each f d t n (suc y) (x ∷ xs) e = grind (arith, nat_tests, set_each f d t (suc n) y xs (omega arith))

told_each : (horizon moment : ℕ) (what : What) (accounts : List Account)
    → told horizon moment what accounts ≡ each_from 0 (λ i account. alone horizon i moment what account) accounts
told_each horizon moment (row.Run x) accounts = set_each (begun moment) no_account x 0 x accounts (omega arith)
told_each horizon moment (row.Stop x cause charged until) accounts = set_each (stopped horizon moment cause until) no_account x 0 x accounts (omega arith)
told_each horizon moment (row.Round x number response) accounts = set_each (responded response) no_account x 0 x accounts (omega arith)
told_each horizon moment what accounts = sym (each_from_same 0 accounts)

-- all rows
pub accounts-fold : (rows : List Row) (tally : Tally)
    → (fold added tally rows).accounts ≡ each_from 0 (λ i account. fold (told_alone tally.horizon i) account rows) tally.accounts
accounts-fold [] tally = sym (each_from_same 0 tally.accounts)
accounts-fold (r ∷ rows) tally =
    accounts-fold rows (added tally r)
    ∙ ap (each_from 0 (λ i account. fold (told_alone tally.horizon i) account rows)) (told_each tally.horizon r.moment r.what tally.accounts)
    ∙ each_from_twice 0 (λ i account. alone tally.horizon i r.moment r.what account) (λ i account. fold (told_alone tally.horizon i) account rows) tally.accounts

pub horizon-fold : (rows : List Row) (tally : Tally) → (fold added tally rows).horizon ≡ tally.horizon
horizon-fold [] tally = refl
horizon-fold (r ∷ rows) tally = horizon-fold rows (added tally r)

pub cores-fold : (rows : List Row) (tally : Tally) → (fold added tally rows).cores ≡ tally.cores
cores-fold [] tally = refl
cores-fold (r ∷ rows) tally = cores-fold rows (added tally r)
