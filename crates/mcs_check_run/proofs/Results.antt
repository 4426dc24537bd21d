-- Facts about a result that is Ok, and about one that is not.
use Rattle.std.proofs.Common.{◌≡◌, ℕ, Bool, true, false, List, Option, OnOk, OnErr, is_ok, refl, sym, subst}
use Rattle.std.specs.Prelude.{Result, Ok, Err}
use Rattle.mcs_cli.specs.Devices.{AppendsPrefix}
use Rattle.mcs_cli.specs.Flow.{IsWriteFault}
use Rattle.mcs_cli.specs.declared.fault.RunFault.{RunFault}
use Rattle.mcs_check_run.specs.Lines.{failed_after, refusal}

pub ok-holds : {T E P : Type 0} (r : Result T E) → is_ok r ≡ true → OnOk r P → P
ok-holds (Ok v) e p = p
ok-holds (Err f) e p = cc

pub err-holds : {T E P : Type 0} (r : Result T E) → is_ok r ≡ false → OnErr r P → P
err-holds (Ok v) e p = cc
err-holds (Err f) e p = p

-- what is written when a line was refused
pub refused-fault : (a b : Option (List ℕ)) (failed : Bool) (text : List ℕ) (f : RunFault) (m : Bool)
    → f ≡ refusal m → failed ≡ failed_after m false → AppendsPrefix a b text → IsWriteFault a b failed text f
refused-fault a b failed text f true is then prefix = subst (IsWriteFault a b failed text) (sym is) (then, prefix)
refused-fault a b failed text f false is then prefix = subst (IsWriteFault a b failed text) (sym is) (then, prefix)

-- four things that are the same as others
pub moved : {A B C D : Type 0} (P : A → B → C → D → Type 0) (a a' : A) (b b' : B) (c c' : C) (d d' : D)
    → a ≡ a' → b ≡ b' → c ≡ c' → d ≡ d' → P a b c d → P a' b' c' d'
moved P a a' b b' c c' d d' ea eb ec ed p =
    subst (λ x. P x b' c' d') ea (subst (λ y. P a y c' d') eb (subst (λ z. P a b z d') ec (subst (P a b c) ed p)))

-- what follows from something that is so after Ok
pub ok-then : {T E P Q : Type 0} (r : Result T E) → OnOk r P → (P → Q) → OnOk r Q
ok-then (Ok v) p so = so p
ok-then (Err f) p so = p

-- a first result is Ok if a second one is, which fails after a first one that does
pub was-ok : {T E U F : Type 0} (r : Result T E) (s : Result U F) → (is_ok r ≡ false → is_ok s ≡ false) → is_ok s ≡ true → is_ok r ≡ true
was-ok (Ok v) s fails ok = refl
was-ok (Err f) s fails ok = let no : is_ok s ≡ false = fails refl in cc
