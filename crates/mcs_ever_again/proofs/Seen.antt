-- One row more, and signals that arrived.
use Rattle.std.proofs.Common.{◌≡◌, ℕ, ◌+◌, ◌^◌, ◌≤◌, Bool, true, false, cond, List, [], ◌∷◌, ◌++◌, Some, None, refl, sym, ap, ◌∙◌, arith}
use Rattle.std.specs.Prelude.{◌==◌, nat_le, filter}
use Rattle.std.specs.List.{cons_option}
use Rattle.std.proofs.lemmas.Bool.Decides.{nat_tests}
use Rattle.std.proofs.lemmas.List.Elements.{filter-append, filter_map-append}
use Rattle.mcs_ticks.specs.declared.row.Row.{Row}
use Rattle.mcs_ticks.specs.declared.row.What.{What}
use Rattle.mcs_ticks.specs.declared.row.What.TheVariants as row
use Rattle.mcs_mail.specs.declared.mail.Mail.{Mail}
use Rattle.mcs_system.specs.System.{System, note_part, delay_between}
use Rattle.mcs_system.specs.WellFormed.{IsWellFormed}
use Rattle.mcs_core.specs.Turn.{mail_to}
use Rattle.mcs_core.specs.Clock.{clock, world}
use Rattle.mcs_core.proofs.Systems.{delay-short}
use Rattle.mcs_ever_again.specs.UnderWay.{mail_of, mail_told, told_mails, arrives_from, can_arrive, under_way}
use Rattle.mcs_ever_again.proofs.Clock.{under_way-told}

-- the signals that arrive at a moment or later, of those that arrive at an earlier one or later
pub from-later : (before t : ℕ) → before ≤ t → (mails : List Mail) → filter (arrives_from t) (filter (arrives_from before) mails) ≡ filter (arrives_from t) mails
from-later before t l [] = refl
from-later before t l (mail ∷ mails) = by (arrives_from before mail) (arrives_from t mail) refl refl (from-later before t l mails)
  where
    never : (arrives before t : ℕ) → before ≤ t → nat_le before arrives ≡ false → nat_le t arrives ≡ true → ⊥
    never arrives before t l e f = grind (arith, nat_tests)

    by : (a b : Bool) → arrives_from before mail ≡ a → arrives_from t mail ≡ b → filter (arrives_from t) (filter (arrives_from before) mails) ≡ filter (arrives_from t) mails →
        filter (arrives_from t) (cond a (mail ∷ filter (arrives_from before) mails) (filter (arrives_from before) mails)) ≡ cond b (mail ∷ filter (arrives_from t) mails) (filter (arrives_from t) mails)
    by true true e f i = rw f (ap (λ ms. mail ∷ ms) i)
    by true false e f i = rw f i
    by false true e f i = absurd (never mail.arrives before t l e f)
    by false false e f i = i

-- the signals that arrive at a moment or later, of those that arrive at a later one or later still
pub from-earlier : (t from : ℕ) → t ≤ from → (mails : List Mail) → filter (arrives_from t) (filter (arrives_from from) mails) ≡ filter (arrives_from from) mails
from-earlier t from l [] = refl
from-earlier t from l (mail ∷ mails) = by (arrives_from from mail) (arrives_from t mail) refl refl (from-earlier t from l mails)
  where
    never : (arrives t from : ℕ) → t ≤ from → nat_le from arrives ≡ true → nat_le t arrives ≡ false → ⊥
    never arrives t from l e f = grind (arith, nat_tests)

    by : (a b : Bool) → arrives_from from mail ≡ a → arrives_from t mail ≡ b → filter (arrives_from t) (filter (arrives_from from) mails) ≡ filter (arrives_from from) mails →
        filter (arrives_from t) (cond a (mail ∷ filter (arrives_from from) mails) (filter (arrives_from from) mails)) ≡ cond a (mail ∷ filter (arrives_from from) mails) (filter (arrives_from from) mails)
    by true true e f i = rw f (ap (λ ms. mail ∷ ms) i)
    by true false e f i = absurd (never mail.arrives t from l e f)
    by false b e f i = i

-- the signal of a row of a run arrives at the row's time or later, and at most at 2^42
on-time : (system : System) → IsWellFormed system → (c moment t : ℕ) → t ≤ moment → moment ≤ 2 ^ 40 → (what : What) →
    filter can_arrive (cons_option (mail_told system c moment what) []) ≡ filter (arrives_from t) (cons_option (mail_told system c moment what) [])
on-time system well c moment t l m (row.Signal thread note badge) =
    by ((note_part system note).core == c) (mail_to system c moment note badge)
    (same moment (delay_between system c (note_part system note).core) t l m (delay-short system well c (note_part system note).core))
  where
    same : (moment delay t : ℕ) → t ≤ moment → moment ≤ 2 ^ 40 → delay ≤ 2 ^ 20 → nat_le (moment + delay) (2 ^ 42) ≡ nat_le t (moment + delay)
    same moment delay t l m s = grind (arith, nat_tests)

    by : (b : Bool) (mail : Mail) → can_arrive mail ≡ arrives_from t mail →
        filter can_arrive (cons_option (cond b None (Some mail)) []) ≡ filter (arrives_from t) (cons_option (cond b None (Some mail)) [])
    by true mail e = refl
    by false mail e = ap (λ b. cond b (mail ∷ []) []) e
on-time system well c moment t l m (row.Release thread) = refl
on-time system well c moment t l m (row.Run thread) = refl
on-time system well c moment t l m (row.Stop thread why charged until) = refl
on-time system well c moment t l m (row.Arrive note badge maker) = refl
on-time system well c moment t l m (row.Wake thread note word until) = refl
on-time system well c moment t l m (row.Hold note word) = refl
on-time system well c moment t l m (row.Got thread note word) = refl
on-time system well c moment t l m (row.Round thread number response) = refl
on-time system well c moment t l m (row.Order context) = refl
on-time system well c moment t l m (row.Interrupt source note badge) = refl

-- one row more of a run
pub seen-told : (system : System) → IsWellFormed system → (one : Row) (t : ℕ) (past : List Row) (before : List Mail) → before ≡ under_way system t past →
    t ≤ one.moment → one.moment ≤ 2 ^ 40 → before ++ filter can_arrive (told_mails system (one ∷ [])) ≡ under_way system t (past ++ one ∷ [])
seen-told system well one t past before e l m =
    both _ _ _ _ e (on-time system well one.core one.moment t l m one.what)
    ∙ sym (filter-append (arrives_from t) (told_mails system past) (told_mails system (one ∷ [])))
    ∙ ap (filter (arrives_from t)) (sym (filter_map-append (mail_of system) past (one ∷ [])))
  where
    both : (xs ys us vs : List Mail) → xs ≡ ys → us ≡ vs → xs ++ us ≡ ys ++ vs
    both xs ys us vs e f = cc

-- those that arrived are forgotten
pub forgotten-told : (system : System) (before t : ℕ) (past : List Row) (mails : List Mail) → before ≤ t → mails ≡ under_way system before past →
    filter (arrives_from t) mails ≡ under_way system t past
forgotten-told system before t past mails l e = ap (filter (arrives_from t)) e ∙ from-later before t l (told_mails system past)

pub forgotten-clock : (system : System) → IsWellFormed system → (before t : ℕ) (mails : List Mail) → before ≤ t → mails ≡ under_way system before (clock system t).rows →
    filter (arrives_from t) mails ≡ (world system t).mails
forgotten-clock system well before t mails l e =
    forgotten-told system before t (clock system t).rows mails l e ∙ sym (under_way-told system well t)
