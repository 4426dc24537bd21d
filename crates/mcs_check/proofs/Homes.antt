-- Each row of a schedule is one of the core of its thread, and of the notification whose word it changes.
use Rattle.std.proofs.Common.{◌≡◌, ◌≢◌, ℕ, zero, suc, ◌+◌, ◌-◌, ◌<◌, ◌≤◌, false, cond, inl, inr, List, [], ◌∷◌, ◌++◌, Option, Some, refl, sym, ap, subst, ◌∙◌, append-nil, arith}
use Rattle.std.specs.Prelude.{filter, flat_map, ◌==◌, ◌&&◌, nat_le, nat_lt}
use Rattle.std.specs.List.{AllByRecursion, range_with_len}
use Rattle.std.proofs.lemmas.Bool.{cases_eq}
use Rattle.std.proofs.lemmas.Bool.Decides.{nat_tests}
use Rattle.std.proofs.lemmas.List.Elements.{filter-append}
use Rattle.mcs_ticks.specs.declared.row.Row.{Row}
use Rattle.mcs_ticks.specs.declared.row.What.{What}
use Rattle.mcs_script.specs.declared.item.Item.{Item}
use Rattle.mcs_script.specs.declared.item.Item.TheVariants.{Wait}
use Rattle.mcs_system.specs.System.{System}
use Rattle.mcs_system.specs.WellFormed.{IsWellFormed}
use Rattle.mcs_system.proofs.Linked.{takes_time}
use Rattle.mcs_core.specs.Turn.{Turn, stamped}
use Rattle.mcs_core.specs.Clock.{arrives_at, clock, core_shown, rows_of, turn_of, world}
use Rattle.mcs_core.proofs.Clock.{rows-clock, turn_of-kept}
use Rattle.mcs_laws.proofs.Ranges.{flat_map-moments-more}
use Rattle.mcs_stretch.specs.Stretch.{rows_between}
use Rattle.mcs_verdict.specs.Account.{subject}
use Rattle.mcs_verdict.specs.Findings.{InOrder}
use Rattle.mcs_verdict.specs.Rounds.{waited_on}
use Rattle.mcs_verdict.specs.laws.ByCore.{rows_on, word_told, home_of, note_home_of, IsAtHome, ComeHome, WaitsAtHome}
use Rattle.mcs_verdict_laws.proofs.Homes.{mails-home, runs-home}
use Rattle.mcs_verdict_laws.proofs.Order.{in_order}
use Rattle.mcs_verdict_laws.proofs.Reached.{other-turn}
use Rattle.mcs_verdict_laws.proofs.Signals.{wait_home, whole-turn}
use Rattle.mcs_verdict_laws.proofs.Steps.{IsOther, AreOther}
use Rattle.mcs_verdict_laws.proofs.Words.{IsStill, enters-still, frees-still, plain-still, posts-still, still-append, waits-still}

all-append : (P : Row → Type 0) (rows more : List Row) → AllByRecursion P rows → AllByRecursion P more → AllByRecursion P (rows ++ more)
all-append P [] more here there = there
all-append P (r ∷ rows) more here there = (here.0, all-append P rows more here.1 there)

-- a row of another thread, and one of another notification
other-subject : (x : ℕ) (what : What) → IsOther x what → subject what ≡ Some x → ⊥
other-subject x what other e = grind (arith, nat_tests)

other-word : (n : ℕ) (what : What) → IsStill n what → word_told what ≡ Some n → ⊥
other-word n what still e = grind (arith, nat_tests)

not-away : (c home : ℕ) → (c ≢ home → ⊥) → home ≡ c
not-away c home here = elim (cases_eq c home) [
  | inl same ↦ sym same
  | inr away ↦ absurd (here away)
]

-- the rows of core c at moment t
module _ (system : System) (c t : ℕ) where
  abbrev OthersAreOther : List What → Type 0
  OthersAreOther rows = (x : ℕ) → c ≢ home_of system x → AreOther x rows

  abbrev OthersAreStill : List What → Type 0
  OthersAreStill rows = (n : ℕ) → c ≢ note_home_of system n → AllByRecursion (IsStill n) rows

  -- rows that tell nothing of the threads and the words of other cores
  stamped-home : (rows : List What) → OthersAreOther rows → OthersAreStill rows → AllByRecursion (IsAtHome system) (stamped c t rows)
  stamped-home [] threads notes = tt
  stamped-home (what ∷ rows) threads notes = (
    record {
      thread = λ x e. not-away c (home_of system x) (λ away. other-subject x what (threads x away).0 e);
      note = λ n e. not-away c (note_home_of system n) (λ away. other-word n what (notes n away).0 e);
    },
    stamped-home rows (λ x away. (threads x away).1) (λ n away. (notes n away).1),
  )

  module _ (well : IsWellFormed system) (known : c < system.cores) where
    turn-still : OthersAreStill (turn_of system c t).rows
    turn-still n away =
        let differs : (m : ℕ) → note_home_of system m ≡ c → (m == n) ≡ false = λ m home. grind (arith, nat_tests, home, away) in
        let made =
        whole-turn system well c t (λ notes. Unit {0}) (λ notes made. AllByRecursion (IsStill n) made.rows) (λ notes made still. tt)
        (λ notes made i plain. plain-still n made.rows plain.rows)
        (λ notes made part first second. still-append n made.rows (part made.core).rows first second)
        (λ m badge k home i. posts-still n system t m badge k (differs m home)) (λ y item m k waits home i. waits-still n system t y m k (differs m home))
        (λ y m k served home i. enters-still n system t y m k (differs m home))
        (λ y m k served home i. frees-still n system t y m k (differs m home))
        (filter (arrives_at system t c) (world system t).mails) (core_shown system (world system t) c) (mails-home system t c (world system t).mails)
        (runs-home system well 0 t c known) tt
        in
        subst (λ (made : Turn). AllByRecursion (IsStill n) made.rows) (sym (turn_of-kept system c t)) made

    turn-home : AllByRecursion (IsAtHome system) (rows_of system c t)
    turn-home = stamped-home (turn_of system c t).rows (λ x away. other-turn system well x t c known away) turn-still

-- the rows of a moment, of the cores from a on, n of them
abbrev rows_from : System → ℕ → ℕ → ℕ → List Row
rows_from system t n a = flat_map (λ c. rows_of system c t) (range_with_len a n)

module _ (system : System) (well : IsWellFormed system) where
  moment-home : (t n a : ℕ) → a + n ≤ system.cores → AllByRecursion (IsAtHome system) (rows_from system t n a)
  moment-home t zero a l = tt
  moment-home t (suc n) a l =
      all-append (IsAtHome system) (rows_of system a t) (rows_from system t n (a + 1)) (turn-home system a t well (omega arith)) (moment-home t n (a + 1) (omega arith))

  all-home : (t : ℕ) → AllByRecursion (IsAtHome system) (clock system t).rows
  all-home zero = tt
  all-home (suc t) =
      subst (AllByRecursion (IsAtHome system)) (sym (rows-clock system (takes_time system well) t))
      (all-append (IsAtHome system) (clock system t).rows (rows_from system t system.cores 0) (all-home t) (moment-home t system.cores 0 (omega arith)))

  -- they come in order
  pub in-order : (t : ℕ) → InOrder [] (clock system t).rows
  in-order zero = tt
  in-order (suc horizon) = (in_order system well horizon).0

  come : (past rows : List Row) → AllByRecursion (IsAtHome system) rows → InOrder past rows → ComeHome system past rows
  come past [] home order = tt
  come past (r ∷ rows) home order = (home.0, order.0, come (r ∷ past) rows home.1 order.1)

-- the rows of a schedule come home
pub come-home : (system : System) → IsWellFormed system → (t : ℕ) → ComeHome system [] (clock system t).rows
come-home system well t = come system well [] (clock system t).rows (all-home system well t) (in-order system well t)

-- a thread waits first for a notification of its core
first-item : (item : Option Item) (note : ℕ) → waited_on item ≡ Some note → item ≡ Some (Wait note)
first-item item note e = grind arith

pub waits-home : (system : System) → IsWellFormed system → (thread : ℕ) → WaitsAtHome system thread
waits-home system well thread note e = (wait_home system well thread 0 note (first-item _ note e)).1

-- of the rows of a moment, those of one core
stamped-on : (c b t : ℕ) (whats : List What) → rows_on c (stamped b t whats) ≡ cond (b == c) (stamped b t whats) []
stamped-on c b t [] = grind arith
stamped-on c b t (what ∷ whats) = grind (arith, stamped-on c b t whats)

moment-on : (system : System) (c t n a : ℕ) → rows_on c (rows_from system t n a) ≡ cond (nat_le a c && nat_lt c (a + n)) (rows_of system c t) []
moment-on system c t zero a = grind (arith, nat_tests)
moment-on system c t (suc n) a =
    grind (
      arith,
      nat_tests,
      filter-append (λ (r : Row). r.core == c) (rows_of system a t) (rows_from system t n (a + 1)),
      stamped-on c a t (turn_of system a t).rows,
      moment-on system c t n (a + 1),
      append-nil (rows_of system c t),
    )

-- the rows of a core in a schedule are those of its turns
pub on-core : (system : System) → IsWellFormed system → (c t : ℕ) → c < system.cores → rows_on c (clock system t).rows ≡ rows_between system c 0 t
on-core system well c zero known = refl
on-core system well c (suc t) known =
    let count : t - 0 ≡ t = omega arith in
    let next : suc t - 0 ≡ suc t = omega arith in
    let now : rows_on c (rows_from system t system.cores 0) ≡ rows_of system c t = grind (arith, nat_tests, moment-on system c t system.cores 0) in
    ap (rows_on c) (rows-clock system (takes_time system well) t)
    ∙ filter-append (λ (r : Row). r.core == c) (clock system t).rows (rows_from system t system.cores 0)
    ∙ cc (on-core system well c t known, flat_map-moments-more (rows_of system c) t)
