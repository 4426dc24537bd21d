-- Facts that the rows of a schedule keep: a thread and the word for which its script
-- waits first.
use Rattle.std.proofs.Common.{◌≡◌, ℕ, ◌<◌, true, ◌==◌, List, [], ◌∷◌, ◌++◌, length, get_or, Some, None}
use Rattle.std.specs.Prelude.{bit_or}
use Rattle.mcs_ticks.specs.declared.row.Row.{Row}
use Rattle.mcs_ticks.specs.declared.row.What.{What}
use Rattle.mcs_ticks.specs.declared.row.What.TheVariants as row
use Rattle.mcs_ticks.specs.declared.row.Why.TheVariants as why
use Rattle.mcs_system.specs.System.{System, thread_part}
use Rattle.mcs_verdict.specs.Findings.{past_of}
use Rattle.mcs_verdict.specs.Rounds.{first_wait, begun_of}
use Rattle.mcs_verdict.specs.declared.held.Held.{Held}
use Rattle.mcs_verdict.specs.Words.{no_word, held, firsts_of}
use Rattle.mcs_verdict_laws.proofs.Steps.{TakesAt, ends_round}

-- the latest row so far ended a round of the thread, at this moment
abbrev pub JustEnded : ℕ → ℕ → List Row → Type 0
JustEnded x moment [] = ⊥
JustEnded x moment (r ∷ past) = (ends_round x r.what ≡ true) × (r.moment ≡ moment)

-- the notification's word, by the rows so far
abbrev pub first_held : System → ℕ → Held
first_held system note = get_or (firsts_of system) note no_word

abbrev pub held_in : System → ℕ → List Row → Held
held_in system note past = held (first_held system note) note past

module _ (system : System) (x : ℕ) where
  -- A round that ends was under way. A thread is done right after a round. A signal adds to the
  -- word. A thread whose round is yet to begin takes all of the word for which it waits first, or
  -- waits for it while it is 0.
  abbrev pub Fits : List Row → ℕ → What → Type 0
  Fits past moment (row.Round y number response) = (y == x) ≡ true → (begun : ℕ) × (begun_of system x past ≡ Some begun)
  Fits past moment (row.Stop y why.Done charged until) = (y == x) ≡ true → JustEnded x moment past
  Fits past moment (row.Hold note word) =
      first_wait (thread_part system x) ≡ Some note → (badge : ℕ) × (word ≡ bit_or (held_in system note past).word badge)
  Fits past moment (row.Wake y note word until) =
      (y == x) ≡ true → begun_of system x past ≡ None → (first_wait (thread_part system x) ≡ Some note) × ((held_in system note past).word ≡ 0)
  Fits past moment (row.Got y note word) =
      (y == x) ≡ true → begun_of system x past ≡ None
      → (first_wait (thread_part system x) ≡ Some note) × (word ≡ (held_in system note past).word)
  Fits past moment _ = Unit {0}

  -- each row, by those before it
  abbrev pub AreFit : List Row → List Row → Type 0
  AreFit past [] = Unit {0}
  AreFit past (r ∷ rows) = Fits past r.moment r.what × AreFit (r ∷ past) rows

  -- the later ones of them
  pub fit-later : (past rows more : List Row) → AreFit past (rows ++ more) → AreFit (past_of past rows) more
  fit-later past [] more all = all
  fit-later past (r ∷ rows) more all = fit-later (r ∷ past) rows more all.1

  -- The thread takes a word at a wait, and if that is its first item no round of it is under way. A
  -- round that ends is one of a thread that the system has.
  abbrev pub IsPlaced : List Row → What → Type 0
  IsPlaced past (row.Got y note word) = (y == x) ≡ true → TakesAt (thread_part system x).script note (begun_of system x past)
  IsPlaced past (row.Round y number response) = (y == x) ≡ true → x < length system.threads
  IsPlaced past _ = Unit {0}

  abbrev pub ArePlaced : List Row → List Row → Type 0
  ArePlaced past [] = Unit {0}
  ArePlaced past (r ∷ rows) = IsPlaced past r.what × ArePlaced (r ∷ past) rows

  pub placed-later : (past rows more : List Row) → ArePlaced past (rows ++ more) → ArePlaced (past_of past rows) more
  placed-later past [] more all = all
  placed-later past (r ∷ rows) more all = placed-later (r ∷ past) rows more all.1
